-- The names of accepted points, and the lines of verdicts.
use Rattle.std.specs.Prelude.{◌≡◌, ℕ, ◌<◌, Bool, cond, List, [], ◌∷◌, map, length, count_by, ◌==◌, nat_eq}
use Rattle.rule.specs.declared.record.Record.{Record}
use Rattle.logic.specs.declared.verdict.Point.{Point}
use Rattle.logic.specs.declared.verdict.Line.{Line}
use Rattle.logic.specs.declared.verdict.Line.TheVariants.{True, False, Joined}
use Rattle.logic.specs.Logic.{Accepted}
use Rattle.logic.specs.Runs.{Verdict, true_at, false_at, joined, Run}

-- how many points have the stamp t
abbrev pub stamped : {T : Type 0} → ℕ → List (Accepted T) → ℕ
stamped t ps = count_by (λ q. nat_eq q.stamp t) ps

-- the name of point i: its stamp, and how many earlier points have that stamp
abbrev pub name_of : {T : Type 0} → List (Accepted T) → ℕ → Point
name_of [] i = record { stamp = 0; offset = 0 }
name_of (p ∷ ps) i = cond (i == length ps) (record { stamp = p.stamp; offset = stamped p.stamp ps }) (name_of ps i)

-- the line of a verdict
abbrev pub line_of : {T : Type 0} → List (Accepted T) → Verdict → Line
line_of ps (true_at i) = True (name_of ps i)
line_of ps (false_at i) = False (name_of ps i)
line_of ps (joined i j) = Joined (name_of ps i) (name_of ps j)

-- different points have different names
abbrev pub NamesApart : Type 0
NamesApart = (ps : List (Accepted Bool)) (i j : ℕ) → i < length ps → j < length ps → name_of ps i ≡ name_of ps j → i ≡ j

-- the lines of a run stay as they are when one more point is accepted
abbrev pub LinesStay : Type 0
LinesStay = (rs : List Record) (p : Accepted Bool) (ps : List (Accepted Bool)) (ls : List Verdict) (held : List ℕ) → Run rs ps ls held →
    map (line_of (p ∷ ps)) ls ≡ map (line_of ps) ls
