-- From formulas to tables; settings exist, up to double negation; what constant and equal conditions mean.
use Rattle.std.proofs.Common.{◌≡◌, ℕ, zero, suc, ◌+◌, ◌-◌, ◌<◌, ◌≤◌, Bool, true, false, eqb, List, ◌∷◌, length, sym, ◌∙◌, subst, arith}
use Rattle.std.proofs.lemmas.Bool.{cond_both, eqb-true, eqb-false, false≢true}
use Rattle.rule.specs.declared.record.Record.{Record}
use Rattle.rule.specs.declared.record.Record.TheVariants.{True, Letter, Not as NotOf, And, Or, Previous, Since, Next, Until}
use Rattle.rule.specs.Components.{own_waits, first_wait}
use Rattle.logic.specs.Logic.{Stream, Not, Sat, Tells}
use Rattle.logic.specs.Tables.{row, formulas, formula, rule}
use Rattle.logic.specs.Conditions.{Matches}
use Rattle.logic.specs.Waits.{settings, setting, owner, Own, Fits, open_at, SoundTable}
use Rattle.logic.specs.Verdicts.{SoundTrue, SoundFalse, SoundJoined}
use Rattle.logic.proofs.Telling.{tells_yes, tells_no, tells_only}
use Rattle.logic.proofs.Places.{owner_at, waits_rise, wait_more}
use Rattle.logic.proofs.Formulas.{Entry, build, entry, newly, entry_cases, entry_last, entry_stays}
use Rattle.logic.proofs.TruthTables.{put}
use Rattle.logic.proofs.Newest.{sound}
use Rattle.logic.proofs.Stability.{stable}

-- finitely many statements have a setting that tells of each, up to double negation
put_tells : (P : ℕ → Type 0) (v : ℕ → Bool) (n : ℕ) (b : Bool) → ((w : ℕ) → w < n → Tells (P w) (v w)) → Tells (P n) b →
    (w : ℕ) → w < suc n → Tells (P w) (put v n b w)
unfolding put
put_tells P v n b old new w lt =
    cond_both (eqb w n) b (v w) (λ x. Tells (P w) x)
    (λ e. let q = eqb-true w n e in rw q new)
    (λ e. let ne : w ≡ n → ⊥ = eqb-false w n e in old w (omega arith))

telling : (P : ℕ → Type 0) (n : ℕ) → Not (Not ((v : ℕ → Bool) × ((w : ℕ) → w < n → Tells (P w) (v w))))
telling P zero = λ k. k ((λ w. false), (λ w lt. absurd (let c : ⊥ = omega arith in c)))
telling P (suc n) = λ k. telling P n (λ h.
    let no : Not (P n) = λ a. k (put h.0 n true, put_tells P h.0 n true h.1 (tells_yes a)) in
    k (put h.0 n false, put_tells P h.0 n false h.1 (tells_no no)))

-- so have the waits of a table
some_fits : (ρ : Stream Bool) (n : ℕ) (rs : List Record) → Not (Not ((v : ℕ → Bool) × Fits ρ n rs v))
some_fits ρ n rs k =
    let P : ℕ → Type 0 = λ w. Own ρ n (formula rs (owner rs w)) (w - first_wait rs (owner rs w)) in
    telling P (first_wait rs (length rs)) (λ h. k (
      h.0,
      λ j lt s in-own.
          let w = first_wait rs j + s in
          let o = owner_at rs j s lt in-own in
          let e : first_wait rs j + s - first_wait rs j ≡ s = omega arith in
          let rise = waits_rise rs j (length rs) lt in let more = wait_more rs j in
          let t = h.1 w (omega arith) in
          let t' = subst (λ i. Tells (Own ρ n (formula rs i) (w - first_wait rs i)) (h.0 w)) o t in
          subst (λ i. Tells (Own ρ n (formula rs j) i) (h.0 w)) e t',
    ))

-- a setting that tells of the waits by number matches at each record's formula
build_matches : (ρ : Stream Bool) (n : ℕ) (r : Record) (base : ℕ) (e : ℕ → Entry) (v : ℕ → Bool) →
    ((a : ℕ) → Matches ρ n (e a).formula ((e a).setting v)) →
    ((s : ℕ) → s < own_waits r → Tells (Own ρ n (build r base e).formula s) (v (base + s))) →
    Matches ρ n (build r base e).formula ((build r base e).setting v)
build_matches ρ n True base e v m own = tt
build_matches ρ n (Letter l) base e v m own = tt
build_matches ρ n (NotOf a) base e v m own = m a
build_matches ρ n (And a b) base e v m own = (m a, m b)
build_matches ρ n (Or a b) base e v m own = (m a, m b)
build_matches ρ n (Previous I a) base e v m own = m a
build_matches ρ n (Since I a b) base e v m own = (m a, m b)
build_matches ρ n (Next I a) base e v m own =
    (let z : base + 0 ≡ base = omega arith in subst (λ w. Tells (Own ρ n (build (Next I a) base e).formula 0) (v w)) z (own 0 (omega arith)), m a)
build_matches ρ n (Until I a b) base e v m own = ((λ s h. tells_only I (λ s. v (base + s)) s h (own s (omega arith))), m a, m b)

fits_matches : (ρ : Stream Bool) (n : ℕ) (rs : List Record) (v : ℕ → Bool) → Fits ρ n rs v →
    (k : ℕ) → k ≤ length rs → (j : ℕ) → Matches ρ n (formulas rs k j) (settings rs k j v)
unfolding formulas settings
fits_matches ρ n rs v fits zero le j = tt
fits_matches ρ n rs v fits (suc k) le j =
    let old = fits_matches ρ n rs v fits k (omega arith) in
    let q : entry rs (length rs) k ≡ newly rs k = entry_stays rs (suc k) (length rs) k le (omega arith) ∙ entry_last rs k in
    entry_cases rs (λ e. Matches ρ n e.formula (e.setting v)) k j
    (build_matches ρ n (row rs k) (first_wait rs k) (entry rs k) v old
    (λ s lt. subst (λ x. Tells (Own ρ n x.formula s) (v (first_wait rs k + s))) q (fits k le s lt)))
    (old j)

pub sound_table : SoundTable
sound_table rs ρ p ps i v b fits le =
    sound ρ p ps i (rule rs) (setting rs (length rs - 1) v) b (fits_matches ρ (length ps) rs v fits (length rs) (omega arith) (length rs - 1)) le

pub sound_true : SoundTrue
sound_true rs p ps i le all ρ b =
    stable ρ (rule rs) i (λ no. some_fits ρ (length ps) rs (λ h. no ((sound_table rs ρ p ps i h.0 b h.1 le).1 (all h.0))))

pub sound_false : SoundFalse
sound_false rs p ps i le all ρ b sat =
    some_fits ρ (length ps) rs (λ h. false≢true (sym (all h.0) ∙ (sound_table rs ρ p ps i h.0 b h.1 le).0 sat))

pub sound_joined : SoundJoined
sound_joined rs p ps i j li lj same ρ b =
    (one i j li lj same, one j i lj li (λ v. sym (same v)))
  where
    one : (i j : ℕ) → i ≤ length ps → j ≤ length ps → ((v : ℕ → Bool) → open_at rs (p ∷ ps) i v ≡ open_at rs (p ∷ ps) j v) → Sat ρ (rule rs) i → Sat ρ (rule rs) j
    one i j li lj same sat = stable ρ (rule rs) j (λ no. some_fits ρ (length ps) rs (λ h.
        no ((sound_table rs ρ p ps j h.0 b h.1 lj).1 (sym (same h.0) ∙ (sound_table rs ρ p ps i h.0 b h.1 li).0 sat))))
