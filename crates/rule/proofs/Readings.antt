-- One record more of a table that is read.
use Rattle.std.proofs.Common.{◌≡◌, ℕ, ◌+◌, ◌<◌, ◌≤◌, Bool, true, false, cond, List, [], ◌∷◌, ◌++◌, length, get_or, take, drop, set, Ok, Err, Result, sym, refl, ap, ◌∙◌, subst, inl, inr, arith}
use Rattle.std.proofs.lemmas.List.{append_assoc, append-nil, length_push, get_or_append_left, get_or-append-add, length-take-le, take_more_set}
use Rattle.std.proofs.lemmas.Bool.{cases_lt}
use Rattle.std.proofs.lemmas.Bool.Decides.{nat_tests}
use Rattle.rule.specs.declared.record.Record.{Record}
use Rattle.rule.specs.declared.record.Record.TheVariants.{True}
use Rattle.rule.specs.declared.refusal.RuleRefusal.{RuleRefusal}
use Rattle.rule.specs.Records.{allowed, checked, record_of, Sound}
use Rattle.rule.specs.Components.{waits, components, any_ahead}
use Rattle.rule.specs.Reading.{Read, read_from, read_table, length_allowed, unless, preceded, asked, watch_questions, instant_questions, TablesSound}

-- a record that passes its questions can stand in a rule
pub checked_allowed : (j kind left right low high : ℕ) → Ok tt ≡ checked j kind left right low high → allowed j (record_of kind left right low high) ≡ true
checked_allowed j kind left right low high e = grind (arith, nat_tests)

-- what the first five of some bytes say, and what is asked of them as record j
abbrev record_at : List ℕ → Record
record_at xs = record_of (get_or xs 0 0) (get_or xs 1 0) (get_or xs 2 0) (get_or xs 3 0) (get_or xs 4 0)

abbrev checked_at : ℕ → List ℕ → Result (Unit {0}) RuleRefusal
checked_at j xs = checked j (get_or xs 0 0) (get_or xs 1 0) (get_or xs 2 0) (get_or xs 3 0) (get_or xs 4 0)

pub read_more : (j : ℕ) (xs : List ℕ) → 5 ≤ length xs → read_from j xs ≡ unless (checked_at j xs) (preceded (record_at xs ∷ []) (read_from (j + 1) (drop 5 xs)))
read_more j [] h = absurd (omega arith)
read_more j (a ∷ []) h = absurd (omega arith)
read_more j (a ∷ b ∷ []) h = absurd (omega arith)
read_more j (a ∷ b ∷ c ∷ []) h = absurd (omega arith)
read_more j (a ∷ b ∷ c ∷ d ∷ []) h = absurd (omega arith)
read_more j (a ∷ b ∷ c ∷ d ∷ e ∷ rest) h = refl

preceded_twice : (rs qs : List Record) (x : Read) → preceded rs (preceded qs x) ≡ preceded (rs ++ qs) x
preceded_twice rs qs (Ok ps) = ap Ok (sym (append_assoc rs qs ps))
preceded_twice rs qs (Err e) = refl

-- a record that passed goes behind those before it
pub goes_on : (rs : List Record) (j : ℕ) (xs : List ℕ) → 5 ≤ length xs → Ok tt ≡ checked_at j xs →
    preceded rs (read_from j xs) ≡ preceded (rs ++ record_at xs ∷ []) (read_from (j + 1) (drop 5 xs))
goes_on rs j xs h e =
    let r = record_at xs in
    let after = read_from (j + 1) (drop 5 xs) in
    ap (preceded rs) (read_more j xs h ∙ ap (λ (x : Result (Unit {0}) RuleRefusal). unless x (preceded (r ∷ []) after)) (sym e))
    ∙ preceded_twice rs (r ∷ []) after

-- so does one that is written into the table
pub goes_on_in : (t : List Record) (n : ℕ) (xs : List ℕ) → n < length t → 5 ≤ length xs → Ok tt ≡ checked_at n xs →
    preceded (take n t) (read_from n xs) ≡ preceded (take (n + 1) (set t n (record_at xs))) (read_from (n + 1) (drop 5 xs))
goes_on_in t n xs few h e =
    goes_on (take n t) n xs h e
    ∙ ap (λ qs. preceded qs (read_from (n + 1) (drop 5 xs))) (sym (take_more_set t n (record_at xs) few))

-- a table of sound records with one more
pub sound_push : (rs : List Record) (r : Record) → Sound rs → allowed (length rs) r ≡ true → Sound (rs ++ r ∷ [])
sound_push rs r s a j h =
    elim (cases_lt j (length rs)) [
      | inl lt ↦ ap (allowed j) (get_or_append_left rs (r ∷ []) True j lt) ∙ s j lt
      | inr ge ↦
          let n : j ≡ length rs + 0 = omega (arith, length_push rs r) in
          let z : length rs + 0 ≡ length rs = omega arith in
          ap (λ x. allowed x (get_or (rs ++ r ∷ []) x True)) n
          ∙ ap (allowed (length rs + 0)) (get_or-append-add rs (r ∷ []) 0 True)
          ∙ ap (λ x. allowed x r) z ∙ a
    ]

-- so is a table into which a record that passed is written
pub sound_more : (t : List Record) (n : ℕ) (xs : List ℕ) → n < length t → Ok tt ≡ checked_at n xs → Sound (take n t) → Sound (take (n + 1) (set t n (record_at xs)))
sound_more t n xs few e s =
    let r = record_at xs in
    let size : length (take n t) ≡ n = length-take-le n t (omega arith) in
    let fine = checked_allowed n (get_or xs 0 0) (get_or xs 1 0) (get_or xs 2 0) (get_or xs 3 0) (get_or xs 4 0) e in
    subst Sound (sym (take_more_set t n r few)) (sound_push (take n t) r s (subst (λ k. allowed k r ≡ true) (sym size) fine))

-- records that pass the further questions are what was asked about
pub asked_passed : (questions : List Record → Result (Unit {0}) RuleRefusal) (rs : List Record) (x : Read) → Ok rs ≡ x → Ok tt ≡ questions rs → Ok rs ≡ asked questions x
asked_passed questions rs x e p = ap (λ (r : Result (Unit {0}) RuleRefusal). unless r (Ok rs)) p ∙ ap (asked questions) e

pub watch_limits : (slots : ℕ) (rs : List Record) → Ok tt ≡ watch_questions slots rs → (waits rs ≤ 10) × (components rs ≤ 64) × (1 ≤ slots) × (slots ≤ 128)
watch_limits slots rs e = grind (arith, nat_tests)

pub instant_limits : (rs : List Record) → Ok tt ≡ instant_questions rs → (any_ahead rs ≡ false) × (components rs ≤ 64)
instant_limits rs e = grind (arith, nat_tests)

-- what is read of a table is sound
unless_passed : (a : Result (Unit {0}) RuleRefusal) (x : Read) (qs : List Record) → unless a x ≡ Ok qs → (Ok tt ≡ a) × (x ≡ Ok qs)
unless_passed (Ok u) x qs e = (refl, e)
unless_passed (Err f) x qs e = cc

preceded_passed : (r : Record) (x : Read) (qs : List Record) → preceded (r ∷ []) x ≡ Ok qs → (ps : List Record) × (x ≡ Ok ps) × (qs ≡ r ∷ ps)
preceded_passed r (Ok ps) qs e = (ps, refl, cc)
preceded_passed r (Err f) qs e = cc

sound_on : (rs : List Record) → Sound rs → (j : ℕ) → j ≡ length rs → (bytes : List ℕ) (qs : List Record) → read_from j bytes ≡ Ok qs → Sound (rs ++ qs)
sound_on rs s j n [] qs e = let none : [] ≡ qs = cc in subst (λ x. Sound (rs ++ x)) none (subst Sound (sym (append-nil rs)) s)
sound_on rs s j n (a ∷ []) qs e = cc
sound_on rs s j n (a ∷ b ∷ []) qs e = cc
sound_on rs s j n (a ∷ b ∷ c ∷ []) qs e = cc
sound_on rs s j n (a ∷ b ∷ c ∷ d ∷ []) qs e = cc
sound_on rs s j n (kind ∷ left ∷ right ∷ low ∷ high ∷ rest) qs e =
    let r = record_of kind left right low high in
    let a = unless_passed (checked j kind left right low high) (preceded (r ∷ []) (read_from (j + 1) rest)) qs e in
    let p = preceded_passed r (read_from (j + 1) rest) qs a.1 in
    let fine = subst (λ k. allowed k r ≡ true) n (checked_allowed j kind left right low high a.0) in
    let more = sound_on (rs ++ r ∷ []) (sound_push rs r s fine) (j + 1) (omega (arith, length_push rs r)) rest p.0 p.1 in
    subst (λ x. Sound (rs ++ x)) (sym p.2) (subst Sound (append_assoc rs (r ∷ []) p.0) more)

some_read : (bytes : List ℕ) (qs : List Record) → 0 < length bytes → read_from 0 bytes ≡ Ok qs → 0 < length qs
some_read [] qs h e = absurd (omega arith)
some_read (a ∷ []) qs h e = cc
some_read (a ∷ b ∷ []) qs h e = cc
some_read (a ∷ b ∷ c ∷ []) qs h e = cc
some_read (a ∷ b ∷ c ∷ d ∷ []) qs h e = cc
some_read (kind ∷ left ∷ right ∷ low ∷ high ∷ rest) qs h e =
    let r = record_of kind left right low high in
    let a = unless_passed (checked 0 kind left right low high) (preceded (r ∷ []) (read_from 1 rest)) qs e in
    let p = preceded_passed r (read_from 1 rest) qs a.1 in
    let long = ap length p.2 in omega arith

cond_passed : (b : Bool) (x : Read) (f : RuleRefusal) (qs : List Record) → cond b x (Err f) ≡ Ok qs → (b ≡ true) × (x ≡ Ok qs)
cond_passed true x f qs e = (refl, e)
cond_passed false x f qs e = cc

length_some : (n : ℕ) → length_allowed n ≡ true → 0 < n
length_some n e = grind (arith, nat_tests)

asked_good : (questions : List Record → Result (Unit {0}) RuleRefusal) (x : Read) (rs : List Record) → asked questions x ≡ Ok rs → (x ≡ Ok rs) × (Ok tt ≡ questions rs)
asked_good questions (Err f) rs e = cc
asked_good questions (Ok qs) rs e =
    let a = unless_passed (questions qs) (Ok qs) rs e in
    let same : qs ≡ rs = cc in (a.1, subst (λ z. Ok tt ≡ questions z) same a.0)

pub tables_sound : TablesSound
tables_sound slots bytes rs e =
    let a = asked_good (watch_questions slots) (read_table bytes) rs e in
    let p = cond_passed (length_allowed (length bytes)) (read_from 0 bytes) _ rs a.0 in
    let long = length_some (length bytes) p.0 in
    record {
      sound = sound_on [] (λ j l. absurd (omega arith)) 0 refl bytes rs p.1;
      some = some_read bytes rs long p.1;
      few = (watch_limits slots rs a.1).0;
    }
