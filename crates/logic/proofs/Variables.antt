-- A flat rule's condition looks, for each future operator, at one wait alone: the one that the point's age picks.
use Rattle.std.proofs.Common.{◌≡◌, ℕ, zero, suc, ◌+◌, ◌-◌, ◌<◌, ◌≤◌, min, Bool, true, false, cond, not, ◌&&◌, ◌||◌, leb, List, [], ◌∷◌, length, take, Some, None, sum_by, Option, sym, refl, ap, ◌∙◌, subst, ap₂, arith}
use Rattle.std.proofs.lemmas.List.{take_all}
use Rattle.std.proofs.lemmas.Bool.{leb-true}
use Rattle.truth.specs.Plain.{plainly}
use Rattle.rule.specs.declared.interval.Interval.{Interval}
use Rattle.rule.specs.declared.record.Record.{Record}
use Rattle.rule.specs.declared.record.Record.TheVariants.{True, Letter, Not, And, Or, Previous, Since, Next, Until}
use Rattle.rule.specs.Intervals.{within, moved, moved_for, last_shift, last_for}
use Rattle.rule.specs.Components.{own_waits, first_wait, looks_ahead}
use Rattle.logic.specs.Logic.{Formula, Past, Accepted}
use Rattle.logic.specs.Logic.{truth, letter, negation, conjunction, disjunction, previous, since, next, until}
use Rattle.logic.specs.Values.{at_shift_or, stepped}
use Rattle.logic.specs.Tables.{row, formulas, rule}
use Rattle.logic.specs.Conditions.{Setting, condition, carried, newest, carry}
use Rattle.logic.specs.Waits.{settings, setting, open_at, place, owner}
use Rattle.logic.specs.Verdicts.{Rising}
use Rattle.logic.specs.Reach.{stamp_of}
use Rattle.logic.specs.Flat.{Flat, futures, last_wait, longest}
use Rattle.logic.proofs.Places.{numbers_more, counts_rise, place_at, owner_at}
use Rattle.logic.proofs.Formulas.{Entry, build, entry, entry_cases}
use Rattle.logic.proofs.Ahead.{ahead, latest, Climbs, climbs_latest, ahead_not, ahead_and, ahead_or, via, split}

-- without a future operator there is one setting
pub one : (f : Formula) → Past f → (v u : Setting f) → v ≡ u
one truth p v u = refl
one (letter k) p v u = refl
one (negation f) p v u = one f p v u
one (conjunction f g) p v u = let a = one f p.0 v.0 u.0 in let b = one g p.1 v.1 u.1 in λ i. (a i, b i)
one (disjunction f g) p v u = let a = one f p.0 v.0 u.0 in let b = one g p.1 v.1 u.1 in λ i. (a i, b i)
one (previous I f) p v u = one f p v u
one (since I f g) p v u = let a = one f p.0 v.0 u.0 in let b = one g p.1 v.1 u.1 in λ i. (a i, b i)
one (next I f) p v u = absurd p
one (until I f g) p v u = absurd p

-- the settings agree on the waits that the age d picks
abbrev Agree : ℕ → (f : Formula) → Setting f → Setting f → Type 0
Agree d truth v u = Unit {0}
Agree d (letter k) v u = Unit {0}
Agree d (negation f) v u = Agree d f v u
Agree d (conjunction f g) v u = Agree d f v.0 u.0 × Agree d g v.1 u.1
Agree d (disjunction f g) v u = Agree d f v.0 u.0 × Agree d g v.1 u.1
Agree d (previous I f) v u = Unit {0}
Agree d (since I f g) v u = Unit {0}
Agree d (next I f) v u = v.0 ≡ u.0
Agree d (until I f g) v u = v.0 (min d (last_shift I)) ≡ u.0 (min d (last_shift I))

-- moving on does not change which wait the age picks
pick_moved : (h : Option ℕ) (l s g d e : ℕ) (a b : ℕ → Bool) → d ≡ g + e → a (min (s + d) (last_for h l)) ≡ b (min (s + d) (last_for h l)) →
    (c₁ c₂ : ℕ → Bool) → ((m : ℕ) → m ≤ last_for h l → a (min (m + e) (last_for h l)) ≡ b (min (m + e) (last_for h l)) → c₁ m ≡ c₂ m) →
    at_shift_or c₁ false (moved_for h l (s + g)) ≡ at_shift_or c₂ false (moved_for h l (s + g))
pick_moved None l s g d e a b q same c₁ c₂ f =
    f (min (s + g) l) (omega arith) (let z : min (s + d) l ≡ min (min (s + g) l + e) l = omega arith in subst (λ k. a k ≡ b k) z same)
pick_moved (Some h) l s g d e a b q same c₁ c₂ f = go (leb (s + g) h) refl
  where
    go : (t : Bool) → leb (s + g) h ≡ t → at_shift_or c₁ false (cond t (Some (s + g)) None) ≡ at_shift_or c₂ false (cond t (Some (s + g)) None)
    go true t = let le = leb-true (s + g) h t in
        f (s + g) le (let z : min (s + d) h ≡ min (s + g + e) h = omega arith in subst (λ k. a k ≡ b k) z same)
    go false t = refl

until_local : (I : Interval) (f g : Formula) → Past f → Past g → (s : ℕ) → s ≤ last_shift I → (ls : List (Accepted Bool)) (q : Accepted Bool) (qs : List (Accepted Bool)) → Climbs q ls →
    (v u : Setting (until I f g)) → v.0 (min (s + (latest ls q - q.stamp)) (last_shift I)) ≡ u.0 (min (s + (latest ls q - q.stamp)) (last_shift I)) →
    condition (q ∷ qs) (until I f g) s (ahead ls (q ∷ qs) (until I f g) v) ≡ condition (q ∷ qs) (until I f g) s (ahead ls (q ∷ qs) (until I f g) u)
unfolding condition newest ahead carried carry
until_local I f g pf pg s has [] q qs c v u h =
    let a = one f pf v.1 u.1 in let b = one g pg v.2 u.2 in
    let z : min (s + (q.stamp - q.stamp)) (last_shift I) ≡ s = omega arith in
    let w : v.0 s ≡ u.0 s = subst (λ k. v.0 k ≡ u.0 k) z h in
    λ i. stepped plainly I s (condition (q ∷ qs) f 0 (a i)) (condition (q ∷ qs) g 0 (b i)) (w i)
until_local I f g pf pg s has (p ∷ ls) q qs c v u h =
    let up = climbs_latest p ls c.1 in
    let d = p.stamp - q.stamp in
    let es = p ∷ (q ∷ qs) in
    let a = one f pf (ahead (p ∷ ls) (q ∷ qs) (until I f g) v).1 (ahead (p ∷ ls) (q ∷ qs) (until I f g) u).1 in
    let b = one g pg (ahead (p ∷ ls) (q ∷ qs) (until I f g) v).2 (ahead (p ∷ ls) (q ∷ qs) (until I f g) u).2 in
    let now : (w : Setting (until I f g)) → ℕ → Bool = λ w m. condition es (until I f g) m (ahead ls es (until I f g) w) in
    let wait : at_shift_or (now v) false (moved I s d) ≡ at_shift_or (now u) false (moved I s d) =
    pick_moved I.high I.low s d (latest ls p - q.stamp) (latest ls p - p.stamp) v.0 u.0 (omega (arith, c.0)) h (now v) (now u)
    (λ m le k. until_local I f g pf pg m le ls p (q ∷ qs) c.1 v u k) in
    λ i. stepped plainly I s (condition (q ∷ qs) f 0 (a i)) (condition (q ∷ qs) g 0 (b i)) (leb s (last_shift I) && wait i)

next_local : (I : Interval) (f : Formula) → Past f → (ls : List (Accepted Bool)) (q : Accepted Bool) (qs : List (Accepted Bool)) →
    (v u : Setting (next I f)) → v.0 ≡ u.0 →
    condition (q ∷ qs) (next I f) 0 (ahead ls (q ∷ qs) (next I f) v) ≡ condition (q ∷ qs) (next I f) 0 (ahead ls (q ∷ qs) (next I f) u)
unfolding condition newest ahead carried carry
next_local I f pf [] q qs v u h = h
next_local I f pf (p ∷ ls) q qs v u h =
    ap (λ x. cond (within I (p.stamp - q.stamp)) (condition (p ∷ (q ∷ qs)) f 0 x) false) (one f pf (ahead ls (p ∷ (q ∷ qs)) (next I f) v).1 (ahead ls (p ∷ (q ∷ qs)) (next I f) u).1)

flat_local : (f : Formula) → Flat f → (ls : List (Accepted Bool)) (q : Accepted Bool) (qs : List (Accepted Bool)) → Climbs q ls → (v u : Setting f) → Agree (latest ls q - q.stamp) f v u →
    condition (q ∷ qs) f 0 (ahead ls (q ∷ qs) f v) ≡ condition (q ∷ qs) f 0 (ahead ls (q ∷ qs) f u)
unfolding condition newest
flat_local truth fl ls q qs c v u h = refl
flat_local (letter k) fl ls q qs c v u h = refl
flat_local (negation f) fl ls q qs c v u h =
    via (ap (condition (q ∷ qs) (negation f) 0) (ahead_not ls (q ∷ qs) f v)) (ap not (flat_local f fl ls q qs c v u h)) (ap (condition (q ∷ qs) (negation f) 0) (ahead_not ls (q ∷ qs) f u))
flat_local (conjunction f g) fl ls q qs c v u h =
    via (ap (condition (q ∷ qs) (conjunction f g) 0) (ahead_and ls (q ∷ qs) f g v))
    (ap₂ ◌&&◌ (flat_local f fl.0 ls q qs c v.0 u.0 h.0) (flat_local g fl.1 ls q qs c v.1 u.1 h.1))
    (ap (condition (q ∷ qs) (conjunction f g) 0) (ahead_and ls (q ∷ qs) f g u))
flat_local (disjunction f g) fl ls q qs c v u h =
    via (ap (condition (q ∷ qs) (disjunction f g) 0) (ahead_or ls (q ∷ qs) f g v))
    (ap₂ ◌||◌ (flat_local f fl.0 ls q qs c v.0 u.0 h.0) (flat_local g fl.1 ls q qs c v.1 u.1 h.1))
    (ap (condition (q ∷ qs) (disjunction f g) 0) (ahead_or ls (q ∷ qs) f g u))
flat_local (previous I f) fl ls q qs c v u h = ap (λ w. condition (q ∷ qs) (previous I f) 0 (ahead ls (q ∷ qs) (previous I f) w)) (one f fl v u)
flat_local (since I f g) fl ls q qs c v u h = ap (λ w. condition (q ∷ qs) (since I f g) 0 (ahead ls (q ∷ qs) (since I f g) w)) (one (since I f g) fl v u)
flat_local (next I f) fl ls q qs c v u h = next_local I f fl ls q qs v u h
flat_local (until I f g) fl ls q qs c v u h =
    until_local I f g fl.0 fl.1 0 (omega arith) ls q qs c v u
    (let z : min (latest ls q - q.stamp) (last_shift I) ≡ min (0 + (latest ls q - q.stamp)) (last_shift I) = omega arith in subst (λ k. v.0 k ≡ u.0 k) z h)

-- the same over numbered waits
abbrev OwnAgree : Record → ℕ → ℕ → (ℕ → Bool) → (ℕ → Bool) → Type 0
OwnAgree True base a v u = Unit {0}
OwnAgree (Letter l) base a v u = Unit {0}
OwnAgree (Not x) base a v u = Unit {0}
OwnAgree (And x y) base a v u = Unit {0}
OwnAgree (Or x y) base a v u = Unit {0}
OwnAgree (Previous I x) base a v u = Unit {0}
OwnAgree (Since I x y) base a v u = Unit {0}
OwnAgree (Next I x) base a v u = v base ≡ u base
OwnAgree (Until I x y) base a v u = v (base + min a (last_shift I)) ≡ u (base + min a (last_shift I))

abbrev TableAgree : List Record → ℕ → (ℕ → Bool) → (ℕ → Bool) → Type 0
TableAgree rs a v u = (j : ℕ) → j < length rs → OwnAgree (row rs j) (first_wait rs j) a v u

build_agree : (r : Record) (base : ℕ) (e : ℕ → Entry) (a d : ℕ) (v u : ℕ → Bool) → min d (last_wait r) ≡ min a (last_wait r) →
    ((x : ℕ) → Agree d (e x).formula ((e x).setting v) ((e x).setting u)) → OwnAgree r base a v u →
    Agree d (build r base e).formula ((build r base e).setting v) ((build r base e).setting u)
build_agree True base e a d v u q h own = tt
build_agree (Letter l) base e a d v u q h own = tt
build_agree (Not x) base e a d v u q h own = h x
build_agree (And x y) base e a d v u q h own = (h x, h y)
build_agree (Or x y) base e a d v u q h own = (h x, h y)
build_agree (Previous I x) base e a d v u q h own = tt
build_agree (Since I x y) base e a d v u q h own = tt
build_agree (Next I x) base e a d v u q h own = own
build_agree (Until I x y) base e a d v u q h own =
    let w : v (base + min d (last_shift I)) ≡ u (base + min d (last_shift I)) = subst (λ k. v (base + k) ≡ u (base + k)) (sym q) own in
    ap (λ b. leb (min d (last_shift I)) (last_shift I) && b) w

longest_le : (rs : List Record) (j : ℕ) → last_wait (row rs j) ≤ longest rs
longest_le [] j = omega arith
longest_le (r ∷ rs) zero = omega arith
longest_le (r ∷ rs) (suc j) = let h = longest_le rs j in omega arith

entry_agree : (rs : List Record) (a d : ℕ) (v u : ℕ → Bool) → a ≡ min d (longest rs) → TableAgree rs a v u →
    (n : ℕ) → n ≤ length rs → (j : ℕ) → Agree d (formulas rs n j) (settings rs n j v) (settings rs n j u)
unfolding formulas settings
entry_agree rs a d v u q h zero le j = tt
entry_agree rs a d v u q h (suc n) le j =
    let old = entry_agree rs a d v u q h n (omega arith) in
    let most = longest_le rs n in
    entry_cases rs (λ e. Agree d e.formula (e.setting v) (e.setting u)) n j
    (build_agree (row rs n) (first_wait rs n) (entry rs n) a d v u (omega arith) old (h n le)) (old j)

-- the age class of a point
abbrev pub class : List Record → Accepted Bool → List (Accepted Bool) → ℕ → ℕ
class rs p ps i = min (p.stamp - stamp_of (p ∷ ps) i) (longest rs)

table_local : (rs : List Record) (p : Accepted Bool) (ps : List (Accepted Bool)) (i : ℕ) → Rising (p ∷ ps) → Flat (rule rs) → i ≤ length ps → (v u : ℕ → Bool) →
    TableAgree rs (class rs p ps i) v u → open_at rs (p ∷ ps) i v ≡ open_at rs (p ∷ ps) i u
unfolding ahead
table_local rs p ps i r fl le v u h =
    let x = split [] p ps i r tt le in
    let k = length rs - 1 in
    let e : p.stamp - stamp_of (p ∷ ps) i ≡ latest x.later x.here - x.here.stamp = cc (x.stamp_is, x.last_is) in
    let ag = entry_agree rs (class rs p ps i) (p.stamp - stamp_of (p ∷ ps) i) v u refl h (length rs) (omega arith) k in
    via (x.same (rule rs) (setting rs k v))
    (flat_local (rule rs) fl x.later x.here x.before x.climbs (setting rs k v) (setting rs k u)
    (subst (λ d. Agree d (rule rs) (setting rs k v) (setting rs k u)) e ag))
    (x.same (rule rs) (setting rs k u))

-- one variable for each future operator: future operators are numbered in table order
abbrev counted : Record → ℕ
counted r = cond (looks_ahead r) 1 0

abbrev first_future : List Record → ℕ → ℕ
first_future rs j = sum_by counted (take j rs)

-- a setting from the variables
unfoldable pub fill : List Record → (ℕ → Bool) → ℕ → Bool
fill rs x w = x (first_future rs (owner rs w))

-- what a setting says of the wait of a record that the age class picks
abbrev own_slot : Record → ℕ → ℕ → (ℕ → Bool) → Bool
own_slot True base a v = false
own_slot (Letter l) base a v = false
own_slot (Not x) base a v = false
own_slot (And x y) base a v = false
own_slot (Or x y) base a v = false
own_slot (Previous I x) base a v = false
own_slot (Since I x y) base a v = false
own_slot (Next I x) base a v = v base
own_slot (Until I x y) base a v = v (base + min a (last_shift I))

-- the variables from a setting at an age class
unfoldable pub gather : List Record → ℕ → (ℕ → Bool) → ℕ → Bool
gather rs a v i = let j = place (first_future rs) (length rs) i in own_slot (row rs j) (first_wait rs j) a v

own_agrees : (r : Record) (base a : ℕ) (v u : ℕ → Bool) → ((s : ℕ) → s < own_waits r → u (base + s) ≡ own_slot r base a v) → OwnAgree r base a v u
own_agrees True base a v u h = tt
own_agrees (Letter l) base a v u h = tt
own_agrees (Not x) base a v u h = tt
own_agrees (And x y) base a v u h = tt
own_agrees (Or x y) base a v u h = tt
own_agrees (Previous I x) base a v u h = tt
own_agrees (Since I x y) base a v u h = tt
own_agrees (Next I x) base a v u h = let z : base ≡ base + 0 = omega arith in sym (ap u z ∙ h 0 (omega arith))
own_agrees (Until I x y) base a v u h = sym (h (min a (last_shift I)) (omega arith))

-- a record with a wait is a future operator
ahead_counted : (r : Record) (s : ℕ) → s < own_waits r → 0 < counted r
ahead_counted True s h = absurd (let c : ⊥ = omega arith in c)
ahead_counted (Letter l) s h = absurd (let c : ⊥ = omega arith in c)
ahead_counted (Not x) s h = absurd (let c : ⊥ = omega arith in c)
ahead_counted (And x y) s h = absurd (let c : ⊥ = omega arith in c)
ahead_counted (Or x y) s h = absurd (let c : ⊥ = omega arith in c)
ahead_counted (Previous I x) s h = absurd (let c : ⊥ = omega arith in c)
ahead_counted (Since I x y) s h = absurd (let c : ⊥ = omega arith in c)
ahead_counted (Next I x) s h = omega arith
ahead_counted (Until I x y) s h = omega arith

filled : (rs : List Record) (a : ℕ) (v x : ℕ → Bool) → ((i : ℕ) → i < futures rs → x i ≡ gather rs a v i) → TableAgree rs a v (fill rs x)
unfolding fill gather
filled rs a v x h j lt = own_agrees (row rs j) (first_wait rs j) a v (fill rs x) (λ s in-own.
    let c = first_future rs in
    let w : ℕ → ℕ = λ k. counted (row rs k) in
    let more = numbers_more counted refl rs in
    let one = ahead_counted (row rs j) s in-own in
    let rise = counts_rise c w more j (length rs) lt in
    let all : c (length rs) ≡ futures rs = ap (sum_by counted) (take_all (length rs) rs (omega arith)) in
    let z : c j + 0 ≡ c j = omega arith in
    let at : place c (length rs) (c j) ≡ j = subst (λ i. place c (length rs) i ≡ j) z (place_at c w more (length rs) j 0 lt one) in
    ap (λ k. x (c k)) (owner_at rs j s lt in-own) ∙ h (c j) (omega arith) ∙ ap (λ k. own_slot (row rs k) (first_wait rs k) a v) at)

-- a point's condition is a function of the variables
pub by_variables : (rs : List Record) (p : Accepted Bool) (ps : List (Accepted Bool)) (i : ℕ) → Rising (p ∷ ps) → Flat (rule rs) → i ≤ length ps → (v x : ℕ → Bool) →
    ((j : ℕ) → j < futures rs → x j ≡ gather rs (class rs p ps i) v j) → open_at rs (p ∷ ps) i v ≡ open_at rs (p ∷ ps) i (fill rs x)
by_variables rs p ps i r fl le v x h = table_local rs p ps i r fl le v (fill rs x) (filled rs (class rs p ps i) v x h)
