-- The tables that a draw fills represent the conditions at the new point, and what the waits become there.
use Rattle.std.proofs.Common.{◌≡◌, ℕ, zero, suc, ◌+◌, ◌-◌, ◌<◌, ◌≤◌, Bool, true, false, cond, List, ◌∷◌, ◌++◌, map, length, get_or, Some, None, Option, sym, refl, ap, ◌∙◌, subst, ap₂, inl, inr, add-one, arith}
use Rattle.std.specs.List.{range_with_len}
use Rattle.std.specs.Option.{option_map}
use Rattle.std.proofs.lemmas.List.{length-append, get_or_append_left, get_or-append_right}
use Rattle.std.proofs.lemmas.List.FromFn.{length-map-range_with_len, get_or-map-range_with_len}
use Rattle.std.proofs.lemmas.Bool.{cases_eq, cases_lt}
use Rattle.truth.specs.declared.table.Condition.{Condition}
use Rattle.truth.specs.Plain.{plainly}
use Rattle.truth.specs.Words.{wait_count, settings, bit}
use Rattle.truth.specs.Tables.{means, openly}
use Rattle.truth.specs.Replacing.{waiting}
use Rattle.truth.specs.Meaning.{meant}
use Rattle.truth.proofs.Tabled.{waiting_means}
use Rattle.feed.specs.Entries.{letter_of}
use Rattle.rule.specs.declared.interval.Interval.{Interval}
use Rattle.rule.specs.declared.record.Record.{Record}
use Rattle.rule.specs.declared.record.Record.TheVariants.{True, Letter, Not, And, Or, Previous, Since, Next, Until}
use Rattle.rule.specs.Intervals.{within, moved, last_shift}
use Rattle.rule.specs.Components.{left_of, right_of, shifts, own_waits, first_component, first_wait, waits, looks_ahead, earlier}
use Rattle.rule.proofs.Numbering.{first_more, first_up, shifts_some, moved_le}
use Rattle.logic.specs.Logic.{Accepted}
use Rattle.logic.specs.Values.{at_shift_or, stepped}
use Rattle.logic.specs.Steps.{fitting, across, evaluated, step, renewed}
use Rattle.logic.specs.Tables.{row, Below, Earlier}
use Rattle.logic.specs.Conditions.{gap_to}
use Rattle.logic.specs.Waits.{component, replaced}
use Rattle.logic.specs.Numbers.{Represents}
use Rattle.logic.specs.Draws.{lettered, among, brought, given, conditioned, row_values, row_waits, filled}
use Rattle.logic.specs.Histories.{HasComponents}
use Rattle.logic.proofs.Places.{wait_more, waits_rise, waits_all}
use Rattle.logic.proofs.Locality.{local_component}
use Rattle.logic.proofs.Carrying.{component_step, replaced_at}
use Rattle.logic.proofs.Meanings.{evaluated_means, renewed_means}
use Rattle.logic.proofs.Represented.{always_represents, never_represents, replaced_represents}

-- what stands after a list, made from a function of the index
row_at : {T : Type 0} (xs : List T) (f : ℕ → T) (size n s : ℕ) (d : T) → length xs ≡ n → s < size → get_or (xs ++ map f (range_with_len 0 size)) (n + s) d ≡ f s
row_at xs f size n s d e lt =
    let z : n + s - n ≡ s = omega arith in
    get_or-append_right xs (map f (range_with_len 0 size)) n (n + s) d e (omega arith)
    ∙ ap (λ i. get_or (map f (range_with_len 0 size)) i d) z ∙ get_or-map-range_with_len f 0 size s s d lt (omega arith)

component_more : (rs : List Record) (n : ℕ) → n < length rs → first_component rs (suc n) ≡ first_component rs n + shifts (row rs n)
component_more rs n lt = rw add-one at (first_more rs n lt)

component_below : (rs : List Record) (j n s : ℕ) → j < n → n ≤ length rs → s < shifts (row rs j) → first_component rs j + s < first_component rs n
component_below rs j n s lt le h =
    let m = n - (j + 1) in
    let e : j + 1 + m ≡ n = omega arith in
    let up = subst (λ x. first_component rs (j + 1) ≤ first_component rs x) e (first_up rs (j + 1) m) in
    let more = first_more rs j (omega arith) in omega arith

module _ (rs : List Record) (word : ℕ) (gap : Option ℕ) (before : List Condition) where
  pub values_long : (n : ℕ) → n ≤ length rs → length (filled rs word gap before n).values ≡ first_component rs n
  values_long zero le = refl
  values_long (suc n) le =
      let old = filled rs word gap before n in
      let a = values_long n (omega arith) in
      let b = length-map-range_with_len (conditioned rs word gap before old.values old.becomes n) 0 (shifts (row rs n)) in
      let c = length-append old.values (row_values rs word gap before old.values old.becomes n) in
      let d = component_more rs n (omega arith) in omega arith

  pub becomes_long : (n : ℕ) → length (filled rs word gap before n).becomes ≡ first_wait rs n
  becomes_long zero = refl
  becomes_long (suc n) =
      let old = filled rs word gap before n in
      let vs = (filled rs word gap before (suc n)).values in
      let a = becomes_long n in
      let b = length-map-range_with_len (renewed openly (row rs n) gap (λ a s. among vs (first_component rs a + s)) n) 0 (own_waits (row rs n)) in
      let c = length-append old.becomes (row_waits rs gap vs n) in
      let d = wait_more rs n in omega arith

module _ (rs : List Record) (sound : Earlier rs) (few : waits rs ≤ wait_count) (word : ℕ) (p : Accepted Bool) (letters : (l : ℕ) → letter_of word l ≡ p.letters l)
    (ps : List (Accepted Bool)) (before : List Condition) (old : HasComponents rs ps before) where
  letter_means : (l m : ℕ) → m < settings → means (lettered word l) m ≡ p.letters l
  letter_means l m h = go (letter_of word l) ∙ letters l
    where
      go : (b : Bool) → means (cond b openly.always openly.never) m ≡ b
      go true = always_represents m h
      go false = never_represents m h

  -- one record, over the tables of the records before it
  module _ (n : ℕ) (lt : n < length rs) (vs ws : List Condition)
      (args : (a : ℕ) → a < n → Represents (among vs (first_component rs a)) (component rs (p ∷ ps) a 0))
      (became : (w : ℕ) → w < first_wait rs n → Represents (among ws w) (λ v. replaced rs p ps v w)) where
    wait_low : (w : ℕ) → w < first_wait rs n → w < wait_count
    wait_low w h = let a = waits_rise rs n (length rs) lt in let b = wait_more rs n in let c = waits_all rs in omega arith

    carried_means : (a t : ℕ) → a < length rs → t < shifts (row rs a) → first_wait rs (suc a) ≤ first_wait rs n →
        (m : ℕ) → m < settings → means (brought ws before (Some (first_component rs a + t))) m ≡ component rs ps a t (replaced rs p ps (bit m))
    carried_means a t la lt' le =
        let bound : first_wait rs n ≤ wait_count = let a = waits_rise rs n (length rs) lt in let b = wait_more rs n in let c = waits_all rs in omega arith in
        replaced_represents ws (among before (first_component rs a + t)) (first_wait rs (suc a)) (component rs ps a t) (replaced rs p ps) (omega arith) (old a t la lt')
        (λ v u. local_component rs ps a t v u la) (λ w h. became w (omega arith))

    previous_given : (i : Interval) (a s m : ℕ) → a < n → m < settings → (g : Option ℕ) →
        means (brought ws before (earlier rs (Previous i a) (first_component rs n) s g)) m ≡ fitting plainly i g (component rs ps a 0 (replaced rs p ps (bit m)))
    previous_given i a s m l h None = never_represents m h
    previous_given i a s m l h (Some g) = go (within i g)
      where
        go : (b : Bool) → means (brought ws before (cond b (Some (first_component rs a)) None)) m ≡ cond b (component rs ps a 0 (replaced rs p ps (bit m))) false
        go true =
            let z : first_component rs a ≡ first_component rs a + 0 = omega arith in
            ap (λ c. means (brought ws before (Some c)) m) z ∙ carried_means a 0 (omega arith) (shifts_some (row rs a)) (waits_rise rs a n l) m h
        go false = never_represents m h

    since_given : (i : Interval) (a b s m : ℕ) → row rs n ≡ Since i a b → m < settings → (g : Option ℕ) →
        means (brought ws before (earlier rs (Since i a b) (first_component rs n) s g)) m ≡ across plainly i s g (λ t. component rs ps n t (replaced rs p ps (bit m)))
    since_given i a b s m e h None = never_represents m h
    since_given i a b s m e h (Some g) = go (moved i s g) (λ t x. moved_le i s g t x)
      where
        go : (o : Option ℕ) → ((t : ℕ) → o ≡ Some t → t ≤ last_shift i) →
            means (brought ws before (option_map (λ t. first_component rs n + t) o)) m ≡ at_shift_or (λ t. component rs ps n t (replaced rs p ps (bit m))) false o
        go None f = never_represents m h
        go (Some t) f =
            let le = f t refl in
            let wide = ap shifts e in
            let none = ap own_waits e in
            let more = wait_more rs n in
            carried_means n t lt (omega arith) (omega arith) m h

    by_record : (r : Record) → row rs n ≡ r → Below n r → (s : ℕ) → s < shifts r → (m : ℕ) → m < settings →
        evaluated plainly r s (λ l. means (lettered word l) m)
        (means (at_shift_or (λ a. among vs (first_component rs a)) openly.never (left_of r)) m)
        (means (at_shift_or (λ a. among vs (first_component rs a)) openly.never (right_of r)) m)
        (means (cond (looks_ahead r) (waiting (first_wait rs n + s)) (brought ws before (earlier rs r (first_component rs n) s (gap_to p ps)))) m)
        ≡ step plainly r (gap_to p ps) p.letters (λ a. component rs (p ∷ ps) a 0 (bit m)) (λ a t. component rs ps a t (replaced rs p ps (bit m))) n s (λ t. bit m (first_wait rs n + t))
    by_record True e b s l m h = refl
    by_record (Letter x) e b s l m h = letter_means x m h
    by_record (Not a) e b s l m h = ap plainly.not (args a b m h)
    by_record (And a c) e b s l m h = ap₂ plainly.both (args a b.0 m h) (args c b.1 m h)
    by_record (Or a c) e b s l m h = ap₂ plainly.either (args a b.0 m h) (args c b.1 m h)
    by_record (Previous i a) e b s l m h = previous_given i a s m b h (gap_to p ps)
    by_record (Since i a c) e b s l m h =
        ap₂ (λ x y. stepped plainly i s x y (means (brought ws before (earlier rs (Since i a c) (first_component rs n) s (gap_to p ps))) m)) (args a b.0 m h) (args c b.1 m h)
        ∙ ap (stepped plainly i s (component rs (p ∷ ps) a 0 (bit m)) (component rs (p ∷ ps) c 0 (bit m))) (since_given i a c s m e h (gap_to p ps))
    by_record (Next i a) e b s l m h = let z : first_wait rs n + s ≡ first_wait rs n + 0 = omega arith in waiting_means (first_wait rs n + s) m h ∙ ap (bit m) z
    by_record (Until i a c) e b s l m h =
        ap₂ (λ x y. stepped plainly i s x y (means (waiting (first_wait rs n + s)) m)) (args a b.0 m h) (args c b.1 m h)
        ∙ ap (stepped plainly i s (component rs (p ∷ ps) a 0 (bit m)) (component rs (p ∷ ps) c 0 (bit m))) (waiting_means (first_wait rs n + s) m h)

    pub conditioned_represents : (s : ℕ) → s < shifts (row rs n) → Represents (conditioned rs word (gap_to p ps) before vs ws n s) (component rs (p ∷ ps) n s)
    conditioned_represents s l m h =
        let never : Condition = openly.never in
        evaluated_means meant m h (row rs n) s (lettered word)
        (at_shift_or (λ a. among vs (first_component rs a)) never (left_of (row rs n)))
        (at_shift_or (λ a. among vs (first_component rs a)) never (right_of (row rs n)))
        (given rs (gap_to p ps) before ws n s)
        ∙ by_record (row rs n) refl (sound n lt) s l m h
        ∙ sym (component_step rs sound p ps n s (bit m) lt l)

  -- what the waits of one record become, over the tables of the records up to it
  module _ (n : ℕ) (lt : n < length rs) (vs : List Condition)
      (now : (j t : ℕ) → j < suc n → t < shifts (row rs j) → Represents (among vs (first_component rs j + t)) (component rs (p ∷ ps) j t)) where
    renewed_same : (r : Record) → row rs n ≡ r → Below n r → (s m : ℕ) → m < settings → (g : Option ℕ) →
        renewed plainly r g (λ a t. means (among vs (first_component rs a + t)) m) n s ≡ renewed plainly r g (λ a t. component rs (p ∷ ps) a t (bit m)) n s
    renewed_same True e b s m h g = refl
    renewed_same (Letter l) e b s m h g = refl
    renewed_same (Not a) e b s m h g = refl
    renewed_same (And a c) e b s m h g = refl
    renewed_same (Or a c) e b s m h g = refl
    renewed_same (Previous i a) e b s m h g = refl
    renewed_same (Since i a c) e b s m h g = refl
    renewed_same (Next i a) e b s m h g = ap (fitting plainly i g) (now a 0 (omega arith) (shifts_some (row rs a)) m h)
    renewed_same (Until i a c) e b s m h None = refl
    renewed_same (Until i a c) e b s m h (Some g) = go (moved i s g) (λ t x. moved_le i s g t x)
      where
        go : (o : Option ℕ) → ((t : ℕ) → o ≡ Some t → t ≤ last_shift i) →
            at_shift_or (λ t. means (among vs (first_component rs n + t)) m) false o ≡ at_shift_or (λ t. component rs (p ∷ ps) n t (bit m)) false o
        go None f = refl
        go (Some t) f = let le = f t refl in let wide = ap shifts e in now n t (omega arith) (omega arith) m h

    pub renewed_represents : (s : ℕ) → s < own_waits (row rs n) →
        Represents (renewed openly (row rs n) (gap_to p ps) (λ a t. among vs (first_component rs a + t)) n s) (λ v. replaced rs p ps v (first_wait rs n + s))
    renewed_represents s l m h =
        renewed_means meant m h (row rs n) (gap_to p ps) (λ a t. among vs (first_component rs a + t)) n s
        ∙ renewed_same (row rs n) refl (sound n lt) s m h (gap_to p ps)
        ∙ sym (replaced_at rs p ps (bit m) n s lt l)

  -- the tables of the first n records
  abbrev ValuesUpto : ℕ → Type 0
  ValuesUpto n = (j s : ℕ) → j < n → s < shifts (row rs j) →
      Represents (among (filled rs word (gap_to p ps) before n).values (first_component rs j + s)) (component rs (p ∷ ps) j s)

  abbrev BecomesUpto : ℕ → Type 0
  BecomesUpto n = (w : ℕ) → w < first_wait rs n → Represents (among (filled rs word (gap_to p ps) before n).becomes w) (λ v. replaced rs p ps v w)

  -- one record more
  values_more : (n : ℕ) → n < length rs → ValuesUpto n → BecomesUpto n → ValuesUpto (suc n)
  values_more n lt vals becs j s l h =
      let F = filled rs word (gap_to p ps) before n in
      let long = values_long rs word (gap_to p ps) before n (omega arith) in
      let f = conditioned rs word (gap_to p ps) before F.values F.becomes n in
      let R : Condition → Type 0 = λ c. Represents c (component rs (p ∷ ps) j s) in
      elim (cases_eq j n) [
        | inl e ↦
            let at = row_at F.values f (shifts (row rs n)) (first_component rs n) s openly.never long (subst (λ k. s < shifts (row rs k)) e h) in
            let args : (a : ℕ) → a < n → Represents (among F.values (first_component rs a)) (component rs (p ∷ ps) a 0) = λ a u.
            let z : first_component rs a + 0 ≡ first_component rs a = omega arith in
            subst (λ c. Represents (among F.values c) (component rs (p ∷ ps) a 0)) z (vals a 0 u (shifts_some (row rs a))) in
            let here = conditioned_represents n lt F.values F.becomes args becs s (subst (λ k. s < shifts (row rs k)) e h) in
            subst (λ k. Represents (among (filled rs word (gap_to p ps) before (suc n)).values (first_component rs k + s)) (component rs (p ∷ ps) k s)) (sym e)
            (subst (λ c. Represents c (component rs (p ∷ ps) n s)) (sym at) here)
        | inr ne ↦
            let below = component_below rs j n s (omega arith) (omega arith) h in
            subst R (sym (get_or_append_left F.values (map f (range_with_len 0 (shifts (row rs n)))) openly.never (first_component rs j + s) (omega arith))) (vals j s (omega arith) h)
      ]

  becomes_more : (n : ℕ) → n < length rs → ValuesUpto (suc n) → BecomesUpto n → BecomesUpto (suc n)
  becomes_more n lt vals becs w h =
      let F = filled rs word (gap_to p ps) before n in
      let vs = (filled rs word (gap_to p ps) before (suc n)).values in
      let long = becomes_long rs word (gap_to p ps) before n in
      let f = renewed openly (row rs n) (gap_to p ps) (λ a t. among vs (first_component rs a + t)) n in
      let more = wait_more rs n in
      let R : Condition → Type 0 = λ c. Represents c (λ v. replaced rs p ps v w) in
      elim (cases_lt w (first_wait rs n)) [
        | inl l ↦ subst R (sym (get_or_append_left F.becomes (map f (range_with_len 0 (own_waits (row rs n)))) openly.never w (omega arith))) (becs w l)
        | inr g ↦
            let s = w - first_wait rs n in
            let e : first_wait rs n + (w - first_wait rs n) ≡ w = omega arith in
            let l : s < own_waits (row rs n) = omega arith in
            let at = row_at F.becomes f (own_waits (row rs n)) (first_wait rs n) s openly.never long l in
            subst (λ k. Represents (among (filled rs word (gap_to p ps) before (suc n)).becomes k) (λ v. replaced rs p ps v k)) e
            (subst (λ c. Represents c (λ v. replaced rs p ps v (first_wait rs n + s))) (sym at) (renewed_represents n lt vs vals s l))
      ]

  filled_upto : (n : ℕ) → n ≤ length rs → ValuesUpto n × BecomesUpto n
  filled_upto zero le = ((λ j s l h. absurd (let c : ⊥ = omega arith in c)), (λ w l. absurd (let c : ⊥ = omega arith in c)))
  filled_upto (suc n) le =
      let ih = filled_upto n (omega arith) in
      let vals = values_more n le ih.0 ih.1 in
      (vals, becomes_more n le vals ih.1)

  -- all records
  pub filled_values : HasComponents rs (p ∷ ps) (filled rs word (gap_to p ps) before (length rs)).values
  filled_values j s lt h = (filled_upto (length rs) (omega arith)).0 j s lt h

  pub filled_becomes : (w : ℕ) → w < waits rs → Represents (among (filled rs word (gap_to p ps) before (length rs)).becomes w) (λ v. replaced rs p ps v w)
  filled_becomes w h = (filled_upto (length rs) (omega arith)).1 w (subst (λ n. w < n) (sym (waits_all rs)) h)
