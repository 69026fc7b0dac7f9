-- A sample that is accepted, or turned away because too many points would be held.
use Rattle.std.proofs.Common.{◌≡◌, ℕ, ◌<◌, ◌≤◌, cond, List, [], ◌∷◌, ◌++◌, length, take, Ok, ap, ◌∙◌, ap₂}
use Rattle.std.proofs.lemmas.Bool.{le-leb, lt-leb}
use Rattle.truth.specs.declared.table.Condition.{Condition}
use Rattle.feed.specs.Lists.{onto}
use Rattle.feed.specs.declared.entry.Entry.{Entry}
use Rattle.feed.specs.declared.entry.Sample.{Sample}
use Rattle.rule.specs.Components.{components, waits}
use Rattle.logic.specs.declared.refusal.DrawRefusal.TheVariants.{Slots}
use Rattle.logic.specs.declared.verdict.HeldPoint.{HeldPoint}
use Rattle.logic.specs.declared.verdict.Point.{Point}
use Rattle.logic.specs.States.{State}
use Rattle.logic.specs.Draws.{Drawn, Filled, Treated, accepted_state, carried_points, filled, filled_at, gap_from, next_name, ruled, sampled, treated_all, treatment, turned_away}
use Rattle.watch.specs.declared.arrival.Arrival.{Arrival}
use Rattle.watch.specs.declared.watch.Watch.{Watch}
use Rattle.watch.specs.States.{state, with_held}
use Rattle.watch.specs.Treatments.{untreated}
use Rattle.watch.proofs.Filling.{values_front, becomes_front}

module _ (st : State) (es : List Entry) (place : ℕ) (s : Sample) where
  abbrev now : Treated
  now = treatment st s (filled_at st s)

  abbrev held : Drawn
  held = record { answer = Ok (length now.lines); state = accepted_state st s (filled_at st s) now; rest = es; lines = now.lines }

  pub sampled_held : length now.held ≤ st.slots → sampled st es place s ≡ held
  sampled_held h = ap (λ b. cond b held (turned_away st es (Slots place))) (le-leb (length now.held) st.slots h)

  pub sampled_full : st.slots < length now.held → sampled st es place s ≡ turned_away st es (Slots place)
  sampled_full h = ap (λ b. cond b held (turned_away st es (Slots place))) (lt-leb (length now.held) st.slots h)

-- the held points of w are saved in v where they fill the slots, and v is w but for the conditions at the new point
pub record Saved (w v : Watch) (F B : List Condition) : Type 0 where
  pub fresh : v.fresh ≡ F
  pub becomes : v.becomes ≡ B
  pub held : v.held ≡ w.held
  pub count : v.count ≡ w.count
  pub others : (hs : List HeldPoint) → with_held (state v) hs ≡ with_held (state w) hs
  pub saved : w.count ≡ w.slots → take w.count v.saved ≡ take w.count w.held

-- what the code fills in and treats, from the watch w to v, is what the definitions say
module _ (w v : Watch) (s : Sample) (a : Arrival) (same : a.sample ≡ s) (since : a.gap ≡ gap_from w.newest s.stamp) where
  abbrev st : State
  st = state w

  abbrev code : Filled
  code = filled st.table a.sample.letters a.gap st.values (length st.table)

  abbrev said : Filled
  said = filled_at st s

  code_is : code ≡ said
  code_is = ap₂ (λ (x : Sample) g. filled st.table x.letters g st.values (length st.table)) same since

  module _ (f : v.fresh ≡ onto code.values w.fresh) (b : v.becomes ≡ onto code.becomes w.becomes) where
    pub values_are : take (components st.table) v.fresh ≡ said.values
    values_are = ap (take (components st.table)) f ∙ values_front st.table a.sample.letters a.gap st.values w.fresh ∙ ap (λ (x : Filled). x.values) code_is

    becomes_are : take (waits st.table) v.becomes ≡ said.becomes
    becomes_are = ap (take (waits st.table)) b ∙ becomes_front st.table a.sample.letters a.gap st.values w.becomes ∙ ap (λ (x : Filled). x.becomes) code_is

    pub treated_is : (m : ℕ) (p : Point) (c : Condition) → m ≡ waits st.table → p ≡ next_name w.newest s.stamp
        → c ≡ ruled st.table (take (components st.table) v.fresh) → v.held ≡ w.held
        → treated_all untreated (carried_points (take m v.becomes) (take w.count v.held) ++ (record { point = p; condition = c } ∷ [])) ≡ treatment st s said
    treated_is m p c e q g h =
        let new : Point → Condition → HeldPoint = λ p d. record { point = p; condition = d } in
        let all : List Condition → List HeldPoint → HeldPoint → Treated = λ ws hs x. treated_all untreated (carried_points ws (take w.count hs) ++ (x ∷ [])) in
        ap (λ hs. all (take m v.becomes) hs (new p c)) h
        ∙ ap₂ (λ ws x. all ws w.held x) (ap (λ k. take k v.becomes) e ∙ becomes_are) (ap₂ new q (g ∙ ap (ruled st.table) values_are))
