-- The point is held or settled with the others, or all that was held stays.
use Rattle.std.proofs.Common.{◌≡◌, ℕ, ◌+◌, ◌-◌, List, [], length, take, Some, Ok, sym, ap, ◌∙◌, ap₂, arith}
use Rattle.std.proofs.lemmas.List.{length-take-le}
use Rattle.feed.specs.Lists.{onto}
use Rattle.feed.proofs.Onto.{take_onto}
use Rattle.feed.specs.declared.entry.Entry.{Entry}
use Rattle.rule.specs.Components.{components}
use Rattle.truth.specs.declared.table.Condition.{Condition}
use Rattle.logic.specs.declared.verdict.HeldPoint.{HeldPoint}
use Rattle.logic.specs.declared.verdict.Point.{Point}
use Rattle.logic.specs.States.{State}
use Rattle.logic.specs.Draws.{Drawn, filled_at, next_name, treatment}
use Rattle.watch.specs.States.{state, with_held}
use Rattle.std.proofs.lemmas.List.{nil_from_length}
use Rattle.watch.proofs.Accepted.{sampled_full, sampled_held}
use Rattle.watch.proofs.watch.Watch.accept.Goals as goal

pub returns-then-kept-self : goal.returns-then-kept-self
returns-then-kept-self c =
    let w = c.args.self.now in
    let st = state w in
    let s = c.args.sample in
    let n = w.count in
    let T = treatment st s (filled_at st s) in
    let r = c.treat_sample-kept.result in
    let v = c.treat_sample-kept.new.self in
    let same = c.treat_sample-kept.ensures.others in
    let slots : v.slots ≡ w.slots = ap (λ (x : State). x.slots) (same []) in
    let sum = c.treat_sample-kept.ensures.sum in
    let few = w.held_few in
    let low = w.slots_few in
    let long = v.held_long in
    let saved-long = v.saved_long in
    let more = c.if-kept-self.true in
    let same-length = ap length c.treat_sample-kept.ensures.held in
    let many = length-take-le r v.held (omega arith) in
    let full : n ≡ w.slots = omega arith in
    let silent : T.lines ≡ [] = nil_from_length T.lines (omega arith) in
    let back : take v.count c.put_front.new.to ≡ take n w.held =
    ap (λ k. take k c.put_front.new.to) c.treat_sample-kept.ensures.count ∙ ap (take n) c.put_front.ensures
    ∙ take_onto (take n v.saved) v.held n (length-take-le n v.saved (omega arith)) ∙ c.treat_sample-kept.ensures.saved full in
    let step = λ (es : List Entry) (place : ℕ). sampled_full st es place s (omega arith) in
    record {
      answer = λ es place. sym (ap (λ (d : Drawn). d.answer) (step es place));
      state = λ es place. same (take v.count c.put_front.new.to) ∙ ap (with_held st) back;
      tray = λ es place.
          c.treat_sample-kept.ensures.lines ∙ ap (λ l. onto l c.args.tray.now) silent
          ∙ sym (ap (λ (d : Drawn). onto d.lines c.args.tray.now) (step es place));
      drawn = ap (λ (x : State). x.drawn) (same []);
    }

pub returns : goal.returns
returns c =
    let w = c.args.self.now in
    let st = state w in
    let s = c.args.sample in
    let f = filled_at st s in
    let r = c.treat_sample-kept.result in
    let v = c.treat_sample-kept.new.self in
    let same = c.treat_sample-kept.ensures.others in
    let slots : v.slots ≡ w.slots = ap (λ (x : State). x.slots) (same []) in
    let sum = c.treat_sample-kept.ensures.sum in
    let few = w.held_few in
    let low = w.slots_few in
    let long = v.held_long in
    let not_more = c.if-kept-self.false in
    let same-length = ap length c.treat_sample-kept.ensures.held in
    let many = length-take-le r v.held (omega arith) in
    let given : w.count + 1 - r ≡ length (treatment st s f).lines = omega arith in
    let m = components st.table in
    let k = c.components-n.result in
    let is : k ≡ m = c.components-n.ensures.value ∙ ap (λ (x : State). components x.table) (same []) in
    let width = v.few_components in
    let fresh-long = v.fresh_long in
    let values : take m c.put_front-2.new.to ≡ f.values =
    ap (take m) c.put_front-2.ensures ∙ take_onto (take k v.fresh) v.values m (length-take-le k v.fresh (omega arith) ∙ is)
    ∙ ap (λ j. take j v.fresh) is ∙ c.treat_sample-kept.ensures.values in
    let after : State → Point → List Condition → List HeldPoint → State = λ x p vs hs. record {
      table = x.table;
      slots = x.slots;
      drawn = x.drawn + 1;
      accepted = x.accepted + 1;
      turned = x.turned;
      newest = Some p;
      values = vs;
      held = hs;
    } in
    let step = λ (es : List Entry) (place : ℕ). sampled_held st es place s (omega arith) in
    record {
      answer = λ es place. ap Ok given ∙ sym (ap (λ (d : Drawn). d.answer) (step es place));
      state = λ es place.
          ap (λ (x : State). after x c.args.point (take (components x.table) c.put_front-2.new.to) (take r v.held)) (same [])
          ∙ ap (λ p. after st p (take m c.put_front-2.new.to) (take r v.held)) c.requires.point
          ∙ ap₂ (after st (next_name w.newest s.stamp)) values c.treat_sample-kept.ensures.held ∙ sym (ap (λ (d : Drawn). d.state) (step es place));
      tray = λ es place. c.treat_sample-kept.ensures.lines ∙ sym (ap (λ (d : Drawn). onto d.lines c.args.tray.now) (step es place));
      drawn = ap (λ (x : State). x.drawn) (same []);
    }
