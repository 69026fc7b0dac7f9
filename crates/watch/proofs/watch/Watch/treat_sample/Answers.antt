-- What is filled in and treated is what the definitions say, and the held points are saved where they fill the slots.
use Rattle.std.proofs.Common.{◌≡◌, ◌+◌, length, take, sym, refl, ap, ◌∙◌, subst, arith}
use Rattle.std.proofs.lemmas.List.{length-take-le}
use Rattle.feed.specs.Lists.{onto}
use Rattle.feed.proofs.Onto.{take_onto}
use Rattle.logic.specs.Draws.{Treated, ruled}
use Rattle.rule.specs.Components.{components}
use Rattle.rule.specs.Reading.{records}
use Rattle.watch.specs.declared.watch.Watch.{Watch}
use Rattle.watch.proofs.Accepted.{Saved, treated_is, values_are}
use Rattle.watch.proofs.watch.Watch.treat_sample.Goals as goal
use Rattle.watch.proofs.watch.Watch.treat_sample.Goals.{then-count-self, else-count-self}

pub returns : goal.returns
returns c =
    let w = c.args.self.now in
    let s = c.args.sample in
    let n = w.count in
    let v = c.if-count-self.self in
    let few = w.held_few in
    let low = w.slots_few in
    let long = w.held_long in
    let here : length (take n w.held) ≡ n = length-take-le n w.held (omega arith) in
    let S : Watch → Type 0 = λ u. Saved w u c.fill_after.new.fresh c.fill_after.new.becomes in
    let kept : S v = elim c.if-count-self.branch [
      | then-count-self b ↦ subst S (sym b.self-is) (record {
        fresh = refl;
        becomes = refl;
        held = refl;
        count = refl;
        others = λ hs. refl;
        saved = λ full. ap (take n) b.put_front.ensures ∙ take_onto (take n w.held) w.saved n here;
      })
      | else-count-self b ↦ subst S (sym b.self-is) (record {
        fresh = refl;
        becomes = refl;
        held = refl;
        count = refl;
        others = λ hs. refl;
        saved = λ full. absurd (b.if-count-self.false full);
      })
    ] in
    let a = c.renew.new.self in
    let gap = c.renew.ensures.gap ∙ c.gap_from.ensures in
    let fresh = kept.fresh ∙ c.fill_after.ensures.fresh in
    let becomes = kept.becomes ∙ c.fill_after.ensures.becomes in
    let condition = c.ruled-condition.ensures ∙ ap (λ vs. ruled (records w.rule) (take (components (records w.rule)) vs)) (sym kept.fresh) in
    let made = treated_is w v s a c.renew.ensures.sample gap fresh becomes c.waits-waits.result c.args.point c.ruled-condition.result c.waits-waits.ensures.value c.requires.point condition kept.held in
    record {
      held = c.treat_with.ensures.held ∙ ap (λ (t : Treated). t.held) made;
      lines = c.treat_with.ensures.lines ∙ ap (λ (t : Treated). onto t.lines c.args.tray.now) made;
      sum = ap (λ (t : Treated). c.treat_with.result + length t.lines) (sym made) ∙ c.treat_with.ensures.sum;
      values = values_are w v s a c.renew.ensures.sample gap fresh becomes;
      saved = kept.saved;
      count = kept.count;
      others = kept.others;
    }
