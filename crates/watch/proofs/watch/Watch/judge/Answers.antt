-- A sample that is not late and has an offset is accepted, or the slots are too few.
use Rattle.std.proofs.Common.{◌≡◌, false, cond, ltb, List, Some, None, Ok, Option, Result, MatchResult, sym, ap, ◌∙◌, subst, ap₂, rules}
use Rattle.std.specs.Option.{MatchOption, ok_or}
use Rattle.std.proofs.lemmas.Option.{cond_some}
use Rattle.feed.specs.Lists.{onto}
use Rattle.feed.specs.declared.entry.Entry.{Entry}
use Rattle.logic.specs.declared.refusal.DrawRefusal.TheVariants.{Slots, Stamp, Crowded}
use Rattle.logic.specs.Draws.{Drawn, drawn_content, late, most_offsets, next_offset, sampled, turned_away}
use Rattle.watch.specs.States.{counted, state}
use Rattle.watch.proofs.watch.Watch.judge.Goals as goal

by_ok_or : {X E : Type 0} (P : X → Type 0) (Q : Type 0) (o : Option X) (e : E) (r : Result X E) → r ≡ ok_or o e → MatchOption o Q P → MatchResult r P (λ _. Q)
by_ok_or P Q None e r is h = subst (λ z. MatchResult z P (λ _. Q)) (sym is) h
by_ok_or P Q (Some x) e r is h = subst (λ z. MatchResult z P (λ _. Q)) (sym is) h

pub returns : goal.returns
returns c =
    let st = state c.args.self.now in
    let st' = state c.accept.new.self in
    let place = c.args.entry.place in
    let s = c.in_ok-sample.sample in
    let is : c.args.entry.content ≡ Ok s = search rules in
    let point : c.next_point.result ≡ Some c.in_ok-point.point = c.in_ok-point.ensures.ok_part in
    let fits = (cond_some (ltb (next_offset st.newest s.stamp) most_offsets) _ _ (sym c.next_point.ensures ∙ point)).0 in
    let in-time : false ≡ late st.newest s.stamp = c.if-is_late.ensures in
    let whole : (es : List Entry) → sampled st es place s ≡ drawn_content st es place c.args.entry.content = λ es.
    ap₂ (λ l f. cond l (turned_away st es (Stamp place)) (cond f (sampled st es place s) (turned_away st es (Crowded place)))) in-time (sym fits)
    ∙ ap (drawn_content st es place) (sym is) in
    record {
      answer = λ es. c.ok_or-2.ensures.value ∙ c.accept.ensures.answer es place ∙ ap (λ (d : Drawn). d.answer) (whole es);
      state = λ es.
          by_ok_or (λ lines. counted st' ≡ (drawn_content st es place c.args.entry.content).state) (st' ≡ st) c.accept.result (Slots place) c.ok_or-2.result
          c.ok_or-2.ensures.value
          (subst (λ (d : Drawn). MatchOption c.accept.result (st' ≡ st) (λ lines. counted st' ≡ d.state)) (whole es) (c.accept.ensures.state es place));
      tray = λ es. c.accept.ensures.tray es place ∙ ap (λ (d : Drawn). onto d.lines c.args.tray.now) (whole es);
      drawn = c.accept.ensures.drawn;
    }
