-- What is left to prove of `put_card`.
use Rattle.std.proofs.Common.{◌≡◌, true, false, length, vec_items, sym, ap, ◌∙◌, arith}
use Rattle.std.proofs.lemmas.List.{length-take-le}
use Rattle.std.proofs.lemmas.Result.{IfOk-weaker}
use Rattle.feed.specs.Lists.{some_left}
use Rattle.feed.specs.RecordFeeds.{to_come}
use Rattle.logic.specs.States.{State}
use Rattle.watch.specs.States.{state}
use Rattle.printing.proofs.Prints.{Step, card_end, card_more, card_step}
use Rattle.printing.proofs.card.put_card.Goals as goal

-- one entry more
step : (c : goal.In_ok-put_draw) → Step (length c.loop-feed.tray) (state c.loop-feed.watch) (to_come c.loop-feed.feed)
step c =
    let w = c.loop-feed.watch in
    let long = length-take-le w.count w.held (omega arith) in
    let some : true ≡ some_left (to_come c.loop-feed.feed) = sym c.loop-feed-test.true ∙ c.has_entry.ensures in
    card_step (length c.loop-feed.tray) c.loop-feed.invariant.1 (state w) (to_come c.loop-feed.feed) some c.loop-feed.invariant.0 (omega arith)

pub loop-feed-smaller : goal.loop-feed-smaller
loop-feed-smaller c =
    let d = c.in_ok-put_draw.ensures in
    let rest = ap length d.entries in
    let falls = (step c).falls in
    omega arith

pub loop-feed-preserved : goal.loop-feed-preserved
loop-feed-preserved c =
    let d = c.in_ok-put_draw.ensures in
    let rest = ap length d.entries in
    let drawn = ap (λ (s : State). s.drawn) d.state in
    let count = (step c).count in
    let before = c.loop-feed.invariant.0 in
    let long = c.loop-feed.invariant.1 in
    let kept = c.put_draw.auto in (
      omega arith,
      omega arith,
      card_more (length c.loop-feed.tray) (state c.loop-feed.watch) (state c.put_draw.new.watch) (to_come c.loop-feed.feed) (to_come c.put_draw.new.feed)
          (vec_items c.loop-feed.out) (vec_items c.put_draw.new.out) _ (step c) d.state d.entries d.text c.loop-feed.invariant.2,
    )

pub returns : goal.returns
returns c =
    let none : false ≡ some_left (to_come c.loop-feed.feed) = sym c.loop-feed-test.false ∙ c.has_entry.ensures in
    IfOk-weaker c.put_counts.result _ _
    (λ u e. card_end (state c.loop-feed.watch) (to_come c.loop-feed.feed) (vec_items c.loop-feed.out) (vec_items c.put_held.new.out) (vec_items c.put_counts.new.out) _
    none c.in_ok-put_held.ensures e c.loop-feed.invariant.2)
    c.put_counts.ensures
