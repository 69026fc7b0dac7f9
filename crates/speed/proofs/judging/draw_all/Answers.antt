-- One draw more, and its lines.
use Rattle.std.proofs.Common.{◌≡◌, ◌-◌, length, take, sym, refl, ap, ◌∙◌, arith, rules}
use native.Mathlib.Nat.{sub-zero}
use Rattle.std.proofs.lemmas.List.{length-take-le}
use Rattle.watch.specs.States.{state}
use Rattle.speed.specs.Tallies.{course, tallied}
use Rattle.speed.proofs.Counting.{further, given_few, given_front, room}
use Rattle.speed.proofs.Refused.{refused_lines}
use Rattle.speed.proofs.judging.draw_all.Goals as goal
use Rattle.speed.proofs.judging.draw_all.Goals.{in-Ok, in_default}

pub loop-k-init : goal.loop-k-init
unfolding course
loop-k-init g c = (refl, record { few = omega arith; state = refl; rest = refl; tally = refl })

pub slice_bounds-add_all-end : goal.slice_bounds-add_all-end
slice_bounds-add_all-end g c =
    let few = given_few (state c.loop-k.watch) (g.F.Feed.entries c.loop-k.feed) (length c.loop-k.tray) c.in-Ok.given c.in-Ok.ensures.answer in
    search rules

pub add_all-requires : goal.add_all-requires
add_all-requires g c =
    let n = c.in-Ok.given in
    let ls = c.draw.new.tray in
    let few = given_few (state c.loop-k.watch) (g.F.Feed.entries c.loop-k.feed) (length c.loop-k.tray) n c.in-Ok.ensures.answer in
    let long = c.loop-k.invariant.0 in
    let kept = c.draw.auto.tray in
    let part = length-take-le n ls (omega arith) in
    let same : n - 0 ≡ n = omega arith in
    let low = c.ranges.draws.fits in
    let fits = room (state c.args.watch.now) (g.F.Feed.entries c.args.feed.now) c.loop-k._k (length c.loop-k.tray) (state c.loop-k.watch) (g.F.Feed.entries c.loop-k.feed) c.loop-k.tally c.loop-k.invariant.1 long n (omega arith) (omega arith) in
    rw same (rw part fits)

pub loop-k-preserved : goal.loop-k-preserved
loop-k-preserved g c =
    let st = state c.args.watch.now in
    let es = g.F.Feed.entries c.args.feed.now in
    let st₁ = state c.loop-k.watch in
    let es₁ = g.F.Feed.entries c.loop-k.feed in
    let m = length c.loop-k.tray in
    let so_far = c.loop-k.invariant.1 in
    let long = c.loop-k.invariant.0 in
    let kept = c.draw.auto.tray in (
      kept ∙ long,
      further st es c.loop-k._k m st₁ es₁ c.loop-k.tally so_far long _ _ _ c.draw.ensures.state c.draw.ensures.entries
          (elim c.match-draw.branch [
            | in-Ok w ↦ w.tally-is ∙ w.add_all.ensures ∙ ap (tallied c.loop-k.tally) (ap (λ k. take k c.draw.new.tray) (sub-zero w.in-Ok.given) ∙ ap (take w.in-Ok.given) c.draw.ensures.tray ∙ given_front st₁ es₁ m w.in-Ok.given c.loop-k.tray w.in-Ok.ensures.answer)
            | in_default w ↦ w.tally-is ∙ sym (ap (tallied c.loop-k.tally) (refused_lines st₁ es₁ m w.in_default.field-0 w.in_default.ensures.answer))
          ]),
    )
