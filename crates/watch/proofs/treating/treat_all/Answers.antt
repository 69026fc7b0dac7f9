-- One point more, and all of them.
use Rattle.std.proofs.Common.{◌≡◌, ◌+◌, ◌-◌, ◌<◌, length, take, Some, None, Option, sym, ap, ◌∙◌, ap₂, arith}
use native.Mathlib.Nat.{sub-zero}
use Rattle.feed.specs.Lists.{onto}
use Rattle.logic.specs.declared.verdict.Line.{Line}
use Rattle.logic.specs.declared.verdict.HeldPoint.{HeldPoint}
use Rattle.logic.specs.Draws.{Treated}
use Rattle.watch.specs.Treatments.{verdict_on}
use Rattle.watch.proofs.Treated.{all_of, held_on, progress_as, progress_none, said_on}
use Rattle.watch.proofs.treating.treat_all.Goals as goal
use Rattle.watch.proofs.treating.treat_all.Goals.{in-Some, in-None}

pub loop-i-init : goal.loop-i-init
loop-i-init c = progress_none c.args.points.now c.args.tray.now

pub loop-i-preserved : goal.loop-i-preserved
loop-i-preserved c =
    let xs = c.args.points.now in
    let S = c.args.tray.now in
    let i = c.loop-i.i in
    let P = c.loop-i.points in
    let R = c.loop-i.tray in
    let n = c.loop-i.count in
    let p = c.loop-i.invariant in
    let long = p.long in
    let lt : i < length xs = omega arith in
    let room = c.requires in
    let d : HeldPoint = c.index-points-i.result in
    let whole = ap₂ (λ k h. verdict_on (take k P) h) (sub-zero n) c.index-points-i.is in
    elim c.match-verdict_on.branch [
      | in-Some w ↦ progress_as xs S (i + 1) _ _ _ _ _ _ (said_on xs S i P R n p lt room d w.in-Some.line (let e : Some w.in-Some.line ≡ verdict_on (take (n - 0) P) d = w.in-Some.ensures in e ∙ whole))
          w.points-is w.tray-is w.count-is
      | in-None w ↦ progress_as xs S (i + 1) _ _ _ _ _ _ (held_on xs S i P R n p lt room d (let e : ◌≡◌ {A = Option Line} None (verdict_on (take (n - 0) P) d) = w.in-None.ensures in e ∙ whole))
          (w.points-is ∙ w.move_point.ensures d) w.tray-is w.count-is
    ]

pub returns : goal.returns
returns c =
    let xs = c.args.points.now in
    let p = c.loop-i.invariant in
    let end = c.loop-i.auto.i-end in
    let done = all_of xs c.loop-i.i (omega (arith, p.long)) in
    record {
      held = p.held ∙ ap (λ (t : Treated). t.held) done;
      lines = p.tray ∙ ap (λ (t : Treated). onto t.lines c.args.tray.now) done;
      sum = let last : c.loop-i.i ≡ length xs = omega (arith, p.long) in ap (λ (t : Treated). c.loop-i.count + length t.lines) (sym done) ∙ p.sum ∙ last;
    }
