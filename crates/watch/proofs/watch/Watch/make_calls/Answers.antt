-- No call is made before the first, and then one call more.
use Rattle.std.proofs.Common.{◌≡◌, length, min, refl, arith}
use Rattle.std.proofs.lemmas.List.{get_or-take, length-take-le}
use Rattle.watch.specs.declared.call.Call.TheVariants.{Draw}
use Rattle.watch.proofs.Calling.{made_more}
use Rattle.watch.proofs.watch.Watch.make_calls.Goals as goal

pub loop-i-init : goal.loop-i-init
loop-i-init g c = record { state = refl; entries = refl; answers = refl }

pub loop-i-preserved : goal.loop-i-preserved
loop-i-preserved g c =
    let cs = c.args.calls.now in
    let S = c.args.answers.now in
    let n = c.min-n.result in
    let i = c.loop-i.i in
    let few : n ≡ min (length cs) (length S) = c.min-n.ensures in
    let long = length-take-le n cs (omega arith) in
    made_more _ _ cs S i _ _ _ _ _ _ _ (Draw 0) c.loop-i.invariant (omega arith) (omega arith) (get_or-take n cs i (Draw 0) (omega arith))
    c.answer.ensures.state c.answer.ensures.entries c.answer.ensures.answer
