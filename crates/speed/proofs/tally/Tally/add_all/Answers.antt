-- One line more, and all of them.
use Rattle.std.proofs.Common.{◌<◌, length, get_or, take, sym, ap, ◌∙◌, arith}
use Rattle.std.proofs.lemmas.List.{length-take-le, take_all}
use Rattle.logic.specs.declared.verdict.Line.TheVariants.{True}
use Rattle.logic.specs.declared.verdict.Line.{Line}
use Rattle.speed.specs.Tallies.{counted, size, tallied}
use Rattle.speed.proofs.Counting.{size_tallied, tallied_more}
use Rattle.speed.proofs.tally.Tally.add_all.Goals as goal

pub add-requires : goal.add-requires
add-requires c =
    let i = c.loop-line.line-index in
    let ls = c.args.lines.now in
    let within : i < length ls = omega arith in
    let room = c.requires in
    let long = length-take-le i ls (omega arith) in
    let so_far = ap size c.loop-line.invariant ∙ size_tallied c.args.self.now (take i ls) in
    omega arith

pub loop-line-preserved : goal.loop-line-preserved
loop-line-preserved c =
    let i = c.loop-line.line-index in
    let ls = c.args.lines.now in
    let d : Line = True (record { stamp = 0; offset = 0 }) in
    let more = tallied_more c.args.self.now ls i d (omega arith) in
    c.add.ensures ∙ ap (λ t. counted t (get_or ls i d)) c.loop-line.invariant ∙ sym more

pub returns : goal.returns
returns c =
    let i = c.loop-line.line-index in
    let ls = c.args.lines.now in
    c.loop-line.invariant ∙ ap (tallied c.args.self.now) (take_all i ls (omega arith))
