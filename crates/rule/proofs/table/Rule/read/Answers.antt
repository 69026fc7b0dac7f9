-- What is left to prove of `read`.
use Rattle.std.proofs.Common.{◌<◌, ◌≤◌, length, ◌∙◌, arith, rules}
use Rattle.std.proofs.lemmas.List.{take_rest, length-drop, length-set}
use Rattle.rule.proofs.Readings.{goes_on_in, sound_more}
use Rattle.rule.proofs.table.Rule.read.Goals as goal

pub loop-rest-preserved : goal.loop-rest-preserved
loop-rest-preserved c =
    let xs = c.loop-rest.rest.now in
    let t = c.loop-rest.table in
    let n = c.loop-rest.len in
    let long : 5 ≤ length xs = search rules in
    let few : n < length t = omega arith in
    rw (c.from.ensures, c.record.ensures, take_rest xs 5) (
      simp length-set c.loop-rest.invariant.0,
      omega (arith, length-drop 5 xs),
      c.loop-rest.invariant.2,
      sound_more t n xs few c.in_ok-check.ensures c.loop-rest.invariant.3,
      c.loop-rest.invariant.4 ∙ goes_on_in t n xs few long c.in_ok-check.ensures,
    )
