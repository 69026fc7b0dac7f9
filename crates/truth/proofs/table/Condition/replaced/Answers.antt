-- All waits are carried that have a condition.
use Rattle.std.proofs.Common.{◌^◌, ◌≤◌, ◌∙◌, arith, pow_mono}
use native.Mathlib.Nat.{zero-mod}
use Rattle.truth.specs.Words.{wait_count}
use Rattle.truth.proofs.Parts.{part_all, part_rest}
use Rattle.truth.proofs.table.Condition.replaced.Goals as goal

pub carried-requires : goal.carried-requires
carried-requires c =
    let m = c.min.result in
    let least = c.min.ensures in
    let few : m ≤ wait_count = omega arith in
    let power = pow_mono few in
    record { few = few; room = omega arith; start = zero-mod (2 ^ m); given = omega arith }

pub returns : goal.returns
returns c = c.carried.ensures ∙ part_rest c.args.by.now c.args.self.now 0 c.min.result c.min.ensures ∙ part_all c.args.by.now c.args.self.now
