-- Heights are at most 15.
use Rattle.std.specs.Prelude.{ℕ, ◌≤◌}
use Rattle.std.proofs.Common.{arith, lit≤}
use Rattle.feed.specs.Layers.{above}

-- the height 0, of a feed that rests on no other
pub ground_low : 0 ≤ 15
ground_low = lit≤ tt

-- the height of a layer
pub above_low : (h : ℕ) → above h ≤ 15
above_low h = omega arith
