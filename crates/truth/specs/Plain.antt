-- The plain kind of truth.
use Rattle.std.specs.Prelude.{Bool, true, false, not, ◌&&◌, ◌||◌}
use Rattle.truth.specs.Laws.{Ops}

-- yes and no
abbrev pub plainly : Ops Bool
plainly = record { never = false; always = true; both = ◌&&◌; either = ◌||◌; not = not }
