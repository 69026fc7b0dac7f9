-- What is said of a point when it is treated.
use Rattle.std.specs.Prelude.{cond, List, [], Some, None, Option}
use Rattle.truth.specs.Tables.{openly}
use Rattle.logic.specs.declared.verdict.HeldPoint.{HeldPoint}
use Rattle.logic.specs.declared.verdict.Line.{Line}
use Rattle.logic.specs.declared.verdict.Line.TheVariants.{True, False, Joined}
use Rattle.logic.specs.declared.verdict.Point.{Point}
use Rattle.logic.specs.Draws.{Treated, alike, found}

-- before any point is treated
abbrev pub untreated : Treated
untreated = record { lines = []; held = [] }

-- a point is joined to one that is held, if there is one
abbrev pub joined_to : HeldPoint → Option Point → Option Line
joined_to h None = None
joined_to h (Some p) = Some (Joined h.point p)

-- the line of a point beside those that are held; none where it is held too
abbrev pub verdict_on : List HeldPoint → HeldPoint → Option Line
verdict_on held h =
    cond (alike h.condition openly.always) (Some (True h.point))
    (cond (alike h.condition openly.never) (Some (False h.point))
    (joined_to h (found h.condition held)))
