-- The verdict is that of the definitions, test by test.
use Rattle.std.proofs.Common.{◌≡◌, Bool, true, false, cond, List, Some, Decides, ap, ◌∙◌, ap₂, rules}
use Rattle.truth.specs.Tables.{openly}
use Rattle.logic.specs.declared.verdict.HeldPoint.{HeldPoint}
use Rattle.logic.specs.declared.verdict.Line.TheVariants.{True, False}
use Rattle.logic.specs.Draws.{alike, found}
use Rattle.logic.proofs.Represented.{alike_decides}
use Rattle.watch.specs.Treatments.{joined_to, verdict_on}
use Rattle.watch.proofs.Lookups.{alike_is}
use Rattle.watch.proofs.treating.verdict_on.Goals as goal

by_tests : (held : List HeldPoint) (h : HeldPoint) (a b : Bool) → Decides a (h.condition ≡ openly.always) → Decides b (h.condition ≡ openly.never)
    → cond a (Some (True h.point)) (cond b (Some (False h.point)) (joined_to h (found h.condition held))) ≡ verdict_on held h
by_tests held h a b d e =
    ap₂ (λ x y. cond x (Some (True h.point)) (cond y (Some (False h.point)) (joined_to h (found h.condition held))))
    (alike_is h.condition openly.always a d) (alike_is h.condition openly.never b e)

pub returns-then-is_always : goal.returns-then-is_always
returns-then-is_always c =
    let h = c.args.point.now in
    by_tests c.args.held.now h true (alike h.condition openly.never) c.if-is_always.ensures (alike_decides h.condition openly.never)

pub returns-then-is_never : goal.returns-then-is_never
returns-then-is_never c = by_tests c.args.held.now c.args.point.now false true c.if-is_always.ensures c.if-is_never.ensures

pub returns : goal.returns
returns c =
    let h = c.args.point.now in
    let joined : c.map.result ≡ joined_to h c.find.result = search rules in
    joined ∙ ap (joined_to h) c.find.ensures ∙ by_tests c.args.held.now h false false c.if-is_always.ensures c.if-is_never.ensures
