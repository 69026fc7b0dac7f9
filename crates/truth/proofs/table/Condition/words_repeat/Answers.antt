-- Equal parts of the words have equal words at each place.
use Rattle.std.proofs.Common.{◌+◌, ◌-◌, ◌<◌, get_or, ap, sym, ◌∙◌, get_or-take, get_or-drop, arith}
use Rattle.std.proofs.lemmas.Bool.Decides.{Decides-eqb}
use Rattle.std.proofs.lemmas.Slice.Eq.{slice_eq-Decides}
use Rattle.truth.proofs.table.Condition.words_repeat.Goals as goal

pub returns : goal.returns
returns c e k l =
    let ws = c.args.self.now.words in
    let first = c.args.first in
    let second = c.args.first + c.args.count in
    let short : k < second - first = omega arith in
    let short' : k < second + c.args.count - second = omega arith in
    sym (get_or-take _ _ k 0 short ∙ get_or-drop first ws k 0)
    ∙ ap (λ xs. get_or xs k 0) ((slice_eq-Decides Decides-eqb _ _ _ c.eq.ensures).0 e)
    ∙ get_or-take _ _ k 0 short' ∙ get_or-drop second ws k 0
