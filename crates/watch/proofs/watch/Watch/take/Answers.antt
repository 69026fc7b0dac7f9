-- An entry that is refused is turned away.
use Rattle.std.proofs.Common.{ap, ◌∙◌}
use Rattle.logic.specs.Draws.{turned_state}
use Rattle.watch.specs.States.{state}
use Rattle.watch.proofs.Drawn.{refused_state}
use Rattle.watch.proofs.watch.Watch.take.Goals as goal

pub returns-in-Err-clause-state : goal.returns-in-Err-clause-state
returns-in-Err-clause-state c = λ es.
    ap turned_state (c.in-Err.ensures.state es)
    ∙ refused_state (state c.args.self.now) es c.args.entry.place c.args.entry.content c.in-Err.field-0 (c.in-Err.ensures.answer es)
