-- What is left to prove of `print_card`.
use Rattle.std.proofs.Common.{vec_items, ap, ◌∙◌, arith}
use Rattle.std.proofs.lemmas.Result.{IfOk-from_err}
use Rattle.rule.specs.Reading.{asked, read_table, watch_questions}
use Rattle.rule.proofs.Readings.{tables_sound}
use Rattle.watch.specs.States.{state}
use Rattle.lines.specs.Reports.{line_bytes}
use Rattle.printing.proofs.Beginning.{after_none, card_print, long_print, none_drawn, refused_print}
use Rattle.printing.proofs.Telling.{all_told, card_few}
use Rattle.printing.proofs.card.print_card.Goals as goal
use Rattle.printing.proofs.card.print_card.Goals.{in-Err+in_ok-put_report-in-Err, in-Ok+in_ok-put_report-in-Ok, in-Ok-2+in_ok-put_card-in-Ok-2}

pub put_card-requires : goal.put_card-requires
put_card-requires c =
    let x = asked (watch_questions 128) (read_table c.args.rule.now) in
    let none = none_drawn x c.in-Ok-2.field-0 (state c.fit.new.self) (state c.new-watch.result) c.in-Ok-2.ensures.answer c.in-Ok-2.ensures.state in
    let few = card_few c.args.card.now c.if-card-gt-MOST_CARD_BYTES.false in
    omega arith

pub returns-in_err-put_card-in-Ok-2 : goal.returns-in_err-put_card-in-Ok-2
returns-in_err-put_card-in-Ok-2 c =
    let x = asked (watch_questions 128) (read_table c.args.rule.now) in
    record {
      text = IfOk-from_err c.from_residual-in_err-put_card-in-Ok-2.result _ c.from_residual-in_err-put_card-in-Ok-2.ensures.0;
      promise = λ rs e h. all_told x c.args.card.now rs (tables_sound 128 c.args.rule.now rs e) e h;
    }

pub returns : goal.returns
returns c =
    let x = asked (watch_questions 128) (read_table c.args.rule.now) in
    let card = c.args.card.now in
    record {
      text = elim c.match-fit.branch [
        | in-Err+in_ok-put_report-in-Err w ↦
            refused_print x card w.in-Err.refusal (vec_items c.match-fit.out) w.in-Err.ensures.answer
            (ap vec_items w.out-is ∙ w.in_ok-put_report-in-Err.ensures ∙ after_none c.new-out.ensures.items ∙ ap line_bytes w.from.ensures)
        | in-Ok+in_ok-put_report-in-Ok w ↦
            long_print x card w.in-Ok.field-0 (vec_items c.match-fit.out) w.in-Ok.ensures.answer w.if-card-gt-MOST_CARD_BYTES.true
            (ap vec_items w.out-is ∙ w.in_ok-put_report-in-Ok.ensures ∙ after_none c.new-out.ensures.items)
        | in-Ok-2+in_ok-put_card-in-Ok-2 w ↦
            card_print x card w.in-Ok-2.field-0 (state c.fit.new.self) (state c.new-watch.result) (vec_items c.match-fit.out) w.in-Ok-2.ensures.answer
            w.if-card-gt-MOST_CARD_BYTES.false w.in-Ok-2.ensures.state (ap vec_items w.out-is ∙ w.in_ok-put_card-in-Ok-2.ensures ∙ after_none c.new-out.ensures.items)
      ];
      promise = λ rs e h. all_told x card rs (tables_sound 128 c.args.rule.now rs e) e h;
    }
