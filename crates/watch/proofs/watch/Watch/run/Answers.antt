-- A run on a rule that is fitted, and on one that is refused.
use Rattle.std.proofs.Common.{◌≡◌, ◌<◌, min, length, take, Err, sym, ap, ◌∙◌, arith, rules}
use Rattle.std.proofs.lemmas.List.{length-take-le}
use Rattle.feed.specs.Lists.{onto}
use Rattle.rule.specs.Reading.{asked, read_table, records, watch_questions}
use Rattle.watch.specs.States.{state}
use Rattle.watch.specs.Calls.{Played, run_answer, stage_at, stages}
use Rattle.watch.proofs.Calling.{bad_played, bad_run, fitted_table, good_played, good_run, kept_stages, never_both, stages_reached}
use Rattle.watch.proofs.watch.Watch.run.Goals as goal

pub returns : goal.returns
returns g c =
    let slots = c.args.slots in
    let x = asked (watch_questions slots) (read_table c.args.bytes.now) in
    let old = state c.args.self.now in
    let w = c.fit.new.self in
    let st = state w in
    let es = g.F.Feed.entries c.args.feed.now in
    let calls = c.args.calls.now in
    let S = c.args.answers.now in
    let n = min (length calls) (length S) in
    let u = c.in_ok-fit.field-0 in
    let fine = sym c.in_ok-fit.was ∙ c.fit.ensures.answer in
    let fitting = c.fit.ensures.state in
    let count = c.make_calls.ensures.count in
    let whole = good_played x slots old st es u (take n calls) fine fitting in
    let some : 0 < length (records w.rule) = omega (arith, length-take-le w.rule.len w.rule.table (omega arith)) in
    record {
      answer = good_run x u c.make_calls.result fine ∙ ap (λ k. run_answer x k) count;
      state = c.make_calls.ensures.state ∙ ap (λ k. (stages (stage_at st es) (take k calls)).state) count ∙ ap (λ (p : Played). p.state) whole;
      entries = c.make_calls.ensures.entries ∙ ap (λ k. (stages (stage_at st es) (take k calls)).rest) count ∙ ap (λ (p : Played). p.rest) whole;
      answers = c.make_calls.ensures.answers ∙ ap (λ k. onto (stages (stage_at st es) (take k calls)).answers S) count ∙ ap (λ (p : Played). onto p.answers S) whole;
      reached = λ rs e k. stages_reached rs slots es (take k calls);
      promise = λ rs e k. kept_stages rs (records w.rule) slots es (fitted_table x slots old st rs e fitting) w.rule.sound w.few_waits some (take k calls);
    }

pub returns-in_err-fit : goal.returns-in_err-fit
returns-in_err-fit g c =
    let slots = c.args.slots in
    let x = asked (watch_questions slots) (read_table c.args.bytes.now) in
    let old = state c.args.self.now in
    let es = g.F.Feed.entries c.args.feed.now in
    let calls = c.args.calls.now in
    let S = c.args.answers.now in
    let n = min (length calls) (length S) in
    let f = c.in_err-fit.field-0.0 in
    let fine = sym c.in_err-fit.was ∙ c.fit.ensures.answer in
    let whole = bad_played x slots old es f (take n calls) fine in
    let back : c.from_residual.result ≡ Err f = search rules in
    record {
      answer = back ∙ bad_run x f n fine;
      state = ap state c.in_err-fit.ensures.unchanged ∙ ap (λ (p : Played). p.state) whole;
      entries = ap (λ (p : Played). p.rest) whole;
      answers = ap (λ (p : Played). onto p.answers S) whole;
      reached = λ rs e k. absurd (never_both x f rs fine e);
      promise = λ rs e k. absurd (never_both x f rs fine e);
    }
