-- What a sample or a spoiled entry brings.
use Rattle.std.proofs.Common.{sym, ap, ◌∙◌}
use Rattle.feed.specs.Entries.{Content}
use Rattle.rule.specs.Reading.{records}
use Rattle.log_to_lines.specs.Sessions.{content_report}
use Rattle.log_to_lines.proofs.session.Session.judge_content.Goals as goal

pub returns-in-Ok : goal.returns-in-Ok
returns-in-Ok c =
    let s = c.args.self.now in
    record {
      report = c.judge_sample.ensures.report
          ∙ sym (ap (λ (x : Content). content_report (records s.watch.rule) s.watch.newest s.shelf s.offset c.args.entry.place x) c.in-Ok.is);
      rule = c.judge_sample.ensures.rule;
      accepted = c.judge_sample.ensures.accepted;
      turned = c.judge_sample.ensures.turned;
    }
