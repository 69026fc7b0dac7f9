-- What is left to prove of `step`.
use Rattle.std.proofs.Common.{◌<◌, length, sym, refl, ap, ◌∙◌, arith}
use Rattle.std.proofs.lemmas.List.{length-take-le}
use Rattle.rule.specs.Reading.{records}
use Rattle.rule.specs.Components.{components}
use Rattle.instant.specs.Step.{advanced, ruled, values_at}
use Rattle.instant.proofs.Runs.{good_room, run_more, more_witnessed, more_judged, ruled_after}
use Rattle.instant.proofs.watch.InstantWatch.step.Goals as goal

pub advance-requires : goal.advance-requires
advance-requires g c =
    let w = c.args.self.now in
    good_room (components (records w.rule)) w.newest c.args.stamp (length c.args.letters.now) (length c.args.shelf.now) (sym c.in_ok-ask.ensures)

pub returns : goal.returns
returns g c =
    let k = g.T.Truth.ops in
    let laws = g.met.T.Truth.laws in
    let w = c.args.self.now in
    let rs = records w.rule in
    let ls = c.args.letters.now in
    let S = c.args.shelf.now in
    let R = c.advance.new.shelf in
    let t = c.args.stamp in
    let ok = sym c.in_ok-ask.ensures in
    let room = good_room (components rs) w.newest t (length ls) (length S) ok in
    let some : 0 < length rs = omega (arith, length-take-le w.rule.len w.rule.table (omega arith)) in
    let after = c.advance.ensures ∙ ap (λ gap. advanced k rs gap ls S) c.gap_to-gap.ensures in
    record {
      answer = c.in_ok-ask.ensures;
      shelf = after;
      place = c.last_value.ensures ∙ ap (ruled k rs) c.advance.ensures ∙ ruled_after k rs c.gap_to-gap.result ls S some room
          ∙ ap (λ gap. ruled k rs (values_at k rs gap ls S)) c.gap_to-gap.ensures;
      newest = refl;
      rule = refl;
      runs = λ ps run e. run_more k laws rs w.rule.sound w.past some w.newest t ls S R ok after ps run;
      witnessed = λ ps run e. more_witnessed k laws rs w.rule.sound w.past some w.newest t ls S R ok after ps run;
      judged = λ ps run e. more_judged k laws rs w.rule.sound w.past some w.newest t ls S R ok after ps run c.last_value.result c.last_value.ensures;
    }
