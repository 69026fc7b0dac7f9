-- What is left to prove of `judge`.
use Rattle.std.proofs.Common.{◌≡◌, ℕ, ◌<◌, Bool, true, false, cond, List, ◌∷◌, length, is_ok, Ok, Result, sym, ap, ◌∙◌, subst, arith}
use Rattle.std.proofs.lemmas.List.{length-take-le}
use Rattle.truth.specs.Plain.{plainly}
use Rattle.rule.specs.Reading.{records}
use Rattle.rule.specs.Components.{components}
use Rattle.instant.specs.declared.refusal.StepRefusal.{StepRefusal}
use Rattle.instant.specs.Answers.{step_answer, with_value}
use Rattle.instant.specs.Step.{ruled, values, shelf_after}
use Rattle.instant.specs.Runs.{Run, taken, Judged}
use Rattle.instant.proofs.Runs.{says_judged}
use Rattle.instant.proofs.watch.InstantWatch.judge.Goals as goal

-- a good answer carries the value
answer_with : {T : Type 0} (a r : Result (Unit {0}) StepRefusal) (u : Unit {0}) (x v : T) → r ≡ a → r ≡ Ok u → x ≡ v → Ok x ≡ with_value a v
answer_with a r u x v p q e = ap Ok e ∙ ap (λ (y : Result (Unit {0}) StepRefusal). with_value y v) (sym q ∙ p)

-- what a call leaves where it succeeds
good : {A : Type 0} (b : Bool) (x y z : A) → b ≡ true → x ≡ cond b y z → x ≡ y
good true x y z p e = e
good false x y z p e = absurd (let w : ◌≡◌ {A = ℕ} 0 1 = cc in omega arith)

pub returns : goal.returns
returns c =
    let w = c.args.self.now in
    let rs = records w.rule in
    let S = c.args.shelf.now in
    let t = c.args.sample.stamp in
    let r = c.step.result in
    let e = c.spelled-letters.ensures in
    let was = c.in_ok-step.was in
    let ok : is_ok r ≡ true = ap is_ok was in
    let some : 0 < length rs = omega (arith, length-take-le w.rule.len w.rule.table (omega arith)) in
    record {
      answer = answer_with _ r c.in_ok-step.field-0 c.step.new.place _
          (c.step.ensures.answer ∙ ap (λ (ls : List Bool). step_answer (components rs) w.newest t (length ls) (length S)) e) was
          (good (is_ok r) _ _ _ ok c.step.ensures.place ∙ ap (λ ls. ruled plainly rs (values plainly rs w.newest t ls S)) e);
      shelf = good (is_ok r) _ _ _ ok c.step.ensures.shelf ∙ ap (λ ls. shelf_after plainly rs w.newest t ls S) e;
      newest = good (is_ok r) _ _ _ ok c.step.ensures.newest;
      rule = c.step.ensures.rule;
      runs = λ ps run x. subst (λ ls. Run plainly rs (taken plainly t ls ∷ ps) c.step.new.self.newest c.step.new.shelf) e (c.step.ensures.runs ps run ok);
      says = λ ps run. says_judged rs w.rule.sound w.past _ ps c.step.new.place some
          (subst (λ ls. Judged plainly rs (taken plainly t ls) ps c.step.new.place) e (c.step.ensures.judged ps run ok));
    }
