-- A run by what was read of the rule and how the pattern was made.
use Rattle.std.proofs.Common.{◌≡◌, ℕ, List, Ok, Err, Result, refl, ap, ◌∙◌, ap₂, arith}
use Rattle.feed.specs.declared.entry.Entry.{Entry}
use Rattle.feed.specs.declared.pattern.PatternRefusal.{PatternRefusal}
use Rattle.feed.specs.Patterns.{pattern_number, taken}
use Rattle.rule.specs.Reading.{Read}
use Rattle.rule.specs.Refusals.{refusal_number}
use Rattle.rule.specs.declared.refusal.RuleRefusal.{RuleRefusal}
use Rattle.instant.specs.Answers.{fit_answer}
use Rattle.logic.specs.States.{State}
use Rattle.watch.specs.Fittings.{after_fitting}
use Rattle.speed.specs.declared.run.Counts.{Counts}
use Rattle.speed.specs.declared.tally.Tally.{Tally}
use Rattle.speed.specs.Tallies.{course, none, tallied}
use Rattle.speed.specs.Runs.{counts_of, run_answer, run_counts}

abbrev Made : Type 0
Made = Result (Unit {0}) PatternRefusal

differ : {X : Type 0} → ◌≡◌ {A = ℕ} 0 1 → X
differ z = absurd (omega arith)

-- the rule is refused
pub unread : (R : Read) (e : RuleRefusal) (slots : ℕ) (M : Made) (es : List Entry) (n : ℕ) (old : Counts) → Err e ≡ fit_answer R
    → (refusal_number e ≡ run_answer R M) × (old ≡ run_counts R slots M es n old)
unread (Ok rs) e slots M es n old h = differ (cc)
unread (Err f) e slots M es n old h = let same : e ≡ f = cc in (ap refusal_number same, refl)

-- the pattern is refused
pub unmade : (R : Read) (M : Made) (u : Unit {0}) (e : PatternRefusal) (slots : ℕ) (es : List Entry) (n : ℕ) (old : Counts) → Ok u ≡ fit_answer R → Err e ≡ M
    → (pattern_number e ≡ run_answer R M) × (old ≡ run_counts R slots M es n old)
unmade (Err f) M u e slots es n old h k = differ (cc)
unmade (Ok rs) (Ok v) u e slots es n old h k = differ (cc)
unmade (Ok rs) (Err f) u e slots es n old h k = let same : e ≡ f = cc in (ap pattern_number same, refl)

-- the draws are made
pub run_through : (R : Read) (M : Made) (u v : Unit {0}) (slots : ℕ) (es : List Entry) (n : ℕ) (old : Counts) → Ok u ≡ fit_answer R → Ok v ≡ M
    → (st₀ st₁ st₂ : State) (es₀ es₁ : List Entry) (t : Tally) (now : Counts) → st₁ ≡ after_fitting R slots st₀ → es₁ ≡ taken M es es₀
    → t ≡ tallied none (course st₁ es₁ n).lines → st₂ ≡ (course st₁ es₁ n).state → now ≡ counts_of t st₂
    → (0 ≡ run_answer R M) × (now ≡ run_counts R slots M es n old)
run_through (Err f) M u v slots es n old h k st₀ st₁ st₂ es₀ es₁ t now a b c d e = differ (cc)
run_through (Ok rs) (Err f) u v slots es n old h k st₀ st₁ st₂ es₀ es₁ t now a b c d e = differ (cc)
run_through (Ok rs) (Ok w) u v slots es n old h k st₀ st₁ st₂ es₀ es₁ t now a b c d e =
    (refl, e ∙ ap₂ counts_of c d ∙ ap₂ (λ s l. counts_of (tallied none (course s l n).lines) (course s l n).state) a b)
