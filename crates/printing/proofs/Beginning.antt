-- The print of a card by what the fitting answered.
use Rattle.std.proofs.Common.{◌≡◌, ℕ, ◌<◌, ◌≤◌, leb, List, [], ◌∷◌, ◌++◌, length, Ok, Err, Result, sym, ap, ◌∙◌, arith}
use Rattle.std.proofs.lemmas.List.{append-nil}
use Rattle.std.proofs.lemmas.Bool.{cond-false, cond-true, le-leb, lt-leb}
use Rattle.feed.specs.Records.{entries_of}
use Rattle.rule.specs.declared.refusal.RuleRefusal.{RuleRefusal}
use Rattle.rule.specs.Limits.{most_slots}
use Rattle.rule.specs.Reading.{Read}
use Rattle.rule.specs.Refusals.{refusal_number}
use Rattle.instant.specs.Answers.{fit_answer}
use Rattle.logic.specs.States.{State, fitted}
use Rattle.lines.specs.Reports.{line_bytes}
use Rattle.lines.specs.declared.report.Report.TheVariants as report
use Rattle.watch.specs.Fittings.{after_fitting}
use Rattle.printing.specs.Reports.{all_reports, card_reports, most_card_bytes, printed}

not_refused : {A : Type 0} (u : Unit {0}) (e : RuleRefusal) → ◌≡◌ {A = Result (Unit {0}) RuleRefusal} (Err e) (Ok u) → A
not_refused u e q = absurd (let z : ◌≡◌ {A = ℕ} 0 1 = cc in omega arith)

-- behind an empty text
pub after_none : {text line : List ℕ} → text ≡ [] → text ++ line ≡ line
after_none {line = line} e = ap (λ z. z ++ line) e

pub none_drawn : (x : Read) (u : Unit {0}) (st old : State) → Ok u ≡ fit_answer x → st ≡ after_fitting x most_slots old → st.drawn ≡ 0
none_drawn (Ok rs) u st old a e = ap (λ (s : State). s.drawn) e
none_drawn (Err f) u st old a e = not_refused u f (sym a)

pub refused_print : (x : Read) (card : List ℕ) (f : RuleRefusal) (text : List ℕ) → Err f ≡ fit_answer x → text ≡ line_bytes (report.RuleRefused (refusal_number f)) → text ≡ printed (all_reports x card)
refused_print (Ok rs) card f text a e = not_refused tt f a
refused_print (Err g) card f text a e =
    let same : f ≡ g = cc in e ∙ ap (λ h. line_bytes (report.RuleRefused (refusal_number h))) same ∙ sym (append-nil (line_bytes (report.RuleRefused (refusal_number g))))

pub long_print : (x : Read) (card : List ℕ) (u : Unit {0}) (text : List ℕ) → Ok u ≡ fit_answer x → most_card_bytes < length card → text ≡ line_bytes report.LogTooLong → text ≡ printed (all_reports x card)
long_print (Err f) card u text a h e = not_refused u f (sym a)
long_print (Ok rs) card u text a h e =
    e ∙ sym (append-nil (line_bytes report.LogTooLong))
    ∙ sym (ap printed (cond-false (leb (length card) most_card_bytes) (card_reports (fitted rs most_slots) (entries_of card)) (report.LogTooLong ∷ []) (lt-leb (length card) most_card_bytes h)))

pub card_print : (x : Read) (card : List ℕ) (u : Unit {0}) (st old : State) (text : List ℕ) → Ok u ≡ fit_answer x → length card ≤ most_card_bytes → st ≡ after_fitting x most_slots old
    → text ≡ printed (card_reports st (entries_of card)) → text ≡ printed (all_reports x card)
card_print (Err f) card u st old text a h s e = not_refused u f (sym a)
card_print (Ok rs) card u st old text a h s e =
    e ∙ ap (λ z. printed (card_reports z (entries_of card))) s
    ∙ sym (ap printed (cond-true (leb (length card) most_card_bytes) (card_reports (fitted rs most_slots) (entries_of card)) (report.LogTooLong ∷ []) (le-leb (length card) most_card_bytes h)))
