-- What a card that is judged by an instant watch brings.
use Rattle.std.specs.Prelude.{ℕ, ◌+◌, ◌-◌, ◌^◌, min, Bool, true, false, cond, List, length, Some, None, Ok, Err, Option, Result, ◌==◌, nat_le, nat_lt}
use Rattle.truth.specs.Plain.{plainly}
use Rattle.feed.specs.Entries.{letter_count}
use Rattle.feed.specs.Entries.{Content}
use Rattle.feed.specs.declared.entry.Entry.{Entry}
use Rattle.feed.specs.declared.entry.Sample.{Sample}
use Rattle.instant.specs.declared.refusal.StepRefusal.{StepRefusal}
use Rattle.instant.specs.Answers.{step_answer, step_number, with_value}
use Rattle.instant.specs.Runs.{word_letters}
use Rattle.instant.specs.Step.{ruled, values}
use Rattle.rule.specs.Components.{components}
use Rattle.rule.specs.declared.record.Record.{Record}
use Rattle.rule.specs.Reading.{Read, records}
use Rattle.rule.specs.Refusals.{refusal_number}
use Rattle.lines.specs.declared.report.Report.{Report}
use Rattle.lines.specs.declared.report.Report.TheVariants.{Line, Refused, Spoiled, Held, Counts, RuleRefused, LogTooLong}
use Rattle.logic.specs.declared.verdict.Line.TheVariants.{True, False}
use Rattle.log_to_lines.specs.declared.session.Session.{Session}

-- how a card of n bytes begins, by what was read of the rule: with its records, or with the one line that is printed
abbrev pub begins : Read → ℕ → Result (List Record) Report
begins (Err e) n = Err (RuleRefused (refusal_number e))
begins (Ok rs) n = cond (nat_le n 60000) (Ok rs) (Err LogTooLong)

-- what a call that begins a card answers
abbrev pub told : Result Session Report → Result (List Record) Report
told (Ok s) = Ok (records s.watch.rule)
told (Err r) = Err r

-- the offset of a new point at stamp t, after a newest point at the stamp s and the offset o; a stamp has room for 65,536
abbrev pub offset_after : Option ℕ → ℕ → ℕ → Option ℕ
offset_after None o t = Some 0
offset_after (Some s) o t = cond (s == t) (cond (nat_lt (o + 1) (2 ^ 16)) (Some (o + 1)) None) (Some 0)

-- what the instant watch answers to a sample, with the stamp p of the newest point and the shelf S
abbrev pub judged : List Record → Option ℕ → List Bool → Sample → Result Bool StepRefusal
judged rs p S s =
    with_value (step_answer (components rs) p s.stamp letter_count (length S))
    (ruled plainly rs (values plainly rs p s.stamp (word_letters s.letters) S))

-- the line of a point that is judged
abbrev pub verdict : ℕ → ℕ → Bool → Report
verdict t o true = Line (True (record { stamp = t; offset = o }))
verdict t o false = Line (False (record { stamp = t; offset = o }))

-- what a sample brings
abbrev pub sample_report : ℕ → ℕ → Option ℕ → Result Bool StepRefusal → Report
sample_report place t None answer = Refused place 26
sample_report place t (Some o) (Err e) = Refused place (step_number e)
sample_report place t (Some o) (Ok b) = verdict t o b

abbrev pub content_report : List Record → Option ℕ → List Bool → ℕ → ℕ → Content → Report
content_report rs p S o place (Ok s) = sample_report place s.stamp (offset_after p o s.stamp) (judged rs p S s)
content_report rs p S o place (Err f) = Spoiled place 24 f

-- what an entry brings, with the records, the newest stamp, the shelf and the newest offset of the session
abbrev pub entry_report : List Record → Option ℕ → List Bool → ℕ → Entry → Report
entry_report rs p S o e = content_report rs p S o e.place e.content

-- whether a report is a verdict, so that the entry was accepted
abbrev pub is_verdict : Report → Bool
is_verdict (Line l) = true
is_verdict (Held p) = false
is_verdict (Refused place number) = false
is_verdict (Spoiled place number f) = false
is_verdict (Counts c) = false
is_verdict (RuleRefused n) = false
is_verdict LogTooLong = false

-- one more, up to the largest number of 32 bits
abbrev pub one_more : ℕ → ℕ
one_more n = min (n + 1) (2 ^ 32 - 1)

-- the counts' line
abbrev pub counted : ℕ → ℕ → Report
counted accepted turned = Counts (record { drawn = min (accepted + turned) (2 ^ 32 - 1); accepted = accepted; turned_away = turned; held = 0 })
