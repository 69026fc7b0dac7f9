-- Conditions with the same words are the same.
use Rattle.std.specs.Prelude.{◌≡◌, ℕ, ◌^◌, ◌<◌}
use Rattle.std.proofs.Common.{ap}
use denote.Struct.Cover.{Cover-one}
use Rattle.std.proofs.lemmas.List.FromFn.{fill_by_all}
use Rattle.truth.specs.declared.table.Condition.{Condition}
use Rattle.truth.specs.contracts.table.Condition.{the_type}
use Rattle.truth.specs.Words.{word_count}
use Rattle.truth.specs.Tables.{word, table, made}

pub same_words : (c d : Condition) → c.words ≡ d.words → c ≡ d
same_words c d e = Cover-one the_type.cover the_type.propositions c d (ap (λ w. (w, tt)) e)

pub is_made : (c : Condition) (f : ℕ → ℕ) (h : (i : ℕ) → i < word_count → f i < 2 ^ 64) → ((k : ℕ) → k < word_count → word c k ≡ f k) → c ≡ made f h
unfolding table
is_made c f h e = same_words c (made f h) (fill_by_all f c.words word_count 0 c.long e)
