-- Single waits and replaced waits: what they mean at each setting.
use Rattle.std.proofs.Common.{◌≡◌, ℕ, ◌<◌, List, get_or, sym, ◌∙◌}
use Rattle.truth.specs.Words.{wait_count, settings, bit}
use Rattle.truth.specs.Tables.{means, openly}
use Rattle.truth.specs.Replacing.{packed_lt, waiting, replacing, setting_of, replaced}
use Rattle.truth.specs.declared.table.Condition.{Condition}
use Rattle.truth.specs.Meaning.{meant}
use Rattle.truth.proofs.Packing.{bit_packed, is_tabled, means_tabled}

-- a wait alone
pub waiting_means : (w n : ℕ) → n < settings → means (waiting w) n ≡ bit n w
waiting_means w n h = means_tabled (λ m. bit m w) n h

-- the setting that conditions make of a setting
pub setting_lt : (cs : List Condition) (n : ℕ) → setting_of cs n < settings
setting_lt cs n = packed_lt (replacing cs n) wait_count

pub setting_bit : (cs : List Condition) (n w : ℕ) → w < wait_count → bit (setting_of cs n) w ≡ means (get_or cs w openly.never) n
setting_bit cs n w h = bit_packed (replacing cs n) wait_count w h

-- replaced waits
pub replaced_means : (cs : List Condition) (c : Condition) (n : ℕ) → n < settings → means (replaced cs c) n ≡ means c (setting_of cs n)
replaced_means cs c n h = means_tabled (λ m. means c (setting_of cs m)) n h

-- never stays never
pub replaced_never : (cs : List Condition) → openly.never ≡ replaced cs openly.never
replaced_never cs =
    is_tabled openly.never (λ n. means openly.never (setting_of cs n)) (λ n h. meant.never n h ∙ sym (meant.never (setting_of cs n) (setting_lt cs n)))
