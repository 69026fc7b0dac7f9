-- What holds of the entries of any bytes.
use Rattle.feed.proofs.Reading.{counted_entries, sound_entries}
use Rattle.feed.proofs.record_feed.reading.entries_stand.Goals as goal

pub returns : goal.returns
returns c = record { sound = sound_entries 0; count = counted_entries 0 }
