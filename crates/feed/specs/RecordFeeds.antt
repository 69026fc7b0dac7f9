-- The meaning of a record feed.
use Rattle.std.specs.Prelude.{List}
use Rattle.feed.specs.Records.{entries_from}
use Rattle.feed.specs.declared.entry.Entry.{Entry}
use Rattle.feed.specs.declared.record_feed.RecordFeed.{RecordFeed}

-- the entries that a record feed has still to give
abbrev pub to_come : RecordFeed → List Entry
to_come s = entries_from s.place s.rest.now
