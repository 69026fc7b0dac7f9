-- What a layer makes of the feed beneath it.
use Rattle.std.specs.Prelude.{ℕ, ◌+◌, ◌/◌, ◌^◌, min, cond, Ok, Err, ℤ, pos, negsuc, ◌+ℤ◌, nat_lt}
use Rattle.feed.specs.Entries.{Content}
use Rattle.feed.specs.declared.entry.Entry.{Entry}
use Rattle.feed.specs.declared.entry.Cause.TheVariants.{StampRange}

-- the height of a layer over a feed of height h
abbrev pub above : ℕ → ℕ
above h = min (h + 1) 15

-- spoiled by a layer of height own, since a stamp is out of range
abbrev pub out_of_range : ℕ → Content
out_of_range own = Err (record { cause = StampRange; height = own })

-- the sample of some letters at the stamp z, if that is in range
abbrev pub at_stamp : ℕ → ℕ → ℤ → Content
at_stamp own letters (pos n) = cond (nat_lt n (2 ^ 32)) (Ok (record { stamp = n; letters = letters })) (out_of_range own)
at_stamp own letters (negsuc n) = out_of_range own

-- a content with by added to its stamp, by a layer of height own
abbrev pub shifted_content : ℤ → ℕ → Content → Content
shifted_content by own (Ok s) = at_stamp own s.letters (pos s.stamp +ℤ by)
shifted_content by own (Err f) = Err f

-- an entry with by added to its stamp, by a layer of height own
abbrev pub shifted : ℤ → ℕ → Entry → Entry
shifted by own e = record { place = e.place; content = shifted_content by own e.content }

-- an entry whose content a layer has turned by f; its place stays
abbrev pub layered : (Content → Content) → Entry → Entry
layered f e = record { place = e.place; content = f e.content }

-- the minute of a second
abbrev pub minute_of : ℕ → ℕ
minute_of t = t / 60

-- a content whose stamp in seconds is turned into minutes
abbrev pub minute_content : Content → Content
minute_content (Ok s) = Ok (record { stamp = minute_of s.stamp; letters = s.letters })
minute_content (Err f) = Err f

-- an entry whose stamp in seconds is turned into minutes
abbrev pub in_minutes : Entry → Entry
in_minutes = layered minute_content
