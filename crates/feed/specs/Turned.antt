-- Each of the layers gives no sample an upper bit.
use Rattle.std.specs.Prelude.{ℕ, ◌^◌, ◌<◌, nat_lt, ℤ, pos, negsuc, ◌+ℤ◌, Ok, Err}
use Rattle.std.proofs.lemmas.Bool.{cond_both}
use Rattle.feed.specs.Entries.{Clear, Content, letter_limit}
use Rattle.feed.specs.Layers.{at_stamp, minute_content, out_of_range, shifted_content}

clear_stamp : (own letters : ℕ) (z : ℤ) → letters < letter_limit → Clear (at_stamp own letters z)
clear_stamp own letters (pos n) h = cond_both (nat_lt n (2 ^ 32)) (Ok (record { stamp = n; letters = letters })) (out_of_range own) Clear (λ _. h) (λ _. tt)
clear_stamp own letters (negsuc n) h = tt

pub clear_shifted : (by : ℤ) (own : ℕ) (x : Content) → Clear x → Clear (shifted_content by own x)
clear_shifted by own (Ok s) h = clear_stamp own s.letters (pos s.stamp +ℤ by) h
clear_shifted by own (Err f) h = tt

pub clear_minutes : (x : Content) → Clear x → Clear (minute_content x)
clear_minutes (Ok s) h = h
clear_minutes (Err f) h = tt
