-- What holds of all entries of a pattern, and of those that a layer has turned.
use Rattle.std.proofs.Common.{◌≡◌, Decides, All, ℕ, zero, suc, ◌+◌, ◌%◌, ◌<◌, ◌≤◌, Bool, true, false, cond, ltb, List, [], ◌∷◌, map, length, get_or, ℤ, Ok, Err, Result, refl, arith, lit<}
use Rattle.std.proofs.lemmas.Grind.{get_or_default_zero}
use Rattle.std.proofs.lemmas.Bool.{and_parts, lt-ltb, ltb-true}
use Rattle.feed.specs.declared.entry.Entry.{Entry}
use Rattle.feed.specs.declared.pattern.PatternRefusal.{PatternRefusal}
use Rattle.feed.specs.Entries.{Clear, Content, SoundFrom, letter_limit}
use Rattle.feed.specs.Turned.{clear_minutes, clear_shifted}
use Rattle.feed.specs.Layers.{in_minutes, layered, minute_content, minute_of, shifted, shifted_content}
use Rattle.feed.specs.Patterns.{all_letters, pattern_answer, pattern_entries, pattern_from}

letters_clear : (ws : List ℕ) → all_letters ws ≡ true → (i : ℕ) → get_or ws i 0 < letter_limit
letters_clear [] e i = lit< tt
letters_clear (w ∷ ws) e zero = ltb-true w letter_limit (and_parts (ltb w letter_limit) (all_letters ws) e).0
letters_clear (w ∷ ws) e (suc i) = letters_clear ws (and_parts (ltb w letter_limit) (all_letters ws) e).1 i

-- the recursion over the words tells whether each has only letters
letters_all : (ws : List ℕ) → All (λ w. w < letter_limit) ws → all_letters ws ≡ true
letters_all [] h = refl
letters_all (w ∷ ws) h = rw (lt-ltb w letter_limit (h 0 0 (omega arith))) (letters_all ws (λ k d l. h (suc k) d (omega arith)))

pub letters_decide : (ws : List ℕ) → Decides (all_letters ws) (All (λ w. w < letter_limit) ws)
letters_decide ws = ((λ e k d l. rw (get_or_default_zero ws k d l) (letters_clear ws e k)), letters_all ws)

sound_from : (s r : ℕ) (ws : List ℕ) (w k n : ℕ) → all_letters ws ≡ true → SoundFrom k (pattern_from s r ws w k n)
sound_from s r ws w k zero e = tt
sound_from s r ws w k (suc n) e = (refl, letters_clear ws e (k % w), sound_from s r ws w (k + 1) n e)

-- a question on the way to a good answer was answered yes
passed : (b : Bool) (x : Result (Unit {0}) PatternRefusal) (f : PatternRefusal) → cond b x (Err f) ≡ Ok tt → (b ≡ true) × (x ≡ Ok tt)
passed true x f e = (refl, e)
passed false x f e = let z : ◌≡◌ {A = ℕ} 0 1 = cc in absurd (omega arith)

pub sound_pattern : (s r : ℕ) (ws : List ℕ) (c : ℕ) → pattern_answer s r ws c ≡ Ok tt → SoundFrom 0 (pattern_entries s r ws c)
sound_pattern s r ws c e = sound_from s r ws (length ws) 0 c (passed _ _ _ (passed _ _ _ e).1).0

-- a layer that gives no sample an upper bit keeps entries sound
pub sound_layered : (f : Content → Content) → ((x : Content) → Clear x → Clear (f x)) → (k : ℕ) (es : List Entry) → SoundFrom k es → SoundFrom k (map (layered f) es)
sound_layered f clear k [] h = tt
sound_layered f clear k (e ∷ es) h = (h.0, clear e.content h.1, sound_layered f clear (k + 1) es h.2)

pub sound_shifted : (by : ℤ) (own k : ℕ) (es : List Entry) → SoundFrom k es → SoundFrom k (map (shifted by own) es)
sound_shifted by own = sound_layered (shifted_content by own) (clear_shifted by own)

pub sound_minutes : (k : ℕ) (es : List Entry) → SoundFrom k es → SoundFrom k (map in_minutes es)
sound_minutes = sound_layered minute_content clear_minutes

pub minutes_rise : (s t : ℕ) → s ≤ t → minute_of s ≤ minute_of t
minutes_rise s t h = omega arith
