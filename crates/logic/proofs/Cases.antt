-- The ways that a draw can go, so that what holds of each of them holds of every draw.
use Rattle.std.proofs.Common.{◌≡◌, ℕ, ◌<◌, true, false, cond, ltb, leb, List, length, Ok, Err, refl}
use Rattle.std.proofs.lemmas.Bool.{cond_both, ltb-true}
use Rattle.feed.specs.declared.entry.Entry.{Entry}
use Rattle.feed.specs.declared.entry.Fault.{Fault}
use Rattle.feed.specs.declared.entry.Sample.{Sample}
use Rattle.feed.specs.Entries.{Content}
use Rattle.logic.specs.declared.refusal.DrawRefusal.TheVariants.{Counted, Tray, Spoiled, Stamp, Crowded, Slots}
use Rattle.logic.specs.States.{State}
use Rattle.logic.specs.Draws.{Drawn, accepted_state, draw, drawn_content, drawn_entry, filled_at, late, most_drawn, most_offsets, next_offset, sampled, treatment, turned_away, unaltered}

-- what a draw of a sample that is accepted answers and leaves
abbrev pub accepting : State → List Entry → Sample → Drawn
accepting st es s =
    let t = treatment st s (filled_at st s) in
    record { answer = Ok (length t.lines); state = accepted_state st s (filled_at st s) t; rest = es; lines = t.lines }

-- an entry that was drawn: spoiled, late, at a crowded stamp, one too many for the slots, or accepted
module _ (P : Drawn → Type 0) (st : State) (es : List Entry) (place : ℕ) (x : Content)
    (is-spoiled : (f : Fault) → P (turned_away st es (Spoiled place f)))
    (is-late : P (turned_away st es (Stamp place)))
    (is-crowded : P (turned_away st es (Crowded place)))
    (too_many : (s : Sample) → leb (length (treatment st s (filled_at st s)).held) st.slots ≡ false → P (turned_away st es (Slots place)))
    (is-good : (s : Sample) → x ≡ Ok s → late st.newest s.stamp ≡ false → leb (length (treatment st s (filled_at st s)).held) st.slots ≡ true → P (accepting st es s)) where
  by : (y : Content) → x ≡ y → P (drawn_content st es place y)
  by (Err f) q = is-spoiled f
  by (Ok s) q =
      let t = treatment st s (filled_at st s) in
      cond_both (late st.newest s.stamp) (turned_away st es (Stamp place))
      (cond (ltb (next_offset st.newest s.stamp) most_offsets) (sampled st es place s) (turned_away st es (Crowded place))) P
      (λ y. is-late)
      (λ n. cond_both (ltb (next_offset st.newest s.stamp) most_offsets) (sampled st es place s) (turned_away st es (Crowded place)) P
      (λ y. cond_both (leb (length t.held) st.slots) (accepting st es s) (turned_away st es (Slots place)) P (is-good s q n) (too_many s))
      (λ z. is-crowded))

  pub content_by : P (drawn_content st es place x)
  content_by = by x refl

-- a draw: no more can be counted, the tray is too short, or what the entries bring
pub draw_by : (P : Drawn → Type 0) (st : State) (es : List Entry) (tray : ℕ) → P (unaltered st es Counted) → P (unaltered st es Tray) → (length st.held < tray → P (drawn_entry st es)) → P (draw st es tray)
draw_by P st es tray counted short on =
    cond_both (ltb st.drawn most_drawn) (cond (ltb (length st.held) tray) (drawn_entry st es) (unaltered st es Tray)) (unaltered st es Counted) P
    (λ y. cond_both (ltb (length st.held) tray) (drawn_entry st es) (unaltered st es Tray) P (λ y. on (ltb-true (length st.held) tray y)) (λ n. short)) (λ n. counted)
