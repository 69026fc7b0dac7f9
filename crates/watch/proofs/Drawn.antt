-- A draw that draws an entry: what it makes of it.
use Rattle.std.proofs.Common.{◌≡◌, ℕ, ◌<◌, Bool, true, false, cond, ltb, leb, List, [], ◌∷◌, length, Some, Ok, Err, refl, ap, ◌∙◌, ap₂}
use Rattle.std.proofs.lemmas.Bool.{lt-ltb}
use Rattle.feed.specs.Lists.{first, others}
use Rattle.feed.specs.Entries.{Content}
use Rattle.feed.specs.declared.entry.Entry.{Entry}
use Rattle.feed.specs.declared.entry.Sample.{Sample}
use Rattle.logic.specs.declared.refusal.DrawRefusal.{DrawRefusal}
use Rattle.logic.specs.declared.refusal.DrawRefusal.TheVariants.{Counted, Crowded, Slots, Spoiled, Stamp, Tray}
use Rattle.logic.specs.States.{State}
use Rattle.logic.specs.Draws.{Drawn, Treated, accepted_state, draw, drawn_content, drawn_entry, filled_at, late, most_drawn, most_offsets, next_offset, treatment, turned_away, turned_state, unaltered}

-- the entry that was drawn
entry_drawn : (st : State) (es : List Entry) (e : Entry) → Some e ≡ first es → drawn_entry st es ≡ drawn_content st (others es) e.place e.content
entry_drawn st [] e h = absurd (cc)
entry_drawn st (x ∷ es) e h = let same : x ≡ e = cc in ap (λ (y : Entry). drawn_content st es y.place y.content) same

pub draw_is : (st : State) (es : List Entry) (n : ℕ) (e : Entry) → st.drawn < most_drawn → length st.held < n → Some e ≡ first es
    → draw st es n ≡ drawn_content st (others es) e.place e.content
draw_is st es n e few room h =
    ap₂ (λ a b. cond a (cond b (drawn_entry st es) (unaltered st es Tray)) (unaltered st es Counted)) (lt-ltb st.drawn most_drawn few) (lt-ltb (length st.held) n room)
    ∙ entry_drawn st es e h

-- what is made of an entry: it is turned away, or a sample is accepted
either : (P : Drawn → Type 0) (b : Bool) (x y : Drawn) → P x → P y → P (cond b x y)
either P true x y p q = p
either P false x y p q = q

content_cases : (P : Drawn → Type 0) (st : State) (es : List Entry) (place : ℕ) → ((why : DrawRefusal) → P (turned_away st es why))
    → ((s : Sample) (t : Treated) → P (record { answer = Ok (length t.lines); state = accepted_state st s (filled_at st s) t; rest = es; lines = t.lines }))
    → (x : Content) → P (drawn_content st es place x)
content_cases P st es place away accepted (Err f) = away (Spoiled place f)
content_cases P st es place away accepted (Ok s) =
    either P (late st.newest s.stamp) _ _ (away (Stamp place))
    (either P (ltb (next_offset st.newest s.stamp) most_offsets) _ _
    (either P (leb (length (treatment st s (filled_at st s)).held) st.slots) _ _ (accepted s (treatment st s (filled_at st s))) (away (Slots place)))
    (away (Crowded place)))

-- the others are still to come
pub content_rest : (st : State) (es : List Entry) (place : ℕ) (x : Content) → (drawn_content st es place x).rest ≡ es
content_rest st es place x = content_cases (λ d. d.rest ≡ es) st es place (λ why. refl) (λ s t. refl) x

-- an entry that is refused is turned away
pub refused_state : (st : State) (es : List Entry) (place : ℕ) (x : Content) (e : DrawRefusal) → Err e ≡ (drawn_content st es place x).answer
    → turned_state st ≡ (drawn_content st es place x).state
refused_state st es place x e h =
    let P : Drawn → Type 0 = λ d. Err e ≡ d.answer → turned_state st ≡ d.state in
    content_cases P st es place (λ why h. refl) (λ s t h. absurd (cc)) x h
