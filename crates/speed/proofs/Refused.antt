-- A refused draw gives no lines.
use Rattle.std.proofs.Common.{◌≡◌, ℕ, Bool, true, false, cond, ltb, leb, List, [], ◌∷◌, length, Ok, Err, refl, arith}
use Rattle.feed.specs.declared.entry.Entry.{Entry}
use Rattle.feed.specs.Entries.{Content}
use Rattle.logic.specs.declared.refusal.DrawRefusal.{DrawRefusal}
use Rattle.logic.specs.States.{State}
use Rattle.logic.specs.declared.refusal.DrawRefusal.TheVariants.{Counted, Crowded, Slots, Stamp, Tray}
use Rattle.logic.specs.Draws.{Drawn, accepted_state, draw, drawn_content, drawn_entry, filled_at, late, most_drawn, most_offsets, next_offset, sampled, treatment, turned_away, unaltered}

abbrev Silent : Drawn → Type 0
Silent d = (why : DrawRefusal) → Err why ≡ d.answer → d.lines ≡ []

either_way : (b : Bool) (x y : Drawn) → Silent x → Silent y → Silent (cond b x y)
either_way true x y p q = p
either_way false x y p q = q

of_content : (st : State) (es : List Entry) (place : ℕ) (x : Content) → Silent (drawn_content st es place x)
of_content st es place (Err f) = λ why e. refl
of_content st es place (Ok s) =
    let t = treatment st s (filled_at st s) in
    let held : Drawn = record { answer = Ok (length t.lines); state = accepted_state st s (filled_at st s) t; rest = es; lines = t.lines } in
    let answered : Silent held = λ why e. absurd (let z : ◌≡◌ {A = ℕ} 0 1 = cc in omega arith) in
    either_way (late st.newest s.stamp) (turned_away st es (Stamp place))
    (cond (ltb (next_offset st.newest s.stamp) most_offsets) (sampled st es place s) (turned_away st es (Crowded place)))
    (λ why e. refl)
    (either_way (ltb (next_offset st.newest s.stamp) most_offsets) (sampled st es place s) (turned_away st es (Crowded place))
    (either_way (leb (length t.held) st.slots) held (turned_away st es (Slots place)) answered (λ why e. refl))
    (λ why e. refl))

of_entry : (st : State) (es : List Entry) → Silent (drawn_entry st es)
of_entry st [] = λ why e. refl
of_entry st (e ∷ es) = of_content st es e.place e.content

pub refused_lines : (st : State) (es : List Entry) (m : ℕ) → Silent (draw st es m)
refused_lines st es m =
    either_way (ltb st.drawn most_drawn) (cond (ltb (length st.held) m) (drawn_entry st es) (unaltered st es Tray)) (unaltered st es Counted)
    (either_way (ltb (length st.held) m) (drawn_entry st es) (unaltered st es Tray) (of_entry st es) (λ why e. refl))
    (λ why e. refl)
