-- The promise holds over every history of a watch.
use Rattle.std.proofs.Common.{◌≡◌, ℕ, zero, suc, ◌+◌, ◌-◌, ◌<◌, ◌≤◌, Bool, true, false, cond, not, eqb, ltb, leb, ◌⊎◌, List, [], ◌∷◌, ◌++◌, map, reverse, length, Some, Ok, Err, count_by, Result, sym, refl, ap, ◌∙◌, subst, ap₂, inl, inr, arith}
use Rattle.std.specs.List.{ContainsAt as Has, AllByRecursion}
use Rattle.std.proofs.lemmas.List.{append-nil, append_assoc, map-append, reverse-append, length-append, length-map}
use Rattle.std.proofs.ByRecursion.{all-has, All-weaker}
use Rattle.std.proofs.lemmas.List.Sums.{sum_by-cons, sum_by-append}
use Rattle.std.proofs.lemmas.Bool.{cases_eq, ltb-false, leb-true, lt-ltb, eq-eqb, ne_eqb, cond-true, cond-false}
use Rattle.truth.specs.declared.table.Condition.{Condition}
use Rattle.truth.specs.Words.{wait_count}
use Rattle.feed.specs.declared.entry.Entry.{Entry}
use Rattle.feed.specs.declared.entry.Sample.{Sample}
use Rattle.rule.specs.declared.record.Record.{Record}
use Rattle.rule.specs.Components.{waits, first_component}
use Rattle.rule.proofs.Numbering.{shifts_some}
use Rattle.logic.specs.declared.verdict.HeldPoint.{HeldPoint}
use Rattle.logic.specs.declared.verdict.Line.{Line}
use Rattle.logic.specs.declared.refusal.DrawRefusal.{DrawRefusal}
use Rattle.logic.specs.declared.refusal.DrawRefusal.TheVariants.{Counted, Tray, Ended, Spoiled, Stamp, Crowded, Slots}
use Rattle.logic.specs.Logic.{Stream, Sat, Accepted, Not}
use Rattle.logic.specs.Tables.{row, rule, Earlier}
use Rattle.logic.specs.Conditions.{gap_to, condition}
use Rattle.logic.specs.Waits.{component, open_at, replaced}
use Rattle.logic.specs.Verdicts.{Rising}
use Rattle.logic.specs.Reach.{reach, Over, stamp_of}
use Rattle.logic.specs.Flat.{Undecided, Different, Pairwise}
use Rattle.logic.specs.Numbers.{Represents}
use Rattle.logic.specs.Runs.{Verdict, true_at, false_at, joined, subject, Truthful, Backward, Run, fitted, accepts}
use Rattle.logic.specs.Names.{stamped, name_of, line_of}
use Rattle.logic.specs.States as states
use Rattle.logic.specs.States.{State}
use Rattle.logic.specs.Draws.{among, ruled, carried_points, Filled, filled, filled_at, to_treat, treatment, gap_from, late, next_offset, next_name}
use Rattle.logic.specs.Draws.{Drawn, unaltered, turned_state, accepted_state, drawn_content, drawn_entry, draw}
use Rattle.logic.specs.Histories.{HasComponents, Stands, Stand, Logged, logged, Reached, newly, drawing, sample_in, accepted_samples, point_of, points_of}
use Rattle.logic.specs.Histories.{newest_name, newest_stamp, settles_one, joins_two, Settled, Leads, arrived, by_join, HistoriesKept, TrayEnough, LinesCounted}
use Rattle.logic.proofs.Formulas.{sound_earlier}
use Rattle.logic.proofs.Carrying.{newest_table}
use Rattle.logic.proofs.Runs.{run_law, held_young, run_few}
use Rattle.logic.proofs.Names.{name_newest, lines_stay}
use Rattle.logic.proofs.Represented.{never_represents, same_agree}
use Rattle.logic.proofs.Filling.{filled_values, filled_becomes}
use Rattle.logic.proofs.Cases.{content_by, draw_by}
use Rattle.logic.proofs.Treating.{treated_total, carried_long, stand_append, stand_long, looks, treats_all, stand_carried, has_first, has_later}

-- the newest name gives the gap, the order and the offset of a new point
newest_gap : (p : Accepted Bool) (ps : List (Accepted Bool)) → gap_from (newest_name ps) p.stamp ≡ gap_to p ps
newest_gap p [] = refl
newest_gap p (q ∷ qs) = ap (λ n. Some (p.stamp - n.stamp)) (name_newest q qs)

newest_rising : (p : Accepted Bool) (ps : List (Accepted Bool)) → Rising ps → late (newest_name ps) p.stamp ≡ false → Rising (p ∷ ps)
newest_rising p [] r e = tt
newest_rising p (q ∷ qs) r e =
    let n = ap (λ n. n.stamp) (name_newest q qs) in
    let le = ltb-false p.stamp (name_of (q ∷ qs) (length qs)).stamp e in
    (omega arith, r)

stamped_none : (t : ℕ) (q : Accepted Bool) (qs : List (Accepted Bool)) → Rising (q ∷ qs) → q.stamp < t → stamped t (q ∷ qs) ≡ 0
stamped_none t q [] r lt =
    let a = sum_by-cons (λ q. cond (eqb q.stamp t) 1 0) q [] in
    let b : cond {A = ℕ} (eqb q.stamp t) 1 0 ≡ 0 = cond-false (eqb q.stamp t) 1 0 (ne_eqb q.stamp t (λ e. let c : ⊥ = omega arith in c)) in omega arith
stamped_none t q (o ∷ os) r lt =
    let ih = stamped_none t o os r.1 (omega (arith, r.0)) in
    let a = sum_by-cons (λ q. cond (eqb q.stamp t) 1 0) q (o ∷ os) in
    let b : cond {A = ℕ} (eqb q.stamp t) 1 0 ≡ 0 = cond-false (eqb q.stamp t) 1 0 (ne_eqb q.stamp t (λ e. let c : ⊥ = omega arith in c)) in omega arith

newest_offset : (p : Accepted Bool) (ps : List (Accepted Bool)) → Rising (p ∷ ps) → next_offset (newest_name ps) p.stamp ≡ stamped p.stamp ps
newest_offset p [] r = refl
newest_offset p (q ∷ qs) r =
    let t = p.stamp in
    let a = sum_by-cons (λ q. cond (eqb q.stamp t) 1 0) q qs in
    ap (λ n. cond (eqb n.stamp t) (n.offset + 1) 0) (name_newest q qs)
    ∙ elim (cases_eq q.stamp t) [
      | inl e ↦
          let yes = eq-eqb q.stamp t e in
          let b : cond {A = ℕ} (eqb q.stamp t) 1 0 ≡ 1 = cond-true (eqb q.stamp t) 1 0 yes in
          let c : stamped q.stamp qs ≡ stamped t qs = ap (λ x. stamped x qs) e in
          cond-true (eqb q.stamp t) (stamped q.stamp qs + 1) 0 yes ∙ omega arith
      | inr ne ↦
          let le = r.0 in
          let no = ne_eqb q.stamp t ne in
          cond-false (eqb q.stamp t) (stamped q.stamp qs + 1) 0 no ∙ sym (stamped_none t q qs r.1 (omega arith))
    ]

run_rising : {rs : List Record} {ps : List (Accepted Bool)} {ls : List Verdict} {held : List ℕ} → Run rs ps ls held → Rising ps
run_rising fitted = tt
run_rising (accepts r rise t) = rise

held_below : (rs : List Record) (ps : List (Accepted Bool)) (ls : List Verdict) (held : List ℕ) → Run rs ps ls held → AllByRecursion (λ i. i < length ps) held
held_below rs ps ls held r = All-weaker (Undecided rs ps) (λ i. i < length ps) (λ i u. u.accepted) held (run_law rs ps ls held r).undecided

-- what holds of a state over the points ps
record Core (rs : List Record) (slots : ℕ) (start : List Entry) (st : State) (rest : List Entry) (log : List Logged) (lines : List Line) (ps : List (Accepted Bool)) : Type 0 where
  verdicts : List Verdict
  numbers : List ℕ
  run : Run rs ps verdicts numbers
  said : lines ≡ map (line_of ps) verdicts
  table : st.table ≡ rs
  slot_count : st.slots ≡ slots
  newest : st.newest ≡ newest_name ps
  values : HasComponents rs ps st.values
  held : Stand rs ps st.held numbers
  points : points_of log ≡ ps
  nothing_lost : start ≡ map (λ l. l.entry) log ++ rest
  drawn_count : st.drawn ≡ length log
  accepted_count : st.accepted ≡ length ps
  turned_count : st.turned ≡ count_by (λ l. not l.accepted) log
  drawn_sum : st.drawn ≡ st.accepted + st.turned
  within : length st.held ≤ slots

-- one more entry in the log
samples_push : (log : List Logged) (l : Logged) → accepted_samples (log ++ (l ∷ [])) ≡ accepted_samples log ++ cond l.accepted (sample_in l.entry.content) []
samples_push [] l = append-nil (cond l.accepted (sample_in l.entry.content) [])
samples_push (x ∷ log) l =
    let now = cond x.accepted (sample_in x.entry.content) [] in
    ap (λ zs. now ++ zs) (samples_push log l) ∙ sym (append_assoc now (accepted_samples log) (cond l.accepted (sample_in l.entry.content) []))

points_same : (log : List Logged) (e : Entry) → points_of (log ++ (record { entry = e; accepted = false } ∷ [])) ≡ points_of log
points_same log e = ap (λ ss. reverse (map point_of ss)) (samples_push log (record { entry = e; accepted = false }) ∙ append-nil (accepted_samples log))

points_more : (log : List Logged) (e : Entry) (s : Sample) → e.content ≡ Ok s → points_of (log ++ (record { entry = e; accepted = true } ∷ [])) ≡ point_of s ∷ points_of log
points_more log e s q =
    ap (λ ss. reverse (map point_of ss)) (samples_push log (record { entry = e; accepted = true }) ∙ ap (λ c. accepted_samples log ++ sample_in c) q)
    ∙ ap reverse (map-append point_of (accepted_samples log) (s ∷ [])) ∙ reverse-append (map point_of (accepted_samples log)) (point_of s ∷ [])

lost_push : (log : List Logged) (l : Logged) (es : List Entry) → map (λ l. l.entry) log ++ (l.entry ∷ es) ≡ map (λ l. l.entry) (log ++ (l ∷ [])) ++ es
lost_push [] l es = refl
lost_push (x ∷ log) l es = ap (λ zs. x.entry ∷ zs) (lost_push log l es)

module _ (rs : List Record) (slots : ℕ) (start : List Entry) where
  -- some points over which a state has all this
  abbrev Kept : State → List Entry → List Logged → List Line → Type 0
  Kept st rest log lines = (ps : List (Accepted Bool)) × Core rs slots start st rest log lines ps

  -- what a draw leaves, of the entries es
  abbrev After : List Entry → List Logged → List Line → Drawn → Type 0
  After es log lines d = Kept d.state d.rest (log ++ logged d.answer es) (lines ++ d.lines)

  none_logged : (st : State) (es : List Entry) (log : List Logged) (lines : List Line) (new : List Logged) → new ≡ [] → Kept st es log lines → Kept st es (log ++ new) (lines ++ [])
  none_logged st es log lines new e k =
      let P : List Logged → List Line → Type 0 = λ x y. Kept st es x y in
      subst (λ x. P x (lines ++ [])) (sym (ap (λ n. log ++ n) e ∙ append-nil log)) (subst (P log) (sym (append-nil lines)) k)

  unaltered_kept : (st : State) (es : List Entry) (log : List Logged) (lines : List Line) (why : DrawRefusal) → logged (Err why) es ≡ [] → Kept st es log lines → After es log lines (unaltered st es why)
  unaltered_kept st es log lines why e k = none_logged st es log lines (logged (Err why) es) e k

  -- an entry that is turned away
  turned_kept : (st : State) (e : Entry) (es : List Entry) (log : List Logged) (lines : List Line) → Kept st (e ∷ es) log lines →
      Kept (turned_state st) es (log ++ (record { entry = e; accepted = false } ∷ [])) (lines ++ [])
  turned_kept st e es log lines k =
      let c = k.1 in
      let l : Logged = record { entry = e; accepted = false } in
      let more = length-append log (l ∷ []) in
      let a = sum_by-append (λ l. cond (not l.accepted) 1 0) log (l ∷ []) in
      let b = sum_by-cons (λ l. cond (not l.accepted) 1 0) l [] in
      let d = c.drawn_count in let t = c.turned_count in let s = c.drawn_sum in (
        k.0,
        record {
          verdicts = c.verdicts;
          numbers = c.numbers;
          run = c.run;
          said = append-nil lines ∙ c.said;
          table = c.table;
          slot_count = c.slot_count;
          newest = c.newest;
          values = c.values;
          held = c.held;
          points = points_same log e ∙ c.points;
          nothing_lost = c.nothing_lost ∙ lost_push log l es;
          drawn_count = omega arith;
          accepted_count = c.accepted_count;
          turned_count = omega arith;
          drawn_sum = omega arith;
          within = c.within;
        },
      )

  module _ (sound : Earlier rs) (few : waits rs ≤ wait_count) (some : 0 < length rs) where
    -- a sample that is accepted
    module _ (st : State) (e : Entry) (es : List Entry) (log : List Logged) (lines : List Line) (s : Sample) (q : e.content ≡ Ok s)
        (ps : List (Accepted Bool)) (c : Core rs slots start st (e ∷ es) log lines ps) (in_order : late st.newest s.stamp ≡ false) where
      abbrev p : Accepted Bool
      p = point_of s

      abbrev F : Filled
      F = filled_at st s

      rise : Rising (p ∷ ps)
      rise = newest_rising p ps (run_rising c.run) (ap (λ n. late n s.stamp) (sym c.newest) ∙ in_order)

      filled_is : filled rs s.letters (gap_to p ps) st.values (length rs) ≡ F
      filled_is =
          ap (λ g. filled rs s.letters g st.values (length rs)) (sym (newest_gap p ps) ∙ ap (λ n. gap_from n s.stamp) (sym c.newest))
          ∙ ap (λ t. filled t s.letters (gap_from st.newest s.stamp) st.values (length t)) (sym c.table)

      new_values : HasComponents rs (p ∷ ps) F.values
      new_values = subst (λ f. HasComponents rs (p ∷ ps) f.values) filled_is (filled_values rs sound few s.letters p (λ l. refl) ps st.values c.values)

      new_becomes : (w : ℕ) → w < waits rs → Represents (among F.becomes w) (λ v. replaced rs p ps v w)
      new_becomes =
          subst (λ f. (w : ℕ) → w < waits rs → Represents (among f.becomes w) (λ v. replaced rs p ps v w)) filled_is
          (filled_becomes rs sound few s.letters p (λ l. refl) ps st.values c.values)

      new_name : next_name st.newest s.stamp ≡ name_of (p ∷ ps) (length ps)
      new_name =
          ap (λ o. record { stamp = s.stamp; offset = o }) (ap (λ n. next_offset n s.stamp) c.newest ∙ newest_offset p ps rise) ∙ sym (name_newest p ps)

      new_tabled : Represents (ruled st.table F.values) (open_at rs (p ∷ ps) (length ps))
      new_tabled n h =
          let j = length rs - 1 in
          let z : first_component rs j ≡ first_component rs j + 0 = omega arith in
          let R : Condition → Type 0 = λ x. Represents x (component rs (p ∷ ps) j 0) in
          let last : Represents (ruled rs F.values) (component rs (p ∷ ps) j 0) =
          subst (λ k. R (among F.values k)) (sym z) (new_values j 0 (omega arith) (shifts_some (row rs j))) in
          subst (λ t. R (ruled t F.values)) (sym c.table) last n h ∙ sym (newest_table rs p ps _)

      standing : Stand rs (p ∷ ps) (to_treat st s F) (c.numbers ++ (length ps ∷ []))
      standing =
          stand_append rs (p ∷ ps) (carried_points F.becomes st.held) _ c.numbers (length ps ∷ [])
          (stand_carried rs sound few p ps F.becomes new_becomes st.held c.numbers (held_below rs ps c.verdicts c.numbers c.run) c.held)
          (record { named = new_name; tabled = new_tabled }, tt)

      accepted_kept : leb (length (treatment st s F).held) st.slots ≡ true →
          Kept (accepted_state st s F (treatment st s F)) es (log ++ (record { entry = e; accepted = true } ∷ [])) (lines ++ (treatment st s F).lines)
      accepted_kept fits =
          let out = treats_all rs few (p ∷ ps) (to_treat st s F) (c.numbers ++ (length ps ∷ [])) standing (record { lines = []; held = [] }) [] [] tt tt tt in
          let l : Logged = record { entry = e; accepted = true } in
          let more = length-append log (l ∷ []) in
          let a = sum_by-append (λ l. cond (not l.accepted) 1 0) log (l ∷ []) in
          let b = sum_by-cons (λ l. cond (not l.accepted) 1 0) l [] in
          let d = c.drawn_count in let t = c.turned_count in let u = c.drawn_sum in let n = c.accepted_count in let m = c.slot_count in
          let le = leb-true (length (treatment st s F).held) st.slots fits in (
            p ∷ ps,
            record {
              verdicts = c.verdicts ++ out.verdicts;
              numbers = out.held;
              run = accepts c.run rise out.treats;
              said = ap₂ ◌++◌ (c.said ∙ sym (lines_stay rs p ps c.verdicts c.numbers c.run)) out.lines ∙ sym (map-append (line_of (p ∷ ps)) c.verdicts out.verdicts);
              table = c.table;
              slot_count = c.slot_count;
              newest = ap Some new_name;
              values = new_values;
              held = out.stand;
              points = points_more log e s q ∙ ap (λ x. p ∷ x) c.points;
              nothing_lost = c.nothing_lost ∙ lost_push log l es;
              drawn_count = omega arith;
              accepted_count = omega arith;
              turned_count = omega arith;
              drawn_sum = omega arith;
              within = omega arith;
            },
          )

    -- one draw
    content_kept : (st : State) (e : Entry) (es : List Entry) (log : List Logged) (lines : List Line) → Kept st (e ∷ es) log lines →
        After (e ∷ es) log lines (drawn_content st es e.place e.content)
    content_kept st e es log lines k =
        let turned = turned_kept st e es log lines k in
        content_by (After (e ∷ es) log lines) st es e.place e.content (λ f. turned) turned turned (λ s z. turned)
        (λ s q n y. accepted_kept st e es log lines s q k.0 k.1 n y)

    entry_kept : (st : State) (es : List Entry) (log : List Logged) (lines : List Line) → Kept st es log lines → After es log lines (drawn_entry st es)
    entry_kept st [] log lines k = unaltered_kept st [] log lines Ended refl k
    entry_kept st (e ∷ es) log lines k = content_kept st e es log lines k

    tray_logged : (es : List Entry) → logged (Err Tray) es ≡ []
    tray_logged [] = refl
    tray_logged (e ∷ es) = refl

    counted_logged : (es : List Entry) → logged (Err Counted) es ≡ []
    counted_logged [] = refl
    counted_logged (e ∷ es) = refl

    draw_kept : (st : State) (es : List Entry) (log : List Logged) (lines : List Line) (tray : ℕ) → Kept st es log lines → After es log lines (draw st es tray)
    draw_kept st es log lines tray k =
        draw_by (After es log lines) st es tray (unaltered_kept st es log lines Counted (counted_logged es) k) (unaltered_kept st es log lines Tray (tray_logged es) k)
        (λ room. entry_kept st es log lines k)

    -- newly fitted
    no_values : HasComponents rs [] []
    unfolding condition
    no_values j s lt h = never_represents

    newly_kept : Kept (states.fitted rs slots) start [] []
    newly_kept = (
      [],
      record {
        verdicts = [];
        numbers = [];
        run = fitted;
        said = refl;
        table = refl;
        slot_count = refl;
        newest = refl;
        values = no_values;
        held = tt;
        points = refl;
        nothing_lost = refl;
        drawn_count = refl;
        accepted_count = refl;
        turned_count = refl;
        drawn_sum = refl;
        within = omega arith;
      },
    )

    reached_kept : {st : State} {rest : List Entry} {log : List Logged} {lines : List Line} → Reached rs slots start st rest log lines → Kept st rest log lines
    reached_kept newly = newly_kept
    reached_kept (drawing {st = st} {rest = rest} {log = log} {lines = lines} r tray) = draw_kept st rest log lines tray (reached_kept r)

-- a point that is counted among the verdicts and the held points is there
counted_there : (i : ℕ) (vs : List Verdict) (held : List ℕ) → 0 < count_by (eqb i) (map subject vs ++ held) → ((v : Verdict) × Has vs v × (subject v ≡ i)) ⊎ Has held i
counted_there i [] [] h = absurd (let c : ⊥ = omega arith in c)
counted_there i [] (x ∷ xs) h = elim (cases_eq i x) [
  | inl e ↦ inr (subst (Has (x ∷ xs)) (sym e) (has_first x xs))
  | inr ne ↦
      let more = sum_by-cons (λ n. cond (eqb i n) 1 0) x xs in
      let none : cond {A = ℕ} (eqb i x) 1 0 ≡ 0 = cond-false (eqb i x) 1 0 (ne_eqb i x ne) in
      elim (counted_there i [] xs (omega arith)) [
        | inl v ↦ absurd (let lt = v.1.1 in let c : ⊥ = omega arith in c)
        | inr k ↦ inr (has_later x xs i k)
      ]
]
counted_there i (v ∷ vs) held h = elim (cases_eq i (subject v)) [
  | inl e ↦ inl (v, has_first v vs, sym e)
  | inr ne ↦
      let more = sum_by-cons (λ n. cond (eqb i n) 1 0) (subject v) (map subject vs ++ held) in
      let none : cond {A = ℕ} (eqb i (subject v)) 1 0 ≡ 0 = cond-false (eqb i (subject v)) 1 0 (ne_eqb i (subject v) ne) in
      elim (counted_there i vs held (omega arith)) [
        | inl x ↦ inl (x.0, has_later v vs x.0 x.1, x.2)
        | inr k ↦ inr k
      ]
]

-- joins lead from each point to one that is settled or held
module _ (vs : List Verdict) (held : List ℕ) (n : ℕ) (once : (i : ℕ) → count_by (eqb i) (map subject vs ++ held) ≡ cond (ltb i n) 1 0) (backward : AllByRecursion Backward vs) where
  abbrev Ends : ℕ → Type 0
  Ends i = (j : ℕ) × Leads vs i j × (Settled vs j ⊎ Has held j)

  verdict_ends : (i : ℕ) (v : Verdict) → Has vs v → subject v ≡ i → i < n → ((j : ℕ) → j < i → j < n → Ends j) → Ends i
  verdict_ends i (true_at k) h e lt rec = (i, arrived, inl (inl (subst (λ x. Has vs (true_at x)) e h)))
  verdict_ends i (false_at k) h e lt rec = (i, arrived, inl (inr (subst (λ x. Has vs (false_at x)) e h)))
  verdict_ends i (joined k j) h e lt rec =
      let back : j < k = all-has Backward vs (joined k j) backward h in
      let end = rec j (omega arith) (omega arith) in
      (end.0, by_join (subst (λ x. Has vs (joined x j)) e h) (omega arith) end.1, end.2)

  ends_below : (m i : ℕ) → i < m → i < n → Ends i
  ends_below zero i b lt = absurd (let c : ⊥ = omega arith in c)
  ends_below (suc m) i b lt =
      let one : count_by (eqb i) (map subject vs ++ held) ≡ 1 = once i ∙ cond-true (ltb i n) 1 0 (lt-ltb i n lt) in
      elim (counted_there i vs held (omega arith)) [
        | inl v ↦ verdict_ends i v.0 v.1 v.2 lt (λ j b' lt'. ends_below m j (omega arith) lt')
        | inr k ↦ (i, arrived, inr k)
      ]

  leads_ends : (i : ℕ) → i < n → Ends i
  leads_ends i lt = ends_below (suc i) i (omega arith) lt

-- each line settles a point or joins two
lines_split : (lines : List Line) → count_by settles_one lines + count_by joins_two lines ≡ length lines
lines_split [] = refl
lines_split (l ∷ ls) =
    let a = sum_by-cons (λ l. cond (settles_one l) 1 0) l ls in
    let b = sum_by-cons (λ l. cond (joins_two l) 1 0) l ls in
    let ih = lines_split ls in
    let one : cond {A = ℕ} (settles_one l) 1 0 + cond (joins_two l) 1 0 ≡ 1 =
    elim (settles_one l) as (λ b. cond {A = ℕ} b 1 0 + cond (not b) 1 0 ≡ 1) [ true ↦ refl | false ↦ refl ] in
    omega arith

run_young : {rs : List Record} {ps : List (Accepted Bool)} {ls : List Verdict} {held : List ℕ} → Run rs ps ls held →
    AllByRecursion (λ i. Not (Over (reach (rule rs)) (newest_stamp ps - stamp_of ps i))) held
run_young fitted = tt
run_young {rs} (accepts {p = p} {ps = ps} {before = before} {now = now} {held = held} r rise t) = held_young rs p ps (before ++ now) held (accepts r rise t)

-- held points whose conditions differ have different tables
module _ (rs : List Record) (few : waits rs ≤ wait_count) (ps : List (Accepted Bool)) where
  apart_all : (h : HeldPoint) (i : ℕ) → Stands rs ps h i → (ks : List HeldPoint) (js : List ℕ) → Stand rs ps ks js → AllByRecursion (Different rs ps i) js →
      AllByRecursion (λ k. Not (h.condition ≡ k.condition)) ks
  apart_all h i s [] js t d = tt
  apart_all h i s (k ∷ ks) [] t d = absurd t
  apart_all h i s (k ∷ ks) (j ∷ js) t d =
      ((λ e. d.0 (same_agree h.condition k.condition (open_at rs ps i) (open_at rs ps j) s.tabled t.0.tabled (looks rs few ps i) (looks rs few ps j) e)), apart_all h i s ks js t.1 d.1)

  apart_held : (hs : List HeldPoint) (is : List ℕ) → Stand rs ps hs is → Pairwise (Different rs ps) is → Pairwise (λ h k. Not (h.condition ≡ k.condition)) hs
  apart_held [] is s d = tt
  apart_held (h ∷ hs) [] s d = absurd s
  apart_held (h ∷ hs) (i ∷ is) s d = (apart_all h i s.0 hs is s.1 d.0, apart_held hs is s.1 d.1)

-- the rule is true at both ends of joins or at neither
leads_share : (rs : List Record) (ρ : Stream Bool) (vs : List Verdict) → AllByRecursion (Truthful rs ρ) vs → {i j : ℕ} → Leads vs i j →
    (Sat ρ (rule rs) i → Sat ρ (rule rs) j) × (Sat ρ (rule rs) j → Sat ρ (rule rs) i)
leads_share rs ρ vs h arrived = ((λ x. x), (λ x. x))
leads_share rs ρ vs h (by_join {i = i} {j = j} here lt rest) =
    let a = all-has (Truthful rs ρ) vs (joined i j) h here in
    let b = leads_share rs ρ vs h rest in
    ((λ x. b.0 (a.0 x)), (λ x. a.1 (b.1 x)))

pub histories_kept : HistoriesKept
histories_kept rs slots start sound low some st rest log lines r =
    let k = reached_kept rs slots start (sound_earlier rs sound) low some r in
    let ps = points_of log in
    let c : Core rs slots start st rest log lines ps = subst (Core rs slots start st rest log lines) (sym k.1.points) k.1 in
    let law = run_law rs ps c.verdicts c.numbers c.run in
    let long = stand_long rs ps st.held c.numbers c.held in
    record {
      verdicts = c.verdicts;
      numbers = c.numbers;
      run = c.run;
      said = c.said;
      table = c.table;
      slot_count = c.slot_count;
      newest = c.newest;
      values = c.values;
      held = c.held;
      truthful = law.sound;
      nothing_lost = c.nothing_lost;
      drawn_count = c.drawn_count;
      accepted_count = c.accepted_count;
      turned_count = c.turned_count;
      drawn_sum = c.drawn_sum;
      once = law.once;
      accepted_sum =
          let a = lines_split lines in let b = ap length c.said ∙ length-map c.verdicts (line_of ps) in let d = law.total in let n = c.accepted_count in omega arith;
      backward = law.backward;
      leads = leads_ends c.verdicts c.numbers (length ps) law.once law.backward;
      shared = λ ρ b i j l. leads_share rs ρ c.verdicts (law.sound ρ b) l;
      undecided = law.undecided;
      different = law.apart;
      apart = apart_held rs low ps st.held c.numbers c.held law.apart;
      young = run_young c.run;
      few = λ flat. let f = run_few rs ps c.verdicts c.numbers c.run flat in rw long f;
      within = c.within;
    }

-- what a draw writes
treatment_short : (st : State) (s : Sample) (f : Filled) → length (treatment st s f).lines ≤ length st.held + 1
treatment_short st s f =
    let a = treated_total (record { lines = []; held = [] }) (to_treat st s f) in
    let b = length-append (carried_points f.becomes st.held) (record { point = next_name st.newest s.stamp; condition = ruled st.table f.values } ∷ []) in
    let d = carried_long f.becomes st.held in
    omega arith

-- what holds of every refusal and of each accepted sample holds of every draw
module _ (P : Result ℕ DrawRefusal → List Line → Type 0) (refused : (why : DrawRefusal) → P (Err why) []) (st : State) (tray : ℕ)
    (good : length st.held < tray → (s : Sample) (f : Filled) → P (Ok (length (treatment st s f).lines)) (treatment st s f).lines) where
  abbrev Of : Drawn → Type 0
  Of d = P d.answer d.lines

  entry_of : length st.held < tray → (es : List Entry) → Of (drawn_entry st es)
  entry_of room [] = refused Ended
  entry_of room (e ∷ es) =
      content_by Of st es e.place e.content (λ f. refused (Spoiled e.place f)) (refused (Stamp e.place)) (refused (Crowded e.place)) (λ s z. refused (Slots e.place))
      (λ s q n y. good room s (filled_at st s))

  draw_of : (es : List Entry) → Of (draw st es tray)
  draw_of es = draw_by Of st es tray (refused Counted) (refused Tray) (λ room. entry_of room es)

pub tray_enough : TrayEnough
tray_enough st es tray =
    draw_of (λ r ls. length ls ≤ tray) (λ why. omega arith) st tray (λ lt s f. let a = treatment_short st s f in omega arith) es

pub lines_counted : LinesCounted
lines_counted st es tray =
    draw_of (λ r ls. (n : ℕ) → r ≡ Ok n → n ≡ length ls) (λ why n e. absurd (let z : ◌≡◌ {A = ℕ} 0 1 = cc in let c : ⊥ = omega arith in c)) st tray (λ lt s f n e. cc) es
