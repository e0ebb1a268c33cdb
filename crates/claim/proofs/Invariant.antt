-- What holds in every state of a run: parts of the work table hold the entries of the rules, the page holds the words of the
-- round, and what was opened came from rows of such words.
use Rattle.std.proofs.Common.{◌≡◌, ℕ, suc, ◌-◌, ◌<◌, ◌≤◌, Bool, true, false, cond, not, ◌&&◌, eqb, ltb, List, [], ◌∷◌, ◌++◌, map, length, get_or, Some, None, Ok, Err, Option, Result, sym, refl, ap, ◌∙◌, subst, inl, inr, arith}
use lib.ListN.{length-map}
use Rattle.std.proofs.lemmas.List.{map_push, get_or_append_left, get_or_push, length_push}
use Rattle.std.proofs.lemmas.Bool.{and_parts, both_ways, cases_Bool, cases_eq, cond-true, cond-false, eq-eqb, ne_eqb, not-false}
use Rattle.ring.specs.Model.{PointLaws}
use Rattle.ring.specs.declared.Ring.{Ghosts}
use Rattle.curve.specs.Curve.{El, K, word, Opens, listed}
use Rattle.circuit.specs.Openings.{products, gate_opened, degree_of}
use Rattle.rules.specs.Elements.{known}
use Rattle.rules.specs.Rules.{Parts}
use Rattle.protocol.specs.Engine.{table_of}
use Rattle.protocol.specs.Runs.{share_of, word_of, SoundRun}
use Rattle.protocol.specs.Shares.{Opens as RowShared}
use Rattle.protocol.proofs.Engine.{tables_stand, rows_alike}
use Rattle.protocol.proofs.Gates.{openings_numbered}
use Rattle.protocol.proofs.Runs.{runs_sound, by_number, words_causal}
use Rattle.exchange.specs.Sheet.{Page, seat, missing}
use Rattle.node.specs.Openings.{ComesTo}
use Rattle.node.specs.Work.{stage, shown, kept}
use Rattle.node.specs.declared.fault.Fault.{Fault}
use Rattle.claim.specs.Bench.{Setup, Progress, State, part_at, inner, outer, opening, opening_count, work_of, parts_of, table, task, opened_at}
use Rattle.claim.specs.Steps.{shown_by, Goes_on, Takes, Starts, accepts}
use Rattle.claim.specs.Claim.{Premises}
use Rattle.claim.proofs.Rows.{WordAt, word_there, word_read, seat_low, seat_high, row_long, row_square, none_some, inner_seat, inside_inner, outer_seat}
use Rattle.claim.proofs.Tables.{stage_number, start_is, kept_is, shown_is}

module _ {R C : Type 0} (G : Ghosts R C) (U : Setup R) where
  -- the row from which seat i opened its value at opening number k, where H has the outside words by round, receiver and
  -- sender, and z what the seats have opened
  pub record Heard (H : ℕ → ℕ → ℕ → Option R) (z : ℕ → ℕ → El G) (i k : ℕ) (row : List R) : Type 0 where
    pub long : length row ≡ U.seats
    pub inside : (q : ℕ) → inner U q ≡ true → word G row (q - 1) ≡ word_of (table G U) (task G U) (parts_of G U q) (z q) (gate_opened (opening U k))
    pub outside : (q : ℕ) → outer U q ≡ true → get_or (map Some row) (q - 1) None ≡ H k i q
    pub opens : Opens G (degree_of U.threshold (opening U k)) row (z i k)

  -- an inside seat that has not stopped
  pub record Going (s : State R) (i : ℕ) : Type 0 where
    pub fault : (s.progress i).fault ≡ None
    pub count : length (s.progress i).opened ≡ s.rounds
    pub works : map G.element (work_of U s i) ≡ listed (length U.codes) (share_of (table G U) (task G U) (parts_of G U i) (opened_at G U s i) (stage U.codes s.rounds))

  pub record Holds (s : State R) (H : ℕ → ℕ → ℕ → Option R) : Type 0 where
    pub seats : s.page.seats ≡ U.seats
    pub within : s.rounds ≤ opening_count U
    pub rows : ℕ → ℕ → List R
    pub heard : (i k : ℕ) → inner U i ≡ true → k < length (s.progress i).opened → Heard H (opened_at G U s) i k (rows i k)
    pub later : (k i q : ℕ) → s.rounds < k → H k i q ≡ None
    pub now : (i q : ℕ) → inner U i ≡ true → outer U q ≡ true → s.page.at i q ≡ H s.rounds i q
    pub words : (i q : ℕ) (w : R) → inner U q ≡ true → s.page.at i q ≡ Some w → G.element w ≡ shown_by G U s q
    pub most : (i : ℕ) → inner U i ≡ true → length (s.progress i).opened ≤ s.rounds
    pub least : (i : ℕ) → inner U i ≡ true → s.rounds ≤ suc (length (s.progress i).opened)
    pub going : s.halted ≡ false → (i : ℕ) → inner U i ≡ true → Going s i

  -- words hang on what was opened before
  word_same : (q k : ℕ) (y z : ℕ → El G) → k < opening_count U → ((j : ℕ) → j < k → y j ≡ z j)
      → word_of (table G U) (task G U) (parts_of G U q) y (gate_opened (opening U k)) ≡ word_of (table G U) (task G U) (parts_of G U q) z (gate_opened (opening U k))
  word_same q k y z less same =
      let n = ((openings_numbered U.codes).each k less).number in
      (words_causal (table G U) (task G U) (parts_of G U q) y z (gate_opened (opening U k)) (λ j below. let under : j < k = omega arith in same j under)).words

  shares_same : (q k : ℕ) (y z : ℕ → El G) → k ≤ opening_count U → ((j : ℕ) → j < k → y j ≡ z j)
      → share_of (table G U) (task G U) (parts_of G U q) y (stage U.codes k) ≡ share_of (table G U) (task G U) (parts_of G U q) z (stage U.codes k)
  shares_same q k y z less same =
      let n = stage_number U.codes k less in
      λ i a. (words_causal (table G U) (task G U) (parts_of G U q) y z (stage U.codes k) (λ j below. let under : j < k = omega arith in same j under)).shares a i

  -- where a bench starts
  pub start_holds : (s : State R) → Starts G U s → Holds s (λ k i q. None)
  start_holds s starts =
      let none : (i : ℕ) → length (s.progress i).opened ≡ 0 = λ i. ap (λ (p : Progress R). length p.opened) (starts.fresh i) in
      let blank-at : (i q : ℕ) → s.page.at i q ≡ None = λ i q. ap (λ (x : Page R). x.at i q) starts.page.1 in
      let zero-rounds = starts.rounds in
      record {
        seats = ap (λ (x : Page R). x.seats) starts.page.1;
        within = omega arith;
        rows = λ i k. [];
        heard = λ i k is less. let z : ⊥ = omega (arith, none i) in absurd z;
        later = λ k i q less. refl;
        now = λ i q _ _. blank-at i q;
        words = λ i q w is held. let e = blank-at i q in cc;
        most = λ i is. omega (arith, none i);
        least = λ i is. omega arith;
        going = λ _ i is. record {
          fault = ap (λ (p : Progress R). p.fault) (starts.fresh i);
          count = none i ∙ sym zero-rounds;
          works =
              starts.works i is
              ∙ start_is (K G) (known G.shape U.method U.constants) U.codes U.layouts (parts_of G U i) (opened_at G U s i)
              ∙ ap (λ k. listed (length U.codes) (share_of (table G U) (task G U) (parts_of G U i) (opened_at G U s i) (stage U.codes k))) (sym zero-rounds);
        };
      }

  -- a call that changes no more than the page and whether words were posted
  pub page_holds : (s : State R) (H H' : ℕ → ℕ → ℕ → Option R) → Holds s H → (x : Page R) (posted : Bool) → x.seats ≡ U.seats
      → ((k i q : ℕ) → (k ≡ s.rounds → ⊥) → H' k i q ≡ H k i q)
      → ((i q : ℕ) → inner U i ≡ true → outer U q ≡ true → x.at i q ≡ H' s.rounds i q)
      → ((i q : ℕ) (w : R) → inner U q ≡ true → x.at i q ≡ Some w → G.element w ≡ shown_by G U s q)
      → Holds (record { progress = s.progress; posted = posted; halted = s.halted; rounds = s.rounds; page = x; work = s.work }) H'
  page_holds s H H' h x posted seats same now words = record {
    seats = seats;
    within = h.within;
    rows = h.rows;
    heard = λ i k is less.
        let old = h.heard i k is less in
        let other : k ≡ s.rounds → ⊥ = λ e. omega (arith, h.most i is) in
        record { long = old.long; inside = old.inside; outside = λ q o. old.outside q o ∙ sym (same k i q other); opens = old.opens };
    later = λ k i q less. let other : k ≡ s.rounds → ⊥ = λ e. omega arith in same k i q other ∙ h.later k i q less;
    now = now;
    words = words;
    most = h.most;
    least = h.least;
    going = λ going i is. let g = h.going going i is in record { fault = g.fault; count = g.count; works = g.works };
  }

  -- The theory's run, at the history of a bench.
  module _ (laws : PointLaws G.shape G.points) (V : Parts (El G)) (premises : Premises G U V) where
    pub row_shared : (d : ℕ) (row : List R) (v : El G) → length row ≡ U.seats → Opens G d row v → RowShared (table G U) d (λ q. word G row (q - 1)) v
    row_shared d row v long opens =
        subst (λ n. RowShared (table_of G.shape G.points n U.threshold U.inside) d (λ q. word G row (q - 1)) v) long
        ((rows_alike G U.threshold U.inside d row v).0 opens)

    pub shared_row : (d : ℕ) (row : List R) (v : El G) → length row ≡ U.seats → RowShared (table G U) d (λ q. word G row (q - 1)) v → Opens G d row v
    shared_row d row v long opens =
        (rows_alike G U.threshold U.inside d row v).1
        (subst (λ n. RowShared (table_of G.shape G.points n U.threshold U.inside) d (λ q. word G row (q - 1)) v) (sym long) opens)

    pub sound_at : (s : State R) (H : ℕ → ℕ → ℕ → Option R) → Holds s H → SoundRun (table G U) (task G U) (parts_of G U) V (λ i. length (s.progress i).opened) (opened_at G U s)
    sound_at s H h =
        runs_sound (table G U) (tables_stand G.shape G.points laws U.seats U.threshold U.inside premises.sits) (task G U) (parts_of G U) V premises.dealt
        (λ i. length (s.progress i).opened) (opened_at G U s) (λ i k q. word G (h.rows i k) (q - 1))
        (by_number (table G U) (task G U) (parts_of G U) (λ i. length (s.progress i).opened) (opened_at G U s) (λ i k q. word G (h.rows i k) (q - 1))
        (λ i q k hi hq listed less. omega (arith, h.most i (inside_inner U i hi), h.least q (inside_inner U q hq)))
        (λ i q k hi hq listed less. (h.heard i k (inside_inner U i hi) less).inside q (inside_inner U q hq))
        (λ i k hi listed less.
        let r = h.heard i k (inside_inner U i hi) less in
        row_shared (degree_of U.threshold (opening U k)) (h.rows i k) (opened_at G U s i k) r.long r.opens))

  -- A take that is accepted.
  module _ (s t : State R) (H : ℕ → ℕ → ℕ → Option R) (spare : List R) (number : ℕ) (after : List R) (h : Holds s H) (took : Takes G U s spare number after t)
      (live : s.halted ≡ false) (left : s.rounds < opening_count U) (full : ltb 0 (missing s.page) ≡ false) where
    pub row_length : (i : ℕ) → inner U i ≡ true → length (took.row i) ≡ U.seats
    row_length i is = row_long U.veiled s.page i (took.row i) full (took.reads i is) ∙ h.seats

    pub square : (i q : ℕ) → inner U i ≡ true → seat U.seats q ≡ true → get_or (map Some (took.row i)) (q - 1) None ≡ s.page.at i q
    square i q is seated = row_square U.veiled s.page i (took.row i) full (took.reads i is) q (ap (λ n. seat n q) h.seats ∙ seated)

    pub row_word : (i q : ℕ) → inner U i ≡ true → seat U.seats q ≡ true → WordAt (took.row i) (q - 1)
    row_word i q is seated = word_there (took.row i) (q - 1) (omega (arith, row_length i is, seat_low U.seats q seated, seat_high U.seats q seated))

    -- the words of inside seats
    pub inside_word : (i q : ℕ) → inner U i ≡ true → inner U q ≡ true
        → word G (took.row i) (q - 1) ≡ word_of (table G U) (task G U) (parts_of G U q) (opened_at G U s q) (gate_opened (opening U s.rounds))
    inside_word i q is iq =
        let seated = inner_seat U q iq in
        let w = row_word i q is seated in
        word_read G.element (K G).𝟎 (took.row i) (q - 1) w.word w.is
        ∙ h.words i q w.word iq (sym (square i q is seated) ∙ w.is)
        ∙ ap (λ W. shown (K G) U.codes W (opening U s.rounds) (map G.element (part_at (products U.codes (length U.codes)) U.highs q))) (h.going live q iq).works
        ∙ shown_is (K G) (known G.shape U.method U.constants) U.codes U.layouts (parts_of G U q) (opened_at G U s q) s.rounds left
        (map G.element (part_at (products U.codes (length U.codes)) U.highs q)) (λ j. refl)

    -- what an inside seat has opened afterwards
    pub record Longer (i : ℕ) (r : Result R Fault) : Type 0 where
      pub keeps : (j : ℕ) → j < s.rounds → opened_at G U t i j ≡ opened_at G U s i j
      pub count : length (t.progress i).opened ≡ cond (accepts r) (suc s.rounds) s.rounds

    longer : (i : ℕ) → inner U i ≡ true → (r : Result R Fault) → Goes_on G U s t i r → Longer i r
    longer i is (Ok v) goes =
        let old = (s.progress i).opened in
        let n : length old ≡ s.rounds = (h.going live i is).count in
        let e : (t.progress i).opened ≡ old ++ (v ∷ []) = ap (λ (p : Progress R). p.opened) goes.0 in
        record {
          keeps = λ j less.
              ap (λ l. word G l j) e
              ∙ ap (λ l. get_or l j (K G).𝟎) (map_push G.element old v)
              ∙ get_or_append_left (map G.element old) (G.element v ∷ []) (K G).𝟎 j (omega (arith, length-map old G.element));
          count = omega (arith, ap length e, length_push old v);
        }
    longer i is (Err f) goes =
        let e : (t.progress i).opened ≡ (s.progress i).opened = ap (λ (p : Progress R). p.opened) goes.0 in
        record { keeps = λ j less. ap (λ l. word G l j) e; count = ap length e ∙ (h.going live i is).count }

    pub grows : (i : ℕ) → inner U i ≡ true → Longer i (took.came i)
    grows i is = longer i is (took.came i) (took.goes i is)

    last_value : (i : ℕ) → inner U i ≡ true → (v : R) → Goes_on G U s t i (Ok v) → opened_at G U t i s.rounds ≡ G.element v
    last_value i is v goes =
        let old = (s.progress i).opened in
        let n : length old ≡ s.rounds = (h.going live i is).count in
        ap (λ (p : Progress R). word G p.opened s.rounds) goes.0
        ∙ ap (λ l. get_or l s.rounds (K G).𝟎) (map_push G.element old v)
        ∙ get_or_push (map G.element old) (G.element v) (K G).𝟎 s.rounds (length-map old G.element ∙ n)

    -- the row of this round, where a value was opened
    newest : (i : ℕ) → inner U i ≡ true → (r : Result R Fault) → Goes_on G U s t i r → ComesTo G U.layouts U.threshold (took.row i) (opening U s.rounds) r → accepts r ≡ true
        → Opens G (degree_of U.threshold (opening U s.rounds)) (took.row i) (opened_at G U t i s.rounds)
    newest i is (Ok v) goes comes accepting = subst (Opens G (degree_of U.threshold (opening U s.rounds)) (took.row i)) (sym (last_value i is v goes)) comes.0
    newest i is (Err f) goes comes accepting = let z : ⊥ = both_ways false refl accepting in absurd z

    word_later : (q k : ℕ) → inner U q ≡ true → k ≤ s.rounds
        → word_of (table G U) (task G U) (parts_of G U q) (opened_at G U s q) (gate_opened (opening U k)) ≡ word_of (table G U) (task G U) (parts_of G U q) (opened_at G U t q) (gate_opened (opening U k))
    word_later q k iq low = word_same q k (opened_at G U s q) (opened_at G U t q) (omega arith) (λ j less. sym ((grows q iq).keeps j (omega arith)))

    heard_now : (i : ℕ) → inner U i ≡ true → accepts (took.came i) ≡ true → Heard H (opened_at G U t) i s.rounds (took.row i)
    heard_now i is accepting = record {
      long = row_length i is;
      inside = λ q iq. inside_word i q is iq ∙ word_later q s.rounds iq (omega arith);
      outside = λ q oq. square i q is (outer_seat U q oq) ∙ h.now i q is oq;
      opens = newest i is (took.came i) (took.goes i is) (took.opens i is) accepting;
    }

    heard_before : (i k : ℕ) → inner U i ≡ true → k < s.rounds → Heard H (opened_at G U t) i k (h.rows i k)
    heard_before i k is less =
        let old = h.heard i k is (omega (arith, (h.going live i is).count)) in
        record {
          long = old.long;
          inside = λ q iq. old.inside q iq ∙ word_later q k iq (omega arith);
          outside = old.outside;
          opens = subst (Opens G (degree_of U.threshold (opening U k)) (h.rows i k)) (sym ((grows i is).keeps k less)) old.opens;
        }

    accepted_count : (i : ℕ) → inner U i ≡ true → (b : Bool) → accepts (took.came i) ≡ b → length (t.progress i).opened ≡ cond b (suc s.rounds) s.rounds
    accepted_count i is b e = (grows i is).count ∙ ap (λ c. cond c (suc s.rounds) s.rounds) e

    heard_after : (i k : ℕ) → inner U i ≡ true → k < length (t.progress i).opened → Heard H (opened_at G U t) i k (cond (eqb k s.rounds) (took.row i) (h.rows i k))
    heard_after i k is less = elim (cases_Bool (accepts (took.came i))) [
      | inl accepting ↦
          let n = accepted_count i is true accepting in
          elim (cases_eq k s.rounds) [
            | inl here ↦ subst (λ j. Heard H (opened_at G U t) i j (cond (eqb j s.rounds) (took.row i) (h.rows i j))) (sym here)
                (subst (Heard H (opened_at G U t) i s.rounds) (sym (cond-true (eqb s.rounds s.rounds) (took.row i) (h.rows i s.rounds) (eq-eqb s.rounds s.rounds refl))) (heard_now i is accepting))
            | inr other ↦ before (omega arith) other
          ]
      | inr stops ↦
          let n = accepted_count i is false stops in
          before (omega arith) (λ e. omega arith)
    ]
      where
        before : k < s.rounds → (k ≡ s.rounds → ⊥) → Heard H (opened_at G U t) i k (cond (eqb k s.rounds) (took.row i) (h.rows i k))
        before less other =
            subst (Heard H (opened_at G U t) i k) (sym (cond-false (eqb k s.rounds) (took.row i) (h.rows i k) (ne_eqb k s.rounds other))) (heard_before i k is less)

    going_on : (i : ℕ) → inner U i ≡ true → (r : Result R Fault) → Goes_on G U s t i r → accepts r ≡ true → Going t i
    going_on i is (Err f) goes accepting = let z : ⊥ = both_ways false refl accepting in absurd z
    going_on i is (Ok v) goes accepting =
        let g = h.going live i is in
        let up = took.rounds in
        record {
          fault = ap (λ (p : Progress R). p.fault) goes.0 ∙ g.fault;
          count = (longer i is (Ok v) goes).count ∙ sym up;
          works =
              goes.1
              ∙ ap (λ W. kept (K G) (known G.shape U.method U.constants) U.codes U.layouts (parts_of G U i).input W (opening U s.rounds)
              (map G.element (part_at (products U.codes (length U.codes)) U.lows i)) (G.element v) (stage U.codes (suc s.rounds)))
              (g.works ∙ ap (listed (length U.codes)) (shares_same i s.rounds (opened_at G U s i) (opened_at G U t i) (omega arith) (λ j less. sym ((longer i is (Ok v) goes).keeps j less))))
              ∙ kept_is (K G) (known G.shape U.method U.constants) U.codes U.layouts (parts_of G U i) (opened_at G U t i) s.rounds left
              (map G.element (part_at (products U.codes (length U.codes)) U.lows i)) (λ j. refl) (G.element v) (sym (last_value i is v goes))
              ∙ ap (λ k. listed (length U.codes) (share_of (table G U) (task G U) (parts_of G U i) (opened_at G U t i) (stage U.codes k))) (sym up);
        }

    pub all_accept : t.halted ≡ false → (i : ℕ) → inner U i ≡ true → accepts (took.came i) ≡ true
    all_accept none i is =
        let p = and_parts (seat U.seats i) (U.inside i) is in
        let f = none_some U.seats (λ j. U.inside j && not (accepts (took.came j))) (sym took.halted ∙ none) i p.0 in
        not-false (accepts (took.came i)) (sym (ap (λ b. b && not (accepts (took.came i))) p.1) ∙ f)

    pub take_holds : Holds t H
    take_holds =
        let up = took.rounds in
        let empty : (i q : ℕ) → t.page.at i q ≡ None = λ i q. ap (λ (x : Page R). x.at i q) took.page in
        record {
          seats = ap (λ (x : Page R). x.seats) took.page ∙ h.seats;
          within = omega arith;
          rows = λ i k. cond (eqb k s.rounds) (took.row i) (h.rows i k);
          heard = heard_after;
          later = λ k i q less. h.later k i q (omega arith);
          now = λ i q is oq. empty i q ∙ sym (h.later t.rounds i q (omega arith));
          words = λ i q w iq held. let e = empty i q in cc;
          most = λ i is. elim (cases_Bool (accepts (took.came i))) [ inl accepting ↦ omega (arith, accepted_count i is true accepting) | inr stops ↦ omega (arith, accepted_count i is false stops) ];
          least = λ i is. elim (cases_Bool (accepts (took.came i))) [ inl accepting ↦ omega (arith, accepted_count i is true accepting) | inr stops ↦ omega (arith, accepted_count i is false stops) ];
          going = λ none i is. going_on i is (took.came i) (took.goes i is) (all_accept none i is);
        }
