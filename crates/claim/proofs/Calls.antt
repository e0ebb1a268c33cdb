-- Every call keeps what holds of a bench.
use Rattle.std.proofs.Common.{◌≡◌, ℕ, suc, ◌-◌, ◌<◌, Bool, true, false, cond, not, ◌&&◌, eqb, ltb, List, length, is_some, Some, None, Ok, Err, Option, Result, sym, refl, ap, ◌∙◌, subst, ap₂, inl, inr, arith}
use Rattle.std.proofs.lemmas.Bool.{and_parts, and_left, and_right, both_ways, cases_Bool, cases_eq, cond-true, cond-false, eq-eqb, eqb-true, ne_eqb, leb-false}
use Rattle.ring.specs.Model.{PointLaws}
use Rattle.ring.specs.declared.Ring.{Ghosts}
use Rattle.curve.specs.Curve.{El, K, word, or_else, Opens}
use Rattle.curve.specs.declared.refusal.Refusal.{Refusal}
use Rattle.curve.specs.declared.refusal.Refusal.TheVariants.{Length, Missing, Placed, Halted, Done, Seat as NoSeat, Own, Common}
use Rattle.encoding.specs.Encodings.{Sound}
use Rattle.circuit.specs.Openings.{openings_of, gate_opened, degree_of}
use Rattle.rules.specs.Rules.{Parts}
use Rattle.protocol.specs.Runs.{TrueWord, value_opened}
use Rattle.protocol.specs.Shares.{Opens as RowShared}
use Rattle.protocol.proofs.Engine.{tables_stand}
use Rattle.protocol.proofs.Gates.{openings_numbered}
use Rattle.protocol.proofs.Runs.{openings_complete}
use Rattle.exchange.specs.Sheet.{Page, seat, sent, written, outcome, place_all, place_one, all_refused, one_refused, missing}
use Rattle.node.specs.Openings.{ComesTo}
use Rattle.node.specs.declared.fault.Fault.{Fault}
use Rattle.claim.specs.Bench.{Setup, Progress, State, Call, Post, TellAll, TellOne, Look, Take, ResultOf, FaultOf, Answer, Did, Refused, inner, outer, opening, opening_count, over, parts_of, table, task, opened_at}
use Rattle.claim.specs.Steps.{accepts, with_page, posted_page, shown_by, own_squares, ended, refusal, Posts, Goes_on, Takes, Accepted, Outcome, Step, Starts}
use Rattle.claim.specs.Claim.{Premises, did, placed_by, first_of}
use Rattle.claim.proofs.Rows.{word_read, not_sent, square_empty, some_none, rows_same, inner_seat, inside_inner, outside_outer, outer_seat, not_both}
use Rattle.claim.proofs.Outputs.{output_within}
use Rattle.claim.proofs.Invariant.{Holds, page_holds, sound_at, shared_row, row_length, square, row_word, inside_word, grows, take_holds}
use Rattle.claim.proofs.Faults.{Agreed, agree, no_fault}

-- tests that were passed
pub or_none : (a b : Option Refusal) → or_else a b ≡ None → (a ≡ None) × (b ≡ None)
or_none None b e = (refl, e)
or_none (Some x) b e = (cc, cc)

pub else_none : (b : Bool) (x : Option Refusal) (e : Refusal) → cond b x (Some e) ≡ None → (b ≡ true) × (x ≡ None)
else_none true x e is = (refl, is)
else_none false x e is = (cc, cc)

pub then_none : (b : Bool) (e : Refusal) (x : Option Refusal) → cond b (Some e) x ≡ None → (b ≡ false) × (x ≡ None)
then_none true e x is = (cc, cc)
then_none false e x is = (refl, is)

eqb_turn : (a b : ℕ) → eqb a b ≡ eqb b a
eqb_turn a b = elim (cases_eq a b) [
  | inl same ↦ eq-eqb a b same ∙ sym (eq-eqb b a (sym same))
  | inr other ↦ ne_eqb a b other ∙ sym (ne_eqb b a (λ e. other (sym e)))
]

and_turn : (a b : Bool) → (a && b) ≡ (b && a)
and_turn true true = refl
and_turn true false = refl
and_turn false true = refl
and_turn false false = refl

module _ {R : Type 0} where
  pub first_none : (o : Option R) → first_of o None ≡ o
  first_none None = refl
  first_none (Some w) = refl

  cond_none : (b : Bool) → ◌≡◌ {A = Option R} (cond b None None) None
  cond_none true = refl
  cond_none false = refl

  -- the outside words by round, receiver and sender, after a call in round r
  abbrev pub extend : (ℕ → ℕ → ℕ → Option R) → ℕ → Call R → Answer R → ℕ → ℕ → ℕ → Option R
  extend H r c a k i q = first_of (H k i q) (cond (eqb k r) (placed_by c a i q) None)

  extend_other : (H : ℕ → ℕ → ℕ → Option R) (r : ℕ) (c : Call R) (a : Answer R) (k i q : ℕ) → (k ≡ r → ⊥) → extend H r c a k i q ≡ H k i q
  extend_other H r c a k i q other = ap (λ b. first_of (H k i q) (cond b (placed_by c a i q) None)) (ne_eqb k r other) ∙ first_none (H k i q)

  extend_same : (H : ℕ → ℕ → ℕ → Option R) (r : ℕ) (c : Call R) (a : Answer R) → ((i q : ℕ) → placed_by c a i q ≡ None) → H ≡ extend H r c a
  extend_same H r c a none =
      λ j k i q. sym (ap (λ o. first_of (H k i q) (cond (eqb k r) o None)) (none i q) ∙ ap (first_of (H k i q)) (cond_none (eqb k r)) ∙ first_none (H k i q)) j

  refused_none : (c : Call R) (e : Refusal) (i q : ℕ) → placed_by c (Refused e) i q ≡ None
  refused_none Post e i q = refl
  refused_none (TellAll p w) e i q = refl
  refused_none (TellOne p r w) e i q = refl
  refused_none (Look r p) e i q = refl
  refused_none (Take row) e i q = refl
  refused_none (ResultOf j o l) e i q = refl
  refused_none (FaultOf j) e i q = refl

-- outside words that were not refused
pub all_passed : {R : Type 0} (U : Setup R) (x : Page R) (q : ℕ) → cond (outer U q) (all_refused x q) (Some NoSeat) ≡ None → (outer U q ≡ true) × (sent x q ≡ false) × (all_refused x q ≡ None)
all_passed U x q passed =
    let out = else_none (outer U q) (all_refused x q) NoSeat passed in
    let seated = else_none (seat x.seats q) (cond (sent x q) (Some Placed) None) NoSeat out.1 in
    (out.0, (then_none (sent x q) Placed None seated.1).0, out.1)

pub one_passed : {R : Type 0} (U : Setup R) (x : Page R) (q r : ℕ) → cond (outer U q && seat U.seats r) (one_refused U.common x q r) (Some NoSeat) ≡ None
    → (outer U q ≡ true) × (U.common ≡ false) × (is_some (x.at r q) ≡ false) × (one_refused U.common x q r ≡ None)
one_passed U x q r passed =
    let out = else_none (outer U q && seat U.seats r) (one_refused U.common x q r) NoSeat passed in
    let seated = else_none (seat x.seats q && seat x.seats r) (cond U.common (Some Common) (cond (is_some (x.at r q)) (Some Placed) None)) NoSeat out.1 in
    let apart = then_none U.common Common (cond (is_some (x.at r q)) (Some Placed) None) seated.1 in
    ((and_parts (outer U q) (seat U.seats r) out.0).0, apart.0, (then_none (is_some (x.at r q)) Placed None apart.1).0, out.1)

module _ {R C : Type 0} (G : Ghosts R C) (U : Setup R) where
  -- all inside seats alike
  pub record Level (s : State R) : Type 0 where
    pub squares : (i j q : ℕ) → inner U i ≡ true → inner U j ≡ true → s.page.at i q ≡ s.page.at j q
    pub faults : (i j : ℕ) → inner U i ≡ true → inner U j ≡ true → (s.progress i).fault ≡ (s.progress j).fault
    pub counts : (i j : ℕ) → inner U i ≡ true → inner U j ≡ true → length (s.progress i).opened ≡ length (s.progress j).opened

  -- the outside words are true ones
  abbrev pub TrueIn : Parts (El G) → (ℕ → ℕ → ℕ → Option R) → Type 0
  TrueIn V H = (k i q : ℕ) (w : R) → inner U i ≡ true → outer U q ≡ true → H k i q ≡ Some w → TrueWord (table G U) (task G U) (parts_of G U) V q (gate_opened (opening U k)) (G.element w)

  pub record Inv (V : Parts (El G)) (s : State R) (H : ℕ → ℕ → ℕ → Option R) : Type 0 where
    pub holds : Holds G U s H
    pub live : TrueIn V H → s.halted ≡ false
    pub alike : U.common ≡ true → Level s

  pub start_inv : (V : Parts (El G)) (s : State R) → Starts G U s → Holds G U s (λ k i q. None) → Inv V s (λ k i q. None)
  start_inv V s starts h = record {
    holds = h;
    live = λ _. starts.halted;
    alike = λ _. record {
      squares = λ i j q _ _. ap (λ (x : Page R). x.at i q) starts.page.1 ∙ sym (ap (λ (x : Page R). x.at j q) starts.page.1);
      faults = λ i j _ _. ap (λ (p : Progress R). p.fault) (starts.fresh i) ∙ sym (ap (λ (p : Progress R). p.fault) (starts.fresh j));
      counts = λ i j _ _. ap (λ (p : Progress R). length p.opened) (starts.fresh i) ∙ sym (ap (λ (p : Progress R). length p.opened) (starts.fresh j));
    };
  }

  module _ (V : Parts (El G)) (s : State R) (H : ℕ → ℕ → ℕ → Option R) (inv : Inv V s H) where
    -- nothing changes
    stay : (t : State R) (c : Call R) (a : Answer R) → t ≡ s → ((i q : ℕ) → placed_by c a i q ≡ None) → Inv V t (extend H s.rounds c a)
    stay t c a same none = subst (λ x. Inv V x (extend H s.rounds c a)) (sym same) (subst (Inv V s) (extend_same H s.rounds c a none) inv)

    -- true words were true before
    true_before : (c : Call R) (a : Answer R) → TrueIn V (extend H s.rounds c a) → TrueIn V H
    true_before c a all k i q w is oq held = all k i q w is oq (ap (λ o. first_of o (cond (eqb k s.rounds) (placed_by c a i q) None)) held)

    -- an outside word w of q is put into empty squares, those of which f holds
    tells : (c : Call R) (a : Answer R) (q : ℕ) (w : R) (f : ℕ → ℕ → Bool) → outer U q ≡ true
        → ((i p : ℕ) → f i p ≡ true → p ≡ q)
        → ((i : ℕ) → inner U i ≡ true → f i q ≡ true → s.page.at i q ≡ None)
        → ((i p : ℕ) → inner U i ≡ true → placed_by c a i p ≡ cond (f i p) (Some w) None)
        → (U.common ≡ true → (i j p : ℕ) → inner U i ≡ true → inner U j ≡ true → f i p ≡ f j p)
        → Inv V (with_page s (written s.page f w)) (extend H s.rounds c a)
    tells c a q w f oq one empty placed alike = record {
      holds = page_holds G U s H (extend H s.rounds c a) inv.holds (written s.page f w) s.posted inv.holds.seats
          (λ k i p other. extend_other H s.rounds c a k i p other)
          (λ i p is op. now i p is op (f i p) refl ∙ sym (later i p is op))
          (λ i p v ip held. words i p v ip (f i p) refl held);
      live = λ all. inv.live (true_before c a all);
      alike = λ common. let level = inv.alike common in record {
        squares = λ i j p ii ij. ap₂ (λ b o. cond b (Some w) o) (alike common i j p ii ij) (level.squares i j p ii ij);
        faults = level.faults;
        counts = level.counts;
      };
    }
      where
        later : (i p : ℕ) → inner U i ≡ true → outer U p ≡ true → extend H s.rounds c a s.rounds i p ≡ first_of (s.page.at i p) (cond (f i p) (Some w) None)
        later i p is op =
            ap (λ b. first_of (H s.rounds i p) (cond b (placed_by c a i p) None)) (eq-eqb s.rounds s.rounds refl)
            ∙ ap₂ first_of (sym (inv.holds.now i p is op)) (placed i p is)

        now : (i p : ℕ) → inner U i ≡ true → outer U p ≡ true → (b : Bool) → f i p ≡ b → cond (f i p) (Some w) (s.page.at i p) ≡ first_of (s.page.at i p) (cond (f i p) (Some w) None)
        now i p is op true e =
            let here : p ≡ q = one i p e in
            let bare : s.page.at i p ≡ None = ap (s.page.at i) here ∙ empty i is (ap (f i) (sym here) ∙ e) in
            cond-true (f i p) (Some w) (s.page.at i p) e ∙ sym (ap₂ first_of bare (cond-true (f i p) (Some w) None e))
        now i p is op false e =
            cond-false (f i p) (Some w) (s.page.at i p) e
            ∙ sym (ap (first_of (s.page.at i p)) (cond-false (f i p) (Some w) None e) ∙ first_none (s.page.at i p))

        words : (i p : ℕ) (v : R) → inner U p ≡ true → (b : Bool) → f i p ≡ b → cond (f i p) (Some w) (s.page.at i p) ≡ Some v → G.element v ≡ shown_by G U s p
        words i p v ip true e held = absurd (not_both U q (ap (inner U) (sym (one i p e)) ∙ ip) oq)
        words i p v ip false e held = inv.holds.words i p v ip (sym (cond-false (f i p) (Some w) (s.page.at i p) e) ∙ held)

    told_all : (t : State R) (a : Answer R) (q : ℕ) (w : R) → cond (outer U q) (all_refused s.page q) (Some NoSeat) ≡ None → a ≡ Did
        → t ≡ with_page s (place_all s.page q w).1 → Inv V t (extend H s.rounds (TellAll q w) a)
    told_all t a q w passed is same =
        let out = all_passed U s.page q passed in
        let n = s.page.seats in
        let sits : (i : ℕ) → inner U i ≡ true → seat n i ≡ true = λ i ii. ap (λ m. seat m i) inv.holds.seats ∙ inner_seat U i ii in
        subst (λ x. Inv V x (extend H s.rounds (TellAll q w) a))
        (ap (λ o. with_page s (outcome o s.page (written s.page (λ p p'. seat n p && eqb p' q) w)).1) (sym out.2) ∙ sym same)
        (tells (TellAll q w) a q w (λ p p'. seat n p && eqb p' q) out.0
        (λ i p e. eqb-true p q (and_parts (seat n i) (eqb p q) e).1)
        (λ i ii e. not_sent s.page q out.1 i (sits i ii))
        (λ i p ii. ap (λ b. cond (did b && eqb q p) (Some w) None) is ∙ ap (λ b. cond b (Some w) None) (eqb_turn q p ∙ sym (ap (λ b. b && eqb p q) (sits i ii))))
        (λ _ i j p ii ij. ap (λ b. b && eqb p q) (sits i ii ∙ sym (sits j ij))))

    told_one : (t : State R) (a : Answer R) (q r : ℕ) (w : R) → cond (outer U q && seat U.seats r) (one_refused U.common s.page q r) (Some NoSeat) ≡ None → a ≡ Did
        → t ≡ with_page s (place_one U.common s.page q r w).1 → Inv V t (extend H s.rounds (TellOne q r w) a)
    told_one t a q r w passed is same =
        let out = one_passed U s.page q r passed in
        subst (λ x. Inv V x (extend H s.rounds (TellOne q r w) a))
        (ap (λ o. with_page s (outcome o s.page (written s.page (λ p p'. eqb p r && eqb p' q) w)).1) (sym out.3) ∙ sym same)
        (tells (TellOne q r w) a q w (λ p p'. eqb p r && eqb p' q) out.0
        (λ i p e. eqb-true p q (and_parts (eqb i r) (eqb p q) e).1)
        (λ i ii e. ap (λ j. s.page.at j q) (eqb-true i r (and_parts (eqb i r) (eqb q q) e).0) ∙ square_empty (s.page.at r q) out.2)
        (λ i p ii. ap (λ b. cond (did b && eqb q p && eqb r i) (Some w) None) is ∙ ap (λ b. cond b (Some w) None) (ap₂ ◌&&◌ (eqb_turn q p) (eqb_turn r i) ∙ and_turn (eqb p q) (eqb i r)))
        (λ common i j p ii ij. absurd (both_ways U.common out.1 common)))

    -- the inside words are posted
    posts : (t : State R) (a : Answer R) → Posts G U s t → Inv V t (extend H s.rounds Post a)
    posts t a post =
        let x = posted_page U s.page post.words in
        let n = s.page.seats in
        let sits : (i : ℕ) → inner U i ≡ true → seat n i ≡ true = λ i ii. ap (λ m. seat m i) inv.holds.seats ∙ inner_seat U i ii in
        subst (Inv V t) (extend_same H s.rounds Post a (λ i q. refl))
        (subst (λ y. Inv V y H) (sym post.state)
        (record {
          holds = page_holds G U s H H inv.holds x true inv.holds.seats (λ k i q other. refl)
              (λ i q ii oq.
              cond-false (inner U q && seat n i && not (sent s.page q)) (Some (post.words q)) (s.page.at i q) (not_inner q oq i)
              ∙ inv.holds.now i q ii oq)
              (λ i q w iq held. words i q w iq (inner U q && seat n i && not (sent s.page q)) held);
          live = inv.live;
          alike = λ common. let level = inv.alike common in record {
            squares = λ i j q ii ij.
                ap₂ (λ b o. cond (inner U q && b && not (sent s.page q)) (Some (post.words q)) o) (sits i ii ∙ sym (sits j ij)) (level.squares i j q ii ij);
            faults = level.faults;
            counts = level.counts;
          };
        }))
      where
        not_inner : (q : ℕ) → outer U q ≡ true → (i : ℕ) → (inner U q && seat s.page.seats i && not (sent s.page q)) ≡ false
        not_inner q oq i = elim (cases_Bool (inner U q)) [
          | inl iq ↦ absurd (not_both U q iq oq)
          | inr nq ↦ ap (λ b. b && seat s.page.seats i && not (sent s.page q)) nq
        ]

        words : (i q : ℕ) (w : R) → inner U q ≡ true → (b : Bool) → cond b (Some (post.words q)) (s.page.at i q) ≡ Some w → G.element w ≡ shown_by G U s q
        words i q w iq true held = let e : w ≡ post.words q = cc in ap G.element e ∙ post.are q iq
        words i q w iq false held = inv.holds.words i q w iq held

  -- a take
  module _ (laws : PointLaws G.shape G.points) (V : Parts (El G)) (sound : (m : ℕ) → m < 3 → Sound (U.method m)) (premises : Premises G U V)
      (s t : State R) (H : ℕ → ℕ → ℕ → Option R) (inv : Inv V s H) (spare : List R) (number : ℕ) (after : List R) (turn : Takes G U s spare number after t)
      (going : s.halted ≡ false) (left : s.rounds < opening_count U) (full : ltb 0 (missing s.page) ≡ false) where
    -- with true outside words every row opens to the value shared
    opens_true : TrueIn V H → (i : ℕ) → inner U i ≡ true → Opens G (degree_of U.threshold (opening U s.rounds)) (turn.row i) (value_opened (table G U) (task G U) V s.rounds)
    opens_true all i is =
        let h = inv.holds in
        let k = s.rounds in
        let n = (openings_numbered U.codes).each k left in
        let g = gate_opened (opening U k) in
        let run = sound_at G U laws V premises s H h in
        shared_row G U laws V premises (degree_of U.threshold (opening U k)) (turn.row i) (value_opened (table G U) (task G U) V k) (row_length G U s t H spare number after h turn going left full i is)
        (subst (λ d. RowShared (table G U) d (λ q. word G (turn.row i) (q - 1)) (value_opened (table G U) (task G U) V k)) (sym (n.degrees U.threshold))
        (openings_complete (table G U) (tables_stand G.shape G.points laws U.seats U.threshold U.inside premises.sits) (task G U) (parts_of G U) V premises.dealt
        (opened_at G U s) g n.below
        (λ q hq. run.right q g hq (omega (arith, n.below)) (omega (arith, n.number, (h.going going q (inside_inner U q hq)).count)))
        (λ q. word G (turn.row i) (q - 1))
        (λ q hq. inside_word G U s t H spare number after h turn going left full i q is (inside_inner U q hq))
        (λ q oq.
        let out = outside_outer U q oq in
        let w = row_word G U s t H spare number after h turn going left full i q is (outer_seat U q out) in
        let held = sym (h.now i q is out) ∙ sym (square G U s t H spare number after h turn going left full i q is (outer_seat U q out)) ∙ w.is in
        subst (TrueWord (table G U) (task G U) (parts_of G U) V q g) (sym (word_read G.element (K G).𝟎 (turn.row i) (q - 1) w.word w.is))
        (all k i q w.word is out held))))

    accepts_true : TrueIn V H → (i : ℕ) → inner U i ≡ true → accepts (turn.came i) ≡ true
    accepts_true all i is =
        no_fault G U laws V premises (turn.row i) (row_length G U s t H spare number after inv.holds turn going left full i is) (opening U s.rounds) (turn.came i) (turn.opens i is)
        (value_opened (table G U) (task G U) V s.rounds) (opens_true all i is) (λ out. output_within G U V sound premises s.rounds left out)

    goes_on_true : TrueIn V H → t.halted ≡ false
    goes_on_true all =
        turn.halted
        ∙ some_none U.seats (λ i. U.inside i && not (accepts (turn.came i)))
        (λ i seated. elim (cases_Bool (U.inside i)) [
          | inl inside ↦
              let is : inner U i ≡ true = ap₂ ◌&&◌ seated inside in
              and_right (U.inside i) (not (accepts (turn.came i))) (ap not (accepts_true all i is))
          | inr outside ↦ and_left (U.inside i) (not (accepts (turn.came i))) outside
        ])

    -- the same rows come to the same
    faults_same : (i j : ℕ) (a b : Result R Fault) → Agreed a b → Goes_on G U s t i a → Goes_on G U s t j b → (s.progress i).fault ≡ (s.progress j).fault → (t.progress i).fault ≡ (t.progress j).fault
    faults_same i j (Ok v) (Ok w) agreed gi gj same = ap (λ (p : Progress R). p.fault) gi.0 ∙ same ∙ sym (ap (λ (p : Progress R). p.fault) gj.0)
    faults_same i j (Ok v) (Err g) agreed gi gj same = absurd agreed
    faults_same i j (Err f) (Ok w) agreed gi gj same = absurd agreed
    faults_same i j (Err f) (Err g) agreed gi gj same = ap (λ (p : Progress R). p.fault) gi.0 ∙ ap Some agreed ∙ sym (ap (λ (p : Progress R). p.fault) gj.0)

    pub accepts_same : (a b : Result R Fault) → Agreed a b → accepts a ≡ accepts b
    accepts_same (Ok v) (Ok w) agreed = refl
    accepts_same (Ok v) (Err g) agreed = absurd agreed
    accepts_same (Err f) (Ok w) agreed = absurd agreed
    accepts_same (Err f) (Err g) agreed = refl

    pub agreed : U.common ≡ true → (i j : ℕ) → inner U i ≡ true → inner U j ≡ true → Agreed (turn.came i) (turn.came j)
    agreed common i j ii ij =
        let same : turn.row i ≡ turn.row j = rows_same U.veiled s.page i j (turn.row i) (turn.row j) full (turn.reads i ii) (turn.reads j ij) (λ q. (inv.alike common).squares i j q ii ij) in
        agree G U laws V premises (turn.row j) (row_length G U s t H spare number after inv.holds turn going left full j ij) (opening U s.rounds) (turn.came i) (turn.came j)
        (subst (λ r. ComesTo G U.layouts U.threshold r (opening U s.rounds) (turn.came i)) same (turn.opens i ii)) (turn.opens j ij)

    pub take_inv : Inv V t H
    take_inv = record {
      holds = take_holds G U s t H spare number after inv.holds turn going left full;
      live = goes_on_true;
      alike = λ common. let level = inv.alike common in record {
        squares = λ i j q ii ij. ap (λ (x : Page R). x.at i q) turn.page ∙ sym (ap (λ (x : Page R). x.at j q) turn.page);
        faults = λ i j ii ij. faults_same i j (turn.came i) (turn.came j) (agreed common i j ii ij) (turn.goes i ii) (turn.goes j ij) (level.faults i j ii ij);
        counts = λ i j ii ij.
            (grows G U s t H spare number after inv.holds turn going left full i ii).count
            ∙ ap (λ b. cond b (suc s.rounds) s.rounds) (accepts_same (turn.came i) (turn.came j) (agreed common i j ii ij))
            ∙ sym (grows G U s t H spare number after inv.holds turn going left full j ij).count;
      };
    }

  -- what was tested before a take
  pub record Ready (s : State R) : Type 0 where
    pub going : s.halted ≡ false
    pub left : s.rounds < opening_count U
    pub full : ltb 0 (missing s.page) ≡ false

  pub take_passed : (s : State R) (row : List R) → refusal G U s (Take row) ≡ None → Ready s
  take_passed s row passed =
      let tests = cond (ltb 0 (missing s.page)) (Some Missing) (cond (own_squares G U s) None (Some Own)) in
      let long = else_none (eqb (length row) U.seats) (or_else (ended G U s) tests) Length passed in
      let parts = or_none (ended G U s) tests long.1 in
      let going = then_none s.halted Halted (cond (over U s) (Some Done) None) parts.0 in
      let left = then_none (over U s) Done None going.1 in
      let full = then_none (ltb 0 (missing s.page)) Missing (cond (own_squares G U s) None (Some Own)) parts.1 in
      record { going = going.0; left = leb-false (length (openings_of U.codes)) s.rounds left.0; full = full.0 }

  -- any call
  module _ (laws : PointLaws G.shape G.points) (V : Parts (El G)) (sound : (m : ℕ) → m < 3 → Sound (U.method m)) (premises : Premises G U V)
      (s t : State R) (H : ℕ → ℕ → ℕ → Option R) (inv : Inv V s H) (a : Answer R) where
    accepted : (c : Call R) → refusal G U s c ≡ None → Accepted G U s c a t → Inv V t (extend H s.rounds c a)
    accepted Post passed by = posts V s H inv t a by.1
    accepted (TellAll q w) passed by = told_all V s H inv t a q w (or_none (ended G U s) (cond (outer U q) (all_refused s.page q) (Some NoSeat)) passed).1 by.0 by.1
    accepted (TellOne q r w) passed by =
        told_one V s H inv t a q r w (or_none (ended G U s) (cond (outer U q && seat U.seats r) (one_refused U.common s.page q r) (Some NoSeat)) passed).1 by.0 by.1
    accepted (Look r q) passed by = stay V s H inv t (Look r q) a by.1 (λ i p. refl)
    accepted (Take row) passed by =
        let ready = take_passed s row passed in
        subst (Inv V t) (extend_same H s.rounds (Take row) a (λ i q. refl))
        (take_inv laws V sound premises s t H inv row by.0 by.1 by.3 ready.going ready.left ready.full)
    accepted (ResultOf i o l) passed by = stay V s H inv t (ResultOf i o l) a by.1 (λ j q. refl)
    accepted (FaultOf i) passed by = stay V s H inv t (FaultOf i) a by.1 (λ j q. refl)

    by_outcome : (c : Call R) (r : Option Refusal) → refusal G U s c ≡ r → Outcome G U s c a t r → Inv V t (extend H s.rounds c a)
    by_outcome c None is by = accepted c is by
    by_outcome c (Some e) is by = stay V s H inv t c a by.1 (λ i q. ap (λ b. placed_by c b i q) by.0 ∙ refused_none c e i q)

    pub step_inv : (c : Call R) → Step G U s c a t → Inv V t (extend H s.rounds c a)
    step_inv c step = by_outcome c (refusal G U s c) refl step.by
