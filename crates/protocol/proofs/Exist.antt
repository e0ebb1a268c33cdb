-- The premises can be met: every seat has true words, and where all keep to the rules there is a run to the end.
use Rattle.std.proofs.Common.{◌≡◌, ℕ, ◌≤◌, Bool, true, false, cond, ◌||◌, eqb, ◌⊎◌, length, sym, refl, ap, ◌∙◌, subst, inl, inr, arith}
use Rattle.std.proofs.lemmas.Bool.{cases_Bool, cases_lt, both_ways, eqb-true, cond-true, cond-false}
use Rattle.algebra.specs.Poly.{val}
use Rattle.algebra.specs.Ring.{ops}
use Rattle.circuit.specs.Kinds.{gate_at}
use Rattle.circuit.specs.Openings.{products}
use Rattle.rules.specs.Rules.{Parts}
use Rattle.protocol.specs.Gates.{degree, named}
use Rattle.protocol.specs.Shares.{Table, Inside, everyone, Shared, Opens}
use Rattle.protocol.specs.Runs.{Task, word_of, value_shared, value_opened, Dealt, Right, TrueWord, TrueWordsExist, TrueWordsOnce, RunsComplete}
use Rattle.protocol.proofs.Gates.{openings_numbered}
use Rattle.protocol.proofs.Shares.{same, joined}
use Rattle.protocol.proofs.Runs.{curves, lies}

field : {A B : Type 0} (f : A → B) (b : Bool) (x y : A) → cond b (f x) (f y) ≡ f (cond b x y)
field f true x y = refl
field f false x y = refl

-- the values shared are right openings
pub opened_right : {E : Type 0} (T : Table E) (W : Task E) (V : Parts E) (g : ℕ) → g ≤ length W.codes → Right T W V (value_opened T W V) g
opened_right T W V g below = record { at = λ h less o. ap (value_shared T W V) ((openings_numbered W.codes).found h (omega arith) o) }

-- One seat more has the values at its point of the polynomials through the inside parts.
module _ {E : Type 0} (T : Table E) (W : Task E) (P : ℕ → Parts E) (V : Parts E) (dealt : Dealt T W T.inside P V) (s : ℕ) where
  abbrev set : ℕ → Bool
  set i = T.inside i || eqb i s

  extended : {d : ℕ} {w : ℕ → E} {v : E} (f : Shared T T.inside d w v) → Shared T set d (λ i. cond (eqb i s) (val (ops T.ring) f.poly (T.point s)) (w i)) v
  extended {d} {w} f = record {
    poly = f.poly;
    small = f.small;
    through = λ i h. elim (joined T.inside i s h) [
      | inl here ↦ ap (λ k. val (ops T.ring) f.poly (T.point k)) (eqb-true i s here) ∙ sym (cond-true (eqb i s) _ _ here)
      | inr other ↦ f.through i other.1 ∙ sym (cond-false (eqb i s) _ _ other.0)
    ];
    at_zero = f.at_zero;
  }

  abbrev part_by : {A B : Type 0} {d : ℕ} {w : ℕ → E} {v : E} → (A → Shared T T.inside d w v) → A ⊎ B → E
  part_by f (inl a) = val (ops T.ring) (f a).poly (T.point s)
  part_by f (inr b) = T.ring.𝟎

  abbrev parts : Parts E
  parts = record {
    input = λ i. part_by (dealt.inputs i) (cases_Bool (named W.codes (length W.codes) i));
    high = λ j. part_by (dealt.highs j) (cases_lt j (products W.codes (length W.codes)));
    low = λ j. part_by (dealt.lows j) (cases_lt j (products W.codes (length W.codes)));
  }

  more : {A B : Type 0} {d : ℕ} {v : E} (part : Parts E → E) (f : A → Shared T T.inside d (λ i. part (P i)) v) (c : A ⊎ B) → part parts ≡ part_by f c → (B → ⊥)
      → Shared T set d (λ i. part (cond (eqb i s) parts (P i))) v
  more part f (inl a) e none = same _ (λ i h. ap (λ x. cond (eqb i s) x (part (P i))) (sym e) ∙ field part (eqb i s) parts (P i)) (extended (f a))
  more part f (inr b) e none = absurd (none b)

  pub dealt_more : Dealt T W set (λ i. cond (eqb i s) parts (P i)) V
  dealt_more = record {
    inputs = λ i e. more (λ p. p.input i) (dealt.inputs i) (cases_Bool (named W.codes (length W.codes) i)) refl (λ other. both_ways _ other e);
    highs = λ j e. more (λ p. p.high j) (dealt.highs j) (cases_lt j (products W.codes (length W.codes))) refl (λ other. omega arith);
    lows = λ j e. more (λ p. p.low j) (dealt.lows j) (cases_lt j (products W.codes (length W.codes))) refl (λ other. omega arith);
  }

  pub a_true_word : (g : ℕ) → g ≤ length W.codes → TrueWord T W P V s g (word_of T W parts (value_opened T W V) g)
  a_true_word g below = record { parts = parts; opened = value_opened T W V; dealt = dealt_more; right = opened_right T W V g below; is = refl }

pub true_words_exist : {E : Type 0} → TrueWordsExist E
true_words_exist T W P V dealt s g below = (_, a_true_word T W P V dealt s g below)

pub true_words_once : {E : Type 0} → TrueWordsOnce E
true_words_once T laws W P V dealt s g outside below w u a b =
    let right = λ (i : ℕ) (h : Inside T i). opened_right T W V g (omega arith) in
    sym (lies T laws W P V dealt (λ i. value_opened T W V) g below right s outside w a)
    ∙ lies T laws W P V dealt (λ i. value_opened T W V) g below right s outside u b

pub runs_complete : {E : Type 0} → RunsComplete E
runs_complete T W P V dealt =
    let codes = W.codes in
    let y = value_opened T W V in
    let gate = (openings_numbered codes).found in
    record {
      ready = λ i s g has hs. omega (arith, has.done);
      heard = λ i s g has hs. ap (word_of T W (P s) y) (gate g has.below has.opened);
      opened = λ i g has.
          subst (λ h. Opens T (degree T.threshold (gate_at codes g)) (λ s. word_of T W (P s) y h) (value_shared T W V h)) (sym (gate g has.below has.opened))
          ((curves T W everyone P V dealt (λ s. y) g (omega (arith, has.below)) (λ s h. opened_right T W V g (omega (arith, has.below)))).words has.below);
    }
