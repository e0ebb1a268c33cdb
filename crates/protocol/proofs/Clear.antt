-- With pairs that fit, the values of gates are those of the clear computation.
use Rattle.std.proofs.Common.{◌≡◌, ℕ, ◌≤◌, length, sym, refl, ap, ◌∙◌, subst, arith}
use Rattle.algebra.specs.Ring.{CommRing, sub}
use Rattle.algebra.specs.Solver.{◌:=◌, nil, ◌:+◌, ◌:-◌}
use Rattle.algebra.proofs.Solver.{ring2}
use Rattle.encoding.specs.declared.layout.Layout.{Layout}
use Rattle.circuit.specs.Gates.{layout_at}
use Rattle.circuit.specs.Kinds.{Gate, In, Add, Sub, Scale, Offset, Place, Mul, Out, gate_at}
use Rattle.circuit.specs.Openings.{products}
use Rattle.rules.specs.Rules.{Parts, Known, word, after}
use Rattle.protocol.specs.Shares.{Table}
use Rattle.protocol.specs.Runs.{Task, value_of}
use Rattle.protocol.specs.Clear.{clear, Paired, Plainly, ValuesClear}
use Rattle.protocol.proofs.Runs.{entries_agree}

-- pick (p - high) + low is pick (p - high) + pick high, which is pick p
step_clear : {E : Type 0} (R : CommRing E) (C : Known E) (V : Parts E) (j : ℕ) (e : ℕ → E) (layout : Layout) (gate : Gate)
    → ((m a b : ℕ) → gate ≡ Mul m a b → (x y : E) → C.pick m (R.◌⊕◌ x y) ≡ R.◌⊕◌ (C.pick m x) (C.pick m y))
    → ((m a b : ℕ) → gate ≡ Mul m a b → V.low j ≡ C.pick m (V.high j))
    → after R C V j e layout (word R V j e gate) gate ≡ after R C (clear R V) j e layout (word R (clear R V) j e gate) gate
step_clear R C V j e layout (In l i) additive fits = refl
step_clear R C V j e layout (Add a b) additive fits = refl
step_clear R C V j e layout (Sub a b) additive fits = refl
step_clear R C V j e layout (Scale a c) additive fits = refl
step_clear R C V j e layout (Offset a c) additive fits = refl
step_clear R C V j e layout (Place l a k) additive fits = refl
step_clear R C V j e layout (Mul m a b) additive fits =
    let p = R.◌⊗◌ (e a) (e b) in
    ap (R.◌⊕◌ (C.pick m (sub R p (V.high j)))) (fits m a b refl)
    ∙ sym (additive m a b refl (sub R p (V.high j)) (V.high j))
    ∙ ap (C.pick m) (ring2 R (λ p h. p :- h :+ h := p :- nil) p (V.high j) refl)
    ∙ sym (R.add_zero (C.pick m (sub R p R.𝟎)))
step_clear R C V j e layout (Out a) additive fits = refl

output_clear : {E : Type 0} (R : CommRing E) (C : Known E) (V : Parts E) (j a : ℕ) (e : ℕ → E) (gate : Gate) → gate ≡ Out a → word R V j e gate ≡ word R (clear R V) j e gate
output_clear R C V j a e gate out = subst (λ g. word R V j e g ≡ word R (clear R V) j e g) (sym out) refl

module _ {E : Type 0} (T : Table E) (W : Task E) (V : Parts E) (paired : Paired T W V) where
  entries_clear : (g : ℕ) → g ≤ length W.codes → value_of T W V g ≡ value_of T W (clear T.ring V) g
  entries_clear g below =
      entries_agree T.ring W.known W.codes W.layouts V (clear T.ring V) (λ k w. w) (λ k w. w) g
      (λ h less e. step_clear T.ring W.known V (products W.codes h) e (layout_at W.layouts h) (gate_at W.codes h)
      (λ m a b is. paired.additive h m a b (omega arith) is)
      (λ m a b is. paired.fits h m a b (omega arith) is))

  pub plainly : Plainly T W V
  plainly = record {
    values = λ g a below i. entries_clear g below i a;
    outputs = λ g a below is.
        output_clear T.ring W.known V (products W.codes g) a (value_of T W V g) (gate_at W.codes g) is
        ∙ ap (λ e. word T.ring (clear T.ring V) (products W.codes g) e (gate_at W.codes g)) (entries_clear g (omega arith));
  }

pub values_clear : {E : Type 0} → ValuesClear E
values_clear T W V paired = plainly T W V paired
