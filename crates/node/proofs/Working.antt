-- Gates worked out one after another.
use Rattle.std.proofs.Common.{◌≡◌, ℕ, suc, ◌+◌, ◌-◌, ◌<◌, List, get_or, set, sym, ap, ◌∙◌, ap₂, add-one, arith}
use Rattle.algebra.specs.Ring.{CommRing}
use Rattle.encoding.specs.declared.layout.Layout.{Layout}
use Rattle.circuit.specs.Codes.{Parts as Fields, parts_of}
use Rattle.circuit.specs.Gates.{layout_at}
use Rattle.circuit.specs.Kinds.{gate_by}
use Rattle.rules.specs.Elements.{parts}
use Rattle.rules.specs.Rules.{Known, after}
use Rattle.node.specs.Work.{entries, worked, settled}

module _ {E : Type 0} (R : CommRing E) (C : Known E) (codes : List ℕ) (layouts : List Layout) (input : ℕ → E) where
  -- by the fields and the layout that were read
  pub worked_by : (W W' : List E) (g : ℕ) (p : Fields) (l : Layout) (z y v : E) → p ≡ parts_of (get_or codes g 0) → l ≡ layout_at layouts g
      → v ≡ after R C (parts input R.𝟎 y) 0 (entries R C codes layouts input W) l z (gate_by p.0 p.1 p.2 p.3)
      → W' ≡ set W g v → W' ≡ worked R C codes layouts input W g z y
  worked_by W W' g p l z y v ep el ev ew =
      ew
      ∙ ap (set W g)
      (ev
      ∙ ap₂ (λ m q. after R C (parts input R.𝟎 y) 0 (entries R C codes layouts input W) m z (gate_by q.0 q.1 q.2 q.3)) el ep)

  -- what is left to work out, after the gates from `from` to g
  pub record Left (W : List E) (from to : ℕ) (V : List E) (g : ℕ) : Type 0 where
    pub is : settled R C codes layouts input W from (to - from) ≡ settled R C codes layouts input V g (to - g)

  pub left_less : {W V : List E} {from to g : ℕ} → Left W from to V g → g < to → (z y : E) → z ≡ R.𝟎 → y ≡ R.𝟎 → (V' : List E) → V' ≡ worked R C codes layouts input V g z y → Left W from to V' (g + 1)
  left_less {W} {V} {from} {to} {g} left h z y ez ey V' ev =
      let down : to - g ≡ suc (to - (g + 1)) = omega arith in
      record {
        is =
            left.is
            ∙ ap (settled R C codes layouts input V g) down
            ∙ ap₂ (λ k X. settled R C codes layouts input X k (to - (g + 1))) (sym (add-one g)) (sym (ev ∙ ap₂ (worked R C codes layouts input V g) ez ey));
      }
