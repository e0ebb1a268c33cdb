-- The engine's rings and points form tables; rows as lists open there alike.
use Rattle.std.proofs.Common.{◌≡◌, ℕ, ◌+◌, ◌-◌, refl, ap, ◌∙◌, arith}
use Rattle.algebra.specs.Poly.{val}
use Rattle.algebra.specs.Quotient.{Shape}
use Rattle.algebra.specs.Ring.{ops}
use Rattle.ring.specs.Model.{Points, PointLaws}
use Rattle.ring.specs.declared.Ring.{Ghosts}
use Rattle.curve.specs.Curve.{K, word}
use Rattle.encoding.specs.Encodings.{Enc}
use Rattle.protocol.specs.Engine.{table_of, task_of, TablesStand, EngineSound, RowsAlike}
use Rattle.protocol.proofs.Runs.{runs_sound}

pub tables_stand : (s : Shape) (p : Points s) → PointLaws s p → TablesStand s p
tables_stand s p laws n t inside sits = record {
  inverse = p.inv;
  start = laws.start;
  apart = λ i j hi hj other. laws.inverse i j (omega arith) (omega arith) other;
  few = sits.few;
  low = sits.low;
}

pub engine_sound : (s : Shape) (p : Points s) → PointLaws s p → (method : ℕ → Enc) → EngineSound s p method
engine_sound s p laws method n t inside sits constants codes layouts P V dealt rounds z row run =
    runs_sound (table_of s p n t inside) (tables_stand s p laws n t inside sits) (task_of s method constants codes layouts) P V dealt rounds z row run

pub rows_alike : {R C : Type 0} (G : Ghosts R C) → RowsAlike G
rows_alike G t inside d row v = (
  λ o. record {
    poly = o.polynomial;
    small = omega (arith, o.through.short);
    through = λ s h.
        let e : s ≡ s - 1 + 1 = omega (arith, h.from) in
        ap (λ k. val (ops (K G)) o.polynomial (G.points.at k)) e ∙ o.through.meets (s - 1) (omega (arith, h.from, h.to));
    at_zero = o.at_zero;
  },
  λ o. record {
    polynomial = o.poly;
    through = record {
      short = omega (arith, o.small);
      meets = λ k h.
          let e : k + 1 - 1 ≡ k = omega arith in
          o.through (k + 1) (record { from = omega arith; to = omega arith; member = refl }) ∙ ap (word G row) e;
    };
    at_zero = o.at_zero;
  },
)
