-- Encodings: what one product of ring elements computes of the lanes of its factors.
use Rattle.std.specs.Prelude.{◌≡◌, ℕ, zero, suc, ◌+◌, ◌-◌, ◌*◌, ◌%◌, ◌≤◌, List, [], ◌∷◌, map, length, slice_index}
use Rattle.algebra.specs.Quotient.{Shape, modulo, zeros, product, AllBelow}
use Rattle.encoding.specs.Layouts.{half, positions, laid_over, read_at}
use Rattle.encoding.specs.declared.layout.Layout.{Layout}
use Rattle.encoding.specs.declared.layout.Layout.TheVariants.{Plain, Lanes, Left, Right}

-- The layouts of the two factors and of the result, the positions at which the product is read (by the degree), and the
-- subcircuit: what the lanes read are, of the factors' lanes (by the modulus).
pub record Enc : Type 0 where
  pub left : Layout
  pub right : Layout
  pub out : Layout
  pub read : ℕ → List ℕ
  pub sub : ℕ → List ℕ → List ℕ → List ℕ

-- lanes in a layout, zero at all other coordinates
abbrev pub laid : (s : Shape) → Layout → List ℕ → List ℕ
laid s layout lanes = laid_over s.q (zeros (modulo s.q) s.h) (positions layout (length s.h)) lanes

-- For every modulus and every monic polynomial: reading the product of a left and a right value gives the subcircuit of
-- their lanes. The read positions are coordinates, one for each lane of the result.
pub record Sound (E : Enc) : Type 0 where
  pub below : (d : ℕ) → 1 ≤ d → AllBelow d (E.read d)
  pub one_each : (d : ℕ) → 1 ≤ d → length (E.read d) ≡ length (positions E.out d)
  pub law : (s : Shape) (a b : List ℕ) → length a ≡ length (positions E.left (length s.h)) → length b ≡ length (positions E.right (length s.h))
      → read_at (E.read (length s.h)) (product (modulo s.q) s.h (laid s E.left a) (laid s E.right b)) ≡ E.sub s.q a b

-- the product of single lanes
abbrev pub plain_product : Enc
plain_product = record { left = Plain; right = Plain; out = Plain; read = λ d. 0 ∷ []; sub = λ q a b. (slice_index a 0 * slice_index b 0) % q ∷ [] }

-- the products lane by lane, read at the doubles of the lanes' positions
abbrev pub lane_products : ℕ → List ℕ → List ℕ → List ℕ
lane_products q [] b = []
lane_products q (x ∷ a) [] = []
lane_products q (x ∷ a) (y ∷ b) = (x * y) % q ∷ lane_products q a b

abbrev pub lanes_product : Enc
lanes_product = record { left = Lanes; right = Lanes; out = Lanes; read = λ d. map (λ p. 2 * p) (positions Lanes d); sub = lane_products }

-- the sum of the lanes' products
abbrev pub dot : List ℕ → List ℕ → ℕ
dot [] b = 0
dot (x ∷ a) [] = 0
dot (x ∷ a) (y ∷ b) = x * y + dot a b

abbrev pub inner_product : Enc
inner_product = record { left = Left; right = Right; out = Plain; read = λ d. (half d - 1) ∷ []; sub = λ q a b. dot a b % q ∷ [] }

-- the usual choice of methods; past the third there is none, and the plain product stands there
abbrev pub standard : ℕ → Enc
standard zero = plain_product
standard (suc zero) = lanes_product
standard (suc (suc zero)) = inner_product
standard (suc (suc (suc m))) = plain_product
