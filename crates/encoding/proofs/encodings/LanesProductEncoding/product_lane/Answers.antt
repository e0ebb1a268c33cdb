use Rattle.std.proofs.Common.{◌*◌, ◌%◌, sym, ap₂, ◌∙◌, inl, inr}
use Rattle.encoding.specs.Laying.{products_in, products_past}
use Rattle.encoding.proofs.encodings.LanesProductEncoding.product_lane.Goals as goal

pub returns-in-Some-Some : goal.returns-in-Some-Some
returns-in-Some-Some g c =
    let left = c.in-Some-Some.ensures.lookup.3 in
    let right = c.in-Some-Some.ensures'.lookup.3 in
    c.product_of.ensures
    ∙ ap₂ (λ x y. (x * y) % g.R.Ring.shape.q) (left.1 0) (right.1 0)
    ∙ sym (products_in g.R.Ring.shape.q c.args.left.now c.args.right.now c.args.lane left.0 right.0)

pub returns-in_default : goal.returns-in_default
returns-in_default g c = products_past g.R.Ring.shape.q c.args.left.now c.args.right.now c.args.lane (inr c.in_default.ensures'.lookup.3)

pub returns-in_default-2 : goal.returns-in_default-2
returns-in_default-2 g c = products_past g.R.Ring.shape.q c.args.left.now c.args.right.now c.args.lane (inl c.in_default.ensures.lookup.3)
