use Rattle.std.proofs.Common.{◌≡◌, ℕ, ◌+◌, ◌-◌, ◌<◌, ◌%◌, ◌^◌, slice_index, ◌∙◌, rules, lit<}
use Rattle.ring.specs.W4.{four}
use Rattle.ring.specs.Words.{difference_is}
use Rattle.ring.proofs.w4.ArrayU644Ring.sub.Goals as goal

pub returns : goal.returns
returns c =
    let x = c.args.self in let y = c.args.other in
    let e : (k : ℕ) → k < 4 → slice_index c.from_fn.result k ≡ (slice_index x k + (2 ^ 64 - slice_index y k)) % 2 ^ 64 = λ k h. search (rules, (c.from_fn.ensures.items.at k 0 h).2.met) in
    (λ i. four (e 0 (lit< tt) i) (e 1 (lit< tt) i) (e 2 (lit< tt) i) (e 3 (lit< tt) i)) ∙ difference_is x y (search rules) (search rules) (search rules) (search rules)
