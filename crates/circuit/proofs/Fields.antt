-- Fields put side by side by shifts and `or`.
use Rattle.std.proofs.Common.{◌≡◌, ℕ, ◌+◌, ◌*◌, ◌%◌, ◌^◌, ◌<◌, true, Some, None, sym, ap, ◌∙◌, ap₂, mod-eq_of_lt, arith}
use lib.Bits.{bit_or}
use Rattle.std.proofs.lemmas.Nat.{or_shifted}
use Rattle.std.proofs.lemmas.Bool.{lt-ltb, and_from, cond-true}
use Rattle.circuit.specs.Codes.{code_of, fitting, joined}

module _ (k d f s : ℕ) (hk : k < 8) (hd : d < 8) (hf : f < 8192) (hs : s < 8192) where
  fits : fitting k d f s ≡ true
  fits =
      and_from _ _ (and_from _ _ (and_from _ _ (lt-ltb k 8 hk) (lt-ltb d 8 hd)) (lt-ltb f 8192 hf)) (lt-ltb s 8192 hs)

  side_by_side : bit_or (bit_or (bit_or (k * 2 ^ 29 % 2 ^ 32) (d * 2 ^ 26 % 2 ^ 32)) (f * 2 ^ 13 % 2 ^ 32)) s ≡ code_of k d f s
  side_by_side =
      let wk : k * 2 ^ 29 < 2 ^ 32 = omega arith in
      let wd : d * 2 ^ 26 < 2 ^ 32 = omega arith in
      let wf : f * 2 ^ 13 < 2 ^ 32 = omega arith in
      let bd : d * 2 ^ 26 < 2 ^ 29 = omega arith in
      let bf : f * 2 ^ 13 < 2 ^ 26 = omega arith in
      let two : k * 2 ^ 29 + d * 2 ^ 26 ≡ (k * 8 + d) * 2 ^ 26 = omega arith in
      let three : (k * 8 + d) * 2 ^ 26 + f * 2 ^ 13 ≡ ((k * 8 + d) * 8192 + f) * 2 ^ 13 = omega arith in
      let whole : ((k * 8 + d) * 8192 + f) * 2 ^ 13 + s ≡ code_of k d f s = omega arith in
      ap₂ (λ x y. bit_or (bit_or x y) s) (ap₂ bit_or (mod-eq_of_lt wk) (mod-eq_of_lt wd)) (mod-eq_of_lt wf)
      ∙ ap (λ x. bit_or (bit_or x (f * 2 ^ 13)) s) (or_shifted k 29 (d * 2 ^ 26) bd ∙ two)
      ∙ ap (λ x. bit_or x s) (or_shifted (k * 8 + d) 26 (f * 2 ^ 13) bf ∙ three)
      ∙ or_shifted ((k * 8 + d) * 8192 + f) 13 s hs
      ∙ whole

  pub join_is : Some (bit_or (bit_or (bit_or (k * 2 ^ 29 % 2 ^ 32) (d * 2 ^ 26 % 2 ^ 32)) (f * 2 ^ 13 % 2 ^ 32)) s) ≡ joined k d f s
  join_is = ap Some side_by_side ∙ sym (cond-true (fitting k d f s) (Some (code_of k d f s)) None fits)
