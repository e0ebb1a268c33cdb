use Rattle.std.proofs.Common.{◌≡◌, drop}
use Rattle.algebra.specs.Quotient.{modulo, product}
use Rattle.ring.specs.B8.{b8, bits}
use Rattle.ring.proofs.b8.U8Ring.mul.Given as goal

-- the bits from `c` up have been worked in
abbrev pub invariant-loop-c : goal.invariant-loop-c
invariant-loop-c l = bits l.sum ≡ product (modulo 2) b8.h (drop l.c (bits l.self)) (bits l.other)
