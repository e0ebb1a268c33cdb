-- The numbers and the names of the refusals. Want of memory has no number.
use Rattle.std.specs.Prelude.{ℕ, List, Some, None, Option, codes}
use Rattle.curve.specs.declared.refusal.Refusal.{Refusal}
use Rattle.curve.specs.declared.refusal.Refusal.TheVariants.{Seats, Threshold, Length, Operand, Layout, Detail, Missing, Placed, Halted, Done, Seat, Common, Output, Unopened, Own, Memory}

abbrev pub number_of : Refusal → Option ℕ
number_of Seats = Some 1
number_of Threshold = Some 2
number_of Length = Some 3
number_of Operand = Some 4
number_of Layout = Some 5
number_of Detail = Some 6
number_of Missing = Some 7
number_of Placed = Some 8
number_of Halted = Some 9
number_of Done = Some 10
number_of Seat = Some 11
number_of Common = Some 12
number_of Output = Some 13
number_of Unopened = Some 14
number_of Own = Some 15
number_of Memory = None

abbrev pub name_of : Refusal → List ℕ
name_of Seats = codes "seats"
name_of Threshold = codes "threshold"
name_of Length = codes "length"
name_of Operand = codes "operand"
name_of Layout = codes "layout"
name_of Detail = codes "detail"
name_of Missing = codes "missing"
name_of Placed = codes "placed"
name_of Halted = codes "halted"
name_of Done = codes "done"
name_of Seat = codes "seat"
name_of Common = codes "common"
name_of Output = codes "output"
name_of Unopened = codes "unopened"
name_of Own = codes "own"
name_of Memory = codes "memory"
