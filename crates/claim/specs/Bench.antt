-- A bench: a table of seats over one exchange, all inside seats run by one program. What it is set up with, its state, the calls
-- that are made on it, and their answers.
use Rattle.std.specs.Prelude.{ℕ, ◌-◌, ◌*◌, Bool, not, ◌&&◌, List, length, take, drop, Option, nat_le}
use Rattle.ring.specs.declared.Ring.{Ghosts}
use Rattle.curve.specs.Curve.{El, word}
use Rattle.curve.specs.declared.refusal.Refusal.{Refusal}
use Rattle.encoding.specs.Encodings.{Enc}
use Rattle.encoding.specs.declared.layout.Layout.{Layout}
use Rattle.circuit.specs.Openings.{products, openings_of}
use Rattle.circuit.specs.declared.openings.Opening.{Opening}
use Rattle.rules.specs.Rules.{Parts}
use Rattle.protocol.specs.Engine.{table_of, task_of}
use Rattle.protocol.specs.Gates.{opening_at}
use Rattle.protocol.specs.Runs.{Task}
use Rattle.protocol.specs.Shares.{Table}
use Rattle.exchange.specs.Sheet.{Page, seat}
use Rattle.node.specs.declared.fault.Fault.{Fault}

-- What a bench is set up with. Seats are numbered from 1; the tables of inputs, of high and of low parts have a part for each
-- seat, seat 1 first: so many inputs, and one high and one low part for each product of the list.
pub record Setup (R : Type 0) : Type 0 where
  pub method : ℕ → Enc
  pub common : Bool
  pub veiled : Bool
  pub seats : ℕ
  pub threshold : ℕ
  pub inside : ℕ → Bool
  pub codes : List ℕ
  pub layouts : List Layout
  pub constants : List ℕ
  pub input_count : ℕ
  pub inputs : List R
  pub highs : List R
  pub lows : List R

-- what a seat has opened, and why it has stopped, if it has
pub record Progress (R : Type 0) : Type 0 where
  pub opened : List R
  pub fault : Option Fault

-- The progress of each seat; whether inside words were posted this round; whether some inside seat has stopped; the takes so far;
-- the exchange; the work table, for each seat a part with one entry for each gate.
pub record State (R : Type 0) : Type 0 where
  pub progress : ℕ → Progress R
  pub posted : Bool
  pub halted : Bool
  pub rounds : ℕ
  pub page : Page R
  pub work : List R

-- post the inside words; a word of an outside seat for all, or for one receiver; look, as an outside receiver, at the word of a
-- sender; take a row at every inside seat, with a spare row to read into; the lanes of an output, as an inside seat has opened
-- it, into a table; why an inside seat has stopped
pub data Call (R : Type 0) : Type 0 where
  Post : Call R
  TellAll : ℕ → R → Call R
  TellOne : ℕ → ℕ → R → Call R
  Look : ℕ → ℕ → Call R
  Take : List R → Call R
  ResultOf : ℕ → ℕ → List ℕ → Call R
  FaultOf : ℕ → Call R

-- done; the word seen; how many inside seats accepted, and the spare row afterwards; the table afterwards; the fault; refused
pub data Answer (R : Type 0) : Type 0 where
  Did : Answer R
  Saw : Option R → Answer R
  Took : ℕ → List R → Answer R
  LanesAre : List ℕ → Answer R
  FaultIs : Option Fault → Answer R
  Refused : Refusal → Answer R

-- the part of seat i, of so many entries, of a table
abbrev pub part_at : {A : Type 0} → ℕ → List A → ℕ → List A
part_at size table i = take size (drop ((i - 1) * size) table)

module _ {R : Type 0} (U : Setup R) where
  -- i is an inside seat, or an outside seat
  abbrev pub inner : ℕ → Bool
  inner i = seat U.seats i && U.inside i

  abbrev pub outer : ℕ → Bool
  outer i = seat U.seats i && not (U.inside i)

  -- how many pairs each seat has
  abbrev pub pairs : ℕ
  pairs = products U.codes (length U.codes)

  -- how many openings there are, and opening number k
  abbrev pub opening_count : ℕ
  opening_count = length (openings_of U.codes)

  abbrev pub opening : ℕ → Opening
  opening k = opening_at U.codes k

  -- no opening is left
  abbrev pub over : State R → Bool
  over s = nat_le opening_count s.rounds

  -- all is opened, and no seat has stopped
  abbrev pub done : State R → Bool
  done s = not s.halted && over s

  -- the work part of seat i
  abbrev pub work_of : State R → ℕ → List R
  work_of s i = part_at (length U.codes) s.work i

module _ {R C : Type 0} (G : Ghosts R C) (U : Setup R) where
  -- the parts that were dealt to seat i, zero past their end
  abbrev pub parts_of : ℕ → Parts (El G)
  parts_of i = record {
    input = word G (part_at U.input_count U.inputs i);
    high = word G (part_at (pairs U) U.highs i);
    low = word G (part_at (pairs U) U.lows i);
  }

  -- the table and the task of the theory
  abbrev pub table : Table (El G)
  table = table_of G.shape G.points U.seats U.threshold U.inside

  abbrev pub task : Task (El G)
  task = task_of G.shape U.method U.constants U.codes U.layouts

  -- the value that seat i has opened at opening number k
  abbrev pub opened_at : State R → ℕ → ℕ → El G
  opened_at s i k = word G (s.progress i).opened k
