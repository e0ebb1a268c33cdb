-- The names that a person reads and writes.
use Rattle.std.specs.Prelude.{◌≡◌, ℕ, List, codes, Result, ◌≢◌, MatchResult}
use Rattle.console.specs.declared.arithmetic.Algebra.{Algebra}
use Rattle.console.specs.declared.arithmetic.Algebra.TheVariants.{Add, Sub, Mul, Same, Coordinate, Embed, Point, Inverse}
use Rattle.console.specs.declared.any_exchange.Kind.{Kind}
use Rattle.console.specs.declared.any_exchange.Kind.TheVariants.{Lines, Board, CurtainLines, CurtainBoard}
use Rattle.console.specs.declared.circuits.Circuits.{Circuits}
use Rattle.console.specs.declared.circuits.Circuits.TheVariants.{Layout as LayoutCommand, Gates, Constants, Check, Plain}
use Rattle.console.specs.declared.curves.Curves.{Curves}
use Rattle.console.specs.declared.curves.Curves.TheVariants.{Deal, Open}
use Rattle.console.specs.declared.exchanges.Exchanges.{Exchanges}
use Rattle.console.specs.declared.exchanges.Exchanges.TheVariants.{Exchange, Place, Look, Missing as MissingCommand, Turn}
use Rattle.console.specs.declared.nodes.Nodes.{Nodes}
use Rattle.console.specs.declared.nodes.Nodes.TheVariants.{Seats as SeatsCommand, Threshold as ThresholdCommand, Input, Pair, Node}
use Rattle.console.specs.declared.session.Chosen.{Chosen}
use Rattle.console.specs.declared.session.Chosen.TheVariants.{W4, B8}

-- r is that of whose names the word is, and an error only where it is the name of nothing
module _ {C E : Type 0} (name : C → List ℕ) where
  abbrev pub Reads : List ℕ → Result C E → Type 0
  Reads word r = MatchResult r (λ c. word ≡ name c) (λ _. (c : C) → word ≢ name c)

abbrev pub ring_name : Chosen → List ℕ
ring_name W4 = codes "w4"
ring_name B8 = codes "b8"

abbrev pub algebra_name : Algebra → List ℕ
algebra_name Add = codes "add"
algebra_name Sub = codes "sub"
algebra_name Mul = codes "mul"
algebra_name Same = codes "same"
algebra_name Coordinate = codes "coordinate"
algebra_name Embed = codes "embed"
algebra_name Point = codes "point"
algebra_name Inverse = codes "inverse"

abbrev pub curves_name : Curves → List ℕ
curves_name Deal = codes "deal"
curves_name Open = codes "open"

abbrev pub circuits_name : Circuits → List ℕ
circuits_name LayoutCommand = codes "layout"
circuits_name Gates = codes "gates"
circuits_name Constants = codes "constants"
circuits_name Check = codes "check"
circuits_name Plain = codes "plain"

abbrev pub exchanges_name : Exchanges → List ℕ
exchanges_name Exchange = codes "exchange"
exchanges_name Place = codes "place"
exchanges_name Look = codes "look"
exchanges_name MissingCommand = codes "missing"
exchanges_name Turn = codes "turn"

abbrev pub kind_name : Kind → List ℕ
kind_name Lines = codes "lines"
kind_name Board = codes "board"
kind_name CurtainLines = codes "curtain-lines"
kind_name CurtainBoard = codes "curtain-board"

abbrev pub nodes_name : Nodes → List ℕ
nodes_name SeatsCommand = codes "seats"
nodes_name ThresholdCommand = codes "threshold"
nodes_name Input = codes "input"
nodes_name Pair = codes "pair"
nodes_name Node = codes "node"
