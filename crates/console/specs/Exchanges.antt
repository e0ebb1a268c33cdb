-- What the commands on an exchange answer.
use Rattle.std.specs.Prelude.{◌≡◌, ℕ, Bool, true, false, ◌⊎◌, Ok, Err, vec_items, Option, Result}
use Rattle.curve.specs.Curve.{seats_wrong}
use Rattle.curve.specs.declared.refusal.Refusal.{Refusal}
use Rattle.curve.specs.declared.refusal.Refusal.TheVariants.{Seats, Memory}
use Rattle.exchange.specs.Sheet.{Page, blank, place_all, place_one, looked, missing, turned}
use Rattle.exchange.specs.Tables.{lines_page, board_page}
use Rattle.console.specs.declared.answer.Answer.{Answer}
use Rattle.console.specs.declared.answer.Answer.TheVariants.{Number, Done, Seen}
use Rattle.console.specs.declared.any_exchange.Kind.{Kind}
use Rattle.console.specs.declared.any_exchange.Kind.TheVariants.{Lines as LinesKind, Board as BoardKind, CurtainLines as CurtainLinesKind, CurtainBoard as CurtainBoardKind}
use Rattle.console.specs.declared.any_exchange.AnyExchange.{AnyExchange}
use Rattle.console.specs.declared.any_exchange.AnyExchange.TheVariants.{Lines, Board, CurtainLines, CurtainBoard}
use Rattle.console.specs.declared.any_exchange.Call.{Call}
use Rattle.console.specs.declared.any_exchange.Call.TheVariants.{PlaceForAll, PlaceForOne, Look, Missing, Turn}

-- words are for all
abbrev pub common_of : Kind → Bool
common_of LinesKind = false
common_of BoardKind = true
common_of CurtainLinesKind = false
common_of CurtainBoardKind = true

-- words are hidden until every square is filled
abbrev pub veiled_of : Kind → Bool
veiled_of LinesKind = false
veiled_of BoardKind = false
veiled_of CurtainLinesKind = true
veiled_of CurtainBoardKind = true

abbrev pub kind_of : {R : Type 0} → AnyExchange R → Kind
kind_of (Lines x) = LinesKind
kind_of (Board x) = BoardKind
kind_of (CurtainLines x) = CurtainLinesKind
kind_of (CurtainBoard x) = CurtainBoardKind

-- the squares and seats of the exchange
abbrev pub page_of : {R : Type 0} → AnyExchange R → Page R
page_of (Lines x) = lines_page x.seats (vec_items x.table)
page_of (Board x) = board_page x.seats (vec_items x.table)
page_of (CurtainLines x) = lines_page x.behind.seats (vec_items x.behind.table)
page_of (CurtainBoard x) = board_page x.behind.seats (vec_items x.behind.table)

-- an exchange of n seats with empty squares; or a refusal, for want of memory or of so many seats
abbrev pub Made : {R X : Type 0} → ℕ → ℕ → (X → Page R) → Result X Refusal → Type 0
Made points n page (Ok x) = (seats_wrong points n ≡ false) × (page x ≡ blank n (page x).room)
Made points n page (Err e) = (e ≡ Memory) ⊎ ((e ≡ Seats) × (seats_wrong points n ≡ true))

-- what is answered of a placing
abbrev pub placing : {R : Type 0} → Result (Unit {0}) Refusal → Result (Answer R) Refusal
placing (Ok _) = Ok Done
placing (Err e) = Err e

-- what is answered of a look
abbrev pub looking : {R : Type 0} → Result (Option R) Refusal → Result (Answer R) Refusal
looking (Ok o) = Ok (Seen o)
looking (Err e) = Err e

-- what a call answers, and the page after it
abbrev pub called : {R : Type 0} → Bool → Bool → Page R → Call R → Result (Answer R) Refusal × Page R
called common veiled x (PlaceForAll s w) = (placing (place_all x s w).0, (place_all x s w).1)
called common veiled x (PlaceForOne s r w) = (placing (place_one common x s r w).0, (place_one common x s r w).1)
called common veiled x (Look r s) = (looking (looked veiled x r s), x)
called common veiled x Missing = (Ok (Number (missing x)), x)
called common veiled x Turn = (Ok Done, turned x)
