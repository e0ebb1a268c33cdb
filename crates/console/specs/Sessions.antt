-- Which ring a session has chosen, and what holds where nothing is kept yet.
use Rattle.std.specs.Prelude.{◌≡◌, [], None, Some, Option, Result, vec_items, IfErr, OnErr}
use Rattle.console.specs.Exchanges.{kind_of, page_of}
use Rattle.console.specs.declared.any_exchange.AnyExchange.{AnyExchange}
use Rattle.console.specs.declared.nodes.Working.{Working}
use Rattle.console.specs.declared.desk.Desk.{Desk}
use Rattle.console.specs.declared.trouble.Trouble.{Trouble}
use Rattle.console.specs.declared.trouble.Trouble.TheVariants.{Line, Memory, Refused}
use Rattle.console.specs.declared.session.Chosen.{Chosen}
use Rattle.console.specs.declared.session.Chosen.TheVariants.{W4, B8}
use Rattle.console.specs.declared.session.Session.{Session}
use Rattle.console.specs.declared.session.Session.TheVariants.{W4 as InW4, B8 as InB8}

abbrev pub chosen_of : Session → Chosen
chosen_of (InW4 desk) = W4
chosen_of (InB8 desk) = B8

-- no gates, no constants, no exchange, no shares, no node
abbrev pub IsBare : {R : Type 0} → Desk R → Type 0
IsBare desk =
    (vec_items desk.codes ≡ [])
    × (vec_items desk.constants ≡ [])
    × (desk.exchange ≡ None)
    × (desk.dealing.seats ≡ 0)
    × (desk.dealing.threshold ≡ 0)
    × (vec_items desk.dealing.inputs ≡ [])
    × (vec_items desk.dealing.pairs ≡ [])
    × (desk.working ≡ None)

-- the desk of a session is bare
abbrev pub IsBlank : Session → Type 0
IsBlank (InW4 desk) = IsBare desk
IsBlank (InB8 desk) = IsBare desk

-- the line was not understood, or there was no memory for what it says
abbrev pub IsUnanswered : Trouble → Type 0
IsUnanswered (Line misread words) = Unit {0}
IsUnanswered Memory = Unit {0}
IsUnanswered (Refused refusal) = ⊥

-- what is left after a trouble: what is alike after a refusal, and the very same after any other
module _ {A K : Type 0} (Alike : K → K → Type 0) where
  abbrev pub Leaves : Result A Trouble → K → K → Type 0
  Leaves r new old = OnErr r (Alike new old) × IfErr r (λ t. IsUnanswered t → new ≡ old)

-- exchanges of one kind, with the same squares and seats; or none twice
abbrev pub AlikeExchanges : {R : Type 0} → Option (AnyExchange R) → Option (AnyExchange R) → Type 0
AlikeExchanges (Some x) (Some y) = (kind_of x ≡ kind_of y) × (page_of x ≡ page_of y)
AlikeExchanges None None = Unit {0}
AlikeExchanges (Some x) None = ⊥
AlikeExchanges None (Some y) = ⊥

-- the same seat, what it keeps, and its work table
abbrev pub AlikeNodes : {R : Type 0} → Working R → Working R → Type 0
AlikeNodes x y = (x.seat ≡ y.seat) × (x.node ≡ y.node) × (vec_items x.work ≡ vec_items y.work)

-- nodes that are alike; or none twice
abbrev pub AlikeWorking : {R : Type 0} → Option (Working R) → Option (Working R) → Type 0
AlikeWorking (Some x) (Some y) = AlikeNodes x y
AlikeWorking None None = Unit {0}
AlikeWorking (Some x) None = ⊥
AlikeWorking None (Some y) = ⊥

-- the same is kept: gates, constants, exchange, shares and node
abbrev pub AlikeDesks : {R : Type 0} → Desk R → Desk R → Type 0
AlikeDesks x y =
    (x.codes ≡ y.codes)
    × (x.constants ≡ y.constants)
    × AlikeExchanges x.exchange y.exchange
    × (x.dealing.seats ≡ y.dealing.seats)
    × (x.dealing.threshold ≡ y.dealing.threshold)
    × (vec_items x.dealing.inputs ≡ vec_items y.dealing.inputs)
    × (vec_items x.dealing.pairs ≡ vec_items y.dealing.pairs)
    × AlikeWorking x.working y.working

-- the same ring, and desks that are alike
abbrev pub AlikeSessions : Session → Session → Type 0
AlikeSessions (InW4 x) (InW4 y) = AlikeDesks x y
AlikeSessions (InB8 x) (InB8 y) = AlikeDesks x y
AlikeSessions (InW4 x) (InB8 y) = ⊥
AlikeSessions (InB8 x) (InW4 y) = ⊥
