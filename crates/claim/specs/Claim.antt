-- The main claim: after any list of calls, whatever words the outside seats placed, what inside seats have opened is right.
use Rattle.std.specs.Prelude.{◌≡◌, ℕ, zero, suc, ◌+◌, ◌-◌, ◌<◌, ◌≤◌, Bool, true, false, cond, ◌&&◌, ◌⊎◌, List, [], ◌∷◌, map, length, take, Some, None, Ok, Option, ◌==◌, ◌≢◌, slice_index_or}
use Rattle.ring.specs.Model.{degree}
use Rattle.ring.specs.declared.Ring.{Ghosts}
use Rattle.curve.specs.Curve.{El, word, Opens}
use Rattle.curve.specs.declared.refusal.Refusal.{Refusal}
use Rattle.curve.specs.declared.refusal.Refusal.TheVariants.{Own}
use Rattle.encoding.specs.Encodings.{Enc}
use Rattle.encoding.specs.declared.layout.Layout.{Layout}
use Rattle.circuit.specs.Gates.{setting}
use Rattle.circuit.specs.Kinds.{In, Mul, gate_at}
use Rattle.circuit.specs.Lists.{list_checked}
use Rattle.circuit.specs.Openings.{products, outputs, gate_opened, degree_of}
use Rattle.rules.specs.Clear.{seen}
use Rattle.rules.specs.Elements.{known}
use Rattle.rules.specs.Plain.{plain}
use Rattle.rules.specs.Rules.{Parts}
use Rattle.rules.specs.Theorems.{feed}
use Rattle.protocol.specs.Engine.{Sits}
use Rattle.protocol.specs.Runs.{Dealt, TrueWord, word_of, value_opened}
use Rattle.protocol.specs.Shares.{count}
use Rattle.claim.specs.Bench.{Setup, State, Call, Post, TellAll, TellOne, Look, Take, ResultOf, FaultOf, Answer, Did, Saw, Took, LanesAre, FaultIs, Refused, inner, outer, opening, opening_count, done, parts_of, table, task, opened_at}
use Rattle.claim.specs.Steps.{gate_of_output, refusal, Step, Run, Starts}

-- What is asked before the calls: the seats sit so that at most threshold many are outside, and three times the threshold is
-- below their number; the list of gates is taken; the inside parts were dealt as shares of the values V, where an input's value
-- lies in its layout, and the low part of a pair is what its method keeps of the high part.
pub record Premises {R C : Type 0} (G : Ghosts R C) (U : Setup R) (V : Parts (El G)) : Type 0 where
  pub sits : Sits G.points.count U.seats U.threshold U.inside
  pub few : U.seats ≤ 31
  pub taken : list_checked (setting (degree G.shape) U.input_count (length U.constants) U.method) U.codes ≡ Ok U.layouts
  pub dealt : Dealt (table G U) (task G U) U.inside (parts_of G U) V
  pub laid : (g i : ℕ) (l : Layout) → g < length U.codes → gate_at U.codes g ≡ In l i → V.input i ≡ seen G.shape l (V.input i)
  pub fits : (g m a b : ℕ) → g < length U.codes → gate_at U.codes g ≡ Mul m a b
      → V.low (products U.codes g) ≡ (known G.shape U.method U.constants).pick m (V.high (products U.codes g))

module _ {R : Type 0} where
  -- the answer of an accepted post or word
  abbrev pub did : Answer R → Bool
  did Did = true
  did (Saw o) = false
  did (Took c row) = false
  did (LanesAre l) = false
  did (FaultIs f) = false
  did (Refused e) = false

  -- the answer of an accepted take
  abbrev pub took : Answer R → Bool
  took Did = false
  took (Saw o) = false
  took (Took c row) = true
  took (LanesAre l) = false
  took (FaultIs f) = false
  took (Refused e) = false

  -- how many takes were accepted
  abbrev pub takes : List (Answer R) → ℕ
  takes [] = 0
  takes (a ∷ answers) = cond (took a) 1 0 + takes answers

  -- the outside word that a call placed in the square of receiver i and sender q, if it did
  abbrev pub placed_by : Call R → Answer R → ℕ → ℕ → Option R
  placed_by Post a i q = None
  placed_by (TellAll p w) a i q = cond (did a && p == q) (Some w) None
  placed_by (TellOne p r w) a i q = cond (did a && p == q && r == i) (Some w) None
  placed_by (Look r p) a i q = None
  placed_by (Take row) a i q = None
  placed_by (ResultOf j o l) a i q = None
  placed_by (FaultOf j) a i q = None

  -- P holds of every call with its answer
  abbrev pub Each : (Call R → Answer R → Type 0) → List (Call R) → List (Answer R) → Type 0
  Each P [] answers = Unit {0}
  Each P (c ∷ calls) [] = Unit {0}
  Each P (c ∷ calls) (a ∷ answers) = P c a × Each P calls answers

  -- at a take, all of so many seats accepted, or none did
  abbrev pub AllOrNone : ℕ → Answer R → Type 0
  AllOrNone n Did = Unit {0}
  AllOrNone n (Saw o) = Unit {0}
  AllOrNone n (Took c row) = (c ≡ n) ⊎ (c ≡ 0)
  AllOrNone n (LanesAre l) = Unit {0}
  AllOrNone n (FaultIs f) = Unit {0}
  AllOrNone n (Refused e) = Unit {0}

  -- the first word, or else the second
  abbrev pub first_of : Option R → Option R → Option R
  first_of None o = o
  first_of (Some w) o = Some w

  -- The outside word that was accepted in round k for the square of receiver i and sender q, if there was one. The round of a
  -- call is the number of accepted takes before it.
  abbrev pub told : List (Call R) → List (Answer R) → ℕ → ℕ → ℕ → Option R
  told [] answers k i q = None
  told (c ∷ calls) [] k i q = None
  told (c ∷ calls) (a ∷ answers) zero i q = first_of (placed_by c a i q) (cond (took a) None (told calls answers zero i q))
  told (c ∷ calls) (a ∷ answers) (suc k) i q = cond (took a) (told calls answers k i q) (told calls answers (suc k) i q)

-- in a round, the square of an inside receiver is given one outside word at most
abbrev pub ToldOnce : {R : Type 0} → Setup R → List (Call R) → List (Answer R) → Type 0
ToldOnce U [] answers = Unit {0}
ToldOnce U (c ∷ calls) [] = Unit {0}
ToldOnce {R} U (c ∷ calls) (a ∷ answers) = ((i q : ℕ) (w : R) → inner U i ≡ true → placed_by c a i q ≡ Some w → told calls answers 0 i q ≡ None) × ToldOnce U calls answers

-- a call is refused exactly where its tests say so, and a refusal changes nothing
pub record RefusalsExact {R C : Type 0} (G : Ghosts R C) (U : Setup R) (s : State R) (c : Call R) (a : Answer R) (t : State R) : Type 0 where
  pub only : (e : Refusal) → a ≡ Refused e → refusal G U s c ≡ Some e
  pub always : (e : Refusal) → refusal G U s c ≡ Some e → a ≡ Refused e
  pub same : (e : Refusal) → a ≡ Refused e → t ≡ s

module _ {R C : Type 0} (G : Ghosts R C) (U : Setup R) (V : Parts (El G)) where
  -- the lanes that plain evaluation gives to output number o, from the values that were dealt
  abbrev pub right_lanes : ℕ → List ℕ
  right_lanes o = plain (feed G.shape U.method U.constants V.input) U.codes U.layouts (gate_of_output U o)

  -- if lanes were answered, they begin with those of output number o
  abbrev pub HoldsLanes : ℕ → Answer R → Type 0
  HoldsLanes o Did = Unit {0}
  HoldsLanes o (Saw s) = Unit {0}
  HoldsLanes o (Took c row) = Unit {0}
  HoldsLanes o (LanesAre after) = take (length (right_lanes o)) after ≡ right_lanes o
  HoldsLanes o (FaultIs f) = Unit {0}
  HoldsLanes o (Refused e) = Unit {0}

  -- a result that was answered begins with the right lanes
  abbrev pub ResultRight : Call R → Answer R → Type 0
  ResultRight Post a = Unit {0}
  ResultRight (TellAll p w) a = Unit {0}
  ResultRight (TellOne p r w) a = Unit {0}
  ResultRight (Look r p) a = Unit {0}
  ResultRight (Take row) a = Unit {0}
  ResultRight (ResultOf i o l) a = HoldsLanes o a
  ResultRight (FaultOf i) a = Unit {0}

  module _ (calls : List (Call R)) (answers : List (Answer R)) (t : State R) where
    -- What inside seat i opened at opening number k: a row of one word for each seat, which opens to the value. The words of
    -- inside seats are what the rules give from their parts and from what they have opened; the words of outside seats are those
    -- that were accepted in round k for this receiver. And the value is the value shared.
    pub record OpenedRight (i k : ℕ) : Type 0 where
      pub listed : k < opening_count U
      pub row : List R
      pub long : length row ≡ U.seats
      pub inside : (q : ℕ) → inner U q ≡ true → word G row (q - 1) ≡ word_of (table G U) (task G U) (parts_of G U q) (opened_at G U t q) (gate_opened (opening U k))
      pub outside : (q : ℕ) → outer U q ≡ true → slice_index_or (map Some row) (q - 1) None ≡ told calls answers k i q
      pub opens : Opens G (degree_of U.threshold (opening U k)) row (opened_at G U t i k)
      pub right : opened_at G U t i k ≡ value_opened (table G U) (task G U) V k

    -- every outside word that an inside seat was told was a true one
    abbrev pub AllTrue : Type 0
    AllTrue =
        (k i q : ℕ) (w : R) → inner U i ≡ true → outer U q ≡ true → told calls answers k i q ≡ Some w
        → TrueWord (table G U) (task G U) (parts_of G U) V q (gate_opened (opening U k)) (G.element w)

    -- no inside seat has stopped, and the bench is done exactly when there were as many takes as products and outputs
    pub record Lively : Type 0 where
      pub going : (i : ℕ) → inner U i ≡ true → (t.progress i).fault ≡ None
      pub halted : t.halted ≡ false
      pub done : done U t ≡ (takes answers == products U.codes (length U.codes) + outputs U.codes (length U.codes))

    -- at each take all inside seats accepted or none did; all have opened as many values, and have the same fault or none
    pub record Alike : Type 0 where
      pub takes : Each (λ c a. AllOrNone (count U.inside U.seats) a) calls answers
      pub faults : (i j : ℕ) → inner U i ≡ true → inner U j ≡ true → (t.progress i).fault ≡ (t.progress j).fault
      pub counts : (i j : ℕ) → inner U i ≡ true → inner U j ≡ true → length (t.progress i).opened ≡ length (t.progress j).opened

    -- What inside seats have opened is right; so are the results that were answered; with true outside words nobody stops; on a
    -- common exchange all inside seats fare alike; a square is given one outside word at most in a round; refusals are exact; and
    -- no take is refused for a word in a seat's own square.
    pub record Claim : Type 0 where
      pub opened : (i k : ℕ) → inner U i ≡ true → k < length (t.progress i).opened → OpenedRight i k
      pub results : Each ResultRight calls answers
      pub live : AllTrue → Lively
      pub alike : U.common ≡ true → Alike
      pub once : ToldOnce U calls answers
      pub refusals : (x y : State R) (c : Call R) (a : Answer R) → Step G U x c a y → RefusalsExact G U x c a y
      pub owned : Each (λ c a. a ≢ Refused Own) calls answers

-- for every bench, in any state
abbrev pub RefusalsHold : {R C : Type 0} → Ghosts R C → Type 0
RefusalsHold {R} G = (U : Setup R) (s t : State R) (c : Call R) (a : Answer R) → Step G U s c a t → RefusalsExact G U s c a t

-- for every bench with these methods, and every list of calls
abbrev pub ClaimHolds : {R C : Type 0} → Ghosts R C → (ℕ → Enc) → Type 0
ClaimHolds {R} G method =
    (U : Setup R) → U.method ≡ method → (V : Parts (El G)) → Premises G U V
    → (s t : State R) (calls : List (Call R)) (answers : List (Answer R)) → Starts G U s → Run G U s calls answers t → Claim G U V calls answers t
