-- What reports say of a program, as a property of its permitted orders.
use Rattle.std.specs.Prelude.{◌≡◌, ◌≢◌, ◌≤◌, ℕ, zero, suc, false, List, [], ◌∷◌, length, Option, Some, IsTrue}
use Rattle.std.specs.List.{Contains}
use Rattle.ub_base.specs.declared.clause.Clause.{Clause}
use Rattle.ub_base.specs.declared.clause.Cause.{Cause}
use Rattle.ub_base.specs.declared.names.Item.{Item}
use Rattle.ub_base.specs.declared.names.Item.TheVariants.{Ending, Any}
use Rattle.ub_base.specs.Frames.{Path}
use Rattle.c_typed.specs.declared.tree.Place.{Place}
use Rattle.mem_spec.specs.Streams.{Outputs}
use Rattle.c_model.specs.Values.{Value}
use Rattle.c_model.specs.World.{World}
use Rattle.c_model.specs.Steps.{Pick, Control, MayPick}
use Rattle.c_model.specs.Runs.{Entry, State, Outcome, Refused, Raises, Over, Ends, Running, is_running, trace_of, start, step, After, canonical_pick}
use Rattle.c_model.specs.Findings.{clash, items_of, Meets, Race, Quarrel, EndQuarrel}
use Rattle.c_model.specs.Keys.{all_by_bytes}
use Rattle.c_model.specs.FirstFinding.{Pair, Finding, Clean, Undefined, Raced, Order_dependent, Out_of_steps, Outside, Not_placed}

-- The outcome of an order from the start, with this input and these arguments of `main`. Where the start itself passes a limit or an
-- object has no row, there is none but the empty order.
pub data ComesTo (world : World) (input : List ℕ) (vs : List Value) : List Pick → Outcome → Type 0 where
  starts : (st : State) (ps : List Pick) (o : Outcome) → start world input vs ≡ Running st → After world st ps o → ComesTo world input vs ps o
  stops : (o : Outcome) → start world input vs ≡ o → is_running o ≡ false → ComesTo world input vs [] o
  refuses : (p : Pick) (ps : List Pick) → is_running (start world input vs) ≡ false → ComesTo world input vs (p ∷ ps) Refused

-- so many picks of the canonical order from an outcome on; behind an end of the run they are refused
abbrev pub canonical_picks : World → ℕ → Outcome → List Pick
canonical_picks world zero o = []
canonical_picks world (suc n) (Running st) =
    canonical_pick world st.top st.top.begun ∷ canonical_picks world n (step world st (canonical_pick world st.top st.top.begun))
canonical_picks world (suc n) o = Control ∷ canonical_picks world n o

abbrev pub canonical_order : World → List ℕ → List Value → ℕ → List Pick
canonical_order world input vs n = canonical_picks world n (start world input vs)

-- an order that can go on, or has ended with this status and with these bytes of standard output and standard error
abbrev pub GoesWell : World → (status : ℕ) → (output : Outputs) → Outcome → Type 0
GoesWell world status output (Running st) = (p : Pick) × MayPick world st.top st.top.begun p
GoesWell world status output (Ends n out trace) = (n ≡ status) × (out ≡ output)
GoesWell world status output o = ⊥

-- Clean: every order that C permits, under this address map, goes on until it ends with this status and with
-- these bytes of standard output and standard error, after at most so many picks, without undefined behaviour on the way.
pub record EveryOrderAlike (world : World) (input : List ℕ) (vs : List Value) (status : ℕ) (output : Outputs) (picks : ℕ) : Type 0 where
  pub alike : (ps : List Pick) (o : Outcome) → ComesTo world input vs ps o → o ≢ Refused → GoesWell world status output o
  pub bounded : (ps : List Pick) (o : Outcome) → ComesTo world input vs ps o → o ≢ Refused → length ps ≤ picks
  pub defined : (ps : List Pick) (o : Outcome) (c : Clause) → ComesTo world input vs ps o → Meets world o c → ⊥

-- an entry of this frame, turn and line
pub record StandsAt (e : Entry) (path : Path) (turn line : ℕ) : Type 0 where
  pub of_frame : e.path ≡ path
  pub of_turn : e.turn ≡ turn
  pub of_line : e.line ≡ line

-- the items of a pair: one of either evaluation, a byte at a time, which conflict
pub record ShowsItems (world : World) (is js : List Item) (items : Option (Item × Item)) : Type 0 where
  pub first : Item
  pub second : Item
  pub told : items ≡ Some (first, second)
  pub of_first : Contains (all_by_bytes is) first
  pub of_second : Contains (all_by_bytes js) second
  pub conflict : IsTrue (clash world.rows first second)

-- the trace holds a race of the two evaluations of a pair, whichever of them came first
pub data HoldsRace (world : World) (trace : List Entry) (pair : Pair) : Type 0 where
  event_newer : (d e : Entry) → StandsAt d pair.path pair.turn pair.line → StandsAt e pair.path pair.turn pair.other_line
      → Race world trace d pair.event e pair.other → ShowsItems world d.items e.items pair.items → HoldsRace world trace pair
  other_newer : (d e : Entry) → StandsAt d pair.path pair.turn pair.other_line → StandsAt e pair.path pair.turn pair.line
      → Race world trace d pair.other e pair.event → ShowsItems world e.items d.items pair.items → HoldsRace world trace pair

-- or a quarrel of theirs: in either order, or where one of them ends the run beside the other
pub data HoldsQuarrel (world : World) (trace : List Entry) (pair : Pair) : Type 0 where
  event_newer : (d e : Entry) → StandsAt d pair.path pair.turn pair.line → StandsAt e pair.path pair.turn pair.other_line
      → Quarrel world trace d pair.event e pair.other → ShowsItems world (items_of trace d pair.event) (items_of trace e pair.other) pair.items
      → HoldsQuarrel world trace pair
  other_newer : (d e : Entry) → StandsAt d pair.path pair.turn pair.other_line → StandsAt e pair.path pair.turn pair.line
      → Quarrel world trace d pair.other e pair.event → ShowsItems world (items_of trace e pair.event) (items_of trace d pair.other) pair.items
      → HoldsQuarrel world trace pair
  event_ends : (d : Entry) → StandsAt d pair.path pair.turn pair.line → EndQuarrel trace d pair.event pair.other
      → pair.items ≡ Some (Ending, Any) → HoldsQuarrel world trace pair
  other_ends : (d : Entry) → StandsAt d pair.path pair.turn pair.other_line → EndQuarrel trace d pair.other pair.event
      → pair.items ≡ Some (Any, Ending) → HoldsQuarrel world trace pair

-- the canonical order is permitted for so many picks, and comes to this
abbrev pub CanonicallyComesTo : World → List ℕ → List Value → ℕ → Outcome → Type 0
CanonicallyComesTo world input vs n o = ComesTo world input vs (canonical_order world input vs n) o

-- undefined by a clause: the last of these picks raises it, at this event of this line
pub record RaisesAt (world : World) (input : List ℕ) (vs : List Value) (c : Clause) (path : Path) (turn : ℕ) (place : Option Place) (line picks : ℕ) :
    Type 0 where
  pub entry : Entry
  pub before : List Entry
  pub raised : CanonicallyComesTo world input vs picks (Raises c (entry ∷ before))
  pub there : StandsAt entry path turn line
  pub at : entry.place ≡ place

-- undefined by 6.5p2: these picks hold the race
pub record RacesIn (world : World) (input : List ℕ) (vs : List Value) (pair : Pair) (picks : ℕ) : Type 0 where
  pub outcome : Outcome
  pub permitted : CanonicallyComesTo world input vs picks outcome
  pub race : HoldsRace world (trace_of outcome) pair

-- order-dependent: these picks hold the quarrel
pub record QuarrelsIn (world : World) (input : List ℕ) (vs : List Value) (pair : Pair) (picks : ℕ) : Type 0 where
  pub outcome : Outcome
  pub permitted : CanonicallyComesTo world input vs picks outcome
  pub quarrel : HoldsQuarrel world (trace_of outcome) pair

-- out of steps: the canonical order takes so many picks and hasn't ended
pub record RunsOn (world : World) (input : List ℕ) (vs : List Value) (picks : ℕ) : Type 0 where
  pub state : State
  pub permitted : CanonicallyComesTo world input vs picks (Running state)

-- outside: it has picks left, and its next pick, or the start, would pass the limit with this number
pub data PassesLimit (world : World) (input : List ℕ) (vs : List Value) (cause : Cause) (number : ℕ) : ℕ → Type 0 where
  at_start : start world input vs ≡ Over cause number → PassesLimit world input vs cause number 0
  at_pick : (n : ℕ) → CanonicallyComesTo world input vs (suc n) (Over cause number) → PassesLimit world input vs cause number n

-- what a report of each finding says
abbrev pub IsTrueOf : World → List ℕ → List Value → Finding → Type 0
IsTrueOf world input vs (Clean status output n) = EveryOrderAlike world input vs status output n
IsTrueOf world input vs (Undefined c path turn place line n) = RaisesAt world input vs c path turn place line n
IsTrueOf world input vs (Raced pair n) = RacesIn world input vs pair n
IsTrueOf world input vs (Order_dependent pair n) = QuarrelsIn world input vs pair n
IsTrueOf world input vs (Out_of_steps n) = RunsOn world input vs n
IsTrueOf world input vs (Outside cause number n) = PassesLimit world input vs cause number n
-- no report: the rows are those of no placement
IsTrueOf world input vs (Not_placed n) = ⊥
