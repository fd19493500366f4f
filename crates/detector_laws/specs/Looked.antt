-- What is found along the canonical order, pick by pick (own; 6.5p2 for races).
use Rattle.std.specs.Prelude.{◌≡◌, ◌+◌, ℕ, suc, List, Option, Some, None, if◌then◌else◌}
use Rattle.addr_map.specs.declared.map.Row.{Row}
use Rattle.c_model.specs.FirstFinding.{Finding, Raced, Order_dependent, found_from, quarrels, races, shown_at}
use Rattle.c_model.specs.Moments.{Open, on_the_way}
use Rattle.c_model.specs.Program.{tree_of}
use Rattle.c_model.specs.Runs.{Entry, Outcome, Running, State, canonical_pick, step}
use Rattle.c_model.specs.Steps.{Begun, Scene, is_done, taken_by}
use Rattle.c_model.specs.World.{World}
use Rattle.evaluation_log.specs.declared.found.Found.{Found}
use Rattle.finding_laws.specs.FirstPairs.{NoPair, pair_told}
use Rattle.run_evaluations.specs.Scopes.{Scope}
use Rattle.telling_laws.specs.FirstFound.{IsFoundIn, place_in}

-- ---- an open full expression
-- its tree, with what its nodes have chosen by now
abbrev pub scope_of : World → Scene → Begun → Scope
scope_of world f e = record { tree = tree_of e.root; taken = taken_by world f e }

-- as c_model looks for findings in it on the way
abbrev pub looked_at : World → List Entry → Scene → Begun → Open
looked_at world trace f e = on_the_way trace f.path f.turn e.root (taken_by world f e) (is_done e)

-- no two of its events race, or quarrel, that show
pub record IsFree (rows : List Row) (o : Open) : Type 0 where
  pub raceless : NoPair o (races rows o)
  pub quarrelless : NoPair o (quarrels rows o)

-- so it is of the one that is open in the frame, if one is
abbrev pub IsFreeIn : World → List Entry → Scene → Option Begun → Type 0
IsFreeIn world trace f None = Unit {0}
IsFreeIn world trace f (Some e) = IsFree world.rows (looked_at world trace f e)

-- ---- along the canonical order
-- so many of its picks go on to this state, and behind none of them is anything found in the top frame
pub data GoesFree (world : World) (first : State) : ℕ → State → Type 0 where
  none : GoesFree world first 0 first
  more : (n : ℕ) (st next : State) → GoesFree world first n st → step world st (canonical_pick world st.top st.top.begun) ≡ Running next
      → IsFreeIn world next.trace next.top.scene next.top.begun → GoesFree world first (suc n) next

-- then what is found first from the first state on is what is found from there
abbrev pub FreePicksPass : Type 0
FreePicksPass = (world : World) (first st : State) (n left : ℕ) → GoesFree world first n st → found_from world (n + left) 0 first ≡ found_from world left n st

-- and with one pick more it is what shows at that pick: a raised clause, a limit, an end of the run with what is found there, or what is found on the way
abbrev pub LastPickTells : Type 0
LastPickTells = (world : World) (first st : State) (n left : ℕ) (o : Outcome) → GoesFree world first n st
    → step world st (canonical_pick world st.top st.top.begun) ≡ o →
    found_from world (n + suc left) 0 first ≡ shown_at world st o n (found_from world left (suc n))

-- ---- where a conflict is found on the way
-- the finding that it makes
abbrev pub finding_of : World → List Entry → Open → (picks : ℕ) → Found → Finding
finding_of world trace o picks f =
    if f.race then Raced (pair_told world trace o (place_in f.event) (place_in f.against)) picks
    else Order_dependent (pair_told world trace o (place_in f.event) (place_in f.against)) picks

-- is the first one
abbrev pub ConflictIsFirst : Type 0
ConflictIsFirst = (world : World) (first st next : State) (n left : ℕ) (e : Begun) (f : Found) → GoesFree world first n st
    → step world st (canonical_pick world st.top st.top.begun) ≡ Running next → next.top.begun ≡ Some e
    → IsFoundIn world.rows (looked_at world next.trace next.top.scene e) (Some f)
    → found_from world (n + suc left) 0 first ≡ finding_of world next.trace (looked_at world next.trace next.top.scene e) (suc n) f
