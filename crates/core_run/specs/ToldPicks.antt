-- What a watch hears of the picks of a run, one by one, along the states of the definitions (own).
use Rattle.std.specs.Prelude.{◌≡◌, ℕ, suc, List, [], ◌∷◌, Option, Some, None}
use Rattle.ub_base.specs.declared.names.Event.{Event}
use Rattle.ub_base.specs.declared.names.Item.{Item}
use Rattle.c_model.specs.Completions.{Completed, Incomplete, Own_node, Operands_of}
use Rattle.c_model.specs.Runs.{Entry, Outcome, Running, State, canonical_after, canonical_pick, step, trace_of}
use Rattle.c_model.specs.World.{World}
use Rattle.canonical_laws.specs.Completes.{completed_with}
use Rattle.canonical_laws.specs.Listed.{TellsEntry}
use Rattle.core_run.specs.Calls.{Call, Heard, Tells, node_done, operands_done, picked}
use Rattle.core_run.specs.declared.watch.Go.{Go}
use Rattle.core_run.specs.declared.watch.Go.TheVariants.{On}

-- 1. One pick.

-- the calls that tell what an event completes, in its frame and turn: its node, and then the one above it whose operands are complete with it
abbrev pub notes_of : Option Event → Completed → List Call
notes_of None completed = []
notes_of (Some e) Incomplete = []
notes_of (Some e) Own_node = node_done e.frame e.turn e.node ∷ []
notes_of (Some e) (Operands_of above) = node_done e.frame e.turn e.node ∷ operands_done e.frame e.turn above ∷ []

-- The canonical pick in this state comes to this, and is told by these calls: itself, by the event and the items that tell its entry of the trace, and then
-- what it completes, as the definitions say it.
pub record TellsPick (world : World) (st : State) (o : Outcome) (calls : List Call) : Type 0 where
  pub steps : step world st (canonical_pick world st.top st.top.begun) ≡ o
  pub entry : Entry
  pub newest : trace_of o ≡ entry ∷ st.trace
  pub event : Option Event
  pub items : List Item
  pub tells : TellsEntry world event items entry
  pub by : calls ≡ picked event items ∷ notes_of event (completed_with world entry o)

-- 2. So many picks, from the first state on.

-- these calls behind those, each answered by On
abbrev pub heard_with : List Call → Heard → Heard
heard_with [] hs = hs
heard_with (c ∷ cs) hs = heard_with cs ((c, On) ∷ hs)

module _ (world : World) (first : State) (before : Heard) where
  -- after so many canonical picks the run is in this state, and this was heard: the calls of each pick behind those of the pick before, and no others
  pub data Told : ℕ → State → Heard → Type 0 where
    none : Told 0 first before
    told : (n : ℕ) (st after : State) (hs heard : Heard) (calls : List Call) → Told n st hs → TellsPick world st (Running after) calls
        → heard ≡ heard_with calls hs → Told (suc n) after heard

  -- The last of so many picks came to this, and its last call was answered so: behind one that was answered by Stop no other came.
  pub record IsLastTold (go : Go) (picks : ℕ) (o : Outcome) (heard : Heard) : Type 0 where
    pub earlier : ℕ
    pub all : picks ≡ suc earlier
    pub st : State
    pub until : Heard
    pub so_far : Told earlier st until
    pub calls : List Call
    pub tells : TellsPick world st o calls
    pub last : Tells calls go (Some until) (Some heard)

-- 3. .. where calls are kept.
module _ (world : World) (first : State) where
  abbrev pub ToldBy : (before after : Option Heard) → ℕ → State → Type 0
  ToldBy None after n st = Unit {0}
  ToldBy (Some before) None n st = ⊥
  ToldBy (Some before) (Some heard) n st = Told world first before n st heard

  abbrev pub LastToldBy : (before after : Option Heard) → Go → ℕ → Outcome → Type 0
  LastToldBy None after go picks o = Unit {0}
  LastToldBy (Some before) None go picks o = ⊥
  LastToldBy (Some before) (Some heard) go picks o = IsLastTold world first before go picks o heard

-- 4. The states on the way are those of the canonical order.
abbrev pub ToldIsCanonical : Type 0
ToldIsCanonical = (world : World) (first : State) (before : Heard) (n : ℕ) (st : State) (heard : Heard) → Told world first before n st heard
    → canonical_after world n first ≡ Running st
