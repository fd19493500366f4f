-- In the trace of a run each access stands with the question whether its object lives.
use Rattle.std.proofs.Common.{◌≡◌, ℕ, List, [], ◌∷◌, Option, Some, None, refl, sym, subst}
use Rattle.ub_base.specs.declared.clause.Cause.{Cause}
use Rattle.ub_base.specs.declared.names.Item.{Item}
use Rattle.ub_base.specs.declared.names.Item.TheVariants.{Ending}
use Rattle.c_typed.specs.declared.tree.Place.{Place}
use Rattle.mem_spec.specs.Script.{Act, Done, Raised, Ended, Outside, Unplaced, run}
use Rattle.mem_spec.specs.Store.{Store}
use Rattle.c_model.specs.Libraries as libc
use Rattle.c_model.specs.Moves.{Move, Stay, Start, End}
use Rattle.c_model.specs.Runs.{After, Entry, Outcome, Refused, Raises, Over, No_row, Ends, Running, State, acted, allocation_passes, back, begun_of}
use Rattle.c_model.specs.Runs.{enter_passes, entry_of, here, last, limit_passed, limited, depth_of, main_frame, more, moved, nothing_stands, pick_allocates}
use Rattle.c_model.specs.Runs.{refused, stand, start, started_run, step, too_late, trace_of, within}
use Rattle.c_model.specs.Steps.{Control, Ev, Local, Pick, does, move}
use Rattle.c_model.specs.Values.{Value}
use Rattle.c_model.specs.World.{Limits, World}
use Rattle.finding_laws.specs.Forgotten.{AllAsked, AreAsked}
use Rattle.order_laws.specs.Asking.{AskedOrEnds, LibraryAsked}
use Rattle.order_laws.proofs.PrintAsks.{library_asks}
use Rattle.order_laws.proofs.ProgramAsks.{acts_ask}
use Rattle.lifetime_laws.specs.Asked.{LibraryRunsAsk, OrdersAsk, PicksAsk, StartsAsk}
use Rattle.lifetime_laws.proofs.Accesses.{backed_asks, ending_asks, none_asks}
use Rattle.lifetime_laws.proofs.Ends.{ends_with}

-- ---- limits
within_asks : (x : Option (Cause × ℕ)) (o : Outcome) → AllAsked (trace_of o) → AllAsked (trace_of (within x o))
within_asks None o h = h
within_asks (Some c) o h = tt

limited_asks : (limits : Limits) (o : Outcome) → AllAsked (trace_of o) → AllAsked (trace_of (limited limits o))
limited_asks limits (Running st) h = within_asks (limit_passed limits (depth_of st.top st.held) st.store) (Running st) h
limited_asks limits Refused h = tt
limited_asks limits (Raises c trace) h = h
limited_asks limits (Over c n) h = tt
limited_asks limits No_row h = tt
limited_asks limits (Ends n out trace) h = h

-- ---- a pick
module _ (world : World) (library : LibraryAsked world) where
  back_asks : (hs : List (Local × Place)) (v : Value) (s : Store) (trace : List Entry) → AllAsked trace → AllAsked (trace_of (back world hs v s trace))
  back_asks [] v s trace h = h
  back_asks (x ∷ hs) v s trace h = h

  module _ (st : State) where
    moved_asks : (p : Pick) (m : Move Local) (v : Value) (s : Store) (trace : List Entry) → AllAsked trace → AllAsked (trace_of (moved world st p m v s trace))
    moved_asks Control Stay v s trace h = h
    moved_asks (Ev u) Stay v s trace h = h
    moved_asks Control (Start g) v s trace h = tt
    moved_asks (Ev u) (Start g) v s trace h = h
    moved_asks Control End v s trace h = back_asks st.held v s trace h
    moved_asks (Ev u) End v s trace h = back_asks st.held v s trace h

    acted_asks : (p : Pick) (a : Act Value) → run world.rows (does world st.top st.top.begun p) st.store ≡ a → AllAsked st.trace →
        AllAsked (trace_of (acted world st p a))
    acted_asks p (Done v is s) ran h =
        limited_asks world.limits (moved world st p (move world st.top st.top.begun p) v s (entry_of world st.top p is ∷ st.trace))
        (moved_asks p (move world st.top st.top.begun p) v s (entry_of world st.top p is ∷ st.trace)
        (backed_asks is (acts_ask world library st.top p st.store v is s ran), h))
    acted_asks p (Raised c) ran h = (none_asks, h)
    acted_asks p (Ended n is s) ran h =
        (subst AreAsked (sym (ends_with world library st.top st.top.begun p st.store n is s ran)) ending_asks, h)
    acted_asks p (Outside c n) ran h = tt
    acted_asks p Unplaced ran h = within_asks (allocation_passes world.limits st.store (pick_allocates world st.top st.top.begun p)) No_row tt

    step_asks : (p : Pick) → AllAsked st.trace → AllAsked (trace_of (step world st p))
    step_asks p h =
        within_asks (enter_passes world.limits st p) (acted world st p (run world.rows (does world st.top st.top.begun p) st.store))
        (acted_asks p (run world.rows (does world st.top st.top.begun p) st.store) refl h)

  -- ---- orders of picks
  order_asks : (st : State) (ps : List Pick) (o : Outcome) → AllAsked st.trace → After world st ps o → AllAsked (trace_of o)
  order_asks st _ _ h (here _) = h
  order_asks st _ _ h (refused _ p ps barred) = tt
  order_asks st _ _ h (last _ p may) = step_asks st p h
  order_asks st _ _ h (more _ next p q ps o may steps rest) =
      order_asks next (q ∷ ps) o (subst (λ (z : Outcome). AllAsked (trace_of z)) steps (step_asks st p h)) rest
  order_asks st _ _ h (too_late _ p q ps may stopped) = tt

pub picks_ask : PicksAsk
picks_ask world st p o library h is = subst (λ (z : Outcome). AllAsked (trace_of z)) is (step_asks world library st p h)

pub orders_ask : OrdersAsk
orders_ask world st ps o library h after = order_asks world library st ps o h after

-- ---- as a run starts
started_asks : (world : World) (a : Act Value) (vs : List Value) → AllAsked (trace_of (started_run world a vs))
started_asks world (Done v is s) vs =
    limited_asks world.limits (Running (record { top = main_frame world vs; held = []; store = s; trace = [] })) tt
started_asks world (Raised c) vs = tt
started_asks world (Ended n is s) vs = tt
started_asks world (Outside c n) vs = tt
started_asks world Unplaced vs = tt

pub starts_ask : StartsAsk
starts_ask world input vs st is =
    subst (λ (z : Outcome). AllAsked (trace_of z)) is
    (within_asks _ (started_run world (run world.rows (stand world world.program.standing) (nothing_stands world input)) vs)
    (started_asks world (run world.rows (stand world world.program.standing) (nothing_stands world input)) vs))

pub library_runs_ask : LibraryRunsAsk
library_runs_ask world input vs st ps o library starts after =
    order_asks world
    (λ g who ts ws bs. subst (λ l. AskedOrEnds world.rows (l g who ts ws) bs) (sym library) (library_asks world.rows g who ts ws bs)) st ps o
    (starts_ask world input vs st starts) after
