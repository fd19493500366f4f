-- Each access in the trace of a run stands with the question whether its object lives (own; 6.2.4p2).
use Rattle.std.specs.Prelude.{◌≡◌, ℕ, List}
use Rattle.c_model.specs.Libraries as libc
use Rattle.c_model.specs.Runs.{After, Outcome, Running, State, start, step, trace_of}
use Rattle.c_model.specs.Steps.{Pick}
use Rattle.c_model.specs.Values.{Value}
use Rattle.c_model.specs.World.{World}
use Rattle.finding_laws.specs.Forgotten.{AllAsked}
use Rattle.order_laws.specs.Asking.{LibraryAsked}

-- so it is as a run starts, for nothing was picked
abbrev pub StartsAsk : Type 0
StartsAsk = (world : World) (input : List ℕ) (vs : List Value) (st : State) → start world input vs ≡ Running st → AllAsked st.trace

-- and after any pick, whether the run goes on, ends or raises a clause with it, if the library's scripts ask for the life of what they access
abbrev pub PicksAsk : Type 0
PicksAsk = (world : World) (st : State) (p : Pick) (o : Outcome) → LibraryAsked world → AllAsked st.trace → step world st p ≡ o → AllAsked (trace_of o)

-- so after any order of picks
abbrev pub OrdersAsk : Type 0
OrdersAsk = (world : World) (st : State) (ps : List Pick) (o : Outcome) → LibraryAsked world → AllAsked st.trace → After world st ps o →
    AllAsked (trace_of o)

-- with the library of libc_spec each run is so, in any order
abbrev pub LibraryRunsAsk : Type 0
LibraryRunsAsk = (world : World) (input : List ℕ) (vs : List Value) (st : State) (ps : List Pick) (o : Outcome) → world.library ≡ libc.library world.rows
    → start world input vs ≡ Running st → After world st ps o → AllAsked (trace_of o)
