-- What one run without conflicts says of every permitted order of a program, in the terms of reports.
use Rattle.std.specs.Prelude.{◌≡◌, ◌<◌, ◌^◌, ◌≤◌, ℕ, List, length}
use Rattle.c_typed.specs.declared.tree.Place.{Place}
use Rattle.mem_spec.specs.Store.{Store}
use Rattle.mem_spec.specs.Streams.{Outputs, total}
use Rattle.c_model.specs.Values.{Value}
use Rattle.c_model.specs.World.{World}
use Rattle.c_model.specs.Libraries as libc
use Rattle.c_model.specs.Steps.{Pick}
use Rattle.c_model.specs.Runs.{Entry, Outcome, Running, State, depth_of, status_of, trace_of, start}
use Rattle.c_model.specs.Findings.{Race, Quarrel, EndQuarrel}
use Rattle.c_model.specs.Claims.{ComesTo, EveryOrderAlike}
use Rattle.machine_laws.specs.Cuts.{Result, gave, said, RunsTo}
use Rattle.order_laws.specs.Asking.{LibraryAsked}
use Rattle.order_laws.specs.ProgramTells.{told_machine, told_ends}

-- how a run ends: with the status of what `main` gives, or with that of an end of the run, and with the output
abbrev pub EndsWith : Result Value ℕ → Store → (status : ℕ) → (output : Outputs) → Type 0
EndsWith (gave v) s status output = (status_of v ≡ status) × (s.output ≡ output)
EndsWith (said n) s status output = (n ≡ status) × (s.output ≡ output)

-- a run of the program's frames from its start to its end, without conflicts as findings tell them and within the limits
pub record CleanRun (world : World) (input : List ℕ) (vs : List Value) (status : ℕ) (output : Outputs) (picks : ℕ) : Type 0 where
  pub first : State
  pub starts : start world input vs ≡ Running first
  pub result : Result Value ℕ
  pub last : Store
  pub runs : RunsTo (told_machine world) (told_ends world) (first.top, depth_of first.top first.held) first.store picks result last
  pub created : last.created ≤ world.limits.created
  pub printed : total last.output ≤ world.limits.output
  pub ends : EndsWith result last status output

-- Where the library's scripts ask for the life of what they access and create objects as their rows say, and the limit on created bytes is
-- below their greatest count, such a run speaks for every permitted order.
abbrev pub CleanRunSpeaks : Type 0
CleanRunSpeaks =
    (world : World) (input : List ℕ) (vs : List Value) (status : ℕ) (output : Outputs) (picks : ℕ) → LibraryAsked world → world.limits.created < 2 ^ 62
    → CleanRun world input vs status output picks → EveryOrderAlike world input vs status output picks

-- So it is with the library of libc_spec.
abbrev pub LibraryRunSpeaks : Type 0
LibraryRunSpeaks =
    (world : World) (input : List ℕ) (vs : List Value) (status : ℕ) (output : Outputs) (picks : ℕ) → world.library ≡ libc.library world.rows
    → world.limits.created < 2 ^ 62 → CleanRun world input vs status output picks → EveryOrderAlike world input vs status output picks

-- a trace that holds no race and no quarrel, and no event that ends the run beside another one
pub record IsQuiet (world : World) (trace : List Entry) : Type 0 where
  pub no_race : (d e : Entry) (u v : Place) → Race world trace d u e v → ⊥
  pub no_quarrel : (d e : Entry) (u v : Place) → Quarrel world trace d u e v → ⊥
  pub no_end_quarrel : (d : Entry) (u v : Place) → EndQuarrel trace d u v → ⊥

-- that of each order from the start is such a one
abbrev pub EveryTraceQuiet : World → List ℕ → List Value → Type 0
EveryTraceQuiet world input vs = (ps : List Pick) (o : Outcome) → ComesTo world input vs ps o → IsQuiet world (trace_of o)

-- Nor do two events of any order race or quarrel, or one end the run beside another one.
abbrev pub CleanRunQuiet : Type 0
CleanRunQuiet =
    (world : World) (input : List ℕ) (vs : List Value) (status : ℕ) (output : Outputs) (picks : ℕ) → LibraryAsked world → world.limits.created < 2 ^ 62
    → CleanRun world input vs status output picks → EveryTraceQuiet world input vs
