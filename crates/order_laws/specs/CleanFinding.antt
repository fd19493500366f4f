-- A first finding *clean* is true of every order.
use Rattle.std.specs.Prelude.{◌≡◌, ◌<◌, ◌^◌, ℕ, List}
use Rattle.mem_spec.specs.Streams.{Outputs}
use Rattle.c_model.specs.Values.{Value}
use Rattle.c_model.specs.World.{World}
use Rattle.c_model.specs.Libraries as libc
use Rattle.c_model.specs.FirstFinding.{Clean, first_finding}
use Rattle.c_model.specs.Claims.{EveryOrderAlike}
use Rattle.order_laws.specs.Asking.{LibraryAsked}
use Rattle.order_laws.specs.EveryRun.{CleanRun, EveryTraceQuiet}

-- Where the first finding along the canonical order is clean, that order is a run without conflicts, with its status, output and picks.
abbrev pub CleanIsRun : Type 0
CleanIsRun =
    (world : World) (budget : ℕ) (input : List ℕ) (vs : List Value) (status : ℕ) (output : Outputs) (picks : ℕ) → LibraryAsked world
    → first_finding world budget input vs ≡ Clean status output picks → CleanRun world input vs status output picks

-- So, with the library of libc_spec, every order that C permits ends with that status and output, without undefined behaviour on the way.
abbrev pub CleanInEveryOrder : Type 0
CleanInEveryOrder =
    (world : World) (budget : ℕ) (input : List ℕ) (vs : List Value) (status : ℕ) (output : Outputs) (picks : ℕ) → world.library ≡ libc.library world.rows
    → world.limits.created < 2 ^ 62 → first_finding world budget input vs ≡ Clean status output picks → EveryOrderAlike world input vs status output picks

-- Nor does any order's trace hold a race or a quarrel, or an event that ends the run beside another one.
abbrev pub CleanIsQuiet : Type 0
CleanIsQuiet =
    (world : World) (budget : ℕ) (input : List ℕ) (vs : List Value) (status : ℕ) (output : Outputs) (picks : ℕ) → world.library ≡ libc.library world.rows
    → world.limits.created < 2 ^ 62 → first_finding world budget input vs ≡ Clean status output picks → EveryTraceQuiet world input vs
