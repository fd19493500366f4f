-- A first finding *clean* is a run without conflicts.
use Rattle.std.proofs.Common.{◌≡◌, ℕ, List, refl, sym, subst}
use Rattle.mem_spec.specs.Streams.{Outputs}
use Rattle.c_model.specs.World.{World}
use Rattle.c_model.specs.Libraries as libc
use Rattle.order_laws.proofs.PrintAsks.{library_asks}
use Rattle.c_model.specs.Values.{Value}
use Rattle.c_model.specs.Runs.{Outcome, Refused, Raises, Over, No_row, Ends, Running, depth_of, start}
use Rattle.c_model.specs.FirstFinding.{Clean, found_after}
use Rattle.c_model.specs.MachineLaws.{OrderLaws}
use Rattle.order_laws.specs.Asking.{AskedOrEnds, LibraryAsked}
use Rattle.order_laws.specs.ProgramTells.{told_machine, told_ends}
use Rattle.order_laws.specs.CleanFinding.{CleanInEveryOrder, CleanIsQuiet, CleanIsRun}
use Rattle.order_laws.specs.EveryRun.{CleanRun}
use Rattle.order_laws.proofs.ProgramLaws.{keeps}
use Rattle.machine_laws.proofs.Nested.{quiet_order_runs}
use Rattle.order_laws.proofs.EveryRun.{clean_run_quiet, clean_run_speaks, started_as}
use Rattle.order_laws.proofs.CanonicalQuiet.{fits_of, first_ran}

-- the laws of the order look at no conflicts
told_order : (world : World) → LibraryAsked world → OrderLaws (told_machine world)
told_order world asked =
    let o = (keeps world asked).2 in
    record {
      same_opens = o.same_opens;
      leave_control = o.leave_control;
      same_pick = o.same_pick;
      alone = o.alone;
      level_ready = o.level_ready;
      level_next = o.level_next;
      level_beside = o.level_beside;
      beside_before = o.beside_before;
      done_next = o.done_next;
      done_stays = o.done_stays;
      control_starts = o.control_starts;
      control_beside = o.control_beside;
      level_done = o.level_done;
      start_next = o.start_next;
    }

module _ (world : World) (budget : ℕ) (input : List ℕ) (vs : List Value) (status : ℕ) (output : Outputs) (picks : ℕ) (asked : LibraryAsked world) where
  quiet_from : (o : Outcome) → start world input vs ≡ o → found_after world budget o ≡ Clean status output picks → CleanRun world input vs status output picks
  quiet_from (Running st) e h =
      let sd = started_as world input vs st e in
      let r = first_ran world asked status output picks budget st sd.begun sd.held sd.deep (fits_of world (depth_of st.top st.held) st.store sd.passed) h in
      record {
        first = st;
        starts = e;
        result = r.0;
        last = r.1;
        runs = quiet_order_runs (told_machine world) (told_ends world) (told_order world asked) (st.top, depth_of st.top st.held) st.store picks r.0 r.1 r.2;
        created = r.4.created_at_most;
        printed = r.4.output_at_most;
        ends = r.3;
      }
  quiet_from (Over c n) e h = absurd (cc (h))
  quiet_from No_row e h = absurd (cc (h))
  quiet_from Refused e h = absurd (cc (h))
  quiet_from (Raises c t) e h = absurd (cc (h))
  quiet_from (Ends n out t) e h = absurd (cc (h))

pub clean_is_run : CleanIsRun
clean_is_run world budget input vs status output picks asked h = quiet_from world budget input vs status output picks asked (start world input vs) refl h

asked_by : (world : World) → world.library ≡ libc.library world.rows → LibraryAsked world
asked_by world e g who ts vs bs = subst (λ l. AskedOrEnds world.rows (l g who ts vs) bs) (sym e) (library_asks world.rows g who ts vs bs)

pub clean_in_every_order : CleanInEveryOrder
clean_in_every_order world budget input vs status output picks e small h =
    clean_run_speaks world input vs status output picks (asked_by world e) small (clean_is_run world budget input vs status output picks (asked_by world e) h)

pub clean_is_quiet : CleanIsQuiet
clean_is_quiet world budget input vs status output picks e small h =
    clean_run_quiet world input vs status output picks (asked_by world e) small (clean_is_run world budget input vs status output picks (asked_by world e) h)
