-- Along the canonical order nothing was found in any frame, as long as nothing is found in the top one.
use Rattle.std.proofs.Common.{◌≡◌, suc, List, [], refl, subst}
use Rattle.mem_spec.specs.Script.{Act, Done, Raised, Ended, Outside, Unplaced}
use Rattle.c_model.specs.Runs.{Running, State, main_frame, started_run}
use Rattle.c_model.specs.Values.{Value}
use Rattle.c_model.specs.World.{World}
use Rattle.detector_laws.specs.Along.{AreClear, GoesClear, StartsClear}
use Rattle.detector_laws.specs.Looked.{none, more}
use Rattle.detector_laws.proofs.Barely.{picks_stay_bare}
use Rattle.detector_laws.proofs.Freshly.{picks_stay_fresh}
use Rattle.detector_laws.proofs.Goes.{same_state, through_limited, through_within}
use Rattle.detector_laws.proofs.Leaves.{picks_leave_free}

started_clear : (world : World) (vs : List Value) (act : Act Value) (st : State) → started_run world act vs ≡ Running st → AreClear world st
started_clear world vs (Done v is s) st q =
    let first : State = record { top = main_frame world vs; held = []; store = s; trace = [] } in
    let clear : AreClear world first = record {
      free = record { top = tt; held = tt };
      fresh = record { top = record { now = λ n h. refl; later = λ k n l. refl }; held = tt };
      bare = record { top = tt; held = tt };
    } in
    subst (AreClear world) (same_state first st (through_limited world.limits _ st q)) clear
started_clear world vs (Raised c) st q = absurd (cc (q))
started_clear world vs (Ended n is s) st q = absurd (cc (q))
started_clear world vs (Outside c n) st q = absurd (cc (q))
started_clear world vs Unplaced st q = absurd (cc (q))

pub starts_clear : StartsClear
starts_clear world input vs st q = started_clear world vs _ st (through_within _ _ st q)

pub goes_clear : GoesClear
goes_clear world first _ _ formed clear none = clear
goes_clear world first _ _ formed clear (more n st next before q g) =
    let c = goes_clear world first st n formed clear before in
    record {
      free = picks_leave_free world st next c.free q (formed (suc n) next (more n st next before q g)) g;
      fresh = picks_stay_fresh world st next c.free c.fresh q;
      bare = picks_stay_bare world st next c.free c.bare q;
    }
