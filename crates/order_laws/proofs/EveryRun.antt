-- A run without conflicts speaks for every permitted order, in the terms of reports.
use Rattle.std.proofs.Common.{◌≡◌, ◌≢◌, ℕ, ◌+◌, ◌^◌, ◌<◌, ◌≤◌, Bool, true, false, if◌then◌else◌, List, [], length, Option, Some, None, refl, sym, ap, ◌∙◌}
use Rattle.std.proofs.Common.{subst, true≢false, ◌⊎◌, inl, inr, arith}
use Rattle.std.specs.Prelude.{nat_lt}
use Rattle.std.proofs.lemmas.Bool.Decides.{nat_tests}
use Rattle.ub_base.specs.declared.clause.Clause.{Clause}
use Rattle.ub_base.specs.declared.clause.Cause.{Cause}
use Rattle.ub_base.specs.declared.clause.Cause.TheVariants.{Depth}
use Rattle.mem_spec.specs.Store.{Store}
use Rattle.mem_spec.specs.Script.{Act, Done, Raised, Ended, Outside, Unplaced, run}
use Rattle.c_typed.specs.declared.tree.Place.{Place}
use Rattle.mem_spec.specs.Streams.{Outputs}
use Rattle.c_model.specs.World.{World}
use Rattle.c_model.specs.Values.{Value}
use Rattle.c_model.specs.Steps.{Pick}
use Rattle.c_model.specs.Runs.{Entry, State, Outcome, Refused, Raises, Over, No_row, Ends, Running, is_running, trace_of, depth_of, within, limit_passed}
use Rattle.c_model.specs.Runs.{stand, nothing_stands, main_frame, started_run, start, After}
use Rattle.c_model.specs.Findings.{Has, first, later, Both, Meets, raised, raced}
use Rattle.c_model.specs.Claims.{ComesTo, starts, stops, refuses, GoesWell}
use Rattle.machine_laws.specs.Orders.{going, here}
use Rattle.order_laws.specs.Asking.{LibraryAsked}
use Rattle.order_laws.specs.PermittedPicks.{ClosedIn}
use Rattle.order_laws.specs.EveryRun.{CleanRun, CleanRunSpeaks, IsQuiet, CleanRunQuiet}
use Rattle.order_laws.proofs.ProgramLaws.{orders_tell, stays_fit}
use Rattle.order_laws.proofs.Traces.{none_begun}
use Rattle.order_laws.proofs.OpenFrames.{newer_of, RootedAt, AllRooted, HeldOk}
use Rattle.order_laws.proofs.QuietTraces.{Endless, no_race, no_quarrel}
use Rattle.order_laws.proofs.Follows.{Reach, Alike, follow}

-- the first state of a run
pub record Started (world : World) (vs : List Value) (st : State) : Type 0 where
  pub begun : st.top.begun ≡ None
  pub path : st.top.scene.path ≡ []
  pub held : st.held ≡ []
  pub trace : st.trace ≡ []
  pub deep : depth_of st.top st.held ≤ world.limits.depth
  pub passed : limit_passed world.limits (depth_of st.top st.held) st.store ≡ None

within_was : (o : Option (Cause × ℕ)) (r : Outcome) (st : State) → within o r ≡ Running st → (o ≡ None) × (r ≡ Running st)
within_was None r st h = (refl, h)
within_was (Some c) r st h = absurd (cc)

running_is : (a b : State) → Running a ≡ Running b → a ≡ b
running_is a b e = cc

module _ (world : World) where
  deep_of : (d : ℕ) (s : Store) → limit_passed world.limits d s ≡ None → d ≤ world.limits.depth
  deep_of d s h = go (nat_lt world.limits.depth d) _ refl h
    where
      go : (b : Bool) (r : Option (Cause × ℕ)) → nat_lt world.limits.depth d ≡ b → if◌then◌else◌ {A = Option (Cause × ℕ)} b (Some (Depth, d)) r ≡ None
          → d ≤ world.limits.depth
      go false r e h = grind (arith, nat_tests, e)
      go true r e h = absurd (cc)

  started_at : (vs : List Value) (a : Act Value) (st : State) → started_run world a vs ≡ Running st → Started world vs st
  started_at vs (Done v is s) st h =
      let st0 : State = record { top = main_frame world vs; held = []; store = s; trace = [] } in
      let w = within_was (limit_passed world.limits (depth_of st0.top st0.held) s) (Running st0) st h in
      subst (Started world vs) (running_is st0 st w.1) (record {
        begun = refl;
        path = refl;
        held = refl;
        trace = refl;
        deep = deep_of
            (depth_of st0.top st0.held) s w.0;
        passed = w.0;
      })
  started_at vs (Raised c) st h = absurd (cc)
  started_at vs (Ended n is s) st h = absurd (cc)
  started_at vs (Outside c n) st h = absurd (cc)
  started_at vs Unplaced st h = absurd (cc)

  pub started_as : (input : List ℕ) (vs : List Value) (st : State) → start world input vs ≡ Running st → Started world vs st
  started_as input vs st h =
      started_at vs (run world.rows (stand world world.program.standing) (nothing_stands world input)) st
      (within_was _ (started_run world (run world.rows (stand world world.program.standing) (nothing_stands world input)) vs) st h).1

has_some : (trace : List Entry) (e : Entry) (v : Place) → Has trace e v → trace ≡ [] → ⊥
has_some _ _ v (first _ es _ p) q = cc (q)
has_some _ e v (later d _ es _ h) q = cc (q)

both_some : (trace : List Entry) (d : Entry) (u : Place) (e : Entry) (v : Place) → Both trace d u e v → trace ≡ [] → ⊥
both_some trace d u e v b q = has_some trace d u (newer_of trace d u e v b) q

none_traced : (o : Outcome) → (trace_of o ≡ []) ⊎ (o ≢ Refused)
none_traced Refused = inl refl
none_traced (Raises c t) = inr (λ h. cc)
none_traced (Over c n) = inr (λ h. cc)
none_traced No_row = inr (λ h. cc)
none_traced (Ends n out t) = inr (λ h. cc)
none_traced (Running st) = inr (λ h. cc)

module _ (world : World) (asked : LibraryAsked world) (small : world.limits.created < 2 ^ 62) (input : List ℕ) (vs : List Value) (status : ℕ)
    (output : Outputs) (picks : ℕ)
    (c : CleanRun world input vs status output picks) where
  abbrev st : State
  st = c.first

  abbrev depth : ℕ
  depth = depth_of st.top st.held

  first_reach : Started world vs st → Reach world small (st.top, depth) st.store picks c.result c.last st []
  first_reach sd = record {
    es = [];
    hs = [];
    order = here (going (st.top, depth) [] [] st.store);
    deep = sd.deep;
    closed = subst (ClosedIn world st.top) (sym sd.begun) tt;
    ok = record {
      covers = λ e v h. absurd (has_some st.trace e v h sd.trace);
      pairs = λ d e u v b. absurd (both_some st.trace d u e v b sd.trace);
      old = λ e v h. absurd (has_some st.trace e v h sd.trace);
    };
    done = tt;
    seen = λ v d. absurd (none_begun st.top.begun sd.begun v d);
    stood = tt;
    held = subst (λ z. HeldOk world st.trace z [] st.top.scene.path) (sym sd.held) sd.path;
    root = subst (RootedAt world st.trace) (sym sd.path) tt;
    rooted = subst (λ z. AllRooted world st.trace z) (sym sd.trace) tt;
    free = λ d e u v b. absurd (both_some st.trace d u e v b sd.trace);
    endless = subst Endless (sym sd.trace) tt;
  }

  follows : (ps : List Pick) (o : Outcome) → After world st ps o → o ≢ Refused → Alike world small (st.top, depth) st.store picks c.result c.last
      (orders_tell world asked (st.top, depth) st.store picks c.result c.last c.runs)
      (stays_fit world small asked (st.top, depth) st.store picks c.result c.last c.runs
      (record { created_at_most = c.created; output_at_most = c.printed })) status output (length {A = Pick} [] + length ps) o
  follows ps o af ne =
      follow world small (st.top, depth) st.store picks c.result c.last
      (orders_tell world asked (st.top, depth) st.store picks c.result c.last c.runs)
      (stays_fit world small asked (st.top, depth) st.store picks c.result c.last c.runs
      (record { created_at_most = c.created; output_at_most = c.printed })) status output c.ends
      st [] (first_reach (started_as world input vs st c.starts)) ps o af ne

  -- of each order from the start
  record Good (n : ℕ) (o : Outcome) : Type 0 where
    goes_well : GoesWell world status output o
    bounded : n ≤ picks
    quiet : IsQuiet world (trace_of o)

  every : (ps : List Pick) (o : Outcome) → ComesTo world input vs ps o → o ≢ Refused → Good (length ps) o
  every _ _ (starts st2 ps o h af) ne =
      let same = running_is st2 st (sym h ∙ c.starts) in
      let a = follows ps o (subst (λ z. After world z ps o) same af) ne in
      record {
        goes_well = a.goes_well;
        bounded = (let b = a.bounded in omega (arith, b));
        quiet = record { no_race = no_race world (trace_of o) a.free; no_quarrel = no_quarrel world (trace_of o) a.free; no_end_quarrel = a.ends_apart };
      }
  every _ _ (stops o h nr) ne = absurd (true≢false (sym (ap is_running (sym h ∙ c.starts)) ∙ nr))
  every _ _ (refuses p ps nr) ne = absurd (ne refl)

  -- one that is refused has no trace
  untraced : (trace : List Entry) → trace ≡ [] → IsQuiet world trace
  untraced trace t = record {
    no_race = λ d e u v r. both_some trace d u e v r.both t;
    no_quarrel = λ d e u v q. both_some trace d u e v q.both t;
    no_end_quarrel = λ d u v q. has_some trace d u q.here t;
  }

  traced : (ps : List Pick) (o : Outcome) → ComesTo world input vs ps o → IsQuiet world (trace_of o)
  traced ps o h = elim (none_traced o) [
    | inl t ↦ untraced (trace_of o) t
    | inr ne ↦ (every ps o h ne).quiet
  ]

  never : (ps : List Pick) (o : Outcome) (cl : Clause) → ComesTo world input vs ps o → Meets world o cl → ⊥
  never ps _ _ h (raised cl trace) = (every ps (Raises cl trace) h (λ e. cc)).goes_well
  never ps o _ h (raced _ d e u v race) = (traced ps o h).no_race d e u v race

pub clean_run_speaks : CleanRunSpeaks
clean_run_speaks world input vs status output picks asked small c = record {
  alike = λ ps o h ne. (every world asked small input vs status output picks c ps o h ne).goes_well;
  bounded = λ ps o h ne. (every world asked small input vs status output picks c ps o h ne).bounded;
  defined = λ ps o cl h m. never world asked small input vs status output picks c ps o cl h m;
}

pub clean_run_quiet : CleanRunQuiet
clean_run_quiet world input vs status output picks asked small c = traced world asked small input vs status output picks c
