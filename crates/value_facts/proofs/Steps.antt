-- What a pick that goes on did, and what picks keep, orders keep.
use Rattle.std.proofs.Common.{◌≡◌, ℕ, zero, suc, List, [], ◌∷◌, Option, Some, None, refl, ap, subst}
use Rattle.ub_base.specs.declared.clause.Cause.{Cause}
use Rattle.ub_base.specs.declared.names.Item.{Item}
use Rattle.c_typed.specs.declared.tree.Place.{Place}
use Rattle.mem_spec.specs.Script.{Act, Done, Raised, Ended, Outside, Unplaced, run}
use Rattle.mem_spec.specs.Store.{Store}
use Rattle.c_model.specs.Moves.{Move, Stay, Start, End}
use Rattle.c_model.specs.Runs.{After, Ends, Entry, No_row, Outcome, Over, Raises, Refused, Running, State, acted, back, canonical_after, canonical_pick}
use Rattle.c_model.specs.Runs.{depth_of, enter_passes, entry_of, here, last, limit_passed, limited, main_frame, more, moved, on_running, refused, stand}
use Rattle.c_model.specs.Runs.{nothing_stands, start, started_run, step, too_late, within}
use Rattle.c_model.specs.Steps.{Control, Ev, Local, Pick, does, move, next}
use Rattle.c_model.specs.Values.{Value}
use Rattle.c_model.specs.World.{World}
use Rattle.value_facts.specs.Limits.{PassesNoLimit}

-- ---- outcomes that run
abbrev state_in : Outcome → State → State
state_in (Running st) other = st
state_in o other = other

pub same_state : (a b : State) → Running a ≡ Running b → a ≡ b
same_state a b q = ap (λ o. state_in o a) q

through_within : (x : Option (Cause × ℕ)) (o : Outcome) (st : State) → within x o ≡ Running st → (x ≡ None) × (o ≡ Running st)
through_within None o st q = (refl, q)
through_within (Some c) o st q = absurd (cc (q))

-- an outcome within the limits that runs
through_limited : (world : World) (o : Outcome) (st : State) → limited world.limits o ≡ Running st → (o ≡ Running st) × PassesNoLimit world st
through_limited world Refused st q = absurd (cc (q))
through_limited world (Raises c trace) st q = absurd (cc (q))
through_limited world (Over c n) st q = absurd (cc (q))
through_limited world No_row st q = absurd (cc (q))
through_limited world (Ends n out trace) st q = absurd (cc (q))
through_limited world (Running s) st q =
    let r = through_within (limit_passed world.limits (depth_of s.top s.held) s.store) (Running s) st q in
    (r.1, subst (PassesNoLimit world) (same_state s st r.1) r.0)

-- ---- what a pick that goes on did
pub record HasGone (world : World) (st : State) (p : Pick) (after : State) : Type 0 where
  pub value : Value
  pub items : List Item
  pub store : Store
  pub ran : run world.rows (does world st.top st.top.begun p) st.store ≡ Done value items store
  pub moved_to : moved world st p (move world st.top st.top.begun p) value store (entry_of world st.top p items ∷ st.trace) ≡ Running after
  pub limits : PassesNoLimit world after

module _ (world : World) (st : State) (p : Pick) (after : State) where
  acted_gone : (a : Act Value) → run world.rows (does world st.top st.top.begun p) st.store ≡ a → acted world st p a ≡ Running after
      → HasGone world st p after
  acted_gone (Done v is s) e q =
      let r = through_limited world (moved world st p (move world st.top st.top.begun p) v s (entry_of world st.top p is ∷ st.trace)) after q in
      record { value = v; items = is; store = s; ran = e; moved_to = r.0; limits = r.1 }
  acted_gone (Raised c) e q = absurd (cc (q))
  acted_gone (Ended n is s) e q = absurd (cc (q))
  acted_gone (Outside c n) e q = absurd (cc (q))
  acted_gone Unplaced e q = absurd (no_row (through_within _ No_row after q).1)
    where
      no_row : No_row ≡ Running after → ⊥
      no_row q = cc (q)

  pub has_gone : step world st p ≡ Running after → HasGone world st p after
  has_gone q =
      acted_gone (run world.rows (does world st.top st.top.begun p) st.store) refl
      (through_within (enter_passes world.limits st p) (acted world st p (run world.rows (does world st.top st.top.begun p) st.store)) after q).1

-- ---- by what the pick did to the frames
module _ (world : World) (st : State) (v : Value) (s : Store) (trace : List Entry) (P : State → Type 0) where
  back_keeps : (hs : List (Local × Place))
      → ((h : Local × Place) (rest : List (Local × Place)) → hs ≡ h ∷ rest
      → P (record { top = next world h.0 h.0.begun (Ev h.1) v; held = rest; store = s; trace = trace }))
      → (after : State) → back world hs v s trace ≡ Running after → P after
  back_keeps [] f after q = absurd (cc (q))
  back_keeps (h ∷ hs) f after q = subst P (same_state _ after q) (f h hs refl)

  pub moved_keeps : (p : Pick) (m : Move Local)
      → (m ≡ Stay → P (record { top = next world st.top st.top.begun p v; held = st.held; store = s; trace = trace }))
      → ((u : Place) (g : Local) → p ≡ Ev u → m ≡ Start g → P (record { top = g; held = (st.top, u) ∷ st.held; store = s; trace = trace }))
      → (m ≡ End → (h : Local × Place) (rest : List (Local × Place)) → st.held ≡ h ∷ rest
      → P (record { top = next world h.0 h.0.begun (Ev h.1) v; held = rest; store = s; trace = trace }))
      → (after : State) → moved world st p m v s trace ≡ Running after → P after
  moved_keeps Control Stay stays starts ends after q = subst P (same_state _ after q) (stays refl)
  moved_keeps (Ev u) Stay stays starts ends after q = subst P (same_state _ after q) (stays refl)
  moved_keeps (Ev u) (Start g) stays starts ends after q = subst P (same_state _ after q) (starts u g refl refl)
  moved_keeps Control (Start g) stays starts ends after q = absurd (cc (q))
  moved_keeps Control End stays starts ends after q = back_keeps st.held (ends refl) after q
  moved_keeps (Ev u) End stays starts ends after q = back_keeps st.held (ends refl) after q

-- ---- the start of a run
pub record HasStarted (world : World) (input : List ℕ) (vs : List Value) (st : State) : Type 0 where
  pub value : Value
  pub items : List Item
  pub store : Store
  pub ran : run world.rows (stand world world.program.standing) (nothing_stands world input) ≡ Done value items store
  pub state : record { top = main_frame world vs; held = []; store = store; trace = [] } ≡ st
  pub limits : PassesNoLimit world st

module _ (world : World) (input : List ℕ) (vs : List Value) (st : State) where
  run_started : (a : Act Value) → run world.rows (stand world world.program.standing) (nothing_stands world input) ≡ a
      → started_run world a vs ≡ Running st → HasStarted world input vs st
  run_started (Done v is s) e q =
      let r = through_limited world (Running (record { top = main_frame world vs; held = []; store = s; trace = [] })) st q in
      record { value = v; items = is; store = s; ran = e; state = same_state _ st r.0; limits = r.1 }
  run_started (Raised c) e q = absurd (cc (q))
  run_started (Ended n is s) e q = absurd (cc (q))
  run_started (Outside c n) e q = absurd (cc (q))
  run_started Unplaced e q = absurd (cc (q))

  pub has_started : start world input vs ≡ Running st → HasStarted world input vs st
  has_started q =
      let script = stand world world.program.standing in
      run_started (run world.rows script (nothing_stands world input)) refl
      (through_within _ (started_run world (run world.rows script (nothing_stands world input)) vs) st q).1

-- ---- what each pick keeps, orders of picks keep
module _ (world : World) (P : State → Type 0) (keeps : (st after : State) (p : Pick) → P st → step world st p ≡ Running after → P after) where
  by_order : (st : State) (ps : List Pick) (o : Outcome) → After world st ps o → P st → (after : State) → o ≡ Running after → P after
  by_order _ _ _ (here st) a after q = subst P (same_state st after q) a
  by_order _ _ _ (refused st p ps m) a after q = absurd (cc (q))
  by_order _ _ _ (last st p m) a after q = keeps st after p a q
  by_order _ _ _ (more st between p r ps o m e later) a after q = by_order between (r ∷ ps) o later (keeps st between p a e) after q
  by_order _ _ _ (too_late st p r ps m e) a after q = absurd (cc (q))

  pub orders_keep : (st after : State) (ps : List Pick) → P st → After world st ps (Running after) → P after
  orders_keep st after ps a order = by_order st ps (Running after) order a after refl

  pub canonical_keeps : (n : ℕ) (st after : State) → P st → canonical_after world n st ≡ Running after → P after
  canonical_keeps zero st after a q = subst P (same_state st after q) a
  canonical_keeps (suc n) st after a q =
      stepped (step world st (canonical_pick world st.top st.top.begun)) (λ between e. keeps st between _ a e)
      (λ between. canonical_keeps n between after) q
    where
      stepped : (o : Outcome) → ((between : State) → o ≡ Running between → P between)
          → ((between : State) → P between → canonical_after world n between ≡ Running after → P after)
          → on_running o (canonical_after world n) ≡ Running after → P after
      stepped (Running between) f g q = g between (f between refl) q
      stepped Refused f g q = absurd (cc (q))
      stepped (Raises c trace) f g q = absurd (cc (q))
      stepped (Over c k) f g q = absurd (cc (q))
      stepped No_row f g q = absurd (cc (q))
      stepped (Ends status out trace) f g q = absurd (cc (q))
