-- What the definitions' step leaves: one entry more, and the path of the frame that goes on.
use Rattle.std.proofs.Common.{◌≡◌, ℕ, refl, sym, ap, ◌∙◌, List, [], ◌∷◌, ◌⊎◌, inl, inr, Option, Some, None}
use Rattle.ub_base.specs.declared.clause.Clause.{Clause}
use Rattle.ub_base.specs.declared.clause.Cause.{Cause}
use Rattle.ub_base.specs.declared.names.Item.{Item}
use Rattle.ub_base.specs.Frames.{Path}
use Rattle.c_typed.specs.declared.tree.Place.{Place}
use Rattle.mem_spec.specs.Script.{Act, Done, Ended, Outside, Raised, Unplaced, run}
use Rattle.mem_spec.specs.Store.{Store}
use Rattle.mem_spec.specs.Streams.{Outputs}
use Rattle.c_model.specs.Control.{
  Again,
  Begin,
  Break_here,
  Enter,
  Go_back,
  Go_on,
  Go_out,
  Go_to,
  Leave,
  Nothing_to_do,
  Rest,
  Round,
  Test,
  To_do,
  Todo,
  Unwrite,
  ready_work,
}
use Rattle.c_model.specs.Moves.{End, Move, Start, Stay}
use Rattle.c_model.specs.Runs.{
  Ends,
  Entry,
  No_row,
  Outcome,
  Over,
  Raises,
  Refused,
  Running,
  State,
  acted,
  back,
  depth_of,
  enter_passes,
  entry_of,
  limit_passed,
  limited,
  moved,
  step,
  within,
}
use Rattle.c_model.specs.Steps.{Begun, Control, Ev, Local, Pick, control_next, does, move, next}
use Rattle.c_model.specs.Values.{Value}
use Rattle.c_model.specs.World.{World}

-- ---- outcomes
abbrev state_in : Outcome → State → State
state_in (Running st) other = st
state_in o other = other

pub same_state : (a b : State) → Running a ≡ Running b → a ≡ b
same_state a b q = ap (λ o. state_in o a) q

abbrev trace_in : Outcome → List Entry → List Entry
trace_in (Ends n out trace) other = trace
trace_in (Raises c trace) other = trace
trace_in o other = other

pub through_running : (x : Option (Cause × ℕ)) (o : Outcome) (st : State) → within x o ≡ Running st → o ≡ Running st
through_running None o st q = q
through_running (Some c) o st q = absurd (cc (q))

through_ends : (x : Option (Cause × ℕ)) (o : Outcome) (n : ℕ) (out : Outputs) (trace : List Entry) → within x o ≡ Ends n out trace → o ≡ Ends n out trace
through_ends None o n out trace q = q
through_ends (Some c) o n out trace q = absurd (cc (q))

through_raises : (x : Option (Cause × ℕ)) (o : Outcome) (c : Clause) (trace : List Entry) → within x o ≡ Raises c trace → o ≡ Raises c trace
through_raises None o c trace q = q
through_raises (Some k) o c trace q = absurd (cc (q))

-- ---- behind a control step the frame goes on, or the one below it
abbrev pub GoesIn : State → List (Local × Place) → Path → Type 0
GoesIn st [] path = path ≡ st.top.scene.path
GoesIn st (h ∷ hs) path = (path ≡ st.top.scene.path) ⊎ (path ≡ h.0.scene.path)

module _ (world : World) where
  pub limited_running : (o : Outcome) (st : State) → limited world.limits o ≡ Running st → o ≡ Running st
  limited_running Refused st q = absurd (cc (q))
  limited_running (Raises c trace) st q = absurd (cc (q))
  limited_running (Over c n) st q = absurd (cc (q))
  limited_running No_row st q = absurd (cc (q))
  limited_running (Ends n out trace) st q = absurd (cc (q))
  limited_running (Running s) st q = through_running (limit_passed world.limits (depth_of s.top s.held) s.store) (Running s) st q

  limited_ends : (o : Outcome) (n : ℕ) (out : Outputs) (trace : List Entry) → limited world.limits o ≡ Ends n out trace → o ≡ Ends n out trace
  limited_ends Refused n out trace q = absurd (cc (q))
  limited_ends (Raises c t) n out trace q = absurd (cc (q))
  limited_ends (Over c k) n out trace q = absurd (cc (q))
  limited_ends No_row n out trace q = absurd (cc (q))
  limited_ends (Ends k o t) n out trace q = q
  limited_ends (Running s) n out trace q =
      absurd (cc (through_ends (limit_passed world.limits (depth_of s.top s.held) s.store) (Running s) n out trace q))

  limited_raises : (o : Outcome) (c : Clause) (trace : List Entry) → limited world.limits o ≡ Raises c trace → o ≡ Raises c trace
  limited_raises Refused c trace q = absurd (cc (q))
  limited_raises (Raises d t) c trace q = q
  limited_raises (Over d k) c trace q = absurd (cc (q))
  limited_raises No_row c trace q = absurd (cc (q))
  limited_raises (Ends k o t) c trace q = absurd (cc (q))
  limited_raises (Running s) c trace q =
      absurd (cc (through_raises (limit_passed world.limits (depth_of s.top s.held) s.store) (Running s) c trace q))

  -- ---- a frame that goes on keeps its path
  control_path : (f : Local) (todo : Todo) → (control_next world f todo).scene.path ≡ f.scene.path
  control_path f [] = refl
  control_path f (Enter b ds ∷ rest) = refl
  control_path f (Leave b ds ∷ rest) = refl
  control_path f (Unwrite d ∷ rest) = refl
  control_path f (Begin e what ∷ rest) = refl
  control_path f (Nothing_to_do ∷ rest) = refl
  control_path f (Go_to k ∷ rest) = refl
  control_path f (Go_out ∷ rest) = refl
  control_path f (Go_on ∷ rest) = refl
  control_path f (Go_back ∷ rest) = refl
  control_path f (To_do s ∷ rest) = refl
  control_path f (Rest ss ∷ rest) = refl
  control_path f (Round test step s ∷ rest) = refl
  control_path f (Again e s ∷ rest) = refl
  control_path f (Test test step s ∷ rest) = refl
  control_path f (Break_here ∷ rest) = refl

  next_path : (f : Local) (e : Option Begun) (p : Pick) (v : Value) → (next world f e p v).scene.path ≡ f.scene.path
  next_path f None Control v = control_path f (ready_work f.todo)
  next_path f None (Ev u) v = refl
  next_path f (Some e) Control v = refl
  next_path f (Some e) (Ev u) v = refl

  stays_in : (st : State) (held : List (Local × Place)) (path : Path) → path ≡ st.top.scene.path → GoesIn st held path
  stays_in st [] path q = q
  stays_in st (h ∷ hs) path q = inl q

  abbrev Goes : State → List Entry → State → Type 0
  Goes st trace after = (after.trace ≡ trace) × GoesIn st st.held after.top.scene.path

  back_goes : (st : State) (held : List (Local × Place)) (v : Value) (s : Store) (trace : List Entry) (after : State)
      → back world held v s trace ≡ Running after
      → (after.trace ≡ trace) × GoesIn st held after.top.scene.path
  back_goes st [] v s trace after q = absurd (cc (q))
  back_goes st (h ∷ hs) v s trace after q =
      let is = same_state _ after q in
      (sym (ap (λ (z : State). z.trace) is), inr (ap (λ (z : State). z.top.scene.path) (sym is) ∙ next_path h.0 h.0.begun (Ev h.1) v))

  moved_goes : (st : State) (m : Move Local) (v : Value) (s : Store) (trace : List Entry) (after : State) → moved world st Control m v s trace ≡ Running after
      → Goes st trace after
  moved_goes st Stay v s trace after q =
      let is = same_state _ after q in (
        sym (ap (λ (z : State). z.trace) is),
        stays_in st st.held after.top.scene.path (ap (λ (z : State). z.top.scene.path) (sym is) ∙ next_path st.top st.top.begun Control v),
      )
  moved_goes st (Start g) v s trace after q = absurd (cc (q))
  moved_goes st End v s trace after q = back_goes st st.held v s trace after q

  acted_goes : (st : State) (a : Act Value) (after : State) → acted world st Control a ≡ Running after
      → (is : List Item) × Goes st (entry_of world st.top Control is ∷ st.trace) after
  acted_goes st (Done v is s) after q = (
    is,
    moved_goes st (move world st.top st.top.begun Control) v s (entry_of world st.top Control is ∷ st.trace) after
        (limited_running (moved world st Control (move world st.top st.top.begun Control) v s (entry_of world st.top Control is ∷ st.trace)) after q),
  )
  acted_goes st (Raised c) after q = absurd (cc (q))
  acted_goes st (Ended n is s) after q = absurd (cc (q))
  acted_goes st (Outside c n) after q = absurd (cc (q))
  acted_goes st Unplaced after q = absurd (cc (through_running _ No_row after q))

  pub control_goes : (st after : State) → step world st Control ≡ Running after
      → (is : List Item) × Goes st (entry_of world st.top Control is ∷ st.trace) after
  control_goes st after q =
      acted_goes st (run world.rows (does world st.top st.top.begun Control) st.store) after (through_running (enter_passes world.limits st Control) _ after q)

  -- ---- an end and a clause that is raised have one entry more
  back_ends : (held : List (Local × Place)) (v : Value) (s : Store) (t : List Entry) (n : ℕ) (out : Outputs) (trace : List Entry)
      → back world held v s t ≡ Ends n out trace → trace ≡ t
  back_ends [] v s t n out trace q = sym (ap (λ o. trace_in o t) q)
  back_ends (h ∷ hs) v s t n out trace q = absurd (cc (q))

  moved_ends : (st : State) (p : Pick) (m : Move Local) (v : Value) (s : Store) (t : List Entry) (n : ℕ) (out : Outputs) (trace : List Entry)
      → moved world st p m v s t ≡ Ends n out trace → trace ≡ t
  moved_ends st Control Stay v s t n out trace q = absurd (cc (q))
  moved_ends st (Ev u) Stay v s t n out trace q = absurd (cc (q))
  moved_ends st Control (Start g) v s t n out trace q = absurd (cc (q))
  moved_ends st (Ev u) (Start g) v s t n out trace q = absurd (cc (q))
  moved_ends st Control End v s t n out trace q = back_ends st.held v s t n out trace q
  moved_ends st (Ev u) End v s t n out trace q = back_ends st.held v s t n out trace q

  acted_ends : (st : State) (p : Pick) (a : Act Value) (n : ℕ) (out : Outputs) (trace : List Entry) → acted world st p a ≡ Ends n out trace
      → (is : List Item) × (trace ≡ entry_of world st.top p is ∷ st.trace)
  acted_ends st p (Done v is s) n out trace q = (
    is,
    moved_ends st p (move world st.top st.top.begun p) v s (entry_of world st.top p is ∷ st.trace) n out trace
        (limited_ends (moved world st p (move world st.top st.top.begun p) v s (entry_of world st.top p is ∷ st.trace)) n out trace q),
  )
  acted_ends st p (Raised c) n out trace q = absurd (cc (q))
  acted_ends st p (Ended k is s) n out trace q = (is, sym (ap (λ o. trace_in o trace) q))
  acted_ends st p (Outside c k) n out trace q = absurd (cc (q))
  acted_ends st p Unplaced n out trace q = absurd (cc (through_ends _ No_row n out trace q))

  pub step_ends : (st : State) (p : Pick) (n : ℕ) (out : Outputs) (trace : List Entry) → step world st p ≡ Ends n out trace
      → (is : List Item) × (trace ≡ entry_of world st.top p is ∷ st.trace)
  step_ends st p n out trace q =
      acted_ends st p (run world.rows (does world st.top st.top.begun p) st.store) n out trace (through_ends (enter_passes world.limits st p) _ n out trace q)

  back_raises : (held : List (Local × Place)) (v : Value) (s : Store) (t : List Entry) (c : Clause) (trace : List Entry)
      → back world held v s t ≡ Raises c trace
      → ⊥
  back_raises [] v s t c trace q = cc (q)
  back_raises (h ∷ hs) v s t c trace q = cc (q)

  moved_raises : (st : State) (p : Pick) (m : Move Local) (v : Value) (s : Store) (t : List Entry) (c : Clause) (trace : List Entry)
      → moved world st p m v s t ≡ Raises c trace → ⊥
  moved_raises st Control Stay v s t c trace q = cc (q)
  moved_raises st (Ev u) Stay v s t c trace q = cc (q)
  moved_raises st Control (Start g) v s t c trace q = cc (q)
  moved_raises st (Ev u) (Start g) v s t c trace q = cc (q)
  moved_raises st Control End v s t c trace q = back_raises st.held v s t c trace q
  moved_raises st (Ev u) End v s t c trace q = back_raises st.held v s t c trace q

  acted_raises : (st : State) (p : Pick) (a : Act Value) (c : Clause) (trace : List Entry) → acted world st p a ≡ Raises c trace
      → trace ≡ entry_of world st.top p [] ∷ st.trace
  acted_raises st p (Done v is s) c trace q =
      absurd (moved_raises st p (move world st.top st.top.begun p) v s (entry_of world st.top p is ∷ st.trace) c trace
      (limited_raises (moved world st p (move world st.top st.top.begun p) v s (entry_of world st.top p is ∷ st.trace)) c trace q))
  acted_raises st p (Raised d) c trace q = sym (ap (λ o. trace_in o trace) q)
  acted_raises st p (Ended k is s) c trace q = absurd (cc (q))
  acted_raises st p (Outside d k) c trace q = absurd (cc (q))
  acted_raises st p Unplaced c trace q = absurd (cc (through_raises _ No_row c trace q))

  pub step_raises : (st : State) (p : Pick) (c : Clause) (trace : List Entry) → step world st p ≡ Raises c trace
      → trace ≡ entry_of world st.top p [] ∷ st.trace
  step_raises st p c trace q =
      acted_raises st p (run world.rows (does world st.top st.top.begun p) st.store) c trace (through_raises (enter_passes world.limits st p) _ c trace q)

  -- ---- and so has the state of a run that goes on
  back_trace : (held : List (Local × Place)) (v : Value) (s : Store) (t : List Entry) (after : State) → back world held v s t ≡ Running after → after.trace ≡ t
  back_trace [] v s t after q = absurd (cc (q))
  back_trace (h ∷ hs) v s t after q = sym (ap (λ (z : State). z.trace) (same_state _ after q))

  moved_trace : (st : State) (p : Pick) (m : Move Local) (v : Value) (s : Store) (t : List Entry) (after : State) → moved world st p m v s t ≡ Running after
      → after.trace ≡ t
  moved_trace st Control Stay v s t after q = sym (ap (λ (z : State). z.trace) (same_state _ after q))
  moved_trace st (Ev u) Stay v s t after q = sym (ap (λ (z : State). z.trace) (same_state _ after q))
  moved_trace st Control (Start g) v s t after q = absurd (cc (q))
  moved_trace st (Ev u) (Start g) v s t after q = sym (ap (λ (z : State). z.trace) (same_state _ after q))
  moved_trace st Control End v s t after q = back_trace st.held v s t after q
  moved_trace st (Ev u) End v s t after q = back_trace st.held v s t after q

  acted_trace : (st : State) (p : Pick) (a : Act Value) (after : State) → acted world st p a ≡ Running after
      → (is : List Item) × (after.trace ≡ entry_of world st.top p is ∷ st.trace)
  acted_trace st p (Done v is s) after q = (
    is,
    moved_trace st p (move world st.top st.top.begun p) v s (entry_of world st.top p is ∷ st.trace) after
        (limited_running (moved world st p (move world st.top st.top.begun p) v s (entry_of world st.top p is ∷ st.trace)) after q),
  )
  acted_trace st p (Raised c) after q = absurd (cc (q))
  acted_trace st p (Ended n is s) after q = absurd (cc (q))
  acted_trace st p (Outside c n) after q = absurd (cc (q))
  acted_trace st p Unplaced after q = absurd (cc (through_running _ No_row after q))

  pub step_trace : (st : State) (p : Pick) (after : State) → step world st p ≡ Running after
      → (is : List Item) × (after.trace ≡ entry_of world st.top p is ∷ st.trace)
  step_trace st p after q =
      acted_trace st p (run world.rows (does world st.top st.top.begun p) st.store) after (through_running (enter_passes world.limits st p) _ after q)
