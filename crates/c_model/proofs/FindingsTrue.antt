-- The canonical order is permitted from the start on, so what is found first along it is true.
use Rattle.std.proofs.Common.{
  ◌≡◌,
  ℕ,
  zero,
  suc,
  ◌+◌,
  Bool,
  true,
  false,
  if◌then◌else◌,
  true≢false,
  List,
  [],
  ◌∷◌,
  length,
  Option,
  Some,
  None,
  refl,
  sym,
  ap,
  ◌∙◌,
  subst,
  arith,
}
use Rattle.ub_base.specs.declared.clause.Clause.{Clause}
use Rattle.ub_base.specs.declared.clause.Cause.{Cause}
use Rattle.ub_base.specs.Frames.{Path}
use Rattle.c_typed.specs.declared.tree.Place.{Place}
use Rattle.c_typed.specs.Order.{is_body}
use Rattle.c_typed.specs.Decide.{canonical}
use Rattle.mem_spec.specs.Store.{Store}
use Rattle.mem_spec.specs.Script.{Act, Done, Raised, Ended, Outside, Unplaced}
use Rattle.mem_spec.specs.Streams.{Outputs}
use Rattle.c_model.specs.Program.{Head, Call, Isolated, Expr, expr, tree_of, Stmt, Function}
use Rattle.c_model.specs.Values.{Value, later_values}
use Rattle.c_model.specs.World.{World, Limits}
use Rattle.c_model.specs.Control.{
  Todo,
  Enter,
  Leave,
  Unwrite,
  Begin,
  Nothing_to_do,
  Go_to,
  Go_out,
  Go_on,
  Go_back,
  To_do,
  Rest,
  Round,
  Again,
  Test,
  Break_here,
  ready_work,
}
use Rattle.c_model.specs.Moves.{Move, Stay, Start, End}
use Rattle.c_model.specs.Steps.{
  Scene,
  Local,
  Begun,
  Pick,
  Control,
  Ev,
  MayPick,
  taken_by,
  is_done,
  at_node,
  called_by,
  own_body,
  body_frame,
  start_call,
  started,
  move_of,
  move,
  next,
  control_next,
  control_move,
}
use Rattle.c_model.specs.Runs.{
  Entry,
  State,
  Outcome,
  Refused,
  Raises,
  Over,
  No_row,
  Ends,
  Running,
  within,
  limited,
  acted,
  moved,
  back,
  step,
  start,
  started_run,
  main_frame,
  After,
  here,
  last,
  more,
  chosen_pick,
  canonical_pick,
}
use Rattle.c_model.specs.FirstFinding.{
  Pair,
  Finding,
  Clean,
  Undefined,
  Raced,
  Order_dependent,
  Out_of_steps,
  Not_placed,
  raced_or,
  quarrel_or,
  shown_at,
  found_from,
  found_after,
  first_finding,
}
use Rattle.c_model.specs.FirstFinding as finding
use Rattle.c_model.specs.Claims.{ComesTo, starts, canonical_picks, RaisesAt, RunsOn, PassesLimit, at_start, at_pick}
use Rattle.c_model.specs.ChoiceLaws.{IsNext, IsClosed}
use Rattle.c_model.specs.FindingLaws.{GoesOrEnds, PairMet}
use Rattle.c_model.proofs.Halves.{closed_at}
use Rattle.c_model.proofs.GoesOn as goes

module _ (world : World) where
  -- all that is done in the open expression was reached
  abbrev Ok : Scene → Option Begun → Type 0
  Ok sc None = Unit {0}
  Ok sc (Some e) = IsClosed world sc e

  -- and in a frame below the body that waits may come next
  abbrev Waits : Scene → Option Begun → Place → Type 0
  Waits sc None u = Unit {0}
  Waits sc (Some e) u = IsClosed world sc e × IsNext world sc e u

  abbrev AllWait : List (Local × Place) → Type 0
  AllWait [] = Unit {0}
  AllWait (h ∷ hs) = Waits h.0.scene h.0.begun h.1 × AllWait hs

  record Good (st : State) (n : ℕ) : Type 0 where
    top : Ok st.top.scene st.top.begun
    below : AllWait st.held
    counted : length st.trace ≡ n

  -- how a pick fits the frame
  data Fits (sc : Scene) : Option Begun → Pick → Type 0 where
    waits : Fits sc None Control
    settles : (e : Begun) → Fits sc (Some e) Control
    takes : (e : Begun) (u : Place) → IsNext world sc e u → Fits sc (Some e) (Ev u)

  fits : (f : Local) (o : Option Begun) → Fits f.scene o (canonical_pick world f o)
  fits f None = waits
  fits f (Some e) = go (canonical (tree_of e.root) (taken_by world f.scene e) (is_done e)) refl
    where
      go : (c : Option Place) → canonical (tree_of e.root) (taken_by world f.scene e) (is_done e) ≡ c → Fits f.scene (Some e) (chosen_pick world c)
      go None q = settles e
      go (Some u) q = takes e u (goes.next world f.scene e u (goes.taken_may world f.scene e u q))

  -- the canonical pick is permitted
  may : (f : Local) (o : Option Begun) → Ok f.scene o → MayPick world f o (canonical_pick world f o)
  may f None k = tt
  may f (Some e) k = go (canonical (tree_of e.root) (taken_by world f.scene e) (is_done e)) refl
    where
      go : (c : Option Place) → canonical (tree_of e.root) (taken_by world f.scene e) (is_done e) ≡ c → MayPick world f (Some e) (chosen_pick world c)
      go None q = goes.settled world f.scene e k q
      go (Some u) q = goes.permitted world f.scene e u (goes.taken_may world f.scene e u q)

  none_open : (sc : Scene) (o : Option Begun) → o ≡ None → Ok sc o
  none_open sc o q = subst (λ z. Ok sc z) (sym q) tt

  -- a control step leaves no expression open, or begins one of which nothing is done
  control_ok : (f : Local) (ws : Todo) → f.begun ≡ None → Ok (control_next world f ws).scene (control_next world f ws).begun
  control_ok f [] q = none_open f.scene f.begun q
  control_ok f (Enter b ds ∷ ws) q = none_open _ f.begun q
  control_ok f (Leave b ds ∷ ws) q = none_open _ f.begun q
  control_ok f (Begin e what ∷ ws) q = λ v h. absurd (true≢false (sym h))
  control_ok f (Go_to k ∷ ws) q = none_open f.scene f.begun q
  control_ok f (Go_out ∷ ws) q = none_open f.scene f.begun q
  control_ok f (Go_on ∷ ws) q = none_open f.scene f.begun q
  control_ok f (Go_back ∷ ws) q = none_open f.scene f.begun q
  control_ok f (Unwrite d ∷ ws) q = none_open f.scene f.begun q
  control_ok f (Nothing_to_do ∷ ws) q = none_open f.scene f.begun q
  control_ok f (To_do s ∷ ws) q = none_open f.scene f.begun q
  control_ok f (Rest ss ∷ ws) q = none_open f.scene f.begun q
  control_ok f (Round test step s ∷ ws) q = none_open f.scene f.begun q
  control_ok f (Again e s ∷ ws) q = none_open f.scene f.begun q
  control_ok f (Test test step s ∷ ws) q = none_open f.scene f.begun q
  control_ok f (Break_here ∷ ws) q = none_open f.scene f.begun q

  next_ok : (f : Local) (o : Option Begun) (p : Pick) (v : Value) → f.begun ≡ o → Ok f.scene o → Fits f.scene o p
      → Ok (next world f o p v).scene (next world f o p v).begun
  next_ok f _ _ v q k waits = control_ok f (ready_work f.todo) q
  next_ok f _ _ v q k (settles e) = tt
  next_ok f _ _ v q k (takes e u n) = λ w h. closed_at world f.scene e u v n w (k w) h

  -- a new frame has no expression open
  abbrev Fresh : Move Local → Type 0
  Fresh (Start g) = g.begun ≡ None
  Fresh mv = Unit {0}

  body_fresh : (f : Scene) (k n : ℕ) (vs : List Value) (b : Option Stmt) → Fresh (body_frame world f k n vs b)
  body_fresh f k n vs None = tt
  body_fresh f k n vs (Some s) = refl

  call_fresh : (f : Scene) (k : ℕ) (vs : List Value) (c : Option (ℕ × Function)) → Fresh (start_call world f k vs c)
  call_fresh f k vs None = tt
  call_fresh f k vs (Some c) = body_fresh f k c.0 vs (own_body c.1)

  start_fresh : (f : Scene) (k : ℕ) (h : Head) (vs : List Value) → Fresh (started world f k h vs)
  start_fresh f k (Call d) vs = call_fresh f k (later_values vs) (called_by world vs)
  start_fresh f k (Isolated e) vs = refl
  start_fresh f k _ vs = tt

  if_fresh : (b : Bool) (mv : Move Local) → Fresh mv → Fresh (if b then mv else Stay)
  if_fresh true mv h = h
  if_fresh false mv h = tt

  node_fresh : (f : Scene) (e : Begun) (u : Place) (o : Option Expr) → Fresh (move_of world f e u o)
  node_fresh f e u None = tt
  node_fresh f e u (Some (expr h ty line es)) = if_fresh (is_body u.kind) _ (start_fresh f u.node h _)

  ends_fresh : (b : Bool) → Fresh (if b then End else Stay)
  ends_fresh true = tt
  ends_fresh false = tt

  work_fresh : (ws : Todo) → Fresh (control_move world ws)
  work_fresh [] = tt
  work_fresh (Leave b ds ∷ ws) = ends_fresh _
  work_fresh (_ ∷ ws) = tt

  move_fresh : (f : Local) (o : Option Begun) (p : Pick) → Fresh (move world f o p)
  move_fresh f None Control = work_fresh (ready_work f.todo)
  move_fresh f None (Ev u) = tt
  move_fresh f (Some e) Control = ends_fresh _
  move_fresh f (Some e) (Ev u) = node_fresh f.scene e u (at_node 0 e.root u.node)

  wait_now : (sc : Scene) (o : Option Begun) (u : Place) → Ok sc o → Fits sc o (Ev u) → Waits sc o u
  wait_now sc _ _ k (takes e u n) = (k, n)

  -- the frame below goes on
  back_ok : (h : Local) (o : Option Begun) (u : Place) (v : Value) → h.begun ≡ o → Waits h.scene o u
      → Ok (next world h o (Ev u) v).scene (next world h o (Ev u) v).begun
  back_ok h None u v q w = none_open h.scene h.begun q
  back_ok h (Some e) u v q w = λ x g. closed_at world h.scene e u v w.1 x (w.0 x) g

  abbrev state_in : Outcome → State → State
  state_in (Running st) other = st
  state_in o other = other

  same_state : (a b : State) → Running a ≡ Running b → a ≡ b
  same_state a b q = ap (λ o. state_in o a) q

  back_good : (hs : List (Local × Place)) (v : Value) (s : Store) (trace : List Entry) (n : ℕ) (st : State) → AllWait hs → length trace ≡ n
      → back world hs v s trace ≡ Running st → Good st n
  back_good [] v s trace n st w c q = absurd (cc (q))
  back_good (h ∷ hs) v s trace n st w c q =
      subst (λ z. Good z n) (same_state _ st q) (record { top = back_ok h.0 h.0.begun h.1 v refl w.0; below = w.1; counted = c })

  moved_good : (st : State) (p : Pick) (mv : Move Local) (v : Value) (s : Store) (trace : List Entry) (n : ℕ) (next' : State)
      → Ok st.top.scene st.top.begun → AllWait st.held → Fits st.top.scene st.top.begun p → Fresh mv → length trace ≡ n
      → moved world st p mv v s trace ≡ Running next' → Good next' n
  moved_good st p Stay v s trace n next' k w fit fresh c q =
      subst (λ z. Good z n) (same_state _ next' q) (record { top = next_ok st.top st.top.begun p v refl k fit; below = w; counted = c })
  moved_good st Control (Start g) v s trace n next' k w fit fresh c q = absurd (cc (q))
  moved_good st (Ev u) (Start g) v s trace n next' k w fit fresh c q =
      subst (λ z. Good z n) (same_state _ next' q)
      (record { top = none_open g.scene g.begun fresh; below = (wait_now st.top.scene st.top.begun u k fit, w); counted = c })
  moved_good st p End v s trace n next' k w fit fresh c q = back_good st.held v s trace n next' w c q

  -- what a limit lets pass
  through_within : (x : Option (Cause × ℕ)) (o : Outcome) (st : State) → within x o ≡ Running st → o ≡ Running st
  through_within None o st q = q
  through_within (Some c) o st q = absurd (cc (q))

  through_limited : (limits : Limits) (o : Outcome) (st : State) → limited limits o ≡ Running st → o ≡ Running st
  through_limited limits Refused st q = q
  through_limited limits (Raises c trace) st q = q
  through_limited limits (Over c n) st q = q
  through_limited limits No_row st q = q
  through_limited limits (Ends n out trace) st q = q
  through_limited limits (Running s) st q = through_within _ (Running s) st q

  abbrev pick_of : State → Pick
  pick_of st = canonical_pick world st.top st.top.begun

  acted_good : (st : State) (n : ℕ) (a : Act Value) (next' : State) → Good st n → acted world st (pick_of st) a ≡ Running next' → Good next' (suc n)
  acted_good st n (Done v is s) next' g q =
      moved_good st (pick_of st) _ v s _ (suc n) next' g.top g.below (fits st.top st.top.begun) (move_fresh st.top st.top.begun (pick_of st))
      (ap suc g.counted)
      (through_limited world.limits _ next' q)
  acted_good st n (Raised c) next' g q = absurd (cc (q))
  acted_good st n (Ended m is s) next' g q = absurd (cc (q))
  acted_good st n (Outside c m) next' g q = absurd (cc (q))
  acted_good st n Unplaced next' g q = absurd (let r = through_within _ No_row next' q in cc (r))

  step_good : (st : State) (n : ℕ) (next' : State) → Good st n → step world st (pick_of st) ≡ Running next' → Good next' (suc n)
  step_good st n next' g q = acted_good st n _ next' g (through_within _ _ next' q)

  -- the trace of a pick that raises
  raised_within : (x : Option (Cause × ℕ)) (o : Outcome) (c : Clause) (trace : List Entry) → within x o ≡ Raises c trace → o ≡ Raises c trace
  raised_within None o c trace q = q
  raised_within (Some d) o c trace q = absurd (cc (q))

  raised_limited : (limits : Limits) (o : Outcome) (c : Clause) (trace : List Entry) → limited limits o ≡ Raises c trace → o ≡ Raises c trace
  raised_limited limits Refused c trace q = q
  raised_limited limits (Raises d t) c trace q = q
  raised_limited limits (Over d n) c trace q = q
  raised_limited limits No_row c trace q = q
  raised_limited limits (Ends n out t) c trace q = q
  raised_limited limits (Running s) c trace q = raised_within _ (Running s) c trace q

  back_never : (hs : List (Local × Place)) (v : Value) (s : Store) (t : List Entry) (c : Clause) (trace : List Entry) → back world hs v s t ≡ Raises c trace →
      ⊥
  back_never [] v s t c trace q = cc (q)
  back_never (h ∷ hs) v s t c trace q = cc (q)

  moved_never : (st : State) (p : Pick) (mv : Move Local) (v : Value) (s : Store) (t : List Entry) (c : Clause) (trace : List Entry)
      → moved world st p mv v s t ≡ Raises c trace → ⊥
  moved_never st p Stay v s t c trace q = cc (q)
  moved_never st Control (Start g) v s t c trace q = cc (q)
  moved_never st (Ev u) (Start g) v s t c trace q = cc (q)
  moved_never st p End v s t c trace q = back_never st.held v s t c trace q

  -- the pick's entry before those that came earlier
  record Newest (st : State) (trace : List Entry) : Type 0 where
    entry : Entry
    is : trace ≡ entry ∷ st.trace

  abbrev trace_in : Outcome → List Entry
  trace_in (Raises c trace) = trace
  trace_in o = []

  acted_raised : (st : State) (p : Pick) (a : Act Value) (c : Clause) (trace : List Entry) → acted world st p a ≡ Raises c trace → Newest st trace
  acted_raised st p (Done v is s) c trace q = absurd (moved_never st p _ v s _ c trace (raised_limited world.limits _ c trace q))
  acted_raised st p (Raised d) c trace q = record { entry = _; is = sym (ap trace_in q) }
  acted_raised st p (Ended m is s) c trace q = absurd (cc (q))
  acted_raised st p (Outside d m) c trace q = absurd (cc (q))
  acted_raised st p Unplaced c trace q = absurd (let r = raised_within _ No_row c trace q in cc (r))

  step_raised : (st : State) (p : Pick) (c : Clause) (trace : List Entry) → step world st p ≡ Raises c trace → Newest st trace
  step_raised st p c trace q = acted_raised st p _ c trace (raised_within _ _ c trace q)

  -- one more pick before an order
  extend : (st next' : State) (ps : List Pick) (o : Outcome) → MayPick world st.top st.top.begun (pick_of st) → step world st (pick_of st) ≡ Running next'
      → After world next' ps o → After world st (pick_of st ∷ ps) o
  extend st _ [] _ m q (here next') = subst (λ z. After world st (pick_of st ∷ []) z) q (last st (pick_of st) m)
  extend st next' (p ∷ ps) o m q a = more st next' (pick_of st) p ps o m q a

  -- what a finding says of the picks from this state on, after n picks
  data Told (st : State) (n : ℕ) (f : Finding) : Type 0 where
    raised : (k : ℕ) (c : Clause) (entry : Entry) (before : List Entry) →
        After world st (canonical_picks world (suc k) (Running st)) (Raises c (entry ∷ before))
        → f ≡ Undefined c entry.path entry.turn entry.place entry.line (n + suc k) → Told st n f
    steps : (k : ℕ) (st' : State) → After world st (canonical_picks world k (Running st)) (Running st') → f ≡ Out_of_steps (n + k) → Told st n f
    limit : (k : ℕ) (cause : Cause) (number : ℕ) → After world st (canonical_picks world (suc k) (Running st)) (Over cause number)
        → f ≡ finding.Outside cause number (n + k) → Told st n f
    clean : (status : ℕ) (output : Outputs) (picks : ℕ) → f ≡ Clean status output picks → Told st n f
    race : (k : ℕ) (o : Outcome) (p : Pair) → After world st (canonical_picks world (suc k) (Running st)) o → GoesOrEnds o → f ≡ Raced p (n + suc k) →
        Told st n f
    quarrel : (k : ℕ) (o : Outcome) (p : Pair) → After world st (canonical_picks world (suc k) (Running st)) o → GoesOrEnds o
        → f ≡ Order_dependent p (n + suc k) → Told st n f
    not_placed : (picks : ℕ) → f ≡ Not_placed picks → Told st n f

  plus : (n k : ℕ) → suc n + k ≡ n + suc k
  plus n k = omega arith

  longer : (st next' : State) (n : ℕ) (f : Finding) → MayPick world st.top st.top.begun (pick_of st) → step world st (pick_of st) ≡ Running next'
      → Told next' (suc n) f → Told st n f
  longer st next' n f m q (raised k c entry before a e) =
      raised (suc k) c entry before
      (subst (λ z. After world st (pick_of st ∷ canonical_picks world (suc k) z) (Raises c (entry ∷ before))) (sym q) (extend st next' _ _ m q a))
      (e ∙ ap (λ z. Undefined c entry.path entry.turn entry.place entry.line z) (plus n (suc k)))
  longer st next' n f m q (steps k st' a e) =
      steps (suc k) st' (subst (λ z. After world st (pick_of st ∷ canonical_picks world k z) (Running st')) (sym q) (extend st next' _ _ m q a))
      (e ∙ ap Out_of_steps (plus n k))
  longer st next' n f m q (limit k c number a e) =
      limit (suc k) c number
      (subst (λ z. After world st (pick_of st ∷ canonical_picks world (suc k) z) (Over c number)) (sym q) (extend st next' _ _ m q a))
      (e ∙ ap (λ z. finding.Outside c number z) (plus n k))
  longer st next' n f m q (clean s out picks e) = clean s out picks e
  longer st next' n f m q (race k o p a l e) =
      race (suc k) o p (subst (λ z. After world st (pick_of st ∷ canonical_picks world (suc k) z) o) (sym q) (extend st next' _ _ m q a)) l
      (e ∙ ap (λ z. Raced p z) (plus n (suc k)))
  longer st next' n f m q (quarrel k o p a l e) =
      quarrel (suc k) o p (subst (λ z. After world st (pick_of st ∷ canonical_picks world (suc k) z) o) (sym q) (extend st next' _ _ m q a)) l
      (e ∙ ap (λ z. Order_dependent p z) (plus n (suc k)))
  longer st next' n f m q (not_placed picks e) = not_placed picks e

  one_more : (n : ℕ) → suc n ≡ n + 1
  one_more n = omega arith

  no_more : (n : ℕ) → n ≡ n + 0
  no_more n = omega arith

  in_found : (st : State) (n : ℕ) (o : Outcome) (a b : Option Pair) (f : Finding) → After world st (pick_of st ∷ []) o → GoesOrEnds o
      → Told st n f → Told st n (raced_or (suc n) a (quarrel_or (suc n) b f))
  in_found st n o (Some p) b f a l t = race 0 o p a l (ap (λ z. Raced p z) (one_more n))
  in_found st n o None (Some p) f a l t = quarrel 0 o p a l (ap (λ z. Order_dependent p z) (one_more n))
  in_found st n o None None f a l t = t

  raise_told : (st : State) (n : ℕ) (c : Clause) (trace : List Entry) → length st.trace ≡ n → Newest st trace
      → After world st (pick_of st ∷ []) (Raises c trace) → Told st n (finding.raised_at c trace)
  raise_told st n c trace k w a =
      subst (λ t. Told st n (finding.raised_at c t)) (sym w.is)
      (raised 0 c w.entry st.trace (subst (λ t. After world st (pick_of st ∷ []) (Raises c t)) w.is a)
      (ap (λ z. Undefined c w.entry.path w.entry.turn w.entry.place w.entry.line z) (ap suc k ∙ one_more n)))

  -- at a pick
  shown : (st : State) (n : ℕ) (on : State → Finding) (o : Outcome) → Good st n → step world st (pick_of st) ≡ o
      → ((next' : State) → Good next' (suc n) → Told next' (suc n) (on next')) → Told st n (shown_at world st o n on)
  shown st n on Refused g q again = not_placed n refl
  shown st n on (Raises c trace) g q again =
      raise_told st n c trace g.counted (step_raised st (pick_of st) c trace q)
      (subst (λ z. After world st (pick_of st ∷ []) z) q (last st (pick_of st) (may st.top st.top.begun g.top)))
  shown st n on (Over c number) g q again =
      limit 0 c number (subst (λ z. After world st (pick_of st ∷ []) z) q (last st (pick_of st) (may st.top st.top.begun g.top)))
      (ap (λ z. finding.Outside c number z) (no_more n))
  shown st n on No_row g q again = not_placed n refl
  shown st n on (Ends status output trace) g q again =
      in_found st n (Ends status output trace) _ _ _
      (subst (λ z. After world st (pick_of st ∷ []) z) q (last st (pick_of st) (may st.top st.top.begun g.top))) tt
      (clean status output (suc n) refl)
  shown st n on (Running next') g q again =
      in_found st n (Running next') _ _ _ (subst (λ z. After world st (pick_of st ∷ []) z) q (last st (pick_of st) (may st.top st.top.begun g.top))) tt
      (longer st next' n (on next') (may st.top st.top.begun g.top) q (again next' (step_good st n next' g q)))

  tells : (left n : ℕ) (st : State) → Good st n → Told st n (found_from world left n st)
  tells zero n st g = steps 0 st (here st) (ap Out_of_steps (no_more n))
  tells (suc left) n st g = shown st n (found_from world left (suc n)) (step world st (pick_of st)) g refl (λ next' k. tells left (suc n) next' k)

  started_good : (vs : List Value) (st : State) (a : Act Value) → started_run world a vs ≡ Running st → Good st 0
  started_good vs st (Done v is s) r =
      subst (λ z. Good z 0) (same_state (record { top = main_frame world vs; held = []; store = s; trace = [] }) st (through_limited world.limits _ st r))
      (record { top = tt; below = tt; counted = refl })
  started_good vs st (Raised c) r = absurd (cc (r))
  started_good vs st (Ended n is s) r = absurd (cc (r))
  started_good vs st (Outside c n) r = absurd (cc (r))
  started_good vs st Unplaced r = absurd (cc (r))

  start_good : (input : List ℕ) (vs : List Value) (st : State) → start world input vs ≡ Running st → Good st 0
  start_good input vs st q = started_good vs st _ (through_within _ _ st q)

  -- from the start
  data First (input : List ℕ) (vs : List Value) (f : Finding) : Type 0 where
    runs : (st : State) → start world input vs ≡ Running st → Told st 0 f → First input vs f
    over : (cause : Cause) (number : ℕ) → start world input vs ≡ Over cause number → f ≡ finding.Outside cause number 0 → First input vs f
    unplaced : f ≡ Not_placed 0 → First input vs f

  first : (budget : ℕ) (input : List ℕ) (vs : List Value) → First input vs (first_finding world budget input vs)
  first budget input vs = go (start world input vs) refl
    where
      go : (o : Outcome) → start world input vs ≡ o → First input vs (found_after world budget o)
      go Refused q = unplaced refl
      go (Raises c trace) q = unplaced refl
      go (Over c number) q = over c number q refl
      go No_row q = unplaced refl
      go (Ends s out trace) q = unplaced refl
      go (Running st) q = runs st q (tells budget 0 st (start_good input vs st q))

  comes : (input : List ℕ) (vs : List Value) (st : State) (n : ℕ) (o : Outcome) → start world input vs ≡ Running st
      → After world st (canonical_picks world n (Running st)) o → ComesTo world input vs (canonical_picks world n (start world input vs)) o
  comes input vs st n o q a = subst (λ z. ComesTo world input vs (canonical_picks world n z) o) (sym q) (starts st _ o q a)

  from_zero : (n k : ℕ) → n ≡ 0 + k → n ≡ k
  from_zero n k e = omega (arith, e)

  raised_there : (input : List ℕ) (vs : List Value) (c d : Clause) (entry : Entry) (before : List Entry) (k n : ℕ) → c ≡ d → n ≡ suc k
      → ComesTo world input vs (canonical_picks world (suc k) (start world input vs)) (Raises d (entry ∷ before))
      → ComesTo world input vs (canonical_picks world n (start world input vs)) (Raises c (entry ∷ before))
  raised_there input vs c d entry before k n p q a =
      subst (λ z. ComesTo world input vs (canonical_picks world n (start world input vs)) (Raises z (entry ∷ before))) (sym p)
      (subst (λ z. ComesTo world input vs (canonical_picks world z (start world input vs)) (Raises d (entry ∷ before))) (sym q) a)

  raise_true : (input : List ℕ) (vs : List Value) (c : Clause) (path : Path) (turn : ℕ) (at : Option Place) (line picks : ℕ)
      → First input vs (Undefined c path turn at line picks) → RaisesAt world input vs c path turn at line picks
  raise_true input vs c path turn at line picks (runs st q (raised k d entry before a e)) =
      let same_clause : c ≡ d = cc (e) in
      let same_path : path ≡ entry.path = cc (e) in
      let same_turn : turn ≡ entry.turn = cc (e) in
      let same_place : at ≡ entry.place = cc (e) in
      let same_line : line ≡ entry.line = cc (e) in
      let same_picks : picks ≡ 0 + suc k = cc (e) in
      record {
        entry = entry;
        before = before;
        raised = raised_there input vs c d entry before k picks same_clause (from_zero picks (suc k) same_picks) (comes input vs st (suc k) _ q a);
        there = record { of_frame = sym same_path; of_turn = sym same_turn; of_line = sym same_line };
        at = sym same_place;
      }
  raise_true input vs c path turn at line picks (runs st q (steps k st' a e)) = absurd (cc (e))
  raise_true input vs c path turn at line picks (runs st q (limit k d number a e)) = absurd (cc (e))
  raise_true input vs c path turn at line picks (runs st q (clean s out n e)) = absurd (cc (e))
  raise_true input vs c path turn at line picks (runs st q (race k o p a l e)) = absurd (cc (e))
  raise_true input vs c path turn at line picks (runs st q (quarrel k o p a l e)) = absurd (cc (e))
  raise_true input vs c path turn at line picks (runs st q (not_placed n e)) = absurd (cc (e))
  raise_true input vs c path turn at line picks (over d number q e) = absurd (cc (e))
  raise_true input vs c path turn at line picks (unplaced e) = absurd (cc (e))

  steps_true : (input : List ℕ) (vs : List Value) (picks : ℕ) → First input vs (Out_of_steps picks) → RunsOn world input vs picks
  steps_true input vs picks (runs st q (steps k st' a e)) =
      let same_picks : picks ≡ 0 + k = cc (e) in
      record {
        state = st';
        permitted = subst (λ n. ComesTo world input vs (canonical_picks world n (start world input vs)) (Running st')) (sym (from_zero picks k same_picks))
            (comes input vs st k _ q a);
      }
  steps_true input vs picks (runs st q (raised k d entry before a e)) = absurd (cc (e))
  steps_true input vs picks (runs st q (limit k d number a e)) = absurd (cc (e))
  steps_true input vs picks (runs st q (clean s out n e)) = absurd (cc (e))
  steps_true input vs picks (runs st q (race k o p a l e)) = absurd (cc (e))
  steps_true input vs picks (runs st q (quarrel k o p a l e)) = absurd (cc (e))
  steps_true input vs picks (runs st q (not_placed n e)) = absurd (cc (e))
  steps_true input vs picks (over d number q e) = absurd (cc (e))
  steps_true input vs picks (unplaced e) = absurd (cc (e))

  at_limit : (input : List ℕ) (vs : List Value) (c d : Cause) (number other k n : ℕ) → c ≡ d → number ≡ other → n ≡ k
      → ComesTo world input vs (canonical_picks world (suc k) (start world input vs)) (Over d other) → PassesLimit world input vs c number n
  at_limit input vs c d number other k n p q r a =
      subst (λ z. PassesLimit world input vs z number n) (sym p)
      (subst (λ z. PassesLimit world input vs d z n) (sym q) (subst (λ z. PassesLimit world input vs d other z) (sym r) (at_pick k a)))

  at_once : (input : List ℕ) (vs : List Value) (c d : Cause) (number other n : ℕ) → c ≡ d → number ≡ other → n ≡ 0
      → start world input vs ≡ Over d other → PassesLimit world input vs c number n
  at_once input vs c d number other n p q r s =
      subst (λ z. PassesLimit world input vs z number n) (sym p)
      (subst (λ z. PassesLimit world input vs d z n) (sym q) (subst (λ z. PassesLimit world input vs d other z) (sym r) (at_start s)))

  limit_true : (input : List ℕ) (vs : List Value) (c : Cause) (number picks : ℕ)
      → First input vs (finding.Outside c number picks) → PassesLimit world input vs c number picks
  limit_true input vs c number picks (runs st q (limit k d other a e)) =
      let same_cause : c ≡ d = cc (e) in
      let same_number : number ≡ other = cc (e) in
      let same_picks : picks ≡ 0 + k = cc (e) in
      at_limit input vs c d number other k picks same_cause same_number (from_zero picks k same_picks) (comes input vs st (suc k) _ q a)
  limit_true input vs c number picks (over d other q e) =
      let same_cause : c ≡ d = cc (e) in
      let same_number : number ≡ other = cc (e) in
      let same_picks : picks ≡ 0 = cc (e) in
      at_once input vs c d number other picks same_cause same_number same_picks q
  limit_true input vs c number picks (runs st q (raised k d entry before a e)) = absurd (cc (e))
  limit_true input vs c number picks (runs st q (steps k st' a e)) = absurd (cc (e))
  limit_true input vs c number picks (runs st q (clean s out n e)) = absurd (cc (e))
  limit_true input vs c number picks (runs st q (race k o p a l e)) = absurd (cc (e))
  limit_true input vs c number picks (runs st q (quarrel k o p a l e)) = absurd (cc (e))
  limit_true input vs c number picks (runs st q (not_placed n e)) = absurd (cc (e))
  limit_true input vs c number picks (unplaced e) = absurd (cc (e))

  pair_met : (input : List ℕ) (vs : List Value) (o : Outcome) (k n : ℕ) → n ≡ suc k → GoesOrEnds o
      → ComesTo world input vs (canonical_picks world (suc k) (start world input vs)) o → PairMet world input vs n
  pair_met input vs o k n q l a = record {
    outcome = o;
    permitted = subst (λ z. ComesTo world input vs (canonical_picks world z (start world input vs)) o) (sym q) a;
    goes_or_ends = l;
  }

  race_met : (input : List ℕ) (vs : List Value) (pair : Pair) (picks : ℕ) → First input vs (Raced pair picks) → PairMet world input vs picks
  race_met input vs pair picks (runs st q (race k o p a l e)) =
      let same_picks : picks ≡ 0 + suc k = cc (e) in
      pair_met input vs o k picks (from_zero picks (suc k) same_picks) l (comes input vs st (suc k) _ q a)
  race_met input vs pair picks (runs st q (quarrel k o p a l e)) = absurd (cc (e))
  race_met input vs pair picks (runs st q (raised k d entry before a e)) = absurd (cc (e))
  race_met input vs pair picks (runs st q (steps k st' a e)) = absurd (cc (e))
  race_met input vs pair picks (runs st q (limit k d other a e)) = absurd (cc (e))
  race_met input vs pair picks (runs st q (clean s out n e)) = absurd (cc (e))
  race_met input vs pair picks (runs st q (not_placed n e)) = absurd (cc (e))
  race_met input vs pair picks (over d other q e) = absurd (cc (e))
  race_met input vs pair picks (unplaced e) = absurd (cc (e))

  quarrel_met : (input : List ℕ) (vs : List Value) (pair : Pair) (picks : ℕ) → First input vs (Order_dependent pair picks) → PairMet world input vs picks
  quarrel_met input vs pair picks (runs st q (quarrel k o p a l e)) =
      let same_picks : picks ≡ 0 + suc k = cc (e) in
      pair_met input vs o k picks (from_zero picks (suc k) same_picks) l (comes input vs st (suc k) _ q a)
  quarrel_met input vs pair picks (runs st q (race k o p a l e)) = absurd (cc (e))
  quarrel_met input vs pair picks (runs st q (raised k d entry before a e)) = absurd (cc (e))
  quarrel_met input vs pair picks (runs st q (steps k st' a e)) = absurd (cc (e))
  quarrel_met input vs pair picks (runs st q (limit k d other a e)) = absurd (cc (e))
  quarrel_met input vs pair picks (runs st q (clean s out n e)) = absurd (cc (e))
  quarrel_met input vs pair picks (runs st q (not_placed n e)) = absurd (cc (e))
  quarrel_met input vs pair picks (over d other q e) = absurd (cc (e))
  quarrel_met input vs pair picks (unplaced e) = absurd (cc (e))

pub races_met : (world : World) (budget : ℕ) (input : List ℕ) (vs : List Value) (pair : Pair) (picks : ℕ)
    → first_finding world budget input vs ≡ Raced pair picks → PairMet world input vs picks
races_met world budget input vs pair picks q = race_met world input vs pair picks (subst (λ f. First world input vs f) q (first world budget input vs))

pub quarrels_met : (world : World) (budget : ℕ) (input : List ℕ) (vs : List Value) (pair : Pair) (picks : ℕ)
    → first_finding world budget input vs ≡ Order_dependent pair picks → PairMet world input vs picks
quarrels_met world budget input vs pair picks q = quarrel_met world input vs pair picks (subst (λ f. First world input vs f) q (first world budget input vs))

pub raises_true : (world : World) (budget : ℕ) (input : List ℕ) (vs : List Value) (c : Clause) (path : Path) (turn : ℕ) (at : Option Place) (line picks : ℕ)
    → first_finding world budget input vs ≡ Undefined c path turn at line picks → RaisesAt world input vs c path turn at line picks
raises_true world budget input vs c path turn at line picks q = raise_true world input vs c path turn at line picks
    (subst (λ f. First world input vs f) q (first world budget input vs))

pub runs_true : (world : World) (budget : ℕ) (input : List ℕ) (vs : List Value) (picks : ℕ)
    → first_finding world budget input vs ≡ Out_of_steps picks → RunsOn world input vs picks
runs_true world budget input vs picks q = steps_true world input vs picks (subst (λ f. First world input vs f) q (first world budget input vs))

pub limits_true : (world : World) (budget : ℕ) (input : List ℕ) (vs : List Value) (c : Cause) (number picks : ℕ)
    → first_finding world budget input vs ≡ finding.Outside c number picks → PassesLimit world input vs c number picks
limits_true world budget input vs c number picks q = limit_true world input vs c number picks
    (subst (λ f. First world input vs f) q (first world budget input vs))
