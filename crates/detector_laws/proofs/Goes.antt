-- How the frames go on with a canonical pick.
use Rattle.std.proofs.Common.{◌≡◌, ◌⊎◌, inl, inr, ◌≤◌, ℕ, suc, Bool, true, false, if◌then◌else◌, List, [], ◌∷◌, Option, Some, None, refl, sym, ap}
use Rattle.std.proofs.Common.{subst, ◌∙◌, true≢false, arith}
use Rattle.ub_base.specs.declared.clause.Cause.{Cause}
use Rattle.ub_base.specs.declared.clause.Kind.{Kind}
use Rattle.ub_base.specs.declared.clause.Kind.TheVariants.{Val, Eff, Body}
use Rattle.ub_base.specs.Frames.{Path}
use Rattle.c_typed.specs.declared.tree.Place.{Place}
use Rattle.c_typed.specs.Order.{has, is_body, place}
use Rattle.mem_spec.specs.Store.{Store}
use Rattle.mem_spec.specs.Script.{Act, Done, Raised, Ended, Outside, Unplaced, run}
use Rattle.c_model.specs.Control.{Todo, Enter, Leave, Begin, Go_to, Go_out, Go_on, Go_back, ready_work}
use Rattle.c_model.specs.Findings.{is_under}
use Rattle.c_model.specs.Moments.{items_by}
use Rattle.c_model.specs.Moves.{Move, Stay, Start, End}
use Rattle.c_model.specs.Program.{Head, Call, Isolated, Expr, expr, Stmt, Function}
use Rattle.c_model.specs.Runs.{Entry, State, Outcome, Refused, Raises, Over, No_row, Ends, Running, acted, back, canonical_pick, chosen_pick, entry_of, limited}
use Rattle.c_model.specs.Runs.{moved, place_of, step, within}
use Rattle.c_model.specs.Steps.{Begun, Local, Pick, Control, Ev, Scene, at_node, body_frame, called_by, control_next, does, move, move_of, next, own_body}
use Rattle.c_model.specs.Steps.{start_call, started, with_given}
use Rattle.c_model.specs.Values.{Value, later_values}
use Rattle.c_model.specs.World.{Limits, World}
use Rattle.listing_laws.specs.Along.{first_of}
use Rattle.listing_laws.proofs.Going.{takes_first}
use Rattle.detector_laws.specs.Frames.{AllWaitFree, AreFree, ComesTo, HasEntry, IsBareValue, IsEntryOf, PicksComeTo, StandsFree, TopStands, WaitsFree}
use Rattle.detector_laws.specs.Frames.{rests, begins, takes, starts, ends}
use Rattle.detector_laws.proofs.Around.{other_than, takes as taken_so}
use Rattle.detector_laws.proofs.Free.{free_stays, not_passed}
use Rattle.detector_laws.proofs.Items.{stay_of_above, stay_of_other}
use Rattle.detector_laws.proofs.Paths.{under_itself, under_tail}
use Rattle.detector_laws.proofs.Values.{value_bare}

-- ---- what a pick that goes on came to
abbrev state_in : Outcome → State → State
state_in (Running st) other = st
state_in o other = other

pub same_state : (a b : State) → Running a ≡ Running b → a ≡ b
same_state a b q = ap (λ o. state_in o a) q

pub through_within : (x : Option (Cause × ℕ)) (o : Outcome) (st : State) → within x o ≡ Running st → o ≡ Running st
through_within None o st q = q
through_within (Some c) o st q = absurd (cc (q))

pub through_limited : (limits : Limits) (o : Outcome) (st : State) → limited limits o ≡ Running st → o ≡ Running st
through_limited limits Refused st q = q
through_limited limits (Raises c trace) st q = q
through_limited limits (Over c n) st q = q
through_limited limits No_row st q = q
through_limited limits (Ends n out trace) st q = q
through_limited limits (Running s) st q = through_within _ (Running s) st q

body_is : (u : Place) → u.kind ≡ Body → u ≡ place u.node Body
body_is u h = λ i. record { node = u.node; kind = h i }

kind_is : (k : Kind) → is_body k ≡ true → k ≡ Body
kind_is Body h = refl
kind_is Val h = absurd (true≢false (sym h))
kind_is Eff h = absurd (true≢false (sym h))

module _ (world : World) where
  -- ---- frames that are held
  -- the items of what was passed stay, as a frame above takes a pick
  pub held_items : (trace : List Entry) (x : Entry) (f : Scene) (u : Place) (passed : List Place) → u.kind ≡ Body → has passed u ≡ false →
      is_under x.path ((f.turn, u.node) ∷ f.path) ≡ true → (w : Place) → has passed w ≡ true →
      items_by (x ∷ trace) (x ∷ trace) f.path f.turn w ≡ items_by trace trace f.path f.turn w
  held_items trace x f u passed body fresh under w h =
      stay_of_above trace x f.path f.turn u.node w under
      (λ q. true≢false (sym (subst (λ z. has passed z ≡ true) (q ∙ sym (body_is u body)) h) ∙ fresh))

  waits_on : (trace : List Entry) (x : Entry) (f : Local) (u : Place) → is_under x.path ((f.scene.turn, u.node) ∷ f.scene.path) ≡ true →
      WaitsFree world trace f u → WaitsFree world (x ∷ trace) f u
  waits_on trace x f u under w = record {
    expression = w.expression;
    is = w.is;
    body = w.body;
    passed = w.passed;
    ahead = w.ahead;
    stands = record {
      formed = w.stands.formed;
      along = w.stands.along;
      free = free_stays world trace (x ∷ trace) f.scene w.expression w.passed (u ∷ w.ahead) w.stands.formed w.stands.along
          (held_items trace x f.scene u w.passed w.body (not_passed world f.scene w.expression w.passed w.ahead u w.stands.along) under) w.stands.free;
    };
  }

  held_on : (trace : List Entry) (x : Entry) (path : Path) (hs : List (Local × Place)) → is_under x.path path ≡ true →
      AllWaitFree world trace path hs → AllWaitFree world (x ∷ trace) path hs
  held_on trace x path [] under a = tt
  held_on trace x path (h ∷ hs) under (p, w, rest) =
      let more = subst (λ z. is_under x.path z ≡ true) p under in
      (p, waits_on trace x h.0 h.1 more w, held_on trace x h.0.scene.path hs (under_tail x.path (h.0.scene.turn, h.1.node) h.0.scene.path more) rest)

  -- ---- control steps
  -- none is open behind one, or one has begun
  abbrev Rests : Local → Local → Type 0
  Rests f g = ((g.begun ≡ None) × (f.scene.turn ≤ g.scene.turn)) ⊎
      ((e : Begun) × (g.begun ≡ Some e) × ((u : Place) → e.given u ≡ None) × (g.scene.turn ≡ suc f.scene.turn))

  same_turn : (f : Local) → f.scene.turn ≤ f.scene.turn
  same_turn f = omega arith

  control_rests : (f : Local) (ws : Todo) → f.begun ≡ None → Rests f (control_next world f ws)
  control_rests f [] q = inl (q, same_turn f)
  control_rests f (Enter b ds ∷ ws) q = inl (q, omega arith)
  control_rests f (Leave b ds ∷ ws) q = inl (q, same_turn f)
  control_rests f (Begin e what ∷ ws) q = inr (record { root = e; given = λ u. None; what = what }, refl, λ u. refl, refl)
  control_rests f (Go_to k ∷ ws) q = inl (q, same_turn f)
  control_rests f (Go_out ∷ ws) q = inl (q, same_turn f)
  control_rests f (Go_on ∷ ws) q = inl (q, same_turn f)
  control_rests f (Go_back ∷ ws) q = inl (q, same_turn f)
  control_rests f (w ∷ ws) q = inl (q, same_turn f)

  control_path : (f : Local) (ws : Todo) → (control_next world f ws).scene.path ≡ f.scene.path
  control_path f [] = refl
  control_path f (Enter b ds ∷ ws) = refl
  control_path f (Leave b ds ∷ ws) = refl
  control_path f (Begin e what ∷ ws) = refl
  control_path f (Go_to k ∷ ws) = refl
  control_path f (Go_out ∷ ws) = refl
  control_path f (Go_on ∷ ws) = refl
  control_path f (Go_back ∷ ws) = refl
  control_path f (w ∷ ws) = refl

  rests_behind : (f : Local) (o : Option Begun) (v : Value) → f.begun ≡ o → Rests f (next world f o Control v)
  rests_behind f None v q = control_rests f (ready_work f.todo) q
  rests_behind f (Some e) v q = inl (refl, same_turn f)

  path_behind : (f : Local) (o : Option Begun) (v : Value) → (next world f o Control v).scene.path ≡ f.scene.path
  path_behind f None v = control_path f (ready_work f.todo)
  path_behind f (Some e) v = refl

  -- ---- a frame that a body starts
  abbrev IsFresh : Scene → Place → Move Local → Type 0
  IsFresh f u (Start g) = (g.begun ≡ None) × (g.scene.path ≡ (f.turn, u.node) ∷ f.path) × (u.kind ≡ Body)
  IsFresh f u m = Unit {0}

  body_fresh : (f : Scene) (u : Place) (n : ℕ) (vs : List Value) (b : Option Stmt) → u.kind ≡ Body → IsFresh f u (body_frame world f u.node n vs b)
  body_fresh f u n vs None k = tt
  body_fresh f u n vs (Some s) k = (refl, refl, k)

  call_fresh : (f : Scene) (u : Place) (vs : List Value) (c : Option (ℕ × Function)) → u.kind ≡ Body → IsFresh f u (start_call world f u.node vs c)
  call_fresh f u vs None k = tt
  call_fresh f u vs (Some c) k = body_fresh f u c.0 vs (own_body c.1) k

  start_fresh : (f : Scene) (u : Place) (h : Head) (vs : List Value) → u.kind ≡ Body → IsFresh f u (started world f u.node h vs)
  start_fresh f u (Call d) vs k = call_fresh f u (later_values vs) (called_by world vs) k
  start_fresh f u (Isolated e) vs k = (refl, refl, k)
  start_fresh f u _ vs k = tt

  if_fresh : (f : Scene) (u : Place) (b : Bool) (m : Move Local) → is_body u.kind ≡ b → (u.kind ≡ Body → IsFresh f u m) → IsFresh f u (if b then m else Stay)
  if_fresh f u true m q k = k (kind_is u.kind q)
  if_fresh f u false m q k = tt

  node_fresh : (f : Scene) (e : Begun) (u : Place) (o : Option Expr) → IsFresh f u (move_of world f e u o)
  node_fresh f e u None = tt
  node_fresh f e u (Some (expr h ty line es)) = if_fresh f u (is_body u.kind) _ refl (start_fresh f u h _)

  move_fresh : (f : Local) (o : Option Begun) (u : Place) → IsFresh f.scene u (move world f o (Ev u))
  move_fresh f None u = tt
  move_fresh f (Some e) u = node_fresh f.scene e u (at_node 0 e.root u.node)

  -- an event ends no frame
  abbrev NoEnd : Move Local → Type 0
  NoEnd End = ⊥
  NoEnd m = Unit {0}

  body_goes : (f : Scene) (k n : ℕ) (vs : List Value) (b : Option Stmt) → NoEnd (body_frame world f k n vs b)
  body_goes f k n vs None = tt
  body_goes f k n vs (Some s) = tt

  call_goes : (f : Scene) (k : ℕ) (vs : List Value) (c : Option (ℕ × Function)) → NoEnd (start_call world f k vs c)
  call_goes f k vs None = tt
  call_goes f k vs (Some c) = body_goes f k c.0 vs (own_body c.1)

  start_goes : (f : Scene) (k : ℕ) (h : Head) (vs : List Value) → NoEnd (started world f k h vs)
  start_goes f k (Call d) vs = call_goes f k (later_values vs) (called_by world vs)
  start_goes f k (Isolated e) vs = tt
  start_goes f k _ vs = tt

  if_goes : (b : Bool) (m : Move Local) → NoEnd m → NoEnd (if b then m else Stay)
  if_goes true m k = k
  if_goes false m k = tt

  node_goes : (f : Scene) (e : Begun) (u : Place) (o : Option Expr) → NoEnd (move_of world f e u o)
  node_goes f e u None = tt
  node_goes f e u (Some (expr h ty line es)) = if_goes (is_body u.kind) _ (start_goes f u.node h _)

  move_goes : (f : Local) (o : Option Begun) (u : Place) → NoEnd (move world f o (Ev u))
  move_goes f None u = tt
  move_goes f (Some e) u = node_goes f.scene e u (at_node 0 e.root u.node)

  -- ---- the canonical pick
  -- no event where none has begun; else the first one ahead, if there is one
  pub data Fits (trace : List Entry) (f : Scene) : Option Begun → Pick → Type 0 where
    goes_on : Fits trace f None Control
    settles : (e : Begun) → Fits trace f (Some e) Control
    takes_it : (e : Begun) (u : Place) (passed ahead : List Place) → StandsFree world trace f e passed (u ∷ ahead) → Fits trace f (Some e) (Ev u)

  fits : (trace : List Entry) (f : Local) (o : Option Begun) → TopStands world trace f.scene o → Fits trace f.scene o (canonical_pick world f o)
  fits trace f None s = goes_on
  fits trace f (Some e) (passed, ahead, s) =
      subst (Fits trace f.scene (Some e)) (sym (takes_first world f e passed ahead s.along)) (by_ahead ahead s)
    where
      by_ahead : (us : List Place) → StandsFree world trace f.scene e passed us → Fits trace f.scene (Some e) (chosen_pick world (first_of us))
      by_ahead [] h = settles e
      by_ahead (u ∷ us) h = takes_it e u passed us h

  -- ---- what it comes to
  abbrev Comes : State → State → Type 0
  Comes st after = ComesTo world st after × HasEntry st after × AllWaitFree world after.trace after.top.scene.path after.held

  -- the items of what was passed stay, as an event of the frame itself is picked
  pub own_items : (trace : List Entry) (x : Entry) (f : Scene) (u : Place) (passed : List Place) → IsEntryOf f u x → has passed u ≡ false →
      (w : Place) → has passed w ≡ true → items_by (x ∷ trace) (x ∷ trace) f.path f.turn w ≡ items_by trace trace f.path f.turn w
  own_items trace x f u passed is fresh w h = stay_of_other trace x f.path f.turn u w is.path is.place (other_than passed u w fresh h)

  module _ (st : State) (a : AreFree world st) where
    abbrev f : Local
    f = st.top

    after_control : (o : Option Begun) (v : Value) (x : Entry) (s : Store) → f.begun ≡ o → x.path ≡ f.scene.path →
        Comes st (record { top = next world f o Control v; held = st.held; store = s; trace = x ∷ st.trace })
    after_control o v x s q p =
        let path = path_behind f o v in
        let held = subst (λ z. AllWaitFree world (x ∷ st.trace) z st.held) (sym path)
        (held_on st.trace x f.scene.path st.held (subst (λ z. is_under z f.scene.path ≡ true) (sym p) (under_itself f.scene.path)) a.held) in
        elim (rests_behind f o v q) [
          | inl r ↦ (rests r.0 path r.1 refl, record { entry = x; newest = refl; path = p }, held)
          | inr r ↦ (begins r.0 r.1 r.2 path r.3 refl, record { entry = x; newest = refl; path = p }, held)
        ]

    -- of each event the entry is bare where it is the value of an assignment or a list
    abbrev AreBare : Pick → Entry → Type 0
    AreBare p x = (e : Begun) (u : Place) → f.begun ≡ Some e → p ≡ Ev u → IsBareValue world f.scene e u x

    after_event : (o : Option Begun) (p : Pick) (v : Value) (x : Entry) (s : Store) → f.begun ≡ o → (u : Place) → p ≡ Ev u → IsEntryOf f.scene u x →
        AreBare p x → Fits st.trace f.scene o p → Comes st (record { top = next world f o p v; held = st.held; store = s; trace = x ∷ st.trace })
    after_event _ _ v x s q u pe is bare goes_on = absurd (cc (pe))
    after_event _ _ v x s q u pe is bare (settles e) = absurd (cc (pe))
    after_event _ _ v x s q u pe is bare (takes_it e w passed ahead h) = (
      takes e w x q
          (taken_so world st.trace (x ∷ st.trace) f.scene e passed ahead w v h
          (own_items st.trace x f.scene w passed own (not_passed world f.scene e passed ahead w h.along))
          (record f { begun = Some (with_given e w v) }) refl refl)
          refl own (bare e w q refl) refl,
      record { entry = x; newest = refl; path = is.path },
      held_on st.trace x f.scene.path st.held (subst (λ z. is_under z f.scene.path ≡ true) (sym is.path) (under_itself f.scene.path)) a.held,
    )
      where
        place_of_pick : Pick → Place → Place
        place_of_pick Control z = z
        place_of_pick (Ev y) z = y

        own : IsEntryOf f.scene w x
        own = record { path = is.path; turn = is.turn; place = is.place ∙ ap (λ z. Some (place_of_pick z w)) (sym pe) }

    after_start : (o : Option Begun) (p : Pick) (g : Local) (x : Entry) (s : Store) → f.begun ≡ o → (u : Place) → p ≡ Ev u → IsEntryOf f.scene u x →
        IsFresh f.scene u (Start g) → Fits st.trace f.scene o p →
        Comes st (record { top = g; held = (f, u) ∷ st.held; store = s; trace = x ∷ st.trace })
    after_start _ _ g x s q u pe is new goes_on = absurd (cc (pe))
    after_start _ _ g x s q u pe is new (settles e) = absurd (cc (pe))
    after_start _ _ g x s q u pe is new (takes_it e w passed ahead h) = (
      starts u x new.0 new.1 refl is refl,
      record { entry = x; newest = refl; path = is.path },
      (
        new.1,
        record {
          expression = e;
          is = q;
          body = new.2;
          passed = passed;
          ahead = ahead;
          stands = record {
            formed = here.formed;
            along = here.along;
            free = free_stays world st.trace (x ∷ st.trace) f.scene e passed (u ∷ ahead) here.formed here.along
                (own_items st.trace x f.scene u passed is (not_passed world f.scene e passed ahead u here.along)) here.free;
          };
        },
        held_on st.trace x f.scene.path st.held (subst (λ z. is_under z f.scene.path ≡ true) (sym is.path) (under_itself f.scene.path)) a.held,
      ),
    )
      where
        place_of_pick : Pick → Place → Place
        place_of_pick Control z = z
        place_of_pick (Ev y) z = y

        here : StandsFree world st.trace f.scene e passed (u ∷ ahead)
        here = subst (λ z. StandsFree world st.trace f.scene e passed (z ∷ ahead)) (ap (λ z. place_of_pick z w) pe) h

    after_end : (hs : List (Local × Place)) (v : Value) (x : Entry) (s : Store) (after : State) → st.held ≡ hs → x.path ≡ f.scene.path →
        AllWaitFree world st.trace f.scene.path hs → back world hs v s (x ∷ st.trace) ≡ Running after → Comes st after
    after_end [] v x s after q p w r = absurd (cc (r))
    after_end (h ∷ hs) v x s after q p (path, w, rest) r = subst (Comes st) (same_state _ after r) (comes h.0.begun w.is)
      where
        under : is_under x.path ((h.0.scene.turn, h.1.node) ∷ h.0.scene.path) ≡ true
        under = subst (λ z. is_under x.path z ≡ true) path (subst (λ z. is_under z f.scene.path ≡ true) (sym p) (under_itself f.scene.path))

        below : AllWaitFree world (x ∷ st.trace) h.0.scene.path hs
        below = held_on st.trace x h.0.scene.path hs (under_tail x.path (h.0.scene.turn, h.1.node) h.0.scene.path under) rest

        comes : (o : Option Begun) → o ≡ Some w.expression →
            Comes st (record { top = next world h.0 o (Ev h.1) v; held = hs; store = s; trace = x ∷ st.trace })
        comes None e = absurd (cc (e))
        comes (Some e) is =
            subst (λ z. Comes st (record { top = next world h.0 z (Ev h.1) v; held = hs; store = s; trace = x ∷ st.trace })) (sym is) (
              ends h w.expression w.is w.body
                  (taken_so world st.trace (x ∷ st.trace) h.0.scene w.expression w.passed w.ahead h.1 v w.stands
                  (held_items st.trace x h.0.scene h.1 w.passed w.body (not_passed world h.0.scene w.expression w.passed w.ahead h.1 w.stands.along) under)
                  (record h.0 { begun = Some (with_given w.expression h.1 v) }) refl refl)
                  q,
              record { entry = x; newest = refl; path = p },
              below,
            )

    -- whatever the pick does
    after_move : (p : Pick) (m : Move Local) (v : Value) (x : Entry) (s : Store) (after : State) → move world f f.begun p ≡ m →
        ((u : Place) → p ≡ Ev u → IsEntryOf f.scene u x) → x.path ≡ f.scene.path → AreBare p x → Fits st.trace f.scene f.begun p →
        moved world st p m v s (x ∷ st.trace) ≡ Running after → Comes st after
    after_move Control Stay v x s after is at path bare fit r = subst (Comes st) (same_state _ after r) (after_control f.begun v x s refl path)
    after_move (Ev u) Stay v x s after is at path bare fit r =
        subst (Comes st) (same_state _ after r) (after_event f.begun (Ev u) v x s refl u refl (at u refl) bare fit)
    after_move Control (Start g) v x s after is at path bare fit r = absurd (cc (r))
    after_move (Ev u) (Start g) v x s after is at path bare fit r =
        subst (Comes st) (same_state _ after r)
        (after_start f.begun (Ev u) g x s refl u refl (at u refl) (subst (IsFresh f.scene u) is (move_fresh f f.begun u)) fit)
    after_move Control End v x s after is at path bare fit r = after_end st.held v x s after refl path a.held r
    after_move (Ev u) End v x s after is at path bare fit r = absurd (subst NoEnd is (move_goes f f.begun u))

    after_act : (p : Pick) (act : Act Value) (after : State) → run world.rows (does world f f.begun p) st.store ≡ act → Fits st.trace f.scene f.begun p →
        acted world st p act ≡ Running after → Comes st after
    after_act p (Done v is s) after ran fit r =
        after_move p (move world f f.begun p) v (entry_of world f p is) s after refl
        (λ u e. record { path = refl; turn = refl; place = ap place_of e }) refl
        (λ e u q pe k ts there. value_bare world f.scene e u st.store v is s k ts there
        (subst (λ o. run world.rows (does world f o (Ev u)) st.store ≡ Done v is s) q
        (subst (λ z. run world.rows (does world f f.begun z) st.store ≡ Done v is s) pe ran))) fit
        (through_limited world.limits _ after r)
    after_act p (Raised c) after ran fit r = absurd (cc (r))
    after_act p (Ended n is s) after ran fit r = absurd (cc (r))
    after_act p (Outside c n) after ran fit r = absurd (cc (r))
    after_act p Unplaced after ran fit r = absurd (let z = through_within _ No_row after r in cc (z))

    pub goes : (after : State) → step world st (canonical_pick world f f.begun) ≡ Running after → Comes st after
    goes after r =
        after_act (canonical_pick world f f.begun) _ after refl (fits st.trace f f.begun a.top) (through_within _ _ after r)

pub picks_come_to : PicksComeTo
picks_come_to world st after a r = goes world st a after r
