-- The canonical order of a run whose first finding is clean is an order of the machine without conflicts.
use Rattle.std.proofs.Common.{◌≡◌, ℕ, zero, suc, ◌+◌, ◌≤◌, Bool, true, false, if◌then◌else◌, List, [], ◌∷◌, ◌++◌, length, Option, Some, None, is_some}
use Rattle.std.proofs.Common.{refl, sym, ap, ◌∙◌, subst, inl, inr, arith}
use Rattle.std.specs.Prelude.{nat_lt, nat_le}
use Rattle.std.proofs.lemmas.Bool.Decides.{nat_tests}
use Rattle.ub_base.specs.Frames.{Path}
use Rattle.ub_base.specs.declared.clause.Cause.{Cause}
use Rattle.ub_base.specs.declared.clause.Cause.TheVariants.{Depth, Created, Output}
use Rattle.ub_base.specs.declared.names.Item.{Item}
use Rattle.c_typed.specs.declared.tree.Place.{Place}
use Rattle.mem_spec.specs.Store.{Store}
use Rattle.mem_spec.specs.Script.{Give, Act, Done, Raised, Ended, Outside, Unplaced, run, Touch, Bury, item_of, refuses, left}
use Rattle.mem_laws.specs.Frame.{gives as gives_value}
use Rattle.mem_laws.proofs.Scripts.{stepped}
use Rattle.mem_spec.specs.Streams.{Outputs, total}
use Rattle.c_model.specs.Program.{Decl}
use Rattle.c_model.specs.Control.{Todo, Leave, ready_work}
use Rattle.order_laws.specs.Asking.{LibraryAsked}
use Rattle.order_laws.proofs.RunLimits.{Within}
use Rattle.order_laws.proofs.ProgramAsks.{ends_still}
use Rattle.c_model.specs.World.{World}
use Rattle.c_model.specs.Values.{Value}
use Rattle.c_model.specs.Moves.{Move, Stay, Start, End}
use Rattle.c_model.specs.Steps.{Scene, Local, Begun, Pick, Control, Ev, does, move, next, auto_name, kill_all, turn_of, result_of, control_act, control_move}
use Rattle.c_model.specs.Runs.{Entry, State, No_row, Ends, Running, depth_of, limit_passed, limited, within, enter_passes, allocation_passes}
use Rattle.c_model.specs.Runs.{pick_allocates, entry_of, back, moved, acted, step, status_of, canonical_pick}
use Rattle.c_model.specs.Findings.{is_under}
use Rattle.c_model.specs.FirstFinding.{Pair, Finding, Clean, raced_or, quarrel_or, races, quarrels, least_pair, open_on_top, ends_in, all_open, shown_at}
use Rattle.c_model.specs.FirstFinding.{found_from}
use Rattle.c_model.specs.Machine.{Machine, Does}
use Rattle.c_model.specs.ModelMachine.{done_by, gives, start_where, done_in, ready_in, beside_in, frame_machine}
use Rattle.machine_laws.specs.Orders as orders
use Rattle.machine_laws.specs.Orders.{going, over, ended, added, May, stay, enter, leave, stop, Quiet, HeldQuiet, NoneBeside, Alone, AllAlone}
use Rattle.machine_laws.specs.Cuts.{Result, gave, said}
use Rattle.machine_laws.specs.Limits as limits
use Rattle.order_laws.specs.FrameEnds.{weight, frame_ends, ended_by}
use Rattle.order_laws.specs.StoreParts.{Part, Seen, Fact, store_parts}
use Rattle.order_laws.specs.ProgramTells.{told_machine, told_ends}
use Rattle.order_laws.specs.PermittedPicks.{ClosedIn}
use Rattle.order_laws.specs.EveryRun.{EndsWith}
use Rattle.machine_laws.specs.QuietOrders.{LooksAt, QuietOrder, is_over, is_ended, goes}
use Rattle.order_laws.proofs.Permitted.{picks_agree, canonical_is_permitted}
use Rattle.order_laws.proofs.RunSteps.{Plain, start_plain, starts_fresh}
use Rattle.order_laws.proofs.Traces.{Event, Held, AllDone, moves}
use Rattle.order_laws.proofs.TraceItems.{Logged, other_frame, other_place, logged_new, logged_more}
use Rattle.order_laws.proofs.FrameEvents.{depth_same, order_of, done_on, event_scene, event_function, event_closed, event_no_end}
use Rattle.order_laws.proofs.QuietFrames.{AllLogged, LevelAll, levels_on, level_now, quiet_frame, free_settled, free_ends, EndsFree, all_end_free}
use Rattle.order_laws.proofs.QuietFrames.{top_ends_free, HasEnd, lone_event, ready_begun, left_pick, HeldAll, all_logged, under_refl, under_tail, held_on}
use Rattle.order_laws.proofs.QuietFrames.{held_keep, held_end, run_has_end}

-- what stands behind the limits of a pick that passes none
pub fits_of : (world : World) (d : ℕ) (s : Store) → limit_passed world.limits d s ≡ None → Within world.limits.created world.limits.output s
fits_of world d s h = go (nat_lt world.limits.depth d) (nat_lt world.limits.created s.created) (nat_lt world.limits.output (total s.output)) refl refl h
  where
    low : (a b : ℕ) → nat_lt a b ≡ false → b ≤ a
    low a b e = grind (arith, nat_tests, e)

    go : (a b c : Bool) → nat_lt world.limits.created s.created ≡ b → nat_lt world.limits.output (total s.output) ≡ c
        → if◌then◌else◌ {A = Option (Cause × ℕ)} a (Some (Depth, d)) (if◌then◌else◌ {A = Option (Cause × ℕ)} b (Some (Created, s.created))
        (if◌then◌else◌ {A = Option (Cause × ℕ)} c (Some (Output, total s.output)) None)) ≡ None → Within world.limits.created world.limits.output s
    go false false false e k h = record {
      created_at_most = low world.limits.created s.created e;
      output_at_most =
          low world.limits.output (total s.output) k;
    }
    go true b c e k h = absurd (cc)
    go false true c e k h = absurd (cc)
    go false false true e k h = absurd (cc)

-- the end of a frame creates and prints nothing
module _ (world : World) (c o : ℕ) where
  give_still : (v w : Value) (s s1 : Store) (is : List Item) → Done v [] s ≡ Done w is s1 → Within c o s → Within c o s1
  give_still v w s s1 is e h = let q : s ≡ s1 = cc in subst (Within c o) q h

  kill_still : (sc : Scene) (turn k : ℕ) (ds : List Decl) (v w : Value) (s : Store) (is : List Item) (s1 : Store)
      → run world.rows (kill_all world sc turn k ds (Give v)) s ≡ Done w is s1
      → Within c o s → Within c o s1
  kill_still sc turn k [] v w s is s1 h fit = give_still v w s s1 is h fit
  kill_still sc turn k (d ∷ ds) v w s is s1 h fit =
      let t : Touch = Bury (auto_name world sc turn k) in
      let st = stepped (refuses t s) t (item_of t) (run world.rows (kill_all world sc turn (suc k) ds (Give v)) (left t s)) (gives_value w) is s1 h in
      kill_still sc turn (suc k) ds v w (left t s) st.rest s1 st.done (record { created_at_most = fit.created_at_most; output_at_most = fit.output_at_most })

  work_still : (f : Local) (t : Todo) (s : Store) (v : Value) (is : List Item) (s1 : Store) → control_move world t ≡ End
      → run world.rows (control_act world f t) s ≡ Done v is s1 → Within c o s → Within c o s1
  work_still f (Leave b ds ∷ rest) s v is s1 m h fit = kill_still f.scene (turn_of f.scene.blocks b) 0 ds (result_of world f) v s is s1 h fit
  work_still f [] s v is s1 m h fit = absurd (cc (m))
  work_still f (_ ∷ rest) s v is s1 m h fit = absurd (cc (m))

  leave_still : (f : Local) (b : Option Begun) (s : Store) (v : Value) (is : List Item) (s1 : Store) → move world f b Control ≡ End
      → run world.rows (does world f b Control) s ≡ Done v is s1
      → Within c o s → Within c o s1
  leave_still f None s v is s1 m h fit = work_still f (ready_work f.todo) s v is s1 m h fit
  leave_still f (Some e) s v is s1 m h fit = give_still (result_of world f) v s s1 is h fit

module _ (world : World) (asked : LibraryAsked world) (status : ℕ) (output : Outputs) (picks : ℕ) where
  abbrev pub Fit : Store → Type 0
  Fit s = Within world.limits.created world.limits.output s

  abbrev M : Machine (Local × ℕ) Pick Value Store Item Part Seen Fact
  M = told_machine world

  abbrev E : Local × ℕ → Pick → Store → Option (orders.Stopped ℕ Store Item)
  E = told_ends world

  abbrev B : Machine Local Pick Value Store Item Part Seen Fact
  B = frame_machine world (store_parts world.rows)

  abbrev limit : ℕ
  limit = world.limits.depth

  abbrev at : State → Local × ℕ
  at st = (st.top, depth_of st.top st.held)

  abbrev Told : Finding → Type 0
  Told x = x ≡ Clean status output picks

  -- a state of the canonical order, with what the frames that are open have done
  record Along (st : State) (es : List Event) (hs : List Held) : Type 0 where
    closed : ClosedIn world st.top st.top.begun
    done : AllDone st.top.begun es
    level : LevelAll world st.top es
    logged : AllLogged world st.trace st.top es
    held : HeldAll world st.trace st.held hs st.top.scene.path
    deep : depth_of st.top st.held ≤ limit
    empty : st.top.begun ≡ None → es ≡ []
    seen : least_pair world st.trace (quarrels world.rows) (open_on_top world st.trace st.top st.top.begun) ≡ None
    fits : Fit st.store

  -- from which it goes on quietly to the end of the run
  record Ran (st : State) (es : List Event) (hs : List Held) (n : ℕ) : Type 0 where
    k : ℕ
    result : Result Value ℕ
    last : Store
    order : QuietOrder M E (going (at st) es hs st.store) k result last
    ends : EndsWith result last status output
    count : n + k ≡ picks
    fits : Fit last

  -- a finding that is clean tells no pair
  found_split : (a b : Option Pair) (n : ℕ) (otherwise : Finding) → Told (raced_or n a (quarrel_or n b otherwise)) → (b ≡ None) × Told otherwise
  found_split None None n x h = (refl, h)
  found_split None (Some p) n x h = absurd (cc)
  found_split (Some p) b n x h = absurd (cc)

  quiet_at : (st : State) (es : List Event) (o : Option Begun) → st.top.begun ≡ o → ClosedIn world st.top st.top.begun → AllDone st.top.begun es
      → LevelAll world st.top es → AllLogged world st.trace st.top es
      → (st.top.begun ≡ None → es ≡ []) → least_pair world st.trace (quarrels world.rows) (open_on_top world st.trace st.top st.top.begun) ≡ None
      → ready_in world st.top.scene st.top.begun Control ≡ true → Quiet M E es
  quiet_at st es None e c dn lv lg em sn r = subst (Quiet M E) (sym (em e)) tt
  quiet_at st es (Some b) e c dn lv lg em sn r = quiet_frame world st.trace st.top es (ap is_some e) c
      (free_settled world st.trace st.top st.top.begun r sn) dn lv lg

  quiet_settled : (st : State) (es : List Event) (hs : List Held) → Along st es hs → ready_in world st.top.scene st.top.begun Control ≡ true → Quiet M E es
  quiet_settled st es hs a r = quiet_at st es st.top.begun refl a.closed a.done a.level a.logged a.empty a.seen r

  -- what is looked at before a pick that goes on
  looks : (st : State) (es : List Event) (hs : List Held) (p : Pick) (v : Value) (is : List Item) (s1 : Store) → Along st es hs → May M E (at st) p
      → run world.rows (does world st.top st.top.begun p) st.store ≡ Done v is s1 → LooksAt M E (at st) es hs st.store p
  looks st es hs Control v is s1 a may ran = record {
    control = λ c. quiet_settled st es hs a may.0;
    quiet_end = λ n js s2 e. absurd (cc (ap ended_by (sym ran) ∙ e));
    lone_end = λ n js s2 e. absurd (cc (ap ended_by (sym ran) ∙ e));
  }
  looks st es hs (Ev u) v is s1 a may ran = record {
    control = λ c. absurd (cc (c));
    quiet_end = λ n js s2 e. absurd (cc (ap ended_by (sym ran) ∙ e));
    lone_end = λ n js s2 e. absurd (cc (ap ended_by (sym ran) ∙ e));
  }

  -- moves of the machine
  stay_where : (b : Bool) → start_where b Stay ≡ Stay
  stay_where true = refl
  stay_where false = refl

  end_where : (b : Bool) → start_where b End ≡ End
  end_where true = refl
  end_where false = refl

  move_at : ℕ → Move Local → Move (Local × ℕ)
  move_at = limits.move_at B (frame_ends world) weight limit

  stays : (f : Local) (d : ℕ) (p : Pick) → move world f f.begun p ≡ Stay → M.move (f, d) p ≡ Stay
  stays f d p e = ap (limits.move_at B (frame_ends world) weight limit d)
      (ap (start_where (gives (does world f f.begun p))) e ∙ stay_where (gives (does world f f.begun p)))

  leaves : (f : Local) (d : ℕ) (p : Pick) → move world f f.begun p ≡ End → M.move (f, d) p ≡ End
  leaves f d p e = ap (limits.move_at B (frame_ends world) weight limit d)
      (ap (start_where (gives (does world f f.begun p))) e ∙ end_where (gives (does world f f.begun p)))

  does_stay : (f : Local) (d : ℕ) (p : Pick) (s : Store) (v : Value) (is : List Item) (s1 : Store) → move world f f.begun p ≡ Stay
      → run world.rows (does world f f.begun p) s ≡ Done v is s1 → Does M (f, d) p s v is s1
  does_stay f d p s v is s1 e ran =
      ap (λ z. limits.does_at B (frame_ends world) weight limit d z (done_by (run world.rows (does world f f.begun p) s)))
      (ap (start_where (gives (does world f f.begun p))) e ∙ stay_where (gives (does world f f.begun p)))
      ∙ ap done_by ran

  does_leave : (f : Local) (d : ℕ) (p : Pick) (s : Store) (v : Value) (is : List Item) (s1 : Store) → move world f f.begun p ≡ End
      → run world.rows (does world f f.begun p) s ≡ Done v is s1 → Does M (f, d) p s v is s1
  does_leave f d p s v is s1 e ran =
      ap (λ z. limits.does_at B (frame_ends world) weight limit d z (done_by (run world.rows (does world f f.begun p) s)))
      (ap (start_where (gives (does world f f.begun p))) e ∙ end_where (gives (does world f f.begun p)))
      ∙ ap done_by ran

  le_test : (a b : ℕ) → a ≤ b → nat_le a b ≡ true
  le_test a b h = grind (arith, nat_tests, h)

  starts_at : (f : Local) (d : ℕ) (p : Pick) (g : Local) (v : Value) → move world f f.begun p ≡ Start g → does world f f.begun p ≡ Give v
      → d + weight g ≤ limit → M.move (f, d) p ≡ Start (g, d + weight g)
  starts_at f d p g v e sc l =
      ap (limits.move_at B (frame_ends world) weight limit d) (ap (start_where (gives (does world f f.begun p))) e
      ∙ ap (λ z. start_where (gives z) (Start g)) sc)
      ∙ ap (λ b. limits.start_if B (frame_ends world) weight limit b (g, d + weight g)) (le_test (d + weight g) limit l)

  -- limits that are kept
  limited_split : (st st2 : State) (n : ℕ) (on : State → Finding) → Told (shown_at world st (limited world.limits (Running st2)) n on)
      → (depth_of st2.top st2.held ≤ limit) × (least_pair world st2.trace (quarrels world.rows) (open_on_top world st2.trace st2.top st2.top.begun) ≡ None)
      × Told (on st2) × Fit st2.store
  limited_split st st2 n on h = go (limit_passed world.limits (depth_of st2.top st2.held) st2.store) refl h
    where
      deep : (b : Bool) (r : Option (Cause × ℕ)) → nat_lt limit (depth_of st2.top st2.held) ≡ b
          → if◌then◌else◌ {A = Option (Cause × ℕ)} b (Some (Depth, depth_of st2.top st2.held)) r ≡ None → depth_of st2.top st2.held ≤ limit
      deep false r e h = grind (arith, nat_tests, e)
      deep true r e h = absurd (cc)

      go : (o : Option (Cause × ℕ)) → limit_passed world.limits (depth_of st2.top st2.held) st2.store ≡ o
          → Told (shown_at world st (within o (Running st2)) n on)
          → (depth_of st2.top st2.held ≤ limit) × (least_pair world st2.trace (quarrels world.rows) (open_on_top world st2.trace st2.top st2.top.begun) ≡
          None) × Told (on st2) × Fit st2.store
      go None e h =
          (let f = found_split (least_pair world st2.trace (races world.rows) (open_on_top world st2.trace st2.top st2.top.begun))
          (least_pair world st2.trace (quarrels world.rows) (open_on_top world st2.trace st2.top st2.top.begun)) (suc n) (on st2) h in
          (deep (nat_lt limit (depth_of st2.top st2.held)) _ refl e, f.0, f.1, fits_of world (depth_of st2.top st2.held) st2.store e))
      go (Some c) e h = absurd (cc)

  module _ (st : State) (es : List Event) (hs : List Held) (a : Along st es hs) (n : ℕ) (on : State → Finding)
      (again : (st2 : State) (es2 : List Event) (hs2 : List Held) → Along st2 es2 hs2 → Told (on st2) → Ran st2 es2 hs2 (suc n)) where
    abbrev f : Local
    f = st.top

    abbrev D : ℕ
    D = depth_of st.top st.held

    one_more : (p : Pick) (c : orders.State (Local × ℕ) Pick Value ℕ Store Item) (v : Value) (is : List Item) (s1 : Store) → May M E (at st) p
        → run world.rows (does world f f.begun p) st.store ≡ Done v is s1
        → orders.Step M E (at st) es hs st.store p c → (k : ℕ) (o : Result Value ℕ) (s' : Store) → QuietOrder M E c k o s' → EndsWith o s' status output
        → suc n + k ≡ picks → Fit s' → Ran st es hs n
    one_more p c v is s1 may ran step k o s' q e cnt fit = record {
      k = suc k;
      result = o;
      last = s';
      order = goes (at st) es hs st.store p c k o s' may step (looks st es hs p v is s1 a may ran) q;
      ends = e;
      count = omega (arith, cnt);
      fits = fit;
    }

    control_stays : (v : Value) (is : List Item) (s1 : Store) → May M E (at st) Control → move world f f.begun Control ≡ Stay
        → run world.rows (does world f f.begun Control) st.store ≡ Done v is s1
        → Told (shown_at world st (limited world.limits (Running (record
        { top = next world f f.begun Control v; held = st.held; store = s1; trace = entry_of world f Control is ∷ st.trace }))) n on) → Ran st es hs n
    control_stays v is s1 may mv ran h =
        let g = next world f f.begun Control v in
        let x = entry_of world f Control is in
        let st2 : State = record { top = g; held = st.held; store = s1; trace = x ∷ st.trace } in
        let m = moves world f f.begun v refl in
        let l = limited_split st st2 n on h in
        let depth = depth_same world g f st.held (sym m.function) in
        let r = again st2 [] (added is hs) (record {
          closed = m.closed;
          done = tt;
          level = tt;
          logged = tt;
          held = subst (HeldAll world (x ∷ st.trace) st.held (added is hs)) m.path
              (held_on world st.trace x st.held hs f.scene.path (omega arith) (under_refl world f.scene.path) a.held);
          deep = l.0;
          empty = λ e. refl;
          seen = l.1;
          fits = l.3;
        }) l.2 in
        one_more Control (going (g, D) [] (added is hs) s1) v is s1 may ran
        (stay v is s1 (stays f D Control mv) (does_stay f D Control st.store v is s1 mv ran)) r.k r.result r.last
        (subst (λ z. QuietOrder M E (going (g, z) [] (added is hs) s1) r.k r.result r.last) depth r.order) r.ends r.count r.fits

    event_stays : (u : Place) (v : Value) (is : List Item) (s1 : Store) → May M E (at st) (Ev u) → move world f f.begun (Ev u) ≡ Stay
        → run world.rows (does world f f.begun (Ev u)) st.store ≡ Done v is s1
        → Told (shown_at world st (limited world.limits (Running (record
        { top = next world f f.begun (Ev u) v; held = st.held; store = s1; trace = entry_of world f (Ev u) is ∷ st.trace }))) n on) → Ran st es hs n
    event_stays u v is s1 may mv ran h =
        let g = next world f f.begun (Ev u) v in
        let x = entry_of world f (Ev u) is in
        let st2 : State = record { top = g; held = st.held; store = s1; trace = x ∷ st.trace } in
        let l = limited_split st st2 n on h in
        let y : Event = record { frame = (f, D); pick = Ev u; items = is } in
        let depth = depth_same world g f st.held (event_function world f f.begun u v) in
        let sc = event_scene world f f.begun u v in
        let old = all_logged world st.trace x f es (λ w dw. other_place world.rows f.scene.path f.scene.turn w u x refl
        (λ q. left_pick world f.begun f.scene u may.0 (subst (λ z. done_in f.begun (Ev z) ≡ true) q dw))) a.done a.logged in
        let r = again st2 (y ∷ es) (added is hs) (record {
          closed = event_closed world f f.begun u v may.0 a.closed;
          done = ((order_of world).done_next f (Ev u) v may.0 refl, done_on world f (Ev u) v es may.0 refl a.done);
          level = levels_on world f (Ev u) v (y ∷ es) may.0 refl (level_now world f D u is es may.0 a.done, a.level);
          logged = at_scene (x ∷ st.trace) f g (y ∷ es) sc ((u, refl, logged_new world.rows st.trace f.scene.path f.scene.turn u x refl refl refl), old);
          held = subst (HeldAll world (x ∷ st.trace) st.held (added is hs)) (ap (λ z. z.path) (sym sc))
              (held_on world st.trace x st.held hs f.scene.path (omega arith) (under_refl world f.scene.path) a.held);
          deep = l.0;
          empty = λ e. absurd (still_begun f.begun u v may.0 e);
          seen = l.1;
          fits = l.3;
        }) l.2 in
        one_more (Ev u) (going (g, D) (y ∷ es) (added is hs) s1) v is s1 may ran
        (stay v is s1 (stays f D (Ev u) mv) (does_stay f D (Ev u) st.store v is s1 mv ran)) r.k r.result r.last
        (subst (λ z. QuietOrder M E (going (g, z) (y ∷ es) (added is hs) s1) r.k r.result r.last) depth r.order) r.ends r.count r.fits
      where
        at_scene : (t : List Entry) (l g : Local) (ds : List Event) → g.scene ≡ l.scene → AllLogged world t l ds → AllLogged world t g ds
        at_scene t l g [] e h = tt
        at_scene t l g (d ∷ ds) e ((w, p, lg), hs) = ((w, p, subst (λ z. Logged world.rows t z.path z.turn w d.items) (sym e) lg), at_scene t l g ds e hs)

        still_begun : (o : Option Begun) (u : Place) (v : Value) → ready_in world f.scene o (Ev u) ≡ true → (next world f o (Ev u) v).begun ≡ None → ⊥
        still_begun None u v r e = cc (r)
        still_begun (Some b) u v r e = cc (e)

    give_same : (v w : Value) (s s1 : Store) (is : List Item) → Done v [] s ≡ Done w is s1 → ([] ≡ is) × (s ≡ s1)
    give_same v w s s1 is e = (cc, cc)

    frame_starts : (u : Place) (g : Local) (v : Value) (is : List Item) (s1 : Store) → May M E (at st) (Ev u) → move world f f.begun (Ev u) ≡ Start g
        → run world.rows (does world f f.begun (Ev u)) st.store ≡ Done v is s1
        → Told (shown_at world st (limited world.limits (Running (record
        { top = g; held = (f, u) ∷ st.held; store = s1; trace = entry_of world f (Ev u) is ∷ st.trace }))) n on) → Ran st es hs n
    frame_starts u g v is s1 may mv ran h = go (start_plain world f f.begun (Ev u) g mv).0
      where
        swap : (a b : ℕ) → a + b ≡ b + a
        swap a b = omega arith

        go : Plain (does world f f.begun (Ev u)) → Ran st es hs n
        go (inr (c, e)) = absurd (cc (ap (λ z. run world.rows z st.store) (sym e) ∙ ran))
        go (inl (w, e)) =
            let same = give_same w v st.store s1 is (ap (λ z. run world.rows z st.store) (sym e) ∙ ran) in
            let fr = starts_fresh world f f.begun u g mv in
            let x = entry_of world f (Ev u) is in
            let st2 : State = record { top = g; held = (f, u) ∷ st.held; store = s1; trace = x ∷ st.trace } in
            let l = limited_split st st2 n on h in
            let y : Held = record { frame = (f, D); pick = Ev u; items = []; past = es } in
            let others = λ (q : Place) (dq : done_in f.begun (Ev q) ≡ true). other_place world.rows f.scene.path f.scene.turn q u x refl
            (λ z. left_pick world f.begun f.scene u may.0 (subst (λ p. done_in f.begun (Ev p) ≡ true) z dq)) in
            let own = logged_new world.rows st.trace f.scene.path f.scene.turn u x refl refl refl in
            let r = again st2 [] (y ∷ hs) (record {
              closed = subst (ClosedIn world g) (sym fr.begun) tt;
              done = tt;
              level = tt;
              logged = tt;
              held = (
                record {
                  frame = refl;
                  pick = refl;
                  body = fr.body;
                  way = fr.path;
                  ready = may.0;
                  closed = a.closed;
                  done = a.done;
                  level = a.level;
                  past = all_logged world st.trace x f es others a.done a.logged;
                  own = subst (Logged world.rows (x ∷ st.trace) f.scene.path f.scene.turn u) (sym same.0) own;
                },
                held_keep world st.trace x st.held hs f.scene.path (omega arith) a.held,
              );
              deep = l.0;
              empty = λ q. refl;
              seen = l.1;
              fits = l.3;
            }) l.2 in
            let fit : D + weight g ≤ limit = subst (λ z. z ≤ limit) (swap (weight g) D) l.0 in
            one_more (Ev u) (going (g, D + weight g) [] (y ∷ hs) st.store) v is s1 may ran (enter (g, D + weight g) (starts_at f D (Ev u) g w mv e fit)) r.k
            r.result r.last
            (subst (λ z. QuietOrder M E (going (g, z) [] (y ∷ hs) st.store) r.k r.result r.last) (swap (weight g) D)
            (subst (λ z. QuietOrder M E (going (g, weight g + D) [] (y ∷ hs) z) r.k r.result r.last) (sym same.1) r.order)) r.ends r.count r.fits

    clean_parts : (m i j : ℕ) (o : Outputs) → Clean m o i ≡ Clean status output j → (m ≡ status) × (o ≡ output) × (i ≡ j)
    clean_parts m i j o e = (cc, cc, cc)

    -- the frame ends
    back_leads : (x : Entry) (v : Value) (is : List Item) (s1 : Store) (ms : List (Local × Place)) (ks : List Held) (path : Path) → x.items ≡ is
        → length path ≤ length x.path → is_under x.path path ≡ true
        → HeldAll world st.trace ms ks path → Fit s1 → Told (shown_at world st (limited world.limits (back world ms v s1 (x ∷ st.trace))) n on)
        → (k : ℕ) × (o : Result Value ℕ) × (s' : Store) × QuietOrder M E (orders.back M E (added is ks) v s1) k o s' × EndsWith o s' status output
        × (suc n + k ≡ picks) × Fit s'
    back_leads x v is s1 [] [] path xi l un ok fit h =
        let p = found_split _ _ (suc n) (Clean (status_of v) s1.output (suc n)) h in
        let c = clean_parts (status_of v) (suc n) picks s1.output p.1 in
        (0, gave v, s1, is_over v s1, (c.0, c.1), (let q = c.2 in omega (arith, q)), fit)
    back_leads x v is s1 [] (y ∷ ks) path xi l un ok fit h = absurd ok
    back_leads x v is s1 (m ∷ ms) [] path xi l un ok fit h = absurd ok
    back_leads x v is s1 (m ∷ ms) (y ∷ ks) path xi l un (b, ok) fit h =
        let lf = m.0 in
        let u = m.1 in
        let g = next world lf lf.begun (Ev u) v in
        let d = depth_of lf ms in
        let js = y.items ++ is in
        let st2 : State = record { top = g; held = ms; store = s1; trace = x ∷ st.trace } in
        let sp = limited_split st st2 n on h in
        let ev : Event = record { frame = (lf, d); pick = Ev u; items = js } in
        let sc = event_scene world lf lf.begun u v in
        let k = ap length b.way in
        let un2 = subst (λ z. is_under x.path z ≡ true) b.way un in
        let past = all_logged world st.trace x lf y.past (λ w dw. other_frame world.rows lf.scene.path lf.scene.turn w x (omega (arith, k, l))) b.done b.past
        in
        let own = logged_more world.rows st.trace lf.scene.path lf.scene.turn u y.items x b.body
        (other_frame world.rows lf.scene.path lf.scene.turn u x (omega (arith, k, l))) un2 b.own in
        let own2 = subst (λ z. Logged world.rows (x ∷ st.trace) lf.scene.path lf.scene.turn u (y.items ++ z)) xi own in
        let depth = depth_same world g lf ms (event_function world lf lf.begun u v) in
        let rest = held_on world st.trace x ms ks lf.scene.path (omega (arith, k, l)) (under_tail world x.path (lf.scene.turn, u.node) lf.scene.path un2) ok in
        let r = again st2 (ev ∷ y.past) (added is ks) (record {
          closed = event_closed world lf lf.begun u v b.ready b.closed;
          done = ((order_of world).done_next lf (Ev u) v b.ready refl, done_on world lf (Ev u) v y.past b.ready refl b.done);
          level = levels_on world lf (Ev u) v (ev ∷ y.past) b.ready refl (level_now world lf d u js y.past b.ready b.done, b.level);
          logged = to_scene (x ∷ st.trace) lf g (ev ∷ y.past) sc ((u, refl, own2), past);
          held = subst (HeldAll world (x ∷ st.trace) ms (added is ks)) (ap (λ z. z.path) (sym sc))
              (subst (λ z. HeldAll world (x ∷ st.trace) ms (added z ks) lf.scene.path) xi rest);
          deep = sp.0;
          empty = λ e. absurd (goes_begun lf lf.begun u v b.ready e);
          seen = sp.1;
          fits = sp.3;
        }) sp.2 in
        let q1 = subst (λ z. QuietOrder M E (going (g, z) (ev ∷ y.past) (added is ks) s1) r.k r.result r.last) depth r.order in
        let q2 = subst (λ z. QuietOrder M E (going (M.next (lf, d) z v) (orders.then_past M E (lf, d) z js y.past) (added is ks) s1) r.k r.result r.last)
        (sym b.pick) q1 in
        let q3 = subst (λ z. QuietOrder M E (going (M.next z y.pick v) (orders.then_past M E z y.pick js y.past) (added is ks) s1) r.k r.result r.last)
        (sym b.frame) q2 in
        (r.k, r.result, r.last, q3, r.ends, r.count, r.fits)
      where
        to_scene : (t : List Entry) (l g : Local) (ds : List Event) → g.scene ≡ l.scene → AllLogged world t l ds → AllLogged world t g ds
        to_scene t l g [] e h = tt
        to_scene t l g (d ∷ ds) e ((w, p, lg), hs) = ((w, p, subst (λ z. Logged world.rows t z.path z.turn w d.items) (sym e) lg), to_scene t l g ds e hs)

        goes_begun : (l : Local) (o : Option Begun) (u : Place) (v : Value) → ready_in world l.scene o (Ev u) ≡ true
            → (next world l o (Ev u) v).begun ≡ None → ⊥
        goes_begun l None u v r e = cc (r)
        goes_begun l (Some b) u v r e = cc (e)

    frame_ends_at : (v : Value) (is : List Item) (s1 : Store) → May M E (at st) Control → move world f f.begun Control ≡ End
        → run world.rows (does world f f.begun Control) st.store ≡ Done v is s1
        → Told (shown_at world st (limited world.limits (back world st.held v s1 (entry_of world f Control is ∷ st.trace))) n on) → Ran st es hs n
    frame_ends_at v is s1 may mv ran h =
        let x = entry_of world f Control is in
        let r = back_leads x v is s1 st.held hs f.scene.path refl (omega arith) (under_refl world f.scene.path) a.held
        (leave_still world world.limits.created world.limits.output f f.begun st.store v is s1 mv ran a.fits) h in
        one_more Control (orders.back M E (added is hs) v s1) v is s1 may ran
        (leave v is s1 (leaves f D Control mv) (does_leave f D Control st.store v is s1 mv ran)) r.0 r.1 r.2 r.3 r.4 r.5 r.6

    -- the run ends
    run_ends_at : (p : Pick) (m : ℕ) (is : List Item) (s1 : Store) → May M E (at st) p → run world.rows (does world f f.begun p) st.store ≡ Ended m is s1
        → Told (shown_at world st (Ends m s1.output (entry_of world f p is ∷ st.trace)) n on) → Ran st es hs n
    run_ends_at p m is s1 may ran h =
        let x = entry_of world f p is in
        let tr = x ∷ st.trace in
        let fs = found_split _ (least_pair world tr (quarrels world.rows) (all_open world tr st.held (ends_in world tr f f.begun []))) (suc n)
        (Clean m s1.output (suc n)) h in
        let c = clean_parts m (suc n) picks s1.output fs.1 in
        let af = all_end_free world tr st.held (ends_in world tr f f.begun []) fs.0 in
        let top = top_ends_free world tr f af.1 in
        let he = run_has_end world (does world f f.begun p) st.store m is s1 ran in
        let held = held_end world tr st.trace x st.held hs f.scene.path refl (omega arith) (under_refl world f.scene.path) he af.0 a.held in
        let e : orders.Ends M E (at st) p st.store m is s1 = ap ended_by ran in
        record {
          k = 1;
          result = said m;
          last = s1;
          order = goes (at st) es hs st.store p (ended m s1) 0 (said m) s1 may (stop m is s1 e) (ends_look p m is s1 may he top held.0 held.1) (is_ended m s1);
          ends = (c.0, c.1);
          count = (let q = c.2 in omega (arith, q));
          fits = subst Fit (ends_still world asked f p st.store m is s1 ran) a.fits;
        }
      where
        none_control : (o : Option Begun) (q : Pick) → beside_in world f.scene o q Control ≡ false
        none_control None q = refl
        none_control (Some b) Control = refl
        none_control (Some b) (Ev w) = refl

        no_beside : (ds : List Event) → NoneBeside M E (at st) Control ds
        no_beside [] = tt
        no_beside (d ∷ ds) = (none_control f.begun d.pick, no_beside ds)

        ends_look : (p : Pick) (m : ℕ) (is : List Item) (s1 : Store) → May M E (at st) p → HasEnd world is
            → EndsFree world (entry_of world f p is ∷ st.trace) f f.begun → HeldQuiet M E hs → AllAlone M E hs
            → LooksAt M E (at st) es hs st.store p
        ends_look Control m is s1 may he top hq al =
            let q = quiet_settled st es hs a may.0 in
            record {
              control = λ c. q;
              quiet_end = λ k js s2 e. (q, hq);
              lone_end = λ k js s2 e. (record { only = λ y ry. sym ((order_of world).alone f Control y may.0 refl ry); none_beside = no_beside es }, al);
            }
        ends_look (Ev u) m is s1 may he top hq al =
            let x = entry_of world f (Ev u) is in
            let old = all_logged world st.trace x f es (λ w dw. other_place world.rows f.scene.path f.scene.turn w u x refl
            (λ z. left_pick world f.begun f.scene u may.0 (subst (λ p. done_in f.begun (Ev p) ≡ true) z dw))) a.done a.logged in
            let own = logged_new world.rows st.trace f.scene.path f.scene.turn u x refl refl refl in
            record {
              control = λ c. absurd (cc (c));
              quiet_end = λ k js s2 e. (
                quiet_frame world (x ∷ st.trace) f es (ready_begun world f.begun f.scene u may.0) a.closed
                    (free_ends world (x ∷ st.trace) f f.begun top) a.done a.level old,
                hq,
              );
              lone_end = λ k js s2 e. (lone_event world (x ∷ st.trace) f D u is es top he own may.0 a.closed a.done old, al);
            }

    -- whatever the pick does
    at_move : (p : Pick) (mv : Move Local) (v : Value) (is : List Item) (s1 : Store) → May M E (at st) p → move world f f.begun p ≡ mv
        → run world.rows (does world f f.begun p) st.store ≡ Done v is s1
        → Told (shown_at world st (limited world.limits (moved world st p mv v s1 (entry_of world f p is ∷ st.trace))) n on) → Ran st es hs n
    at_move Control Stay v is s1 may e ran h = control_stays v is s1 may e ran h
    at_move (Ev u) Stay v is s1 may e ran h = event_stays u v is s1 may e ran h
    at_move Control (Start g) v is s1 may e ran h = absurd (cc (h))
    at_move (Ev u) (Start g) v is s1 may e ran h = frame_starts u g v is s1 may e ran h
    at_move Control End v is s1 may e ran h = frame_ends_at v is s1 may e ran h
    at_move (Ev u) End v is s1 may e ran h = absurd (event_no_end world f u may.0 e)

    at_act : (p : Pick) (r : Act Value) → May M E (at st) p → run world.rows (does world f f.begun p) st.store ≡ r
        → Told (shown_at world st (acted world st p r) n on) → Ran st es hs n
    at_act p (Done v is s1) may ran h = at_move p (move world f f.begun p) v is s1 may refl ran h
    at_act p (Ended m is s1) may ran h = run_ends_at p m is s1 may ran h
    at_act p (Raised c) may ran h = absurd (cc (h))
    at_act p (Outside c m) may ran h = absurd (cc (h))
    at_act p Unplaced may ran h = absurd (unplaced (allocation_passes world.limits st.store (pick_allocates world f f.begun p)) h)
      where
        unplaced : (o : Option (Cause × ℕ)) → Told (shown_at world st (within o No_row) n on) → ⊥
        unplaced None h = cc (h)
        unplaced (Some c) h = cc (h)

    at_pick : (p : Pick) → May M E (at st) p → Told (shown_at world st (step world st p) n on) → Ran st es hs n
    at_pick p may h = go (enter_passes world.limits st p) h
      where
        go : (o : Option (Cause × ℕ)) → Told (shown_at world st (within o (acted world st p (run world.rows (does world f f.begun p) st.store))) n on)
            → Ran st es hs n
        go None h = at_act p (run world.rows (does world f f.begun p) st.store) may refl h
        go (Some c) h = absurd (cc (h))

  ran_from : (left n : ℕ) (st : State) (es : List Event) (hs : List Held) → Along st es hs → Told (found_from world left n st) → Ran st es hs n
  ran_from zero n st es hs a h = absurd (cc (h))
  ran_from (suc left) n st es hs a h =
      at_pick st es hs a n (found_from world left (suc n)) (λ st2 es2 hs2 a2 h2. ran_from left (suc n) st2 es2 hs2 a2 h2)
      (canonical_pick world st.top st.top.begun)
      ((picks_agree world st.top (canonical_pick world st.top st.top.begun) a.closed).0 (canonical_is_permitted world st.top a.closed)) h

  -- from the start
  pub first_ran : (budget : ℕ) (st : State) → st.top.begun ≡ None → st.held ≡ [] → depth_of st.top st.held ≤ limit → Fit st.store
      → Told (found_from world budget 0 st)
      → (o : Result Value ℕ) × (s' : Store) × QuietOrder M E (going (at st) [] [] st.store) picks o s' × EndsWith o s' status output × Fit s'
  first_ran budget st nb nh dp fit h =
      let r = ran_from budget 0 st [] [] (record {
        closed = subst (ClosedIn world st.top) (sym nb) tt;
        done = tt;
        level = tt;
        logged = tt;
        held = subst (λ z. HeldAll world st.trace z [] st.top.scene.path) (sym nh) tt;
        deep = dp;
        empty = λ e. refl;
        seen = subst (λ z. least_pair world st.trace (quarrels world.rows) (open_on_top world st.trace st.top z) ≡ None) (sym nb) refl;
        fits = fit;
      }) h in (
        r.result,
        r.last,
        subst (λ z. QuietOrder M E (going (at st) [] [] st.store) z r.result r.last) (let q = r.count in omega (arith, q)) r.order,
        r.ends,
        r.fits,
      )
