-- Every permitted order of the model is one of the machine, so where each of those is fine, so is each of these.
use Rattle.std.proofs.Common.{◌≡◌, ◌≢◌, ℕ, suc, ◌+◌, ◌^◌, ◌<◌, ◌≤◌, Bool, true, false, if◌then◌else◌, true≢false, List, [], ◌∷◌, ◌++◌, length, Option}
use Rattle.std.proofs.Common.{Some, None, is_some, refl, sym, ap, ◌∙◌, subst, ◌⊎◌, inl, inr, arith}
use Rattle.ub_base.specs.Frames.{Path}
use Rattle.ub_base.specs.declared.clause.Kind.{Kind}
use Rattle.ub_base.specs.declared.clause.Kind.TheVariants.{Body}
use Rattle.ub_base.specs.declared.names.Item.{Item}
use Rattle.c_typed.specs.declared.tree.Place.{Place}
use Rattle.c_typed.specs.Order.{place, same_place, is_body}
use Rattle.mem_spec.specs.Store.{Store}
use Rattle.mem_spec.specs.Script.{Act, Done, Raised, Ended, Outside, Unplaced, run}
use Rattle.mem_spec.specs.Streams.{Outputs}
use Rattle.c_model.specs.World.{World}
use Rattle.c_model.specs.Values.{Value}
use Rattle.c_model.specs.Moves.{Move, Stay, Start, End}
use Rattle.c_model.specs.Steps.{Local, Pick, Control, Ev, MayPick, does, move, next}
use Rattle.c_model.specs.Runs.{Entry, place_of, State, Outcome, Refused, Ends, Running, trace_of, status_of, depth_of, limited, limit_passed, within}
use Rattle.c_model.specs.Runs.{enter_passes, begun_of, entry_of, back, moved, acted, step, After, here, refused, last, more, too_late}
use Rattle.addr_map.specs.Conflict.{some_conflict as conflict}
use Rattle.c_model.specs.Findings.{is_under, items_under, items_of, Has, first, newest, AreApart, is_due_in}
use Rattle.c_model.specs.Claims.{GoesWell}
use Rattle.c_model.specs.Machine.{Machine, Does}
use Rattle.c_model.specs.ModelMachine.{done_in, ready_in}
use Rattle.order_laws.specs.StoreParts.{Part, Seen, Fact}
use Rattle.machine_laws.specs.Orders as orders
use Rattle.machine_laws.specs.Orders.{going, over, ended, added, May, Order, pick, stay, enter, leave, stop, Alone}
use Rattle.machine_laws.specs.Cuts.{Result, gave, said}
use Rattle.machine_laws.specs.EveryOrder.{IsFine}
use Rattle.machine_laws.specs.Limits.{store_of}
use Rattle.order_laws.specs.FrameEnds.{weight, ended_by}
use Rattle.order_laws.specs.ProgramTells.{told_machine, told_ends}
use Rattle.order_laws.specs.PermittedPicks.{ClosedIn}
use Rattle.order_laws.specs.EveryRun.{EndsWith}
use Rattle.mem_laws.specs.Frame.{finishes, gives as gives_value}
use Rattle.order_laws.proofs.Permitted.{picks_agree}
use Rattle.order_laws.proofs.RunLimits.{Fits, enters_within, none_passed}
use Rattle.order_laws.proofs.RunSteps.{start_plain, starts_fresh, lifted, pick_agrees, pick_starts}
use Rattle.order_laws.proofs.FrameEvents.{depth_same, order_of, done_on, event_seen, ready_begun, event_scene, event_function, event_closed, event_no_end}
use Rattle.order_laws.proofs.Traces.{place_is, body_place, none_begun, path_is, has_cases, IsNewest, Event, Held, AllDone, moves}
use Rattle.order_laws.proofs.QuietFrames.{left_pick, under_refl}
use Rattle.order_laws.proofs.TraceItems.{Sub, joined_free}
use Rattle.order_laws.proofs.OpenFrames.{not_under, FrameOk, AllStood, AllSeen, RootedAt, Rooted, rooted_on, rooted_next, rooted_of, none_under, waiting}
use Rattle.order_laws.proofs.OpenFrames.{HeldOk, held_next, after_control, after_event, goes_on_as}
use Rattle.order_laws.proofs.QuietTraces.{Endless, ConflictFree, EndsApart, endless_apart, run_goes_on, quiet_pair, free_next, among_done, lone_pair}
use Rattle.order_laws.proofs.QuietTraces.{lone_due, end_free, end_apart}

module _ (world : World) (small : world.limits.created < 2 ^ 62) (f0 : Local × ℕ) (s0 : Store) (k : ℕ) (o0 : Result Value ℕ) (last_store : Store) where
  abbrev M : Machine (Local × ℕ) Pick Value Store Item Part Seen Fact
  M = told_machine world

  abbrev E : Local × ℕ → Pick → Store → Option (orders.Stopped ℕ Store Item)
  E = told_ends world

  abbrev State' : Type 0
  State' = orders.State (Local × ℕ) Pick Value ℕ Store Item

  -- what is known of each state that an order of the machine leads to
  abbrev Law : Type 0
  Law = (b : State') (ps : List Pick) → Order M E (going f0 [] [] s0) ps b → (n : ℕ) × (length ps + n ≡ k) × IsFine M E b n o0 last_store

  abbrev Limit : Type 0
  Limit = (b : State') (ps : List Pick) → Order M E (going f0 [] [] s0) ps b → Fits world small (store_of b)

  -- one pick more
  snoc : (a : State') (ps : List Pick) (f : Local × ℕ) (es : List Event) (hs : List Held) (s : Store) (q : Pick) (c : State')
      → Order M E a ps (going f es hs s) → May M E f q → orders.Step M E f es hs s q c
      → Order M E a (ps ++ q ∷ []) c
  snoc _ _ f es hs s q c (orders.here _) may st = pick f es hs s q c c [] may st (orders.here c)
  snoc _ _ f es hs s q c (pick g ds ks t p a _ ps m st ord) may st2 = pick g ds ks t p a c (ps ++ q ∷ []) m st (snoc a ps f es hs s q c ord may st2)

  length_snoc : (ps : List Pick) (q : Pick) → length (ps ++ q ∷ []) ≡ suc (length ps)
  length_snoc [] q = refl
  length_snoc (p ∷ ps) q = ap suc (length_snoc ps q)

  -- a state of the model with the machine's
  pub record Reach (st : State) (qs : List Pick) : Type 0 where
    pub es : List Event
    pub hs : List Held
    pub order : Order M E (going f0 [] [] s0) qs (going (st.top, depth_of st.top st.held) es hs st.store)
    pub deep : depth_of st.top st.held ≤ world.limits.depth
    pub closed : ClosedIn world st.top st.top.begun
    pub ok : FrameOk world st.trace st.top es
    pub done : AllDone st.top.begun es
    pub seen : AllSeen world st.top.begun es
    pub stood : AllStood world es
    pub held : HeldOk world st.trace st.held hs st.top.scene.path
    pub root : RootedAt world st.trace st.top.scene.path
    pub rooted : Rooted world st.trace
    pub free : ConflictFree world st.trace
    pub endless : Endless st.trace

  -- what a pick leads to
  data Leads (qs : List Pick) : Outcome → Type 0 where
    goes_on : (st : State) → Reach st qs → Leads qs (Running st)
    comes_to : (n : ℕ) (output : Outputs) (trace : List Entry) → EndsWith o0 last_store n output → ConflictFree world trace → EndsApart trace → length qs ≤ k
        → Leads qs (Ends n output trace)

  within_none : (o : Option _) (r : Outcome) → o ≡ None → within o r ≡ r
  within_none None r e = refl
  within_none (Some c) r e = absurd (cc)

  -- what a pick that was done is in the model
  done_step : (st : State) (p : Pick) (v : Value) (is : List Item) (s1 : Store) → run world.rows (does world st.top st.top.begun p) st.store ≡ Done v is s1
      → Fits world small s1
      → step world st p ≡ limited world.limits (moved world st p (move world st.top st.top.begun p) v s1 (entry_of world st.top p is ∷ st.trace))
  done_step st p v is s1 e w =
      within_none (enter_passes world.limits st p) (acted world st p (run world.rows (does world st.top st.top.begun p) st.store))
      (enters_within world small st p (gives_value v) is s1 e w)
      ∙ ap (acted world st p) e

  not_over : (st : State) → depth_of st.top st.held ≤ world.limits.depth → Fits world small st.store → limited world.limits (Running st) ≡ Running st
  not_over st d w = within_none (limit_passed world.limits (depth_of st.top st.held) st.store) (Running st)
      (none_passed world small (depth_of st.top st.held) st.store d w)

  -- moves without their depth
  lifted_stay : (d : ℕ) (mv : Move Local) → lifted world d mv ≡ Stay → mv ≡ Stay
  lifted_stay d Stay h = refl
  lifted_stay d End h = absurd (cc)
  lifted_stay d (Start g) h = absurd (cc)

  lifted_end : (d : ℕ) (mv : Move Local) → lifted world d mv ≡ End → mv ≡ End
  lifted_end d End h = refl
  lifted_end d Stay h = absurd (cc)
  lifted_end d (Start g) h = absurd (cc)

  ended_was : (a : Act Value) (n : ℕ) (is : List Item) (s1 : Store) → ended_by a ≡ Some (record { number = n; items = is; store = s1 }) → a ≡ Ended n is s1
  ended_was (Ended m js t) n is s1 h = (let e = same _ _ h in ap (λ d. Ended d.number d.items d.store) e)
    where
      same : (a b : orders.Stopped ℕ Store Item) → Some a ≡ Some b → a ≡ b
      same a b e = cc
  ended_was (Done v js t) n is s1 h = absurd (cc)
  ended_was (Raised c) n is s1 h = absurd (cc)
  ended_was (Outside c m) n is s1 h = absurd (cc)
  ended_was Unplaced n is s1 h = absurd (cc)

  -- without items nothing is added to the bodies that wait
  nil_right : (is : List Item) → is ++ [] ≡ is
  nil_right [] = refl
  nil_right (i ∷ is) = ap (λ z. i ∷ z) (nil_right is)

  none_added : (hs : List Held) → added [] hs ≡ hs
  none_added [] = refl
  none_added (h ∷ hs) = λ j. record { frame = h.frame; pick = h.pick; items = nil_right h.items j; past = h.past } ∷ none_added hs j

  -- a body that is ready has started no frame
  not_rooted : (st : State) (qs : List Pick) (r : Reach st qs) (u : Place) → ready_in world st.top.scene st.top.begun (Ev u) ≡ true → is_body u.kind ≡ true
      → RootedAt world st.trace ((st.top.scene.turn, u.node) ∷ st.top.scene.path) → ⊥
  not_rooted st qs r u rd ub (rt, rs) =
      let c = r.ok.covers rt.entry (place u.node Body) rt.among rt.of_frame rt.of_turn (ready_begun world st.top.scene st.top.begun u rd) in
      left_pick world st.top.begun st.top.scene u rd
      (subst (λ z. done_in st.top.begun (Ev z) ≡ true) (sym (body_place u ub)) (among_done world st.top st.trace (place u.node Body) rt.entry r.es c r.done))

  -- so the trace has no more items of an event that is picked than its own
  own_items : (st : State) (qs : List Pick) (r : Reach st qs) (u : Place) (is : List Item) → ready_in world st.top.scene st.top.begun (Ev u) ≡ true
      → Sub world.rows (items_of (entry_of world st.top (Ev u) is ∷ st.trace) (entry_of world st.top (Ev u) is) u) is
  own_items st qs r u is rd ks h = go (is_body u.kind) refl
    where
      q : Path
      q = (st.top.scene.turn, u.node) ∷ st.top.scene.path

      none_more : is_body u.kind ≡ true → (if is_under st.top.scene.path q then is else []) ++ items_under q st.trace ≡ []
      none_more ub =
          ap (λ b. (if b then is else []) ++ items_under q st.trace) (not_under st.top.scene.path q (omega arith))
          ∙ none_under world st.trace q (not_rooted st qs r u rd ub) st.trace r.rooted

      go : (b : Bool) → is_body u.kind ≡ b → conflict world.rows (is ++
          (if b then (if is_under st.top.scene.path q then is else []) ++ items_under q st.trace else [])) ks ≡ false
      go false k = joined_free world.rows is [] ks h refl
      go true k = joined_free world.rows is _ ks h (ap (λ z. conflict world.rows z ks) (none_more k))

  module _ (law : Law) (fits : Limit) where
    -- a control step that stays in its frame
    control_stays : (st : State) (qs : List Pick) (r : Reach st qs) (v : Value) (is : List Item) (s1 : Store)
        → May M E (st.top, depth_of st.top st.held) Control
        → M.move (st.top, depth_of st.top st.held) Control ≡ Stay → Does M (st.top, depth_of st.top st.held) Control st.store v is s1
        → Leads (qs ++ Control ∷ []) (step world st Control)
    control_stays st qs r v is s1 may mv d =
        let D = depth_of st.top st.held in
        let ag = pick_agrees world st.top D Control st.store v is s1 d in
        let g = next world st.top st.top.begun Control v in
        let x = entry_of world st.top Control is in
        let m = moves world st.top st.top.begun v refl in
        let depth = depth_same world g st.top st.held (sym m.function) in
        let ord = snoc (going f0 [] [] s0) qs (st.top, D) r.es r.hs st.store Control (going (g, D) [] (added is r.hs) s1) r.order may (stay v is s1 mv d) in
        let ord2 = subst (λ z. Order M E (going f0 [] [] s0) (qs ++ Control ∷ []) (going (g, z) [] (added is r.hs) s1)) (sym depth) ord in
        let w = fits (going (g, D) [] (added is r.hs) s1) (qs ++ Control ∷ []) ord in
        let fine = (law (going (g, D) [] (added is r.hs) s1) (qs ++ Control ∷ []) ord).2 in
        let held = held_next world st.trace x st.held r.hs st.top.scene.path (under_refl world st.top.scene.path) r.held in
        let next_state : State = record { top = g; held = st.held; store = s1; trace = x ∷ st.trace } in
        subst (Leads (qs ++ Control ∷ []))
        (sym (done_step st Control v is s1 ag.ran w ∙ (ap (λ z. limited world.limits (moved world st Control z v s1 (x ∷ st.trace)))
        (lifted_stay D (move world st.top st.top.begun Control) (sym ag.moved ∙ mv))
        ∙ not_over next_state (subst (λ z. z ≤ world.limits.depth) (sym depth) r.deep) w)))
        (goes_on next_state (record {
          es = [];
          hs = added is r.hs;
          order = ord2;
          deep = subst (λ z. z ≤ world.limits.depth) (sym depth) r.deep;
          closed = m.closed;
          ok = after_control world st.trace x st.top g r.es refl m r.ok;
          done = tt;
          seen = λ u d. absurd (m.none_done u d);
          stood = tt;
          held = subst (λ z. HeldOk world (x ∷ st.trace) st.held (added is r.hs) z) m.path held;
          root = subst (RootedAt world (x ∷ st.trace)) m.path (rooted_on world st.trace x st.top.scene.path r.root);
          rooted = rooted_next world st.trace x r.rooted r.root;
          free = free_next world x st.trace st.held (added is r.hs) held fine.2 r.free (λ e a b n apart. absurd (let q = n.at in cc (q)));
          endless = (run_goes_on world (does world st.top st.top.begun Control) st.store v is s1 ag.ran, r.endless);
        }))

    -- an event that stays in its frame
    event_stays : (st : State) (qs : List Pick) (r : Reach st qs) (u : Place) (v : Value) (is : List Item) (s1 : Store)
        → May M E (st.top, depth_of st.top st.held) (Ev u)
        → M.move (st.top, depth_of st.top st.held) (Ev u) ≡ Stay → Does M (st.top, depth_of st.top st.held) (Ev u) st.store v is s1
        → Leads (qs ++ Ev u ∷ []) (step world st (Ev u))
    event_stays st qs r u v is s1 may mv d =
        let f = st.top in
        let D = depth_of st.top st.held in
        let ag = pick_agrees world f D (Ev u) st.store v is s1 d in
        let g = next world f f.begun (Ev u) v in
        let x = entry_of world f (Ev u) is in
        let bf = ready_begun world f.scene f.begun u may.0 in
        let depth = depth_same world g f st.held (event_function world f f.begun u v) in
        let y : Event = record { frame = (f, D); pick = Ev u; items = is } in
        let ord = snoc (going f0 [] [] s0) qs (f, D) r.es r.hs st.store (Ev u) (going (g, D) (y ∷ r.es) (added is r.hs) s1) r.order may (stay v is s1 mv d) in
        let ord2 = subst (λ z. Order M E (going f0 [] [] s0) (qs ++ Ev u ∷ []) (going (g, z) (y ∷ r.es) (added is r.hs) s1)) (sym depth) ord in
        let w = fits (going (g, D) (y ∷ r.es) (added is r.hs) s1) (qs ++ Ev u ∷ []) ord in
        let fine = (law (going (g, D) (y ∷ r.es) (added is r.hs) s1) (qs ++ Ev u ∷ []) ord).2 in
        let ok = after_event world st.trace x f f r.es y u refl refl refl refl bf r.done
        (record { pick = refl; stood = refl; items = own_items st qs r u is may.0 }) r.ok in
        let stood : AllStood world (y ∷ r.es) = (record { at = u; pick = refl; ready = may.0; closed = r.closed; done = r.done }, r.stood) in
        let held = held_next world st.trace x st.held r.hs f.scene.path (under_refl world f.scene.path) r.held in
        let next_state : State = record { top = g; held = st.held; store = s1; trace = x ∷ st.trace } in
        subst (Leads (qs ++ Ev u ∷ []))
        (sym (done_step st (Ev u) v is s1 ag.ran w ∙ (ap (λ z. limited world.limits (moved world st (Ev u) z v s1 (x ∷ st.trace)))
        (lifted_stay D (move world f f.begun (Ev u)) (sym ag.moved ∙ mv))
        ∙ not_over next_state (subst (λ z. z ≤ world.limits.depth) (sym depth) r.deep) w)))
        (goes_on next_state (record {
          es = y ∷ r.es;
          hs = added is r.hs;
          order = ord2;
          deep = subst (λ z. z ≤ world.limits.depth) (sym depth) r.deep;
          closed = event_closed world f f.begun u v may.0 r.closed;
          ok = goes_on_as world (x ∷ st.trace) f g (y ∷ r.es) (event_scene world f f.begun u v) bf ok;
          done = ((order_of world).done_next f (Ev u) v may.0 refl, done_on world f (Ev u) v r.es may.0 refl r.done);
          seen = event_seen world f f.begun u v y r.es refl may.0 r.seen;
          stood = stood;
          held = subst (λ z. HeldOk world (x ∷ st.trace) st.held (added is r.hs) z) (ap (λ z. z.path) (sym (event_scene world f f.begun u v))) held;
          root = subst (RootedAt world (x ∷ st.trace)) (ap (λ z. z.path) (sym (event_scene world f f.begun u v)))
              (rooted_on world st.trace x f.scene.path r.root);
          rooted = rooted_next world st.trace x r.rooted r.root;
          free = free_next world x st.trace st.held (added is r.hs) held fine.2 r.free
              (λ e a b n apart. quiet_pair world (x ∷ st.trace) x e a b apart (y ∷ r.es)
              (ok.pairs x e a b (newest x e st.trace a b n.at n.among n.of_frame n.of_turn) refl refl bf) fine.1 stood);
          endless = (run_goes_on world (does world f f.begun (Ev u)) st.store v is s1 ag.ran, r.endless);
        }))

    -- a body that starts a frame
    frame_starts : (st : State) (qs : List Pick) (r : Reach st qs) (u : Place) (g : Local × ℕ) → May M E (st.top, depth_of st.top st.held) (Ev u)
        → M.move (st.top, depth_of st.top st.held) (Ev u) ≡ Start g → Leads (qs ++ Ev u ∷ []) (step world st (Ev u))
    frame_starts st qs r u g may mv =
        let f = st.top in
        let D = depth_of st.top st.held in
        let sp = pick_starts world f D (Ev u) g mv in
        let fr = starts_fresh world f f.begun u g.0 sp.moved in
        let x = entry_of world f (Ev u) [] in
        let bf = ready_begun world f.scene f.begun u may.0 in
        let ub = body_place u fr.body in
        let h : Held = record { frame = (f, D); pick = Ev u; items = []; past = r.es } in
        let ran = ap (λ z. run world.rows z st.store) sp.script in
        let w = fits (going (f, D) r.es r.hs st.store) qs r.order in
        let depth : g.1 ≡ depth_of g.0 ((f, u) ∷ st.held) = sp.depth ∙ swap D (weight g.0) in
        let ord = snoc (going f0 [] [] s0) qs (f, D) r.es r.hs st.store (Ev u) (going g [] (h ∷ r.hs) st.store) r.order may (enter g mv) in
        let ord2 = subst (λ z. Order M E (going f0 [] [] s0) (qs ++ Ev u ∷ []) (going (g.0, z) [] (h ∷ r.hs) st.store)) depth ord in
        let fine = (law (going g [] (h ∷ r.hs) st.store) (qs ++ Ev u ∷ []) ord).2 in
        let ok = after_event world st.trace x f f r.es (waiting h) u refl refl refl refl bf r.done
        (record { pick = refl; stood = refl; items = own_items st qs r u [] may.0 }) r.ok in
        let stood : AllStood world (waiting h ∷ r.es) = (record { at = u; pick = refl; ready = may.0; closed = r.closed; done = r.done }, r.stood) in
        let below = subst (λ z. HeldOk world (x ∷ st.trace) st.held z f.scene.path) (none_added r.hs)
        (held_next world st.trace x st.held r.hs f.scene.path (under_refl world f.scene.path) r.held) in
        let deep : depth_of g.0 ((f, u) ∷ st.held) ≤ world.limits.depth = subst (λ z. z ≤ world.limits.depth) (swap D (weight g.0)) sp.deep in
        let next_state : State = record { top = g.0; held = (f, u) ∷ st.held; store = st.store; trace = x ∷ st.trace } in
        subst (Leads (qs ++ Ev u ∷ []))
        (sym (done_step st (Ev u) sp.value [] st.store ran w ∙ (ap (λ z. limited world.limits (moved world st (Ev u) z sp.value st.store (x ∷ st.trace)))
        sp.moved ∙ not_over next_state deep w)))
        (goes_on next_state (record {
          es = [];
          hs = h ∷ r.hs;
          order = ord2;
          deep = deep;
          closed = subst (ClosedIn world g.0) (sym fr.begun) tt;
          ok = record {
            covers = λ e v hs s t b. absurd (true≢false (sym b ∙ ap is_some fr.begun));
            pairs = λ d e a v bo s t b. absurd (true≢false (sym b ∙ ap is_some fr.begun));
            old = λ e v hs s. absurd (never_seen x refl e v hs (sym s ∙ fr.path));
          };
          done = tt;
          seen = λ v d. absurd (none_begun g.0.begun fr.begun v d);
          stood = tt;
          held = (
            record {
              frame = refl;
              pick = refl;
              body = ub;
              way = fr.path;
              ready = may.0;
              closed = r.closed;
              done = r.done;
              seen = r.seen;
              stood = stood;
              root = rooted_on world st.trace x f.scene.path r.root;
              ok = ok;
            },
            below,
          );
          root = subst (RootedAt world (x ∷ st.trace)) (sym fr.path) (
            record {
              entry = x;
              among = first x st.trace (place u.node Body) (ap Some ub);
              of_frame = refl;
              of_turn = refl;
            },
            rooted_on world st.trace x f.scene.path r.root,
          );
          rooted = rooted_next world st.trace x r.rooted r.root;
          free = free_next world x st.trace st.held r.hs below fine.2.1 r.free
              (λ e a b n apart. quiet_pair world (x ∷ st.trace) x e a b apart (waiting h ∷ r.es)
              (ok.pairs x e a b (newest x e st.trace a b n.at n.among n.of_frame n.of_turn) refl refl bf) fine.2.0 stood);
          endless = (refl, r.endless);
        }))
      where
        swap : (a b : ℕ) → a + b ≡ b + a
        swap a b = omega arith

        never_seen : (x : Entry) → x.path ≡ st.top.scene.path → (e : Entry) (v : Place) → Has (x ∷ st.trace) e v
            → e.path ≡ (st.top.scene.turn, u.node) ∷ st.top.scene.path → ⊥
        never_seen x xp e v hs way = go (has_cases x st.trace e v hs)
          where
            go : ((x ≡ e) × (x.place ≡ Some v)) ⊎ Has st.trace e v → ⊥
            go (inl q) = (let k = ap length (sym xp ∙ (ap (λ z. z.path) q.0 ∙ way)) in omega (arith, k))
            go (inr h) = not_rooted st qs r u may.0 (starts_fresh world st.top st.top.begun u g.0
                (pick_starts world st.top (depth_of st.top st.held) (Ev u) g mv).moved).body
                (subst (RootedAt world st.trace) way (rooted_of world st.trace st.trace e v h r.rooted))

    -- the end of a frame
    back_leads : (trace : List Entry) (x : Entry) (qs : List Pick) (v : Value) (s1 : Store) (ms : List (Local × Place)) (hs : List Held) (path : Path)
        → x.place ≡ None → path ≡ x.path
        → HeldOk world trace ms hs path → Order M E (going f0 [] [] s0) qs (orders.back M E (added x.items hs) v s1) → (d : ℕ) → d ≤ world.limits.depth
        → ((m : Local × Place) (rest : List (Local × Place)) → ms ≡ m ∷ rest → depth_of m.0 rest ≤ d) → Rooted world trace → RootedAt world trace x.path
        → ConflictFree world trace → Endless (x ∷ trace)
        → Leads qs (limited world.limits (back world ms v s1 (x ∷ trace)))
    back_leads trace x qs v s1 [] [] path bare same ok ord d dl deep rooted root free endless =
        let l = law (over v s1) qs ord in
        comes_to (status_of v) s1.output (x ∷ trace) (ends_so l.2.0 l.2.1)
        (free_next world x trace [] [] (sym same ∙ ok) tt free (λ e a b n apart. absurd (let q = n.at in cc (bare, q))))
        (endless_apart (x ∷ trace) endless) (let e = l.1 in omega (arith, e))
      where
        ends_so : o0 ≡ gave v → s1 ≡ last_store → EndsWith o0 last_store (status_of v) s1.output
        ends_so a b = subst (λ z. EndsWith z last_store (status_of v) s1.output) (sym a) (refl, ap (λ z. z.output) (sym b))
    back_leads trace x qs v s1 [] (h ∷ hs) path bare same ok ord d dl deep rooted root free endless = absurd ok
    back_leads trace x qs v s1 (m ∷ ms) [] path bare same ok ord d dl deep rooted root free endless = absurd ok
    back_leads trace x qs v s1 (m ∷ ms) (h ∷ hs) path bare same (hf, ok) ord d dl deep rooted root free endless =
        let l = m.0 in
        let u = m.1 in
        let js = h.items ++ x.items in
        let g = next world l l.begun (Ev u) v in
        let D = depth_of l ms in
        let bf = ready_begun world l.scene l.begun u hf.ready in
        let y : Event = record { frame = (l, D); pick = Ev u; items = js } in
        let before = law (going (M.next h.frame h.pick v) (orders.then_past M E h.frame h.pick js h.past) (added x.items hs) s1) qs ord in
        let a1 = subst (λ z. Order M E (going f0 [] [] s0) qs (going (M.next z h.pick v) (orders.then_past M E z h.pick js h.past) (added x.items hs) s1))
        hf.frame ord in
        let a2 = subst (λ z. Order M E (going f0 [] [] s0) qs (going (M.next (l, D) z v) (orders.then_past M E (l, D) z js h.past) (added x.items hs) s1))
        hf.pick a1 in
        let w = fits (going (g, D) (y ∷ h.past) (added x.items hs) s1) qs a2 in
        let depth = depth_same world g l ms (event_function world l l.begun u v) in
        let low : depth_of g ms ≤ world.limits.depth = (let p = deep m ms refl in omega (arith, p, dl, depth)) in
        let next_state : State = record { top = g; held = ms; store = s1; trace = x ∷ trace } in
        let full = held_next world trace x (m ∷ ms) (h ∷ hs) path (subst (λ z. is_under x.path z ≡ true) (sym same) (under_refl world x.path)) (hf, ok) in
        let here : record { frame = h.frame; pick = h.pick; items = js } ≡ y = λ j. record { frame = hf.frame j; pick = hf.pick j; items = js } in
        subst (Leads qs) (sym (not_over next_state low w)) (goes_on next_state (record {
          es = y ∷ h.past;
          hs = added x.items hs;
          order = subst (λ z. Order M E (going f0 [] [] s0) qs (going (g, z) (y ∷ h.past) (added x.items hs) s1)) (sym depth) a2;
          deep = low;
          closed = event_closed world l l.begun u v hf.ready hf.closed;
          ok = goes_on_as world (x ∷ trace) l g (y ∷ h.past) (event_scene world l l.begun u v) bf
              (subst (λ z. FrameOk world (x ∷ trace) l (z ∷ h.past)) here full.0.ok);
          done = ((order_of world).done_next l (Ev u) v hf.ready refl, done_on world l (Ev u) v h.past hf.ready refl hf.done);
          seen = event_seen world l l.begun u v y h.past refl hf.ready hf.seen;
          stood = subst (λ z. AllStood world (z ∷ h.past)) here full.0.stood;
          held = subst (λ z. HeldOk world (x ∷ trace) ms (added x.items hs) z) (ap (λ z. z.path) (sym (event_scene world l l.begun u v))) full.1;
          root = subst (RootedAt world (x ∷ trace)) (ap (λ z. z.path) (sym (event_scene world l l.begun u v))) (rooted_on world trace x l.scene.path hf.root);
          rooted = rooted_next world trace x rooted root;
          free = free_next world x trace (m ∷ ms) (added x.items (h ∷ hs))
              (subst (λ z. HeldOk world (x ∷ trace) (m ∷ ms) (added x.items (h ∷ hs)) z) same full) (before.2.1, before.2.2) free
              (λ e a b n apart. absurd (let q = n.at in cc (bare, q)));
          endless = endless;
        }))

    frame_ends_at : (st : State) (qs : List Pick) (r : Reach st qs) (v : Value) (is : List Item) (s1 : Store)
        → May M E (st.top, depth_of st.top st.held) Control
        → M.move (st.top, depth_of st.top st.held) Control ≡ End → Does M (st.top, depth_of st.top st.held) Control st.store v is s1
        → Leads (qs ++ Control ∷ []) (step world st Control)
    frame_ends_at st qs r v is s1 may mv d =
        let D = depth_of st.top st.held in
        let ag = pick_agrees world st.top D Control st.store v is s1 d in
        let x = entry_of world st.top Control is in
        let ord = snoc (going f0 [] [] s0) qs (st.top, D) r.es r.hs st.store Control (orders.back M E (added is r.hs) v s1) r.order may (leave v is s1 mv d) in
        let w = fits (orders.back M E (added is r.hs) v s1) (qs ++ Control ∷ []) ord in
        subst (Leads (qs ++ Control ∷ []))
        (sym (done_step st Control v is s1 ag.ran (stored (added is r.hs) w)
        ∙ ap (λ z. limited world.limits (moved world st Control z v s1 (x ∷ st.trace)))
        (lifted_end D (move world st.top st.top.begun Control) (sym ag.moved ∙ mv))))
        (back_leads st.trace x (qs ++ Control ∷ []) v s1 st.held r.hs st.top.scene.path refl refl r.held ord D r.deep (λ m rest e. lower m rest e) r.rooted
        r.root r.free
        (run_goes_on world (does world st.top st.top.begun Control) st.store v is s1 ag.ran, r.endless))
      where
        stored : (hs : List Held) → Fits world small (store_of (orders.back M E hs v s1)) → Fits world small s1
        stored [] w = w
        stored (h ∷ hs) w = w

        lower : (m : Local × Place) (rest : List (Local × Place)) → st.held ≡ m ∷ rest → depth_of m.0 rest ≤ depth_of st.top st.held
        lower m rest e = subst (λ z. depth_of m.0 rest ≤ depth_of st.top z) (sym e) (above (weight st.top) (depth_of m.0 rest))
          where
            above : (a b : ℕ) → b ≤ a + b
            above a b = omega arith

    -- the end of the run
    run_ends_at : (st : State) (qs : List Pick) (r : Reach st qs) (p : Pick) (n : ℕ) (is : List Item) (s1 : Store) →
        May M E (st.top, depth_of st.top st.held) p
        → orders.Ends M E (st.top, depth_of st.top st.held) p st.store n is s1 → Leads (qs ++ p ∷ []) (step world st p)
    run_ends_at st qs r p n is s1 may e =
        let D = depth_of st.top st.held in
        let ran = ended_was (run world.rows (does world st.top st.top.begun p) st.store) n is s1 e in
        let x = entry_of world st.top p is in
        let ord = snoc (going f0 [] [] s0) qs (st.top, D) r.es r.hs st.store p (ended n s1) r.order may (stop n is s1 e) in
        let w = fits (ended n s1) (qs ++ p ∷ []) ord in
        let l = law (ended n s1) (qs ++ p ∷ []) ord in
        let here_fine = (law (going (st.top, D) r.es r.hs st.store) qs r.order).2 in
        let lone = here_fine.3 p may n is s1 e in
        subst (Leads (qs ++ p ∷ []))
        (sym (within_none (enter_passes world.limits st p) (acted world st p (run world.rows (does world st.top st.top.begun p) st.store))
        (enters_within world small st p (finishes n) is s1 ran w) ∙ ap (acted world st p) ran))
        (comes_to n s1.output (x ∷ st.trace) (ends_so l.2.0 l.2.1)
        (end_free world x st.trace st.held r.hs r.held lone.1 r.free (λ d u v nw apart. no_pair p d u v may lone.0 nw apart))
        (end_apart world x st.trace st.held r.hs r.held lone.1 r.endless (λ u v at due other apart. no_due p u v may lone.0 at due other apart))
        (let q = l.1 in omega (arith, q)))
      where
        ends_so : o0 ≡ said n → s1 ≡ last_store → EndsWith o0 last_store n s1.output
        ends_so a b = subst (λ z. EndsWith z last_store n s1.output) (sym a) (refl, ap (λ z. z.output) (sym b))

        no_pair : (p : Pick) (e : Entry) (u v : Place) → May M E (st.top, depth_of st.top st.held) p → Alone M E (st.top, depth_of st.top st.held) p r.es
            → IsNewest (entry_of world st.top p is) st.trace (entry_of world st.top p is) u e v → AreApart (begun_of world st.top st.top.begun) u v → ⊥
        no_pair Control e u v m al nw apart = cc (let a = nw.at in a)
        no_pair (Ev w) e u v m al nw apart =
            lone_pair world st.trace st.top (depth_of st.top st.held) w v e r.es m.0 r.closed r.done al.none_beside
            (r.ok.covers e v nw.among (path_is st.top.scene.path e.path nw.of_frame) nw.of_turn (ready_begun world st.top.scene st.top.begun w m.0))
            (subst (λ z. AreApart (begun_of world st.top st.top.begun) z v) (sym (place_is w u nw.at)) apart)

        no_due : (p : Pick) (u v : Place) → May M E (st.top, depth_of st.top st.held) p → Alone M E (st.top, depth_of st.top st.held) p r.es
            → place_of p ≡ Some u
            → is_due_in (begun_of world st.top st.top.begun) v ≡ true → same_place u v ≡ false → AreApart (begun_of world st.top st.top.begun) u v → ⊥
        no_due Control u v m al at due other apart = cc (at)
        no_due (Ev w) u v m al at due other apart =
            lone_due world st.top (depth_of st.top st.held) w v r.es st.top.begun refl m.0 r.closed r.seen al due
            (subst (λ z. same_place z v ≡ false) (sym (place_is w u at)) other)
            (subst (λ z. AreApart (begun_of world st.top st.top.begun) z v) (sym (place_is w u at)) apart)

    -- whatever the machine's pick does
    leads : (st : State) (qs : List Pick) (r : Reach st qs) (p : Pick) → May M E (st.top, depth_of st.top st.held) p → (a : State')
        → orders.Step M E (st.top, depth_of st.top st.held) r.es r.hs st.store p a → Leads (qs ++ p ∷ []) (step world st p)
    leads st qs r Control may _ (stay v is s1 mv d) = control_stays st qs r v is s1 may mv d
    leads st qs r (Ev u) may _ (stay v is s1 mv d) = event_stays st qs r u v is s1 may mv d
    leads st qs r Control may _ (enter g mv) =
        (let sp = pick_starts world st.top (depth_of st.top st.held) Control g mv in
        absurd (let e = (start_plain world st.top st.top.begun Control g.0 sp.moved).1.1 in cc (e)))
    leads st qs r (Ev u) may _ (enter g mv) = frame_starts st qs r u g may mv
    leads st qs r Control may _ (leave v is s1 mv d) = frame_ends_at st qs r v is s1 may mv d
    leads st qs r (Ev u) may _ (leave v is s1 mv d) =
        (let ag = pick_agrees world st.top (depth_of st.top st.held) (Ev u) st.store v is s1 d in
        absurd (event_no_end world st.top u may.0 (lifted_end (depth_of st.top st.held) (move world st.top st.top.begun (Ev u)) (sym ag.moved ∙ mv))))
    leads st qs r p may _ (stop n is s1 e) = run_ends_at st qs r p n is s1 may e

    pick_leads : (st : State) (qs : List Pick) (r : Reach st qs) (p : Pick) → MayPick world st.top st.top.begun p → Leads (qs ++ p ∷ []) (step world st p)
    pick_leads st qs r p may =
        let m = (picks_agree world st.top p r.closed).0 may in
        let fine = (law (going (st.top, depth_of st.top st.held) r.es r.hs st.store) qs r.order).2 in
        let a = fine.0.every p m in
        leads st qs r p m a.0 a.1

    -- what is said of each order
    pub record Alike (status : ℕ) (output : Outputs) (n : ℕ) (o : Outcome) : Type 0 where
      pub goes_well : GoesWell world status output o
      pub bounded : n ≤ k
      pub free : ConflictFree world (trace_of o)
      pub ends_apart : EndsApart (trace_of o)

    same_ends : (o : Result Value ℕ) (n m : ℕ) (a b : Outputs) → EndsWith o last_store n a → EndsWith o last_store m b → (n ≡ m) × (a ≡ b)
    same_ends (gave v) n m a b h g = (sym h.0 ∙ g.0, sym h.1 ∙ g.1)
    same_ends (said j) n m a b h g = (sym h.0 ∙ g.0, sym h.1 ∙ g.1)

    module _ (status : ℕ) (output : Outputs) (ends_as : EndsWith o0 last_store status output) where
      at_state : (st : State) (qs : List Pick) → Reach st qs → Alike status output (length qs) (Running st)
      at_state st qs r =
          let l = law (going (st.top, depth_of st.top st.held) r.es r.hs st.store) qs r.order in
          let one = l.2.0.one in
          record {
            goes_well = (one.0, (picks_agree world st.top one.0 r.closed).1 one.1);
            bounded = (let e = l.1 in omega (arith, e));
            free = r.free;
            ends_apart = endless_apart st.trace r.endless;
          }

      at_outcome : (qs : List Pick) (o : Outcome) → Leads qs o → Alike status output (length qs) o
      at_outcome qs _ (goes_on st r) = at_state st qs r
      at_outcome qs _ (comes_to n out trace e free apart b) = record
          { goes_well = same_ends o0 n status out output e ends_as; bounded = b; free = free; ends_apart = apart }

      running_is : (a b : State) → Running a ≡ Running b → a ≡ b
      running_is a b e = cc

      reach_of : (qs : List Pick) (o : Outcome) (st : State) → Leads qs o → o ≡ Running st → Reach st qs
      reach_of qs _ st (goes_on a r) e = subst (λ z. Reach z qs) (running_is a st e) r
      reach_of qs _ st (comes_to n out trace x free apart b) e = absurd (cc)

      pub follow : (st : State) (qs : List Pick) → Reach st qs → (ps : List Pick) (o : Outcome) → After world st ps o → o ≢ Refused
          → Alike status output (length qs + length ps) o
      follow st qs r _ _ (here _) ne = subst (λ n. Alike status output n (Running st)) (nought (length qs)) (at_state st qs r)
        where
          nought : (n : ℕ) → n ≡ n + 0
          nought n = omega arith
      follow st qs r _ _ (refused _ p ps no_pick) ne = absurd (ne refl)
      follow st qs r _ _ (last _ p may) ne = subst (λ n. Alike status output n (step world st p)) (one_more qs p)
          (at_outcome (qs ++ p ∷ []) (step world st p) (pick_leads st qs r p may))
        where
          one_more : (qs : List Pick) (p : Pick) → length (qs ++ p ∷ []) ≡ length qs + 1
          one_more qs p = let e = length_snoc qs p in omega (arith, e)
      follow st qs r _ o (more _ st2 p q ps _ may e later) ne =
          let r2 = reach_of (qs ++ p ∷ []) (step world st p) st2 (pick_leads st qs r p may) e in
          subst (λ n. Alike status output n o) (more_of qs p (length ps)) (follow st2 (qs ++ p ∷ []) r2 (q ∷ ps) o later ne)
        where
          more_of : (qs : List Pick) (p : Pick) (n : ℕ) → length (qs ++ p ∷ []) + suc n ≡ length qs + suc (suc n)
          more_of qs p n = let e = length_snoc qs p in omega (arith, e)
      follow st qs r _ _ (too_late _ p q ps may e) ne = absurd (ne refl)
