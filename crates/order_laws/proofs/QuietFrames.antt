-- Of the frames that are open along an order: their events are done, stand beside one another as they did, and have their items in the trace.
use Rattle.std.proofs.Common.{◌≡◌, ◌≢◌, ℕ, ◌≤◌, Bool, true, false, not, if◌then◌else◌, true≢false, List, [], ◌∷◌, ◌++◌, length, Option, Some, None}
use Rattle.std.proofs.Common.{is_some, refl, sym, ap, ◌∙◌, subst, ◌⊎◌, inl, inr, arith}
use Rattle.ub_base.specs.Frames.{Path}
use Rattle.ub_base.specs.declared.names.Item.{Item}
use Rattle.ub_base.specs.declared.names.Item.TheVariants.{Any, Ending}
use Rattle.c_typed.specs.declared.tree.Place.{Place}
use Rattle.c_typed.specs.Order.{is_body, has, events, is_due}
use Rattle.c_typed.specs.Decide.{is_before}
use Rattle.mem_spec.specs.Store.{Store}
use Rattle.mem_spec.specs.Script.{Script, Give, Raise, Finish, Exceed, Misplace, Do, item_of, refuses, answer, left, Ended, run}
use Rattle.mem_laws.specs.Frame.{finishes}
use Rattle.mem_laws.proofs.Scripts.{stepped}
use Rattle.c_model.specs.Program.{tree_of}
use Rattle.c_model.specs.World.{World}
use Rattle.c_model.specs.Values.{Value}
use Rattle.c_model.specs.Steps.{Scene, Local, Begun, Pick, Control, Ev, is_done, taken_by, next}
use Rattle.c_model.specs.Runs.{Entry, depth_of}
use Rattle.addr_map.specs.Conflict.{conflicts_with as clash_one, some_conflict as conflict}
use Rattle.c_model.specs.Findings.{clash, is_under, same_path}
use Rattle.c_model.specs.Moments.{Open, is_of, items_by, complete, has_shown, on_the_way, as_it_ends}
use Rattle.c_model.specs.FirstFinding.{quarrels, least_pair, open_on_top, ends_in, all_open}
use Rattle.c_model.specs.Machine.{Machine}
use Rattle.c_model.specs.MachineLaws.{OrderLaws}
use Rattle.c_model.specs.ModelMachine.{is_control, done_in, ready_in, beside_in, level_in, frame_machine}
use Rattle.c_model.specs.ChoiceLaws.{before_now}
use Rattle.c_model.proofs.FramesKeep.{next_of, order_laws}
use Rattle.machine_laws.specs.Orders as orders
use Rattle.machine_laws.specs.Orders.{Quiet, QuietWith, HeldQuiet, NoneBeside, Alone, AllAlone}
use Rattle.order_laws.specs.StoreParts.{Part, Seen, Fact, store_parts}
use Rattle.order_laws.specs.ProgramTells.{told_machine, told_ends}
use Rattle.order_laws.specs.PermittedPicks.{ClosedIn}
use Rattle.order_laws.proofs.ProgramTold.{any_told}
use Rattle.order_laws.proofs.Permitted.{and_l, and_r, or_a, or_b, or_cases, not_of, all_of, of_due, to_due, settled_done}
use Rattle.order_laws.proofs.Traces.{path_is, path_refl, conflict_swap, Event, Held, AllDone}
use Rattle.order_laws.proofs.TraceItems.{Logged, logged_on, logged_more, logged_apart, other_frame, left_free, right_free, none_here, quiet_open}

module _ (world : World) where
  abbrev M : Machine (Local × ℕ) Pick Value Store Item Part Seen Fact
  M = told_machine world

  abbrev E : Local × ℕ → Pick → Store → Option (orders.Stopped ℕ Store Item)
  E = told_ends world

  abbrev order_of : OrderLaws (frame_machine world (store_parts world.rows))
  order_of = order_laws world (store_parts world.rows)

  -- the trace has the items of each event
  abbrev pub AllLogged : List Entry → Local → List Event → Type 0
  AllLogged trace f [] = Unit {0}
  AllLogged trace f (d ∷ es) = ((w : Place) × (d.pick ≡ Ev w) × Logged world.rows trace f.scene.path f.scene.turn w d.items) × AllLogged trace f es

  -- a later event stands beside an earlier one as it did, and isn't the same
  abbrev pub LevelWith : Local → Event → List Event → Type 0
  LevelWith f e [] = Unit {0}
  LevelWith f e (d ∷ ds) = ((M.beside e.frame d.pick e.pick ≡ true → level_in world f.scene f.begun d.pick e.pick ≡ true) × (d.pick ≢ e.pick))
      × LevelWith f e ds

  abbrev pub LevelAll : Local → List Event → Type 0
  LevelAll f [] = Unit {0}
  LevelAll f (e ∷ es) = LevelWith f e es × LevelAll f es

  level_on : (f : Local) (q : Pick) (v : Value) (e : Event) (es : List Event) → ready_in world f.scene f.begun q ≡ true → is_control q ≡ false
      → LevelWith f e es → LevelWith (next world f f.begun q v) e es
  level_on f q v e [] r c l = tt
  level_on f q v e (d ∷ ds) r c (l, ls) = (((λ b. order_of.level_next f d.pick e.pick q v (l.0 b) r c), l.1), level_on f q v e ds r c ls)

  pub levels_on : (f : Local) (q : Pick) (v : Value) (es : List Event) → ready_in world f.scene f.begun q ≡ true → is_control q ≡ false → LevelAll f es
      → LevelAll (next world f f.begun q v) es
  levels_on f q v [] r c l = tt
  levels_on f q v (e ∷ es) r c (l, ls) = (level_on f q v e es r c l, levels_on f q v es r c ls)

  pub ready_begun : (o : Option Begun) (f : Scene) (u : Place) → ready_in world f o (Ev u) ≡ true → is_some o ≡ true
  ready_begun None f u r = absurd (cc (r))
  ready_begun (Some b) f u r = refl

  pub left_pick : (o : Option Begun) (f : Scene) (w : Place) → ready_in world f o (Ev w) ≡ true → done_in o (Ev w) ≡ true → ⊥
  left_pick None f w r d = cc (r)
  left_pick (Some b) f w r d = true≢false (sym (and_l (is_some (b.given w)) _ d) ∙ ap is_some (next_of world f b w r).left)

  -- of a pick that is ready now
  pub level_now : (f : Local) (d : ℕ) (u : Place) (is : List Item) (es : List Event) → ready_in world f.scene f.begun (Ev u) ≡ true → AllDone f.begun es
      → LevelWith f (record { frame = (f, d); pick = Ev u; items = is }) es
  level_now f d u is [] r dn = tt
  level_now f d u is (x ∷ es) r (dn, ds) = (
    (
      (λ b. order_of.level_done f x.pick (Ev u) dn r refl b),
      (λ e. left_pick f.begun f.scene u r (subst (λ z. done_in f.begun z ≡ true) e dn)),
    ),
    level_now f d u is es r ds,
  )

  -- what a finding that tells no pair says of the full expression
  abbrev pub FreeAt : List Entry → Local → Option Begun → Type 0
  FreeAt trace f None = Unit {0}
  FreeAt trace f (Some e) =
      (u v : Place) → is_due (tree_of e.root) (taken_by world f.scene e) u ≡ true → is_due (tree_of e.root) (taken_by world f.scene e) v ≡ true → u ≢ v
      → is_before (taken_by world f.scene e) 0 (tree_of e.root) u v ≡ false → is_before (taken_by world f.scene e) 0 (tree_of e.root) v u ≡ false
      → conflict world.rows (items_by trace trace f.scene.path f.scene.turn u) (items_by trace trace f.scene.path f.scene.turn v) ≡ false

  -- an event of the full expression that is due
  abbrev pub DueAt : Local → Option Begun → Place → Type 0
  DueAt f None v = ⊥
  DueAt f (Some e) v = is_due (tree_of e.root) (taken_by world f.scene e) v ≡ true

  done_due : (f : Local) (o : Option Begun) (v : Place) → ClosedIn world f o → level_in world f.scene o (Ev v) (Ev v) ≡ true ⊎ (is_some o ≡ true)
      → done_in o (Ev v) ≡ true → DueAt f o v
  done_due f None v c (inl l) d = absurd (cc (l))
  done_due f None v c (inr l) d = absurd (cc (l))
  done_due f (Some e) v c l d = of_due world f.scene e v (c v (and_l (is_some (e.given v)) _ d)).due

  ready_due : (f : Local) (o : Option Begun) (v : Place) → ready_in world f.scene o (Ev v) ≡ true → DueAt f o v
  ready_due f None v r = absurd (cc (r))
  ready_due f (Some e) v r = of_due world f.scene e v (next_of world f.scene e v r).due

  pair_free : (trace : List Entry) (f : Local) (o : Option Begun) (u v : Place) (is js : List Item) → ClosedIn world f o → FreeAt trace f o → DueAt f o v
      → done_in o (Ev u) ≡ true → u ≢ v
      → level_in world f.scene o (Ev u) (Ev v) ≡ true → Logged world.rows trace f.scene.path f.scene.turn u is
      → Logged world.rows trace f.scene.path f.scene.turn v js → conflict world.rows is js ≡ false
  pair_free trace f None u v is js c fr dv du ne l a b = absurd (cc)
  pair_free trace f (Some e) u v is js c fr dv du ne l a b =
      let be = and_r _ (beside_in world f.scene (Some e) (Ev u) (Ev v)) l in
      let ru = c u (and_l (is_some (e.given u)) _ du) in
      logged_apart world.rows trace f.scene.path f.scene.turn u v is js a b
      (fr u v (of_due world f.scene e u ru.due) dv ne
      (not_of _ (and_l (not (before_now world f.scene e u v)) _ be)) (not_of _ (and_r (not (before_now world f.scene e u v)) _ be)))

  with_quiet : (trace : List Entry) (f : Local) (e : Event) (w : Place) (es : List Event) → ClosedIn world f f.begun → FreeAt trace f f.begun
      → e.pick ≡ Ev w → DueAt f f.begun w
      → Logged world.rows trace f.scene.path f.scene.turn w e.items → AllDone f.begun es → LevelWith f e es → AllLogged trace f es → QuietWith M E e es
  with_quiet trace f e w [] c fr ep ed el dn lv lg = tt
  with_quiet trace f e w (d ∷ ds) c fr ep ed el (dn, dns) (lv, lvs) ((u, up, ul), lgs) = (
    (λ b. any_told world d.items e.items
        ∙ pair_free trace f f.begun u w d.items e.items c fr ed (subst (λ z. done_in f.begun z ≡ true) up dn) (λ q. lv.1 (up ∙ (ap Ev q ∙ sym ep)))
        (subst (λ z. level_in world f.scene f.begun z (Ev w) ≡ true) up (subst (λ z. level_in world f.scene f.begun d.pick z ≡ true) ep (lv.0 b))) ul el),
    with_quiet trace f e w ds c fr ep ed el dns lvs lgs,
  )

  pub quiet_frame : (trace : List Entry) (f : Local) (es : List Event) → is_some f.begun ≡ true → ClosedIn world f f.begun → FreeAt trace f f.begun
      → AllDone f.begun es → LevelAll f es → AllLogged trace f es → Quiet M E es
  quiet_frame trace f [] has c fr dn lv lg = tt
  quiet_frame trace f (e ∷ es) has c fr (dn, dns) (lv, lvs) ((w, wp, wl), lgs) = (
    with_quiet trace f e w es c fr wp (done_due f f.begun w c (inr has) (subst (λ z. done_in f.begun z ≡ true) wp dn)) wl dns lv lgs,
    quiet_frame trace f es has c fr dns lvs lgs,
  )

  -- a finding on the way, where all due events are done
  if_both : (b x y : Bool) → x ≡ true → y ≡ true → (if b then x else y) ≡ true
  if_both true x y h k = h
  if_both false x y h k = k

  pub free_settled : (trace : List Entry) (f : Local) (o : Option Begun) → ready_in world f.scene o Control ≡ true
      → least_pair world trace (quarrels world.rows) (open_on_top world trace f o) ≡ None
      → FreeAt trace f o
  free_settled trace f None r h = tt
  free_settled trace f (Some e) r h =
      λ u v du dv ne b c.
      let o = on_the_way trace f.scene.path f.scene.turn e.root (taken_by world f.scene e) (is_done e) in
      quiet_open world trace o (none_here world trace (quarrels world.rows) o [] h).0 u v du dv ne b c (shown u v) (shown v u)
    where
      done : (u : Place) → has (events (taken_by world f.scene e) 0 (tree_of e.root)) u ≡ true → is_done e u ≡ true
      done u h = settled_done world f e r u (to_due world f.scene e u h)

      all_complete : (from to : ℕ) → complete (events (taken_by world f.scene e) 0 (tree_of e.root)) (is_done e) from to ≡ true
      all_complete from to = all_of _ (events (taken_by world f.scene e) 0 (tree_of e.root)) (λ u h. or_a (is_done e u) _ (done u h))

      shown : (u v : Place) → has_shown (tree_of e.root) (taken_by world f.scene e) (is_done e) u v ≡ true
      shown u v = if_both _ _ _ (all_complete _ _) (all_complete _ _)

  -- where the run ends inside the expression
  any_free : (is js : List Item) → conflict world.rows (is ++ (Any ∷ [])) (js ++ (Any ∷ [])) ≡ false → conflict world.rows is js ≡ false
  any_free is js h = swapped js is (left_free world.rows js (Any ∷ []) is
      (swapped is (js ++ (Any ∷ [])) (left_free world.rows is (Any ∷ []) (js ++ (Any ∷ [])) h)))
    where
      swapped : (xs ys : List Item) → conflict world.rows xs ys ≡ false → conflict world.rows ys xs ≡ false
      swapped xs ys h = go (conflict world.rows ys xs) refl
        where
          go : (c : Bool) → conflict world.rows ys xs ≡ c → conflict world.rows ys xs ≡ false
          go false e = e
          go true e = absurd (true≢false (sym (conflict_swap world.rows ys xs e) ∙ h))

  -- each of two due events is before or after the other, or they have no conflict, with the item `any` beside their own
  abbrev pub EndsFree : List Entry → Local → Option Begun → Type 0
  EndsFree trace f None = Unit {0}
  EndsFree trace f (Some e) =
      (u v : Place) → is_due (tree_of e.root) (taken_by world f.scene e) u ≡ true → is_due (tree_of e.root) (taken_by world f.scene e) v ≡ true → u ≢ v
      → is_before (taken_by world f.scene e) 0 (tree_of e.root) u v ≡ false → is_before (taken_by world f.scene e) 0 (tree_of e.root) v u ≡ false
      → conflict world.rows (items_by trace trace f.scene.path f.scene.turn u ++ (Any ∷ []))
      (items_by trace trace f.scene.path f.scene.turn v ++ (Any ∷ [])) ≡ false

  pub free_ends : (trace : List Entry) (f : Local) (o : Option Begun) → EndsFree trace f o → FreeAt trace f o
  free_ends trace f None h = tt
  free_ends trace f (Some e) h = λ u v du dv ne b c.
      any_free (items_by trace trace f.scene.path f.scene.turn u) (items_by trace trace f.scene.path f.scene.turn v) (h u v du dv ne b c)

  ends_here : (trace : List Entry) (f : Local) (o : Option Begun) (inner : List Open)
      → least_pair world trace (quarrels world.rows) (ends_in world trace f o inner) ≡ None
      → EndsFree trace f o × (least_pair world trace (quarrels world.rows) inner ≡ None)
  ends_here trace f None inner h = (tt, h)
  ends_here trace f (Some e) inner h =
      let o = as_it_ends trace f.scene.path f.scene.turn e.root (taken_by world f.scene e) in
      let n = none_here world trace (quarrels world.rows) o inner h in (
        (λ u v du dv ne b c. quiet_open world trace o n.0 u v du dv ne b c refl refl),
        n.1,
      )

  abbrev pub AllEndFree : List Entry → List (Local × Place) → Type 0
  AllEndFree trace [] = Unit {0}
  AllEndFree trace (m ∷ ms) = EndsFree trace m.0 m.0.begun × AllEndFree trace ms

  pub all_end_free : (trace : List Entry) (ms : List (Local × Place)) (inner : List Open)
      → least_pair world trace (quarrels world.rows) (all_open world trace ms inner) ≡ None
      → AllEndFree trace ms × (least_pair world trace (quarrels world.rows) inner ≡ None)
  all_end_free trace [] inner h = (tt, h)
  all_end_free trace (m ∷ ms) inner h =
      let r = all_end_free trace ms (ends_in world trace m.0 m.0.begun inner) h in
      let e = ends_here trace m.0 m.0.begun inner r.1 in
      ((e.0, r.0), e.1)

  pub top_ends_free : (trace : List Entry) (f : Local) → least_pair world trace (quarrels world.rows) (ends_in world trace f f.begun []) ≡ None
      → EndsFree trace f f.begun
  top_ends_free trace f h = (ends_here trace f f.begun [] h).0

  -- items with an end meet the item `any`
  abbrev pub HasEnd : List Item → Type 0
  HasEnd is = (js : List Item) → conflict world.rows is (js ++ (Any ∷ [])) ≡ true

  lone_pair : (trace : List Entry) (f : Local) (e : Begun) (u v : Place) (is : List Item) → EndsFree trace f (Some e) → HasEnd is
      → Logged world.rows trace f.scene.path f.scene.turn u is
      → is_due (tree_of e.root) (taken_by world f.scene e) u ≡ true → is_due (tree_of e.root) (taken_by world f.scene e) v ≡ true → u ≢ v
      → is_before (taken_by world f.scene e) 0 (tree_of e.root) u v ≡ false → is_before (taken_by world f.scene e) 0 (tree_of e.root) v u ≡ false → ⊥
  lone_pair trace f e u v is fr he l du dv ne b c =
      let js = items_by trace trace f.scene.path f.scene.turn v in
      let h = left_free world.rows (items_by trace trace f.scene.path f.scene.turn u) (Any ∷ []) (js ++ (Any ∷ [])) (fr u v du dv ne b c) in
      let k = l.sub (js ++ (Any ∷ [])) (ap (λ z. conflict world.rows z (js ++ (Any ∷ []))) (sym (l.found trace)) ∙ h) in
      true≢false (sym (he js) ∙ k)

  -- so an event that ends the run, or a body in which it ends, stands alone
  only_it : (trace : List Entry) (f : Local) (o : Option Begun) (u : Place) (is : List Item) → f.begun ≡ o → EndsFree trace f o → HasEnd is
      → Logged world.rows trace f.scene.path f.scene.turn u is
      → ready_in world f.scene o (Ev u) ≡ true → (x : Pick) → ready_in world f.scene o x ≡ true → x ≡ Ev u
  only_it trace f None u is fb fr he l r x rx = absurd (cc (r))
  only_it trace f (Some e) u is fb fr he l r x rx = go x rx (order_of.same_pick x (Ev u))
    where
      at : (p : Pick) → ready_in world f.scene (Some e) p ≡ true → ready_in world f.scene f.begun p ≡ true
      at p h = subst (λ z. ready_in world f.scene z p ≡ true) (sym fb) h

      go : (x : Pick) → ready_in world f.scene (Some e) x ≡ true → (x ≡ Ev u) ⊎ (x ≢ Ev u) → x ≡ Ev u
      go x rx (inl q) = q
      go Control rx (inr ne) = order_of.alone f Control (Ev u) (at Control rx) refl (at (Ev u) r)
      go (Ev w) rx (inr ne) =
          (let l2 = subst (λ z. level_in world f.scene z (Ev w) (Ev u) ≡ true) fb (order_of.level_ready f (Ev w) (Ev u) (at (Ev w) rx) (at (Ev u) r) ne) in
          let be = and_r _ (beside_in world f.scene (Some e) (Ev w) (Ev u)) l2 in
          absurd (lone_pair trace f e u w is fr he l (of_due world f.scene e u (next_of world f.scene e u r).due)
          (of_due world f.scene e w (next_of world f.scene e w rx).due)
          (λ q. ne (ap Ev (sym q))) (not_of _ (and_r (not (before_now world f.scene e w u)) _ be))
          (not_of _ (and_l (not (before_now world f.scene e w u)) _ be))))

  none_by : (trace : List Entry) (f : Local) (d : ℕ) (o : Option Begun) (u : Place) (is : List Item) → f.begun ≡ o → EndsFree trace f o → HasEnd is
      → Logged world.rows trace f.scene.path f.scene.turn u is → ready_in world f.scene o (Ev u) ≡ true → ClosedIn world f o → (es : List Event)
      → AllDone o es → AllLogged trace f es
      → NoneBeside M E (f, d) (Ev u) es
  none_by trace f d o u is fb fr he l r c [] dn lg = tt
  none_by trace f d None u is fb fr he l r c (x ∷ es) dn lg = absurd (cc (r))
  none_by trace f d (Some e) u is fb fr he l r c (x ∷ es) (dn, dns) ((w, wp, wl), lgs) = (
    subst (λ z. beside_in world f.scene z x.pick (Ev u) ≡ false) (sym fb) (go (beside_in world f.scene (Some e) x.pick (Ev u)) refl),
    none_by trace f d (Some e) u is fb fr he l r c es dns lgs,
  )
    where
      go : (b : Bool) → beside_in world f.scene (Some e) x.pick (Ev u) ≡ b → beside_in world f.scene (Some e) x.pick (Ev u) ≡ false
      go false q = q
      go true q =
          (let be = subst (λ z. beside_in world f.scene (Some e) z (Ev u) ≡ true) wp q in
          let dw = subst (λ z. done_in (Some e) z ≡ true) wp dn in
          let rw' = c w (and_l (is_some (e.given w)) _ dw) in
          absurd (lone_pair trace f e u w is fr he l (of_due world f.scene e u (next_of world f.scene e u r).due) (of_due world f.scene e w rw'.due)
          (λ k. left_pick (Some e) f.scene u r (subst (λ z. done_in (Some e) (Ev z) ≡ true) (sym k) dw))
          (not_of _ (and_r (not (before_now world f.scene e w u)) _ be)) (not_of _ (and_l (not (before_now world f.scene e w u)) _ be))))

  pub lone_event : (trace : List Entry) (f : Local) (d : ℕ) (u : Place) (is : List Item) (es : List Event) → EndsFree trace f f.begun → HasEnd is
      → Logged world.rows trace f.scene.path f.scene.turn u is
      → ready_in world f.scene f.begun (Ev u) ≡ true → ClosedIn world f f.begun → AllDone f.begun es → AllLogged trace f es → Alone M E (f, d) (Ev u) es
  lone_event trace f d u is es fr he l r c dn lg = record {
    only = λ x rx. only_it trace f f.begun u is refl fr he l r x rx;
    none_beside = none_by trace f d f.begun u is refl fr he l r c es dn lg;
  }

  -- frames below the top
  pub record HeldAlong (trace : List Entry) (l : Local) (u : Place) (ms : List (Local × Place)) (h : Held) (path : Path) : Type 0 where
    pub frame : h.frame ≡ (l, depth_of l ms)
    pub pick : h.pick ≡ Ev u
    pub body : is_body u.kind ≡ true
    pub way : path ≡ (l.scene.turn, u.node) ∷ l.scene.path
    pub ready : ready_in world l.scene l.begun (Ev u) ≡ true
    pub closed : ClosedIn world l l.begun
    pub done : AllDone l.begun h.past
    pub level : LevelAll l h.past
    pub past : AllLogged trace l h.past
    pub own : Logged world.rows trace l.scene.path l.scene.turn u h.items

  abbrev pub HeldAll : List Entry → List (Local × Place) → List Held → Path → Type 0
  HeldAll trace [] [] path = Unit {0}
  HeldAll trace (m ∷ ms) (h ∷ hs) path = HeldAlong trace m.0 m.1 ms h path × HeldAll trace ms hs m.0.scene.path
  HeldAll trace ms hs path = ⊥

  pub all_logged : (trace : List Entry) (x : Entry) (f : Local) (es : List Event)
      → ((w : Place) → done_in f.begun (Ev w) ≡ true → is_of f.scene.path f.scene.turn w x ≡ false) → AllDone f.begun es
      → AllLogged trace f es → AllLogged (x ∷ trace) f es
  all_logged trace x f [] other dn l = tt
  all_logged trace x f (d ∷ es) other (dn, dns) ((w, p, lg), ls) = (
    (w, p, logged_on world.rows trace f.scene.path f.scene.turn w d.items x (other w (subst (λ z. done_in f.begun z ≡ true) p dn)) lg),
    all_logged trace
        x f es other dns ls,
  )

  pub under_refl : (p : Path) → is_under p p ≡ true
  under_refl [] = refl
  under_refl (a ∷ p) = or_a _ _ (path_refl (a ∷ p))

  pub under_tail : (p : Path) (a : ℕ × ℕ) (q : Path) → is_under p (a ∷ q) ≡ true → is_under p q ≡ true
  under_tail [] a q h = absurd (cc)
  under_tail (b ∷ p) a q h = go (or_cases (same_path (b ∷ p) (a ∷ q)) (is_under p (a ∷ q)) h) (under_tail p a q)
    where
      tail_of : Path → Path
      tail_of [] = []
      tail_of (c ∷ r) = r

      go : (same_path (b ∷ p) (a ∷ q) ≡ true) ⊎ (is_under p (a ∷ q) ≡ true) → (is_under p (a ∷ q) ≡ true → is_under p q ≡ true) → is_under (b ∷ p) q ≡ true
      go (inl s) later = or_b (same_path (b ∷ p) q) _ (subst (λ z. is_under z q ≡ true) (sym (ap tail_of (path_is (b ∷ p) (a ∷ q) s))) (under_refl q))
      go (inr s) later = or_b (same_path (b ∷ p) q) _ (later s)

  pub held_on : (trace : List Entry) (x : Entry) (ms : List (Local × Place)) (hs : List Held) (path : Path) → length path ≤ length x.path
      → is_under x.path path ≡ true → HeldAll trace ms hs path
      → HeldAll (x ∷ trace) ms (orders.added x.items hs) path
  held_on trace x [] [] path l un h = tt
  held_on trace x [] (h ∷ hs) path l un ok = absurd ok
  held_on trace x (m ∷ ms) [] path l un ok = absurd ok
  held_on trace x (m ∷ ms) (h ∷ hs) path l un (a, ok) =
      let f = m.0 in
      let k = ap length a.way in
      let un2 = subst (λ z. is_under x.path z ≡ true) a.way un in (
        record {
          frame = a.frame;
          pick = a.pick;
          body = a.body;
          way = a.way;
          ready = a.ready;
          closed = a.closed;
          done = a.done;
          level = a.level;
          past = all_logged trace x f h.past (λ w dw. other_frame world.rows f.scene.path f.scene.turn w x (omega (arith, k, l))) a.done a.past;
          own = logged_more world.rows trace f.scene.path f.scene.turn m.1 h.items x a.body
              (other_frame world.rows f.scene.path f.scene.turn m.1 x (omega (arith, k, l))) un2 a.own;
        },
        held_on trace x ms hs f.scene.path (omega (arith, k, l)) (under_tail x.path (f.scene.turn, m.1.node) f.scene.path un2) ok,
      )

  -- without items of their own
  pub held_keep : (trace : List Entry) (x : Entry) (ms : List (Local × Place)) (hs : List Held) (path : Path) → length path ≤ length x.path
      → HeldAll trace ms hs path → HeldAll (x ∷ trace) ms hs path
  held_keep trace x [] [] path l h = tt
  held_keep trace x [] (h ∷ hs) path l ok = absurd ok
  held_keep trace x (m ∷ ms) [] path l ok = absurd ok
  held_keep trace x (m ∷ ms) (h ∷ hs) path l (a, ok) =
      let f = m.0 in
      let k = ap length a.way in (
        record {
          frame = a.frame;
          pick = a.pick;
          body = a.body;
          way = a.way;
          ready = a.ready;
          closed = a.closed;
          done = a.done;
          level = a.level;
          past = all_logged trace x f h.past (λ w dw. other_frame world.rows f.scene.path f.scene.turn w x (omega (arith, k, l))) a.done a.past;
          own = logged_on world.rows trace f.scene.path f.scene.turn m.1 h.items x
              (other_frame world.rows f.scene.path f.scene.turn m.1 x (omega (arith, k, l))) a.own;
        },
        held_keep trace x ms hs f.scene.path (omega (arith, k, l)) ok,
      )

  -- where the run ends inside, the bodies that wait are quiet and alone
  pub held_end : (trace : List Entry) (before : List Entry) (x : Entry) (ms : List (Local × Place)) (hs : List Held) (path : Path) → trace ≡ x ∷ before
      → length path ≤ length x.path
      → is_under x.path path ≡ true → HasEnd x.items → AllEndFree trace ms → HeldAll before ms hs path → HeldQuiet M E hs × AllAlone M E hs
  held_end trace before x [] [] path e l un he fr ok = (tt, tt)
  held_end trace before x [] (h ∷ hs) path e l un he fr ok = absurd ok
  held_end trace before x (m ∷ ms) [] path e l un he fr ok = absurd ok
  held_end trace before x (m ∷ ms) (h ∷ hs) path e l un he (fr, frs) (a, ok) =
      let f = m.0 in
      let k = ap length a.way in
      let un2 = subst (λ z. is_under x.path z ≡ true) a.way un in
      let no = other_frame world.rows f.scene.path f.scene.turn m.1 x (omega (arith, k, l)) in
      let past = all_logged before x f h.past (λ w dw. other_frame world.rows f.scene.path f.scene.turn w x (omega (arith, k, l))) a.done a.past in
      let own = logged_more world.rows before f.scene.path f.scene.turn m.1 h.items x a.body no un2 a.own in
      let own0 = logged_on world.rows before f.scene.path f.scene.turn m.1 h.items x no a.own in
      let fr2 = subst (λ z. EndsFree z f f.begun) e fr in
      let D = depth_of f ms in
      let al = lone_event (x ∷ before) f D m.1 (h.items ++ x.items) h.past fr2 (λ js. later_end h.items js (he js)) own a.ready a.closed a.done past in
      let qt : QuietWith M E (record { frame = (f, D); pick = Ev m.1; items = h.items }) h.past × Quiet M E h.past = (
        waiting_quiet (x ∷ before) f D m.1 h.items h.past a.closed (free_ends (x ∷ before) f f.begun fr2) a.ready a.done past own0,
        quiet_frame (x ∷ before) f h.past (ready_begun f.begun f.scene m.1 a.ready) a.closed (free_ends (x ∷ before) f f.begun fr2) a.done a.level past,
      ) in
      let r = held_end trace before x ms hs f.scene.path e (omega (arith, k, l)) (under_tail x.path (f.scene.turn, m.1.node) f.scene.path un2) he frs ok in (
        (
          subst (λ z. Quiet M E (orders.then_past M E z h.pick h.items h.past)) (sym a.frame)
              (subst (λ z. Quiet M E (orders.then_past M E (f, D) z h.items h.past)) (sym a.pick) qt),
          r.0,
        ),
        (
          subst (λ z. Alone M E z h.pick h.past) (sym a.frame) (subst (λ z. Alone M E (f, D) z h.past) (sym a.pick) al),
          r.1,
        ),
      )
    where
      later_end : (is js : List Item) → conflict world.rows x.items (js ++ (Any ∷ [])) ≡ true → conflict world.rows (is ++ x.items) (js ++ (Any ∷ [])) ≡ true
      later_end is js h = go (conflict world.rows (is ++ x.items) (js ++ (Any ∷ []))) refl
        where
          go : (b : Bool) → conflict world.rows (is ++ x.items) (js ++ (Any ∷ [])) ≡ b → conflict world.rows (is ++ x.items) (js ++ (Any ∷ [])) ≡ true
          go true k = k
          go false k = absurd (true≢false (sym h ∙ right_free world.rows is x.items (js ++ (Any ∷ [])) k))

      waiting_quiet : (t : List Entry) (f : Local) (d : ℕ) (u : Place) (is : List Item) (es : List Event) → ClosedIn world f f.begun → FreeAt t f f.begun
          → ready_in world f.scene f.begun (Ev u) ≡ true
          → AllDone f.begun es → AllLogged t f es → Logged world.rows t f.scene.path f.scene.turn u is
          → QuietWith M E (record { frame = (f, d); pick = Ev u; items = is }) es
      waiting_quiet t f d u is es c fr r dn lg own =
          with_quiet t f (record { frame = (f, d); pick = Ev u; items = is }) u es c fr refl (ready_due f f.begun u r) own dn (level_now f d u is es r dn) lg

  -- an end of the run has the item `end`
  end_meets : (js : List Item) → clash_one world.rows Ending (js ++ (Any ∷ [])) ≡ true
  end_meets [] = refl
  end_meets (j ∷ js) = or_b (clash world.rows Ending j) _ (end_meets js)

  pub run_has_end : {V : Type 0} → (sc : Script V) (s : Store) (n : ℕ) (is : List Item) (s1 : Store) → run world.rows sc s ≡ Ended n is s1 → HasEnd is
  run_has_end (Give v) s n is s1 h = absurd (cc)
  run_has_end (Raise c) s n is s1 h = absurd (cc)
  run_has_end (Exceed c m) s n is s1 h = absurd (cc)
  run_has_end Misplace s n is s1 h = absurd (cc)
  run_has_end (Finish m) s n is s1 h =
      let e : Ending ∷ [] ≡ is = cc in
      subst HasEnd e (λ js. or_a (clash_one world.rows Ending (js ++ (Any ∷ []))) _ (end_meets js))
  run_has_end (Do t k) s n is s1 h =
      let st = stepped (refuses t s) t (item_of t) (run world.rows (k (answer world.rows t s)) (left t s)) (finishes n) is s1 h in
      let r = run_has_end (k (answer world.rows t s)) (left t s) n st.rest s1 st.done in
      subst HasEnd (sym st.items) (λ js. or_b (clash_one world.rows (item_of t) (js ++ (Any ∷ []))) _ (r js))
