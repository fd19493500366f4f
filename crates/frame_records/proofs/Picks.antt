-- Which pick comes to what.
use Rattle.std.proofs.Common.{◌≡◌, ℕ, suc, Bool, true, false, if◌then◌else◌, List, [], ◌∷◌, length, Option, Some, None, refl, sym, ap, subst, ◌∙◌}
use Rattle.std.proofs.Common.{arith}
use Rattle.c_typed.specs.declared.tree.Place.{Place}
use Rattle.c_typed.specs.Decide.{canonical}
use Rattle.c_typed.specs.Order.{is_body}
use Rattle.mem_spec.specs.Script.{Act, Done, Raised, Ended, Outside, Unplaced}
use Rattle.mem_spec.specs.Store.{Store}
use Rattle.c_model.specs.Moves.{Move, Stay, Start, End}
use Rattle.c_model.specs.Program.{Head, Call, Isolated, Expr, expr, Function, Stmt, tree_of}
use Rattle.c_model.specs.Runs.{Entry, No_row, Running, State, acted, back, canonical_pick, chosen_pick, entry_of, moved, step}
use Rattle.c_model.specs.Steps.{Begun, Control, Ev, Local, Pick, Scene, at_node, body_frame, called_by, is_done, move, move_of, next, own_body, start_call}
use Rattle.c_model.specs.Steps.{started, taken_by, with_given}
use Rattle.c_model.specs.Values.{Value, later_values}
use Rattle.c_model.specs.World.{World}
use Rattle.listing_laws.proofs.Going.{takes_first}
use Rattle.detector_laws.specs.Frames.{AllWaitFree, AreFree, ComesTo, IsBareValue, IsEntryOf, StandsFree, TakesEvent, TopStands}
use Rattle.detector_laws.specs.Frames as come
use Rattle.detector_laws.proofs.Goes.{picks_come_to, same_state, through_limited, through_within}
use Rattle.frame_records.specs.Picks.{PicksAreSo, PicksSo, rests, settles, begins, ends, takes, starts}

-- ---- lists
abbrev rest_of : {X : Type 0} → List X → List X
rest_of [] = []
rest_of (z ∷ zs) = zs

pub tail_of : {X : Type 0} → (x y : X) (xs ys : List X) → x ∷ xs ≡ y ∷ ys → xs ≡ ys
tail_of x y xs ys q = ap rest_of q

pub longer : {X : Type 0} → (x : X) (xs : List X) → xs ≡ x ∷ xs → ⊥
longer x xs q = let n = ap length q in omega (arith, n)

two_longer : {X : Type 0} → (x y : X) (xs ys : List X) → xs ≡ x ∷ ys → ys ≡ y ∷ xs → ⊥
two_longer x y xs ys q r = let m = ap length q in let n = ap length r in omega (arith, m, n)

module _ (world : World) where
  -- ---- an event ends no frame
  abbrev NoEnd : Move Local → Type 0
  NoEnd End = ⊥
  NoEnd m = Unit {0}

  body_goes : (f : Scene) (k n : ℕ) (vs : List Value) (b : Option Stmt) → NoEnd (body_frame world f k n vs b)
  body_goes f k n vs None = tt
  body_goes f k n vs (Some s) = tt

  call_goes : (f : Scene) (k : ℕ) (vs : List Value) (c : Option (ℕ × Function)) → NoEnd (start_call world f k vs c)
  call_goes f k vs None = tt
  call_goes f k vs (Some c) = body_goes f k c.0 vs (own_body c.1)

  start_goes : (f : Scene) (k : ℕ) (h : Head) (vs : List Value) → NoEnd (started world f k h vs)
  start_goes f k (Call d) vs = call_goes f k (later_values vs) (called_by world vs)
  start_goes f k (Isolated e) vs = tt
  start_goes f k _ vs = tt

  if_goes : (b : Bool) (m : Move Local) → NoEnd m → NoEnd (if b then m else Stay)
  if_goes true m k = k
  if_goes false m k = tt

  node_goes : (f : Scene) (e : Begun) (u : Place) (o : Option Expr) → NoEnd (move_of world f e u o)
  node_goes f e u None = tt
  node_goes f e u (Some (expr h ty line es)) = if_goes (is_body u.kind) _ (start_goes f u.node h _)

  move_goes : (f : Local) (o : Option Begun) (u : Place) → NoEnd (move world f o (Ev u))
  move_goes f None u = tt
  move_goes f (Some e) u = node_goes f.scene e u (at_node 0 e.root u.node)

  module _ (st after : State) where
    abbrev f : Local
    f = st.top

    -- ---- what a pick did to the frames
    pub data Moved (p : Pick) : Type 0 where
      stay : (v : Value) → after.top ≡ next world f f.begun p v → after.held ≡ st.held → Moved p
      start : (u : Place) → p ≡ Ev u → after.held ≡ (f, u) ∷ st.held → Moved p
      end : (h : Local × Place) → p ≡ Control → st.held ≡ h ∷ after.held → Moved p

    back_moves : (p : Pick) (hs : List (Local × Place)) (v : Value) (s : Store) (trace : List Entry) → p ≡ Control → st.held ≡ hs →
        back world hs v s trace ≡ Running after → Moved p
    back_moves p [] v s trace is q r = absurd (cc (r))
    back_moves p (h ∷ hs) v s trace is q r = end h is (q ∙ ap (λ (z : State). h ∷ z.held) (same_state _ after r))

    moves : (p : Pick) (m : Move Local) (v : Value) (s : Store) (trace : List Entry) → move world f f.begun p ≡ m →
        moved world st p m v s trace ≡ Running after → Moved p
    moves Control Stay v s trace is r =
        stay v (ap (λ (z : State). z.top) (sym (same_state _ after r))) (ap (λ (z : State). z.held) (sym (same_state _ after r)))
    moves (Ev u) Stay v s trace is r =
        stay v (ap (λ (z : State). z.top) (sym (same_state _ after r))) (ap (λ (z : State). z.held) (sym (same_state _ after r)))
    moves Control (Start g) v s trace is r = absurd (cc (r))
    moves (Ev u) (Start g) v s trace is r = start u refl (ap (λ (z : State). z.held) (sym (same_state _ after r)))
    moves Control End v s trace is r = back_moves Control st.held v s trace refl refl r
    moves (Ev u) End v s trace is r = absurd (subst NoEnd is (move_goes f f.begun u))

    acts : (p : Pick) (act : Act Value) → acted world st p act ≡ Running after → Moved p
    acts p (Done v is s) r = moves p (move world f f.begun p) v s (entry_of world f p is ∷ st.trace) refl (through_limited world.limits _ after r)
    acts p (Raised c) r = absurd (cc (r))
    acts p (Ended n is s) r = absurd (cc (r))
    acts p (Outside c n) r = absurd (cc (r))
    acts p Unplaced r = absurd (let z = through_within _ No_row after r in cc (z))

    pub moved_so : (p : Pick) → step world st p ≡ Running after → Moved p
    moved_so p r = acts p _ (through_within _ _ after r)

    -- ---- the canonical pick
    abbrev picked : Pick
    picked = canonical_pick world f f.begun

    abbrev So : Type 0
    So = PicksSo world st after picked

    turn_in : Option Begun → Local → ℕ
    turn_in o g = g.scene.turn

    -- none is open behind it
    rests_so : (o : Option Begun) (v : Value) → f.begun ≡ o → after.top ≡ next world f o (canonical_pick world f o) v → after.top.begun ≡ None →
        after.top.scene.path ≡ f.scene.path → after.held ≡ st.held → So
    rests_so None v q at none path held = rests (ap (canonical_pick world f) q) q none path held
    rests_so (Some e) v q at none path held = by_pick (canonical (tree_of e.root) (taken_by world f.scene e) (is_done e)) refl
      where
        by_pick : (c : Option Place) → canonical (tree_of e.root) (taken_by world f.scene e) (is_done e) ≡ c → So
        by_pick None is = settles e (ap (canonical_pick world f) q ∙ ap (chosen_pick world) is) q none path held
        by_pick (Some w) is =
            absurd (let z : Some (with_given e w v) ≡ None =
            ap (λ c. (next world f (Some e) (chosen_pick world c) v).begun) (sym is) ∙ (ap (λ (g : Local). g.begun) (sym at) ∙ none) in cc (z))

    -- one has begun
    begins_so : (o : Option Begun) (v : Value) (d : Begun) → f.begun ≡ o → after.top ≡ next world f o (canonical_pick world f o) v →
        after.top.begun ≡ Some d → ((u : Place) → d.given u ≡ None) → after.top.scene.path ≡ f.scene.path → after.top.scene.turn ≡ suc f.scene.turn →
        after.held ≡ st.held → So
    begins_so None v d q at is fresh path turn held = begins d (ap (canonical_pick world f) q) q is fresh path held
    begins_so (Some e) v d q at is fresh path turn held = by_pick (canonical (tree_of e.root) (taken_by world f.scene e) (is_done e)) refl
      where
        by_pick : (c : Option Place) → canonical (tree_of e.root) (taken_by world f.scene e) (is_done e) ≡ c → So
        by_pick None r =
            absurd (let z : None ≡ Some d =
            ap (λ c. (next world f (Some e) (chosen_pick world c) v).begun) (sym r) ∙ (ap (λ (g : Local). g.begun) (sym at) ∙ is) in cc (z))
        by_pick (Some w) r =
            absurd (let z : f.scene.turn ≡ suc f.scene.turn =
            ap (λ c. (next world f (Some e) (chosen_pick world c) v).scene.turn) (sym r) ∙ (ap (λ (g : Local). g.scene.turn) (sym at) ∙ turn) in
            omega (arith, z))

    -- a frame was started
    abbrev place_of_pick : Pick → Place → Place
    place_of_pick Control z = z
    place_of_pick (Ev y) z = y

    starts_so : (o : Option Begun) (u : Place) (x : Entry) → f.begun ≡ o → TopStands world st.trace f.scene o → canonical_pick world f o ≡ Ev u →
        after.trace ≡ x ∷ st.trace → IsEntryOf f.scene u x → after.top.begun ≡ None →
        after.top.scene.path ≡ (f.scene.turn, u.node) ∷ f.scene.path → after.held ≡ (f, u) ∷ st.held →
        AllWaitFree world after.trace after.top.scene.path after.held → So
    starts_so None u x q s is trace entry none path held waits = absurd (cc (is))
    starts_so (Some e) u x q (passed, ahead, s) is trace entry none path held waits = by_ahead ahead s
      where
        waits_now : AllWaitFree world after.trace after.top.scene.path ((f, u) ∷ st.held)
        waits_now = subst (AllWaitFree world after.trace after.top.scene.path) held waits

        by_ahead : (us : List Place) → StandsFree world st.trace f.scene e passed us → So
        by_ahead [] h = absurd (let z : Control ≡ Ev u = sym (takes_first world f e passed [] h.along) ∙ is in cc (z))
        by_ahead (w ∷ us) h =
            let same : w ≡ u = ap (λ z. place_of_pick z w) (sym (takes_first world f e passed (w ∷ us) h.along) ∙ is) in
            starts e u x passed us (ap (canonical_pick world f) q ∙ is) q waits_now.1.body
            (subst (λ z. StandsFree world st.trace f.scene e passed (z ∷ us)) same h) trace entry none path held

    pub comes_so : AreFree world st → ComesTo world st after → AllWaitFree world after.trace after.top.scene.path after.held → Moved picked → So
    comes_so a (come.rests b p l h) w (stay v at held) = rests_so f.begun v refl at b p h
    comes_so a (come.rests b p l h) w (start u is held) = absurd (longer (f, u) st.held (sym h ∙ held))
    comes_so a (come.rests b p l h) w (end g is held) = absurd (longer g after.held (h ∙ held))
    comes_so a (come.begins e b none p t h) w (stay v at held) = begins_so f.begun v e refl at b none p t h
    comes_so a (come.begins e b none p t h) w (start u is held) = absurd (longer (f, u) st.held (sym h ∙ held))
    comes_so a (come.begins e b none p t h) w (end g is held) = absurd (longer g after.held (h ∙ held))
    comes_so a (come.takes e u x q t tr en bare h) w m =
        takes e u x (ap (canonical_pick world f) q ∙ takes_first world f e t.passed (u ∷ t.ahead) t.before.along) q t tr en bare h
    comes_so a (come.starts u x b p tr en h) w (stay v at held) = absurd (longer (f, u) st.held (sym held ∙ h))
    comes_so a (come.starts u x b p tr en h) w (start y is held) =
        let same : y ≡ u = ap (λ (z : List (Local × Place)). node_in z y) (sym held ∙ h) in
        starts_so f.begun u x refl a.top (is ∙ ap Ev same) tr en b p h w
      where
        node_in : List (Local × Place) → Place → Place
        node_in [] z = z
        node_in (g ∷ gs) z = g.1
    comes_so a (come.starts u x b p tr en h) w (end g is held) = absurd (two_longer (f, u) g after.held st.held h held)
    comes_so a (come.ends g e b k t h) w (stay v at held) = absurd (longer g after.held (held ∙ h))
    comes_so a (come.ends g e b k t h) w (start y is held) = absurd (two_longer (f, y) g after.held st.held held h)
    comes_so a (come.ends g e b k t h) w (end d is held) = ends g e is b k t h

pub picks_are_so : PicksAreSo
picks_are_so world st after a r =
    let c = picks_come_to world st after a r in
    comes_so world st after a c.0 c.2 (moved_so world st after (canonical_pick world st.top st.top.begun) r)
