-- The trace stays without frames that are still to start.
use Rattle.std.proofs.Common.{◌≡◌, ℕ, suc, Bool, true, false, ◌||◌, ◌==◌, if◌then◌else◌, List, [], ◌∷◌, ◌++◌, length, Option, Some, is_some}
use Rattle.std.proofs.Common.{refl, sym, ap, subst, ◌∙◌, true≢false, arith}
use Rattle.std.proofs.lemmas.Bool.Decides.{nat_tests}
use Rattle.ub_base.specs.Frames.{Path}
use Rattle.ub_base.specs.declared.clause.Kind.TheVariants.{Body}
use Rattle.ub_base.specs.declared.names.Item.{Item}
use Rattle.c_typed.specs.declared.tree.Place.{Place}
use Rattle.c_typed.specs.Order.{place, same_place}
use Rattle.c_model.specs.Findings.{is_under, items_under}
use Rattle.c_model.specs.Runs.{Entry, State}
use Rattle.c_model.specs.Steps.{Begun, Local, Scene, is_done, with_given}
use Rattle.c_model.specs.Values.{Value}
use Rattle.c_model.specs.World.{World}
use Rattle.c_model.proofs.Listed.{same_place_itself}
use Rattle.detector_laws.specs.Fresh.{AllHeldFresh, AreFresh, IsFresh, PicksStayFresh, started_in, with_waiting}
use Rattle.detector_laws.specs.Frames.{AllWaitFree, AreFree, ComesTo, WaitsFree, rests, begins, takes, starts, ends}
use Rattle.detector_laws.proofs.Free.{done_as, not_passed}
use Rattle.detector_laws.proofs.Goes.{picks_come_to}
use Rattle.detector_laws.proofs.Paths.{node_of_head, not_true, not_under, turn_of_head, under_itself, under_same, under_tail}

-- ---- what a trace has under a path
both_nil : (xs ys : List Item) → xs ++ ys ≡ [] → (xs ≡ []) × (ys ≡ [])
both_nil [] ys h = (refl, h)
both_nil (x ∷ xs) ys h = absurd (cc)

if_items : (b : Bool) (xs : List Item) → b ≡ true → (if b then xs else []) ≡ xs
if_items true xs h = refl
if_items false xs h = absurd (true≢false (sym h))

tail_none : (q : Path) (a : ℕ × ℕ) (tr : List Entry) → items_under q tr ≡ [] → items_under (a ∷ q) tr ≡ []
tail_none q a [] h = refl
tail_none q a (e ∷ es) h =
    let p = both_nil (if is_under e.path q then e.items else []) (items_under q es) h in
    go (is_under e.path (a ∷ q)) refl p.0 (tail_none q a es p.1)
  where
    go : (b : Bool) → is_under e.path (a ∷ q) ≡ b → (if is_under e.path q then e.items else []) ≡ [] → items_under (a ∷ q) es ≡ [] →
        (if b then e.items else []) ++ items_under (a ∷ q) es ≡ []
    go false u n again = again
    go true u n again =
        ap (λ z. z ++ items_under (a ∷ q) es) (sym (if_items (is_under e.path q) e.items (under_tail e.path a q u)) ∙ n) ∙ again

passed_over : (x : Entry) (tr : List Entry) (q : Path) → is_under x.path q ≡ false → items_under q (x ∷ tr) ≡ items_under q tr
passed_over x tr q h = ap (λ c. (if c then x.items else []) ++ items_under q tr) h

under_own : (x : Entry) (tr : List Entry) (path : Path) (k n : ℕ) → x.path ≡ path → items_under ((k, n) ∷ path) (x ∷ tr) ≡ items_under ((k, n) ∷ path) tr
under_own x tr path k n p = passed_over x tr ((k, n) ∷ path) (not_under x.path ((k, n) ∷ path) (let l = ap length p in omega (arith, l)))

under_above : (x : Entry) (tr : List Entry) (path : Path) (t m k n : ℕ) → is_under x.path ((t, m) ∷ path) ≡ true → (k ≡ t → n ≡ m → ⊥) →
    items_under ((k, n) ∷ path) (x ∷ tr) ≡ items_under ((k, n) ∷ path) tr
under_above x tr path t m k n under other =
    passed_over x tr ((k, n) ∷ path)
    (not_true (is_under x.path ((k, n) ∷ path))
    (λ h. let q = under_same x.path ((k, n) ∷ path) ((t, m) ∷ path) h under refl in
    other (turn_of_head (k, n) (t, m) path path q) (node_of_head (k, n) (t, m) path path q)))

-- ---- one frame
or_l : (a b : Bool) → (a || b) ≡ false → a ≡ false
or_l false b h = refl
or_l true b h = absurd (true≢false h)

or_r : (a b : Bool) → (a || b) ≡ false → b ≡ false
or_r false b h = h
or_r true b h = absurd (true≢false h)

neither : (a b : Bool) → a ≡ false → b ≡ false → (a || b) ≡ false
neither false b h g = g
neither true b h g = absurd (true≢false h)

not_equal : (n m : ℕ) → (n == m) ≡ false → n ≡ m → ⊥
not_equal n m h e = true≢false (let z : (n == m) ≡ true = grind (arith, nat_tests, e) in sym z ∙ h)

fresh_own : (tr : List Entry) (x : Entry) (f : Scene) (started : ℕ → Bool) → x.path ≡ f.path → IsFresh tr f started → IsFresh (x ∷ tr) f started
fresh_own tr x f started p h = record {
  now = λ n s. under_own x tr f.path f.turn n p ∙ h.now n s;
  later = λ k n l. under_own x tr f.path k n p ∙ h.later k n l;
}

fresh_above : (tr : List Entry) (x : Entry) (f : Scene) (u : Place) (started : ℕ → Bool) → is_under x.path ((f.turn, u.node) ∷ f.path) ≡ true →
    IsFresh tr f (with_waiting u started) → IsFresh (x ∷ tr) f (with_waiting u started)
fresh_above tr x f u started under h = record {
  now = λ n s. under_above x tr f.path f.turn u.node f.turn n under (λ a b. not_equal n u.node (or_r (started n) _ s) b) ∙ h.now n s;
  later = λ k n l. under_above x tr f.path f.turn u.node k n under (λ a b. omega (arith, a, l)) ∙ h.later k n l;
}

not_more : (b : Bool) (o : Option Value) (v : Value) → is_some (if b then Some v else o) ≡ false → (is_some o ≡ false) × (b ≡ false)
not_more true o v h = absurd (true≢false h)
not_more false o v h = (h, refl)

body_place : (u : Place) → u.kind ≡ Body → u ≡ place u.node Body
body_place u h = λ i. record { node = u.node; kind = h i }

at_node : (u : Place) (n : ℕ) → u.kind ≡ Body → n ≡ u.node → same_place u (place n Body) ≡ true
at_node u n h e = subst (λ z. same_place u z ≡ true) (body_place u h ∙ ap (λ z. place z Body) (sym e)) (same_place_itself u)

module _ (world : World) where
  held_fresh : (tr : List Entry) (x : Entry) (path : Path) (hs : List (Local × Place)) → is_under x.path path ≡ true → AllWaitFree world tr path hs →
      AllHeldFresh tr hs → AllHeldFresh (x ∷ tr) hs
  held_fresh tr x path [] under a h = tt
  held_fresh tr x path (g ∷ hs) under (p, w, rest) (h, below) =
      let more = subst (λ z. is_under x.path z ≡ true) p under in (
        fresh_above tr x g.0.scene g.1 (started_in g.0.begun) more h,
        held_fresh tr x g.0.scene.path hs (under_tail x.path (g.0.scene.turn, g.1.node) g.0.scene.path more) rest below,
      )

  -- the body for which a frame waits isn't done
  waits_undone : (tr : List Entry) (f : Local) (u : Place) → WaitsFree world tr f u → started_in f.begun u.node ≡ false
  waits_undone tr f u w =
      ap (λ o. started_in o u.node) w.is
      ∙ (ap (is_done w.expression) (sym (body_place u w.body))
      ∙ (ap (λ d. d u) (done_as world f.scene w.expression w.passed (u ∷ w.ahead) w.stands.along)
      ∙ not_passed world f.scene w.expression w.passed w.ahead u w.stands.along))

  module _ (st next : State) (free : AreFree world st) (a : AreFresh st) (x : Entry) (p : x.path ≡ st.top.scene.path)
      (waits : AllWaitFree world next.trace next.top.scene.path next.held) where
    under : is_under x.path st.top.scene.path ≡ true
    under = subst (λ z. is_under z st.top.scene.path ≡ true) (sym p) (under_itself st.top.scene.path)

    held_on : AllHeldFresh (x ∷ st.trace) st.held
    held_on = held_fresh st.trace x st.top.scene.path st.held under free.held a.held

    own : IsFresh (x ∷ st.trace) st.top.scene (started_in st.top.begun)
    own = fresh_own st.trace x st.top.scene (started_in st.top.begun) p a.top

    -- an event more is done in this frame
    one_more : (f : Scene) (e : Begun) (u : Place) (v : Value) (started : ℕ → Bool) → next.top.scene ≡ f → next.top.begun ≡ Some (with_given e u v) →
        ((n : ℕ) → is_done e (place n Body) ≡ false → same_place u (place n Body) ≡ false → started n ≡ false) → IsFresh (x ∷ st.trace) f started →
        IsFresh (x ∷ st.trace) next.top.scene (started_in next.top.begun)
    one_more f e u v started at is still h =
        subst (λ z. IsFresh (x ∷ st.trace) z (started_in next.top.begun)) (sym at) (record {
          now = λ n s. let d = not_more (same_place u (place n Body)) (e.given (place n Body)) v (sym (ap (λ o. started_in o n) is) ∙ s) in
              h.now n (still n d.0 d.1);
          later = h.later;
        })

    top_fresh : ComesTo world st next → IsFresh (x ∷ st.trace) next.top.scene (started_in next.top.begun)
    top_fresh (rests b q l h) = record {
      now = λ n s. absurd (true≢false (sym (ap (λ o. started_in o n) b) ∙ s));
      later = λ k n m. subst (λ z. items_under ((k, n) ∷ z) (x ∷ st.trace) ≡ []) (sym q) (own.later k n (omega (arith, l, m)));
    }
    top_fresh (begins e is none q t h) = record {
      now = λ n s. subst (λ z. items_under ((z, n) ∷ next.top.scene.path) (x ∷ st.trace) ≡ []) (sym t)
          (subst (λ z. items_under ((suc st.top.scene.turn, n) ∷ z) (x ∷ st.trace) ≡ []) (sym q) (own.later (suc st.top.scene.turn) n (omega arith)));
      later = λ k n m. subst (λ z. items_under ((k, n) ∷ z) (x ∷ st.trace) ≡ []) (sym q) (own.later k n (omega (arith, t, m)));
    }
    top_fresh (takes e u y is took tr en bare h) =
        one_more st.top.scene e u took.value (started_in st.top.begun) took.scene took.begun (λ n d s. ap (λ o. started_in o n) is ∙ d) own
    top_fresh (starts u y b q tr en h) = record {
      now = λ n s. absurd (true≢false (sym (ap (λ o. started_in o n) b) ∙ s));
      later = λ k n m. subst (λ z. items_under ((k, n) ∷ z) (x ∷ st.trace) ≡ []) (sym q)
          (tail_none ((st.top.scene.turn, u.node) ∷ st.top.scene.path) (k, n) (x ∷ st.trace) (own.now u.node undone));
    }
      where
        undone : started_in st.top.begun u.node ≡ false
        undone = waits_undone next.trace st.top u (subst (AllWaitFree world next.trace next.top.scene.path) h waits).1
    top_fresh (ends g e is body took held) =
        one_more g.0.scene e g.1 took.value (with_waiting g.1 (started_in g.0.begun)) took.scene took.begun
        (λ n d s. neither (started_in g.0.begun n) (n == g.1.node) (ap (λ o. started_in o n) is ∙ d)
        (not_true (n == g.1.node) (λ q. true≢false (sym (at_node g.1 n body (let z : n ≡ g.1.node = grind (arith, nat_tests, q) in z)) ∙ s))))
        (subst (AllHeldFresh (x ∷ st.trace)) held held_on).0

    next_held : ComesTo world st next → AllHeldFresh (x ∷ st.trace) next.held
    next_held (rests b q l h) = subst (AllHeldFresh (x ∷ st.trace)) (sym h) held_on
    next_held (begins e is none q t h) = subst (AllHeldFresh (x ∷ st.trace)) (sym h) held_on
    next_held (takes e u y is took tr en bare h) = subst (AllHeldFresh (x ∷ st.trace)) (sym h) held_on
    next_held (starts u y b q tr en h) =
        subst (AllHeldFresh (x ∷ st.trace)) (sym h) (
          record { now = λ n s. own.now n (or_l (started_in st.top.begun n) _ s); later = own.later },
          held_on,
        )
    next_held (ends g e is body took held) = (subst (AllHeldFresh (x ∷ st.trace)) held held_on).1

pub picks_stay_fresh : PicksStayFresh
picks_stay_fresh world st next free a r =
    let c = picks_come_to world st next free r in
    let n = c.1 in
    record {
      top = subst (λ z. IsFresh z next.top.scene (started_in next.top.begun)) (sym n.newest) (top_fresh world st next free a n.entry n.path c.2 c.0);
      held = subst (λ z. AllHeldFresh z next.held) (sym n.newest) (next_held world st next free a n.entry n.path c.2 c.0);
    }
