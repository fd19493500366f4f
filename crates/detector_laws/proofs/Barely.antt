-- The values of assignments and lists stay without items.
use Rattle.std.proofs.Common.{◌≡◌, ℕ, Bool, true, false, List, [], ◌∷◌, Option, Some, None, is_some, if◌then◌else◌, refl, sym, ap, subst, ◌∙◌, true≢false}
use Rattle.ub_base.specs.Frames.{Path}
use Rattle.ub_base.specs.declared.clause.Kind.TheVariants.{Val, Body}
use Rattle.c_typed.specs.declared.class.Class.TheVariants.{Store}
use Rattle.c_typed.specs.declared.tree.Place.{Place}
use Rattle.c_typed.specs.Order.{has, place, same_place}
use Rattle.c_typed.specs.Tree.{Trees, node}
use Rattle.c_model.specs.Findings.{is_under}
use Rattle.c_model.specs.Moments.{items_by}
use Rattle.c_model.specs.Runs.{Entry, State}
use Rattle.c_model.specs.Steps.{Begun, Local, Scene, is_done, with_given}
use Rattle.c_model.specs.Values.{Value}
use Rattle.c_model.specs.World.{World}
use Rattle.c_model.proofs.Listed.{same_place_eq}
use Rattle.run_evaluations.specs.Scopes.{part_of}
use Rattle.detector_laws.specs.Bare.{AllHeldBare, AreBare, IsBareIn, IsBareStore, PicksStayBare}
use Rattle.detector_laws.specs.Looked.{scope_of}
use Rattle.detector_laws.specs.Frames.{AllWaitFree, AreFree, ComesTo, TakesEvent, WaitsFree, rests, begins, takes, starts, ends}
use Rattle.detector_laws.proofs.Free.{done_as, not_passed}
use Rattle.detector_laws.proofs.Goes.{held_items, own_items, picks_come_to}
use Rattle.detector_laws.proofs.Paths.{under_itself, under_tail}
use Rattle.detector_laws.proofs.Recorded.{items_are}

was_done : (b : Bool) (o : Option Value) (v : Value) → b ≡ false → is_some (if b then Some v else o) ≡ true → is_some o ≡ true
was_done true o v h g = absurd (true≢false h)
was_done false o v h g = g

module _ (world : World) where
  -- ---- one full expression
  -- as an event of it is done: of the value of an assignment or a list there are no items
  after_event : (trace later : List Entry) (f : Scene) (e : Begun) (u : Place) (top : Local) (took : TakesEvent world trace later f e u top) → (n : ℕ)
      → IsBareStore world trace f e n
      → (u ≡ place n Val → (ts : Trees) → part_of (scope_of world f e) n ≡ Some (node Store ts) → items_by later later f.path f.turn u ≡ [])
      → IsBareStore world later f (with_given e u took.value) n
  after_event trace later f e u top took n old new ts there done = by_test (same_place u (place n Val)) refl
    where
      by_test : (b : Bool) → same_place u (place n Val) ≡ b → items_by later later f.path f.turn (place n Val) ≡ []
      by_test true s =
          let q = same_place_eq u (place n Val) s in
          subst (λ z. items_by later later f.path f.turn z ≡ []) q (new q ts there)
      by_test false s =
          let d : is_done e (place n Val) ≡ true = was_done (same_place u (place n Val)) (e.given (place n Val)) took.value s done in
          took.around.items (place n Val)
          (ap (λ z. z (place n Val)) (sym (done_as world f e took.passed (u ∷ took.ahead) took.before.along)) ∙ d)
          ∙ old ts there d

  -- while the items of what is done stay
  still_bare : (trace later : List Entry) (f : Scene) (e : Begun) (n : ℕ) → ((w : Place) → is_done e w ≡ true →
      items_by later later f.path f.turn w ≡ items_by trace trace f.path f.turn w) → IsBareStore world trace f e n → IsBareStore world later f e n
  still_bare trace later f e n stay old ts there done = stay (place n Val) done ∙ old ts there done

  -- ---- frames that are held
  waits_bare : (trace : List Entry) (x : Entry) (g : Local) (u : Place) → WaitsFree world trace g u →
      is_under x.path ((g.scene.turn, u.node) ∷ g.scene.path) ≡ true → IsBareIn world trace g.scene g.begun → IsBareIn world (x ∷ trace) g.scene g.begun
  waits_bare trace x g u w under h =
      subst (IsBareIn world (x ∷ trace) g.scene) (sym w.is)
      (λ n. still_bare trace (x ∷ trace) g.scene w.expression n
      (λ v d. held_items world trace x g.scene u w.passed w.body (not_passed world g.scene w.expression w.passed w.ahead u w.stands.along) under v
      (ap (λ z. z v) (sym (done_as world g.scene w.expression w.passed (u ∷ w.ahead) w.stands.along)) ∙ d))
      (subst (IsBareIn world trace g.scene) w.is h n))

  held_bare : (trace : List Entry) (x : Entry) (path : Path) (hs : List (Local × Place)) → is_under x.path path ≡ true → AllWaitFree world trace path hs →
      AllHeldBare world trace hs → AllHeldBare world (x ∷ trace) hs
  held_bare trace x path [] under a h = tt
  held_bare trace x path (g ∷ hs) under (p, w, rest) (h, below) =
      let more = subst (λ z. is_under x.path z ≡ true) p under in (
        waits_bare trace x g.0 g.1 w more h,
        held_bare trace x g.0.scene.path hs (under_tail x.path (g.0.scene.turn, g.1.node) g.0.scene.path more) rest below,
      )

  -- ---- a pick
  module _ (st next : State) (free : AreFree world st) (a : AreBare world st) (x : Entry) (newest : next.trace ≡ x ∷ st.trace)
      (p : x.path ≡ st.top.scene.path) (waits : AllWaitFree world next.trace next.top.scene.path next.held) where
    held_on : AllHeldBare world (x ∷ st.trace) st.held
    held_on =
        held_bare st.trace x st.top.scene.path st.held
        (subst (λ z. is_under z st.top.scene.path ≡ true) (sym p) (under_itself st.top.scene.path)) free.held a.held

    held_now : AllHeldBare world next.trace st.held
    held_now = subst (λ z. AllHeldBare world z st.held) (sym newest) held_on

    top_so : (f : Scene) (e : Begun) → next.top.scene ≡ f → next.top.begun ≡ Some e → ((n : ℕ) → IsBareStore world next.trace f e n) →
        IsBareIn world next.trace next.top.scene next.top.begun
    top_so f e at is h = subst (IsBareIn world next.trace next.top.scene) (sym is) (subst (λ z. (n : ℕ) → IsBareStore world next.trace z e n) (sym at) h)

    none_so : next.top.begun ≡ None → IsBareIn world next.trace next.top.scene next.top.begun
    none_so b = subst (IsBareIn world next.trace next.top.scene) (sym b) tt

    top_bare : ComesTo world st next → IsBareIn world next.trace next.top.scene next.top.begun
    top_bare (rests b q l h) = none_so b
    top_bare (begins e is none q t h) = top_so next.top.scene e refl is (λ n ts there d. absurd (true≢false (sym d ∙ ap is_some (none (place n Val)))))
    top_bare (takes e u y is took tr en bare h) =
        top_so st.top.scene (with_given e u took.value) took.scene took.begun
        (λ n. after_event st.trace next.trace st.top.scene e u next.top took n (subst (IsBareIn world st.trace st.top.scene) is a.top n)
        (λ q ts there. subst (λ z. items_by z z st.top.scene.path st.top.scene.turn u ≡ []) (sym tr)
        (items_are st.trace y st.top.scene u en (λ b. absurd (let z : Body ≡ Val = sym b ∙ ap (λ (w : Place). w.kind) q in cc))
        ∙ bare (ap (λ (w : Place). w.kind) q) ts (ap (part_of (scope_of world st.top.scene e)) (ap (λ (w : Place). w.node) q) ∙ there))))
    top_bare (starts u y b q tr en h) = none_so b
    top_bare (ends g e is body took held) =
        top_so g.0.scene (with_given e g.1 took.value) took.scene took.begun
        (λ n. after_event st.trace next.trace g.0.scene e g.1 next.top took n
        (subst (IsBareIn world st.trace g.0.scene) is (subst (AllHeldBare world st.trace) held a.held).0 n)
        (λ q ts there. absurd (let z : Body ≡ Val = sym body ∙ ap (λ (w : Place). w.kind) q in cc)))

    next_held : ComesTo world st next → AllHeldBare world next.trace next.held
    next_held (rests b q l h) = subst (AllHeldBare world next.trace) (sym h) held_now
    next_held (begins e is none q t h) = subst (AllHeldBare world next.trace) (sym h) held_now
    next_held (takes e u y is took tr en bare h) = subst (AllHeldBare world next.trace) (sym h) held_now
    next_held (starts u y b q tr en h) = subst (AllHeldBare world next.trace) (sym h) (now, held_now)
      where
        w : WaitsFree world next.trace st.top u
        w = (subst (AllWaitFree world next.trace next.top.scene.path) h waits).1

        fresh : has w.passed u ≡ false
        fresh = not_passed world st.top.scene w.expression w.passed w.ahead u w.stands.along

        now : IsBareIn world next.trace st.top.scene st.top.begun
        now =
            subst (IsBareIn world next.trace st.top.scene) (sym w.is)
            (λ n. still_bare st.trace next.trace st.top.scene w.expression n
            (λ v d. subst (λ z. items_by z z st.top.scene.path st.top.scene.turn v ≡ items_by st.trace st.trace st.top.scene.path st.top.scene.turn v) (sym tr)
            (own_items world st.trace y st.top.scene u w.passed en fresh v
            (ap (λ z. z v) (sym (done_as world st.top.scene w.expression w.passed (u ∷ w.ahead) w.stands.along)) ∙ d)))
            (subst (IsBareIn world st.trace st.top.scene) w.is a.top n))
    next_held (ends g e is body took held) = (subst (AllHeldBare world next.trace) held held_now).1

pub picks_stay_bare : PicksStayBare
picks_stay_bare world st next free a r =
    let c = picks_come_to world st next free r in
    let n = c.1 in
    record {
      top = top_bare world st next free a n.entry n.newest n.path c.2 c.0;
      held = next_held world st next free a n.entry n.newest n.path c.2 c.0;
    }
