-- The trace stays without items of events that aren't done.
use Rattle.std.proofs.Common.{◌≡◌, ◌<◌, ℕ, suc, Bool, true, false, ◌&&◌, ◌||◌, ◌==◌, if◌then◌else◌, List, [], ◌∷◌, ◌++◌, length, Option, Some}
use Rattle.std.proofs.Common.{is_some}
use Rattle.std.proofs.Common.{refl, sym, ap, ap₂, subst, ◌∙◌, true≢false, arith}
use Rattle.std.proofs.lemmas.Bool.Decides.{nat_tests}
use Rattle.ub_base.specs.Frames.{Path}
use Rattle.ub_base.specs.declared.clause.Kind.TheVariants.{Body}
use Rattle.ub_base.specs.declared.names.Item.{Item}
use Rattle.c_typed.specs.declared.tree.Place.{Place}
use Rattle.c_typed.specs.Order.{is_body, place, same_place}
use Rattle.c_model.specs.Findings.{is_under, items_of, items_under, same_path}
use Rattle.c_model.specs.Moments.{is_of, items_by}
use Rattle.mem_spec.specs.Script.{Act, Done, Raised, Ended, Outside, Unplaced}
use Rattle.c_model.specs.Runs.{Entry, Running, State, canonical_pick, entry_of, main_frame, started_run}
use Rattle.c_model.specs.Steps.{Begun, Local, Scene, is_done, with_given}
use Rattle.c_model.specs.Values.{Value}
use Rattle.c_model.specs.World.{World}
use Rattle.c_model.proofs.Listed.{same_place_eq, same_place_itself}
use Rattle.telling_laws.proofs.ShowLemmas.{neither}
use Rattle.detector_laws.specs.Frames.{AllWaitFree, AreFree, ComesTo, WaitsFree, rests, begins, takes, starts, ends}
use Rattle.detector_laws.specs.Fresh.{AreFresh, started_in}
use Rattle.detector_laws.specs.Looked.{none, more}
use Rattle.detector_laws.proofs.Clear.{goes_clear, starts_clear}
use Rattle.detector_laws.proofs.Free.{done_as, not_passed}
use Rattle.detector_laws.proofs.Goes.{picks_come_to, same_state, through_limited, through_within}
use Rattle.detector_laws.proofs.Items.{items_stay, none_of_own, stay_of_above, stay_of_other}
use Rattle.detector_laws.proofs.Paths.{and_l, not_same, not_true, not_under, path_is, turn_of_head, under_itself, under_length, under_same, under_tail}
use Rattle.ending_laws.specs.Untouched.{AllHeldUntouched, AreUntouched, IsUntouched, NoneEnds, PicksStayUntouched, StartsOnTheWay}
use Rattle.ending_laws.specs.Untouched.{StaysOnTheWay, done_in, with_body}
use Rattle.ending_laws.proofs.Entries.{leaves_entry, picks_end_none}

-- ---- where the trace has nothing under a frame it has nothing of its events
both_nil : (xs ys : List Item) → xs ++ ys ≡ [] → (xs ≡ []) × (ys ≡ [])
both_nil [] ys h = (refl, h)
both_nil (x ∷ xs) ys h = absurd (cc)

if_nil : (b : Bool) (xs : List Item) → xs ≡ [] → (if b then xs else []) ≡ []
if_nil true xs h = h
if_nil false xs h = refl

if_items : (b : Bool) (xs : List Item) → b ≡ true → (if b then xs else []) ≡ xs
if_items true xs h = refl
if_items false xs h = absurd (true≢false (sym h))

tail_none : (q : Path) (a : ℕ × ℕ) (tr : List Entry) → items_under q tr ≡ [] → items_under (a ∷ q) tr ≡ []
tail_none q a [] h = refl
tail_none q a (e ∷ es) h =
    let p = both_nil (if is_under e.path q then e.items else []) (items_under q es) h in
    go (is_under e.path (a ∷ q)) refl p.0 (tail_none q a es p.1)
  where
    go : (b : Bool) → is_under e.path (a ∷ q) ≡ b → (if is_under e.path q then e.items else []) ≡ [] → items_under (a ∷ q) es ≡ [] →
        (if b then e.items else []) ++ items_under (a ∷ q) es ≡ []
    go false u n again = again
    go true u n again =
        ap (λ z. z ++ items_under (a ∷ q) es) (sym (if_items (is_under e.path q) e.items (under_tail e.path a q u)) ∙ n) ∙ again

by_under : (tr es : List Entry) (path : Path) (k : ℕ) (w : Place) → items_under path tr ≡ [] → items_under path es ≡ [] → items_by tr es path k w ≡ []
by_under tr [] path k w h g = refl
by_under tr (e ∷ es) path k w h g =
    let p = both_nil (if is_under e.path path then e.items else []) (items_under path es) g in
    go (is_of path k w e) refl p.0 (by_under tr es path k w h p.1)
  where
    go : (b : Bool) → is_of path k w e ≡ b → (if is_under e.path path then e.items else []) ≡ [] → items_by tr es path k w ≡ [] →
        (if b then items_of tr e w else items_by tr es path k w) ≡ []
    go false q n again = again
    go true q n again =
        let here = path_is e.path path (and_l (same_path e.path path) _ q) in
        let own = sym (if_items (is_under e.path path) e.items (subst (λ z. is_under e.path z ≡ true) here (under_itself e.path))) ∙ n in
        ap₂ (λ (xs ys : List Item). xs ++ ys) own
        (if_nil (is_body w.kind) _ (subst (λ z. items_under ((e.turn, w.node) ∷ z) tr ≡ []) (sym here) (tail_none path (e.turn, w.node) tr h)))

-- ---- an entry of the frame itself
and_false : (a b : Bool) → b ≡ false → (a && b) ≡ false
and_false true b h = h
and_false false b h = refl

first_false : (a b : Bool) → a ≡ false → (a && b) ≡ false
first_false false b h = refl
first_false true b h = absurd (true≢false h)

number_other : (a b : ℕ) → a < b → (a == b) ≡ false
number_other a b h = grind (arith, nat_tests, h)

-- of an earlier turn
stay_later : (tr : List Entry) (x : Entry) (path : Path) (k : ℕ) (w : Place) → x.path ≡ path → x.turn < k →
    items_by (x ∷ tr) (x ∷ tr) path k w ≡ items_by tr tr path k w
stay_later tr x path k w p less =
    items_stay tr x path k w
    (and_false (same_path x.path path) _ (first_false (x.turn == k) _ (number_other x.turn k less)))
    (none_of_own x path k w p)

-- ---- an entry of a frame above
stay_above_later : (tr : List Entry) (x : Entry) (path : Path) (t m k : ℕ) (w : Place) → is_under x.path ((t, m) ∷ path) ≡ true → t < k →
    items_by (x ∷ tr) (x ∷ tr) path k w ≡ items_by tr tr path k w
stay_above_later tr x path t m k w under less =
    items_stay tr x path k w
    (first_false (same_path x.path path) _ (not_same path x.path (let l = under_length x.path ((t, m) ∷ path) under in omega (arith, l))))
    (and_false (is_body w.kind) _ (not_true (is_under x.path ((k, w.node) ∷ path)) (λ h.
    let e = turn_of_head (k, w.node) (t, m) path path (under_same x.path ((k, w.node) ∷ path) ((t, m) ∷ path) h under refl) in omega (arith, e, less))))

-- ---- an entry of a frame below
stay_below : (tr : List Entry) (x : Entry) (path : Path) (k : ℕ) (w : Place) → length x.path < length path →
    items_by (x ∷ tr) (x ∷ tr) path k w ≡ items_by tr tr path k w
stay_below tr x path k w less =
    items_stay tr x path k w
    (first_false (same_path x.path path) _ (not_true (same_path x.path path) (λ h. let e = ap length (path_is x.path path h) in omega (arith, e, less))))
    (and_false (is_body w.kind) _ (not_under x.path ((k, w.node) ∷ path) (omega (arith, less))))

not_more : (b : Bool) (o : Option Value) (v : Value) → is_some (if b then Some v else o) ≡ false → (is_some o ≡ false) × (b ≡ false)
not_more true o v h = absurd (true≢false h)
not_more false o v h = (h, refl)

turned : (u w : Place) → same_place u w ≡ false → same_place w u ≡ false
turned u w h = not_true (same_place w u) (λ g.
    true≢false (sym (subst (λ z. same_place u z ≡ true) (sym (same_place_eq w u g)) (same_place_itself u)) ∙ h))

body_is : (u : Place) → u.kind ≡ Body → u ≡ place u.node Body
body_is u h = λ i. record { node = u.node; kind = h i }

neither_is : (a b : Bool) → a ≡ false → b ≡ false → (a || b) ≡ false
neither_is false b h g = g
neither_is true b h g = absurd (true≢false h)

module _ (world : World) where
  -- ---- frames that are held
  above_untouched : (tr : List Entry) (x : Entry) (f : Local) (u : Place) → u.kind ≡ Body → is_under x.path ((f.scene.turn, u.node) ∷ f.scene.path) ≡ true →
      IsUntouched tr f.scene (with_body u (done_in f.begun)) → IsUntouched (x ∷ tr) f.scene (with_body u (done_in f.begun))
  above_untouched tr x f u body under h = record {
    now = λ w d.
        stay_of_above tr x f.scene.path f.scene.turn u.node w under
        (λ q. true≢false (sym (subst (λ z. same_place z u ≡ true) (body_is u body ∙ sym q) (same_place_itself u)) ∙ (neither (done_in f.begun w) _ d).1))
        ∙ h.now w d;
    later = λ k w less. stay_above_later tr x f.scene.path f.scene.turn u.node k w under less ∙ h.later k w less;
  }

  held_untouched : (tr : List Entry) (x : Entry) (path : Path) (hs : List (Local × Place)) → is_under x.path path ≡ true → AllWaitFree world tr path hs →
      AllHeldUntouched tr hs → AllHeldUntouched (x ∷ tr) hs
  held_untouched tr x path [] under a h = tt
  held_untouched tr x path (g ∷ hs) under (p, w, rest) (h, below) =
      let more = subst (λ z. is_under x.path z ≡ true) p under in (
        above_untouched tr x g.0 g.1 w.body more h,
        held_untouched tr x g.0.scene.path hs (under_tail x.path (g.0.scene.turn, g.1.node) g.0.scene.path more) rest below,
      )

  -- ---- a pick
  module _ (st next : State) (free : AreFree world st) (fresh : AreFresh st) (a : AreUntouched st) (x : Entry) (p : x.path ≡ st.top.scene.path)
      (t : x.turn ≡ st.top.scene.turn) (waits : AllWaitFree world next.trace next.top.scene.path next.held) where
    held_on : AllHeldUntouched (x ∷ st.trace) st.held
    held_on =
        held_untouched st.trace x st.top.scene.path st.held
        (subst (λ z. is_under z st.top.scene.path ≡ true) (sym p) (under_itself st.top.scene.path)) free.held a.held

    later : (k : ℕ) (w : Place) → st.top.scene.turn < k → items_by (x ∷ st.trace) (x ∷ st.trace) st.top.scene.path k w ≡ []
    later k w less = stay_later st.trace x st.top.scene.path k w p (omega (arith, less, t)) ∙ a.top.later k w less

    -- a further event is done in this frame
    one_more : (f : Scene) (e : Begun) (u : Place) (v : Value) → next.top.scene ≡ f → next.top.begun ≡ Some (with_given e u v) →
        ((w : Place) → is_done e w ≡ false → same_place u w ≡ false → items_by (x ∷ st.trace) (x ∷ st.trace) f.path f.turn w ≡ []) →
        ((k : ℕ) (w : Place) → f.turn < k → items_by (x ∷ st.trace) (x ∷ st.trace) f.path k w ≡ []) →
        IsUntouched (x ∷ st.trace) next.top.scene (done_in next.top.begun)
    one_more f e u v at is still after =
        subst (λ z. IsUntouched (x ∷ st.trace) z (done_in next.top.begun)) (sym at) (record {
          now = λ w s. let d = not_more (same_place u w) (e.given w) v (sym (ap (λ o. done_in o w) is) ∙ s) in still w d.0 d.1;
          later = after;
        })

    top_untouched : ComesTo world st next → next.trace ≡ x ∷ st.trace → IsUntouched (x ∷ st.trace) next.top.scene (done_in next.top.begun)
    top_untouched (rests b q l h) new = record {
      now = λ w s. absurd (true≢false (sym (ap (λ o. done_in o w) b) ∙ s));
      later = λ k w m. subst (λ z. items_by (x ∷ st.trace) (x ∷ st.trace) z k w ≡ []) (sym q) (later k w (omega (arith, l, m)));
    }
    top_untouched (begins e is given q tn h) new = record {
      now = λ w s. subst (λ z. items_by (x ∷ st.trace) (x ∷ st.trace) next.top.scene.path z w ≡ []) (sym tn)
          (subst (λ z. items_by (x ∷ st.trace) (x ∷ st.trace) z (suc st.top.scene.turn) w ≡ []) (sym q) (later (suc st.top.scene.turn) w (omega arith)));
      later = λ k w m. subst (λ z. items_by (x ∷ st.trace) (x ∷ st.trace) z k w ≡ []) (sym q) (later k w (omega (arith, tn, m)));
    }
    top_untouched (takes e u y is took tr en bare h) new =
        one_more st.top.scene e u took.value took.scene took.begun
        (λ w d s. subst (λ (z : List Entry). items_by z z st.top.scene.path st.top.scene.turn w ≡ []) (sym tr ∙ new)
        (stay_of_other st.trace y st.top.scene.path st.top.scene.turn u w en.path en.place (turned u w s)
        ∙ a.top.now w (ap (λ o. done_in o w) is ∙ d)))
        later
    top_untouched (starts u y b q tr en h) new = record {
      now = λ w s. absurd (true≢false (sym (ap (λ o. done_in o w) b) ∙ s));
      later = λ k w m. subst (λ z. items_by (x ∷ st.trace) (x ∷ st.trace) z k w ≡ []) (sym q)
          (stay_below st.trace x ((st.top.scene.turn, u.node) ∷ st.top.scene.path) k w (let e = ap length p in omega (arith, e))
          ∙ by_under st.trace st.trace ((st.top.scene.turn, u.node) ∷ st.top.scene.path) k w empty empty);
    }
      where
        w : WaitsFree world next.trace st.top u
        w = (subst (AllWaitFree world next.trace next.top.scene.path) h waits).1

        undone : started_in st.top.begun u.node ≡ false
        undone =
            ap (λ o. started_in o u.node) w.is
            ∙ (ap (is_done w.expression) (sym (body_is u w.body))
            ∙ (ap (λ d. d u) (done_as world st.top.scene w.expression w.passed (u ∷ w.ahead) w.stands.along)
            ∙ not_passed world st.top.scene w.expression w.passed w.ahead u w.stands.along))

        empty : items_under ((st.top.scene.turn, u.node) ∷ st.top.scene.path) st.trace ≡ []
        empty = fresh.top.now u.node undone
    top_untouched (ends g e is body took held) new =
        let h = (subst (AllHeldUntouched (x ∷ st.trace)) held held_on).0 in
        one_more g.0.scene e g.1 took.value took.scene took.begun
        (λ w d s. h.now w (neither_is (done_in g.0.begun w) (same_place w g.1) (ap (λ o. done_in o w) is ∙ d) (turned g.1 w s))) h.later

    next_held : ComesTo world st next → next.trace ≡ x ∷ st.trace → AllHeldUntouched (x ∷ st.trace) next.held
    next_held (rests b q l h) new = subst (AllHeldUntouched (x ∷ st.trace)) (sym h) held_on
    next_held (begins e is given q tn h) new = subst (AllHeldUntouched (x ∷ st.trace)) (sym h) held_on
    next_held (takes e u y is took tr en bare h) new = subst (AllHeldUntouched (x ∷ st.trace)) (sym h) held_on
    next_held (starts u y b q tr en h) new =
        subst (AllHeldUntouched (x ∷ st.trace)) (sym h) (
          record {
            now = λ w d. let n = neither (done_in st.top.begun w) _ d in
                subst (λ (z : List Entry). items_by z z st.top.scene.path st.top.scene.turn w ≡ []) (sym tr ∙ new)
                (stay_of_other st.trace y st.top.scene.path st.top.scene.turn u w en.path en.place n.1 ∙ a.top.now w n.0);
            later = later;
          },
          held_on,
        )
    next_held (ends g e is body took held) new = (subst (AllHeldUntouched (x ∷ st.trace)) held held_on).1

pub picks_stay_untouched : PicksStayUntouched
picks_stay_untouched world st next free fresh a r =
    let c = picks_come_to world st next free r in
    let n = leaves_entry world st (canonical_pick world st.top st.top.begun) next r in
    let x = entry_of world st.top (canonical_pick world st.top st.top.begun) n.items in
    record {
      top = subst (λ (z : List Entry). IsUntouched z next.top.scene (done_in next.top.begun)) (sym n.newest)
          (top_untouched world st next free fresh a x refl refl c.2 c.0 n.newest);
      held = subst (λ (z : List Entry). AllHeldUntouched z next.held) (sym n.newest) (next_held world st next free fresh a x refl refl c.2 c.0 n.newest);
    }

-- ---- along the canonical order
started_way : (world : World) (vs : List Value) (act : Act Value) (st : State) → started_run world act vs ≡ Running st → AreUntouched st × NoneEnds st.trace
started_way world vs (Done v is s) st q =
    let first : State = record { top = main_frame world vs; held = []; store = s; trace = [] } in
    subst (λ (z : State). AreUntouched z × NoneEnds z.trace) (same_state first st (through_limited world.limits _ st q))
    (record { top = record { now = λ w h. refl; later = λ k w l. refl }; held = tt }, tt)
started_way world vs (Raised c) st q = absurd (cc (q))
started_way world vs (Ended n is s) st q = absurd (cc (q))
started_way world vs (Outside c n) st q = absurd (cc (q))
started_way world vs Unplaced st q = absurd (cc (q))

pub starts_on_the_way : StartsOnTheWay
starts_on_the_way world input vs st q =
    let r = started_way world vs _ st (through_within _ _ st q) in
    record { clear = starts_clear world input vs st q; untouched = r.0; endless = r.1 }

pub stays_on_the_way : StaysOnTheWay
stays_on_the_way world first _ _ formed way none = way
stays_on_the_way world first _ _ formed way (more n st next before q g) =
    let w = stays_on_the_way world first st n formed way before in
    record {
      clear = goes_clear world first next (suc n) formed way.clear (more n st next before q g);
      untouched = picks_stay_untouched world st next w.clear.free w.clear.fresh w.untouched q;
      endless = picks_end_none world st next w.endless q;
    }
