-- What is told of a full expression stays what the definitions have of it.
use Rattle.std.proofs.Common.{◌≡◌, ◌⊎◌, inl, inr, ⊎_elim, ℕ, zero, suc, Bool, true, false, ◌||◌, ◌==◌, if◌then◌else◌, List, [], ◌∷◌, ◌++◌}
use Rattle.std.proofs.Common.{append-nil, length, Some, refl, sym, ap, ap₂, subst, ◌∙◌, true≢false, arith}
use Rattle.std.specs.Prelude.{slice_get}
use Rattle.std.proofs.lemmas.Bool.Decides.{nat_tests}
use Rattle.std.proofs.lemmas.Option.{same_Some}
use Rattle.ub_base.specs.Frames.{Path}
use Rattle.ub_base.specs.declared.clause.Kind.{Kind}
use Rattle.ub_base.specs.declared.clause.Kind.TheVariants.{Val, Eff, Body}
use Rattle.ub_base.specs.declared.names.Item.{Item}
use Rattle.c_typed.specs.declared.tree.Place.{Place}
use Rattle.c_typed.specs.Order.{Taken, events, has, is_body, place, same_place}
use Rattle.c_typed.specs.Tree.{Tree}
use Rattle.c_model.specs.Findings.{items_of, items_under, same_path}
use Rattle.c_model.specs.Moments.{is_of, items_by}
use Rattle.c_model.specs.Runs.{Entry}
use Rattle.c_model.specs.Steps.{Begun, Scene, taken_by, with_given}
use Rattle.c_model.specs.World.{World}
use Rattle.c_model.proofs.Listed.{same_place_itself}
use Rattle.evaluation_log.specs.Touched.{touched}
use Rattle.finding_laws.specs.Forgotten.{HasItemsBut, HasItemsOf}
use Rattle.finding_laws.specs.LeastPairs.{HasItems}
use Rattle.run_evaluations.specs.Listing.{IsListedNext}
use Rattle.run_evaluations.specs.Told.{Evaluation, Opened, chosen_by, evaluation, last_given, told, has as has_item}
use Rattle.telling_laws.specs.Standing.{Chooses, StandsBehind, StandsTold, places}
use Rattle.telling_laws.proofs.Besides.{of_either}
use Rattle.telling_laws.proofs.Splits.{at_seam, given_last, last_split, places_push}
use Rattle.telling_laws.proofs.Stands.{begins_standing, chooses_standing, gives_standing, tells_standing}
use Rattle.detector_laws.specs.Looked.{scope_of}
use Rattle.detector_laws.specs.Frames.{IsEntryOf, StandsFree}
use Rattle.detector_laws.specs.Records.{BeginsRecorded, EndsRecorded, GathersRecorded, Records, StartsRecorded, StaysRecorded, TellsRecorded}
use Rattle.detector_laws.proofs.Free.{not_passed, or_false}
use Rattle.detector_laws.proofs.Goes.{held_items, own_items}
use Rattle.detector_laws.proofs.Paths.{and_b, not_under, or_a, or_b, path_itself}

-- ---- lists of evaluations
pushed : (es : List Evaluation) (e d : Evaluation) (i : ℕ) → slice_get (es ++ (e ∷ [])) i ≡ Some d → ((j : ℕ) × (slice_get es j ≡ Some d)) ⊎ (e ≡ d)
pushed [] e d zero h = inr (same_Some e d h)
pushed [] e d (suc i) h = absurd (cc)
pushed (c ∷ es) e d zero h = inl (zero, h)
pushed (c ∷ es) e d (suc i) h = ⊎_elim (λ r. inl (suc r.0, r.1)) inr (pushed es e d i h)

at_front : (es ds : List Evaluation) (i : ℕ) (d : Evaluation) → slice_get es i ≡ Some d → slice_get (es ++ ds) i ≡ Some d
at_front [] ds i d h = absurd (cc)
at_front (c ∷ es) ds zero d h = h
at_front (c ∷ es) ds (suc i) d h = at_front es ds i d h

pub has_place : (es : List Evaluation) (i : ℕ) (d : Evaluation) → slice_get es i ≡ Some d → has (places es) d.place ≡ true
has_place [] i d h = absurd (cc)
has_place (c ∷ es) zero d h =
    or_a (same_place d.place c.place) _
    (subst (λ z. same_place d.place z ≡ true) (ap (λ (z : Evaluation). z.place) (sym (same_Some c d h))) (same_place_itself d.place))
has_place (c ∷ es) (suc i) d h = or_b (same_place d.place c.place) _ (has_place es i d h)

same_ends : (xs ys : List Place) (a b : Place) → xs ++ a ∷ [] ≡ ys ++ b ∷ [] → (xs ≡ ys) × (a ≡ b)
same_ends [] [] a b h = (refl, let z : a ≡ b = cc in z)
same_ends [] (y ∷ []) a b h = absurd (let z : [] ≡ b ∷ [] = cc in cc)
same_ends [] (y ∷ w ∷ ys) a b h = absurd (let z : [] ≡ w ∷ (ys ++ b ∷ []) = cc in cc)
same_ends (x ∷ []) [] a b h = absurd (let z : a ∷ [] ≡ [] = cc in cc)
same_ends (x ∷ w ∷ xs) [] a b h = absurd (let z : w ∷ (xs ++ a ∷ []) ≡ [] = cc in cc)
same_ends (x ∷ xs) (y ∷ ys) a b h =
    let rest : xs ++ a ∷ [] ≡ ys ++ b ∷ [] = cc in
    let head : x ≡ y = cc in
    let r = same_ends xs ys a b rest in
    (ap₂ (λ z zs. z ∷ zs) head r.0, r.1)

-- ---- as it begins
pub begins_recorded : BeginsRecorded
begins_recorded world trace f e t name = (
  record { frame = name; turn = refl; tree = refl; taken = refl; places = refl; items = λ d a h. absurd (true≢false (sym h)) },
  (begins_standing t).0 f.turn (scope_of world f e),
)

-- ---- the items of an event that stays in its frame are those of its entry
same_number : (n : ℕ) → (n == n) ≡ true
same_number n = grind (arith, nat_tests)

if_true : (b : Bool) (xs ys : List Item) → b ≡ true → (if b then xs else ys) ≡ xs
if_true true xs ys h = refl
if_true false xs ys h = absurd (true≢false (sym h))

is_this : (f : Scene) (u : Place) (x : Entry) → IsEntryOf f u x → is_of f.path f.turn u x ≡ true
is_this f u x is =
    ap (λ o. is_of f.path f.turn u (record x { place = o })) is.place
    ∙ and_b _ _ (subst (λ z. same_path x.path z ≡ true) is.path (path_itself x.path))
    (and_b _ _ (subst (λ z. (x.turn == z) ≡ true) is.turn (same_number x.turn)) (same_place_itself u))

kind_is : (k : Kind) → is_body k ≡ true → k ≡ Body
kind_is Body h = refl
kind_is Val h = absurd (true≢false (sym h))
kind_is Eff h = absurd (true≢false (sym h))

pub items_are : (trace : List Entry) (x : Entry) (f : Scene) (u : Place) → IsEntryOf f u x →
    (u.kind ≡ Body → items_under ((f.turn, u.node) ∷ f.path) trace ≡ []) →
    items_by (x ∷ trace) (x ∷ trace) f.path f.turn u ≡ x.items
items_are trace x f u is fresh =
    if_true (is_of f.path f.turn u x) (items_of (x ∷ trace) x u) (items_by (x ∷ trace) trace f.path f.turn u) (is_this f u x is)
    ∙ (ap (λ z. x.items ++ z) (by_kind (is_body u.kind) refl) ∙ append-nil x.items)
  where
    q : Path
    q = (x.turn, u.node) ∷ x.path

    by_kind : (b : Bool) → is_body u.kind ≡ b → (if b then items_under q (x ∷ trace) else []) ≡ []
    by_kind true h =
        ap (λ c. (if c then x.items else []) ++ items_under q trace) (not_under x.path q (omega arith))
        ∙ (ap₂ (λ t p. items_under ((t, u.node) ∷ p) trace) is.turn is.path ∙ fresh (kind_is u.kind h))
    by_kind false h = refl

-- what touched the items that were told, and no frame's, has them
alone : (own : Item → Bool) (is : List Item) → HasItems own is → HasItems (λ j. own j || false) is
alone own is h = λ j. ((λ g. (h j).0 (sym (or_false (own j)) ∙ g)), (λ g. or_false (own j) ∙ (h j).1 g))

-- ---- what an evaluation has of these items
abbrev pub HasTold : Evaluation → List Item → Type 0
HasTold d is = HasItemsOf (is_body d.place.kind) (has_item d) is

-- ---- as an event is told
module _ (world : World) (trace : List Entry) (f : Scene) (e : Begun) (u : Place) (passed ahead : List Place) (t : Opened)
    (s : StandsFree world trace f e passed (u ∷ ahead)) (r : Records world trace f e passed passed t) where
  listed_next : IsListedNext t u
  listed_next =
      ap₂ (λ (c : Taken) (z : Tree). slice_get (events c 0 z) (length t.done)) r.taken r.tree
      ∙ (ap (λ z. slice_get z (length t.done)) (sym s.along.listed)
      ∙ (ap (λ z. slice_get (z ++ u ∷ ahead) (length t.done)) (sym r.places) ∙ at_seam t.done u ahead))

  -- it stands behind the event, if nodes chose so
  stands_behind : (new : Taken) (items : List Item) → Chooses (taken_by world f e) new u → StandsTold t →
      StandsBehind (told (evaluation u.node u.kind items) (chosen_by new t)) (evaluation u.node u.kind items)
  stands_behind new items chooses stands =
      let c = chooses_standing t u new stands listed_next (subst (λ (z : Taken). Chooses z new u) (sym r.taken) chooses) in
      tells_standing (chosen_by new t) (evaluation u.node u.kind items) c.0 c.1

  told_places : (items : List Item) → places (t.done ++ (evaluation u.node u.kind items ∷ [])) ≡ passed ++ u ∷ []
  told_places items = places_push t.done (evaluation u.node u.kind items) ∙ ap (λ z. z ++ u ∷ []) r.places

  -- of what was done before
  kept : (later : List Entry) → ((w : Place) → has passed w ≡ true → items_by later later f.path f.turn w ≡ items_by trace trace f.path f.turn w) →
      (d : Evaluation) (j : ℕ) → slice_get t.done j ≡ Some d → HasTold d (items_by later later f.path f.turn d.place)
  kept later stay d j h =
      let p : has passed d.place ≡ true = ap (λ z. has z d.place) (sym r.places) ∙ has_place t.done j d h in
      subst (HasTold d) (sym (stay d.place p)) (r.items d (j, h) p)

pub tells_recorded : TellsRecorded
tells_recorded world trace x f e u top t items took is tells fresh r stands = (
  record {
    frame = r.frame;
    turn = r.turn;
    tree = r.tree;
    taken = refl;
    places = told_places world trace f e u took.passed took.ahead t took.before r items;
    items = λ d a h. ⊎_elim
        (λ j. kept world trace f e u took.passed took.ahead t took.before r (x ∷ trace) took.around.items d j.0 j.1)
        (λ q. subst (λ (z : Evaluation). HasTold z (items_by (x ∷ trace) (x ∷ trace) f.path f.turn z.place)) q
        (of_either (is_body u.kind) (has_item (evaluation u.node u.kind items)) (items_by (x ∷ trace) (x ∷ trace) f.path f.turn u)
        (subst (HasItems (has_item (evaluation u.node u.kind items))) (sym (items_are trace x f u is fresh))
        (alone (touched items 0 (length items)) x.items tells))))
        (pushed t.done (evaluation u.node u.kind items) d a.0 a.1);
  },
  stands_behind world trace f e u took.passed took.ahead t took.before r (taken_by world f (with_given e u took.value)) items took.chooses stands,
)

pub starts_recorded : StartsRecorded
starts_recorded world trace x f e u passed ahead t items s is r stands = (
  record {
    frame = r.frame;
    turn = r.turn;
    tree = r.tree;
    taken = refl;
    places = told_places world trace f e u passed ahead t s r items;
    items = λ d a h. ⊎_elim
        (λ j. kept world trace f e u passed ahead t s r (x ∷ trace) (own_items world trace x f u passed is (not_passed world f e passed ahead u s.along)) d
        j.0 j.1)
        (λ q. absurd (true≢false (sym (subst (λ (z : Evaluation). has passed z.place ≡ true) (sym q) h) ∙ not_passed world f e passed ahead u s.along)))
        (pushed t.done (evaluation u.node u.kind items) d a.0 a.1);
  },
  stands_behind world trace f e u passed ahead t s r (taken_by world f e) items (record { grows = λ n i h. h; only = λ n ne. refl }) stands,
)

-- ---- while a frame above goes on
pub stays_recorded : StaysRecorded
stays_recorded world trace x f e u passed ahead t body s under r = record {
  frame = r.frame;
  turn = r.turn;
  tree = r.tree;
  taken = r.taken;
  places = r.places;
  items = λ d a h. subst (HasTold d)
      (sym (held_items world trace x f u passed body (not_passed world f e passed ahead u s.along) under d.place h)) (r.items d a h);
}

-- ---- as that frame ends
pub ends_recorded : EndsRecorded
ends_recorded world trace later f e u top t last body is_body_kind took r stands has_body = (
  record {
    frame = r.frame;
    turn = r.turn;
    tree = r.tree;
    taken = r.taken ∙ sym same;
    places = ap places is ∙ (places_push front last_now ∙ (sym (ap places split.1 ∙ places_push front last) ∙ r.places));
    items = λ d a h. ⊎_elim
        (λ j. before d j.0 j.1)
        (λ q. subst (λ (z : Evaluation). HasTold z (items_by later later f.path f.turn z.place)) q
        (subst (λ (z : Place). HasItemsOf (is_body z.kind) (has_item last_now) (items_by later later f.path f.turn z)) (sym at_end.1) of_body))
        (pushed front last_now d a.0 (ap (λ z. slice_get z a.0) (sym is) ∙ a.1));
  },
  (gives_standing t body).1 last stands,
)
  where
    last_now : Evaluation
    last_now = record last { body = body }

    split : (front : List Evaluation) × (t.done ≡ front ++ (last ∷ []))
    split = last_split t.done last stands.some stands.at

    front : List Evaluation
    front = split.0

    is : last_given body t.done ≡ front ++ (last_now ∷ [])
    is = ap (last_given body) split.1 ∙ given_last body front last

    at_end : (places front ≡ took.passed) × (last.place ≡ u)
    at_end = same_ends (places front) took.passed last.place u (sym (ap places split.1 ∙ places_push front last) ∙ r.places)

    -- a body chooses nothing
    other : (n : ℕ) → u ≡ place (suc n) Val → ⊥
    other n q = let z : Body ≡ Val = sym is_body_kind ∙ ap (λ (v : Place). v.kind) q in cc

    same : taken_by world f (with_given e u took.value) ≡ taken_by world f e
    same = λ i n. took.chooses.only n (other n) i

    of_body : HasItemsOf (is_body u.kind) (has_item last_now) (items_by later later f.path f.turn u)
    of_body = subst (λ (k : Kind). HasItemsOf (is_body k) (has_item last_now) (items_by later later f.path f.turn u)) (sym is_body_kind) has_body

    before : (d : Evaluation) (j : ℕ) → slice_get front j ≡ Some d → HasTold d (items_by later later f.path f.turn d.place)
    before d j h =
        r.items d (j, ap (λ z. slice_get z j) split.1 ∙ at_front front (last ∷ []) j d h)
        (ap (λ z. has z d.place) (sym at_end.0) ∙ has_place front j d h)

-- ---- as operands are complete
pub gathers_recorded : GathersRecorded
gathers_recorded world trace f e closed done t n r = record {
  frame = r.frame;
  turn = r.turn;
  tree = r.tree;
  taken = r.taken;
  places = r.places;
  items = r.items;
}
