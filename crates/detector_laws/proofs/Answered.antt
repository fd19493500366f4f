-- What is answered behind an event is what c_model finds there.
use Rattle.std.proofs.Common.{◌≡◌, ℕ, Bool, true, false, not, ◌||◌, if◌then◌else◌, List, [], ◌∷◌, ◌++◌, Some, None, refl, sym, ap, ap₂, subst}
use Rattle.std.proofs.Common.{◌∙◌, true≢false}
use Rattle.ub_base.specs.declared.clause.Kind.TheVariants.{Val}
use Rattle.ub_base.specs.declared.names.Item.{Item}
use Rattle.addr_map.specs.Conflict.{some_conflict}
use Rattle.c_typed.specs.declared.class.Class.TheVariants.{Store}
use Rattle.c_typed.specs.declared.tree.Place.{Place}
use Rattle.c_typed.specs.Order.{Taken, events, has, is_body, place}
use Rattle.c_typed.specs.Tree.{Tree, Trees, node}
use Rattle.c_model.specs.Findings.{accesses}
use Rattle.c_model.specs.FirstFinding.{are_apart, quarrels, races}
use Rattle.c_model.specs.Moments.{Open, has_shown}
use Rattle.c_model.specs.Program.{tree_of}
use Rattle.c_model.specs.Runs.{Entry}
use Rattle.c_model.specs.Steps.{Begun, Local, Scene, is_done, taken_by, with_given}
use Rattle.c_model.specs.World.{World}
use Rattle.elaborate.specs.Formed.{is_formed}
use Rattle.finding_laws.specs.FirstPairs.{IsDue}
use Rattle.finding_laws.specs.Forgotten.{AllAsked}
use Rattle.listing_laws.specs.Along.{StandsAlong}
use Rattle.run_evaluations.specs.Scopes.{Scope, part_of}
use Rattle.run_evaluations.specs.Told.{Opened}
use Rattle.telling_laws.specs.FirstFound.{IsLookedAt, IsTold, OwnAreFree}
use Rattle.telling_laws.specs.Newly.{IsTaken, with_it}
use Rattle.telling_laws.specs.OnlyNew.{AreAround}
use Rattle.telling_laws.proofs.FirstFound.{first_is_found}
use Rattle.telling_laws.proofs.OwnLemmas.{only_stores_conflict}
use Rattle.telling_laws.proofs.Stands.{begins_by}
use Rattle.detector_laws.specs.Looked.{looked_at, scope_of}
use Rattle.detector_laws.specs.Frames.{TakesEvent}
use Rattle.detector_laws.specs.Bare.{IsBareStore}
use Rattle.detector_laws.specs.Records.{AnswersAreFound, Records}
use Rattle.detector_laws.proofs.Asked.{by_asked}
use Rattle.detector_laws.proofs.Free.{done_as, done_if_shown, shown_of_quarrel, shown_of_race}
use Rattle.detector_laws.proofs.Paths.{and_b, and_l, and_r, not_true}
use Rattle.detector_laws.proofs.Recorded.{has_place}

if_done : (b : Bool) (xs ys : List Item) → b ≡ true → (if b then xs else ys) ≡ xs
if_done true xs ys h = refl
if_done false xs ys h = absurd (true≢false (sym h))

-- ---- two events of one node
module _ (world : World) (trace : List Entry) (f : Scene) (e : Begun) (done ahead : List Place) (formed : is_formed (tree_of e.root) ≡ true)
    (along : StandsAlong world f e None done ahead) (n : ℕ) (bare : IsBareStore world trace f e n) where
  abbrev o : Open
  o = looked_at world trace f e

  -- it with the items of what is done alone
  abbrev only : Open
  only = record o { items = λ w. if is_done e w then o.items w else [] }

  value_bare : (ts : Trees) → part_of (scope_of world f e) n ≡ Some (node Store ts) → only.items (place n Val) ≡ []
  value_bare ts there = by_test (is_done e (place n Val)) refl
    where
      by_test : (b : Bool) → is_done e (place n Val) ≡ b → (if b then o.items (place n Val) else []) ≡ []
      by_test true h = bare ts there h
      by_test false h = refl

  only_free : OwnAreFree world.rows only n
  only_free = only_stores_conflict world.rows (scope_of world f e) only n refl refl value_bare

  due_only : (w : Place) → IsDue o w → IsDue only w
  due_only w d = record { due = d.due; within = d.within }

  is_so : (w : Place) → has done w ≡ true → only.items w ≡ o.items w
  is_so w h = if_done (is_done e w) (o.items w) [] (ap (λ d. d w) (done_as world f e done ahead along) ∙ h)

  pub own_free : OwnAreFree world.rows o n
  own_free x y dx dy order a b = (
    not_true (races world.rows o x y) (λ h.
        let d = done_if_shown world trace f e done ahead formed along x y dx dy order (shown_of_race world.rows o x y h) in
        let p = and_l (not (is_body x.kind || is_body y.kind)) _ h in
        let q = and_r (not (is_body x.kind || is_body y.kind)) _ h in
        let c = and_l (are_apart o x y) _ q in
        let g = and_r (are_apart o x y) _ q in
        let s = and_l (o.shows x y) _ g in
        let m = and_r (o.shows x y) _ g in
        true≢false (sym (and_b _ _ p (and_b _ _ c (and_b _ _ s
        (ap₂ (λ (v w : List Item). some_conflict world.rows (accesses v) (accesses w)) (is_so x d.0) (is_so y d.1) ∙ m))))
        ∙ (only_free x y (due_only x dx) (due_only y dy) order a b).0)),
    not_true (quarrels world.rows o x y) (λ h.
        let d = done_if_shown world trace f e done ahead formed along x y dx dy order (shown_of_quarrel world.rows o x y h) in
        let c = and_l (are_apart o x y) _ h in
        let g = and_r (are_apart o x y) _ h in
        let s = and_l (o.shows x y) _ g in
        let m = and_r (o.shows x y) _ g in
        true≢false (sym (and_b _ _ c (and_b _ _ s
        (ap₂ (λ (v w : List Item). some_conflict world.rows v w) (is_so x d.0) (is_so y d.1) ∙ m)))
        ∙ (only_free x y (due_only x dx) (due_only y dy) order a b).1)),
  )

-- ---- what was told is what c_model looks at
module _ (world : World) (trace later : List Entry) (f : Scene) (e : Begun) (u : Place) (top : Local) (t : Opened)
    (took : TakesEvent world trace later f e u top)
    (r : Records world later f (with_given e u took.value) (took.passed ++ u ∷ []) (took.passed ++ u ∷ []) t) (all : AllAsked later) where
  abbrev now : Begun
  now = with_given e u took.value

  abbrev behind : Open
  behind = looked_at world later f now

  same_scope : t.scope ≡ scope_of world f now
  same_scope = λ i. record { tree = r.tree i; taken = r.taken i }

  looked : IsLookedAt t behind
  looked = record {
    formed = ap is_formed r.tree ∙ took.taken.formed;
    begins = begins_by t took.further
        (ap₂ (λ (c : Taken) (z : Tree). events c 0 z) r.taken r.tree ∙ (sym took.along.listed ∙ ap (λ z. z ++ took.further) (sym r.places)));
    tree = sym r.tree;
    taken = sym r.taken;
    shows = took.around.shows
        ∙ (ap₂ (λ (z : Tree) (c : Taken). has_shown z c (has (with_it took.passed u))) (sym r.tree) (sym r.taken)
        ∙ ap (λ z. has_shown t.scope.tree t.scope.taken (has z)) (sym r.places));
    items = λ d a. r.items d a (ap (λ z. has z d.place) (sym r.places) ∙ has_place t.done a.0 d a.1);
    asked = λ d a. by_asked later later f.path f.turn d.place all all;
  }

  pub is_told : IsBareStore world later f now u.node →
      IsTold world.rows t (taken_by world f e) took.passed u took.ahead took.further (looked_at world trace f e) behind
  is_told bare = record {
    taken = subst (λ (z : Scope). IsTaken z (taken_by world f e) took.passed u took.ahead took.further) (sym same_scope) took.taken;
    around = subst (λ (z : Scope). AreAround z (taken_by world f e) took.passed u (looked_at world trace f e) behind) (sym same_scope) took.around;
    looked = looked;
    own = own_free world later f now (took.passed ++ u ∷ []) took.further took.taken.formed took.along u.node bare;
    raceless = took.before.free.raceless;
    quarrelless = took.before.free.quarrelless;
  }

pub answers_are_found : AnswersAreFound
answers_are_found world trace later f e u top t frames r took records bare all first =
    first_is_found world.rows frames t (taken_by world f e) took.passed u took.ahead took.further (looked_at world trace f e)
    (looked_at world later f (with_given e u took.value)) r (is_told world trace later f e u top t took records all bare) first
