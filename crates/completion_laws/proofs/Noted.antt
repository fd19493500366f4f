-- What an event completes is as the code has it noted.
use Rattle.std.proofs.Common.{
  ◌≡◌,
  ℕ,
  zero,
  suc,
  ◌+◌,
  ◌-◌,
  ◌<◌,
  ◌≤◌,
  Bool,
  true,
  false,
  not,
  ◌&&◌,
  ◌||◌,
  ◌==◌,
  nat_lt,
  if◌then◌else◌,
  List,
  [],
  ◌∷◌,
  ◌++◌,
  append_assoc,
  take,
  drop,
  Option,
  Some,
  None,
  slice_get,
  inl,
  inr,
  refl,
  sym,
  ap,
  subst,
  ◌∙◌,
  true≢false,
  arith,
}
use Rattle.std.proofs.lemmas.List.{same_from_push}
use Rattle.std.proofs.lemmas.Option.{slice_get_within}
use Rattle.c_typed.specs.declared.class.Class.{Class}
use Rattle.c_typed.specs.declared.tree.Place.{Place}
use Rattle.c_typed.specs.Decide.{has_kind, due_in, due_among}
use Rattle.c_typed.specs.Order.{Taken, goes, events, has, same_place}
use Rattle.c_typed.specs.Tree.{Tree, Trees, node, none, more, size, class_of, kinds_of}
use Rattle.c_typed.specs.Tree as typed
use Rattle.elaborate.proofs.Ranges.{has_left, or_cases}
use Rattle.c_model.specs.Completions.{Incomplete, completed_by, parent_in}
use Rattle.c_model.specs.Program.{tree_of}
use Rattle.c_model.specs.Steps.{Begun, Scene, is_done, taken_by}
use Rattle.c_model.specs.World.{World}
use Rattle.c_model.proofs.Decided.{has_due}
use Rattle.c_model.proofs.Listed.{same_place_eq}
use Rattle.listing_laws.proofs.Agreeing.{lists_alike}
use Rattle.run_layout.specs.declared.nodes.NodeInfo.{NodeInfo}
use Rattle.run_layout.specs.declared.steps.Due.{Due}
use Rattle.run_layout.specs.declared.steps.Expression.{Expression}
use Rattle.run_layout.specs.declared.steps.Listed.{Listed}
use Rattle.run_layout.specs.declared.steps.Listed.TheVariants as listed
use Rattle.run_layout.specs.declared.tables.Tables.{Tables}
use Rattle.run_layout.specs.EventActs.{IsEntry}
use Rattle.run_layout.specs.LaidOut.{LaidOutBy}
use Rattle.run_layout.specs.OfTrees.{IsListingOf}
use Rattle.run_listing.specs.Along.{part_of, events_of}
use Rattle.run_listing.specs.Cursor.{IsListed, StandsStraight}
use Rattle.run_listing.specs.Straight.{PartsAlike, PartsFurther}
use Rattle.run_listing.proofs.Cursor.{two_parts}
use Rattle.completion_laws.specs.Completed.{comes_next, with_above}
use Rattle.completion_laws.specs.Listing.{completed_of, CompletesListed}
use Rattle.completion_laws.proofs.Ahead.{by_test, if_true, if_false, none_above}
use Rattle.completion_laws.proofs.Coded.{class_noted, parent_noted, top_noted, ends_noted}
use Rattle.completion_laws.proofs.Found.{completes_by_next, if_not}
use Rattle.completion_laws.proofs.Lists.{has_at}
use Rattle.completion_laws.proofs.Last.{class_in, class_among, node_last}

-- ---- an event that is due is one of its node
mutual
  kind_there : (taken : Taken) (t : Tree) (k : ℕ) (u : Place) (c : Class) → due_in taken k t u ≡ true → class_in k t u.node ≡ Some c
      → has_kind (kinds_of c) u.kind ≡ true
  kind_there taken (node d ts) k u c h is = by_test (u.node == k)
      (λ e. let same : Some d ≡ Some c = sym (if_true _ _ _ e) ∙ is in
      let it : d ≡ c = cc in subst (λ z. has_kind (kinds_of z) u.kind ≡ true) it (sym (if_true _ _ _ e) ∙ h))
      (λ e. kind_among taken d (taken k) ts 0 (suc k) u c (sym (if_false _ _ _ e) ∙ h) (sym (if_false _ _ _ e) ∙ is))

  kind_among : (taken : Taken) (d : Class) (choice : Option ℕ) (ts : Trees) (i m : ℕ) (u : Place) (c : Class)
      → due_among taken d choice i m ts u ≡ true → class_among m ts u.node ≡ Some c → has_kind (kinds_of c) u.kind ≡ true
  kind_among taken d choice none i m u c h is = absurd (true≢false (sym h))
  kind_among taken d choice (more t ts) i m u c h is = by_test (nat_lt u.node (m + size t))
      (λ e. kind_there taken t m u c (and_right (goes d choice i) _ (sym (if_true _ _ _ e) ∙ h)) (sym (if_true _ _ _ e) ∙ is))
      (λ e. kind_among taken d choice ts (suc i) (m + size t) u c (sym (if_false _ _ _ e) ∙ h) (sym (if_false _ _ _ e) ∙ is))
    where
      and_right : (a b : Bool) → (a && b) ≡ true → b ≡ true
      and_right true b h = h
      and_right false b h = absurd (true≢false (sym h))

-- ---- lists
record At (us : List Place) (u : Place) : Type 0 where
  before : List Place
  behind : List Place
  parts : us ≡ before ++ u ∷ behind

at_place : (us : List Place) (u : Place) → has us u ≡ true → At us u
at_place [] u h = absurd (true≢false (sym h))
at_place (v ∷ vs) u h = elim (or_cases (same_place u v) _ h) [
  | inl e ↦ record { before = []; behind = vs; parts = ap (λ z. z ∷ vs) (sym (same_place_eq u v e)) }
  | inr g ↦ (let a = at_place vs u g in record { before = v ∷ a.before; behind = a.behind; parts = ap (λ z. v ∷ z) a.parts })
]

one_at : (xs : List Listed) (n : ℕ) (x : Listed) → slice_get xs n ≡ Some x → take 1 (drop n xs) ≡ x ∷ []
one_at [] zero x h = absurd (cc)
one_at [] (suc n) x h = absurd (cc)
one_at (y ∷ ys) zero x h = let e : y ≡ x = cc in ap (λ z. z ∷ []) e
one_at (y ∷ ys) (suc n) x h = one_at ys n x h

-- ---- all together
module _ (alike : PartsAlike) (further : PartsFurther) where
  module _ (world : World) (f : Scene) (entries : List Listed) (firsts : List ℕ) (nodes : List NodeInfo) (tables : Tables) (laid : Expression) (at : ℕ)
      (e : Begun) (taken : Taken) (d : Due) (lays : LaidOutBy firsts nodes tables entries laid)
      (same : typed.tree_of laid.root.now ≡ tree_of e.root) (s : StandsStraight world f entries laid.first (suc at) laid.end e None)
      (l : IsListed world f entries laid.first laid.end e taken) (low : laid.first ≤ at) (is : slice_get entries at ≡ Some (listed.Event d))
    where
      abbrev T : Taken
      T = taken_by world f e

      abbrev tree : Tree
      tree = tree_of e.root

      abbrev up : List Listed
      up = part_of entries laid.first at

      abbrev ahead : List Listed
      ahead = part_of entries (suc at) laid.end

      passed_is : part_of entries laid.first (suc at) ≡ up ++ listed.Event d ∷ []
      passed_is =
          let one : suc at - at ≡ 1 = omega arith in
          two_parts entries laid.first at (suc at) low (omega arith)
          ∙ ap (λ z. up ++ z) (ap (λ z. take z (drop at entries)) one ∙ one_at entries at (listed.Event d) is)

      last_has : has (events_of T (part_of entries laid.first (suc at))) d.place ≡ true
      last_has = elim s.behind [
        | inl empty ↦ absurd (no_end up (sym passed_is ∙ empty))
        | inr (es, z, parts, has_it) ↦
            (let both = same_from_push es up (listed.Event z) (listed.Event d) (sym parts ∙ passed_is) in
            let last : listed.Event z ≡ listed.Event d = both.1 in
            let it : z ≡ d = cc in
            subst (λ (w : Due). has (events_of T (part_of entries laid.first (suc at))) w.place ≡ true) it has_it)
      ]
        where
          no_end : (xs : List Listed) → xs ++ listed.Event d ∷ [] ≡ [] → ⊥
          no_end [] h = absurd (cc)
          no_end (x ∷ xs) h = absurd (cc)

      it : At (events T 0 tree) d.place
      it = at_place (events T 0 tree) d.place
          (ap (λ z. has z d.place) (sym s.along.listed)
          ∙ has_left (events_of T (part_of entries laid.first (suc at))) (events_of T ahead) d.place last_has)

      whole : IsListingOf (up ++ ([] ++ listed.Event d ∷ ahead)) tree
      whole =
          subst (λ z. IsListingOf z tree)
          (two_parts entries laid.first (suc at) laid.end (omega (arith, low)) s.order.1
          ∙ (ap (λ z. z ++ ahead) passed_is ∙ append_assoc up (listed.Event d ∷ []) ahead)) l.0

      sides : (events_of T (up ++ ([] ++ listed.Event d ∷ [])) ≡ it.before ++ d.place ∷ []) × (events_of T ahead ≡ it.behind)
      sides = let r = further up [] ahead d tree whole T it.before it.behind it.parts in (r.0, r.1)

      passed_events : events_of T (part_of entries laid.first (suc at)) ≡ it.before ++ d.place ∷ []
      passed_events = ap (events_of T) passed_is ∙ sides.0

      done_is : is_done e ≡ has (it.before ++ d.place ∷ [])
      done_is = λ i u. (sym (s.along.done u ∙ or_false (is_done e u)) ∙ ap (λ z. has z u) passed_events) i
        where
          or_false : (b : Bool) → (b || false) ≡ b
          or_false true = refl
          or_false false = refl

      -- what is next
      next_events : events_of taken ahead ≡ it.behind
      next_events =
          (alike (part_of entries laid.first (suc at)) ahead tree
          (subst (λ z. IsListingOf z tree) (two_parts entries laid.first (suc at) laid.end (omega (arith, low)) s.order.1) l.0) T taken s.behind
          (lists_alike tree T taken l.1)).1
          ∙ sides.1

      -- what is noted
      entry : IsEntry firsts tables nodes (listed.Event d)
      entry = lays.each at (listed.Event d) low s.order.1 is

      node_low : d.place.node < size (typed.tree_of laid.root.now)
      node_low = let w = slice_get_within nodes d.place.node entry.0 entry.1 in let c = lays.numbered.count in omega (arith, w, c)

      abbrev class : Class
      class = class_of (typed.tree_of entry.0.tree.now)

      class_is : class_in 0 tree d.place.node ≡ Some class
      class_is = ap (λ z. class_in 0 z d.place.node) (sym same) ∙ class_noted firsts laid.root.now nodes d.place.node entry.0 lays.numbered node_low entry.1

      parent_is : parent_in 0 tree d.place.node ≡ d.parent
      parent_is = ap (λ z. parent_in 0 z d.place.node) (sym same) ∙ (by_number d.place.node refl ∙ sym entry.2.parent)
        where
          by_number : (k : ℕ) → d.place.node ≡ k → parent_in 0 (typed.tree_of laid.root.now) d.place.node ≡ entry.0.parent
          by_number zero z =
              none_above (typed.tree_of laid.root.now) 0 d.place.node (omega (arith, z))
              ∙ sym (top_noted firsts laid.root.now nodes entry.0 lays.numbered (ap (slice_get nodes) (sym z) ∙ entry.1))
          by_number (suc k) z = parent_noted firsts laid.root.now nodes d.place.node entry.0 lays.numbered node_low entry.1 (omega (arith, z))

      last_is : comes_next d.place.node it.behind ≡ not d.completes
      last_is =
          let due = sym (has_due T tree 0 d.place) ∙ (ap (λ z. has z d.place) it.parts ∙ has_at it.before it.behind d.place) in
          node_last T tree 0 it.before it.behind d.place class it.parts class_is
          ∙ ap not (sym (entry.2.completes ∙ ends_noted entry.0.tree.now d.place.kind (kind_there T tree 0 d.place class due class_is)))

      pub noted : completed_by tree T (is_done e) d.place.node ≡ completed_of d (events_of taken ahead)
      noted =
          ap (λ z. completed_by tree T z d.place.node) done_is
          ∙ (completes_by_next tree T it.before it.behind d.place l.0.formed it.parts
          ∙ (ap (λ z. if z then Incomplete else with_above (parent_in 0 tree d.place.node) it.behind) last_is
          ∙ (if_not d.completes Incomplete (with_above (parent_in 0 tree d.place.node) it.behind)
          ∙ ap (λ z. if d.completes then z else Incomplete) (ap (λ z. with_above z it.behind) parent_is ∙ ap (with_above d.parent) (sym next_events)))))

  pub completes_listed : CompletesListed
  completes_listed world f entries firsts nodes tables laid at e taken d lays same s l low is =
      noted world f entries firsts nodes tables laid at e taken d lays same s l low is
