-- Each event that is listed of a full expression is one that its node has.
use Rattle.std.proofs.Common.{arith, ◌≡◌, ◌+◌, ◌-◌, ◌<◌, ◌≤◌, inl, inr, ℕ, zero, suc, Bool, true, false, List, [], ◌∷◌, length, take, drop}
use Rattle.std.proofs.Common.{Option, Some, None, slice_get, if◌then◌else◌, refl, sym, ap, subst, ◌∙◌}
use Rattle.ub_base.specs.declared.clause.Kind.{Kind}
use Rattle.ub_base.specs.declared.clause.Kind.TheVariants.{Val, Eff, Body}
use Rattle.std.proofs.Math.Logic.{∥∥₁_map}
use Rattle.std.specs.Option.{option_map}
use Rattle.std.proofs.lemmas.Option.{slice_get-map}
use Rattle.c_typed.specs.declared.class.Class.{Class}
use Rattle.c_typed.specs.declared.class.Class.TheVariants.{Object, Constant, Plain, Store, Update, Choice, Comma, Call, Isolated}
use Rattle.c_typed.specs.declared.tree.Conversion.{Conversion}
use Rattle.c_typed.specs.declared.tree.Conversion.TheVariants as conversion
use Rattle.c_typed.specs.declared.tree.Node.{Node, fold-Node, fold_out-Node, map-Node}
use Rattle.c_typed.specs.declared.tree.Node.TheOpen as shape
use Rattle.c_typed.specs.declared.tree.Node.TheOpen.{Node-F}
use Rattle.c_typed.specs.declared.tree.Place.{Place}
use Rattle.c_typed.specs.declared.tree.Typed.{Typed, out-Typed, fold_out-Typed}
use Rattle.c_typed.specs.Lawful.{root_of}
use Rattle.c_typed.specs.Sites.{Seen, SeenNode, seen_node, seen_tree}
use Rattle.c_typed.specs.Tree.{Tree, Trees, node, size, sizes, tree_of, trees_of, is_quiet, is_quiet_class, class_of, kinds_of, node_class, typed_tree}
use Rattle.c_typed.specs.Tree.{first_class, class_over, conversion_class, member_class}
use Rattle.program_view.proofs.Seen.{operands_in, by_size, same_tree}
use Rattle.elaborate.specs.Terms.{term_for}
use Rattle.run_layout.specs.declared.nodes.NodeInfo.{NodeInfo}
use Rattle.run_layout.specs.declared.steps.Act.{Act}
use Rattle.run_layout.specs.declared.steps.Due.{Due}
use Rattle.run_layout.specs.declared.steps.Expression.{Expression as Laid}
use Rattle.run_layout.specs.declared.steps.Listed.{Listed}
use Rattle.run_layout.specs.declared.steps.Listed.TheVariants as listed
use Rattle.run_layout.specs.declared.tables.Tables.{Tables}
use Rattle.run_layout.specs.EventActs.{head_at, sight_of, Sight, IsAct, IsEffect}
use Rattle.run_layout.specs.LaidOut.{IsLaidOut}
use Rattle.run_layout.specs.Listings.{event, entry_of, flat}
use Rattle.run_layout.specs.Numbered.{IsAt, AreBelow, AreNoted, AreNodes}
use Rattle.run_layout.specs.OfTrees.{listing_in, HasListing}
use Rattle.code_view.specs.Events.{IsOneOf, IsListedAt, stores, EventsAreOfClasses, EventsAreEvaluated, EffectsStore, EventsAreOfCode, EventsAreInCode}
use Rattle.code_view.proofs.Whole.{each_at}
use Rattle.code_view.proofs.Listed.{seen_root}
use Rattle.code_view.proofs.Terms.{HasEventIn, HasEventAmong, Good, tree_good}
use Rattle.code_view.proofs.Known.{code_known}
use Rattle.code_view.proofs.Parts.{same_node, operands_below}

-- ---- the entry in the part of the listing
pub in_part : {A : Type 0} (xs : List A) (n i : ℕ) → i < n → slice_get (take n xs) i ≡ slice_get xs i
in_part [] zero i h = refl
in_part [] (suc n) i h = refl
in_part (x ∷ xs) zero i h = absurd (omega (arith, h))
in_part (x ∷ xs) (suc n) zero h = refl
in_part (x ∷ xs) (suc n) (suc i) h = in_part xs n i (omega (arith, h))

pub behind : {A : Type 0} (xs : List A) (n i : ℕ) → slice_get (drop n xs) i ≡ slice_get xs (n + i)
behind xs zero i = ap (slice_get xs) (omega arith)
behind [] (suc n) i = refl
behind (x ∷ xs) (suc n) i = let e : suc (n + i) ≡ suc n + i = omega arith in behind xs n i ∙ ap (slice_get (x ∷ xs)) e

abbrev class_fold : Node → Trees → Class
class_fold = fold-Node (Trees → Class) Tree node_class typed_tree

-- ---- the nodes of a tree
abbrev kinds_at : Typed → List Kind
kinds_at t = kinds_of (class_of (tree_of t))

abbrev IsOfNode : List NodeInfo → Place → Type 0
IsOfNode nodes u = (x : NodeInfo) → slice_get nodes u.node ≡ Some x → IsOneOf u.kind (kinds_at x.tree.now)

abbrev Sees : List NodeInfo → Typed → Type 0
Sees nodes t = (k : ℕ) (parent : Option ℕ) → IsAt nodes k parent t → (u : Place) → HasEventIn k (tree_of t) u → IsOfNode nodes u

module _ (firsts : List ℕ) (nodes : List NodeInfo) (noted : AreNoted firsts nodes) where
  all_see : (ts : List Typed) → ((u : Typed) → size (tree_of u) ≤ sizes (trees_of ts) → Sees nodes u) → (parent m : ℕ) → AreBelow nodes parent m ts
      → (u : Place) → HasEventAmong m (trees_of ts) u → IsOfNode nodes u
  all_see [] ih parent m b u h = absurd h
  all_see (t ∷ ts) ih parent m b u h =
      elim h [
        | inl l ↦ ih t (omega arith) m (Some parent) b.0 u l
        | inr r ↦ all_see ts (λ z le. ih z (omega (arith, le))) parent (m + size (tree_of t)) b.1 u r
      ]

  -- the root's own
  of_root : (t : Typed) (k : ℕ) (parent : Option ℕ) → IsAt nodes k parent t → (u : Place) → u.node ≡ k → IsOneOf u.kind (kinds_at t) → IsOfNode nodes u
  of_root t k parent is u e h = λ x at.
      let same : x ≡ is.0 = same_node nodes k x is.0 (sym (ap (slice_get nodes) e) ∙ at) is.1 in
      let tree : x.tree.now ≡ t = ap (λ (z : NodeInfo). z.tree.now) same ∙ is.2 in
      subst (λ z. IsOneOf u.kind (kinds_at z)) (sym tree) h

  sees : (t : Typed) → Sees nodes t
  sees = by_size (Sees nodes) (λ t ih k parent is u h.
      let kind = class_fold (out-Typed t).node (trees_of (operands_in t)) in
      let shape : tree_of t ≡ node kind (trees_of (operands_in t)) = fold_out-Typed (Trees → Class) Tree node_class typed_tree t in
      let there : HasEventIn k (node kind (trees_of (operands_in t))) u = subst (λ z. HasEventIn k z u) shape h in
      elim there [
        | inl l ↦ of_root t k parent is u l.0 (subst (λ z. IsOneOf u.kind (kinds_of (class_of z))) (sym shape) l.1)
        | inr r ↦ all_see (operands_in t) ih k (suc k) (operands_below firsts nodes noted t k parent is) u r
      ])

-- ---- what is listed
event_of_node : (firsts : List ℕ) (nodes : List NodeInfo) (entries : List Listed) (laid : Laid) (d : Due) → HasListing entries laid
    → AreNodes firsts laid.root.now nodes → IsListedAt entries laid d → IsOfNode nodes d.place
event_of_node firsts nodes entries laid d has are is =
    let t = tree_of laid.root.now in
    let Q = IsOfNode nodes in
    let i = is.at - laid.first in
    let there_in : slice_get (listing_in entries laid) i ≡ Some (listed.Event d) =
    in_part (drop laid.first entries) (laid.end - laid.first) i (let a = is.first in let b = is.end in omega (arith, a, b))
    ∙ (behind entries laid.first i ∙ (ap (slice_get entries) (let a = is.first in omega (arith, a)) ∙ is.entry)) in
    let there : slice_get (flat (size t) (term_for 0 t)) i ≡ Some (event d.place) =
    ap (λ es. slice_get es i) (sym has.laid) ∙ (slice_get-map entry_of (listing_in entries laid) i ∙ ap (option_map entry_of) there_in) in
    each_at (Good (size t) Q) (flat (size t) (term_for 0 t)) i (event d.place) there
    (tree_good (size t) Q t 0 (λ u h. sees firsts nodes are.each laid.root.now 0 None are.top u h))

pub events_of_classes : EventsAreOfClasses
events_of_classes code firsts nodes n laid d x lists at lays is node_at =
    let has = each_at (HasListing code.listing.items) code.expressions.items n laid at lists in
    event_of_node firsts nodes code.listing.items laid d has lays.numbered is x node_at

-- what has no event is known beforehand
loud : (c : Class) (kind : Kind) → IsOneOf kind (kinds_of c) → is_quiet_class c ≡ false
loud Object kind h = absurd h
loud Constant kind h = absurd h
loud Plain kind h = refl
loud Store kind h = refl
loud Update kind h = refl
loud Choice kind h = refl
loud Comma kind h = refl
loud Call kind h = refl
loud Isolated kind h = refl

pub events_evaluated : EventsAreEvaluated
events_evaluated code firsts nodes n laid d x lists at lays is node_at =
    ap is_quiet (same_tree x.tree.now)
    ∙ loud (class_of (tree_of x.tree.now)) d.place.kind (events_of_classes code firsts nodes n laid d x lists at lays is node_at)

-- ---- effects
abbrev has_effect : Class → Bool
has_effect Store = true
has_effect Update = true
has_effect c = false

one_value : IsOneOf Eff (Val ∷ []) → ⊥
one_value h = elim h [ inl e ↦ cc | inr n ↦ n ]

body_value : IsOneOf Eff (Body ∷ Val ∷ []) → ⊥
body_value h = elim h [ inl e ↦ cc | inr n ↦ one_value n ]

effect_class : (c : Class) → IsOneOf Eff (kinds_of c) → has_effect c ≡ true
effect_class Object h = absurd h
effect_class Constant h = absurd h
effect_class Plain h = absurd (one_value h)
effect_class Store h = refl
effect_class Update h = refl
effect_class Choice h = absurd (one_value h)
effect_class Comma h = absurd (one_value h)
effect_class Call h = absurd (body_value h)
effect_class Isolated h = absurd (body_value h)

class_quiet : (b : Bool) → has_effect (if b then Constant else Plain) ≡ false
class_quiet true = refl
class_quiet false = refl

over_effect : (o : Option Class) → has_effect (class_over o) ≡ false
over_effect None = refl
over_effect (Some c) = class_quiet (is_quiet_class c)

converted_effect : (c : Conversion) (o : Option Class) → has_effect (conversion_class c o) ≡ false
converted_effect (conversion.Integer kind) o = over_effect o
converted_effect (conversion.Address kind) o = refl
converted_effect conversion.NotNull o = refl
converted_effect conversion.Lookup o = refl
converted_effect (conversion.Pointer align) o = refl
converted_effect conversion.Function o = refl

member_effect : (o : Option Class) → has_effect (member_class o) ≡ false
member_effect None = refl
member_effect (Some Object) = refl
member_effect (Some Constant) = refl
member_effect (Some Plain) = refl
member_effect (Some Store) = refl
member_effect (Some Update) = refl
member_effect (Some Choice) = refl
member_effect (Some Comma) = refl
member_effect (Some Call) = refl
member_effect (Some Isolated) = refl

abbrev class_in : Node-F Node Typed → Trees → Class
class_in z = node_class (map-Node Node Typed (Trees → Class) Tree class_fold tree_of z)

effect_stores : (firsts : List ℕ) (tables : Tables) (z : Node-F Node Typed) (ts : Trees) (s : Sight) (a : Act) → has_effect (class_in z ts) ≡ true
    → IsEffect firsts tables (seen_root z).head s a → stores a ≡ true
effect_stores firsts tables (shape.Assign first how) ts s a h e = ap stores e.4
effect_stores firsts tables (shape.Update c old) ts s a h e = ap stores e.4
effect_stores firsts tables (shape.List named bytes) ts s a h e = ap stores e.4
effect_stores firsts tables (shape.Conv c) ts s a h e = absurd (let no = converted_effect c (first_class ts) in cc)
effect_stores firsts tables (shape.Member offset) ts s a h e = absurd (let no = member_effect (first_class ts) in cc)
effect_stores firsts tables _ ts s a h e = absurd (cc)

-- the head and the class of a tree's root
pub head_root : (t : Typed) → head_at (out-Typed t).node ≡ (seen_root (root_of t)).head
head_root t = ap (λ (n : SeenNode). n.head) (fold_out-Node SeenNode Seen seen_node seen_tree (out-Typed t).node)

class_root : (t : Typed) → class_of (tree_of t) ≡ class_in (root_of t) (trees_of (operands_in t))
class_root t =
    ap class_of (fold_out-Typed (Trees → Class) Tree node_class typed_tree t)
    ∙ ap (λ (g : Trees → Class). g (trees_of (operands_in t))) (fold_out-Node (Trees → Class) Tree node_class typed_tree (out-Typed t).node)

effect_of : (firsts : List ℕ) (tables : Tables) (t : Typed) (initializer : ℕ) (s : Sight) (kind : Kind) (a : Act) → kind ≡ Eff
    → IsOneOf kind (kinds_at t) → IsAct firsts tables initializer (head_at (out-Typed t).node) s kind a → stores a ≡ true
effect_of firsts tables t initializer s kind a is one does =
    let one_eff : IsOneOf Eff (kinds_at t) = subst (λ z. IsOneOf z (kinds_at t)) is one in
    let eff : IsEffect firsts tables (head_at (out-Typed t).node) s a =
    subst (λ z. IsAct firsts tables initializer (head_at (out-Typed t).node) s z a) is does in
    effect_stores firsts tables (root_of t) (trees_of (operands_in t)) s a
    (sym (ap has_effect (class_root t)) ∙ effect_class (class_of (tree_of t)) one_eff)
    (subst (λ h. IsEffect firsts tables h s a) (head_root t) eff)

pub effects_store : EffectsStore
effects_store code firsts nodes n laid d lists at lays is kind =
    let entry = lays.each is.at (listed.Event d) is.first is.end is.entry in
    let x = entry.0 in
    effect_of firsts code.tables x.tree.now x.initializer (sight_of firsts (length nodes) d.place.node x) d.place.kind d.act kind
    (events_of_classes code firsts nodes n laid d x lists at lays is entry.1) entry.2.does

pub events_of_code : EventsAreOfCode
events_of_code p code world f firsts nodes n laid d lawful order lists at lays placed is = record {
  firsts = firsts;
  nodes = nodes;
  lays = lays;
  views = code_known p code world f firsts n laid lawful order at placed;
  is_listed = is;
  quiet = λ x node_at. events_evaluated code firsts nodes n laid d x lists at lays is node_at;
}

pub events_in_code : EventsAreInCode
events_in_code p code world f n laid d lawful order lists all at placed is =
    ∥∥₁_map all (λ them.
    let it = each_at (IsLaidOut code.tables code.listing.items) code.expressions.items n laid at them in
    events_of_code p code world f it.0 it.1 n laid d lawful order lists at it.2 placed is)
