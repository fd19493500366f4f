-- What the code has noted of the nodes of a full expression is so of its tree.
use Rattle.std.proofs.Common.{
  ◌≡◌,
  ℕ,
  suc,
  ◌+◌,
  ◌<◌,
  ◌≤◌,
  Bool,
  true,
  false,
  if◌then◌else◌,
  List,
  [],
  ◌∷◌,
  ◌==◌,
  Option,
  Some,
  None,
  slice_get,
  ◌⊎◌,
  inl,
  inr,
  refl,
  sym,
  ap,
  subst,
  ◌∙◌,
  true≢false,
  arith,
}
use Rattle.ub_base.specs.declared.clause.Kind.{Kind}
use Rattle.ub_base.specs.declared.clause.Kind.TheVariants.{Val, Eff, Body}
use Rattle.c_typed.specs.declared.class.Class.{Class}
use Rattle.c_typed.specs.declared.class.Class.TheVariants.{Object, Constant, Plain, Store, Update, Choice, Comma, Call, Isolated}
use Rattle.c_typed.specs.declared.tree.Conversion.{Conversion}
use Rattle.c_typed.specs.declared.tree.Conversion.TheVariants as conversion
use Rattle.c_typed.specs.declared.tree.Node.{Node, fold-Node, fold_out-Node, map-Node}
use Rattle.c_typed.specs.declared.tree.Node.TheOpen as shape
use Rattle.c_typed.specs.declared.tree.Node.TheOpen.{Node-F}
use Rattle.c_typed.specs.declared.tree.Typed.{Typed, out-Typed, fold-Typed, fold_out-Typed}
use Rattle.c_typed.specs.Decide.{has_kind}
use Rattle.c_typed.specs.Lawful.{root_of}
use Rattle.c_typed.specs.Sites.{Seen, SeenNode, seen_node, seen_tree}
use Rattle.c_typed.specs.Tree.{Tree, Trees, node, none, more, size, sizes, tree_of, trees_of, is_quiet_class, class_of, kinds_of, node_class, typed_tree}
use Rattle.c_typed.specs.Tree.{first_class, class_over, conversion_class, member_class}
use Rattle.c_model.specs.Completions.{parent_in, parent_among}
use Rattle.run_layout.specs.declared.nodes.NodeInfo.{NodeInfo}
use Rattle.run_layout.specs.EventActs.{head_at, ends_with}
use Rattle.run_layout.specs.Numbered.{IsAt, AreBelow, AreNoted, AreNodes}
use Rattle.completion_laws.proofs.Ahead.{among_first, among_rest, if_true, if_false}
use Rattle.completion_laws.proofs.Lists.{other}
use Rattle.completion_laws.proofs.Last.{class_in, class_among, class_root, class_below, class_first, class_rest, ends_at}
use Rattle.elaborate.proofs.Ranges.{eq_eq}

-- ---- a typed tree that is opened
abbrev class_fold : Node → Trees → Class
class_fold = fold-Node (Trees → Class) Tree node_class typed_tree

abbrev kids : Typed → List Typed
kids t = (out-Typed t).children

opened : (t : Typed) → tree_of t ≡ node (class_fold (out-Typed t).node (trees_of (kids t))) (trees_of (kids t))
opened t = fold_out-Typed (Trees → Class) Tree node_class typed_tree t

-- ---- the nodes by their numbers
same_info : (nodes : List NodeInfo) (k : ℕ) (x y : NodeInfo) → slice_get nodes k ≡ Some x → slice_get nodes k ≡ Some y → x ≡ y
same_info nodes k x y a b = let both : Some x ≡ Some y = sym a ∙ b in cc

less_or : (n m : ℕ) → (n < m) ⊎ (m ≤ n)
less_or n m = grind arith

-- what is noted of a node, where it is the root, and where it is below that
record Noted (k : ℕ) (parent : Option ℕ) (tree : Tree) (n : ℕ) (x : NodeInfo) : Type 0 where
  class : class_in k tree n ≡ Some (class_of (tree_of x.tree.now))
  top : n ≡ k → x.parent ≡ parent
  below : k < n → parent_in k tree n ≡ x.parent

record NotedAmong (k m : ℕ) (ts : Trees) (n : ℕ) (x : NodeInfo) : Type 0 where
  class : class_among m ts n ≡ Some (class_of (tree_of x.tree.now))
  above : parent_among k m ts n ≡ x.parent

module _ (firsts : List ℕ) (nodes : List NodeInfo) (noted : AreNoted firsts nodes) where
  below_it : (t : Typed) (k : ℕ) (parent : Option ℕ) → IsAt nodes k parent t → AreBelow nodes k (suc k) (kids t)
  below_it t k parent is = subst (λ z. AreBelow nodes k (suc k) (kids z)) is.2 (noted k is.0 is.1).below

  mutual
    node_noted : (tree : Tree) (t : Typed) (k : ℕ) (parent : Option ℕ) → tree_of t ≡ tree → IsAt nodes k parent t → (n : ℕ) (x : NodeInfo)
        → k ≤ n → n < k + size tree → slice_get nodes n ≡ Some x → Noted k parent tree n x
    node_noted (node c ts) t k parent is here n x low high at = elim (less_or k n) [
      | inl l ↦
          (let kinds : trees_of (kids t) ≡ ts = let e = sym (opened t) ∙ is in ap operands_in e in
          let a = among_noted ts (kids t) k (suc k) kinds (below_it t k parent here) n x l (omega (arith, high)) at in
          record {
            class = class_below k c ts n l ∙ a.class;
            top = λ e. absurd (omega (arith, e, l));
            below = λ g. a.above;
          })
      | inr g ↦
          (let e : n ≡ k = omega (arith, low, g) in
          let same : here.0 ≡ x = same_info nodes n here.0 x (ap (slice_get nodes) e ∙ here.1) at in
          let tree : x.tree.now ≡ t = sym (ap (λ (z : NodeInfo). z.tree.now) same) ∙ here.2 in
          record {
            class = class_root k c ts n e ∙ ap Some (sym (ap class_of (ap tree_of tree ∙ is)));
            top = λ z. sym (ap (λ (z : NodeInfo). z.parent) same) ∙ here.3;
            below = λ l. absurd (omega (arith, e, l));
          })
    ]
      where
        operands_in : Tree → Trees
        operands_in (node d us) = us

    among_noted : (ts : Trees) (us : List Typed) (k m : ℕ) → trees_of us ≡ ts → AreBelow nodes k m us → (n : ℕ) (x : NodeInfo)
        → m ≤ n → n < m + sizes ts → slice_get nodes n ≡ Some x → NotedAmong k m ts n x
    among_noted none us k m is here n x low high at = absurd (omega (arith, low, high))
    among_noted (more t ts) [] k m is here n x low high at = absurd (cc)
    among_noted (more t ts) (u ∷ us) k m is here n x low high at = elim (less_or n (m + size t)) [
      | inl l ↦ in_first l (node_noted t u m (Some k) (ap first_tree is) here.0 n x low l at)
      | inr g ↦
          (let tree : tree_of u ≡ t = ap first_tree is in
          let a = among_noted ts us k (m + size t) (ap rest_trees is) (subst (λ z. AreBelow nodes k (m + size z) us) tree here.1) n x g
          (omega (arith, high)) at in
          record { class = class_rest m t ts n g ∙ a.class; above = among_rest k m t ts n g ∙ a.above })
    ]
      where
        first_tree : Trees → Tree
        first_tree none = t
        first_tree (more z zs) = z

        rest_trees : Trees → Trees
        rest_trees none = none
        rest_trees (more z zs) = zs

        in_first : n < m + size t → Noted m (Some k) t n x → NotedAmong k m (more t ts) n x
        in_first l a = elim (less_or m n) [
          | inl g ↦ record {
            class = class_first m t ts n l ∙ a.class;
            above = among_first k m t ts n l ∙ (if_false _ _ _ (other n m (inr g)) ∙ a.below g);
          }
          | inr g ↦
              (let e : n ≡ m = omega (arith, low, g) in
              record {
                class = class_first m t ts n l ∙ a.class;
                above = among_first k m t ts n l ∙ (if_true _ _ _ (subst (λ z. (n == z) ≡ true) e (eq_eq n)) ∙ sym (a.top e));
              })
        ]

pub class_noted : (firsts : List ℕ) (root : Typed) (nodes : List NodeInfo) (n : ℕ) (x : NodeInfo) → AreNodes firsts root nodes → n < size (tree_of root)
    → slice_get nodes n ≡ Some x → class_in 0 (tree_of root) n ≡ Some (class_of (tree_of x.tree.now))
class_noted firsts root nodes n x are l at =
    (node_noted firsts nodes are.each (tree_of root) root 0 None refl are.top n x (omega arith) (omega (arith, l)) at).class

pub parent_noted : (firsts : List ℕ) (root : Typed) (nodes : List NodeInfo) (n : ℕ) (x : NodeInfo) → AreNodes firsts root nodes → n < size (tree_of root)
    → slice_get nodes n ≡ Some x → 0 < n → parent_in 0 (tree_of root) n ≡ x.parent
parent_noted firsts root nodes n x are l at g =
    (node_noted firsts nodes are.each (tree_of root) root 0 None refl are.top n x (omega arith) (omega (arith, l)) at).below g

pub top_noted : (firsts : List ℕ) (root : Typed) (nodes : List NodeInfo) (x : NodeInfo) → AreNodes firsts root nodes → slice_get nodes 0 ≡ Some x
    → x.parent ≡ None
top_noted firsts root nodes x are at =
    sym (ap (λ (z : NodeInfo). z.parent) (same_info nodes 0 are.top.0 x are.top.1 at)) ∙ are.top.3

-- ---- the last event of a node
abbrev Root : Type 0
Root = Node-F Node Typed

abbrev seen_root : Root → SeenNode
seen_root z = seen_node (map-Node Node Typed SeenNode Seen (fold-Node SeenNode Seen seen_node seen_tree) (fold-Typed SeenNode Seen seen_node seen_tree) z)

abbrev root_class : Root → Trees → Class
root_class z = node_class (map-Node Node Typed (Trees → Class) Tree class_fold tree_of z)

-- a class with no event but a value
abbrev is_simple : Class → Bool
is_simple Object = true
is_simple Constant = true
is_simple Plain = true
is_simple c = false

if_simple : (b : Bool) → is_simple (if b then Constant else Plain) ≡ true
if_simple true = refl
if_simple false = refl

over_simple : (o : Option Class) → is_simple (class_over o) ≡ true
over_simple None = refl
over_simple (Some c) = if_simple (is_quiet_class c)

converted_simple : (c : Conversion) (o : Option Class) → is_simple (conversion_class c o) ≡ true
converted_simple (conversion.Integer kind) o = over_simple o
converted_simple (conversion.Address kind) o = refl
converted_simple conversion.NotNull o = refl
converted_simple conversion.Lookup o = refl
converted_simple (conversion.Pointer align) o = refl
converted_simple conversion.Function o = refl

member_simple : (o : Option Class) → is_simple (member_class o) ≡ true
member_simple None = refl
member_simple (Some Object) = refl
member_simple (Some Constant) = refl
member_simple (Some Plain) = refl
member_simple (Some Store) = refl
member_simple (Some Update) = refl
member_simple (Some Choice) = refl
member_simple (Some Comma) = refl
member_simple (Some Call) = refl
member_simple (Some Isolated) = refl

abbrev is_value : Kind → Bool
is_value Val = true
is_value kind = false

simple_ends : (c : Class) (kind : Kind) → is_simple c ≡ true → has_kind (kinds_of c) kind ≡ true → is_value kind ≡ ends_at (kinds_of c) kind
simple_ends Object kind s h = absurd (true≢false (sym h))
simple_ends Constant kind s h = absurd (true≢false (sym h))
simple_ends Plain Val s h = refl
simple_ends Plain Eff s h = refl
simple_ends Plain Body s h = refl
simple_ends _ kind s h = absurd (true≢false (sym s))

converts : (c : Conversion) (kind : Kind) → ends_with (shape.Conv c) kind ≡ is_value kind
converts c Val = refl
converts c Eff = refl
converts c Body = refl

moves : (offset : ℕ) (kind : Kind) → ends_with (shape.Member offset) kind ≡ is_value kind
moves offset Val = refl
moves offset Eff = refl
moves offset Body = refl

ends_by : (z : Root) (ts : Trees) (kind : Kind) → has_kind (kinds_of (root_class z ts)) kind ≡ true
    → ends_with (seen_root z).head kind ≡ ends_at (kinds_of (root_class z ts)) kind
ends_by (shape.Conv c) ts kind h = converts c kind ∙ simple_ends (conversion_class c (first_class ts)) kind (converted_simple c (first_class ts)) h
ends_by (shape.Member offset) ts kind h = moves offset kind ∙ simple_ends (member_class (first_class ts)) kind (member_simple (first_class ts)) h
ends_by (shape.Const z) ts kind h = absurd (true≢false (sym h))
ends_by (shape.Obj slot) ts kind h = absurd (true≢false (sym h))
ends_by (shape.Func n) ts kind h = absurd (true≢false (sym h))
ends_by (shape.Str n) ts kind h = absurd (true≢false (sym h))
ends_by _ ts Val h = refl
ends_by _ ts Eff h = refl
ends_by _ ts Body h = refl

pub ends_noted : (t : Typed) (kind : Kind) → has_kind (kinds_of (class_of (tree_of t))) kind ≡ true
    → ends_with (head_at (out-Typed t).node) kind ≡ ends_at (kinds_of (class_of (tree_of t))) kind
ends_noted t kind h =
    let head : head_at (out-Typed t).node ≡ (seen_root (root_of t)).head =
    ap (λ (n : SeenNode). n.head) (fold_out-Node SeenNode Seen seen_node seen_tree (out-Typed t).node) in
    let class : class_of (tree_of t) ≡ root_class (root_of t) (trees_of (kids t)) =
    ap class_of (opened t) ∙ ap (λ (g : Trees → Class). g (trees_of (kids t))) (fold_out-Node (Trees → Class) Tree node_class typed_tree (out-Typed t).node) in
    ap (λ z. ends_with z kind) head
    ∙ (ends_by (root_of t) (trees_of (kids t)) kind (subst (λ z. has_kind (kinds_of z) kind ≡ true) class h)
    ∙ sym (ap (λ z. ends_at (kinds_of z) kind) class))
