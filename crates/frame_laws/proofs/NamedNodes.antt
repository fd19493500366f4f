-- The names of the model's expression are those of the typed tree.
use Rattle.std.proofs.Common.{◌≡◌, ℕ, Bool, true, false, ◌&&◌, ◌==◌, if◌then◌else◌, List, [], ◌∷◌, ◌++◌, map, ℤ, append_assoc}
use Rattle.std.proofs.Common.{refl, sym, ap, ap₂, ◌∙◌, subst}
use Rattle.std.specs.Prelude.{unsigned_abs}
use Rattle.std.specs.List.{All}
use Rattle.std.proofs.lemmas.List.Elements.{All-nil, All-cons}
use Rattle.c_types.specs.Types.{CType, type_of}
use Rattle.c_typed.specs.declared.tree.Slot.{Slot}
use Rattle.c_typed.specs.declared.tree.Node.{Node, fold-Node, fold-roll-Node, map-Node, roll-Node}
use Rattle.c_typed.specs.declared.tree.Node.TheFolds.{ind-Typed}
use Rattle.c_typed.specs.declared.tree.Node.TheOpen as shape
use Rattle.c_typed.specs.declared.tree.Node.TheOpen.{Node-F, Typed-F}
use Rattle.c_typed.specs.declared.tree.Typed.{Typed, fold-roll-Typed, map-Typed, roll-Typed}
use Rattle.c_typed.specs.Sites.{Site, Seen, SeenNode, seen_node, seen_tree, all_sites, seen, sites}
use Rattle.c_model.specs.Program as model
use Rattle.c_model.specs.Program.{Head, Expr}
use Rattle.program_view.specs.Trees.{constant_head, is_pointer, node_head, typed_expr, exprs_from, expr_of}
use Rattle.frame_laws.specs.Scopes.{Objects, names, names_of_all, head_names, AreOpen}
use Rattle.frame_laws.specs.Named.{named_at, all_named, NamesAreSeen, NodesAreInScope}

abbrev Making : Type 0
Making = CType → Head

abbrev head_made : Node → Making
head_made = fold-Node Making Expr node_head typed_expr

abbrev node_seen : Node → SeenNode
node_seen = fold-Node SeenNode Seen seen_node seen_tree

abbrev named_in : SeenNode → List Slot
named_in n = named_at n.head ++ all_named n.inner

pub named_both : (xs ys : List Site) → all_named (xs ++ ys) ≡ all_named xs ++ all_named ys
named_both [] ys = refl
named_both (x ∷ xs) ys =
    ap (λ s. named_at x.head ++ s) (named_both xs ys) ∙ sym (append_assoc (named_at x.head) (all_named xs) (all_named ys))

-- one layer
abbrev NodeNamed : Node → Type 0
NodeNamed n = (ty : CType) → head_names (head_made n ty) ≡ named_in (node_seen n)

abbrev TreeNamed : Typed → Type 0
TreeNamed t = names (expr_of t) ≡ all_named (sites t)

abbrev NodeAt : Node-F Node Typed → Type 0
NodeAt z = (ty : CType) → head_names (node_head (map-Node Node Typed Making Expr head_made expr_of z) ty)
    ≡ named_in (seen_node (map-Node Node Typed SeenNode Seen node_seen seen z))

abbrev TreeAt : Typed-F Node Typed → Type 0
TreeAt z = names (typed_expr (map-Typed Node Typed Making Expr head_made expr_of z))
    ≡ all_named (seen_tree (map-Typed Node Typed SeenNode Seen node_seen seen z)).sites

rolled_node : (z : Node-F Node Typed) → NodeAt z → NodeNamed (roll-Node z)
rolled_node z h = λ ty.
    ap (λ (g : Making). head_names (g ty)) (fold-roll-Node Making Expr node_head typed_expr z)
    ∙ (h ty ∙ sym (ap named_in (fold-roll-Node SeenNode Seen seen_node seen_tree z)))

rolled_tree : (z : Typed-F Node Typed) → TreeAt z → TreeNamed (roll-Typed z)
rolled_tree z h =
    ap names (fold-roll-Typed Making Expr node_head typed_expr z)
    ∙ (h ∙ sym (ap (λ (s : Seen). all_named s.sites) (fold-roll-Typed SeenNode Seen seen_node seen_tree z)))

abbrev NamedNode : Type 0
NamedNode = (n : Node) × NodeNamed n

abbrev NamedTree : Type 0
NamedTree = (t : Typed) × TreeNamed t

constant_names : (z : ℤ) (ty : CType) → head_names (constant_head z ty) ≡ []
constant_names z ty = go (is_pointer ty && (unsigned_abs z == 0))
  where
    go : (b : Bool) → head_names (if b then model.Null else model.Number z) ≡ []
    go true = refl
    go false = refl

at_node : (y : Node-F NamedNode NamedTree) → NodeAt (map-Node NamedNode NamedTree Node Typed (λ e. e.0) (λ e. e.0) y)
at_node (shape.Const z) = λ ty. constant_names z ty
at_node (shape.Isolated t) = λ ty. t.1
at_node _ = λ ty. refl

operands_named : (ts : List NamedTree) → names_of_all (exprs_from (map expr_of (map (λ (e : NamedTree). e.0) ts)))
    ≡ all_named (all_sites (map seen (map (λ (e : NamedTree). e.0) ts)))
operands_named [] = refl
operands_named (t ∷ ts) =
    ap₂ (λ (xs ys : List Slot). xs ++ ys) t.1 (operands_named ts) ∙ sym (named_both (sites t.0) (all_sites (map seen (map (λ (e : NamedTree). e.0) ts))))

at_tree : (y : Typed-F NamedNode NamedTree) → TreeAt (map-Typed NamedNode NamedTree Node Typed (λ e. e.0) (λ e. e.0) y)
at_tree y =
    let n = node_seen y.node.0 in
    let rest = all_sites (map seen (map (λ (e : NamedTree). e.0) y.children)) in
    ap₂ (λ (xs ys : List Slot). xs ++ ys) (y.node.1 (type_of y.ty)) (operands_named y.children)
    ∙ (append_assoc (named_at n.head) (all_named n.inner) (all_named rest)
    ∙ ap (λ (s : List Slot). named_at n.head ++ s) (sym (named_both n.inner rest)))

pub names_are_seen : NamesAreSeen
names_are_seen = ind-Typed NodeNamed TreeNamed
    (λ x y is. rolled_node x (subst NodeAt is (at_node y)))
    (λ x y is. rolled_tree x (subst TreeAt is (at_tree y)))

module _ (objects : Objects) (around : List ℕ) where
  abbrev NamesOpen : Site → Type 0
  NamesOpen s = AreOpen objects around (named_at s.head)

  both_open : (xs ys : List Slot) → AreOpen objects around (xs ++ ys) → AreOpen objects around xs × AreOpen objects around ys
  both_open [] ys a = (tt, a)
  both_open (x ∷ xs) ys a = let r = both_open xs ys a.1 in ((a.0, r.0), r.1)

  each_open : (ss : List Site) → AreOpen objects around (all_named ss) → All NamesOpen ss
  each_open [] a = All-nil NamesOpen
  each_open (s ∷ ss) a =
      let r = both_open (named_at s.head) (all_named ss) a in
      All-cons NamesOpen s ss r.0 (each_open ss r.1)

pub nodes_in_scope : NodesAreInScope
nodes_in_scope objects around t h =
    let P : List Slot → Type 0 = AreOpen objects around in
    each_open objects around (sites t) (subst P (names_are_seen t) h)
