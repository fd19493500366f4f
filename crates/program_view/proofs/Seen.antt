-- The model's expression of a typed tree has its order, and its nodes are those of the tree in preorder.
use Rattle.std.proofs.Common.{◌≡◌, ℕ, zero, suc, ◌≤◌, Bool, true, false, ◌&&◌, ◌==◌, if◌then◌else◌, List, [], ◌∷◌}
use Rattle.std.proofs.Common.{refl, sym, ap, ap₂, ◌∙◌, arith, ℤ}
use Rattle.std.specs.Prelude.{unsigned_abs}
use Rattle.c_types.specs.Types.{CType, type_of}
use Rattle.c_typed.specs.declared.class.Class.{Class}
use Rattle.c_typed.specs.declared.tree.Node.{Node, fold-Node, fold-roll-Node, map-Node, out-Node, roll-out-Node}
use Rattle.c_typed.specs.declared.tree.Node.TheOpen as shape
use Rattle.c_typed.specs.declared.tree.Node.TheOpen.{Node-F}
use Rattle.c_typed.specs.declared.tree.Typed.{Typed, out-Typed, fold_out-Typed}
use Rattle.c_typed.specs.Tree.{Tree, Trees, tree_of, trees_of, node, size, sizes, node_class, typed_tree, class_of}
use Rattle.c_model.specs.Program as model
use Rattle.c_model.specs.Program.{Head, Expr, expr, Exprs, none, more, head_class}
use Rattle.c_model.proofs.Ranks.{size_pos}
use Rattle.program_view.specs.Trees.{constant_head, is_pointer, node_head, typed_expr, expr_of, exprs_of}

abbrev pub node_in : Typed → Node-F Node Typed
node_in t = out-Node (out-Typed t).node

abbrev pub operands_in : Typed → List Typed
operands_in t = (out-Typed t).children

abbrev pub own_type : Typed → CType
own_type t = type_of (out-Typed t).ty

abbrev head_fold : Node → CType → Head
head_fold = fold-Node (CType → Head) Expr node_head typed_expr

abbrev class_fold : Node → Trees → Class
class_fold = fold-Node (Trees → Class) Tree node_class typed_tree

-- the head and the class of a node that is opened
abbrev pub head_in : Node-F Node Typed → CType → Head
head_in d = node_head (map-Node Node Typed (CType → Head) Expr head_fold expr_of d)

abbrev class_in : Node-F Node Typed → Trees → Class
class_in d = node_class (map-Node Node Typed (Trees → Class) Tree class_fold tree_of d)

pub expr_at : (t : Typed) → expr_of t ≡ expr (head_in (node_in t) (own_type t)) (own_type t) (out-Typed t).line (exprs_of (operands_in t))
expr_at t =
    let n = (out-Typed t).node in
    fold_out-Typed (CType → Head) Expr node_head typed_expr t
    ∙ (ap (λ z. expr (head_fold z (own_type t)) (own_type t) (out-Typed t).line (exprs_of (operands_in t))) (sym (roll-out-Node n))
    ∙ ap (λ (g : CType → Head). expr (g (own_type t)) (own_type t) (out-Typed t).line (exprs_of (operands_in t)))
    (fold-roll-Node (CType → Head) Expr node_head typed_expr (out-Node n)))

tree_at : (t : Typed) → tree_of t ≡ node (class_in (node_in t) (trees_of (operands_in t))) (trees_of (operands_in t))
tree_at t =
    let n = (out-Typed t).node in
    fold_out-Typed (Trees → Class) Tree node_class typed_tree t
    ∙ (ap (λ z. node (class_fold z (trees_of (operands_in t))) (trees_of (operands_in t))) (sym (roll-out-Node n))
    ∙ ap (λ (g : Trees → Class). node (g (trees_of (operands_in t))) (trees_of (operands_in t)))
    (fold-roll-Node (Trees → Class) Tree node_class typed_tree (out-Node n)))

pub size_at : (t : Typed) → size (tree_of t) ≡ suc (sizes (trees_of (operands_in t)))
size_at t = ap size (tree_at t)

-- what holds of a tree where it holds of its operands holds of each
pub by_size : (P : Typed → Type 0) → ((t : Typed) → ((u : Typed) → size (tree_of u) ≤ sizes (trees_of (operands_in t)) → P u) → P t) → (t : Typed) → P t
by_size P step t = go (size (tree_of t)) t (omega arith)
  where
    go : (n : ℕ) (t : Typed) → size (tree_of t) ≤ n → P t
    go zero t h = absurd (let l = size_pos (tree_of t) in omega (arith, l, h))
    go (suc n) t h = step t (λ u k. go n u (let e = size_at t in omega (arith, e, h, k)))

constant_class : (z : ℤ) (ty : CType) (ts : Trees) → head_class (constant_head z ty) ts ≡ head_class (model.Number z) ts
constant_class z ty ts = go (is_pointer ty && (unsigned_abs z == 0))
  where
    go : (b : Bool) → head_class (if b then model.Null else model.Number z) ts ≡ head_class (model.Number z) ts
    go true = refl
    go false = refl

same_class : (d : Node-F Node Typed) (ty : CType) (ts : Trees) → head_class (head_in d ty) ts ≡ class_in d ts
same_class (shape.Const z) ty ts = constant_class z ty ts
same_class _ ty ts = refl

-- lists of operands, each of which is small enough
module _ (n : ℕ) where
  same_trees : ((u : Typed) → size (tree_of u) ≤ n → model.tree_of (expr_of u) ≡ tree_of u) → (ts : List Typed) → sizes (trees_of ts) ≤ n
      → model.trees_of (exprs_of ts) ≡ trees_of ts
  same_trees f [] l = refl
  same_trees f (t ∷ ts) l = ap₂ (λ a b. Rattle.c_typed.specs.Tree.more a b) (f t (omega (arith, l))) (same_trees f ts (omega (arith, l)))

pub same_tree : (t : Typed) → model.tree_of (expr_of t) ≡ tree_of t
same_tree = by_size (λ t. model.tree_of (expr_of t) ≡ tree_of t) (λ t f.
    let es = same_trees (sizes (trees_of (operands_in t))) f (operands_in t) (omega arith) in
    ap model.tree_of (expr_at t)
    ∙ (ap (λ z. node (head_class (head_in (node_in t) (own_type t)) z) z) es
    ∙ (ap (λ z. node z (trees_of (operands_in t))) (same_class (node_in t) (own_type t) (trees_of (operands_in t))) ∙ sym (tree_at t))))
