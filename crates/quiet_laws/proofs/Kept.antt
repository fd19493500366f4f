-- The model's expression of a typed tree has the tree's loads.
use Rattle.std.proofs.Common.{◌≡◌, ℕ, ◌≤◌, Bool, true, false, ◌&&◌, ◌==◌, if◌then◌else◌, List, [], ◌∷◌, refl, sym, ap, ap₂, subst, ◌∙◌, arith, ℤ}
use Rattle.std.specs.Prelude.{unsigned_abs}
use Rattle.c_types.specs.Types.{CType}
use Rattle.c_typed.specs.declared.tree.Node.{Node, fold-Node, fold-roll-Node, map-Node, roll-out-Node, out-Node}
use Rattle.c_typed.specs.declared.tree.Node.TheOpen as shape
use Rattle.c_typed.specs.declared.tree.Node.TheOpen.{Node-F}
use Rattle.c_typed.specs.declared.tree.Typed.{Typed, out-Typed, fold_out-Typed}
use Rattle.c_typed.specs.Tree.{tree_of, trees_of, size, sizes}
use Rattle.c_model.specs.Program as model
use Rattle.program_view.specs.Trees.{constant_head, is_pointer, expr_of, exprs_of}
use Rattle.program_view.proofs.Seen.{node_in, operands_in, own_type, head_in, expr_at, by_size, same_tree}
use Rattle.quiet_trees.specs.Loads.{Loads, loads, cons, node_loads, typed_loads, loads_of, loads_of_list}
use Rattle.quiet_trees.specs.Quiet.{IsQuiet}
use Rattle.quiet_laws.specs.QuietEvents.{head_loads, expr_loads, exprs_loads}
use Rattle.quiet_laws.specs.Programs.{LoadsAreKept, QuietIsKept}

abbrev load_fold : Node → Bool
load_fold = fold-Node Bool Loads node_loads typed_loads

abbrev load_in : Node-F Node Typed → Bool
load_in d = node_loads (map-Node Node Typed Bool Loads load_fold loads_of d)

loads_at : (t : Typed) → loads_of t ≡ loads (load_in (node_in t)) (loads_of_list (operands_in t))
loads_at t =
    let n = (out-Typed t).node in
    fold_out-Typed Bool Loads node_loads typed_loads t
    ∙ (ap (λ z. loads (load_fold z) (loads_of_list (operands_in t))) (sym (roll-out-Node n))
    ∙ ap (λ (z : Bool). loads z (loads_of_list (operands_in t))) (fold-roll-Node Bool Loads node_loads typed_loads (out-Node n)))

constant_load : (z : ℤ) (ty : CType) → head_loads (constant_head z ty) ≡ false
constant_load z ty = go (is_pointer ty && (unsigned_abs z == 0))
  where
    go : (b : Bool) → head_loads (if b then model.Null else model.Number z) ≡ false
    go true = refl
    go false = refl

same_load : (d : Node-F Node Typed) (ty : CType) → head_loads (head_in d ty) ≡ load_in d
same_load (shape.Const z) ty = constant_load z ty
same_load _ ty = refl

module _ (n : ℕ) where
  same_list : ((u : Typed) → size (tree_of u) ≤ n → expr_loads (expr_of u) ≡ loads_of u) → (ts : List Typed) → sizes (trees_of ts) ≤ n →
      exprs_loads (exprs_of ts) ≡ loads_of_list ts
  same_list f [] l = refl
  same_list f (t ∷ ts) l = ap₂ (λ a b. cons a b) (f t (omega (arith, l))) (same_list f ts (omega (arith, l)))

pub same_loads : LoadsAreKept
same_loads = by_size (λ t. expr_loads (expr_of t) ≡ loads_of t) (λ t f.
    ap expr_loads (expr_at t)
    ∙ (ap (λ z. loads (head_loads (head_in (node_in t) (own_type t))) z) (same_list (sizes (trees_of (operands_in t))) f (operands_in t) (omega arith))
    ∙ (ap (λ z. loads z (loads_of_list (operands_in t))) (same_load (node_in t) (own_type t)) ∙ sym (loads_at t))))

pub quiet_kept : QuietIsKept
quiet_kept t q =
    subst (λ z. IsQuiet z (expr_loads (expr_of t))) (sym (same_tree t)) (subst (λ z. IsQuiet (tree_of t) z) (sym (same_loads t)) q)
