-- The class of a typed tree's root, from its node and its first operand.
use Rattle.std.proofs.Common.{◌≡◌, ℕ, List, [], ◌∷◌, slice_get, map, Option, Some, None, refl, sym, ◌∙◌, ap}
use Rattle.c_typed.specs.declared.tree.Conversion.{Conversion}
use Rattle.c_typed.specs.declared.tree.Conversion.TheVariants as conversion
use Rattle.c_typed.specs.declared.tree.Node.{Node, fold-Node, fold-roll-Node}
use Rattle.c_typed.specs.declared.tree.Node.TheOpen as shape
use Rattle.c_typed.specs.declared.tree.Node.TheVariants as nodes
use Rattle.c_typed.specs.declared.tree.Typed.{Typed, out-Typed, fold_out-Typed}
use Rattle.c_typed.specs.declared.class.Class.{Class}
use Rattle.c_typed.specs.declared.class.Class.TheVariants.{Plain}
use Rattle.c_typed.specs.Tree.{
  Tree,
  Trees,
  tree_of,
  trees_of,
  trees_from,
  class_of,
  first_class,
  class_over,
  member_class,
  node_class,
  typed_tree,
  conversion_class,
}

abbrev option_class : Option Typed → Option Class
option_class None = None
option_class (Some t) = Some (class_of (tree_of t))

first_class-children : (ts : List Typed) → first_class (trees_of ts) ≡ option_class (slice_get ts 0)
first_class-children [] = refl
first_class-children (t ∷ ts) = refl

class_at : (t : Typed) (n : Node) → (out-Typed t).node ≡ n → class_of (tree_of t) ≡ fold-Node (Trees → Class) Tree node_class typed_tree n
    (trees_of (out-Typed t).children)
class_at t n e =
    ap class_of (fold_out-Typed (Trees → Class) Tree node_class typed_tree t)
    ∙ ap (λ z. fold-Node (Trees → Class) Tree node_class typed_tree z (trees_of (out-Typed t).children)) e

fold_conversion : (c : Conversion) (ts : Trees) → fold-Node (Trees → Class) Tree node_class typed_tree (nodes.Conv c) ts ≡ conversion_class c (first_class ts)
fold_conversion c ts =
    ap (λ z. fold-Node (Trees → Class) Tree node_class typed_tree z ts) (sym (nodes.rolls-Conv c))
    ∙ ap (λ (g : Trees → Class). g ts) (fold-roll-Node (Trees → Class) Tree node_class typed_tree (shape.Conv c))

fold_member : (n : ℕ) (ts : Trees) → fold-Node (Trees → Class) Tree node_class typed_tree (nodes.Member n) ts ≡ member_class (first_class ts)
fold_member n ts =
    ap (λ z. fold-Node (Trees → Class) Tree node_class typed_tree z ts) (sym (nodes.rolls-Member n))
    ∙ ap (λ (g : Trees → Class). g ts) (fold-roll-Node (Trees → Class) Tree node_class typed_tree (shape.Member n))

first_at : (t : Typed) (o : Option Typed) → o ≡ slice_get (out-Typed t).children 0 → first_class (trees_of (out-Typed t).children) ≡ option_class o
first_at t o e = first_class-children (out-Typed t).children ∙ ap option_class (sym e)

conversion_none : (c : Conversion) → conversion_class c None ≡ Plain
conversion_none (conversion.Integer k) = refl
conversion_none _ = refl

pub class_of-conversion : (t operand : Typed) (c : Conversion) → (out-Typed t).node ≡ nodes.Conv c → Some operand ≡ slice_get (out-Typed t).children 0 →
    class_of (tree_of t) ≡ conversion_class c (Some (class_of (tree_of operand)))
class_of-conversion t operand c e h = class_at t (nodes.Conv c) e ∙ fold_conversion c (trees_of (out-Typed t).children) ∙ ap (conversion_class c)
    (first_at t (Some operand) h)

pub class_of-lone_conversion : (t : Typed) (c : Conversion) → (out-Typed t).node ≡ nodes.Conv c → None ≡ slice_get (out-Typed t).children 0 →
    class_of (tree_of t) ≡ Plain
class_of-lone_conversion t c e h = class_at t (nodes.Conv c) e ∙ fold_conversion c (trees_of (out-Typed t).children) ∙
    (ap (conversion_class c) (first_at t None h) ∙ conversion_none c)

pub class_of-member : (t operand : Typed) (n : ℕ) → (out-Typed t).node ≡ nodes.Member n → Some operand ≡ slice_get (out-Typed t).children 0 →
    class_of (tree_of t) ≡ member_class (Some (class_of (tree_of operand)))
class_of-member t operand n e h = class_at t (nodes.Member n) e ∙ fold_member n (trees_of (out-Typed t).children) ∙ ap member_class
    (first_at t (Some operand) h)

pub class_of-lone_member : (t : Typed) (n : ℕ) → (out-Typed t).node ≡ nodes.Member n → None ≡ slice_get (out-Typed t).children 0 → class_of (tree_of t) ≡ Plain
class_of-lone_member t n e h = class_at t (nodes.Member n) e ∙ fold_member n (trees_of (out-Typed t).children) ∙ ap member_class (first_at t None h)
