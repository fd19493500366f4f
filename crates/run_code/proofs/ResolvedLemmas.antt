-- Where the value of a conversion or a member comes from, by its first operand.
use Rattle.std.proofs.Common.{◌≡◌, ℕ, List, [], ◌∷◌, slice_get, map, Option, Some, None, refl, sym, ◌∙◌, ap}
use Rattle.c_types.specs.Types.{CType, type_of}
use Rattle.c_typed.specs.declared.tree.Conversion.{Conversion}
use Rattle.c_typed.specs.declared.tree.Conversion.TheVariants as conversion
use Rattle.c_typed.specs.declared.tree.Node.{Node, fold-Node, fold-roll-Node}
use Rattle.c_typed.specs.declared.tree.Node.TheOpen as shape
use Rattle.c_typed.specs.declared.tree.Node.TheVariants as nodes
use Rattle.c_typed.specs.declared.tree.Typed.{Typed, out-Typed, fold_out-Typed}
use Rattle.run_layout.specs.declared.steps.Operand.{Operand}
use Rattle.run_layout.specs.declared.steps.Operand.TheVariants.{Done}
use Rattle.run_layout.specs.Resolved.{NodeResolved, node_resolved, tree_resolved, resolved, first_resolved, by_conversion, member_of}

abbrev node_at : List ℕ → Node → NodeResolved
node_at firsts = fold-Node NodeResolved (ℕ → Operand) (node_resolved firsts) tree_resolved

abbrev operand_at : List ℕ → Option Typed → ℕ → Operand
operand_at firsts None n = Done n
operand_at firsts (Some t) n = resolved firsts t n

first_of : (firsts : List ℕ) (ts : List Typed) (n : ℕ) → first_resolved (map (resolved firsts) ts) n ≡ operand_at firsts (slice_get ts 0) n
first_of firsts [] n = refl
first_of firsts (t ∷ ts) n = refl

root_of : (firsts : List ℕ) (t : Typed) (n : ℕ) (u : Node) → (out-Typed t).node ≡ u
    → resolved firsts t n ≡ node_at firsts u (type_of (out-Typed t).ty) (map (resolved firsts) (out-Typed t).children) n
root_of firsts t n u e =
    ap (λ (f : ℕ → Operand). f n) (fold_out-Typed NodeResolved (ℕ → Operand) (node_resolved firsts) tree_resolved t)
    ∙ ap (λ z. node_at firsts z (type_of (out-Typed t).ty) (map (resolved firsts) (out-Typed t).children) n) e

conversion_at : (firsts : List ℕ) (c : Conversion) (ty : CType) (os : List (ℕ → Operand)) (n : ℕ) →
    node_at firsts (nodes.Conv c) ty os n ≡ by_conversion c n (first_resolved os n)
conversion_at firsts c ty os n =
    ap (λ z. node_at firsts z ty os n) (sym (nodes.rolls-Conv c))
    ∙ ap (λ (f : NodeResolved). f ty os n) (fold-roll-Node NodeResolved (ℕ → Operand) (node_resolved firsts) tree_resolved (shape.Conv c))

member_at : (firsts : List ℕ) (offset : ℕ) (ty : CType) (os : List (ℕ → Operand)) (n : ℕ) →
    node_at firsts (nodes.Member offset) ty os n ≡ member_of offset n (first_resolved os n)
member_at firsts offset ty os n =
    ap (λ z. node_at firsts z ty os n) (sym (nodes.rolls-Member offset))
    ∙ ap (λ (f : NodeResolved). f ty os n) (fold-roll-Node NodeResolved (ℕ → Operand) (node_resolved firsts) tree_resolved (shape.Member offset))

none_converted : (c : Conversion) (n : ℕ) → by_conversion c n (Done n) ≡ Done n
none_converted (conversion.Integer k) n = refl
none_converted _ n = refl

pub resolved-conversion : (firsts : List ℕ) (t operand : Typed) (c : Conversion) (n : ℕ) →
    (out-Typed t).node ≡ nodes.Conv c → Some operand ≡ slice_get (out-Typed t).children 0
    → resolved firsts t n ≡ by_conversion c n (resolved firsts operand n)
resolved-conversion firsts t operand c n e h =
    root_of firsts t n (nodes.Conv c) e ∙ conversion_at firsts c (type_of (out-Typed t).ty) (map (resolved firsts) (out-Typed t).children) n
    ∙ ap (by_conversion c n) (first_of firsts (out-Typed t).children n ∙ ap (λ o. operand_at firsts o n) (sym h))

pub resolved-lone_conversion : (firsts : List ℕ) (t : Typed) (c : Conversion) (n : ℕ) →
    (out-Typed t).node ≡ nodes.Conv c → None ≡ slice_get (out-Typed t).children 0 → resolved firsts t n ≡ Done n
resolved-lone_conversion firsts t c n e h =
    root_of firsts t n (nodes.Conv c) e ∙ conversion_at firsts c (type_of (out-Typed t).ty) (map (resolved firsts) (out-Typed t).children) n
    ∙ ap (by_conversion c n) (first_of firsts (out-Typed t).children n ∙ ap (λ o. operand_at firsts o n) (sym h)) ∙ none_converted c n

pub resolved-member : (firsts : List ℕ) (t operand : Typed) (offset n : ℕ) → (out-Typed t).node ≡ nodes.Member offset →
    Some operand ≡ slice_get (out-Typed t).children 0
    → resolved firsts t n ≡ member_of offset n (resolved firsts operand n)
resolved-member firsts t operand offset n e h =
    root_of firsts t n (nodes.Member offset) e ∙ member_at firsts offset (type_of (out-Typed t).ty) (map (resolved firsts) (out-Typed t).children) n
    ∙ ap (member_of offset n) (first_of firsts (out-Typed t).children n ∙ ap (λ o. operand_at firsts o n) (sym h))

pub resolved-lone_member : (firsts : List ℕ) (t : Typed) (offset n : ℕ) → (out-Typed t).node ≡ nodes.Member offset →
    None ≡ slice_get (out-Typed t).children 0 → resolved firsts t n ≡ Done n
resolved-lone_member firsts t offset n e h =
    root_of firsts t n (nodes.Member offset) e ∙ member_at firsts offset (type_of (out-Typed t).ty) (map (resolved firsts) (out-Typed t).children) n
    ∙ ap (member_of offset n) (first_of firsts (out-Typed t).children n ∙ ap (λ o. operand_at firsts o n) (sym h))
