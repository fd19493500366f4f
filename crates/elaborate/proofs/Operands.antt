-- The terms of a node's operands, and the term of a comma operator built from its last operand on.
use Rattle.std.proofs.Common.{◌≡◌, ℕ, suc, ◌+◌, List, [], ◌∷◌, ◌++◌, map, length, refl, sym, ap, ◌∙◌, arith}
use Rattle.c_typed.specs.declared.tree.Typed.{Typed, out-Typed, fold_out-Typed}
use Rattle.c_typed.specs.declared.class.Class.{Class}
use Rattle.c_typed.specs.Tree.{Tree, node, Trees, tree_of, trees_of, operands, size, sizes, node_class, typed_tree}
use Rattle.core_ir.specs.declared.term.Core.{Core}
use Rattle.core_ir.specs.Term.{Term, term_of, pure, weak, strong}
use Rattle.elaborate.specs.Terms.{comma_of, value}

-- all of each before what follows
abbrev pub strung : List Term → Term → Term
strung [] w = w
strung (t ∷ ts) w = strong t (strung ts w)

pub strung-last : (ts : List Core) (t : Core) (w : Term) → strung (map term_of (ts ++ t ∷ [])) w ≡ strung (map term_of ts) (strong (term_of t) w)
strung-last [] t w = refl
strung-last (x ∷ xs) t w = ap (strong (term_of x)) (strung-last xs t w)

pub comma-last : (k : ℕ) (ts : List Core) (t : Core) → comma_of k (map term_of (ts ++ t ∷ [])) ≡ strung (map term_of ts) (weak (term_of t) (value k))
comma-last k [] t = refl
comma-last k (x ∷ []) t = refl
comma-last k (x ∷ y ∷ ys) t = ap (strong (term_of x)) (comma-last k (y ∷ ys) t)

pub operands_of : (t : Typed) → operands (tree_of t) ≡ trees_of (out-Typed t).children
operands_of t = ap operands (fold_out-Typed (Trees → Class) Tree node_class typed_tree t)

size_node : (t : Tree) → size t ≡ suc (sizes (operands t))
size_node (node class ts) = refl

pub size_of : (t : Typed) → size (tree_of t) ≡ suc (sizes (trees_of (out-Typed t).children))
size_of t = size_node (tree_of t) ∙ ap (λ ts. suc (sizes ts)) (operands_of t)

pub comma_none : (k : ℕ) (old new : List Core) (t w v : Core) → (old ≡ []) × (new ≡ []) → term_of t ≡ pure k → term_of w ≡ weak (term_of t) (term_of v) →
    term_of v ≡ value k → strung (map term_of new) (term_of w) ≡ comma_of k (map term_of old)
comma_none k old new t w v e p h g =
    ap (λ z. strung (map term_of z) (term_of w)) e.1
    ∙ (h ∙ (ap (λ z. weak z (term_of v)) p ∙ (ap (weak (pure k)) g ∙ ap (λ z. comma_of k (map term_of z)) (sym e.0))))

pub comma_first : (k : ℕ) (old new : List Core) (t w v : Core) → old ≡ new ++ t ∷ [] → term_of w ≡ weak (term_of t) (term_of v) → term_of v ≡ value k →
    strung (map term_of new) (term_of w) ≡ comma_of k (map term_of old)
comma_first k old new t w v e h g =
    ap (strung (map term_of new)) (h ∙ ap (weak (term_of t)) g) ∙ (sym (comma-last k new t) ∙ ap (λ z. comma_of k (map term_of z)) (sym e))

count-last : (ts : List Core) (t : Core) → length (ts ++ t ∷ []) ≡ length ts + 1
count-last [] t = refl
count-last (x ∷ xs) t = let q = count-last xs t in omega (arith, q)

pub comma_next : (old new : List Core) (t w next : Core) (turn end : ℕ) (all : Term) → old ≡ new ++ t ∷ [] → term_of next ≡ strong (term_of t) (term_of w)
    → (length old + turn ≡ end) × (strung (map term_of old) (term_of w) ≡ all) → (length new + (turn + 1) ≡ end) ×
    (strung (map term_of new) (term_of next) ≡ all)
comma_next old new t w next turn end all e h i =
    let l = ap length e ∙ count-last new t in (
      omega (arith, l, i.0),
      ap (strung (map term_of new)) h ∙ (sym (strung-last new t (term_of w)) ∙ (ap (λ z. strung (map term_of z) (term_of w)) (sym e) ∙ i.1)),
    )
