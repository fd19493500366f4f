-- The node of a number of the model's expression is the node at that place of the tree's nodes.
use Rattle.std.proofs.Common.{◌≡◌, ℕ, zero, suc, ◌+◌, ◌-◌, ◌<◌, ◌≤◌, Bool, true, false, ◌==◌, nat_lt, List, [], ◌∷◌, ◌++◌, map, length, slice_get}
use Rattle.std.proofs.Common.{Option, Some, None, refl, sym, ap, ◌∙◌, arith}
use Rattle.std.proofs.lemmas.Bool.Decides.{nat_tests}
use Rattle.std.proofs.lemmas.List.{length-append}
use Rattle.c_typed.specs.declared.tree.Typed.{Typed, out-Typed}
use Rattle.c_typed.specs.Tree.{tree_of, trees_of, size, sizes}
use Rattle.c_model.specs.Program as model
use Rattle.c_model.specs.Program.{Expr, expr}
use Rattle.c_model.specs.Steps.{at_node, at_node_among}
use Rattle.c_model.proofs.Ranks.{if_true, if_false, lt_lt, ge_lt}
use Rattle.static_places.specs.Preorder.{joined, nodes_of}
use Rattle.static_places.proofs.Preordered.{nodes_at}
use Rattle.program_view.specs.Trees.{expr_of, exprs_of}
use Rattle.program_view.proofs.Seen.{node_in, operands_in, own_type, head_in, expr_at, size_at, by_size, same_tree}

abbrev pub seen : Option Typed → Option Expr
seen None = None
seen (Some t) = Some (expr_of t)

-- places of a list of two parts
pub get_left : (xs ys : List Typed) (i : ℕ) → i < length xs → slice_get (xs ++ ys) i ≡ slice_get xs i
get_left [] ys i h = absurd (omega (arith, h))
get_left (x ∷ xs) ys zero h = refl
get_left (x ∷ xs) ys (suc i) h = get_left xs ys i (omega (arith, h))

pub get_right : (xs ys : List Typed) (i j : ℕ) → i ≡ length xs + j → slice_get (xs ++ ys) i ≡ slice_get ys j
get_right [] ys i j h = (let e : i ≡ j = omega (arith, h) in ap (slice_get ys) e)
get_right (x ∷ xs) ys zero j h = absurd (omega (arith, h))
get_right (x ∷ xs) ys (suc i) j h = get_right xs ys i j (omega (arith, h))

joined_length : (n : ℕ) → ((u : Typed) → size (tree_of u) ≤ n → length (nodes_of u) ≡ size (tree_of u)) → (ts : List Typed) → sizes (trees_of ts) ≤ n
    → length (joined (map nodes_of ts)) ≡ sizes (trees_of ts)
joined_length n f [] l = refl
joined_length n f (t ∷ ts) l =
    let a = f t (omega (arith, l)) in
    let b = joined_length n f ts (omega (arith, l)) in
    length-append (nodes_of t) (joined (map nodes_of ts)) ∙ omega (arith, a, b)

pub nodes_length : (t : Typed) → length (nodes_of t) ≡ size (tree_of t)
nodes_length = by_size (λ t. length (nodes_of t) ≡ size (tree_of t)) (λ t f.
    let a = joined_length (sizes (trees_of (operands_in t))) f (operands_in t) (omega arith) in
    let b = size_at t in
    ap length (nodes_at t) ∙ omega (arith, a, b))

abbrev AtEach : Typed → Type 0
AtEach t = (k i : ℕ) → at_node k (expr_of t) (k + i) ≡ seen (slice_get (nodes_of t) i)

among : (n : ℕ) → ((u : Typed) → size (tree_of u) ≤ n → AtEach u) → (ts : List Typed) → sizes (trees_of ts) ≤ n → (m j : ℕ)
    → at_node_among m (exprs_of ts) (m + j) ≡ seen (slice_get (joined (map nodes_of ts)) j)
among n f [] l m zero = refl
among n f [] l m (suc j) = refl
among n f (t ∷ ts) l m j = go (nat_lt j (size (tree_of t))) refl
    (f t (omega (arith, l)) m j) (among n f ts (omega (arith, l)) (m + size (tree_of t)) (j - size (tree_of t)))
  where
    s : ℕ
    s = size (tree_of t)

    e : size (model.tree_of (expr_of t)) ≡ s
    e = ap size (same_tree t)

    go : (b : Bool) → nat_lt j s ≡ b → at_node m (expr_of t) (m + j) ≡ seen (slice_get (nodes_of t) j)
        → at_node_among (m + s) (exprs_of ts) (m + s + (j - s)) ≡ seen (slice_get (joined (map nodes_of ts)) (j - s))
        → at_node_among m (exprs_of (t ∷ ts)) (m + j) ≡ seen (slice_get (nodes_of t ++ joined (map nodes_of ts)) j)
    go true q here there =
        let k : j < s = grind (arith, nat_tests, q) in
        let w = nodes_length t in
        if_true (nat_lt (m + j) (m + size (model.tree_of (expr_of t)))) _ _ (lt_lt (m + j) (m + size (model.tree_of (expr_of t))) (omega (arith, k, e)))
        ∙ (here ∙ ap seen (sym (get_left (nodes_of t) (joined (map nodes_of ts)) j (omega (arith, k, w)))))
    go false q here there =
        let k : s ≤ j = grind (arith, nat_tests, q) in
        let w = nodes_length t in
        let p : m + s + (j - s) ≡ m + j = omega (arith, k) in
        if_false (nat_lt (m + j) (m + size (model.tree_of (expr_of t)))) _ _ (ge_lt (m + j) (m + size (model.tree_of (expr_of t))) (omega (arith, k, e)))
        ∙ (ap (λ z. at_node_among (m + z) (exprs_of ts) (m + j)) e
        ∙ (ap (at_node_among (m + s) (exprs_of ts)) (sym p)
        ∙ (there ∙ ap seen (sym (get_right (nodes_of t) (joined (map nodes_of ts)) j (j - s) (omega (arith, k, w)))))))

pub at_each : (t : Typed) → AtEach t
at_each = by_size AtEach (λ t f k i.
    ap (λ z. at_node k z (k + i)) (expr_at t)
    ∙ (at_root t k i (among (sizes (trees_of (operands_in t))) f (operands_in t) (omega arith) (suc k))
    ∙ ap (λ z. seen (slice_get z i)) (sym (nodes_at t))))
  where
    at_root : (t : Typed) (k i : ℕ) → ((j : ℕ) → at_node_among (suc k) (exprs_of (operands_in t)) (suc k + j) ≡ seen
        (slice_get (joined (map nodes_of (operands_in t))) j))
        → at_node k (expr (head_in (node_in t) (own_type t)) (own_type t) (out-Typed t).line (exprs_of (operands_in t))) (k + i)
        ≡ seen (slice_get (t ∷ joined (map nodes_of (operands_in t))) i)
    at_root t k zero f = if_true (k == (k + zero)) _ _ (grind (arith, nat_tests)) ∙ ap Some (sym (expr_at t))
    at_root t k (suc j) f =
        let e : k + suc j ≡ suc k + j = omega arith in
        if_false (k == (k + suc j)) _ _ (grind (arith, nat_tests)) ∙ (ap (at_node_among (suc k) (exprs_of (operands_in t))) e ∙ f j)

pub node_there : (t : Typed) (i : ℕ) → at_node 0 (expr_of t) i ≡ seen (slice_get (nodes_of t) i)
node_there t i = (let e : i ≡ 0 + i = omega arith in ap (at_node 0 (expr_of t)) e ∙ at_each t 0 i)
