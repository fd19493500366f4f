-- How many nodes a shape has: what a walk over shapes counts down.
use Rattle.std.proofs.Common.{◌≡◌, ℕ, zero, suc, ◌+◌, ◌<◌, List, [], ◌∷◌, length, get_or, map, sym, subst, arith}
use Rattle.c_types.specs.Shapes.{Form, Forms, leaf, repeat, parts, none, place, put_of, forms_of}
use Rattle.c_types.specs.declared.shape.Placed.{Placed}

abbrev mutual
  pub nodes : Form → ℕ
  nodes (leaf e) = 1
  nodes (repeat count step part) = 1 + nodes part
  nodes (parts ps) = 1 + all_nodes ps

  pub all_nodes : Forms → ℕ
  all_nodes none = 0
  all_nodes (place offset part ps) = 2 + nodes part + all_nodes ps

-- a part has fewer than the list that it is in
pub inside : (ps : List Placed) (i : ℕ) (p : Placed) → i < length ps → p ≡ get_or ps i p → 1 + nodes (put_of p).part < all_nodes (forms_of (map put_of ps))
inside [] i p h e = absurd (omega arith)
inside (q ∷ qs) zero p h e = subst (λ (x : Placed). 1 + nodes (put_of x).part < 2 + nodes (put_of q).part + all_nodes (forms_of (map put_of qs))) (sym e)
    (omega arith)
inside (q ∷ qs) (suc i) p h e = let further = inside qs i p (omega arith) e in omega arith
