-- The places of a tree, put operand by operand, and then the node's own.
use Rattle.std.proofs.Common.{
  ◌≡◌,
  ◌∙◌,
  ◌<◌,
  ◌≤◌,
  ◌+◌,
  ◌-◌,
  ◌^◌,
  ℕ,
  suc,
  min,
  sym,
  ap,
  subst,
  refl,
  List,
  [],
  ◌∷◌,
  ◌++◌,
  append_assoc,
  append-nil,
  length,
  get_or,
  drop,
  arith,
}
use Rattle.c_typed.specs.declared.tree.Place.{Place}
use Rattle.c_typed.specs.declared.tree.Typed.{Typed}
use Rattle.c_typed.specs.Tree.{Tree, node, Trees, none, more, tree_of, trees_of, size, sizes, operands}
use Rattle.seq_order.proofs.Walks.{dropped, dropped_all}
use Rattle.order_swap.specs.Sets.{node_places, places, operand_places}

-- what is put and what is left make the whole
pub record Putting (k : ℕ) (tree : Tree) (old now : List Place) (number : ℕ) (ts : Trees) : Type 0 where
  pub room : number + sizes ts ≡ k + size tree
  pub rest : now ++ operand_places number ts ≡ old ++ operand_places (suc k) (operands tree)

module _ (k : ℕ) (tree : Tree) (old now : List Place) (number : ℕ) (xs : List Typed) (i : ℕ) (small : k + size tree < 2 ^ 32)
    (p : Putting k tree old now number (trees_of (drop i xs))) where
  at : (x : Typed) → i < length xs → x ≡ get_or xs i x → Putting k tree old now number (more (tree_of x) (trees_of (drop (suc i) xs)))
  at x within is = subst (λ z. Putting k tree old now number z) (dropped xs i x within is) p

  pub one_more : (x : Typed) → i < length xs → x ≡ get_or xs i x → (next : ℕ) (new : List Place)
      → (number + size (tree_of x) < 2 ^ 32 → (next ≡ number + size (tree_of x)) × (new ≡ now ++ places number (tree_of x)))
      → Putting k tree old new next (trees_of (drop (i + 1) xs))
  one_more x within is next new found =
      let q = at x within is in
      let room = q.room in
      let f = found (omega (arith, room, small)) in
      let n = f.0 in
      let rest = trees_of (drop (suc i) xs) in
      let after : suc i ≡ i + 1 = omega arith in
      subst (λ z. Putting k tree old new next (trees_of (drop z xs))) after
      (record {
        room = omega (arith, room, n);
        rest =
            ap (λ z. z ++ operand_places next rest) (f.1)
            ∙ ap (λ z. (now ++ places number (tree_of x)) ++ operand_places z rest) n
            ∙ append_assoc now (places number (tree_of x)) (operand_places (number + size (tree_of x)) rest)
            ∙ q.rest;
      })

  pub all_put : (new : List Place) → length xs ≤ i → new ≡ now ++ node_places k → (number ≡ k + size tree) × (new ≡ old ++ places k tree)
  all_put new h e =
      let none_left = dropped_all xs i h in
      let room = p.room in
      let s = ap sizes none_left in
      let n : number ≡ k + size tree = omega (arith, room, s) in (
        n,
        e ∙ ap (λ z. z ++ node_places k) (sym (append-nil now) ∙ ap (λ z. now ++ operand_places number z) (sym none_left) ∙ p.rest)
            ∙ append_assoc old (operand_places (suc k) (operands tree)) (node_places k) ∙ ap (λ z. old ++ z) (own tree),
      )
    where
      own : (t : Tree) → operand_places (suc k) (operands t) ++ node_places k ≡ places k t
      own (node class ts) = refl
