-- The fixed place of a member and of a sum, from what their first operand gives.
use Rattle.std.proofs.Common.{◌≡◌, ℕ, ℤ, Bool, List, [], ◌∷◌, slice_get, map, Option, Some, None, refl, sym, ◌∙◌, ap}
use Rattle.c_typed.specs.declared.tree.Node.{Node, fold-Node, fold-roll-Node, map-Node, out-Node, roll-out-Node}
use Rattle.c_typed.specs.declared.tree.Node.TheOpen as shape
use Rattle.c_typed.specs.declared.tree.Node.TheOpen.{Node-F}
use Rattle.c_typed.specs.declared.tree.Node.TheVariants as nodes
use Rattle.c_typed.specs.declared.tree.Typed.{Typed, out-Typed, fold_out-Typed}
use Rattle.c_typed.specs.declared.program.Program.{Program}
use Rattle.static_places.specs.Fixed.{
  Shown,
  Spot,
  node_shown,
  typed_shown,
  shown,
  fixed_place,
  constant_of,
  node_constant,
  typed_constant,
  moved,
  indexed,
  index_of,
  place_in,
  constant_in,
}

module _ (p : Program) (f : ℕ) where
  abbrev pub shown_node : Node → List Shown → Shown
  shown_node = fold-Node (List Shown → Shown) Shown (node_shown p f) typed_shown

  abbrev constant_node : Node → Option ℤ
  constant_node = fold-Node (Option ℤ) (Option ℤ) node_constant typed_constant

  by_node : (d : Node-F Node Typed) (cs : List Shown) →
      (node_shown p f (map-Node Node Typed (List Shown → Shown) Shown shown_node (shown p f) d) cs).constant
      ≡ node_constant (map-Node Node Typed (Option ℤ) (Option ℤ) constant_node constant_of d)
  by_node (shape.Const z) cs = refl
  by_node _ cs = refl

  constant_shown : (t : Typed) → (shown p f t).constant ≡ constant_of t
  constant_shown t =
      let n = (out-Typed t).node in
      let cs = map (shown p f) (out-Typed t).children in
      ap (λ (s : Shown). s.constant) (fold_out-Typed (List Shown → Shown) Shown (node_shown p f) typed_shown t)
      ∙ (ap (λ z. (shown_node z cs).constant) (sym (roll-out-Node n))
      ∙ (ap (λ (g : List Shown → Shown). (g cs).constant) (fold-roll-Node (List Shown → Shown) Shown (node_shown p f) typed_shown (out-Node n))
      ∙ (by_node (out-Node n) cs
      ∙ (sym (fold-roll-Node (Option ℤ) (Option ℤ) node_constant typed_constant (out-Node n))
      ∙ (ap constant_node (roll-out-Node n) ∙ sym (fold_out-Typed (Option ℤ) (Option ℤ) node_constant typed_constant t))))))

  abbrev pub place_at : Option Typed → Option Spot
  place_at None = None
  place_at (Some t) = fixed_place p f t

  first_place : (ts : List Typed) → place_in (slice_get (map (shown p f) ts) 0) ≡ place_at (slice_get ts 0)
  first_place [] = refl
  first_place (t ∷ ts) = refl

  second_constant : (ts : List Typed) → constant_in (slice_get (map (shown p f) ts) 1) ≡ index_of ts
  second_constant [] = refl
  second_constant (t ∷ []) = refl
  second_constant (t ∷ u ∷ ts) = constant_shown u

  spot_at : (t : Typed) (n : Node) → (out-Typed t).node ≡ n → fixed_place p f t ≡ (shown_node n (map (shown p f) (out-Typed t).children)).spot
  spot_at t n e =
      ap (λ (s : Shown). s.spot) (fold_out-Typed (List Shown → Shown) Shown (node_shown p f) typed_shown t)
      ∙ ap (λ z. (shown_node z (map (shown p f) (out-Typed t).children)).spot) e

  member_at : (offset : ℕ) (cs : List Shown) → (shown_node (nodes.Member offset) cs).spot ≡ moved offset (place_in (slice_get cs 0))
  member_at offset cs =
      ap (λ z. (shown_node z cs).spot) (sym (nodes.rolls-Member offset))
      ∙ ap (λ (g : List Shown → Shown). (g cs).spot) (fold-roll-Node (List Shown → Shown) Shown (node_shown p f) typed_shown (shape.Member offset))

  sum_at : (size : ℕ) (subtract : Bool) (cs : List Shown) → (shown_node (nodes.PtrAdd size subtract) cs).spot ≡ indexed p f size subtract
      (place_in (slice_get cs 0)) (constant_in (slice_get cs 1))
  sum_at size subtract cs =
      ap (λ z. (shown_node z cs).spot) (sym (nodes.rolls-PtrAdd size subtract))
      ∙ ap (λ (g : List Shown → Shown). (g cs).spot) (fold-roll-Node (List Shown → Shown) Shown (node_shown p f) typed_shown (shape.PtrAdd size subtract))

  pub of_member : (t : Typed) (offset : ℕ) (o : Option Typed) → (out-Typed t).node ≡ nodes.Member offset → o ≡ slice_get (out-Typed t).children 0 →
      fixed_place p f t ≡ moved offset (place_at o)
  of_member t offset o e h =
      spot_at t (nodes.Member offset) e ∙ (member_at offset (map (shown p f) (out-Typed t).children)
      ∙ ap (moved offset) (first_place (out-Typed t).children ∙ ap place_at (sym h)))

  pub of_sum : (t : Typed) (size : ℕ) (subtract : Bool) (o : Option Typed) → (out-Typed t).node ≡ nodes.PtrAdd size subtract → o ≡ slice_get
      (out-Typed t).children 0
      → fixed_place p f t ≡ indexed p f size subtract (place_at o) (index_of (out-Typed t).children)
  of_sum t size subtract o e h =
      spot_at t (nodes.PtrAdd size subtract) e ∙ (sum_at size subtract (map (shown p f) (out-Typed t).children)
      ∙ (ap (λ z. indexed p f size subtract z (constant_in (slice_get (map (shown p f) (out-Typed t).children) 1))) (first_place (out-Typed t).children ∙ ap
      place_at (sym h))
      ∙ ap (indexed p f size subtract (place_at o)) (second_constant (out-Typed t).children)))
