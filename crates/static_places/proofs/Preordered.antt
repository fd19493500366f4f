-- The nodes of a tree are its root and those of its operands; a list of them is gone through from a number on.
use Rattle.std.proofs.Common.{
  ◌≡◌,
  ℕ,
  zero,
  suc,
  ◌-◌,
  ◌+◌,
  ◌<◌,
  List,
  [],
  ◌∷◌,
  ◌++◌,
  map,
  drop,
  length,
  get_or,
  slice_get,
  Option,
  None,
  Result,
  Ok,
  Err,
  Bor,
  refl,
  sym,
  ap,
  ◌∙◌,
  append_assoc,
  arith,
}
use Rattle.std.proofs.lemmas.List.{map-append}
use Rattle.c_typed.specs.declared.tree.Typed.{Typed, out-Typed, roll-Typed, roll-out-Typed, para-roll-Typed, fold_out-Typed}
use Rattle.c_typed.specs.declared.class.Class.{Class}
use Rattle.c_typed.specs.Tree.{Tree, Trees, tree_of, trees_of, node_class, typed_tree, size, sizes}
use Rattle.c_typed.specs.declared.program.Program.{Program}
use Rattle.static_places.specs.Preorder.{joined, all_second, firsts, node_itself, with_operands, nodes_of, tree_at, trees_at}
use Rattle.static_places.specs.Fixed.{Spot, fixed_place, fixed_at, sought}

seconds : (ts : List Typed) → all_second (map (λ t. (t, nodes_of t)) ts) ≡ joined (map nodes_of ts)
seconds [] = refl
seconds (t ∷ ts) = ap (λ z. nodes_of t ++ z) (seconds ts)

firsts-pairs : (ts : List Typed) → firsts (map (λ t. (t, nodes_of t)) ts) ≡ ts
firsts-pairs [] = refl
firsts-pairs (t ∷ ts) = ap (λ z. t ∷ z) (firsts-pairs ts)

pub nodes_at : (t : Typed) → nodes_of t ≡ t ∷ joined (map nodes_of (out-Typed t).children)
nodes_at t =
    ap nodes_of (sym (roll-out-Typed t))
    ∙ (para-roll-Typed (Unit {0}) (List Typed) node_itself with_operands (out-Typed t)
    ∙ (ap (λ z. roll-Typed (record { node = (out-Typed t).node; ty = (out-Typed t).ty; line = (out-Typed t).line; children = z }) ∷
    all_second (map (λ u. (u, nodes_of u)) (out-Typed t).children)) (firsts-pairs (out-Typed t).children)
    ∙ (ap (λ z. z ∷ all_second (map (λ u. (u, nodes_of u)) (out-Typed t).children)) (roll-out-Typed t)
    ∙ ap (λ z. t ∷ z) (seconds (out-Typed t).children))))

-- the root is added before the nodes of its operands
pub begun : (t : Typed) (items : List Typed) (old new : List (Bor Typed)) (at : Bor Typed) → items ≡ (out-Typed t).children → new ≡ old ++ at ∷ [] →
    at.now ≡ t → trees_at new ++ joined (map nodes_of items) ≡ trees_at old ++ nodes_of t
begun t items old new at k p e =
    ap (λ z. trees_at z ++ joined (map nodes_of items)) p
    ∙ (ap (λ z. z ++ joined (map nodes_of items)) (map-append tree_at old (at ∷ []))
    ∙ (append_assoc (trees_at old) (at.now ∷ []) (joined (map nodes_of items))
    ∙ (ap (λ z. trees_at old ++ (z ∷ joined (map nodes_of items))) e
    ∙ (ap (λ z. trees_at old ++ (t ∷ joined (map nodes_of z))) k ∙ ap (λ z. trees_at old ++ z) (sym (nodes_at t))))))

length-last : (xs : List (Bor Typed)) (x : Bor Typed) → length (xs ++ x ∷ []) ≡ length xs + 1
length-last [] x = refl
length-last (y ∷ xs) x = let r = length-last xs x in omega (arith, r)

size_at : (t : Typed) → size (tree_of t) ≡ suc (sizes (trees_of (out-Typed t).children))
size_at t = ap size (fold_out-Typed (Trees → Class) Tree node_class typed_tree t)

pub counted : (t : Typed) (items : List Typed) (old new : List (Bor Typed)) (at : Bor Typed) → items ≡ (out-Typed t).children → new ≡ old ++ at ∷ [] →
    length new + sizes (trees_of items) ≡ length old + size (tree_of t)
counted t items old new at k p =
    let a : length new ≡ length old + 1 = ap length p ∙ length-last old at in
    let b : sizes (trees_of items) ≡ sizes (trees_of (out-Typed t).children) = ap (λ z. sizes (trees_of z)) k in
    let e = size_at t in
    omega (arith, a, b, e)

module _ (p : Program) (function : ℕ) where
  -- what is sought in a list, or behind it
  abbrev pub and_then : Result ℕ (Option Spot) → List Typed → Result ℕ (Option Spot)
  and_then (Ok n) ts = sought p function n ts
  and_then (Err found) ts = Err found

  pub sought-append : (xs ys : List Typed) (n : ℕ) → sought p function n (xs ++ ys) ≡ and_then (sought p function n xs) ys
  sought-append [] ys n = refl
  sought-append (x ∷ xs) ys zero = refl
  sought-append (x ∷ xs) ys (suc n) = sought-append xs ys n

  pub sought-root : (t : Typed) (n : ℕ) → n ≡ 0 → sought p function n (nodes_of t) ≡ Err (fixed_place p function t)
  sought-root t n e = ap (λ z. sought p function z (nodes_of t)) e ∙ ap (sought p function 0) (nodes_at t)

  pub sought-below : (t : Typed) (n : ℕ) (items : List Typed) → 0 < n → items ≡ (out-Typed t).children →
      sought p function (n - 1) (joined (map nodes_of items)) ≡ sought p function n (nodes_of t)
  sought-below t zero items h e = absurd (omega (arith, h))
  sought-below t (suc n) items h e =
      ap (λ z. sought p function z (joined (map nodes_of items))) (omega arith)
      ∙ (ap (λ z. sought p function n (joined (map nodes_of z))) e ∙ sym (ap (sought p function (suc n)) (nodes_at t)))

  dropped : (ts : List Typed) (i : ℕ) (x : Typed) → i < length ts → x ≡ get_or ts i x → drop i ts ≡ x ∷ drop (suc i) ts
  dropped [] i x h e = absurd (omega (arith, h))
  dropped (t ∷ ts) zero x h e = ap (λ z. z ∷ ts) (sym e)
  dropped (t ∷ ts) (suc i) x h e = dropped ts i x (omega (arith, h)) e

  -- a step of the loop over operands
  pub sought-step : (ts : List Typed) (i n : ℕ) (x : Typed) (r : Result ℕ (Option Spot)) → i < length ts → x ≡ get_or ts i x →
      r ≡ sought p function n (nodes_of x) → sought p function n (joined (map nodes_of (drop i ts))) ≡ and_then r (joined (map nodes_of (drop (i + 1) ts)))
  sought-step ts i n x r h e q =
      let next : suc i ≡ i + 1 = omega arith in
      ap (λ z. sought p function n (joined (map nodes_of z))) (dropped ts i x h e ∙ ap (λ z. x ∷ drop z ts) next)
      ∙ (sought-append (nodes_of x) (joined (map nodes_of (drop (i + 1) ts))) n
      ∙ ap (λ z. and_then z (joined (map nodes_of (drop (i + 1) ts)))) (sym q))

  -- what a search answers
  abbrev pub answer : Result ℕ (Option Spot) → Option Spot
  answer (Ok n) = None
  answer (Err found) = found

  pub sought-get : (ts : List Typed) (n : ℕ) → answer (sought p function n ts) ≡ fixed_at p function (slice_get ts n)
  sought-get [] zero = refl
  sought-get [] (suc n) = refl
  sought-get (t ∷ ts) zero = refl
  sought-get (t ∷ ts) (suc n) = sought-get ts n
