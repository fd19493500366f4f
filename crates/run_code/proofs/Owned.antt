-- The numbers of the isolated initializers of a full expression, as its nodes are gone through.
use Rattle.std.proofs.Common.{arith, ◌≡◌, ◌<◌, ◌≤◌, ◌+◌, ◌⊎◌, inl, inr, ℕ, zero, suc, List, [], ◌∷◌, ◌++◌, length, flat_map, Some, slice_get}
use Rattle.std.proofs.Common.{refl, sym, ap, subst, ◌∙◌, append_assoc, append-nil, length-append}
use Rattle.std.proofs.Math.ListN.{set}
use Rattle.std.proofs.lemmas.Option.{slice_get_within}
use Rattle.c_typed.specs.declared.tree.Node.{Node, out-Node, roll-Node, roll-out-Node, out-roll-Node}
use Rattle.c_typed.specs.declared.tree.Node.TheOpen as shape
use Rattle.c_typed.specs.declared.tree.Node.TheOpen.{Node-F}
use Rattle.c_typed.specs.declared.tree.Node.TheVariants as nodes
use Rattle.c_typed.specs.declared.tree.Typed.{Typed, out-Typed}
use Rattle.elaborate.specs.Expressions.{own_trees, full_trees}
use Rattle.elaborate.proofs.Own.{own_isolated, own_other}
use Rattle.run_layout.specs.declared.nodes.NodeInfo.{NodeInfo}
use Rattle.run_layout.specs.Initializers.{IsIsolated, HasNumber, HaveNumbers, trees_of_node, trees_at, AreOwned}
use Rattle.run_layout.specs.Numbered.{AreKept}
use Rattle.run_layout.proofs.Collected.{by_number, by_place, same_some, slice_get-front, slice_get-seam, slice_get-set, slice_get-set_other, there}

-- ---- the own trees of a node, and of its operands
is_isolated : (z : Node-F Node Typed) → ((u : Typed) × (z ≡ shape.Isolated u)) ⊎ ((u : Typed) → z ≡ shape.Isolated u → ⊥)
is_isolated (shape.Isolated u) = inl (u, refl)
is_isolated _ = inr (λ u e. absurd (cc))

none_own : (z : Node-F Node Typed) → ((u : Typed) → z ≡ shape.Isolated u → ⊥) → trees_of_node z ≡ []
none_own (shape.Isolated u) f = absurd (f u refl)
none_own _ f = refl

out_isolated : (u : Typed) → out-Node (nodes.Isolated u) ≡ shape.Isolated u
out_isolated u = ap out-Node (sym (nodes.rolls-Isolated u)) ∙ out-roll-Node (shape.Isolated u)

in_isolated : (n : Node) (u : Typed) → out-Node n ≡ shape.Isolated u → n ≡ nodes.Isolated u
in_isolated n u e = sym (roll-out-Node n) ∙ (ap roll-Node e ∙ nodes.rolls-Isolated u)

pub node_isolated : (t u : Typed) → (out-Typed t).node ≡ nodes.Isolated u → trees_at t ≡ full_trees u
node_isolated t u e = ap trees_of_node (ap out-Node e ∙ out_isolated u)

pub node_other : (t : Typed) → ((u : Typed) → (out-Typed t).node ≡ nodes.Isolated u → ⊥) → trees_at t ≡ []
node_other t f = none_own (out-Node (out-Typed t).node) (λ u e. f u (in_isolated (out-Typed t).node u e))

pub own_split : (t : Typed) → own_trees t ≡ trees_at t ++ flat_map own_trees (out-Typed t).children
own_split t = elim (is_isolated (out-Node (out-Typed t).node)) [
  | inl i ↦
      let e = in_isolated (out-Typed t).node i.0 i.1 in
      own_isolated t i.0 e ∙ ap (λ z. z ++ flat_map own_trees (out-Typed t).children) (sym (node_isolated t i.0 e))
  | inr f ↦
      let g : (u : Typed) → (out-Typed t).node ≡ nodes.Isolated u → ⊥ = λ u e. f u (ap out-Node e ∙ out_isolated u) in
      own_other t g ∙ ap (λ z. z ++ flat_map own_trees (out-Typed t).children) (sym (node_other t g))
]

-- ---- how many they are
abbrev pub Passes : (first : ℕ) → Typed → (next : ℕ) → List Typed → Type 0
Passes first t next left = next + length (flat_map own_trees left) ≡ first + length (own_trees t)

started : (t : Typed) (items : List Typed) (first next : ℕ) → items ≡ (out-Typed t).children → next ≡ first + length (trees_at t) → Passes first t next items
started t items first next k e =
    omega (
      arith,
      e,
      ap (λ (ts : List Typed). length (flat_map own_trees ts)) k,
      ap length (own_split t) ∙ length-append (trees_at t) (flat_map own_trees (out-Typed t).children),
    )

pub passes_isolated : (t u v : Typed) (items : List Typed) (first one next : ℕ) → items ≡ (out-Typed t).children → (out-Typed t).node ≡ nodes.Isolated v
    → u ≡ v → one ≡ first + 1 → next ≡ one + length (own_trees u) → Passes first t next items
passes_isolated t u v items first one next k e same o n =
    started t items first next k
    (omega (arith, o, n, ap length (node_isolated t u (e ∙ ap nodes.Isolated (sym same)))))

pub passes_other : (t : Typed) (items : List Typed) (first next : ℕ) → items ≡ (out-Typed t).children
    → ((u : Typed) → (out-Typed t).node ≡ nodes.Isolated u → ⊥) → next ≡ first → Passes first t next items
passes_other t items first next k f n = started t items first next k (omega (arith, n, ap length (node_other t f)))

pub passes_next : (t x : Typed) (items rest : List Typed) (first next after : ℕ) → items ≡ x ∷ rest → after ≡ next + length (own_trees x)
    → Passes first t next items → Passes first t after rest
passes_next t x items rest first next after e a h =
    omega (
      arith,
      a,
      h,
      ap (λ (ts : List Typed). length (flat_map own_trees ts)) e ∙ length-append (own_trees x) (flat_map own_trees rest),
    )

-- ---- the nodes of a tree
-- those so far have the numbers of these trees, behind which come the own trees of the operands that are left
abbrev pub OwnSoFar : Typed → (from : ℕ) → List NodeInfo → (low high : ℕ) → List Typed → Type 0
OwnSoFar t from new low high left = (ts : List Typed) × (ts ++ flat_map own_trees left ≡ own_trees t) × AreOwned from ts new low high

slice_get-behind : {A : Type 0} (xs ys : List A) (n : ℕ) → slice_get (xs ++ ys) (length xs + n) ≡ slice_get ys n
slice_get-behind [] ys n = ap (slice_get ys) (omega arith)
slice_get-behind (x ∷ xs) ys n =
    let e : length (x ∷ xs) + n ≡ suc (length xs + n) = omega arith in ap (slice_get ((x ∷ xs) ++ ys)) e ∙ slice_get-behind xs ys n

-- a node behind those that were there
pub own_begun : (number : ℕ) (old new : List NodeInfo) (x : NodeInfo) (t : Typed) (items : List Typed) (low high : ℕ) → number ≡ length old
    → new ≡ old ++ x ∷ [] → x.tree.now ≡ t → x.initializer ≡ low → high ≡ low + length (trees_at t) → items ≡ (out-Typed t).children
    → OwnSoFar t number new low high items
own_begun number old new x t items low high a e p i o k =
    let count : length new ≡ suc number = ap length e ∙ omega (arith, length-append old (x ∷ []), a) in
    let here : slice_get new number ≡ Some x = ap (λ z. slice_get z number) e ∙ ap (slice_get (old ++ x ∷ [])) a ∙ slice_get-seam old x [] in (
      trees_at t,
      ap (λ ts. trees_at t ++ flat_map own_trees ts) k ∙ sym (own_split t),
      record {
        each = λ n y tree l h isolated.
            let last : n ≡ number = omega (arith, slice_get_within new n y h, l, count) in
            let same : y ≡ x = same_some (slice_get new number) y x (ap (slice_get new) (sym last) ∙ h) here in
            let top : trees_at t ≡ full_trees tree =
            ap (λ (u : Typed). trees_at u) (sym p)
            ∙ (ap (λ (z : NodeInfo). trees_at z.tree.now) (sym same) ∙ ap trees_of_node isolated) in (
              zero,
              ap (λ (ts : List Typed). slice_get ts zero) top,
              omega (arith, ap (λ (z : NodeInfo). z.initializer) same, i),
            );
        count = o;
      },
    )

-- the nodes of an operand behind these
pub own_more : (number : ℕ) (t child : Typed) (new newer : List NodeInfo) (left rest : List Typed) (low mid high : ℕ) → left ≡ child ∷ rest
    → AreKept new newer → OwnSoFar t number new low mid left → AreOwned (length new) (own_trees child) newer mid high
    → OwnSoFar t number newer low high rest
own_more number t child new newer left rest low mid high e kept h o =
    let ts = h.0 in
    let a = h.2 in (
      ts ++ own_trees child,
      append_assoc ts (own_trees child) (flat_map own_trees rest) ∙ (ap (λ z. ts ++ flat_map own_trees z) (sym e) ∙ h.1),
      record {
        each = λ n x tree l found isolated. elim (by_place n (length new)) [
          | inl i ↦
              let r = a.each n x tree l (there new newer n x kept i found) isolated in
              (r.0, slice_get-front ts (own_trees child) r.0 tree r.1, r.2)
          | inr i ↦
              let r = o.each n x tree i found isolated in
              (length ts + r.0, slice_get-behind ts (own_trees child) r.0 ∙ r.1, omega (arith, r.2, a.count))
        ];
        count = omega (arith, o.count, a.count, length-append ts (own_trees child));
      },
    )

-- what a node of the one list is in the other, but for the number behind it
abbrev SeenIn : List NodeInfo → ℕ → NodeInfo → Type 0
SeenIn new n x = (y : NodeInfo) × (slice_get new n ≡ Some y) × (x.tree.now ≡ y.tree.now) × (x.initializer ≡ y.initializer)

pub own_all : (number : ℕ) (t : Typed) (old new end : List NodeInfo) (left : List Typed) (last top : NodeInfo) (low high : ℕ) → number ≡ length old
    → end ≡ set new number last → last.tree.now ≡ top.tree.now → last.initializer ≡ top.initializer → slice_get new number ≡ Some top → left ≡ []
    → OwnSoFar t number new low high left → AreOwned (length old) (own_trees t) end low high
own_all number t old new end left last top low high a e tree initializer at none h =
    let seen : (n : ℕ) (x : NodeInfo) → slice_get end n ≡ Some x → SeenIn new n x = λ n x g. elim (by_number n number) [
      | inl q ↦
          let here : slice_get end number ≡ Some last = ap (λ z. slice_get z number) e ∙ slice_get-set new number last top at in
          let same : x ≡ last = same_some (slice_get end number) x last (ap (slice_get end) (sym q) ∙ g) here in
          (top, ap (slice_get new) q ∙ at, ap (λ (z : NodeInfo). z.tree.now) same ∙ tree, ap (λ (z : NodeInfo). z.initializer) same ∙ initializer)
      | inr q ↦ (x, sym (ap (λ z. slice_get z n) e ∙ slice_get-set_other new number n last q) ∙ g, refl, refl)
    ] in
    let whole : h.0 ≡ own_trees t = sym (append-nil h.0) ∙ (ap (λ z. h.0 ++ flat_map own_trees z) (sym none) ∙ h.1) in
    subst (λ ts. AreOwned (length old) ts end low high) whole (record {
      each = λ n x u l g isolated.
          let s = seen n x g in
          let r = h.2.each n s.0 u (omega (arith, l, a)) s.1
          (ap (λ (z : Typed). out-Node (out-Typed z).node) (sym s.2) ∙ isolated) in
          (r.0, r.1, s.3 ∙ r.2);
      count = h.2.count;
    })

-- so the isolated initializers of a full expression have their numbers
pub numbers_had : (first next : ℕ) (ts : List Typed) (none new : List NodeInfo) → none ≡ [] → AreOwned (length none) ts new first next
    → HaveNumbers first ts new
numbers_had first next ts none new e h = λ n x tree at isolated. h.each n x tree (omega (arith, ap length e)) at isolated
