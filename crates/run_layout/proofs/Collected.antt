-- What is noted of nodes as a tree is gone through.
use Rattle.std.proofs.Common.{
  arith,
  ◌≡◌,
  ◌<◌,
  ◌≤◌,
  ◌+◌,
  ◌⊎◌,
  inl,
  inr,
  ℕ,
  zero,
  suc,
  List,
  [],
  ◌∷◌,
  ◌++◌,
  length,
  drop,
  Option,
  Some,
  None,
  slice_get,
  refl,
  sym,
  ap,
  subst,
  ◌∙◌,
  length-append,
}
use Rattle.std.proofs.Math.ListN.{get_or, set}
use Rattle.std.proofs.Math.Seq.{get_or-append_seam}
use Rattle.std.proofs.lemmas.List.{length-set}
use Rattle.std.proofs.lemmas.Option.{slice_get_within, slice_get-get_or}
use Rattle.c_typed.specs.declared.tree.Typed.{Typed, out-Typed, fold_out-Typed}
use Rattle.c_typed.specs.declared.class.Class.{Class}
use Rattle.c_typed.specs.Tree.{Tree, Trees, tree_of, trees_of, node_class, typed_tree, size, sizes}
use Rattle.run_layout.specs.declared.nodes.NodeInfo.{NodeInfo}
use Rattle.run_layout.specs.Resolved.{resolved}
use Rattle.run_layout.specs.Numbered.{IsAt, AreBelow, IsNode, AreKept, AreAdded, AreNodes}

pub slice_get-front : {A : Type 0} (xs ys : List A) (n : ℕ) (x : A) → slice_get xs n ≡ Some x → slice_get (xs ++ ys) n ≡ Some x
slice_get-front [] ys zero x h = absurd (cc)
slice_get-front [] ys (suc n) x h = absurd (cc)
slice_get-front (y ∷ xs) ys zero x h = h
slice_get-front (y ∷ xs) ys (suc n) x h = slice_get-front xs ys n x h

pub slice_get-seam : {A : Type 0} (xs : List A) (y : A) (ys : List A) → slice_get (xs ++ y ∷ ys) (length xs) ≡ Some y
slice_get-seam xs y ys =
    slice_get-get_or (xs ++ y ∷ ys) (length xs) y (omega (arith, length-append xs (y ∷ ys))) ∙ ap Some (get_or-append_seam xs y ys y)

pub slice_get-set_other : {A : Type 0} (xs : List A) (i n : ℕ) (a : A) → (n ≡ i → ⊥) → slice_get (set xs i a) n ≡ slice_get xs n
slice_get-set_other [] i n a h = refl
slice_get-set_other (x ∷ xs) zero zero a h = absurd (h refl)
slice_get-set_other (x ∷ xs) zero (suc n) a h = refl
slice_get-set_other (x ∷ xs) (suc i) zero a h = refl
slice_get-set_other (x ∷ xs) (suc i) (suc n) a h = slice_get-set_other xs i n a (λ e. h (ap suc e))

pub slice_get-set : {A : Type 0} (xs : List A) (i : ℕ) (a x : A) → slice_get xs i ≡ Some x → slice_get (set xs i a) i ≡ Some a
slice_get-set [] zero a x h = absurd (cc)
slice_get-set [] (suc i) a x h = absurd (cc)
slice_get-set (y ∷ xs) zero a x h = refl
slice_get-set (y ∷ xs) (suc i) a x h = slice_get-set xs i a x h

pub same_some : {A : Type 0} (o : Option A) (x y : A) → o ≡ Some x → o ≡ Some y → x ≡ y
same_some o x y e f = cc

-- what was there from this number on is there as before
abbrev pub KeptFrom : ℕ → List NodeInfo → List NodeInfo → Type 0
KeptFrom k old new = (n : ℕ) (x : NodeInfo) → k ≤ n → slice_get old n ≡ Some x → slice_get new n ≡ Some x

pub at_kept : (k : ℕ) (xs ys : List NodeInfo) (n : ℕ) (parent : Option ℕ) (t : Typed) → KeptFrom k xs ys → k ≤ n → IsAt xs n parent t → IsAt ys n parent t
at_kept k xs ys n parent t h l a = (a.0, h n a.0 l a.1, a.2, a.3)

pub below_kept : (k : ℕ) (xs ys : List NodeInfo) (parent m : ℕ) (ts : List Typed) → KeptFrom k xs ys → k ≤ m → AreBelow xs parent m ts →
    AreBelow ys parent m ts
below_kept k xs ys parent m [] h l b = tt
below_kept k xs ys parent m (t ∷ ts) h l b =
    (at_kept k xs ys m (Some parent) t h l b.0, below_kept k xs ys parent (m + size (tree_of t)) ts h (omega (arith, l)) b.1)

node_kept : (firsts : List ℕ) (k : ℕ) (xs ys : List NodeInfo) (n : ℕ) (x : NodeInfo) → KeptFrom k xs ys → k ≤ suc n → IsNode firsts xs n x →
    IsNode firsts ys n x
node_kept firsts k xs ys n x h l d = record {
  operand = d.operand;
  next = d.next;
  below = below_kept k xs ys n (suc n) (out-Typed x.tree.now).children h l d.below;
}

pub size_of : (t : Typed) → size (tree_of t) ≡ suc (sizes (trees_of (out-Typed t).children))
size_of t = ap size (fold_out-Typed (Trees → Class) Tree node_class typed_tree t)

-- between two operands of a tree: what was noted so far, of which all but the operands that are left is so
pub record Between (firsts : List ℕ) (parent : Option ℕ) (t : Typed) (number : ℕ) (old new : List NodeInfo) (left : List Typed) : Type 0 where
  pub at : number ≡ length old
  pub kept : AreKept old new
  pub top : (x : NodeInfo) × (slice_get new number ≡ Some x) × (x.tree.now ≡ t) × (x.parent ≡ parent) × (x.operand ≡ resolved firsts t number)
  pub each : (n : ℕ) (x : NodeInfo) → number < n → slice_get new n ≡ Some x → IsNode firsts new n x
  pub count : length new + sizes (trees_of left) ≡ number + size (tree_of t)
  pub below : (end : List NodeInfo) → KeptFrom (suc number) new end → AreBelow end number (length new) left →
      AreBelow end number (suc number) (out-Typed t).children

pub begun : (firsts : List ℕ) (parent : Option ℕ) (t : Typed) (number : ℕ) (old new : List NodeInfo) (x : NodeInfo) → number ≡ length old → new ≡ old ++ x ∷ []
    → x.tree.now ≡ t → x.parent ≡ parent → x.operand ≡ resolved firsts t number → Between firsts parent t number old new (out-Typed t).children
begun firsts parent t number old new x a e p q r =
    let count : length new ≡ suc number = ap length e ∙ omega (arith, length-append old (x ∷ []), a) in
    record {
      at = a;
      kept = λ n y h. ap (λ z. slice_get z n) e ∙ slice_get-front old (x ∷ []) n y h;
      top = (x, ap (λ z. slice_get z number) e ∙ ap (slice_get (old ++ x ∷ [])) a ∙ slice_get-seam old x [], p, q, r);
      each = λ n y l h. absurd (omega (arith, slice_get_within new n y h, l, count));
      count = omega (arith, count, size_of t);
      below = λ end k b. subst (λ m. AreBelow end number m (out-Typed t).children) count b;
    }

-- an entry of a list that was there is the one that was there
pub there : (xs ys : List NodeInfo) (n : ℕ) (y : NodeInfo) → AreKept xs ys → n < length xs → slice_get ys n ≡ Some y → slice_get xs n ≡ Some y
there xs ys n y k l h =
    let at = slice_get-get_or xs n y l in
    at ∙ ap Some (same_some (slice_get ys n) (get_or xs n y) y (k n (get_or xs n y) at) h)

pub by_place : (n m : ℕ) → (n < m) ⊎ (m ≤ n)
by_place zero zero = inr (omega arith)
by_place zero (suc m) = inl (omega arith)
by_place (suc n) zero = inr (omega arith)
by_place (suc n) (suc m) = elim (by_place n m) [ inl l ↦ inl (omega (arith, l)) | inr l ↦ inr (omega (arith, l)) ]

pub by_number : (n m : ℕ) → (n ≡ m) ⊎ (n ≡ m → ⊥)
by_number n m = elim (by_place n m) [
  | inl l ↦ inr (λ e. absurd (omega (arith, l, e)))
  | inr l ↦ (elim (by_place m n) [ inl k ↦ inr (λ e. absurd (omega (arith, k, e))) | inr k ↦ inl (omega (arith, l, k)) ])
]

pub more_collected : (firsts : List ℕ) (parent : Option ℕ) (t : Typed) (number : ℕ) (old new newer : List NodeInfo) (child : Typed) (left rest : List Typed)
    → left ≡ child ∷ rest → Between firsts parent t number old new left → AreAdded firsts (Some number) child new newer
    → Between firsts parent t number old newer rest
more_collected firsts parent t number old new newer child left rest e b a =
    let inside : number < length new = slice_get_within new number b.top.0 b.top.1 in
    let from : KeptFrom (suc number) new newer = λ n x l h. a.kept n x h in
    let count : length new + (size (tree_of child) + sizes (trees_of rest)) ≡ number + size (tree_of t) =
    ap (λ ts. length new + sizes (trees_of ts)) (sym e) ∙ b.count in
    record {
      at = b.at;
      kept = λ n x h. a.kept n x (b.kept n x h);
      top = (b.top.0, a.kept number b.top.0 b.top.1, b.top.2, b.top.3, b.top.4);
      each = λ n x l h. elim (by_place n (length new)) [
        | inl i ↦ node_kept firsts (suc number) new newer n x from (omega (arith, l)) (b.each n x l (there new newer n x a.kept i h))
        | inr o ↦ a.each n x o h
      ];
      count = omega (arith, a.count, count);
      below = λ end k c. b.below end (λ n x l h. k n x l (a.kept n x h))
          (subst (AreBelow end number (length new)) (sym e) (
            at_kept (suc number) newer end (length new) (Some number) child k (omega (arith, inside)) a.top,
            subst (λ m. AreBelow end number m rest) a.count c,
          ));
    }

pub collected : (firsts : List ℕ) (parent : Option ℕ) (t : Typed) (number : ℕ) (old new end : List NodeInfo) (left : List Typed) (last : NodeInfo)
    → left ≡ [] → Between firsts parent t number old new left → end ≡ set new number last
    → ((x : NodeInfo) → slice_get new number ≡ Some x → last ≡ record x { next = length new })
    → AreAdded firsts parent t old end
collected firsts parent t number old new end left last e b s f =
    let is : last ≡ record b.top.0 { next = length new } = f b.top.0 b.top.1 in
    let other : (n : ℕ) → (n ≡ number → ⊥) → slice_get end n ≡ slice_get new n = λ n h. ap (λ z. slice_get z n) s ∙ slice_get-set_other new number n last h in
    let here : slice_get end number ≡ Some last = ap (λ z. slice_get z number) s ∙ slice_get-set new number last b.top.0 b.top.1 in
    let from : KeptFrom (suc number) new end = λ n x l h. other n (λ q. absurd (omega (arith, l, q))) ∙ h in
    let count : length new ≡ number + size (tree_of t) = omega (arith, b.count, ap (λ ts. sizes (trees_of ts)) e) in
    let below : AreBelow end number (suc number) (out-Typed t).children = b.below end from (subst (AreBelow end number (length new)) (sym e) tt) in
    let tree : last.tree.now ≡ t = ap (λ x. x.tree.now) is ∙ b.top.2 in
    let own : IsNode firsts end number last = record {
      operand = ap (λ x. x.operand) is ∙ b.top.4 ∙ ap (λ u. resolved firsts u number) (sym tree);
      next = ap (λ x. x.next) is ∙ count ∙ ap (λ u. number + size (tree_of u)) (sym tree);
      below = subst (λ u. AreBelow end number (suc number) (out-Typed u).children) (sym tree) below;
    } in
    record {
      kept = λ n x h. other n (λ q. absurd (omega (arith, slice_get_within old n x h, q, b.at))) ∙ b.kept n x h;
      count = omega (arith, ap length s, length-set new number last, count, b.at);
      top = subst (λ n. IsAt end n parent t) b.at (last, here, tree, ap (λ x. x.parent) is ∙ b.top.3);
      each = λ n x l h. elim (by_number n number) [
        | inl q ↦ rw (same_some (slice_get end number) x last (ap (slice_get end) (sym q) ∙ h) here, q) own
        | inr q ↦ node_kept firsts (suc number) new end n x from (omega (arith, l, b.at)) (b.each n x (omega (arith, l, q, b.at)) (sym (other n q) ∙ h))
      ];
    }

pub drop_past : {A : Type 0} (xs : List A) (i : ℕ) → length xs ≤ i → drop i xs ≡ []
drop_past [] zero l = refl
drop_past [] (suc i) l = refl
drop_past (x ∷ xs) zero l = absurd (omega (arith, l))
drop_past (x ∷ xs) (suc i) l = drop_past xs i (omega (arith, l))

pub relabelled : (x y : NodeInfo) (n m : ℕ) → x ≡ y → n ≡ m → record x { next = n } ≡ record y { next = m }
relabelled x y n m e f = ap (λ (z : NodeInfo). record z { next = n }) e ∙ ap (λ (k : ℕ). record y { next = k }) f

-- those of a tree to which none came before
pub nodes_added : (firsts : List ℕ) (t : Typed) (new : List NodeInfo) → AreAdded firsts None t [] new → AreNodes firsts t new
nodes_added firsts t new a = record {
  count = omega (arith, a.count);
  top = a.top;
  each = λ n x h. a.each n x (omega arith) h;
}
