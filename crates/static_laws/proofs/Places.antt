-- A fixed place names an object and an offset, which is the site of the model's expression.
use Rattle.std.proofs.Common.{◌≡◌, ℕ, suc, ◌+◌, ◌-◌, ◌*◌, ◌≤◌, Bool, true, false, ◌&&◌, nat_lt, if◌then◌else◌, List, [], ◌∷◌, ◌++◌, map}
use Rattle.std.proofs.Common.{Option, Some, None, refl, sym, ap, ◌∙◌, subst, arith, true≢false}
use Rattle.std.proofs.lemmas.Bool.Decides.{nat_tests}
use Rattle.std.proofs.lemmas.Int.{ints}
use Rattle.std.specs.Prelude.{◌^◌, ◌==◌, nat_le, ℤ, pos, negsuc, ◌+ℤ◌, neg_ℤ, unsigned_abs}
use Rattle.ub_base.specs.declared.names.ObjName.{ObjName}
use Rattle.ub_base.specs.declared.names.ObjName.TheVariants as object
use Rattle.c_types.specs.Types.{CType}
use Rattle.c_typed.specs.declared.tree.Node.{Node, fold-Node, fold-roll-Node, map-Node, out-Node, roll-out-Node}
use Rattle.c_typed.specs.declared.tree.Node.TheOpen as shape
use Rattle.c_typed.specs.declared.tree.Node.TheOpen.{Node-F}
use Rattle.c_typed.specs.declared.tree.Typed.{Typed, out-Typed, fold_out-Typed}
use Rattle.c_typed.specs.declared.program.Program.{Program}
use Rattle.c_typed.specs.Tree.{tree_of, trees_of, size, sizes}
use Rattle.c_model.specs.Program as model
use Rattle.c_model.specs.Program.{Head, Expr, expr, Exprs}
use Rattle.c_model.specs.World.{World}
use Rattle.c_model.specs.Steps.{Scene, name_of}
use Rattle.c_model.specs.Nodes.{distance}
use Rattle.c_model.proofs.Ranks.{and_l, and_r, if_true}
use Rattle.static_places.specs.declared.places.FixedBase.{FixedBase}
use Rattle.static_places.specs.declared.places.FixedBase.TheVariants as base
use Rattle.static_places.specs.Preorder.{joined, nodes_of}
use Rattle.static_places.specs.Fixed.{Spot, Shown, node_shown, typed_shown, shown, fixed_place, moved, stepped, stepped_in, indexed, magnitude, is_below}
use Rattle.static_places.specs.Fixed.{opposite, small_magnitude, size_of_base}
use Rattle.static_places.proofs.Preordered.{nodes_at}
use Rattle.program_view.specs.Trees.{is_pointer, expr_of, exprs_of}
use Rattle.static_laws.specs.Low.{is_low, all_low}
use Rattle.static_laws.proofs.Reach.{Site}
use Rattle.static_laws.proofs.Sites.{low, on_by, at_int, along, number_in, site_of}
use Rattle.program_view.proofs.Seen.{node_in, operands_in, own_type, head_in, expr_at, by_size}

-- numbers with a sign
minus : (o q : ℕ) → q ≤ o → pos o +ℤ neg_ℤ (pos q) ≡ pos (o - q)
minus o q h = omega (arith, ints, h)

plus_back : (o q : ℕ) → pos o +ℤ neg_ℤ (neg_ℤ (pos q)) ≡ pos (o + q)
plus_back o q = omega (arith, ints)

-- the sum by a constant index
moves_back : (size : ℕ) (subtract : Bool) (z : ℤ) (o : ℕ) → opposite subtract (is_below z) ≡ true → magnitude z * size ≤ o
    → pos o +ℤ distance size subtract z ≡ pos (o - magnitude z * size)
moves_back size true (pos n) o e h = minus o (n * size) h
moves_back size false (negsuc n) o e h = minus o (suc n * size) h
moves_back size true (negsuc n) o e h = absurd (true≢false (sym e))
moves_back size false (pos n) o e h = absurd (true≢false (sym e))

moves_on : (size : ℕ) (subtract : Bool) (z : ℤ) (o : ℕ) → opposite subtract (is_below z) ≡ false
    → pos o +ℤ distance size subtract z ≡ pos (o + magnitude z * size)
moves_on size true (negsuc n) o e = plus_back o (suc n * size)
moves_on size false (pos n) o e = refl
moves_on size true (pos n) o e = absurd (true≢false e)
moves_on size false (negsuc n) o e = absurd (true≢false e)

zero_is : (z : ℤ) → (unsigned_abs z == 0) ≡ true → z ≡ pos 0
zero_is (pos n) h = (let e : n ≡ 0 = grind (arith, nat_tests, h) in ap pos e)
zero_is (negsuc n) h = absurd (grind (arith, nat_tests, h))

some_is : {A : Type 0} → (a b : A) → Some a ≡ Some b → a ≡ b
some_is a b h = cc

module _ (p : Program) (function : ℕ) where
  abbrev shown_fold : Node → List Shown → Shown
  shown_fold = fold-Node (List Shown → Shown) Shown (node_shown p function) typed_shown

  abbrev shown_in : Node-F Node Typed → List Typed → Shown
  shown_in d cs = node_shown p function (map-Node Node Typed (List Shown → Shown) Shown shown_fold (shown p function) d) (map (shown p function) cs)

  shown_at : (t : Typed) → shown p function t ≡ shown_in (node_in t) (operands_in t)
  shown_at t =
      let n = (out-Typed t).node in
      let cs = map (shown p function) (operands_in t) in
      fold_out-Typed (List Shown → Shown) Shown (node_shown p function) typed_shown t
      ∙ (ap (λ z. shown_fold z cs) (sym (roll-out-Node n))
      ∙ ap (λ (g : List Shown → Shown). g cs) (fold-roll-Node (List Shown → Shown) Shown (node_shown p function) typed_shown (out-Node n)))

  constant_in_head : (d : Node-F Node Typed) (cs : List Typed) (ty : CType) (line : ℕ) (es : Exprs) (z : ℤ) → (shown_in d cs).constant ≡ Some z
      → number_in (expr (head_in d ty) ty line es) ≡ Some z
  constant_in_head (shape.Const y) cs ty line es z h = go (is_pointer ty) (unsigned_abs y == 0) refl (some_is y z h)
    where
      go : (b c : Bool) → (unsigned_abs y == 0) ≡ c → y ≡ z → number_in (expr (if b && c then model.Null else model.Number y) ty line es) ≡ Some z
      go true true e k = ap Some (sym (zero_is y e) ∙ k)
      go true false e k = ap Some k
      go false c e k = ap Some k
  constant_in_head _ cs ty line es z h = absurd (cc)

  number_seen : (t : Typed) (z : ℤ) → (shown p function t).constant ≡ Some z → number_in (expr_of t) ≡ Some z
  number_seen t z h =
      ap number_in (expr_at t)
      ∙ constant_in_head (node_in t) (operands_in t) (own_type t) (out-Typed t).line (exprs_of (operands_in t)) z (sym (ap (λ s. s.constant) (shown_at t)) ∙ h)

  module _ (world : World) (f : Scene) where
    abbrev pub base_name : FixedBase → ObjName
    base_name (base.Slot slot) = name_of world f slot
    base_name (base.Literal k) = object.Lit k

    abbrev pub site_in : Spot → Site
    site_in s = (base_name s.0, s.1)

    abbrev pub SiteOf : Typed → Type 0
    SiteOf t = (s : Spot) → fixed_place p function t ≡ Some s → site_of world f (expr_of t) ≡ Some (site_in s)

    -- of the first operand, where there is one
    abbrev FirstOf : List Typed → Type 0
    FirstOf [] = Unit {0}
    FirstOf (c ∷ cs) = SiteOf c

    low_site : (x : ObjName) (n : ℕ) (s : Spot) → nat_lt s.1 (2 ^ 63) ≡ true → ◌≡◌ {A = Site} (x, n) (site_in s) → low (x, n) ≡ Some (site_in s)
    low_site x n s l e = ap low e ∙ if_true (nat_lt s.1 (2 ^ 63)) _ _ l

    member_by : (offset : ℕ) (c : Typed) (o : Option Spot) (s : Spot) → nat_lt s.1 (2 ^ 63) ≡ true → fixed_place p function c ≡ o → SiteOf c
        → moved offset o ≡ Some s → on_by offset (site_of world f (expr_of c)) ≡ Some (site_in s)
    member_by offset c None s l e k h = absurd (cc)
    member_by offset c (Some t) s l e k h = go (nat_lt (t.1 + offset) (2 ^ 64)) h
      where
        go : (b : Bool) → ◌≡◌ {A = Option Spot} (if b then Some (t.0, t.1 + offset) else None) (Some s) →
            on_by offset (site_of world f (expr_of c)) ≡ Some (site_in s)
        go true h =
            ap (on_by offset) (k t e)
            ∙ low_site (base_name t.0) (t.1 + offset) s l (ap site_in (some_is {A = Spot} (t.0, t.1 + offset) s h))
        go false h = absurd (cc)

    stepped_by : (size : ℕ) (subtract : Bool) (z : ℤ) (t s : Spot) (m : ℕ) (back : Bool) → opposite subtract (is_below z) ≡ back
        → nat_lt s.1 (2 ^ 63) ≡ true → stepped m back (magnitude z * size) t ≡ Some s
        → at_int (base_name t.0) (pos t.1 +ℤ distance size subtract z) ≡ Some (site_in s)
    stepped_by size subtract z t s m true e l h = go (nat_le (magnitude z * size) t.1) (nat_le (t.1 - magnitude z * size) m) refl h
      where
        go : (a b : Bool) → nat_le (magnitude z * size) t.1 ≡ a → ◌≡◌ {A = Option Spot} (if a && b then Some (t.0, t.1 - magnitude z * size) else None) (Some s)
            → at_int (base_name t.0) (pos t.1 +ℤ distance size subtract z) ≡ Some (site_in s)
        go true true q h =
            ap (at_int (base_name t.0)) (moves_back size subtract z t.1 e (grind (arith, nat_tests, q)))
            ∙ low_site (base_name t.0) (t.1 - magnitude z * size) s l (ap site_in (some_is {A = Spot} (t.0, t.1 - magnitude z * size) s h))
        go true false q h = absurd (cc)
        go false b q h = absurd (cc)
    stepped_by size subtract z t s m false e l h = go (nat_le (t.1 + magnitude z * size) m) h
      where
        go : (a : Bool) → ◌≡◌ {A = Option Spot} (if a then Some (t.0, t.1 + magnitude z * size) else None) (Some s)
            → at_int (base_name t.0) (pos t.1 +ℤ distance size subtract z) ≡ Some (site_in s)
        go true h =
            ap (at_int (base_name t.0)) (moves_on size subtract z t.1 e)
            ∙ low_site (base_name t.0) (t.1 + magnitude z * size) s l (ap site_in (some_is {A = Spot} (t.0, t.1 + magnitude z * size) s h))
        go false h = absurd (cc)

    stepped_when : (size : ℕ) (subtract : Bool) (z : ℤ) (t s : Spot) (count m : Option ℕ) → nat_lt s.1 (2 ^ 63) ≡ true
        → ((n : ℕ) → count ≡ Some n → n ≡ magnitude z) → stepped_in count m (opposite subtract (is_below z)) size t ≡ Some s
        → at_int (base_name t.0) (pos t.1 +ℤ distance size subtract z) ≡ Some (site_in s)
    stepped_when size subtract z t s None m l k h = absurd (cc)
    stepped_when size subtract z t s (Some n) None l k h = absurd (cc)
    stepped_when size subtract z t s (Some n) (Some m) l k h =
        stepped_by size subtract z t s m (opposite subtract (is_below z)) refl l
        (subst (λ c. stepped m (opposite subtract (is_below z)) (c * size) t ≡ Some s) (k n refl) h)

    small_is : (z : ℤ) (n : ℕ) → small_magnitude z ≡ Some n → n ≡ magnitude z
    small_is z n h = go (nat_le (magnitude z) (2 ^ 40)) h
      where
        go : (b : Bool) → (if b then Some (magnitude z) else None) ≡ Some n → n ≡ magnitude z
        go true h = sym (some_is (magnitude z) n h)
        go false h = absurd (cc)

    sum_by : (size : ℕ) (subtract : Bool) (c b : Typed) (o : Option Spot) (i : Option ℤ) (s : Spot) → nat_lt s.1 (2 ^ 63) ≡ true
        → fixed_place p function c ≡ o → SiteOf c → (shown p function b).constant ≡ i → indexed p function size subtract o i ≡ Some s
        → along size subtract (site_of world f (expr_of c)) (number_in (expr_of b)) ≡ Some (site_in s)
    sum_by size subtract c b None i s l e k g h = absurd (cc)
    sum_by size subtract c b (Some t) None s l e k g h = absurd (cc)
    sum_by size subtract c b (Some t) (Some z) s l e k g h =
        ap (λ q. along size subtract q (number_in (expr_of b))) (k t e)
        ∙ (ap (along size subtract (Some (site_in t))) (number_seen b z g)
        ∙ stepped_when size subtract z t s (small_magnitude z) (size_of_base p function t.0) l (small_is z) h)

    by_node : (d : Node-F Node Typed) (cs : List Typed) (ty : CType) (line : ℕ) (s : Spot) → nat_lt s.1 (2 ^ 63) ≡ true → FirstOf cs
        → (shown_in d cs).spot ≡ Some s → site_of world f (expr (head_in d ty) ty line (exprs_of cs)) ≡ Some (site_in s)
    by_node (shape.Obj slot) cs ty line s l k h = ap (λ z. Some (site_in z)) (some_is {A = Spot} (base.Slot slot, 0) s h)
    by_node (shape.Str n) cs ty line s l k h = ap (λ z. Some (site_in z)) (some_is {A = Spot} (base.Literal n, 0) s h)
    by_node (shape.Member offset) [] ty line s l k h = absurd (cc)
    by_node (shape.Member offset) (c ∷ cs) ty line s l k h = member_by offset c (fixed_place p function c) s l refl k h
    by_node (shape.PtrAdd size subtract) [] ty line s l k h = absurd (cc)
    by_node (shape.PtrAdd size subtract) (c ∷ []) ty line s l k h = absurd (no_index (fixed_place p function c) h)
      where
        no_index : (o : Option Spot) → indexed p function size subtract o None ≡ Some s → ⊥
        no_index None h = cc
        no_index (Some t) h = cc
    by_node (shape.PtrAdd size subtract) (c ∷ b ∷ cs) ty line s l k h =
        sum_by size subtract c b (fixed_place p function c) (shown p function b).constant s l refl k refl h
    by_node _ cs ty line s l k h = absurd (cc)

    is_low_of : (o : Option Spot) (s : Spot) → is_low o ≡ true → o ≡ Some s → nat_lt s.1 (2 ^ 63) ≡ true
    is_low_of None s h e = absurd (cc)
    is_low_of (Some t) s h e = subst (λ z. nat_lt z.1 (2 ^ 63) ≡ true) (some_is {A = Spot} t s e) h

    low_left : (xs ys : List Typed) → all_low p function (xs ++ ys) ≡ true → all_low p function xs ≡ true
    low_left [] ys h = refl
    low_left (x ∷ xs) ys h = and_both (is_low (fixed_place p function x)) _ (and_l _ _ h) (low_left xs ys (and_r (is_low (fixed_place p function x)) _ h))
      where
        and_both : (a b : Bool) → a ≡ true → b ≡ true → (a && b) ≡ true
        and_both true b h k = k
        and_both false b h k = h

    pub low_right : (xs ys : List Typed) → all_low p function (xs ++ ys) ≡ true → all_low p function ys ≡ true
    low_right [] ys h = h
    low_right (x ∷ xs) ys h = low_right xs ys (and_r (is_low (fixed_place p function x)) _ h)

    first_of : (n : ℕ) → ((u : Typed) → size (tree_of u) ≤ n → all_low p function (nodes_of u) ≡ true → SiteOf u) → (cs : List Typed) → sizes (trees_of cs) ≤ n
        → all_low p function (joined (map nodes_of cs)) ≡ true → FirstOf cs
    first_of n f [] l h = tt
    first_of n f (c ∷ cs) l h = f c (omega (arith, l)) (low_left (nodes_of c) (joined (map nodes_of cs)) h)

    -- a tree whose nodes are low
    pub site_is : (t : Typed) → all_low p function (nodes_of t) ≡ true → SiteOf t
    site_is = by_size (λ t. all_low p function (nodes_of t) ≡ true → SiteOf t) (λ t g lo s h.
        let lo2 = subst (λ z. all_low p function z ≡ true) (nodes_at t) lo in
        ap (site_of world f) (expr_at t)
        ∙ by_node (node_in t) (operands_in t) (own_type t) (out-Typed t).line s (is_low_of (fixed_place p function t) s (and_l _ _ lo2) h)
        (first_of (sizes (trees_of (operands_in t))) g (operands_in t) (omega arith) (and_r (is_low (fixed_place p function t)) _ lo2))
        (sym (ap (λ z. z.spot) (shown_at t)) ∙ h))
