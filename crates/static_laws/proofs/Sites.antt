-- What a fixed place gives: a pointer to one object at one offset, wherever in a run of its full expression it is asked.
use Rattle.std.proofs.Common.{◌≡◌, ℕ, suc, ◌+◌, ◌<◌, ◌≤◌, Bool, true, false, nat_lt, if◌then◌else◌, Option, Some, None}
use Rattle.std.proofs.Common.{refl, sym, ap, ◌∙◌, subst, ◌⊎◌, inl, inr, arith, true≢false, ap₂}
use Rattle.std.proofs.lemmas.Bool.Decides.{nat_tests}
use Rattle.std.proofs.lemmas.Int.{ints}
use Rattle.std.specs.Prelude.{◌==◌, ◌^◌, ℤ, pos, negsuc, ◌+ℤ◌, unsigned_abs}
use Rattle.ub_base.specs.declared.clause.Kind.TheVariants.{Val}
use Rattle.ub_base.specs.declared.clause.Clause.TheVariants.{InvalidPointer, OutOfBounds}
use Rattle.ub_base.specs.declared.names.Event.{Event}
use Rattle.ub_base.specs.declared.names.ObjName.{ObjName}
use Rattle.ub_base.specs.declared.names.ObjName.TheVariants as object
use Rattle.addr_map.specs.declared.map.Row.{Row}
use Rattle.addr_map.specs.Rows.{row_of}
use Rattle.exposure.specs.declared.prov.Prov.TheVariants as prov
use Rattle.c_types.specs.Types.{CType, function}
use Rattle.c_typed.specs.declared.class.Class.{Class}
use Rattle.c_typed.specs.declared.class.Class.TheVariants.{Object}
use Rattle.c_typed.specs.Tree.{size, sizes, class_of, is_quiet, is_quiet_class, member_class, first_class}
use Rattle.c_typed.specs.Order.{place}
use Rattle.c_typed.specs.declared.tree.Place.{Place}
use Rattle.mem_spec.specs.Script.{Script, Give, require, ◌>>=◌, ◌>>◌}
use Rattle.mem_spec.specs.Acts.{base_in, in_bounds}
use Rattle.c_model.specs.Program.{Head, Number, Null, Obj, Func, Str, Load, Conv, Un, Bin, PtrAdd, PtrDiff, Rel, Eq, Member, Part, Assign, Update, And, Or}
use Rattle.c_model.specs.Program.{Cond, Comma, Call, Listed, Isolated, Expr, expr, Exprs, none, more, tree_of, trees_of}
use Rattle.c_model.specs.Values.{Value, Ptr, Pointer, null, pointer_value, pointer_of, integer_of, value_at, or_nothing, address_after}
use Rattle.c_model.specs.World.{World}
use Rattle.c_model.specs.Nodes.{act_of, member, shifted, distance}
use Rattle.c_model.specs.Steps.{Scene, at_node, at_node_among, name_of, quiet_value, first_quiet, values_of, operand_values, pointer_to, null_of, target}
use Rattle.c_model.specs.Steps.{moved_place}
use Rattle.c_model.proofs.Ranks.{size_pos}
use Rattle.static_laws.proofs.Scripts.{Post, need}
use Rattle.static_laws.proofs.Reach.{Site, pointer_at, Points}
use Rattle.static_laws.proofs.Acts.{AreLow}

-- only offsets below 2^63 count, which no address passes the last one by
abbrev pub low : Site → Option Site
low s = if nat_lt s.1 (2 ^ 63) then Some s else None

abbrev pub on_by : ℕ → Option Site → Option Site
on_by offset None = None
on_by offset (Some s) = low (s.0, s.1 + offset)

abbrev pub at_int : ObjName → ℤ → Option Site
at_int x (pos n) = low (x, n)
at_int x (negsuc n) = None

abbrev pub along : ℕ → Bool → Option Site → Option ℤ → Option Site
along size subtract None z = None
along size subtract (Some s) None = None
along size subtract (Some s) (Some z) = at_int s.0 (pos s.1 +ℤ distance size subtract z)

abbrev pub number_in : Expr → Option ℤ
number_in (expr (Number z) ty line es) = Some z
number_in (expr Null ty line es) = Some (pos 0)
number_in e = None

abbrev pub second_number : Exprs → Option ℤ
second_number (more a (more b es)) = number_in b
second_number es = None

module _ (world : World) where
  abbrev mutual
    pub site_of : Scene → Expr → Option Site
    site_of f (expr (Obj s) ty line es) = Some (name_of world f s, 0)
    site_of f (expr (Str k) ty line es) = Some (object.Lit k, 0)
    site_of f (expr (Member offset) ty line es) = on_by offset (first_site f es)
    site_of f (expr (PtrAdd size subtract) ty line es) = along size subtract (first_site f es) (second_number es)
    site_of f e = None

    pub first_site : Scene → Exprs → Option Site
    first_site f none = None
    first_site f (more e es) = site_of f e

  abbrev pub at : Site → Value
  at s = pointer_value (pointer_at world.rows s)

  low_is : (s t : Site) → low s ≡ Some t → (s ≡ t) × (s.1 < 2 ^ 63)
  low_is s t h = go (nat_lt s.1 (2 ^ 63)) refl h
    where
      go : (b : Bool) → nat_lt s.1 (2 ^ 63) ≡ b → (if b then Some s else None) ≡ Some t → (s ≡ t) × (s.1 < 2 ^ 63)
      go true e h = ((let k : s ≡ t = cc in k), grind (arith, nat_tests, e))
      go false e h = absurd (cc)

  base_low : AreLow world.rows → (x : ObjName) → base_in (row_of world.rows x) ≤ 2 ^ 47
  base_low lo x = go (row_of world.rows x) (lo x)
    where
      go : (o : Option Row) → ((r : Row) → o ≡ Some r → r.base + r.size ≤ 2 ^ 47) → base_in o ≤ 2 ^ 47
      go None f = omega arith
      go (Some r) f = (let k = f r refl in omega (arith, k))

  at_zero : (x : ObjName) → pointer_to world x ≡ at (x, 0)
  at_zero x = ap (λ a. Ptr a (prov.Whole x)) (omega arith)

  after_is : (b o by : ℕ) → b ≤ 2 ^ 47 → o + by < 2 ^ 63 → address_after (b + o) by ≡ b + (o + by)
  after_is b o by h k = omega (arith, h, k)

  moved_is : AreLow world.rows → (offset : ℕ) (s t : Site) → low (s.0, s.1 + offset) ≡ Some t → moved_place world offset (at s) ≡ at t
  moved_is lo offset s t h =
      let l = low_is (s.0, s.1 + offset) t h in
      let b = base_low lo s.0 in
      ap (λ a. Ptr a (prov.Whole s.0)) (after_is (base_in (row_of world.rows s.0)) s.1 offset b l.1) ∙ ap at l.0

  object_first : (o : Option Class) → is_quiet_class (member_class o) ≡ true → o ≡ Some Object
  object_first None h = absurd (true≢false (sym h))
  object_first (Some Object) h = refl
  object_first (Some _) h = absurd (true≢false (sym h))

  some_class : (e : Expr) (es : Exprs) → first_class (trees_of (more e es)) ≡ Some Object → is_quiet (tree_of e) ≡ true
  some_class e es h = (let k : class_of (tree_of e) ≡ Object = cc in ap is_quiet_class k)

  mutual
    -- a quiet place
    pub quiet_at : AreLow world.rows → (f : Scene) (e : Expr) (s : Site) → is_quiet (tree_of e) ≡ true → site_of f e ≡ Some s → quiet_value world f e ≡ at s
    quiet_at lo f (expr (Obj slot) ty line es) s q h = at_zero (name_of world f slot) ∙ ap at (some_is _ s h)
      where
        some_is : (a b : Site) → Some a ≡ Some b → a ≡ b
        some_is a b h = cc
    quiet_at lo f (expr (Str k) ty line es) s q h = at_zero (object.Lit k) ∙ ap at (some_is _ s h)
      where
        some_is : (a b : Site) → Some a ≡ Some b → a ≡ b
        some_is a b h = cc
    quiet_at lo f (expr (Member offset) ty line es) s q h = member_at lo f offset es s (object_first (first_class (trees_of es)) q) (first_site f es) refl h
    quiet_at lo f (expr (PtrAdd size subtract) ty line es) s q h = absurd (true≢false (sym q))
    quiet_at lo f (expr (Number z) ty line es) s q h = absurd (cc)
    quiet_at lo f (expr Null ty line es) s q h = absurd (cc)
    quiet_at lo f (expr (Func k) ty line es) s q h = absurd (cc)
    quiet_at lo f (expr (Load how) ty line es) s q h = absurd (cc)
    quiet_at lo f (expr (Conv c) ty line es) s q h = absurd (cc)
    quiet_at lo f (expr (Un op) ty line es) s q h = absurd (cc)
    quiet_at lo f (expr (Bin op k) ty line es) s q h = absurd (cc)
    quiet_at lo f (expr (PtrDiff size) ty line es) s q h = absurd (cc)
    quiet_at lo f (expr (Rel op p) ty line es) s q h = absurd (cc)
    quiet_at lo f (expr (Eq op) ty line es) s q h = absurd (cc)
    quiet_at lo f (expr (Part o how) ty line es) s q h = absurd (cc)
    quiet_at lo f (expr (Assign first how) ty line es) s q h = absurd (cc)
    quiet_at lo f (expr (Update c old) ty line es) s q h = absurd (cc)
    quiet_at lo f (expr And ty line es) s q h = absurd (cc)
    quiet_at lo f (expr Or ty line es) s q h = absurd (cc)
    quiet_at lo f (expr Cond ty line es) s q h = absurd (cc)
    quiet_at lo f (expr Comma ty line es) s q h = absurd (cc)
    quiet_at lo f (expr (Call d) ty line es) s q h = absurd (cc)
    quiet_at lo f (expr (Listed slot cs) ty line es) s q h = absurd (cc)
    quiet_at lo f (expr (Isolated e) ty line es) s q h = absurd (cc)

    member_at : AreLow world.rows → (f : Scene) (offset : ℕ) (es : Exprs) (s : Site) → first_class (trees_of es) ≡ Some Object
        → (o : Option Site) → first_site f es ≡ o → on_by offset o ≡ Some s → moved_place world offset (first_quiet world f es) ≡ at s
    member_at lo f offset none s c o e h = absurd (cc)
    member_at lo f offset (more a es) s c None e h = absurd (cc)
    member_at lo f offset (more a es) s c (Some t) e h = ap (moved_place world offset) (quiet_at lo f a t (some_class a es c) e) ∙ moved_is lo offset t s h

  -- nodes of the full expression that are fixed places and have an event gave pointers to there
  abbrev pub FixedIn : Scene → Expr → (Place → Option Value) → Type 0
  FixedIn f root given =
      (n : ℕ) (e : Expr) (s : Site) → at_node 0 root n ≡ Some e → is_quiet (tree_of e) ≡ false → site_of f e ≡ Some s
      → (w : Value) → given (place n Val) ≡ Some w → w ≡ at s

  -- an operand stands behind its node
  below_then : (b : Bool) (x y : Option Expr) (r : Option Expr) → b ≡ true → x ≡ r → (if b then x else y) ≡ r
  below_then true x y r e h = h
  below_then false x y r e h = absurd (cc)

  past_then : (b : Bool) (x y : Option Expr) (r : Option Expr) → b ≡ false → y ≡ r → (if b then x else y) ≡ r
  past_then false x y r e h = h
  past_then true x y r e h = absurd (cc)

  abbrev Behind : ℕ → ℕ → ℕ → Expr → (ℕ → Option Expr) → Type 0
  Behind k count n a node = (k ≤ n) × ((suc n < k + count) × (node (suc n) ≡ Some a))

  module _ (h : Head) (ty : CType) (line : ℕ) (a : Expr) (es : Exprs) where
    here : (k : ℕ) → Behind k (size (tree_of (expr h ty line (more a es)))) k a (at_node k (expr h ty line (more a es)))
    here k =
        let l = size_pos (tree_of a) in (
          omega arith,
          (
            omega (arith, l),
            past_then (k == suc k) _ _ (Some a) (grind (arith, nat_tests))
                (below_then (nat_lt (suc k) (suc k + size (tree_of a))) _ _ (Some a) (grind (arith, nat_tests, l)) (itself a (suc k))),
          ),
        )
      where
        itself : (e : Expr) (m : ℕ) → at_node m e m ≡ Some e
        itself (expr h ty line es) m = below_then (m == m) _ _ (Some (expr h ty line es)) (grind (arith, nat_tests)) refl

    mutual
      behind : (root : Expr) (k n : ℕ) → at_node k root n ≡ Some (expr h ty line (more a es)) → Behind k (size (tree_of root)) n a (at_node k root)
      behind (expr g t l ds) k n q = go (k == n) refl q (behind_among ds (suc k) n)
        where
          root : Expr
          root = expr g t l ds

          go : (b : Bool) → (k == n) ≡ b → (if b then Some root else at_node_among (suc k) ds n) ≡ Some (expr h ty line (more a es))
              → (at_node_among (suc k) ds n ≡ Some (expr h ty line (more a es)) → Behind (suc k) (sizes (trees_of ds)) n a (at_node_among (suc k) ds))
              → Behind k (size (tree_of root)) n a (at_node k root)
          go true e q later =
              let kn : k ≡ n = grind (arith, nat_tests, e) in
              let r : expr h ty line (more a es) ≡ root = cc in
              subst (λ z. Behind k (size (tree_of root)) z a (at_node k root)) kn
              (subst (λ z. Behind k (size (tree_of z)) k a (at_node k z)) r (here k))
          go false e q later =
              let r = later q in
              let r0 = r.0 in
              let r1 = r.1.0 in
              (omega (arith, r0), (omega (arith, r1), past_then (k == suc n) _ _ (Some a) (grind (arith, nat_tests, r0)) r.1.1))

      behind_among : (ds : Exprs) (k n : ℕ) → at_node_among k ds n ≡ Some (expr h ty line (more a es))
          → Behind k (sizes (trees_of ds)) n a (at_node_among k ds)
      behind_among none k n q = absurd (cc)
      behind_among (more d ds) k n q = go (nat_lt n (k + size (tree_of d))) refl q (behind d k n) (behind_among ds (k + size (tree_of d)) n)
        where
          m : ℕ
          m = k + size (tree_of d)

          go : (b : Bool) → nat_lt n m ≡ b → (if b then at_node k d n else at_node_among m ds n) ≡ Some (expr h ty line (more a es))
              → (at_node k d n ≡ Some (expr h ty line (more a es)) → Behind k (size (tree_of d)) n a (at_node k d))
              → (at_node_among m ds n ≡ Some (expr h ty line (more a es)) → Behind m (sizes (trees_of ds)) n a (at_node_among m ds))
              → Behind k (sizes (trees_of (more d ds))) n a (at_node_among k (more d ds))
          go true e q f g =
              let r = f q in
              let r0 = r.0 in
              let r1 = r.1.0 in
              (r0, (omega (arith, r1), below_then (nat_lt (suc n) m) _ _ (Some a) (grind (arith, nat_tests, r1)) r.1.1))
          go false e q f g =
              let r = g q in
              let r0 = r.0 in
              let r1 = r.1.0 in
              (omega (arith, r0), (omega (arith, r1), past_then (nat_lt (suc n) m) _ _ (Some a) (grind (arith, nat_tests, r0)) r.1.1))

    pub operand_there : (root : Expr) (n : ℕ) → at_node 0 root n ≡ Some (expr h ty line (more a es)) → at_node 0 root (suc n) ≡ Some a
    operand_there root n q = (behind root 0 n q).1.1

  -- the value of the first operand, where it is a place at a site
  module _ (lo : AreLow world.rows) (f : Scene) (root : Expr) (given : Place → Option Value) (fixed : FixedIn f root given) where
    first_points : (n : ℕ) (a : Expr) (es : Exprs) → at_node 0 root (suc n) ≡ Some a → (o : Option Site) → site_of f a ≡ o
        → Points world.rows o (pointer_of (value_at (values_of world f given (suc n) (more a es)) 0))
    first_points n a es q None e = tt
    first_points n a es q (Some s) e = go (is_quiet (tree_of a)) refl
      where
        by_given : is_quiet (tree_of a) ≡ false → (o : Option Value) → given (place (suc n) Val) ≡ o
            → (pointer_of (or_nothing o) ≡ null) ⊎ (pointer_of (or_nothing o) ≡ pointer_at world.rows s)
        by_given k None g = inl refl
        by_given k (Some w) g = inr (ap pointer_of (fixed (suc n) a s q k e w g))

        go : (b : Bool) → is_quiet (tree_of a) ≡ b
            → (pointer_of (if b then quiet_value world f a else or_nothing (given (place (suc n) Val))) ≡ null)
            ⊎ (pointer_of (if b then quiet_value world f a else or_nothing (given (place (suc n) Val))) ≡ pointer_at world.rows s)
        go true k = inr (ap pointer_of (quiet_at lo f a s k e))
        go false k = by_given k (given (place (suc n) Val)) refl

    pub points : (n : ℕ) (h : Head) (ty : CType) (line : ℕ) (es : Exprs) → at_node 0 root n ≡ Some (expr h ty line es)
        → Points world.rows (first_site f es) (pointer_of (value_at (values_of world f given (suc n) es) 0))
    points n h ty line none q = tt
    points n h ty line (more a es) q = first_points n a es (operand_there h ty line a es root n q) (site_of f a) refl

    -- a constant operand
    number_at : (n : ℕ) (a b : Expr) (es : Exprs) (z : ℤ) → number_in b ≡ Some z
        → integer_of (value_at (values_of world f given n (more a (more b es))) 1) ≡ z
    number_at n a (expr (Number y) ty line cs) es z h = (let k : y ≡ z = cc in k)
    number_at n a (expr Null ty line cs) es z h = null_is (target ty) ∙ (let k : pos 0 ≡ z = cc in k)
      where
        null_is : (t : CType) → integer_of (null_of t) ≡ pos 0
        null_is (function result params variadic) = refl
        null_is _ = refl
    number_at n a _ es z h = absurd (cc)

    second_at : (n : ℕ) (es : Exprs) (z : ℤ) → second_number es ≡ Some z → integer_of (value_at (values_of world f given n es) 1) ≡ z
    second_at n none z h = absurd (cc)
    second_at n (more a none) z h = absurd (cc)
    second_at n (more a (more b es)) z h = number_at n a b es z h

    abbrev Gives : Site → Script Value → Type 0
    Gives s x = Post (λ i. Unit {0}) (λ w. w ≡ at s) x

    -- a pointer that moves
    moves : (t s : Site) (by : ℤ) → unsigned_abs (pos (base_in (row_of world.rows t.0) + t.1) +ℤ by) ≡ base_in (row_of world.rows s.0) + s.1 → t.0 ≡ s.0
        → Gives s (shifted world.rows (pointer_at world.rows t) by)
    moves t s by h e = go (in_bounds (row_of world.rows t.0) (pos (base_in (row_of world.rows t.0) + t.1) +ℤ by))
      where
        go : (b : Bool) → Gives s ((require b OutOfBounds >> Give (pos (base_in (row_of world.rows t.0) + t.1) +ℤ by))
            >>= (λ z. Give (Ptr (unsigned_abs z) (prov.Whole t.0))))
        go true = ap₂ (λ a x. Ptr a (prov.Whole x)) h e
        go false = tt

    -- a member of a place, and a sum
    member_gives : (offset : ℕ) (o : Option Site) (s : Site) (p : Pointer) → Points world.rows o p → on_by offset o ≡ Some s
        → Gives s (member world.rows offset p)
    member_gives offset None s p h e = absurd (cc)
    member_gives offset (Some t) s p (inl k) e = subst (λ z. Gives s (member world.rows offset z)) (sym k) tt
    member_gives offset (Some t) s p (inr k) e =
        let l = low_is (t.0, t.1 + offset) s e in
        subst (λ z. Gives s (member world.rows offset z)) (sym k)
        (need (λ i. Unit {0}) (λ w. w ≡ at s) _ InvalidPointer (shifted world.rows (pointer_at world.rows t) (pos offset))
        (λ g. subst (λ z. Gives z (shifted world.rows (pointer_at world.rows t) (pos offset))) l.0
        (moves t (t.0, t.1 + offset) (pos offset) (omega arith) refl)))

    further : (b o n : ℕ) (d : ℤ) → pos o +ℤ d ≡ pos n → unsigned_abs (pos (b + o) +ℤ d) ≡ b + n
    further b o n d h = (let k : pos (b + o) +ℤ d ≡ pos (b + n) = omega (arith, ints, h) in ap unsigned_abs k)

    sum_gives : (size : ℕ) (subtract : Bool) (o : Option Site) (c : Option ℤ) (s : Site) (p : Pointer) (z : ℤ) → Points world.rows o p
        → along size subtract o c ≡ Some s → ((y : ℤ) → c ≡ Some y → z ≡ y) → Gives s (shifted world.rows p (distance size subtract z))
    sum_gives size subtract None c s p z h e k = absurd (cc)
    sum_gives size subtract (Some t) None s p z h e k = absurd (cc)
    sum_gives size subtract (Some t) (Some y) s p z (inl g) e k = subst (λ q. Gives s (shifted world.rows q (distance size subtract z))) (sym g) tt
    sum_gives size subtract (Some t) (Some y) s p z (inr g) e k =
        subst (λ q. Gives s (shifted world.rows q (distance size subtract z))) (sym g)
        (subst (λ i. Gives s (shifted world.rows (pointer_at world.rows t) (distance size subtract i))) (sym (k y refl))
        (by_int (pos t.1 +ℤ distance size subtract y) refl e))
      where
        by_int : (i : ℤ) → pos t.1 +ℤ distance size subtract y ≡ i → at_int t.0 i ≡ Some s
            → Gives s (shifted world.rows (pointer_at world.rows t) (distance size subtract y))
        by_int (pos n) f e =
            let l = low_is (t.0, n) s e in
            subst (λ z. Gives z (shifted world.rows (pointer_at world.rows t) (distance size subtract y))) l.0
            (moves t (t.0, n) (distance size subtract y) (further (base_in (row_of world.rows t.0)) t.1 n (distance size subtract y) f) refl)
        by_int (negsuc n) f e = absurd (cc)

    -- what the event of a fixed place gives
    pub gives_site : (who : Event) (n : ℕ) (h : Head) (ty : CType) (line : ℕ) (es : Exprs) (object : CType) (own : Value) (s : Site)
        → at_node 0 root n ≡ Some (expr h ty line es) → is_quiet (tree_of (expr h ty line es)) ≡ false → site_of f (expr h ty line es) ≡ Some s
        → Gives s (act_of world.rows who h object Val (operand_values world f given (suc n) h es) own)
    gives_site who n (Member offset) ty line es object own s q k h =
        member_gives offset (first_site f es) s (pointer_of (value_at (values_of world f given (suc n) es) 0)) (points n (Member offset) ty line es q) h
    gives_site who n (PtrAdd size subtract) ty line es object own s q k h =
        sum_gives size subtract (first_site f es) (second_number es) s (pointer_of (value_at (values_of world f given (suc n) es) 0))
        (integer_of (value_at (values_of world f given (suc n) es) 1)) (points n (PtrAdd size subtract) ty line es q) h
        (λ y e. second_at (suc n) es y e)
    gives_site who n (Obj slot) ty line es object own s q k h = absurd (true≢false k)
    gives_site who n (Str x) ty line es object own s q k h = absurd (true≢false k)
    gives_site who n _ ty line es object own s q k h = absurd (cc)
