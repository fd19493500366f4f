-- The tree of a node, and what comes before the node's value.
use Rattle.std.proofs.Common.{◌≡◌, ◌⊎◌, inl, inr, ⊎_elim, ℕ, zero, suc, ◌≤◌, ◌<◌, ◌+◌, nat_lt, ◌==◌, Bool, true, false, not, ◌&&◌, ◌||◌, List, [], ◌∷◌, refl}
use Rattle.std.proofs.Common.{sym, ap}
use Rattle.std.proofs.Common.{◌∙◌, arith, Option, Some, None, if◌then◌else◌, subst}
use Rattle.std.specs.Prelude.{slice_get, is_some}
use Rattle.std.proofs.lemmas.Bool.Decides.{nat_tests}
use Rattle.ub_base.proofs.Tests.{less_test, not_less_test, less_is, if_true, if_false, some_is, number_equal, number_other, or_left, or_right, and_both}
use Rattle.ub_base.specs.declared.clause.Kind.{Kind}
use Rattle.ub_base.specs.declared.clause.Kind.TheVariants.{Val, Eff, Body}
use Rattle.c_typed.specs.declared.tree.Place.{Place}
use Rattle.c_typed.specs.declared.class.Class.{Class}
use Rattle.c_typed.specs.declared.class.Class.TheVariants as class
use Rattle.c_typed.specs.Tree.{Tree, Trees, node, none, more, size, sizes, is_quiet, kinds_of}
use Rattle.c_typed.specs.Order.{Taken, is_body, is_val, is_last, own_rule, upward, goes}
use Rattle.c_typed.specs.Decide.{has_kind, due_in, due_among, lifts, crosses, is_before, rises, to_val, between}
use Rattle.evaluation_log.specs.declared.rules.Rule.{Rule}
use Rattle.evaluation_log.specs.declared.rules.Rule.TheVariants as rules
use Rattle.evaluation_log.specs.Sides.{Side, side, sides_from}
use Rattle.run_evaluations.specs.Scopes.{Scope, part_in, part_among, part_of, IsBelow, ComesTo, IsOperandOf, last_number}

pub by_test : (b : Bool) {C : Type 0} → (b ≡ true → C) → (b ≡ false → C) → C
by_test true f g = f refl
by_test false f g = g refl

pub not_less_is : (n m : ℕ) → nat_lt n m ≡ false → m ≤ n
not_less_is n m h = grind (arith, nat_tests)

pub number_is : (n m : ℕ) → (n == m) ≡ true → n ≡ m
number_is n m h = grind (arith, nat_tests)

-- ---- the numbers of a part stand among those of the whole
pub record Range (k n a b : ℕ) : Type 0 where
  pub low : k ≤ n
  pub high : n + a ≤ k + b

mutual
  pub part_range : (k : ℕ) (t : Tree) (n : ℕ) (x : Tree) → part_in k t n ≡ Some x → Range k n (size x) (size t)
  part_range k (node class ts) n x h = by_test (n == k)
      (λ e. let q = number_is n k e in
      let s = ap size (some_is (node class ts) x (sym (if_true _ _ _ e) ∙ h)) in
      record { low = omega (arith, q); high = omega (arith, q, s) })
      (λ e. let r = among_range (suc k) ts n x (sym (if_false _ _ _ e) ∙ h) in
      let l = r.low in
      let u = r.high in
      record { low = omega (arith, l); high = omega (arith, u) })

  pub among_range : (m : ℕ) (ts : Trees) (n : ℕ) (x : Tree) → part_among m ts n ≡ Some x → Range m n (size x) (sizes ts)
  among_range m none n x h = absurd (cc)
  among_range m (more t ts) n x h = by_test (nat_lt n (m + size t))
      (λ e. let r = part_range m t n x (sym (if_true _ _ _ e) ∙ h) in
      let l = r.low in
      let u = r.high in
      record { low = l; high = omega (arith, u) })
      (λ e. let r = among_range (m + size t) ts n x (sym (if_false _ _ _ e) ∙ h) in
      let l = r.low in
      let u = r.high in
      record { low = omega (arith, l); high = omega (arith, u) })

-- ---- a part of a part
mutual
  pub part_part : (k : ℕ) (t : Tree) (n p : ℕ) (x : Tree) → part_in k t n ≡ Some x → n ≤ p → p < n + size x → part_in k t p ≡ part_in n x p
  part_part k (node class ts) n p x h le less = by_test (n == k)
      (λ e. let s = some_is (node class ts) x (sym (if_true _ _ _ e) ∙ h) in
      ap (λ z. part_in z (node class ts) p) (sym (number_is n k e)) ∙ ap (λ z. part_in n z p) s)
      (λ e. let g : part_among (suc k) ts n ≡ Some x = sym (if_false _ _ _ e) ∙ h in
      let r = among_range (suc k) ts n x g in
      let l = r.low in
      if_false _ _ _ (number_other p k (λ q. omega (arith, q, l, le))) ∙ among_part (suc k) ts n p x g le less)

  among_part : (m : ℕ) (ts : Trees) (n p : ℕ) (x : Tree) → part_among m ts n ≡ Some x → n ≤ p → p < n + size x → part_among m ts p ≡ part_in n x p
  among_part m none n p x h le less = absurd (cc)
  among_part m (more t ts) n p x h le less = by_test (nat_lt n (m + size t))
      (λ e. let g : part_in m t n ≡ Some x = sym (if_true _ _ _ e) ∙ h in
      let r = part_range m t n x g in
      let u = r.high in
      if_true _ _ _ (less_test p (m + size t) (omega (arith, u, less))) ∙ part_part m t n p x g le less)
      (λ e. let g : part_among (m + size t) ts n ≡ Some x = sym (if_false _ _ _ e) ∙ h in
      let o = not_less_is n (m + size t) e in
      if_false _ _ _ (not_less_test p (m + size t) (omega (arith, o, le))) ∙ among_part (m + size t) ts n p x g le less)

-- ---- what comes before what, within a part
module _ (taken : Taken) where
  mutual
    pub part_before : (k : ℕ) (t : Tree) (n : ℕ) (u v : Place) (x : Tree) → part_in k t n ≡ Some x → n ≤ u.node → u.node < n + size x → n ≤ v.node →
        v.node < n + size x → is_before taken k t u v ≡ is_before taken n x u v
    part_before k (node class ts) n u v x h ul uh vl vh = by_test (n == k)
        (λ e. let s = some_is (node class ts) x (sym (if_true _ _ _ e) ∙ h) in
        ap (λ z. is_before taken z (node class ts) u v) (sym (number_is n k e)) ∙ ap (λ z. is_before taken n z u v) s)
        (λ e. let g : part_among (suc k) ts n ≡ Some x = sym (if_false _ _ _ e) ∙ h in
        let r = among_range (suc k) ts n x g in
        let l = r.low in
        if_false _ _ _ (number_other u.node k (λ q. omega (arith, q, l, ul)))
        ∙ (if_false _ _ _ (number_other v.node k (λ q. omega (arith, q, l, vl)))
        ∙ among_before class (taken k) 0 (suc k) ts n u v x g ul uh vl vh))

    among_before : (class : Class) (choice : Option ℕ) (i m : ℕ) (ts : Trees) (n : ℕ) (u v : Place) (x : Tree) → part_among m ts n ≡ Some x →
        n ≤ u.node → u.node < n + size x → n ≤ v.node → v.node < n + size x → between taken class choice i m ts u v ≡ is_before taken n x u v
    among_before class choice i m none n u v x h ul uh vl vh = absurd (cc)
    among_before class choice i m (more t ts) n u v x h ul uh vl vh = by_test (nat_lt n (m + size t))
        (λ e. let g : part_in m t n ≡ Some x = sym (if_true _ _ _ e) ∙ h in
        let r = part_range m t n x g in
        let o = r.high in
        if_true _ _ _ (less_test u.node (m + size t) (omega (arith, o, uh)))
        ∙ (if_true _ _ _ (less_test v.node (m + size t) (omega (arith, o, vh))) ∙ part_before m t n u v x g ul uh vl vh))
        (λ e. let g : part_among (m + size t) ts n ≡ Some x = sym (if_false _ _ _ e) ∙ h in
        let o = not_less_is n (m + size t) e in
        if_false _ _ _ (not_less_test u.node (m + size t) (omega (arith, o, ul)))
        ∙ (if_false _ _ _ (not_less_test v.node (m + size t) (omega (arith, o, vl)))
        ∙ among_before class choice (suc i) (m + size t) ts n u v x g ul uh vl vh))

-- ---- the operands of a node, by their places
pub record At (m : ℕ) (ts : Trees) (s : Side) : Type 0 where
  pub there : part_among m ts s.number ≡ Some s.tree
  pub low : m ≤ s.number
  pub high : s.number + size s.tree ≤ m + sizes ts

pub root_part : (m : ℕ) (t : Tree) → part_in m t m ≡ Some t
root_part m (node class ts) = if_true _ _ _ (number_equal m m refl)

pub size_some : (t : Tree) → 0 < size t
size_some (node class ts) = omega arith

pub side_at : (m : ℕ) (ts : Trees) (i : ℕ) (s : Side) → slice_get (sides_from m ts) i ≡ Some s → At m ts s
side_at m none i s h = absurd (cc)
side_at m (more t ts) zero s h =
    let e = some_is (side m t) s h in
    let z = size_some t in
    subst (λ (q : Side). At m (more t ts) q) e (record {
      there = if_true _ _ _ (less_test m (m + size t) (omega (arith, z))) ∙ root_part m t;
      low = omega arith;
      high = omega arith;
    })
side_at m (more t ts) (suc i) s h =
    let a = side_at (m + size t) ts i s h in
    let l = a.low in
    let u = a.high in
    record {
      there = if_false _ _ _ (not_less_test s.number (m + size t) (omega (arith, l))) ∙ a.there;
      low = omega (arith, l);
      high = omega (arith, u);
    }

-- which of the operands is the last
abbrev pub is_last_at : Trees → ℕ → Bool
is_last_at none i = true
is_last_at (more t ts) zero = is_last ts
is_last_at (more t ts) (suc i) = is_last_at ts i

pub last_at : (m : ℕ) (ts : Trees) (i n : ℕ) (s : Side) → slice_get (sides_from m ts) i ≡ Some s → is_last_at ts i ≡ true → s.number ≡ last_number m ts n
last_at m none i n s h l = absurd (cc)
last_at m (more t none) zero n s h l = sym (ap (λ (q : Side). q.number) (some_is (side m t) s h))
last_at m (more t (more y ts)) zero n s h l = absurd (cc)
last_at m (more t ts) (suc i) n s h l = last_at (m + size t) ts i m s h l

-- the last one has the greatest number
pub last_high : (m : ℕ) (ts : Trees) (i n : ℕ) (s : Side) → slice_get (sides_from m ts) i ≡ Some s → s.number ≤ last_number m ts n
last_high m none i n s h = absurd (cc)
last_high m (more t ts) zero n s h = let e = ap (λ (q : Side). q.number) (some_is (side m t) s h) in let g = last_low ts (m + size t) m (omega arith) in
    omega (arith, e, g)
  where
    last_low : (ts : Trees) (m n : ℕ) → n ≤ m → n ≤ last_number m ts n
    last_low none m n le = omega arith
    last_low (more y us) m n le = let g = last_low us (m + size y) m (omega arith) in omega (arith, g, le)
last_high m (more t ts) (suc i) n s h = last_high (m + size t) ts i m s h

-- the first one has the number m
pub first_at : (m : ℕ) (ts : Trees) (i : ℕ) (s : Side) → slice_get (sides_from m ts) i ≡ Some s → s.number ≡ m → i ≡ 0
first_at m none i s h e = absurd (cc)
first_at m (more t ts) zero s h e = refl
first_at m (more t ts) (suc i) s h e =
    let a = side_at (m + size t) ts i s h in
    let l = a.low in
    let z = size_some t in
    absurd (omega (arith, l, z, e))

pub first_number : (m : ℕ) (ts : Trees) (s : Side) → slice_get (sides_from m ts) 0 ≡ Some s → s.number ≡ m
first_number m none s h = absurd (cc)
first_number m (more t ts) s h = sym (ap (λ (q : Side). q.number) (some_is (side m t) s h))

-- ---- from an operand up to the value of its node
module _ (taken : Taken) (class : Class) (choice : Option ℕ) where
  pub rise_at : (j m : ℕ) (ts : Trees) (i p : ℕ) (s : Side) (u : Place) (kind : Kind) → p ≡ j + i → slice_get (sides_from m ts) i ≡ Some s → s.number ≤ u.node →
      u.node < s.number + size s.tree → rises taken class choice j m ts u kind
      ≡ (lifts class choice p (is_last_at ts i) kind || (not (is_body kind) && (not (is_quiet s.tree) && to_val taken s.number s.tree u)))
  rise_at j m none i p s u kind is h ul uh = absurd (cc)
  rise_at j m (more t ts) zero p s u kind is h ul uh =
      let e = some_is (side m t) s h in
      let a = ap (λ (q : Side). q.number) e in
      let b = ap (λ (q : Side). size q.tree) e in
      if_true _ _ _ (less_test u.node (m + size t) (omega (arith, a, b, uh)))
      ∙ (ap (λ z. lifts class choice z (is_last ts) kind || (not (is_body kind) && (not (is_quiet t) && to_val taken m t u))) (omega (arith, is))
      ∙ ap (λ (q : Side). lifts class choice p (is_last ts) kind || (not (is_body kind) && (not (is_quiet q.tree) && to_val taken q.number q.tree u))) e)
  rise_at j m (more t ts) (suc i) p s u kind is h ul uh =
      let a = side_at (m + size t) ts i s h in
      let l = a.low in
      if_false _ _ _ (not_less_test u.node (m + size t) (omega (arith, l, ul)))
      ∙ rise_at (suc j) (m + size t) ts i p s u kind (omega (arith, is)) h ul uh

  pub due_at : (j m : ℕ) (ts : Trees) (i p : ℕ) (s : Side) (u : Place) → p ≡ j + i → slice_get (sides_from m ts) i ≡ Some s → s.number ≤ u.node →
      u.node < s.number + size s.tree → due_among taken class choice j m ts u ≡ (goes class choice p && due_in taken s.number s.tree u)
  due_at j m none i p s u is h ul uh = absurd (cc)
  due_at j m (more t ts) zero p s u is h ul uh =
      let e = some_is (side m t) s h in
      let a = ap (λ (q : Side). q.number) e in
      let b = ap (λ (q : Side). size q.tree) e in
      if_true _ _ _ (less_test u.node (m + size t) (omega (arith, a, b, uh)))
      ∙ (ap (λ z. goes class choice z && due_in taken m t u) (omega (arith, is))
      ∙ ap (λ (q : Side). goes class choice p && due_in taken q.number q.tree u) e)
  due_at j m (more t ts) (suc i) p s u is h ul uh =
      let a = side_at (m + size t) ts i s h in
      let l = a.low in
      if_false _ _ _ (not_less_test u.node (m + size t) (omega (arith, l, ul)))
      ∙ due_at (suc j) (m + size t) ts i p s u (omega (arith, is)) h ul uh

-- ---- from a value to the other events of a node
module _ (taken : Taken) (choice : Option ℕ) where
  call_rise : (j m : ℕ) (ts : Trees) (u : Place) → rises taken class.Call choice j m ts u Val ≡ true → rises taken class.Call choice j m ts u Body ≡ true
  call_rise j m none u h = absurd (cc)
  call_rise j m (more t ts) u h = by_test (nat_lt u.node (m + size t))
      (λ e. if_true _ _ _ e)
      (λ e. if_false _ _ _ e ∙ call_rise (suc j) (m + size t) ts u (sym (if_false _ _ _ e) ∙ h))

  store_rise : (j m : ℕ) (ts : Trees) (u : Place) → rises taken class.Store choice j m ts u Val ≡ true → rises taken class.Store choice j m ts u Eff ≡ true
  store_rise j m none u h = absurd (cc)
  store_rise j m (more t ts) u h = by_test (nat_lt u.node (m + size t))
      (λ e. if_true _ _ _ e ∙ (sym (if_true _ _ _ e) ∙ h))
      (λ e. if_false _ _ _ e ∙ store_rise (suc j) (m + size t) ts u (sym (if_false _ _ _ e) ∙ h))

  update_rise : (j m : ℕ) (ts : Trees) (u : Place) → rises taken class.Update choice j m ts u Val ≡ true →
      rises taken class.Update choice j m ts u Eff ≡ true
  update_rise j m none u h = absurd (cc)
  update_rise j m (more t ts) u h = by_test (nat_lt u.node (m + size t))
      (λ e. if_true _ _ _ e ∙ (sym (if_true _ _ _ e) ∙ h))
      (λ e. if_false _ _ _ e ∙ update_rise (suc j) (m + size t) ts u (sym (if_false _ _ _ e) ∙ h))

  pub rise_kind : (c : Class) (m : ℕ) (ts : Trees) (u : Place) (kind : Kind) → rises taken c choice 0 m ts u Val ≡ true → has_kind (kinds_of c) kind ≡ true →
      (c ≡ class.Isolated → ts ≡ none) → rises taken c choice 0 m ts u kind ≡ true
  rise_kind c m ts u Val h due alone = h
  rise_kind class.Store m ts u Eff h due alone = store_rise 0 m ts u h
  rise_kind class.Update m ts u Eff h due alone = update_rise 0 m ts u h
  rise_kind class.Call m ts u Body h due alone = call_rise 0 m ts u h
  rise_kind class.Isolated m ts u Body h due alone =
      absurd (let e : false ≡ true = ap (λ z. rises taken class.Isolated choice 0 m z u Val) (sym (alone refl)) ∙ h in cc)
  rise_kind class.Object m ts u Eff h due alone = absurd (cc)
  rise_kind class.Constant m ts u Eff h due alone = absurd (cc)
  rise_kind class.Plain m ts u Eff h due alone = absurd (cc)
  rise_kind class.Choice m ts u Eff h due alone = absurd (cc)
  rise_kind class.Comma m ts u Eff h due alone = absurd (cc)
  rise_kind class.Call m ts u Eff h due alone = absurd (cc)
  rise_kind class.Isolated m ts u Eff h due alone = absurd (cc)
  rise_kind class.Object m ts u Body h due alone = absurd (cc)
  rise_kind class.Constant m ts u Body h due alone = absurd (cc)
  rise_kind class.Plain m ts u Body h due alone = absurd (cc)
  rise_kind class.Choice m ts u Body h due alone = absurd (cc)
  rise_kind class.Comma m ts u Body h due alone = absurd (cc)
  rise_kind class.Store m ts u Body h due alone = absurd (cc)
  rise_kind class.Update m ts u Body h due alone = absurd (cc)

-- ---- the value of a node, and what comes before it, in terms of the whole tree
same_part : {X : Type 0} (o : Option X) (x y : X) → o ≡ Some x → o ≡ Some y → x ≡ y
same_part o x y a b = some_is x y (sym a ∙ b)

pub val_kind : (c : Class) (kind : Kind) → (kind ≡ Eff → ⊥) → (is_val kind || own_rule c kind Val) ≡ true
val_kind c Val n = refl
val_kind c Eff n = absurd (n refl)
val_kind class.Object Body n = refl
val_kind class.Constant Body n = refl
val_kind class.Plain Body n = refl
val_kind class.Store Body n = refl
val_kind class.Update Body n = refl
val_kind class.Choice Body n = refl
val_kind class.Comma Body n = refl
val_kind class.Call Body n = refl
val_kind class.Isolated Body n = refl

own_reach : (taken : Taken) (n : ℕ) (x : Tree) (u : Place) → u.node ≡ n → (u.kind ≡ Eff → ⊥) → to_val taken n x u ≡ true
own_reach taken n (node c ts) u e k = if_true _ _ _ (number_equal u.node n e) ∙ val_kind c u.kind k

-- a node's own event that is no side effect is its value or comes before it
pub own_comes : (s : Scope) (n : ℕ) (u : Place) → u.node ≡ n → (u.kind ≡ Eff → ⊥) → ComesTo s n u
own_comes s n u e k x h = own_reach s.taken n x u e k

module _ (s : Scope) (n : ℕ) (c : Class) (ts : Trees) (here : part_of s n ≡ Some (node c ts)) where
  -- an operand's tree
  pub side_part : (i : ℕ) (d : Side) → slice_get (sides_from (suc n) ts) i ≡ Some d → part_of s d.number ≡ Some d.tree
  side_part i d h =
      let a = side_at (suc n) ts i d h in
      let l = a.low in
      let u = a.high in
      let z = size_some d.tree in
      part_part 0 s.tree n d.number (node c ts) here (omega (arith, l)) (omega (arith, u, z))
      ∙ (if_false _ _ _ (number_other d.number n (λ e. omega (arith, e, l))) ∙ a.there)

  module _ (i : ℕ) (d : Side) (at : slice_get (sides_from (suc n) ts) i ≡ Some d) (goes_so : goes c (s.taken n) i ≡ true) (u : Place)
      (below : IsBelow s d.number u) where
    same_tree : below.part ≡ d.tree
    same_tree = same_part (part_of s d.number) below.part d.tree below.there (side_part i d at)

    in_side : u.node < d.number + size d.tree
    in_side = let h = below.high in let e = ap size same_tree in omega (arith, h, e)

    not_here : (u.node == n) ≡ false
    not_here = let a = (side_at (suc n) ts i d at).low in let l = below.low in number_other u.node n (λ e. omega (arith, e, a, l))

    pub side_due : due_in s.taken d.number d.tree u ≡ true
    side_due = ap (λ z. due_in s.taken d.number z u) (sym same_tree) ∙ below.due

    pub below_up : IsBelow s n u
    below_up =
        let a = side_at (suc n) ts i d at in
        let al = a.low in
        let ah = a.high in
        let l = below.low in
        let h = in_side in
        record {
          part = node c ts;
          there = here;
          low = omega (arith, al, l);
          high = omega (arith, ah, h);
          due = if_false _ _ _ not_here ∙ (due_at s.taken c (s.taken n) 0 (suc n) ts i i d u (omega arith) at below.low in_side
              ∙ and_both (goes c (s.taken n) i) _ goes_so side_due);
        }

    rise_up : (lifts c (s.taken n) i (is_last_at ts i) Val || (true && (not (is_quiet d.tree) && to_val s.taken d.number d.tree u))) ≡ true → ComesTo s n u
    rise_up up x h =
        ap (λ z. to_val s.taken n z u) (sym (same_part (part_of s n) (node c ts) x here h))
        ∙ (if_false _ _ _ not_here ∙ (rise_at s.taken c (s.taken n) 0 (suc n) ts i i d u Val (omega arith) at below.low in_side ∙ up))

    pub comes_up : is_quiet d.tree ≡ false → ComesTo s d.number u → ComesTo s n u
    comes_up loud comes =
        rise_up (or_right (lifts c (s.taken n) i (is_last_at ts i) Val) _
        (ap (λ z. not z && to_val s.taken d.number d.tree u) loud ∙ comes d.tree (side_part i d at)))

    pub lift_up : lifts c (s.taken n) i (is_last_at ts i) Val ≡ true → ComesTo s n u
    lift_up up = rise_up (or_left (lifts c (s.taken n) i (is_last_at ts i) Val) _ up)

-- an event below a node, and one of the node itself
pub before_own : (s : Scope) (n : ℕ) (u v : Place) → IsBelow s n u → IsBelow s n v → n < u.node → v.node ≡ n →
    ((ts : Trees) → part_of s n ≡ Some (node class.Isolated ts) → ts ≡ none) → ComesTo s n u → is_before s.taken 0 s.tree u v ≡ true
before_own s n u v bu bv behind own alone comes =
    let e = same_part (part_of s n) bv.part bu.part bv.there bu.there in
    let q = ap size e in
    let vh = bv.high in
    let vl = bv.low in
    part_before s.taken 0 s.tree n u v bu.part bu.there bu.low bu.high vl (omega (arith, q, vh))
    ∙ at bu.part bu.there (comes bu.part bu.there) (ap (λ z. due_in s.taken n z v) (sym e) ∙ bv.due)
  where
    at : (x : Tree) → part_of s n ≡ Some x → to_val s.taken n x u ≡ true → due_in s.taken n x v ≡ true → is_before s.taken n x u v ≡ true
    at (node c ts) there up due =
        let no = number_other u.node n (λ w. omega (arith, w, behind)) in
        let yes = number_equal v.node n own in
        if_false _ _ _ no ∙ (if_true _ _ _ yes ∙
        rise_kind s.taken (s.taken n) c (suc n) ts u v.kind (sym (if_false _ _ _ no) ∙ up) (sym (if_true _ _ _ yes) ∙ due)
        (λ is. alone ts (there ∙ ap (λ z. Some (node z ts)) is)))
