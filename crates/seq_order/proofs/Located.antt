-- What the definitions that go down to the operand that holds a node find there.
use Rattle.std.proofs.Common.{
  ◌≡◌,
  ℕ,
  zero,
  suc,
  ◌+◌,
  ◌^◌,
  ◌<◌,
  ◌≤◌,
  Bool,
  true,
  false,
  not,
  ◌&&◌,
  ◌||◌,
  ◌==◌,
  nat_lt,
  if◌then◌else◌,
  Option,
  Some,
  None,
  refl,
  sym,
  ap,
  ◌∙◌,
  arith,
}
use Rattle.std.proofs.lemmas.Bool.Decides.{nat_tests}
use Rattle.ub_base.proofs.Tests.{number_other, less_test, not_less_test, if_true, if_false, some_is}
use Rattle.ub_base.specs.declared.clause.Kind.{Kind}
use Rattle.c_typed.specs.declared.tree.Place.{Place}
use Rattle.c_typed.specs.declared.class.Class.{Class}
use Rattle.c_typed.specs.Tree.{Tree, Trees, none, more, size, sizes, is_quiet}
use Rattle.c_typed.specs.Order.{Taken, goes, across, is_body, is_last}
use Rattle.c_typed.specs.Decide.{due_in, due_among, lifts, crosses, is_before, rises, to_val, between}
use Rattle.seq_order.specs.declared.spot.Spot.{Spot}
use Rattle.seq_order.specs.Spots.{spot_among, next_number}

abbrev pub spot_at : ℕ → ℕ → Spot
spot_at i m = record { index = i; number = m }

-- the operand of this index
abbrev pub nth : Trees → ℕ → Option Tree
nth none j = None
nth (more t ts) zero = Some t
nth (more t ts) (suc j) = nth ts j

abbrev pub count : Trees → ℕ
count none = 0
count (more t ts) = suc (count ts)

next_plain : (m c : ℕ) → m + c < 2 ^ 32 → next_number m c ≡ m + c
next_plain m c h = omega (arith, h)

-- the same with numbers that have no end
abbrev pub plain_among : ℕ → ℕ → Trees → ℕ → Option Spot
plain_among i m none n = None
plain_among i m (more t ts) n = if nat_lt n (m + size t) then Some (spot_at i m) else plain_among (suc i) (m + size t) ts n

pub plain : (ts : Trees) (i m n : ℕ) → m + sizes ts < 2 ^ 32 → spot_among i m ts n ≡ plain_among i m ts n
plain none i m n h = refl
plain (more t ts) i m n h =
    ap (λ z. if nat_lt n z then Some (spot_at i m) else spot_among (suc i) z ts n) (next_plain m (size t) (omega (arith, h)))
    ∙ ap (λ z. if nat_lt n (m + size t) then Some (spot_at i m) else z) (plain ts (suc i) (m + size t) n (omega (arith, h)))

-- the way to the operand x at the spot a, which holds the node n
pub data Walk (n : ℕ) (a : Spot) (x : Tree) : ℕ → ℕ → Trees → Type 0 where
  here : (i m : ℕ) (t : Tree) (ts : Trees) → nat_lt n (m + size t) ≡ true → a ≡ spot_at i m → x ≡ t → Walk n a x i m (more t ts)
  on : (i m : ℕ) (t : Tree) (ts : Trees) → nat_lt n (m + size t) ≡ false → Walk n a x (suc i) (m + size t) ts → Walk n a x i m (more t ts)

spot_step : (b : Bool) (i m : ℕ) (o : Option Spot) (a : Spot) {C : Type 0} → (if b then Some (spot_at i m) else o) ≡ Some a →
    (b ≡ true → a ≡ spot_at i m → C) → (b ≡ false → o ≡ Some a → C) → C
spot_step true i m o a h f g = f refl (sym (some_is (spot_at i m) a h))
spot_step false i m o a h f g = g refl h

index_low : (ts : Trees) (i m n : ℕ) (a : Spot) → plain_among i m ts n ≡ Some a → i ≤ a.index
index_low none i m n a h = absurd (cc)
index_low (more t ts) i m n a h =
    spot_step (nat_lt n (m + size t)) i m (plain_among (suc i) (m + size t) ts n) a h
    (λ b e. let q = ap (λ (z : Spot). z.index) e in omega (arith, q))
    (λ b e. let q = index_low ts (suc i) (m + size t) n a e in omega (arith, q))

pub walk_of : (ts : Trees) (i m n j : ℕ) (a : Spot) (x : Tree) → plain_among i m ts n ≡ Some a → a.index ≡ i + j → nth ts j ≡ Some x → Walk n a x i m ts
walk_of none i m n j a x h e s = absurd (cc)
walk_of (more t ts) i m n zero a x h e s =
    spot_step (nat_lt n (m + size t)) i m (plain_among (suc i) (m + size t) ts n) a h
    (λ b q. here i m t ts b q (some_is x t (sym s)))
    (λ b q. absurd (let l = index_low ts (suc i) (m + size t) n a q in omega (arith, l, e)))
walk_of (more t ts) i m n (suc j) a x h e s =
    spot_step (nat_lt n (m + size t)) i m (plain_among (suc i) (m + size t) ts n) a h
    (λ b q. absurd (let l = ap (λ (z : Spot). z.index) q in omega (arith, l, e)))
    (λ b q. on i m t ts b (walk_of ts (suc i) (m + size t) n j a x q (omega (arith, e)) s))

-- the operand's numbers stay below those of the whole
pub walk_room : (n : ℕ) (a : Spot) (x : Tree) (i m : ℕ) (ts : Trees) → Walk n a x i m ts → a.number + size x ≤ m + sizes ts
walk_room n a x _ _ _ (here i m t ts b e q) = let p = ap (λ (z : Spot). z.number) e in let s = ap size q in omega (arith, p, s)
walk_room n a x _ _ _ (on i m t ts b w) = let r = walk_room n a x (suc i) (m + size t) ts w in omega (arith, r)

module _ (taken : Taken) (class : Class) (choice : Option ℕ) where
  pub walk_due : (u : Place) (a : Spot) (x : Tree) (i m : ℕ) (ts : Trees) → Walk u.node a x i m ts →
      due_among taken class choice i m ts u ≡ (goes class choice a.index && due_in taken a.number x u)
  walk_due u a x _ _ _ (here i m t ts b e q) =
      if_true _ _ _ b ∙ (ap (λ (z : Spot). goes class choice z.index && due_in taken z.number t u) (sym e) ∙ ap
      (λ z. goes class choice a.index && due_in taken a.number z u) (sym q))
  walk_due u a x _ _ _ (on i m t ts b w) = if_false _ _ _ b ∙ walk_due u a x (suc i) (m + size t) ts w

  pub lost_due : (u : Place) (ts : Trees) (i m : ℕ) → plain_among i m ts u.node ≡ None → due_among taken class choice i m ts u ≡ false
  lost_due u none i m h = refl
  lost_due u (more t ts) i m h = step (nat_lt u.node (m + size t)) _ (lost_due u ts (suc i) (m + size t)) h
    where
      step : (b : Bool) (x : Bool) → (plain_among (suc i) (m + size t) ts u.node ≡ None → due_among taken class choice (suc i) (m + size t) ts u ≡ false)
          → (if b then Some (spot_at i m) else plain_among (suc i) (m + size t) ts u.node) ≡ None
          → (if b then x else due_among taken class choice (suc i) (m + size t) ts u) ≡ false
      step true x f h = absurd (cc)
      step false x f h = f h

  last_is : (ts : Trees) → is_last ts ≡ (1 == suc (count ts))
  last_is none = refl
  last_is (more t ts) = sym (number_other 1 (suc (suc (count ts))) (λ e. omega (arith, e)))

  pub walk_rise : (u : Place) (kind : Kind) (a : Spot) (x : Tree) (i m : ℕ) (ts : Trees) → Walk u.node a x i m ts
      → rises taken class choice i m ts u kind ≡ (lifts class choice a.index (suc a.index == i + count ts) kind ||
      (not (is_body kind) && (not (is_quiet x) && to_val taken a.number x u)))
  walk_rise u kind a x _ _ _ (here i m t ts b e q) =
      if_true _ _ _ b
      ∙ (ap (λ z. lifts class choice i z kind || (not (is_body kind) && (not (is_quiet t) && to_val taken m t u))) (last_is ts ∙ shift i (count ts))
      ∙ (ap (λ (z : Spot). lifts class choice z.index (suc z.index == i + suc (count ts)) kind ||
      (not (is_body kind) && (not (is_quiet t) && to_val taken z.number t u))) (sym e)
      ∙ ap (λ z. lifts class choice a.index (suc a.index == i + suc (count ts)) kind ||
      (not (is_body kind) && (not (is_quiet z) && to_val taken a.number z u))) (sym q)))
    where
      shift : (i c : ℕ) → (1 == suc c) ≡ (suc i == i + suc c)
      shift i c = go (1 == suc c) refl
        where
          go : (b : Bool) → (1 == suc c) ≡ b → b ≡ (suc i == i + suc c)
          go true h = sym (grind (arith, nat_tests, h))
          go false h = sym (grind (arith, nat_tests, h))
  walk_rise u kind a x _ _ _ (on i m t ts b w) =
      if_false _ _ _ b ∙ (walk_rise u kind a x (suc i) (m + size t) ts w
      ∙ ap (λ z. lifts class choice a.index (suc a.index == z) kind || (not (is_body kind) && (not (is_quiet x) && to_val taken a.number x u))) (omega arith))

  pub lost_rise : (u : Place) (kind : Kind) (ts : Trees) (i m : ℕ) → plain_among i m ts u.node ≡ None → rises taken class choice i m ts u kind ≡ false
  lost_rise u kind none i m h = refl
  lost_rise u kind (more t ts) i m h = step (nat_lt u.node (m + size t)) _ (lost_rise u kind ts (suc i) (m + size t)) h
    where
      step : (b : Bool) (x : Bool) → (plain_among (suc i) (m + size t) ts u.node ≡ None → rises taken class choice (suc i) (m + size t) ts u kind ≡ false)
          → (if b then Some (spot_at i m) else plain_among (suc i) (m + size t) ts u.node) ≡ None
          → (if b then x else rises taken class choice (suc i) (m + size t) ts u kind) ≡ false
      step true x f h = absurd (cc)
      step false x f h = f h

  crosses_at : (h : ℕ) (ts : Trees) (j m n : ℕ) (b : Spot) → plain_among j m ts n ≡ Some b → crosses class choice h j m ts n ≡ across class choice h b.index
  crosses_at h none j m n b e = absurd (cc)
  crosses_at h (more t ts) j m n b e = step (nat_lt n (m + size t)) (crosses_at h ts (suc j) (m + size t) n b) e
    where
      step : (c : Bool) → (plain_among (suc j) (m + size t) ts n ≡ Some b → crosses class choice h (suc j) (m + size t) ts n ≡ across class choice h b.index)
          → (if c then Some (spot_at j m) else plain_among (suc j) (m + size t) ts n) ≡ Some b
          → (if c then across class choice h j else crosses class choice h (suc j) (m + size t) ts n) ≡ across class choice h b.index
      step true f e = ap (λ (z : Spot). across class choice h z.index) (some_is (spot_at j m) b e)
      step false f e = f e

  crosses_lost : (h : ℕ) (ts : Trees) (j m n : ℕ) → plain_among j m ts n ≡ None → crosses class choice h j m ts n ≡ false
  crosses_lost h none j m n e = refl
  crosses_lost h (more t ts) j m n e = step (nat_lt n (m + size t)) _ (crosses_lost h ts (suc j) (m + size t) n) e
    where
      step : (c : Bool) (x : Bool) → (plain_among (suc j) (m + size t) ts n ≡ None → crosses class choice h (suc j) (m + size t) ts n ≡ false)
          → (if c then Some (spot_at j m) else plain_among (suc j) (m + size t) ts n) ≡ None
          → (if c then x else crosses class choice h (suc j) (m + size t) ts n) ≡ false
      step true x f e = absurd (cc)
      step false x f e = f e

  pub lost_left : (u v : Place) (ts : Trees) (i m : ℕ) → plain_among i m ts u.node ≡ None → between taken class choice i m ts u v ≡ false
  lost_left u v none i m h = refl
  lost_left u v (more t ts) i m h = step (nat_lt u.node (m + size t)) (nat_lt v.node (m + size t)) _ (lost_left u v ts (suc i) (m + size t)) h
    where
      step : (b c : Bool) (x : Bool) → (plain_among (suc i) (m + size t) ts u.node ≡ None → between taken class choice (suc i) (m + size t) ts u v ≡ false)
          → (if b then Some (spot_at i m) else plain_among (suc i) (m + size t) ts u.node) ≡ None
          → (if b then x else (if c then false else between taken class choice (suc i) (m + size t) ts u v)) ≡ false
      step true c x f h = absurd (cc)
      step false true x f h = refl
      step false false x f h = f h

  pub lost_right : (u v : Place) (ts : Trees) (i m : ℕ) → plain_among i m ts v.node ≡ None → between taken class choice i m ts u v ≡ false
  lost_right u v none i m h = refl
  lost_right u v (more t ts) i m h = step (nat_lt u.node (m + size t)) (nat_lt v.node (m + size t)) _ (lost_right u v ts (suc i) (m + size t))
      (crosses_lost i ts (suc i) (m + size t) v.node) h
    where
      step : (b c : Bool) (x : Bool) → (plain_among (suc i) (m + size t) ts v.node ≡ None → between taken class choice (suc i) (m + size t) ts u v ≡ false)
          → (plain_among (suc i) (m + size t) ts v.node ≡ None → crosses class choice i (suc i) (m + size t) ts v.node ≡ false)
          → (if c then Some (spot_at i m) else plain_among (suc i) (m + size t) ts v.node) ≡ None
          → (if b then (if c then x else crosses class choice i (suc i) (m + size t) ts v.node)
          else (if c then false else between taken class choice (suc i) (m + size t) ts u v)) ≡ false
      step b true x f g h = absurd (cc)
      step true false x f g h = g h
      step false false x f g h = f h

  -- both in one operand
  pub walk_same : (u v : Place) (a b : Spot) (x : Tree) (i m : ℕ) (ts : Trees) → Walk u.node a x i m ts → Walk v.node b x i m ts → a.index ≡ b.index →
      between taken class choice i m ts u v ≡ is_before taken a.number x u v
  walk_same u v a b x i m ts w y s = go i m ts w y
    where
      low : (n : ℕ) (c : Spot) (i m : ℕ) (ts : Trees) → Walk n c x i m ts → i ≤ c.index
      low n c _ _ _ (here i m t ts b e q) = let p = ap (λ (z : Spot). z.index) e in omega (arith, p)
      low n c _ _ _ (on i m t ts b w) = let p = low n c (suc i) (m + size t) ts w in omega (arith, p)

      go : (i m : ℕ) (ts : Trees) → Walk u.node a x i m ts → Walk v.node b x i m ts → between taken class choice i m ts u v ≡ is_before taken a.number x u v
      go _ _ _ (here i m t ts c e q) (here _ _ _ _ d f r) =
          if_true _ _ _ c ∙ (if_true _ _ _ d ∙ (ap (λ (z : Spot). is_before taken z.number t u v) (sym e) ∙ ap (λ z. is_before taken a.number z u v) (sym q)))
      go _ _ _ (here i m t ts c e q) (on _ _ _ _ d f) =
          absurd (let p = ap (λ (z : Spot). z.index) e in let l = low v.node b (suc i) (m + size t) ts f in omega (arith, p, l, s))
      go _ _ _ (on i m t ts c e) (here _ _ _ _ d f r) =
          absurd (let p = ap (λ (z : Spot). z.index) f in let l = low u.node a (suc i) (m + size t) ts e in omega (arith, p, l, s))
      go _ _ _ (on i m t ts c e) (on _ _ _ _ d f) = if_false _ _ _ c ∙ (if_false _ _ _ d ∙ go (suc i) (m + size t) ts e f)

  -- in two operands
  pub walk_apart : (u v : Place) (a b : Spot) (ts : Trees) (i m : ℕ) → plain_among i m ts u.node ≡ Some a → plain_among i m ts v.node ≡ Some b →
      (a.index ≡ b.index → ⊥) → between taken class choice i m ts u v ≡ (nat_lt a.index b.index && across class choice a.index b.index)
  walk_apart u v a b none i m h g ne = absurd (cc)
  walk_apart u v a b (more t ts) i m h g ne =
      step (nat_lt u.node (m + size t)) (nat_lt v.node (m + size t)) _ h g (walk_apart u v a b ts (suc i) (m + size t))
      (crosses_at i ts (suc i) (m + size t) v.node b)
      (index_low ts (suc i) (m + size t) v.node b) (index_low ts (suc i) (m + size t) u.node a)
    where
      step : (c d : Bool) (x : Bool) → (if c then Some (spot_at i m) else plain_among (suc i) (m + size t) ts u.node) ≡ Some a
          → (if d then Some (spot_at i m) else plain_among (suc i) (m + size t) ts v.node) ≡ Some b
          → (plain_among (suc i) (m + size t) ts u.node ≡ Some a → plain_among (suc i) (m + size t) ts v.node ≡ Some b →
          (a.index ≡ b.index → ⊥) → between taken class choice (suc i) (m + size t) ts u v ≡ (nat_lt a.index b.index && across class choice a.index b.index))
          → (plain_among (suc i) (m + size t) ts v.node ≡ Some b → crosses class choice i (suc i) (m + size t) ts v.node ≡ across class choice i b.index)
          → (plain_among (suc i) (m + size t) ts v.node ≡ Some b → suc i ≤ b.index)
          → (plain_among (suc i) (m + size t) ts u.node ≡ Some a → suc i ≤ a.index)
          → (if c then (if d then x else crosses class choice i (suc i) (m + size t) ts v.node)
          else (if d then false else between taken class choice (suc i) (m + size t) ts u v)) ≡ (nat_lt a.index b.index &&
          across class choice a.index b.index)
      step true true x h g f k l p = absurd (ne (ap (λ (z : Spot). z.index) (sym (some_is (spot_at i m) a h) ∙ some_is (spot_at i m) b g)))
      step true false x h g f k l p =
          let e : i ≡ a.index = ap (λ (z : Spot). z.index) (some_is (spot_at i m) a h) in
          let q = l g in
          k g ∙ (ap (λ z. across class choice z b.index) e ∙ ap (λ z. z && across class choice a.index b.index)
          (sym (less_test a.index b.index (omega (arith, e, q)))))
      step false true x h g f k l p =
          let e : i ≡ b.index = ap (λ (z : Spot). z.index) (some_is (spot_at i m) b g) in
          let q = p h in
          ap (λ z. z && across class choice a.index b.index) (sym (not_less_test a.index b.index (omega (arith, e, q))))
      step false false x h g f k l p = f h g ne
