-- The way from the root to a node.
use Rattle.std.proofs.Common.{◌≡◌, ℕ, zero, suc, ◌≤◌, ◌<◌, ◌+◌, ◌-◌, ◌^◌, min, nat_lt, Bool, true, false, List, [], ◌∷◌, ◌++◌, length, get_or, refl, sym, ap}
use Rattle.std.proofs.Common.{◌∙◌, arith, Option, Some, None, if◌then◌else◌}
use Rattle.std.specs.Prelude.{slice_get}
use Rattle.std.proofs.lemmas.Option.{same_Some}
use Rattle.ub_base.proofs.Tests.{less_test, not_less_test, if_true, if_false, some_is}
use Rattle.c_typed.specs.declared.tree.Typed.{Typed, out-Typed, fold_out-Typed}
use Rattle.c_typed.specs.declared.class.Class.{Class}
use Rattle.c_typed.specs.Tree.{Tree, Trees, node, none, more, size, sizes, tree_of, trees_of, operands, node_class, typed_tree}
use Rattle.evaluation_log.specs.declared.trees.Spot.{Spot}
use Rattle.evaluation_log.specs.Ways.{above_in, above_among, IsRising, next_number, spot_among}

-- ---- the operand that holds a node
abbrev pub spot_at : ℕ → ℕ → Spot
spot_at i m = record { index = i; number = m }

-- the operand of this index
abbrev pub nth : Trees → ℕ → Option Tree
nth none j = None
nth (more t ts) zero = Some t
nth (more t ts) (suc j) = nth ts j

operands_of : (t : Typed) → operands (tree_of t) ≡ trees_of (out-Typed t).children
operands_of t = ap operands (fold_out-Typed (Trees → Class) Tree node_class typed_tree t)

nth_child : (cs : List Typed) (j : ℕ) (x : Typed) → j < length cs → x ≡ get_or cs j x → nth (trees_of cs) j ≡ Some (tree_of x)
nth_child [] j x h e = absurd (omega (arith, h))
nth_child (c ∷ cs) zero x h e = ap (λ z. Some (tree_of z)) (sym e)
nth_child (c ∷ cs) (suc j) x h e = nth_child cs j x (omega (arith, h)) e

pub child_of : (t x : Typed) (ys : List Typed) (j : ℕ) → j < length (out-Typed t).children → ys ≡ (out-Typed t).children → x ≡ get_or ys j x →
    nth (operands (tree_of t)) j ≡ Some (tree_of x)
child_of t x ys j h q e =
    ap (λ z. nth z j) (operands_of t) ∙ nth_child (out-Typed t).children j x h (e ∙ ap (λ z. get_or z j x) q)

pub next_plain : (m c : ℕ) → m + c < 2 ^ 32 → next_number m c ≡ m + c
next_plain m c h = omega (arith, h)

-- the same with numbers that have no end
abbrev pub plain_among : ℕ → ℕ → Trees → ℕ → Option Spot
plain_among i m none n = None
plain_among i m (more t ts) n = if nat_lt n (m + size t) then Some (spot_at i m) else plain_among (suc i) (m + size t) ts n

plain : (ts : Trees) (i m n : ℕ) → m + sizes ts < 2 ^ 32 → spot_among i m ts n ≡ plain_among i m ts n
plain none i m n h = refl
plain (more t ts) i m n h =
    ap (λ z. if nat_lt n z then Some (spot_at i m) else spot_among (suc i) z ts n) (next_plain m (size t) (omega (arith, h)))
    ∙ ap (λ z. if nat_lt n (m + size t) then Some (spot_at i m) else z) (plain ts (suc i) (m + size t) n (omega (arith, h)))

-- the way to the operand x at the spot a, which holds the node n
pub data Walk (n : ℕ) (a : Spot) (x : Tree) : ℕ → ℕ → Trees → Type 0 where
  here : (i m : ℕ) (t : Tree) (ts : Trees) → nat_lt n (m + size t) ≡ true → a ≡ spot_at i m → x ≡ t → Walk n a x i m (more t ts)
  on : (i m : ℕ) (t : Tree) (ts : Trees) → nat_lt n (m + size t) ≡ false → Walk n a x (suc i) (m + size t) ts → Walk n a x i m (more t ts)

spot_step : (b : Bool) (i m : ℕ) (o : Option Spot) (a : Spot) {C : Type 0} → (if b then Some (spot_at i m) else o) ≡ Some a →
    (b ≡ true → a ≡ spot_at i m → C) → (b ≡ false → o ≡ Some a → C) → C
spot_step true i m o a h f g = f refl (sym (some_is (spot_at i m) a h))
spot_step false i m o a h f g = g refl h

index_low : (ts : Trees) (i m n : ℕ) (a : Spot) → plain_among i m ts n ≡ Some a → i ≤ a.index
index_low none i m n a h = absurd (cc)
index_low (more t ts) i m n a h =
    spot_step (nat_lt n (m + size t)) i m (plain_among (suc i) (m + size t) ts n) a h
    (λ b e. let q = ap (λ (z : Spot). z.index) e in omega (arith, q))
    (λ b e. let q = index_low ts (suc i) (m + size t) n a e in omega (arith, q))

pub walk_of : (ts : Trees) (i m n j : ℕ) (a : Spot) (x : Tree) → plain_among i m ts n ≡ Some a → a.index ≡ i + j → nth ts j ≡ Some x → Walk n a x i m ts
walk_of none i m n j a x h e s = absurd (cc)
walk_of (more t ts) i m n zero a x h e s =
    spot_step (nat_lt n (m + size t)) i m (plain_among (suc i) (m + size t) ts n) a h
    (λ b q. here i m t ts b q (some_is x t (sym s)))
    (λ b q. absurd (let l = index_low ts (suc i) (m + size t) n a q in omega (arith, l, e)))
walk_of (more t ts) i m n (suc j) a x h e s =
    spot_step (nat_lt n (m + size t)) i m (plain_among (suc i) (m + size t) ts n) a h
    (λ b q. absurd (let l = ap (λ (z : Spot). z.index) q in omega (arith, l, e)))
    (λ b q. on i m t ts b (walk_of ts (suc i) (m + size t) n j a x q (omega (arith, e)) s))

walk_room : (n : ℕ) (a : Spot) (x : Tree) (i m : ℕ) (ts : Trees) → Walk n a x i m ts → a.number + size x ≤ m + sizes ts
walk_room n a x _ _ _ (here i m t ts b e q) = let p = ap (λ (z : Spot). z.number) e in let s = ap size q in omega (arith, p, s)
walk_room n a x _ _ _ (on i m t ts b w) = let r = walk_room n a x (suc i) (m + size t) ts w in omega (arith, r)

walk_above : (n : ℕ) (a : Spot) (x : Tree) (i m : ℕ) (ts : Trees) → Walk n a x i m ts → above_among m ts n ≡ above_in a.number x n
walk_above n a x _ _ _ (here i m t ts b e q) =
    if_true _ _ _ b ∙ ap (λ (z : Spot). above_in z.number t n) (sym e) ∙ ap (λ z. above_in a.number z n) (sym q)
walk_above n a x _ _ _ (on i m t ts b w) = if_false _ _ _ b ∙ walk_above n a x (suc i) (m + size t) ts w

lost_above : (n : ℕ) (ts : Trees) (i m : ℕ) → plain_among i m ts n ≡ None → above_among m ts n ≡ []
lost_above n none i m h = refl
lost_above n (more t ts) i m h = step (nat_lt n (m + size t)) (above_in m t n) (lost_above n ts (suc i) (m + size t)) h
  where
    step : (b : Bool) (xs : List ℕ) → (plain_among (suc i) (m + size t) ts n ≡ None → above_among (m + size t) ts n ≡ []) →
        (if b then Some (spot_at i m) else plain_among (suc i) (m + size t) ts n) ≡ None → (if b then xs else above_among (m + size t) ts n) ≡ []
    step true xs f h = absurd (cc)
    step false xs f h = f h

abbrev pub Spotted : ℕ → Trees → ℕ → Option Spot
Spotted k ts n = spot_among 0 (min (k + 1) (2 ^ 32 - 1)) ts n

pub begin_at : (k : ℕ) (ts : Trees) (n : ℕ) → k + suc (sizes ts) < 2 ^ 32 → Spotted k ts n ≡ plain_among 0 (suc k) ts n
begin_at k ts n h =
    let e : min (k + 1) (2 ^ 32 - 1) ≡ suc k = omega (arith, h) in
    ap (λ z. spot_among 0 z ts n) e ∙ plain ts 0 (suc k) n (omega (arith, h))

pub below_room : (k : ℕ) (tree x : Tree) (n : ℕ) (a : Spot) → k + size tree < 2 ^ 32 → Spotted k (operands tree) n ≡ Some a →
    nth (operands tree) a.index ≡ Some x → a.number + size x < 2 ^ 32
below_room k (node class ts) x n a h s e =
    let w = walk_of ts 0 (suc k) n a.index a x (sym (begin_at k ts n h) ∙ s) (omega arith) e in
    let r = walk_room n a x 0 (suc k) ts w in
    omega (arith, r, h)

pub way_here : (k : ℕ) (tree : Tree) (n : ℕ) → n ≤ k → above_in k tree n ≡ []
way_here k (node class ts) n le = if_false _ _ _ (not_less_test k n (omega (arith, le)))

pub way_below : (k : ℕ) (tree x : Tree) (n : ℕ) (a : Spot) → k < n → k + size tree < 2 ^ 32 → Spotted k (operands tree) n ≡ Some a →
    nth (operands tree) a.index ≡ Some x → above_in k tree n ≡ k ∷ above_in a.number x n
way_below k (node class ts) x n a less h s e =
    if_true _ _ _ (less_test k n less) ∙
    ap (λ z. k ∷ z) (walk_above n a x 0 (suc k) ts (walk_of ts 0 (suc k) n a.index a x (sym (begin_at k ts n h) ∙ s) (omega arith) e))

pub way_lost : (k : ℕ) (tree : Tree) (n : ℕ) → k < n → k + size tree < 2 ^ 32 → Spotted k (operands tree) n ≡ None → above_in k tree n ≡ k ∷ []
way_lost k (node class ts) n less h s =
    if_true _ _ _ (less_test k n less) ∙ ap (λ z. k ∷ z) (lost_above n ts 0 (suc k) (sym (begin_at k ts n h) ∙ s))

pub appended : (xs ys zs : List ℕ) → (xs ++ ys) ++ zs ≡ xs ++ (ys ++ zs)
appended [] ys zs = refl
appended (x ∷ xs) ys zs = ap (λ z. x ∷ z) (appended xs ys zs)

pub with_none : (xs : List ℕ) → xs ++ [] ≡ xs
with_none [] = refl
with_none (x ∷ xs) = ap (λ z. x ∷ z) (with_none xs)

-- ---- the nodes of a way rise
abbrev AreFrom : ℕ → List ℕ → Type 0
AreFrom k xs = (i x : ℕ) → slice_get xs i ≡ Some x → k ≤ x

none_from : (k : ℕ) → AreFrom k []
none_from k i x h = absurd (cc)

cons_from : (b : Bool) (k : ℕ) (xs : List ℕ) → AreFrom (suc k) xs → AreFrom k (if b then k ∷ xs else [])
cons_from false k xs h i x e = absurd (cc)
cons_from true k xs h zero x e = let s = same_Some k x e in omega (arith, s)
cons_from true k xs h (suc i) x e = let s = h i x e in omega (arith, s)

either_from : (b : Bool) (k : ℕ) (xs ys : List ℕ) → AreFrom k xs → AreFrom k ys → AreFrom k (if b then xs else ys)
either_from true k xs ys h g = h
either_from false k xs ys h g = g

less_from : (k m : ℕ) (xs : List ℕ) → k ≤ m → AreFrom m xs → AreFrom k xs
less_from k m xs le h i x e = let s = h i x e in omega (arith, s, le)

mutual
  in_from : (k : ℕ) (t : Tree) (n : ℕ) → AreFrom k (above_in k t n)
  in_from k (node class ts) n = cons_from (nat_lt k n) k (above_among (suc k) ts n) (among_from (suc k) ts n)

  among_from : (m : ℕ) (ts : Trees) (n : ℕ) → AreFrom m (above_among m ts n)
  among_from m none n = none_from m
  among_from m (more t ts) n =
      either_from (nat_lt n (m + size t)) m (above_in m t n) (above_among (m + size t) ts n) (in_from m t n)
      (less_from m (m + size t) (above_among (m + size t) ts n) (omega arith) (among_from (m + size t) ts n))

none_rising : IsRising []
none_rising j k x y less a b = absurd (cc)

cons_rising : (b : Bool) (k : ℕ) (xs : List ℕ) → AreFrom (suc k) xs → IsRising xs → IsRising (if b then k ∷ xs else [])
cons_rising false k xs h r i j x y less a b = absurd (cc)
cons_rising true k xs h r i zero x y less a b = absurd (omega (arith, less))
cons_rising true k xs h r zero (suc j) x y less a b = let s = same_Some k x a in let t = h j y b in omega (arith, s, t)
cons_rising true k xs h r (suc i) (suc j) x y less a b = r i j x y (omega (arith, less)) a b

either_rising : (b : Bool) (xs ys : List ℕ) → IsRising xs → IsRising ys → IsRising (if b then xs else ys)
either_rising true xs ys h g = h
either_rising false xs ys h g = g

mutual
  pub in_rising : (k : ℕ) (t : Tree) (n : ℕ) → IsRising (above_in k t n)
  in_rising k (node class ts) n =
      cons_rising (nat_lt k n) k (above_among (suc k) ts n) (among_from (suc k) ts n) (among_rising (suc k) ts n)

  among_rising : (m : ℕ) (ts : Trees) (n : ℕ) → IsRising (above_among m ts n)
  among_rising m none n = none_rising
  among_rising m (more t ts) n =
      either_rising (nat_lt n (m + size t)) (above_in m t n) (above_among (m + size t) ts n) (in_rising m t n) (among_rising (m + size t) ts n)
