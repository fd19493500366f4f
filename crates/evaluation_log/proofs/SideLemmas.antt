-- The operands beside a way are those of its root, and those beside the rest of the way.
use Rattle.std.proofs.Common.{◌≡◌, ℕ, suc, ◌≤◌, ◌<◌, ◌+◌, ◌-◌, ◌^◌, min, nat_lt, ◌==◌, Bool, true, false, not, ◌&&◌, List, [], ◌∷◌, ◌++◌, refl, sym, ap}
use Rattle.std.proofs.Common.{◌∙◌, arith, Option, Some, None, if◌then◌else◌}
use Rattle.std.specs.Option.{option_or}
use Rattle.std.proofs.lemmas.Bool.Decides.{nat_tests}
use Rattle.ub_base.proofs.Tests.{less_test, not_less_test, less_is, if_true, if_false, some_is, number_equal, number_other}
use Rattle.c_typed.specs.Tree.{Tree, Trees, node, none, more, size, sizes, operands, is_quiet}
use Rattle.evaluation_log.specs.declared.trees.Spot.{Spot}
use Rattle.evaluation_log.specs.Ways.{next_number}
use Rattle.evaluation_log.specs.Sides.{Side, side, sides_from, own_lefts, own_rights, opened, lefts_in, lefts_among, rights_in, rights_among}
use Rattle.evaluation_log.specs.Sides.{first_loud, last_if, last_in, last_among, left_spot, right_spot}
use Rattle.evaluation_log.proofs.WayLemmas.{Walk, here, on, nth, plain_among, walk_of, Spotted, begin_at, next_plain, spot_at}

pub first_joined : (xs ys : List Side) → first_loud (xs ++ ys) ≡ option_or (first_loud xs) (first_loud ys)
first_joined [] ys = refl
first_joined (x ∷ xs) ys = step (is_quiet x.tree) x.number (first_joined xs ys)
  where
    step : (b : Bool) (n : ℕ) → first_loud (xs ++ ys) ≡ option_or (first_loud xs) (first_loud ys) →
        (if b then first_loud (xs ++ ys) else Some n) ≡ option_or (if b then first_loud xs else Some n) (first_loud ys)
    step true n e = e
    step false n e = refl

pub option_or-assoc : (a b c : Option ℕ) → option_or (option_or a b) c ≡ option_or a (option_or b c)
option_or-assoc None b c = refl
option_or-assoc (Some n) b c = refl

pub option_or-none : (a : Option ℕ) → option_or a None ≡ a
option_or-none None = refl
option_or-none (Some n) = refl

-- ---- the operands of one node, by the numbers of neighbours
pub left_plain : (ts : Trees) (m n : ℕ) → m + sizes ts < 2 ^ 32 → left_spot m ts n ≡ first_loud (own_lefts m ts n)
left_plain none m n h = refl
left_plain (more t ts) m n h =
    ap (λ z. if nat_lt n z then None else (if is_quiet t then left_spot z ts n else Some m)) (next_plain m (size t) (omega (arith, h)))
    ∙ step (nat_lt n (m + size t)) (is_quiet t) refl (left_plain ts (m + size t) n (omega (arith, h)))
  where
    step : (b q : Bool) → is_quiet t ≡ q → left_spot (m + size t) ts n ≡ first_loud (own_lefts (m + size t) ts n) →
        (if b then None else (if q then left_spot (m + size t) ts n else Some m))
        ≡ first_loud (if b then [] else side m t ∷ own_lefts (m + size t) ts n)
    step true q e r = refl
    step false true e r = r ∙ sym (if_true _ _ _ e)
    step false false e r = sym (if_false _ _ _ e)

pub behind_plain : (ts : Trees) (m n : ℕ) → n < m → m + sizes ts < 2 ^ 32 → right_spot m ts n ≡ first_loud (sides_from m ts)
behind_plain none m n l h = refl
behind_plain (more t ts) m n l h =
    ap (λ z. if z && not (is_quiet t) then Some m else right_spot (next_number m (size t)) ts n) (less_test n m l)
    ∙ (step (is_quiet t) ∙ ap (λ z. if is_quiet t then right_spot z ts n else Some m) (next_plain m (size t) (omega (arith, h)))
    ∙ ap (λ z. if is_quiet t then z else Some m) (behind_plain ts (m + size t) n (omega (arith, l)) (omega (arith, h))))
  where
    step : (q : Bool) → (if not q then Some m else right_spot (next_number m (size t)) ts n) ≡ (if q then right_spot (next_number m (size t)) ts n else Some m)
    step true = refl
    step false = refl

not_less_is : (n m : ℕ) → nat_lt n m ≡ false → m ≤ n
not_less_is n m h = grind (arith, nat_tests)

pub right_plain : (ts : Trees) (m n : ℕ) → m ≤ n → m + sizes ts < 2 ^ 32 → right_spot m ts n ≡ first_loud (own_rights m ts n)
right_plain none m n l h = refl
right_plain (more t ts) m n l h =
    ap (λ z. if z && not (is_quiet t) then Some m else right_spot (next_number m (size t)) ts n) (not_less_test n m l)
    ∙ (ap (λ z. right_spot z ts n) (next_plain m (size t) (omega (arith, h)))
    ∙ step (nat_lt n (m + size t)) refl (λ le. right_plain ts (m + size t) n le (omega (arith, h))))
  where
    step : (b : Bool) → nat_lt n (m + size t) ≡ b →
        (m + size t ≤ n → right_spot (m + size t) ts n ≡ first_loud (own_rights (m + size t) ts n)) →
        right_spot (m + size t) ts n ≡ first_loud (if b then sides_from (m + size t) ts else own_rights (m + size t) ts n)
    step true e f = behind_plain ts (m + size t) n (less_is n (m + size t) e) (omega (arith, h))
    step false e f = f (not_less_is n (m + size t) e)

-- ---- the way goes on in one operand
module _ (free : ℕ → Bool) (n : ℕ) (a : Spot) (x : Tree) where
  walk_lefts : (i m : ℕ) (ts : Trees) → Walk n a x i m ts → lefts_among free m ts n ≡ lefts_in free a.number x n
  walk_lefts _ _ _ (here i m t ts b e q) =
      if_true _ _ _ b ∙ ap (λ (z : Spot). lefts_in free z.number t n) (sym e) ∙ ap (λ z. lefts_in free a.number z n) (sym q)
  walk_lefts _ _ _ (on i m t ts b w) = if_false _ _ _ b ∙ walk_lefts (suc i) (m + size t) ts w

  walk_rights : (i m : ℕ) (ts : Trees) → Walk n a x i m ts → rights_among free m ts n ≡ rights_in free a.number x n
  walk_rights _ _ _ (here i m t ts b e q) =
      if_true _ _ _ b ∙ ap (λ (z : Spot). rights_in free z.number t n) (sym e) ∙ ap (λ z. rights_in free a.number z n) (sym q)
  walk_rights _ _ _ (on i m t ts b w) = if_false _ _ _ b ∙ walk_rights (suc i) (m + size t) ts w

walk_last : (k n : ℕ) (a : Spot) (x : Tree) (i m : ℕ) (ts : Trees) → Walk n a x i m ts →
    last_among k m ts n ≡ (if n == a.number then last_if k (first_loud (own_rights m ts n)) else last_in a.number x n)
walk_last k n a x _ _ _ (here i m t ts b e q) =
    if_true _ _ _ b
    ∙ (ap (λ z. if n == m then last_if k (first_loud z) else last_in m t n) (sym (if_true _ _ (own_rights (m + size t) ts n) b))
    ∙ (ap (λ (z : Spot). if n == z.number then last_if k (first_loud (own_rights m (more t ts) n)) else last_in z.number t n) (sym e)
    ∙ ap (λ z. if n == a.number then last_if k (first_loud (own_rights m (more t ts) n)) else last_in a.number z n) (sym q)))
walk_last k n a x _ _ _ (on i m t ts b w) =
    if_false _ _ _ b
    ∙ (walk_last k n a x (suc i) (m + size t) ts w
    ∙ ap (λ z. if n == a.number then last_if k (first_loud z) else last_in a.number x n) (sym (if_false _ (sides_from (m + size t) ts) _ b)))

-- ---- or there is no such operand
none_lefts : (free : ℕ → Bool) (n : ℕ) (ts : Trees) (i m : ℕ) → plain_among i m ts n ≡ None → lefts_among free m ts n ≡ []
none_lefts free n none i m h = refl
none_lefts free n (more t ts) i m h = step (nat_lt n (m + size t)) (none_lefts free n ts (suc i) (m + size t)) h
  where
    step : (b : Bool) → (plain_among (suc i) (m + size t) ts n ≡ None → lefts_among free (m + size t) ts n ≡ []) →
        (if b then Some (spot_at i m) else plain_among (suc i) (m + size t) ts n) ≡ None →
        (if b then lefts_in free m t n else lefts_among free (m + size t) ts n) ≡ []
    step true f h = absurd (cc)
    step false f h = f h

none_rights : (free : ℕ → Bool) (n : ℕ) (ts : Trees) (i m : ℕ) → plain_among i m ts n ≡ None → rights_among free m ts n ≡ []
none_rights free n none i m h = refl
none_rights free n (more t ts) i m h = step (nat_lt n (m + size t)) (none_rights free n ts (suc i) (m + size t)) h
  where
    step : (b : Bool) → (plain_among (suc i) (m + size t) ts n ≡ None → rights_among free (m + size t) ts n ≡ []) →
        (if b then Some (spot_at i m) else plain_among (suc i) (m + size t) ts n) ≡ None →
        (if b then rights_in free m t n else rights_among free (m + size t) ts n) ≡ []
    step true f h = absurd (cc)
    step false f h = f h

none_last : (k n : ℕ) (ts : Trees) (i m : ℕ) → plain_among i m ts n ≡ None → last_among k m ts n ≡ None
none_last k n none i m h = refl
none_last k n (more t ts) i m h =
    step (nat_lt n (m + size t)) (if n == m then last_if k (first_loud (sides_from (m + size t) ts)) else last_in m t n)
    (none_last k n ts (suc i) (m + size t)) h
  where
    step : (b : Bool) (o : Option ℕ) → (plain_among (suc i) (m + size t) ts n ≡ None → last_among k (m + size t) ts n ≡ None) →
        (if b then Some (spot_at i m) else plain_among (suc i) (m + size t) ts n) ≡ None →
        (if b then o else last_among k (m + size t) ts n) ≡ None
    step true o f h = absurd (cc)
    step false o f h = f h

-- ---- of a tree whose root has the number k
start : (k : ℕ) (ts : Trees) → k + suc (sizes ts) < 2 ^ 32 → min (k + 1) (2 ^ 32 - 1) ≡ suc k
start k ts h = omega (arith, h)

pub before_start : (k : ℕ) (tree : Tree) (n : ℕ) → k + size tree < 2 ^ 32 →
    left_spot (min (k + 1) (2 ^ 32 - 1)) (operands tree) n ≡ first_loud (own_lefts (suc k) (operands tree) n)
before_start k (node class ts) n h = ap (λ z. left_spot z ts n) (start k ts h) ∙ left_plain ts (suc k) n (omega (arith, h))

pub behind_start : (k : ℕ) (tree : Tree) (n : ℕ) → k < n → k + size tree < 2 ^ 32 →
    right_spot (min (k + 1) (2 ^ 32 - 1)) (operands tree) n ≡ first_loud (own_rights (suc k) (operands tree) n)
behind_start k (node class ts) n l h = ap (λ z. right_spot z ts n) (start k ts h) ∙ right_plain ts (suc k) n (omega (arith, l)) (omega (arith, h))

module _ (free : ℕ → Bool) (k : ℕ) where
  pub lefts_here : (tree : Tree) (n : ℕ) → n ≤ k → first_loud (lefts_in free k tree n) ≡ None
  lefts_here (node class ts) n le = ap first_loud (if_false _ _ _ (not_less_test k n (omega (arith, le))))

  pub rights_here : (tree : Tree) (n : ℕ) → n ≤ k → first_loud (rights_in free k tree n) ≡ None
  rights_here (node class ts) n le = ap first_loud (if_false _ _ _ (not_less_test k n (omega (arith, le))))

  pub lefts_below : (tree x : Tree) (n : ℕ) (a : Spot) → k < n → k + size tree < 2 ^ 32 → Spotted k (operands tree) n ≡ Some a →
      nth (operands tree) a.index ≡ Some x → first_loud (lefts_in free k tree n)
      ≡ option_or (first_loud (opened (free k) (own_lefts (suc k) (operands tree) n))) (first_loud (lefts_in free a.number x n))
  lefts_below (node class ts) x n a less h s e =
      ap first_loud (if_true _ _ _ (less_test k n less)
      ∙ ap (λ z. opened (free k) (own_lefts (suc k) ts n) ++ z)
      (walk_lefts free n a x 0 (suc k) ts (walk_of ts 0 (suc k) n a.index a x (sym (begin_at k ts n h) ∙ s) (omega arith) e)))
      ∙ first_joined (opened (free k) (own_lefts (suc k) ts n)) (lefts_in free a.number x n)

  pub rights_below : (tree x : Tree) (n : ℕ) (a : Spot) → k < n → k + size tree < 2 ^ 32 → Spotted k (operands tree) n ≡ Some a →
      nth (operands tree) a.index ≡ Some x → first_loud (rights_in free k tree n)
      ≡ option_or (first_loud (rights_in free a.number x n)) (first_loud (opened (free k) (own_rights (suc k) (operands tree) n)))
  rights_below (node class ts) x n a less h s e =
      ap first_loud (if_true _ _ _ (less_test k n less)
      ∙ ap (λ z. z ++ opened (free k) (own_rights (suc k) ts n))
      (walk_rights free n a x 0 (suc k) ts (walk_of ts 0 (suc k) n a.index a x (sym (begin_at k ts n h) ∙ s) (omega arith) e)))
      ∙ first_joined (rights_in free a.number x n) (opened (free k) (own_rights (suc k) ts n))

  pub lefts_lost : (tree : Tree) (n : ℕ) → k < n → k + size tree < 2 ^ 32 → Spotted k (operands tree) n ≡ None →
      first_loud (lefts_in free k tree n) ≡ first_loud (opened (free k) (own_lefts (suc k) (operands tree) n))
  lefts_lost (node class ts) n less h s =
      ap first_loud (if_true _ _ _ (less_test k n less)
      ∙ ap (λ z. opened (free k) (own_lefts (suc k) ts n) ++ z) (none_lefts free n ts 0 (suc k) (sym (begin_at k ts n h) ∙ s)))
      ∙ (first_joined (opened (free k) (own_lefts (suc k) ts n)) [] ∙ option_or-none _)

  pub rights_lost : (tree : Tree) (n : ℕ) → k < n → k + size tree < 2 ^ 32 → Spotted k (operands tree) n ≡ None →
      first_loud (rights_in free k tree n) ≡ first_loud (opened (free k) (own_rights (suc k) (operands tree) n))
  rights_lost (node class ts) n less h s =
      ap first_loud (if_true _ _ _ (less_test k n less)
      ∙ ap (λ z. z ++ opened (free k) (own_rights (suc k) ts n)) (none_rights free n ts 0 (suc k) (sym (begin_at k ts n h) ∙ s)))

-- ---- the last operand
pub last_here : (k : ℕ) (tree : Tree) (n : ℕ) → n ≤ k → last_in k tree n ≡ None
last_here k (node class ts) n le = if_false _ _ _ (not_less_test k n (omega (arith, le)))

pub last_lost : (k : ℕ) (tree : Tree) (n : ℕ) → k < n → k + size tree < 2 ^ 32 → Spotted k (operands tree) n ≡ None → last_in k tree n ≡ None
last_lost k (node class ts) n less h s =
    if_true _ _ _ (less_test k n less) ∙ none_last k n ts 0 (suc k) (sym (begin_at k ts n h) ∙ s)

last_walked : (k : ℕ) (tree x : Tree) (n : ℕ) (a : Spot) → k < n → k + size tree < 2 ^ 32 → Spotted k (operands tree) n ≡ Some a →
    nth (operands tree) a.index ≡ Some x →
    last_in k tree n ≡ (if n == a.number then last_if k (first_loud (own_rights (suc k) (operands tree) n)) else last_in a.number x n)
last_walked k (node class ts) x n a less h s e =
    if_true _ _ _ (less_test k n less)
    ∙ walk_last k n a x 0 (suc k) ts (walk_of ts 0 (suc k) n a.index a x (sym (begin_at k ts n h) ∙ s) (omega arith) e)

pub last_below : (k : ℕ) (tree x : Tree) (n : ℕ) (a : Spot) → k < n → k + size tree < 2 ^ 32 → Spotted k (operands tree) n ≡ Some a →
    nth (operands tree) a.index ≡ Some x → (a.number ≡ n → ⊥) → last_in k tree n ≡ last_in a.number x n
last_below k tree x n a less h s e ne =
    last_walked k tree x n a less h s e ∙ if_false _ _ _ (number_other n a.number (λ q. ne (sym q)))

nth_there : (ts : Trees) (i m n : ℕ) (a : Spot) → plain_among i m ts n ≡ Some a → (j : ℕ) × (a.index ≡ i + j) × ((x : Tree) × (nth ts j ≡ Some x))
nth_there none i m n a h = absurd (cc)
nth_there (more t ts) i m n a h = step (nat_lt n (m + size t)) (nth_there ts (suc i) (m + size t) n a) h
  where
    step : (b : Bool) →
        (plain_among (suc i) (m + size t) ts n ≡ Some a → (j : ℕ) × (a.index ≡ suc i + j) × ((x : Tree) × (nth ts j ≡ Some x))) →
        (if b then Some (spot_at i m) else plain_among (suc i) (m + size t) ts n) ≡ Some a →
        (j : ℕ) × (a.index ≡ i + j) × ((x : Tree) × (nth (more t ts) j ≡ Some x))
    step true f h = (0, (let q = ap (λ (z : Spot). z.index) (some_is _ _ h) in omega (arith, q)), (t, refl))
    step false f h = let r = f h in (suc r.0, (let q = r.1 in omega (arith, q)), r.2)

at_zero : (i j : ℕ) → i ≡ 0 + j → i ≡ j
at_zero i j h = omega (arith, h)

pub last_found : (k : ℕ) (tree : Tree) (n : ℕ) (a : Spot) → k < n → k + size tree < 2 ^ 32 → Spotted k (operands tree) n ≡ Some a →
    a.number ≡ n → last_in k tree n ≡ last_if k (right_spot (min (k + 1) (2 ^ 32 - 1)) (operands tree) n)
last_found k (node class ts) n a less h s q =
    let r = nth_there ts 0 (suc k) n a (sym (begin_at k ts n h) ∙ s) in
    last_walked k (node class ts) (r.2.0) n a less h s (ap (nth ts) (at_zero a.index r.0 r.1) ∙ r.2.1)
    ∙ (if_true _ _ _ (number_equal n a.number (sym q)) ∙ ap (last_if k) (sym (behind_start k (node class ts) n less h)))

pub first_opened : (b : Bool) (ss : List Side) → b ≡ true → first_loud ss ≡ first_loud (opened b ss)
first_opened true ss h = refl
first_opened false ss h = absurd (cc)
