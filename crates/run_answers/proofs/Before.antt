-- What comes before an event of a node: the values of its operands, and the earlier event of the node.
use Rattle.std.proofs.Common.{◌≡◌, ◌≢◌, ℕ, suc, ◌+◌, ◌<◌, ◌≤◌, Bool, true, false, not, ◌&&◌, ◌||◌, ◌==◌, nat_lt, if◌then◌else◌, true≢false}
use Rattle.std.proofs.Common.{Option, Some, refl, sym, ap, ◌∙◌, subst, ◌⊎◌, inl, inr, arith}
use Rattle.std.proofs.lemmas.Bool.Decides.{nat_tests}
use Rattle.ub_base.specs.declared.clause.Kind.{Kind}
use Rattle.ub_base.specs.declared.clause.Kind.TheVariants.{Val, Eff, Body}
use Rattle.c_types.specs.Types.{CType}
use Rattle.c_typed.specs.declared.class.Class.{Class}
use Rattle.c_typed.specs.declared.class.Class.TheVariants.{Call}
use Rattle.c_typed.specs.Tree.{size, sizes, is_quiet}
use Rattle.c_typed.specs.Order.{Taken, place, own_rule, is_body, is_last}
use Rattle.c_typed.specs.Decide.{is_before, rises, to_val, between, lifts}
use Rattle.c_model.specs.Program.{Head, Expr, expr, Exprs, none, more, tree_of, trees_of, head_class}
use Rattle.c_model.specs.Steps.{at_node, at_node_among}

abbrev pub is_call : Class → Bool
is_call Call = true
is_call _ = false

-- the number of an operand that isn't quiet
abbrev pub is_operand : ℕ → Exprs → ℕ → Bool
is_operand m none c = false
is_operand m (more t ts) c = ((m == c) && not (is_quiet (tree_of t))) || is_operand (m + size (tree_of t)) ts c

size_pos : (t : Expr) → 1 ≤ size (tree_of t)
size_pos (expr h ty line ts) = omega arith

eq_of : (a b : ℕ) → (a == b) ≡ true → a ≡ b
eq_of a b h = grind (arith, nat_tests, h)

lt_lt : (a b : ℕ) → a < b → nat_lt a b ≡ true
lt_lt a b h = grind (arith, nat_tests, h)

ge_lt : (a b : ℕ) → b ≤ a → nat_lt a b ≡ false
ge_lt a b h = grind (arith, nat_tests, h)

ne_ne : (a b : ℕ) → a ≢ b → (a == b) ≡ false
ne_ne a b h = grind (arith, nat_tests, h)

eq_eq : (a : ℕ) → (a == a) ≡ true
eq_eq a = grind (arith, nat_tests)

if_true : {A : Type 0} (b : Bool) (p q : A) → b ≡ true → (if b then p else q) ≡ p
if_true true p q h = refl
if_true false p q h = absurd (cc)

if_false : {A : Type 0} (b : Bool) (p q : A) → b ≡ false → (if b then p else q) ≡ q
if_false false p q h = refl
if_false true p q h = absurd (cc)

or_cases : (a b : Bool) → (a || b) ≡ true → (a ≡ true) ⊎ (b ≡ true)
or_cases true b h = inl refl
or_cases false b h = inr h

and_l : (a b : Bool) → (a && b) ≡ true → a ≡ true
and_l true b h = refl
and_l false b h = h

and_r : (a b : Bool) → (a && b) ≡ true → b ≡ true
and_r true b h = h
and_r false b h = absurd (cc)

and_b : (a b : Bool) → a ≡ true → b ≡ true → (a && b) ≡ true
and_b true b h k = k
and_b false b h k = h

or_b : (a b : Bool) → b ≡ true → (a || b) ≡ true
or_b true b h = refl
or_b false b h = h

or_a : (a b : Bool) → a ≡ true → (a || b) ≡ true
or_a true b h = refl
or_a false b h = absurd (cc)

some_inj : {t v : Expr} → Some t ≡ Some v → t ≡ v
some_inj h = cc

operand_in : (ts : Exprs) (m c : ℕ) → is_operand m ts c ≡ true → (m ≤ c) × (c < m + sizes (trees_of ts))
operand_in none m c h = absurd (true≢false (sym h))
operand_in (more t ts) m c h = elim (or_cases ((m == c) && not (is_quiet (tree_of t))) _ h) [
  | inl a ↦ (let e = eq_of m c (and_l _ _ a) in let z = size_pos t in (omega (arith, e), omega (arith, e, z)))
  | inr a ↦ (let r = operand_in ts (m + size (tree_of t)) c a in (omega (arith, r.0), omega (arith, r.1)))
]

-- where a node of the expression stands
abbrev pub InAt : ℕ → ℕ → Expr → ℕ → Type 0
InAt k m e to = (k ≤ m) × (m + size (tree_of e) ≤ to)

root_in : (b : Bool) (e0 : Expr) (o : Option Expr) (k m : ℕ) (e : Expr) → (k == m) ≡ b → (o ≡ Some e → InAt (suc k) m e (k + size (tree_of e0)))
    → (if b then Some e0 else o) ≡ Some e → InAt k m e (k + size (tree_of e0))
root_in true e0 o k m e q f h =
    let km = eq_of k m q in
    let es = ap (λ z. size (tree_of z)) (some_inj h) in
    (omega (arith, km), omega (arith, km, es))
root_in false e0 o k m e q f h = let r = f h in (omega (arith, r.0), r.1)

among_in : (b : Bool) (t : Expr) (ts : Exprs) (p o : Option Expr) (k m : ℕ) (e : Expr) → (p ≡ Some e → InAt k m e (k + size (tree_of t)))
    → (o ≡ Some e → InAt (k + size (tree_of t)) m e (k + size (tree_of t) + sizes (trees_of ts)))
    → (if b then p else o) ≡ Some e → InAt k m e (k + (size (tree_of t) + sizes (trees_of ts)))
among_in true t ts p o k m e f g h = let r = f h in (r.0, omega (arith, r.1))
among_in false t ts p o k m e f g h = let r = g h in (omega (arith, r.0), omega (arith, r.1))

mutual
  pub node_in : (t : Expr) (k m : ℕ) (e : Expr) → at_node k t m ≡ Some e → InAt k m e (k + size (tree_of t))
  node_in (expr h ty line ts) k m e q =
      root_in (k == m) (expr h ty line ts) (at_node_among (suc k) ts m) k m e refl (λ z. let r = node_among_in ts (suc k) m e z in (r.0, omega (arith, r.1))) q

  pub node_among_in : (ts : Exprs) (k m : ℕ) (e : Expr) → at_node_among k ts m ≡ Some e → InAt k m e (k + sizes (trees_of ts))
  node_among_in none k m e q = absurd (cc)
  node_among_in (more t ts) k m e q =
      among_in (nat_lt m (k + size (tree_of t))) t ts (at_node k t m) (at_node_among (k + size (tree_of t)) ts m) k m e (node_in t k m e)
      (node_among_in ts (k + size (tree_of t)) m e) q

-- the value of an operand comes before the events of its node, but before a body only in a call
module _ (taken : Taken) (m c : ℕ) (kind : Kind) (h : Head) (ty : CType) (line : ℕ) (us : Exprs) (operand : is_operand (suc m) us c ≡ true)
    (calls : kind ≡ Body → is_call (head_class h (trees_of us)) ≡ true) where
  abbrev class : Class
  class = head_class h (trees_of us)

  call_lifts : (n : Class) (choice : Option ℕ) (i : ℕ) (last : Bool) → is_call n ≡ true → lifts n choice i last Body ≡ true
  call_lifts Call choice i last q = refl
  call_lifts _ choice i last q = absurd (cc)

  val_itself : (t : Expr) (k : ℕ) → to_val taken k (tree_of t) (place k Val) ≡ true
  val_itself (expr p py pl ts) k = if_true (k == k) _ _ (eq_eq k)

  reaches : (kind : Kind) → (kind ≡ Body → is_call class ≡ true) → (choice : Option ℕ) (i : ℕ) (last q : Bool) (t : Expr) (k : ℕ) → q ≡ true
      → lifts class choice i last kind || (not (is_body kind) && (q && to_val taken k (tree_of t) (place k Val))) ≡ true
  reaches Val g choice i last q t k e = or_b (lifts class choice i last Val) _ (and_b _ _ e (val_itself t k))
  reaches Eff g choice i last q t k e = or_b (lifts class choice i last Eff) _ (and_b _ _ e (val_itself t k))
  reaches Body g choice i last q t k e = or_a _ _ (call_lifts class choice i last (g refl))

  -- at the node itself
  operand_rises : (ts : Exprs) (choice : Option ℕ) (i k : ℕ) → is_operand k ts c ≡ true → rises taken class choice i k (trees_of ts) (place c Val) kind ≡ true
  operand_rises none choice i k e = absurd (true≢false (sym e))
  operand_rises (more t ts) choice i k e = elim (or_cases ((k == c) && not (is_quiet (tree_of t))) _ e) [
    | inl a ↦ (let q = eq_of k c (and_l _ _ a) in
        let z = size_pos t in
        let r = reaches kind calls choice i (is_last (trees_of ts)) (not (is_quiet (tree_of t))) t k (and_r (k == c) _ a) in
        if_true (nat_lt c (k + size (tree_of t))) _ _ (lt_lt _ _ (omega (arith, q, z)))
        ∙ subst (λ x. lifts class choice i (is_last (trees_of ts)) kind ||
        (not (is_body kind) && (not (is_quiet (tree_of t)) && to_val taken k (tree_of t) (place x Val))) ≡ true) q r)
    | inr a ↦ (let r = operand_in ts (k + size (tree_of t)) c a in
        if_false (nat_lt c (k + size (tree_of t))) _ _ (ge_lt _ _ r.0) ∙ operand_rises ts choice (suc i) (k + size (tree_of t)) a)
  ]

  -- in the tree of the node itself, whatever number it has
  at_root : (e0 : Expr) (k : ℕ) → e0 ≡ expr h ty line us → k ≡ m → is_before taken k (tree_of e0) (place c Val) (place m kind) ≡ true
  at_root e0 k q e =
      let r = operand_in us (suc m) c operand in
      let here : is_before taken m (tree_of (expr h ty line us)) (place c Val) (place m kind) ≡ true =
      if_false (c == m) _ _ (ne_ne c m (omega (arith, r.0))) ∙ (if_true (m == m) _ _ (eq_eq m) ∙ operand_rises us (taken m) 0 (suc m) operand) in
      subst (λ z. is_before taken z (tree_of e0) (place c Val) (place m kind) ≡ true) (sym e)
      (subst (λ z. is_before taken m (tree_of z) (place c Val) (place m kind) ≡ true) (sym q) here)

  root_operand : (b : Bool) (p : Head) (py : CType) (pl : ℕ) (ts : Exprs) (k : ℕ) → (k == m) ≡ b
      → (at_node_among (suc k) ts m ≡ Some (expr h ty line us) → between taken (head_class p (trees_of ts)) (taken k) 0 (suc k) (trees_of ts) (place c Val)
      (place m kind) ≡ true)
      → (if b then Some (expr p py pl ts) else at_node_among (suc k) ts m) ≡ Some (expr h ty line us) →
      is_before taken k (tree_of (expr p py pl ts)) (place c Val) (place m kind) ≡ true
  root_operand true p py pl ts k e f q = at_root (expr p py pl ts) k (some_inj q) (eq_of k m e)
  root_operand false p py pl ts k e f q =
      let r = operand_in us (suc m) c operand in
      let z = node_among_in ts (suc k) m (expr h ty line us) q in
      if_false (c == k) _ _ (ne_ne c k (omega (arith, r.0, z.0))) ∙ (if_false (m == k) _ _ (ne_ne m k (omega (arith, z.0))) ∙ f q)

  among_operand : (b : Bool) (p : Class) (choice : Option ℕ) (i : ℕ) (t : Expr) (ts : Exprs) (k : ℕ) → nat_lt m (k + size (tree_of t)) ≡ b
      → (at_node k t m ≡ Some (expr h ty line us) → is_before taken k (tree_of t) (place c Val) (place m kind) ≡ true)
      → (at_node_among (k + size (tree_of t)) ts m ≡ Some (expr h ty line us) →
      between taken p choice (suc i) (k + size (tree_of t)) (trees_of ts) (place c Val) (place m kind) ≡ true)
      → (if b then at_node k t m else at_node_among (k + size (tree_of t)) ts m) ≡ Some (expr h ty line us) →
      between taken p choice i k (trees_of (more t ts)) (place c Val) (place m kind) ≡ true
  among_operand true p choice i t ts k e f g q =
      let r = operand_in us (suc m) c operand in
      let z = node_in t k m (expr h ty line us) q in
      if_true (nat_lt c (k + size (tree_of t))) _ _ (lt_lt _ _ (omega (arith, r.1, z.1))) ∙ (if_true (nat_lt m (k + size (tree_of t))) _ _ e ∙ f q)
  among_operand false p choice i t ts k e f g q =
      let r = operand_in us (suc m) c operand in
      let z = node_among_in ts (k + size (tree_of t)) m (expr h ty line us) q in
      if_false (nat_lt c (k + size (tree_of t))) _ _ (ge_lt _ _ (omega (arith, r.0, z.0))) ∙ (if_false (nat_lt m (k + size (tree_of t))) _ _ e ∙ g q)

  mutual
    pub operand_before : (t : Expr) (k : ℕ) → at_node k t m ≡ Some (expr h ty line us) → is_before taken k (tree_of t) (place c Val) (place m kind) ≡ true
    operand_before (expr p py pl ts) k q = root_operand (k == m) p py pl ts k refl
        (λ g. operand_between ts (suc k) 0 (head_class p (trees_of ts)) (taken k) g) q

    operand_between : (ts : Exprs) (k i : ℕ) (p : Class) (choice : Option ℕ) → at_node_among k ts m ≡ Some (expr h ty line us) →
        between taken p choice i k (trees_of ts) (place c Val) (place m kind) ≡ true
    operand_between none k i p choice q = absurd (cc)
    operand_between (more t ts) k i p choice q =
        among_operand (nat_lt m (k + size (tree_of t))) p choice i t ts k refl (operand_before t k)
        (operand_between ts (k + size (tree_of t)) (suc i) p choice) q

-- of two events of one node, the one that the node's own rule puts first comes before
module _ (taken : Taken) (m : ℕ) (first second : Kind) (h : Head) (ty : CType) (line : ℕ) (us : Exprs)
    (own : own_rule (head_class h (trees_of us)) first second ≡ true) where
  own_at_root : (e0 : Expr) (k : ℕ) → e0 ≡ expr h ty line us → k ≡ m → is_before taken k (tree_of e0) (place m first) (place m second) ≡ true
  own_at_root e0 k q e =
      let here : is_before taken m (tree_of (expr h ty line us)) (place m first) (place m second) ≡ true =
      if_true (m == m) _ _ (eq_eq m) ∙ and_b _ _ (eq_eq m) own in
      subst (λ z. is_before taken z (tree_of e0) (place m first) (place m second) ≡ true) (sym e)
      (subst (λ z. is_before taken m (tree_of z) (place m first) (place m second) ≡ true) (sym q) here)

  own_root : (b : Bool) (p : Head) (py : CType) (pl : ℕ) (ts : Exprs) (k : ℕ) → (k == m) ≡ b
      → (at_node_among (suc k) ts m ≡ Some (expr h ty line us) → between taken (head_class p (trees_of ts)) (taken k) 0 (suc k) (trees_of ts) (place m first)
      (place m second) ≡ true)
      → (if b then Some (expr p py pl ts) else at_node_among (suc k) ts m) ≡ Some (expr h ty line us) →
      is_before taken k (tree_of (expr p py pl ts)) (place m first) (place m second) ≡ true
  own_root true p py pl ts k e f q = own_at_root (expr p py pl ts) k (some_inj q) (eq_of k m e)
  own_root false p py pl ts k e f q =
      let z = node_among_in ts (suc k) m (expr h ty line us) q in
      let ne : (m == k) ≡ false = ne_ne m k (omega (arith, z.0)) in
      if_false (m == k) _ _ ne ∙ (if_false (m == k) _ _ ne ∙ f q)

  own_among : (b : Bool) (p : Class) (choice : Option ℕ) (i : ℕ) (t : Expr) (ts : Exprs) (k : ℕ) → nat_lt m (k + size (tree_of t)) ≡ b
      → (at_node k t m ≡ Some (expr h ty line us) → is_before taken k (tree_of t) (place m first) (place m second) ≡ true)
      → (at_node_among (k + size (tree_of t)) ts m ≡ Some (expr h ty line us) →
      between taken p choice (suc i) (k + size (tree_of t)) (trees_of ts) (place m first) (place m second) ≡ true)
      → (if b then at_node k t m else at_node_among (k + size (tree_of t)) ts m) ≡ Some (expr h ty line us) →
      between taken p choice i k (trees_of (more t ts)) (place m first) (place m second) ≡ true
  own_among true p choice i t ts k e f g q = if_true (nat_lt m (k + size (tree_of t))) _ _ e ∙ (if_true (nat_lt m (k + size (tree_of t))) _ _ e ∙ f q)
  own_among false p choice i t ts k e f g q = if_false (nat_lt m (k + size (tree_of t))) _ _ e ∙ (if_false (nat_lt m (k + size (tree_of t))) _ _ e ∙ g q)

  mutual
    pub own_before : (t : Expr) (k : ℕ) → at_node k t m ≡ Some (expr h ty line us) → is_before taken k (tree_of t) (place m first) (place m second) ≡ true
    own_before (expr p py pl ts) k q = own_root (k == m) p py pl ts k refl (λ g. own_between ts (suc k) 0 (head_class p (trees_of ts)) (taken k) g) q

    own_between : (ts : Exprs) (k i : ℕ) (p : Class) (choice : Option ℕ) → at_node_among k ts m ≡ Some (expr h ty line us) →
        between taken p choice i k (trees_of ts) (place m first) (place m second) ≡ true
    own_between none k i p choice q = absurd (cc)
    own_between (more t ts) k i p choice q =
        own_among (nat_lt m (k + size (tree_of t))) p choice i t ts k refl (own_before t k) (own_between ts (k + size (tree_of t)) (suc i) p choice) q
