-- The listing has no event twice, and each effect straight after its value.
use Rattle.std.proofs.Common.{
  ◌≡◌,
  ℕ,
  suc,
  ◌+◌,
  Bool,
  true,
  false,
  ◌==◌,
  if◌then◌else◌,
  List,
  [],
  ◌∷◌,
  ◌++◌,
  Option,
  Some,
  None,
  refl,
  sym,
  ap,
  subst,
  ◌∙◌,
  inl,
  inr,
  true≢false,
  arith,
}
use Rattle.ub_base.specs.declared.clause.Kind.{Kind}
use Rattle.ub_base.specs.declared.clause.Kind.TheVariants.{Val, Eff, Body}
use Rattle.c_typed.specs.declared.tree.Place.{Place}
use Rattle.c_typed.specs.declared.class.Class.{Class}
use Rattle.c_typed.specs.declared.class.Class.TheVariants.{Object, Constant, Plain, Store, Update, Choice, Comma, Call, Isolated}
use Rattle.c_typed.specs.Tree.{Tree, node, Trees, none, more, size, kinds_of}
use Rattle.c_typed.specs.Order.{Taken, goes, place, same_place, own_events, events, operand_events, has}
use Rattle.core_ir.specs.Term.{is_effect}
use Rattle.elaborate.proofs.Listed.{and_l, and_r}
use Rattle.elaborate.proofs.Ranges.{or_cases, or_b, eq_of, has_right, has_cases, has_itself, same_kind_eq, own_node, events_in, operands_in, if_has}

abbrev pub Unique : List Place → Type 0
Unique [] = Unit {0}
Unique (u ∷ us) = (has us u ≡ true → ⊥) × Unique us

same_eq : (u v : Place) → same_place u v ≡ true → u ≡ v
same_eq u v h =
    let en : u.node ≡ v.node = eq_of u.node v.node (and_l _ _ h) in
    let ek : u.kind ≡ v.kind = same_kind_eq u.kind v.kind (and_r (u.node == v.node) _ h) in
    λ i. record { node = en i; kind = ek i }

unique_append : (us vs : List Place) → Unique us → Unique vs → ((w : Place) → has us w ≡ true → has vs w ≡ true → ⊥) → Unique (us ++ vs)
unique_append [] vs a b f = b
unique_append (u ∷ us) vs a b f = (
  λ h. elim (has_cases us vs u h) [ inl x ↦ a.0 x | inr x ↦ f u (has_itself u us) x ],
  unique_append us vs a.1 b (λ w x y. f w (or_b (same_place w u) _ x) y),
)

not_true : (b : Bool) → (b ≡ true → ⊥) → b ≡ false
not_true true f = absurd (f refl)
not_true false f = refl

pub unique_once : (us vs : List Place) (v : Place) → Unique (us ++ v ∷ vs) → has us v ≡ false
unique_once [] vs v a = refl
unique_once (u ∷ us) vs v a = not_true _ (λ h. elim (or_cases (same_place v u) (has us v) h) [
  | inl x ↦ a.0 (subst (λ z. has (us ++ v ∷ vs) z ≡ true) (same_eq v u x) (has_right us (v ∷ vs) v (has_itself v vs)))
  | inr x ↦ true≢false (sym x ∙ unique_once us vs v a.1)
])

if_unique : (b : Bool) (us : List Place) → Unique us → Unique (if b then us else [])
if_unique true us a = a
if_unique false us a = tt

apart : (k : ℕ) (a b : Kind) → (a ≡ b → ⊥) → has (place k b ∷ []) (place k a) ≡ true → ⊥
apart k a b f h = elim (or_cases (same_place (place k a) (place k b)) false h)
    [ inl x ↦ f (same_kind_eq a b (and_r (k == k) _ x)) | inr x ↦ true≢false (sym x) ]

unique_own : (class : Class) (k : ℕ) → Unique (own_events k class)
unique_own Object k = tt
unique_own Constant k = tt
unique_own Plain k = (λ h. true≢false (sym h), tt)
unique_own Choice k = (λ h. true≢false (sym h), tt)
unique_own Comma k = (λ h. true≢false (sym h), tt)
unique_own Store k = (apart k Val Eff (λ e. absurd (cc)), (λ h. true≢false (sym h), tt))
unique_own Update k = (apart k Val Eff (λ e. absurd (cc)), (λ h. true≢false (sym h), tt))
unique_own Call k = (apart k Body Val (λ e. absurd (cc)), (λ h. true≢false (sym h), tt))
unique_own Isolated k = (apart k Body Val (λ e. absurd (cc)), (λ h. true≢false (sym h), tt))

mutual
  pub unique : (taken : Taken) (t : Tree) (k : ℕ) → Unique (events taken k t)
  unique taken (node class ts) k =
      unique_append (operand_events taken class (taken k) 0 (suc k) ts) (own_events k class) (unique_all taken ts class (taken k) 0 (suc k))
      (unique_own class k)
      (λ w x y. let r = operands_in taken class (taken k) ts 0 (suc k) w x in let e = own_node (kinds_of class) k w y in omega (arith, r.0, e))

  unique_all : (taken : Taken) (ts : Trees) (class : Class) (choice : Option ℕ) (i m : ℕ) → Unique (operand_events taken class choice i m ts)
  unique_all taken none class choice i m = tt
  unique_all taken (more t ts) class choice i m =
      unique_append (if goes class choice i then events taken m t else []) (operand_events taken class choice (suc i) (m + size t) ts)
      (if_unique (goes class choice i) (events taken m t) (unique taken t m))
      (unique_all taken ts class choice (suc i) (m + size t))
      (λ w x y. let r = events_in taken t m w (if_has (goes class choice i) (events taken m t) w x) in
      let s = operands_in taken class choice ts (suc i) (m + size t) w y in omega (arith, r.1, s.0))

-- each effect follows the value of its node
abbrev Paired : Option Place → List Place → Type 0
Paired last [] = Unit {0}
Paired last (u ∷ us) = (is_effect u.kind ≡ true → last ≡ Some (place u.node Val)) × Paired (Some u) us

paired_append : (us vs : List Place) (last : Option Place) → Paired last us → ((q : Option Place) → Paired q vs) → Paired last (us ++ vs)
paired_append [] vs last a f = f last
paired_append (u ∷ us) vs last a f = (a.0, paired_append us vs (Some u) a.1 f)

if_paired : (b : Bool) (us : List Place) (last : Option Place) → Paired last us → Paired last (if b then us else [])
if_paired true us last a = a
if_paired false us last a = tt

paired_own : (class : Class) (k : ℕ) (last : Option Place) → Paired last (own_events k class)
paired_own Object k last = tt
paired_own Constant k last = tt
paired_own Plain k last = (λ h. absurd (true≢false (sym h)), tt)
paired_own Choice k last = (λ h. absurd (true≢false (sym h)), tt)
paired_own Comma k last = (λ h. absurd (true≢false (sym h)), tt)
paired_own Store k last = (λ h. absurd (true≢false (sym h)), (λ h. refl, tt))
paired_own Update k last = (λ h. absurd (true≢false (sym h)), (λ h. refl, tt))
paired_own Call k last = (λ h. absurd (true≢false (sym h)), (λ h. absurd (true≢false (sym h)), tt))
paired_own Isolated k last = (λ h. absurd (true≢false (sym h)), (λ h. absurd (true≢false (sym h)), tt))

mutual
  paired : (taken : Taken) (t : Tree) (k : ℕ) (last : Option Place) → Paired last (events taken k t)
  paired taken (node class ts) k last = paired_append (operand_events taken class (taken k) 0 (suc k) ts) (own_events k class) last
      (paired_all taken ts class (taken k) 0 (suc k) last) (paired_own class k)

  paired_all : (taken : Taken) (ts : Trees) (class : Class) (choice : Option ℕ) (i m : ℕ) (last : Option Place) →
      Paired last (operand_events taken class choice i m ts)
  paired_all taken none class choice i m last = tt
  paired_all taken (more t ts) class choice i m last =
      paired_append (if goes class choice i then events taken m t else []) (operand_events taken class choice (suc i) (m + size t) ts) last
      (if_paired (goes class choice i) (events taken m t) last (paired taken t m last))
      (paired_all taken ts class choice (suc i) (m + size t))

value_of : (u v : Place) → Some u ≡ Some v → u ≡ v
value_of u v e = cc

after_value : (n : ℕ) (us vs : List Place) (u : Place) → Paired (Some u) (us ++ place n Eff ∷ vs) → (ws : List Place) × (u ∷ us ≡ ws ++ place n Val ∷ [])
after_value n [] vs u a = ([], ap (λ z. z ∷ []) (value_of u (place n Val) (a.0 refl)))
after_value n (x ∷ xs) vs u a = let r = after_value n xs vs x a.1 in (u ∷ r.0, ap (λ z. u ∷ z) r.1)

from_start : (n : ℕ) (us vs : List Place) → Paired None (us ++ place n Eff ∷ vs) → (ws : List Place) × (us ≡ ws ++ place n Val ∷ [])
from_start n [] vs a = absurd (let e : None ≡ Some (place n Val) = a.0 refl in cc)
from_start n (u ∷ us) vs a = after_value n us vs u a.1

pub effect_next : (taken : Taken) (root : Tree) (us vs : List Place) (n : ℕ) → events taken 0 root ≡ us ++ place n Eff ∷ vs → (ws : List Place) ×
    (us ≡ ws ++ place n Val ∷ [])
effect_next taken root us vs n e = from_start n us vs (subst (Paired None) e (paired taken root 0 None))
