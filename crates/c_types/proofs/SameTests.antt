-- The tests of equal types, of compatible ones and of those that agree tell them.
use Rattle.std.proofs.Common.{◌≡◌, ◌⊎◌, inl, inr, ℕ, Bool, true, false, ◌&&◌, ◌||◌, ◌==◌, ◌↔◌, IsTrue, Option, Some, None, refl, sym, ap, rules, arith}
use denote.Enum.Bare.{same_true, true_same}
use Rattle.c_types.specs.declared.kind.IntKind.{IntKind}
use Rattle.c_types.specs.declared.kind.IntKind.TheVariants.{Int}
use Rattle.c_types.specs.contracts.kind.IntKind.{the_type as kind_type}
use Rattle.c_types.specs.Types.{
  CType,
  Params,
  void,
  int,
  enumeration,
  pointer,
  array,
  struct,
  union,
  function,
  none,
  more,
  Qualified,
  Signature,
  Matches,
  EachMatches,
  SameEnumeration,
  SizesAgree,
  SameSignature,
  Agrees,
  kind_of,
  are_forms,
}
use Rattle.c_types.specs.Same.{
  same_kind,
  same_qualifier,
  same_count,
  same,
  each_same,
  same_qualified,
  sizes_agree,
  same_enumeration,
  matches,
  each_matches,
  compatible_functions,
  agrees,
}

both : (b c : Bool) (P Q : Type 0) → IsTrue b ↔ P → IsTrue c ↔ Q → IsTrue (b && c) ↔ (P × Q)
both true true P Q p q = (λ h. (p.0 refl, q.0 refl), λ h. refl)
both true false P Q p q = (λ h. absurd (cc), λ h. q.1 h.1)
both false c P Q p q = (λ h. absurd (cc), λ h. p.1 h.0)

three : (a b c : Bool) (P Q R : Type 0) → IsTrue a ↔ P → IsTrue b ↔ Q → IsTrue c ↔ R → IsTrue (a && (b && c)) ↔ (P × Q × R)
three true true true P Q R p q r = (λ h. (p.0 refl, q.0 refl, r.0 refl), λ h. refl)
three true true false P Q R p q r = (λ h. absurd (cc), λ h. r.1 h.2)
three true false c P Q R p q r = (λ h. absurd (cc), λ h. q.1 h.1)
three false b c P Q R p q r = (λ h. absurd (cc), λ h. p.1 h.0)

kind_tells : (j k : IntKind) → IsTrue (same_kind j k) ↔ (j ≡ k)
kind_tells j k = (same_true kind_type (search rules) j k, true_same kind_type j k)

number_tells : (m n : ℕ) → IsTrue (m == n) ↔ (m ≡ n)
number_tells m n = (λ h. grind (arith, h), λ h. grind (arith, h))

qualifier_tells : (c d : Bool) → IsTrue (same_qualifier c d) ↔ (c ≡ d)
qualifier_tells true d = (λ h. sym h, λ h. sym h)
qualifier_tells false true = (λ h. absurd (cc), λ h. absurd (cc))
qualifier_tells false false = (λ h. refl, λ h. refl)

sizes_tell : (m n : Option ℕ) → IsTrue (sizes_agree m n) ↔ SizesAgree m n
sizes_tell (Some m) (Some n) = number_tells m n
sizes_tell None n = (λ h. tt, λ h. refl)
sizes_tell (Some m) None = (λ h. tt, λ h. refl)

enumerations_tell : (as_int : Bool) (m n : ℕ) → IsTrue (same_enumeration as_int m n) ↔ SameEnumeration as_int m n
enumerations_tell true m n = (λ h. tt, λ h. refl)
enumerations_tell false m n = number_tells m n

module _ (as_int : Bool) where
  mutual
    pub matches_tells : (a b : CType) → IsTrue (matches as_int a b) ↔ Matches as_int a b
    matches_tells void void = (λ h. tt, λ h. refl)
    matches_tells (int j) (int k) = kind_tells j k
    matches_tells (int k) (enumeration n) = kind_tells k Int
    matches_tells (enumeration n) (int k) = kind_tells k Int
    matches_tells (enumeration m) (enumeration n) = enumerations_tell as_int m n
    matches_tells (pointer c a) (pointer d b) =
        both (same_qualifier c d) (matches as_int a b) (c ≡ d) (Matches as_int a b) (qualifier_tells c d) (matches_tells a b)
    matches_tells (array c a m) (array d b n) =
        three (same_qualifier c d) (matches as_int a b) (sizes_agree m n) (c ≡ d) (Matches as_int a b) (SizesAgree m n) (qualifier_tells c d)
        (matches_tells a b) (sizes_tell m n)
    matches_tells (struct m) (struct n) = number_tells m n
    matches_tells (union m) (union n) = number_tells m n
    matches_tells (function r ps v) (function s qs w) =
        three (matches as_int r s) (each_matches as_int ps qs) (same_qualifier v w) (Matches as_int r s) (EachMatches as_int ps qs) (v ≡ w)
        (matches_tells r s) (each_tells ps qs) (qualifier_tells v w)
    matches_tells a b = (λ h. absurd (cc), λ h. absurd h)

    pub each_tells : (ps qs : Params) → IsTrue (each_matches as_int ps qs) ↔ EachMatches as_int ps qs
    each_tells none none = (λ h. tt, λ h. refl)
    each_tells (more c a ps) (more d b qs) =
        both (matches as_int a b) (each_matches as_int ps qs) (Matches as_int a b) (EachMatches as_int ps qs) (matches_tells a b) (each_tells ps qs)
    each_tells ps qs = (λ h. absurd (cc), λ h. absurd h)

pub functions_tell : (f g : Signature) → IsTrue (compatible_functions f g) ↔ SameSignature false f g
functions_tell f g =
    three (matches false f.result g.result) (each_matches false f.params g.params) (same_qualifier f.variadic g.variadic)
    (Matches false f.result g.result) (EachMatches false f.params g.params) (f.variadic ≡ g.variadic)
    (matches_tells false f.result g.result) (each_tells false f.params g.params) (qualifier_tells f.variadic g.variadic)

second_of : (P : Type 0) (c : Bool) → (P → IsTrue false) → P ⊎ IsTrue c → IsTrue c
second_of P c never (inl x) = let e : false ≡ true = never x in absurd (cc)
second_of P c never (inr t) = t

one_of : (b c : Bool) (P : Type 0) → IsTrue b ↔ P → IsTrue (b || c) ↔ (P ⊎ IsTrue c)
one_of true c P p = (λ h. inl (p.0 refl), λ h. refl)
one_of false c P p = (λ h. inr h, λ h. second_of P c p.1 h)

pub agrees_tells : (a e : CType) → IsTrue (agrees a e) ↔ Agrees a e
agrees_tells a e = one_of (matches true a e) (are_forms (kind_of a) (kind_of e)) (Matches true a e) (matches_tells true a e)

-- two tests of one fact are one
pub one_test : (b c : Bool) (P : Type 0) → IsTrue b ↔ P → IsTrue c ↔ P → b ≡ c
one_test true c P p q = sym (q.1 (p.0 refl))
one_test false true P p q = p.1 (q.0 refl)
one_test false false P p q = refl

through : (b : Bool) (P Q : Type 0) → IsTrue b ↔ P → (P → Q) → (Q → P) → IsTrue b ↔ Q
through b P Q e f g = (λ h. f (e.0 h), λ h. e.1 (g h))

counts_tell : (m n : Option ℕ) → IsTrue (same_count m n) ↔ (m ≡ n)
counts_tell (Some m) (Some n) = through (m == n) (m ≡ n) (Some m ≡ Some n) (number_tells m n) (λ h. ap Some h) (λ h. cc)
counts_tell None None = (λ h. refl, λ h. refl)
counts_tell None (Some n) = (λ h. absurd (cc), λ h. absurd (cc))
counts_tell (Some m) None = (λ h. absurd (cc), λ h. absurd (cc))

mutual
  pub equal_tells : (a b : CType) → IsTrue (same a b) ↔ (a ≡ b)
  equal_tells void void = (λ h. refl, λ h. refl)
  equal_tells (int j) (int k) = through (same_kind j k) (j ≡ k) (int j ≡ int k) (kind_tells j k) (λ h. ap int h) (λ h. cc)
  equal_tells (enumeration m) (enumeration n) =
      through (m == n) (m ≡ n) (enumeration m ≡ enumeration n) (number_tells m n) (λ h. ap enumeration h) (λ h. cc)
  equal_tells (pointer c a) (pointer d b) =
      through (same_qualifier c d && same a b) ((c ≡ d) × (a ≡ b)) (pointer c a ≡ pointer d b)
      (both (same_qualifier c d) (same a b) (c ≡ d) (a ≡ b) (qualifier_tells c d) (equal_tells a b)) (λ h. cc) (λ h. (cc, cc))
  equal_tells (array c a m) (array d b n) =
      through (same_count m n && (same_qualifier c d && same a b)) ((m ≡ n) × (c ≡ d) × (a ≡ b)) (array c a m ≡ array d b n)
      (three (same_count m n) (same_qualifier c d) (same a b) (m ≡ n) (c ≡ d) (a ≡ b) (counts_tell m n) (qualifier_tells c d) (equal_tells a b)) (λ h. cc)
      (λ h. (cc, cc, cc))
  equal_tells (struct m) (struct n) = through (m == n) (m ≡ n) (struct m ≡ struct n) (number_tells m n) (λ h. ap struct h) (λ h. cc)
  equal_tells (union m) (union n) = through (m == n) (m ≡ n) (union m ≡ union n) (number_tells m n) (λ h. ap union h) (λ h. cc)
  equal_tells (function r ps v) (function s qs w) =
      through (same_qualifier v w && (same r s && each_same ps qs)) ((v ≡ w) × (r ≡ s) × (ps ≡ qs)) (function r ps v ≡ function s qs w)
      (three (same_qualifier v w) (same r s) (each_same ps qs) (v ≡ w) (r ≡ s) (ps ≡ qs) (qualifier_tells v w) (equal_tells r s) (each_equal ps qs)) (λ h. cc)
      (λ h. (cc, cc, cc))
  equal_tells a b = (λ h. absurd (cc), λ h. absurd (cc))

  each_equal : (ps qs : Params) → IsTrue (each_same ps qs) ↔ (ps ≡ qs)
  each_equal none none = (λ h. refl, λ h. refl)
  each_equal (more c a ps) (more d b qs) =
      through ((same_qualifier c d && same a b) && each_same ps qs) (((c ≡ d) × (a ≡ b)) × (ps ≡ qs)) (more c a ps ≡ more d b qs)
      (both (same_qualifier c d && same a b) (each_same ps qs) ((c ≡ d) × (a ≡ b)) (ps ≡ qs)
      (both (same_qualifier c d) (same a b) (c ≡ d) (a ≡ b) (qualifier_tells c d) (equal_tells a b)) (each_equal ps qs)) (λ h. cc) (λ h. ((cc, cc), cc))
  each_equal ps qs = (λ h. absurd (cc), λ h. absurd (cc))

pub qualified_tell : (p q : Qualified) → IsTrue (same_qualified p q) ↔ (p ≡ q)
qualified_tell p q =
    through (same_qualified p q) ((p.constant ≡ q.constant) × (p.ty ≡ q.ty)) (p ≡ q)
    (both (same_qualifier p.constant q.constant) (same p.ty q.ty) (p.constant ≡ q.constant) (p.ty ≡ q.ty) (qualifier_tells p.constant q.constant)
    (equal_tells p.ty q.ty))
    (λ h i. record { constant = h.0 i; ty = h.1 i }) (λ h. (ap (λ (r : Qualified). r.constant) h, ap (λ (r : Qualified). r.ty) h))
