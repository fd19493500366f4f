-- Which accesses suit which bytes: the tests against the relations of the types.
use Rattle.std.proofs.Common.{
  ◌≡◌,
  ℕ,
  suc,
  zero,
  ◌-◌,
  ◌<◌,
  ◌≤◌,
  ◌⊎◌,
  inl,
  inr,
  Bool,
  true,
  false,
  ◌&&◌,
  ◌||◌,
  cond,
  refl,
  sym,
  ap,
  ◌∙◌,
  arith,
  List,
  [],
  ◌∷◌,
  map,
  Option,
  Some,
  None,
}
use Rattle.std.specs.Prelude.{◌==◌, ◌/◌, ◌%◌, ◌↔◌, IsTrue, nat_lt, nat_le, slice_get, option_map}
use Rattle.std.proofs.lemmas.Bool.Decides.{nat_tests}
use Rattle.c_types.specs.declared.kind.IntKind.{IntKind}
use Rattle.c_types.specs.Types.{CType, type_of, int, pointer, Agrees, is_character}
use Rattle.c_types.specs.Shapes.{Form, leaf, repeat, parts, Forms, LeafAgrees, SomeAgrees, Suits}
use Rattle.c_types.specs.Shapes as shapes
use Rattle.c_types.specs.Same.{agrees, matches}
use Rattle.c_types.proofs.SameTests.{agrees_tells}
use Rattle.mem_spec.specs.Agreement.{leaf_agrees, some_agrees, suits_form}
use Rattle.c_types.specs.declared.ty.Ty.{Ty}
use Rattle.mem_objects.specs.Cells.{kind_numbered, integer_or}
use Rattle.mem_objects.specs.Memory.{Kept}
use Rattle.mem_objects.specs.Stores.{IsTypeOf}

both : (a b : Bool) → (a && b) ≡ true → (a ≡ true) × (b ≡ true)
both true b e = (refl, e)
both false b e = absurd (cc)

join : (a b : Bool) → a ≡ true → b ≡ true → (a && b) ≡ true
join a b e f = rw (e, f) refl

or_both : {A B : Type 0} (a b : Bool) → (a ≡ true → A) → (b ≡ true → B) → (a || b) ≡ true → A ⊎ B
or_both true b f g e = inl (f refl)
or_both false b f g e = inr (g e)

either : (a b : Bool) → (a || b) ≡ true → (a ≡ true) ⊎ (b ≡ true)
either true b e = inl refl
either false b e = inr e

first_or : (a b : Bool) → a ≡ true → (a || b) ≡ true
first_or a b e = rw e refl

second_or : (a b : Bool) → b ≡ true → (a || b) ≡ true
second_or true b e = refl
second_or false b e = e

is_true : (b : Bool) → IsTrue b → b ≡ true
is_true b t = t

true_is : (b : Bool) → b ≡ true → IsTrue b
true_is b e = e

number_is : (m n : ℕ) → (m == n) ≡ true → m ≡ n
number_is m n e = grind (arith, nat_tests)

number_same : (m n : ℕ) → m ≡ n → (m == n) ≡ true
number_same m n e = grind (arith, nat_tests)

agrees_is : (a e : CType) → agrees a e ≡ true → Agrees a e
agrees_is a e t = (agrees_tells a e).0 t

agrees_hold : (a e : CType) → Agrees a e → agrees a e ≡ true
agrees_hold a e h = (agrees_tells a e).1 h

same_test : (r t : Bool) → (r ≡ true → t ≡ true) → (t ≡ true → r ≡ true) → r ≡ t
same_test true true f g = refl
same_test true false f g = absurd (not_both (f refl))
  where
    not_both : false ≡ true → ⊥
    not_both e = cc
same_test false true f g = absurd (not_both (g refl))
  where
    not_both : false ≡ true → ⊥
    not_both e = cc
same_test false false f g = refl

less_is : (m n : ℕ) → nat_lt m n ≡ true → m < n
less_is m n e = grind (arith, nat_tests)

less_same : (m n : ℕ) → m < n → nat_lt m n ≡ true
less_same m n e = grind (arith, nat_tests)

within_is : (m n : ℕ) → nat_le m n ≡ true → m ≤ n
within_is m n e = grind (arith, nat_tests)

within_same : (m n : ℕ) → m ≤ n → nat_le m n ≡ true
within_same m n e = grind (arith, nat_tests)

mutual
  leaf_is : (a : CType) (f : Form) (at : ℕ) → leaf_agrees a f at ≡ true → LeafAgrees a f at
  leaf_is a (leaf e) at t =
      let p = both (at == 0) (agrees a e) t in
      (number_is at 0 p.0, agrees_is a e p.1)
  leaf_is a (repeat count step part) at t =
      let p = both (nat_lt 0 step) (nat_lt (at / step) count && leaf_agrees a part (at % step)) t in
      let q = both (nat_lt (at / step) count) (leaf_agrees a part (at % step)) p.1 in
      (less_is 0 step p.0, less_is (at / step) count q.0, leaf_is a part (at % step) q.1)
  leaf_is a (parts ps) at t = some_are a ps at t

  some_are : (a : CType) (ps : Forms) (at : ℕ) → some_agrees a ps at ≡ true → SomeAgrees a ps at
  some_are a shapes.none at t = absurd (cc)
  some_are a (shapes.place offset part ps) at t =
      or_both (nat_le offset at && leaf_agrees a part (at - offset)) (some_agrees a ps at)
      (λ e. let p = both (nat_le offset at) (leaf_agrees a part (at - offset)) e in (within_is offset at p.0, leaf_is a part (at - offset) p.1))
      (λ e. some_are a ps at e) t

mutual
  leaf_hold : (a : CType) (f : Form) (at : ℕ) → LeafAgrees a f at → leaf_agrees a f at ≡ true
  leaf_hold a (leaf e) at h = join (at == 0) (agrees a e) (number_same at 0 h.0) (agrees_hold a e h.1)
  leaf_hold a (repeat count step part) at h =
      join (nat_lt 0 step) (nat_lt (at / step) count && leaf_agrees a part (at % step)) (less_same 0 step h.0)
      (join (nat_lt (at / step) count) (leaf_agrees a part (at % step)) (less_same (at / step) count h.1) (leaf_hold a part (at % step) h.2))
  leaf_hold a (parts ps) at h = some_hold a ps at h

  some_hold : (a : CType) (ps : Forms) (at : ℕ) → SomeAgrees a ps at → some_agrees a ps at ≡ true
  some_hold a shapes.none at h = absurd h
  some_hold a (shapes.place offset part ps) at (inl h) = first_or (nat_le offset at && leaf_agrees a part (at - offset)) (some_agrees a ps at)
      (join (nat_le offset at) (leaf_agrees a part (at - offset)) (within_same offset at h.0) (leaf_hold a part (at - offset) h.1))
  some_hold a (shapes.place offset part ps) at (inr h) = second_or (nat_le offset at && leaf_agrees a part (at - offset)) (some_agrees a ps at)
      (some_hold a ps at h)

suits_is : (a : CType) (f : Form) (at : ℕ) → (is_character a ≡ true) ⊎ (leaf_agrees a f at ≡ true) → Suits a f at
suits_is a f at (inl c) = inl (true_is (is_character a) c)
suits_is a f at (inr l) = inr (leaf_is a f at l)

suits_hold : (a : CType) (f : Form) (at : ℕ) → Suits a f at → suits_form a f at ≡ true
suits_hold a f at (inl c) = first_or (is_character a) (leaf_agrees a f at) (is_true (is_character a) c)
suits_hold a f at (inr l) = second_or (is_character a) (leaf_agrees a f at) (leaf_hold a f at l)

-- the test of the shapes is that of the definitions
pub suits_test : (r : Bool) (a : CType) (f : Form) (at : ℕ) → (IsTrue r ↔ Suits a f at) → r ≡ suits_form a f at
suits_test r a f at h = same_test r (suits_form a f at) (λ t. suits_hold a f at (h.0 (true_is r t)))
    (λ t. is_true r (h.1 (suits_is a f at (either (is_character a) (leaf_agrees a f at) t))))

-- ---- types by their numbers
kind_type_by : (b : Bool) (k : IntKind) (o : Option IntKind) (rest : Option CType) (ty : CType) → Some k ≡ o → cond b None (integer_or o rest) ≡ Some ty →
    int k ≡ ty
kind_type_by true k o rest ty e f = absurd (cc)
kind_type_by false k None rest ty e f = absurd (cc)
kind_type_by false k (Some j) rest ty e f = cc

pub kind_type : (m : Kept) (n : ℕ) (k : IntKind) (ty : CType) → Some k ≡ kind_numbered n → IsTypeOf m n ty → int k ≡ ty
kind_type m n k ty e t = kind_type_by (n == 0) k (kind_numbered n) (slice_get (map type_of m.types) (n - 13)) ty e t.numbered

other_type_by : (b : Bool) (o : Option IntKind) (rest : Option CType) (ty : CType) → None ≡ o → cond b None (integer_or o rest) ≡ Some ty → rest ≡ Some ty
other_type_by true o rest ty e f = absurd (cc)
other_type_by false None rest ty e f = f
other_type_by false (Some j) rest ty e f = absurd (cc)

mapped_at : (ts : List Ty) (k : ℕ) → slice_get (map type_of ts) k ≡ option_map type_of (slice_get ts k)
mapped_at [] k = refl
mapped_at (t ∷ ts) zero = refl
mapped_at (t ∷ ts) (suc k) = mapped_at ts k

some_type : (a b : CType) → Some a ≡ Some b → a ≡ b
some_type a b h = cc

pub other_type : (m : Kept) (n : ℕ) (t : Ty) (ty : CType) → None ≡ kind_numbered n → Some t ≡ slice_get m.types (n - 13) → IsTypeOf m n ty → type_of t ≡ ty
other_type m n t ty e at is =
    some_type (type_of t) ty (ap (option_map type_of) at ∙ sym (mapped_at m.types (n - 13)) ∙ other_type_by (n == 0) (kind_numbered n)
    (slice_get (map type_of m.types) (n - 13)) ty e is.numbered)

pub no_type : {A : Type 0} (m : Kept) (n : ℕ) (ty : CType) → None ≡ kind_numbered n → None ≡ slice_get m.types (n - 13) → IsTypeOf m n ty → A
no_type m n ty e at is = absurd (none_some (ap (option_map type_of) at ∙ sym (mapped_at m.types (n - 13)) ∙ other_type_by (n == 0) (kind_numbered n)
    (slice_get (map type_of m.types) (n - 13)) ty e is.numbered))
  where
    none_some : None ≡ Some ty → ⊥
    none_some q = cc

-- pointers with one qualifier agree where what they point to matches
pub pointers_agree : (c d : Bool) (a b : CType) → c ≡ d → matches true a b ≡ true → agrees (pointer c a) (pointer d b) ≡ true
pointers_agree true true a b e h = rw h refl
pointers_agree false false a b e h = rw h refl
pointers_agree true false a b e h = absurd (cc)
pointers_agree false true a b e h = absurd (cc)
