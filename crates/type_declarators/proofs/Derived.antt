-- A type that derivations make is within the limits just where each on the way is.
use Rattle.std.proofs.Common.{◌≡◌, ℕ, suc, ◌≤◌, max, Bool, true, false, List, [], ◌∷◌, refl, sym, ap, ◌∙◌, true≢false, arith}
use Rattle.std.specs.Prelude.{nat_le, ◌&&◌, if◌then◌else◌, ℤ, pos, int_le, unsigned_abs, Option, Some, None}
use Rattle.std.proofs.lemmas.Bool.Decides.{nat_tests}
use Rattle.c_types.specs.Types.{CType, Params, void, int, enumeration, pointer, array, struct, union, function, Qualified}
use Rattle.type_limits.specs.Limits.{height, heights, parts, is_within, height_limit, parts_limit}
use Rattle.typing_env.specs.Env.{if_found}
use Rattle.typing_env.specs.Seen.{SeenTag}
use Rattle.typing_words.specs.Tags.{is_complete}
use Rattle.type_declarators.specs.Parts.{applied}
use Rattle.typing_words.specs.Words.{Derivation, pointer_to, array_of, function_of, derived_by, derived, limited, plain, complete, plain_option}
use Rattle.typing_words.specs.Words.{array_by, function_with, is_function_type}

record Grows (q r : Qualified) : Type 0 where
  height : height q.ty ≤ height r.ty
  parts : parts q.ty ≤ parts r.ty

abbrev GrowsIn : Qualified → Option Qualified → Type 0
GrowsIn q None = Unit {0}
GrowsIn q (Some r) = Grows q r

grows_if : (b : Bool) (q : Qualified) (o : Option Qualified) → GrowsIn q o → GrowsIn q (if b then o else None)
grows_if true q o g = g
grows_if false q o g = tt

grows_unless : (b : Bool) (q : Qualified) (o : Option Qualified) → GrowsIn q o → GrowsIn q (if b then None else o)
grows_unless true q o g = tt
grows_unless false q o g = g

array_grows : (q : Qualified) (n : Option ℕ) → Grows q (plain (array q.constant q.ty n))
array_grows q n = record { height = omega arith; parts = omega arith }

complete_grows : (b : Bool) (q : Qualified) (n : Option ℕ) → GrowsIn q (plain_option (if b then Some (array q.constant q.ty n) else None))
complete_grows true q n = array_grows q n
complete_grows false q n = tt

counted_grows : (tags : List SeenTag) (q : Qualified) (count : Option ℤ) → GrowsIn q (array_by tags q count)
counted_grows tags q None = array_grows q None
counted_grows tags q (Some n) =
    grows_unless (int_le n (pos 0)) q (plain_option (complete tags (array q.constant q.ty (Some (unsigned_abs n)))))
    (complete_grows (is_complete tags (array q.constant q.ty (Some (unsigned_abs n)))) q (Some (unsigned_abs n)))

max_left : (a b : ℕ) → a ≤ suc (max a b)
max_left a b = omega arith

function_grows : (c : Bool) (t : CType) (ps : Params) (v : Bool) → GrowsIn (record { constant = c; ty = t }) (function_with t ps v)
function_grows c void ps v = record { height = omega arith; parts = omega arith }
function_grows c (int k) ps v = record { height = omega arith; parts = omega arith }
function_grows c (enumeration n) ps v = record { height = omega arith; parts = omega arith }
function_grows c (pointer d t) ps v = record { height = max_left (suc (height t)) (heights ps); parts = omega arith }
function_grows c (array d t n) ps v = tt
function_grows c (struct n) ps v = record { height = omega arith; parts = omega arith }
function_grows c (union n) ps v = record { height = omega arith; parts = omega arith }
function_grows c (function r qs w) ps v = tt

one_grows : (tags : List SeenTag) (q : Qualified) (d : Derivation) → GrowsIn q (derived_by tags q d)
one_grows tags q (pointer_to c restricted) =
    grows_unless (restricted && is_function_type q.ty) q (Some (record { constant = c; ty = pointer q.constant q.ty }))
    (record { height = omega arith; parts = omega arith })
one_grows tags q (array_of count) = grows_if (is_complete tags q.ty) q (array_by tags q count) (counted_grows tags q count)
one_grows tags q (function_of ps v) = function_grows q.constant q.ty ps v

grows_then : (p q : Qualified) (o : Option Qualified) → Grows p q → GrowsIn q o → GrowsIn p o
grows_then p q None g h = tt
grows_then p q (Some r) g h = record {
  height = (let a = g.height in let b = h.height in omega arith);
  parts = (let a = g.parts in let b = h.parts in omega arith);
}

grow_by : (tags : List SeenTag) (ds : List Derivation) (q : Qualified) (o : Option Qualified) → GrowsIn q o
    → ((r : Qualified) → GrowsIn r (applied tags ds r)) → GrowsIn q (if_found o (applied tags ds))
grow_by tags ds q None g rest = tt
grow_by tags ds q (Some r) g rest = grows_then q r (applied tags ds r) g (rest r)

-- what is derived is no lower, and of no fewer parts
all_grow : (tags : List SeenTag) (ds : List Derivation) (q : Qualified) → GrowsIn q (applied tags ds q)
all_grow tags [] q = record { height = omega arith; parts = omega arith }
all_grow tags (d ∷ ds) q = grow_by tags ds q (derived_by tags q d) (one_grows tags q d) (λ r. all_grow tags ds r)

within_by : (a b m n : ℕ) → a ≤ b → m ≤ n → (nat_le b height_limit && nat_le n parts_limit) ≡ true → (nat_le a height_limit && nat_le m parts_limit) ≡ true
within_by a b m n low few h = grind (arith, nat_tests)

out_by : (a b : Bool) (r : Qualified) → is_within r.ty ≡ b → (b ≡ true → a ≡ true) → a ≡ false → limited (Some r) ≡ None
out_by a true r is f out = absurd (true≢false (sym (f refl) ∙ out))
out_by a false r is f out = ap (λ x. if x then Some r else None) is

-- what isn't within the limits stays so
not_within : (q : Qualified) (o : Option Qualified) → GrowsIn q o → is_within q.ty ≡ false → limited o ≡ None
not_within q None g out = refl
not_within q (Some r) g out =
    out_by (is_within q.ty) (is_within r.ty) r refl (λ h. within_by (height q.ty) (height r.ty) (parts q.ty) (parts r.ty) g.height g.parts h) out

-- the last one within the limits, where there is one
abbrev pub at_last : List Derivation → Option Qualified → Option Qualified
at_last [] o = o
at_last (d ∷ ds) o = limited o

found_by : (b : Bool) (tags : List SeenTag) (ds : List Derivation) (q : Qualified) → is_within q.ty ≡ b
    → derived tags ds q ≡ at_last ds (applied tags ds q)
    → if_found (limited (Some q)) (derived tags ds) ≡ limited (applied tags ds q)
found_by true tags [] q is e = ap (λ x. if_found (if x then Some q else None) (derived tags [])) is ∙ sym (ap (λ x. if x then Some q else None) is)
found_by false tags [] q is e = ap (λ x. if_found (if x then Some q else None) (derived tags [])) is ∙ sym (ap (λ x. if x then Some q else None) is)
found_by true tags (d ∷ ds) q is e = ap (λ x. if_found (if x then Some q else None) (derived tags (d ∷ ds))) is ∙ e
found_by false tags (d ∷ ds) q is e =
    ap (λ x. if_found (if x then Some q else None) (derived tags (d ∷ ds))) is ∙ sym (not_within q (applied tags (d ∷ ds) q) (all_grow tags (d ∷ ds) q) is)

then_by : (tags : List SeenTag) (ds : List Derivation) (o : Option Qualified)
    → ((r : Qualified) → derived tags ds r ≡ at_last ds (applied tags ds r))
    → if_found (limited o) (derived tags ds) ≡ limited (if_found o (applied tags ds))
then_by tags ds None rest = refl
then_by tags ds (Some r) rest = found_by (is_within r.ty) tags ds r refl (rest r)

-- it is enough that the last one is within the limits
pub derived_is : (tags : List SeenTag) (ds : List Derivation) (q : Qualified) → derived tags ds q ≡ at_last ds (applied tags ds q)
derived_is tags [] q = refl
derived_is tags (d ∷ ds) q = then_by tags ds (derived_by tags q d) (λ r. derived_is tags ds r)
