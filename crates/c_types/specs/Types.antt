-- The types of the profile as plain data, and which of them are compatible (6.2.7, 6.7.2.2, 6.7.3, 6.7.6).
use Rattle.std.specs.Prelude.{◌≡◌, ℕ, Bool, true, false, not, ◌&&◌, ◌==◌, IsTrue, ◌⊎◌, List, [], ◌∷◌, Option, Some, None, if◌then◌else◌}
use Rattle.c_types.specs.Kinds.{rank, is_signed}
use Rattle.c_types.specs.declared.kind.IntKind.{IntKind}
use Rattle.c_types.specs.declared.kind.IntKind.TheVariants.{Char, SChar, UChar, Int}
use Rattle.c_types.specs.declared.ty.Ty.{Ty, fold-Ty}
use Rattle.c_types.specs.declared.ty.Ty.TheOpen.{Ty-F, Qual-F, FuncTy-F}
use Rattle.c_types.specs.declared.ty.Qual.{Qual, fold-Qual}
use Rattle.c_types.specs.declared.ty.FuncTy.{FuncTy, fold-FuncTy}

mutual
  pub data CType : Type 0 where
    void : CType
    int : IntKind → CType
    enumeration : (tag : ℕ) → CType
    pointer : (constant : Bool) → (target : CType) → CType
    array : (constant : Bool) → (element : CType) → (count : Option ℕ) → CType
    struct : (tag : ℕ) → CType
    union : (tag : ℕ) → CType
    function : (result : CType) → (params : Params) → (variadic : Bool) → CType

  -- the parameters of a function, each with its top qualifier
  pub data Params : Type 0 where
    none : Params
    more : (constant : Bool) → (param : CType) → Params → Params

-- a type with its top qualifier
pub record Qualified : Type 0 where
  pub constant : Bool
  pub ty : CType

-- a function type by its parts
pub record Signature : Type 0 where
  pub result : CType
  pub params : Params
  pub variadic : Bool

abbrev pub params_of : List Qualified → Params
params_of [] = none
params_of (p ∷ ps) = more p.constant p.ty (params_of ps)

-- one level of a type, with each type inside it already seen
abbrev pub ty_step : Ty-F CType Signature Qualified → CType
ty_step Ty-F.Void = void
ty_step (Ty-F.Int kind) = int kind
ty_step (Ty-F.Enum tag) = enumeration tag
ty_step (Ty-F.Pointer target) = pointer target.constant target.ty
ty_step (Ty-F.Array element count) = array element.constant element.ty count
ty_step (Ty-F.Struct tag) = struct tag
ty_step (Ty-F.Union tag) = union tag
ty_step (Ty-F.Function f) = function f.result f.params f.variadic

abbrev pub qual_step : Qual-F CType Signature Qualified → Qualified
qual_step q = record { constant = q.constant; ty = q.ty }

abbrev pub func_step : FuncTy-F CType Signature Qualified → Signature
func_step f = record { result = f.result; params = params_of f.params; variadic = f.variadic }

abbrev pub type_of : Ty → CType
type_of = fold-Ty CType Signature Qualified ty_step func_step qual_step

abbrev pub qualified_of : Qual → Qualified
qualified_of = fold-Qual CType Signature Qualified ty_step func_step qual_step

abbrev pub signature_of : FuncTy → Signature
signature_of = fold-FuncTy CType Signature Qualified ty_step func_step qual_step

-- where both sizes are known they are equal (6.7.6.2p6)
abbrev pub SizesAgree : Option ℕ → Option ℕ → Type 0
SizesAgree (Some m) (Some n) = m ≡ n
SizesAgree _ _ = Unit {0}

-- one enumeration against another: each is a type of its own, or is read as int
abbrev pub SameEnumeration : Bool → ℕ → ℕ → Type 0
SameEnumeration true m n = Unit {0}
SameEnumeration false m n = m ≡ n

abbrev mutual
  -- compatible types, where enumerations are read as they are declared, or as int;
  -- one translation unit, so a tag or an enumeration is its number (6.2.7p1)
  pub Matches : (as_int : Bool) → CType → CType → Type 0
  Matches as_int void void = Unit {0}
  Matches as_int (int j) (int k) = j ≡ k
  -- an enumerated type is compatible with int (6.7.2.2p4)
  Matches as_int (int k) (enumeration n) = k ≡ Int
  Matches as_int (enumeration n) (int k) = k ≡ Int
  Matches as_int (enumeration m) (enumeration n) = SameEnumeration as_int m n
  -- identically qualified pointers to compatible types (6.7.6.1p2, 6.7.3p10)
  Matches as_int (pointer c a) (pointer d b) = (c ≡ d) × Matches as_int a b
  -- compatible elements and, where both are known, equal sizes (6.7.6.2p6)
  Matches as_int (array c a m) (array d b n) = (c ≡ d) × Matches as_int a b × SizesAgree m n
  Matches as_int (struct m) (struct n) = m ≡ n
  Matches as_int (union m) (union n) = m ≡ n
  -- compatible results and parameters, as many, and the same use of the ellipsis (6.7.6.3p15)
  Matches as_int (function r ps v) (function s qs w) = Matches as_int r s × EachMatches as_int ps qs × (v ≡ w)
  Matches as_int _ _ = ⊥

  -- a parameter is taken without its top qualifier
  pub EachMatches : (as_int : Bool) → Params → Params → Type 0
  EachMatches as_int none none = Unit {0}
  EachMatches as_int (more c a ps) (more d b qs) = Matches as_int a b × EachMatches as_int ps qs
  EachMatches as_int _ _ = ⊥

-- compatible types (6.2.7p1)
abbrev pub Compatible : CType → CType → Type 0
Compatible a b = Matches false a b

-- compatible, and identically qualified
abbrev pub Alike : (as_int : Bool) → Qualified → Qualified → Type 0
Alike as_int p q = (p.constant ≡ q.constant) × Matches as_int p.ty q.ty

abbrev pub SameSignature : (as_int : Bool) → Signature → Signature → Type 0
SameSignature as_int f g = Matches as_int f.result g.result × EachMatches as_int f.params g.params × (f.variadic ≡ g.variadic)

-- an integer type, each enumeration read as int
abbrev pub kind_of : CType → Option IntKind
kind_of (int kind) = Some kind
kind_of (enumeration tag) = Some Int
kind_of _ = None

-- the signed and the unsigned form of one rank (6.2.5p6)
abbrev pub are_forms : Option IntKind → Option IntKind → Bool
are_forms (Some j) (Some k) = rank j == rank k && (if is_signed j then not (is_signed k) else is_signed k)
are_forms _ _ = false

-- an access by a type may meet a scalar stored by, or declared with, the other (6.5p7): they are compatible, each enumeration
-- read as int, or the signed and the unsigned form of one rank
abbrev pub Agrees : CType → CType → Type 0
Agrees a e = Matches true a e ⊎ IsTrue (are_forms (kind_of a) (kind_of e))

abbrev pub is_character_kind : IntKind → Bool
is_character_kind Char = true
is_character_kind SChar = true
is_character_kind UChar = true
is_character_kind _ = false

-- the character types (6.2.5p15)
abbrev pub is_character : CType → Bool
is_character (int kind) = is_character_kind kind
is_character _ = false

-- the count that is known (6.2.7p3)
abbrev pub known_count : Option ℕ → Option ℕ → Option ℕ
known_count (Some m) n = Some m
known_count None n = n

abbrev mutual
  -- the composite of two compatible types (6.2.7p3); of an enumerated type and int it is the first (own)
  pub composite : CType → CType → CType
  composite (pointer c a) (pointer d b) = pointer c (composite a b)
  composite (array c a m) (array d b n) = array c (composite a b) (known_count m n)
  composite (function r ps v) (function s qs w) = function (composite r s) (composites ps qs) v
  composite a _ = a

  -- a parameter keeps the first's top qualifier (own)
  pub composites : Params → Params → Params
  composites (more c a ps) (more d b qs) = more c (composite a b) (composites ps qs)
  composites ps _ = ps

abbrev pub composite_qualified : Qualified → Qualified → Qualified
composite_qualified p q = record { constant = p.constant; ty = composite p.ty q.ty }

abbrev pub composite_signature : Signature → Signature → Signature
composite_signature f g =
    record { result = composite f.result g.result; params = composites f.params g.params; variadic = f.variadic }

-- a parameter and the one at the same place, where there is one
abbrev pub composite_param : Qualified → Option Qualified → Qualified
composite_param p None = p
composite_param p (Some q) = composite_qualified p q
