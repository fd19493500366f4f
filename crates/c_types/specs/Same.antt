-- Which types are equal, so that no conversion stands between them, which are compatible, and which agree, each as a test.
use Rattle.std.specs.Prelude.{◌≡◌, ℕ, Bool, true, false, not, ◌&&◌, ◌||◌, ◌==◌, ◌↔◌, IsTrue, Option, Some, None}
use denote.Enum.Bare.{sameb}
use Rattle.c_types.specs.declared.kind.IntKind.{IntKind}
use Rattle.c_types.specs.declared.kind.IntKind.TheVariants.{Int}
use Rattle.c_types.specs.contracts.kind.IntKind.{the_type as kind_type}
use Rattle.c_types.specs.Types.{
  CType,
  Params,
  void,
  int,
  enumeration,
  pointer,
  array,
  struct,
  union,
  function,
  none,
  more,
  Qualified,
  Signature,
  Matches,
  SameSignature,
  Agrees,
  kind_of,
  are_forms,
}

abbrev pub same_kind : IntKind → IntKind → Bool
same_kind = sameb kind_type

abbrev pub same_qualifier : Bool → Bool → Bool
same_qualifier true d = d
same_qualifier false d = not d

abbrev pub same_count : Option ℕ → Option ℕ → Bool
same_count (Some m) (Some n) = m == n
same_count None None = true
same_count _ _ = false

abbrev mutual
  -- an enumerated type equals itself alone
  pub same : CType → CType → Bool
  same void void = true
  same (int j) (int k) = same_kind j k
  same (enumeration m) (enumeration n) = m == n
  same (pointer c a) (pointer d b) = same_qualifier c d && same a b
  same (array c a m) (array d b n) = same_count m n && (same_qualifier c d && same a b)
  same (struct m) (struct n) = m == n
  same (union m) (union n) = m == n
  same (function r ps v) (function s qs w) = same_qualifier v w && (same r s && each_same ps qs)
  same _ _ = false

  pub each_same : Params → Params → Bool
  each_same none none = true
  each_same (more c a ps) (more d b qs) = (same_qualifier c d && same a b) && each_same ps qs
  each_same _ _ = false

abbrev pub same_qualified : Qualified → Qualified → Bool
same_qualified p q = same_qualifier p.constant q.constant && same p.ty q.ty

abbrev pub same_signature : Signature → Signature → Bool
same_signature f g = same_qualifier f.variadic g.variadic && (same f.result g.result && each_same f.params g.params)

-- where both sizes are known they are equal (6.7.6.2p6)
abbrev pub sizes_agree : Option ℕ → Option ℕ → Bool
sizes_agree (Some m) (Some n) = m == n
sizes_agree _ _ = true

-- one enumeration against another: each is a type of its own, or is read as int
abbrev pub same_enumeration : Bool → ℕ → ℕ → Bool
same_enumeration true m n = true
same_enumeration false m n = m == n

abbrev mutual
  -- compatible types, where enumerations are read as they are declared, or as int (6.2.7p1)
  pub matches : (as_int : Bool) → CType → CType → Bool
  matches as_int void void = true
  matches as_int (int j) (int k) = same_kind j k
  matches as_int (int k) (enumeration n) = same_kind k Int
  matches as_int (enumeration n) (int k) = same_kind k Int
  matches as_int (enumeration m) (enumeration n) = same_enumeration as_int m n
  matches as_int (pointer c a) (pointer d b) = same_qualifier c d && matches as_int a b
  matches as_int (array c a m) (array d b n) = same_qualifier c d && (matches as_int a b && sizes_agree m n)
  matches as_int (struct m) (struct n) = m == n
  matches as_int (union m) (union n) = m == n
  matches as_int (function r ps v) (function s qs w) = matches as_int r s && (each_matches as_int ps qs && same_qualifier v w)
  matches as_int _ _ = false

  pub each_matches : (as_int : Bool) → Params → Params → Bool
  each_matches as_int none none = true
  each_matches as_int (more c a ps) (more d b qs) = matches as_int a b && each_matches as_int ps qs
  each_matches as_int _ _ = false

-- compatible types (6.2.7p1)
abbrev pub compatible : CType → CType → Bool
compatible a b = matches false a b

-- compatible function types, as a call asks of the designator's and the function's (6.5.2.2p9, 6.7.6.3p15)
abbrev pub compatible_functions : Signature → Signature → Bool
compatible_functions f g =
    compatible f.result g.result && (each_matches false f.params g.params && same_qualifier f.variadic g.variadic)

-- an access by the one type may meet a scalar of the other (6.5p7)
abbrev pub agrees : CType → CType → Bool
agrees a e = matches true a e || are_forms (kind_of a) (kind_of e)

-- the tests tell equal types, compatible ones, and those that agree
abbrev pub SameIsEqual : Type 0
SameIsEqual = (a b : CType) → IsTrue (same a b) ↔ (a ≡ b)

abbrev pub MatchesIsTested : Type 0
MatchesIsTested = (as_int : Bool) (a b : CType) → IsTrue (matches as_int a b) ↔ Matches as_int a b

abbrev pub FunctionsAreTested : Type 0
FunctionsAreTested = (f g : Signature) → IsTrue (compatible_functions f g) ↔ SameSignature false f g

abbrev pub AgreesIsTested : Type 0
AgreesIsTested = (a e : CType) → IsTrue (agrees a e) ↔ Agrees a e
