-- A text is that of one clause.
use Rattle.std.proofs.Common.{
  ◌≡◌,
  ℕ,
  List,
  Option,
  Some,
  None,
  refl,
  ap,
  sym,
  ◌∙◌,
  codes,
  ◌<◌,
  lit<,
  get_or,
  [],
  ◌∷◌,
  Bool,
  true,
  false,
  cond,
  zero,
  suc,
  length,
  find,
  IfSome,
  IfNone,
  arith,
}
use Rattle.std.specs.Prelude.{if◌then◌else◌}
use Rattle.std.proofs.lemmas.Option.{none-some}
use Rattle.std.proofs.lemmas.Slice.Eq.{bytes_eq-Decides}
use Rattle.std.proofs.lemmas.Bool.{false≢true}
use Rattle.std.specs.Str.{bytes_eq}
use Rattle.ub_base.specs.Clause.{clause_text, ClausesHaveOwnTexts, IsNoClause}
use Rattle.ub_base.specs.declared.clause.Clause.{Clause}
use Rattle.ub_base.specs.declared.clause.TheConstants.{CLAUSES}
use Rattle.ub_base.specs.declared.clause.Clause.TheVariants.{
  DeadObject,
  TrapRepresentation,
  PointerAlignment,
  StoreToLiteral,
  Unsequenced,
  Exceptional,
  IncompatibleCall,
  InvalidPointer,
  DivideByZero,
  Unrepresentable,
  OutOfBounds,
  PointerDifference,
  ShiftCount,
  LeftShift,
  PointerComparison,
  OverlappingAssignment,
  EffectiveType,
  StoreToConst,
  MissingValue,
  LibraryArgument,
  TooFewArguments,
  Conversion,
  Free,
  Realloc,
  MemcpyOverlap,
  StrcpyOverlap,
  Indeterminate,
}

-- the clause of a text
abbrev clause_from : List ℕ → Option Clause
clause_from text =
    (if bytes_eq text (codes "6.2.4p2") then Some DeadObject else
    (if bytes_eq text (codes "6.2.6.1p5") then Some TrapRepresentation else
    (if bytes_eq text (codes "6.3.2.3p7") then Some PointerAlignment else
    (if bytes_eq text (codes "6.4.5p7") then Some StoreToLiteral else
    (if bytes_eq text (codes "6.5p2") then Some Unsequenced else
    (if bytes_eq text (codes "6.5p5") then Some Exceptional else
    (if bytes_eq text (codes "6.5.2.2p9") then Some IncompatibleCall else
    (if bytes_eq text (codes "6.5.3.2p4") then Some InvalidPointer else
    (if bytes_eq text (codes "6.5.5p5") then Some DivideByZero else
    (if bytes_eq text (codes "6.5.5p6") then Some Unrepresentable else
    (if bytes_eq text (codes "6.5.6p8") then Some OutOfBounds else
    (if bytes_eq text (codes "6.5.6p9") then Some PointerDifference else
    (if bytes_eq text (codes "6.5.7p3") then Some ShiftCount else
    (if bytes_eq text (codes "6.5.7p4") then Some LeftShift else
    (if bytes_eq text (codes "6.5.8p5") then Some PointerComparison else
    (if bytes_eq text (codes "6.5.16.1p3") then Some OverlappingAssignment else
    (if bytes_eq text (codes "6.5p7") then Some EffectiveType else
    (if bytes_eq text (codes "6.7.3p6") then Some StoreToConst else
    (if bytes_eq text (codes "6.9.1p12") then Some MissingValue else
    (if bytes_eq text (codes "7.1.4p1") then Some LibraryArgument else
    (if bytes_eq text (codes "7.21.6.1p2") then Some TooFewArguments else
    (if bytes_eq text (codes "7.21.6.1p9") then Some Conversion else
    (if bytes_eq text (codes "7.22.3.3p2") then Some Free else
    (if bytes_eq text (codes "7.22.3.5p3") then Some Realloc else
    (if bytes_eq text (codes "7.24.2.1p2") then Some MemcpyOverlap else
    (if bytes_eq text (codes "7.24.2.3p2") then Some StrcpyOverlap else
    (if bytes_eq text (codes "J.2-indeterminate") then Some Indeterminate else None)))))))))))))))))))))))))))

from_text : (clause : Clause) → clause_from (clause_text clause) ≡ Some clause
from_text DeadObject = refl
from_text TrapRepresentation = refl
from_text PointerAlignment = refl
from_text StoreToLiteral = refl
from_text Unsequenced = refl
from_text Exceptional = refl
from_text IncompatibleCall = refl
from_text InvalidPointer = refl
from_text DivideByZero = refl
from_text Unrepresentable = refl
from_text OutOfBounds = refl
from_text PointerDifference = refl
from_text ShiftCount = refl
from_text LeftShift = refl
from_text PointerComparison = refl
from_text OverlappingAssignment = refl
from_text EffectiveType = refl
from_text StoreToConst = refl
from_text MissingValue = refl
from_text LibraryArgument = refl
from_text TooFewArguments = refl
from_text Conversion = refl
from_text Free = refl
from_text Realloc = refl
from_text MemcpyOverlap = refl
from_text StrcpyOverlap = refl
from_text Indeterminate = refl

pub texts_differ : ClausesHaveOwnTexts
texts_differ a b same =
    let e : Some a ≡ Some b = sym (from_text a) ∙ ap clause_from same ∙ from_text b in cc

found_step : (b : Bool) (y x : Clause) (rest : Option Clause) (p : Clause → Bool) → p y ≡ b → cond b (Some y) rest ≡ Some x
    → (rest ≡ Some x → p x ≡ true) → p x ≡ true
found_step true y x rest p is e more = let same : y ≡ x = cc in ap p (sym same) ∙ is
found_step false y x rest p is e more = more e

-- what is found passes the test
pub found_passes : (p : Clause → Bool) (xs : List Clause) (x : Clause) → find p xs ≡ Some x → p x ≡ true
found_passes p [] x e = absurd (none-some x e)
found_passes p (y ∷ ys) x e = found_step (p y) y x (find p ys) p refl e (found_passes p ys x)

none_step : (b : Bool) (y : Clause) (rest : Option Clause) → cond b (Some y) rest ≡ None → (b ≡ false) × (rest ≡ None)
none_step true y rest e = absurd (none-some y (sym e))
none_step false y rest e = (refl, e)

-- where nothing is found, nothing passes it
none_passes : (p : Clause → Bool) (xs : List Clause) (k : ℕ) (d : Clause) → find p xs ≡ None → k < length xs → p (get_or xs k d) ≡ false
none_passes p [] k d e within = absurd (omega arith)
none_passes p (y ∷ ys) zero d e within = (none_step (p y) y (find p ys) e).0
none_passes p (y ∷ ys) (suc k) d e within = none_passes p ys k d (none_step (p y) y (find p ys) e).1 (omega arith)

-- where a clause stands among all
abbrev place : Clause → ℕ
place DeadObject = 0
place TrapRepresentation = 1
place PointerAlignment = 2
place StoreToLiteral = 3
place Unsequenced = 4
place Exceptional = 5
place IncompatibleCall = 6
place InvalidPointer = 7
place DivideByZero = 8
place Unrepresentable = 9
place OutOfBounds = 10
place PointerDifference = 11
place ShiftCount = 12
place LeftShift = 13
place PointerComparison = 14
place OverlappingAssignment = 15
place EffectiveType = 16
place StoreToConst = 17
place MissingValue = 18
place LibraryArgument = 19
place TooFewArguments = 20
place Conversion = 21
place Free = 22
place Realloc = 23
place MemcpyOverlap = 24
place StrcpyOverlap = 25
place Indeterminate = 26

abbrev IsThere : Clause → Type 0
IsThere clause = (place clause < 27) × (get_or CLAUSES (place clause) clause ≡ clause)

is_there : (clause : Clause) → IsThere clause
is_there DeadObject = (lit< tt, refl)
is_there TrapRepresentation = (lit< tt, refl)
is_there PointerAlignment = (lit< tt, refl)
is_there StoreToLiteral = (lit< tt, refl)
is_there Unsequenced = (lit< tt, refl)
is_there Exceptional = (lit< tt, refl)
is_there IncompatibleCall = (lit< tt, refl)
is_there InvalidPointer = (lit< tt, refl)
is_there DivideByZero = (lit< tt, refl)
is_there Unrepresentable = (lit< tt, refl)
is_there OutOfBounds = (lit< tt, refl)
is_there PointerDifference = (lit< tt, refl)
is_there ShiftCount = (lit< tt, refl)
is_there LeftShift = (lit< tt, refl)
is_there PointerComparison = (lit< tt, refl)
is_there OverlappingAssignment = (lit< tt, refl)
is_there EffectiveType = (lit< tt, refl)
is_there StoreToConst = (lit< tt, refl)
is_there MissingValue = (lit< tt, refl)
is_there LibraryArgument = (lit< tt, refl)
is_there TooFewArguments = (lit< tt, refl)
is_there Conversion = (lit< tt, refl)
is_there Free = (lit< tt, refl)
is_there Realloc = (lit< tt, refl)
is_there MemcpyOverlap = (lit< tt, refl)
is_there StrcpyOverlap = (lit< tt, refl)
is_there Indeterminate = (lit< tt, refl)

pub found_has_text : (text : List ℕ) (r : Option Clause) → r ≡ find (λ clause. bytes_eq (clause_text clause) text) CLAUSES
    → IfSome r (λ clause. clause_text clause ≡ text)
found_has_text text None is = tt
found_has_text text (Some clause) is =
    (bytes_eq-Decides (clause_text clause) text).0 (found_passes (λ c. bytes_eq (clause_text c) text) CLAUSES clause (sym is))

pub none_has_text : (text : List ℕ) (r : Option Clause) → r ≡ find (λ clause. bytes_eq (clause_text clause) text) CLAUSES
    → IfNone r (IsNoClause text)
none_has_text text (Some clause) is = tt
none_has_text text None is =
    λ clause has.
    let there = is_there clause in
    let no = none_passes (λ c. bytes_eq (clause_text c) text) CLAUSES (place clause) clause (sym is) there.0 in
    let differs : bytes_eq (clause_text clause) text ≡ false = ap (λ c. bytes_eq (clause_text c) text) (sym there.1) ∙ no in
    false≢true (sym differs ∙ (bytes_eq-Decides (clause_text clause) text).1 has)
