-- The clause of a text is the one whose text it is.
use Rattle.std.proofs.Common.{◌≡◌, ℕ, List, [], ◌∷◌, Option, Some, None, Bool, true, false, cond, find, IfSome, IfNone, refl, sym, ◌∙◌, ap}
use Rattle.std.proofs.lemmas.Slice.Eq.{bytes_eq-Decides}
use Rattle.std.specs.Str.{bytes_eq}
use Rattle.ub_base.specs.Clause.{clause_text, IsNoClause}
use Rattle.ub_base.specs.declared.clause.Clause.{Clause}
use Rattle.ub_base.specs.declared.clause.Clause.TheVariants.{
  DeadObject,
  TrapRepresentation,
  PointerAlignment,
  StoreToLiteral,
  Unsequenced,
  Exceptional,
  IncompatibleCall,
  InvalidPointer,
  DivideByZero,
  Unrepresentable,
  OutOfBounds,
  PointerDifference,
  ShiftCount,
  LeftShift,
  PointerComparison,
  OverlappingAssignment,
  EffectiveType,
  StoreToConst,
  MissingValue,
  LibraryArgument,
  TooFewArguments,
  Conversion,
  Free,
  Realloc,
  MemcpyOverlap,
  StrcpyOverlap,
  Indeterminate,
}
use Rattle.certificate_text.specs.Reading.{clause_named, all_clauses}

found_step : (b : Bool) (p : Clause → Bool) (y x : Clause) (rest : Option Clause) → p y ≡ b → cond b (Some y) rest ≡ Some x →
    (rest ≡ Some x → p x ≡ true) → p x ≡ true
found_step true p y x rest is e later = let same : y ≡ x = cc in ap p (sym same) ∙ is
found_step false p y x rest is e later = later e

found_passes : (p : Clause → Bool) (xs : List Clause) (x : Clause) → find p xs ≡ Some x → p x ≡ true
found_passes p [] x e = absurd (cc)
found_passes p (y ∷ ys) x e = found_step (p y) p y x (find p ys) refl e (found_passes p ys x)

pub clause_named-clause_text : (clause : Clause) → clause_named (clause_text clause) ≡ Some clause
unfolding clause_named
clause_named-clause_text DeadObject = refl
clause_named-clause_text TrapRepresentation = refl
clause_named-clause_text PointerAlignment = refl
clause_named-clause_text StoreToLiteral = refl
clause_named-clause_text Unsequenced = refl
clause_named-clause_text Exceptional = refl
clause_named-clause_text IncompatibleCall = refl
clause_named-clause_text InvalidPointer = refl
clause_named-clause_text DivideByZero = refl
clause_named-clause_text Unrepresentable = refl
clause_named-clause_text OutOfBounds = refl
clause_named-clause_text PointerDifference = refl
clause_named-clause_text ShiftCount = refl
clause_named-clause_text LeftShift = refl
clause_named-clause_text PointerComparison = refl
clause_named-clause_text OverlappingAssignment = refl
clause_named-clause_text EffectiveType = refl
clause_named-clause_text StoreToConst = refl
clause_named-clause_text MissingValue = refl
clause_named-clause_text LibraryArgument = refl
clause_named-clause_text TooFewArguments = refl
clause_named-clause_text Conversion = refl
clause_named-clause_text Free = refl
clause_named-clause_text Realloc = refl
clause_named-clause_text MemcpyOverlap = refl
clause_named-clause_text StrcpyOverlap = refl
clause_named-clause_text Indeterminate = refl

none_named : (text : List ℕ) (found : Option Clause) → clause_named text ≡ found → IsNoClause text → found ≡ None
unfolding clause_named
none_named text None is none = refl
none_named text (Some clause) is none =
    absurd (none clause ((bytes_eq-Decides (clause_text clause) text).0 (found_passes (λ c. bytes_eq (clause_text c) text) all_clauses clause is)))

pub clause_of_text : (text : List ℕ) (found : Option Clause) → IfSome found (λ clause. clause_text clause ≡ text) → IfNone found (IsNoClause text) →
    found ≡ clause_named text
clause_of_text text (Some clause) has none =
    sym (clause_named-clause_text clause) ∙ ap clause_named has
clause_of_text text None has none = sym (none_named text (clause_named text) refl none)
