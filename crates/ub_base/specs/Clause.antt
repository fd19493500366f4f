-- The paragraph of ISO/IEC 9899:2011 that each clause names, as reports print it.
use Rattle.std.specs.Prelude.{◌≡◌, ◌≢◌, ℕ, List, codes}
use Rattle.ub_base.specs.declared.clause.Clause.{Clause}
use Rattle.ub_base.specs.declared.clause.Clause.TheVariants.{
  DeadObject,
  TrapRepresentation,
  PointerAlignment,
  StoreToLiteral,
  Unsequenced,
  Exceptional,
  IncompatibleCall,
  InvalidPointer,
  DivideByZero,
  Unrepresentable,
  OutOfBounds,
  PointerDifference,
  ShiftCount,
  LeftShift,
  PointerComparison,
  OverlappingAssignment,
  EffectiveType,
  StoreToConst,
  MissingValue,
  LibraryArgument,
  TooFewArguments,
  Conversion,
  Free,
  Realloc,
  MemcpyOverlap,
  StrcpyOverlap,
  Indeterminate,
}

abbrev pub clause_text : Clause → List ℕ
clause_text DeadObject = codes "6.2.4p2"
clause_text TrapRepresentation = codes "6.2.6.1p5"
clause_text PointerAlignment = codes "6.3.2.3p7"
clause_text StoreToLiteral = codes "6.4.5p7"
clause_text Unsequenced = codes "6.5p2"
clause_text Exceptional = codes "6.5p5"
clause_text IncompatibleCall = codes "6.5.2.2p9"
clause_text InvalidPointer = codes "6.5.3.2p4"
clause_text DivideByZero = codes "6.5.5p5"
clause_text Unrepresentable = codes "6.5.5p6"
clause_text OutOfBounds = codes "6.5.6p8"
clause_text PointerDifference = codes "6.5.6p9"
clause_text ShiftCount = codes "6.5.7p3"
clause_text LeftShift = codes "6.5.7p4"
clause_text PointerComparison = codes "6.5.8p5"
clause_text OverlappingAssignment = codes "6.5.16.1p3"
clause_text EffectiveType = codes "6.5p7"
clause_text StoreToConst = codes "6.7.3p6"
clause_text MissingValue = codes "6.9.1p12"
clause_text LibraryArgument = codes "7.1.4p1"
clause_text TooFewArguments = codes "7.21.6.1p2"
clause_text Conversion = codes "7.21.6.1p9"
clause_text Free = codes "7.22.3.3p2"
clause_text Realloc = codes "7.22.3.5p3"
clause_text MemcpyOverlap = codes "7.24.2.1p2"
clause_text StrcpyOverlap = codes "7.24.2.3p2"
clause_text Indeterminate = codes "J.2-indeterminate"

-- no clause has this text
abbrev pub IsNoClause : List ℕ → Type 0
IsNoClause text = (clause : Clause) → clause_text clause ≢ text

-- different clauses have different texts
abbrev pub ClausesHaveOwnTexts : Type 0
ClausesHaveOwnTexts = (a b : Clause) → clause_text a ≡ clause_text b → a ≡ b
