-- What functions of this crate answer, against scripts that touch no memory.
use Rattle.std.specs.Prelude.{◌≡◌, ℕ, ◌==◌, Bool, ◌||◌, List, ◌++◌, Option, Some, None, Result, Ok, Err}
use Rattle.ub_base.specs.declared.clause.Clause.{Clause}
use Rattle.ub_base.specs.declared.clause.Clause.TheVariants.{Conversion}
use Rattle.ub_base.specs.declared.clause.Cause.TheVariants.{Directive as PastDirective}
use Rattle.mem_objects.specs.declared.answer.LibAnswer.{LibAnswer}
use Rattle.mem_objects.specs.declared.answer.LibAnswer.TheVariants as answers
use Rattle.mem_spec.specs.Script.{Script, Give, Raise as RaiseOf, Exceed}
use Rattle.libc_spec.specs.Directives as directives
use Rattle.libc_spec.specs.Directives.{form}
use Rattle.libc_spec.specs.Print.{Argument, Taken, Step}
use Rattle.libc_directives.specs.Seen.{directive_seen}
use Rattle.libc_directives.specs.declared.directive.Directive.{Directive}
use Rattle.libc_directives.specs.declared.refusal.Refusal.{Refusal}
use Rattle.libc_directives.specs.declared.refusal.Refusal.TheVariants.{Raise, Outside, NoMemory}

-- what was taken, with the arguments that are left, as a script
abbrev pub taken_as : {A B : Type 0} → (A → B) → Result A Clause → List Argument → Script (Taken B)
taken_as f (Ok item) rest = Give (record { item = f item; rest = rest })
taken_as f (Err c) rest = RaiseOf c

abbrev pub taken : {A : Type 0} → Result A Clause → List Argument → Script (Taken A)
taken (Ok item) rest = Give (record { item = item; rest = rest })
taken (Err c) rest = RaiseOf c

-- the conversions whose argument is a pointer, `s` and `p`
abbrev pub is_pointed : ℕ → Bool
is_pointed c = (c == 115) || (c == 112)

abbrev pub refusal_of : directives.Form → (at : ℕ) → Option Refusal
refusal_of directives.taken at = None
refusal_of directives.left_out at = Some (Outside PastDirective at)
refusal_of directives.invalid at = Some (Raise Conversion)

-- the directive that stands there is taken, or refused where there is none or it isn't
abbrev pub IsFormed : Result Directive Refusal → Option directives.Directive → (at : ℕ) → Type 0
IsFormed (Ok d) found at = (found ≡ Some (directive_seen d)) × (form (directive_seen d) ≡ directives.taken)
IsFormed (Err r) None at = r ≡ Raise Conversion
IsFormed (Err r) (Some d) at = Some r ≡ refusal_of (form d) at

-- the bytes of a step are added and its arguments taken, or it is refused as the script says
abbrev pub Steps : Result ℕ LibAnswer → (old new : List ℕ) → List Argument → Script Step → Type 0
Steps (Err answers.NoMemory) old new rest script = Unit {0}
Steps (Ok n) old new rest (Give s) = (new ≡ old ++ s.bytes) × (rest ≡ s.rest) × (n ≡ s.len)
Steps (Err (answers.Raise c)) old new rest (RaiseOf d) = c ≡ d
Steps (Err (answers.Outside c n)) old new rest (Exceed d m) = (c ≡ d) × (n ≡ m)
Steps r old new rest script = ⊥
