-- What functions of this crate answer, against scripts that touch no memory.
use Rattle.std.specs.Prelude.{◌≡◌, ℕ, List, ◌++◌, Result, Ok, Err}
use Rattle.mem_objects.specs.declared.answer.LibAnswer.{LibAnswer}
use Rattle.mem_objects.specs.declared.answer.LibAnswer.TheVariants as answers
use Rattle.mem_spec.specs.Script.{Script, Give, Raise as RaiseOf, Exceed}
use Rattle.libc_spec.specs.Print.{Argument, Taken}
use Rattle.libc_directives.specs.declared.refusal.Refusal.{Refusal}
use Rattle.libc_directives.specs.declared.refusal.Refusal.TheVariants.{Raise, Outside, NoMemory}

-- the bytes are added that the script gives, or it is refused as the script says; where memory is wanted nothing is said
abbrev pub PutsBytes : Result (Unit {0}) Refusal → (old new : List ℕ) → Script (List ℕ) → Type 0
PutsBytes (Err NoMemory) old new script = Unit {0}
PutsBytes (Ok u) old new (Give bytes) = new ≡ old ++ bytes
PutsBytes (Err (Raise c)) old new (RaiseOf d) = c ≡ d
PutsBytes (Err (Outside c n)) old new (Exceed d m) = (c ≡ d) × (n ≡ m)
PutsBytes _ old new script = ⊥

-- the same for a script that takes arguments, which leaves these
abbrev pub Puts : Result (Unit {0}) Refusal → (old new : List ℕ) → List Argument → Script (Taken (List ℕ)) → Type 0
Puts (Err NoMemory) old new rest script = Unit {0}
Puts (Ok u) old new rest (Give taken) = (new ≡ old ++ taken.item) × (rest ≡ taken.rest)
Puts (Err (Raise c)) old new rest (RaiseOf d) = c ≡ d
Puts (Err (Outside c n)) old new rest (Exceed d m) = (c ≡ d) × (n ≡ m)
Puts _ old new rest script = ⊥

-- a refusal as the answer of a call
abbrev pub answer_of : Refusal → LibAnswer
answer_of (Raise c) = answers.Raise c
answer_of (Outside c n) = answers.Outside c n
answer_of NoMemory = answers.NoMemory
