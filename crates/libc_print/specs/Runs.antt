-- The parts of a call that add bytes to its text and may look at memory, against the parts of its script (own).
use Rattle.std.specs.Prelude.{◌≡◌, ℕ, ◌++◌, length, false, List, Result, Ok, Err}
use Rattle.ub_base.specs.declared.names.Item.{Item}
use Rattle.mem_objects.specs.declared.answer.LibAnswer.{LibAnswer}
use Rattle.mem_objects.specs.declared.answer.LibAnswer.TheVariants as answers
use Rattle.mem_spec.specs.Streams.{Io}
use Rattle.mem_objects.specs.Memory.{Kept, store_of}
use Rattle.addr_map.specs.declared.map.Row.{Row}
use Rattle.exposure.specs.declared.prov.Prov.{Prov}
use Rattle.mem_spec.specs.Script.{Script, ◌>>=◌, Raised, Outside, run}
use Rattle.libc_arguments.specs.Parts.{Gives, after}
use Rattle.libc_spec.specs.Library.{text, read_numbers, without_zero}
use Rattle.libc_spec.specs.Print.{Argument, Taken, Step, text_of}

-- behind the old items the script gives the value that has the bytes which were added
pub record Added (V : Type 0) (seen : List ℕ → V) (m : Kept) (io : Io) (old new : List Item) (before out : List ℕ) (script : Script V) : Type 0 where
  pub bytes : List ℕ
  pub more : out ≡ before ++ bytes
  pub gives : Gives false V m io old new script (seen bytes)

-- the bytes are added that the script gives, or its clause is raised, or its limit passed; where memory is wanted nothing is said
abbrev pub Adds : {A V : Type 0} → (A → List ℕ → V) → Result A LibAnswer → Kept → Io → (old new : List Item) → (before out : List ℕ) → Script V → Type 0
Adds {V = V} seen (Ok a) m io old new before out script = Added V (seen a) m io old new before out script
Adds seen (Err answers.NoMemory) m io old new before out script = Unit {0}
Adds seen (Err (answers.Raise c)) m io old new before out script = run m.rows script (after old (store_of m io)) ≡ Raised c
Adds seen (Err (answers.Outside c n)) m io old new before out script = run m.rows script (after old (store_of m io)) ≡ Outside c n
Adds seen (Err answer) m io old new before out script = ⊥

-- the bytes of a directive, which leaves these arguments
abbrev pub directive_bytes : List Argument → Unit {0} → List ℕ → Taken (List ℕ)
directive_bytes rest u bytes = record { item = bytes; rest = rest }

-- those of a step over so many bytes of the format
abbrev pub step_bytes : List Argument → ℕ → List ℕ → Step
step_bytes rest n bytes = record { bytes = bytes; len = n; rest = rest }

-- a part of a call that looks at memory does what a script does: it gives its value, or raises its clause, or passes its limit; where
-- memory is wanted nothing is said
abbrev pub Prints : {A V : Type 0} → (A → V) → Result A LibAnswer → Kept → Io → (old new : List Item) → Script V → Type 0
Prints {V = V} seen (Ok a) m io old new script = Gives false V m io old new script (seen a)
Prints seen (Err answers.NoMemory) m io old new script = Unit {0}
Prints seen (Err (answers.Raise c)) m io old new script = run m.rows script (after old (store_of m io)) ≡ Raised c
Prints seen (Err (answers.Outside c n)) m io old new script = run m.rows script (after old (store_of m io)) ≡ Outside c n
Prints seen (Err answer) m io old new script = ⊥

-- the text of a call: its format is read and then printed
abbrev pub printed_text : List Row → ℕ → Prov → List Argument → Script (List ℕ)
printed_text rows a p as' = do
  s ← text rows a p
  ns ← read_numbers s.bytes
  text_of (length ns) rows 0 (without_zero ns) as'
