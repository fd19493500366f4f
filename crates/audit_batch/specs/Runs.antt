-- Which runs a batch makes, and what it puts of them (own).
use Rattle.std.specs.Prelude.{◌≡◌, ◌⊎◌, ℕ, List, [], ◌∷◌, filter, length, nat_lt, Bool, Option, Some, None, option_copied}
use Rattle.std.specs.Str.Lines.{lines}
use Rattle.ub_base.specs.Sink.{Gains, GainsPart}
use Rattle.audit_batch.specs.Batch.{run_line, tally_after}
use Rattle.audit_batch.specs.Moment.{Moment}
use Rattle.audit_batch.specs.declared.audit.Run.{Run}
use Rattle.audit_batch.specs.declared.tally.Tally.{Tally}

-- the name of a program, and of its input where it has one
abbrev pub Names : Type 0
Names = List ℕ × Option (List ℕ)

abbrev pub names_of : Run → Names
names_of run = (run.program.now, option_copied run.input)

-- the run of a name: of the program, if there is one, on the input of this name, or else of the program of this name
abbrev pub run_for : Option (List ℕ) → List ℕ → Names
run_for None name = (name, None)
run_for (Some program) name = (program, Some name)

abbrev pub is_name : List ℕ → Bool
is_name line = nat_lt 0 (length line)

-- the names in a list: its lines, without the empty ones
abbrev pub names_in : List ℕ → List (List ℕ)
names_in list = filter is_name (lines list)

-- whether the audit of a program on an input may say this status and this line, while the files went from one moment to the next
abbrev pub Says : Type 1
Says = Moment → Moment → List ℕ → Option (List ℕ) → ℕ → List ℕ → Type 0

-- The audit of a run says this status and this line, and the line is put.
pub record IsSaid (says : Says) (was is : Moment) (run : Names) (before now : Option (List ℕ)) (status : ℕ) : Type 0 where
  pub line : List ℕ
  pub said : says was is run.0 run.1 status line
  pub put : Gains before now (run_line run.0 run.1 line)

-- Where a batch stands: the files, what was put, and the tally.
pub record Stand : Type 0 where
  pub files : Moment
  pub told : Option (List ℕ)
  pub tally : Tally

abbrev pub stand : Moment → Option (List ℕ) → Tally → Stand
stand files told tally = record { files = files; told = told; tally = tally }

-- one run is said, and counted
pub record Goes (says : Says) (old : Stand) (run : Names) (new : Stand) : Type 0 where
  pub status : ℕ
  pub said : IsSaid says old.files new.files run old.told new.told status
  pub counted : new.tally ≡ tally_after old.tally status

-- some of the runs, from the first one on, are said in turn and counted, and the rest is left
abbrev pub Reaches : Says → Stand → List Names → Stand → List Names → Type 0
Reaches says old [] new rest = (new ≡ old) × (rest ≡ [])
Reaches says old (run ∷ runs) new rest =
    ((new ≡ old) × (rest ≡ run ∷ runs)) ⊎ ((next : Stand) × Goes says old run next × Reaches says next runs new rest)

-- The audit of a run says a line, and a part of it is put.
pub record PartSaid (says : Says) (was is : Moment) (run : Names) (before now : Option (List ℕ)) : Type 0 where
  pub status : ℕ
  pub line : List ℕ
  pub said : says was is run.0 run.1 status line
  pub part : GainsPart before now (run_line run.0 run.1 line)

-- the line of this run is put in part or not at all
abbrev pub IsCut : Says → Moment → Moment → Names → Option (List ℕ) → Option (List ℕ) → Type 0
IsCut says was is run before now = (now ≡ before) ⊎ PartSaid says was is run before now

-- The batch ends at a run whose line isn't put whole, those before it being said in turn.
pub record Breaks (says : Says) (old : Stand) (runs : List Names) (is : Moment) (now : Option (List ℕ)) : Type 0 where
  pub last : Stand
  pub run : Names
  pub rest : List Names
  pub reaches : Reaches says old runs last (run ∷ rest)
  pub cut : IsCut says last.files is run last.told now
