-- How many bytes the objects have that the text names, and the literals (6.2.4, 6.4.5p6).
use Rattle.std.specs.Prelude.{ℕ, ◌==◌, List, [], ◌∷◌, length, slice_get, Option, Some, None, if◌then◌else◌}
use Rattle.c_types.specs.Types.{qualified_of}
use Rattle.c_types.specs.Layout.{size_of}
use Rattle.c_types.specs.declared.ty.Qual.{Qual}
use Rattle.c_types.specs.declared.tags.Tag.{Tag}
use Rattle.c_typed.specs.declared.tree.Slot.{Slot}
use Rattle.c_typed.specs.declared.tree.Slot.TheVariants as slot
use Rattle.c_typed.specs.declared.statement.Body.{Body, fold-Body}
use Rattle.c_typed.specs.declared.statement.ForStart.{ForStart, fold-ForStart}
use Rattle.c_typed.specs.declared.statement.Block.{Block, fold-Block}
use Rattle.c_typed.specs.declared.statement.Entry.{Entry, fold-Entry}
use Rattle.c_typed.specs.declared.statement.Body.TheOpen as form
use Rattle.c_typed.specs.declared.statement.Body.TheOpen.{Body-F, ForStart-F, Block-F, Entry-F}
use Rattle.c_typed.specs.declared.program.Function.{Function}
use Rattle.c_typed.specs.declared.program.Static.{Static}
use Rattle.c_typed.specs.declared.program.Program.{Program}

abbrev pub size_at : List Tag → Option Qual → Option ℕ
size_at tags None = None
size_at tags (Some q) = Some (size_of tags (qualified_of q).ty)

abbrev pub or_else : Option ℕ → Option ℕ → Option ℕ
or_else None o = o
or_else (Some n) o = Some n

abbrev pub otherwise : Option (Option ℕ) → Option ℕ
otherwise None = None
otherwise (Some o) = o

abbrev pub first_of : List (Option ℕ) → Option ℕ
first_of [] = None
first_of (o ∷ os) = or_else o (first_of os)

abbrev pub body_step : Body-F (Option ℕ) (Option ℕ) (Option ℕ) (Option ℕ) → Option ℕ
body_step (form.Block size) = size
body_step (form.If test first second) = or_else first (otherwise second)
body_step (form.Switch test size) = size
body_step (form.While test size) = size
body_step (form.Do size test) = size
body_step (form.For start test step size) = or_else start size
body_step (form.Label label size) = size
body_step (form.Case value size) = size
body_step (form.Default size) = size
body_step _ = None

abbrev pub start_step : ForStart-F (Option ℕ) (Option ℕ) (Option ℕ) (Option ℕ) → Option ℕ
start_step (form.Declared size) = size
start_step _ = None

abbrev pub entry_step : Entry-F (Option ℕ) (Option ℕ) (Option ℕ) (Option ℕ) → Option ℕ
entry_step (form.Statement size) = size
entry_step _ = None

-- object `decl` of the block of this number
abbrev pub block_step : List Tag → ℕ → ℕ → Block-F (Option ℕ) (Option ℕ) (Option ℕ) (Option ℕ) → Option ℕ
block_step tags number decl b = if b.number == number then size_at tags (slice_get b.objects decl) else first_of b.entries

abbrev pub body_size : List Tag → ℕ → ℕ → Body → Option ℕ
body_size tags number decl = fold-Body (Option ℕ) (Option ℕ) (Option ℕ) (Option ℕ) body_step entry_step start_step (block_step tags number decl)

abbrev pub start_size : List Tag → ℕ → ℕ → ForStart → Option ℕ
start_size tags number decl = fold-ForStart (Option ℕ) (Option ℕ) (Option ℕ) (Option ℕ) body_step entry_step start_step (block_step tags number decl)

abbrev pub block_size : List Tag → ℕ → ℕ → Block → Option ℕ
block_size tags number decl = fold-Block (Option ℕ) (Option ℕ) (Option ℕ) (Option ℕ) body_step entry_step start_step (block_step tags number decl)

abbrev pub entry_size : List Tag → ℕ → ℕ → Entry → Option ℕ
entry_size tags number decl = fold-Entry (Option ℕ) (Option ℕ) (Option ℕ) (Option ℕ) body_step entry_step start_step (block_step tags number decl)

abbrev pub defined_size : List Tag → ℕ → ℕ → Option Body → Option ℕ
defined_size tags number decl None = None
defined_size tags number decl (Some body) = body_size tags number decl body

abbrev pub function_size : List Tag → ℕ → ℕ → Option Function → Option ℕ
function_size tags number decl None = None
function_size tags number decl (Some f) = defined_size tags number decl f.body

abbrev pub static_size : List Tag → Option Static → Option ℕ
static_size tags None = None
static_size tags (Some s) = Some (size_of tags (qualified_of s.qual).ty)

-- an object that a function names, none where it isn't there
abbrev pub slot_size : Program → ℕ → Slot → Option ℕ
slot_size p function (slot.Static number) = static_size p.tags (slice_get p.statics number)
slot_size p function (slot.Auto block decl) = function_size p.tags block decl (slice_get p.functions function)

abbrev pub literal_size : Option (List ℕ) → Option ℕ
literal_size None = None
literal_size (Some bytes) = Some (length bytes)
