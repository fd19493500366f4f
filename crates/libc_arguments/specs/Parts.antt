-- The parts of a call that look at memory, against the parts of its script (own). A call lists its items while memory stays as it is;
-- what they settle and expose takes effect at its end.
use Rattle.std.specs.Prelude.{
  ◌≡◌,
  ℕ,
  zero,
  suc,
  ◌+◌,
  ◌<◌,
  ◌^◌,
  Bool,
  true,
  false,
  ◌||◌,
  ◌==◌,
  List,
  [],
  ◌∷◌,
  ◌++◌,
  map,
  Option,
  Some,
  None,
  Result,
  Ok,
  Err,
  if◌then◌else◌,
  pos,
}
use Rattle.ub_base.specs.declared.clause.Clause.TheVariants.{LibraryArgument, Indeterminate}
use Rattle.ub_base.specs.declared.names.Item.{Item}
use Rattle.ub_base.specs.declared.names.Item.TheVariants.{Read, Expose, Narrow}
use Rattle.ub_base.specs.declared.names.Event.{Event}
use Rattle.ub_base.specs.declared.names.ObjName.{ObjName}
use Rattle.ub_base.specs.Names.{same_event}
use Rattle.addr_map.specs.declared.map.Row.{Row}
use Rattle.exposure.specs.declared.prov.Prov.{Prov}
use Rattle.exposure.specs.Cells.{Cells, has_cell, is_other}
use Rattle.mem_objects.specs.declared.value.Value.{Value}
use Rattle.mem_objects.specs.declared.answer.LibAnswer.{LibAnswer}
use Rattle.mem_objects.specs.declared.answer.LibAnswer.TheVariants as answers
use Rattle.mem_spec.specs.Store.{Store, TaggedByte, range_from, settled, shown}
use Rattle.mem_spec.specs.declared.stream.Stream.TheVariants as streams
use Rattle.mem_spec.specs.Script.{Settle, Print, Script, Give, touch, ◌>>=◌, ◌>>◌, Act, Done, Raised, run}
use Rattle.mem_spec.specs.Acts.{Accessed, settle_by, the_one_in, in_row, offset_in, is_written, all_written, origins_in}
use Rattle.mem_objects.specs.Loads.{origins_of}
use Rattle.mem_spec.specs.Streams.{Io}
use Rattle.mem_objects.specs.Held.{held_of}
use Rattle.mem_objects.specs.Memory.{Kept, AreKnown, store_of, life_in, tagged_in_object}
use Rattle.libc_spec.specs.Library.{
  LibValue,
  number,
  Text,
  text,
  is_zero,
  numbers,
  number_of_byte,
  read_numbers,
  without_zero,
  joined,
  in_ranges,
  created_within,
  output_within,
}
use Rattle.libc_arguments.specs.declared.arguments.Range.{Range}
use Rattle.libc_arguments.specs.Answers.{given_value}
use Rattle.libc_arguments.specs.Seen.{value_seen}

-- what an item settles or exposes
abbrev pub effect : Item → Store → Store
effect (Narrow id x) s = settled s id x
effect (Expose x) s = shown s x
effect i s = s

-- the store after these items took effect
abbrev pub after : List Item → Store → Store
after [] s = s
after (i ∷ is) s = after is (effect i s)

-- the object to which an ambiguity is settled after an item
abbrev pub kept_by : Item → Event → Option ObjName → Option ObjName
kept_by (Narrow d x) id before = if same_event d id then Some x else before
kept_by i id before = before

abbrev pub kept_after : List Item → Event → Option ObjName → Option ObjName
kept_after [] id before = before
kept_after (i ∷ is) id before = kept_after is id (kept_by i id before)

-- an ambiguity that the item settles has its cell and wasn't settled to another object
abbrev pub CanDo : Cells → Item → Store → Type 0
CanDo cells (Narrow id x) s = (has_cell cells id ≡ true) × (is_other (s.kept id) x ≡ false)
CanDo cells i s = Unit {0}

abbrev pub CanFollow : Cells → List Item → Store → Type 0
CanFollow cells [] s = Unit {0}
CanFollow cells (i ∷ is) s = CanDo cells i s × CanFollow cells is (effect i s)

-- what an item settles or exposes took effect
pub record IsSettled (old new : Kept) (i : Item) : Type 0 where
  pub store : (io : Io) → CanDo old.cells i (store_of old io) → store_of new io ≡ effect i (store_of old io)
  pub cells : (e : Event) → has_cell new.cells e ≡ has_cell old.cells e
  pub rows : new.rows ≡ old.rows
  pub known : AreKnown old → AreKnown new

pub record AreSettled (old new : Kept) (is : List Item) : Type 0 where
  pub store : (io : Io) → CanFollow old.cells is (store_of old io) → store_of new io ≡ after is (store_of old io)
  pub cells : (e : Event) → has_cell new.cells e ≡ has_cell old.cells e
  pub rows : new.rows ≡ old.rows
  pub known : AreKnown old → AreKnown new

abbrev pub is_read : Item → Bool
is_read (Read x a n) = true
is_read i = false

abbrev pub starts_in_read : List Item → Bool
starts_in_read [] = false
starts_in_read (i ∷ is) = is_read i

abbrev pub has_read : List Item → Bool
has_read [] = false
has_read (i ∷ is) = is_read i || has_read is

-- no read is joined with one of an earlier part; a quiet part has none
abbrev pub is_joined : (quiet : Bool) → List Item → Bool
is_joined true is = has_read is
is_joined false is = starts_in_read is

-- behind the old items the script gives the value and adds the new ones, of which reads that follow one another are one
pub record Gives (quiet : Bool) (V : Type 0) (m : Kept) (io : Io) (old new : List Item) (script : Script V) (v : V) : Type 0 where
  pub items : List Item
  pub apart : is_joined quiet items ≡ false
  pub added : new ≡ old ++ joined items
  pub done : run m.rows script (after old (store_of m io)) ≡ Done v items (after new (store_of m io))
  pub able : CanFollow m.cells old (store_of m io) → CanFollow m.cells new (store_of m io)

-- a part of a call does what a script does: it gives its value, or raises its clause; where memory is wanted nothing is said
abbrev pub Follows : {A V : Type 0} → (quiet : Bool) → (A → V) → Result A LibAnswer → Kept → Io → (old new : List Item) → Script V → Type 0
Follows {V = V} quiet seen (Ok a) m io old new script = Gives quiet V m io old new script (seen a)
Follows quiet seen (Err answers.NoMemory) m io old new script = Unit {0}
Follows quiet seen (Err (answers.Raise c)) m io old new script = run m.rows script (after old (store_of m io)) ≡ Raised c
Follows quiet seen (Err answer) m io old new script = ⊥

-- where a range begins in its object, if it lies in it
abbrev pub offset_if : Option Row → ℕ → ℕ → Option ℕ
offset_if row a len = if in_row row a len then Some (offset_in row a) else None

-- the byte of an object
abbrev pub byte_at : Kept → ObjName → ℕ → TaggedByte
byte_at m x i = tagged_in_object m.origins m.types (held_of m.objects x) i

abbrev pub bytes_of : Kept → Range → List TaggedByte
bytes_of m r = range_from (byte_at m r.object) r.from r.len

-- the object, to which the ambiguity is settled
abbrev pub settled_to : Event → ObjName → Script (Option ObjName)
settled_to id keep = touch (Settle id keep LibraryArgument) >> Give (Some keep)

-- of two candidates for which the tests tell, the one that has the range, which the ambiguity is settled to; none where both have it
abbrev pub one_of_two : (in_past in_start : Bool) → Event → (past start : ObjName) → Script (Option ObjName)
one_of_two in_past in_start id past start = settle_by in_past in_start id past start LibraryArgument >> Give (the_one_in in_past in_start past start)

-- a range as its script has it
abbrev pub accessed : Kept → Range → Accessed
accessed m r = record { object = r.object; from = r.from; life = life_in (held_of m.objects r.object) }

abbrev pub accessed_if : Kept → Option Range → Option Accessed
accessed_if m None = None
accessed_if m (Some r) = Some (accessed m r)

abbrev pub text_in : Kept → Range → Text
text_in m r = record { at = accessed m r; bytes = bytes_of m r }

-- the range ends within 64 bits
abbrev pub IsShort : Range → Type 0
IsShort r = r.from + r.len < 2 ^ 64

abbrev pub IsRange : ℕ → Option Range → Type 0
IsRange len None = Unit {0}
IsRange len (Some r) = (r.len ≡ len) × IsShort r

abbrev pub one_more : Option ℕ → Option ℕ
one_more None = None
one_more (Some n) = Some (suc n)

-- how many bytes from a place on are up to and with the first written zero, if one is among the next so many
abbrev pub string_size : (ℕ → TaggedByte) → ℕ → ℕ → Option ℕ
string_size f zero a = None
string_size f (suc n) a = if is_zero (f a).byte then Some 1 else one_more (string_size f n (suc a))

-- the value is an integer or a pointer
abbrev pub IsPassed : Value → Type 0
IsPassed v = v ≡ given_value (value_seen v)

-- a byte is read: it is written, and what its piece was made from is exposed
abbrev pub ReadsByte : Result ℕ LibAnswer → TaggedByte → (old new : List Item) → Type 0
ReadsByte (Ok n) b old new = (is_written b.byte ≡ true) × (n ≡ number_of_byte b) × (new ≡ old ++ map Expose (origins_in b.byte))
ReadsByte (Err answers.NoMemory) b old new = Unit {0}
ReadsByte (Err (answers.Raise c)) b old new = (c ≡ Indeterminate) × (is_written b.byte ≡ false)
ReadsByte (Err answer) b old new = ⊥

-- the same of each of a list of bytes
abbrev pub ReadsAll : {A : Type 0} → (A → List ℕ) → Result A LibAnswer → List TaggedByte → (old new : List Item) → Type 0
ReadsAll items (Ok v) bs old new = (all_written bs ≡ true) × (items v ≡ numbers bs) × (new ≡ old ++ map Expose (origins_of bs))
ReadsAll items (Err answers.NoMemory) bs old new = Unit {0}
ReadsAll items (Err (answers.Raise c)) bs old new = (c ≡ Indeterminate) × (all_written bs ≡ false)
ReadsAll items (Err answer) bs old new = ⊥

-- the read of a range, none where it has no bytes
abbrev pub read_items : Range → List Item
read_items r = if r.len == 0 then [] else Read r.object r.from r.len ∷ []

-- the same of a range that may have been left open
abbrev pub reads_if : Option Range → List Item
reads_if None = []
reads_if (Some r) = read_items r

abbrev pub bytes_if : Kept → Option Range → List TaggedByte
bytes_if m None = []
bytes_if m (Some r) = bytes_of m r

-- the bytes of a string as puts prints them: without the zero, with a line feed
abbrev pub line : List ℕ → List ℕ
line ns = without_zero ns ++ 10 ∷ []

-- the line of a string argument
abbrev pub line_at : List Row → ℕ → Prov → Script (List ℕ)
line_at rows a prov = text rows a prov >>= (λ s. read_numbers s.bytes >>= (λ ns. Give (line ns)))

-- bytes are printed; the value is that of puts
abbrev pub printed : List ℕ → Script LibValue
printed bs = touch (Print streams.Output bs) >> Give (number (pos 1))

-- what a script gives is printed
abbrev pub printing : Script (List ℕ) → Script LibValue
printing script = script >>= printed

-- a call of a function that allocates nothing, with its limits
abbrev pub limited : Store → Act LibValue → Act LibValue
limited s act = output_within (created_within 0 s (in_ranges act))
