-- Parts of a call whose reads are noted one by one, and the bytes that a call writes (own).
use Rattle.std.specs.Prelude.{
  ◌≡◌,
  ℕ,
  ◌≤◌,
  ◌==◌,
  ◌||◌,
  Bool,
  true,
  false,
  not,
  List,
  [],
  ◌∷◌,
  ◌++◌,
  length,
  map,
  Option,
  Some,
  None,
  Result,
  Ok,
  Err,
  if◌then◌else◌,
}
use Rattle.ub_base.specs.declared.clause.Clause.{Clause}
use Rattle.ub_base.specs.declared.clause.Clause.TheVariants.{StoreToLiteral, StoreToConst, MemcpyOverlap, StrcpyOverlap}
use Rattle.ub_base.specs.declared.names.Item.{Item}
use Rattle.ub_base.specs.declared.names.Item.TheVariants.{Expose, Write}
use Rattle.ub_base.specs.declared.names.ObjName.{ObjName}
use Rattle.addr_map.specs.declared.map.Row.{Row}
use Rattle.addr_map.specs.Rows.{row_of}
use Rattle.exposure.specs.declared.prov.Prov.{Prov}
use Rattle.mem_objects.specs.declared.answer.LibAnswer.{LibAnswer}
use Rattle.mem_objects.specs.declared.answer.LibAnswer.TheVariants as answers
use Rattle.mem_objects.specs.declared.cell.Via.{Via}
use Rattle.mem_objects.specs.declared.cell.Via.TheVariants as vias
use Rattle.mem_spec.specs.Store.{Life, Store, is_live, with_bytes}
use Rattle.mem_spec.specs.Script.{Script, Give, require, ◌>>=◌, ◌>>◌, Act, Done, Raised, run}
use Rattle.mem_spec.specs.Acts.{Accessed, Seen, whole, bytes, in_row, offset_in, is_literal, is_constant, declared_of, stored_from, retagged, argument}
use Rattle.mem_spec.specs.Streams.{Io}
use Rattle.mem_objects.specs.Held.{held_of}
use Rattle.mem_objects.specs.Memory.{Kept, store_of, life_in}
use Rattle.libc_spec.specs.Library.{LibValue, text, plain, overlap, read_numbers, check_target, output_within, created_within}
use Rattle.libc_arguments.specs.declared.arguments.Range.{Range}
use Rattle.libc_arguments.specs.Parts.{after, CanFollow, bytes_of, read_items}

-- behind the old items the script gives the value and adds the new ones
pub record Lists (V : Type 0) (m : Kept) (io : Io) (old new : List Item) (script : Script V) (v : V) : Type 0 where
  pub items : List Item
  pub added : new ≡ old ++ items
  pub done : run m.rows script (after old (store_of m io)) ≡ Done v items (after new (store_of m io))
  pub able : CanFollow m.cells old (store_of m io) → CanFollow m.cells new (store_of m io)

-- a part of a call does what a script does, item by item: it gives its value, or raises its clause; where memory is wanted nothing is said
abbrev pub Tells : {A V : Type 0} → (A → V) → Result A LibAnswer → Kept → Io → (old new : List Item) → Script V → Type 0
Tells {V = V} seen (Ok a) m io old new script = Lists V m io old new script (seen a)
Tells seen (Err answers.NoMemory) m io old new script = Unit {0}
Tells seen (Err (answers.Raise c)) m io old new script = run m.rows script (after old (store_of m io)) ≡ Raised c
Tells seen (Err answer) m io old new script = ⊥

-- a call of a function that allocates nothing and whose reads are noted one by one, with its limits
abbrev pub within_limits : Store → Act LibValue → Act LibValue
within_limits s act = output_within (created_within 0 s act)

-- the range begins at the address, in a live object
pub record IsPlace (m : Kept) (a : ℕ) (r : Range) : Type 0 where
  pub address : 1 ≤ a
  pub live : is_live (life_in (held_of m.objects r.object)) ≡ true
  pub inside : in_row (row_of m.rows r.object) a r.len ≡ true
  pub from : r.from ≡ offset_in (row_of m.rows r.object) a

-- the object may be written to (6.4.5p7, 6.7.3p6)
abbrev pub writable : Option Life → Result (Unit {0}) Clause
writable life = if is_literal life then Err StoreToLiteral else (if is_constant life then Err StoreToConst else Ok tt)

abbrev pub target_checked : Kept → Option Range → Result (Unit {0}) Clause
target_checked m None = Ok tt
target_checked m (Some r) = if r.len == 0 then Ok tt else writable (life_in (held_of m.objects r.object))

-- the range of a pointer argument that is written to
abbrev pub target_at : List Row → ℕ → ℕ → Prov → Script (Option Accessed)
target_at rows n a prov = argument rows n a prov >>= (λ target. check_target n target >> Give target)

-- what strcpy writes, and where
abbrev pub string_to_copy : List Row → (to : ℕ) → Prov → (from : ℕ) → Prov → Script (List ℕ × Option Accessed)
string_to_copy rows to p from q =
    text rows from q >>= (λ source. argument rows (length source.bytes) to p >>=
    (λ target. read_numbers source.bytes >>= (λ ns. check_target (length source.bytes) target >>= (λ u.
    require (not (overlap (length source.bytes) to from)) StrcpyOverlap >>= (λ w. Give (ns, target))))))

-- the ranges of a copy
abbrev pub ranges_to_copy : List Row → (may_overlap : Bool) → (to : ℕ) → Prov → (from : ℕ) → Prov → ℕ → Script (Option Accessed × Option Accessed)
ranges_to_copy rows may_overlap to p from q n =
    argument rows n to p >>= (λ target. argument rows n from q >>=
    (λ source. check_target n target >>= (λ u. require (may_overlap || not (overlap n to from)) MemcpyOverlap >>= (λ w. Give (target, source)))))

-- none for a range of no bytes
abbrev pub without_empty : Option Range → Option Range
without_empty None = None
without_empty (Some r) = if r.len == 0 then None else Some r

-- the write of a range that may have been left open, none where it has no bytes
abbrev pub write_items : Option Range → List Item
write_items None = []
write_items (Some r) = if r.len == 0 then [] else Write r.object r.from r.len ∷ []

-- numbers replace the bytes of the range
abbrev pub overwritten : Option Range → List ℕ → Store → Store
overwritten None ns s = s
overwritten (Some r) ns s = if r.len == 0 then s else with_bytes s r.object r.from (stored_from (declared_of (s.life r.object)) bytes 0 (map plain ns))

-- the ranges between which bytes are copied, none where there are no bytes
abbrev pub moving : Option Range → Option Range → Option (Range × Range)
moving (Some target) (Some source) = if target.len == 0 then None else Some (target, source)
moving target source = None

-- the items of a copy between ranges of one length, none where they have no bytes
abbrev pub moved_items : Option Range → Option Range → List Item
moved_items (Some target) (Some source) = read_items source ++ write_items (Some target)
moved_items target source = []

-- the bytes of the one range replace those of the other as they stand, with pieces and tags
abbrev pub moved : Kept → Option Range → Option Range → Store → Store
moved m (Some target) (Some source) s = if target.len == 0 then s else with_bytes s target.object target.from
    (stored_from (declared_of (life_in (held_of m.objects target.object))) whole 0
    (retagged (declared_of (life_in (held_of m.objects source.object))) source.from (bytes_of m source)))
moved m target source s = s

-- bytes without a type
abbrev pub SeesBytes : Via → Seen → Type 0
SeesBytes vias.Whole whole = Unit {0}
SeesBytes vias.Bytes bytes = Unit {0}
SeesBytes _ _ = ⊥

abbrev pub is_expose : Item → Bool
is_expose (Expose x) = true
is_expose i = false

abbrev pub has_expose : List Item → Bool
has_expose [] = false
has_expose (i ∷ is) = is_expose i || has_expose is

-- the ranges of a copy have one length
abbrev pub AreEven : Option Range → Option Range → Type 0
AreEven (Some r) (Some u) = r.len ≡ u.len
AreEven r u = Unit {0}

-- the memory is as before, but for the types that have numbers and the ambiguities
abbrev pub IsKept : Kept → Kept → Type 0
IsKept old new = record new { cells = []; types = [] } ≡ record old { cells = []; types = [] }

-- each object lives as before
abbrev pub LiveOn : Kept → Kept → Type 0
LiveOn old new = (x : ObjName) → life_in (held_of new.objects x) ≡ life_in (held_of old.objects x)

-- so many bytes are written
abbrev pub FillsRange : ℕ → Option Range → Type 0
FillsRange n None = Unit {0}
FillsRange n (Some r) = n ≡ r.len
