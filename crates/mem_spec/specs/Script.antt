-- An act is a script of single touches of the store, each with its item.
use Rattle.std.specs.Prelude.{ℕ, ◌+◌, Bool, true, false, List, [], ◌∷◌, ◌++◌, length, slice_get, Option, is_some, if◌then◌else◌}
use Rattle.ub_base.specs.declared.clause.Clause.{Clause}
use Rattle.ub_base.specs.declared.clause.Cause.{Cause}
use Rattle.ub_base.specs.declared.names.Event.{Event}
use Rattle.ub_base.specs.declared.names.ObjName.{ObjName}
use Rattle.ub_base.specs.declared.names.Item.{Item}
use Rattle.ub_base.specs.declared.names.Item.TheVariants.{Read, Write, Born, Dies, Alive, Expose, Lookup, Narrow, Input, Output, Ending}
use Rattle.addr_map.specs.declared.map.Row.{Row}
use Rattle.addr_map.specs.Rows.{covers, past}
use Rattle.exposure.specs.Cells.{is_other}
use Rattle.c_types.specs.Shapes.{Form}
use Rattle.mem_spec.specs.declared.kind.ObjKind.{ObjKind}
use Rattle.mem_spec.specs.declared.stream.Stream.{Stream}
use Rattle.mem_spec.specs.Streams.{printed_to}
use Rattle.mem_spec.specs.Store.{TaggedByte, Life, Store, range_from, with_bytes, born, buried, shown, settled, findable}

-- a single touch of the store
pub data Touch : Type 0 where
  -- the life, kind and declared type of an object
  Ask : ObjName → Touch
  -- the bytes of a range, read
  Get : (x : ObjName) (from len : ℕ) → Touch
  -- the bytes of a range, replaced
  Put : (x : ObjName) (from : ℕ) (bs : List TaggedByte) → Touch
  -- a new object
  Bear : (x : ObjName) (size : ℕ) (kind : ObjKind) (declared : Option Form) → Touch
  -- the object dies; gives its life before
  Bury : ObjName → Touch
  Show : ObjName → Touch
  -- the exposed live objects that contain the address and that have it one past
  Find : (address : ℕ) → Touch
  -- an ambiguity is settled, or the clause is raised where it was settled to another object
  Settle : (id : Event) (keep : ObjName) → Clause → Touch
  -- the next byte of the input; at its end none, and the position stands still
  Take : Touch
  -- bytes are written to a stream
  Print : Stream → List ℕ → Touch

abbrev pub item_of : Touch → Item
item_of (Ask x) = Alive x
item_of (Get x a n) = Read x a n
item_of (Put x a bs) = Write x a (length bs)
item_of (Bear x size kind declared) = Born x
item_of (Bury x) = Dies x
item_of (Show x) = Expose x
item_of (Find a) = Lookup a
item_of (Settle id x c) = Narrow id x
item_of Take = Input
item_of (Print to bs) = Output

-- what a touch gives
abbrev pub Answer : Touch → Type 0
Answer (Ask x) = Option Life
Answer (Get x a n) = List TaggedByte
Answer (Bury x) = Option Life
Answer (Find a) = Option ObjName × Option ObjName
Answer Take = Option ℕ
Answer _ = Unit {0}

-- an act: touches one after the other, each chosen by what the earlier ones gave, and then a value, undefined behaviour, the end
-- of the run with a status, a limit that would be passed, or a creation without a row
pub data Script (V : Type 0) : Type 0 where
  Give : V → Script V
  Raise : Clause → Script V
  Finish : (status : ℕ) → Script V
  Exceed : (cause : Cause) (number : ℕ) → Script V
  Misplace : Script V
  Do : (t : Touch) → (Answer t → Script V) → Script V

infixl 20 ◌>>=◌ ◌>>◌
-- one script after another
abbrev pub ◌>>=◌ : {A B : Type 0} → Script A → (A → Script B) → Script B
Give v >>= k = k v
Raise c >>= k = Raise c
Finish n >>= k = Finish n
Exceed c n >>= k = Exceed c n
Misplace >>= k = Misplace
Do t g >>= k = Do t (λ a. g a >>= k)

abbrev pub ◌>>◌ : {A B : Type 0} → Script A → Script B → Script B
s >> t = s >>= (λ v. t)

-- a single touch
abbrev pub touch : (t : Touch) → Script (Answer t)
touch t = Do t (λ a. Give a)

abbrev pub require : Bool → Clause → Script (Unit {0})
require true c = Give tt
require false c = Raise c

-- what an act did: its value, its items and the store after it, or why it gave none
pub data Act (V : Type 0) : Type 0 where
  Done : V → List Item → Store → Act V
  Raised : Clause → Act V
  Ended : (status : ℕ) → List Item → Store → Act V
  Outside : (cause : Cause) (number : ℕ) → Act V
  Unplaced : Act V

-- a touch that can't be made: a second birth, or a settling to another object
abbrev pub refuses : Touch → Store → Bool
refuses (Bear x size kind declared) s = is_some (s.life x)
refuses (Settle id x c) s = is_other (s.kept id) x
refuses _ s = false

-- what a touch gives under a map
abbrev pub answer : List Row → (t : Touch) → Store → Answer t
answer map (Ask x) s = s.life x
answer map (Get x a n) s = range_from (s.bytes x) a n
answer map (Put x a bs) s = tt
answer map (Bear x size kind declared) s = tt
answer map (Bury x) s = s.life x
answer map (Show x) s = tt
answer map (Find a) s = (findable s (covers map a), findable s (past map a))
answer map (Settle id x c) s = tt
answer map Take s = slice_get s.input s.position
answer map (Print to bs) s = tt

-- the store after a touch
abbrev pub left : Touch → Store → Store
left (Ask x) s = s
left (Get x a n) s = s
left (Put x a bs) s = with_bytes s x a bs
left (Bear x size kind declared) s = born s x size kind declared
left (Bury x) s = buried s x
left (Show x) s = shown s x
left (Find a) s = s
left (Settle id x c) s = settled s id x
left Take s = record s { position = s.position + (if is_some (slice_get s.input s.position) then 1 else 0) }
left (Print to bs) s = record s { output = printed_to to bs s.output }

-- what a touch that can't be made leaves
abbrev pub refused : {V : Type 0} → Touch → Act V
refused (Settle id x c) = Raised c
refused _ = Unplaced

abbrev pub touched : {V : Type 0} → Item → Act V → Act V
touched i (Done v is s) = Done v (i ∷ is) s
touched i (Raised c) = Raised c
touched i (Ended n is s) = Ended n (i ∷ is) s
touched i (Outside c n) = Outside c n
touched i Unplaced = Unplaced

-- what a script does under a map
abbrev pub run : {V : Type 0} → List Row → Script V → Store → Act V
run map (Give v) s = Done v [] s
run map (Raise c) s = Raised c
run map (Finish n) s = Ended n (Ending ∷ []) s
run map (Exceed c n) s = Outside c n
run map Misplace s = Unplaced
run map (Do t k) s = if refuses t s then refused t else touched (item_of t) (run map (k (answer map t s)) (left t s))
