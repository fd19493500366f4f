-- What a call answers, against the act that the definitions give it.
use Rattle.std.specs.Prelude.{◌≡◌, ℕ, ℤ, ◌≤◌, ◌^◌, Bool, true, false, ◌&&◌, nat_lt, unsigned_abs, List, [], ◌∷◌, None, IfSome, Result, Ok, Err}
use Rattle.ub_base.specs.declared.names.Item.{Item}
use Rattle.ub_base.specs.declared.names.ObjName.{ObjName}
use Rattle.addr_map.specs.declared.map.Row.{Row}
use Rattle.addr_map.specs.Sound.{Above}
use Rattle.c_types.specs.declared.library.LibFunc.{LibFunc}
use Rattle.c_types.specs.declared.library.LibFunc.TheVariants.{Malloc, Calloc, Realloc, Memcpy, Memmove, Memset, Memcmp}
use Rattle.mem_objects.specs.declared.value.Value.{Value}
use Rattle.mem_objects.specs.declared.value.Value.TheVariants.{Int, Ptr, Nothing}
use Rattle.mem_objects.specs.declared.answer.LibAnswer.{LibAnswer}
use Rattle.mem_objects.specs.declared.answer.LibAnswer.TheVariants as answers
use Rattle.mem_spec.specs.Store.{Store}
use Rattle.mem_spec.specs.Script.{Act, Done, Raised, Ended, Outside, Unplaced}
use Rattle.mem_spec.specs.Streams.{Io, total}
use Rattle.mem_objects.specs.Held.{held_of}
use Rattle.mem_objects.specs.Memory.{Kept, AreKnown, HasCell, life_in}
use Rattle.mem_objects.specs.Tags.{AreTagged}
use Rattle.mem_objects.specs.Made.{IsMade}
use Rattle.mem_objects.specs.Pieces.{IsMadeValue}
use Rattle.libc_spec.specs.Library.{LibValue, number, pointer, nothing, argument_at, integer_in, prov_in}

-- a value of the definitions as one of a run
abbrev pub given_value : LibValue → Value
given_value (number n) = Int n
given_value (pointer a p) = Ptr a p
given_value nothing = Nothing

-- what was printed to both streams is within its limit (own)
abbrev pub AreWithin : Io → Type 0
AreWithin io = total io.output ≤ 2 ^ 24

-- the answer of a part of a call, its items and the store after it are those of an act; where memory is wanted nothing is said
abbrev pub Does : {A B : Type 0} → (B → A) → Result A LibAnswer → List Item → Store → Act B → Type 0
Does f (Ok v) is s (Done w js u) = (v ≡ f w) × (is ≡ js) × (s ≡ u)
Does f (Err answers.NoMemory) is s act = Unit {0}
Does f (Err (answers.Raise c)) is s (Raised d) = c ≡ d
Does f (Err (answers.Outside c n)) is s (Outside d k) = (c ≡ d) × (n ≡ k)
Does f (Err answers.Unplaced) is s Unplaced = Unit {0}
Does f r is s act = ⊥

-- the answer of a call, its items and the store after it are those of an act; where memory is wanted nothing is said
abbrev pub Answers : LibAnswer → List Item → Store → Act LibValue → Type 0
Answers answers.NoMemory is s act = Unit {0}
Answers (answers.Value v) is s (Done w js u) = (v ≡ given_value w) × (is ≡ js) × (s ≡ u)
Answers (answers.End n) is s (Ended k js u) = (n ≡ k) × (is ≡ js) × (s ≡ u)
Answers (answers.Raise c) is s (Raised d) = c ≡ d
Answers (answers.Outside c n) is s (Outside d k) = (c ≡ d) × (n ≡ k)
Answers answers.Unplaced is s Unplaced = Unit {0}
Answers answer is s act = ⊥

abbrev pub answer_in : Result Value LibAnswer → LibAnswer
answer_in (Ok v) = answers.Value v
answer_in (Err answer) = answer

-- the places of the arguments that are numbers of bytes
abbrev pub size_places : LibFunc → List ℕ
size_places Malloc = 0 ∷ []
size_places Calloc = 0 ∷ 1 ∷ []
size_places Realloc = 1 ∷ []
size_places Memcpy = 2 ∷ []
size_places Memmove = 2 ∷ []
size_places Memset = 2 ∷ []
size_places Memcmp = 2 ∷ []
size_places _ = []

-- the number of bytes that an integer stands for, its distance from 0, has 64 bits; that of a value of size_t is the value itself (own)
abbrev pub is_size : ℤ → Bool
is_size n = nat_lt (unsigned_abs n) (2 ^ 64)

abbrev pub are_sizes : List LibValue → List ℕ → Bool
are_sizes vs [] = true
are_sizes vs (i ∷ is) = is_size (integer_in (argument_at vs i)) && are_sizes vs is

-- each ambiguity among the arguments is one of this memory
abbrev pub HaveCells : Kept → List LibValue → Type 0
HaveCells m [] = Unit {0}
HaveCells m (v ∷ vs) = HasCell m (prov_in v) × HaveCells m vs

-- each pointer among the arguments was made in this memory
abbrev pub ArgumentsMade : Kept → List LibValue → Type 0
ArgumentsMade m [] = Unit {0}
ArgumentsMade m (v ∷ vs) = IsMade m (prov_in v) × ArgumentsMade m vs

-- a pointer that a call gives was made in this memory
abbrev pub GivesMade : Kept → LibAnswer → Type 0
GivesMade m (answers.Value v) = IsMadeValue m v
GivesMade m answer = Unit {0}

-- the functions that allocate
abbrev pub allocates : LibFunc → Bool
allocates Malloc = true
allocates Calloc = true
allocates Realloc = true
allocates _ = false

-- no object of the heap has a declared type (6.5p6)
abbrev pub AreBare : Kept → Type 0
AreBare m = (x : ObjName) → IfSome (life_in (held_of m.objects x)) (λ l. l.kind.heap ≡ true → l.declared ≡ None)

-- the memory has the types of its tags, where a call copies them, and none is declared of an object that a call moves
abbrev pub AreTyped : LibFunc → Kept → Type 0
AreTyped Realloc m = AreTagged m × AreBare m
AreTyped Memcpy m = AreTagged m
AreTyped Memmove m = AreTagged m
AreTyped f m = Unit {0}

-- no row begins below 16,777,216, which each map keeps, where a call stores to a new object
abbrev pub StandHigh : LibFunc → List Row → Type 0
StandHigh Calloc rows = Above 16777216 rows
StandHigh Realloc rows = Above 16777216 rows
StandHigh f rows = Unit {0}

-- memory, streams and arguments as they are in a run: sizes have 64 bits
pub record IsCall (f : LibFunc) (vs : List LibValue) (m : Kept) (io : Io) : Type 0 where
  pub known : AreKnown m
  pub streams : AreWithin io
  pub sizes : are_sizes vs (size_places f) ≡ true
  pub cells : HaveCells m vs
  pub tags : AreTyped f m
  pub high : StandHigh f m.rows

-- the function that copies bytes
abbrev pub copy_function : (may_overlap : Bool) → LibFunc
copy_function false = Memcpy
copy_function true = Memmove

-- an answer after which memory and streams are as before; an allocation that wants memory may leave its object or the row of it, and
-- a copy what it settles and numbers of types
abbrev pub leaves_all : LibAnswer → LibFunc → Bool
leaves_all (answers.Value v) f = false
leaves_all answers.NoMemory Malloc = false
leaves_all answers.NoMemory Calloc = false
leaves_all answers.NoMemory Realloc = false
leaves_all answers.NoMemory Memcpy = false
leaves_all answers.NoMemory Memmove = false
leaves_all answer f = true

abbrev pub gives_value : LibAnswer → Bool
gives_value (answers.Value v) = true
gives_value answer = false

abbrev pub wants_memory : LibAnswer → Bool
wants_memory answers.NoMemory = true
wants_memory answer = false
