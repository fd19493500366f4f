-- Acts of memory one after the other under rows that are given, and what each gives: its value and its items, or its clause.
use Rattle.std.specs.Prelude.{◌≡◌, ℕ, Bool, false, List, [], ◌∷◌, None, ℤ, pos}
use Rattle.ub_base.specs.declared.clause.Clause.{Clause}
use Rattle.ub_base.specs.declared.clause.Clause.TheVariants.{OutOfBounds}
use Rattle.ub_base.specs.declared.names.Item.{Item}
use Rattle.ub_base.specs.declared.names.ObjName.{ObjName}
use Rattle.addr_map.specs.declared.map.Row.{Row}
use Rattle.exposure.specs.declared.prov.Prov.{Prov}
use Rattle.c_types.specs.declared.kind.IntKind.{IntKind}
use Rattle.c_types.specs.Types.{int}
use Rattle.mem_spec.specs.Agreement.{bytes_of_kind}
use Rattle.mem_spec.specs.Store.{TaggedByte, fresh, Store}
use Rattle.mem_spec.specs.Bytes.{number_bytes, pointer_bytes, low_bits}
use Rattle.mem_spec.specs.Script.{Settle, Act, Done, Raised, Ended, Outside, Unplaced, touch, run}
use Rattle.mem_spec.specs.Acts.{Seen, scalar, whole, bytes}
use Rattle.mem_spec.specs.Acts as acts
use Rattle.mem_samples.specs.Objects.{Definition, turn, pointer_type, function_type}

-- an address stands before what it was made from, and a turn names the event that looks up an address
pub data Call : Type 0 where
  create : ObjName → (size align : ℕ) → Definition → Call
  created : Call
  kill : ObjName → Call
  unwrite : ObjName → Call
  expose : Prov → Call
  load : IntKind → ℕ → Prov → Call
  load_pointer : (turn : ℕ) → ℕ → Prov → Call
  load_function : ℕ → Prov → Call
  -- the bytes of a structure or union, which are kept for the stores of blocks
  load_block : (size align : ℕ) → ℕ → Prov → Call
  -- whether it is an initialization, and the value
  store : Bool → IntKind → ℤ → ℕ → Prov → Call
  -- the pointer, then where it is stored
  store_pointer : ℕ → Prov → ℕ → Prov → Call
  store_function : ℕ → ℕ → Prov → Call
  -- so many zeros, as a library function writes them
  clear : ℕ → ℕ → Prov → Call
  store_block : (align : ℕ) → ℕ → Prov → Call
  shift : ℕ → Prov → ℤ → Call
  -- two pointers, and the size of an element
  difference : ℕ → Prov → ℕ → Prov → ℕ → Call
  compare : Prov → Prov → Call
  cast : (turn : ℕ) → ℕ → Call
  settle : (turn : ℕ) → ObjName → Call

pub data Given : Type 0 where
  done : List Item → Given
  number : ℤ → List Item → Given
  pointer : ℕ → Prov → List Item → Given
  origin : Prov → List Item → Given
  raises : Clause → Given
  unplaced : Given
  other : Given

pub record World : Type 0 where
  pub memory : Store
  pub block : List TaggedByte

-- what an act gives, and the world after it
abbrev pub after : {V : Type 0} → (V → List Item → Given) → World → Act V → Given × World
after tells w (Done v is s) = (tells v is, record w { memory = s })
after tells w (Raised c) = (raises c, w)
after tells w (Ended n is s) = (other, w)
after tells w (Outside c n) = (other, w)
after tells w Unplaced = (unplaced, w)

abbrev pub block_after : World → Act (List TaggedByte) → Given × World
block_after w (Done bs is s) = (done is, record { memory = s; block = bs })
block_after w (Raised c) = (raises c, w)
block_after w _ = (other, w)

abbrev pub stored : List Row → Bool → Seen → (align : ℕ) → ℕ → Prov → List TaggedByte → World → Given × World
stored rows first via align a prov bs w = after (λ v. done) w (run rows (acts.store rows first via align a prov bs) w.memory)

abbrev pub does : List Row → Call → World → Given × World
does rows (create x size align d) w = after (λ base. number (pos base)) w (run rows (acts.create rows x size align d.kind d.form) w.memory)
does rows created w = (number (pos w.memory.created) [], w)
does rows (kill x) w = after (λ v. done) w (run rows (acts.kill x) w.memory)
does rows (unwrite x) w = after (λ v. done) w (run rows (acts.unwrite rows x) w.memory)
does rows (expose prov) w = after (λ v. done) w (run rows (acts.expose prov) w.memory)
does rows (load k a prov) w = after number w (run rows (acts.load_int rows k a prov) w.memory)
does rows (load_pointer t a prov) w = after (λ v. pointer v.0 v.1) w (run rows (acts.load_ptr rows pointer_type (turn t) 8 a prov) w.memory)
does rows (load_function a prov) w = after (λ n. number (pos n)) w (run rows (acts.load_func rows function_type a prov) w.memory)
does rows (load_block size align a prov) w = block_after w (run rows (acts.load_block rows size align a prov) w.memory)
does rows (store first k n a prov) w = stored rows first (scalar (int k)) (bytes_of_kind k) a prov (number_bytes (bytes_of_kind k) (low_bits n)) w
does rows (store_pointer b q a prov) w = stored rows false (scalar pointer_type) 8 a prov (pointer_bytes 8 0 q b) w
does rows (store_function b a prov) w = stored rows false (scalar function_type) 8 a prov (number_bytes 8 b) w
does rows (clear n a prov) w = stored rows false bytes 1 a prov (number_bytes n 0) w
does rows (store_block align a prov) w = stored rows false whole align a prov w.block w
does rows (shift a prov by) w = after number w (run rows (acts.shift rows a prov by) w.memory)
does rows (difference a p b q size) w = after (λ v. done) w (run rows (acts.diff a p b q size) w.memory)
does rows (compare p q) w = after (λ v. done) w (run rows (acts.less p q) w.memory)
does rows (cast t a) w = after origin w (run rows (acts.from_int (turn t) a) w.memory)
does rows (settle t x) w = after (λ v. done) w (run rows (touch (Settle (turn t) x OutOfBounds)) w.memory)

abbrev pub before : (World → List Given) → Given × World → List Given
before rest (g, w) = g ∷ rest w

-- what the calls give, one after the other
abbrev pub gives : List Row → List (Call × Given) → World → List Given
gives rows [] w = []
gives rows (step ∷ steps) w = before (gives rows steps) (does rows step.0 w)

abbrev pub wanted : List (Call × Given) → List Given
wanted [] = []
wanted (step ∷ steps) = step.1 ∷ wanted steps

-- no object was created yet
abbrev pub new : Store → World
new s = record {
  memory = record s { life = λ x. None; exposed = λ x. false; bytes = λ x i. fresh; kept = λ e. None; created = 0 };
  block = [];
}

-- on a new memory each call gives what stands beside it
abbrev pub Follows : List Row → List (Call × Given) → Store → Type 0
Follows rows steps s = gives rows steps (new s) ≡ wanted steps
