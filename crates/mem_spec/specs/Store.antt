-- The store: objects with their bytes, ambiguities, standard input, standard output and standard error.
use Rattle.std.specs.Prelude.{
  ℕ,
  suc,
  zero,
  ◌+◌,
  ◌-◌,
  ◌^◌,
  min,
  max,
  Bool,
  true,
  false,
  ◌&&◌,
  nat_lt,
  nat_le,
  List,
  [],
  ◌∷◌,
  length,
  slice_index_or,
  Option,
  Some,
  None,
  is_some,
  if◌then◌else◌,
}
use Rattle.ub_base.specs.declared.names.Event.{Event}
use Rattle.ub_base.specs.declared.names.ObjName.{ObjName}
use Rattle.ub_base.specs.Names.{same_event, same_object}
use Rattle.exposure.specs.declared.prov.Prov.{Prov}
use Rattle.c_types.specs.Shapes.{Form}
use Rattle.mem_spec.specs.declared.kind.ObjKind.{ObjKind}
use Rattle.mem_spec.specs.Streams.{Outputs}
use Rattle.mem_spec.specs.Agreement.{Tag}

-- a byte: not written yet, or a number that may be the piece of this index of a pointer with this provenance
pub data Byte : Type 0 where
  unwritten : Byte
  written : (number : ℕ) (piece : Option (Prov × ℕ)) → Byte

-- a byte with its tag, the scalar that wrote it (6.5p6)
pub record TaggedByte : Type 0 where
  pub byte : Byte
  pub tag : Option Tag

abbrev pub fresh : TaggedByte
fresh = record { byte = unwritten; tag = None }

pub record Life : Type 0 where
  pub live : Bool
  pub kind : ObjKind
  pub declared : Option Form  -- None for an object without declared type

pub record Store : Type 0 where
  pub life : ObjName → Option Life  -- None where it wasn't created
  pub exposed : ObjName → Bool
  pub bytes : ObjName → ℕ → TaggedByte
  pub kept : Event → Option ObjName  -- the object to which an ambiguity was settled
  pub input : List ℕ
  pub position : ℕ
  pub output : Outputs
  pub created : ℕ  -- the sum of created bytes

abbrev pub range_from : (ℕ → TaggedByte) → ℕ → ℕ → List TaggedByte
range_from f a zero = []
range_from f a (suc n) = f a ∷ range_from f (suc a) n

abbrev pub is_live : Option Life → Bool
is_live None = false
is_live (Some l) = l.live

abbrev pub dead : Option Life → Option Life
dead None = None
dead (Some l) = Some (record l { live = false })

-- the bytes of a range are replaced
abbrev pub with_bytes : Store → ObjName → ℕ → List TaggedByte → Store
with_bytes s x a bs = record s {
  bytes = λ y b. if same_object x y && (nat_le a b && nat_lt b (a + length bs)) then slice_index_or bs (b - a) fresh else s.bytes y b;
}

-- a new object is live, unexposed, unwritten and untagged, and counts as at least 16 bytes
abbrev pub born : Store → ObjName → ℕ → ObjKind → Option Form → Store
born s x size kind declared = record s {
  life = λ y. if same_object x y then Some (record { live = true; kind = kind; declared = declared }) else s.life y;
  exposed = λ y. if same_object x y then false else s.exposed y;
  bytes = λ y b. if same_object x y then fresh else s.bytes y b;
  created = min (s.created + max size 16) (2 ^ 62);
}

-- an object dies; its bytes can't be read any more and count as unwritten (own)
abbrev pub buried : Store → ObjName → Store
buried s x = record s {
  life = λ y. if same_object x y then dead (s.life x) else s.life y;
  bytes = λ y b. if same_object x y then fresh else s.bytes y b;
}

-- an object that was created is exposed
abbrev pub shown : Store → ObjName → Store
shown s x = record s { exposed = λ y. if same_object x y then is_some (s.life x) else s.exposed y }

abbrev pub settled : Store → Event → ObjName → Store
settled s id x = record s { kept = λ d. if same_event id d then Some x else s.kept d }

-- the object can be found by its address
abbrev pub can_find : Store → ObjName → Bool
can_find s x = s.exposed x && is_live (s.life x)

abbrev pub findable : Store → Option ObjName → Option ObjName
findable s None = None
findable s (Some x) = if can_find s x then Some x else None
