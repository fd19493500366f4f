-- The accesses of a full expression: the val of Load and of Update read, the eff of Assign, of Update and of List write, each the bytes
-- of its type or of its list (6.5p2).
use Rattle.std.specs.Prelude.{ℕ, ◌+◌, ◌-◌, ◌^◌, min, Bool, true, false, ◌||◌, List, [], ◌∷◌, ◌++◌, slice_get, Option, Some, None}
use Rattle.ub_base.specs.declared.clause.Kind.{Kind}
use Rattle.ub_base.specs.declared.clause.Kind.TheVariants.{Val, Eff}
use Rattle.c_types.specs.Layout.{bytes}
use Rattle.c_typed.specs.declared.tree.Access.{Access}
use Rattle.c_typed.specs.declared.tree.Access.TheVariants as access
use Rattle.c_typed.specs.declared.tree.Change.{Change}
use Rattle.c_typed.specs.declared.tree.Change.TheVariants as change
use Rattle.c_typed.specs.declared.tree.Slot.{Slot}
use Rattle.c_typed.specs.declared.tree.Node.{Node, out-Node}
use Rattle.c_typed.specs.declared.tree.Node.TheOpen as shape
use Rattle.c_typed.specs.declared.tree.Node.TheOpen.{Node-F}
use Rattle.c_typed.specs.declared.tree.Typed.{Typed, out-Typed}
use Rattle.c_typed.specs.declared.program.Program.{Program}
use Rattle.static_places.specs.declared.places.FixedBase.TheVariants as base
use Rattle.static_places.specs.Fixed.{Spot, fixed_place}
use Rattle.static_seq.specs.declared.accesses.Accessed.{Accessed}
use Rattle.static_seq.specs.declared.accesses.MemoryAccess.{MemoryAccess}

-- how many bytes a value has that lies in memory so (6.2.6.1p4; the data model is LP64)
abbrev pub length_of : Access → ℕ
length_of (access.Integer kind) = bytes kind
length_of access.Pointer = 8
length_of access.Function = 8
length_of (access.Whole size align) = size

abbrev pub changed_length : Change → ℕ
changed_length (change.Integer op kind work) = bytes kind
changed_length (change.Pointer size subtract) = 8

abbrev pub named_by : Node-F Node Typed → Option Slot
named_by (shape.Obj slot) = Some slot
named_by _ = None

-- the object that a tree names directly
abbrev pub object_of : Option Typed → Option Slot
object_of None = None
object_of (Some t) = named_by (out-Node (out-Typed t).node)

abbrev pub spot_of : Program → ℕ → Option Typed → Option Spot
spot_of p function None = None
spot_of p function (Some t) = fixed_place p function t

abbrev pub accessed : ℕ → Kind → ℕ → Accessed
accessed n kind line = record { place = record { node = n; kind = kind }; line = line }

-- an access through the first operand
abbrev pub through : Program → ℕ → ℕ → Typed → Kind → Bool → ℕ → MemoryAccess
through p function n t kind writes length = record {
  at = accessed n kind (out-Typed t).line;
  writes = writes;
  spot = spot_of p function (slice_get (out-Typed t).children 0);
  length = length;
  object = object_of (slice_get (out-Typed t).children 0);
}

-- of a list, which may reach any byte of its object
abbrev pub listed : ℕ → Typed → Slot → MemoryAccess
listed n t slot = record {
  at = accessed n Eff (out-Typed t).line;
  writes = true;
  spot = Some (base.Slot slot, 0);
  length = 2 ^ 64 - 1;
  object = Some slot;
}

abbrev pub accesses_by : Program → ℕ → ℕ → Typed → Node-F Node Typed → List MemoryAccess
accesses_by p function n t (shape.Load a) = through p function n t Val false (length_of a) ∷ []
accesses_by p function n t (shape.Assign initializing a) = through p function n t Eff true (length_of a) ∷ []
accesses_by p function n t (shape.Update c old) =
    through p function n t Val false (changed_length c) ∷ through p function n t Eff true (changed_length c) ∷ []
accesses_by p function n t (shape.List slot constants) = listed n t slot ∷ []
accesses_by p function n t _ = []

-- the accesses of one node, whose number is n
abbrev pub node_accesses : Program → ℕ → ℕ → Typed → List MemoryAccess
node_accesses p function n t = accesses_by p function n t (out-Node (out-Typed t).node)

-- the next number, up to the greatest of its type
abbrev pub next : ℕ → ℕ
next n = min (n + 1) (2 ^ 32 - 1)

-- those of nodes with numbers from n on
abbrev pub accesses_from : Program → ℕ → ℕ → List Typed → List MemoryAccess
accesses_from p function n [] = []
accesses_from p function n (t ∷ ts) = node_accesses p function n t ++ accesses_from p function (next n) ts

abbrev pub some_writes : List MemoryAccess → Bool
some_writes [] = false
some_writes (a ∷ rest) = a.writes || some_writes rest
