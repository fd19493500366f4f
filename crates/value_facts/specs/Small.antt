-- Integers and addresses are below 2^64 in size, and bytes below 256: so it is of values, of what the store holds, and of rows; and events keep it so (own).
use Rattle.std.specs.Prelude.{◌≡◌, ◌+◌, ◌<◌, ◌^◌, ℕ, false, List, Option, Some, None, unsigned_abs}
use Rattle.std.specs.List.{All}
use Rattle.ub_base.specs.declared.clause.Kind.{Kind}
use Rattle.ub_base.specs.declared.names.Event.{Event}
use Rattle.ub_base.specs.declared.names.Item.{Item}
use Rattle.ub_base.specs.declared.names.ObjName.{ObjName}
use Rattle.addr_map.specs.declared.map.Row.{Row}
use Rattle.addr_map.specs.Rows.{row_of}
use Rattle.c_types.specs.Types.{CType}
use Rattle.c_typed.specs.declared.tree.Place.{Place}
use Rattle.c_typed.specs.Order.{is_body}
use Rattle.mem_spec.specs.Acts.{number_in}
use Rattle.mem_spec.specs.Script.{Done, run}
use Rattle.mem_spec.specs.Store.{Store, TaggedByte}
use Rattle.c_model.specs.Nodes.{act_of}
use Rattle.c_model.specs.Program as model
use Rattle.c_model.specs.Program.{Content, Expr, expr, Filling, Head}
use Rattle.c_model.specs.Steps.{at_node}
use Rattle.c_model.specs.Values.{Value, Int, Ptr, Whole, value_at}

abbrev pub IsSmallByte : TaggedByte → Type 0
IsSmallByte b = number_in b.byte < 256

-- integers, addresses, and the bytes of structures and unions (6.2.5, 6.2.6.1)
abbrev pub IsSmall : Value → Type 0
IsSmall (Int z) = unsigned_abs z < 2 ^ 64
IsSmall (Ptr a prov) = a < 2 ^ 64
IsSmall (Whole bs source) = All IsSmallByte bs
IsSmall v = Unit {0}

-- each value that an event has given
abbrev pub AreSmall : (Place → Option Value) → Type 0
AreSmall given = (u : Place) (v : Value) → given u ≡ Some v → IsSmall v

-- the bytes of the objects
abbrev pub HasSmallBytes : Store → Type 0
HasSmallBytes s = (x : ObjName) (i : ℕ) → IsSmallByte (s.bytes x i)

-- no row ends behind the last address
abbrev pub EndInTime : List Row → Type 0
EndInTime rows = (x : ObjName) (r : Row) → row_of rows x ≡ Some r → r.base + r.size < 2 ^ 64

-- the bytes that initializer lists have
abbrev pub IsSmallContent : Content → Type 0
IsSmallContent (model.Bytes ns) = All (λ n. n < 256) ns
IsSmallContent c = Unit {0}

abbrev pub AreSmallFillings : List Filling → Type 0
AreSmallFillings = All (λ c. IsSmallContent c.content)

abbrev pub FillsSmall : Head → Type 0
FillsSmall (model.Listed slot fillings) = AreSmallFillings fillings
FillsSmall h = Unit {0}

abbrev pub NodeFillsSmall : Option Expr → Type 0
NodeFillsSmall None = Unit {0}
NodeFillsSmall (Some (expr h ty line es)) = FillsSmall h

-- each list of a full expression
abbrev pub ListsAreSmall : Expr → Type 0
ListsAreSmall root = (n : ℕ) → NodeFillsSmall (at_node 0 root n)

-- From small values, in a store with small bytes, an event that isn't a body gives a small value, and leaves small bytes.
abbrev pub ActsGiveSmall : Type 0
ActsGiveSmall =
    (rows : List Row) (who : Event) (h : Head) (ty : CType) (kind : Kind) (vs : List Value) (own : Value) (s u : Store) (v : Value) (is : List Item)
    → EndInTime rows → is_body kind ≡ false → FillsSmall h → ((i : ℕ) → IsSmall (value_at vs i)) → IsSmall own → HasSmallBytes s
    → run rows (act_of rows who h ty kind vs own) s ≡ Done v is u → IsSmall v × HasSmallBytes u
