-- In every order each structure or union value has as many bytes as its type, and is stored to as many.
use Rattle.std.specs.Prelude.{◌≡◌, ◌⊎◌, ℕ, suc, Bool, List, [], ◌∷◌, Some}
use Rattle.ub_base.specs.declared.clause.Kind.TheVariants.{Eff}
use Rattle.ub_base.specs.declared.names.Event.{Event}
use Rattle.ub_base.specs.declared.names.Item.{Item}
use Rattle.ub_base.specs.declared.names.Item.TheVariants.{Write}
use Rattle.addr_map.specs.declared.map.Row.{Row}
use Rattle.addr_map.specs.Rows.{row_of}
use Rattle.c_types.specs.declared.library.LibFunc.{LibFunc}
use Rattle.c_types.specs.Types.{CType}
use Rattle.c_typed.specs.declared.tree.Access.TheVariants as access
use Rattle.c_typed.specs.declared.tree.Place.{Place}
use Rattle.mem_spec.specs.Acts.{offset_in}
use Rattle.mem_spec.specs.Store.{Store}
use Rattle.mem_spec.specs.Script.{Done, run}
use Rattle.c_model.specs.Program.{Assign, Expr, expr, Exprs}
use Rattle.c_model.specs.Values.{Value, pointer_of, value_at}
use Rattle.c_model.specs.World.{World}
use Rattle.c_model.specs.Steps.{Local, Begun, Pick, Ev, at_node, does, values_of}
use Rattle.c_model.specs.Runs.{State, Running}
use Rattle.c_model.specs.Claims.{ComesTo}
use Rattle.c_model.specs.Libraries.{library}
use Rattle.value_laws.specs.Sizes.{Sizes, HasSize, IsPlain, Gives, ProgramFits, type_of}

-- a frame of the list waits for a body
abbrev pub IsAmong : List (Local × Place) → Local → Type 0
IsAmong [] f = ⊥
IsAmong (h ∷ hs) f = (h.0 ≡ f) ⊎ IsAmong hs f

-- the frame is the top one or one below it
abbrev pub IsOpen : State → Local → Type 0
IsOpen st f = (st.top ≡ f) ⊎ IsAmong st.held f

-- each value that an event of a node has given has the size of the node's type
abbrev pub ValuesFit : Sizes → Begun → Type 0
ValuesFit size b = (u : Place) (e : Expr) (v : Value) → at_node 0 b.root u.node ≡ Some e → b.given u ≡ Some v → HasSize (size (type_of e)) v

-- So it is in each open frame, wherever an order has come to.
abbrev pub ValuesHaveSizes : Type 0
ValuesHaveSizes =
    (size : Sizes) (world : World) → ProgramFits size world → (input : List ℕ) (vs : List Value) (ps : List Pick) (st : State)
    → ComesTo world input vs ps (Running st) → (f : Local) → IsOpen st f → (b : Begun) → f.begun ≡ Some b → ValuesFit size b

-- the writes of an act go to so many bytes, from the offset of this address in their object on
abbrev pub WritesAt : List Row → (address n : ℕ) → Item → Type 0
WritesAt rows address n (Write x from len) = (from ≡ offset_in (row_of rows x) address) × (len ≡ n)
WritesAt rows address n i = Unit {0}

abbrev pub Each : (Item → Type 0) → List Item → Type 0
Each P [] = Unit {0}
Each P (i ∷ is) = P i × Each P is

-- So an event that stores a whole structure or union writes just the bytes that its type has, at its place, wherever an order picks it.
abbrev pub WholesAreStored : Type 0
WholesAreStored =
    (size : Sizes) (world : World) → ProgramFits size world → (input : List ℕ) (vs : List Value) (ps : List Pick) (st : State)
    → ComesTo world input vs ps (Running st) → (b : Begun) (u : Place) → st.top.begun ≡ Some b → u.kind ≡ Eff
    → (first : Bool) (n align : ℕ) (ty : CType) (line : ℕ) (es : Exprs)
    → at_node 0 b.root u.node ≡ Some (expr (Assign first (access.Whole n align)) ty line es)
    → (v : Value) (is : List Item) (s : Store) → run world.rows (does world st.top (Some b) (Ev u)) st.store ≡ Done v is s
    → Each (WritesAt world.rows (pointer_of (value_at (values_of world st.top.scene b.given (suc u.node) es) 0)).address n) is

-- No function of the library gives a structure or union.
abbrev pub LibraryGivesPlain : Type 0
LibraryGivesPlain = (rows : List Row) (f : LibFunc) (who : Event) (ts : List CType) (vs : List Value) → Gives rows IsPlain (library rows f who ts vs)
