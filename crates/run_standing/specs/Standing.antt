-- The objects that stand before a run of a typed program, as the definitions of runs have them (5.1.2p1, 5.1.2.2.1p2, 6.4.5p6).
use Rattle.std.specs.Prelude.{◌≡◌, ℕ, suc, ◌+◌, ◌*◌, Bool, true, false, ◌||◌, List, [], ◌∷◌, ◌++◌, length, map, slice_get, Option, Some, None, codes}
use Rattle.ub_base.specs.declared.names.Item.{Item}
use Rattle.ub_base.specs.declared.names.ObjName.{ObjName}
use Rattle.ub_base.specs.declared.names.ObjName.TheVariants as names
use Rattle.addr_map.specs.declared.map.Row.{Row}
use Rattle.addr_map.specs.Rows.{row_of}
use Rattle.exposure.specs.declared.prov.Prov.TheVariants.{Whole}
use Rattle.mem_spec.specs.declared.kind.ObjKind.{ObjKind}
use Rattle.mem_spec.specs.Acts.{create, base_in}
use Rattle.mem_spec.specs.Script.{Done, run}
use Rattle.mem_spec.specs.Store.{Store}
use Rattle.mem_spec.specs.Streams.{Io}
use Rattle.mem_objects.specs.Keeps.{RowsStay}
use Rattle.mem_objects.specs.Memory.{Kept, store_of}
use Rattle.c_model.specs.Nodes.{fill}
use Rattle.c_model.specs.Runs.{stand}
use Rattle.c_model.specs.Values.{Nothing, Pointer, address_after}
use Rattle.c_model.specs.World.{World}
use Rattle.c_types.specs.declared.kind.IntKind.TheVariants.{Char}
use Rattle.c_types.specs.declared.tags.Extent.{Extent}
use Rattle.c_types.specs.declared.tags.Tag.{Tag}
use Rattle.c_types.specs.Layout.{extent, extents}
use Rattle.c_types.specs.Shapes.{Form, leaf, repeat}
use Rattle.c_types.specs.Types.{CType, int, pointer, array, Params, none, more, Qualified, qualified_of, signature_of}
use Rattle.c_typed.specs.declared.tree.Access.TheVariants as access
use Rattle.c_typed.specs.declared.program.Function.{Function}
use Rattle.c_typed.specs.declared.program.Program.{Program}
use Rattle.c_typed.specs.declared.program.Static.{Static}
use Rattle.c_model.specs.Program.{Standing, Filling, Zeros, Bytes, Object_at, No_object}
use Rattle.program_view.specs.Objects.{access_of, form_of_type, form_where}
use Rattle.run_objects.specs.Extents.{extent_of, HasForm, is_constant}
use Rattle.run_standing.specs.declared.initial.Argument.{Argument}
use Rattle.run_values.specs.declared.values.Pointer.{Pointer as Place}
use Rattle.run_values.specs.Views.{pointer_at}
use Rattle.run_values.specs.Contents.{Stands, filled_by}
use Rattle.run_standing.specs.Starting.{Creates}

-- an object with static storage: zeros, and then its constants (6.7.9p10)
pub record IsStatic (tags : List Tag) (k : ℕ) (s : Static) (o : Standing) : Type 0 where
  pub name : o.name ≡ names.Static k
  pub size : o.decl.size ≡ (extent_of tags (qualified_of s.qual).ty).size
  pub align : o.decl.align ≡ (extent_of tags (qualified_of s.qual).ty).align
  pub constant : o.decl.constant ≡ is_constant (qualified_of s.qual)
  pub form : HasForm tags (qualified_of s.qual).ty o.decl.form
  pub access : o.decl.access ≡ access_of tags (qualified_of s.qual).ty
  pub ty : o.decl.ty ≡ (qualified_of s.qual).ty
  pub literal : o.literal ≡ false
  pub fillings : o.fillings ≡ record { offset = 0; content = Zeros o.decl.size } ∷ map filled_by s.constants

abbrev pub AreStatics : List Tag → ℕ → List Static → List Standing → Type 0
AreStatics tags k [] [] = Unit {0}
AreStatics tags k (s ∷ ss) (o ∷ os) = IsStatic tags k s o × AreStatics tags (suc k) ss os
AreStatics tags k _ _ = ⊥

-- an array of characters with these bytes
abbrev pub text : ObjName → (literal : Bool) → List ℕ → Standing
text x literal bs = record {
  name = x;
  decl = record {
    size = length bs;
    align = 1;
    constant = false;
    form = Some (repeat (length bs) 1 (leaf (int Char)));
    access = access.Whole (length bs) 1;
    ty = array false (int Char) (Some (length bs));
  };
  literal = literal;
  fillings = record { offset = 0; content = Bytes bs } ∷ [];
}

abbrev pub literals : ℕ → List (List ℕ) → List Standing
literals k [] = []
literals k (bs ∷ rest) = text (names.Lit k) true bs ∷ literals (suc k) rest

-- each argument has a zero behind it (5.1.2.2.1p2)
abbrev pub arguments : ℕ → List (List ℕ) → List Standing
arguments k [] = []
arguments k (bs ∷ rest) = text (names.Arg k) false (bs ++ 0 ∷ []) ∷ arguments (suc k) rest

-- the program's name, `prog` (own)
abbrev pub program_name : List ℕ
program_name = codes "prog"

-- pointers to the arguments from this one on, and the null pointer behind them
abbrev pub pointers : (k at : ℕ) → List (List ℕ) → List Filling
pointers k at [] = record { offset = at; content = No_object } ∷ []
pointers k at (bs ∷ rest) = record { offset = at; content = Object_at (names.Arg k) 0 } ∷ pointers (suc k) (at + 8) rest

-- the array of pointers that `main` is given
abbrev pub vector : List (List ℕ) → Standing
vector args = record {
  name = names.Argv;
  decl = record {
    size = 8 * (length args + 1);
    align = 8;
    constant = false;
    form = Some (repeat (length args + 1) 8 (leaf (pointer false (int Char))));
    access = access.Whole (8 * (length args + 1)) 8;
    ty = array false (pointer false (int Char)) (Some (length args + 1));
  };
  literal = false;
  fillings = pointers 0 0 args;
}

-- `main` has parameters
abbrev pub has_parameters : Params → Bool
has_parameters none = false
has_parameters (more constant ty params) = true

abbrev pub takes_arguments : Option Function → Bool
takes_arguments None = false
takes_arguments (Some f) = has_parameters (signature_of f.ty).params

-- the strings of the arguments, the first one the program's name (5.1.2.2.1p2), where `main` takes them
abbrev pub given : Bool → List (List ℕ) → List Standing
given false args = []
given true args = arguments 0 args ++ vector args ∷ []

-- the objects that stand before a run, in the order of their creation, by the arguments with the program's name before them
pub record Stand (p : Program) (args : List (List ℕ)) (os : List Standing) : Type 0 where
  pub statics : List Standing
  pub each : AreStatics p.tags 0 p.statics statics
  pub all : os ≡ statics ++ literals 0 p.literals ++ given (takes_arguments (slice_get p.functions p.main)) args

abbrev pub kind_of : Standing → ObjKind
kind_of o = record { heap = false; literal = o.literal; constant = o.decl.constant }

-- the creation of the object leads from the one store to the other
abbrev pub CreatesOne : List Row → Standing → Store → Store → Type 0
CreatesOne rows o s t =
    (base : ℕ) × (is : List Item) × (run rows (create rows o.name o.decl.size o.decl.align (kind_of o) o.decl.form) s ≡ Done base is t)

-- .. the creations of these, one after the other
abbrev pub CreatesAll : List Row → List Standing → Store → Store → Type 0
CreatesAll rows [] s t = t ≡ s
CreatesAll rows (o ∷ os) s t = (middle : Store) × CreatesOne rows o s middle × CreatesAll rows os middle t

abbrev pub place_of : List Row → ObjName → Pointer
place_of rows x = record { address = base_in (row_of rows x); prov = Whole x }

-- .. its initialization
abbrev pub FillsOne : List Row → Standing → Store → Store → Type 0
FillsOne rows o s t = (is : List Item) × (run rows (fill rows (place_of rows o.name) o.fillings) s ≡ Done Nothing is t)

abbrev pub FillsAll : List Row → List Standing → Store → Store → Type 0
FillsAll rows [] s t = t ≡ s
FillsAll rows (o ∷ os) s t = (middle : Store) × FillsOne rows o s middle × FillsAll rows os middle t

-- creations and then initializations of the objects are what the definitions of runs do before the first pick
abbrev pub StandsSo : Type 0
StandsSo = (world : World) (os : List Standing) (s t u : Store) → CreatesAll world.rows os s t → FillsAll world.rows os t u →
    (is : List Item) × (run world.rows (stand world os) s ≡ Done Nothing is u)

-- under all rows that stay, the objects are created one after the other from the one memory to the other
abbrev pub AllCreated : Kept → Kept → List Standing → Type 0
AllCreated old new os = (rows : List Row) → RowsStay new.rows rows → (io : Io) → CreatesAll rows os (store_of old io) (store_of new io)

-- an object with static storage is created
abbrev pub StaticCreated : Kept → Kept → List Tag → ℕ → Static → Type 0
StaticCreated old new tags k s = (o : Standing) × IsStatic tags k s o × Creates old new o.name o.decl.size o.decl.align (kind_of o) o.decl.form

-- .. all of them
abbrev pub StaticsCreated : Kept → Kept → List Tag → List Static → Type 0
StaticsCreated old new tags ss = (os : List Standing) × AreStatics tags 0 ss os × AllCreated old new os

-- under all rows that stay, the objects are filled one after the other
abbrev pub AllFilled : Kept → Kept → List Standing → Type 0
AllFilled old new os = (rows : List Row) → RowsStay new.rows rows → (io : Io) → FillsAll rows os (store_of old io) (store_of new io)

-- an object with static storage is filled as the definitions fill it
abbrev pub StaticFilled : Kept → Kept → List Tag → ℕ → Static → Type 0
StaticFilled old new tags k s = (o : Standing) → IsStatic tags k s o → (rows : List Row) → RowsStay new.rows rows → (io : Io) →
    FillsOne rows o (store_of old io) (store_of new io)

-- .. all of them, one after the other
abbrev pub StaticsFilled : Kept → Kept → List Tag → List Static → Type 0
StaticsFilled old new tags ss = (os : List Standing) → AreStatics tags 0 ss os → AllFilled old new os

-- .. and then the string literals
abbrev pub NamedFilled : Kept → Kept → Program → Type 0
NamedFilled old new p = (os : List Standing) → AreStatics p.tags 0 p.statics os → AllFilled old new (os ++ literals 0 p.literals)

-- under all rows that stay, the objects that stand before a run are created and then filled as the definitions do it
abbrev pub StartStands : Kept → Kept → Program → List (List ℕ) → Type 0
StartStands old new p args = (os : List Standing) × Stand p args os × ((rows : List Row) → RowsStay new.rows rows → (io : Io) →
    (middle : Store) × CreatesAll rows os (store_of old io) middle × FillsAll rows os middle (store_of new io))

-- the object of an argument was created, and has this text
pub record IsArgument (m : Kept) (k : ℕ) (b : List ℕ) (a : Argument) : Type 0 where
  pub text : a.text ≡ b ++ 0 ∷ []
  pub base : ℕ
  pub at : pointer_at a.place ≡ record { address = address_after base 0; prov = Whole (names.Arg k) }
  pub stands : Stands m (names.Arg k) base

abbrev pub AreArguments : Kept → ℕ → List (List ℕ) → List Argument → Type 0
AreArguments m k [] [] = Unit {0}
AreArguments m k (b ∷ bs) (a ∷ xs) = IsArgument m k b a × AreArguments m (suc k) bs xs
AreArguments m k _ _ = ⊥

-- the object stands where the pointer points
abbrev pub StandsThere : Kept → ObjName → Place → Type 0
StandsThere m x p = (base : ℕ) × (pointer_at p ≡ record { address = address_after base 0; prov = Whole x }) × Stands m x base

-- one more, of this text
abbrev pub ArgumentAdded : Kept → List ℕ → (old new : List Argument) → Type 0
ArgumentAdded m b old new = (a : Argument) × (new ≡ old ++ a ∷ []) × IsArgument m (length old) b a
