-- Each node of a lawful program stores a pointer by its own type.
use Rattle.std.proofs.Common.{◌≡◌, ℕ, ◌<◌, Bool, List, [], ◌∷◌, Option, Some, None, sym, subst}
use Rattle.c_types.specs.Layout.{extent, extents}
use Rattle.c_types.specs.declared.kind.IntKind.TheVariants.{Int}
use Rattle.c_types.specs.declared.tags.Extent.{Extent}
use Rattle.c_types.specs.Types.{CType, void, int, enumeration, pointer, array, struct, union, function}
use Rattle.c_types.specs.declared.tags.Tag.{Tag}
use Rattle.c_typed.specs.declared.program.Program.{Program}
use Rattle.c_typed.specs.declared.tree.Access.{Access}
use Rattle.c_typed.specs.declared.tree.Access.TheVariants as access
use Rattle.c_typed.specs.declared.tree.Change.{Change}
use Rattle.c_typed.specs.declared.tree.Change.TheVariants as change
use Rattle.c_typed.specs.declared.tree.Node.TheOpen as shape
use Rattle.c_typed.specs.Lawful.{There, IsPointer, AccessIs, StepsOver, UpdateTypes, TypesAre}
use Rattle.c_typed.specs.Sites.{Head, Blocks}
use Rattle.run_layout.specs.EventActs.{pointed, change_access}
use Rattle.run_layout.specs.Fitting.{AccessFits, HeadFits, first_operand}
use Rattle.code_view.proofs.Listed.{HeadLists}

by_access : (t : CType) (a b : Access) → b ≡ a → AccessFits a t → AccessFits b t
by_access t a b e = subst (λ (z : Access). AccessFits z t) (sym e)

-- of a structure or union, whatever its extent
of_extent : (t : CType) (a : Access) (o : Option Extent) → There o (λ e. (0 < e.size) × (a ≡ access.Whole e.size e.align)) → AccessFits a t
of_extent t a None h = absurd h
of_extent t a (Some e) h = by_access t (access.Whole e.size e.align) a h.1 tt

access_fits : (tags : List Tag) (t : CType) (a : Access) → AccessIs tags t a → AccessFits a t
access_fits tags (int kind) a h = by_access (int kind) (access.Integer kind) a h tt
access_fits tags (enumeration tag) a h = by_access (enumeration tag) (access.Integer Int) a h tt
access_fits tags (pointer c t) access.Pointer h = tt
access_fits tags (pointer c t) access.Function h = tt
access_fits tags (pointer c t) (access.Integer kind) h = tt
access_fits tags (pointer c t) (access.Whole size align) h = tt
access_fits tags void a h = absurd h
access_fits tags (array q t count) a h = absurd h
access_fits tags (function r ps v) a h = absurd h
access_fits tags (struct tag) a h = of_extent (struct tag) a (extent (extents tags) (struct tag)) h
access_fits tags (union tag) a h = of_extent (union tag) a (extent (extents tags) (union tag)) h

assign_fits : (p : Program) (blocks : Blocks) (first : Bool) (how : Access) (own : CType) (ts : List CType)
    → TypesAre p blocks (shape.Assign first how) own ts → AccessFits how (pointed (first_operand own ts))
assign_fits p blocks first how own [] h = absurd h
assign_fits p blocks first how own (pointer c t ∷ []) h = absurd h
assign_fits p blocks first how own (pointer c t ∷ v ∷ []) h = access_fits p.tags t how h.2
assign_fits p blocks first how own (pointer c t ∷ v ∷ u ∷ us) h = absurd h
assign_fits p blocks first how own (void ∷ us) h = absurd h
assign_fits p blocks first how own (int k ∷ us) h = absurd h
assign_fits p blocks first how own (enumeration tag ∷ us) h = absurd h
assign_fits p blocks first how own (array q t count ∷ us) h = absurd h
assign_fits p blocks first how own (struct tag ∷ us) h = absurd h
assign_fits p blocks first how own (union tag ∷ us) h = absurd h
assign_fits p blocks first how own (function r ps v ∷ us) h = absurd h

-- a pointer that is stepped is a pointer
steps : (tags : List Tag) (t : CType) (size : ℕ) → StepsOver tags t size → IsPointer t
steps tags (pointer c t) size h = tt
steps tags void size h = absurd h
steps tags (int k) size h = absurd h
steps tags (enumeration tag) size h = absurd h
steps tags (array q t count) size h = absurd h
steps tags (struct tag) size h = absurd h
steps tags (union tag) size h = absurd h
steps tags (function r ps v) size h = absurd h

stepped : (tags : List Tag) (c : Change) (t : CType) (rest : List CType) → UpdateTypes tags c t rest → AccessFits (change_access c) t
stepped tags (change.Integer op kind work) t rest h = tt
stepped tags (change.Pointer size subtract) t [] h = steps tags t size h
stepped tags (change.Pointer size subtract) t (i ∷ []) h = steps tags t size h.0
stepped tags (change.Pointer size subtract) t (i ∷ j ∷ rest) h = absurd h

update_fits : (p : Program) (blocks : Blocks) (c : Change) (old : Bool) (own : CType) (ts : List CType)
    → TypesAre p blocks (shape.Update c old) own ts → AccessFits (change_access c) (pointed (first_operand own ts))
update_fits p blocks c old own [] h = absurd h
update_fits p blocks c old own (pointer d t ∷ rest) h = stepped p.tags c t rest h.2
update_fits p blocks c old own (void ∷ us) h = absurd h
update_fits p blocks c old own (int k ∷ us) h = absurd h
update_fits p blocks c old own (enumeration tag ∷ us) h = absurd h
update_fits p blocks c old own (array q t count ∷ us) h = absurd h
update_fits p blocks c old own (struct tag ∷ us) h = absurd h
update_fits p blocks c old own (union tag ∷ us) h = absurd h
update_fits p blocks c old own (function r ps v ∷ us) h = absurd h

pub head_fits : (p : Program) (blocks : Blocks) (h : Head) (own : CType) (ts : List CType) → TypesAre p blocks h own ts → HeadLists p h
    → HeadFits p h (pointed (first_operand own ts))
head_fits p blocks (shape.Assign first how) own ts k l = assign_fits p blocks first how own ts k
head_fits p blocks (shape.Update c old) own ts k l = update_fits p blocks c old own ts k
head_fits p blocks (shape.List slot bytes) own ts k l = l
head_fits p blocks _ own ts k l = tt
