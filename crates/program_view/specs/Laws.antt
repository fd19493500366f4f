-- What the view of a program keeps.
use Rattle.std.specs.Prelude.{◌≡◌, List}
use Rattle.c_types.specs.declared.tags.Tag.{Tag}
use Rattle.c_types.specs.Types.{CType}
use Rattle.c_types.specs.Leaves.{leaves, scalars}
use Rattle.c_typed.specs.declared.tree.Typed.{Typed}
use Rattle.c_typed.specs.Tree as order
use Rattle.c_model.specs.Program.{tree_of}
use Rattle.program_view.specs.Trees.{expr_of}
use Rattle.program_view.specs.Objects.{form_of_type}

-- the events of a full expression have the order of its typed tree (5.1.2.3p3)
abbrev pub TreesAreKept : Type 0
TreesAreKept = (t : Typed) → tree_of (expr_of t) ≡ order.tree_of t

-- the form of an object has just the scalars of its type, at their places
abbrev pub FormsHaveScalars : Type 0
FormsHaveScalars = (tags : List Tag) (ty : CType) → leaves (form_of_type tags ty) ≡ scalars tags ty
