-- What is known beforehand in the full expressions of a lawful program, and what the events are that are listed of them.
use Rattle.std.specs.Prelude.{◌≡◌, ◌<◌, ℕ, List, Some, slice_get, flat_map}
use Rattle.std.specs.List.{All}
use Rattle.ub_base.specs.declared.names.ObjName.{ObjName}
use Rattle.ub_base.specs.declared.names.ObjName.TheVariants as object
use Rattle.addr_map.specs.Rows.{row_of}
use Rattle.c_typed.specs.declared.program.Program.{Program}
use Rattle.c_typed.specs.declared.tree.Node.TheOpen as shape
use Rattle.c_typed.specs.declared.tree.Typed.{Typed}
use Rattle.c_typed.specs.Lawful.{IsLawful, SiteIsLawful}
use Rattle.c_typed.specs.Sites.{Blocks, Head, sites}
use Rattle.mem_spec.specs.Acts.{base_in}
use Rattle.c_model.specs.Steps.{Scene, name_of}
use Rattle.c_model.specs.World.{World}
use Rattle.program_view.specs.Trees.{expr_of}
use Rattle.run_layout.specs.declared.steps.Expression.{Expression as Laid}
use Rattle.run_layout.specs.declared.whole.Code.{Code}
use Rattle.run_layout.specs.Chosen.{Views}
use Rattle.run_layout.specs.Roots.{code_trees, roots_in}

-- the full expressions of the code are those of the program's functions in turn, as `code_of` gives them
abbrev pub AreInOrder : Program → Code → Type 0
AreInOrder p code = roots_in code.expressions.items ≡ flat_map code_trees p.functions

-- the nodes of a tree are lawful in the program, with some blocks round it
abbrev pub IsLawfulTree : Program → Typed → Type 0
IsLawfulTree p t = (around : Blocks) × All (SiteIsLawful p around) (sites t)

-- so are those of each full expression of a lawful program's code, isolated initializers among them
abbrev pub TreesAreLawful : Type 0
TreesAreLawful = (p : Program) (code : Code) (n : ℕ) (laid : Laid) → IsLawful p → AreInOrder p code → slice_get code.expressions.items n ≡ Some laid
    → IsLawfulTree p laid.root.now

-- an object stands at an address, which isn't that of a null pointer (6.3.2.3p3)
abbrev pub IsPlaced : World → ObjName → Type 0
IsPlaced world x = 0 < base_in (row_of world.rows x)

-- so does the object that a node names, if any
abbrev pub NamedIsPlaced : World → Scene → Head → Type 0
NamedIsPlaced world f (shape.Obj slot) = IsPlaced world (name_of world f slot)
NamedIsPlaced world f (shape.Str literal) = IsPlaced world (object.Lit literal)
NamedIsPlaced world f _ = Unit {0}

-- and each that a tree names
abbrev pub NamesArePlaced : World → Scene → Typed → Type 0
NamesArePlaced world f t = All (λ s. NamedIsPlaced world f s.head) (sites t)

-- What the code takes to be known beforehand in a full expression is so by the definitions, and has their truth, in each scene of a world in which the
-- objects that the expression names stand: a number, a null pointer, an address, or an integer constant that is converted. The objects of blocks may
-- have any numbers.
abbrev pub CodeIsKnown : Type 0
CodeIsKnown = (p : Program) (code : Code) (world : World) (f : Scene) (firsts : List ℕ) (n : ℕ) (laid : Laid) → IsLawful p → AreInOrder p code
    → slice_get code.expressions.items n ≡ Some laid → NamesArePlaced world f laid.root.now → Views world f firsts 0 laid.root.now (expr_of laid.root.now)
