-- The objects that a typed tree names, and that lawful programs name objects of blocks round the place alone.
use Rattle.std.specs.Prelude.{◌≡◌, ℕ, true, is_some, List, [], ◌∷◌, ◌++◌, map, slice_get}
use Rattle.std.specs.List.{All}
use Rattle.ub_base.specs.Frames.{Path}
use Rattle.addr_map.specs.declared.map.Row.{Row}
use Rattle.c_typed.specs.declared.tree.Slot.{Slot}
use Rattle.c_typed.specs.declared.tree.Typed.{Typed}
use Rattle.c_typed.specs.declared.tree.Node.TheOpen as shape
use Rattle.c_typed.specs.declared.program.Program.{Program}
use Rattle.c_typed.specs.Sites.{Head, Site, sites}
use Rattle.c_typed.specs.Lawful.{IsLawful, There}
use Rattle.c_model.specs.Runs.{State, Running, After, start}
use Rattle.c_model.specs.Steps.{Pick}
use Rattle.c_model.specs.Values.{Value}
use Rattle.c_model.specs.World.{World, Limits}
use Rattle.program_view.specs.Trees.{expr_of}
use Rattle.program_view.specs.Statements.{definition}
use Rattle.program_view.specs.View.{function_of, world_of}
use Rattle.frame_laws.specs.Scopes.{Objects, names, AreOpen, ExprFits}
use Rattle.frame_laws.specs.Frames.{IsScoped, HasMain, AreOrdered}

-- the object that a node names itself
abbrev pub named_at : Head → List Slot
named_at (shape.Obj slot) = slot ∷ []
named_at (shape.List slot bytes) = slot ∷ []
named_at _ = []

abbrev pub all_named : List Site → List Slot
all_named [] = []
all_named (s ∷ ss) = named_at s.head ++ all_named ss

-- the model's expression of a typed tree names the objects that the nodes of the tree name
abbrev pub NamesAreSeen : Type 0
NamesAreSeen = (t : Typed) → names (expr_of t) ≡ all_named (sites t)

-- so where it names objects of open blocks alone, each node does
abbrev pub NodesAreInScope : Type 0
NodesAreInScope = (objects : Objects) (around : List ℕ) (t : Typed) → ExprFits objects around (expr_of t)
    → All (λ s. AreOpen objects around (named_at s.head)) (sites t)

-- A world that has the functions of a lawful program (6.2.1p4).
abbrev pub LawfulIsScoped : Type 0
LawfulIsScoped = (p : Program) (world : World) → IsLawful p → world.program.functions ≡ map (function_of p.tags) p.functions → IsScoped world

-- `main` is defined by a block (6.9.1p1)
abbrev pub MainIsBlock : Program → Type 0
MainIsBlock p = There (slice_get p.functions p.main) (λ f. is_some (definition p.tags f.body) ≡ true)

abbrev pub MainIsDefined : Type 0
MainIsDefined = (p : Program) (world : World) → world.program.functions ≡ map (function_of p.tags) p.functions → world.program.main ≡ p.main
    → MainIsBlock p → HasMain world

-- So along each order of picks in each run of such a program the frames are ordered.
abbrev pub RunsAreOrdered : Type 0
RunsAreOrdered =
    (p : Program) (arguments : List (List ℕ)) (rows : List Row) (number : Path → ℕ) (limits : Limits) (input : List ℕ) (vs : List Value) (ps : List Pick)
    (st after : State) → IsLawful p → MainIsBlock p → start (world_of p arguments rows number limits) input vs ≡ Running st
    → After (world_of p arguments rows number limits) st ps (Running after)
    → AreOrdered (world_of p arguments rows number limits) after.top after.held
