-- What a full expression of a lawful program names is there, in a machine in which the blocks of its automatic objects are open.
use Rattle.std.specs.Prelude.{◌≡◌, ℕ, true, List, length, Some, slice_get}
use Rattle.std.specs.List.{All}
use Rattle.c_typed.specs.declared.tree.Node.TheOpen as shape
use Rattle.c_typed.specs.declared.tree.Slot.{Slot}
use Rattle.c_typed.specs.declared.tree.Slot.TheVariants as slot
use Rattle.c_typed.specs.declared.tree.Typed.{Typed, out-Typed}
use Rattle.c_typed.specs.Lawful.{IsLawful, CountIs}
use Rattle.c_typed.specs.Sites.{Head, sites}
use Rattle.c_typed.specs.Tree.{is_quiet}
use Rattle.mem_spec.specs.Store.{Store}
use Rattle.c_model.specs.Program.{Expr, expr, Listed, tree_of}
use Rattle.c_model.specs.Steps.{Scene}
use Rattle.c_model.specs.World.{World}
use Rattle.program_view.specs.Trees.{expr_of}
use Rattle.run_layout.specs.declared.nodes.NodeInfo.{NodeInfo}
use Rattle.run_layout.specs.declared.steps.Expression.{Expression as Laid}
use Rattle.run_layout.specs.Chosen.{Views}
use Rattle.run_layout.specs.EventActs.{head_at}
use Rattle.run_layout.specs.Numbered.{AreNodes}
use Rattle.run_state.specs.declared.machine.Machine.{Machine}
use Rattle.run_state.specs.Operands.{IsNamed, IsThere, StandsObjects}
use Rattle.run_state.specs.Stands.{StandsMemory}
use Rattle.code_view.specs.Known.{AreInOrder, NamesArePlaced}

-- 1. What is asked: an automatic object that is named is one of a block that is open (6.2.1p4, 6.2.4p6).

abbrev pub SlotIsOpen : Machine → (firsts : List ℕ) → List (ℕ × ℕ) → Slot → Type 0
SlotIsOpen m firsts open_blocks (slot.Auto block decl) = IsThere m firsts open_blocks (slot.Auto block decl)
SlotIsOpen m firsts open_blocks (slot.Static number) = Unit {0}

abbrev pub NamedIsOpen : Machine → (firsts : List ℕ) → List (ℕ × ℕ) → Head → Type 0
NamedIsOpen m firsts open_blocks (shape.Obj named) = SlotIsOpen m firsts open_blocks named
NamedIsOpen m firsts open_blocks (shape.List named bytes) = SlotIsOpen m firsts open_blocks named
NamedIsOpen m firsts open_blocks _ = Unit {0}

abbrev pub NamesAreOpen : Machine → (firsts : List ℕ) → List (ℕ × ℕ) → Typed → Type 0
NamesAreOpen m firsts open_blocks t = All (λ s. NamedIsOpen m firsts open_blocks s.head) (sites t)

-- 2. Then each object that is named stands, those with static storage and literals too.
abbrev pub OpenIsPlaced : Type 0
OpenIsPlaced = (world : World) (m : Machine) (f : Scene) (s : Store) (firsts : List ℕ) (n : ℕ) (laid : Laid) → IsLawful m.program.now
    → AreInOrder m.program.now m.image.code.now → slice_get m.image.code.now.expressions.items n ≡ Some laid → StandsMemory world m.memory m.streams s
    → StandsObjects world m f → NamesAreOpen m firsts f.blocks laid.root.now → NamesArePlaced world f laid.root.now

-- So what the code takes to be known beforehand in it is so by the definitions.
abbrev pub OpenIsKnown : Type 0
OpenIsKnown = (world : World) (m : Machine) (f : Scene) (s : Store) (firsts : List ℕ) (n : ℕ) (laid : Laid) → IsLawful m.program.now
    → AreInOrder m.program.now m.image.code.now → slice_get m.image.code.now.expressions.items n ≡ Some laid → StandsMemory world m.memory m.streams s
    → StandsObjects world m f → NamesAreOpen m firsts f.blocks laid.root.now → Views world f firsts 0 laid.root.now (expr_of laid.root.now)

-- 3. And each node stands as the acts of its events ask.

-- where it is an initializer list, its object is there
abbrev pub ListIsThere : Machine → (firsts : List ℕ) → List (ℕ × ℕ) → Expr → Type 0
ListIsThere m firsts open_blocks (expr (Listed named fillings) ty line es) = IsThere m firsts open_blocks named
ListIsThere m firsts open_blocks e = Unit {0}

-- It has the operands that its operator takes; those that are known beforehand are named: an integer constant is no pointer, the objects are there, and
-- what is converted to an integer type is an integer.
pub record NodeIsNamed (m : Machine) (firsts : List ℕ) (open_blocks : List (ℕ × ℕ)) (t : Typed) : Type 0 where
  pub counts : CountIs (head_at (out-Typed t).node) (length (out-Typed t).children)
  pub operands : All (λ o. is_quiet (tree_of (expr_of o)) ≡ true → IsNamed m firsts open_blocks (expr_of o)) (out-Typed t).children
  pub list : ListIsThere m firsts open_blocks (expr_of t)

abbrev pub OpenIsNamed : Type 0
OpenIsNamed = (m : Machine) (firsts : List ℕ) (open_blocks : List (ℕ × ℕ)) (nodes : List NodeInfo) (n : ℕ) (laid : Laid) (i : ℕ) (x : NodeInfo)
    → IsLawful m.program.now → AreInOrder m.program.now m.image.code.now → slice_get m.image.code.now.expressions.items n ≡ Some laid
    → AreNodes firsts laid.root.now nodes → NamesAreOpen m firsts open_blocks laid.root.now → slice_get nodes i ≡ Some x
    → NodeIsNamed m firsts open_blocks x.tree.now

-- 4. So does the whole expression, where it is known beforehand: a constant, or the address of an object.
abbrev pub OpenRootIsNamed : Type 0
OpenRootIsNamed = (m : Machine) (firsts : List ℕ) (open_blocks : List (ℕ × ℕ)) (n : ℕ) (laid : Laid) → IsLawful m.program.now
    → AreInOrder m.program.now m.image.code.now → slice_get m.image.code.now.expressions.items n ≡ Some laid → NamesAreOpen m firsts open_blocks laid.root.now
    → is_quiet (tree_of (expr_of laid.root.now)) ≡ true → IsNamed m firsts open_blocks (expr_of laid.root.now)
