-- The choices that are made at the events of a full expression (6.5.13p4, 6.5.14p4, 6.5.15p4).
use Rattle.std.specs.Prelude.{◌≡◌, ℕ, suc, Bool, true, false, List, Option, Some, None, slice_get, IfSome}
use Rattle.ub_base.specs.declared.clause.Kind.{Kind}
use Rattle.ub_base.specs.declared.clause.Kind.TheVariants.{Val, Eff, Body}
use Rattle.c_typed.specs.declared.tree.Typed.{out-Typed}
use Rattle.run_layout.specs.Branches.{Chooses}
use Rattle.run_layout.specs.declared.nodes.NodeInfo.{NodeInfo}
use Rattle.run_layout.specs.declared.steps.Operand.{Operand}
use Rattle.run_layout.specs.declared.steps.Choice.{Choice}
use Rattle.run_layout.specs.declared.steps.Way.{Way}
use Rattle.run_layout.specs.declared.tables.Tables.{Tables}
use Rattle.run_layout.specs.Choosing.{node_of, IsTest}
use Rattle.run_layout.specs.AtOnce.{chosen_in, Lists}

-- by this truth of its test the node takes the operand that the definitions choose, and with it the choices that are made in that one at once
pub record Goes (firsts : List ℕ) (tables : Tables) (number : ℕ) (above : NodeInfo) (test : Bool) (w : Way) : Type 0 where
  pub operand : Chooses (node_of above) test w.operand
  pub chosen : IfSome w.operand (λ i. Lists tables.chosen.items w.chosen (chosen_in firsts (out-Typed above.tree.now).children i (suc number)))

-- the choice of a node, the value of whose test comes from here
pub record IsChoiceOf (firsts : List ℕ) (tables : Tables) (number : ℕ) (above : NodeInfo) (value : Operand) (c : Choice) : Type 0 where
  pub node : c.node ≡ number
  pub test : c.test ≡ value
  pub yes : Goes firsts tables number above true c.yes
  pub no : Goes firsts tables number above false c.no

-- the choice that is made at the value of this node: that of the node whose test it is, or none
abbrev pub MakesChoice : List ℕ → Tables → List NodeInfo → (n : ℕ) → NodeInfo → Option ℕ → Type 0
MakesChoice firsts tables nodes n x None = (parent : ℕ) (above : NodeInfo) → IsTest nodes n x parent above → ⊥
MakesChoice firsts tables nodes n x (Some number) =
    (parent : ℕ) × (above : NodeInfo) × IsTest nodes n x parent above × (c : Choice) × (slice_get tables.choices.items number ≡ Some c)
    × IsChoiceOf firsts tables parent above x.operand c

-- the choice that is made at an event of this kind
abbrev pub ChoosesAt : List ℕ → Tables → List NodeInfo → (n : ℕ) → NodeInfo → Kind → Option ℕ → Type 0
ChoosesAt firsts tables nodes n x Val o = MakesChoice firsts tables nodes n x o
ChoosesAt firsts tables nodes n x Eff o = o ≡ None
ChoosesAt firsts tables nodes n x Body o = o ≡ None
