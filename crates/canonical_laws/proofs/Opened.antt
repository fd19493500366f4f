-- The full expression of the top frame is open as picks ask it, where the canonical pick is an event of it.
use Rattle.std.proofs.Common.{◌≡◌, ◌∷◌, ℕ, List, [], length, reverse, Option, Some, None, refl, sym, ap, subst, ◌∙◌}
use Rattle.c_typed.specs.declared.program.Program.{Program}
use Rattle.c_typed.specs.Lawful.{IsLawful}
use Rattle.c_model.specs.Runs.{State}
use Rattle.c_model.specs.Steps.{Begun}
use Rattle.c_model.specs.Values.{Value}
use Rattle.c_model.specs.World.{World}
use Rattle.mem_objects.specs.declared.value.Value.{Value as Kept_value}
use Rattle.mem_objects.specs.Memory.{Kept}
use Rattle.run_control.specs.View.{Meaning}
use Rattle.run_layout.specs.declared.nodes.NodeInfo.{NodeInfo}
use Rattle.run_layout.specs.declared.steps.Expression.{Expression as Laid}
use Rattle.run_statements.specs.declared.numbers.Numbers.{Numbers}
use Rattle.run_state.specs.declared.machine.Machine.{Machine}
use Rattle.run_state.specs.declared.machine.Stage.{Stage}
use Rattle.run_state.specs.Stands.{StandsFrame, result_seen}
use Rattle.run_answers.specs.Taking.{AreLawful, StandsOpen, untouched}
use Rattle.run_answers.proofs.Still.{items_stand}
use Rattle.code_view.specs.Known.{AreInOrder, TreesAreLawful}
use Rattle.code_view.specs.Laws.{ConstantsAreLawful}
use Rattle.code_view.specs.Numbering.{meaning_of}
use Rattle.value_facts.specs.Held.{SmallHasLists}
use Rattle.value_facts.specs.Unresulted.{OpenHasNone}
use Rattle.run_laws.specs.Open.{IsLawfulCode, IsOpen}
use Rattle.control_laws.specs.Control.{IsOpenAs, OpenStandsSo, OpensSmall}
use Rattle.control_laws.proofs.Settles.{names_clear, stage_there}
use Rattle.control_laws.proofs.Laws.{top_frame}
use Rattle.canonical_laws.specs.Asked.{IsAsked}

pub record Opens : Type 0 where
  pub stands : OpenStandsSo
  pub trees : TreesAreLawful
  pub constants : ConstantsAreLawful
  pub lists : SmallHasLists
  pub none : OpenHasNone

-- ---- a machine that has touched nothing yet has it open so too
pub open_clear : (world : World) (meaning : Option ℕ → Meaning) (m : Machine) (st : State) (e : Begun) (s : Stage) (laid : Laid) (firsts : List ℕ)
    (nodes : List NodeInfo) → IsOpen world meaning m st e s laid firsts nodes → IsOpen world meaning (untouched m) st e s laid firsts nodes
open_clear world meaning m st e s laid firsts nodes o = record {
  stood = record {
    stands = items_stand world meaning m [] m.spare st o.stood.stands;
    begun = o.stood.begun;
    chosen = o.stood.chosen;
    reached = o.stood.reached;
    arguments = o.stood.arguments;
    result = o.stood.result;
    rooms = o.stood.rooms;
    below = o.stood.below;
  };
  stage = o.stage;
  code = o.code;
  at = o.at;
  lays = o.lays;
  names = names_clear m firsts st.top.scene.blocks laid.root.now o.names;
  ends = o.ends;
  small = o.small;
  bytes = o.bytes;
  lists = o.lists;
}

-- ---- a frame that has no result by the definitions has none in the machine
left_none : (m : Kept) (function : Option ℕ) (k : ℕ) (left : Option Kept_value) → function ≡ Some k → result_seen m function left ≡ None → left ≡ None
left_none m function k None is none = refl
left_none m function k (Some v) is none = absurd (cc (none))

module _ (laws : Opens) (world : World) (p : Program) (numbers : Numbers) (m : Machine) (st : State) (n : ℕ) (a : IsAsked world p numbers m st n) (e : Begun)
    (begun : st.top.begun ≡ Some e) where
  abbrev meaning : Option ℕ → Meaning
  meaning = meaning_of p numbers m.image.code.now

  frame : StandsFrame world (meaning m.top.function) m (length m.below.items) m.top m.work.now m.left st.top None
  frame = top_frame world meaning m st a.going.stands

  pub staged : (s : Stage) × (m.top.stage ≡ Some s)
  staged = stage_there world (meaning m.top.function) m (length m.below.items) m.top m.top.stage st.top.scene st.top.begun e frame.begun begun

  no_result : (f : Option ℕ) → st.top.function ≡ f → m.left ≡ None
  no_result None is = a.idle (frame.function ∙ is)
  no_result (Some k) is =
      left_none m.memory m.top.function k m.left (frame.function ∙ is) (sym frame.result ∙ laws.none st.top k e is a.unresulted.0 begun)

  lawful : IsLawful m.program.now
  lawful = subst IsLawful (sym a.going.program) a.going.set_up.whole.lawful

  order : AreInOrder m.program.now m.image.code.now
  order = subst (λ (q : Program). AreInOrder q m.image.code.now) (sym a.going.program) a.going.set_up.code.order

  code_so : IsLawfulCode m.program.now m.image.code.now
  code_so = record {
    lawful = lawful;
    order = order;
    trees = λ k laid at. laws.trees m.program.now m.image.code.now k laid lawful order at;
    constants = subst (λ (q : Program). AreLawful q m.image.code.now) (sym a.going.program)
        (laws.constants p numbers m.image.code.now a.going.set_up.whole.lawful a.going.set_up.code.code_of);
  }

  small : OpensSmall m st e
  small = record {
    result = no_result st.top.function refl;
    code = code_so;
    given = λ u v is. ((a.placed.top.begun e begun).given u v is).0;
    bytes = a.placed.bytes;
    lists = laws.lists e.root (a.placed.top.begun e begun).root;
  }

  pub opened : IsOpenAs world p numbers m st e staged.0
  opened = laws.stands world p numbers m st n e staged.0 a.going begun staged.1 small
