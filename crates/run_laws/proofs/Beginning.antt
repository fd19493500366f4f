-- As a full expression begins, the machine stands as picks ask it.
use Rattle.std.proofs.Common.{arith, ◌≡◌, ◌+◌, ◌≤◌, ℕ, true, List, [], length, Option, Some, None, sym, ap, subst, ◌∙◌}
use Rattle.std.proofs.lemmas.Option.{same_Some}
use Rattle.std.specs.Prelude.{is_some}
use Rattle.c_typed.specs.declared.tree.Place.{Place}
use Rattle.c_model.specs.ChoiceLaws.{IsClosed}
use Rattle.c_model.specs.Program.{tree_of}
use Rattle.c_model.specs.Runs.{State}
use Rattle.c_model.specs.Steps.{Begun, Scene}
use Rattle.c_model.specs.World.{World}
use Rattle.elaborate.specs.Formed.{is_formed}
use Rattle.program_view.specs.Trees.{expr_of}
use Rattle.program_view.proofs.Seen.{same_tree}
use Rattle.seq_order.specs.Marked.{taken_in}
use Rattle.run_control.specs.View.{Meaning}
use Rattle.run_layout.specs.declared.nodes.NodeInfo.{NodeInfo}
use Rattle.run_layout.specs.declared.steps.Expression.{Expression as Laid}
use Rattle.run_layout.specs.Chosen.{IsKept, Views, with_chosen}
use Rattle.run_layout.specs.InRange.{part_of}
use Rattle.run_layout.specs.Keeping.{KeepsAtBegin}
use Rattle.run_layout.specs.LaidOut.{LaidOutBy}
use Rattle.run_layout.specs.OfTrees.{HasListing}
use Rattle.run_state.specs.declared.machine.Machine.{Machine}
use Rattle.run_state.specs.declared.machine.Stage.{Stage}
use Rattle.run_state.specs.declared.watch.Begun.{Begun as Shown}
use Rattle.run_state.specs.Operands.{AreAddresses, StandsObjects}
use Rattle.run_state.specs.Stands.{Stands, StandsExpression}
use Rattle.run_answers.specs.Picks.{top_of}
use Rattle.code_view.specs.Named.{NamesAreOpen, OpenIsKnown}
use Rattle.run_laws.specs.Beginning.{BeginsOpen, HasJustBegun}
use Rattle.run_laws.specs.Open.{IsLawfulCode}
use Rattle.value_facts.specs.Small.{AreSmall}
use Rattle.run_laws.proofs.Frames.{each_at, one_open, top_frame}
use Rattle.run_laws.proofs.Given.{addresses_of}

-- what the operands of the top frame stand on
pub objects_of : (world : World) (meaning : Option ℕ → Meaning) (m : Machine) (st : State) → Stands world meaning m st → AreAddresses world.rows
    → StandsObjects world m st.top.scene
objects_of world meaning m st s addresses = record {
  rows = s.memory.rows;
  addresses = addresses;
  places = s.tables.places;
  locals = (top_frame world meaning m st s).locals;
}

none_small : (e : Begun) → ((u : Place) → e.given u ≡ None) → AreSmall e.given
none_small e none u v is = absurd (let no = none u in cc)

none_closed : (world : World) (f : Scene) (e : Begun) → ((u : Place) → e.given u ≡ None) → IsClosed world f e
none_closed world f e none v is = absurd (let no = ap is_some (none v) in cc)

module _ (keeps : KeepsAtBegin) (known : OpenIsKnown) (world : World) (meaning : Option ℕ → Meaning) (m : Machine) (st : State) (e : Begun) (s : Stage)
    (laid : Laid) (firsts : List ℕ) (nodes : List NodeInfo) (b : HasJustBegun world meaning m st e s laid) (code : IsLawfulCode m.program.now m.image.code.now)
    (lays : LaidOutBy firsts nodes m.image.code.now.tables m.image.code.now.listing.items laid)
    (names : NamesAreOpen m firsts st.top.scene.blocks laid.root.now)
    (addresses : AreAddresses world.rows) where
  abbrev f : Scene
  f = st.top.scene

  abbrev Here : Begun → Type 0
  Here x = StandsExpression world (meaning m.top.function) m (length m.below.items) m.top s f x None

  expression : Here e
  expression =
      let frame = top_frame world meaning m st b.stands in
      let there = one_open world (meaning m.top.function) m (length m.below.items) m.top m.top.stage s f st.top.begun frame.begun b.has.stage in
      subst Here (same_Some there.0 e (sym there.1 ∙ b.begun)) there.2

  same_laid : expression.laid ≡ laid
  same_laid = same_Some expression.laid laid (sym expression.at ∙ b.has.at)

  root_is : e.root ≡ expr_of laid.root.now
  root_is = expression.root ∙ ap (λ (z : Laid). expr_of z.root.now) same_laid

  rooms_is : m.top.rooms ≡ laid.rooms
  rooms_is = expression.rooms ∙ ap (λ (z : Laid). z.rooms) same_laid

  views : Views world f firsts 0 laid.root.now e.root
  views =
      subst (Views world f firsts 0 laid.root.now) (sym root_is)
      (known world m f st.store firsts s.expression laid code.lawful code.order b.has.at b.stands.memory
      (objects_of world meaning m st b.stands addresses) names)

  formed : is_formed (tree_of e.root) ≡ true
  formed =
      ap is_formed (ap tree_of root_is ∙ same_tree laid.root.now)
      ∙ (each_at (HasListing m.image.code.now.listing.items) m.image.code.now.expressions.items s.expression laid b.has.at b.stands.listed).formed

  -- what is kept of choices is so by the definitions
  pub kept : (x : Shown) → top_of m ≡ Some x → IsKept world f e (taken_in x.taken)
  kept x top =
      let at_once = keeps world f firsts nodes m.image.code.now.tables m.image.code.now.listing.items laid e lays views formed b.given in
      let cs = part_of m.image.code.now.tables.chosen.items laid.chosen in
      let start : taken_in [] ≡ (λ k. None) = (λ i k. None) in
      let made : taken_in x.taken ≡ with_chosen cs (λ k. None) = (λ i k. (b.has.chosen x top k ∙ ap (λ t. with_chosen cs t k) start) i) in
      subst (IsKept world f e) (sym made) at_once

  rooms_there : m.top.base + m.top.rooms ≤ length m.values.items
  rooms_there = let le = b.has.rooms in let is = rooms_is in omega (arith, le, is)

pub begins_open : KeepsAtBegin → OpenIsKnown → BeginsOpen
begins_open keeps known world meaning m st e s laid firsts nodes b code lays names ends bytes lists = record {
  stood = record {
    stands = b.stands;
    begun = b.begun;
    chosen = kept keeps known world meaning m st e s laid firsts nodes b code lays names (addresses_of world.rows ends);
    reached = none_closed world st.top.scene e b.given;
    arguments = b.arguments;
    result = b.result;
    rooms = rooms_there keeps known world meaning m st e s laid firsts nodes b code lays names (addresses_of world.rows ends);
    below = b.below;
  };
  stage = b.has.stage;
  code = code;
  at = b.has.at;
  lays = lays;
  names = names;
  ends = ends;
  small = none_small e b.given;
  bytes = bytes;
  lists = lists;
}
