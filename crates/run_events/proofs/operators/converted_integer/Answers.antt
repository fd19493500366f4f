use Rattle.std.proofs.Common.{◌≡◌, refl, ap, ◌∙◌, ℤ, to_z, of_z, rules}
use Rattle.std.specs.Int.{w128}
use Rattle.std.proofs.lemmas.Int.{to_z-of_z}
use Rattle.c_arith.specs.Operators.{conv}
use Rattle.c_typed.specs.declared.tree.Conversion.TheVariants as conversion
use Rattle.c_model.specs.Values as model
use Rattle.c_model.specs.Values.{integer_of}
use Rattle.mem_spec.specs.Script.{Give}
use Rattle.mem_objects.specs.declared.value.Value.TheVariants as kept
use Rattle.prov_memory.proofs.KeepLemmas.{keeps_none}
use Rattle.run_layout.specs.declared.steps.Act.TheVariants as act
use Rattle.run_answers.specs.Acts.{given_by}
use Rattle.run_events.proofs.Valued.{at_once, int_of}
use Rattle.run_answers.proofs.Doing.{given_as}
use Rattle.run_events.proofs.Rooms.{room_changes, room_done}
use Rattle.run_events.proofs.operators.converted_integer.Goals as goal

pub returns-clause-exact : goal.returns-clause-exact
returns-clause-exact c = λ can given.
    let m = c.args.machine.now in
    let number : to_z w128 (of_z w128 c.integer-operand.result) ≡ integer_of (given_by m c.args.operand.now) =
    to_z-of_z w128 c.integer-operand.result (search rules) ∙ given_as m c.args.operand.now integer_of c.integer-operand.result c.integer-operand.ensures given
    in
    let out : to_z w128 (of_z w128 c.convert-number.result) ≡ c.convert-number.result = to_z-of_z w128 c.convert-number.result (search rules) in
    let is : to_z w128 (of_z w128 c.convert-number.result) ≡ conv c.args.kind (integer_of (given_by m c.args.operand.now)) =
    out ∙ c.convert-number.ensures ∙ ap (λ (z : ℤ). conv c.args.kind z) number in
    room_done m m.memory m.items m.spare c.keep.new.self c.args.event.node (kept.Int (to_z w128 (of_z w128 c.convert-number.result)))
    c.keep.ensures.rest c.keep.ensures.room c.keep.ensures.others
    c.args.event (act.Convert (conversion.Integer c.args.kind) c.args.operand.now) refl refl
    (at_once m (Give (model.Int (conv c.args.kind (integer_of (given_by m c.args.operand.now))))) _
    (model.Int (to_z w128 (of_z w128 c.convert-number.result))) can refl (ap model.Int is))
    (int_of m.memory (kept.Int (to_z w128 (of_z w128 c.convert-number.result))) (to_z w128 (of_z w128 c.convert-number.result)) refl) (keeps_none m.memory)

pub returns-clause-changes : goal.returns-clause-changes
returns-clause-changes c =
    let m = c.args.machine.now in
    room_changes m m.memory m.items m.spare c.keep.new.self c.args.event.node (kept.Int (to_z w128 (of_z w128 c.convert-number.result)))
    c.keep.ensures.rest c.keep.ensures.room c.keep.ensures.others
    (act.Convert (conversion.Integer c.args.kind) c.args.operand.now)
