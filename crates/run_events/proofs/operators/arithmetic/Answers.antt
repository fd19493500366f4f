use Rattle.std.proofs.Common.{◌≡◌, refl, ap, ap₂, sym, ◌∙◌, ℤ, to_z, of_z, rules}
use Rattle.std.proofs.lemmas.Result.{err_from_is_err_and}
use Rattle.c_model.specs.Nodes as nodes
use Rattle.c_model.specs.Values as model
use Rattle.run_layout.specs.declared.steps.Act.TheVariants as act
use Rattle.mem_objects.specs.declared.value.Value.TheVariants as kept
use Rattle.std.specs.Int.{w128}
use Rattle.std.proofs.lemmas.Int.{to_z-of_z}
use Rattle.c_model.specs.Values.{integer_of}
use Rattle.mem_spec.specs.Script.{Done}
use Rattle.prov_memory.proofs.KeepLemmas.{keeps_none}
use Rattle.run_answers.specs.Acts.{given_by}
use Rattle.run_answers.specs.Performs.{store_in}
use Rattle.run_events.proofs.Valued.{int_of, unworked, worked}
use Rattle.run_answers.proofs.Doing.{given_as, rows_same}
use Rattle.run_events.proofs.Rooms.{room_changes, room_done, touches_all}
use Rattle.run_events.proofs.operators.arithmetic.Goals as goal

pub returns-in_err-number-clause-exact : goal.returns-in_err-number-clause-exact
returns-in_err-number-clause-exact c =
    let p = err_from_is_err_and c.from_residual.result c.from_residual.ensures.1 in
    rw (p.1, p.2) (λ can given.
    let m = c.args.machine.now in
    let first : to_z w128 (of_z w128 c.integer-left.result) ≡ integer_of (given_by m c.args.left.now) =
    to_z-of_z w128 c.integer-left.result (search rules) ∙ given_as m c.args.left.now integer_of c.integer-left.result c.integer-left.ensures given.0 in
    let second : to_z w128 (of_z w128 c.integer-right.result) ≡ integer_of (given_by m c.args.right.now) =
    to_z-of_z w128 c.integer-right.result (search rules) ∙ given_as m c.args.right.now integer_of c.integer-right.result c.integer-right.ensures given.1 in
    let both = ap₂ (λ (x y : ℤ). nodes.operated c.args.op c.args.kind x y) first second in
    unworked m (nodes.operated c.args.op c.args.kind (integer_of (given_by m c.args.left.now)) (integer_of (given_by m c.args.right.now)))
    c.in_err-number.field-0.0 (sym (c.in_err-number.ensures ∙ both)))

pub returns-in_err-number-clause-changes : goal.returns-in_err-number-clause-changes
returns-in_err-number-clause-changes c = touches_all c.args.machine.now c.args.machine.now c.args.event.node (act.Binary c.args.op c.args.kind
    c.args.left.now c.args.right.now) refl

pub returns-clause-exact : goal.returns-clause-exact
returns-clause-exact c = λ can given.
    let m = c.args.machine.now in
    let first : to_z w128 (of_z w128 c.integer-left.result) ≡ integer_of (given_by m c.args.left.now) =
    to_z-of_z w128 c.integer-left.result (search rules) ∙ given_as m c.args.left.now integer_of c.integer-left.result c.integer-left.ensures given.0 in
    let second : to_z w128 (of_z w128 c.integer-right.result) ≡ integer_of (given_by m c.args.right.now) =
    to_z-of_z w128 c.integer-right.result (search rules) ∙ given_as m c.args.right.now integer_of c.integer-right.result c.integer-right.ensures given.1 in
    let both = ap₂ (λ (x y : ℤ). nodes.operated c.args.op c.args.kind x y) first second in
    let value : to_z w128 (of_z w128 c.in_ok-number.number) ≡ c.in_ok-number.number = to_z-of_z w128 c.in_ok-number.number (search rules) in
    room_done m m.memory m.items m.spare c.keep.new.self c.args.event.node (kept.Int (to_z w128 (of_z w128 c.in_ok-number.number)))
    c.keep.ensures.rest c.keep.ensures.room c.keep.ensures.others
    c.args.event (act.Binary c.args.op c.args.kind c.args.left.now c.args.right.now) refl refl
    (worked m (nodes.operated c.args.op c.args.kind (integer_of (given_by m c.args.left.now)) (integer_of (given_by m c.args.right.now)))
    c.in_ok-number.number can (sym (c.in_ok-number.ensures ∙ both))
    ∙ ap (λ (x : ℤ). Done (model.Int x) m.items (store_in m)) (sym value))
    (int_of m.memory (kept.Int (to_z w128 (of_z w128 c.in_ok-number.number))) (to_z w128 (of_z w128 c.in_ok-number.number)) refl) (keeps_none m.memory)

pub returns-clause-changes : goal.returns-clause-changes
returns-clause-changes c =
    let m = c.args.machine.now in
    room_changes m m.memory m.items m.spare c.keep.new.self c.args.event.node (kept.Int (to_z w128 (of_z w128 c.in_ok-number.number)))
    c.keep.ensures.rest c.keep.ensures.room c.keep.ensures.others
    (act.Binary c.args.op c.args.kind c.args.left.now c.args.right.now)

pub returns-in_err-number-clause-rows : goal.returns-in_err-number-clause-rows
returns-in_err-number-clause-rows c = rows_same c.from_residual.result c.args.machine.now.memory
