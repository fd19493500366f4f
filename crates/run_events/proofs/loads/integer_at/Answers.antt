use Rattle.std.proofs.Common.{◌≡◌, ◌∙◌, refl, sym, ap, ℤ, to_z, of_z, rules}
use Rattle.std.specs.Int.{w128}
use Rattle.std.proofs.lemmas.Int.{to_z-of_z}
use Rattle.std.proofs.lemmas.Result.{err_from_is_err_and}
use Rattle.mem_spec.specs.Acts.{load_int}
use Rattle.mem_spec.specs.Script.{Done, Raised}
use Rattle.mem_objects.specs.Memory.{store_of}
use Rattle.mem_objects.specs.declared.value.Value.TheVariants as kept
use Rattle.c_model.specs.Values as model
use Rattle.run_acts.specs.Loads.{integer_act}
use Rattle.run_values.specs.Views.{pointer_at}
use Rattle.run_acts.proofs.Acts.{done_give, raised_give}
use Rattle.run_answers.specs.Acts.{script_in}
use Rattle.run_answers.specs.Performs.{store_in}
use Rattle.run_answers.proofs.Doing.{by_script, rows_kept}
use Rattle.run_events.proofs.Rooms.{room_changes, room_done, touches_all}
use Rattle.run_events.proofs.Valued.{int_of}
use Rattle.run_events.proofs.loads.integer_at.Goals as goal

pub returns-in_err-number-clause-exact : goal.returns-in_err-number-clause-exact
returns-in_err-number-clause-exact c =
    let p = err_from_is_err_and c.from_residual.result c.from_residual.ensures.1 in
    rw (p.1, p.2) (λ can has a none same.
    let m = c.args.machine.now in
    let q = c.args.place in
    by_script m (integer_act m.memory.rows c.args.kind (pointer_at q)) (script_in m.memory.rows m c.args.event a) (Raised c.in_err-number.field-0.0)
    (sym same)
    (raised_give m.memory.rows (load_int m.memory.rows c.args.kind q.addr q.prov) model.Int (store_in m) c.in_err-number.field-0.0
    (c.in_err-number.ensures.raises m.streams)))

pub returns-in_err-number-clause-changes : goal.returns-in_err-number-clause-changes
returns-in_err-number-clause-changes c = λ a.
    let m = c.args.machine.now in
    touches_all m (record m { memory = c.load_int.new.self; items = c.load_int.new.t }) c.args.event.node a refl

pub returns-clause-exact : goal.returns-clause-exact
returns-clause-exact c = λ can has a none same.
    let m = c.args.machine.now in
    let q = c.args.place in
    let value : to_z w128 (of_z w128 c.in_ok-number.number) ≡ c.in_ok-number.number = to_z-of_z w128 c.in_ok-number.number (search rules) in
    room_done m c.load_int.new.self c.load_int.new.t m.spare c.keep.new.self c.args.event.node (kept.Int (to_z w128 (of_z w128 c.in_ok-number.number)))
    c.keep.ensures.rest c.keep.ensures.room c.keep.ensures.others
    c.args.event a refl none
    (by_script m (integer_act m.memory.rows c.args.kind (pointer_at q)) (script_in m.memory.rows m c.args.event a) _ (sym same)
    (done_give m.memory.rows (load_int m.memory.rows c.args.kind q.addr q.prov) model.Int (store_in m) (store_of c.load_int.new.self m.streams)
    c.in_ok-number.number c.load_int.new.t (c.in_ok-number.ensures.exact has m.streams)
    ∙ ap (λ (z : ℤ). Done (model.Int z) c.load_int.new.t (store_of c.load_int.new.self m.streams)) (sym value)))
    (int_of c.load_int.new.self (kept.Int (to_z w128 (of_z w128 c.in_ok-number.number))) (to_z w128 (of_z w128 c.in_ok-number.number)) refl)
    c.in_ok-number.ensures.kept

pub returns-clause-changes : goal.returns-clause-changes
returns-clause-changes c = λ a.
    room_changes c.args.machine.now c.load_int.new.self c.load_int.new.t c.args.machine.now.spare c.keep.new.self c.args.event.node
    (kept.Int (to_z w128 (of_z w128 c.in_ok-number.number))) c.keep.ensures.rest c.keep.ensures.room c.keep.ensures.others a

pub returns-in_err-number-clause-rows : goal.returns-in_err-number-clause-rows
returns-in_err-number-clause-rows c = rows_kept c.from_residual.result c.args.machine.now.memory c.load_int.new.self c.in_err-number.ensures.kept
