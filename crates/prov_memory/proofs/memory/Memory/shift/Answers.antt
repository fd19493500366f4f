use Rattle.std.proofs.Common.{◌≡◌, ◌∙◌, ap, sym, ℕ, ℤ, pos, ◌+ℤ◌, to_z, of_z, to_z-of_z}
use Rattle.std.specs.Int.{w128}
use Rattle.std.specs.Prelude.{Result}
use Rattle.ub_base.specs.declared.clause.Clause.{Clause}
use Rattle.mem_objects.specs.Memory.{act_of, store_of}
use Rattle.mem_objects.specs.Made.{address_result, shift_settling}
use Rattle.mem_objects.proofs.SettleLemmas.{shift_done, shift_raised, err_is}
use Rattle.mem_objects.proofs.SoundLemmas.{settled_sound}
use Rattle.prov_memory.proofs.KeepLemmas.{keeps_none}
use Rattle.prov_memory.proofs.memory.Memory.shift.Goals as goal

pub returns-in_err-settles-clause-exact : goal.returns-in_err-settles-clause-exact
returns-in_err-settles-clause-exact c = λ made io.
    let by : to_z w128 (of_z w128 c.args.by) ≡ c.args.by = to_z-of_z c.ranges.by in
    shift_raised c.args.self.now c.args.addr c.args.prov c.args.by c.shifted.result c.in_err-settles.field-0.0
    (c.shifted.ensures.settling ∙ ap (λ (z : ℤ). shift_settling c.args.self.now.rows c.args.self.now.cells (pos c.args.addr +ℤ z) c.args.prov) by)
    c.in_err-settles.was io
    ∙ ap (λ (r : Result ℕ Clause). act_of (address_result r) c.clear.new.self (store_of c.args.self.now io))
    (sym (err_is c.from_residual.result c.in_err-settles.field-0.0 c.from_residual.ensures.1))

pub returns-clause-exact : goal.returns-clause-exact
returns-clause-exact c = λ made io.
    let by : to_z w128 (of_z w128 c.args.by) ≡ c.args.by = to_z-of_z c.ranges.by in
    shift_done c.args.self.now c.note_settled.new.self c.args.addr c.moved.result c.args.prov c.args.by c.shifted.result c.in_ok-settles.settles
    c.clear.new.self c.note_settled.new.t c.note_settled.ensures.rest
    (c.shifted.ensures.settling ∙ ap (λ (z : ℤ). shift_settling c.args.self.now.rows c.args.self.now.cells (pos c.args.addr +ℤ z) c.args.prov) by)
    c.in_ok-settles.was made (c.moved.ensures ∙ ap (λ (z : ℤ). pos c.args.addr +ℤ z) by) c.clear.ensures c.note_settled.ensures.items
    c.note_settled.ensures.store io

pub returns-clause-sound : goal.returns-clause-sound
returns-clause-sound c = settled_sound c.args.self.now c.note_settled.new.self c.note_settled.ensures.rest c.note_settled.ensures.cells

pub returns-in_err-settles-clause-kept : goal.returns-in_err-settles-clause-kept
returns-in_err-settles-clause-kept c = keeps_none c.args.self.now
