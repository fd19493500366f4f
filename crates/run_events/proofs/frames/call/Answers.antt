use Rattle.std.proofs.Common.{◌∙◌, Some, None, Err}
use Rattle.std.proofs.lemmas.Option.{slice_get_within}
use Rattle.std.proofs.lemmas.Result.{err_from_is_err_and}
use Rattle.c_types.specs.Types.{signature_of}
use Rattle.c_model.specs.Steps.{function_of}
use Rattle.run_acts.specs.Calls.{type_by}
use Rattle.run_answers.specs.declared.fault.Fault.TheVariants as fault
use Rattle.run_answers.specs.Performs.{store_in}
use Rattle.run_events.proofs.Called.{by_type, library_is, no_type, refused, runs_by, runs_found}
use Rattle.run_events.proofs.Rooms.{written_none}
use Rattle.run_events.proofs.frames.call.Goals as goal

pub returns-in_default-clause-calls : goal.returns-in_default-clause-calls
returns-in_default-clause-calls c = λ fs agree h few are agrees given.
    no_type c.args.machine.now c.args.call.now.arguments.items c.args.call.now.types c.args.event agree c.args.call.now.ty _ c.in_default.not-Some

pub returns-in_err-number-clause-calls : goal.returns-in_err-number-clause-calls
returns-in_err-number-clause-calls c =
    let p = err_from_is_err_and c.from_residual.result c.from_residual.ensures.1 in
    rw (p.1, p.2) (λ fs agree h few are agrees given.
    let m = c.args.machine.now in
    let ty = c.in-Some.ty in
    by_type m c.args.call.now.arguments.items c.args.call.now.types c.args.event m (Err (fault.Raise c.in_err-number.field-0.0)) agree c.args.call.now.ty ty fs
    c.designated-address.result _ c.in-Some.is
    (c.designated-address.ensures h given m.memory)
    (refused m c.args.call.now.arguments.items c.args.call.now.types c.args.event agree (type_by (signature_of ty.now))
    (function_of fs 0 c.designated-address.result)
    c.in_err-number.field-0.0 m.memory.rows (store_in m) (c.in_err-number.ensures.exact few fs are agree agrees m.memory.rows (store_in m))))

pub library_of-requires : goal.library_of-requires
library_of-requires c =
    let found = c.in_ok-number.ensures.callable in
    record { there = slice_get_within c.args.machine.now.program.now.functions c.in_ok-number.number found.0 found.1 }

pub returns-in-Some-library_of-clause-calls : goal.returns-in-Some-library_of-clause-calls
returns-in-Some-library_of-clause-calls c = λ fs agree h few are agrees given.
    let m = c.args.machine.now in
    let ty = c.in-Some.ty in
    let n = c.in_ok-number.number in
    by_type m c.args.call.now.arguments.items c.args.call.now.types c.args.event c.call_library.new.machine c.call_library.result agree c.args.call.now.ty ty fs
    c.designated-address.result _ c.in-Some.is (c.designated-address.ensures h given m.memory)
    (runs_found m c.args.call.now.arguments.items c.args.call.now.types c.args.event c.call_library.new.machine c.call_library.result agree
    (type_by (signature_of ty.now))
    (function_of fs 0 c.designated-address.result) n m.memory.rows (store_in m)
    (c.in_ok-number.ensures.exact few fs are agree agrees m.memory.rows (store_in m))
    (λ f found. runs_by m c.args.call.now.arguments.items c.args.call.now.types c.args.event c.call_library.new.machine c.call_library.result n
    (Some c.in-Some-library_of.library) f.library
    (c.in-Some-library_of.ensures ∙ library_is m.program.now.functions fs c.designated-address.result n f are found) c.call_library.ensures.library))

pub returns-in-None-clause-calls : goal.returns-in-None-clause-calls
returns-in-None-clause-calls c = λ fs agree h few are agrees given.
    let m = c.args.machine.now in
    let ty = c.in-Some.ty in
    let n = c.in_ok-number.number in
    by_type m c.args.call.now.arguments.items c.args.call.now.types c.args.event c.start_function.new.machine c.start_function.result agree c.args.call.now.ty
    ty fs
    c.designated-address.result _ c.in-Some.is (c.designated-address.ensures h given m.memory)
    (runs_found m c.args.call.now.arguments.items c.args.call.now.types c.args.event c.start_function.new.machine c.start_function.result agree
    (type_by (signature_of ty.now))
    (function_of fs 0 c.designated-address.result) n m.memory.rows (store_in m)
    (c.in_ok-number.ensures.exact few fs are agree agrees m.memory.rows (store_in m))
    (λ f found. runs_by m c.args.call.now.arguments.items c.args.call.now.types c.args.event c.start_function.new.machine c.start_function.result n None
    f.library
    (c.in-None.ensures ∙ library_is m.program.now.functions fs c.designated-address.result n f are found) c.start_function.ensures.opens))

pub returns-in-None-clause-streams : goal.returns-in-None-clause-streams
returns-in-None-clause-streams c =
    written_none c.args.machine.now c.start_function.new.machine c.start_function.result c.start_function.ensures.streams
