use Rattle.std.proofs.Common.{◌≡◌, ◌∙◌, ℕ, ◌<◌, ◌≤◌, sym, ap, arith, length, [], Option, Some, get_or, rules}
use Rattle.std.specs.Prelude.{Result}
use Rattle.std.proofs.lemmas.Option.{slice_get-get_or}
use Rattle.std.proofs.lemmas.Result.{err_from_is_err_and}
use Rattle.ub_base.specs.declared.clause.Clause.{Clause}
use Rattle.c_types.specs.Types.{signature_of}
use Rattle.mem_spec.specs.Script.{run}
use Rattle.mem_objects.specs.Memory.{act_of}
use Rattle.c_model.specs.Program.{Function as Called}
use Rattle.run_acts.specs.Calls.{checked_call, type_by}
use Rattle.run_acts.proofs.CallLemmas.{none_found, none_behind, same_length, call_of, numbered, checks_pass}
use Rattle.run_acts.proofs.calls.callee.Goals as goal

pub returns-in_default-clause-exact : goal.returns-in_default-clause-exact
returns-in_default-clause-exact c = λ few fs are agree agrees rows s.
    let none = none_found fs 0 c.args.addr (λ n lt at.
    c.in_default.ensures.none n (omega (arith, lt, few, same_length c.args.p.now.functions fs are)) at) in
    ap (λ (o : Option (ℕ × Called)). run rows (checked_call agree (type_by (signature_of c.args.ty.now)) o) s) none

pub returns-in_default-get-clause-exact : goal.returns-in_default-get-clause-exact
returns-in_default-get-clause-exact c = λ few fs are agree agrees rows s.
    let end : length c.args.p.now.functions ≤ c.in-Some.number = search rules in
    let none = none_behind c.args.p.now.functions fs c.in-Some.number c.args.addr are end c.in-Some.ensures.some in
    ap (λ (o : Option (ℕ × Called)). run rows (checked_call agree (type_by (signature_of c.args.ty.now)) o) s) none

pub returns-in_err-check_call-clause-exact : goal.returns-in_err-check_call-clause-exact
returns-in_err-check_call-clause-exact c = λ few fs are agree agrees rows s.
    let e = err_from_is_err_and c.from_residual.result c.from_residual.ensures.1 in
    let n = c.in-Some.number in
    let lt : c.in-Some.number < length c.args.p.now.functions = search rules in
    let is : c.in-Some-get.function.now ≡ get_or c.args.p.now.functions c.in-Some.number c.in-Some-get.function.now = search rules in
    rw (e.1, e.2) (call_of c.args.p.now.functions fs c.in-Some-get.function.now n c.args.addr (signature_of c.args.ty.now)
    agree rows s are agrees lt is c.in-Some.ensures.some
    ∙ ap (λ (r : Result (Unit {0}) Clause). act_of (numbered n r) [] s) (sym c.in_err-check_call.ensures))

pub returns-clause-exact : goal.returns-clause-exact
returns-clause-exact c = λ few fs are agree agrees rows s.
    let n = c.in-Some.number in
    let lt : c.in-Some.number < length c.args.p.now.functions = search rules in
    let is : c.in-Some-get.function.now ≡ get_or c.args.p.now.functions c.in-Some.number c.in-Some-get.function.now = search rules in
    call_of c.args.p.now.functions fs c.in-Some-get.function.now n c.args.addr (signature_of c.args.ty.now) agree rows s are agrees lt is c.in-Some.ensures.some
    ∙ ap (λ (r : Result (Unit {0}) Clause). act_of (numbered n r) [] s) (sym c.in_ok-check_call.ensures)

pub returns-clause-callable : goal.returns-clause-callable
returns-clause-callable c =
    let fs = c.args.p.now.functions in
    let f = c.in-Some-get.function.now in
    let lt : c.in-Some.number < length fs = search rules in
    let is : f ≡ get_or fs c.in-Some.number f = search rules in
    (f, slice_get-get_or fs c.in-Some.number f lt ∙ ap Some (sym is), checks_pass _ _ c.in_ok-check_call.ensures)
