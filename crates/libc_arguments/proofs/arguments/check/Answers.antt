use Rattle.std.proofs.Common.{◌≤◌, true, arith, subst, Option}
use Rattle.std.proofs.lemmas.Result.{err_from_is_err_and}
use Rattle.mem_spec.specs.Acts.{argument_object}
use Rattle.ub_base.specs.declared.names.ObjName.{ObjName}
use Rattle.libc_arguments.specs.Parts.{Gives}
use Rattle.libc_arguments.proofs.Checking.{no_object, open_object, no_range, one_range, grows_by}
use Rattle.libc_arguments.proofs.arguments.check.Goals as goal

pub returns-in_err-object-clause-follows : goal.returns-in_err-object-clause-follows
returns-in_err-object-clause-follows c =
    let some : 1 ≤ c.args.pointer.addr = omega arith in
    let p = err_from_is_err_and c.from_residual.result c.from_residual.ensures.1 in
    rw (p.1, p.2) (λ io cell. no_object c.args.m.now io c.args.t.now c.object_of.new.t c.object_of.new.t c.args.len c.args.pointer.addr c.args.pointer.prov
    c.in_err-object.field-0.0 some (c.in_err-object.ensures io cell))

pub returns-in_default-clause-follows : goal.returns-in_default-clause-follows
returns-in_default-clause-follows c =
    let some : 1 ≤ c.args.pointer.addr = omega arith in
    λ io cell. open_object c.args.m.now io c.args.t.now c.object_of.new.t c.args.len c.args.pointer.addr c.args.pointer.prov some
    (subst (λ (o : Option ObjName). Gives true (Option ObjName) c.args.m.now io c.args.t.now c.object_of.new.t
    (argument_object c.args.m.now.rows c.args.len c.args.pointer.addr c.args.pointer.prov) o) c.in_default.is (c.in_ok-object.ensures io cell))

pub returns-in_err-range-clause-follows : goal.returns-in_err-range-clause-follows
returns-in_err-range-clause-follows c =
    let some : 1 ≤ c.args.pointer.addr = omega arith in
    let p = err_from_is_err_and c.from_residual-in_err-range.result c.from_residual-in_err-range.ensures.1 in
    rw (p.1, p.2) (λ io cell. no_range c.args.m.now io c.args.t.now c.object_of.new.t c.range_of.new.t c.range_of.new.t c.args.len c.args.pointer.addr
    c.args.pointer.prov c.in-Some.object c.in_err-range.field-0.0 some
    (subst (λ (o : Option ObjName). Gives true (Option ObjName) c.args.m.now io c.args.t.now c.object_of.new.t
    (argument_object c.args.m.now.rows c.args.len c.args.pointer.addr c.args.pointer.prov) o) c.in-Some.is (c.in_ok-object.ensures io cell))
    (c.in_err-range.ensures.follows io))

pub returns-clause-follows : goal.returns-clause-follows
returns-clause-follows c =
    let some : 1 ≤ c.args.pointer.addr = omega arith in
    λ io cell. one_range c.args.m.now io c.args.t.now c.object_of.new.t c.range_of.new.t c.args.len c.args.pointer.addr c.args.pointer.prov c.in-Some.object
    c.in_ok-range.range some (subst (λ (o : Option ObjName). Gives true (Option ObjName) c.args.m.now io c.args.t.now c.object_of.new.t
    (argument_object c.args.m.now.rows c.args.len c.args.pointer.addr c.args.pointer.prov) o) c.in-Some.is (c.in_ok-object.ensures io cell))
    (c.in_ok-range.ensures.follows io)

pub returns-clause-grows : goal.returns-clause-grows
returns-clause-grows c = λ io cell.
    grows_by true (Option ObjName) c.args.m.now io c.args.t.now c.object_of.new.t c.range_of.new.t
    (argument_object c.args.m.now.rows c.args.len c.args.pointer.addr c.args.pointer.prov) c.in_ok-object.field-0 _
    (c.in_ok-object.ensures io cell) c.in_ok-range.ensures.items
