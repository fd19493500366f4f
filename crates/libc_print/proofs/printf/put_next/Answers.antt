use Rattle.std.proofs.Common.{List, Ok, Err, ℕ, refl, sym, subst}
use Rattle.std.proofs.lemmas.Result.{err_from_is_err_and}
use Rattle.libc_spec.specs.Print.{step}
use Rattle.libc_print.specs.Seen.{left}
use Rattle.libc_directives.specs.Seen.{directive_seen}
use Rattle.libc_print.specs.Answers.{Steps}
use Rattle.libc_directives.specs.Answers.{answer_of}
use Rattle.libc_print.proofs.Stepping.{steps_refused, steps_byte}
use Rattle.libc_print.proofs.Running.{steps_run, steps_pointed}
use Rattle.libc_print.proofs.printf.put_next.Goals as goal

pub returns-then-byte-ne37-clause-exact : goal.returns-then-byte-ne37-clause-exact
returns-then-byte-ne37-clause-exact c = λ io cells.
    steps_run (Ok 0) c.args.m.now io c.args.t.now c.args.t.now c.args.out.now.items c.put_one.new.out.items (left c.args.args.now)
    (step c.args.m.now.rows c.args.byte c.args.cs.now c.args.at (left c.args.args.now)) refl
    (subst (λ (l : List ℕ). Steps (Ok 0) c.args.out.now.items l (left c.args.args.now)
    (step c.args.m.now.rows c.args.byte c.args.cs.now c.args.at (left c.args.args.now))) (sym c.in_ok-put_one.ensures)
    (steps_byte c.args.m.now.rows c.args.byte c.args.at c.args.cs.now c.args.out.now.items (left c.args.args.now) c.if-byte-ne37.true))

pub returns-in_err-directive-clause-exact : goal.returns-in_err-directive-clause-exact
returns-in_err-directive-clause-exact c =
    let p = err_from_is_err_and c.from_residual-in_err-directive.result c.from_residual-in_err-directive.ensures.1 in
    rw (p.1, p.2) (λ io cells.
    steps_run (Err (answer_of c.in_err-directive.field-0.0)) c.args.m.now io c.args.t.now c.args.t.now c.args.out.now.items c.args.out.now.items
    (left c.args.args.now) (step c.args.m.now.rows c.args.byte c.args.cs.now c.args.at (left c.args.args.now)) refl
    (steps_refused c.in_err-directive.field-0.0 c.args.m.now.rows c.args.byte c.args.at c.args.cs.now c.args.out.now.items c.args.out.now.items
    (left c.args.args.now) (left c.args.args.now) c.if-byte-ne37.false c.in_err-directive.ensures.form))

pub returns-in_err-put_directive-clause-exact : goal.returns-in_err-put_directive-clause-exact
returns-in_err-put_directive-clause-exact c =
    let p = err_from_is_err_and c.from_residual-in_err-put_directive.result c.from_residual-in_err-put_directive.ensures.1 in
    rw (p.1, p.2) (λ io cells.
    steps_pointed (Err c.in_err-put_directive.field-0.0) c.args.m.now io c.args.t.now c.put_directive.new.t c.args.byte c.args.at c.args.cs.now
    c.args.out.now.items c.put_directive.new.out.items (left c.args.args.now) (left c.put_directive.new.args) (directive_seen c.in_ok-directive.directive)
    c.if-byte-ne37.false c.in_ok-directive.ensures.form (c.in_err-put_directive.ensures.exact io cells))

pub returns-clause-exact : goal.returns-clause-exact
returns-clause-exact c = λ io cells.
    steps_pointed (Ok tt) c.args.m.now io c.args.t.now c.put_directive.new.t c.args.byte c.args.at c.args.cs.now c.args.out.now.items
    c.put_directive.new.out.items (left c.args.args.now) (left c.put_directive.new.args) (directive_seen c.in_ok-directive.directive)
    c.if-byte-ne37.false c.in_ok-directive.ensures.form (c.in_ok-put_directive.ensures.exact io cells)
