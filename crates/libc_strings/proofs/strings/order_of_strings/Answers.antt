use Rattle.std.proofs.Common.{◌≡◌, false, ◌∙◌, ℕ, ℤ, Vec, Global, to_z, of_z, ap₂, sym, subst, rules}
use Rattle.std.specs.Int.{w128}
use Rattle.std.proofs.lemmas.Int.{to_z-of_z}
use Rattle.std.proofs.lemmas.Result.{err_from_is_err_and}
use Rattle.libc_spec.specs.Library.{LibValue, number, order_of, strcmp}
use Rattle.libc_arguments.specs.Parts.{Gives}
use Rattle.libc_arguments.proofs.Finishing.{no_first, no_second, no_first_numbers, no_second_numbers, both_read}
use Rattle.libc_strings.proofs.strings.order_of_strings.Goals as goal

pub returns-in_err-a-clause-follows : goal.returns-in_err-a-clause-follows
returns-in_err-a-clause-follows c =
    let p = err_from_is_err_and c.from_residual.result c.from_residual.ensures.1 in
    rw (p.1, p.2) (λ io one two. no_first c.args.m.now io c.args.t.now c.check_string.new.t c.check_string.new.t c.args.first.addr c.args.first.prov
    c.args.second.addr c.args.second.prov c.in_err-a.field-0.0 (c.in_err-a.ensures.follows io one))

pub returns-in_err-b-clause-follows : goal.returns-in_err-b-clause-follows
returns-in_err-b-clause-follows c =
    let p = err_from_is_err_and c.from_residual-in_err-b.result c.from_residual-in_err-b.ensures.1 in
    rw (p.1, p.2) (λ io one two. no_second c.args.m.now io c.args.t.now c.check_string.new.t c.check_string-2.new.t c.check_string-2.new.t c.args.first.addr
    c.args.first.prov c.args.second.addr c.args.second.prov c.in_ok-a.a c.in_err-b.field-0.0 (c.in_ok-a.ensures.follows io one)
    (c.in_err-b.ensures.follows io two))

pub returns-in_err-x-clause-follows : goal.returns-in_err-x-clause-follows
returns-in_err-x-clause-follows c =
    let p = err_from_is_err_and c.from_residual-in_err-x.result c.from_residual-in_err-x.ensures.1 in
    rw (p.1, p.2) (λ io one two. no_first_numbers (λ (v : Vec ℕ Global). v.items) c.args.m.now io c.args.t.now c.check_string.new.t c.check_string-2.new.t
    c.numbers.new.t c.numbers.new.t c.args.first.addr c.args.first.prov c.args.second.addr c.args.second.prov c.in_ok-a.a c.in_ok-b.b c.in_err-x.field-0.0
    (c.in_ok-a.ensures.follows io one) (c.in_ok-b.ensures.follows io two) (c.in_err-x.ensures c.in_ok-a.ensures.short))

pub returns-in_err-y-clause-follows : goal.returns-in_err-y-clause-follows
returns-in_err-y-clause-follows c =
    let p = err_from_is_err_and c.from_residual-in_err-y.result c.from_residual-in_err-y.ensures.1 in
    rw (p.1, p.2) (λ io one two. no_second_numbers (λ (v : Vec ℕ Global). v.items) c.in_ok-x.x c.args.m.now io c.args.t.now c.check_string.new.t
    c.check_string-2.new.t c.numbers.new.t c.numbers-2.new.t c.numbers-2.new.t c.args.first.addr c.args.first.prov c.args.second.addr c.args.second.prov
    c.in_ok-a.a c.in_ok-b.b c.in_err-y.field-0.0 (c.in_ok-a.ensures.follows io one) (c.in_ok-b.ensures.follows io two)
    (c.in_ok-x.ensures c.in_ok-a.ensures.short) (c.in_err-y.ensures c.in_ok-b.ensures.short))

pub returns-clause-follows : goal.returns-clause-follows
returns-clause-follows c = λ io one two.
    let value : to_z w128 (of_z w128 c.order_of.result) ≡ c.order_of.result = to_z-of_z w128 c.order_of.result (search rules) in
    subst (λ (z : ℤ). Gives false LibValue c.args.m.now io c.args.t.now c.numbers-2.new.t
    (strcmp c.args.m.now.rows c.args.first.addr c.args.first.prov c.args.second.addr c.args.second.prov) (number z))
    (sym (value ∙ c.order_of.ensures ∙ ap₂ order_of c.as_slice.ensures.value c.as_slice-2.ensures.value))
    (both_read (λ (v : Vec ℕ Global). v.items) c.in_ok-x.x c.in_ok-y.y c.args.m.now io c.args.t.now c.check_string.new.t c.check_string-2.new.t
    c.numbers.new.t c.numbers-2.new.t c.args.first.addr c.args.first.prov c.args.second.addr c.args.second.prov c.in_ok-a.a c.in_ok-b.b
    (c.in_ok-a.ensures.follows io one) (c.in_ok-b.ensures.follows io two) (c.in_ok-x.ensures c.in_ok-a.ensures.short)
    (c.in_ok-y.ensures c.in_ok-b.ensures.short))
