use Rattle.std.proofs.Common.{◌∙◌, ℕ, Vec, Global, to_z, of_z, ap, ap₂, rules}
use Rattle.std.specs.Int.{w128}
use Rattle.std.proofs.lemmas.Int.{to_z-of_z}
use Rattle.std.proofs.lemmas.Result.{err_from_is_err_and}
use Rattle.mem_objects.specs.declared.value.Value.TheVariants.{Int}
use Rattle.libc_spec.specs.Library.{number, order_of}
use Rattle.libc_arguments.proofs.Listing.{short_range, no_first_range, no_second_range, no_first_bytes, no_second_bytes, both_compared}
use Rattle.libc_strings.proofs.ranges.order_of_ranges.Goals as goal

pub returns-in_err-a-clause-tells : goal.returns-in_err-a-clause-tells
returns-in_err-a-clause-tells c =
    let p = err_from_is_err_and c.from_residual.result c.from_residual.ensures.1 in
    rw (p.1, p.2) (λ io one two. no_first_range c.args.m.now io c.args.t.now c.check.new.t c.check.new.t c.args.first.addr c.args.first.prov
    c.args.second.addr c.args.second.prov c.args.len c.in_err-a.field-0.0 (c.in_err-a.ensures.follows io one))

pub returns-in_err-b-clause-tells : goal.returns-in_err-b-clause-tells
returns-in_err-b-clause-tells c =
    let p = err_from_is_err_and c.from_residual-in_err-b.result c.from_residual-in_err-b.ensures.1 in
    rw (p.1, p.2) (λ io one two. no_second_range c.args.m.now io c.args.t.now c.check.new.t c.check-2.new.t c.check-2.new.t c.args.first.addr
    c.args.first.prov c.args.second.addr c.args.second.prov c.args.len c.in_ok-a.a c.in_err-b.field-0.0 (c.in_ok-a.ensures.follows io one)
    (c.in_err-b.ensures.follows io two))

pub returns-in_err-x-clause-tells : goal.returns-in_err-x-clause-tells
returns-in_err-x-clause-tells c =
    let p = err_from_is_err_and c.from_residual-in_err-x.result c.from_residual-in_err-x.ensures.1 in
    rw (p.1, p.2) (λ io one two. no_first_bytes (λ (v : Vec ℕ Global). v.items) c.args.m.now io c.args.t.now c.check.new.t c.check-2.new.t c.read_if.new.t
    c.read_if.new.t c.args.first.addr c.args.first.prov c.args.second.addr c.args.second.prov c.args.len c.in_ok-a.a c.in_ok-b.b c.in_err-x.field-0.0
    c.in_ok-a.ensures.range (c.in_ok-a.ensures.follows io one) (c.in_ok-b.ensures.follows io two)
    (c.in_err-x.ensures (short_range c.args.len c.in_ok-a.a c.in_ok-a.ensures.range)))

pub returns-in_err-y-clause-tells : goal.returns-in_err-y-clause-tells
returns-in_err-y-clause-tells c =
    let p = err_from_is_err_and c.from_residual-in_err-y.result c.from_residual-in_err-y.ensures.1 in
    rw (p.1, p.2) (λ io one two. no_second_bytes (λ (v : Vec ℕ Global). v.items) c.in_ok-x.x c.args.m.now io c.args.t.now c.check.new.t c.check-2.new.t
    c.read_if.new.t c.read_if-2.new.t c.read_if-2.new.t c.args.first.addr c.args.first.prov c.args.second.addr c.args.second.prov c.args.len c.in_ok-a.a
    c.in_ok-b.b c.in_err-y.field-0.0 c.in_ok-a.ensures.range c.in_ok-b.ensures.range (c.in_ok-a.ensures.follows io one) (c.in_ok-b.ensures.follows io two)
    (c.in_ok-x.ensures (short_range c.args.len c.in_ok-a.a c.in_ok-a.ensures.range))
    (c.in_err-y.ensures (short_range c.args.len c.in_ok-b.b c.in_ok-b.ensures.range)))

pub returns-clause-tells : goal.returns-clause-tells
returns-clause-tells c = λ io one two.
    both_compared (λ (v : Vec ℕ Global). v.items) c.in_ok-x.x c.in_ok-y.y (Int (to_z w128 (of_z w128 c.order_of.result))) c.args.m.now io c.args.t.now
    c.check.new.t c.check-2.new.t c.read_if.new.t c.read_if-2.new.t c.args.first.addr c.args.first.prov c.args.second.addr c.args.second.prov c.args.len
    c.in_ok-a.a c.in_ok-b.b c.in_ok-a.ensures.range c.in_ok-b.ensures.range (c.in_ok-a.ensures.follows io one) (c.in_ok-b.ensures.follows io two)
    (c.in_ok-x.ensures (short_range c.args.len c.in_ok-a.a c.in_ok-a.ensures.range))
    (c.in_ok-y.ensures (short_range c.args.len c.in_ok-b.b c.in_ok-b.ensures.range))
    (ap number (to_z-of_z w128 c.order_of.result (search rules) ∙ c.order_of.ensures ∙ ap₂ order_of c.as_slice.ensures.value c.as_slice-2.ensures.value))
