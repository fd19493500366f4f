use Rattle.std.proofs.Common.{◌≡◌, ◌-◌, ◌+◌, ◌∙◌, ap, sym, Option, Some, arith, ℕ}
use Rattle.addr_map.specs.declared.map.Row.{Row}
use Rattle.addr_map.specs.Rows.{row_of}
use Rattle.mem_spec.specs.Acts.{size_in}
use Rattle.libc_arguments.specs.Parts.{byte_at, string_size}
use Rattle.libc_arguments.proofs.Checking.{more_by, more_none, size_goes_on, size_here, size_ends}
use Rattle.libc_arguments.proofs.arguments.string_size.Goals as goal

pub loop-at-init : goal.loop-at-init
loop-at-init c =
    let none : c.args.from - c.args.from ≡ 0 = omega arith in
    ap (λ (d : ℕ). more_by d (string_size (byte_at c.args.m.now c.args.object) (c.in_ok-row.row.size - c.args.from) c.args.from)) none ∙ more_none
    (string_size (byte_at c.args.m.now c.args.object) (c.in_ok-row.row.size - c.args.from) c.args.from)

pub returns-then-is_zero-clause-size : goal.returns-then-is_zero-clause-size
returns-then-is_zero-clause-size c =
    let row : Some c.in_ok-row.row ≡ row_of c.args.m.now.rows c.args.object = c.in_ok-row.ensures.row in
    let size : c.saturating_add.result ≡ c.loop-at.at - c.args.from + 1 = omega arith in
    ap Some size
    ∙ sym (size_here (byte_at c.args.m.now c.args.object) c.in_ok-row.row.size c.args.from c.loop-at.at
    (string_size (byte_at c.args.m.now c.args.object) (c.in_ok-row.row.size - c.args.from) c.args.from) c.loop-at-test.true
    (sym c.is_zero.ensures ∙ c.if-is_zero.true) c.loop-at.invariant)
    ∙ ap (λ (o : Option Row). string_size (byte_at c.args.m.now c.args.object) (size_in o - c.args.from) c.args.from) row

pub loop-at-preserved : goal.loop-at-preserved
loop-at-preserved c =
    size_goes_on (byte_at c.args.m.now c.args.object) c.in_ok-row.row.size c.args.from c.loop-at.at
    (string_size (byte_at c.args.m.now c.args.object) (c.in_ok-row.row.size - c.args.from) c.args.from) c.loop-at.auto.at c.loop-at-test.true
    (sym c.is_zero.ensures ∙ c.if-is_zero.false) c.loop-at.invariant

pub returns-clause-size : goal.returns-clause-size
returns-clause-size c =
    let row : Some c.in_ok-row.row ≡ row_of c.args.m.now.rows c.args.object = c.in_ok-row.ensures.row in
    sym (size_ends (byte_at c.args.m.now c.args.object) c.in_ok-row.row.size c.args.from c.loop-at.at
    (string_size (byte_at c.args.m.now c.args.object) (c.in_ok-row.row.size - c.args.from) c.args.from) c.loop-at-test.false c.loop-at.invariant)
    ∙ ap (λ (o : Option Row). string_size (byte_at c.args.m.now c.args.object) (size_in o - c.args.from) c.args.from) row
