use Rattle.std.proofs.Common.{◌≡◌, ◌-◌, ◌+◌, ◌∙◌, ap, sym, arith, ℕ}
use Rattle.libc_arguments.specs.Parts.{byte_at, string_size}
use Rattle.libc_arguments.proofs.Checking.{more_by, more_none, size_goes_on, size_here, size_ends}
use Rattle.libc_print.proofs.strings.zero_within.Goals as goal

pub loop-at-init : goal.loop-at-init
loop-at-init c =
    let none : c.args.from - c.args.from ≡ 0 = omega arith in
    ap (λ (d : ℕ). more_by d (string_size (byte_at c.args.m.now c.args.object) (c.args.from + c.args.count - c.args.from) c.args.from)) none ∙ more_none
    (string_size (byte_at c.args.m.now c.args.object) (c.args.from + c.args.count - c.args.from) c.args.from)

pub returns-then-is_zero-clause-size : goal.returns-then-is_zero-clause-size
returns-then-is_zero-clause-size c =
    let all : c.args.from + c.args.count - c.args.from ≡ c.args.count = omega arith in
    sym (size_here (byte_at c.args.m.now c.args.object) (c.args.from + c.args.count) c.args.from c.loop-at.at
    (string_size (byte_at c.args.m.now c.args.object) (c.args.from + c.args.count - c.args.from) c.args.from) c.loop-at-test.true
    (sym c.is_zero.ensures ∙ c.if-is_zero.true) c.loop-at.invariant)
    ∙ ap (λ (n : ℕ). string_size (byte_at c.args.m.now c.args.object) n c.args.from) all

pub loop-at-preserved : goal.loop-at-preserved
loop-at-preserved c =
    size_goes_on (byte_at c.args.m.now c.args.object) (c.args.from + c.args.count) c.args.from c.loop-at.at
    (string_size (byte_at c.args.m.now c.args.object) (c.args.from + c.args.count - c.args.from) c.args.from) c.loop-at.auto.at c.loop-at-test.true
    (sym c.is_zero.ensures ∙ c.if-is_zero.false) c.loop-at.invariant

pub returns-clause-size : goal.returns-clause-size
returns-clause-size c =
    let all : c.args.from + c.args.count - c.args.from ≡ c.args.count = omega arith in
    sym (size_ends (byte_at c.args.m.now c.args.object) (c.args.from + c.args.count) c.args.from c.loop-at.at
    (string_size (byte_at c.args.m.now c.args.object) (c.args.from + c.args.count - c.args.from) c.args.from) c.loop-at-test.false c.loop-at.invariant)
    ∙ ap (λ (n : ℕ). string_size (byte_at c.args.m.now c.args.object) n c.args.from) all
