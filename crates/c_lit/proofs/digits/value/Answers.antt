use Rattle.std.proofs.Common.{◌+◌, ◌*◌, ◌≤◌, subst}
use Rattle.c_lit.proofs.Numbers.{passed}
use Rattle.c_lit.proofs.digits.value.Goals as goal

pub returns-in-None-clause-none : goal.returns-in-None-clause-none
returns-in-None-clause-none c =
    passed c.args.radix c.loop-d.number c.loop-d.d-index _ _ c.args.digits.now c.loop-d-test.true c.loop-d.invariant c.requires
    (subst (λ d. 18446744073709551616 ≤ c.loop-d.number * c.args.radix + d) c.digit_value.ensures.value c.in-None.ensures.none)
