use Rattle.std.proofs.Common.{arith, ◌≡◌, ◌∙◌, sym}
use Rattle.first_form.proofs.Constants.{constant_is_text, constant_is_read, constant_is_not_refused, constant_is_written}
use Rattle.first_form.proofs.spell.constant.Goals as goal
use Rattle.first_form.proofs.spell.constant.Goals.{else-n-le-MAX_INT-via-then-n-le-MAX_INT+else-eq, else-n-le-MAX_INT-via-else-n-le-MAX_INT}

pub returns-in_default-clause-none : goal.returns-in_default-clause-none
returns-in_default-clause-none c = λ n k. c.in_default.ensures.cases.0 (constant_is_text _ n k)

pub returns-in_default-parse-clause-none : goal.returns-in_default-parse-clause-none
returns-in_default-parse-clause-none c = λ n k.
    constant_is_not_refused _ _ n _ _ c.in-Ok.ensures.cases.0 c.parse.ensures.value.0 c.in_default-parse.is k

pub returns-else-n-le-MAX_INT-clause-none : goal.returns-else-n-le-MAX_INT-clause-none
returns-else-n-le-MAX_INT-clause-none c = λ n k.
    let same : c.in-Ok-parse.n ≡ n = constant_is_read _ _ n _ _ c.in-Ok.ensures.cases.0 c.parse.ensures.value.0 c.in-Ok-parse.is k in
    elim c.else-n-le-MAX_INT.branch [
      | else-n-le-MAX_INT-via-then-n-le-MAX_INT+else-eq w ↦
          constant_is_written _ _ n _ k same (w.as_bytes.ensures.value ∙ w.format.ensures.text) (sym w.eq.ensures ∙ w.if-eq.false)
      | else-n-le-MAX_INT-via-else-n-le-MAX_INT w ↦ omega (arith, k.small)
    ]
