-- One more frame is numbered, or all of them.
use Rattle.std.proofs.Common.{◌≡◌, ◌∙◌, ◌+◌, ◌-◌, suc, Some, false, ap, arith, get_or, length, slice_get, subst, sym, rules}
use Rattle.std.proofs.lemmas.Grind.{common_steps}
use Rattle.certificate_making.specs.Marking.{is_marked}
use Rattle.certificate_making.specs.Numbering.{IsKept, IsNumbered, frame_at, number}
use Rattle.certificate_making.proofs.Numbers.{numbers_more}
use Rattle.certificate_making.proofs.number.numbered.Goals as goal

pub loop-at-preserved : goal.loop-at-preserved
loop-at-preserved c =
    let rows = c.args.frames.now in
    let marks = c.args.marks.now in
    let at = c.loop-at.at in
    let kept = c.loop-at.kept in
    let now = c.kept_number.new.kept in
    let numbers = c.loop-at.numbers.items in
    let row = c.row-turn.result in
    let f = c.in_ok-kept_number.field-0 in
    let place : at + 1 - 1 ≡ at = omega arith in
    let more : at + 1 ≡ suc at = omega arith in
    let there : slice_get rows at ≡ Some row = subst (λ i. slice_get rows i ≡ Some row) place c.row-turn.ensures.row in
    let marked : c.unwrap_or-is_kept.result ≡ get_or marks (at + 1) false = grind (arith, common_steps) in
    let parent : c.number.result ≡ number numbers (length kept) row.0.0 = search rules in
    let keeps : IsKept (is_marked marks (suc at)) kept now (frame_at (number numbers (length kept) row.0.0), row.1, row.2) f =
    subst (λ n. IsKept (is_marked marks (suc at)) kept now (frame_at n, row.1, row.2) f) parent
    (subst (λ b. IsKept b kept now (frame_at c.number.result, row.1, row.2) f) (marked ∙ ap (λ i. get_or marks i false) more)
    c.in_ok-kept_number.ensures) in
    subst (IsNumbered rows marks (at + 1) now) (sym c.in_ok-push.ensures.items)
    (numbers_more rows c.row-turn.ensures.rows marks at kept now numbers row f there c.loop-at.invariant keeps)

pub returns-clause-numbers : goal.returns-clause-numbers
returns-clause-numbers c =
    let all : c.loop-at.at ≡ length c.args.frames.now = omega (arith, c.len-at-end.ensures.count) in
    subst (λ n. IsNumbered c.args.frames.now c.args.marks.now n c.loop-at.kept c.loop-at.numbers.items) all c.loop-at.invariant
