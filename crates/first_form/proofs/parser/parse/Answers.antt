use Rattle.std.proofs.Common.{refl, subst, None, Some}
use Rattle.first_form.specs.Grammar.{Spells}
use Rattle.first_form.proofs.Sentences.{unit_unique}
use Rattle.first_form.proofs.parser.parse.Goals as goal

pub returns-in_default-clause-only : goal.returns-in_default-clause-only
returns-in_default-clause-only c = λ unit spells.
    absurd (c.in_default.ensures.none unit.left (rw c.as_slice-list.ensures.value spells.left))

pub returns-then-is_one-clause-found : goal.returns-then-is_one-clause-found
returns-then-is_one-clause-found c =
    let left = c.in-Some.ensures.found in
    subst (λ list. Spells c.args.tokens.now.text.now list (record { line = c.in-Some.line; left = c.in-Some.left; rest = None })) c.as_slice-list.ensures.value
    (record { order = c.if-is_one.ensures.0 refl; left = left.0; line = left.1; right = tt })

pub returns-then-is_one-clause-only : goal.returns-then-is_one-clause-only
returns-then-is_one-clause-only c = λ unit spells. unit_unique _ _ _ unit (returns-then-is_one-clause-found c) spells

pub returns-in_default-number_at-clause-only : goal.returns-in_default-number_at-clause-only
returns-in_default-number_at-clause-only c = λ unit spells.
    absurd (c.in_default-number_at.ensures.none unit.left (rw c.as_slice-list.ensures.value spells.left))

pub returns-clause-found : goal.returns-clause-found
returns-clause-found c =
    let left = c.in-Some-number_at.ensures.found in
    let right = c.in-Some-number_at-2.ensures.found in
    let op = c.in-Some-op_between.ensures.found in
    subst (λ list. Spells c.args.tokens.now.text.now list
    (record {
      line = c.in-Some-number_at.line;
      left = c.in-Some-number_at.left;
      rest = Some (c.in-Some-op_between.op, c.in-Some-number_at-2.right);
    })) c.as_slice-list.ensures.value
    (record { order = op; left = left.0; line = left.1; right = right.0 })

pub returns-clause-only : goal.returns-clause-only
returns-clause-only c = λ unit spells. unit_unique _ _ _ unit (returns-clause-found c) spells
