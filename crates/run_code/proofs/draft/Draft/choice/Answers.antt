use Rattle.std.proofs.Common.{arith, ◌≡◌, suc, length, slice_get, Some, refl, sym, ◌∙◌}
use Rattle.std.proofs.lemmas.Option.{slice_get_read}
use Rattle.run_layout.proofs.Grown.{choice_of_grown}
use Rattle.run_code.proofs.draft.Draft.choice.Goals as goal

pub returns-clause-fit : goal.returns-clause-fit
returns-clause-fit c = λ p h. c.add_choice.ensures.fit p (c.in_ok-choice.ensures.fit p h)

pub returns-clause-choice : goal.returns-clause-choice
returns-clause-choice c = λ firsts noted.
    let found = c.in-Some-get.ensures.lookup in
    let above = c.in-Some-get.above.now in
    let parent = c.in-Some.parent in
    let there : slice_get c.args.nodes.now parent ≡ Some above =
    slice_get_read c.args.nodes.now (length c.args.nodes.now) parent above refl found.3.0 found.1 in
    let first : c.args.number ≡ suc parent = omega (arith, c.if-number-parent.false, c.if-number-parent-ne1.false) in (
      parent,
      above,
      record {
        below = c.in-Some.is;
        there = there;
        first = first;
        choice = sym c.is_choice.ensures ∙ c.if-not-is_choice.false;
      },
      c.in_ok-choice.choice,
      c.in_ok-add_choice.ensures.at,
      choice_of_grown firsts c.ways.new.self.expressions.tables c.add_choice.new.self.tables parent above c.args.info.operand c.in_ok-choice.choice
          c.in_ok-add_choice.ensures.grown (c.in_ok-choice.ensures.choice firsts noted there),
    )
