use Rattle.std.proofs.Common.{arith, ◌≡◌, ◌+◌, suc, length, slice_get, Some, refl, sym, ap, ◌∙◌}
use Rattle.std.proofs.lemmas.Option.{slice_get_read, slice_get_past}
use Rattle.run_layout.specs.AtOnce.{takes}
use Rattle.run_layout.proofs.AtOnce.{node_at, test_there, not_there, by_test, taken, first_known, first_unknown}
use Rattle.run_code.proofs.choices.first_operand.Goals as goal

pub returns-in_default-get : goal.returns-in_default-get
returns-in_default-get c = λ firsts parent noted here chooses.
    let next : c.args.number + 1 ≡ suc c.args.number = omega arith in
    absurd (not_there c.args.nodes.now (c.args.number + 1) (Some c.args.number) c.in-Some._test.now
    (test_there firsts c.args.nodes.now c.args.number (c.args.number + 1) parent c.args.root.now c.in-Some._test.now noted here c.in-Some.ensures.value next)
    (slice_get_past c.args.nodes.now (c.args.number + 1) c.in_default-get.ensures.lookup.3))

pub returns-then-not-is_quiet : goal.returns-then-not-is_quiet
returns-then-not-is_quiet c = λ firsts parent noted here chooses.
    let next : c.args.number + 1 ≡ suc c.args.number = omega arith in
    let found = c.in-Some-get.ensures.lookup in
    let there : slice_get c.args.nodes.now (c.args.number + 1) ≡ Some c.in-Some-get.test.now =
    slice_get_read c.args.nodes.now (length c.args.nodes.now) (c.args.number + 1) c.in-Some-get.test.now refl found.3.0 found.1 in
    sym (by_test firsts c.args.nodes.now c.args.number (c.args.number + 1) parent c.args.root.now c.in-Some._test.now c.in-Some-get.test.now noted here
    c.in-Some.ensures.value next there
    ∙ first_unknown (node_at c.args.root.now) c.in-Some-get.test.now.operand
    (sym c.is_quiet.ensures ∙ c.if-not-is_quiet.true))

pub returns : goal.returns
returns c = λ firsts parent noted here chooses.
    let next : c.args.number + 1 ≡ suc c.args.number = omega arith in
    let found = c.in-Some-get.ensures.lookup in
    let there : slice_get c.args.nodes.now (c.args.number + 1) ≡ Some c.in-Some-get.test.now =
    slice_get_read c.args.nodes.now (length c.args.nodes.now) (c.args.number + 1) c.in-Some-get.test.now refl found.3.0 found.1 in
    let d = node_at c.args.root.now in
    let o = c.in-Some-get.test.now.operand in
    taken d c.truth.result c.chosen.result c.chosen.ensures chooses
    ∙ (ap (takes d) c.truth.ensures
    ∙ sym (by_test firsts c.args.nodes.now c.args.number (c.args.number + 1) parent c.args.root.now c.in-Some._test.now c.in-Some-get.test.now noted here
    c.in-Some.ensures.value next there
    ∙ first_known d o (sym c.is_quiet.ensures ∙ c.if-not-is_quiet.false)))
