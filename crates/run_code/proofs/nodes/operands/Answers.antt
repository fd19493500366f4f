use Rattle.std.proofs.Common.{◌≡◌, ◌+◌, suc, ◌∷◌, length, drop, slice_get, Some, refl, sym, ap, ◌∙◌}
use Rattle.std.proofs.lemmas.List.{drop_more}
use Rattle.std.proofs.lemmas.Option.{slice_get_read}
use Rattle.c_typed.specs.declared.tree.Typed.{out-Typed}
use Rattle.run_layout.specs.Resolved.{operands_from}
use Rattle.run_code.proofs.Walked.{one_walked}
use Rattle.run_code.proofs.nodes.operands.Goals as goal

pub loop-child-preserved : goal.loop-child-preserved
loop-child-preserved c = λ firsts noted below.
    let found = c.in-Some.ensures.lookup in
    let there : slice_get c.args.nodes.now c.loop-child.at ≡ Some c.in-Some.info.now =
    slice_get_read c.args.nodes.now (length c.args.nodes.now) c.loop-child.at c.in-Some.info.now refl found.3.0 found.1 in
    one_walked firsts c.args.nodes.now c.args.number c.loop-child.at (drop c.loop-child._child-index c.as_slice-child-items.result.now)
    (drop (c.loop-child._child-index + 1) c.as_slice-child-items.result.now)
    c._child-item.result c.loop-child.operands.items c.push.new.self.items (operands_from firsts (suc c.args.number) (out-Typed c.args.tree.now).children)
    c.in-Some.info.now
    (drop_more c.as_slice-child-items.result.now c.loop-child._child-index c._child-item.result c.loop-child-test.true
    ∙ ap (λ y. y ∷ drop (c.loop-child._child-index + 1) c.as_slice-child-items.result.now) (sym c._child-item.is))
    noted there c.in_ok-push.ensures.items (c.loop-child.invariant firsts noted below)
