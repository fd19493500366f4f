use Rattle.std.proofs.Common.{◌+◌, ◌++◌, ◌∷◌, [], refl, arith}
use Rattle.run_start.specs.Begins.{IsBodyOf}
use Rattle.run_start.proofs.Each.{each_more, each_all}
use Rattle.run_start.proofs.Given.{labels_kept}
use Rattle.run_start.proofs.initial.jumps_of.Goals as goal

pub loop-function-init : goal.loop-function-init
loop-function-init c = ([], c.new-jumps.ensures, tt)

pub loop-function-preserved : goal.loop-function-preserved
loop-function-preserved c =
    let before = c.loop-function.invariant in
    let after = before.0 ++ c.body_of.result ∷ [] in (
      after,
      c.in_ok-add.ensures before.0 before.1,
      each_more IsBodyOf c.args.code.now.functions.items c.deref-function-items.result.now before.0 after c.loop-function.function-index
          (c.loop-function.function-index + 1) c.function-item.result c.body_of.result c.deref-function-items.ensures.value c.loop-function-test.true
          c.function-item.is (omega arith) refl before.2 c.body_of.ensures,
    )

pub returns : goal.returns
returns c =
    let all = c.loop-function.invariant in
    labels_kept c.args.code.now c.loop-function.jumps all.0 all.1
    (each_all IsBodyOf c.args.code.now.functions.items c.deref-function-items.result.now all.0 c.loop-function.function-index
    c.deref-function-items.ensures.value c.loop-function.auto.function-index-end c.loop-function-test.false all.2)
