use Rattle.std.proofs.Common.{◌∙◌, refl, arith}
use Rattle.std.proofs.lemmas.Result.{err_from_is_err_and}
use Rattle.run_values.specs.Views.{pointer_at}
use Rattle.run_values.proofs.Fills.{fills_next, fills_raise, fills_all}
use Rattle.run_acts.proofs.Stores.{raise_then}
use Rattle.prov_memory.proofs.KeepLemmas.{keeps_none, keeps_then}
use Rattle.run_values.proofs.Keeping.{filling_of, filling_still}
use Rattle.run_acts.proofs.storage.fill.Goals as goal

pub loop-filling-init : goal.loop-filling-init
loop-filling-init c = record {
  alike = refl;
  made = λ p made. made;
  fills = λ made cs are io. record { so_far = rw c.clear.ensures refl };
  keeps = λ are. keeps_none c.args.m.now;
}

pub loop-filling-preserved : goal.loop-filling-preserved
loop-filling-preserved c =
    let inv = c.loop-filling.invariant in
    record {
      alike = c.fill_one.ensures.rest ∙ inv.alike;
      made = λ p made. c.fill_one.ensures.made p (inv.made p made);
      fills = λ made cs are io.
          fills_next c.args.m.now c.loop-filling.m c.fill_one.new.m (pointer_at c.args.object) c.args.fillings.now cs c.loop-filling.filling-index
          c.filling-item.result c.loop-filling.t c.fill_one.new.spare c.fill_one.new.t io are c.loop-filling-test.true c.filling-item.is inv.alike
          (c.in_ok-fill_one.ensures.exact (inv.made _ made) io) c.in_ok-fill_one.ensures.items (inv.fills made cs are io);
      keeps = λ are.
          let here = filling_still c.args.m.now c.loop-filling.m c.filling-item.result inv.alike
          (filling_of c.args.m.now c.args.fillings.now c.loop-filling.filling-index c.filling-item.result are c.loop-filling-test.true c.filling-item.is) in
          keeps_then c.args.m.now c.loop-filling.m c.fill_one.new.m (inv.keeps are) (c.fill_one.ensures.kept here.0 here.1);
    }

pub returns-clause-exact : goal.returns-clause-exact
returns-clause-exact c = λ made cs are io.
    fills_all c.args.m.now c.loop-filling.m (pointer_at c.args.object) c.args.fillings.now cs c.loop-filling.filling-index c.loop-filling.t io are
    (omega arith) (c.loop-filling.invariant.fills made cs are io)

pub returns-in_err-fill_one-clause-raises : goal.returns-in_err-fill_one-clause-raises
returns-in_err-fill_one-clause-raises c =
    let e = err_from_is_err_and c.from_residual.result c.from_residual.ensures.1 in
    let inv = c.loop-filling.invariant in
    rw (e.1, e.2) (raise_then c.in_err-fill_one.field-0.0 _ _ (λ k raised made cs are io.
    fills_raise c.args.m.now c.loop-filling.m (pointer_at c.args.object) c.args.fillings.now cs c.loop-filling.filling-index c.filling-item.result
    c.loop-filling.t k io are c.loop-filling-test.true c.filling-item.is inv.alike (raised io) (inv.fills made cs are io)) c.in_err-fill_one.ensures.raises)

pub returns-clause-kept : goal.returns-clause-kept
returns-clause-kept c = c.loop-filling.invariant.keeps

pub returns-in_err-fill_one-clause-kept : goal.returns-in_err-fill_one-clause-kept
returns-in_err-fill_one-clause-kept c = λ are.
    let inv = c.loop-filling.invariant in
    let here = filling_still c.args.m.now c.loop-filling.m c.filling-item.result inv.alike
    (filling_of c.args.m.now c.args.fillings.now c.loop-filling.filling-index c.filling-item.result are c.loop-filling-test.true c.filling-item.is) in
    keeps_then c.args.m.now c.loop-filling.m c.fill_one.new.m (inv.keeps are) (c.fill_one.ensures.kept here.0 here.1)
