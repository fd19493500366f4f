use Rattle.std.proofs.Common.{◌≡◌, sym, subst, ap, List}
use Rattle.std.specs.Map.{lookup}
use Rattle.std.specs.BTreeMap.{is_at}
use Rattle.std.proofs.lemmas.Result.{err_from_is_err_and}
use Rattle.ub_base.specs.declared.names.ObjName.{ObjName}
use Rattle.ub_base.specs.NameOrders.{object_cmp}
use Rattle.footprint.specs.declared.state.State.{State}
use Rattle.footprint.specs.Between.{AreBetween}
use Rattle.footprint.specs.States.{state_in, or_nothing}
use Rattle.footprint.proofs.BetweenLemmas.{grown_state, listed_between}
use Rattle.footprint.proofs.SetLemmas.{state_turn, state_end}
use Rattle.footprint.proofs.sets.merge_states.Goals as goal

pub loop-object-preserved : goal.loop-object-preserved
loop-object-preserved c = record {
  whole = λ x. state_turn c.loop-object.object-iterator c.next.new.self (c.in-Some.object.now, c.in-Some.state.now) x _ _ _
      c.in-Some.ensures.steps (c.in_ok-mark.ensures.marked x) (c.loop-object.invariant.whole x);
  grown = λ x. grown_state _ _ _ _ (c.in_ok-mark.ensures.marked x) (c.loop-object.invariant.grown x);
}

pub returns-clause-ok : goal.returns-clause-ok
returns-clause-ok c = λ x. state_end c.loop-object.object-iterator c.args.more.now x _ _ c.iter-object-items.ensures.ordered c.in-None.ensures.steps.0
    (c.loop-object.invariant.whole x)

pub returns-in_err-mark-clause-err : goal.returns-in_err-mark-clause-err
returns-in_err-mark-clause-err c =
    let p = err_from_is_err_and c.from_residual.result c.from_residual.ensures.1 in
    rw p.1 (λ x.
    let same : state_in c.mark.new.states x ≡ state_in c.loop-object.states x =
    ap (λ (es : List (ObjName × State)). or_nothing (lookup (is_at (object_cmp x)) es)) c.in_err-mark.ensures.err in
    subst (λ (n : State). AreBetween (state_in c.args.states.now x) (state_in c.args.more.now x) n) (sym same)
    (listed_between c.args.more.now x _ (state_in c.loop-object.states x) _ c.iter-object-items.ensures.ordered (c.loop-object.invariant.grown x)
    (c.loop-object.invariant.whole x)))
