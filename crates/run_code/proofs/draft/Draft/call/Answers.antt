use Rattle.std.proofs.Common.{refl, subst, ◌∙◌}
use Rattle.run_layout.specs.EventActs.{GoesBy}
use Rattle.run_code.proofs.draft.Draft.call.Goals as goal

pub returns-clause-act : goal.returns-clause-act
returns-clause-act c = λ own room. (
  c.in_ok-call.call,
  _,
  c.in_ok-call.ensures.at,
  record {
    designator = c.at.ensures;
    goes = subst (λ ty. GoesBy ty c.called.result) c.object_ty.ensures c.called.ensures;
    arguments = c.in_ok-arguments.ensures.items ∙ c.behind_first.ensures;
    types = c.in_ok-types.ensures;
  },
  refl,
)
