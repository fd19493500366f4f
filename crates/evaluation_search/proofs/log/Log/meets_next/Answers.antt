use Rattle.evaluation_search.proofs.log.Log.meets_next.Goals as goal

pub returns-clause-joined : goal.returns-clause-joined
returns-clause-joined c = λ kept refused. (
  c.in_ok-foot.foot,
  c.in_ok-foot.ensures.gathers kept,
  record {
    grown = λ j. c.in_ok-absorb.ensures.ok j;
    small = c.clash.ensures c.if-clash.false;
    first = c.large_conflict.ensures.first c.if-large_conflict.false;
    second = c.large_conflict.ensures.second c.if-large_conflict.false;
    twice = c.large_conflict.ensures.twice c.if-large_conflict.false;
  },
)
