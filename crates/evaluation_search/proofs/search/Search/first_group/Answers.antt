use Rattle.std.proofs.Common.{◌≡◌, ◌≤◌, ◌-◌, ◌∙◌, suc, length, sym, arith}
use Rattle.footprint.specs.Holds.{holds}
use Rattle.evaluation_log.proofs.BetweenLemmas.{rest_past, behind_past, operand_by, rest_step, none_step, some_step, none_end}
use Rattle.evaluation_search.proofs.BetweenFirst.{nearer_none, nearer_some, group_step, group_end}
use Rattle.evaluation_search.proofs.search.Search.first_group.Goals as goal

pub loop-group-init : goal.loop-group-init
loop-group-init c =
    let past : length c.args.segments.now ≤ length c.args.segments.now = omega arith in
    record {
      rest = λ sorted j. c.new-rest.ensures j ∙
          sym (rest_past c.args.segments.now c.args.self.now.log.events.now c.args.self.now.log.items.now c.args.sought
          (length c.args.segments.now) j past);
      none = λ sorted. behind_past c.args.self.now.under.map.now c.args.segments.now c.args.self.now.log.events.now c.args.self.now.log.items.now c.args.sought
          (length c.args.segments.now) past;
      some = λ sorted. tt;
      first = λ sorted. tt;
    }

pub loop-group-preserved : goal.loop-group-preserved
loop-group-preserved c =
    let e : c.loop-group.group ≡ suc (c.loop-group.group - 1) = omega (arith, c.loop-group-test.true) in
    let le : c.args.at ≤ c.loop-group.group - 1 = omega (arith, c.loop-group-test.true) in
    let own = operand_by c.args.segments.now c.args.self.now.log.events.now c.args.self.now.log.items.now c.args.sought
    (c.loop-group.group - 1) c.segment_start-from.result c.segment_end-to.result (holds c.in_ok-foot.foot) c.segment_start-from.ensures
    c.segment_end-to.ensures (λ j. c.in_ok-foot.ensures j) in
    record {
      rest = λ sorted. rest_step c.args.segments.now c.args.self.now.log.events.now c.args.self.now.log.items.now c.args.sought
          c.args.at (c.loop-group.group - 1) c.loop-group.group (holds c.loop-group.rest) (holds c.absorb.new.self) (holds c.in_ok-foot.foot) e le sorted
          (λ j. c.in_ok-absorb.ensures.ok j) own (c.loop-group.invariant.rest sorted);
      none = λ sorted. none_step c.args.self.now.under.map.now c.args.segments.now c.args.self.now.log.events.now c.args.self.now.log.items.now c.args.sought
          (c.loop-group.group - 1) c.loop-group.group (holds c.in_ok-foot.foot) (holds c.loop-group.rest) c.loop-group.best c.nearer-best.result e own
          (c.loop-group.invariant.rest sorted) (nearer_none c.args.self.now.under.map.now c.args.sought (holds c.in_ok-foot.foot) (holds c.loop-group.rest)
          (c.loop-group.group - 1) c.loop-group.best c.nearer-best.result c.nearer-best.ensures) (c.loop-group.invariant.none sorted);
      some = λ sorted. some_step c.args.self.now.under.map.now c.args.segments.now c.args.self.now.log.events.now c.args.self.now.log.items.now c.args.sought
          (c.loop-group.group - 1) c.loop-group.group (holds c.in_ok-foot.foot) (holds c.loop-group.rest) c.loop-group.best c.nearer-best.result e own
          (c.loop-group.invariant.rest sorted) (nearer_some c.args.self.now.under.map.now c.args.sought (holds c.in_ok-foot.foot) (holds c.loop-group.rest)
          (c.loop-group.group - 1) c.loop-group.best c.nearer-best.result c.nearer-best.ensures) (c.loop-group.invariant.some sorted);
      first = λ sorted. group_step c.args.self.now.under.map.now c.args.segments.now c.args.self.now.log.events.now c.args.self.now.log.items.now c.args.sought
          c.args.at (c.loop-group.group - 1) c.loop-group.group (holds c.in_ok-foot.foot) (holds c.loop-group.rest) c.loop-group.best c.nearer-best.result e le
          own
          (c.loop-group.invariant.rest sorted) c.nearer-best.ensures (c.loop-group.invariant.first sorted);
    }

pub returns-clause-none : goal.returns-clause-none
returns-clause-none c = λ sorted. none_end c.args.self.now.under.map.now c.args.segments.now c.args.self.now.log.events.now
    c.args.self.now.log.items.now c.args.sought c.args.at c.loop-group.group c.loop-group.best (omega (arith, c.loop-group-test.false)) sorted
    (c.loop-group.invariant.none sorted)

pub returns-clause-some : goal.returns-clause-some
returns-clause-some c = c.loop-group.invariant.some

pub returns-clause-first : goal.returns-clause-first
returns-clause-first c = λ sorted.
    group_end c.args.self.now.under.map.now c.args.segments.now c.args.self.now.log.events.now c.args.self.now.log.items.now c.args.sought c.args.at
    c.loop-group.group c.loop-group.best (omega (arith, c.loop-group-test.false)) (c.loop-group.invariant.first sorted)
