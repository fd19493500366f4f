use Rattle.footprint.proofs.ItemLemmas.{union}
use Rattle.footprint.proofs.foot.Foot.merge.Goals as goal

pub returns-clause-ok : goal.returns-clause-ok
returns-clause-ok c =
    union c.args.self.now c.args.other.now c.merge.new.self c.merge-2.new.self c.merge_states.new.states c.merge_lookups.new.lookups
    c.merge_narrows.new.narrows
    c.in_ok-merge.ensures.ok c.in_ok-merge-2.ensures.ok c.in_ok-merge_states.ensures.ok c.in_ok-merge_lookups.ensures.ok c.in_ok-merge_narrows.ensures.ok
