use Rattle.footprint.proofs.Removals.{joins}
use Rattle.footprint.proofs.starts.replace.Goals as goal

pub returns-clause-joined : goal.returns-clause-joined
returns-clause-joined c =
    joins c.args.ends.now c.insert.new.self c.remove_starts.new.ends c.args.joined.object c.args.joined.from c.args.joined.end
    c.in_ok-insert.ensures.updates.0 c.remove_starts.ensures.without c.requires
