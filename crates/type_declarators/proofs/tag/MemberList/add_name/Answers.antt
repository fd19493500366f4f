use Rattle.type_declarators.proofs.NamesAdded.{held_more}
use Rattle.type_declarators.proofs.tag.MemberList.add_name.Goals as goal

pub returns-clause-held : goal.returns-clause-held
returns-clause-held c = held_more (c.args.self.now).names c.insert.new.self c.args.symbol c.in_ok-insert.ensures.updates.0
