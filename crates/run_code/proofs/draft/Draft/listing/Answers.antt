use Rattle.run_layout.proofs.Grown.{no_entries}
use Rattle.run_code.proofs.draft.Draft.listing.Goals as goal

pub returns-in-None-clause-due : goal.returns-in-None-clause-due
returns-in-None-clause-due c = no_entries c.args.self.now.function.objects.first.items c.args.self.now.expressions.tables c.args.nodes.now
    c.new-entries.result.items c.new-entries.ensures.items

pub returns-in_ok-term-in-Some-clause-due : goal.returns-in_ok-term-in-Some-clause-due
returns-in_ok-term-in-Some-clause-due c =
    c.in_ok-term-in-Some.ensures.due (no_entries c.args.self.now.function.objects.first.items c.args.self.now.expressions.tables c.args.nodes.now
    c.new-entries.result.items c.new-entries.ensures.items)
