use Rattle.evaluation_search.proofs.BetweenFirst.{of_two, of_two_none}
use Rattle.evaluation_search.proofs.search.Search.least_of_two.Goals as goal

pub returns-in-Some-clause-first : goal.returns-in-Some-clause-first
returns-in-Some-clause-first c = λ ha hb.
    of_two c.args.self.now.under.frames.now c.args.self.now.under.map.now c.args.self.now.place c.args.self.now.log.events.now c.args.self.now.log.items.now
    c.args.sought c.args.a c.args.b
    c.args.foot_a.now c.args.foot_b.now c.in-Some.items c.found.result c.requires.first_sought c.requires.second_sought ha hb c.in-Some.ensures.least
    c.found.ensures.none c.found.ensures.names c.found.ensures.race

pub returns-in-None-clause-first : goal.returns-in-None-clause-first
returns-in-None-clause-first c = λ ha hb.
    of_two_none c.args.self.now.under.frames.now c.args.self.now.under.map.now c.args.self.now.place c.args.self.now.log.events.now
    c.args.self.now.log.items.now c.args.sought c.args.a c.args.b
    c.args.foot_a.now c.args.foot_b.now ha hb c.in-None.ensures.least
