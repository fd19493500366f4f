use Rattle.std.proofs.Common.{sym, subst, Option}
use Rattle.evaluation_log.specs.declared.found.Found.{Found}
use Rattle.evaluation_search.specs.First.{AreBetween, IsFirstOf, IsOfPair, IsSoughtPair}
use Rattle.evaluation_log.specs.declared.sought.Sought.TheVariants.{Any, Races}
use Rattle.evaluation_search.proofs.BetweenFirst.{races_win, races_none, ok_weaker}
use Rattle.evaluation_search.proofs.search.Search.found_between.Goals as goal

pub returns-in-Some-clause-first : goal.returns-in-Some-clause-first
returns-in-Some-clause-first c = λ sorted rising once.
    races_win c.args.self.now.under.frames.now c.args.self.now.under.map.now c.args.self.now.place c.args.self.now.log.events.now c.args.self.now.log.items.now
    (IsOfPair c.args.self.now.under.frames.now c.args.self.now.under.map.now c.args.self.now.place c.args.self.now.log.events.now c.args.self.now.log.items.now
    (AreBetween c.args.segments.now c.args.self.now.log.events.now c.args.at)) c.in-Some.race
    (subst (λ (o : Option Found). IsFirstOf c.args.self.now.under.frames.now
    (IsSoughtPair Races c.args.self.now.under.frames.now c.args.self.now.under.map.now c.args.self.now.place c.args.self.now.log.events.now
    c.args.self.now.log.items.now
    (AreBetween c.args.segments.now c.args.self.now.log.events.now c.args.at)) o) c.in-Some.is
    (c.in_ok-race.ensures.first sorted rising once))

pub returns-in-None-clause-first : goal.returns-in-None-clause-first
returns-in-None-clause-first c = λ sorted rising once.
    ok_weaker
    (IsFirstOf c.args.self.now.under.frames.now (IsSoughtPair Any c.args.self.now.under.frames.now c.args.self.now.under.map.now c.args.self.now.place
    c.args.self.now.log.events.now c.args.self.now.log.items.now
    (AreBetween c.args.segments.now c.args.self.now.log.events.now c.args.at)))
    (IsFirstOf c.args.self.now.under.frames.now (IsOfPair c.args.self.now.under.frames.now c.args.self.now.under.map.now c.args.self.now.place
    c.args.self.now.log.events.now c.args.self.now.log.items.now
    (AreBetween c.args.segments.now c.args.self.now.log.events.now c.args.at)))
    c.least_between-in-None.result
    (λ o. races_none c.args.self.now.under.frames.now c.args.self.now.under.map.now c.args.self.now.place c.args.self.now.log.events.now
    c.args.self.now.log.items.now
    (IsOfPair c.args.self.now.under.frames.now c.args.self.now.under.map.now c.args.self.now.place c.args.self.now.log.events.now c.args.self.now.log.items.now
    (AreBetween c.args.segments.now c.args.self.now.log.events.now c.args.at)) o
    (subst (λ (o : Option Found). IsFirstOf c.args.self.now.under.frames.now
    (IsSoughtPair Races c.args.self.now.under.frames.now c.args.self.now.under.map.now c.args.self.now.place c.args.self.now.log.events.now
    c.args.self.now.log.items.now
    (AreBetween c.args.segments.now c.args.self.now.log.events.now c.args.at)) o) c.in-None.is
    (c.in_ok-race.ensures.first sorted rising once)))
    (c.least_between-in-None.ensures.first sorted rising once)
