use Rattle.order_swap.specs.Turns.{place_of}
use Rattle.order_swap.proofs.Choices.{all_permitted, all_fair}
use Rattle.order_swap.proofs.swap.Swapper.into_steps.Goals as goal

pub returns-clause-permitted : goal.returns-clause-permitted
returns-clause-permitted c = all_permitted (place_of c.args.self.event) (place_of c.args.self.against) c.args.self.steps c.args.self.chosen

pub returns-clause-fair : goal.returns-clause-fair
returns-clause-fair c = all_fair (place_of c.args.self.event) (place_of c.args.self.against) c.args.self.steps c.args.self.chosen
