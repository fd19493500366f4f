use Rattle.std.proofs.Common.{rules, ◌≡◌, ◌++◌, ◌∷◌, [], sym, ◌∙◌, ap, refl, reverse, drop, take}
use Rattle.run_control.specs.Stacked.{cut}
use Rattle.run_control.proofs.Stacks.{closes, closed_at}
use Rattle.run_control.proofs.stack.Stack.close.Goals as goal

pub returns-in-Some : goal.returns-in-Some
returns-in-Some c =
    let all : c.self.inside.bases.items ≡ c.pop.new.self.items ++ c.in-Some.base ∷ [] = search rules in
    closes c.args.self.now.below (cut (take c.in-Some.base c.self.inside.items.items) (reverse c.pop.new.self.items))
    (reverse (drop c.in-Some.base c.self.inside.items.items)) _
    (sym (ap (λ s. s.below) c.self.view_is)
    ∙ closed_at c.self.inside.items.items c.self.inside.bases.items c.pop.new.self.items c.in-Some.base c.self.inside.base all
    (ap (λ s. s.now) c.self.view_is ∙ c.requires.empty))
    refl refl
