use Rattle.std.proofs.Common.{refl, ap, ◌∙◌, ◌∷◌}
use Rattle.run_control.specs.Stacked.{Stacked}
use Rattle.run_start.proofs.Beginning.{main_starts}
use Rattle.run_start.proofs.initial.first_frame.Goals as goal

pub returns-clause-work : goal.returns-clause-work
returns-clause-work c =
    main_starts c.args.code.now c.args.program.now c.in_ok-main.main.now _ c.start.new.self c.in_ok-main.ensures refl
    (c.in_ok-start.ensures.below ∙ ap (λ (s : Stacked). s.now ∷ s.below) c.new-work.ensures) c.in_ok-start.ensures.now

pub returns-clause-sees : goal.returns-clause-sees
returns-clause-sees c = record {
  main = c.in_ok-main.main.now;
  at = c.in_ok-main.ensures;
  above = refl;
  blocks = refl;
  expressions = refl;
}
