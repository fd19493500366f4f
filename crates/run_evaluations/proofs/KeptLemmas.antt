-- A log that is as it was.
use Rattle.std.proofs.Common.{refl, ◌∙◌}
use Rattle.run_evaluations.specs.declared.open.Evaluations.{Evaluations}
use Rattle.run_evaluations.specs.Kept.{IsSameLog}

pub same_after : (a b d : Evaluations) → IsSameLog a b → IsSameLog b d → IsSameLog a d
same_after a b d first second = record {
  events = second.events ∙ first.events;
  items = second.items ∙ first.items;
  large = second.large ∙ first.large;
  levels = second.levels ∙ first.levels;
  alike = λ g. second.alike g ∙ first.alike g;
  harm = λ g. second.harm g ∙ first.harm g;
  loose = second.loose ∙ first.loose;
  lows = λ g. second.lows g ∙ first.lows g;
  nodes = λ g. second.nodes g ∙ first.nodes g;
}

pub same_self : (a : Evaluations) → IsSameLog a a
same_self a = record {
  events = refl;
  items = refl;
  large = refl;
  levels = refl;
  alike = λ g. refl;
  harm = λ g. refl;
  loose = refl;
  lows = λ g. refl;
  nodes = λ g. refl;
}
