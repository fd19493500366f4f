-- Segments of which only the sets that are kept of them have changed.
use Rattle.std.proofs.Common.{refl, ◌∙◌, List}
use Rattle.evaluation_log.specs.declared.log.Segment.{Segment}
use Rattle.evaluation_search.specs.Segments.{AreAlike}

pub alike_after : (a b d : List Segment) → AreAlike a b → AreAlike b d → AreAlike a d
alike_after a b d first second = record {
  alike = λ g. second.alike g ∙ first.alike g;
  harm = λ g. second.harm g ∙ first.harm g;
  lows = λ g. second.lows g ∙ first.lows g;
  nodes = λ g. second.nodes g ∙ first.nodes g;
}

pub alike_self : (a : List Segment) → AreAlike a a
alike_self a = record {
  alike = λ g. refl;
  harm = λ g. refl;
  lows = λ g. refl;
  nodes = λ g. refl;
}
