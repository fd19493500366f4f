use Rattle.static_laws.proofs.Whole.{programs_made, wholes_fit, parameters_taken, runs_keep_sizes, runs_never_race}
use Rattle.static_laws.proofs.law_whole_programs.Goals as goal

pub returns : goal.returns
returns c = record {
  made = programs_made;
  fit = wholes_fit;
  parameters = parameters_taken;
  runs = runs_keep_sizes c.law_sizes_are_kept.ensures.library;
  race = runs_never_race c.law_sizes_are_kept.ensures.library;
}
