use Rattle.program_view.proofs.Computing.{loop_is_seen, switch_is_seen, jump_is_seen, structure_is_seen, statics_are_seen, arguments_are_seen}
use Rattle.program_view.proofs.law_samples.Goals as goal

pub returns : goal.returns
returns c = record {
  while_loop = loop_is_seen;
  fall_through = switch_is_seen;
  jump = jump_is_seen;
  structure = structure_is_seen;
  statics = statics_are_seen;
  arguments = arguments_are_seen;
}
