use Rattle.frame_laws.proofs.FactsHold.{blocks_are_left, declares_inside_blocks, leaves_innermost_block, enters_with_objects, arguments_hand_on}
use Rattle.frame_laws.proofs.FactsHold.{begins_in_scope}
use Rattle.frame_laws.proofs.FactsHold.{stays_in_scope, goes_behind, held_wait, steps_in_function, function_is_defined}
use Rattle.frame_laws.proofs.law_frames.Goals as goal

pub returns : goal.returns
returns c = record {
  left = blocks_are_left;
  declares = declares_inside_blocks;
  leaves = leaves_innermost_block;
  enters = enters_with_objects;
  arguments = arguments_hand_on;
  begins = begins_in_scope;
  stays = stays_in_scope;
  behind = goes_behind;
  held = held_wait;
  function = steps_in_function;
  defined = function_is_defined;
}
