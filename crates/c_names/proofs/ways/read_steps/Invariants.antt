use Rattle.std.proofs.Common.{◌≡◌, ◌<◌, ◌++◌, codes, length}
use Rattle.c_names.specs.Names.{HasSteps}
use Rattle.c_names.specs.Parts.{AtByte, steps_text}
use Rattle.c_names.proofs.ways.read_steps.Given as goal

-- `main`, the steps so far and the rest are the text
abbrev pub invariant-loop-rest : goal.invariant-loop-rest
invariant-loop-rest l = record {
  whole : l.text ≡ codes "main" ++ (steps_text l.steps.items ++ l.rest);
  steps : HasSteps l.steps.items;
  at : 0 < length l.steps.items → AtByte 47 l.rest;
}

abbrev pub decreases-loop-rest : goal.decreases-loop-rest
decreases-loop-rest l = length l.rest
