use Rattle.order_laws.proofs.Passes.{two_frames_swap, two_steps_swap}
use Rattle.order_laws.proofs.law_two_steps.Goals as goal

pub returns-clause-frames : goal.returns-clause-frames
returns-clause-frames c = two_frames_swap

pub returns-clause-steps : goal.returns-clause-steps
returns-clause-steps c = two_steps_swap
