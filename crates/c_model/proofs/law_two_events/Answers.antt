use Rattle.c_model.proofs.TwoEvents.{event_same, frames_same, frame_swap}
use Rattle.c_model.proofs.law_two_events.Goals as goal

pub returns-clause-act : goal.returns-clause-act
returns-clause-act c = λ world f e u v w nu nv ne. event_same world f.scene e u v w nu nv ne

pub returns-clause-moves : goal.returns-clause-moves
returns-clause-moves c = λ world f e u v w nu nv ne. frames_same world f.scene e u v w nu nv ne

pub returns-clause-frame : goal.returns-clause-frame
returns-clause-frame c = λ world f e u v w x ne. frame_swap f e u v w x ne
