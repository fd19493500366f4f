use Rattle.c_model.specs.ModelMachine.{frame_machine}
use Rattle.c_model.proofs.FramesKeep.{frame_laws, order_laws, update_laws}
use Rattle.c_model.proofs.MachineOrders.{ends_alike}
use Rattle.c_model.proofs.law_frames_keep.Goals as goal

pub returns-clause-keep : goal.returns-clause-keep
returns-clause-keep g c = λ world parts. (frame_laws world parts, order_laws world parts, update_laws world parts)

pub returns-clause-ends : goal.returns-clause-ends
returns-clause-ends g c = λ world parts stores a b ps gs v s r o.
    ends_alike (frame_machine world parts) stores (frame_laws world parts) (order_laws world parts) (update_laws world parts) a b ps gs v s r o
