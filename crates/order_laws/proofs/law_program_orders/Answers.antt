use Rattle.c_model.specs.ModelMachine.{frame_machine}
use Rattle.c_model.proofs.FramesKeep.{frame_laws, order_laws, update_laws}
use Rattle.order_laws.specs.FrameEnds.{weight, frame_ends, program_machine, program_ends}
use Rattle.machine_laws.proofs.AllOrders.{every_order_ends_alike}
use Rattle.machine_laws.proofs.Depth.{deep_store, deep_frame, deep_order, deep_update, deep_end}
use Rattle.order_laws.proofs.ProgramEnds.{end_laws}
use Rattle.order_laws.proofs.law_program_orders.Goals as goal

pub returns-clause-ends : goal.returns-clause-ends
returns-clause-ends g c = λ world parts. end_laws world parts

pub returns-clause-orders : goal.returns-clause-orders
returns-clause-orders g c = λ world parts stores f s k o s' run b ps ord.
    let m = frame_machine world parts in
    let e = frame_ends world in
    let fl = frame_laws world parts in
    let ol = order_laws world parts in
    let ul = update_laws world parts in
    let el = end_laws world parts in
    every_order_ends_alike (program_machine world parts) (program_ends world parts)
    (deep_store m e weight world.limits.depth stores fl ol ul el)
    (deep_frame m e weight world.limits.depth stores fl ol ul el)
    (deep_order m e weight world.limits.depth stores fl ol ul el)
    (deep_update m e weight world.limits.depth stores fl ol ul el)
    (deep_end m e weight world.limits.depth stores fl ol ul el)
    f s k o s' run b ps ord
