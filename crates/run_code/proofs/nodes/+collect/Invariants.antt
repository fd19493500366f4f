use Rattle.std.proofs.Common.{drop}
use Rattle.c_typed.specs.declared.program.Program.{Program}
use Rattle.run_layout.specs.Fitting.{TreeFits, NodesFit}
use Rattle.run_layout.specs.Rooms.{AreRoomed}
use Rattle.run_layout.proofs.Collected.{Between}
use Rattle.run_code.proofs.Owned.{OwnSoFar}
use Rattle.run_code.proofs.nodes.+collect.Given as goal

abbrev pub invariant-loop-child : goal.invariant-loop-child
invariant-loop-child l =
    Between l.objects.first.items l.fn.parent l.root l.number l.fn.nodes.items l.nodes.items (drop l.child-index l.child-items)
    × ((p : Program) → TreeFits p l.root → NodesFit p l.fn.nodes.items → NodesFit p l.nodes.items)
    × AreRoomed l.number l.nodes.items l.fn.counts.olds l.counts.olds
    × OwnSoFar l.root l.number l.nodes.items l.fn.counts.initializers l.counts.initializers (drop l.child-index l.child-items)
