use Rattle.std.proofs.Common.{List}
use Rattle.exposure.specs.declared.prov.Prov.{Prov}
use Rattle.mem_spec.specs.Streams.{Io}
use Rattle.mem_objects.specs.Keeps.{Keeps}
use Rattle.mem_objects.specs.Made.{IsMade}
use Rattle.c_model.specs.Program.{Filling as Filled}
use Rattle.run_values.specs.Fills.{AreFillings}
use Rattle.run_values.specs.Kept.{AreOf}
use Rattle.run_values.specs.Views.{pointer_at}
use Rattle.run_values.proofs.Fills.{Alike, Fills}
use Rattle.run_acts.proofs.storage.fill.Given as goal

-- the stores so far, and those that are left
abbrev pub invariant-loop-filling : goal.invariant-loop-filling
invariant-loop-filling l = record {
  alike : Alike l.m l.initial.m;
  made : (p : Prov) → IsMade l.initial.m p → IsMade l.m p;
  fills : IsMade l.initial.m l.object.prov → (cs : List Filled) → AreFillings l.initial.m l.fillings cs → (io : Io)
      → Fills l.initial.m l.m (pointer_at l.object) cs l.filling-index l.t io;
  keeps : AreOf l.initial.m l.fillings → Keeps l.initial.m l.m;
}
