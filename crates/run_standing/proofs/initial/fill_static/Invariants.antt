-- Those put so far.
use Rattle.std.proofs.Common.{◌≡◌, ℕ, List, drop}
use Rattle.ub_base.specs.declared.names.ObjName.{ObjName}
use Rattle.exposure.specs.declared.prov.Prov.TheVariants.{Whole}
use Rattle.mem_objects.specs.Keeps.{Keeps}
use Rattle.c_model.specs.Program.{Filling as Filled}
use Rattle.run_values.specs.Fills.{AreFillings}
use Rattle.run_values.specs.Kept.{AreOf}
use Rattle.run_standing.specs.Outcomes.{IsReady, LivesStay}
use Rattle.run_values.proofs.Fills.{Alike}
use Rattle.run_standing.proofs.Ready.{AllWithin}
use Rattle.run_standing.proofs.Statics.{AreStill, Reached, at_object}
use Rattle.run_standing.proofs.initial.fill_static.Given as goal

abbrev pub invariant-loop-filling : goal.invariant-loop-filling
invariant-loop-filling l = record {
  alike : Alike l.m l.initial.m;
  keeps : AreOf l.initial.m l.filling-items → Keeps l.initial.m l.m;
  reached : (x : ObjName) → l.whole.prov ≡ Whole x → (cs : List Filled) → AreFillings l.initial.m l.filling-items cs → AreStill l.initial.m cs
      → Reached l.initial.m l.m (at_object x l.whole.addr) cs (drop l.filling-index cs);
  live : (x : ObjName) (size : ℕ) → l.whole.prov ≡ Whole x → IsReady l.initial.m x l.whole.addr size → AllWithin size l.filling-items
      → LivesStay l.initial.m l.m;
}
