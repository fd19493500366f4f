-- The zeros so far.
use Rattle.std.proofs.Common.{◌≡◌, ◌+◌, ◌*◌, ◌%◌}
use Rattle.ub_base.specs.declared.names.ObjName.{ObjName}
use Rattle.exposure.specs.declared.prov.Prov.TheVariants.{Whole}
use Rattle.mem_spec.specs.Bytes.{number_bytes}
use Rattle.mem_objects.specs.Keeps.{Keeps}
use Rattle.run_standing.specs.Starting.{EndsLow, Puts}
use Rattle.run_values.proofs.Fills.{Alike}
use Rattle.run_standing.proofs.initial.clear.Given as goal

abbrev pub invariant-loop-number : goal.invariant-loop-number
invariant-loop-number l = record {
  alike : Alike l.m l.fn.m;
  cleared : (x : ObjName) → l.whole.prov ≡ Whole x → EndsLow l.fn.m x
      → Puts l.fn.m l.m x l.whole.addr (number_bytes (l.size % 4096 + l.number * 4096) 0);
  keeps : Keeps l.fn.m l.m;
}
