use Rattle.std.proofs.Common.{◌≡◌}
use Rattle.ub_base.specs.declared.names.ObjName.{ObjName}
use Rattle.footprint.specs.States.{state_in, either, listed}
use Rattle.footprint.proofs.sets.merge_states.Given as goal

abbrev pub invariant-loop-object : goal.invariant-loop-object
invariant-loop-object l = record {
  whole : (x : ObjName) → either (state_in l.states x) (listed l.object-iterator x) ≡ either (state_in l.fn.states x) (listed l.more.entries x);
  grown : (x : ObjName) → either (state_in l.fn.states x) (state_in l.states x) ≡ state_in l.states x;
}
