use Rattle.std.proofs.Common.{◌≡◌, ◌||◌}
use Rattle.std.specs.List.{list_any}
use Rattle.std.specs.BTreeMap.{is_at}
use Rattle.std.specs.BTreeSet.{contains}
use Rattle.ub_base.specs.declared.names.Event.{Event}
use Rattle.ub_base.specs.declared.names.ObjName.{ObjName}
use Rattle.footprint.specs.Holds.{narrow_cmp}
use Rattle.footprint.proofs.sets.merge_narrows.Given as goal

abbrev pub invariant-loop-narrow : goal.invariant-loop-narrow
invariant-loop-narrow l = record {
  whole : (k : Event × ObjName) → (contains narrow_cmp l.narrows k || list_any (is_at (narrow_cmp k)) l.narrow-iterator)
      ≡ (contains narrow_cmp l.fn.narrows k || contains narrow_cmp l.more k);
  grown : (k : Event × ObjName) → (contains narrow_cmp l.fn.narrows k || contains narrow_cmp l.narrows k) ≡ contains narrow_cmp l.narrows k;
}
