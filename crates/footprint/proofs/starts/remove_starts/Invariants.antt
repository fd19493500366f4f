use Rattle.std.proofs.Common.{◌≡◌, ◌+◌, ℕ, false, btree_map_len}
use Rattle.std.specs.BTreeMap.{IsOrdered}
use Rattle.ub_base.specs.declared.names.ObjName.{ObjName}
use Rattle.footprint.specs.Ranges.{begins_in, end_at, start_cmp}
use Rattle.footprint.proofs.starts.remove_starts.Given as goal

abbrev pub invariant-loop : goal.invariant-loop
invariant-loop l = record {
  outside : (y : ObjName) (f : ℕ) → begins_in l.object l.from l.last y f ≡ false → end_at l.ends y f ≡ end_at l.fn.ends y f;
  counted : btree_map_len l.ends + l.counter ≡ l.end;
  ordered : IsOrdered start_cmp l.ends;
}
