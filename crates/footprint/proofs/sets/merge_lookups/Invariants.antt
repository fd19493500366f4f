use Rattle.std.proofs.Common.{◌≡◌, ◌||◌, ℕ, nat_cmp}
use Rattle.std.specs.List.{list_any}
use Rattle.std.specs.BTreeMap.{is_at}
use Rattle.std.specs.BTreeSet.{contains}
use Rattle.footprint.proofs.sets.merge_lookups.Given as goal

abbrev pub invariant-loop-addr : goal.invariant-loop-addr
invariant-loop-addr l = record {
  whole : (a : ℕ) → (contains nat_cmp l.lookups a || list_any (is_at (nat_cmp a)) l.addr-iterator)
      ≡ (contains nat_cmp l.fn.lookups a || contains nat_cmp l.more a);
  grown : (a : ℕ) → (contains nat_cmp l.fn.lookups a || contains nat_cmp l.lookups a) ≡ contains nat_cmp l.lookups a;
}
