-- The rules so far, and those of the operands that are left.
use Rattle.std.proofs.Common.{◌≡◌, ◌++◌, ◌∷◌, suc, map, drop, length}
use Rattle.c_typed.specs.declared.tree.Typed.{out-Typed}
use Rattle.evaluation_log.specs.declared.rules.Rule.TheVariants.{Open}
use Rattle.evaluation_log.specs.Ruled.{rules_of, rules_among, last_among}
use Rattle.evaluation_log.proofs.rules.+add_rules.Given as goal

abbrev pub invariant-loop-operand : goal.invariant-loop-operand
invariant-loop-operand l = record {
  rules : l.list.items ++ rules_among (map rules_of (drop l.operand-index l.operand-items)) (length l.list.items)
      ≡ l.fn.list.items ++ (Open ∷ rules_among (map rules_of (out-Typed l.tree).children) (suc (length l.fn.list.items)));
  last : last_among (map rules_of (drop l.operand-index l.operand-items)) (length l.list.items) l.last
      ≡ last_among (map rules_of (out-Typed l.tree).children) (suc (length l.fn.list.items)) (length l.fn.list.items);
}
