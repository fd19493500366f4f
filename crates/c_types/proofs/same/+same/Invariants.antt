use Rattle.std.proofs.Common.{◌+◌, map}
use Rattle.c_types.specs.Types.{type_of, qualified_of, signature_of, params_of}
use Rattle.c_types.proofs.Nodes.{nodes, all_nodes}
use Rattle.c_types.proofs.same.+same.Given as goal

abbrev pub decreases-is_equal : goal.decreases-is_equal
decreases-is_equal l = nodes (type_of l.a.now)

abbrev pub decreases-is_equal_qualified : goal.decreases-is_equal_qualified
decreases-is_equal_qualified l = 1 + nodes (qualified_of l.a.now).ty

abbrev pub decreases-is_equal_function : goal.decreases-is_equal_function
decreases-is_equal_function l = 2 + nodes (signature_of l.f.now).result + all_nodes (signature_of l.f.now).params

abbrev pub decreases-are_equal : goal.decreases-are_equal
decreases-are_equal l = 1 + all_nodes (params_of (map qualified_of l.a.now))
