use Rattle.std.proofs.Common.{◌+◌, map}
use Rattle.c_types.specs.Types.{type_of, qualified_of, signature_of, params_of}
use Rattle.c_types.proofs.Nodes.{nodes, all_nodes}
use Rattle.c_types.proofs.agree.+matches.Given as goal

abbrev pub decreases-matches : goal.decreases-matches
decreases-matches l = nodes (type_of l.a.now)

abbrev pub decreases-alike : goal.decreases-alike
decreases-alike l = 1 + nodes (qualified_of l.a.now).ty

abbrev pub decreases-same_signature : goal.decreases-same_signature
decreases-same_signature l = 2 + nodes (signature_of l.f.now).result + all_nodes (signature_of l.f.now).params

abbrev pub decreases-each_matches : goal.decreases-each_matches
decreases-each_matches l = all_nodes (params_of (map qualified_of l.a.now))
