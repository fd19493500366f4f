use Rattle.std.proofs.Common.{◌+◌, map}
use Rattle.c_types.specs.Types.{type_of, qualified_of, signature_of, params_of}
use Rattle.c_types.proofs.Nodes.{nodes, all_nodes}
use Rattle.type_limits.proofs.limits.+room.Given as goal

abbrev pub decreases-room_behind : goal.decreases-room_behind
decreases-room_behind l = nodes (type_of l.ty.now)

abbrev pub decreases-room_behind_qualified : goal.decreases-room_behind_qualified
decreases-room_behind_qualified l = 1 + nodes (qualified_of l.qual.now).ty

abbrev pub decreases-room_behind_function : goal.decreases-room_behind_function
decreases-room_behind_function l = 2 + nodes (signature_of l.f.now).result + all_nodes (signature_of l.f.now).params

abbrev pub decreases-room_behind_all : goal.decreases-room_behind_all
decreases-room_behind_all l = all_nodes (params_of (map qualified_of l.params.now))
