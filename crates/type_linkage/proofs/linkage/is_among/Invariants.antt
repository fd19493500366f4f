use Rattle.std.proofs.Common.{◌≡◌, map, drop}
use Rattle.c_types.specs.Types.{qualified_of}
use Rattle.typing_env.specs.Names.{is_among}
use Rattle.type_linkage.proofs.linkage.is_among.Given as goal

abbrev pub invariant-loop-known : goal.invariant-loop-known
invariant-loop-known l =
    is_among (qualified_of l.qual) (map qualified_of (drop l.known-index l.types)) ≡ is_among (qualified_of l.qual) (map qualified_of l.types)
