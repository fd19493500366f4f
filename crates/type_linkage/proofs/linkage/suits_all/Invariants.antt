use Rattle.std.proofs.Common.{◌≡◌, map, drop}
use Rattle.c_types.specs.Types.{qualified_of}
use Rattle.typing_env.specs.Names.{all_alike}
use Rattle.type_linkage.proofs.linkage.suits_all.Given as goal

abbrev pub invariant-loop-known : goal.invariant-loop-known
invariant-loop-known l =
    all_alike (qualified_of l.qual) (map qualified_of (drop l.known-index l.types)) ≡ all_alike (qualified_of l.qual) (map qualified_of l.types)
