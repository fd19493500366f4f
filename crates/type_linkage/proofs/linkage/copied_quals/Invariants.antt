use Rattle.std.proofs.Common.{◌≡◌, map, take}
use Rattle.c_types.specs.Types.{qualified_of}
use Rattle.type_linkage.proofs.linkage.copied_quals.Given as goal

abbrev pub invariant-loop-qual : goal.invariant-loop-qual
invariant-loop-qual l = map qualified_of l.copies ≡ map qualified_of (take l.qual-index l.quals)
