use Rattle.std.proofs.Common.{◌≡◌, map, take}
use Rattle.c_types.specs.Types.{qualified_of}
use Rattle.type_linkage.specs.Library.{parameter_of}
use Rattle.type_linkage.proofs.library.parameters.Given as goal

abbrev pub invariant-loop-param : goal.invariant-loop-param
invariant-loop-param l = map qualified_of l.quals ≡ map parameter_of (take l.param-index l.params)
