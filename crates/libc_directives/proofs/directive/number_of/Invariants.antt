use Rattle.std.proofs.Common.{◌≡◌, drop}
use Rattle.libc_spec.specs.Directives.{number_from}
use Rattle.libc_directives.proofs.directive.number_of.Given as goal

abbrev pub invariant-loop-digit : goal.invariant-loop-digit
invariant-loop-digit l = number_from 0 l.digits ≡ number_from l.number (drop l.digit-index l.digits)
