-- No entry is of an item that is remembered.
use Rattle.evaluation_log.proofs.RememberedLemmas.{NoneRemembered}
use Rattle.evaluation_log.proofs.known.Known.new.Given as goal

abbrev pub invariant-loop : goal.invariant-loop
invariant-loop l = NoneRemembered l.entries.items
