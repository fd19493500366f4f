use Rattle.static_laws.proofs.Reduction.{never_at_all, never_sized}
use Rattle.static_laws.proofs.law_never_races.Goals as goal

pub returns : goal.returns
returns c = record { any = never_at_all; sized = never_sized }
