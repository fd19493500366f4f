use Rattle.value_laws.proofs.Scripts.{library_plain}
use Rattle.value_laws.proofs.Layouts.{call_keeps}
use Rattle.value_laws.proofs.Samples.{pairs_fit, pairs_take}
use Rattle.value_laws.proofs.law_sizes_are_kept.Goals as goal

pub returns : goal.returns
returns c = record { calls = call_keeps; library = library_plain; sample = record { fits = pairs_fit; takes = pairs_take } }
