use Rattle.frame_records.proofs.Picks.{picks_are_so}
use Rattle.frame_records.proofs.law_pick_kinds.Goals as goal

pub returns : goal.returns
returns c = picks_are_so
