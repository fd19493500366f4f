use Rattle.finding_laws.proofs.ByBytes.{conflicts_told, races_told}
use Rattle.finding_laws.proofs.law_conflicts_told.Goals as goal

pub returns : goal.returns
returns c = record { any = conflicts_told; races = races_told }
