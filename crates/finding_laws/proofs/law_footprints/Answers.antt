use Rattle.finding_laws.proofs.Bytes.{empty_is, add_is, union_is}
use Rattle.finding_laws.proofs.law_footprints.Goals as goal

pub returns : goal.returns
returns c = record { empty = empty_is; more = add_is; both = union_is }
