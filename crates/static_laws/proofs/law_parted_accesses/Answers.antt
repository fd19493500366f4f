use Rattle.static_laws.proofs.Reduction.{reads_never, sequenced_never, branches_never, objects_never, bytes_never, wholes_never, only_accesses}
use Rattle.static_laws.proofs.law_parted_accesses.Goals as goal

pub returns : goal.returns
returns c = record {
  reads = reads_never;
  sequenced = sequenced_never;
  branches = branches_never;
  objects = objects_never;
  bytes = bytes_never;
  wholes = wholes_never;
  only = only_accesses;
}
