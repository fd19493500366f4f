use Rattle.std.proofs.Common.{◌<◌, ◌^◌, [], refl, arith}
use Rattle.mem_spec.specs.Streams.{silent}
use Rattle.c_model.specs.World.{profile_limits}
use Rattle.c_model.specs.Examples.{world_of, local_rows, quit_alone}
use Rattle.order_laws.specs.CleanPrograms.{call_beside}
use Rattle.order_laws.proofs.CleanFinding.{clean_in_every_order}
use Rattle.order_laws.proofs.law_clean_programs.Goals as goal

below : profile_limits.created < 2 ^ 62
below = omega arith

pub returns-clause-call_beside : goal.returns-clause-call_beside
returns-clause-call_beside c = clean_in_every_order (world_of call_beside local_rows) 20 [] [] 2 silent 17 refl below refl

pub returns-clause-quit_alone : goal.returns-clause-quit_alone
returns-clause-quit_alone c = clean_in_every_order (world_of quit_alone local_rows) 20 [] [] 3 silent 7 refl below refl
