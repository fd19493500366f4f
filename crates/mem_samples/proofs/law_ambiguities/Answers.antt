use Rattle.std.proofs.Common.{refl}
use Rattle.mem_samples.proofs.law_ambiguities.Goals as goal

pub returns : goal.returns
returns c = λ s. record {
  access_settles_given = refl;
  arithmetic_settles_given = refl;
  raising_settles_nothing_given = refl;
  exposed_and_live_alone_given = refl;
  pointer_to_nothing_given = refl;
  null_pointers_given = refl;
  one_past_at_most_given = refl;
  one_object_in_common_given = refl;
  two_ambiguities_given = refl;
  both_objects_dead_given = refl;
  blocks_settle_given = refl;
}
