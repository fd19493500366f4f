use Rattle.std.proofs.Common.{refl}
use Rattle.mem_samples.proofs.law_accesses.Goals as goal

pub returns : goal.returns
returns c = λ s. record {
  left_unwritten_given = refl;
  checks_in_order_given = refl;
  dead_target_given = refl;
  bool_of_two_given = refl;
  const_object_given = refl;
  string_literal_given = refl;
  declared_type_given = refl;
  type_of_last_store_given = refl;
  no_type_from_the_library_given = refl;
  blocks_overlap_given = refl;
  counted_bytes_given = refl;
  not_created_twice_given = refl;
}
