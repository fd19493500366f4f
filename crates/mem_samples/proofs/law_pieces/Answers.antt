use Rattle.std.proofs.Common.{refl}
use Rattle.mem_samples.proofs.law_pieces.Goals as goal

pub returns : goal.returns
returns c = λ s. record {
  bytes_one_by_one_given = refl;
  pieces_out_of_order_given = refl;
  block_of_pieces_given = refl;
  half_overwritten_given = refl;
  pieces_of_two_pointers_given = refl;
  byte_of_an_ambiguity_given = refl;
  null_in_memory_given = refl;
  function_pointers_given = refl;
  structure_copied_given = refl;
  union_copied_given = refl;
  tags_copied_given = refl;
}
