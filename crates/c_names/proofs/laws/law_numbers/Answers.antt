use Rattle.c_names.proofs.Once.{numbers_name_one_frame}
use Rattle.c_names.proofs.laws.law_numbers.Goals as goal

pub returns : goal.returns
returns c = numbers_name_one_frame
