use Rattle.frame_numbers.proofs.Numbers.{numbers_stay, started_is, numbers_within, list_numbers, path_is}
use Rattle.frame_numbers.proofs.law_numbers.Goals as goal

pub returns : goal.returns
returns c = record { stay = numbers_stay; started = started_is; within = numbers_within; frames = list_numbers c.law_numbering.ensures; paths = path_is }
