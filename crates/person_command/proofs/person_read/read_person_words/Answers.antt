use Rattle.std.proofs.Common.{map, ◌∙◌, string_bytes}
use Rattle.person_command.proofs.PersonWords.{has_subcommand_of}
use Rattle.person_command.proofs.person_read.read_person_words.Goals as goal

pub unwrap-requires : goal.unwrap-requires
unwrap-requires c =
    c.subcommand.ensures.variant
    ∙ has_subcommand_of (map string_bytes c.args.words.now) c.in_ok-matches.matches c.in_ok-matches.ensures.taken c.in_ok-matches.ensures.matches
