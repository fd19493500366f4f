use Rattle.std.proofs.Common.{map, ◌∙◌, string_bytes, inl, arith}
use Rattle.command.proofs.Words.{has_subcommand_of}
use Rattle.command.proofs.read.read_words.Goals as goal

pub unwrap-requires : goal.unwrap-requires
unwrap-requires c =
    c.subcommand.ensures.variant
    ∙ has_subcommand_of (map string_bytes c.args.words.now) c.in_ok-matches.matches c.in_ok-matches.ensures.taken c.in_ok-matches.ensures.matches

pub returns-in_err-matches-clause-usage : goal.returns-in_err-matches-clause-usage
returns-in_err-matches-clause-usage c = λ is. inl (c.in_err-matches.ensures.usage (grind (arith, c.from_residual.ensures, is)))
