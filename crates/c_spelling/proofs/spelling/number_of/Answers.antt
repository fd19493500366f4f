use Rattle.std.proofs.lemmas.Map.Text.{hash_map_updates_str}
use Rattle.c_spelling.proofs.spelling.number_of.Goals as goal

pub returns-in_ok-insert-in-None-clause-known : goal.returns-in_ok-insert-in-None-clause-known
returns-in_ok-insert-in-None-clause-known c = λ other.
    hash_map_updates_str c.args.text.now c.args.numbers.now c.insert.new.self _ c.in_ok-insert-in-None.ensures.updates other
