use Rattle.std.proofs.Common.{arith}
use Rattle.c_lex.proofs.Spans.{room}
use Rattle.c_lex.proofs.token_list.Tokens.len.Goals as goal

pub overflow_cast-result : goal.overflow_cast-result
overflow_cast-result c = let few = room 0 _ _ c.self.invariant.rise in let small = c.self.invariant.small in omega arith

pub returns-clause-few : goal.returns-clause-few
returns-clause-few c = let few = room 0 _ _ c.self.invariant.rise in let small = c.self.invariant.small in omega arith
