use Rattle.std.proofs.Common.{◌≡◌, ap, arith}
use Rattle.parse_cursor.proofs.Turns.{deeper}
use Rattle.parse_spec.specs.Statements.{statement}
use Rattle.parse_statements.proofs.statement.+stmt.Goals as goal

pub returns-then-depth-eq0 : goal.returns-then-depth-eq0
unfolding statement
returns-then-depth-eq0 t c _ = let none : c.args.depth ≡ 0 = omega arith in ap (λ n. statement n c.args.tokens.now) none

pub returns : goal.returns
unfolding statement
returns t c = rw (deeper (λ n. statement n c.args.tokens.now) c.args.depth (omega arith)) c.one_stmt.ensures
