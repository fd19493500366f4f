use Rattle.std.proofs.Common.{◌≡◌, ℕ, ◌+◌, ◌-◌, ◌<◌, Some}
use Rattle.c_lex.specs.TokenText.{kind_at}
use Rattle.c_lex.specs.declared.token.TokenKind.TheVariants as token
use Rattle.parse_spec.specs.Steps.{turns, strings_from}
use Rattle.parse_cursor.proofs.tokens.literals.Given as goal

abbrev pub invariant-loop-turn : goal.invariant-loop-turn
invariant-loop-turn l = record {
  begun : l.first ≡ l.fn.tokens.at;
  to : l.tokens ≡ record l.fn.tokens { at = l.fn.tokens.at + l._turn };
  literals : (k : ℕ) → k < l._turn → kind_at l.fn.tokens.tokens (l.fn.tokens.at + k) ≡ Some token.StringLit;
  read : strings_from (turns l.fn.tokens) 0 l.fn.tokens ≡ strings_from (l._turn-end - l._turn) l._turn l.tokens;
}
