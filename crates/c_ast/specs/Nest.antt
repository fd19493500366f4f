-- How deep the rules of Annex A nest over a list of tokens, counted over the tokens alone (own).
use Rattle.std.specs.Prelude.{ℕ, ◌+◌, ◌*◌, max, Bool, true, false, if◌then◌else◌, List, [], ◌∷◌, length, Option, Some, None, sum_by}
use Rattle.c_ast.specs.declared.nesting.Level.{Level}
use Rattle.c_lex.specs.declared.token.Token.{Token}
use Rattle.c_lex.specs.declared.token.TokenKind.{TokenKind}
use Rattle.c_lex.specs.declared.token.TokenKind.TheVariants.{Keyword, StringLit, Punct}
use Rattle.c_lex.specs.declared.token.Word.TheVariants as w
use Rattle.c_lex.specs.declared.token.Mark.TheVariants as m

-- the count since the innermost bracket that is open, and those of the brackets round it, from inside
pub record Levels : Type 0 where
  pub top : Level
  pub below : List Level

abbrev pub fresh : Level
fresh = record { count = 0; chooses = false; loops = false }

abbrev pub start : Levels
start = record { top = fresh; below = [] }

-- what all counts come to, with 4 for each bracket that is open
abbrev pub total_of : Levels → ℕ
total_of n = n.top.count + sum_by (λ l. l.count) n.below + 4 * length n.below

abbrev pub more : Level → Level
more l = record l { count = l.count + 1 }

abbrev pub counted : TokenKind → Level → Level
counted (Keyword w.If) l = record (more l) { chooses = true }
counted (Keyword w.Do) l = record (more l) { loops = true }
counted (Punct m.Question) l = record (more l) { chooses = true }
counted _ l = more l

-- the statement goes on behind a `;` or a `}`: with an `else`, or with the `while` of a `do`
abbrev pub goes_on : Option TokenKind → Level → Bool
goes_on (Some (Keyword w.Else)) l = true
goes_on (Some (Keyword w.While)) l = l.loops
goes_on _ l = false

abbrev pub opened : Levels → Levels
opened n = record { top = fresh; below = n.top ∷ n.below }

abbrev pub closed_in : Level → List Level → Levels
closed_in top [] = record { top = more top; below = [] }
closed_in top (l ∷ ls) = record { top = more l; below = ls }

abbrev pub closed : Levels → Levels
closed n = closed_in n.top n.below

abbrev pub with_top : Level → Levels → Levels
with_top l n = record n { top = l }

-- behind a `;` or a `}`
abbrev pub ended : Option TokenKind → Levels → Levels
ended next n = with_top (if goes_on next n.top then n.top else fresh) n

-- behind a `,`
abbrev pub parted : Levels → Levels
parted n = with_top (if n.top.chooses then n.top else fresh) n

-- one token, with the one behind it
abbrev pub step : Option TokenKind → TokenKind → Levels → Levels
step next (Punct m.OpenParen) n = opened n
step next (Punct m.OpenBracket) n = opened n
step next (Punct m.OpenBrace) n = opened n
step next (Punct m.CloseParen) n = closed n
step next (Punct m.CloseBracket) n = closed n
step next (Punct m.CloseBrace) n = ended next (closed n)
step next (Punct m.Semicolon) n = ended next n
step next (Punct m.Comma) n = parted n
step next StringLit n = n
step next kind n = with_top (counted kind n.top) n

abbrev pub first_kind : List Token → Option TokenKind
first_kind [] = None
first_kind (t ∷ ts) = Some t.kind

-- the greatest of the totals from here on
unfoldable pub greatest : Levels → List Token → ℕ
greatest n [] = total_of n
greatest n (t ∷ ts) = max (total_of n) (greatest (step (first_kind ts) t.kind n) ts)

abbrev pub nest_of : List Token → ℕ
nest_of tokens = greatest start tokens
