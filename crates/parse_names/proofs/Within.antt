-- The name of a declarator is a token.
use Rattle.std.proofs.Common.{◌≡◌, ℕ, ◌<◌, length, Some, subst}
use Rattle.c_lex.specs.TokenText.{TokenText}
use Rattle.c_lex.specs.declared.token.TokenKind.TheVariants as token
use Rattle.c_ast.specs.declared.declaration.Base.TheBlock.{Ident, Pointer', Array', Function', Row_of-Declarator, end_of-Declarator, more_of-Declarator}
use Rattle.c_ast.specs.declared.declaration.Declarator.{Declarator}
use Rattle.c_ast.specs.Names.{IsName, MaybeName, DeclaratorNames, DeclaratorsName}
use Rattle.c_grammar.specs.Grammar.{name_of, name_in}
use Rattle.parse_names.proofs.Tokens.{kind_within}

mutual
  name_in_is : {r : _} (t : TokenText) (d : Row_of-Declarator r) (n : ℕ) → DeclaratorsName t d → name_in d ≡ Some n → IsName t n
  name_in_is t end_of-Declarator n h e = absurd (cc)
  name_in_is t (more_of-Declarator d rest) n h e = name_is t d n h.0 e

  pub name_is : (t : TokenText) (d : Declarator) (n : ℕ) → DeclaratorNames t d → name_of d ≡ Some n → IsName t n
  name_is t (Ident name) n h e = subst (MaybeName t) e h
  name_is t (Pointer' words p d) n h e = name_in_is t d n h e
  name_is t (Array' p d size) n h e = name_in_is t d n h.0 e
  name_is t (Function' p d q params ellipsis) n h e = name_in_is t d n h.0 e

-- ..and there is such a token
pub name_within : (t : TokenText) (d : Declarator) (n : ℕ) → DeclaratorNames t d → name_of d ≡ Some n → n < length t.list
name_within t d n h e = kind_within t n token.Name (name_is t d n h e)
