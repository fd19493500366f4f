-- Expressions, declarators and specifiers, as they nest in one another.
use Rattle.std.proofs.Common.{◌≡◌, ℕ, zero, suc, ◌<◌, Bool, length, Some, refl}
use Rattle.c_lex.specs.TokenText.{TokenText}
use Rattle.c_lex.specs.declared.token.Word.{Word as AWord}
use Rattle.c_ast.specs.declared.declaration.Declarator.{Declarator}
use Rattle.c_ast.specs.Input.{Input}
use Rattle.c_ast.specs.Names.{ExprNames, DeclaratorNames, SpecsName}
use Rattle.c_grammar.specs.Grammar.{Mode, name_of}
use Rattle.parse_spec.specs.Nested.{expr, declarator, specs}
use Rattle.parse_names.proofs.Expressions.{level_reads}
use Rattle.parse_names.proofs.Reading.{Reads, refuse_reads, given}
use Rattle.parse_names.proofs.Specifiers.{one_declarator_reads, specifiers_reads}
use Rattle.parse_names.proofs.Within.{name_within}

mutual
  unfolding expr

  pub expr_reads : (t : TokenText) (depth least : ℕ) → Reads t (ExprNames t) (expr depth least)
  expr_reads t zero least = refuse_reads
  expr_reads t (suc depth) least =
      level_reads t (expr depth) (declarator depth) (specs depth) (expr_reads t depth) (declarator_reads t depth) (specs_reads t depth) least

  pub declarator_reads : (t : TokenText) (depth : ℕ) (mode : Mode) → Reads t (DeclaratorNames t) (declarator depth mode)
  declarator_reads t zero mode = refuse_reads
  declarator_reads t (suc depth) mode =
      one_declarator_reads t (expr depth) (declarator depth) (specs depth) (expr_reads t depth) (declarator_reads t depth) (specs_reads t depth) mode

  pub specs_reads : (t : TokenText) (depth : ℕ) (allowed : AWord → Bool) → Reads t (SpecsName t) (specs depth allowed)
  specs_reads t zero allowed = refuse_reads
  specs_reads t (suc depth) allowed =
      specifiers_reads t (expr depth) (declarator depth) (specs depth) (expr_reads t depth) (declarator_reads t depth) (specs_reads t depth) allowed

-- the numbers in a declarator are those of tokens, and the tokens stay as they are
pub declarator_names : (depth : ℕ) (mode : Mode) (i j : Input) (d : Declarator) → declarator depth mode i ≡ Some (d, j)
    → DeclaratorNames i.tokens d × (j.tokens ≡ i.tokens)
declarator_names depth mode i j d e =
    let both = given i.tokens (DeclaratorNames i.tokens) (declarator depth mode i) d j ((declarator_reads i.tokens depth mode).reads i refl) e in
    (both.1, both.0)

-- ..and so is its name
pub declarator_name_within : (depth : ℕ) (mode : Mode) (i j : Input) (d : Declarator) (n : ℕ) → declarator depth mode i ≡ Some (d, j) → name_of d ≡ Some n
    → n < length i.tokens.list
declarator_name_within depth mode i j d n e named = name_within i.tokens d n (declarator_names depth mode i j d e).0 named
