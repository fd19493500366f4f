-- The name that a declarator declares.
use Rattle.std.proofs.Common.{◌≡◌, Bool, List, Option, Some, None, refl, ap, ◌∙◌}
use denote.Hole.Carrier.{hidden}
use Rattle.c_lex.specs.declared.token.Word.{Word as AWord}
use Rattle.c_ast.specs.declared.declaration.Declarator.{Declarator}
use Rattle.c_ast.specs.declared.declaration.Declarator.TheVariants as decl
use Rattle.c_ast.specs.declared.declaration.Param.{Param}
use Rattle.c_ast.specs.declared.expression.Expr.{Expr}
use Rattle.c_ast.specs.declared.declaration.Base.TheBlock.{hidden-the_row-Declarator-2, hidden-the_row-Expr-3}
use Rattle.c_grammar.specs.Grammar.{name_of}

pub name_pointer : (d e : Declarator) (words : List AWord) → d ≡ decl.Pointer words e → name_of d ≡ name_of e
unfolding hidden-the_row-Declarator-2 hidden
name_pointer d e words is = ap name_of is

name_array_of : (e : Declarator) (o : Option Expr) → name_of (decl.Array e o) ≡ name_of e
unfolding hidden-the_row-Declarator-2 hidden-the_row-Expr-3 hidden
name_array_of e None = refl
name_array_of e (Some x) = refl

pub name_array : (d e : Declarator) (o : Option Expr) → d ≡ decl.Array e o → name_of d ≡ name_of e
name_array d e o is = ap name_of is ∙ name_array_of e o

pub name_function : (d e : Declarator) (ps : List Param) (more : Bool) → d ≡ decl.Function e ps more → name_of d ≡ name_of e
unfolding hidden-the_row-Declarator-2 hidden
name_function d e ps more is = ap name_of is
