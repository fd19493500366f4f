-- The unary operator of a punctuator, by what is known of the one that was found.
use Rattle.std.proofs.Common.{◌≡◌, ◌≢◌, ℕ, Bool, refl, sym, ap, ◌∙◌, Option, Some, None, IfSome, IfNone}
use Rattle.c_lex.specs.declared.token.Mark.{Mark}
use Rattle.c_lex.specs.declared.token.Mark.TheVariants as m
use Rattle.c_lex.specs.declared.token.TokenKind.TheVariants as token
use Rattle.c_lex.specs.declared.token.Word.{Word as AWord}
use Rattle.c_ast.specs.declared.declaration.Declarator.{Declarator}
use Rattle.c_ast.specs.declared.declaration.Specs.{Specs}
use Rattle.c_ast.specs.declared.expression.Expr.{Expr}
use Rattle.c_ast.specs.declared.expression.UnaryOp.{UnaryOp}
use Rattle.c_ast.specs.declared.expression.UnaryOp.TheVariants as u
use Rattle.c_ast.specs.Input.{Input}
use Rattle.c_grammar.specs.Grammar.{Mode}
use Rattle.c_grammar.specs.Operators.{unary_mark}
use Rattle.parse_spec.specs.Expressions.{prefix_by}
use Rattle.parse_spec.specs.Operators.{unary_op}
use Rattle.parse_spec.specs.Steps.{Parser}

of_unary_mark : (op : UnaryOp) → unary_op (unary_mark op) ≡ Some op
of_unary_mark u.Address = refl
of_unary_mark u.Deref = refl
of_unary_mark u.Plus = refl
of_unary_mark u.Minus = refl
of_unary_mark u.Tilde = refl
of_unary_mark u.Not = refl
of_unary_mark u.Increment = refl
of_unary_mark u.Decrement = refl

no_unary_op : (mark : Mark) → ((op : UnaryOp) → unary_mark op ≢ mark) → unary_op mark ≡ None
no_unary_op m.Ampersand other = absurd (other u.Address refl)
no_unary_op m.Star other = absurd (other u.Deref refl)
no_unary_op m.Plus other = absurd (other u.Plus refl)
no_unary_op m.Minus other = absurd (other u.Minus refl)
no_unary_op m.Tilde other = absurd (other u.Tilde refl)
no_unary_op m.Bang other = absurd (other u.Not refl)
no_unary_op m.PlusPlus other = absurd (other u.Increment refl)
no_unary_op m.MinusMinus other = absurd (other u.Decrement refl)
no_unary_op _ other = refl

pub unary_op_found : (mark : Mark) (r : Option UnaryOp) → IfSome r (λ op. unary_mark op ≡ mark) → IfNone r ((op : UnaryOp) → unary_mark op ≢ mark)
    → unary_op mark ≡ r
unary_op_found mark (Some op) is other = ap unary_op (sym is) ∙ of_unary_mark op
unary_op_found mark None is other = no_unary_op mark other

-- no unary expression begins with this punctuator
pub no_prefix : (expr : ℕ → Parser Expr) (declarator : Mode → Parser Declarator) (specs : (AWord → Bool) → Parser Specs) (at least : ℕ)
    (mark : Mark) (i : Input) → mark ≢ m.OpenParen → ((op : UnaryOp) → unary_mark op ≢ mark)
    → prefix_by expr declarator specs at least (Some (token.Punct mark)) i ≡ None
no_prefix expr declarator specs at least m.Ampersand i bracket other = absurd (other u.Address refl)
no_prefix expr declarator specs at least m.Star i bracket other = absurd (other u.Deref refl)
no_prefix expr declarator specs at least m.Plus i bracket other = absurd (other u.Plus refl)
no_prefix expr declarator specs at least m.Minus i bracket other = absurd (other u.Minus refl)
no_prefix expr declarator specs at least m.Tilde i bracket other = absurd (other u.Tilde refl)
no_prefix expr declarator specs at least m.Bang i bracket other = absurd (other u.Not refl)
no_prefix expr declarator specs at least m.PlusPlus i bracket other = absurd (other u.Increment refl)
no_prefix expr declarator specs at least m.MinusMinus i bracket other = absurd (other u.Decrement refl)
no_prefix expr declarator specs at least m.OpenParen i bracket other = absurd (bracket refl)
no_prefix expr declarator specs at least _ i bracket other = refl
