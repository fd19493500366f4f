-- Expressions (6.5): what the parser answers, by the parsers of expressions, declarators and specifiers that nest in them.
use Rattle.std.specs.Prelude.{ℕ, zero, suc, ◌+◌, ◌==◌, Bool, true, false, not, ◌&&◌, if◌then◌else◌, nat_le, nat_lt, List, [], ◌∷◌, ◌++◌, Option, Some, None}
use Rattle.c_lex.specs.declared.token.TokenKind.{TokenKind}
use Rattle.c_lex.specs.declared.token.TokenKind.TheVariants as token
use Rattle.c_lex.specs.declared.token.Word.{Word as AWord}
use Rattle.c_lex.specs.declared.token.Word.TheVariants as w
use Rattle.c_lex.specs.declared.token.Mark.{Mark as AMark}
use Rattle.c_lex.specs.declared.token.Mark.TheVariants as m
use Rattle.c_ast.specs.declared.declaration.Declarator.{Declarator}
use Rattle.c_ast.specs.declared.declaration.Specs.{Specs}
use Rattle.c_ast.specs.declared.declaration.TypeName.{TypeName}
use Rattle.c_ast.specs.declared.expression.Expr.{Expr}
use Rattle.c_ast.specs.declared.expression.ExprNode.{ExprNode}
use Rattle.c_ast.specs.declared.expression.ExprNode.TheVariants as node
use Rattle.c_ast.specs.declared.expression.UnaryOp.{UnaryOp}
use Rattle.c_ast.specs.declared.expression.PostOp.TheVariants as post-op
use Rattle.c_ast.specs.declared.expression.BinaryOp.{BinaryOp}
use Rattle.c_ast.specs.declared.expression.AssignOp.{AssignOp}
use Rattle.c_ast.specs.Input.{Input, kind, next, is_typedef}
use Rattle.c_grammar.specs.Operators as op
use Rattle.c_grammar.specs.Grammar.{Mode, Abstract}
use Rattle.c_grammar.specs.Rules.{is_qualified_word}
use Rattle.parse_spec.specs.Operators.{binary_op, assign_op, unary_op, tight_of}
use Rattle.parse_spec.specs.Places.{begins_type_after}
use Rattle.parse_spec.specs.Steps.{Parser, ◌>>=◌, ◌>>◌, pure, refuse, turns, sees, take_token, eat, expect, mark_of, identifier, strings}

abbrev pub made : ℕ → ExprNode → Expr
made at node = record { at = at; node = node }

-- the expression that the next token is alone
abbrev pub leaf : ExprNode → Parser Expr
leaf node = λ i. Some (made i.at node, next i)

unfoldable pub name_expr : Parser Expr
name_expr = λ i. (if is_typedef i then refuse else leaf (node.Name i.at)) i

unfoldable pub string_expr : Parser Expr
string_expr = λ i. (do count ← strings; pure (made i.at (node.Strings i.at count))) i

unfoldable pub tight : Input → ℕ
tight i = tight_of (mark_of (kind i))

-- a cast comes next
abbrev pub begins_cast : Input → Bool
begins_cast i = sees m.OpenParen i && begins_type_after i

abbrev pub binary_sign : Option AMark → Option BinaryOp
binary_sign (Some mark) = binary_op mark
binary_sign None = None

-- only a unary expression is assigned to (6.5.16): `lone` says that this is one
abbrev pub assignment_sign : Bool → Option AMark → Option AssignOp
assignment_sign true (Some mark) = assign_op mark
assignment_sign _ _ = None

module _ (expr : ℕ → Parser Expr) (declarator : Mode → Parser Declarator) (specs : (AWord → Bool) → Parser Specs) where
  -- after the opening parenthesis
  unfoldable pub inside : Parser Expr
  inside = do
    e ← expr op.comma
    expect m.CloseParen
    pure e

  abbrev pub primary_by : Option TokenKind → Parser Expr
  primary_by (Some token.Name) = name_expr
  primary_by (Some token.Number) = λ i. leaf (node.Number i.at) i
  primary_by (Some token.CharLit) = λ i. leaf (node.CharLit i.at) i
  primary_by (Some token.StringLit) = string_expr
  primary_by (Some (token.Punct m.OpenParen)) = take_token >> inside
  primary_by _ = refuse

  unfoldable pub primary : Parser Expr
  primary = λ i. primary_by (kind i) i

  unfoldable pub arguments_from : ℕ → List Expr → Parser (List Expr)
  arguments_from zero found = refuse
  arguments_from (suc n) found = do
    e ← expr op.assignment
    more ← eat m.Comma
    if more then arguments_from n (found ++ e ∷ []) else pure (found ++ e ∷ [])

  unfoldable pub argument_list : Parser (List Expr)
  argument_list = λ i. arguments_from (turns i) [] i

  -- after the opening parenthesis
  unfoldable pub arguments : Parser (List Expr)
  arguments = do
    none ← eat m.CloseParen
    if none then pure [] else (do found ← argument_list; expect m.CloseParen; pure found)

  unfoldable pub subscript : Parser Expr
  subscript = do
    e ← expr op.comma
    expect m.CloseBracket
    pure e

  -- one postfix operator, after its first token
  abbrev pub post_by : ℕ → Expr → Option AMark → Parser Expr
  post_by at left (Some m.OpenParen) = do found ← arguments; pure (made at (node.Call left found))
  post_by at left (Some m.OpenBracket) = do e ← subscript; pure (made at (node.Index left e))
  post_by at left (Some m.Dot) = do n ← identifier; pure (made at (node.Dot left n))
  post_by at left (Some m.Arrow) = do n ← identifier; pure (made at (node.Arrow left n))
  post_by at left (Some m.PlusPlus) = pure (made at (node.Postfix post-op.Increment left))
  post_by at left _ = pure (made at (node.Postfix post-op.Decrement left))

  unfoldable pub post : ℕ → Expr → Parser Expr
  post at left = λ i. post_by at left (mark_of (kind i)) (next i)

  unfoldable pub posts_from : ℕ → ℕ → Expr → Parser Expr
  posts_from at zero left = refuse
  posts_from at (suc n) left = λ i. (if nat_le (tight i) op.postfix then pure left else (post at left >>= posts_from at n)) i

  unfoldable pub posts : ℕ → Expr → Parser Expr
  posts at left = λ i. posts_from at (turns i) left i

  -- a type name in parentheses
  unfoldable pub type_name : Parser TypeName
  type_name = do
    expect m.OpenParen
    s ← specs is_qualified_word
    d ← declarator Abstract
    expect m.CloseParen
    pure (record { specs = s; declarator = d })

  unfoldable pub casted : ℕ → Parser Expr
  casted at = do
    to ← type_name
    e ← expr op.cast
    pure (made at (node.Cast to e))

  -- after `sizeof`
  unfoldable pub size : ℕ → Parser Expr
  size at = λ i.
      (if begins_cast i then (do of ← type_name; pure (made at (node.SizeofType of)))
      else (do e ← expr op.unary; pure (made at (node.SizeofExpr e)))) i

  -- after `_Alignof`
  unfoldable pub alignment : ℕ → Parser Expr
  alignment at = do
    of ← type_name
    pure (made at (node.AlignofType of))

  unfoldable pub chained : ℕ → Parser Expr
  chained at = do
    e ← primary
    posts at e

  -- at an opening parenthesis; a cast is no unary expression
  unfoldable pub bracketed : ℕ → ℕ → Parser Expr
  bracketed at least = λ i.
      (if begins_type_after i then (if nat_lt op.cast least then refuse else casted at) else chained at) i

  unfoldable pub operated : ℕ → UnaryOp → Parser Expr
  operated at o = take_token >> (do e ← expr (op.operand_level o); pure (made at (node.Unary o e)))

  abbrev pub operated_by : ℕ → Option UnaryOp → Parser Expr
  operated_by at (Some o) = operated at o
  operated_by at None = refuse

  abbrev pub prefix_by : ℕ → ℕ → Option TokenKind → Parser Expr
  prefix_by at least (Some (token.Keyword w.Sizeof)) = take_token >> size at
  prefix_by at least (Some (token.Keyword w.Alignof)) = take_token >> alignment at
  prefix_by at least (Some (token.Punct m.OpenParen)) = bracketed at least
  prefix_by at least (Some (token.Punct mark)) = operated_by at (unary_op mark)
  prefix_by at least _ = chained at

  -- a cast expression, and a unary expression where the level asks for one
  unfoldable pub prefix : ℕ → Parser Expr
  prefix least = λ i. prefix_by i.at least (kind i) i

  -- after the `?`
  unfoldable pub choice : ℕ → Expr → Parser Expr
  choice at test = do
    b ← expr op.comma
    expect m.Colon
    c ← expr op.conditional
    pure (made at (node.Cond test b c))

  abbrev pub assigned_by : ℕ → Expr → Option AssignOp → Parser Expr
  assigned_by at left (Some o) = take_token >> (do e ← expr op.assignment; pure (made at (node.Assign o left e)))
  assigned_by at left None = refuse

  unfoldable pub assigned : ℕ → Bool → Expr → Parser Expr
  assigned at lone left = λ i. assigned_by at left (assignment_sign lone (mark_of (kind i))) i

  abbrev pub joined_by : ℕ → Bool → Expr → Option BinaryOp → Parser Expr
  joined_by at lone left (Some o) = take_token >> (do e ← expr (op.level_of o + 1); pure (made at (node.Binary o left e)))
  joined_by at lone left None = assigned at lone left

  -- a binary operator or an assignment, after what stands before it
  unfoldable pub joined : ℕ → Bool → Expr → Parser Expr
  joined at lone left = λ i. joined_by at lone left (binary_sign (mark_of (kind i))) i

  unfoldable pub step : ℕ → Bool → Expr → Parser Expr
  step at lone left = do
    question ← eat m.Question
    if question then choice at left else joined at lone left

  unfoldable pub climb : ℕ → ℕ → ℕ → Bool → Expr → Parser Expr
  climb least at zero lone left = refuse
  climb least at (suc n) lone left = λ i.
      (if nat_le (tight i) least then pure left else (step at lone left >>= climb least at n false)) i

  unfoldable pub climbed : ℕ → ℕ → Bool → Expr → Parser Expr
  climbed least at lone left = λ i. climb least at (turns i) lone left i

  -- an expression of this level or a tighter one, from an assignment expression on
  unfoldable pub operators : ℕ → Parser Expr
  operators least = λ i. (do e ← prefix least; climbed least i.at (not (begins_cast i)) e) i

  unfoldable pub commas_from : ℕ → ℕ → List Expr → Parser Expr
  commas_from at zero found = refuse
  commas_from at (suc n) found = do
    more ← eat m.Comma
    if more then (do e ← operators op.assignment; commas_from at n (found ++ e ∷ [])) else pure (made at (node.Comma found))

  unfoldable pub commas : ℕ → Expr → Parser Expr
  commas at first = λ i. commas_from at (turns i) (first ∷ []) i

  abbrev pub with_commas : ℕ → Expr → Parser Expr
  with_commas at first = λ i. (if sees m.Comma i then commas at first else pure first) i

  unfoldable pub whole : Parser Expr
  whole = λ i. (do e ← operators op.assignment; with_commas i.at e) i

  -- an expression of this level or a tighter one
  unfoldable pub level : ℕ → Parser Expr
  level least = if least == op.comma then whole else operators least
