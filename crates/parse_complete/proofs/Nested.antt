-- Every expression, declarator and list of specifiers that is spelled is read, wherever tokens for it are left.
use Rattle.std.proofs.Common.{◌≡◌, ℕ, ◌<◌, ◌≤◌, List, [], ◌∷◌, Some, None, arith}
use Rattle.c_lex.specs.declared.token.Word.{Word as AWord}
use Rattle.c_ast.specs.declared.declaration.Base.{Base}
use Rattle.c_ast.specs.declared.declaration.Base.TheBlock.{
  Plain,
  Tagged',
  Base-Tagged-2-None',
  Base-Tagged-2-Some',
  Enumerated',
  Base-Enumerated-1-None',
  Base-Enumerated-1-Some',
  Typedef,
  Fields',
  Assertion',
  Ident,
  Enumerator-value-None',
  Enumerator-value-Some',
  Name,
  Number,
  CharLit,
  Strings as StringsNode,
  Comma',
  Row_of-Expr,
  end_of-Expr,
  more_of-Expr,
  Row_of-Declarator,
  end_of-Declarator,
  more_of-Declarator,
  Row_of-Enumerator,
  end_of-Enumerator,
  more_of-Enumerator,
  Row_of-MemberEntry,
  end_of-MemberEntry,
  more_of-MemberEntry,
  Row_of-Param,
  end_of-Param,
  more_of-Param,
}
use Rattle.c_ast.specs.declared.declaration.MemberEntry.{MemberEntry}
use Rattle.c_ast.specs.declared.declaration.Declarator.{Declarator}
use Rattle.c_ast.specs.declared.declaration.Enumerator.{Enumerator, Enumerator'}
use Rattle.c_ast.specs.declared.expression.Expr.{Expr}
use Rattle.c_ast.specs.declared.expression.ExprNode.{ExprNode}
use Rattle.c_ast.specs.Input.{Input}
use Rattle.c_grammar.specs.Grammar.{IsExpr}
use Rattle.parse_spec.specs.Nested.{expr}
use Rattle.parse_spec.specs.Steps.{left}
use Rattle.parse_complete.proofs.Declarators.{IsDeclared, ident_found, name_found as declared_name, pointer_found}
use Rattle.parse_complete.proofs.Expressions.{
  AreRead,
  name_found,
  number_found,
  char_found,
  strings_found,
  postfix_found,
  index_found,
  dot_found,
  arrow_found,
  unary_found,
  binary_found,
  cond_found,
  assign_found,
  call_found,
  comma_found,
  cast_found,
  sizeof_expr_found,
  sizeof_type_found,
  alignof_type_found,
}
use Rattle.parse_complete.proofs.Members.{
  AreNames,
  IsMember,
  AreMembers,
  IsEnumerator,
  AreEnumerators,
  fields_found,
  member_assertion_found,
  bare_enumerator_found,
  valued_enumerator_found,
  typedef_found,
  defined_found,
  tag_found,
  enumeration_found,
  enumeration_tag_found,
}
use Rattle.parse_complete.proofs.Parens.{IsRead, operand_expr}
use Rattle.parse_complete.proofs.Specifiers.{IsSpecified, plain_found}
use Rattle.parse_complete.proofs.Suffixes.{AreParams, array_found, array_of_found, function_found}
use Rattle.parse_complete.proofs.Tables.{grip}
use Rattle.parse_complete.proofs.Trees.{
  unary,
  postfix,
  binary,
  assign,
  cond,
  index,
  dot,
  arrow,
  call,
  cast,
  sizeof_expr,
  sizeof_type,
  alignof_type,
  pointer,
  array,
  array_of,
  function,
}

mutual
  pub read : (a : ExprNode) → IsRead a
  read (Name n) = name_found n
  read (Number n) = number_found n
  read (CharLit n) = char_found n
  read (StringsNode n count) = strings_found n count
  read (unary o i a) = unary_found o i a (read a)
  read (postfix o i a) = postfix_found o i a (read a)
  read (binary o i a j b) = binary_found o i a j b (read a) (read b)
  read (assign o i a j b) = assign_found o i a j b (read a) (read b)
  read (cond i a j b l c) = cond_found i a j b l c (read a) (read b) (read c)
  read (index i a j b) = index_found i a j b (read a) (read b)
  read (dot i a n) = dot_found i a n (read a)
  read (arrow i a n) = arrow_found i a n (read a)
  read (call i f n row) = call_found i f n row (read f) (reads row)
  read (Comma' n row) = comma_found n row (reads row)
  read (cast words b e i a) = cast_found words b e i a (specified b words) (are_declared e) (read a)
  read (sizeof_expr i a) = sizeof_expr_found i a (read a)
  read (sizeof_type words b e) = sizeof_type_found words b e (specified b words) (are_declared e)
  read (alignof_type words b e) = alignof_type_found words b e (specified b words) (are_declared e)

  reads : {n : _} (row : Row_of-Expr n) → AreRead row
  reads end_of-Expr = tt
  reads (more_of-Expr i a row) = (read a, reads row)

  pub are_declared : (e : Declarator) → IsDeclared e
  are_declared (Ident None) = ident_found
  are_declared (Ident (Some n)) = declared_name n
  are_declared (pointer words e) = pointer_found words e (are_declared e)
  are_declared (array e) = array_found e (are_declared e)
  are_declared (array_of e i a) = array_of_found e i a (are_declared e) (read a)
  are_declared (function e n row ellipsis) = function_found e n row ellipsis (are_declared e) (all_params row)

  pub specified : (b : Base) (words : List AWord) → IsSpecified b words
  specified Plain [] = λ allowed tags s t h. absurd h
  specified Plain (a ∷ words) = plain_found a words
  specified (Typedef n) words = typedef_found n words
  specified (Tagged' union tag Base-Tagged-2-None') words = tag_found union tag words
  specified (Tagged' union tag (Base-Tagged-2-Some' n row)) words = defined_found union tag n row words (all_members row)
  specified (Enumerated' tag Base-Enumerated-1-None') words = enumeration_tag_found tag words
  specified (Enumerated' tag (Base-Enumerated-1-Some' n row)) words = enumeration_found tag n row words (all_enumerators row)

  all_params : {n : _} (row : Row_of-Param n) → AreParams row
  all_params end_of-Param = tt
  all_params (more_of-Param words b e rest) = (specified b words, (are_declared e, all_params rest))

  all_names : {n : _} (row : Row_of-Declarator n) → AreNames row
  all_names end_of-Declarator = tt
  all_names (more_of-Declarator e rest) = (are_declared e, all_names rest)

  all_members : {n : _} (row : Row_of-MemberEntry n) → AreMembers row
  all_members end_of-MemberEntry = tt
  all_members (more_of-MemberEntry a rest) = (member a, all_members rest)

  member : (a : MemberEntry) → IsMember a
  member (Fields' words b n row) = fields_found words b n row (specified b words) (all_names row)
  member (Assertion' i a n) = member_assertion_found i a n (read a)

  all_enumerators : {n : _} (row : Row_of-Enumerator n) → AreEnumerators row
  all_enumerators end_of-Enumerator = tt
  all_enumerators (more_of-Enumerator a rest) = (enumerator a, all_enumerators rest)

  enumerator : (a : Enumerator) → IsEnumerator a
  enumerator (Enumerator' n Enumerator-value-None') = bare_enumerator_found n
  enumerator (Enumerator' n (Enumerator-value-Some' i a)) = valued_enumerator_found n i a (read a)

-- what spells an expression of a level is read as that expression, where nothing goes on with it
pub expr_read : (e : Expr) (l : ℕ) → l ≤ 13 → (s t : Input) → IsExpr l e s t → grip t ≤ l → (d : ℕ) → left s < d → expr d l s ≡ Some (e, t)
expr_read e l high s t h stop d lt = operand_expr e.node (read e.node) e.at l (omega arith) s t h stop (omega arith) d lt
