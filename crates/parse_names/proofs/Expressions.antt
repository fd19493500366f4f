-- Expressions: each number in one is that of a token of its kind.
use Rattle.std.proofs.Common.{
  ◌≡◌,
  ℕ,
  zero,
  suc,
  ◌+◌,
  ◌==◌,
  Bool,
  true,
  false,
  not,
  nat_le,
  nat_lt,
  List,
  [],
  ◌∷◌,
  ◌++◌,
  All,
  Option,
  Some,
  None,
  if◌then◌else◌,
}
use Rattle.std.proofs.lemmas.List.Elements.{All-nil, All-cons, All-push}
use Rattle.c_lex.specs.TokenText.{TokenText, kind_at}
use Rattle.c_lex.specs.declared.token.TokenKind.{TokenKind}
use Rattle.c_lex.specs.declared.token.TokenKind.TheVariants as token
use Rattle.c_lex.specs.declared.token.Word.{Word as AWord}
use Rattle.c_lex.specs.declared.token.Word.TheVariants as w
use Rattle.c_lex.specs.declared.token.Mark.{Mark as AMark}
use Rattle.c_lex.specs.declared.token.Mark.TheVariants as m
use Rattle.c_ast.specs.declared.declaration.Declarator.{Declarator}
use Rattle.c_ast.specs.declared.declaration.Specs.{Specs}
use Rattle.c_ast.specs.declared.expression.Expr.{Expr}
use Rattle.c_ast.specs.declared.expression.ExprNode.{ExprNode}
use Rattle.c_ast.specs.declared.expression.ExprNode.TheVariants as node
use Rattle.c_ast.specs.declared.expression.PostOp.TheVariants as post-op
use Rattle.c_ast.specs.declared.expression.UnaryOp.{UnaryOp}
use Rattle.c_ast.specs.declared.expression.BinaryOp.{BinaryOp}
use Rattle.c_ast.specs.declared.expression.AssignOp.{AssignOp}
use Rattle.c_ast.specs.Input.{Input, kind, is_typedef}
use Rattle.c_ast.specs.Names.{NodeNames, ExprNames, TypeNameNames, DeclaratorNames, SpecsName}
use Rattle.c_ast.proofs.Trees.{
  unary_names,
  postfix_names,
  binary_names,
  assign_names,
  cond_names,
  comma_names,
  call_names,
  index_names,
  dot_names,
  arrow_names,
  cast_names,
  sizeof_expr_names,
  sizeof_type_names,
  alignof_type_names,
}
use Rattle.c_grammar.specs.Operators as op
use Rattle.c_grammar.specs.Grammar.{Mode, Abstract}
use Rattle.c_grammar.specs.Rules.{is_qualified_word}
use Rattle.parse_spec.specs.Operators.{unary_op}
use Rattle.parse_spec.specs.Places.{begins_type_after}
use Rattle.parse_spec.specs.Steps.{Parser, refuse, turns, mark_of, sees, strings}
use Rattle.parse_spec.specs.Expressions.{
  made,
  leaf,
  name_expr,
  string_expr,
  tight,
  begins_cast,
  binary_sign,
  assignment_sign,
  inside,
  primary_by,
  primary,
  arguments_from,
  argument_list,
  arguments,
  subscript,
  post_by,
  post,
  posts_from,
  posts,
  type_name,
  casted,
  size,
  alignment,
  chained,
  bracketed,
  operated,
  operated_by,
  prefix_by,
  prefix,
  choice,
  assigned_by,
  assigned,
  joined_by,
  joined,
  step,
  climb,
  climbed,
  operators,
  commas_from,
  commas,
  whole,
  level,
}
use Rattle.parse_spec.proofs.Adding.{take_adds, eat_adds, expect_adds}
use Rattle.parse_names.proofs.Reading.{Gives, Reads, pure_reads, refuse_reads, bind_gives, bind_reads, skip_reads, then_reads, if_reads, here_reads}
use Rattle.parse_names.proofs.Tokens.{tokens_stay, kind_of_next, identifier_reads, strings_gives}

-- ---- single tokens

leaf_gives : (t : TokenText) (i : Input) (n : ExprNode) → i.tokens ≡ t → NodeNames t n → Gives t (ExprNames t) (leaf n i)
leaf_gives t i n same h = (tokens_stay t i same, h)

name_case : (t : TokenText) (i : Input) (typedef : Bool) → i.tokens ≡ t → kind_at t i.at ≡ Some token.Name
    → Gives t (ExprNames t) ((if typedef then refuse else leaf (node.Name i.at)) i)
name_case t i true same is = tt
name_case t i false same is = leaf_gives t i (node.Name i.at) same is

name_expr_gives : (t : TokenText) (i : Input) → i.tokens ≡ t → kind_at t i.at ≡ Some token.Name → Gives t (ExprNames t) (name_expr i)
unfolding name_expr
name_expr_gives t i same is = name_case t i (is_typedef i) same is

string_expr_gives : (t : TokenText) (i : Input) → i.tokens ≡ t → Gives t (ExprNames t) (string_expr i)
unfolding string_expr
string_expr_gives t i same = bind_gives (strings i) _ (strings_gives t i same) (λ count h. pure_reads _ h)

module _ (t : TokenText) (expr : ℕ → Parser Expr) (declarator : Mode → Parser Declarator) (specs : (AWord → Bool) → Parser Specs)
    (ge : (least : ℕ) → Reads t (ExprNames t) (expr least)) (gd : (mode : Mode) → Reads t (DeclaratorNames t) (declarator mode))
    (gs : (allowed : AWord → Bool) → Reads t (SpecsName t) (specs allowed)) where
  inside_reads : Reads t (ExprNames t) (inside expr declarator specs)
  unfolding inside
  inside_reads = bind_reads _ _ (ge op.comma) (λ e h. then_reads _ _ (expect_adds m.CloseParen) (pure_reads e h))

  primary_by_gives : (i : Input) (k : Option TokenKind) → i.tokens ≡ t → kind_at t i.at ≡ k → Gives t (ExprNames t) (primary_by expr declarator specs k i)
  primary_by_gives i (Some token.Name) same is = name_expr_gives t i same is
  primary_by_gives i (Some token.Number) same is = leaf_gives t i (node.Number i.at) same is
  primary_by_gives i (Some token.CharLit) same is = leaf_gives t i (node.CharLit i.at) same is
  primary_by_gives i (Some token.StringLit) same is = string_expr_gives t i same
  primary_by_gives i (Some (token.Punct m.OpenParen)) same is = (then_reads _ _ take_adds inside_reads).reads i same
  primary_by_gives i _ same is = tt

  primary_reads : Reads t (ExprNames t) (primary expr declarator specs)
  unfolding primary
  primary_reads = record { reads = λ i same. primary_by_gives i (kind i) same (kind_of_next t i same) }

  arguments_from_reads : (n : ℕ) (found : List Expr) → All (ExprNames t) found → Reads t (All (ExprNames t)) (arguments_from expr declarator specs n found)
  unfolding arguments_from
  arguments_from_reads zero found all = refuse_reads
  arguments_from_reads (suc n) found all = bind_reads _ _ (ge op.assignment) (λ e h.
      let more = All-push (ExprNames t) found e all h in
      skip_reads _ _ (eat_adds m.Comma) (λ comma. if_reads comma _ _ (arguments_from_reads n (found ++ e ∷ []) more) (pure_reads (found ++ e ∷ []) more)))

  argument_list_reads : Reads t (All (ExprNames t)) (argument_list expr declarator specs)
  unfolding argument_list
  argument_list_reads = here_reads _ (λ i. arguments_from_reads (turns i) [] (All-nil (ExprNames t)))

  arguments_reads : Reads t (All (ExprNames t)) (arguments expr declarator specs)
  unfolding arguments
  arguments_reads = skip_reads _ _ (eat_adds m.CloseParen) (λ none. if_reads none _ _ (pure_reads [] (All-nil (ExprNames t)))
      (bind_reads _ _ argument_list_reads (λ found h. then_reads _ _ (expect_adds m.CloseParen) (pure_reads found h))))

  subscript_reads : Reads t (ExprNames t) (subscript expr declarator specs)
  unfolding subscript
  subscript_reads = bind_reads _ _ (ge op.comma) (λ e h. then_reads _ _ (expect_adds m.CloseBracket) (pure_reads e h))

  post_by_reads : (at : ℕ) (left : Expr) (k : Option AMark) → ExprNames t left → Reads t (ExprNames t) (post_by expr declarator specs at left k)
  post_by_reads at left (Some m.OpenParen) l = bind_reads _ _ arguments_reads (λ found h. pure_reads _ (call_names t left found l h))
  post_by_reads at left (Some m.OpenBracket) l = bind_reads _ _ subscript_reads (λ e h. pure_reads _ (index_names t left e l h))
  post_by_reads at left (Some m.Dot) l = bind_reads _ _ (identifier_reads t) (λ n h. pure_reads _ (dot_names t left n l h))
  post_by_reads at left (Some m.Arrow) l = bind_reads _ _ (identifier_reads t) (λ n h. pure_reads _ (arrow_names t left n l h))
  post_by_reads at left (Some m.PlusPlus) l = pure_reads _ (postfix_names t post-op.Increment left l)
  post_by_reads at left _ l = pure_reads _ (postfix_names t post-op.Decrement left l)

  post_reads : (at : ℕ) (left : Expr) → ExprNames t left → Reads t (ExprNames t) (post expr declarator specs at left)
  unfolding post
  post_reads at left l = here_reads _ (λ i. then_reads _ _ take_adds (post_by_reads at left (mark_of (kind i)) l))

  posts_from_reads : (at n : ℕ) (left : Expr) → ExprNames t left → Reads t (ExprNames t) (posts_from expr declarator specs at n left)
  unfolding posts_from
  posts_from_reads at zero left l = refuse_reads
  posts_from_reads at (suc n) left l = here_reads _ (λ i. if_reads (nat_le (tight i) op.postfix) _ _ (pure_reads left l)
      (bind_reads _ _ (post_reads at left l) (λ e h. posts_from_reads at n e h)))

  posts_reads : (at : ℕ) (left : Expr) → ExprNames t left → Reads t (ExprNames t) (posts expr declarator specs at left)
  unfolding posts
  posts_reads at left l = here_reads _ (λ i. posts_from_reads at (turns i) left l)

  type_name_reads : Reads t (TypeNameNames t) (type_name expr declarator specs)
  unfolding type_name
  type_name_reads = then_reads _ _ (expect_adds m.OpenParen) (bind_reads _ _ (gs is_qualified_word) (λ s h. bind_reads _ _ (gd Abstract) (λ d k.
      then_reads _ _ (expect_adds m.CloseParen) (pure_reads _ (h, k)))))

  casted_reads : (at : ℕ) → Reads t (ExprNames t) (casted expr declarator specs at)
  unfolding casted
  casted_reads at = bind_reads _ _ type_name_reads (λ to h. bind_reads _ _ (ge op.cast) (λ e k. pure_reads _ (cast_names t to e h k)))

  size_reads : (at : ℕ) → Reads t (ExprNames t) (size expr declarator specs at)
  unfolding size
  size_reads at = here_reads _ (λ i. if_reads (begins_cast i) _ _
      (bind_reads _ _ type_name_reads (λ of h. pure_reads (made at (node.SizeofType of)) (sizeof_type_names t of h)))
      (bind_reads _ _ (ge op.unary) (λ e h. pure_reads (made at (node.SizeofExpr e)) (sizeof_expr_names t e h))))

  alignment_reads : (at : ℕ) → Reads t (ExprNames t) (alignment expr declarator specs at)
  unfolding alignment
  alignment_reads at = bind_reads _ _ type_name_reads (λ of h. pure_reads _ (alignof_type_names t of h))

  chained_reads : (at : ℕ) → Reads t (ExprNames t) (chained expr declarator specs at)
  unfolding chained
  chained_reads at = bind_reads _ _ primary_reads (λ e h. posts_reads at e h)

  bracketed_reads : (at least : ℕ) → Reads t (ExprNames t) (bracketed expr declarator specs at least)
  unfolding bracketed
  bracketed_reads at least = here_reads _ (λ i.
      if_reads (begins_type_after i) _ _ (if_reads (nat_lt op.cast least) _ _ refuse_reads (casted_reads at)) (chained_reads at))

  operated_by_reads : (at : ℕ) (o : Option UnaryOp) → Reads t (ExprNames t) (operated_by expr declarator specs at o)
  unfolding operated
  operated_by_reads at (Some o) = then_reads _ _ take_adds (bind_reads _ _ (ge (op.operand_level o)) (λ e h. pure_reads _ (unary_names t o e h)))
  operated_by_reads at None = refuse_reads

  prefix_by_reads : (at least : ℕ) (k : Option TokenKind) → Reads t (ExprNames t) (prefix_by expr declarator specs at least k)
  prefix_by_reads at least (Some (token.Keyword w.Sizeof)) = then_reads _ _ take_adds (size_reads at)
  prefix_by_reads at least (Some (token.Keyword w.Alignof)) = then_reads _ _ take_adds (alignment_reads at)
  prefix_by_reads at least (Some (token.Punct m.OpenParen)) = bracketed_reads at least
  prefix_by_reads at least (Some (token.Punct mark)) = operated_by_reads at (unary_op mark)
  prefix_by_reads at least _ = chained_reads at

  prefix_reads : (least : ℕ) → Reads t (ExprNames t) (prefix expr declarator specs least)
  unfolding prefix
  prefix_reads least = here_reads _ (λ i. prefix_by_reads i.at least (kind i))

  choice_reads : (at : ℕ) (test : Expr) → ExprNames t test → Reads t (ExprNames t) (choice expr declarator specs at test)
  unfolding choice
  choice_reads at test l = bind_reads _ _ (ge op.comma) (λ b h. then_reads _ _ (expect_adds m.Colon)
      (bind_reads _ _ (ge op.conditional) (λ c k. pure_reads _ (cond_names t test b c l h k))))

  assigned_by_reads : (at : ℕ) (left : Expr) (o : Option AssignOp) → ExprNames t left → Reads t (ExprNames t) (assigned_by expr declarator specs at left o)
  assigned_by_reads at left (Some o) l = then_reads _ _ take_adds (bind_reads _ _ (ge op.assignment) (λ e h. pure_reads _ (assign_names t o left e l h)))
  assigned_by_reads at left None l = refuse_reads

  assigned_reads : (at : ℕ) (lone : Bool) (left : Expr) → ExprNames t left → Reads t (ExprNames t) (assigned expr declarator specs at lone left)
  unfolding assigned
  assigned_reads at lone left l = here_reads _ (λ i. assigned_by_reads at left (assignment_sign lone (mark_of (kind i))) l)

  joined_by_reads : (at : ℕ) (lone : Bool) (left : Expr) (o : Option BinaryOp) → ExprNames t left
      → Reads t (ExprNames t) (joined_by expr declarator specs at lone left o)
  joined_by_reads at lone left (Some o) l = then_reads _ _ take_adds
      (bind_reads _ _ (ge (op.level_of o + 1)) (λ e h. pure_reads _ (binary_names t o left e l h)))
  joined_by_reads at lone left None l = assigned_reads at lone left l

  joined_reads : (at : ℕ) (lone : Bool) (left : Expr) → ExprNames t left → Reads t (ExprNames t) (joined expr declarator specs at lone left)
  unfolding joined
  joined_reads at lone left l = here_reads _ (λ i. joined_by_reads at lone left (binary_sign (mark_of (kind i))) l)

  one_step_reads : (at : ℕ) (lone : Bool) (left : Expr) → ExprNames t left → Reads t (ExprNames t) (step expr declarator specs at lone left)
  unfolding step
  one_step_reads at lone left l = skip_reads _ _ (eat_adds m.Question)
      (λ question. if_reads question _ _ (choice_reads at left l) (joined_reads at lone left l))

  climb_reads : (least at n : ℕ) (lone : Bool) (left : Expr) → ExprNames t left → Reads t (ExprNames t) (climb expr declarator specs least at n lone left)
  unfolding climb
  climb_reads least at zero lone left l = refuse_reads
  climb_reads least at (suc n) lone left l = here_reads _ (λ i. if_reads (nat_le (tight i) least) _ _ (pure_reads left l)
      (bind_reads _ _ (one_step_reads at lone left l) (λ e h. climb_reads least at n false e h)))

  climbed_reads : (least at : ℕ) (lone : Bool) (left : Expr) → ExprNames t left → Reads t (ExprNames t) (climbed expr declarator specs least at lone left)
  unfolding climbed
  climbed_reads least at lone left l = here_reads _ (λ i. climb_reads least at (turns i) lone left l)

  operators_reads : (least : ℕ) → Reads t (ExprNames t) (operators expr declarator specs least)
  unfolding operators
  operators_reads least = here_reads _ (λ i. bind_reads _ _ (prefix_reads least) (λ e h. climbed_reads least i.at (not (begins_cast i)) e h))

  commas_from_reads : (at n : ℕ) (found : List Expr) → All (ExprNames t) found → Reads t (ExprNames t) (commas_from expr declarator specs at n found)
  unfolding commas_from
  commas_from_reads at zero found all = refuse_reads
  commas_from_reads at (suc n) found all = skip_reads _ _ (eat_adds m.Comma) (λ more. if_reads more _ _
      (bind_reads _ _ (operators_reads op.assignment) (λ e h. commas_from_reads at n (found ++ e ∷ []) (All-push (ExprNames t) found e all h)))
      (pure_reads (made at (node.Comma found)) (comma_names t found all)))

  commas_reads : (at : ℕ) (first : Expr) → ExprNames t first → Reads t (ExprNames t) (commas expr declarator specs at first)
  unfolding commas
  commas_reads at first h = here_reads _ (λ i. commas_from_reads at (turns i) (first ∷ []) (All-cons (ExprNames t) first [] h (All-nil (ExprNames t))))

  whole_reads : Reads t (ExprNames t) (whole expr declarator specs)
  unfolding whole
  whole_reads = here_reads _ (λ i. bind_reads _ _ (operators_reads op.assignment) (λ e h.
      here_reads _ (λ j. if_reads (sees m.Comma j) _ _ (commas_reads i.at e h) (pure_reads e h))))

  pub level_reads : (least : ℕ) → Reads t (ExprNames t) (level expr declarator specs least)
  unfolding level
  level_reads least = if_reads (least == op.comma) _ _ whole_reads (operators_reads least)
