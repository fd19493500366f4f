-- Expressions, specifiers and declarators only add declarations.
use Rattle.std.proofs.Common.{ℕ, zero, suc, ◌+◌, ◌==◌, Bool, true, false, not, nat_le, nat_lt, List, [], ◌∷◌, ◌++◌, Option, Some, None}
use Rattle.c_lex.specs.declared.token.TokenKind.{TokenKind}
use Rattle.c_lex.specs.declared.token.TokenKind.TheVariants as token
use Rattle.c_lex.specs.declared.token.Word.{Word as AWord}
use Rattle.c_lex.specs.declared.token.Word.TheVariants as w
use Rattle.c_lex.specs.declared.token.Mark.{Mark as AMark}
use Rattle.c_lex.specs.declared.token.Mark.TheVariants as m
use Rattle.c_ast.specs.declared.declaration.Base.{Base}
use Rattle.c_ast.specs.declared.declaration.Base.TheVariants as base
use Rattle.c_ast.specs.declared.declaration.Declarator.TheVariants as decl
use Rattle.c_ast.specs.declared.declaration.MemberEntry.TheVariants as member-entry
use Rattle.c_ast.specs.declared.declaration.Declarator.{Declarator}
use Rattle.c_ast.specs.declared.declaration.Enumerator.{Enumerator}
use Rattle.c_ast.specs.declared.declaration.MemberEntry.{MemberEntry}
use Rattle.c_ast.specs.declared.declaration.Param.{Param}
use Rattle.c_ast.specs.declared.declaration.Specs.{Specs}
use Rattle.c_ast.specs.declared.expression.Expr.{Expr}
use Rattle.c_ast.specs.declared.expression.ExprNode.{ExprNode}
use Rattle.c_ast.specs.declared.expression.ExprNode.TheVariants as node
use Rattle.c_ast.specs.declared.expression.UnaryOp.{UnaryOp}
use Rattle.c_ast.specs.declared.expression.BinaryOp.{BinaryOp}
use Rattle.c_ast.specs.declared.expression.AssignOp.{AssignOp}
use Rattle.c_ast.specs.Input.{kind, is_typedef}
use Rattle.c_grammar.specs.Operators as op
use Rattle.c_grammar.specs.Grammar.{Mode, Named, Abstract, Either, name_of}
use Rattle.c_grammar.specs.Rules.{is_qualified_word, is_declaration_word, is_qualifier, has_type_word}
use Rattle.parse_spec.specs.Scopes.{OnlyAdds}
use Rattle.parse_spec.specs.Steps.{
  Parser,
  turns,
  mark_of,
  identifier_by,
  identifier,
  maybe_identifier_by,
  maybe_identifier,
  is_string,
  strings_from,
  strings,
  allows,
  one_word,
  words_from,
  words,
  sees,
  sees_word,
}
use Rattle.parse_spec.specs.Operators.{unary_op}
use Rattle.parse_spec.specs.Places.{begins_type_after, opens_parameters, opens_suffix}
use Rattle.parse_spec.specs.Expressions.{
  made,
  leaf,
  name_expr,
  string_expr,
  tight,
  begins_cast,
  binary_sign,
  assignment_sign,
  inside,
  primary_by,
  primary,
  arguments_from,
  argument_list,
  arguments,
  subscript,
  post_by,
  post,
  posts_from,
  posts,
  type_name,
  casted,
  size,
  alignment,
  chained,
  bracketed,
  operated,
  operated_by,
  prefix_by,
  prefix,
  choice,
  assigned_by,
  assigned,
  joined_by,
  joined,
  step,
  climb,
  climbed,
  operators,
  commas_from,
  commas,
  whole,
  level,
}
use Rattle.parse_spec.specs.Specifiers.{
  specs_of,
  message,
  assertion,
  names_from,
  member_names,
  one_member,
  members_from,
  tagged_by,
  tagged,
  enumerator_value,
  one_enumerator,
  enumerators_from,
  enumerated_by,
  enumerated,
  name_base,
  base_by,
  specifier_base,
  specifiers_behind,
  specifiers,
}
use Rattle.parse_spec.specs.Declarators.{
  is_own_name,
  no_parameters,
  nameless,
  named,
  one_parameter,
  parameters_from,
  parameters,
  array_suffix,
  function_suffix,
  one_suffix,
  suffixes_from,
  suffixes,
  nested,
  innermost_by,
  innermost,
  pointed,
  one_declarator,
}
use Rattle.parse_spec.specs.Nested.{expr, declarator, specs}
use Rattle.parse_spec.proofs.Adding.{
  pure_adds,
  refuse_adds,
  bind_adds,
  then_adds,
  if_adds,
  here_adds,
  take_adds,
  eat_adds,
  expect_adds,
  expect_word_adds,
  read_adds,
  declares_adds,
  apart_adds,
  prototype_adds,
}

-- ---- single tokens

identifier_by_adds : (k : Option TokenKind) → OnlyAdds (identifier_by k)
identifier_by_adds (Some token.Name) = read_adds (λ i. i.at)
identifier_by_adds _ = refuse_adds

pub identifier_adds : OnlyAdds identifier
unfolding identifier
identifier_adds = here_adds _ (λ i. identifier_by_adds (kind i))

maybe_identifier_by_adds : (k : Option TokenKind) → OnlyAdds (maybe_identifier_by k)
maybe_identifier_by_adds (Some token.Name) = read_adds (λ i. Some i.at)
maybe_identifier_by_adds _ = pure_adds None

pub maybe_identifier_adds : OnlyAdds maybe_identifier
unfolding maybe_identifier
maybe_identifier_adds = here_adds _ (λ i. maybe_identifier_by_adds (kind i))

strings_from_adds : (n count : ℕ) → OnlyAdds (strings_from n count)
unfolding strings_from
strings_from_adds zero count = pure_adds count
strings_from_adds (suc n) count = here_adds _
    (λ i. if_adds (is_string (kind i)) _ _ (then_adds _ _ take_adds (strings_from_adds n (count + 1))) (pure_adds count))

pub strings_adds : OnlyAdds strings
unfolding strings
strings_adds = here_adds _ (λ i. bind_adds _ _ (strings_from_adds (turns i) 0) (λ count. if_adds (count == 0) _ _ refuse_adds (pure_adds count)))

words_from_adds : (allowed : AWord → Bool) (n : ℕ) (found : List AWord) → OnlyAdds (words_from allowed n found)
unfolding words_from
words_from_adds allowed zero found = refuse_adds
words_from_adds allowed (suc n) found = here_adds _
    (λ i. if_adds (allows allowed (kind i)) _ _ (then_adds _ _ take_adds (words_from_adds allowed n (found ++ one_word (kind i)))) (pure_adds found))

pub words_adds : (allowed : AWord → Bool) → OnlyAdds (words allowed)
words_adds allowed = here_adds _ (λ i. words_from_adds allowed (turns i) [])

-- ---- expressions

leaf_adds : (n : ExprNode) → OnlyAdds (leaf n)
leaf_adds n = read_adds (λ i. made i.at n)

name_expr_adds : OnlyAdds name_expr
unfolding name_expr
name_expr_adds = here_adds _ (λ i. if_adds (is_typedef i) _ _ refuse_adds (leaf_adds (node.Name i.at)))

string_expr_adds : OnlyAdds string_expr
unfolding string_expr
string_expr_adds = here_adds _ (λ i. bind_adds _ _ strings_adds (λ count. pure_adds _))

module _ (expr : ℕ → Parser Expr) (declarator : Mode → Parser Declarator) (specs : (AWord → Bool) → Parser Specs)
    (ge : (least : ℕ) → OnlyAdds (expr least)) (gd : (mode : Mode) → OnlyAdds (declarator mode)) (gs : (allowed : AWord → Bool) → OnlyAdds (specs allowed))
  where
    inside_adds : OnlyAdds (inside expr declarator specs)
    unfolding inside
    inside_adds = bind_adds _ _ (ge op.comma) (λ e. then_adds _ _ (expect_adds m.CloseParen) (pure_adds e))

    primary_by_adds : (k : Option TokenKind) → OnlyAdds (primary_by expr declarator specs k)
    primary_by_adds (Some token.Name) = name_expr_adds
    primary_by_adds (Some token.Number) = here_adds _ (λ i. leaf_adds (node.Number i.at))
    primary_by_adds (Some token.CharLit) = here_adds _ (λ i. leaf_adds (node.CharLit i.at))
    primary_by_adds (Some token.StringLit) = string_expr_adds
    primary_by_adds (Some (token.Punct m.OpenParen)) = then_adds _ _ take_adds inside_adds
    primary_by_adds _ = refuse_adds

    primary_adds : OnlyAdds (primary expr declarator specs)
    unfolding primary
    primary_adds = here_adds _ (λ i. primary_by_adds (kind i))

    arguments_from_adds : (n : ℕ) (found : List Expr) → OnlyAdds (arguments_from expr declarator specs n found)
    unfolding arguments_from
    arguments_from_adds zero found = refuse_adds
    arguments_from_adds (suc n) found = bind_adds _ _ (ge op.assignment) (λ e. bind_adds _ _ (eat_adds m.Comma) (λ more.
        if_adds more _ _ (arguments_from_adds n (found ++ e ∷ [])) (pure_adds (found ++ e ∷ []))))

    argument_list_adds : OnlyAdds (argument_list expr declarator specs)
    unfolding argument_list
    argument_list_adds = here_adds _ (λ i. arguments_from_adds (turns i) [])

    arguments_adds : OnlyAdds (arguments expr declarator specs)
    unfolding arguments
    arguments_adds = bind_adds _ _ (eat_adds m.CloseParen) (λ none.
        if_adds none _ _ (pure_adds []) (bind_adds _ _ argument_list_adds (λ found. then_adds _ _ (expect_adds m.CloseParen) (pure_adds found))))

    subscript_adds : OnlyAdds (subscript expr declarator specs)
    unfolding subscript
    subscript_adds = bind_adds _ _ (ge op.comma) (λ e. then_adds _ _ (expect_adds m.CloseBracket) (pure_adds e))

    post_by_adds : (at : ℕ) (left : Expr) (k : Option AMark) → OnlyAdds (post_by expr declarator specs at left k)
    post_by_adds at left (Some m.OpenParen) = bind_adds _ _ arguments_adds (λ found. pure_adds _)
    post_by_adds at left (Some m.OpenBracket) = bind_adds _ _ subscript_adds (λ e. pure_adds _)
    post_by_adds at left (Some m.Dot) = bind_adds _ _ identifier_adds (λ n. pure_adds _)
    post_by_adds at left (Some m.Arrow) = bind_adds _ _ identifier_adds (λ n. pure_adds _)
    post_by_adds at left (Some m.PlusPlus) = pure_adds _
    post_by_adds at left _ = pure_adds _

    post_adds : (at : ℕ) (left : Expr) → OnlyAdds (post expr declarator specs at left)
    unfolding post
    post_adds at left = here_adds _ (λ i. then_adds _ _ take_adds (post_by_adds at left (mark_of (kind i))))

    posts_from_adds : (at n : ℕ) (left : Expr) → OnlyAdds (posts_from expr declarator specs at n left)
    unfolding posts_from
    posts_from_adds at zero left = refuse_adds
    posts_from_adds at (suc n) left = here_adds _ (λ i.
        if_adds (nat_le (tight i) op.postfix) _ _ (pure_adds left) (bind_adds _ _ (post_adds at left) (λ e. posts_from_adds at n e)))

    posts_adds : (at : ℕ) (left : Expr) → OnlyAdds (posts expr declarator specs at left)
    unfolding posts
    posts_adds at left = here_adds _ (λ i. posts_from_adds at (turns i) left)

    type_name_adds : OnlyAdds (type_name expr declarator specs)
    unfolding type_name
    type_name_adds = then_adds _ _ (expect_adds m.OpenParen) (bind_adds _ _ (gs is_qualified_word) (λ s. bind_adds _ _ (gd Abstract) (λ d.
        then_adds _ _ (expect_adds m.CloseParen) (pure_adds _))))

    casted_adds : (at : ℕ) → OnlyAdds (casted expr declarator specs at)
    unfolding casted
    casted_adds at = bind_adds _ _ type_name_adds (λ to. bind_adds _ _ (ge op.cast) (λ e. pure_adds _))

    size_adds : (at : ℕ) → OnlyAdds (size expr declarator specs at)
    unfolding size
    size_adds at = here_adds _ (λ i. if_adds (begins_cast i) _ _ (bind_adds _ _ type_name_adds (λ of. pure_adds (made at (node.SizeofType of))))
        (bind_adds _ _ (ge op.unary) (λ e. pure_adds (made at (node.SizeofExpr e)))))

    alignment_adds : (at : ℕ) → OnlyAdds (alignment expr declarator specs at)
    unfolding alignment
    alignment_adds at = bind_adds _ _ type_name_adds (λ of. pure_adds _)

    chained_adds : (at : ℕ) → OnlyAdds (chained expr declarator specs at)
    unfolding chained
    chained_adds at = bind_adds _ _ primary_adds (λ e. posts_adds at e)

    bracketed_adds : (at least : ℕ) → OnlyAdds (bracketed expr declarator specs at least)
    unfolding bracketed
    bracketed_adds at least = here_adds _ (λ i.
        if_adds (begins_type_after i) _ _ (if_adds (nat_lt op.cast least) _ _ refuse_adds (casted_adds at)) (chained_adds at))

    operated_by_adds : (at : ℕ) (o : Option UnaryOp) → OnlyAdds (operated_by expr declarator specs at o)
    unfolding operated
    operated_by_adds at (Some o) = then_adds _ _ take_adds (bind_adds _ _ (ge (op.operand_level o)) (λ e. pure_adds _))
    operated_by_adds at None = refuse_adds

    prefix_by_adds : (at least : ℕ) (k : Option TokenKind) → OnlyAdds (prefix_by expr declarator specs at least k)
    prefix_by_adds at least (Some (token.Keyword w.Sizeof)) = then_adds _ _ take_adds (size_adds at)
    prefix_by_adds at least (Some (token.Keyword w.Alignof)) = then_adds _ _ take_adds (alignment_adds at)
    prefix_by_adds at least (Some (token.Punct m.OpenParen)) = bracketed_adds at least
    prefix_by_adds at least (Some (token.Punct mark)) = operated_by_adds at (unary_op mark)
    prefix_by_adds at least _ = chained_adds at

    prefix_adds : (least : ℕ) → OnlyAdds (prefix expr declarator specs least)
    unfolding prefix
    prefix_adds least = here_adds _ (λ i. prefix_by_adds i.at least (kind i))

    choice_adds : (at : ℕ) (test : Expr) → OnlyAdds (choice expr declarator specs at test)
    unfolding choice
    choice_adds at test = bind_adds _ _ (ge op.comma) (λ b. then_adds _ _ (expect_adds m.Colon) (bind_adds _ _ (ge op.conditional) (λ c. pure_adds _)))

    assigned_by_adds : (at : ℕ) (left : Expr) (o : Option AssignOp) → OnlyAdds (assigned_by expr declarator specs at left o)
    assigned_by_adds at left (Some o) = then_adds _ _ take_adds (bind_adds _ _ (ge op.assignment) (λ e. pure_adds _))
    assigned_by_adds at left None = refuse_adds

    assigned_adds : (at : ℕ) (lone : Bool) (left : Expr) → OnlyAdds (assigned expr declarator specs at lone left)
    unfolding assigned
    assigned_adds at lone left = here_adds _ (λ i. assigned_by_adds at left (assignment_sign lone (mark_of (kind i))))

    joined_by_adds : (at : ℕ) (lone : Bool) (left : Expr) (o : Option BinaryOp) → OnlyAdds (joined_by expr declarator specs at lone left o)
    joined_by_adds at lone left (Some o) = then_adds _ _ take_adds (bind_adds _ _ (ge (op.level_of o + 1)) (λ e. pure_adds _))
    joined_by_adds at lone left None = assigned_adds at lone left

    joined_adds : (at : ℕ) (lone : Bool) (left : Expr) → OnlyAdds (joined expr declarator specs at lone left)
    unfolding joined
    joined_adds at lone left = here_adds _ (λ i. joined_by_adds at lone left (binary_sign (mark_of (kind i))))

    one_step_adds : (at : ℕ) (lone : Bool) (left : Expr) → OnlyAdds (step expr declarator specs at lone left)
    unfolding step
    one_step_adds at lone left = bind_adds _ _ (eat_adds m.Question) (λ question. if_adds question _ _ (choice_adds at left) (joined_adds at lone left))

    climb_adds : (least at n : ℕ) (lone : Bool) (left : Expr) → OnlyAdds (climb expr declarator specs least at n lone left)
    unfolding climb
    climb_adds least at zero lone left = refuse_adds
    climb_adds least at (suc n) lone left = here_adds _ (λ i.
        if_adds (nat_le (tight i) least) _ _ (pure_adds left) (bind_adds _ _ (one_step_adds at lone left) (λ e. climb_adds least at n false e)))

    climbed_adds : (least at : ℕ) (lone : Bool) (left : Expr) → OnlyAdds (climbed expr declarator specs least at lone left)
    unfolding climbed
    climbed_adds least at lone left = here_adds _ (λ i. climb_adds least at (turns i) lone left)

    operators_adds : (least : ℕ) → OnlyAdds (operators expr declarator specs least)
    unfolding operators
    operators_adds least = here_adds _ (λ i. bind_adds _ _ (prefix_adds least) (λ e. climbed_adds least i.at (not (begins_cast i)) e))

    commas_from_adds : (at n : ℕ) (found : List Expr) → OnlyAdds (commas_from expr declarator specs at n found)
    unfolding commas_from
    commas_from_adds at zero found = refuse_adds
    commas_from_adds at (suc n) found = bind_adds _ _ (eat_adds m.Comma) (λ more.
        if_adds more _ _ (bind_adds _ _ (operators_adds op.assignment) (λ e. commas_from_adds at n (found ++ e ∷ [])))
        (pure_adds (made at (node.Comma found))))

    commas_adds : (at : ℕ) (first : Expr) → OnlyAdds (commas expr declarator specs at first)
    unfolding commas
    commas_adds at first = here_adds _ (λ i. commas_from_adds at (turns i) (first ∷ []))

    whole_adds : OnlyAdds (whole expr declarator specs)
    unfolding whole
    whole_adds = here_adds _ (λ i. bind_adds _ _ (operators_adds op.assignment)
        (λ e. here_adds _ (λ j. if_adds (sees m.Comma j) _ _ (commas_adds i.at e) (pure_adds e))))

    pub level_adds : (least : ℕ) → OnlyAdds (level expr declarator specs least)
    unfolding level
    level_adds least = if_adds (least == op.comma) _ _ whole_adds (operators_adds least)

-- ---- specifiers

message_adds : OnlyAdds message
unfolding message
message_adds = here_adds _ (λ i. then_adds _ _ strings_adds
    (then_adds _ _ (expect_adds m.CloseParen) (then_adds _ _ (expect_adds m.Semicolon) (pure_adds i.at))))

nameless_adds : (mode : Mode) → OnlyAdds (nameless mode)
nameless_adds Named = refuse_adds
nameless_adds Abstract = pure_adds _
nameless_adds Either = pure_adds _

named_adds : (mode : Mode) → OnlyAdds (named mode)
named_adds Abstract = pure_adds _
named_adds Named = read_adds (λ i. decl.Ident (Some i.at))
named_adds Either = read_adds (λ i. decl.Ident (Some i.at))

module _ (expr : ℕ → Parser Expr) (declarator : Mode → Parser Declarator) (specs : (AWord → Bool) → Parser Specs)
    (ge : (least : ℕ) → OnlyAdds (expr least)) (gd : (mode : Mode) → OnlyAdds (declarator mode)) (gs : (allowed : AWord → Bool) → OnlyAdds (specs allowed))
  where
    pub assertion_adds : OnlyAdds (assertion expr declarator specs)
    unfolding assertion
    assertion_adds = then_adds _ _ (expect_word_adds w.StaticAssert) (then_adds _ _ (expect_adds m.OpenParen) (bind_adds _ _ (ge op.conditional) (λ e.
        then_adds _ _ (expect_adds m.Comma) (bind_adds _ _ message_adds (λ n. pure_adds (e, n))))))

    names_from_adds : (n : ℕ) (found : List Declarator) → OnlyAdds (names_from expr declarator specs n found)
    unfolding names_from
    names_from_adds zero found = refuse_adds
    names_from_adds (suc n) found = bind_adds _ _ (gd Named) (λ d. bind_adds _ _ (eat_adds m.Comma) (λ more.
        if_adds more _ _ (names_from_adds n (found ++ d ∷ [])) (pure_adds (found ++ d ∷ []))))

    member_names_adds : OnlyAdds (member_names expr declarator specs)
    unfolding member_names
    member_names_adds = bind_adds _ _ (eat_adds m.Semicolon) (λ none. if_adds none _ _ (pure_adds [])
        (bind_adds _ _ (here_adds _ (λ i. names_from_adds (turns i) [])) (λ ds. then_adds _ _ (expect_adds m.Semicolon) (pure_adds ds))))

    one_member_adds : OnlyAdds (one_member expr declarator specs)
    unfolding one_member
    one_member_adds = here_adds _ (λ i. if_adds (sees_word w.StaticAssert i) _ _
        (bind_adds _ _ assertion_adds (λ p. pure_adds (member-entry.Assertion p.0 p.1)))
        (bind_adds _ _ (gs is_qualified_word) (λ s. bind_adds _ _ member_names_adds (λ ds. pure_adds (member-entry.Fields s ds)))))

    members_from_adds : (n : ℕ) (found : List MemberEntry) → OnlyAdds (members_from expr declarator specs n found)
    unfolding members_from
    members_from_adds zero found = refuse_adds
    members_from_adds (suc n) found = bind_adds _ _ one_member_adds (λ a. bind_adds _ _ (eat_adds m.CloseBrace) (λ done.
        if_adds done _ _ (pure_adds (found ++ a ∷ [])) (members_from_adds n (found ++ a ∷ []))))

    tagged_by_adds : (union : Bool) (tag : Option ℕ) (more : Bool) → OnlyAdds (tagged_by expr declarator specs union tag more)
    tagged_by_adds union tag true = bind_adds _ _ (here_adds _ (λ i. members_from_adds (turns i) [])) (λ all. pure_adds _)
    tagged_by_adds union (Some n) false = pure_adds _
    tagged_by_adds union None false = refuse_adds

    tagged_adds : (union : Bool) → OnlyAdds (tagged expr declarator specs union)
    unfolding tagged
    tagged_adds union = bind_adds _ _ maybe_identifier_adds (λ tag. bind_adds _ _ (eat_adds m.OpenBrace) (λ more. tagged_by_adds union tag more))

    pub enumerator_value_adds : OnlyAdds (enumerator_value expr declarator specs)
    unfolding enumerator_value
    enumerator_value_adds = bind_adds _ _ (eat_adds m.Equal)
        (λ more. if_adds more _ _ (bind_adds _ _ (ge op.conditional) (λ e. pure_adds (Some e))) (pure_adds None))

    one_enumerator_adds : OnlyAdds (one_enumerator expr declarator specs)
    unfolding one_enumerator
    one_enumerator_adds = bind_adds _ _ identifier_adds
        (λ n. bind_adds _ _ enumerator_value_adds (λ v. then_adds _ _ (declares_adds false (Some n)) (pure_adds _)))

    enumerators_from_adds : (n : ℕ) (found : List Enumerator) → OnlyAdds (enumerators_from expr declarator specs n found)
    unfolding enumerators_from
    enumerators_from_adds zero found = refuse_adds
    enumerators_from_adds (suc n) found = bind_adds _ _ one_enumerator_adds (λ a. bind_adds _ _ (eat_adds m.Comma) (λ more. if_adds more _ _
        (bind_adds _ _ (eat_adds m.CloseBrace) (λ done. if_adds done _ _ (pure_adds (found ++ a ∷ [])) (enumerators_from_adds n (found ++ a ∷ []))))
        (then_adds _ _ (expect_adds m.CloseBrace) (pure_adds (found ++ a ∷ [])))))

    enumerated_by_adds : (tag : Option ℕ) (more : Bool) → OnlyAdds (enumerated_by expr declarator specs tag more)
    enumerated_by_adds tag true = bind_adds _ _ (here_adds _ (λ i. enumerators_from_adds (turns i) [])) (λ all. pure_adds _)
    enumerated_by_adds (Some n) false = pure_adds _
    enumerated_by_adds None false = refuse_adds

    enumerated_adds : OnlyAdds (enumerated expr declarator specs)
    unfolding enumerated
    enumerated_adds = bind_adds _ _ maybe_identifier_adds (λ tag. bind_adds _ _ (eat_adds m.OpenBrace) (λ more. enumerated_by_adds tag more))

    name_base_adds : (typed : Bool) → OnlyAdds (name_base expr declarator specs typed)
    name_base_adds true = pure_adds base.Plain
    name_base_adds false = here_adds _ (λ i. if_adds (is_typedef i) _ _ (read_adds (λ j. base.Typedef j.at)) (pure_adds base.Plain))

    base_by_adds : (typed : Bool) (k : Option TokenKind) → OnlyAdds (base_by expr declarator specs typed k)
    base_by_adds typed (Some (token.Keyword w.Struct)) = then_adds _ _ take_adds (tagged_adds false)
    base_by_adds typed (Some (token.Keyword w.Union)) = then_adds _ _ take_adds (tagged_adds true)
    base_by_adds typed (Some (token.Keyword w.Enum)) = then_adds _ _ take_adds enumerated_adds
    base_by_adds typed (Some token.Name) = name_base_adds typed
    base_by_adds typed _ = pure_adds base.Plain

    specifier_base_adds : (typed : Bool) → OnlyAdds (specifier_base expr declarator specs typed)
    unfolding specifier_base
    specifier_base_adds typed = here_adds _ (λ i. base_by_adds typed (kind i))

    behind_adds : (allowed : AWord → Bool) (first : ℕ) (before : List AWord) (b : Base) →
        OnlyAdds (specifiers_behind expr declarator specs allowed first before b)
    behind_adds allowed first before b = here_adds _
        (λ i. if_adds (i.at == first) _ _ refuse_adds (bind_adds _ _ (words_adds allowed) (λ behind. pure_adds (specs_of (before ++ behind) b))))

    pub specifiers_adds : (allowed : AWord → Bool) → OnlyAdds (specifiers expr declarator specs allowed)
    unfolding specifiers
    specifiers_adds allowed = here_adds _ (λ i. bind_adds _ _ (words_adds allowed)
        (λ before. bind_adds _ _ (specifier_base_adds (has_type_word before)) (λ b. behind_adds allowed i.at before b)))

    -- ---- declarators

    one_parameter_adds : OnlyAdds (one_parameter expr declarator specs)
    unfolding one_parameter
    one_parameter_adds = bind_adds _ _ (gs is_declaration_word)
        (λ s. bind_adds _ _ (gd Either) (λ p. then_adds _ _ (declares_adds false (name_of p)) (pure_adds _)))

    parameters_from_adds : (n : ℕ) (found : List Param) → OnlyAdds (parameters_from expr declarator specs n found)
    unfolding parameters_from
    parameters_from_adds zero found = refuse_adds
    parameters_from_adds (suc n) found = bind_adds _ _ one_parameter_adds (λ p. bind_adds _ _ (eat_adds m.Comma) (λ more. if_adds more _ _
        (bind_adds _ _ (eat_adds m.Ellipsis) (λ ellipsis. if_adds ellipsis _ _ (pure_adds (found ++ p ∷ [], true)) (parameters_from_adds n (found ++ p ∷ []))))
        (pure_adds (found ++ p ∷ [], false))))

    pub parameters_adds : OnlyAdds (parameters expr declarator specs)
    unfolding parameters
    parameters_adds = here_adds _ (λ i. if_adds (sees m.CloseParen i) _ _ (pure_adds no_parameters) (parameters_from_adds (turns i) []))

    array_suffix_adds : (inner : Declarator) → OnlyAdds (array_suffix expr declarator specs inner)
    unfolding array_suffix
    array_suffix_adds inner = bind_adds _ _ (eat_adds m.CloseBracket) (λ none. if_adds none _ _ (pure_adds (decl.Array inner None))
        (bind_adds _ _ (apart_adds _ (ge op.assignment)) (λ e. then_adds _ _ (expect_adds m.CloseBracket) (pure_adds (decl.Array inner (Some e))))))

    function_suffix_adds : (inner : Declarator) → OnlyAdds (function_suffix expr declarator specs inner)
    unfolding function_suffix
    function_suffix_adds inner = bind_adds _ _ (prototype_adds (is_own_name inner) _ parameters_adds)
        (λ p. then_adds _ _ (expect_adds m.CloseParen) (pure_adds _))

    one_suffix_adds : (inner : Declarator) → OnlyAdds (one_suffix expr declarator specs inner)
    unfolding one_suffix
    one_suffix_adds inner = bind_adds _ _ (eat_adds m.OpenBracket)
        (λ bracket. if_adds bracket _ _ (array_suffix_adds inner) (then_adds _ _ take_adds (function_suffix_adds inner)))

    suffixes_from_adds : (n : ℕ) (inner : Declarator) → OnlyAdds (suffixes_from expr declarator specs n inner)
    unfolding suffixes_from
    suffixes_from_adds zero inner = refuse_adds
    suffixes_from_adds (suc n) inner = here_adds _
        (λ i. if_adds (opens_suffix (kind i)) _ _ (bind_adds _ _ (one_suffix_adds inner) (λ d. suffixes_from_adds n d)) (pure_adds inner))

    suffixes_adds : (inner : Declarator) → OnlyAdds (suffixes expr declarator specs inner)
    unfolding suffixes
    suffixes_adds inner = here_adds _ (λ i. suffixes_from_adds (turns i) inner)

    nested_adds : (mode : Mode) → OnlyAdds (nested expr declarator specs mode)
    unfolding nested
    nested_adds mode = bind_adds _ _ (gd mode) (λ inner. then_adds _ _ (expect_adds m.CloseParen) (pure_adds inner))

    innermost_by_adds : (mode : Mode) (k : Option TokenKind) → OnlyAdds (innermost_by expr declarator specs mode k)
    innermost_by_adds mode (Some token.Name) = named_adds mode
    innermost_by_adds mode (Some (token.Punct m.OpenParen)) = here_adds _
        (λ i. if_adds (opens_parameters mode i) _ _ (nameless_adds mode) (then_adds _ _ take_adds (nested_adds mode)))
    innermost_by_adds mode _ = nameless_adds mode

    innermost_adds : (mode : Mode) → OnlyAdds (innermost expr declarator specs mode)
    unfolding innermost
    innermost_adds mode = here_adds _ (λ i. innermost_by_adds mode (kind i))

    pointed_adds : (mode : Mode) → OnlyAdds (pointed expr declarator specs mode)
    unfolding pointed
    pointed_adds mode = bind_adds _ _ (words_adds is_qualifier) (λ qualifiers. bind_adds _ _ (gd mode) (λ inner. pure_adds _))

    pub one_declarator_adds : (mode : Mode) → OnlyAdds (one_declarator expr declarator specs mode)
    unfolding one_declarator
    one_declarator_adds mode = bind_adds _ _ (eat_adds m.Star)
        (λ star. if_adds star _ _ (pointed_adds mode) (bind_adds _ _ (innermost_adds mode) (λ inner. suffixes_adds inner)))

-- ---- nested in one another

mutual
  unfolding expr

  pub expr_adds : (depth least : ℕ) → OnlyAdds (expr depth least)
  expr_adds zero least = refuse_adds
  expr_adds (suc depth) least = level_adds (expr depth) (declarator depth) (specs depth) (expr_adds depth) (declarator_adds depth) (specs_adds depth) least

  pub declarator_adds : (depth : ℕ) (mode : Mode) → OnlyAdds (declarator depth mode)
  declarator_adds zero mode = refuse_adds
  declarator_adds (suc depth) mode = one_declarator_adds (expr depth) (declarator depth) (specs depth) (expr_adds depth) (declarator_adds depth)
      (specs_adds depth) mode

  pub specs_adds : (depth : ℕ) (allowed : AWord → Bool) → OnlyAdds (specs depth allowed)
  specs_adds zero allowed = refuse_adds
  specs_adds (suc depth) allowed = specifiers_adds (expr depth) (declarator depth) (specs depth) (expr_adds depth) (declarator_adds depth)
      (specs_adds depth) allowed
