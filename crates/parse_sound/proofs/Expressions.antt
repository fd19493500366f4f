-- What is read as an expression is spelled.
use Rattle.std.proofs.Common.{
  ◌≡◌,
  ℕ,
  zero,
  suc,
  ◌+◌,
  ◌==◌,
  ◌≤◌,
  Bool,
  true,
  false,
  not,
  nat_le,
  nat_lt,
  List,
  [],
  ◌∷◌,
  ◌++◌,
  Option,
  Some,
  None,
  refl,
  sym,
  ap,
  subst,
  ◌∙◌,
  append_assoc,
  append-nil,
  arith,
}
use Rattle.std.proofs.lemmas.Bool.Decides.{nat_tests}
use denote.Hole.Carrier.{hidden}
use Rattle.c_lex.specs.declared.token.TokenKind.{TokenKind}
use Rattle.c_lex.specs.declared.token.TokenKind.TheVariants as token
use Rattle.c_lex.specs.declared.token.Word.{Word as AWord}
use Rattle.c_lex.specs.declared.token.Word.TheVariants as w
use Rattle.c_lex.specs.declared.token.Mark.{Mark as AMark}
use Rattle.c_lex.specs.declared.token.Mark.TheVariants as m
use Rattle.c_ast.specs.declared.declaration.Base.TheBlock.{hidden-the_row-Expr-3, hidden-the_row-Expr-6, hidden-the_row-TypeName-7}
use Rattle.c_ast.specs.declared.declaration.Declarator.{Declarator}
use Rattle.c_ast.specs.declared.declaration.Specs.{Specs}
use Rattle.c_ast.specs.declared.expression.Expr.{Expr}
use Rattle.c_ast.specs.declared.expression.ExprNode.{ExprNode}
use Rattle.c_ast.specs.declared.expression.ExprNode.TheVariants as node
use Rattle.c_ast.specs.declared.expression.UnaryOp.{UnaryOp}
use Rattle.c_ast.specs.declared.expression.BinaryOp.{BinaryOp}
use Rattle.c_ast.specs.declared.expression.AssignOp.{AssignOp}
use Rattle.c_ast.specs.Input.{Input, kind, next, is_typedef}
use Rattle.c_grammar.specs.Operators as op
use Rattle.c_grammar.specs.Grammar.{Mode, Abstract, IsExpr, Arguments, Specifiers, BaseRule, DeclaratorOperand, DeclaratorRule, level as level_of_node}
use Rattle.c_grammar.specs.Rules.{◌⨾◌, Mark, MayStand, Identifier, Literals, Strings, is_qualified_word}
use Rattle.parse_spec.specs.Operators.{unary_op, tight_of}
use Rattle.parse_spec.specs.Places.{begins_type_after}
use Rattle.parse_spec.specs.Steps.{Parser, turns, mark_of, sees, identifier_by, identifier, is_string, strings_from, strings}
use Rattle.parse_spec.specs.Expressions.{
  made,
  leaf,
  name_expr,
  string_expr,
  tight,
  begins_cast,
  binary_sign,
  assignment_sign,
  inside,
  primary_by,
  primary,
  arguments_from,
  argument_list,
  arguments,
  subscript,
  post_by,
  post,
  posts_from,
  posts,
  type_name,
  casted,
  size,
  alignment,
  chained,
  bracketed,
  operated,
  operated_by,
  prefix_by,
  prefix,
  choice,
  assigned_by,
  assigned,
  joined_by,
  joined,
  step,
  climb,
  climbed,
  operators,
  commas_from,
  commas,
  whole,
  level,
}
use Rattle.parse_sound.proofs.Holding.{Holds, holds, refused, bind_holds, weaken, if_holds, eat_holds, expect_holds, sees_of, of_mark}
use Rattle.parse_sound.proofs.Operators.{unary_is, binary_is, assign_is, tight_binary_is, tight_assign_is, level_low, level_high, operand_high}
use Rattle.parse_sound.proofs.Rows.{Comma, Each, Between, Extends, longer, some_arguments, no_arguments, several, TypeNameRule}

-- ---- single tokens

identifier_by_holds : (i : Input) (k : Option TokenKind) → kind i ≡ k → Holds (λ n j. Identifier n i j) (identifier_by k i)
identifier_by_holds i (Some token.Name) is = holds (refl, (is, refl))
identifier_by_holds i _ is = refused

pub identifier_holds : (i : Input) → Holds (λ n j. Identifier n i j) (identifier i)
unfolding identifier
identifier_holds i = identifier_by_holds i (kind i) refl

abbrev Counts : ℕ → Input → ℕ → Input → Type 0
Counts count i total j = (more : ℕ) × ((total ≡ count + more) × Literals more i j)

string_is : (k : Option TokenKind) → is_string k ≡ true → k ≡ Some token.StringLit
string_is (Some token.StringLit) e = refl
string_is _ e = absurd (cc)

strings_from_holds : (n count : ℕ) (i : Input) → Holds (Counts count i) (strings_from n count i)
unfolding strings_from
strings_from_holds zero count i = holds (0, (omega arith, refl))
strings_from_holds (suc n) count i = if_holds (is_string (kind i)) _ _ i
    (λ e. weaken _ (strings_from_holds n (count + 1) (next i)) (λ total j h.
    (suc h.0, (omega (arith, h.1.0), (next i, ((string_is (kind i) e, refl), h.1.1))))))
    (λ e. holds (0, (omega arith, refl)))

counted : (i j : Input) (total : ℕ) → Counts 0 i total j → (total == 0) ≡ false → Strings i.at total i j
counted i j zero h e = absurd (grind (arith, nat_tests, e))
counted i j (suc total) h e = (refl, subst (λ x. Literals x i j) (let same : h.0 ≡ suc total = omega (arith, h.1.0) in same) h.1.1)

pub strings_holds : (i : Input) → Holds (λ count j. Strings i.at count i j) (strings i)
unfolding strings
strings_holds i = bind_holds _ _ (strings_from_holds (turns i) 0 i)
    (λ total j h. if_holds (total == 0) _ _ j (λ e. refused) (λ e. holds (counted i j total h e)))

-- ---- levels

may_looser : (l l2 own n : ℕ) → l ≤ l2 → MayStand l2 own n → MayStand l own n
may_looser l l2 own zero le may = omega (arith, le, may)
may_looser l l2 own (suc n) le may = tt

pub looser : (l l2 : ℕ) → l ≤ l2 → (e : Expr) (i j : Input) → IsExpr l2 e i j → IsExpr l e i j
looser l l2 le e i j (n, (may, h)) = (n, (may_looser l l2 (level_of_node e.node) n le may, h))

-- an expression of a level or a tighter one, which nothing goes on with at this level
abbrev pub ReadsAt : ℕ → Input → Expr → Input → Type 0
ReadsAt least i e j = IsExpr least e i j × (1 ≤ least → tight j ≤ least)

-- what may stand behind an expression of a level that an operator goes on with
record Follows (cur : ℕ) (i : Input) : Type 0 where
  binary : (o : BinaryOp) → binary_sign (mark_of (kind i)) ≡ Some o → op.level_of o ≤ cur
  question : kind i ≡ Some (token.Punct m.Question) → 3 ≤ cur

follows_high : (cur : ℕ) (i : Input) → 13 ≤ cur → Follows cur i
follows_high cur i high = record { binary = λ o e. omega (arith, high, level_high o); question = λ e. omega (arith, high) }

tight_question : (i : Input) → kind i ≡ Some (token.Punct m.Question) → tight i ≡ 3
unfolding tight
tight_question i e = ap (λ k. tight_of (mark_of k)) e

tight_sign : (i : Input) (o : BinaryOp) → binary_sign (mark_of (kind i)) ≡ Some o → tight i ≡ op.level_of o + 1
unfolding tight
tight_sign i o e = tight_binary_is (mark_of (kind i)) o e

tight_assigned : (i : Input) (o : AssignOp) → mark_of (kind i) ≡ Some (op.assign_mark o) → tight i ≡ 2
unfolding tight
tight_assigned i o e = tight_assign_is (mark_of (kind i)) o e

follows_of : (cur bound : ℕ) (i : Input) → tight i ≤ bound → bound ≤ cur + 1 → (3 ≤ bound → 3 ≤ cur) → Follows cur i
follows_of cur bound i low le q = record {
  binary = λ o e. omega (arith, low, le, tight_sign i o e);
  question = λ e. q (omega (arith, low, tight_question i e));
}

-- an expression that an operator was read with, which is of the operator's level
abbrev Joins : Input → Input → Expr → Input → Type 0
Joins s i e j = (cur : ℕ) × ((tight i ≤ cur + 1) × (IsExpr cur e s j × Follows cur j))

-- a cast expression, and a unary expression where the level asks for one or no cast begins
abbrev Begins : ℕ → Input → Expr → Input → Type 0
Begins least i e j = (cur : ℕ) × ((least ≤ cur) × ((13 ≤ cur) × ((not (begins_cast i) ≡ true → 14 ≤ cur) × IsExpr cur e i j)))

unary_begins : (least : ℕ) (i j : Input) (e : Expr) → least ≤ 14 → IsExpr 14 e i j → Begins least i e j
unary_begins least i j e low h = (14, (low, (omega arith, ((λ _. omega arith), h))))

no_cast : (i : Input) → begins_type_after i ≡ true → sees m.OpenParen i ≡ true → not (begins_cast i) ≡ true → ⊥
no_cast i type paren never = let g = rw (type, paren) at never in cc

cast_begins : (least : ℕ) (i j : Input) (e : Expr) → nat_lt op.cast least ≡ false → kind i ≡ Some (token.Punct m.OpenParen) → begins_type_after i ≡ true
    → IsExpr 13 e i j → Begins least i e j
cast_begins least i j e low is type h =
    (13, (grind (arith, nat_tests, low), (omega arith, ((λ never. absurd (no_cast i type (sees_of m.OpenParen i is) never)), h))))

leaf_holds : (i : Input) (n : ExprNode) → IsExpr 15 (made i.at n) i (next i) → Holds (λ e j. IsExpr 15 e i j) (leaf n i)
leaf_holds i n h = holds h

name_holds : (i : Input) → kind i ≡ Some token.Name → Holds (λ e j. IsExpr 15 e i j) (name_expr i)
unfolding name_expr
name_holds i is = if_holds (is_typedef i) _ _ i (λ e. refused) (λ e. leaf_holds i (node.Name i.at) (0, (omega arith, (refl, (e, (refl, (is, refl)))))))

string_holds : (i : Input) → Holds (λ e j. IsExpr 15 e i j) (string_expr i)
unfolding string_expr
string_holds i = bind_holds _ _ (strings_holds i) (λ count j h. holds (0, (omega arith, (refl, h))))

-- what is asked of the parsers that nest in an expression
abbrev pub ExprHolds : (ℕ → Parser Expr) → Type 0
ExprHolds expr = (least : ℕ) → least ≤ 14 → (i : Input) → Holds (ReadsAt least i) (expr least i)

abbrev pub DeclaratorHolds : (Mode → Parser Declarator) → Type 0
DeclaratorHolds declarator = (mode : Mode) (i : Input) → Holds (λ d j. DeclaratorOperand mode 0 d (DeclaratorRule d mode) i j) (declarator mode i)

abbrev pub SpecsHold : ((AWord → Bool) → Parser Specs) → Type 0
SpecsHold specs = (allowed : AWord → Bool) (i : Input) → Holds (λ s j. Specifiers allowed s.base (BaseRule s.base) s.words i j) (specs allowed i)

module _ (expr : ℕ → Parser Expr) (declarator : Mode → Parser Declarator) (specs : (AWord → Bool) → Parser Specs)
    (ge : ExprHolds expr) (gd : DeclaratorHolds declarator) (gs : SpecsHold specs) where
  inside_holds : (i : Input) → kind i ≡ Some (token.Punct m.OpenParen) → Holds (λ e j. IsExpr 15 e i j) (inside expr declarator specs (next i))
  unfolding inside
  inside_holds i is = bind_holds _ _ (ge 0 (omega arith) (next i)) (λ e j h. bind_holds _ _ (expect_holds m.CloseParen j) (λ _ k c.
      holds (suc h.0.0, (tt, (next i, ((is, refl), (j, (h.0.1.1, c))))))))

  primary_by_holds : (i : Input) (k : Option TokenKind) → kind i ≡ k → Holds (λ e j. IsExpr 15 e i j) (primary_by expr declarator specs k i)
  primary_by_holds i (Some token.Name) is = name_holds i is
  primary_by_holds i (Some token.Number) is = leaf_holds i (node.Number i.at) (0, (omega arith, (refl, (refl, (is, refl)))))
  primary_by_holds i (Some token.CharLit) is = leaf_holds i (node.CharLit i.at) (0, (omega arith, (refl, (refl, (is, refl)))))
  primary_by_holds i (Some token.StringLit) is = string_holds i
  primary_by_holds i (Some (token.Punct m.OpenParen)) is = inside_holds i is
  primary_by_holds i _ is = refused

  primary_holds : (i : Input) → Holds (λ e j. IsExpr 15 e i j) (primary expr declarator specs i)
  unfolding primary
  primary_holds i = primary_by_holds i (kind i) refl

  -- ---- postfix operators

  arguments_from_holds : (n : ℕ) (found : List Expr) (i : Input) → Holds (Extends found (Between Comma (IsExpr op.assignment)) i)
      (arguments_from expr declarator specs n found i)
  unfolding arguments_from
  arguments_from_holds zero found i = refused
  arguments_from_holds (suc n) found i = bind_holds _ _ (ge 1 (omega arith) i) (λ e j h. eat_holds m.Comma _ _ j
      (λ comma. weaken _ (arguments_from_holds n (found ++ e ∷ []) (next j)) (λ all k g. longer (IsExpr op.assignment) found e i j h.0 comma all k g))
      (λ none. holds (e ∷ [], (refl, (j, (h.0, refl))))))

  argument_list_holds : (i : Input) → Holds (λ all j. Between Comma (IsExpr op.assignment) all i j) (argument_list expr declarator specs i)
  unfolding argument_list
  argument_list_holds i = weaken _ (arguments_from_holds (turns i) [] i) (λ all j h. subst (λ l. Between Comma (IsExpr op.assignment) l i j) (sym h.1.0) h.1.1)

  -- arguments and the parenthesis behind them
  arguments_holds : (i : Input) → Holds (λ all j. (Arguments (hidden-the_row-Expr-6 all) ⨾ Mark m.CloseParen) i j) (arguments expr declarator specs i)
  unfolding arguments
  arguments_holds i = eat_holds m.CloseParen _ _ i
      (λ is. holds (i, (no_arguments i, (is, refl))))
      (λ none. bind_holds _ _ (argument_list_holds i)
      (λ all j h. bind_holds _ _ (expect_holds m.CloseParen j) (λ _ k c. holds (j, (some_arguments all i j h, c)))))

  subscript_holds : (i : Input) → Holds (λ e j. (IsExpr op.comma e ⨾ Mark m.CloseBracket) i j) (subscript expr declarator specs i)
  unfolding subscript
  subscript_holds i = bind_holds _ _ (ge 0 (omega arith) i) (λ e j h. bind_holds _ _ (expect_holds m.CloseBracket j) (λ _ k c. holds (j, (h.0, c))))

  post_by_holds : (s i : Input) (left : Expr) (k : Option AMark) → IsExpr 15 left s i → mark_of (kind i) ≡ k → nat_le (tight_of k) 15 ≡ false
      → Holds (λ e j. IsExpr 15 e s j) (post_by expr declarator specs s.at left k (next i))
  unfolding hidden-the_row-Expr-3 hidden
  post_by_holds s i left (Some m.OpenParen) l is high = bind_holds _ _ (arguments_holds (next i)) (λ all j h.
      holds (0, (omega arith, (refl, (i, (l, (next i, ((of_mark (kind i) m.OpenParen is, refl), h))))))))
  post_by_holds s i left (Some m.OpenBracket) l is high = bind_holds _ _ (subscript_holds (next i)) (λ e j h.
      holds (0, (omega arith, (refl, (i, (l, (next i, ((of_mark (kind i) m.OpenBracket is, refl), h))))))))
  post_by_holds s i left (Some m.Dot) l is high = bind_holds _ _ (identifier_holds (next i)) (λ n j h.
      holds (0, (omega arith, (refl, (i, (l, (next i, ((of_mark (kind i) m.Dot is, refl), h))))))))
  post_by_holds s i left (Some m.Arrow) l is high = bind_holds _ _ (identifier_holds (next i)) (λ n j h.
      holds (0, (omega arith, (refl, (i, (l, (next i, ((of_mark (kind i) m.Arrow is, refl), h))))))))
  post_by_holds s i left (Some m.PlusPlus) l is high = holds (0, (omega arith, (refl, (i, (l, (of_mark (kind i) m.PlusPlus is, refl))))))
  post_by_holds s i left (Some m.MinusMinus) l is high = holds (0, (omega arith, (refl, (i, (l, (of_mark (kind i) m.MinusMinus is, refl))))))
  post_by_holds s i left _ l is high = absurd (cc)

  post_holds : (s i : Input) (left : Expr) → IsExpr 15 left s i → nat_le (tight i) 15 ≡ false →
      Holds (λ e j. IsExpr 15 e s j) (post expr declarator specs s.at left i)
  unfolding post tight
  post_holds s i left l high = post_by_holds s i left (mark_of (kind i)) l refl high

  posts_from_holds : (s : Input) (n : ℕ) (left : Expr) (i : Input) → IsExpr 15 left s i →
      Holds (λ e j. IsExpr 15 e s j) (posts_from expr declarator specs s.at n left i)
  unfolding posts_from
  posts_from_holds s zero left i l = refused
  posts_from_holds s (suc n) left i l = if_holds (nat_le (tight i) op.postfix) _ _ i (λ e. holds l)
      (λ e. bind_holds _ _ (post_holds s i left l e) (λ a j h. posts_from_holds s n a j h))

  posts_holds : (s i : Input) (left : Expr) → IsExpr 15 left s i → Holds (λ e j. IsExpr 15 e s j) (posts expr declarator specs s.at left i)
  unfolding posts
  posts_holds s i left l = posts_from_holds s (turns i) left i l

  chained_holds : (i : Input) → Holds (λ e j. IsExpr 15 e i j) (chained expr declarator specs i.at i)
  unfolding chained
  chained_holds i = bind_holds _ _ (primary_holds i) (λ e j h. posts_holds i j e h)

  -- ---- prefix operators, `sizeof`, `_Alignof`, casts

  type_name_holds : (i : Input) → Holds (λ n j. (Mark m.OpenParen ⨾ TypeNameRule n ⨾ Mark m.CloseParen) i j) (type_name expr declarator specs i)
  unfolding type_name
  type_name_holds i = bind_holds _ _ (expect_holds m.OpenParen i) (λ _ a o. bind_holds _ _ (gs is_qualified_word a) (λ s b h.
      bind_holds _ _ (gd Abstract b) (λ d c k. bind_holds _ _ (expect_holds m.CloseParen c) (λ _ e l. holds (a, (o, (c, ((b, (h, k)), l))))))))

  casted_holds : (i : Input) → Holds (λ e j. IsExpr 13 e i j) (casted expr declarator specs i.at i)
  unfolding casted hidden-the_row-Expr-3 hidden-the_row-TypeName-7 hidden
  casted_holds i = bind_holds _ _ (type_name_holds i) (λ to j h. bind_holds _ _ (ge 13 (omega arith) j) (λ e k l.
      holds (0, (omega arith, (refl, (h.0, (h.1.0, (h.1.1.0, (h.1.1.1.0, (j, (h.1.1.1.1, l.0)))))))))))

  size_holds : (i : Input) → kind i ≡ Some (token.Keyword w.Sizeof) → Holds (λ e j. IsExpr 14 e i j) (size expr declarator specs i.at (next i))
  unfolding size hidden-the_row-Expr-3 hidden-the_row-TypeName-7 hidden
  size_holds i is = if_holds (begins_cast (next i)) _ _ (next i)
      (λ e. bind_holds _ _ (type_name_holds (next i)) (λ of j h. holds (0, (omega arith, (refl, (next i, ((is, refl), h)))))))
      (λ e. bind_holds _ _ (ge 14 (omega arith) (next i)) (λ a j h. holds (0, (omega arith, (refl, (next i, ((is, refl), h.0)))))))

  alignment_holds : (i : Input) → kind i ≡ Some (token.Keyword w.Alignof) → Holds (λ e j. IsExpr 14 e i j) (alignment expr declarator specs i.at (next i))
  unfolding alignment hidden-the_row-TypeName-7 hidden
  alignment_holds i is = bind_holds _ _ (type_name_holds (next i)) (λ of j h. holds (0, (omega arith, (refl, (next i, ((is, refl), h))))))

  chain_begins : (least : ℕ) (i : Input) → least ≤ 14 → Holds (Begins least i) (chained expr declarator specs i.at i)
  chain_begins least i low = weaken _ (chained_holds i) (λ e j h. unary_begins least i j e low (looser 14 15 (omega arith) e i j h))

  bracketed_holds : (least : ℕ) (i : Input) → least ≤ 14 → kind i ≡ Some (token.Punct m.OpenParen) →
      Holds (Begins least i) (bracketed expr declarator specs i.at least i)
  unfolding bracketed
  bracketed_holds least i low is = if_holds (begins_type_after i) _ _ i
      (λ type. if_holds (nat_lt op.cast least) _ _ i (λ e. refused) (λ e. weaken _ (casted_holds i) (λ a j h. cast_begins least i j a e is type h)))
      (λ type. chain_begins least i low)

  operated_by_holds : (least : ℕ) (i : Input) (o : Option UnaryOp) (mark : AMark) → least ≤ 14 → kind i ≡ Some (token.Punct mark) → unary_op mark ≡ o
      → Holds (Begins least i) (operated_by expr declarator specs i.at o i)
  unfolding operated hidden-the_row-Expr-3 hidden
  operated_by_holds least i None mark low is e = refused
  operated_by_holds least i (Some o) mark low is e = bind_holds _ _ (ge (op.operand_level o) (operand_high o) (next i)) (λ a j h.
      holds (unary_begins least i j (made i.at (node.Unary o a)) low
      (0, (omega arith, (refl, (next i, ((is ∙ ap (λ x. Some (token.Punct x)) (unary_is mark o e), refl), h.0)))))))

  prefix_by_holds : (least : ℕ) (i : Input) (k : Option TokenKind) → least ≤ 14 → kind i ≡ k →
      Holds (Begins least i) (prefix_by expr declarator specs i.at least k i)
  prefix_by_holds least i (Some (token.Keyword w.Sizeof)) low is = weaken _ (size_holds i is) (λ e j h. unary_begins least i j e low h)
  prefix_by_holds least i (Some (token.Keyword w.Alignof)) low is = weaken _ (alignment_holds i is) (λ e j h. unary_begins least i j e low h)
  prefix_by_holds least i (Some (token.Punct m.OpenParen)) low is = bracketed_holds least i low is
  prefix_by_holds least i (Some (token.Punct mark)) low is = operated_by_holds least i (unary_op mark) mark low is refl
  prefix_by_holds least i _ low is = chain_begins least i low

  prefix_holds : (least : ℕ) (i : Input) → least ≤ 14 → Holds (Begins least i) (prefix expr declarator specs least i)
  unfolding prefix
  prefix_holds least i low = prefix_by_holds least i (kind i) low refl

  -- ---- binary operators, the conditional operator, assignment

  choice_holds : (s i : Input) (test : Expr) → kind i ≡ Some (token.Punct m.Question) → IsExpr 3 test s i
      → Holds (Joins s i) (choice expr declarator specs s.at test (next i))
  unfolding choice hidden-the_row-Expr-3 hidden
  choice_holds s i test is l = bind_holds _ _ (ge 0 (omega arith) (next i)) (λ b j h. bind_holds _ _ (expect_holds m.Colon j) (λ _ x c.
      bind_holds _ _ (ge 2 (omega arith) x) (λ e k g. holds (
        2,
        (
          omega (arith, tight_question i is),
          (
            (0, (omega arith, (refl, (i, (l, (next i, ((is, refl), (j, (h.0, (x, (c, g.0))))))))))),
            follows_of 2 2 k (g.1 (omega arith)) (omega arith) (λ low. low),
          ),
        ),
      ))))

  assigned_by_holds : (s i : Input) (lone : Bool) (cur : ℕ) (left : Expr) (o : Option AssignOp) → (lone ≡ true → 14 ≤ cur) → IsExpr cur left s i
      → assignment_sign lone (mark_of (kind i)) ≡ o → Holds (Joins s i) (assigned_by expr declarator specs s.at left o i)
  unfolding hidden-the_row-Expr-3 hidden
  assigned_by_holds s i lone cur left None only l e = refused
  assigned_by_holds s i lone cur left (Some o) only l e =
      let is = assign_is lone (mark_of (kind i)) o e in
      bind_holds _ _ (ge 1 (omega arith) (next i)) (λ a j h. holds (
        1,
        (
          omega (arith, tight_assigned i o is.1),
          (
            (0, (omega arith, (refl, (i, (looser 14 cur (only is.0) left s i l, (next i, ((of_mark (kind i) (op.assign_mark o) is.1, refl), h.0))))))),
            follows_of 1 1 j (h.1 (omega arith)) (omega arith) (λ low. omega (arith, low)),
          ),
        ),
      ))

  joined_by_holds : (s i : Input) (lone : Bool) (cur : ℕ) (left : Expr) (o : Option BinaryOp) → (lone ≡ true → 14 ≤ cur) → IsExpr cur left s i → Follows cur i
      → binary_sign (mark_of (kind i)) ≡ o → Holds (Joins s i) (joined_by expr declarator specs s.at lone left o i)
  unfolding assigned hidden-the_row-Expr-3 hidden
  joined_by_holds s i lone cur left None only l f e = assigned_by_holds s i lone cur left (assignment_sign lone (mark_of (kind i))) only l refl
  joined_by_holds s i lone cur left (Some o) only l f e =
      bind_holds _ _ (ge (op.level_of o + 1) (omega (arith, level_high o)) (next i)) (λ a j h. holds (
        op.level_of o,
        (
          omega (arith, tight_sign i o e),
          (
            (
              0,
              (
                omega arith,
                (
                  refl,
                  (
                    i,
                    (
                      looser (op.level_of o) cur (f.binary o e) left s i l,
                      (next i, ((of_mark (kind i) (op.binary_mark o) (binary_is (mark_of (kind i)) o e), refl), h.0)),
                    ),
                  ),
                ),
              ),
            ),
            follows_of (op.level_of o) (op.level_of o + 1) j (h.1 (omega arith)) (omega arith) (λ low. level_low o),
          ),
        ),
      ))

  step_holds : (s i : Input) (lone : Bool) (cur : ℕ) (left : Expr) → (lone ≡ true → 14 ≤ cur) → IsExpr cur left s i → Follows cur i
      → Holds (Joins s i) (step expr declarator specs s.at lone left i)
  unfolding step joined
  step_holds s i lone cur left only l f = eat_holds m.Question _ _ i
      (λ is. choice_holds s i left is (looser 3 cur (f.question is) left s i l))
      (λ e. joined_by_holds s i lone cur left (binary_sign (mark_of (kind i))) only l f refl)

  climb_holds : (s : Input) (least n : ℕ) (i : Input) (lone : Bool) (cur : ℕ) (left : Expr) → least ≤ cur → (lone ≡ true → 14 ≤ cur) → IsExpr cur left s i
      → Follows cur i → Holds (ReadsAt least s) (climb expr declarator specs least s.at n lone left i)
  unfolding climb
  climb_holds s least zero i lone cur left low only l f = refused
  climb_holds s least (suc n) i lone cur left low only l f = if_holds (nat_le (tight i) least) _ _ i
      (λ e. holds (looser least cur low left s i l, (λ _. grind (arith, nat_tests, e))))
      (λ e. bind_holds _ _ (step_holds s i lone cur left only l f) (λ a j h.
      climb_holds s least n j false h.0 a (let above : least ≤ tight i = grind (arith, nat_tests, e) in grind (arith, nat_tests, e, h.1.0))
      (λ never. absurd (cc)) h.1.1.0 h.1.1.1))

  operators_holds : (least : ℕ) → least ≤ 14 → (i : Input) → Holds (ReadsAt least i) (operators expr declarator specs least i)
  unfolding operators climbed
  operators_holds least low i = bind_holds _ _ (prefix_holds least i low) (λ e j h.
      climb_holds i least (turns j) j (not (begins_cast i)) h.0 e h.1.0 h.1.1.1.0 h.1.1.1.1 (follows_high h.0 j h.1.1.0))

  -- ---- the comma operator

  -- the operands behind those that were found, behind which no comma stands
  abbrev Operands : ℕ → List Expr → Input → Expr → Input → Type 0
  Operands at found i e j = (more : List Expr) ×
      ((e ≡ made at (node.Comma (found ++ more))) × (Each Comma (IsExpr op.assignment) more i j × (sees m.Comma j ≡ false)))

  commas_from_holds : (at n : ℕ) (found : List Expr) (i : Input) → Holds (Operands at found i) (commas_from expr declarator specs at n found i)
  unfolding commas_from
  commas_from_holds at zero found i = refused
  commas_from_holds at (suc n) found i = eat_holds m.Comma _ _ i
      (λ comma. bind_holds _ _ (operators_holds 1 (omega arith) (next i)) (λ e j h. weaken _ (commas_from_holds at n (found ++ e ∷ []) j) (λ a k g.
      (e ∷ g.0, (g.1.0 ∙ ap (λ l. made at (node.Comma l)) (append_assoc found (e ∷ []) g.0), ((next i, ((comma, refl), (j, (h.0, g.1.1.0)))), g.1.1.1))))))
      (λ none. holds ([], (ap (λ l. made at (node.Comma l)) (sym (append-nil found)), (refl, none))))

  commas_case : (s i j : Input) (first e : Expr) → IsExpr 1 first s i → sees m.Comma i ≡ true → Operands s.at (first ∷ []) i e j → ReadsAt 0 s e j
  commas_case s i j first e l is ([], (same, (end, none))) =
      let back : sees m.Comma i ≡ false = subst (λ x. sees m.Comma x ≡ false) end none in
      absurd (let wrong : true ≡ false = sym is ∙ back in cc)
  commas_case s i j first e l is (b ∷ more, (same, (rest, none))) =
      (subst (λ x. IsExpr 0 x s j) (sym same) (0, (omega arith, (refl, several first b more s i j l rest))), (λ low. absurd (omega (arith, low))))

  commas_holds : (s i : Input) (first : Expr) → IsExpr 1 first s i → sees m.Comma i ≡ true → Holds (ReadsAt 0 s) (commas expr declarator specs s.at first i)
  unfolding commas
  commas_holds s i first l is = weaken _ (commas_from_holds s.at (turns i) (first ∷ []) i) (λ e j h. commas_case s i j first e l is h)

  whole_holds : (i : Input) → Holds (ReadsAt 0 i) (whole expr declarator specs i)
  unfolding whole
  whole_holds i = bind_holds _ _ (operators_holds 1 (omega arith) i) (λ e j h. if_holds (sees m.Comma j) _ _ j
      (λ is. commas_holds i j e h.0 is)
      (λ none. holds (looser 0 1 (omega arith) e i j h.0, (λ low. absurd (omega (arith, low))))))

  pub level_holds : ExprHolds (level expr declarator specs)
  unfolding level
  level_holds zero low i = whole_holds i
  level_holds (suc least) low i = if_holds (suc least == op.comma) _ _ i (λ e. absurd (grind (arith, nat_tests, e))) (λ e. operators_holds (suc least) low i)
