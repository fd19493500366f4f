-- The tokens with which an expression begins.
use Rattle.std.proofs.Common.{◌≡◌, ℕ, zero, suc, ◌==◌, Bool, true, false, not, if◌then◌else◌, Option, Some, None, refl, sym, ap, ◌∙◌}
use Rattle.c_lex.specs.declared.token.TokenKind.{TokenKind}
use Rattle.c_lex.specs.declared.token.TokenKind.TheVariants as token
use Rattle.c_lex.specs.declared.token.Word.{Word as AWord}
use Rattle.c_lex.specs.declared.token.Word.TheVariants as w
use Rattle.c_lex.specs.declared.token.Mark.{Mark as AMark}
use Rattle.c_lex.specs.declared.token.Mark.TheVariants as m
use Rattle.c_ast.specs.declared.expression.Expr.{Expr}
use Rattle.c_ast.specs.Input.{Input, kind, is_typedef}
use Rattle.c_grammar.specs.Operators as op
use Rattle.c_grammar.specs.Rules.{is_declaration_word, is_qualified_word}
use Rattle.parse_spec.specs.Steps.{Outcome, Parser, and_then}
use Rattle.parse_spec.specs.Nested.{expr, declarator, specs}
use Rattle.parse_spec.specs.Places.{begins_by, opens_designator}
use Rattle.parse_spec.specs.Expressions.{prefix_by, prefix, chained, primary_by, primary, name_expr, operators, whole, level}

-- `typedef` says that a name would be a typedef name
abbrev pub opens : Bool → Option TokenKind → Bool
opens typedef (Some token.Name) = not typedef
opens typedef (Some token.Number) = true
opens typedef (Some token.CharLit) = true
opens typedef (Some token.StringLit) = true
opens typedef (Some (token.Keyword w.Sizeof)) = true
opens typedef (Some (token.Keyword w.Alignof)) = true
opens typedef (Some (token.Punct m.OpenParen)) = true
opens typedef (Some (token.Punct m.PlusPlus)) = true
opens typedef (Some (token.Punct m.MinusMinus)) = true
opens typedef (Some (token.Punct m.Ampersand)) = true
opens typedef (Some (token.Punct m.Star)) = true
opens typedef (Some (token.Punct m.Plus)) = true
opens typedef (Some (token.Punct m.Minus)) = true
opens typedef (Some (token.Punct m.Tilde)) = true
opens typedef (Some (token.Punct m.Bang)) = true
opens typedef _ = false

abbrev pub opens_expr : Input → Bool
opens_expr i = opens (is_typedef i) (kind i)

module _ (d : ℕ) where
  name_opens : (typedef : Bool) (i : Input) (p : Expr × Input) → is_typedef i ≡ typedef → name_expr i ≡ Some p → not typedef ≡ true
  unfolding name_expr
  name_opens true i p is h = let g = rw is at h in cc
  name_opens false i p is h = refl

  primary_opens : (k : Option TokenKind) (i : Input) (p : Expr × Input) → kind i ≡ k → primary_by (expr d) (declarator d) (specs d) k i ≡ Some p →
      opens (is_typedef i) k ≡ true
  primary_opens (Some token.Name) i p is h = name_opens (is_typedef i) i p refl h
  primary_opens (Some token.Number) i p is h = refl
  primary_opens (Some token.CharLit) i p is h = refl
  primary_opens (Some token.StringLit) i p is h = refl
  primary_opens (Some (token.Punct m.OpenParen)) i p is h = refl
  primary_opens _ i p is h = absurd (cc)

  bind_opens : {A B : Type 0} (o : Outcome A) (f : A → Parser B) (p : B × Input) → and_then o f ≡ Some p → (q : A × Input) × (o ≡ Some q)
  bind_opens None f p h = absurd (cc)
  bind_opens (Some q) f p h = (q, refl)

  chain_opens : (at : ℕ) (i : Input) (p : Expr × Input) → chained (expr d) (declarator d) (specs d) at i ≡ Some p → opens_expr i ≡ true
  unfolding chained primary
  chain_opens at i p h =
      let q = bind_opens (primary (expr d) (declarator d) (specs d) i) _ p h in
      primary_opens (kind i) i q.0 refl q.1

  prefix_by_opens : (at least : ℕ) (k : Option TokenKind) (i : Input) (p : Expr × Input) → kind i ≡ k →
      prefix_by (expr d) (declarator d) (specs d) at least k i ≡ Some p
      → opens (is_typedef i) k ≡ true
  prefix_by_opens at least (Some (token.Keyword w.Sizeof)) i p is h = refl
  prefix_by_opens at least (Some (token.Keyword w.Alignof)) i p is h = refl
  prefix_by_opens at least (Some (token.Punct m.OpenParen)) i p is h = refl
  prefix_by_opens at least (Some (token.Punct m.PlusPlus)) i p is h = refl
  prefix_by_opens at least (Some (token.Punct m.MinusMinus)) i p is h = refl
  prefix_by_opens at least (Some (token.Punct m.Ampersand)) i p is h = refl
  prefix_by_opens at least (Some (token.Punct m.Star)) i p is h = refl
  prefix_by_opens at least (Some (token.Punct m.Plus)) i p is h = refl
  prefix_by_opens at least (Some (token.Punct m.Minus)) i p is h = refl
  prefix_by_opens at least (Some (token.Punct m.Tilde)) i p is h = refl
  prefix_by_opens at least (Some (token.Punct m.Bang)) i p is h = refl
  prefix_by_opens at least (Some (token.Punct mark)) i p is h = absurd (cc)
  prefix_by_opens at least (Some token.Name) i p is h = ap (opens (is_typedef i)) (sym is) ∙ chain_opens at i p h
  prefix_by_opens at least (Some token.Number) i p is h = refl
  prefix_by_opens at least (Some token.CharLit) i p is h = refl
  prefix_by_opens at least (Some token.StringLit) i p is h = refl
  prefix_by_opens at least (Some (token.Keyword word)) i p is h = ap (opens (is_typedef i)) (sym is) ∙ chain_opens at i p h
  prefix_by_opens at least None i p is h = ap (opens (is_typedef i)) (sym is) ∙ chain_opens at i p h

  operators_open : (least : ℕ) (i : Input) (p : Expr × Input) → operators (expr d) (declarator d) (specs d) least i ≡ Some p → opens_expr i ≡ true
  unfolding operators prefix
  operators_open least i p h =
      let q = bind_opens (prefix (expr d) (declarator d) (specs d) least i) _ p h in
      prefix_by_opens i.at least (kind i) i q.0 refl q.1

  whole_opens : (i : Input) (p : Expr × Input) → whole (expr d) (declarator d) (specs d) i ≡ Some p → opens_expr i ≡ true
  unfolding whole
  whole_opens i p h =
      let q = bind_opens (operators (expr d) (declarator d) (specs d) op.assignment i) _ p h in
      operators_open op.assignment i q.0 q.1

  level_case : (c : Bool) (least : ℕ) (i : Input) (p : Expr × Input)
      → (if c then whole (expr d) (declarator d) (specs d) else operators (expr d) (declarator d) (specs d) least) i ≡ Some p → opens_expr i ≡ true
  level_case true least i p h = whole_opens i p h
  level_case false least i p h = operators_open least i p h

-- what is read as an expression begins as one
pub expr_opens : (d least : ℕ) (i : Input) (p : Expr × Input) → expr d least i ≡ Some p → opens_expr i ≡ true
unfolding expr level
expr_opens zero least i p h = absurd (cc)
expr_opens (suc d) least i p h = level_case d (least == op.comma) least i p h

-- ---- what doesn't begin so

pub opens_no_type : (typedef : Bool) (k : Option TokenKind) → opens typedef k ≡ true → begins_by is_qualified_word typedef k ≡ false
opens_no_type true (Some token.Name) h = absurd (cc)
opens_no_type false (Some token.Name) h = refl
opens_no_type typedef (Some (token.Keyword w.Sizeof)) h = refl
opens_no_type typedef (Some (token.Keyword w.Alignof)) h = refl
opens_no_type typedef (Some (token.Keyword word)) h = absurd (cc)
opens_no_type typedef _ h = refl

pub opens_no_declaration : (typedef : Bool) (k : Option TokenKind) → opens typedef k ≡ true → begins_by is_declaration_word typedef k ≡ false
opens_no_declaration true (Some token.Name) h = absurd (cc)
opens_no_declaration false (Some token.Name) h = refl
opens_no_declaration typedef (Some (token.Keyword w.Sizeof)) h = refl
opens_no_declaration typedef (Some (token.Keyword w.Alignof)) h = refl
opens_no_declaration typedef (Some (token.Keyword word)) h = absurd (cc)
opens_no_declaration typedef _ h = refl

pub opens_no_designator : (typedef : Bool) (k : Option TokenKind) → opens typedef k ≡ true → opens_designator k ≡ false
opens_no_designator typedef (Some (token.Punct m.Dot)) h = absurd (cc)
opens_no_designator typedef (Some (token.Punct m.OpenBracket)) h = absurd (cc)
opens_no_designator typedef _ h = refl

-- a punctuator that no expression begins with
pub no_opening : (mark : AMark) (i : Input) → opens (is_typedef i) (Some (token.Punct mark)) ≡ false → opens_expr i ≡ true →
    kind i ≡ Some (token.Punct mark) → ⊥
no_opening mark i never begins is = let wrong : true ≡ false = sym begins ∙ ap (opens (is_typedef i)) is ∙ never in cc

pub no_opening_word : (word : AWord) (i : Input) → opens (is_typedef i) (Some (token.Keyword word)) ≡ false → opens_expr i ≡ true →
    kind i ≡ Some (token.Keyword word) → ⊥
no_opening_word word i never begins is = let wrong : true ≡ false = sym begins ∙ ap (opens (is_typedef i)) is ∙ never in cc
