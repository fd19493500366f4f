-- What is read as a declarator is spelled.
use Rattle.std.proofs.Common.{
  ◌≡◌,
  ◌⊎◌,
  ℕ,
  zero,
  suc,
  Bool,
  true,
  false,
  List,
  [],
  ◌∷◌,
  ◌++◌,
  Option,
  Some,
  None,
  refl,
  sym,
  ap,
  subst,
  ◌∙◌,
  inl,
  inr,
  ⊎_elim,
  arith,
}
use denote.Hole.Carrier.{hidden}
use Rattle.c_lex.specs.declared.token.TokenKind.{TokenKind}
use Rattle.c_lex.specs.declared.token.TokenKind.TheVariants as token
use Rattle.c_lex.specs.declared.token.Word.{Word as AWord}
use Rattle.c_lex.specs.declared.token.Mark.TheVariants as m
use Rattle.c_ast.specs.declared.declaration.Base.TheBlock.{
  Ident,
  Pointer',
  Array',
  Function',
  hidden-the_row-Declarator-2,
  hidden-the_row-Expr-3,
  hidden-the_row-Param-4,
}
use Rattle.c_ast.specs.declared.declaration.Declarator.{Declarator}
use Rattle.c_ast.specs.declared.declaration.Param.{Param}
use Rattle.c_ast.specs.declared.declaration.Specs.{Specs}
use Rattle.c_ast.specs.declared.expression.Expr.{Expr}
use Rattle.c_ast.specs.Input.{Input, kind, next, is_typedef}
use Rattle.c_grammar.specs.Operators as op
use Rattle.c_grammar.specs.Grammar.{
  Mode,
  Named,
  Abstract,
  Either,
  HasName,
  NoParameters,
  StarMayStand,
  DeclaratorOperand,
  DeclaratorRule,
  IsExpr,
  Parameters,
  is_own_name as is_own_row,
  name_of,
}
use Rattle.c_grammar.specs.Rules.{Rule, ◌⨾◌, Prototype, is_declaration_word, is_qualifier}
use Rattle.parse_spec.specs.Scopes.{OnlyAdds}
use Rattle.parse_spec.specs.Places.{opens_parameters, opens_by, opens_suffix}
use Rattle.parse_spec.specs.Steps.{Parser, turns, sees, without_prototype}
use Rattle.parse_spec.specs.Declarators.{
  is_own_name,
  nameless,
  named,
  one_parameter,
  parameters_from,
  parameters,
  array_suffix,
  function_suffix,
  one_suffix,
  suffixes_from,
  suffixes,
  nested,
  innermost_by,
  innermost,
  pointed,
  one_declarator,
}
use Rattle.parse_spec.proofs.AddingRules.{parameters_adds}
use Rattle.parse_sound.proofs.Holding.{
  Holds,
  holds,
  refused,
  bind_holds,
  weaken,
  if_holds,
  eat_holds,
  expect_holds,
  sees_of,
  declares_is,
  apart_holds,
  prototype_holds,
}
use Rattle.parse_sound.proofs.Expressions.{ExprHolds, DeclaratorHolds, SpecsHold}
use Rattle.parse_sound.proofs.Rows.{Comma, Between, Extends, longer_then, ParamRule, LastRule, some_parameters, no_parameters as no_parameter_row}
use Rattle.parse_sound.proofs.Specifiers.{words_hold}

-- a declarator that no star begins, but in parentheses
abbrev DirectOf : Mode → Declarator → Rule
DirectOf mode d = DeclaratorOperand mode 1 d (DeclaratorRule d mode)

abbrev AnyOf : Mode → Declarator → Rule
AnyOf mode d = DeclaratorOperand mode 0 d (DeclaratorRule d mode)

may_zero : (d : Declarator) (n : ℕ) → StarMayStand 1 d n → StarMayStand 0 d n
may_zero (Pointer' words p d) n may = inr refl
may_zero (Ident None) n may = may
may_zero (Ident (Some name)) n may = tt
may_zero (Array' p d size) n may = tt
may_zero (Function' p d q params ellipsis) n may = tt

direct_any : (mode : Mode) (d : Declarator) (i j : Input) → DirectOf mode d i j → AnyOf mode d i j
direct_any mode d i j (n, (may, h)) = (n, (may_zero d n may, h))

-- ---- names and parentheses

nameless_holds : (mode : Mode) (i : Input) → Holds (λ d j. DirectOf mode d i j) (nameless mode i)
nameless_holds Named i = refused
nameless_holds Abstract i = holds (0, (refl, (tt, refl)))
nameless_holds Either i = holds (0, (refl, (tt, refl)))

named_holds : (mode : Mode) (i : Input) → kind i ≡ Some token.Name → Holds (λ d j. DirectOf mode d i j) (named mode i)
named_holds Abstract i is = holds (0, (refl, (tt, refl)))
named_holds Named i is = holds (0, (tt, (tt, (refl, (is, refl)))))
named_holds Either i is = holds (0, (tt, (tt, (refl, (is, refl)))))

-- where no name is needed, an empty pair of parentheses opens parameters
not_empty : (mode : Mode) (i : Input) → HasName mode None → opens_parameters mode i ≡ false → kind (next i) ≡ Some (token.Punct m.CloseParen) → ⊥
not_empty Named i name opens is = name
not_empty Abstract i name opens is = let g = rw is at opens in cc
not_empty Either i name opens is = let g = rw is at opens in cc

may_stand : (d : Declarator) (mode : Mode) (i j : Input) (h : AnyOf mode d (next i) j) → opens_parameters mode i ≡ false →
    kind j ≡ Some (token.Punct m.CloseParen)
    → StarMayStand 1 d (suc h.0)
may_stand (Ident None) mode i j (zero, (may, (name, same))) opens is = absurd (not_empty mode i name opens (ap kind (sym same) ∙ is))
may_stand (Ident None) mode i j (suc n, (may, h)) opens is = absurd (omega (arith, may))
may_stand (Ident (Some name)) mode i j h opens is = tt
may_stand (Pointer' words p d) mode i j h opens is = inl (λ e. absurd (omega (arith, e)))
may_stand (Array' p d size) mode i j h opens is = tt
may_stand (Function' p d q params ellipsis) mode i j h opens is = tt

name_opens : (i : Input) → opens_by (is_typedef i) (kind i) ≡ false → kind i ≡ Some token.Name → is_typedef i ≡ false
name_opens i opens is = sym (ap (opens_by (is_typedef i)) is) ∙ opens

no_typedef : (mode : Mode) (i : Input) → opens_parameters mode i ≡ false → NoParameters mode (next i) (next i)
no_typedef Named i opens = refl
no_typedef Abstract i opens = refl
no_typedef Either i opens = (refl, name_opens (next i) opens)

own_same : (d : Declarator) → is_own_row (hidden-the_row-Declarator-2 d) ≡ is_own_name d
unfolding hidden-the_row-Declarator-2 hidden
own_same (Ident None) = refl
own_same (Ident (Some n)) = refl
own_same (Pointer' words p d) = refl
own_same (Array' p d size) = refl
own_same (Function' p d q params ellipsis) = refl

suffix_is : (k : Option TokenKind) → opens_suffix k ≡ true → (k ≡ Some (token.Punct m.OpenBracket)) ⊎ (k ≡ Some (token.Punct m.OpenParen))
suffix_is (Some (token.Punct m.OpenBracket)) e = inl refl
suffix_is (Some (token.Punct m.OpenParen)) e = inr refl
suffix_is _ e = absurd (cc)

paren_is : (i : Input) → opens_suffix (kind i) ≡ true → sees m.OpenBracket i ≡ false → kind i ≡ Some (token.Punct m.OpenParen)
paren_is i opens none = ⊎_elim (λ is. absurd (let wrong : true ≡ false = sym (sees_of m.OpenBracket i is) ∙ none in cc)) (λ is. is) (suffix_is (kind i) opens)

module _ (expr : ℕ → Parser Expr) (declarator : Mode → Parser Declarator) (specs : (AWord → Bool) → Parser Specs)
    (ge : ExprHolds expr) (gd : DeclaratorHolds declarator) (gs : SpecsHold specs)
    (only_e : (least : ℕ) → OnlyAdds (expr least)) (only_d : (mode : Mode) → OnlyAdds (declarator mode))
    (only_s : (allowed : AWord → Bool) → OnlyAdds (specs allowed)) where
  one_parameter_holds : (i : Input) → Holds (λ p j. ParamRule p i j) (one_parameter expr declarator specs i)
  unfolding one_parameter
  one_parameter_holds i = bind_holds _ _ (gs is_declaration_word i) (λ s j h. bind_holds _ _ (gd Either j) (λ p k g.
      holds (j, (h, (k, (g, declares_is false (name_of p) k))))))

  -- the parameters behind those that were found, and the ellipsis
  abbrev ReadsParams : List Param → Input → List Param × Bool → Input → Type 0
  ReadsParams found i r j = Extends found (λ more. Between Comma ParamRule more ⨾ LastRule r.1) i r.0 j

  parameters_from_holds : (n : ℕ) (found : List Param) (i : Input) → Holds (ReadsParams found i) (parameters_from expr declarator specs n found i)
  unfolding parameters_from
  parameters_from_holds zero found i = refused
  parameters_from_holds (suc n) found i = bind_holds _ _ (one_parameter_holds i) (λ p j h. eat_holds m.Comma _ _ j
      (λ comma. eat_holds m.Ellipsis _ _ (next j)
      (λ ellipsis. holds (p ∷ [], (refl, (j, ((j, (h, refl)), (next j, ((comma, refl), (ellipsis, refl))))))))
      (λ none. weaken _ (parameters_from_holds n (found ++ p ∷ []) (next j)) (λ r k g. longer_then ParamRule (LastRule r.1) found p i j h comma r.0 k g)))
      (λ none. holds (p ∷ [], (refl, (j, ((j, (h, refl)), refl))))))

  abbrev ParamsRule : List Param × Bool → Rule
  ParamsRule r = Parameters (hidden-the_row-Param-4 r.0) r.1

  all_parameters : (i j : Input) (r : List Param × Bool) → ReadsParams [] i r j → ParamsRule r i j
  all_parameters i j r (more, (same, (x, (h, l)))) = some_parameters r.0 r.1 i x j (subst (λ a. Between Comma ParamRule a i x) (sym same) h) l

  parameters_hold : (i : Input) → Holds (λ r j. ParamsRule r i j) (parameters expr declarator specs i)
  unfolding parameters
  parameters_hold i = if_holds (sees m.CloseParen i) _ _ i (λ e. holds (no_parameter_row i))
      (λ e. weaken _ (parameters_from_holds (turns i) [] i) (λ r j h. all_parameters i j r h))

  -- ---- suffixes

  array_suffix_holds : (mode : Mode) (s i : Input) (inner : Declarator) → DirectOf mode inner s i → kind i ≡ Some (token.Punct m.OpenBracket)
      → Holds (λ d j. DirectOf mode d s j) (array_suffix expr declarator specs inner (next i))
  unfolding array_suffix hidden-the_row-Declarator-2 hidden-the_row-Expr-3 hidden
  array_suffix_holds mode s i inner l is = eat_holds m.CloseBracket _ _ (next i)
      (λ close. holds (0, (tt, (i, (l, (next i, ((is, refl), (next i, (refl, (close, refl))))))))))
      (λ none. bind_holds _ _ (apart_holds (IsExpr op.assignment) (expr op.assignment) (next i)
      (weaken _ (ge 1 (omega arith) (without_prototype (next i))) (λ e j h. h.0))) (λ e j h. bind_holds _ _ (expect_holds m.CloseBracket j) (λ _ k c.
      holds (0, (tt, (i, (l, (next i, ((is, refl), (j, (h, c)))))))))))

  function_suffix_holds : (mode : Mode) (s i : Input) (inner : Declarator) → DirectOf mode inner s i → kind i ≡ Some (token.Punct m.OpenParen)
      → Holds (λ d j. DirectOf mode d s j) (function_suffix expr declarator specs inner (next i))
  unfolding function_suffix hidden-the_row-Declarator-2 hidden
  function_suffix_holds mode s i inner l is = bind_holds _ _
      (prototype_holds (is_own_name inner) ParamsRule (parameters expr declarator specs) (next i) (parameters_adds expr declarator specs only_e only_d only_s)
      (parameters_hold (without_prototype (next i)))) (λ p j h. bind_holds _ _ (expect_holds m.CloseParen j) (λ _ k c.
      holds (0, (tt, (i, (l, (next i, ((is, refl), (j, (subst (λ own. Prototype own (ParamsRule p) (next i) j) (sym (own_same inner)) h, c))))))))))

  one_suffix_holds : (mode : Mode) (s i : Input) (inner : Declarator) → DirectOf mode inner s i → opens_suffix (kind i) ≡ true
      → Holds (λ d j. DirectOf mode d s j) (one_suffix expr declarator specs inner i)
  unfolding one_suffix
  one_suffix_holds mode s i inner l opens = eat_holds m.OpenBracket _ _ i
      (λ is. array_suffix_holds mode s i inner l is) (λ none. function_suffix_holds mode s i inner l (paren_is i opens none))

  suffixes_from_holds : (mode : Mode) (s : Input) (n : ℕ) (inner : Declarator) (i : Input) → DirectOf mode inner s i
      → Holds (λ d j. DirectOf mode d s j) (suffixes_from expr declarator specs n inner i)
  unfolding suffixes_from
  suffixes_from_holds mode s zero inner i l = refused
  suffixes_from_holds mode s (suc n) inner i l = if_holds (opens_suffix (kind i)) _ _ i
      (λ e. bind_holds _ _ (one_suffix_holds mode s i inner l e) (λ d j h. suffixes_from_holds mode s n d j h)) (λ e. holds l)

  suffixes_hold : (mode : Mode) (s i : Input) (inner : Declarator) → DirectOf mode inner s i →
      Holds (λ d j. DirectOf mode d s j) (suffixes expr declarator specs inner i)
  unfolding suffixes
  suffixes_hold mode s i inner l = suffixes_from_holds mode s (turns i) inner i l

  -- ---- what they stand behind

  nested_holds : (mode : Mode) (i : Input) → kind i ≡ Some (token.Punct m.OpenParen) → opens_parameters mode i ≡ false
      → Holds (λ d j. DirectOf mode d i j) (nested expr declarator specs mode (next i))
  unfolding nested
  nested_holds mode i is opens = bind_holds _ _ (gd mode (next i)) (λ d j h. bind_holds _ _ (expect_holds m.CloseParen j) (λ _ k c.
      holds (suc h.0, (may_stand d mode i j h opens c.0, (next i, ((is, refl), (next i, (no_typedef mode i opens, (j, (h.1.1, c))))))))))

  innermost_by_holds : (mode : Mode) (i : Input) (k : Option TokenKind) → kind i ≡ k →
      Holds (λ d j. DirectOf mode d i j) (innermost_by expr declarator specs mode k i)
  innermost_by_holds mode i (Some token.Name) is = named_holds mode i is
  innermost_by_holds mode i (Some (token.Punct m.OpenParen)) is = if_holds (opens_parameters mode i) _ _ i
      (λ e. nameless_holds mode i) (λ e. nested_holds mode i is e)
  innermost_by_holds mode i _ is = nameless_holds mode i

  innermost_holds : (mode : Mode) (i : Input) → Holds (λ d j. DirectOf mode d i j) (innermost expr declarator specs mode i)
  unfolding innermost
  innermost_holds mode i = innermost_by_holds mode i (kind i) refl

  pointed_holds : (mode : Mode) (i : Input) → kind i ≡ Some (token.Punct m.Star) →
      Holds (λ d j. AnyOf mode d i j) (pointed expr declarator specs mode (next i))
  unfolding pointed hidden-the_row-Declarator-2 hidden
  pointed_holds mode i is = bind_holds _ _ (words_hold is_qualifier (next i)) (λ words j h. bind_holds _ _ (gd mode j) (λ d k g.
      holds (0, (inr refl, (next i, ((is, refl), (j, (h.0, g))))))))

  pub one_declarator_holds : DeclaratorHolds (one_declarator expr declarator specs)
  unfolding one_declarator
  one_declarator_holds mode i = eat_holds m.Star _ _ i
      (λ is. pointed_holds mode i is)
      (λ none. bind_holds _ _ (innermost_holds mode i) (λ d j h. weaken _ (suffixes_hold mode i j d h) (λ e k g. direct_any mode e i k g)))
