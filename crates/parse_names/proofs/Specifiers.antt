-- Specifiers and declarators: each number in one is that of a token of its kind.
use Rattle.std.proofs.Common.{◌≡◌, ℕ, zero, suc, ◌==◌, Bool, true, false, List, [], ◌∷◌, ◌++◌, All, Option, Some, None, if◌then◌else◌}
use Rattle.std.proofs.lemmas.List.Elements.{All-nil, All-push}
use denote.Hole.Carrier.{roll}
use Rattle.c_lex.specs.TokenText.{TokenText, kind_at}
use Rattle.c_lex.specs.declared.token.TokenKind.{TokenKind}
use Rattle.c_lex.specs.declared.token.TokenKind.TheVariants as token
use Rattle.c_lex.specs.declared.token.Word.{Word as AWord}
use Rattle.c_lex.specs.declared.token.Word.TheVariants as w
use Rattle.c_lex.specs.declared.token.Mark.TheVariants as m
use Rattle.c_ast.specs.declared.declaration.Base.{Base}
use Rattle.c_ast.specs.declared.declaration.Base.TheVariants as base
use Rattle.c_ast.specs.declared.declaration.Declarator.{Declarator}
use Rattle.c_ast.specs.declared.declaration.Declarator.TheVariants as decl
use Rattle.c_ast.specs.declared.declaration.Base.TheViews.{roll-Enumerator}
use Rattle.c_ast.specs.declared.declaration.Enumerator.{Enumerator}
use Rattle.c_ast.specs.declared.declaration.MemberEntry.{MemberEntry}
use Rattle.c_ast.specs.declared.declaration.MemberEntry.TheVariants as member-entry
use Rattle.c_ast.specs.declared.declaration.Param.{Param}
use Rattle.c_ast.specs.declared.declaration.Specs.{Specs}
use Rattle.c_ast.specs.declared.expression.Expr.{Expr}
use Rattle.c_ast.specs.Input.{Input, kind, next, is_typedef}
use Rattle.c_ast.specs.Names.{
  IsToken,
  IsName,
  MaybeName,
  ExprNames,
  MaybeExprNames,
  DeclaratorNames,
  SpecsName,
  BaseNames,
  MemberNames,
  EnumeratorNames,
  ParamNames,
}
use Rattle.c_ast.proofs.Trees.{
  pointer_names,
  array_names,
  array_of_names,
  function_names,
  members_names,
  enumerators_names,
  fields_names,
  member_assertion_names,
}
use Rattle.c_grammar.specs.Operators as op
use Rattle.c_grammar.specs.Grammar.{Mode, Named, Abstract, Either, name_of}
use Rattle.c_grammar.specs.Rules.{is_qualified_word, is_declaration_word, is_qualifier, has_type_word}
use Rattle.parse_spec.specs.Places.{opens_parameters, opens_suffix}
use Rattle.parse_spec.specs.Steps.{Parser, pure, turns, sees, sees_word}
use Rattle.parse_spec.specs.Specifiers.{
  specs_of,
  assertion,
  names_from,
  member_names,
  one_member,
  members_from,
  tagged_by,
  tagged,
  enumerator_value,
  one_enumerator,
  enumerators_from,
  enumerated_by,
  enumerated,
  name_base,
  base_by,
  specifier_base,
  specifiers_behind,
  specifiers,
}
use Rattle.parse_spec.specs.Declarators.{
  is_own_name,
  no_parameters,
  nameless,
  named,
  one_parameter,
  parameters_from,
  parameters,
  array_suffix,
  function_suffix,
  one_suffix,
  suffixes_from,
  suffixes,
  nested,
  innermost_by,
  innermost,
  pointed,
  one_declarator,
}
use Rattle.parse_spec.proofs.Adding.{take_adds, eat_adds, expect_adds, expect_word_adds, declares_adds}
use Rattle.parse_spec.proofs.AddingRules.{words_adds}
use Rattle.parse_names.proofs.Reading.{
  Gives,
  Reads,
  pure_reads,
  refuse_reads,
  bind_reads,
  skip_reads,
  then_reads,
  if_reads,
  here_reads,
  apart_reads,
  prototype_reads,
}
use Rattle.parse_names.proofs.Tokens.{tokens_stay, kind_of_next, identifier_reads, maybe_identifier_reads, message_reads}

abbrev pub AssertionNames : TokenText → Expr × ℕ → Type 0
AssertionNames t p = ExprNames t p.0 × IsToken t token.StringLit p.1

enumerator_names : (t : TokenText) (n : ℕ) (v : Option Expr) → IsName t n → MaybeExprNames t v
    → EnumeratorNames t (roll-Enumerator (record { name = n; value = v }))
unfolding roll-Enumerator roll
enumerator_names t n None h k = (h, tt)
enumerator_names t n (Some e) h k = (h, k)

typedef_case : (t : TokenText) (i : Input) (typedef : Bool) → i.tokens ≡ t → kind_at t i.at ≡ Some token.Name
    → Gives t (BaseNames t) ((if typedef then (λ j. Some (base.Typedef j.at, next j)) else pure base.Plain) i)
typedef_case t i true same is = (tokens_stay t i same, is)
typedef_case t i false same is = (same, tt)

nameless_reads : (t : TokenText) (mode : Mode) → Reads t (DeclaratorNames t) (nameless mode)
nameless_reads t Named = refuse_reads
nameless_reads t Abstract = pure_reads _ tt
nameless_reads t Either = pure_reads _ tt

named_gives : (t : TokenText) (i : Input) (mode : Mode) → i.tokens ≡ t → kind_at t i.at ≡ Some token.Name → Gives t (DeclaratorNames t) (named mode i)
named_gives t i Abstract same is = (same, tt)
named_gives t i Named same is = (tokens_stay t i same, is)
named_gives t i Either same is = (tokens_stay t i same, is)

module _ (t : TokenText) (expr : ℕ → Parser Expr) (declarator : Mode → Parser Declarator) (specs : (AWord → Bool) → Parser Specs)
    (ge : (least : ℕ) → Reads t (ExprNames t) (expr least)) (gd : (mode : Mode) → Reads t (DeclaratorNames t) (declarator mode))
    (gs : (allowed : AWord → Bool) → Reads t (SpecsName t) (specs allowed)) where
  pub assertion_reads : Reads t (AssertionNames t) (assertion expr declarator specs)
  unfolding assertion
  assertion_reads = then_reads _ _ (expect_word_adds w.StaticAssert) (then_reads _ _ (expect_adds m.OpenParen) (bind_reads _ _ (ge op.conditional) (λ e h.
      then_reads _ _ (expect_adds m.Comma) (bind_reads _ _ (message_reads t) (λ n k. pure_reads (e, n) (h, k))))))

  names_from_reads : (n : ℕ) (found : List Declarator) → All (DeclaratorNames t) found →
      Reads t (All (DeclaratorNames t)) (names_from expr declarator specs n found)
  unfolding names_from
  names_from_reads zero found all = refuse_reads
  names_from_reads (suc n) found all = bind_reads _ _ (gd Named) (λ d h.
      let more = All-push (DeclaratorNames t) found d all h in
      skip_reads _ _ (eat_adds m.Comma) (λ comma. if_reads comma _ _ (names_from_reads n (found ++ d ∷ []) more) (pure_reads (found ++ d ∷ []) more)))

  member_names_reads : Reads t (All (DeclaratorNames t)) (member_names expr declarator specs)
  unfolding member_names
  member_names_reads = skip_reads _ _ (eat_adds m.Semicolon) (λ none. if_reads none _ _ (pure_reads [] (All-nil (DeclaratorNames t)))
      (bind_reads _ _ (here_reads _ (λ i. names_from_reads (turns i) [] (All-nil (DeclaratorNames t)))) (λ ds h.
      then_reads _ _ (expect_adds m.Semicolon) (pure_reads ds h))))

  one_member_reads : Reads t (MemberNames t) (one_member expr declarator specs)
  unfolding one_member
  one_member_reads = here_reads _ (λ i. if_reads (sees_word w.StaticAssert i) _ _
      (bind_reads _ _ assertion_reads (λ p h. pure_reads (member-entry.Assertion p.0 p.1) (member_assertion_names t p.0 p.1 h.0 h.1)))
      (bind_reads _ _ (gs is_qualified_word) (λ s h. bind_reads _ _ member_names_reads
      (λ ds k. pure_reads (member-entry.Fields s ds) (fields_names t s ds h k)))))

  members_from_reads : (n : ℕ) (found : List MemberEntry) → All (MemberNames t) found →
      Reads t (All (MemberNames t)) (members_from expr declarator specs n found)
  unfolding members_from
  members_from_reads zero found all = refuse_reads
  members_from_reads (suc n) found all = bind_reads _ _ one_member_reads (λ a h.
      let more = All-push (MemberNames t) found a all h in
      skip_reads _ _ (eat_adds m.CloseBrace) (λ done. if_reads done _ _ (pure_reads (found ++ a ∷ []) more) (members_from_reads n (found ++ a ∷ []) more)))

  tagged_by_reads : (union : Bool) (tag : Option ℕ) (more : Bool) → MaybeName t tag → Reads t (BaseNames t) (tagged_by expr declarator specs union tag more)
  tagged_by_reads union tag true h = bind_reads _ _ (here_reads _ (λ i. members_from_reads (turns i) [] (All-nil (MemberNames t))))
      (λ all k. pure_reads _ (members_names t union tag all h k))
  tagged_by_reads union (Some n) false h = pure_reads _ (h, tt)
  tagged_by_reads union None false h = refuse_reads

  tagged_reads : (union : Bool) → Reads t (BaseNames t) (tagged expr declarator specs union)
  unfolding tagged
  tagged_reads union = bind_reads _ _ (maybe_identifier_reads t) (λ tag h. skip_reads _ _ (eat_adds m.OpenBrace) (λ more. tagged_by_reads union tag more h))

  enumerator_value_reads : Reads t (MaybeExprNames t) (enumerator_value expr declarator specs)
  unfolding enumerator_value
  enumerator_value_reads = skip_reads _ _ (eat_adds m.Equal) (λ more. if_reads more _ _
      (bind_reads _ _ (ge op.conditional) (λ e h. pure_reads (Some e) h)) (pure_reads None tt))

  one_enumerator_reads : Reads t (EnumeratorNames t) (one_enumerator expr declarator specs)
  unfolding one_enumerator
  one_enumerator_reads = bind_reads _ _ (identifier_reads t) (λ n h. bind_reads _ _ enumerator_value_reads (λ v k.
      then_reads _ _ (declares_adds false (Some n)) (pure_reads _ (enumerator_names t n v h k))))

  enumerators_from_reads : (n : ℕ) (found : List Enumerator) → All (EnumeratorNames t) found
      → Reads t (All (EnumeratorNames t)) (enumerators_from expr declarator specs n found)
  unfolding enumerators_from
  enumerators_from_reads zero found all = refuse_reads
  enumerators_from_reads (suc n) found all = bind_reads _ _ one_enumerator_reads (λ a h.
      let more = All-push (EnumeratorNames t) found a all h in
      skip_reads _ _ (eat_adds m.Comma) (λ comma. if_reads comma _ _
      (skip_reads _ _ (eat_adds m.CloseBrace) (λ done. if_reads done _ _ (pure_reads (found ++ a ∷ []) more)
      (enumerators_from_reads n (found ++ a ∷ []) more)))
      (then_reads _ _ (expect_adds m.CloseBrace) (pure_reads (found ++ a ∷ []) more))))

  enumerated_by_reads : (tag : Option ℕ) (more : Bool) → MaybeName t tag → Reads t (BaseNames t) (enumerated_by expr declarator specs tag more)
  enumerated_by_reads tag true h = bind_reads _ _ (here_reads _ (λ i. enumerators_from_reads (turns i) [] (All-nil (EnumeratorNames t))))
      (λ all k. pure_reads _ (enumerators_names t tag all h k))
  enumerated_by_reads (Some n) false h = pure_reads _ (h, tt)
  enumerated_by_reads None false h = refuse_reads

  enumerated_reads : Reads t (BaseNames t) (enumerated expr declarator specs)
  unfolding enumerated
  enumerated_reads = bind_reads _ _ (maybe_identifier_reads t) (λ tag h. skip_reads _ _ (eat_adds m.OpenBrace) (λ more. enumerated_by_reads tag more h))

  name_base_gives : (i : Input) (typed : Bool) → i.tokens ≡ t → kind_at t i.at ≡ Some token.Name →
      Gives t (BaseNames t) (name_base expr declarator specs typed i)
  name_base_gives i true same is = (same, tt)
  name_base_gives i false same is = typedef_case t i (is_typedef i) same is

  base_by_gives : (i : Input) (typed : Bool) (k : Option TokenKind) → i.tokens ≡ t → kind_at t i.at ≡ k
      → Gives t (BaseNames t) (base_by expr declarator specs typed k i)
  base_by_gives i typed (Some (token.Keyword w.Struct)) same is = (then_reads _ _ take_adds (tagged_reads false)).reads i same
  base_by_gives i typed (Some (token.Keyword w.Union)) same is = (then_reads _ _ take_adds (tagged_reads true)).reads i same
  base_by_gives i typed (Some (token.Keyword w.Enum)) same is = (then_reads _ _ take_adds enumerated_reads).reads i same
  base_by_gives i typed (Some token.Name) same is = name_base_gives i typed same is
  base_by_gives i typed _ same is = (same, tt)

  specifier_base_reads : (typed : Bool) → Reads t (BaseNames t) (specifier_base expr declarator specs typed)
  unfolding specifier_base
  specifier_base_reads typed = record { reads = λ i same. base_by_gives i typed (kind i) same (kind_of_next t i same) }

  behind_reads : (allowed : AWord → Bool) (first : ℕ) (before : List AWord) (b : Base) → BaseNames t b
      → Reads t (SpecsName t) (specifiers_behind expr declarator specs allowed first before b)
  behind_reads allowed first before b h = here_reads _ (λ i. if_reads (i.at == first) _ _ refuse_reads
      (skip_reads _ _ (words_adds allowed) (λ behind. pure_reads (specs_of (before ++ behind) b) h)))

  pub specifiers_reads : (allowed : AWord → Bool) → Reads t (SpecsName t) (specifiers expr declarator specs allowed)
  unfolding specifiers
  specifiers_reads allowed = here_reads _ (λ i. skip_reads _ _ (words_adds allowed) (λ before.
      bind_reads _ _ (specifier_base_reads (has_type_word before)) (λ b h. behind_reads allowed i.at before b h)))

  -- ---- declarators

  one_parameter_reads : Reads t (ParamNames t) (one_parameter expr declarator specs)
  unfolding one_parameter
  one_parameter_reads = bind_reads _ _ (gs is_declaration_word) (λ s h. bind_reads _ _ (gd Either) (λ p k.
      then_reads _ _ (declares_adds false (name_of p)) (pure_reads _ (h, k))))

  parameters_from_reads : (n : ℕ) (found : List Param) → All (ParamNames t) found
      → Reads t (λ p. All (ParamNames t) p.0) (parameters_from expr declarator specs n found)
  unfolding parameters_from
  parameters_from_reads zero found all = refuse_reads
  parameters_from_reads (suc n) found all = bind_reads _ _ one_parameter_reads (λ p h.
      let more = All-push (ParamNames t) found p all h in
      skip_reads _ _ (eat_adds m.Comma) (λ comma. if_reads comma _ _
      (skip_reads _ _ (eat_adds m.Ellipsis) (λ ellipsis. if_reads ellipsis _ _ (pure_reads (found ++ p ∷ [], true) more)
      (parameters_from_reads n (found ++ p ∷ []) more)))
      (pure_reads (found ++ p ∷ [], false) more)))

  parameters_reads : Reads t (λ p. All (ParamNames t) p.0) (parameters expr declarator specs)
  unfolding parameters
  parameters_reads = here_reads _ (λ i. if_reads (sees m.CloseParen i) _ _ (pure_reads no_parameters (All-nil (ParamNames t)))
      (parameters_from_reads (turns i) [] (All-nil (ParamNames t))))

  array_suffix_reads : (inner : Declarator) → DeclaratorNames t inner → Reads t (DeclaratorNames t) (array_suffix expr declarator specs inner)
  unfolding array_suffix
  array_suffix_reads inner h = skip_reads _ _ (eat_adds m.CloseBracket) (λ none. if_reads none _ _ (pure_reads (decl.Array inner None) (array_names t inner h))
      (bind_reads _ _ (apart_reads _ (ge op.assignment)) (λ e k.
      then_reads _ _ (expect_adds m.CloseBracket) (pure_reads (decl.Array inner (Some e)) (array_of_names t inner e h k)))))

  function_suffix_reads : (inner : Declarator) → DeclaratorNames t inner → Reads t (DeclaratorNames t) (function_suffix expr declarator specs inner)
  unfolding function_suffix
  function_suffix_reads inner h = bind_reads _ _ (prototype_reads (is_own_name inner) _ parameters_reads) (λ p k.
      then_reads _ _ (expect_adds m.CloseParen) (pure_reads _ (function_names t inner p.0 p.1 h k)))

  one_suffix_reads : (inner : Declarator) → DeclaratorNames t inner → Reads t (DeclaratorNames t) (one_suffix expr declarator specs inner)
  unfolding one_suffix
  one_suffix_reads inner h = skip_reads _ _ (eat_adds m.OpenBracket) (λ bracket. if_reads bracket _ _ (array_suffix_reads inner h)
      (then_reads _ _ take_adds (function_suffix_reads inner h)))

  suffixes_from_reads : (n : ℕ) (inner : Declarator) → DeclaratorNames t inner → Reads t (DeclaratorNames t) (suffixes_from expr declarator specs n inner)
  unfolding suffixes_from
  suffixes_from_reads zero inner h = refuse_reads
  suffixes_from_reads (suc n) inner h = here_reads _ (λ i. if_reads (opens_suffix (kind i)) _ _
      (bind_reads _ _ (one_suffix_reads inner h) (λ d k. suffixes_from_reads n d k)) (pure_reads inner h))

  suffixes_reads : (inner : Declarator) → DeclaratorNames t inner → Reads t (DeclaratorNames t) (suffixes expr declarator specs inner)
  unfolding suffixes
  suffixes_reads inner h = here_reads _ (λ i. suffixes_from_reads (turns i) inner h)

  nested_reads : (mode : Mode) → Reads t (DeclaratorNames t) (nested expr declarator specs mode)
  unfolding nested
  nested_reads mode = bind_reads _ _ (gd mode) (λ inner h. then_reads _ _ (expect_adds m.CloseParen) (pure_reads inner h))

  innermost_by_gives : (i : Input) (mode : Mode) (k : Option TokenKind) → i.tokens ≡ t → kind_at t i.at ≡ k
      → Gives t (DeclaratorNames t) (innermost_by expr declarator specs mode k i)
  innermost_by_gives i mode (Some token.Name) same is = named_gives t i mode same is
  innermost_by_gives i mode (Some (token.Punct m.OpenParen)) same is =
      (if_reads (opens_parameters mode i) _ _ (nameless_reads t mode) (then_reads _ _ take_adds (nested_reads mode))).reads i same
  innermost_by_gives i mode _ same is = (nameless_reads t mode).reads i same

  innermost_reads : (mode : Mode) → Reads t (DeclaratorNames t) (innermost expr declarator specs mode)
  unfolding innermost
  innermost_reads mode = record { reads = λ i same. innermost_by_gives i mode (kind i) same (kind_of_next t i same) }

  pointed_reads : (mode : Mode) → Reads t (DeclaratorNames t) (pointed expr declarator specs mode)
  unfolding pointed
  pointed_reads mode = skip_reads _ _ (words_adds is_qualifier) (λ qualifiers. bind_reads _ _ (gd mode) (λ inner h.
      pure_reads _ (pointer_names t qualifiers inner h)))

  pub one_declarator_reads : (mode : Mode) → Reads t (DeclaratorNames t) (one_declarator expr declarator specs mode)
  unfolding one_declarator
  one_declarator_reads mode = skip_reads _ _ (eat_adds m.Star) (λ star. if_reads star _ _ (pointed_reads mode)
      (bind_reads _ _ (innermost_reads mode) (λ inner h. suffixes_reads inner h)))
