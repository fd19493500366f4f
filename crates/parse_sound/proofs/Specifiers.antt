-- What is read as specifiers is spelled.
use Rattle.std.proofs.Common.{
  ◌≡◌,
  ℕ,
  zero,
  suc,
  ◌==◌,
  Bool,
  true,
  false,
  List,
  [],
  ◌∷◌,
  ◌++◌,
  Option,
  Some,
  None,
  refl,
  sym,
  ap,
  subst,
  ◌∙◌,
  append-nil,
  inl,
  inr,
  arith,
}
use Rattle.std.proofs.lemmas.Bool.Decides.{nat_tests}
use denote.Hole.Carrier.{roll}
use Rattle.c_lex.specs.declared.token.TokenKind.{TokenKind}
use Rattle.c_lex.specs.declared.token.TokenKind.TheVariants as token
use Rattle.c_lex.specs.declared.token.Word.{Word as AWord}
use Rattle.c_lex.specs.declared.token.Word.TheVariants as w
use Rattle.c_lex.specs.declared.token.Mark.TheVariants as m
use Rattle.c_ast.specs.declared.declaration.Base.{Base}
use Rattle.c_ast.specs.declared.declaration.Base.TheBlock.{Plain, Tagged', Enumerated', Typedef, hidden-the_row-Declarator-5}
use Rattle.c_ast.specs.declared.declaration.Base.TheVariants as base
use Rattle.c_ast.specs.declared.declaration.Base.TheViews.{roll-Enumerator}
use Rattle.c_ast.specs.declared.declaration.Declarator.{Declarator}
use Rattle.c_ast.specs.declared.declaration.Enumerator.{Enumerator}
use Rattle.c_ast.specs.declared.declaration.MemberEntry.{MemberEntry}
use Rattle.c_ast.specs.declared.declaration.Specs.{Specs}
use Rattle.c_ast.specs.declared.expression.Expr.{Expr}
use Rattle.c_ast.specs.Input.{Input, kind, next, is_typedef, declared}
use Rattle.c_grammar.specs.Operators as op
use Rattle.c_grammar.specs.Grammar.{Mode, Named, IsExpr, Specifiers, BaseRule, AssertionRule, MemberRule, MemberNames, EnumeratorRule, tag_word}
use Rattle.c_grammar.specs.Rules.{Rule, ◌⨾◌, Nothing, Mark, MaybeMark, Identifier, MaybeIdentifier, Message, Words, is_qualified_word, has_type_word}
use Rattle.parse_spec.specs.Steps.{Parser, turns, sees_word, allows, one_word, words_from, words, maybe_identifier_by, maybe_identifier}
use Rattle.parse_spec.specs.Specifiers.{
  message,
  assertion,
  names_from,
  member_names,
  one_member,
  members_from,
  tagged_by,
  tagged,
  enumerator_value,
  one_enumerator,
  enumerators_from,
  enumerated_by,
  enumerated,
  name_base,
  base_by,
  specifier_base,
  specifiers,
}
use Rattle.parse_sound.proofs.Holding.{Holds, holds, refused, bind_holds, weaken, if_holds, eat_holds, eat_by_holds, expect_holds, expect_word_holds}
use Rattle.parse_sound.proofs.Expressions.{ExprHolds, DeclaratorHolds, SpecsHold, identifier_holds, strings_holds}
use Rattle.parse_sound.proofs.Rows.{
  Comma,
  Between,
  AtLeastOne,
  Extends,
  longer,
  longer_then,
  pushed,
  at_least_then,
  NamedRule,
  some_names,
  no_names,
  members,
  enumerators,
}

-- ---- keywords

allows_is : (allowed : AWord → Bool) (k : Option TokenKind) → allows allowed k ≡ true
    → (word : AWord) × ((k ≡ Some (token.Keyword word)) × ((one_word k ≡ word ∷ []) × (allowed word ≡ true)))
allows_is allowed (Some (token.Keyword word)) e = (word, (refl, (refl, e)))
allows_is allowed _ e = absurd (cc)

-- the keywords behind those that were found, as many as there are
abbrev ReadsWords : (AWord → Bool) → List AWord → Input → List AWord → Input → Type 0
ReadsWords allowed found i all j = Extends found (Words allowed) i all j × (allows allowed (kind j) ≡ false)

words_from_holds : (allowed : AWord → Bool) (n : ℕ) (found : List AWord) (i : Input) → Holds (ReadsWords allowed found i) (words_from allowed n found i)
unfolding words_from
words_from_holds allowed zero found i = refused
words_from_holds allowed (suc n) found i = if_holds (allows allowed (kind i)) _ _ i
    (λ e. let a = allows_is allowed (kind i) e in
    weaken _ (words_from_holds allowed n (found ++ one_word (kind i)) (next i)) (λ all j h. (
      (a.0 ∷ h.0.0, (pushed found a.0 h.0.0 all (subst (λ x. all ≡ (found ++ x) ++ h.0.0) a.1.1.0 h.0.1.0), (next i, ((a.1.1.1, (a.1.0, refl)), h.0.1.1)))),
      h.1,
    )))
    (λ e. holds (([], (sym (append-nil found), refl)), e))

pub words_hold : (allowed : AWord → Bool) (i : Input) → Holds (λ all j. Words allowed all i j × (allows allowed (kind j) ≡ false)) (words allowed i)
words_hold allowed i = weaken _ (words_from_holds allowed (turns i) [] i) (λ all j h. (subst (λ l. Words allowed l i j) (sym h.0.1.0) h.0.1.1, h.1))

maybe_identifier_by_holds : (i : Input) (k : Option TokenKind) → kind i ≡ k → Holds (λ n j. MaybeIdentifier n i j) (maybe_identifier_by k i)
maybe_identifier_by_holds i (Some token.Name) is = holds (refl, (is, refl))
maybe_identifier_by_holds i _ is = holds refl

maybe_identifier_holds : (i : Input) → Holds (λ n j. MaybeIdentifier n i j) (maybe_identifier i)
unfolding maybe_identifier
maybe_identifier_holds i = maybe_identifier_by_holds i (kind i) refl

message_holds : (i : Input) → Holds (λ n j. (Message n ⨾ Mark m.CloseParen ⨾ Mark m.Semicolon) i j) (message i)
unfolding message
message_holds i = bind_holds _ _ (strings_holds i) (λ count j h. bind_holds _ _ (expect_holds m.CloseParen j) (λ _ k c.
    bind_holds _ _ (expect_holds m.Semicolon k) (λ _ l d. holds (j, ((count, h), (k, (c, d)))))))

-- ---- what stands between the keywords

-- the specifier that is no keyword, and that none takes no token
abbrev ReadsBase : Bool → Input → Base → Input → Type 0
ReadsBase typed i b j = BaseRule b typed i j × (b ≡ base.Plain → j ≡ i)

plain_base : (typed : Bool) (i : Input) → (typed ≡ false → kind i ≡ Some token.Name → is_typedef i ≡ false) → ReadsBase typed i base.Plain i
plain_base true i h = (refl, (λ _. refl))
plain_base false i h = ((refl, h refl), (λ _. refl))

members_base : (union : Bool) (tag : Option ℕ) (all : List MemberEntry) (typed : Bool) (i x j : Input) → kind i ≡ Some (token.Keyword (tag_word union))
    → MaybeIdentifier tag (next i) x → kind x ≡ Some (token.Punct m.OpenBrace) → (AtLeastOne MemberRule all ⨾ Mark m.CloseBrace) (next x) j
    → ReadsBase typed i (base.Tagged union tag (Some all)) j
members_base union None all typed i x j is h brace (y, (g, c)) =
    ((next i, ((is, refl), (x, (h, (next x, ((brace, refl), (y, (members all (next x) y g, c)))))))), (λ e. absurd (cc)))
members_base union (Some n) all typed i x j is h brace (y, (g, c)) =
    ((next i, ((is, refl), (x, (h, (next x, ((brace, refl), (y, (members all (next x) y g, c)))))))), (λ e. absurd (cc)))

enumerators_base : (tag : Option ℕ) (all : List Enumerator) (typed : Bool) (i x j : Input) → kind i ≡ Some (token.Keyword w.Enum)
    → MaybeIdentifier tag (next i) x → kind x ≡ Some (token.Punct m.OpenBrace) →
    (Between Comma EnumeratorRule all ⨾ MaybeMark m.Comma ⨾ Mark m.CloseBrace) (next x) j
    → ReadsBase typed i (base.Enumerated tag (Some all)) j
enumerators_base None all typed i x j is h brace (y, (g, c)) =
    ((next i, ((is, refl), (x, (h, (next x, ((brace, refl), (y, (enumerators all (next x) y g, c)))))))), (λ e. absurd (cc)))
enumerators_base (Some n) all typed i x j is h brace (y, (g, c)) =
    ((next i, ((is, refl), (x, (h, (next x, ((brace, refl), (y, (enumerators all (next x) y g, c)))))))), (λ e. absurd (cc)))

abbrev MaybeValue : Option Expr → Rule
MaybeValue None = Nothing
MaybeValue (Some e) = Mark m.Equal ⨾ IsExpr op.conditional e

enumerator_rule : (n : ℕ) (v : Option Expr) (i x y : Input) → Identifier n i x → MaybeValue v x y
    → EnumeratorRule (roll-Enumerator (record { name = n; value = v })) i (declared n false y)
unfolding roll-Enumerator roll
enumerator_rule n None i x y h g = (x, (h, (y, (g, refl))))
enumerator_rule n (Some e) i x y h g = (x, (h, (y, (g, refl))))

-- ---- specifiers as a whole

no_more : (allowed : AWord → Bool) (c : AWord) (x j : Input) → j ≡ x → kind j ≡ Some (token.Keyword c) → allowed c ≡ true → allows allowed (kind x) ≡ false → ⊥
no_more allowed c x j same is may stop =
    let wrong : true ≡ false = sym may ∙ sym (ap (allows allowed) is) ∙ ap (λ s. allows allowed (kind s)) same ∙ stop in cc

-- none but keywords
plain_specs : (allowed : AWord → Bool) (before behind : List AWord) (i x j k : Input) → Words allowed before i x → allows allowed (kind x) ≡ false
    → ReadsBase (has_type_word before) x base.Plain j → Words allowed behind j k → (j.at == i.at) ≡ false
    → Specifiers allowed base.Plain (BaseRule base.Plain) (before ++ behind) i k
plain_specs allowed [] behind i x j k h stop b g new =
    let same : j.at ≡ i.at = ap (λ s. s.at) (b.1 refl ∙ h) in absurd (grind (arith, nat_tests, new, same))
plain_specs allowed (a ∷ before) [] i x j k h stop b g new =
    subst (λ l. Specifiers allowed base.Plain (BaseRule base.Plain) l i k) (sym (append-nil (a ∷ before)))
    (x, (h, subst (λ s. BaseRule base.Plain (has_type_word (a ∷ before)) x s) (sym g) b.0))
plain_specs allowed (a ∷ before) (c ∷ behind) i x j k h stop b g new = absurd (no_more allowed c x j (b.1 refl) g.1.0.1.0 g.1.0.0 stop)

specs_made : (allowed : AWord → Bool) (before behind : List AWord) (b : Base) (i x j k : Input) → Words allowed before i x → allows allowed (kind x) ≡ false
    → ReadsBase (has_type_word before) x b j → Words allowed behind j k → (j.at == i.at) ≡ false
    → Specifiers allowed b (BaseRule b) (before ++ behind) i k
specs_made allowed before behind Plain i x j k h stop b g new = plain_specs allowed before behind i x j k h stop b g new
specs_made allowed before behind (Typedef n) i x j k h stop b g new = (before, (behind, (refl, (x, (h, (j, (b.0, g)))))))
specs_made allowed before behind (Tagged' union tag all) i x j k h stop b g new = (before, (behind, (refl, (x, (h, (j, (b.0, g)))))))
specs_made allowed before behind (Enumerated' tag all) i x j k h stop b g new = (before, (behind, (refl, (x, (h, (j, (b.0, g)))))))

module _ (expr : ℕ → Parser Expr) (declarator : Mode → Parser Declarator) (specs : (AWord → Bool) → Parser Specs)
    (ge : ExprHolds expr) (gd : DeclaratorHolds declarator) (gs : SpecsHold specs) where
  pub assertion_holds : (i : Input) → Holds (λ p j. AssertionRule p.0 p.1 i j) (assertion expr declarator specs i)
  unfolding assertion
  assertion_holds i = bind_holds _ _ (expect_word_holds w.StaticAssert i) (λ _ a h. bind_holds _ _ (expect_holds m.OpenParen a) (λ _ b k.
      bind_holds _ _ (ge 2 (omega arith) b) (λ e c l. bind_holds _ _ (expect_holds m.Comma c) (λ _ d n. bind_holds _ _ (message_holds d) (λ p f o.
      holds (a, (h, (b, (k, (c, (l.0, (d, (n, o)))))))))))))

  names_from_holds : (n : ℕ) (found : List Declarator) (i : Input) →
      Holds (Extends found (Between Comma NamedRule) i) (names_from expr declarator specs n found i)
  unfolding names_from
  names_from_holds zero found i = refused
  names_from_holds (suc n) found i = bind_holds _ _ (gd Named i) (λ d j h. eat_holds m.Comma _ _ j
      (λ comma. weaken _ (names_from_holds n (found ++ d ∷ []) (next j)) (λ all k g. longer NamedRule found d i j h comma all k g))
      (λ none. holds (d ∷ [], (refl, (j, (h, refl))))))

  member_names_holds : (i : Input) → Holds (λ ds j. (MemberNames (hidden-the_row-Declarator-5 ds) ⨾ Mark m.Semicolon) i j)
      (member_names expr declarator specs i)
  unfolding member_names
  member_names_holds i = eat_holds m.Semicolon _ _ i
      (λ is. holds (i, (no_names i, (is, refl))))
      (λ none. bind_holds _ _ (names_from_holds (turns i) [] i) (λ ds j h. bind_holds _ _ (expect_holds m.Semicolon j) (λ _ k c.
      holds (j, (some_names ds i j (subst (λ l. Between Comma NamedRule l i j) (sym h.1.0) h.1.1), c)))))

  one_member_holds : (i : Input) → Holds (λ a j. MemberRule a i j) (one_member expr declarator specs i)
  unfolding one_member
  one_member_holds i = if_holds (sees_word w.StaticAssert i) _ _ i
      (λ e. bind_holds _ _ (assertion_holds i) (λ p j h. holds h))
      (λ e. bind_holds _ _ (gs is_qualified_word i) (λ s j h. bind_holds _ _ (member_names_holds j) (λ ds k g. holds (j, (h, g)))))

  members_from_holds : (n : ℕ) (found : List MemberEntry) (i : Input)
      → Holds (Extends found (λ more. AtLeastOne MemberRule more ⨾ Mark m.CloseBrace) i) (members_from expr declarator specs n found i)
  unfolding members_from
  members_from_holds zero found i = refused
  members_from_holds (suc n) found i = bind_holds _ _ (one_member_holds i) (λ a j h. eat_holds m.CloseBrace _ _ j
      (λ brace. holds (a ∷ [], (refl, (j, ((j, (h, refl)), (brace, refl))))))
      (λ none. weaken _ (members_from_holds n (found ++ a ∷ []) j) (λ all k g. at_least_then MemberRule (Mark m.CloseBrace) found a i j h all k g)))

  tagged_by_holds : (union typed : Bool) (tag : Option ℕ) (i x : Input) → kind i ≡ Some (token.Keyword (tag_word union)) → MaybeIdentifier tag (next i) x
      → kind x ≡ Some (token.Punct m.OpenBrace) → Holds (ReadsBase typed i) (tagged_by expr declarator specs union tag true (next x))
  tagged_by_holds union typed tag i x is h brace = bind_holds _ _ (members_from_holds (turns (next x)) [] (next x)) (λ all j g.
      holds (members_base union tag all typed i x j is h brace (subst (λ l. (AtLeastOne MemberRule l ⨾ Mark m.CloseBrace) (next x) j) (sym g.1.0) g.1.1)))

  tagged_alone_holds : (union typed : Bool) (tag : Option ℕ) (i x : Input) → kind i ≡ Some (token.Keyword (tag_word union)) → MaybeIdentifier tag (next i) x
      → Holds (ReadsBase typed i) (tagged_by expr declarator specs union tag false x)
  tagged_alone_holds union typed None i x is h = refused
  tagged_alone_holds union typed (Some n) i x is h = holds ((next i, ((is, refl), (x, (h, refl)))), (λ e. absurd (cc)))

  tagged_holds : (union typed : Bool) (i : Input) → kind i ≡ Some (token.Keyword (tag_word union)) →
      Holds (ReadsBase typed i) (tagged expr declarator specs union (next i))
  unfolding tagged
  tagged_holds union typed i is = bind_holds _ _ (maybe_identifier_holds (next i))
      (λ tag x h. eat_by_holds m.OpenBrace (tagged_by expr declarator specs union tag) x
      (λ brace. tagged_by_holds union typed tag i x is h brace) (λ none. tagged_alone_holds union typed tag i x is h))

  enumerator_value_holds : (i : Input) → Holds (λ v j. MaybeValue v i j) (enumerator_value expr declarator specs i)
  unfolding enumerator_value
  enumerator_value_holds i = eat_holds m.Equal _ _ i
      (λ is. bind_holds _ _ (ge 2 (omega arith) (next i)) (λ e j h. holds (next i, ((is, refl), h.0))))
      (λ none. holds refl)

  one_enumerator_holds : (i : Input) → Holds (λ a j. EnumeratorRule a i j) (one_enumerator expr declarator specs i)
  unfolding one_enumerator
  one_enumerator_holds i = bind_holds _ _ (identifier_holds i)
      (λ n x h. bind_holds _ _ (enumerator_value_holds x) (λ v y g. holds (enumerator_rule n v i x y h g)))

  abbrev EnumeratorsEnd : Rule
  EnumeratorsEnd = MaybeMark m.Comma ⨾ Mark m.CloseBrace

  enumerators_from_holds : (n : ℕ) (found : List Enumerator) (i : Input)
      → Holds (Extends found (λ more. Between Comma EnumeratorRule more ⨾ EnumeratorsEnd) i) (enumerators_from expr declarator specs n found i)
  unfolding enumerators_from
  enumerators_from_holds zero found i = refused
  enumerators_from_holds (suc n) found i = bind_holds _ _ (one_enumerator_holds i) (λ a j h. eat_holds m.Comma _ _ j
      (λ comma. eat_holds m.CloseBrace _ _ (next j)
      (λ brace. holds (a ∷ [], (refl, (j, ((j, (h, refl)), (next j, (inr (comma, refl), (brace, refl))))))))
      (λ none. weaken _ (enumerators_from_holds n (found ++ a ∷ []) (next j))
      (λ all k g. longer_then EnumeratorRule EnumeratorsEnd found a i j h comma all k g)))
      (λ none. bind_holds _ _ (expect_holds m.CloseBrace j) (λ _ k c. holds (a ∷ [], (refl, (j, ((j, (h, refl)), (j, (inl refl, c)))))))))

  enumerated_by_holds : (typed : Bool) (tag : Option ℕ) (i x : Input) → kind i ≡ Some (token.Keyword w.Enum) → MaybeIdentifier tag (next i) x
      → kind x ≡ Some (token.Punct m.OpenBrace) → Holds (ReadsBase typed i) (enumerated_by expr declarator specs tag true (next x))
  enumerated_by_holds typed tag i x is h brace = bind_holds _ _ (enumerators_from_holds (turns (next x)) [] (next x)) (λ all j g.
      holds (enumerators_base tag all typed i x j is h brace (subst (λ l. (Between Comma EnumeratorRule l ⨾ EnumeratorsEnd) (next x) j) (sym g.1.0) g.1.1)))

  enumerated_alone_holds : (typed : Bool) (tag : Option ℕ) (i x : Input) → kind i ≡ Some (token.Keyword w.Enum) → MaybeIdentifier tag (next i) x
      → Holds (ReadsBase typed i) (enumerated_by expr declarator specs tag false x)
  enumerated_alone_holds typed None i x is h = refused
  enumerated_alone_holds typed (Some n) i x is h = holds ((next i, ((is, refl), (x, (h, refl)))), (λ e. absurd (cc)))

  enumerated_holds : (typed : Bool) (i : Input) → kind i ≡ Some (token.Keyword w.Enum) → Holds (ReadsBase typed i) (enumerated expr declarator specs (next i))
  unfolding enumerated
  enumerated_holds typed i is = bind_holds _ _ (maybe_identifier_holds (next i))
      (λ tag x h. eat_by_holds m.OpenBrace (enumerated_by expr declarator specs tag) x
      (λ brace. enumerated_by_holds typed tag i x is h brace) (λ none. enumerated_alone_holds typed tag i x is h))

  name_base_holds : (typed : Bool) (i : Input) → kind i ≡ Some token.Name → Holds (ReadsBase typed i) (name_base expr declarator specs typed i)
  name_base_holds true i is = holds (refl, (λ _. refl))
  name_base_holds false i is = if_holds (is_typedef i) _ _ i (λ e. holds ((e, (refl, (is, refl))), (λ e. absurd (cc))))
      (λ e. holds ((refl, (λ _. e)), (λ _. refl)))

  base_by_holds : (typed : Bool) (i : Input) (k : Option TokenKind) → kind i ≡ k → Holds (ReadsBase typed i) (base_by expr declarator specs typed k i)
  base_by_holds typed i (Some (token.Keyword w.Struct)) is = tagged_holds false typed i is
  base_by_holds typed i (Some (token.Keyword w.Union)) is = tagged_holds true typed i is
  base_by_holds typed i (Some (token.Keyword w.Enum)) is = enumerated_holds typed i is
  base_by_holds typed i (Some token.Name) is = name_base_holds typed i is
  base_by_holds typed i _ is = holds (plain_base typed i (λ _ e. absurd (let wrong = sym is ∙ e in cc)))

  specifier_base_holds : (typed : Bool) (i : Input) → Holds (ReadsBase typed i) (specifier_base expr declarator specs typed i)
  unfolding specifier_base
  specifier_base_holds typed i = base_by_holds typed i (kind i) refl

  pub specifiers_hold : SpecsHold (specifiers expr declarator specs)
  unfolding specifiers
  specifiers_hold allowed i = bind_holds _ _ (words_hold allowed i) (λ before x h. bind_holds _ _ (specifier_base_holds (has_type_word before) x) (λ b j g.
      if_holds (j.at == i.at) _ _ j (λ e. refused) (λ e. bind_holds _ _ (words_hold allowed j) (λ behind k l.
      holds (specs_made allowed before behind b i x j k h.0 h.1 g l.0 e)))))
