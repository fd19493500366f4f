-- Structures, unions, enumerations and typedef names that are spelled are read.
use Rattle.std.proofs.Common.{
  ◌≡◌,
  ◌≢◌,
  ℕ,
  zero,
  suc,
  ◌<◌,
  ◌≤◌,
  Bool,
  true,
  false,
  ◌⊎◌,
  inl,
  inr,
  List,
  [],
  ◌∷◌,
  ◌++◌,
  Option,
  Some,
  None,
  refl,
  sym,
  ap,
  ◌∙◌,
  subst,
  arith,
  append_assoc,
}
use mathlib.Core.Former.{this, arity}
use Rattle.sqlite_items.specs.formers.items.Items.{the_former}
use Rattle.c_lex.specs.declared.token.TokenKind.{TokenKind}
use Rattle.c_lex.specs.declared.token.TokenKind.TheVariants as token
use Rattle.c_lex.specs.declared.token.Word.{Word as AWord}
use Rattle.c_lex.specs.declared.token.Word.TheVariants as w
use Rattle.c_lex.specs.declared.token.Mark.TheVariants as m
use Rattle.c_ast.specs.declared.declaration.Base.{Base}
use Rattle.c_ast.specs.declared.declaration.Base.TheBlock.{
  Typedef,
  Tagged',
  Base-Tagged-2-None',
  Base-Tagged-2-Some',
  Enumerated',
  Base-Enumerated-1-None',
  Base-Enumerated-1-Some',
  Fields',
  Assertion',
  Enumerator-value-None',
  Enumerator-value-Some',
  Row_of-Declarator,
  end_of-Declarator,
  more_of-Declarator,
  Row_of-MemberEntry,
  end_of-MemberEntry,
  more_of-MemberEntry,
  Row_of-Enumerator,
  end_of-Enumerator,
  more_of-Enumerator,
}
use Rattle.c_ast.specs.declared.declaration.Declarator.{Declarator}
use Rattle.c_ast.specs.declared.declaration.Enumerator.{Enumerator, Enumerator'}
use Rattle.c_ast.specs.declared.declaration.MemberEntry.{MemberEntry}
use Rattle.c_ast.specs.declared.expression.ExprNode.{ExprNode}
use Rattle.c_ast.specs.Input.{Input, kind, next, is_typedef, declared}
use Rattle.c_grammar.specs.Operators as op
use Rattle.c_grammar.specs.Grammar.{
  Named,
  DeclaratorOperand,
  DeclaratorRule,
  BaseRule,
  Members,
  MoreMembers,
  MemberRule,
  MemberNames,
  MoreNames,
  Enumerators,
  MoreEnumerators,
  EnumeratorRule,
  Spells,
  level,
  tag_word,
}
use Rattle.c_grammar.specs.Rules.{Rule, ◌⨾◌, Nothing, Mark, MaybeMark, Word, Identifier, MaybeIdentifier, Message, Operand, Strings, is_qualified_word}
use Rattle.parse_spec.specs.Steps.{left, turns, maybe_identifier, same_mark, sees, allows}
use Rattle.parse_spec.specs.Nested.{expr, declarator, specs}
use Rattle.parse_spec.specs.Places.{begins_by}
use Rattle.parse_spec.specs.Expressions.{made}
use Rattle.parse_spec.specs.Specifiers.{
  message,
  assertion,
  names_from,
  member_names,
  one_member,
  members_from,
  tagged,
  enumerator_value,
  one_enumerator,
  enumerators_from,
  enumerated,
  specifier_base,
}
use Rattle.parse_sound.proofs.Holding.{sees_of, sees_word_of}
use Rattle.parse_complete.proofs.Declarators.{stops, ends_specs, IsDeclared, declarator_read, declarator_less, declarator_ends, named_no_stop}
use Rattle.parse_complete.proofs.Keeps.{
  tag_members_keep,
  tag_enumerators_keep,
  then_keeps,
  mark_keeps,
  operand_keeps,
  spells_keeps,
  message_keeps,
  member_names_keep,
  maybe_identifier_keeps,
  enumerator_keeps,
}
use Rattle.parse_complete.proofs.Parens.{IsRead, operand_expr}
use Rattle.parse_complete.proofs.Specifiers.{NoTags, qualified_tags, IsSpecified, IsBase, specifiers_less, specs_begin, specified_from, between_read}
use Rattle.parse_complete.proofs.Steps.{mark_takes, word_takes, takes_one, expect_of, expect_word_of, eat_yes, eat_no, sees_by, sees_not, sees_word_not}
use Rattle.parse_complete.proofs.Tables.{grip, grip_is}
use Rattle.parse_complete.proofs.Trees.{
  names,
  members_of,
  enumerators_of,
  fields_is,
  assertion_is,
  bare_enumerator_is,
  valued_enumerator_is,
  tagged_is,
  enumerated_is,
}
use Rattle.parse_complete.proofs.Words.{identifier_read, no_identifier, some_identifier, strings_read}

-- ---- static assertions

abbrev AssertionOf : ℕ → ExprNode → ℕ → Rule
AssertionOf at a n = Word w.StaticAssert ⨾ Mark m.OpenParen ⨾ Operand op.conditional (level a) at (Spells a) ⨾ Mark m.Comma ⨾ Message n
    ⨾ Mark m.CloseParen ⨾ Mark m.Semicolon

message_at : (n count : ℕ) (s t : Input) → Strings n count s t → n ≡ s.at
message_at n zero s t h = absurd h
message_at n (suc count) s t h = h.0

message_read : (n : ℕ) (s x y t : Input) → Message n s x → Mark m.CloseParen x y → Mark m.Semicolon y t → message s ≡ Some (n, t)
unfolding message
message_read n s x y t h close end =
    let all = strings_read n h.0 s x h.1 (rw close.0 refl) in
    rw (all, expect_of m.CloseParen x close.0, ← close.1, expect_of m.Semicolon y end.0, end.1) (ap (λ k. Some (k, next y)) (sym (message_at n h.0 s x h.1)))

pub assertion_read : (at : ℕ) (a : ExprNode) (n : ℕ) → IsRead a → (s t : Input) → AssertionOf at a n s t → (d : ℕ) → left s ≤ d
    → assertion (expr d) (declarator d) (specs d) s ≡ Some ((made at a, n), t)
unfolding assertion
assertion_read at a n c s t (x, (word, (y, (before, (z, (h, (u, (comma, (v, (text, (q, (close, end)))))))))))) d le =
    let p = word_takes w.StaticAssert s x word in
    let p2 = mark_takes m.OpenParen x y before in
    let stop : grip z ≤ 1 = omega (arith, grip_is z m.Comma comma.0) in
    let inner = operand_expr a c at 2 (omega arith) y z h (omega arith) (omega arith) d (omega arith) in
    rw (
      expect_word_of w.StaticAssert s word.0,
      ← word.1,
      expect_of m.OpenParen x before.0,
      ← before.1,
      inner,
      expect_of m.Comma z comma.0,
      ← comma.1,
      message_read n u v q t text close end,
    ) refl

-- ---- the declarators of a member

abbrev pub AreNames : {n : _} → Row_of-Declarator n → Type 0
AreNames end_of-Declarator = Unit {0}
AreNames (more_of-Declarator e rest) = IsDeclared e × AreNames rest

after_name : {n : _} (rest : Row_of-Declarator n) (s q : Input) → MoreNames rest s q → kind q ≡ Some (token.Punct m.Semicolon)
    → (stops (kind s) ≡ true) × (ends_specs (kind s) ≡ true)
after_name end_of-Declarator s q h last = let x = ap kind (sym h) ∙ last in (rw x refl, rw x refl)
after_name (more_of-Declarator e rest) s q h last = (rw h.1.0.0 refl, rw h.1.0.0 refl)

names_found : {n : _} (e : Declarator) (rest : Row_of-Declarator n) → IsDeclared e → AreNames rest → (s x q : Input)
    → DeclaratorOperand Named 0 e (DeclaratorRule e Named) s x → MoreNames rest x q → kind q ≡ Some (token.Punct m.Semicolon)
    → (d : ℕ) → left s < d → (n : ℕ) → left s < n → (found : List Declarator)
    → names_from (expr d) (declarator d) (specs d) n found s ≡ Some (found ++ e ∷ names rest, q)
unfolding names_from same_mark
names_found e rest c cs s x q h g last d le zero lt found = absurd (omega arith)
names_found e end_of-Declarator c cs s x q h g last d le (suc n) lt found =
    let one = declarator_read e c Named s x h (after_name end_of-Declarator x q g last).0 d le in
    let none = sees_by m.Comma x _ (ap kind (sym g) ∙ last) refl in
    rw (one, none, eat_no m.Comma x none, g) refl
names_found e (more_of-Declarator e2 rest) c cs s x q h g last d le (suc n) lt found =
    let one = declarator_read e c Named s x h (after_name (more_of-Declarator e2 rest) x q g last).0 d le in
    let p = declarator_less Named 0 e s x h in
    let r = mark_takes m.Comma x g.0 g.1.0 in
    let more = names_found e2 rest cs.0 cs.1 g.0 g.1.1.0 q g.1.1.1.0 g.1.1.1.1 last d (omega arith) n (omega arith) (found ++ e ∷ []) in
    rw (one, sees_of m.Comma x g.1.0.0, eat_yes m.Comma x g.1.0.0, ← g.1.0.1, more) (ap (λ l. Some (l, q)) (append_assoc found (e ∷ []) (e2 ∷ names rest)))

-- the declarators of a member and the semicolon
abbrev NamesEnd : {n : _} → Row_of-Declarator n → Rule
NamesEnd row = MemberNames row ⨾ Mark m.Semicolon

member_names_read : {n : _} (row : Row_of-Declarator n) → AreNames row → (s t : Input) → NamesEnd row s t → (d : ℕ) → left s < d
    → member_names (expr d) (declarator d) (specs d) s ≡ Some (names row, t)
unfolding member_names
member_names_read end_of-Declarator cs s t (x, (h, end)) d le =
    let here = ap kind (sym h) ∙ end.0 in
    rw (sees_of m.Semicolon s here, eat_yes m.Semicolon s here, ← h, end.1) refl
member_names_read (more_of-Declarator e rest) cs s t (x, ((y, (h, g)), end)) d le =
    let more = names_found e rest cs.0 cs.1 s y x h g end.0 d le (turns s) (omega arith) [] in
    let none = sees_not m.Semicolon s (λ is. absurd (let g = named_no_stop e 0 s y h in let f = rw is at g in cc)) in
    rw (none, eat_no m.Semicolon s none, more, expect_of m.Semicolon x end.0, end.1) refl

names_free : {n : _} (row : Row_of-Declarator n) (s t : Input) → NamesEnd row s t → ends_specs (kind s) ≡ true
names_free end_of-Declarator s t (x, (h, end)) = rw (ap kind (sym h) ∙ end.0) refl
names_free (more_of-Declarator e rest) s t (x, ((y, (h, g)), end)) = declarator_ends e Named 0 s y h (after_name rest y x g end.0).1

-- ---- members

abbrev pub IsMember : MemberEntry → Type 0
IsMember a = (s t : Input) → MemberRule a s t → (d : ℕ) → left s < d → one_member (expr d) (declarator d) (specs d) s ≡ Some (a, t)

no_assert : (allowed : AWord → Bool) (typedef : Bool) (k : Option TokenKind) → allowed w.StaticAssert ≡ false → begins_by allowed typedef k ≡ true →
    k ≢ Some (token.Keyword w.StaticAssert)
no_assert allowed typedef k never h is = let g = rw (is, never) at h in cc

pub fields_found : (words : List AWord) (b : Base) (n : List (Unit {0})) (row : Row_of-Declarator (arity (the_former (this {0})) n)) → IsSpecified b words →
    AreNames row
    → IsMember (Fields' words b n row)
unfolding one_member
fields_found words b n row c cs s t (x, (h, g)) d le =
    let p = specifiers_less is_qualified_word b words s x h in
    let head = c is_qualified_word qualified_tags s x h (names_free row x t g) d le in
    let rest = member_names_read row cs x t g d (omega arith) in
    let none = sees_word_not w.StaticAssert s (no_assert is_qualified_word (is_typedef s) (kind s) refl (specs_begin is_qualified_word b words s x h)) in
    rw (none, head, rest, fields_is words b n row) refl

pub member_assertion_found : (at : ℕ) (a : ExprNode) (n : ℕ) → IsRead a → IsMember (Assertion' at a n)
unfolding one_member
member_assertion_found at a n c s t h d le = rw (sees_word_of w.StaticAssert s h.1.0.0, assertion_read at a n c s t h d (omega arith), assertion_is at a n)
    refl

abbrev pub AreMembers : {n : _} → Row_of-MemberEntry n → Type 0
AreMembers end_of-MemberEntry = Unit {0}
AreMembers (more_of-MemberEntry a rest) = IsMember a × AreMembers rest

begins_no_brace : (typedef : Bool) (k : Option TokenKind) → begins_by is_qualified_word typedef k ≡ true → k ≢ Some (token.Punct m.CloseBrace)
begins_no_brace typedef k h is = let g = rw is at h in cc

member_no_brace : (a : MemberEntry) (s t : Input) → MemberRule a s t → sees m.CloseBrace s ≡ false
unfolding same_mark
member_no_brace (Fields' words b n row) s t h =
    sees_not m.CloseBrace s (begins_no_brace (is_typedef s) (kind s) (specs_begin is_qualified_word b words s h.0 h.1.0))
member_no_brace (Assertion' at a n) s t h = sees_by m.CloseBrace s _ h.1.0.0 refl

member_less : (a : MemberEntry) (s t : Input) → MemberRule a s t → left t < left s
member_less (Fields' words b n row) s t (x, (h, (y, (g, end)))) =
    omega (arith, specifiers_less is_qualified_word b words s x h, (member_names_keep row).keeps x y g, mark_takes m.Semicolon y t end)
member_less (Assertion' at a n) s t (x, (word, h)) =
    let rest = then_keeps _ _ (mark_keeps m.OpenParen)
    (then_keeps _ _ (operand_keeps op.conditional (level a) at (Spells a) (spells_keeps a)) (then_keeps _ _ (mark_keeps m.Comma)
    (then_keeps _ _ (message_keeps n) (then_keeps _ _ (mark_keeps m.CloseParen) (mark_keeps m.Semicolon))))) in
    omega (arith, word_takes w.StaticAssert s x word, rest.keeps x t h)

members_found : {n : _} (a : MemberEntry) (rest : Row_of-MemberEntry n) → IsMember a → AreMembers rest →
    (s x q t : Input) → MemberRule a s x → MoreMembers rest x q
    → Mark m.CloseBrace q t → (d : ℕ) → left s < d → (n : ℕ) → left s < n → (found : List MemberEntry)
    → members_from (expr d) (declarator d) (specs d) n found s ≡ Some (found ++ a ∷ members_of rest, t)
unfolding members_from
members_found a rest c cs s x q t h g close d le zero lt found = absurd (omega arith)
members_found a end_of-MemberEntry c cs s x q t h g close d le (suc n) lt found =
    let one = c s x h d le in
    let here = ap kind (sym g) ∙ close.0 in
    rw (one, sees_of m.CloseBrace x here, eat_yes m.CloseBrace x here, ← g, close.1) refl
members_found a (more_of-MemberEntry a2 rest) c cs s x q t h g close d le (suc n) lt found =
    let one = c s x h d le in
    let none = member_no_brace a2 x g.0 g.1.0 in
    let p = member_less a s x h in
    let more = members_found a2 rest cs.0 cs.1 x g.0 q t g.1.0 g.1.1 close d (omega arith) n (omega arith) (found ++ a ∷ []) in
    rw (one, none, eat_no m.CloseBrace x none, more) (ap (λ l. Some (l, t)) (append_assoc found (a ∷ []) (a2 ∷ members_of rest)))

-- a list of members behind its opening brace
abbrev MembersEnd : {n : _} → Row_of-MemberEntry n → Rule
MembersEnd row = Members row ⨾ Mark m.CloseBrace

members_read : {n : _} (row : Row_of-MemberEntry n) → AreMembers row → (s t : Input) → MembersEnd row s t → (d : ℕ) → left s < d
    → members_from (expr d) (declarator d) (specs d) (turns s) [] s ≡ Some (members_of row, t)
members_read end_of-MemberEntry cs s t h d le = absurd h.1.0
members_read (more_of-MemberEntry a rest) cs s t (q, ((x, (h, g)), close)) d le =
    members_found a rest cs.0 cs.1 s x q t h g close d le (turns s) (omega arith) []

-- ---- structures and unions

tag_read : (tag : Option ℕ) (s t : Input) → MaybeIdentifier tag s t → kind t ≡ Some (token.Punct m.OpenBrace) → maybe_identifier s ≡ Some (tag, t)
tag_read None s t h is = no_identifier s (rw (ap kind (sym h) ∙ is) refl) ∙ ap (λ x. Some (None, x)) (sym h)
tag_read (Some n) s t h is = some_identifier n s t h

tag_free : (allowed : AWord → Bool) → NoTags allowed → (union : Bool) → allowed (tag_word union) ≡ false
tag_free allowed tags true = tags.union
tag_free allowed tags false = tags.struct

tagged_at : (d : ℕ) (typed union : Bool) (s : Input) → kind s ≡ Some (token.Keyword (tag_word union))
    → specifier_base (expr d) (declarator d) (specs d) typed s ≡ tagged (expr d) (declarator d) (specs d) union (next s)
unfolding specifier_base
tagged_at d typed true s is = rw is refl
tagged_at d typed false s is = rw is refl

defined_base : (union : Bool) (tag : Option ℕ) (n : List (Unit {0})) (row : Row_of-MemberEntry (arity (the_former (this {0})) n)) → AreMembers row
    → (typed : Bool) (s t : Input) → (Word (tag_word union) ⨾ MaybeIdentifier tag ⨾ Mark m.OpenBrace ⨾ MembersEnd row) s t → (d : ℕ) → left s ≤ d
    → specifier_base (expr d) (declarator d) (specs d) typed s ≡ Some (Tagged' union tag (Base-Tagged-2-Some' n row), t)
unfolding tagged
defined_base union tag n row cs typed s t (x, (word, (y, (name, (z, (brace, all)))))) d le =
    let p = word_takes (tag_word union) s x word in
    let q = (maybe_identifier_keeps tag).keeps x y name in
    let r = mark_takes m.OpenBrace y z brace in
    let more = members_read row cs z t all d (omega arith) in
    tagged_at d typed union s word.0
    ∙ rw (← word.1, tag_read tag x y name brace.0, sees_of m.OpenBrace y brace.0, eat_yes m.OpenBrace y brace.0, ← brace.1, more, tagged_is union tag n row)
    refl

alone_base : (union : Bool) (n : ℕ) (typed : Bool) (s t : Input) → (Word (tag_word union) ⨾ Identifier n) s t → sees m.OpenBrace t ≡ false → (d : ℕ)
    → specifier_base (expr d) (declarator d) (specs d) typed s ≡ Some (Tagged' union (Some n) Base-Tagged-2-None', t)
unfolding tagged
alone_base union n typed s t (x, (word, name)) none d =
    tagged_at d typed union s word.0 ∙ rw (← word.1, some_identifier n x t name, none, eat_no m.OpenBrace t none) refl

-- ---- enumerations

kind_declared : (n : ℕ) (typedef : Bool) (s : Input) → kind (declared n typedef s) ≡ kind s
unfolding kind declared
kind_declared n typedef s = refl

-- what follows an enumerator
abbrev pub EndsEnumerator : Input → Type 0
EndsEnumerator t = (kind t ≡ Some (token.Punct m.Comma)) ⊎ (kind t ≡ Some (token.Punct m.CloseBrace))

ends_equal : (t : Input) → EndsEnumerator t → sees m.Equal t ≡ false
unfolding same_mark
ends_equal t (inl is) = sees_by m.Equal t _ is refl
ends_equal t (inr is) = sees_by m.Equal t _ is refl

pub ends_tight : (t : Input) → EndsEnumerator t → grip t ≤ 1
ends_tight t (inl is) = omega (arith, grip_is t m.Comma is)
ends_tight t (inr is) = omega (arith, grip_is t m.CloseBrace is)

abbrev pub IsEnumerator : Enumerator → Type 0
IsEnumerator a = (s t : Input) → EnumeratorRule a s t → EndsEnumerator t →
    (d : ℕ) → left s < d → one_enumerator (expr d) (declarator d) (specs d) s ≡ Some (a, t)

declared_end : (n : ℕ) (y t : Input) → t ≡ declared n false y → EndsEnumerator t → EndsEnumerator y
declared_end n y t e end = subst (λ k. (k ≡ Some (token.Punct m.Comma)) ⊎ (k ≡ Some (token.Punct m.CloseBrace))) (ap kind e ∙ kind_declared n false y) end

pub bare_enumerator_found : (n : ℕ) → IsEnumerator (Enumerator' n Enumerator-value-None')
unfolding one_enumerator enumerator_value
bare_enumerator_found n s t (x, (name, (y, (same, e)))) end d le =
    let none = ends_equal x (subst EndsEnumerator same (declared_end n y t e end)) in
    rw (identifier_read n s x name, none, eat_no m.Equal x none, e, same, bare_enumerator_is n) refl

pub valued_enumerator_found : (n at : ℕ) (a : ExprNode) → IsRead a → IsEnumerator (Enumerator' n (Enumerator-value-Some' at a))
unfolding one_enumerator enumerator_value
valued_enumerator_found n at a c s t (x, (name, (y, ((z, (equal, h)), e)))) end d le =
    let p = takes_one token.Name s x name.1 in
    let q = mark_takes m.Equal x z equal in
    let stop = ends_tight y (declared_end n y t e end) in
    let inner = operand_expr a c at 2 (omega arith) z y h (omega arith) (omega arith) d (omega arith) in
    rw (identifier_read n s x name, sees_of m.Equal x equal.0, eat_yes m.Equal x equal.0, ← equal.1, inner, e, valued_enumerator_is n at a) refl

abbrev pub AreEnumerators : {n : _} → Row_of-Enumerator n → Type 0
AreEnumerators end_of-Enumerator = Unit {0}
AreEnumerators (more_of-Enumerator a rest) = IsEnumerator a × AreEnumerators rest

abbrev pub ListEnd : Rule
ListEnd = MaybeMark m.Comma ⨾ Mark m.CloseBrace

pub list_ends : (s t : Input) → ListEnd s t → EndsEnumerator s
list_ends s t (x, (inl same, close)) = inr (ap kind (sym same) ∙ close.0)
list_ends s t (x, (inr comma, close)) = inl comma.0

after_enumerator : {n : _} (rest : Row_of-Enumerator n) (s q t : Input) → MoreEnumerators rest s q → ListEnd q t → EndsEnumerator s
after_enumerator end_of-Enumerator s q t h end = subst EndsEnumerator h (list_ends q t end)
after_enumerator (more_of-Enumerator a rest) s q t h end = inl h.1.0.0

enumerator_no_brace : (a : Enumerator) (s t : Input) → EnumeratorRule a s t → sees m.CloseBrace s ≡ false
enumerator_no_brace (Enumerator' n value) s t h = sees_by m.CloseBrace s _ h.1.0.1.0 refl

last_enumerator : (d n : ℕ) (found : List Enumerator) (a : Enumerator) (s x t : Input) → one_enumerator (expr d) (declarator d) (specs d) s ≡ Some (a, x) →
    ListEnd x t
    → enumerators_from (expr d) (declarator d) (specs d) (suc n) found s ≡ Some (found ++ a ∷ [], t)
unfolding enumerators_from same_mark
last_enumerator d n found a s x t one (y, (inl same, close)) =
    let here = ap kind (sym same) ∙ close.0 in
    let none = sees_by m.Comma x _ here refl in
    rw (one, none, eat_no m.Comma x none, expect_of m.CloseBrace x here, ← same, close.1) refl
last_enumerator d n found a s x t one (y, (inr comma, close)) =
    rw (one, sees_of m.Comma x comma.0, eat_yes m.Comma x comma.0, ← comma.1, sees_of m.CloseBrace y close.0, eat_yes m.CloseBrace y close.0, close.1) refl

enumerators_found : {n : _} (a : Enumerator) (rest : Row_of-Enumerator n) → IsEnumerator a → AreEnumerators rest → (s x q t : Input) → EnumeratorRule a s x
    → MoreEnumerators rest x q → ListEnd q t → (d : ℕ) → left s < d → (n : ℕ) → left s < n → (found : List Enumerator)
    → enumerators_from (expr d) (declarator d) (specs d) n found s ≡ Some (found ++ a ∷ enumerators_of rest, t)
unfolding enumerators_from
enumerators_found a rest c cs s x q t h g end d le zero lt found = absurd (omega arith)
enumerators_found a end_of-Enumerator c cs s x q t h g end d le (suc n) lt found =
    let one = c s x h (after_enumerator end_of-Enumerator x q t g end) d le in
    last_enumerator d n found a s x t one (subst (λ u. ListEnd u t) g end)
enumerators_found a (more_of-Enumerator a2 rest) c cs s x q t h g end d le (suc n) lt found =
    let one = c s x h (after_enumerator (more_of-Enumerator a2 rest) x q t g end) d le in
    let comma = g.1.0 in
    let none = enumerator_no_brace a2 g.0 g.1.1.0 g.1.1.1.0 in
    let p = (enumerator_keeps a).keeps s x h in
    let r = mark_takes m.Comma x g.0 comma in
    let more = enumerators_found a2 rest cs.0 cs.1 g.0 g.1.1.0 q t g.1.1.1.0 g.1.1.1.1 end d (omega arith) n (omega arith) (found ++ a ∷ []) in
    rw (one, sees_of m.Comma x comma.0, eat_yes m.Comma x comma.0, ← comma.1, none, eat_no m.CloseBrace g.0 none, more)
    (ap (λ l. Some (l, t)) (append_assoc found (a ∷ []) (a2 ∷ enumerators_of rest)))

-- a list of enumerators behind its opening brace
abbrev EnumeratorsEnd : {n : _} → Row_of-Enumerator n → Rule
EnumeratorsEnd row = Enumerators row ⨾ ListEnd

enumerators_read : {n : _} (row : Row_of-Enumerator n) → AreEnumerators row → (s t : Input) → EnumeratorsEnd row s t → (d : ℕ) → left s < d
    → enumerators_from (expr d) (declarator d) (specs d) (turns s) [] s ≡ Some (enumerators_of row, t)
enumerators_read end_of-Enumerator cs s t h d le = absurd h.1.0
enumerators_read (more_of-Enumerator a rest) cs s t (q, ((x, (h, g)), end)) d le =
    enumerators_found a rest cs.0 cs.1 s x q t h g end d le (turns s) (omega arith) []

enumerated_at : (d : ℕ) (typed : Bool) (s : Input) → kind s ≡ Some (token.Keyword w.Enum)
    → specifier_base (expr d) (declarator d) (specs d) typed s ≡ enumerated (expr d) (declarator d) (specs d) (next s)
unfolding specifier_base
enumerated_at d typed s is = rw is refl

enumeration_base : (tag : Option ℕ) (n : List (Unit {0})) (row : Row_of-Enumerator (arity (the_former (this {0})) n)) → AreEnumerators row
    → (typed : Bool) (s t : Input) → (Word w.Enum ⨾ MaybeIdentifier tag ⨾ Mark m.OpenBrace ⨾ EnumeratorsEnd row) s t → (d : ℕ) → left s ≤ d
    → specifier_base (expr d) (declarator d) (specs d) typed s ≡ Some (Enumerated' tag (Base-Enumerated-1-Some' n row), t)
unfolding enumerated
enumeration_base tag n row cs typed s t (x, (word, (y, (name, (z, (brace, all)))))) d le =
    let p = word_takes w.Enum s x word in
    let q = (maybe_identifier_keeps tag).keeps x y name in
    let r = mark_takes m.OpenBrace y z brace in
    let more = enumerators_read row cs z t all d (omega arith) in
    enumerated_at d typed s word.0
    ∙ rw (← word.1, tag_read tag x y name brace.0, sees_of m.OpenBrace y brace.0, eat_yes m.OpenBrace y brace.0, ← brace.1, more, enumerated_is tag n row) refl

alone_enumeration : (n : ℕ) (typed : Bool) (s t : Input) → (Word w.Enum ⨾ Identifier n) s t → sees m.OpenBrace t ≡ false → (d : ℕ)
    → specifier_base (expr d) (declarator d) (specs d) typed s ≡ Some (Enumerated' (Some n) Base-Enumerated-1-None', t)
unfolding enumerated
alone_enumeration n typed s t (x, (word, name)) none d =
    enumerated_at d typed s word.0 ∙ rw (← word.1, some_identifier n x t name, none, eat_no m.OpenBrace t none) refl

-- ---- specifiers that are no keywords

word_free : (allowed : AWord → Bool) (word : AWord) (s : Input) → allowed word ≡ false → kind s ≡ Some (token.Keyword word) → allows allowed (kind s) ≡ false
word_free allowed word s free is = ap (allows allowed) is ∙ free

typedef_base : (n : ℕ) → IsBase (Typedef n)
unfolding specifier_base
typedef_base n = record {
  read = λ typed s t h none d le. typedef_read typed s t h d;
  less = λ typed s t h. typedef_less typed s t h;
  free = λ allowed tags typed s t h. typedef_free allowed typed s t h;
}
  where
    typedef_read : (typed : Bool) (s t : Input) → BaseRule (Typedef n) typed s t →
        (d : ℕ) → specifier_base (expr d) (declarator d) (specs d) typed s ≡ Some (Typedef n, t)
    typedef_read true s t h d = absurd h
    typedef_read false s t h d = rw (h.1.1.0, h.0, h.1.0, h.1.1.1) refl

    typedef_less : (typed : Bool) (s t : Input) → BaseRule (Typedef n) typed s t → left t < left s
    typedef_less true s t h = absurd h
    typedef_less false s t h = takes_one token.Name s t h.1.1

    typedef_free : (allowed : AWord → Bool) (typed : Bool) (s t : Input) → BaseRule (Typedef n) typed s t → allows allowed (kind s) ≡ false
    typedef_free allowed true s t h = absurd h
    typedef_free allowed false s t h = ap (allows allowed) h.1.1.0

pub typedef_found : (n : ℕ) (words : List AWord) → IsSpecified (Typedef n) words
typedef_found n words = specified_from (Typedef n) words (between_read (Typedef n) words (typedef_base n))

tagged_less : (union typed : Bool) (tag : Option ℕ) (all : _) (s t : Input) → BaseRule (Tagged' union tag all) typed s t → left t < left s
tagged_less union typed tag all s t (x, (word, h)) =
    let rest = then_keeps _ _ (maybe_identifier_keeps tag) (tag_members_keep tag all) in
    omega (arith, word_takes (tag_word union) s x word, rest.keeps x t h)

never_base : (b : Base) → ((typed : Bool) (s t : Input) → BaseRule b typed s t → ⊥) → IsBase b
never_base b nothing = record {
  read = λ typed s t h. absurd (nothing typed s t h);
  less = λ typed s t h. absurd (nothing typed s t h);
  free = λ allowed tags typed s t h. absurd (nothing typed s t h);
}

pub defined_found : (union : Bool) (tag : Option ℕ) (n : List (Unit {0})) (row : Row_of-MemberEntry (arity (the_former (this {0})) n)) (words : List AWord) →
    AreMembers row
    → IsSpecified (Tagged' union tag (Base-Tagged-2-Some' n row)) words
defined_found union None n row words cs = specified_from (Tagged' union None (Base-Tagged-2-Some' n row)) words
    (between_read (Tagged' union None (Base-Tagged-2-Some' n row)) words (record {
      read = λ typed s t h none d le. defined_base union None n row cs typed s t h d le;
      less = λ typed s t h. tagged_less union typed None (Base-Tagged-2-Some' n row) s t h;
      free = λ allowed tags typed s t h. word_free allowed (tag_word union) s (tag_free allowed tags union) h.1.0.0;
    }))
defined_found union (Some k) n row words cs = specified_from (Tagged' union (Some k) (Base-Tagged-2-Some' n row)) words
    (between_read (Tagged' union (Some k) (Base-Tagged-2-Some' n row)) words (record {
      read = λ typed s t h none d le. defined_base union (Some k) n row cs typed s t h d le;
      less = λ typed s t h. tagged_less union typed (Some k) (Base-Tagged-2-Some' n row) s t h;
      free = λ allowed tags typed s t h. word_free allowed (tag_word union) s (tag_free allowed tags union) h.1.0.0;
    }))

-- a rule and one that takes nothing
drop_nothing : (R S : Rule) (s t : Input) → (R ⨾ S ⨾ Nothing) s t → (R ⨾ S) s t
drop_nothing R S s t (x, (h, (y, (g, same)))) = (x, (h, subst (λ u. S x u) (sym same) g))

pub tag_found : (union : Bool) (tag : Option ℕ) (words : List AWord) → IsSpecified (Tagged' union tag Base-Tagged-2-None') words
tag_found union None words = specified_from (Tagged' union None Base-Tagged-2-None') words
    (between_read (Tagged' union None Base-Tagged-2-None') words (never_base (Tagged' union None Base-Tagged-2-None') (λ typed s t h. h.1.1.1.1)))
tag_found union (Some k) words = specified_from (Tagged' union (Some k) Base-Tagged-2-None') words
    (between_read (Tagged' union (Some k) Base-Tagged-2-None') words (record {
      read = λ typed s t h none d le. alone_base union k typed s t (drop_nothing (Word (tag_word union)) (Identifier k) s t h) none d;
      less = λ typed s t h. tagged_less union typed (Some k) Base-Tagged-2-None' s t h;
      free = λ allowed tags typed s t h. word_free allowed (tag_word union) s (tag_free allowed tags union) h.1.0.0;
    }))

enumerated_less : (typed : Bool) (tag : Option ℕ) (all : _) (s t : Input) → BaseRule (Enumerated' tag all) typed s t → left t < left s
enumerated_less typed tag all s t (x, (word, h)) =
    let rest = then_keeps _ _ (maybe_identifier_keeps tag) (tag_enumerators_keep tag all) in
    omega (arith, word_takes w.Enum s x word, rest.keeps x t h)

pub enumeration_found : (tag : Option ℕ) (n : List (Unit {0})) (row : Row_of-Enumerator (arity (the_former (this {0})) n)) (words : List AWord) →
    AreEnumerators row
    → IsSpecified (Enumerated' tag (Base-Enumerated-1-Some' n row)) words
enumeration_found None n row words cs = specified_from (Enumerated' None (Base-Enumerated-1-Some' n row)) words
    (between_read (Enumerated' None (Base-Enumerated-1-Some' n row)) words (record {
      read = λ typed s t h none d le. enumeration_base None n row cs typed s t h d le;
      less = λ typed s t h. enumerated_less typed None (Base-Enumerated-1-Some' n row) s t h;
      free = λ allowed tags typed s t h. word_free allowed w.Enum s tags.enum h.1.0.0;
    }))
enumeration_found (Some k) n row words cs = specified_from (Enumerated' (Some k) (Base-Enumerated-1-Some' n row)) words
    (between_read (Enumerated' (Some k) (Base-Enumerated-1-Some' n row)) words (record {
      read = λ typed s t h none d le. enumeration_base (Some k) n row cs typed s t h d le;
      less = λ typed s t h. enumerated_less typed (Some k) (Base-Enumerated-1-Some' n row) s t h;
      free = λ allowed tags typed s t h. word_free allowed w.Enum s tags.enum h.1.0.0;
    }))

pub enumeration_tag_found : (tag : Option ℕ) (words : List AWord) → IsSpecified (Enumerated' tag Base-Enumerated-1-None') words
enumeration_tag_found None words = specified_from (Enumerated' None Base-Enumerated-1-None') words
    (between_read (Enumerated' None Base-Enumerated-1-None') words (never_base (Enumerated' None Base-Enumerated-1-None') (λ typed s t h. h.1.1.1.1)))
enumeration_tag_found (Some k) words = specified_from (Enumerated' (Some k) Base-Enumerated-1-None') words
    (between_read (Enumerated' (Some k) Base-Enumerated-1-None') words (record {
      read = λ typed s t h none d le. alone_enumeration k typed s t (drop_nothing (Word w.Enum) (Identifier k) s t h) none d;
      less = λ typed s t h. enumerated_less typed (Some k) Base-Enumerated-1-None' s t h;
      free = λ allowed tags typed s t h. word_free allowed w.Enum s tags.enum h.1.0.0;
    }))
