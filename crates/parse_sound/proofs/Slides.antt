-- What was kept of parameters before changes nothing of what tokens spell.
use Rattle.std.proofs.Common.{◌≡◌, ℕ, zero, suc, Bool, true, false, List, [], ◌∷◌, ◌++◌, length, drop, Option, Some, None, if◌then◌else◌, ap, inl, inr}
use Rattle.c_lex.specs.declared.token.TokenKind.{TokenKind}
use Rattle.c_lex.specs.declared.token.TokenKind.TheVariants as token
use Rattle.c_lex.specs.declared.token.Word.{Word as AWord}
use Rattle.c_lex.specs.declared.token.Word.TheVariants as w
use Rattle.c_lex.specs.declared.token.Mark.{Mark as AMark}
use Rattle.c_lex.specs.declared.token.Mark.TheVariants as m
use Rattle.c_ast.specs.declared.declaration.Base.{Base}
use Rattle.c_ast.specs.declared.declaration.Base.TheBlock.{
  Plain,
  Tagged',
  Base-Tagged-2-None',
  Base-Tagged-2-Some',
  Held-Base-Tagged-2,
  Enumerated',
  Base-Enumerated-1-None',
  Base-Enumerated-1-Some',
  Held-Base-Enumerated-1,
  Typedef,
  Fields',
  Assertion',
  Ident,
  Pointer',
  Array',
  Declarator-Array-1-None',
  Declarator-Array-1-Some',
  Held-Declarator-Array-1,
  Function',
  Enumerator-value-None',
  Enumerator-value-Some',
  Held-Enumerator-value,
  Name,
  Number,
  CharLit,
  Strings as StringsNode,
  Unary',
  Postfix',
  Binary',
  Assign',
  Cond',
  Comma',
  Call',
  Index',
  Dot',
  Arrow',
  Cast',
  SizeofExpr',
  SizeofType',
  AlignofType',
  Row_of-Expr,
  end_of-Expr,
  more_of-Expr,
  Row_of-TypeName,
  end_of-TypeName,
  more_of-TypeName,
  Row_of-Declarator,
  end_of-Declarator,
  more_of-Declarator,
  Row_of-Enumerator,
  end_of-Enumerator,
  more_of-Enumerator,
  Row_of-MemberEntry,
  end_of-MemberEntry,
  more_of-MemberEntry,
}
use Rattle.c_ast.specs.declared.declaration.MemberEntry.{MemberEntry}
use Rattle.c_ast.specs.declared.declaration.Declarator.{Declarator}
use Rattle.c_ast.specs.declared.declaration.Enumerator.{Enumerator, Enumerator'}
use Rattle.c_ast.specs.declared.expression.ExprNode.{ExprNode}
use Rattle.c_ast.specs.declared.expression.BinaryOp.{BinaryOp}
use Rattle.c_ast.specs.Input.{Input, kind, next, is_typedef, declared}
use Rattle.c_grammar.specs.Operators as op
use Rattle.c_grammar.specs.Rules.{
  Rule,
  ◌⨾◌,
  Nothing,
  Never,
  Takes,
  Mark,
  Word,
  Numbered,
  Identifier,
  MaybeIdentifier,
  NameThat,
  NoTypedef,
  MaybeMark,
  Literals,
  Strings,
  Message,
  Within,
  From,
  Operand,
  Declares,
  Prototype,
  Apart,
  Words,
  is_qualifier,
  is_qualified_word,
  has_type_word,
}
use Rattle.c_grammar.specs.Grammar.{
  Mode,
  Named,
  Abstract,
  Either,
  NoParameters,
  WithinIn,
  DeclaratorOperand,
  is_own_name,
  level,
  tag_word,
  Specifiers,
  Spells,
  Stands,
  StandsAbove,
  Arguments,
  Several,
  AnotherExpr,
  MoreExprs,
  TypeNames,
  BaseRule,
  TagMembers,
  Members,
  MoreMembers,
  MemberRule,
  MemberNames,
  MoreNames,
  TagEnumerators,
  Enumerators,
  MoreEnumerators,
  EnumeratorRule,
  ValueRule,
  DeclaratorRule,
  Declarators,
  SizeRule,
  Parameters,
}

abbrev pub Kept : Type 0
Kept = List (ℕ × Bool)

-- the input with these parameters kept
abbrev pub keeping : Input → Kept → Input
keeping i p = record i { prototype = p }

pub record Slides (R : Rule) : Type 0 where
  pub slides : (i j : Input) → R i j → (p : Kept) → (q : Kept) × R (keeping i p) (keeping j q)

-- ---- single tokens

pub nothing_slides : Slides Nothing
nothing_slides = record { slides = λ i j h p. (p, ap (λ s. keeping s p) h) }

pub never_slides : Slides Never
never_slides = record { slides = λ i j h p. absurd h }

pub takes_slides : (k : TokenKind) → Slides (Takes k)
unfolding kind next
takes_slides k = record { slides = λ i j h p. (p, (h.0, ap (λ s. keeping s p) h.1)) }

pub mark_slides : (mark : AMark) → Slides (Mark mark)
mark_slides mark = takes_slides (token.Punct mark)

pub word_slides : (word : AWord) → Slides (Word word)
word_slides word = takes_slides (token.Keyword word)

pub numbered_slides : (k : TokenKind) (n : ℕ) → Slides (Numbered k n)
unfolding kind next
numbered_slides k n = record { slides = λ i j h p. (p, (h.0, (h.1.0, ap (λ s. keeping s p) h.1.1))) }

pub identifier_slides : (n : ℕ) → Slides (Identifier n)
identifier_slides n = numbered_slides token.Name n

pub maybe_identifier_slides : (n : Option ℕ) → Slides (MaybeIdentifier n)
maybe_identifier_slides None = nothing_slides
maybe_identifier_slides (Some n) = identifier_slides n

name_that_slides : (typedef : Bool) (n : ℕ) → Slides (NameThat typedef n)
unfolding kind next is_typedef
name_that_slides typedef n = record { slides = λ i j h p. (p, (h.0, (h.1.0, (h.1.1.0, ap (λ s. keeping s p) h.1.1.1)))) }

no_typedef_slides : Slides NoTypedef
unfolding kind is_typedef
no_typedef_slides = record { slides = λ i j h p. (p, (ap (λ s. keeping s p) h.0, h.1)) }

maybe_mark_case : (mark : AMark) (i j : Input) (p : Kept) → MaybeMark mark i j → (q : Kept) × MaybeMark mark (keeping i p) (keeping j q)
maybe_mark_case mark i j p (inl same) = (p, inl (ap (λ s. keeping s p) same))
maybe_mark_case mark i j p (inr h) = let more = (mark_slides mark).slides i j h p in (more.0, inr more.1)

pub maybe_mark_slides : (mark : AMark) → Slides (MaybeMark mark)
maybe_mark_slides mark = record { slides = λ i j h p. maybe_mark_case mark i j p h }

-- ---- one rule after another

pub then_slides : (R S : Rule) → Slides R → Slides S → Slides (R ⨾ S)
then_slides R S f g = record {
  slides = λ i j h p.
      let first = f.slides i h.0 h.1.0 p in
      let second = g.slides h.0 j h.1.1 first.0 in
      (second.0, (keeping h.0 first.0, (first.1, second.1)));
}

literals_slide : (count : ℕ) → Slides (Literals count)
literals_slide zero = nothing_slides
literals_slide (suc count) = then_slides _ _ (takes_slides token.StringLit) (literals_slide count)

strings_slide : (n count : ℕ) → Slides (Strings n count)
strings_slide n zero = record { slides = λ i j h p. absurd h }
strings_slide n (suc count) = record { slides = λ i j h p. let more = (literals_slide (suc count)).slides i j h.1 p in (more.0, (h.0, more.1)) }

pub message_slides : (n : ℕ) → Slides (Message n)
message_slides n = record { slides = λ i j h p. let more = (strings_slide n h.0).slides i j h.1 p in (more.0, (h.0, more.1)) }

allowed_slides : (allowed : AWord → Bool) (a : AWord) → Slides (λ s t. (allowed a ≡ true) × Word a s t)
allowed_slides allowed a = record { slides = λ i j h p. let more = (word_slides a).slides i j h.1 p in (more.0, (h.0, more.1)) }

words_slide : (allowed : AWord → Bool) (words : List AWord) → Slides (Words allowed words)
words_slide allowed [] = nothing_slides
words_slide allowed (a ∷ rest) = then_slides _ _ (allowed_slides allowed a) (words_slide allowed rest)

from_slides : (at : ℕ) (R : Rule) → Slides R → Slides (From at R)
from_slides at R f = record { slides = λ i j h p. let more = f.slides i j h.1 p in (more.0, (h.0, more.1)) }

within_slides : (n : ℕ) (R : Rule) → Slides R → Slides (Within n R)
within_slides zero R f = f
within_slides (suc n) R f = then_slides _ _ (mark_slides m.OpenParen) (then_slides _ _ (within_slides n R f) (mark_slides m.CloseParen))

pub operand_slides : (least own at : ℕ) (R : Rule) → Slides R → Slides (Operand least own at R)
operand_slides least own at R f = record {
  slides = λ i j h p.
      let more = (within_slides h.0 (From at R) (from_slides at R f)).slides i j h.1.1 p in
      (more.0, (h.0, (h.1.0, more.1)));
}

pub declares_slides : (typedef : Bool) (n : Option ℕ) → Slides (Declares typedef n)
unfolding declared
declares_slides typedef None = record { slides = λ i j h p. (p, ap (λ s. keeping s p) h) }
declares_slides typedef (Some n) = record { slides = λ i j h p. (p, ap (λ s. keeping s p) h) }

apart_slides : (R : Rule) → Slides (Apart R)
apart_slides R = record { slides = λ i j h p. (p, (h.0, (h.1.0, ap (λ s. keeping s p) h.1.1))) }

prototype_slides : (own : Bool) (R : Rule) → Slides (Prototype own R)
prototype_slides own R = record {
  slides = λ i j h p.
      let q = if own then drop (length i.names) h.0.names else p in
      (q, (h.0, (h.1.0, ap (λ s. keeping s q) h.1.1)));
}

no_parameters_slides : (mode : Mode) → Slides (NoParameters mode)
no_parameters_slides Named = nothing_slides
no_parameters_slides Abstract = nothing_slides
no_parameters_slides Either = no_typedef_slides

within_in_slides : (mode : Mode) (n : ℕ) (R : Rule) → Slides R → Slides (WithinIn mode n R)
within_in_slides mode zero R f = f
within_in_slides mode (suc n) R f =
    then_slides _ _ (mark_slides m.OpenParen)
    (then_slides _ _ (no_parameters_slides mode) (then_slides _ _ (within_in_slides mode n R f) (mark_slides m.CloseParen)))

pub declarator_operand_slides : (mode : Mode) (least : ℕ) (d : Declarator) (R : Rule) → Slides R → Slides (DeclaratorOperand mode least d R)
declarator_operand_slides mode least d R f = record {
  slides = λ i j h p.
      let more = (within_in_slides mode h.0 R f).slides i j h.1.1 p in
      (more.0, (h.0, (h.1.0, more.1)));
}

abbrev Between : (AWord → Bool) → (Bool → Rule) → List AWord → Rule
Between allowed R words s t =
    (before : List AWord) × ((behind : List AWord) × ((words ≡ before ++ behind)
    × (Words allowed before ⨾ R (has_type_word before) ⨾ Words allowed behind) s t))

between_slides : (allowed : AWord → Bool) (R : Bool → Rule) (words : List AWord) → ((typed : Bool) → Slides (R typed)) → Slides (Between allowed R words)
between_slides allowed R words f = record {
  slides = λ i j h p.
      let more = (then_slides _ _ (words_slide allowed h.0) (then_slides _ _ (f (has_type_word h.0)) (words_slide allowed h.1.0))).slides i j h.1.1.1 p in
      (more.0, (h.0, (h.1.0, (h.1.1.0, more.1))));
}

pub specifiers_slide : (allowed : AWord → Bool) (b : Base) (R : Bool → Rule) (words : List AWord) →
    ((typed : Bool) → Slides (R typed)) → Slides (Specifiers allowed b R words)
specifiers_slide allowed Plain R [] f = record { slides = λ i j h p. absurd h }
specifiers_slide allowed Plain R (a ∷ rest) f = then_slides _ _ (words_slide allowed (a ∷ rest)) (f (has_type_word (a ∷ rest)))
specifiers_slide allowed (Typedef n) R words f = between_slides allowed R words f
specifiers_slide allowed (Tagged' union tag all) R words f = between_slides allowed R words f
specifiers_slide allowed (Enumerated' tag all) R words f = between_slides allowed R words f

size_slides : (size : Held-Declarator-Array-1) → Slides (SizeRule size)
size_slides Declarator-Array-1-None' = nothing_slides
size_slides (Declarator-Array-1-Some' p a) = apart_slides (Stands op.assignment a)

ident_slides : (n : Option ℕ) (mode : Mode) → Slides (DeclaratorRule (Ident n) mode)
ident_slides n mode = record { slides = λ i j h p. let more = (maybe_identifier_slides n).slides i j h.1 p in (more.0, (h.0, more.1)) }

-- ---- the productions of expressions, specifiers and declarators

mutual
  pub spells_slides : (a : ExprNode) → Slides (Spells a)
  spells_slides (Name n) = name_that_slides false n
  spells_slides (Number n) = numbered_slides token.Number n
  spells_slides (CharLit n) = numbered_slides token.CharLit n
  spells_slides (StringsNode n count) = strings_slide n count
  spells_slides (Postfix' o p a) = then_slides _ _ (stands_slides op.postfix a) (mark_slides (op.post_mark o))
  spells_slides (Index' p a q b) = then_slides _ _ (stands_slides op.postfix a) (then_slides _ _ (mark_slides m.OpenBracket)
      (then_slides _ _ (stands_slides op.comma b) (mark_slides m.CloseBracket)))
  spells_slides (Call' p f q all) = then_slides _ _ (stands_slides op.postfix f) (then_slides _ _ (mark_slides m.OpenParen)
      (then_slides _ _ (arguments_slide all) (mark_slides m.CloseParen)))
  spells_slides (Dot' p a n) = then_slides _ _ (stands_slides op.postfix a) (then_slides _ _ (mark_slides m.Dot) (identifier_slides n))
  spells_slides (Arrow' p a n) = then_slides _ _ (stands_slides op.postfix a) (then_slides _ _ (mark_slides m.Arrow) (identifier_slides n))
  spells_slides (Unary' o p a) = then_slides _ _ (mark_slides (op.unary_mark o)) (stands_slides (op.operand_level o) a)
  spells_slides (SizeofExpr' p a) = then_slides _ _ (word_slides w.Sizeof) (stands_slides op.unary a)
  spells_slides (SizeofType' p of) = then_slides _ _ (word_slides w.Sizeof) (then_slides _ _ (mark_slides m.OpenParen)
      (then_slides _ _ (type_names_slide of) (mark_slides m.CloseParen)))
  spells_slides (AlignofType' p of) = then_slides _ _ (word_slides w.Alignof) (then_slides _ _ (mark_slides m.OpenParen)
      (then_slides _ _ (type_names_slide of) (mark_slides m.CloseParen)))
  spells_slides (Cast' p to q a) = then_slides _ _ (mark_slides m.OpenParen) (then_slides _ _ (type_names_slide to)
      (then_slides _ _ (mark_slides m.CloseParen) (stands_slides op.cast a)))
  spells_slides (Binary' o p a q b) = then_slides _ _ (stands_slides (op.level_of o) a)
      (then_slides _ _ (mark_slides (op.binary_mark o)) (stands_above_slides o b))
  spells_slides (Cond' p a q b r c) = then_slides _ _ (stands_slides op.logical_or a) (then_slides _ _ (mark_slides m.Question)
      (then_slides _ _ (stands_slides op.comma b) (then_slides _ _ (mark_slides m.Colon) (stands_slides op.conditional c))))
  spells_slides (Assign' o p a q b) = then_slides _ _ (stands_slides op.unary a)
      (then_slides _ _ (mark_slides (op.assign_mark o)) (stands_slides op.assignment b))
  spells_slides (Comma' p all) = several_slide all

  stands_slides : {n : _} (least : ℕ) (row : Row_of-Expr n) → Slides (Stands least row)
  stands_slides least end_of-Expr = never_slides
  stands_slides least (more_of-Expr at a rest) = operand_slides least (level a) at (Spells a) (spells_slides a)

  stands_above_slides : {n : _} (o : BinaryOp) (row : Row_of-Expr n) → Slides (StandsAbove o row)
  stands_above_slides o end_of-Expr = never_slides
  stands_above_slides o (more_of-Expr at a rest) = operand_slides _ (level a) at (Spells a) (spells_slides a)

  arguments_slide : {n : _} (row : Row_of-Expr n) → Slides (Arguments row)
  arguments_slide end_of-Expr = nothing_slides
  arguments_slide (more_of-Expr at a rest) = then_slides _ _ (operand_slides op.assignment (level a) at (Spells a) (spells_slides a)) (more_exprs_slide rest)

  several_slide : {n : _} (row : Row_of-Expr n) → Slides (Several row)
  several_slide end_of-Expr = never_slides
  several_slide (more_of-Expr at a rest) = then_slides _ _ (operand_slides op.assignment (level a) at (Spells a) (spells_slides a)) (another_slides rest)

  another_slides : {n : _} (row : Row_of-Expr n) → Slides (AnotherExpr row)
  another_slides end_of-Expr = never_slides
  another_slides (more_of-Expr at a rest) = then_slides _ _ (mark_slides m.Comma)
      (then_slides _ _ (operand_slides op.assignment (level a) at (Spells a) (spells_slides a)) (more_exprs_slide rest))

  more_exprs_slide : {n : _} (row : Row_of-Expr n) → Slides (MoreExprs row)
  more_exprs_slide end_of-Expr = nothing_slides
  more_exprs_slide (more_of-Expr at a rest) = then_slides _ _ (mark_slides m.Comma)
      (then_slides _ _ (operand_slides op.assignment (level a) at (Spells a) (spells_slides a)) (more_exprs_slide rest))

  type_names_slide : {n : _} (row : Row_of-TypeName n) → Slides (TypeNames row)
  type_names_slide end_of-TypeName = never_slides
  type_names_slide (more_of-TypeName words base d rest) = then_slides _ _
      (specifiers_slide is_qualified_word base (BaseRule base) words (λ typed. base_slides base typed))
      (declarator_operand_slides Abstract 0 d (DeclaratorRule d Abstract) (declarator_slides d Abstract))

  pub base_slides : (b : Base) (typed : Bool) → Slides (BaseRule b typed)
  base_slides Plain true = nothing_slides
  base_slides Plain false = no_typedef_slides
  base_slides (Typedef n) true = never_slides
  base_slides (Typedef n) false = name_that_slides true n
  base_slides (Tagged' union tag all) typed = then_slides _ _ (word_slides (tag_word union))
      (then_slides _ _ (maybe_identifier_slides tag) (tag_members_slide tag all))
  base_slides (Enumerated' tag all) typed = then_slides _ _ (word_slides w.Enum)
      (then_slides _ _ (maybe_identifier_slides tag) (tag_enumerators_slide tag all))

  tag_members_slide : (tag : Option ℕ) (all : Held-Base-Tagged-2) → Slides (TagMembers tag all)
  tag_members_slide None Base-Tagged-2-None' = never_slides
  tag_members_slide (Some n) Base-Tagged-2-None' = nothing_slides
  tag_members_slide None (Base-Tagged-2-Some' p all) = then_slides _ _ (mark_slides m.OpenBrace)
      (then_slides _ _ (members_slide all) (mark_slides m.CloseBrace))
  tag_members_slide (Some n) (Base-Tagged-2-Some' p all) = then_slides _ _ (mark_slides m.OpenBrace)
      (then_slides _ _ (members_slide all) (mark_slides m.CloseBrace))

  members_slide : {n : _} (row : Row_of-MemberEntry n) → Slides (Members row)
  members_slide end_of-MemberEntry = never_slides
  members_slide (more_of-MemberEntry a rest) = then_slides _ _ (member_slides a) (more_members_slide rest)

  more_members_slide : {n : _} (row : Row_of-MemberEntry n) → Slides (MoreMembers row)
  more_members_slide end_of-MemberEntry = nothing_slides
  more_members_slide (more_of-MemberEntry a rest) = then_slides _ _ (member_slides a) (more_members_slide rest)

  member_slides : (a : MemberEntry) → Slides (MemberRule a)
  member_slides (Fields' words base p ds) = then_slides _ _ (specifiers_slide is_qualified_word base (BaseRule base) words (λ typed. base_slides base typed))
      (then_slides _ _ (member_names_slide ds) (mark_slides m.Semicolon))
  member_slides (Assertion' at a message) = then_slides _ _ (word_slides w.StaticAssert) (then_slides _ _ (mark_slides m.OpenParen)
      (then_slides _ _ (operand_slides op.conditional (level a) at (Spells a) (spells_slides a)) (then_slides _ _ (mark_slides m.Comma)
      (then_slides _ _ (message_slides message) (then_slides _ _ (mark_slides m.CloseParen) (mark_slides m.Semicolon))))))

  member_names_slide : {n : _} (row : Row_of-Declarator n) → Slides (MemberNames row)
  member_names_slide end_of-Declarator = nothing_slides
  member_names_slide (more_of-Declarator d rest) =
      then_slides _ _ (declarator_operand_slides Named 0 d (DeclaratorRule d Named) (declarator_slides d Named)) (more_names_slide rest)

  more_names_slide : {n : _} (row : Row_of-Declarator n) → Slides (MoreNames row)
  more_names_slide end_of-Declarator = nothing_slides
  more_names_slide (more_of-Declarator d rest) = then_slides _ _ (mark_slides m.Comma)
      (then_slides _ _ (declarator_operand_slides Named 0 d (DeclaratorRule d Named) (declarator_slides d Named)) (more_names_slide rest))

  tag_enumerators_slide : (tag : Option ℕ) (all : Held-Base-Enumerated-1) → Slides (TagEnumerators tag all)
  tag_enumerators_slide None Base-Enumerated-1-None' = never_slides
  tag_enumerators_slide (Some n) Base-Enumerated-1-None' = nothing_slides
  tag_enumerators_slide None (Base-Enumerated-1-Some' p all) = then_slides _ _ (mark_slides m.OpenBrace) (then_slides _ _ (enumerators_slide all)
      (then_slides _ _ (maybe_mark_slides m.Comma) (mark_slides m.CloseBrace)))
  tag_enumerators_slide (Some n) (Base-Enumerated-1-Some' p all) = then_slides _ _ (mark_slides m.OpenBrace) (then_slides _ _ (enumerators_slide all)
      (then_slides _ _ (maybe_mark_slides m.Comma) (mark_slides m.CloseBrace)))

  enumerators_slide : {n : _} (row : Row_of-Enumerator n) → Slides (Enumerators row)
  enumerators_slide end_of-Enumerator = never_slides
  enumerators_slide (more_of-Enumerator a rest) = then_slides _ _ (enumerator_slides a) (more_enumerators_slide rest)

  more_enumerators_slide : {n : _} (row : Row_of-Enumerator n) → Slides (MoreEnumerators row)
  more_enumerators_slide end_of-Enumerator = nothing_slides
  more_enumerators_slide (more_of-Enumerator a rest) = then_slides _ _ (mark_slides m.Comma)
      (then_slides _ _ (enumerator_slides a) (more_enumerators_slide rest))

  enumerator_slides : (a : Enumerator) → Slides (EnumeratorRule a)
  enumerator_slides (Enumerator' n value) = then_slides _ _ (identifier_slides n) (then_slides _ _ (value_slides value) (declares_slides false (Some n)))

  value_slides : (value : Held-Enumerator-value) → Slides (ValueRule value)
  value_slides Enumerator-value-None' = nothing_slides
  value_slides (Enumerator-value-Some' at a) = then_slides _ _ (mark_slides m.Equal) (operand_slides op.conditional (level a) at (Spells a) (spells_slides a))

  pub declarator_slides : (d : Declarator) (mode : Mode) → Slides (DeclaratorRule d mode)
  declarator_slides (Ident n) mode = ident_slides n mode
  declarator_slides (Pointer' words p d) mode = then_slides _ _ (mark_slides m.Star)
      (then_slides _ _ (words_slide is_qualifier words) (declarators_slide 0 d mode))
  declarator_slides (Array' p d size) mode = then_slides _ _ (declarators_slide 1 d mode) (then_slides _ _ (mark_slides m.OpenBracket)
      (then_slides _ _ (size_slides size) (mark_slides m.CloseBracket)))
  declarator_slides (Function' p d q params ellipsis) mode = then_slides _ _ (declarators_slide 1 d mode) (then_slides _ _ (mark_slides m.OpenParen)
      (then_slides _ _ (prototype_slides (is_own_name d) (Parameters params ellipsis)) (mark_slides m.CloseParen)))

  declarators_slide : {n : _} (least : ℕ) (row : Row_of-Declarator n) (mode : Mode) → Slides (Declarators least row mode)
  declarators_slide least end_of-Declarator mode = never_slides
  declarators_slide least (more_of-Declarator d rest) mode = declarator_operand_slides mode least d (DeclaratorRule d mode) (declarator_slides d mode)
