-- A rule of the grammar takes no token back, and leaves the tokens as they are.
use Rattle.std.proofs.Common.{
  ◌≡◌,
  ℕ,
  zero,
  suc,
  ◌≤◌,
  Bool,
  true,
  false,
  List,
  [],
  ◌∷◌,
  ◌++◌,
  Option,
  Some,
  None,
  ap,
  if◌then◌else◌,
  drop,
  length,
  subst,
  sym,
  refl,
  inl,
  inr,
  ◌∙◌,
  arith,
}
use Rattle.c_lex.specs.declared.token.TokenKind.{TokenKind}
use Rattle.c_lex.specs.declared.token.TokenKind.TheVariants as token
use Rattle.c_lex.specs.declared.token.Word.{Word as AWord}
use Rattle.c_lex.specs.declared.token.Word.TheVariants as w
use Rattle.c_lex.specs.declared.token.Mark.{Mark as AMark}
use Rattle.c_lex.specs.declared.token.Mark.TheVariants as m
use Rattle.c_ast.specs.declared.declaration.Base.{Base}
use Rattle.c_ast.specs.declared.declaration.Base.TheBlock.{
  Plain,
  Tagged',
  Base-Tagged-2-None',
  Base-Tagged-2-Some',
  Held-Base-Tagged-2,
  Enumerated',
  Base-Enumerated-1-None',
  Base-Enumerated-1-Some',
  Held-Base-Enumerated-1,
  Typedef,
  Fields',
  Assertion',
  Ident,
  Pointer',
  Array',
  Declarator-Array-1-None',
  Declarator-Array-1-Some',
  Held-Declarator-Array-1,
  Function',
  Enumerator-value-None',
  Enumerator-value-Some',
  Held-Enumerator-value,
  Name,
  Number,
  CharLit,
  Strings as StringsNode,
  Unary',
  Postfix',
  Binary',
  Assign',
  Cond',
  Comma',
  Call',
  Index',
  Dot',
  Arrow',
  Cast',
  SizeofExpr',
  SizeofType',
  AlignofType',
  Row_of-Expr,
  end_of-Expr,
  more_of-Expr,
  Row_of-TypeName,
  end_of-TypeName,
  more_of-TypeName,
  Row_of-Declarator,
  end_of-Declarator,
  more_of-Declarator,
  Row_of-Enumerator,
  end_of-Enumerator,
  more_of-Enumerator,
  Row_of-MemberEntry,
  end_of-MemberEntry,
  more_of-MemberEntry,
  Row_of-Param,
  end_of-Param,
  more_of-Param,
}
use Rattle.c_ast.specs.declared.declaration.MemberEntry.{MemberEntry}
use Rattle.c_ast.specs.declared.declaration.Declarator.{Declarator}
use Rattle.c_ast.specs.declared.declaration.Enumerator.{Enumerator, Enumerator'}
use Rattle.c_ast.specs.declared.expression.ExprNode.{ExprNode}
use Rattle.c_ast.specs.declared.expression.BinaryOp.{BinaryOp}
use Rattle.c_ast.specs.Input.{Input, next, declared, back_to}
use Rattle.c_grammar.specs.Operators as op
use Rattle.c_grammar.specs.Rules.{
  Rule,
  ◌⨾◌,
  Nothing,
  Never,
  Takes,
  Mark,
  Word,
  Numbered,
  Identifier,
  MaybeIdentifier,
  NameThat,
  NoTypedef,
  MaybeMark,
  Literals,
  Strings,
  Message,
  Within,
  From,
  Operand,
  Declares,
  Scoped,
  Prototype,
  Apart,
  Words,
  is_qualifier,
  is_qualified_word,
  is_declaration_word,
  has_type_word,
}
use Rattle.c_grammar.specs.Grammar.{
  Mode,
  Named,
  Abstract,
  Either,
  NoParameters,
  WithinIn,
  DeclaratorOperand,
  name_of,
  is_own_name,
  level,
  tag_word,
  Specifiers,
  Spells,
  Stands,
  StandsAbove,
  Arguments,
  Several,
  AnotherExpr,
  MoreExprs,
  TypeNames,
  BaseRule,
  TagMembers,
  Members,
  MoreMembers,
  MemberRule,
  MemberNames,
  MoreNames,
  TagEnumerators,
  Enumerators,
  MoreEnumerators,
  EnumeratorRule,
  ValueRule,
  DeclaratorRule,
  Declarators,
  SizeRule,
  Parameters,
  MoreParameters,
}
use Rattle.parse_spec.specs.Steps.{left}
use Rattle.parse_complete.proofs.Steps.{takes_one}

pub record Keeps (R : Rule) : Type 0 where
  pub keeps : (s t : Input) → R s t → left t ≤ left s
  pub tokens : (s t : Input) → R s t → t.tokens ≡ s.tokens

same_keeps : (s t : Input) → t ≡ s → left t ≤ left s
same_keeps s t e = subst (λ x. left x ≤ left s) (sym e) (omega arith)

pub nothing_keeps : Keeps Nothing
nothing_keeps = record { keeps = λ s t h. same_keeps s t h; tokens = λ s t h. ap (λ x. x.tokens) h }

pub never_keeps : Keeps Never
never_keeps = record { keeps = λ s t h. absurd h; tokens = λ s t h. absurd h }

tokens_next : (s : Input) → (next s).tokens ≡ s.tokens
unfolding next
tokens_next s = refl

takes_keeps : (k : TokenKind) → Keeps (Takes k)
takes_keeps k = record { keeps = λ s t h. omega (arith, takes_one k s t h); tokens = λ s t h. ap (λ x. x.tokens) h.1 ∙ tokens_next s }

pub mark_keeps : (mark : AMark) → Keeps (Mark mark)
mark_keeps mark = takes_keeps (token.Punct mark)

pub word_keeps : (word : AWord) → Keeps (Word word)
word_keeps word = takes_keeps (token.Keyword word)

numbered_keeps : (k : TokenKind) (n : ℕ) → Keeps (Numbered k n)
numbered_keeps k n = record { keeps = λ s t h. (takes_keeps k).keeps s t h.1; tokens = λ s t h. (takes_keeps k).tokens s t h.1 }

pub identifier_keeps : (n : ℕ) → Keeps (Identifier n)
identifier_keeps n = numbered_keeps token.Name n

pub maybe_identifier_keeps : (n : Option ℕ) → Keeps (MaybeIdentifier n)
maybe_identifier_keeps None = nothing_keeps
maybe_identifier_keeps (Some n) = identifier_keeps n

name_that_keeps : (typedef : Bool) (n : ℕ) → Keeps (NameThat typedef n)
name_that_keeps typedef n = record { keeps = λ s t h. (identifier_keeps n).keeps s t h.1; tokens = λ s t h. (identifier_keeps n).tokens s t h.1 }

no_typedef_keeps : Keeps NoTypedef
no_typedef_keeps = record { keeps = λ s t h. same_keeps s t h.0; tokens = λ s t h. ap (λ x. x.tokens) h.0 }

maybe_mark_case : (mark : AMark) (s t : Input) → MaybeMark mark s t → left t ≤ left s
maybe_mark_case mark s t (inl same) = same_keeps s t same
maybe_mark_case mark s t (inr h) = (mark_keeps mark).keeps s t h

maybe_mark_tokens : (mark : AMark) (s t : Input) → MaybeMark mark s t → t.tokens ≡ s.tokens
maybe_mark_tokens mark s t (inl same) = ap (λ x. x.tokens) same
maybe_mark_tokens mark s t (inr h) = (mark_keeps mark).tokens s t h

pub maybe_mark_keeps : (mark : AMark) → Keeps (MaybeMark mark)
maybe_mark_keeps mark = record { keeps = λ s t h. maybe_mark_case mark s t h; tokens = λ s t h. maybe_mark_tokens mark s t h }

pub then_keeps : (R S : Rule) → Keeps R → Keeps S → Keeps (R ⨾ S)
then_keeps R S f g = record {
  keeps = λ s t h. omega (arith, f.keeps s h.0 h.1.0, g.keeps h.0 t h.1.1);
  tokens = λ s t h. g.tokens h.0 t h.1.1 ∙ f.tokens s h.0 h.1.0;
}

literals_keep : (count : ℕ) → Keeps (Literals count)
literals_keep zero = nothing_keeps
literals_keep (suc count) = then_keeps _ _ (takes_keeps token.StringLit) (literals_keep count)

strings_keep : (n count : ℕ) → Keeps (Strings n count)
strings_keep n zero = record { keeps = λ s t h. absurd h; tokens = λ s t h. absurd h }
strings_keep n (suc count) = record {
  keeps = λ s t h. (literals_keep (suc count)).keeps s t h.1;
  tokens = λ s t h.
      (literals_keep (suc count)).tokens s t h.1;
}

pub message_keeps : (n : ℕ) → Keeps (Message n)
message_keeps n = record { keeps = λ s t h. (strings_keep n h.0).keeps s t h.1; tokens = λ s t h. (strings_keep n h.0).tokens s t h.1 }

allowed_keeps : (allowed : AWord → Bool) (a : AWord) → Keeps (λ s t. (allowed a ≡ true) × Word a s t)
allowed_keeps allowed a = record { keeps = λ s t h. (word_keeps a).keeps s t h.1; tokens = λ s t h. (word_keeps a).tokens s t h.1 }

pub words_keep : (allowed : AWord → Bool) (words : List AWord) → Keeps (Words allowed words)
words_keep allowed [] = nothing_keeps
words_keep allowed (a ∷ rest) = then_keeps _ _ (allowed_keeps allowed a) (words_keep allowed rest)

from_keeps : (at : ℕ) (R : Rule) → Keeps R → Keeps (From at R)
from_keeps at R f = record { keeps = λ s t h. f.keeps s t h.1; tokens = λ s t h. f.tokens s t h.1 }

within_keeps : (n : ℕ) (R : Rule) → Keeps R → Keeps (Within n R)
within_keeps zero R f = f
within_keeps (suc n) R f = then_keeps _ _ (mark_keeps m.OpenParen) (then_keeps _ _ (within_keeps n R f) (mark_keeps m.CloseParen))

pub operand_keeps : (least own at : ℕ) (R : Rule) → Keeps R → Keeps (Operand least own at R)
operand_keeps least own at R f = record {
  keeps = λ s t h. (within_keeps h.0 (From at R) (from_keeps at R f)).keeps s t h.1.1;
  tokens = λ s t h.
      (within_keeps h.0 (From at R) (from_keeps at R f)).tokens s t h.1.1;
}

left_declared : (n : ℕ) (typedef : Bool) (s : Input) → left (declared n typedef s) ≡ left s
unfolding declared left
left_declared n typedef s = refl

tokens_declared : (n : ℕ) (typedef : Bool) (s : Input) → (declared n typedef s).tokens ≡ s.tokens
unfolding declared
tokens_declared n typedef s = refl

pub declares_keeps : (typedef : Bool) (n : Option ℕ) → Keeps (Declares typedef n)
declares_keeps typedef None = nothing_keeps
declares_keeps typedef (Some n) = record {
  keeps = λ s t h. subst (λ x. left x ≤ left s) (sym h) (omega (arith, left_declared n typedef s));
  tokens = λ s t h. ap (λ x. x.tokens) h ∙ tokens_declared n typedef s;
}

pub left_back : (s m : Input) → left (back_to s m) ≡ left m
unfolding back_to left
left_back s m = refl

pub left_kept : (s : Input) (b : List (ℕ × Bool)) → left (record s { prototype = b }) ≡ left s
unfolding left
left_kept s b = refl

left_with : (s : Input) (a b : List (ℕ × Bool)) → left (record s { names = a; prototype = b }) ≡ left s
unfolding left
left_with s a b = refl

tokens_back : (s i : Input) → (back_to s i).tokens ≡ i.tokens
unfolding back_to
tokens_back s i = refl

pub scoped_keeps : (R : Rule) → Keeps R → Keeps (Scoped R)
scoped_keeps R f = record {
  keeps = λ s t h. subst (λ x. left x ≤ left s) (sym h.1.1) (omega (arith, left_back s h.0, f.keeps s h.0 h.1.0));
  tokens = λ s t h. ap (λ x. x.tokens) h.1.1 ∙ tokens_back s h.0 ∙ f.tokens s h.0 h.1.0;
}

apart_keeps : (R : Rule) → Keeps R → Keeps (Apart R)
apart_keeps R f = record {
  keeps = λ s t h. subst (λ x. left x ≤ left s) (sym h.1.1)
      (omega (arith, left_kept s [], left_kept h.0 s.prototype, f.keeps (record s { prototype = [] }) h.0 h.1.0));
  tokens = λ s t h. ap (λ x. x.tokens) h.1.1 ∙ f.tokens (record s { prototype = [] }) h.0 h.1.0;
}

pub prototype_keeps : (own : Bool) (R : Rule) → Keeps R → Keeps (Prototype own R)
prototype_keeps own R f = record {
  keeps = λ s t h. subst (λ x. left x ≤ left s) (sym h.1.1)
      (omega (
        arith,
        left_kept s [],
        left_with h.0 s.names (if own then drop (length s.names) h.0.names else s.prototype),
        f.keeps (record s { prototype = [] }) h.0 h.1.0,
      ));
  tokens = λ s t h. ap (λ x. x.tokens) h.1.1 ∙ f.tokens (record s { prototype = [] }) h.0 h.1.0;
}

no_parameters_keeps : (mode : Mode) → Keeps (NoParameters mode)
no_parameters_keeps Named = nothing_keeps
no_parameters_keeps Abstract = nothing_keeps
no_parameters_keeps Either = no_typedef_keeps

within_in_keeps : (mode : Mode) (n : ℕ) (R : Rule) → Keeps R → Keeps (WithinIn mode n R)
within_in_keeps mode zero R f = f
within_in_keeps mode (suc n) R f =
    then_keeps _ _ (mark_keeps m.OpenParen) (then_keeps _ _ (no_parameters_keeps mode) (then_keeps _ _ (within_in_keeps mode n R f) (mark_keeps m.CloseParen)))

pub declarator_operand_keeps : (mode : Mode) (least : ℕ) (d : Declarator) (R : Rule) → Keeps R → Keeps (DeclaratorOperand mode least d R)
declarator_operand_keeps mode least d R f = record {
  keeps = λ s t h. (within_in_keeps mode h.0 R f).keeps s t h.1.1;
  tokens = λ s t h.
      (within_in_keeps mode h.0 R f).tokens s t h.1.1;
}

abbrev Between : (AWord → Bool) → (Bool → Rule) → List AWord → Rule
Between allowed R words s t =
    (before : List AWord) × ((behind : List AWord) × ((words ≡ before ++ behind)
    × (Words allowed before ⨾ R (has_type_word before) ⨾ Words allowed behind) s t))

between_keeps : (allowed : AWord → Bool) (R : Bool → Rule) (words : List AWord) → ((typed : Bool) → Keeps (R typed)) → Keeps (Between allowed R words)
between_keeps allowed R words f = record {
  keeps = λ s t h.
      (then_keeps _ _ (words_keep allowed h.0) (then_keeps _ _ (f (has_type_word h.0)) (words_keep allowed h.1.0))).keeps s t h.1.1.1;
  tokens = λ s t h.
      (then_keeps _ _ (words_keep allowed h.0) (then_keeps _ _ (f (has_type_word h.0)) (words_keep allowed h.1.0))).tokens s t h.1.1.1;
}

pub specifiers_keep : (allowed : AWord → Bool) (b : Base) (R : Bool → Rule) (words : List AWord) →
    ((typed : Bool) → Keeps (R typed)) → Keeps (Specifiers allowed b R words)
specifiers_keep allowed Plain R [] f = record { keeps = λ s t h. absurd h; tokens = λ s t h. absurd h }
specifiers_keep allowed Plain R (a ∷ rest) f = then_keeps _ _ (words_keep allowed (a ∷ rest)) (f (has_type_word (a ∷ rest)))
specifiers_keep allowed (Typedef n) R words f = between_keeps allowed R words f
specifiers_keep allowed (Tagged' union tag all) R words f = between_keeps allowed R words f
specifiers_keep allowed (Enumerated' tag all) R words f = between_keeps allowed R words f

ident_keeps : (n : Option ℕ) (mode : Mode) → Keeps (DeclaratorRule (Ident n) mode)
ident_keeps n mode = record { keeps = λ s t h. (maybe_identifier_keeps n).keeps s t h.1; tokens = λ s t h. (maybe_identifier_keeps n).tokens s t h.1 }

-- ---- the productions of expressions, specifiers and declarators

mutual
  pub spells_keeps : (a : ExprNode) → Keeps (Spells a)
  spells_keeps (Name n) = name_that_keeps false n
  spells_keeps (Number n) = numbered_keeps token.Number n
  spells_keeps (CharLit n) = numbered_keeps token.CharLit n
  spells_keeps (StringsNode n count) = strings_keep n count
  spells_keeps (Postfix' o p a) = then_keeps _ _ (stands_keeps op.postfix a) (mark_keeps (op.post_mark o))
  spells_keeps (Index' p a q b) = then_keeps _ _ (stands_keeps op.postfix a) (then_keeps _ _ (mark_keeps m.OpenBracket)
      (then_keeps _ _ (stands_keeps op.comma b) (mark_keeps m.CloseBracket)))
  spells_keeps (Call' p f q all) = then_keeps _ _ (stands_keeps op.postfix f) (then_keeps _ _ (mark_keeps m.OpenParen)
      (then_keeps _ _ (arguments_keep all) (mark_keeps m.CloseParen)))
  spells_keeps (Dot' p a n) = then_keeps _ _ (stands_keeps op.postfix a) (then_keeps _ _ (mark_keeps m.Dot) (identifier_keeps n))
  spells_keeps (Arrow' p a n) = then_keeps _ _ (stands_keeps op.postfix a) (then_keeps _ _ (mark_keeps m.Arrow) (identifier_keeps n))
  spells_keeps (Unary' o p a) = then_keeps _ _ (mark_keeps (op.unary_mark o)) (stands_keeps (op.operand_level o) a)
  spells_keeps (SizeofExpr' p a) = then_keeps _ _ (word_keeps w.Sizeof) (stands_keeps op.unary a)
  spells_keeps (SizeofType' p of) = then_keeps _ _ (word_keeps w.Sizeof) (then_keeps _ _ (mark_keeps m.OpenParen)
      (then_keeps _ _ (type_names_keep of) (mark_keeps m.CloseParen)))
  spells_keeps (AlignofType' p of) = then_keeps _ _ (word_keeps w.Alignof) (then_keeps _ _ (mark_keeps m.OpenParen)
      (then_keeps _ _ (type_names_keep of) (mark_keeps m.CloseParen)))
  spells_keeps (Cast' p to q a) = then_keeps _ _ (mark_keeps m.OpenParen) (then_keeps _ _ (type_names_keep to)
      (then_keeps _ _ (mark_keeps m.CloseParen) (stands_keeps op.cast a)))
  spells_keeps (Binary' o p a q b) = then_keeps _ _ (stands_keeps (op.level_of o) a) (then_keeps _ _ (mark_keeps (op.binary_mark o)) (stands_above_keeps o b))
  spells_keeps (Cond' p a q b r c) = then_keeps _ _ (stands_keeps op.logical_or a) (then_keeps _ _ (mark_keeps m.Question)
      (then_keeps _ _ (stands_keeps op.comma b) (then_keeps _ _ (mark_keeps m.Colon) (stands_keeps op.conditional c))))
  spells_keeps (Assign' o p a q b) = then_keeps _ _ (stands_keeps op.unary a) (then_keeps _ _ (mark_keeps (op.assign_mark o)) (stands_keeps op.assignment b))
  spells_keeps (Comma' p all) = several_keep all

  stands_keeps : {n : _} (least : ℕ) (row : Row_of-Expr n) → Keeps (Stands least row)
  stands_keeps least end_of-Expr = never_keeps
  stands_keeps least (more_of-Expr at a rest) = operand_keeps least (level a) at (Spells a) (spells_keeps a)

  stands_above_keeps : {n : _} (o : BinaryOp) (row : Row_of-Expr n) → Keeps (StandsAbove o row)
  stands_above_keeps o end_of-Expr = never_keeps
  stands_above_keeps o (more_of-Expr at a rest) = operand_keeps _ (level a) at (Spells a) (spells_keeps a)

  pub arguments_keep : {n : _} (row : Row_of-Expr n) → Keeps (Arguments row)
  arguments_keep end_of-Expr = nothing_keeps
  arguments_keep (more_of-Expr at a rest) = then_keeps _ _ (operand_keeps op.assignment (level a) at (Spells a) (spells_keeps a)) (more_exprs_keep rest)

  several_keep : {n : _} (row : Row_of-Expr n) → Keeps (Several row)
  several_keep end_of-Expr = never_keeps
  several_keep (more_of-Expr at a rest) = then_keeps _ _ (operand_keeps op.assignment (level a) at (Spells a) (spells_keeps a)) (another_keeps rest)

  another_keeps : {n : _} (row : Row_of-Expr n) → Keeps (AnotherExpr row)
  another_keeps end_of-Expr = never_keeps
  another_keeps (more_of-Expr at a rest) = then_keeps _ _ (mark_keeps m.Comma)
      (then_keeps _ _ (operand_keeps op.assignment (level a) at (Spells a) (spells_keeps a)) (more_exprs_keep rest))

  more_exprs_keep : {n : _} (row : Row_of-Expr n) → Keeps (MoreExprs row)
  more_exprs_keep end_of-Expr = nothing_keeps
  more_exprs_keep (more_of-Expr at a rest) = then_keeps _ _ (mark_keeps m.Comma)
      (then_keeps _ _ (operand_keeps op.assignment (level a) at (Spells a) (spells_keeps a)) (more_exprs_keep rest))

  type_names_keep : {n : _} (row : Row_of-TypeName n) → Keeps (TypeNames row)
  type_names_keep end_of-TypeName = never_keeps
  type_names_keep (more_of-TypeName words base d rest) = then_keeps _ _
      (specifiers_keep is_qualified_word base (BaseRule base) words (λ typed. base_keeps base typed))
      (declarator_operand_keeps Abstract 0 d (DeclaratorRule d Abstract) (declarator_keeps d Abstract))

  pub base_keeps : (b : Base) (typed : Bool) → Keeps (BaseRule b typed)
  base_keeps Plain true = nothing_keeps
  base_keeps Plain false = no_typedef_keeps
  base_keeps (Typedef n) true = never_keeps
  base_keeps (Typedef n) false = name_that_keeps true n
  base_keeps (Tagged' union tag all) typed = then_keeps _ _ (word_keeps (tag_word union))
      (then_keeps _ _ (maybe_identifier_keeps tag) (tag_members_keep tag all))
  base_keeps (Enumerated' tag all) typed = then_keeps _ _ (word_keeps w.Enum) (then_keeps _ _ (maybe_identifier_keeps tag) (tag_enumerators_keep tag all))

  pub tag_members_keep : (tag : Option ℕ) (all : Held-Base-Tagged-2) → Keeps (TagMembers tag all)
  tag_members_keep None Base-Tagged-2-None' = never_keeps
  tag_members_keep (Some n) Base-Tagged-2-None' = nothing_keeps
  tag_members_keep None (Base-Tagged-2-Some' p all) = then_keeps _ _ (mark_keeps m.OpenBrace) (then_keeps _ _ (members_keep all) (mark_keeps m.CloseBrace))
  tag_members_keep (Some n) (Base-Tagged-2-Some' p all) = then_keeps _ _ (mark_keeps m.OpenBrace) (then_keeps _ _ (members_keep all) (mark_keeps m.CloseBrace))

  members_keep : {n : _} (row : Row_of-MemberEntry n) → Keeps (Members row)
  members_keep end_of-MemberEntry = never_keeps
  members_keep (more_of-MemberEntry a rest) = then_keeps _ _ (member_keeps a) (more_members_keep rest)

  more_members_keep : {n : _} (row : Row_of-MemberEntry n) → Keeps (MoreMembers row)
  more_members_keep end_of-MemberEntry = nothing_keeps
  more_members_keep (more_of-MemberEntry a rest) = then_keeps _ _ (member_keeps a) (more_members_keep rest)

  member_keeps : (a : MemberEntry) → Keeps (MemberRule a)
  member_keeps (Fields' words base p ds) = then_keeps _ _ (specifiers_keep is_qualified_word base (BaseRule base) words (λ typed. base_keeps base typed))
      (then_keeps _ _ (member_names_keep ds) (mark_keeps m.Semicolon))
  member_keeps (Assertion' at a message) = then_keeps _ _ (word_keeps w.StaticAssert) (then_keeps _ _ (mark_keeps m.OpenParen)
      (then_keeps _ _ (operand_keeps op.conditional (level a) at (Spells a) (spells_keeps a)) (then_keeps _ _ (mark_keeps m.Comma)
      (then_keeps _ _ (message_keeps message) (then_keeps _ _ (mark_keeps m.CloseParen) (mark_keeps m.Semicolon))))))

  pub member_names_keep : {n : _} (row : Row_of-Declarator n) → Keeps (MemberNames row)
  member_names_keep end_of-Declarator = nothing_keeps
  member_names_keep (more_of-Declarator d rest) =
      then_keeps _ _ (declarator_operand_keeps Named 0 d (DeclaratorRule d Named) (declarator_keeps d Named)) (more_names_keep rest)

  more_names_keep : {n : _} (row : Row_of-Declarator n) → Keeps (MoreNames row)
  more_names_keep end_of-Declarator = nothing_keeps
  more_names_keep (more_of-Declarator d rest) = then_keeps _ _ (mark_keeps m.Comma)
      (then_keeps _ _ (declarator_operand_keeps Named 0 d (DeclaratorRule d Named) (declarator_keeps d Named)) (more_names_keep rest))

  pub tag_enumerators_keep : (tag : Option ℕ) (all : Held-Base-Enumerated-1) → Keeps (TagEnumerators tag all)
  tag_enumerators_keep None Base-Enumerated-1-None' = never_keeps
  tag_enumerators_keep (Some n) Base-Enumerated-1-None' = nothing_keeps
  tag_enumerators_keep None (Base-Enumerated-1-Some' p all) = then_keeps _ _ (mark_keeps m.OpenBrace) (then_keeps _ _ (enumerators_keep all)
      (then_keeps _ _ (maybe_mark_keeps m.Comma) (mark_keeps m.CloseBrace)))
  tag_enumerators_keep (Some n) (Base-Enumerated-1-Some' p all) = then_keeps _ _ (mark_keeps m.OpenBrace) (then_keeps _ _ (enumerators_keep all)
      (then_keeps _ _ (maybe_mark_keeps m.Comma) (mark_keeps m.CloseBrace)))

  enumerators_keep : {n : _} (row : Row_of-Enumerator n) → Keeps (Enumerators row)
  enumerators_keep end_of-Enumerator = never_keeps
  enumerators_keep (more_of-Enumerator a rest) = then_keeps _ _ (enumerator_keeps a) (more_enumerators_keep rest)

  more_enumerators_keep : {n : _} (row : Row_of-Enumerator n) → Keeps (MoreEnumerators row)
  more_enumerators_keep end_of-Enumerator = nothing_keeps
  more_enumerators_keep (more_of-Enumerator a rest) = then_keeps _ _ (mark_keeps m.Comma) (then_keeps _ _ (enumerator_keeps a) (more_enumerators_keep rest))

  pub enumerator_keeps : (a : Enumerator) → Keeps (EnumeratorRule a)
  enumerator_keeps (Enumerator' n value) = then_keeps _ _ (identifier_keeps n) (then_keeps _ _ (value_keeps value) (declares_keeps false (Some n)))

  value_keeps : (value : Held-Enumerator-value) → Keeps (ValueRule value)
  value_keeps Enumerator-value-None' = nothing_keeps
  value_keeps (Enumerator-value-Some' at a) = then_keeps _ _ (mark_keeps m.Equal) (operand_keeps op.conditional (level a) at (Spells a) (spells_keeps a))

  pub declarator_keeps : (d : Declarator) (mode : Mode) → Keeps (DeclaratorRule d mode)
  declarator_keeps (Ident n) mode = ident_keeps n mode
  declarator_keeps (Pointer' words p d) mode = then_keeps _ _ (mark_keeps m.Star) (then_keeps _ _ (words_keep is_qualifier words) (declarators_keep 0 d mode))
  declarator_keeps (Array' p d size) mode = then_keeps _ _ (declarators_keep 1 d mode) (then_keeps _ _ (mark_keeps m.OpenBracket)
      (then_keeps _ _ (size_keeps size) (mark_keeps m.CloseBracket)))
  declarator_keeps (Function' p d q params ellipsis) mode = then_keeps _ _ (declarators_keep 1 d mode) (then_keeps _ _ (mark_keeps m.OpenParen)
      (then_keeps _ _ (prototype_keeps (is_own_name d) (Parameters params ellipsis) (parameters_keep params ellipsis)) (mark_keeps m.CloseParen)))

  declarators_keep : {n : _} (least : ℕ) (row : Row_of-Declarator n) (mode : Mode) → Keeps (Declarators least row mode)
  declarators_keep least end_of-Declarator mode = never_keeps
  declarators_keep least (more_of-Declarator d rest) mode = declarator_operand_keeps mode least d (DeclaratorRule d mode) (declarator_keeps d mode)

  pub size_keeps : (size : Held-Declarator-Array-1) → Keeps (SizeRule size)
  size_keeps Declarator-Array-1-None' = nothing_keeps
  size_keeps (Declarator-Array-1-Some' p a) = apart_keeps (Stands op.assignment a) (stands_keeps op.assignment a)

  pub parameters_keep : {n : _} (row : Row_of-Param n) (ellipsis : Bool) → Keeps (Parameters row ellipsis)
  parameters_keep end_of-Param true = never_keeps
  parameters_keep end_of-Param false = nothing_keeps
  parameters_keep (more_of-Param words base d rest) ellipsis = then_keeps _ _
      (specifiers_keep is_declaration_word base (BaseRule base) words (λ typed. base_keeps base typed))
      (then_keeps _ _ (declarator_operand_keeps Either 0 d (DeclaratorRule d Either) (declarator_keeps d Either))
      (then_keeps _ _ (declares_keeps false (name_of d)) (more_parameters_keep rest ellipsis)))

  more_parameters_keep : {n : _} (row : Row_of-Param n) (ellipsis : Bool) → Keeps (MoreParameters row ellipsis)
  more_parameters_keep end_of-Param true = then_keeps _ _ (mark_keeps m.Comma) (mark_keeps m.Ellipsis)
  more_parameters_keep end_of-Param false = nothing_keeps
  more_parameters_keep (more_of-Param words base d rest) ellipsis = then_keeps _ _ (mark_keeps m.Comma)
      (then_keeps _ _ (specifiers_keep is_declaration_word base (BaseRule base) words (λ typed. base_keeps base typed))
      (then_keeps _ _ (declarator_operand_keeps Either 0 d (DeclaratorRule d Either) (declarator_keeps d Either))
      (then_keeps _ _ (declares_keeps false (name_of d)) (more_parameters_keep rest ellipsis))))
