-- The productions of Annex A, by cases on the tree (ISO/IEC 9899:2011, A.2).
use Rattle.std.specs.Prelude.{◌≡◌, ◌≢◌, ℕ, ◌+◌, zero, suc, Bool, true, false, List, [], ◌∷◌, ◌++◌, Option, Some, None, ◌⊎◌}
use Rattle.c_lex.specs.TokenText.{TokenText}
use Rattle.c_lex.specs.declared.token.TokenKind.TheVariants as token
use Rattle.c_lex.specs.declared.token.Word.{Word as AWord}
use Rattle.c_lex.specs.declared.token.Word.TheVariants as w
use Rattle.c_lex.specs.declared.token.Mark.TheVariants as m
use Rattle.c_ast.specs.declared.declaration.Base.TheBlock.{
  Plain,
  Tagged',
  Base-Tagged-2-None',
  Base-Tagged-2-Some',
  Held-Base-Tagged-2,
  Enumerated',
  Base-Enumerated-1-None',
  Base-Enumerated-1-Some',
  Held-Base-Enumerated-1,
  Typedef,
  Fields',
  Assertion',
  Ident,
  Pointer',
  Array',
  Declarator-Array-1-None',
  Declarator-Array-1-Some',
  Held-Declarator-Array-1,
  Function',
  Enumerator-value-None',
  Enumerator-value-Some',
  Held-Enumerator-value,
  Name,
  Number,
  CharLit,
  Strings as StringsNode,
  Unary',
  Postfix',
  Binary',
  Assign',
  Cond',
  Comma',
  Call',
  Index',
  Dot',
  Arrow',
  Cast',
  SizeofExpr',
  SizeofType',
  AlignofType',
  Row_of-Expr,
  end_of-Expr,
  more_of-Expr,
  Row_of-TypeName,
  end_of-TypeName,
  more_of-TypeName,
  Row_of-Declarator,
  end_of-Declarator,
  more_of-Declarator,
  Row_of-Enumerator,
  end_of-Enumerator,
  more_of-Enumerator,
  Row_of-MemberEntry,
  end_of-MemberEntry,
  more_of-MemberEntry,
  Row_of-Param,
  end_of-Param,
  more_of-Param,
}
use Rattle.c_ast.specs.declared.declaration.Base.{Base}
use Rattle.c_ast.specs.declared.declaration.Specs.{Specs}
use Rattle.c_ast.specs.declared.declaration.MemberEntry.{MemberEntry}
use Rattle.c_ast.specs.declared.declaration.Declarator.{Declarator}
use Rattle.c_ast.specs.declared.declaration.Enumerator.{Enumerator, Enumerator'}
use Rattle.c_ast.specs.declared.declaration.Designator.{Designator}
use Rattle.c_ast.specs.declared.declaration.Designator.TheVariants.{Member, Element}
use Rattle.c_ast.specs.declared.declaration.Init.{Init}
use Rattle.c_ast.specs.declared.declaration.Init.TheBlock.{Single, Braced', Row_of-InitEntry, end_of-InitEntry, more_of-InitEntry}
use Rattle.c_ast.specs.declared.declaration.Part.{Part}
use Rattle.c_ast.specs.declared.declaration.Declaration.{Declaration}
use Rattle.c_ast.specs.declared.expression.ExprNode.{ExprNode}
use Rattle.c_ast.specs.declared.expression.Expr.{Expr}
use Rattle.c_ast.specs.declared.expression.BinaryOp.{BinaryOp}
use Rattle.c_ast.specs.declared.statement.ForInit.{ForInit}
use Rattle.c_ast.specs.declared.statement.ForInit.TheVariants as for_init
use Rattle.c_ast.specs.declared.statement.Stmt.{Stmt}
use Rattle.c_ast.specs.declared.statement.Entry.{Entry}
use Rattle.c_ast.specs.declared.statement.Entry.TheBlock as s
use Rattle.c_ast.specs.declared.statement.Unit.{Unit as TheUnit}
use Rattle.c_ast.specs.declared.statement.UnitEntry.{UnitEntry}
use Rattle.c_ast.specs.declared.statement.UnitEntry.TheVariants as unit
use Rattle.c_ast.specs.Input.{Input, kind, next, start_of}
use Rattle.c_grammar.specs.Operators as op
use Rattle.c_grammar.specs.Rules.{
  Rule,
  ◌⨾◌,
  Nothing,
  Never,
  Takes,
  Mark,
  Word,
  Numbered,
  Identifier,
  MaybeIdentifier,
  NameThat,
  NoTypedef,
  NotNext,
  MaybeMark,
  Strings,
  Message,
  Operand,
  Declares,
  Scoped,
  Prototype,
  Apart,
  InPrototype,
  Words,
  is_qualifier,
  is_qualified_word,
  is_declaration_word,
  has_type_word,
  declares_typedef,
}

-- ---- declarators

-- Where a declarator stands: in a declaration it has a name, in a type name it has none, and in a parameter it may have one.
pub data Mode : Type 0 where
  Named : Mode
  Abstract : Mode
  Either : Mode

abbrev pub HasName : Mode → Option ℕ → Type 0
HasName Named None = ⊥
HasName Abstract (Some n) = ⊥
HasName _ _ = Unit {0}

-- In a parameter a typedef name after a parenthesis begins parameters, and no declarator (6.7.6.3p11).
abbrev pub NoParameters : Mode → Rule
NoParameters Either = NoTypedef
NoParameters _ = Nothing

abbrev pub WithinIn : Mode → ℕ → Rule → Rule
WithinIn mode zero rule = rule
WithinIn mode (suc n) rule = Mark m.OpenParen ⨾ NoParameters mode ⨾ WithinIn mode n rule ⨾ Mark m.CloseParen

-- A declarator with a star stands behind a star or in parentheses; an empty one stands in no parentheses. The first number is
-- 0 behind a star and at the start, and 1 before a suffix.
abbrev pub StarMayStand : ℕ → Declarator → ℕ → Type 0
StarMayStand least (Pointer' words p d) n = (n ≢ 0) ⊎ (least ≡ 0)
StarMayStand least (Ident None) n = n ≡ 0
StarMayStand least d n = Unit {0}

abbrev pub DeclaratorOperand : Mode → ℕ → Declarator → Rule → Rule
DeclaratorOperand mode least d rule s t = (n : ℕ) × (StarMayStand least d n × WithinIn mode n rule s t)

-- the name of a declarator
abbrev mutual
  pub name_of : Declarator → Option ℕ
  name_of (Ident n) = n
  name_of (Pointer' words p d) = name_in d
  name_of (Array' p d size) = name_in d
  name_of (Function' p d q params ellipsis) = name_in d

  pub name_in : {n : _} → Row_of-Declarator n → Option ℕ
  name_in end_of-Declarator = None
  name_in (more_of-Declarator d rest) = name_of d

-- the declarator is a name alone
abbrev pub is_own_name : {n : _} → Row_of-Declarator n → Bool
is_own_name (more_of-Declarator (Ident (Some n)) rest) = true
is_own_name _ = false

-- ---- the level of an expression's production
abbrev pub level : ExprNode → ℕ
level (Unary' o p a) = op.unary
level (Postfix' o p a) = op.postfix
level (Binary' o p a q b) = op.level_of o
level (Assign' o p a q b) = op.assignment
level (Cond' p a q b r c) = op.conditional
level (Comma' p all) = op.comma
level (Call' p f q all) = op.postfix
level (Index' p a q b) = op.postfix
level (Dot' p a n) = op.postfix
level (Arrow' p a n) = op.postfix
level (Cast' p to q a) = op.cast
level (SizeofExpr' p a) = op.unary
level (SizeofType' p of) = op.unary
level (AlignofType' p of) = op.unary
level _ = op.primary

abbrev pub tag_word : Bool → AWord
tag_word true = w.Union
tag_word false = w.Struct

-- ---- specifiers (6.7)

-- Keywords, the specifier that is no keyword, and keywords. Behind a type specifier no name is a typedef name (6.7.8p3).
abbrev pub Specifiers : (AWord → Bool) → Base → (Bool → Rule) → List AWord → Rule
Specifiers allowed Plain rule [] s t = ⊥
Specifiers allowed Plain rule words s t = (Words allowed words ⨾ rule (has_type_word words)) s t
Specifiers allowed base rule words s t =
    (before : List AWord) × ((behind : List AWord) × ((words ≡ before ++ behind)
    × (Words allowed before ⨾ rule (has_type_word before) ⨾ Words allowed behind) s t))

abbrev mutual
  -- ---- expressions (6.5), without parentheses round them
  pub Spells : ExprNode → Rule
  Spells (Name n) = NameThat false n
  Spells (Number n) = Numbered token.Number n
  Spells (CharLit n) = Numbered token.CharLit n
  Spells (StringsNode n count) = Strings n count
  Spells (Postfix' o p a) = Stands op.postfix a ⨾ Mark (op.post_mark o)
  Spells (Index' p a q b) = Stands op.postfix a ⨾ Mark m.OpenBracket ⨾ Stands op.comma b ⨾ Mark m.CloseBracket
  Spells (Call' p f q all) = Stands op.postfix f ⨾ Mark m.OpenParen ⨾ Arguments all ⨾ Mark m.CloseParen
  Spells (Dot' p a n) = Stands op.postfix a ⨾ Mark m.Dot ⨾ Identifier n
  Spells (Arrow' p a n) = Stands op.postfix a ⨾ Mark m.Arrow ⨾ Identifier n
  Spells (Unary' o p a) = Mark (op.unary_mark o) ⨾ Stands (op.operand_level o) a
  Spells (SizeofExpr' p a) = Word w.Sizeof ⨾ Stands op.unary a
  Spells (SizeofType' p of) = Word w.Sizeof ⨾ Mark m.OpenParen ⨾ TypeNames of ⨾ Mark m.CloseParen
  Spells (AlignofType' p of) = Word w.Alignof ⨾ Mark m.OpenParen ⨾ TypeNames of ⨾ Mark m.CloseParen
  Spells (Cast' p to q a) = Mark m.OpenParen ⨾ TypeNames to ⨾ Mark m.CloseParen ⨾ Stands op.cast a
  Spells (Binary' o p a q b) = Stands (op.level_of o) a ⨾ Mark (op.binary_mark o) ⨾ StandsAbove o b
  Spells (Cond' p a q b r c) =
      Stands op.logical_or a ⨾ Mark m.Question ⨾ Stands op.comma b ⨾ Mark m.Colon ⨾ Stands op.conditional c
  Spells (Assign' o p a q b) = Stands op.unary a ⨾ Mark (op.assign_mark o) ⨾ Stands op.assignment b
  Spells (Comma' p all) = Several all

  -- the one expression of a row, at a level
  pub Stands : {n : _} → ℕ → Row_of-Expr n → Rule
  Stands least end_of-Expr = Never
  Stands least (more_of-Expr at a rest) = Operand least (level a) at (Spells a)

  -- the right operand, one level tighter
  pub StandsAbove : {n : _} → BinaryOp → Row_of-Expr n → Rule
  StandsAbove o end_of-Expr = Never
  StandsAbove o (more_of-Expr at a rest) = Operand (op.level_of o + 1) (level a) at (Spells a)

  -- expressions with commas between them, or none
  pub Arguments : {n : _} → Row_of-Expr n → Rule
  Arguments end_of-Expr = Nothing
  Arguments (more_of-Expr at a rest) = Operand op.assignment (level a) at (Spells a) ⨾ MoreExprs rest

  -- at least two of them
  pub Several : {n : _} → Row_of-Expr n → Rule
  Several end_of-Expr = Never
  Several (more_of-Expr at a rest) = Operand op.assignment (level a) at (Spells a) ⨾ AnotherExpr rest

  pub AnotherExpr : {n : _} → Row_of-Expr n → Rule
  AnotherExpr end_of-Expr = Never
  AnotherExpr (more_of-Expr at a rest) = Mark m.Comma ⨾ Operand op.assignment (level a) at (Spells a) ⨾ MoreExprs rest

  pub MoreExprs : {n : _} → Row_of-Expr n → Rule
  MoreExprs end_of-Expr = Nothing
  MoreExprs (more_of-Expr at a rest) = Mark m.Comma ⨾ Operand op.assignment (level a) at (Spells a) ⨾ MoreExprs rest

  -- ---- type names (6.7.7)
  pub TypeNames : {n : _} → Row_of-TypeName n → Rule
  TypeNames end_of-TypeName = Never
  TypeNames (more_of-TypeName words base d rest) =
      Specifiers is_qualified_word base (BaseRule base) words ⨾ DeclaratorOperand Abstract 0 d (DeclaratorRule d Abstract)

  -- the specifier that is no keyword; true where a type specifier stands before it
  pub BaseRule : Base → Bool → Rule
  BaseRule Plain true = Nothing
  BaseRule Plain false = NoTypedef
  BaseRule (Typedef n) true = Never
  BaseRule (Typedef n) false = NameThat true n
  BaseRule (Tagged' union tag members) typed = Word (tag_word union) ⨾ MaybeIdentifier tag ⨾ TagMembers tag members
  BaseRule (Enumerated' tag all) typed = Word w.Enum ⨾ MaybeIdentifier tag ⨾ TagEnumerators tag all

  -- ---- structures and unions (6.7.2.1): a tag, members, or both
  pub TagMembers : Option ℕ → Held-Base-Tagged-2 → Rule
  TagMembers None Base-Tagged-2-None' = Never
  TagMembers (Some n) Base-Tagged-2-None' = Nothing
  TagMembers tag (Base-Tagged-2-Some' p members) = Mark m.OpenBrace ⨾ Members members ⨾ Mark m.CloseBrace

  pub Members : {n : _} → Row_of-MemberEntry n → Rule
  Members end_of-MemberEntry = Never
  Members (more_of-MemberEntry a rest) = MemberRule a ⨾ MoreMembers rest

  pub MoreMembers : {n : _} → Row_of-MemberEntry n → Rule
  MoreMembers end_of-MemberEntry = Nothing
  MoreMembers (more_of-MemberEntry a rest) = MemberRule a ⨾ MoreMembers rest

  pub MemberRule : MemberEntry → Rule
  MemberRule (Fields' words base p ds) =
      Specifiers is_qualified_word base (BaseRule base) words ⨾ MemberNames ds ⨾ Mark m.Semicolon
  MemberRule (Assertion' at a message) =
      Word w.StaticAssert ⨾ Mark m.OpenParen ⨾ Operand op.conditional (level a) at (Spells a) ⨾ Mark m.Comma ⨾ Message message
      ⨾ Mark m.CloseParen ⨾ Mark m.Semicolon

  pub MemberNames : {n : _} → Row_of-Declarator n → Rule
  MemberNames end_of-Declarator = Nothing
  MemberNames (more_of-Declarator d rest) = DeclaratorOperand Named 0 d (DeclaratorRule d Named) ⨾ MoreNames rest

  pub MoreNames : {n : _} → Row_of-Declarator n → Rule
  MoreNames end_of-Declarator = Nothing
  MoreNames (more_of-Declarator d rest) = Mark m.Comma ⨾ DeclaratorOperand Named 0 d (DeclaratorRule d Named) ⨾ MoreNames rest

  -- ---- enumerations (6.7.2.2)
  pub TagEnumerators : Option ℕ → Held-Base-Enumerated-1 → Rule
  TagEnumerators None Base-Enumerated-1-None' = Never
  TagEnumerators (Some n) Base-Enumerated-1-None' = Nothing
  TagEnumerators tag (Base-Enumerated-1-Some' p all) =
      Mark m.OpenBrace ⨾ Enumerators all ⨾ MaybeMark m.Comma ⨾ Mark m.CloseBrace

  pub Enumerators : {n : _} → Row_of-Enumerator n → Rule
  Enumerators end_of-Enumerator = Never
  Enumerators (more_of-Enumerator a rest) = EnumeratorRule a ⨾ MoreEnumerators rest

  pub MoreEnumerators : {n : _} → Row_of-Enumerator n → Rule
  MoreEnumerators end_of-Enumerator = Nothing
  MoreEnumerators (more_of-Enumerator a rest) = Mark m.Comma ⨾ EnumeratorRule a ⨾ MoreEnumerators rest

  -- an enumeration constant is in scope behind its enumerator
  pub EnumeratorRule : Enumerator → Rule
  EnumeratorRule (Enumerator' n value) = Identifier n ⨾ ValueRule value ⨾ Declares false (Some n)

  pub ValueRule : Held-Enumerator-value → Rule
  ValueRule Enumerator-value-None' = Nothing
  ValueRule (Enumerator-value-Some' at a) = Mark m.Equal ⨾ Operand op.conditional (level a) at (Spells a)

  -- ---- declarators (6.7.6), without parentheses round them
  pub DeclaratorRule : Declarator → Mode → Rule
  DeclaratorRule (Ident n) mode = λ s t. HasName mode n × MaybeIdentifier n s t
  DeclaratorRule (Pointer' words p d) mode = Mark m.Star ⨾ Words is_qualifier words ⨾ Declarators 0 d mode
  DeclaratorRule (Array' p d size) mode = Declarators 1 d mode ⨾ Mark m.OpenBracket ⨾ SizeRule size ⨾ Mark m.CloseBracket
  DeclaratorRule (Function' p d q params ellipsis) mode =
      Declarators 1 d mode ⨾ Mark m.OpenParen ⨾ Prototype (is_own_name d) (Parameters params ellipsis) ⨾ Mark m.CloseParen

  pub Declarators : {n : _} → ℕ → Row_of-Declarator n → Mode → Rule
  Declarators least end_of-Declarator mode = Never
  Declarators least (more_of-Declarator d rest) mode = DeclaratorOperand mode least d (DeclaratorRule d mode)

  pub SizeRule : Held-Declarator-Array-1 → Rule
  SizeRule Declarator-Array-1-None' = Nothing
  SizeRule (Declarator-Array-1-Some' p a) = Apart (Stands op.assignment a)

  pub Parameters : {n : _} → Row_of-Param n → Bool → Rule
  Parameters end_of-Param true = Never
  Parameters end_of-Param false = Nothing
  Parameters (more_of-Param words base d rest) ellipsis =
      Specifiers is_declaration_word base (BaseRule base) words ⨾ DeclaratorOperand Either 0 d (DeclaratorRule d Either)
      ⨾ Declares false (name_of d) ⨾ MoreParameters rest ellipsis

  pub MoreParameters : {n : _} → Row_of-Param n → Bool → Rule
  MoreParameters end_of-Param true = Mark m.Comma ⨾ Mark m.Ellipsis
  MoreParameters end_of-Param false = Nothing
  MoreParameters (more_of-Param words base d rest) ellipsis =
      Mark m.Comma ⨾ Specifiers is_declaration_word base (BaseRule base) words
      ⨾ DeclaratorOperand Either 0 d (DeclaratorRule d Either) ⨾ Declares false (name_of d) ⨾ MoreParameters rest ellipsis

-- an expression of a level
abbrev pub IsExpr : ℕ → Expr → Rule
IsExpr least e = Operand least (level e.node) e.at (Spells e.node)

abbrev pub MaybeExpr : Option Expr → Rule
MaybeExpr None = Nothing
MaybeExpr (Some e) = IsExpr op.comma e

abbrev pub InParentheses : Expr → Rule
InParentheses e = Mark m.OpenParen ⨾ IsExpr op.comma e ⨾ Mark m.CloseParen

-- a static assertion (6.7.10)
abbrev pub AssertionRule : Expr → ℕ → Rule
AssertionRule e message =
    Word w.StaticAssert ⨾ Mark m.OpenParen ⨾ IsExpr op.conditional e ⨾ Mark m.Comma ⨾ Message message ⨾ Mark m.CloseParen
    ⨾ Mark m.Semicolon

-- ---- initializers (6.7.9)

abbrev pub DesignatorRule : Designator → Rule
DesignatorRule (Member n) = Mark m.Dot ⨾ Identifier n
DesignatorRule (Element e) = Mark m.OpenBracket ⨾ IsExpr op.conditional e ⨾ Mark m.CloseBracket

abbrev pub DesignatorList : List Designator → Rule
DesignatorList [] = Nothing
DesignatorList (d ∷ rest) = DesignatorRule d ⨾ DesignatorList rest

abbrev pub Designation : List Designator → Rule
Designation [] = Nothing
Designation (d ∷ rest) = DesignatorList (d ∷ rest) ⨾ Mark m.Equal

abbrev mutual
  pub InitRule : Init → Rule
  InitRule (Single e) = IsExpr op.assignment e
  InitRule (Braced' at p entries) =
      (λ s t. (at ≡ s.at) × Mark m.OpenBrace s t) ⨾ InitEntries entries ⨾ MaybeMark m.Comma ⨾ Mark m.CloseBrace

  pub InitEntries : {n : _} → Row_of-InitEntry n → Rule
  InitEntries end_of-InitEntry = Never
  InitEntries (more_of-InitEntry designators i rest) = Designation designators ⨾ InitRule i ⨾ MoreInits rest

  pub MoreInits : {n : _} → Row_of-InitEntry n → Rule
  MoreInits end_of-InitEntry = Nothing
  MoreInits (more_of-InitEntry designators i rest) = Mark m.Comma ⨾ Designation designators ⨾ InitRule i ⨾ MoreInits rest

-- ---- declarations (6.7)

abbrev pub MaybeInit : Option Init → Rule
MaybeInit None = Nothing
MaybeInit (Some i) = Mark m.Equal ⨾ InitRule i

-- a declarator with its name, which is in scope behind it, and so in its initializer
abbrev pub PartRule : Bool → Part → Rule
PartRule typedef p =
    DeclaratorOperand Named 0 p.declarator (DeclaratorRule p.declarator Named) ⨾ Declares typedef (name_of p.declarator)
    ⨾ MaybeInit p.init

abbrev pub MoreParts : Bool → List Part → Rule
MoreParts typedef [] = Nothing
MoreParts typedef (p ∷ rest) = Mark m.Comma ⨾ PartRule typedef p ⨾ MoreParts typedef rest

abbrev pub Parts : Bool → List Part → Rule
Parts typedef [] = Nothing
Parts typedef (p ∷ rest) = PartRule typedef p ⨾ MoreParts typedef rest

abbrev pub DeclarationSpecifiers : Specs → Rule
DeclarationSpecifiers specs = Specifiers is_declaration_word specs.base (BaseRule specs.base) specs.words

abbrev pub DeclarationRule : Declaration → Rule
DeclarationRule d = DeclarationSpecifiers d.specs ⨾ Parts (declares_typedef d.specs.words) d.parts ⨾ Mark m.Semicolon

-- ---- statements (6.8)

abbrev pub ForStart : ForInit → Rule
ForStart for_init.Empty = Mark m.Semicolon
ForStart (for_init.Value e) = IsExpr op.comma e ⨾ Mark m.Semicolon
ForStart (for_init.Declared d) = DeclarationRule d

abbrev pub AtWord : AWord → ℕ → Rule
AtWord word n = Numbered (token.Keyword word) n

abbrev mutual
  pub StmtRule : Stmt → Rule
  StmtRule (s.Simple e) = MaybeExpr e ⨾ Mark m.Semicolon
  StmtRule (s.Block' p entries) = Mark m.OpenBrace ⨾ Scoped (Entries entries) ⨾ Mark m.CloseBrace
  StmtRule (s.If' e p body other) = Scoped (Word w.If ⨾ InParentheses e ⨾ Scoped (Stmts body) ⨾ ElseRule other)
  StmtRule (s.Switch' e p body) = Scoped (Word w.Switch ⨾ InParentheses e ⨾ Scoped (Stmts body))
  StmtRule (s.While' e p body) = Scoped (Word w.While ⨾ InParentheses e ⨾ Scoped (Stmts body))
  StmtRule (s.Do' p body e) = Scoped (Word w.Do ⨾ Scoped (Stmts body) ⨾ Word w.While ⨾ InParentheses e ⨾ Mark m.Semicolon)
  StmtRule (s.For' i test step p body) =
      Scoped (Word w.For ⨾ Mark m.OpenParen ⨾ ForStart i ⨾ MaybeExpr test ⨾ Mark m.Semicolon ⨾ MaybeExpr step ⨾ Mark m.CloseParen
      ⨾ Scoped (Stmts body))
  StmtRule (s.Goto n) = Word w.Goto ⨾ Identifier n ⨾ Mark m.Semicolon
  StmtRule (s.Continue n) = AtWord w.Continue n ⨾ Mark m.Semicolon
  StmtRule (s.Break n) = AtWord w.Break n ⨾ Mark m.Semicolon
  StmtRule (s.Return n e) = AtWord w.Return n ⨾ MaybeExpr e ⨾ Mark m.Semicolon
  StmtRule (s.Label' n p body) = Identifier n ⨾ Mark m.Colon ⨾ Stmts body
  StmtRule (s.Case' n e p body) = AtWord w.Case n ⨾ IsExpr op.conditional e ⨾ Mark m.Colon ⨾ Stmts body
  StmtRule (s.Default' n p body) = AtWord w.Default n ⨾ Mark m.Colon ⨾ Stmts body

  -- the one statement of a row
  pub Stmts : {n : _} → s.Row_of-Stmt n → Rule
  Stmts s.end_of-Stmt = Never
  Stmts (s.more_of-Stmt a rest) = StmtRule a

  -- an `else` goes with the nearest `if` (6.8.4.1p3)
  pub ElseRule : s.Held-Stmt-If-2 → Rule
  ElseRule s.None' = NotNext w.Else
  ElseRule (s.Some' p body) = Word w.Else ⨾ Scoped (Stmts body)

  pub Entries : {n : _} → s.Row_of-Entry n → Rule
  Entries s.end_of-Entry = Nothing
  Entries (s.more_of-Entry a rest) = EntryRule a ⨾ Entries rest

  pub EntryRule : Entry → Rule
  EntryRule (s.Statement a) = StmtRule a
  EntryRule (s.Declaration d) = DeclarationRule d
  EntryRule (s.Assertion e message) = AssertionRule e message

-- the block items of a function's body
abbrev pub Body : List Entry → Rule
Body [] = Nothing
Body (a ∷ rest) = EntryRule a ⨾ Body rest

-- ---- translation units (6.9)

-- no parameters are kept from before
abbrev pub Afresh : Rule
Afresh s t = t ≡ record s { prototype = [] }

abbrev pub UnitEntryRule : UnitEntry → Rule
UnitEntryRule (unit.Function specs d body) =
    DeclarationSpecifiers specs ⨾ Afresh ⨾ DeclaratorOperand Named 0 d (DeclaratorRule d Named)
    ⨾ Declares (declares_typedef specs.words) (name_of d) ⨾ Mark m.OpenBrace ⨾ InPrototype (Body body) ⨾ Mark m.CloseBrace
UnitEntryRule (unit.Declaration d) = DeclarationRule d
UnitEntryRule (unit.Assertion e message) = AssertionRule e message
UnitEntryRule unit.Empty = Mark m.Semicolon

abbrev pub UnitEntries : List UnitEntry → Rule
UnitEntries [] = Nothing
UnitEntries (a ∷ rest) = UnitEntryRule a ⨾ UnitEntries rest

-- the tokens are those of the translation unit, and no more
abbrev pub SpellsUnit : TheUnit → TokenText → Type 0
SpellsUnit u tokens = (t : Input) × (UnitEntries u.entries (start_of tokens) t × (kind t ≡ None))
