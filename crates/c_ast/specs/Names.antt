-- Each number in a tree is that of a token of the kind that its place names.
use Rattle.std.specs.Prelude.{◌≡◌, ℕ, ◌+◌, ◌<◌, List, [], ◌∷◌, All, Option, Some, None}
use Rattle.c_lex.specs.TokenText.{TokenText, kind_at}
use Rattle.c_lex.specs.declared.token.TokenKind.{TokenKind}
use Rattle.c_lex.specs.declared.token.TokenKind.TheVariants as token
use Rattle.c_lex.specs.declared.token.Word.{Word}
use Rattle.c_lex.specs.declared.token.Word.TheVariants as w
use Rattle.c_ast.specs.declared.declaration.Base.TheBlock.{
  Plain,
  Tagged',
  Base-Tagged-2-None',
  Base-Tagged-2-Some',
  Held-Base-Tagged-2,
  Enumerated',
  Base-Enumerated-1-None',
  Base-Enumerated-1-Some',
  Held-Base-Enumerated-1,
  Typedef,
  Fields',
  Assertion',
  Ident,
  Pointer',
  Array',
  Declarator-Array-1-None',
  Declarator-Array-1-Some',
  Held-Declarator-Array-1,
  Function',
  Enumerator-value-None',
  Enumerator-value-Some',
  Held-Enumerator-value,
  Name,
  Number,
  CharLit,
  Strings,
  Unary',
  Postfix',
  Binary',
  Assign',
  Cond',
  Comma',
  Call',
  Index',
  Dot',
  Arrow',
  Cast',
  SizeofExpr',
  SizeofType',
  AlignofType',
  Row_of-Expr,
  end_of-Expr,
  more_of-Expr,
  Row_of-TypeName,
  end_of-TypeName,
  more_of-TypeName,
  Row_of-Declarator,
  end_of-Declarator,
  more_of-Declarator,
  Row_of-Enumerator,
  end_of-Enumerator,
  more_of-Enumerator,
  Row_of-MemberEntry,
  end_of-MemberEntry,
  more_of-MemberEntry,
  Row_of-Param,
  end_of-Param,
  more_of-Param,
}
use Rattle.c_ast.specs.declared.declaration.Base.{Base}
use Rattle.c_ast.specs.declared.declaration.Specs.{Specs}
use Rattle.c_ast.specs.declared.declaration.MemberEntry.{MemberEntry}
use Rattle.c_ast.specs.declared.declaration.Declarator.{Declarator}
use Rattle.c_ast.specs.declared.declaration.TypeName.{TypeName}
use Rattle.c_ast.specs.declared.declaration.Enumerator.{Enumerator, Enumerator'}
use Rattle.c_ast.specs.declared.declaration.Param.{Param}
use Rattle.c_ast.specs.declared.declaration.Designator.{Designator}
use Rattle.c_ast.specs.declared.declaration.Designator.TheVariants.{Member, Element}
use Rattle.c_ast.specs.declared.declaration.Init.{Init}
use Rattle.c_ast.specs.declared.declaration.Init.TheBlock.{Single, Braced', Row_of-InitEntry, end_of-InitEntry, more_of-InitEntry}
use Rattle.c_ast.specs.declared.declaration.InitEntry.{InitEntry}
use Rattle.c_ast.specs.declared.declaration.Part.{Part}
use Rattle.c_ast.specs.declared.declaration.Declaration.{Declaration}
use Rattle.c_ast.specs.declared.statement.ForInit.{ForInit}
use Rattle.c_ast.specs.declared.statement.ForInit.TheVariants as for_init
use Rattle.c_ast.specs.declared.statement.Stmt.{Stmt}
use Rattle.c_ast.specs.declared.statement.Entry.{Entry}
use Rattle.c_ast.specs.declared.statement.Entry.TheBlock as s
use Rattle.c_ast.specs.declared.statement.Unit.{Unit as TheUnit}
use Rattle.c_ast.specs.declared.statement.UnitEntry.{UnitEntry}
use Rattle.c_ast.specs.declared.statement.UnitEntry.TheVariants as entry
use Rattle.c_ast.specs.declared.expression.ExprNode.{ExprNode}
use Rattle.c_ast.specs.declared.expression.Expr.{Expr}

abbrev pub IsToken : TokenText → TokenKind → ℕ → Type 0
IsToken t kind n = kind_at t n ≡ Some kind

abbrev pub IsName : TokenText → ℕ → Type 0
IsName t n = IsToken t token.Name n

abbrev pub MaybeName : TokenText → Option ℕ → Type 0
MaybeName t None = Unit {0}
MaybeName t (Some n) = IsName t n

-- adjacent string literals
abbrev pub AreStrings : TokenText → ℕ → ℕ → Type 0
AreStrings t first count = (0 < count) × ((k : ℕ) → k < count → IsToken t token.StringLit (first + k))

abbrev mutual
  pub NodeNames : TokenText → ExprNode → Type 0
  NodeNames t (Name n) = IsName t n
  NodeNames t (Number n) = IsToken t token.Number n
  NodeNames t (CharLit n) = IsToken t token.CharLit n
  NodeNames t (Strings n count) = AreStrings t n count
  NodeNames t (Unary' op p a) = ExprsName t a
  NodeNames t (Postfix' op p a) = ExprsName t a
  NodeNames t (Binary' op p a q b) = ExprsName t a × ExprsName t b
  NodeNames t (Assign' op p a q b) = ExprsName t a × ExprsName t b
  NodeNames t (Cond' p a q b r c) = ExprsName t a × ExprsName t b × ExprsName t c
  NodeNames t (Comma' p all) = ExprsName t all
  NodeNames t (Call' p function q arguments) = ExprsName t function × ExprsName t arguments
  NodeNames t (Index' p a q b) = ExprsName t a × ExprsName t b
  NodeNames t (Dot' p a member) = ExprsName t a × IsName t member
  NodeNames t (Arrow' p a member) = ExprsName t a × IsName t member
  NodeNames t (Cast' p to q a) = TypesName t to × ExprsName t a
  NodeNames t (SizeofExpr' p a) = ExprsName t a
  NodeNames t (SizeofType' p of) = TypesName t of
  NodeNames t (AlignofType' p of) = TypesName t of

  pub ExprsName : {n : _} → TokenText → Row_of-Expr n → Type 0
  ExprsName t end_of-Expr = Unit {0}
  ExprsName t (more_of-Expr at a rest) = NodeNames t a × ExprsName t rest

  pub TypesName : {n : _} → TokenText → Row_of-TypeName n → Type 0
  TypesName t end_of-TypeName = Unit {0}
  TypesName t (more_of-TypeName words base d rest) = BaseNames t base × DeclaratorNames t d × TypesName t rest

  pub BaseNames : TokenText → Base → Type 0
  BaseNames t Plain = Unit {0}
  BaseNames t (Typedef n) = IsName t n
  BaseNames t (Tagged' union tag members) = MaybeName t tag × TagNames t members
  BaseNames t (Enumerated' tag enumerators) = MaybeName t tag × EnumerationNames t enumerators

  pub TagNames : TokenText → Held-Base-Tagged-2 → Type 0
  TagNames t Base-Tagged-2-None' = Unit {0}
  TagNames t (Base-Tagged-2-Some' p members) = MembersName t members

  pub MembersName : {n : _} → TokenText → Row_of-MemberEntry n → Type 0
  MembersName t end_of-MemberEntry = Unit {0}
  MembersName t (more_of-MemberEntry m rest) = MemberNames t m × MembersName t rest

  pub MemberNames : TokenText → MemberEntry → Type 0
  MemberNames t (Fields' words base p ds) = BaseNames t base × DeclaratorsName t ds
  MemberNames t (Assertion' at a message) = NodeNames t a × IsToken t token.StringLit message

  pub EnumerationNames : TokenText → Held-Base-Enumerated-1 → Type 0
  EnumerationNames t Base-Enumerated-1-None' = Unit {0}
  EnumerationNames t (Base-Enumerated-1-Some' p all) = EnumeratorsName t all

  pub EnumeratorsName : {n : _} → TokenText → Row_of-Enumerator n → Type 0
  EnumeratorsName t end_of-Enumerator = Unit {0}
  EnumeratorsName t (more_of-Enumerator e rest) = EnumeratorNames t e × EnumeratorsName t rest

  pub EnumeratorNames : TokenText → Enumerator → Type 0
  EnumeratorNames t (Enumerator' name value) = IsName t name × ValueNames t value

  pub ValueNames : TokenText → Held-Enumerator-value → Type 0
  ValueNames t Enumerator-value-None' = Unit {0}
  ValueNames t (Enumerator-value-Some' at a) = NodeNames t a

  pub DeclaratorNames : TokenText → Declarator → Type 0
  DeclaratorNames t (Ident name) = MaybeName t name
  DeclaratorNames t (Pointer' words p d) = DeclaratorsName t d
  DeclaratorNames t (Array' p d size) = DeclaratorsName t d × SizeNames t size
  DeclaratorNames t (Function' p d q params ellipsis) = DeclaratorsName t d × ParamsName t params

  pub SizeNames : TokenText → Held-Declarator-Array-1 → Type 0
  SizeNames t Declarator-Array-1-None' = Unit {0}
  SizeNames t (Declarator-Array-1-Some' p a) = ExprsName t a

  pub DeclaratorsName : {n : _} → TokenText → Row_of-Declarator n → Type 0
  DeclaratorsName t end_of-Declarator = Unit {0}
  DeclaratorsName t (more_of-Declarator d rest) = DeclaratorNames t d × DeclaratorsName t rest

  pub ParamsName : {n : _} → TokenText → Row_of-Param n → Type 0
  ParamsName t end_of-Param = Unit {0}
  ParamsName t (more_of-Param words base d rest) = BaseNames t base × DeclaratorNames t d × ParamsName t rest

abbrev pub ExprNames : TokenText → Expr → Type 0
ExprNames t e = NodeNames t e.node

abbrev pub SpecsName : TokenText → Specs → Type 0
SpecsName t s = BaseNames t s.base

abbrev pub TypeNameNames : TokenText → TypeName → Type 0
TypeNameNames t n = SpecsName t n.specs × DeclaratorNames t n.declarator

abbrev pub ParamNames : TokenText → Param → Type 0
ParamNames t p = SpecsName t p.specs × DeclaratorNames t p.declarator

abbrev pub MaybeExprNames : TokenText → Option Expr → Type 0
MaybeExprNames t None = Unit {0}
MaybeExprNames t (Some e) = ExprNames t e

abbrev pub DesignatorNames : TokenText → Designator → Type 0
DesignatorNames t (Member n) = IsName t n
DesignatorNames t (Element e) = ExprNames t e

abbrev mutual
  pub InitNames : TokenText → Init → Type 0
  InitNames t (Single e) = ExprNames t e
  InitNames t (Braced' at p entries) = InitsName t entries

  pub InitsName : {n : _} → TokenText → Row_of-InitEntry n → Type 0
  InitsName t end_of-InitEntry = Unit {0}
  InitsName t (more_of-InitEntry designators i rest) = All (DesignatorNames t) designators × InitNames t i × InitsName t rest

abbrev pub InitEntryNames : TokenText → InitEntry → Type 0
InitEntryNames t e = All (DesignatorNames t) e.designators × InitNames t e.init

abbrev pub MaybeInitNames : TokenText → Option Init → Type 0
MaybeInitNames t None = Unit {0}
MaybeInitNames t (Some i) = InitNames t i

abbrev pub PartNames : TokenText → Part → Type 0
PartNames t p = DeclaratorNames t p.declarator × MaybeInitNames t p.init

abbrev pub DeclarationNames : TokenText → Declaration → Type 0
DeclarationNames t d = SpecsName t d.specs × All (PartNames t) d.parts

abbrev pub ForNames : TokenText → ForInit → Type 0
ForNames t for_init.Empty = Unit {0}
ForNames t (for_init.Value e) = ExprNames t e
ForNames t (for_init.Declared d) = DeclarationNames t d

abbrev pub IsWord : TokenText → Word → ℕ → Type 0
IsWord t word n = IsToken t (token.Keyword word) n

abbrev mutual
  pub StmtNames : TokenText → Stmt → Type 0
  StmtNames t (s.Simple e) = MaybeExprNames t e
  StmtNames t (s.Block' p entries) = EntriesName t entries
  StmtNames t (s.If' e p body other) = ExprNames t e × StmtsName t body × ElseNames t other
  StmtNames t (s.Switch' e p body) = ExprNames t e × StmtsName t body
  StmtNames t (s.While' e p body) = ExprNames t e × StmtsName t body
  StmtNames t (s.Do' p body e) = StmtsName t body × ExprNames t e
  StmtNames t (s.For' i test step p body) = ForNames t i × MaybeExprNames t test × MaybeExprNames t step × StmtsName t body
  StmtNames t (s.Goto n) = IsName t n
  StmtNames t (s.Continue n) = IsWord t w.Continue n
  StmtNames t (s.Break n) = IsWord t w.Break n
  StmtNames t (s.Return n e) = IsWord t w.Return n × MaybeExprNames t e
  StmtNames t (s.Label' n p body) = IsName t n × StmtsName t body
  StmtNames t (s.Case' n e p body) = IsWord t w.Case n × ExprNames t e × StmtsName t body
  StmtNames t (s.Default' n p body) = IsWord t w.Default n × StmtsName t body

  pub StmtsName : {n : _} → TokenText → s.Row_of-Stmt n → Type 0
  StmtsName t s.end_of-Stmt = Unit {0}
  StmtsName t (s.more_of-Stmt a rest) = StmtNames t a × StmtsName t rest

  pub ElseNames : TokenText → s.Held-Stmt-If-2 → Type 0
  ElseNames t s.None' = Unit {0}
  ElseNames t (s.Some' p body) = StmtsName t body

  pub EntriesName : {n : _} → TokenText → s.Row_of-Entry n → Type 0
  EntriesName t s.end_of-Entry = Unit {0}
  EntriesName t (s.more_of-Entry a rest) = EntryNames t a × EntriesName t rest

  pub EntryNames : TokenText → Entry → Type 0
  EntryNames t (s.Statement a) = StmtNames t a
  EntryNames t (s.Declaration d) = DeclarationNames t d
  EntryNames t (s.Assertion e message) = ExprNames t e × IsToken t token.StringLit message

abbrev pub MaybeStmtNames : TokenText → Option Stmt → Type 0
MaybeStmtNames t None = Unit {0}
MaybeStmtNames t (Some a) = StmtNames t a

abbrev pub UnitEntryNames : TokenText → UnitEntry → Type 0
UnitEntryNames t (entry.Function specs d body) = SpecsName t specs × DeclaratorNames t d × All (EntryNames t) body
UnitEntryNames t (entry.Declaration d) = DeclarationNames t d
UnitEntryNames t (entry.Assertion e message) = ExprNames t e × IsToken t token.StringLit message
UnitEntryNames t entry.Empty = Unit {0}

-- of a translation unit
abbrev pub Names : TokenText → TheUnit → Type 0
Names t u = All (UnitEntryNames t) u.entries
