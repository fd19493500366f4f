-- Expressions, and the declarations that nest in them: type names, specifiers, member lists, enumerator lists and declarators (6.5, 6.6,
-- 6.7.2 to 6.7.7). The text is read in its order: each function goes through what a tree holds as the tokens stand, and gives the
-- operands to the operators, whose nodes and constraints are those of the crates type_conversions,
-- type_operators, type_assignments and type_calls.
use Rattle.std.specs.Prelude.{ℕ, zero, suc, ◌+◌, ◌==◌, Bool, true, false, not, ◌&&◌, if◌then◌else◌, ℤ, pos, unsigned_abs, List, [], ◌∷◌}
use Rattle.std.specs.Prelude.{◌++◌, length, Option, Some, None, Result, Ok, Err, is_some}
use Rattle.c_lex.specs.TokenText.{kind_at}
use Rattle.c_lex.specs.declared.token.TokenKind.{TokenKind}
use Rattle.c_lex.specs.declared.token.TokenKind.TheVariants as token
use Rattle.c_lex.specs.declared.token.Word.{Word}
use Rattle.c_lit.specs.Integers.{int_value}
use Rattle.c_lit.specs.Literals.{char_value, string_value}
use Rattle.c_lit.specs.declared.integer.IntLit.{IntLit}
use Rattle.c_lit.specs.declared.fault.LitFault.{LitFault}
use Rattle.c_ast.specs.declared.declaration.Base.TheBlock.{Plain, Tagged', Base-Tagged-2-None', Base-Tagged-2-Some', Held-Base-Tagged-2}
use Rattle.c_ast.specs.declared.declaration.Base.TheBlock.{Enumerated', Base-Enumerated-1-None', Base-Enumerated-1-Some'}
use Rattle.c_ast.specs.declared.declaration.Base.TheBlock.{Held-Base-Enumerated-1, Typedef, Fields', Assertion', Ident, Pointer', Array'}
use Rattle.c_ast.specs.declared.declaration.Base.TheBlock.{Declarator-Array-1-None', Declarator-Array-1-Some', Held-Declarator-Array-1}
use Rattle.c_ast.specs.declared.declaration.Base.TheBlock.{Function', Enumerator-value-None', Enumerator-value-Some', Held-Enumerator-value}
use Rattle.c_ast.specs.declared.declaration.Base.TheBlock.{Name, Number, CharLit, Strings, Unary', Postfix', Binary', Assign', Cond'}
use Rattle.c_ast.specs.declared.declaration.Base.TheBlock.{Comma', Call', Index', Dot', Arrow', Cast', SizeofExpr', SizeofType'}
use Rattle.c_ast.specs.declared.declaration.Base.TheBlock.{AlignofType', Row_of-Expr, end_of-Expr, more_of-Expr, Row_of-TypeName}
use Rattle.c_ast.specs.declared.declaration.Base.TheBlock.{end_of-TypeName, more_of-TypeName, Row_of-Declarator, end_of-Declarator}
use Rattle.c_ast.specs.declared.declaration.Base.TheBlock.{more_of-Declarator, Row_of-Enumerator, end_of-Enumerator, more_of-Enumerator}
use Rattle.c_ast.specs.declared.declaration.Base.TheBlock.{Row_of-MemberEntry, end_of-MemberEntry, more_of-MemberEntry, Row_of-Param}
use Rattle.c_ast.specs.declared.declaration.Base.TheBlock.{end_of-Param, more_of-Param}
use Rattle.c_ast.specs.declared.declaration.Base.{Base}
use Rattle.c_ast.specs.declared.declaration.Declarator.{Declarator}
use Rattle.c_ast.specs.declared.declaration.Enumerator.{Enumerator, Enumerator'}
use Rattle.c_ast.specs.declared.declaration.MemberEntry.{MemberEntry}
use Rattle.c_ast.specs.declared.expression.Expr.{Expr}
use Rattle.c_ast.specs.declared.expression.ExprNode.{ExprNode}
use Rattle.c_ast.specs.declared.expression.UnaryOp.{UnaryOp}
use Rattle.c_ast.specs.declared.expression.UnaryOp.TheVariants as u
use Rattle.c_ast.specs.declared.expression.PostOp.{PostOp}
use Rattle.c_ast.specs.declared.expression.PostOp.TheVariants as p
use Rattle.c_ast.specs.declared.expression.BinaryOp.{BinaryOp}
use Rattle.c_ast.specs.declared.expression.BinaryOp.TheVariants as b
use Rattle.c_ast.specs.declared.expression.AssignOp.{AssignOp}
use Rattle.c_ast.specs.declared.expression.AssignOp.TheVariants as a
use Rattle.c_grammar.specs.Grammar.{name_of, is_own_name}
use Rattle.c_types.specs.declared.kind.IntKind.TheVariants.{Int, ULong}
use Rattle.c_types.specs.declared.kind.BinOp.TheVariants as op
use Rattle.type_operands.specs.Layouts.{Layouts}
use Rattle.c_types.specs.declared.tags.Extent.{Extent}
use Rattle.c_types.specs.Types.{CType, Params, none as no_parameter, more as parameter_then, int, pointer, Qualified}
use Rattle.type_values.specs.Enumerators.{enumerator}
use Rattle.c_typed.specs.declared.tree.Slot.{Slot}
use Rattle.c_typed.specs.declared.tree.Slot.TheVariants as slot
use Rattle.c_typed.specs.declared.tree.Target.TheVariants as target
use Rattle.c_typed.specs.declared.tree.RelOp.TheVariants as relation
use Rattle.c_typed.specs.declared.tree.EqOp.TheVariants as equality
use Rattle.c_typed.specs.declared.tree.Node.TheOpen as shape
use Rattle.c_typed.specs.Lawful.{literal_type}
use Rattle.type_operands.specs.declared.operand.Form.{Form}
use Rattle.type_operands.specs.declared.operand.Form.TheVariants as form
use Rattle.type_operands.specs.Terms.{type_at, leaf, constant as constant_term, Expression, as_value, as_place}
use Rattle.type_operands.specs.Conversions.{target_of}
use Rattle.type_constants.specs.Constants.{integer_constant}
use Rattle.type_operators.specs.Operators as operators
use Rattle.type_conversions.specs.Casts as casts
use Rattle.type_assignments.specs.Assignments as assignments
use Rattle.type_calls.specs.Calls.{called}
use Rattle.type_calls.specs.Choices.{chosen, sequenced}
use Rattle.type_operators.specs.Members.{member_of_value, member_of_pointer}
use Rattle.typing_env.specs.Seen.{SeenMember}
use Rattle.typing_words.specs.Tags.{layouts_of, constants, extent_in}
use Rattle.typing_env.specs.Env.{Env, Typing, ◌>>=◌, ◌>>◌, pure, refuse, known, knowing, found, holds, unevaluated, Use, Meaning}
use Rattle.typing_env.specs.Env.{an_object, a_function, a_constant, symbol_of, line_of, spelling}
use Rattle.typing_env.specs.Names.{meaning_of, declare, in_prototype}
use Rattle.typing_words.specs.Words.{Words, said, are_qualified, is_no_word, type_named, type_table, typedef_in, plain, with_qualifiers}
use Rattle.typing_words.specs.Words.{Derivation, count_of, array_of, function_of, pointer_by, derived, is_lone_void, parameter, kind_of_tag}
use Rattle.typing_words.specs.Words.{reference, open_tag, close_tag, named_member, unnamed_member, enumeration_reference, open_enumeration}
use Rattle.typing_words.specs.Words.{close_enumeration}

-- 1. Constants and literals (6.4.4, 6.4.5).

abbrev pub literal_in : ℕ → Result IntLit LitFault → Option Expression
literal_in line (Ok l) = Some (as_value (constant_term (pos l.value) (int l.kind) line))
literal_in line (Err fault) = None

abbrev pub character_in : ℕ → Result ℤ LitFault → Option Expression
character_in line (Ok z) = Some (as_value (constant_term z (int Int) line))
character_in line (Err fault) = None

abbrev pub bytes_then : Result (List ℕ) LitFault → Option (List ℕ) → Option (List ℕ)
bytes_then (Ok a) (Some b) = Some (a ++ b)
bytes_then _ _ = None

abbrev pub is_literal : Option TokenKind → Bool
is_literal (Some token.StringLit) = true
is_literal _ = false

-- the characters of the string literals that stand one after the other from a token on, and a zero (6.4.5p5, 6.4.5p6); the number
-- bounds how many they are
abbrev pub literals_from : ℕ → Env → ℕ → Option (List ℕ)
literals_from zero env at = Some (0 ∷ [])
literals_from (suc n) env at =
    if is_literal (kind_at env.tokens at) then bytes_then (string_value (spelling env at)) (literals_from n env (at + 1)) else Some (0 ∷ [])

-- the bytes of the literal that begins at this token
unfoldable pub literal_at : Env → ℕ → Option (List ℕ)
literal_at env at = literals_from (length env.tokens.list) env at

-- 2. Operands.

-- what operators make of operands here
unfoldable pub made : ℕ → (Layouts → ℕ → Option Expression) → Typing Expression
made at make = do
  env ← known
  found (make (layouts_of env.tags) (line_of env at))

-- an object with static storage, or a function, is used (6.9p3, 6.9p5)
abbrev pub use_of_object : Slot → CType → List Use
use_of_object (slot.Static name) t = record { target = target.Static name; count = count_of t } ∷ []
use_of_object _ t = []

abbrev pub use_of_function : ℕ → List Use
use_of_function number = record { target = target.Function number; count = None } ∷ []

abbrev pub using : List Use → Env → Env
using further env = record env { uses = env.uses ++ further }

-- an identifier (6.5.1p2, 6.7.2.2p3)
unfoldable pub named_as : ℕ → Option Meaning → Typing Expression
named_as line (Some (an_object slot qual register)) = do
  knowing (using (use_of_object slot qual.ty))
  pure (as_place register (leaf (shape.Obj slot) (pointer qual.constant qual.ty) line))
named_as line (Some (a_function number ty)) = do
  knowing (using (use_of_function number))
  pure (record { tree = leaf (shape.Func number) (pointer false ty) line; form = form.Designator; line = line })
named_as line (Some (a_constant z)) = pure (as_value (constant_term z (int Int) line))
named_as line _ = refuse

unfoldable pub named : ℕ → Typing Expression
named at = do
  env ← known
  named_as (line_of env at) (meaning_of env (symbol_of env at))

unfoldable pub number : ℕ → Typing Expression
number at = do
  env ← known
  found (literal_in (line_of env at) (int_value (spelling env at)))

unfoldable pub character : ℕ → Typing Expression
character at = do
  env ← known
  found (character_in (line_of env at) (char_value (spelling env at)))

-- string literals are an array of `char` with static storage, which the first token names (6.4.5p6)
unfoldable pub strings : ℕ → Typing Expression
strings at = do
  env ← known
  bytes ← found (literal_at env at)
  pure (as_place false (leaf (shape.Str at) (pointer false (literal_type (length bytes))) (line_of env at)))

-- 3. Operators.

abbrev pub unary : UnaryOp → Expression → Layouts → (ℕ → Bool) → ℕ → Option Expression
unary u.Address x tags consts line = operators.addressed x
unary u.Deref x tags consts line = operators.dereferenced tags x line
unary u.Plus x tags consts line = operators.plus tags x
unary u.Minus x tags consts line = operators.negated tags x line
unary u.Tilde x tags consts line = operators.complemented tags x line
unary u.Not x tags consts line = operators.inverted tags x line
unary u.Increment x tags consts line = assignments.stepped tags consts op.Add x line
unary u.Decrement x tags consts line = assignments.stepped tags consts op.Sub x line

abbrev pub postfix : PostOp → Expression → Layouts → (ℕ → Bool) → ℕ → Option Expression
postfix p.Increment x tags consts line = assignments.incremented tags consts op.Add x line
postfix p.Decrement x tags consts line = assignments.incremented tags consts op.Sub x line

abbrev pub binary : BinaryOp → Expression → Expression → Layouts → ℕ → Option Expression
binary b.Mul x y tags line = operators.multiplied tags op.Mul x y line
binary b.Div x y tags line = operators.multiplied tags op.Div x y line
binary b.Rem x y tags line = operators.multiplied tags op.Rem x y line
binary b.Add x y tags line = operators.added tags x y line
binary b.Sub x y tags line = operators.subtracted tags x y line
binary b.Shl x y tags line = operators.shifted tags op.Shl x y line
binary b.Shr x y tags line = operators.shifted tags op.Shr x y line
binary b.Less x y tags line = operators.compared tags relation.Less x y line
binary b.Greater x y tags line = operators.compared tags relation.Greater x y line
binary b.LessEq x y tags line = operators.compared tags relation.LessEq x y line
binary b.GreaterEq x y tags line = operators.compared tags relation.GreaterEq x y line
binary b.Eq x y tags line = operators.equated tags equality.Equal x y line
binary b.Ne x y tags line = operators.equated tags equality.NotEqual x y line
binary b.BitAnd x y tags line = operators.multiplied tags op.BitAnd x y line
binary b.BitXor x y tags line = operators.multiplied tags op.BitXor x y line
binary b.BitOr x y tags line = operators.multiplied tags op.BitOr x y line
binary b.And x y tags line = operators.joined tags false x y line
binary b.Or x y tags line = operators.joined tags true x y line

abbrev pub assigned : AssignOp → Expression → Expression → Layouts → (ℕ → Bool) → ℕ → Option Expression
assigned a.Plain x y tags consts line = assignments.assigned tags consts x y line
assigned a.Mul x y tags consts line = assignments.compound tags consts op.Mul x y line
assigned a.Div x y tags consts line = assignments.compound tags consts op.Div x y line
assigned a.Rem x y tags consts line = assignments.compound tags consts op.Rem x y line
assigned a.Add x y tags consts line = assignments.compound tags consts op.Add x y line
assigned a.Sub x y tags consts line = assignments.compound tags consts op.Sub x y line
assigned a.Shl x y tags consts line = assignments.compound tags consts op.Shl x y line
assigned a.Shr x y tags consts line = assignments.compound tags consts op.Shr x y line
assigned a.BitAnd x y tags consts line = assignments.compound tags consts op.BitAnd x y line
assigned a.BitXor x y tags consts line = assignments.compound tags consts op.BitXor x y line
assigned a.BitOr x y tags consts line = assignments.compound tags consts op.BitOr x y line

-- where an operator asks which structures have a const member
unfoldable pub made_modifying : ℕ → (Layouts → (ℕ → Bool) → ℕ → Option Expression) → Typing Expression
made_modifying at make = do
  env ← known
  found (make (layouts_of env.tags) (constants env.tags) (line_of env at))

-- 4. `sizeof` and `_Alignof` (6.5.3.4).

abbrev pub object_type : Option Qualified → Option CType
object_type None = None
object_type (Some q) = Some q.ty

-- the type of an operand that is no function and no void expression (6.5.3.4p1)
abbrev pub operand_type : Form → CType → Option CType
operand_type (form.Place register) t = object_type (target_of t)
operand_type form.Value t = Some t
operand_type form.NullPointer t = Some t
operand_type _ t = None

abbrev pub unsigned_long : ℕ → ℕ → Expression
unsigned_long line n = as_value (constant_term (pos n) (int ULong) line)

-- of a complete object type (6.5.3.4p1): a constant of type `size_t`
unfoldable pub measured : ℕ → (Extent → ℕ) → CType → Typing Expression
measured at measure t = do
  env ← known
  e ← found (extent_in env.tags t)
  pure (unsigned_long (line_of env at) (measure e))

unfoldable pub measured_operand : ℕ → Expression → Typing Expression
measured_operand at x = do
  t ← found (operand_type x.form (type_at x.tree))
  measured at (λ e. e.size) t

-- 5. Constant expressions (6.6).

abbrev pub is_value : Form → Bool
is_value form.Value = true
is_value _ = false

-- the value of an integer constant expression (6.6p6)
abbrev pub constant_of : Expression → Option ℤ
constant_of x = if is_value x.form then integer_constant x.tree else None

abbrev pub is_zero : ℤ → Bool
is_zero z = unsigned_abs z == 0

-- a static assertion: its constant isn't 0, and its message is a string literal (6.7.10p2)
unfoldable pub asserted : ℤ → ℕ → Typing (Unit {0})
asserted z message = do
  env ← known
  holds (not (is_zero z))
  holds (is_some (literal_at env message))

-- 6. Declarations.

-- the keywords of specifiers, and the type that they and what stands among them give
pub record Specified : Type 0 where
  pub words : Words
  pub qual : Qualified

unfoldable pub specified_as : Words → Qualified → Typing Specified
specified_as ws q = do
  qual ← found (with_qualifiers ws q)
  pure (record { words = ws; qual = qual })

unfoldable pub by_keywords : Words → Typing Qualified
by_keywords ws = do
  t ← found (type_named ws.types type_table)
  pure (plain t)

unfoldable pub by_typedef : ℕ → Typing Qualified
by_typedef at = do
  env ← known
  found (typedef_in (meaning_of env (symbol_of env at)))

-- beside a specifier that is no keyword stands no type specifier (6.7.2p2)
unfoldable pub lone : List Word → Typing Words
lone words = do
  ws ← found (said words)
  holds (is_no_word ws.types)
  pure ws

-- an enumerator, in scope behind itself (6.2.1p7); the answer is its value
unfoldable pub enumerated : ℕ → Option ℤ → Option ℤ → Typing ℤ
enumerated at value before = do
  z ← found (enumerator value before)
  declare at (a_constant z)
  pure z

unfoldable pub derived_type : Qualified → List Derivation → Typing Qualified
derived_type q ds = do
  env ← known
  found (derived env.tags ds q)

abbrev pub is_last : {n : _} → Row_of-Param n → Bool
is_last end_of-Param = true
is_last (more_of-Param words base d rest) = false

abbrev pub has_none : {n : _} → Row_of-Declarator n → Bool
has_none end_of-Declarator = true
has_none (more_of-Declarator d rest) = false

-- the one parameter is `(void)`, with nothing beside it (6.7.6.3p10)
abbrev pub says_void : (variadic : Bool) → ℕ → Bool → Words → Option ℕ → Qualified → Bool
says_void variadic index last ws name q = not variadic && ((index == 0) && (last && is_lone_void ws name q))

unfoldable mutual
  -- ---- expressions, which begin at a token (6.5)
  pub expression : ℕ → ExprNode → Typing Expression
  expression at (Name n) = named n
  expression at (Number n) = number n
  expression at (CharLit n) = character n
  expression at (Strings n many) = strings n
  expression at (Unary' o l x) = do
    y ← operand x
    made_modifying at (unary o y)
  expression at (Postfix' o l x) = do
    y ← operand x
    made_modifying at (postfix o y)
  expression at (Binary' o l x m z) = do
    y ← operand x
    w ← operand z
    made at (binary o y w)
  expression at (Assign' o l x m z) = do
    y ← operand x
    w ← operand z
    made_modifying at (assigned o y w)
  expression at (Cond' l x m y n z) = do
    test ← operand x
    first ← operand y
    second ← operand z
    made at (λ tags. chosen tags test first second)
  expression at (Comma' l all) = do
    es ← operands all
    made at (λ tags. sequenced tags es)
  expression at (Call' l f m all) = do
    designator ← operand f
    es ← operands all
    made at (λ tags. called tags designator es)
  expression at (Index' l x m z) = do
    y ← operand x
    w ← operand z
    made at (λ tags. operators.indexed tags y w)
  expression at (Dot' l x n) = do
    y ← operand x
    env ← known
    made at (λ tags. member_of_value tags y (spelling env n))
  expression at (Arrow' l x n) = do
    y ← operand x
    env ← known
    made at (λ tags. member_of_pointer tags y (spelling env n))
  expression at (Cast' l to m x) = do
    q ← type_name to
    y ← operand x
    made at (λ tags. casts.cast tags q.ty y)
  -- the operand isn't evaluated (6.5.3.4p2)
  expression at (SizeofExpr' l x) = do
    y ← unevaluated (operand x)
    measured_operand at y
  expression at (SizeofType' l of) = do
    q ← type_name of
    measured at (λ e. e.size) q.ty
  expression at (AlignofType' l of) = do
    q ← type_name of
    measured at (λ e. e.align) q.ty

  -- the one expression of a row
  pub operand : {n : _} → Row_of-Expr n → Typing Expression
  operand end_of-Expr = refuse
  operand (more_of-Expr at x rest) = expression at x

  pub operands : {n : _} → Row_of-Expr n → Typing (List Expression)
  operands end_of-Expr = pure []
  operands (more_of-Expr at x rest) = do
    e ← expression at x
    es ← operands rest
    pure (e ∷ es)

  -- the value of the integer constant expression of a row
  pub constant_in : {n : _} → Row_of-Expr n → Typing ℤ
  constant_in end_of-Expr = refuse
  constant_in (more_of-Expr at x rest) = do
    e ← expression at x
    found (constant_of e)

  -- ---- type names (6.7.7)
  pub type_name : {n : _} → Row_of-TypeName n → Typing Qualified
  type_name end_of-TypeName = refuse
  type_name (more_of-TypeName words base d rest) = do
    s ← specified words base false
    holds (are_qualified s.words)
    ds ← derivations d
    derived_type s.qual ds

  -- ---- specifiers (6.7, 6.7.2); `alone` says that nothing follows, and nothing stands beside them
  pub specified : List Word → Base → Bool → Typing Specified
  specified words Plain alone = do
    ws ← found (said words)
    q ← by_keywords ws
    specified_as ws q
  specified words (Typedef n) alone = do
    ws ← lone words
    q ← by_typedef n
    specified_as ws q
  specified words (Tagged' is_union tag ms) alone = do
    ws ← lone words
    q ← tagged (alone && is_no_word words) is_union tag ms
    specified_as ws q
  specified words (Enumerated' tag all) alone = do
    ws ← lone words
    q ← enumeration_by tag all
    specified_as ws q

  pub tagged : Bool → Bool → Option ℕ → Held-Base-Tagged-2 → Typing Qualified
  tagged alone is_union tag Base-Tagged-2-None' = reference alone (kind_of_tag is_union) tag
  tagged alone is_union tag (Base-Tagged-2-Some' l all) = do
    n ← open_tag (kind_of_tag is_union) tag
    ms ← members all
    close_tag (kind_of_tag is_union) n ms

  -- ---- members (6.7.2.1)
  pub members : {n : _} → Row_of-MemberEntry n → Typing (List SeenMember)
  members end_of-MemberEntry = pure []
  members (more_of-MemberEntry m rest) = do
    ms ← member m
    more ← members rest
    pure (ms ++ more)

  pub member : MemberEntry → Typing (List SeenMember)
  member (Fields' words base l ds) = do
    s ← specified words base (has_none ds)
    holds (are_qualified s.words)
    if has_none ds then unnamed_member base s.qual else fields s.qual ds
  member (Assertion' at x message) = do
    e ← expression at x
    z ← found (constant_of e)
    asserted z message
    pure []

  pub fields : {n : _} → Qualified → Row_of-Declarator n → Typing (List SeenMember)
  fields q end_of-Declarator = pure []
  fields q (more_of-Declarator d rest) = do
    ds ← derivations d
    qual ← derived_type q ds
    ms ← named_member (name_of d) qual
    more ← fields q rest
    pure (ms ++ more)

  -- ---- enumerators (6.7.2.2)
  pub enumeration_by : Option ℕ → Held-Base-Enumerated-1 → Typing Qualified
  enumeration_by tag Base-Enumerated-1-None' = enumeration_reference tag
  enumeration_by tag (Base-Enumerated-1-Some' l all) = do
    n ← open_enumeration tag
    enumerators None all
    close_enumeration n

  pub enumerators : {n : _} → Option ℤ → Row_of-Enumerator n → Typing (Unit {0})
  enumerators before end_of-Enumerator = pure tt
  enumerators before (more_of-Enumerator e rest) = do
    z ← enumerator_behind before e
    enumerators (Some z) rest

  pub enumerator_behind : Option ℤ → Enumerator → Typing ℤ
  enumerator_behind before (Enumerator' at value) = do
    v ← value_given value
    enumerated at v before

  pub value_given : Held-Enumerator-value → Typing (Option ℤ)
  value_given Enumerator-value-None' = pure None
  value_given (Enumerator-value-Some' at x) = do
    e ← expression at x
    z ← found (constant_of e)
    pure (Some z)

  -- ---- declarators (6.7.6): the parts of one from the outermost to the one next to the name; the sizes and parameters are read as
  -- they stand in the text
  pub derivations : Declarator → Typing (List Derivation)
  derivations (Ident n) = pure []
  derivations (Pointer' words l d) = do
    p ← found (pointer_by (said words))
    ds ← inner d
    pure (p ∷ ds)
  derivations (Array' l d size) = do
    ds ← inner d
    n ← count size
    pure (array_of n ∷ ds)
  derivations (Function' l d m ps variadic) = do
    ds ← inner d
    params ← in_prototype (is_own_name d) (parameters variadic 0 ps)
    pure (function_of params variadic ∷ ds)

  pub inner : {n : _} → Row_of-Declarator n → Typing (List Derivation)
  inner end_of-Declarator = refuse
  inner (more_of-Declarator d rest) = derivations d

  pub count : Held-Declarator-Array-1 → Typing (Option ℤ)
  count Declarator-Array-1-None' = pure None
  count (Declarator-Array-1-Some' l x) = do
    z ← constant_in x
    pure (Some z)

  -- ---- parameters (6.7.6.3); `()` is `(void)` (own)
  pub parameters : {n : _} → (variadic : Bool) → ℕ → Row_of-Param n → Typing Params
  parameters variadic index end_of-Param = pure no_parameter
  parameters variadic index (more_of-Param words base d rest) = do
    s ← specified words base false
    ds ← derivations d
    q ← derived_type s.qual ds
    if says_void variadic index (is_last rest) s.words (name_of d) q then pure no_parameter
        else (do
          p ← parameter index s.words (name_of d) q
          ps ← parameters variadic (index + 1) rest
          pure (parameter_then p.constant p.ty ps))

-- what a declarator makes of the type in front of it
unfoldable pub declared : Qualified → Declarator → Typing Qualified
declared q d = do
  ds ← derivations d
  derived_type q ds

-- an expression
abbrev pub expr : Expr → Typing Expression
expr e = expression e.at e.node

-- the value of an integer constant expression
unfoldable pub constant : Expr → Typing ℤ
constant e = do
  x ← expr e
  found (constant_of x)

-- a static assertion (6.7.10)
unfoldable pub assertion : Expr → ℕ → Typing (Unit {0})
assertion e message = do
  z ← constant e
  asserted z message
