-- Rules of a grammar: what holds of the input where a rule begins and of the input where it ends.
use Rattle.std.specs.Prelude.{◌≡◌, ◌≢◌, ℕ, zero, suc, ◌≤◌, Bool, true, false, if◌then◌else◌, ◌||◌, List, [], ◌∷◌, ◌++◌, drop, length, Option, Some, None, ◌⊎◌}
use Rattle.c_lex.specs.declared.token.TokenKind.{TokenKind}
use Rattle.c_lex.specs.declared.token.TokenKind.TheVariants as token
use Rattle.c_lex.specs.declared.token.Word.{Word as AWord}
use Rattle.c_lex.specs.declared.token.Word.TheVariants as w
use Rattle.c_lex.specs.declared.token.Mark.{Mark as AMark}
use Rattle.c_lex.specs.declared.token.Mark.TheVariants as m
use Rattle.c_ast.specs.Input.{Input, kind, next, is_typedef, declared, back_to}

abbrev pub Rule : Type 1
Rule = Input → Input → Type 0

-- one rule after another
infixr 5 ◌⨾◌
abbrev pub ◌⨾◌ : Rule → Rule → Rule
p ⨾ q = λ s t. (m : Input) × (p s m × q m t)

abbrev pub Nothing : Rule
Nothing s t = t ≡ s

abbrev pub Never : Rule
Never s t = ⊥

-- one token of a kind
abbrev pub Takes : TokenKind → Rule
Takes k s t = (kind s ≡ Some k) × (t ≡ next s)

abbrev pub Mark : AMark → Rule
Mark p = Takes (token.Punct p)

abbrev pub Word : AWord → Rule
Word word = Takes (token.Keyword word)

-- one token of a kind, by its number
abbrev pub Numbered : TokenKind → ℕ → Rule
Numbered k n s t = (n ≡ s.at) × Takes k s t

-- an identifier, whatever it is declared as
abbrev pub Identifier : ℕ → Rule
Identifier n = Numbered token.Name n

abbrev pub MaybeIdentifier : Option ℕ → Rule
MaybeIdentifier None = Nothing
MaybeIdentifier (Some n) = Identifier n

-- a name that is a typedef name there, or is none
abbrev pub NameThat : Bool → ℕ → Rule
NameThat typedef n s t = (is_typedef s ≡ typedef) × Identifier n s t

-- no typedef name comes next
abbrev pub NoTypedef : Rule
NoTypedef s t = (t ≡ s) × (kind s ≡ Some token.Name → is_typedef s ≡ false)

-- this keyword doesn't come next
abbrev pub NotNext : AWord → Rule
NotNext word s t = (t ≡ s) × (kind s ≢ Some (token.Keyword word))

abbrev pub MaybeMark : AMark → Rule
MaybeMark p s t = (t ≡ s) ⊎ Mark p s t

-- adjacent string literals (6.4.5p5)
abbrev pub Literals : ℕ → Rule
Literals zero = Nothing
Literals (suc count) = Takes token.StringLit ⨾ Literals count

abbrev pub Strings : ℕ → ℕ → Rule
Strings n zero s t = ⊥
Strings n (suc count) s t = (n ≡ s.at) × Literals (suc count) s t

-- at least one of them, by the number of the first
abbrev pub Message : ℕ → Rule
Message n s t = (count : ℕ) × Strings n count s t

-- within this many pairs of parentheses
abbrev pub Within : ℕ → Rule → Rule
Within zero rule = rule
Within (suc n) rule = Mark m.OpenParen ⨾ Within n rule ⨾ Mark m.CloseParen

-- An expression of the level `own` may stand for one of the level `least` where it binds as tightly, or in parentheses.
abbrev pub MayStand : ℕ → ℕ → ℕ → Type 0
MayStand least own zero = least ≤ own
MayStand least own (suc n) = Unit {0}

-- the rule holds from the token with this number on
abbrev pub From : ℕ → Rule → Rule
From at rule s t = (at ≡ s.at) × rule s t

abbrev pub Operand : ℕ → ℕ → ℕ → Rule → Rule
Operand least own at rule s t = (n : ℕ) × (MayStand least own n × Within n (From at rule) s t)

-- a declarator's name is in scope from here on, and is a typedef name or not (6.2.1p7)
abbrev pub Declares : Bool → Option ℕ → Rule
Declares typedef None s t = t ≡ s
Declares typedef (Some n) s t = t ≡ declared n typedef s

-- what the rule declares ends with it (6.2.1p4)
abbrev pub Scoped : Rule → Rule
Scoped rule s t = (m : Input) × (rule s m × (t ≡ back_to s m))

-- The parameters of a function declarator: what they declare ends with them, and is kept where the declarator is that of the
-- function's own name, since it is in scope in the function's body (6.2.1p4).
abbrev pub Prototype : Bool → Rule → Rule
Prototype own rule s t =
    (m : Input) × (rule (record s { prototype = [] }) m
    × (t ≡ record m { names = s.names; prototype = if own then drop (length s.names) m.names else s.prototype }))

-- what the rule keeps of parameters is none of what stands round it
abbrev pub Apart : Rule → Rule
Apart rule s t = (m : Input) × (rule (record s { prototype = [] }) m × (t ≡ record m { prototype = s.prototype }))

-- a function's body, in which the parameters are in scope
abbrev pub InPrototype : Rule → Rule
InPrototype rule s t = (m : Input) × (rule (record s { names = s.names ++ s.prototype }) m × (t ≡ back_to s m))

-- ---- the keywords among specifiers

-- a type qualifier (6.7.3)
abbrev pub is_qualifier : AWord → Bool
is_qualifier w.Const = true
is_qualifier w.Restrict = true
is_qualifier _ = false

-- a type specifier (6.7.2)
abbrev pub is_type_word : AWord → Bool
is_type_word w.Void = true
is_type_word w.Char = true
is_type_word w.Short = true
is_type_word w.Int = true
is_type_word w.Long = true
is_type_word w.Signed = true
is_type_word w.Unsigned = true
is_type_word w.Boolean = true
is_type_word _ = false

-- a storage class (6.7.1) or a function specifier (6.7.4)
abbrev pub is_storage_word : AWord → Bool
is_storage_word w.Typedef = true
is_storage_word w.Extern = true
is_storage_word w.Static = true
is_storage_word w.Auto = true
is_storage_word w.Register = true
is_storage_word w.Inline = true
is_storage_word w.Noreturn = true
is_storage_word _ = false

-- of a type name or a member (6.7.2.1)
abbrev pub is_qualified_word : AWord → Bool
is_qualified_word word = is_type_word word || is_qualifier word

-- of a declaration (6.7)
abbrev pub is_declaration_word : AWord → Bool
is_declaration_word word = is_qualified_word word || is_storage_word word

abbrev pub Words : (AWord → Bool) → List AWord → Rule
Words allowed [] = Nothing
Words allowed (a ∷ rest) = (λ s t. (allowed a ≡ true) × Word a s t) ⨾ Words allowed rest

abbrev pub has_type_word : List AWord → Bool
has_type_word [] = false
has_type_word (a ∷ rest) = is_type_word a || has_type_word rest

abbrev pub is_typedef_word : AWord → Bool
is_typedef_word w.Typedef = true
is_typedef_word _ = false

-- what is declared are typedef names (6.7.8)
abbrev pub declares_typedef : List AWord → Bool
declares_typedef [] = false
declares_typedef (a ∷ rest) = is_typedef_word a || declares_typedef rest
