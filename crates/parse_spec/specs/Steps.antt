-- The steps of a parser: for the tokens that are left it answers what it read and what is left then, or nothing where no
-- sentence goes on.
use Rattle.std.specs.Prelude.{ℕ, zero, suc, ◌+◌, ◌-◌, ◌==◌, Bool, true, false, if◌then◌else◌, List, [], ◌∷◌, ◌++◌, length, take, drop, Option, Some, None}
use denote.Enum.Bare.{sameb}
use Rattle.c_lex.specs.declared.token.TokenKind.{TokenKind}
use Rattle.c_lex.specs.declared.token.TokenKind.TheVariants as token
use Rattle.c_lex.specs.declared.token.Word.{Word as AWord}
use Rattle.c_lex.specs.declared.token.Mark.{Mark as AMark}
use Rattle.c_lex.specs.contracts.token.Mark.{the_type as mark_type}
use Rattle.c_lex.specs.contracts.token.Word.{the_type as word_type}
use Rattle.c_ast.specs.Input.{Input, kind, next, declared}

abbrev pub Outcome : Type 0 → Type 0
Outcome A = Option (A × Input)

abbrev pub Parser : Type 0 → Type 0
Parser A = Input → Outcome A

abbrev pub and_then : {A B : Type 0} → Outcome A → (A → Parser B) → Outcome B
and_then (Some p) f = f p.0 p.1
and_then None f = None

infixl 10 ◌>>=◌
abbrev pub ◌>>=◌ : {A B : Type 0} → Parser A → (A → Parser B) → Parser B
p >>= f = λ i. and_then (p i) f

infixl 10 ◌>>◌
abbrev pub ◌>>◌ : {A B : Type 0} → Parser A → Parser B → Parser B
p >> q = p >>= (λ _. q)

abbrev pub pure : {A : Type 0} → A → Parser A
pure a = λ i. Some (a, i)

abbrev pub refuse : {A : Type 0} → Parser A
refuse = λ i. None

-- how many turns a loop may take that takes a token in each but the last
unfoldable pub left : Input → ℕ
left i = length i.tokens.list - i.at

abbrev pub turns : Input → ℕ
turns i = left i + 1

-- ---- punctuators and keywords

unfoldable pub same_mark : AMark → AMark → Bool
same_mark = sameb mark_type

unfoldable pub same_word : AWord → AWord → Bool
same_word = sameb word_type

abbrev pub is_mark : AMark → Option TokenKind → Bool
is_mark mark (Some (token.Punct found)) = same_mark found mark
is_mark mark _ = false

abbrev pub is_word : AWord → Option TokenKind → Bool
is_word word (Some (token.Keyword found)) = same_word found word
is_word word _ = false

unfoldable pub sees : AMark → Input → Bool
sees mark i = is_mark mark (kind i)

unfoldable pub sees_word : AWord → Input → Bool
sees_word word i = is_word word (kind i)

unfoldable pub after : AMark → Input → Input
after mark i = if sees mark i then next i else i

unfoldable pub after_word : AWord → Input → Input
after_word word i = if sees_word word i then next i else i

abbrev pub take_token : Parser (Unit {0})
take_token = λ i. Some (tt, next i)

-- takes the punctuator, if it comes next
abbrev pub eat : AMark → Parser Bool
eat mark = λ i. Some (sees mark i, after mark i)

abbrev pub eat_word : AWord → Parser Bool
eat_word word = λ i. Some (sees_word word i, after_word word i)

unfoldable pub expect : AMark → Parser (Unit {0})
expect mark = λ i. if sees mark i then Some (tt, next i) else None

unfoldable pub expect_word : AWord → Parser (Unit {0})
expect_word word = λ i. if sees_word word i then Some (tt, next i) else None

abbrev pub mark_of : Option TokenKind → Option AMark
mark_of (Some (token.Punct found)) = Some found
mark_of _ = None

abbrev pub word_of : Option TokenKind → Option AWord
word_of (Some (token.Keyword found)) = Some found
word_of _ = None

-- ---- names, by their numbers

abbrev pub identifier_by : Option TokenKind → Parser ℕ
identifier_by (Some token.Name) = λ i. Some (i.at, next i)
identifier_by _ = refuse

unfoldable pub identifier : Parser ℕ
identifier = λ i. identifier_by (kind i) i

abbrev pub maybe_identifier_by : Option TokenKind → Parser (Option ℕ)
maybe_identifier_by (Some token.Name) = λ i. Some (Some i.at, next i)
maybe_identifier_by _ = pure None

unfoldable pub maybe_identifier : Parser (Option ℕ)
maybe_identifier = λ i. maybe_identifier_by (kind i) i

-- ---- adjacent string literals (6.4.5p5): how many; at least one

abbrev pub is_string : Option TokenKind → Bool
is_string (Some token.StringLit) = true
is_string _ = false

unfoldable pub strings_from : ℕ → ℕ → Parser ℕ
strings_from zero count = pure count
strings_from (suc n) count = λ i. (if is_string (kind i) then take_token >> strings_from n (count + 1) else pure count) i

abbrev pub some_strings : ℕ → Parser ℕ
some_strings count = if count == 0 then refuse else pure count

unfoldable pub strings : Parser ℕ
strings = λ i. (strings_from (turns i) 0 >>= some_strings) i

-- ---- keywords that are allowed here

abbrev pub allows : (AWord → Bool) → Option TokenKind → Bool
allows allowed (Some (token.Keyword word)) = allowed word
allows allowed _ = false

abbrev pub one_word : Option TokenKind → List AWord
one_word (Some (token.Keyword word)) = word ∷ []
one_word _ = []

unfoldable pub words_from : (AWord → Bool) → ℕ → List AWord → Parser (List AWord)
words_from allowed zero found = refuse
words_from allowed (suc n) found = λ i.
    (if allows allowed (kind i) then take_token >> words_from allowed n (found ++ one_word (kind i)) else pure found) i

abbrev pub words : (AWord → Bool) → Parser (List AWord)
words allowed = λ i. words_from allowed (turns i) [] i

-- ---- scopes

-- the name of a declarator is in scope from here on
abbrev pub declare : Bool → Option ℕ → Input → Input
declare typedef None i = i
declare typedef (Some n) i = declared n typedef i

abbrev pub declares : Bool → Option ℕ → Parser (Unit {0})
declares typedef name = λ i. Some (tt, declare typedef name i)

-- only what was declared in the outer scope is in scope again
abbrev pub closed_to : Input → Input → Input
closed_to outer i = record i { names = take (length outer.names) i.names }

abbrev pub scoped_in : {A : Type 0} → Input → Outcome A → Outcome A
scoped_in outer (Some p) = Some (p.0, closed_to outer p.1)
scoped_in outer None = None

-- what is declared here ends with it (6.2.1p4)
abbrev pub scoped : {A : Type 0} → Parser A → Parser A
scoped p = λ i. scoped_in i (p i)

abbrev pub without_prototype : Input → Input
without_prototype i = record i { prototype = [] }

abbrev pub prototype_back : Input → Input → Input
prototype_back outer i = record i { prototype = outer.prototype }

abbrev pub with_prototype_of : {A : Type 0} → Input → Outcome A → Outcome A
with_prototype_of outer (Some p) = Some (p.0, prototype_back outer p.1)
with_prototype_of outer None = None

-- what is kept of parameters in here is none of what stands round it
abbrev pub apart : {A : Type 0} → Parser A → Parser A
apart p = λ i. with_prototype_of i (p (without_prototype i))

abbrev pub parameters_left : Bool → Input → Input → Input
parameters_left own outer i = record i {
  names = take (length outer.names) i.names;
  prototype = if own then drop (length outer.names) i.names else outer.prototype;
}

abbrev pub prototype_in : {A : Type 0} → Bool → Input → Outcome A → Outcome A
prototype_in own outer (Some p) = Some (p.0, parameters_left own outer p.1)
prototype_in own outer None = None

-- parameters: what they declare ends with them, and is kept where the declarator is that of the function's own name
abbrev pub prototype : {A : Type 0} → Bool → Parser A → Parser A
prototype own p = λ i. prototype_in own i (p (without_prototype i))

abbrev pub with_parameters : Input → Input
with_parameters i = record i { names = i.names ++ i.prototype }

-- a function's body, in which the parameters are in scope
abbrev pub in_prototype : {A : Type 0} → Parser A → Parser A
in_prototype p = λ i. scoped_in i (p (with_parameters i))
