-- What single tokens begin.
use Rattle.std.specs.Prelude.{Bool, true, false, ◌||◌, Option, Some}
use Rattle.c_lex.specs.declared.token.TokenKind.{TokenKind}
use Rattle.c_lex.specs.declared.token.TokenKind.TheVariants as token
use Rattle.c_lex.specs.declared.token.Word.{Word as AWord}
use Rattle.c_lex.specs.declared.token.Word.TheVariants as w
use Rattle.c_lex.specs.declared.token.Mark.TheVariants as m
use Rattle.c_ast.specs.Input.{Input, kind, next, is_typedef}
use Rattle.c_grammar.specs.Grammar.{Mode, Named}
use Rattle.c_grammar.specs.Rules.{is_declaration_word, is_qualified_word}

-- a keyword that begins a specifier of a structure, a union or an enumeration
abbrev pub is_tag_word : AWord → Bool
is_tag_word w.Struct = true
is_tag_word w.Union = true
is_tag_word w.Enum = true
is_tag_word _ = false

-- a token begins specifiers, of which these keywords are; `typedef` says that a name would be a typedef name
abbrev pub begins_by : (AWord → Bool) → Bool → Option TokenKind → Bool
begins_by allowed typedef (Some (token.Keyword word)) = allowed word || is_tag_word word
begins_by allowed typedef (Some token.Name) = typedef
begins_by allowed typedef _ = false

abbrev pub begins : (AWord → Bool) → Input → Bool
begins allowed i = begins_by allowed (is_typedef i) (kind i)

-- the specifiers of a declaration begin here
abbrev pub begins_declaration : Input → Bool
begins_declaration i = begins is_declaration_word i

-- a type name begins behind the next token
abbrev pub begins_type_after : Input → Bool
begins_type_after i = begins is_qualified_word (next i)

-- behind a parenthesis, where a declarator may have no name: parameters come (6.7.6.3p11)
abbrev pub opens_by : Bool → Option TokenKind → Bool
opens_by typedef (Some (token.Punct m.CloseParen)) = true
opens_by typedef found = begins_by is_declaration_word typedef found

abbrev pub opens_parameters : Mode → Input → Bool
opens_parameters Named i = false
opens_parameters _ i = opens_by (is_typedef (next i)) (kind (next i))

abbrev pub opens_suffix : Option TokenKind → Bool
opens_suffix (Some (token.Punct m.OpenBracket)) = true
opens_suffix (Some (token.Punct m.OpenParen)) = true
opens_suffix _ = false

abbrev pub opens_designator : Option TokenKind → Bool
opens_designator (Some (token.Punct m.Dot)) = true
opens_designator (Some (token.Punct m.OpenBracket)) = true
opens_designator _ = false

-- a name and a colon are a label
abbrev pub is_label_by : Option TokenKind → Option TokenKind → Bool
is_label_by (Some token.Name) (Some (token.Punct m.Colon)) = true
is_label_by _ _ = false

abbrev pub is_label : Input → Bool
is_label i = is_label_by (kind i) (kind (next i))
