-- Derivations of the sentences.
use Rattle.std.proofs.Common.{◌≡◌, ℕ, List, [], ◌∷◌, Some, None, Bool, false, true, refl, sym, ap, ◌∙◌}
use Rattle.c_lex.specs.TokenText.{TokenText}
use Rattle.c_lex.specs.declared.token.TokenKind.{TokenKind}
use Rattle.c_lex.specs.declared.token.TokenKind.TheVariants as token
use Rattle.c_lex.specs.declared.token.Word.{Word as AWord}
use Rattle.c_lex.specs.declared.token.Word.TheVariants as w
use Rattle.c_lex.specs.declared.token.Mark.TheVariants as m
use Rattle.c_ast.specs.declared.declaration.Base.{Base}
use Rattle.c_ast.specs.declared.declaration.Base.TheBlock.{Plain, Tagged', Enumerated', Typedef}
use Rattle.c_ast.specs.declared.statement.Unit.{Unit as TheUnit}
use Rattle.c_ast.specs.declared.statement.UnitEntry.{UnitEntry}
use Rattle.c_ast.specs.declared.statement.UnitEntry.TheVariants as unit
use Rattle.c_ast.specs.Input.{Input, kind, next, declared, start_of}
use Rattle.c_grammar.specs.Rules.{is_declaration_word, has_type_word, Words}
use Rattle.c_grammar.specs.Grammar.{SpellsUnit, Specifiers, BaseRule, UnitEntryRule, UnitEntries, tag_word}
use Rattle.c_grammar.specs.Sentences.{Sentences, semicolon, empty_entry, int_x, declared_x, parenthesis}

empty_is : SpellsUnit (record { entries = [] }) (record { source = []; list = [] })
unfolding kind
empty_is = (start_of (record { source = []; list = [] }), (refl, refl))

semicolon_is : SpellsUnit empty_entry semicolon
unfolding kind next
semicolon_is = let s = start_of semicolon in let t = next s in (t, ((t, ((refl, refl), refl)), refl))

declared_is : SpellsUnit declared_x int_x
unfolding kind next declared
declared_is =
    let s = start_of int_x in
    let a = next s in
    let b = next a in
    let c = declared 1 false b in
    let d = next c in (
      d,
      (
        (
          d,
          (
            (
              a,
              (
                (a, ((a, ((refl, (refl, refl)), refl)), refl)),
                (c, ((c, ((b, ((0, (tt, (tt, (refl, (refl, refl))))), (c, (refl, refl)))), refl)), (refl, refl))),
              ),
            ),
            refl,
          ),
        ),
        refl,
      ),
    )

-- ---- no translation unit begins with `)`

is_closed : (k : TokenKind) (s : Input) → s ≡ start_of parenthesis → kind s ≡ Some k → Some (token.Punct m.CloseParen) ≡ Some k
unfolding kind
is_closed k s e h = sym (ap kind e) ∙ h

no_word : (a : AWord) (s : Input) → s ≡ start_of parenthesis → kind s ≡ Some (token.Keyword a) → ⊥
no_word a s e h = let wrong = is_closed (token.Keyword a) s e h in cc

no_name : (s : Input) → s ≡ start_of parenthesis → kind s ≡ Some token.Name → ⊥
no_name s e h = let wrong = is_closed token.Name s e h in cc

no_semicolon : (s : Input) → s ≡ start_of parenthesis → kind s ≡ Some (token.Punct m.Semicolon) → ⊥
no_semicolon s e h = let wrong = is_closed (token.Punct m.Semicolon) s e h in cc

no_words : (allowed : AWord → Bool) (before : List AWord) (t : Input) → Words allowed before (start_of parenthesis) t → t ≡ start_of parenthesis
no_words allowed [] t h = h
no_words allowed (a ∷ rest) t h = absurd (no_word a (start_of parenthesis) refl h.1.0.1.0)

no_base : (b : Base) (typed : Bool) (s t : Input) → s ≡ start_of parenthesis → (b ≡ Plain → ⊥) → BaseRule b typed s t → ⊥
no_base Plain typed s t e other h = other refl
no_base (Typedef n) true s t e other h = h
no_base (Typedef n) false s t e other h = no_name s e h.1.1.0
no_base (Tagged' union tag members) typed s t e other h = no_word (tag_word union) s e h.1.0.0
no_base (Enumerated' tag all) typed s t e other h = no_word w.Enum s e h.1.0.0

no_specs : (allowed : AWord → Bool) (b : Base) (words : List AWord) (t : Input) → Specifiers allowed b (BaseRule b) words (start_of parenthesis) t → ⊥
no_specs allowed Plain [] t h = h
no_specs allowed Plain (a ∷ rest) t h = no_word a (start_of parenthesis) refl h.1.0.1.0.1.0
no_specs allowed (Typedef n) words t h =
    no_base (Typedef n) (has_type_word h.0) h.1.1.1.0 h.1.1.1.1.1.0 (no_words allowed h.0 h.1.1.1.0 h.1.1.1.1.0) (λ e. cc) h.1.1.1.1.1.1.0
no_specs allowed (Tagged' union tag members) words t h =
    no_base (Tagged' union tag members) (has_type_word h.0) h.1.1.1.0 h.1.1.1.1.1.0 (no_words allowed h.0 h.1.1.1.0 h.1.1.1.1.0) (λ e. cc) h.1.1.1.1.1.1.0
no_specs allowed (Enumerated' tag all) words t h =
    no_base (Enumerated' tag all) (has_type_word h.0) h.1.1.1.0 h.1.1.1.1.1.0 (no_words allowed h.0 h.1.1.1.0 h.1.1.1.1.0) (λ e. cc) h.1.1.1.1.1.1.0

no_entry : (a : UnitEntry) (t : Input) → UnitEntryRule a (start_of parenthesis) t → ⊥
no_entry (unit.Function specs d body) t h = no_specs is_declaration_word specs.base specs.words h.0 h.1.0
no_entry (unit.Declaration d) t h = no_specs is_declaration_word d.specs.base d.specs.words h.0 h.1.0
no_entry (unit.Assertion e message) t h = no_word w.StaticAssert (start_of parenthesis) refl h.1.0.0
no_entry unit.Empty t h = no_semicolon (start_of parenthesis) refl h.0

no_entries : (all : List UnitEntry) (t : Input) → UnitEntries all (start_of parenthesis) t → kind t ≡ None → ⊥
unfolding kind
no_entries [] t h end = let wrong : Some (token.Punct m.CloseParen) ≡ None = sym (ap kind h) ∙ end in cc
no_entries (a ∷ rest) t h end = no_entry a h.0 h.1.0

pub sentences : Sentences
sentences = record {
  empty_file = empty_is;
  lone_semicolon = semicolon_is;
  declaration = declared_is;
  no_parenthesis = λ u h. no_entries u.entries h.0 h.1.0 h.1.1;
}
