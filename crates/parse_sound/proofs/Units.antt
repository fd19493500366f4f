-- What is read as a translation unit is spelled.
use Rattle.std.proofs.Common.{◌≡◌, ℕ, zero, suc, Bool, true, List, [], ◌∷◌, ◌++◌, Option, Some, None, refl, sym, ap, subst, append-nil}
use Rattle.c_lex.specs.TokenText.{TokenText}
use Rattle.c_lex.specs.declared.token.TokenKind.{TokenKind}
use Rattle.c_lex.specs.declared.token.TokenKind.TheVariants as token
use Rattle.c_lex.specs.declared.token.Word.TheVariants as w
use Rattle.c_lex.specs.declared.token.Mark.TheVariants as m
use Rattle.c_ast.specs.declared.declaration.Declarator.{Declarator}
use Rattle.c_ast.specs.declared.declaration.Designator.{Designator}
use Rattle.c_ast.specs.declared.declaration.Designator.TheVariants.{Member, Element}
use Rattle.c_ast.specs.declared.declaration.Init.{Init}
use Rattle.c_ast.specs.declared.declaration.Init.TheBlock.{Single, Braced', Row_of-InitEntry, end_of-InitEntry, more_of-InitEntry}
use Rattle.c_ast.specs.declared.declaration.Part.{Part}
use Rattle.c_ast.specs.declared.declaration.Specs.{Specs}
use Rattle.c_ast.specs.declared.expression.Expr.{Expr}
use Rattle.c_ast.specs.declared.statement.Entry.{Entry}
use Rattle.c_ast.specs.declared.statement.Unit.{Unit as TheUnit}
use Rattle.c_ast.specs.declared.statement.UnitEntry.{UnitEntry}
use Rattle.c_ast.specs.declared.statement.UnitEntry.TheVariants as unit
use Rattle.c_ast.specs.Input.{Input, kind, next, start_of}
use Rattle.c_grammar.specs.Operators as op
use Rattle.c_grammar.specs.Grammar.{
  Named,
  IsExpr,
  Spells,
  BaseRule,
  DeclaratorRule,
  level,
  name_of,
  AssertionRule,
  DesignatorRule,
  DesignatorList,
  Designation,
  InitRule,
  InitEntries,
  MoreInits,
  MaybeInit,
  PartRule,
  MoreParts,
  Parts,
  DeclarationSpecifiers,
  EntryRule,
  Body,
  UnitEntryRule,
  UnitEntries,
  SpellsUnit,
}
use Rattle.c_grammar.specs.Rules.{Rule, Mark, is_declaration_word, declares_typedef}
use Rattle.parse_spec.specs.Steps.{Outcome, turns, sees_word, with_parameters, without_prototype}
use Rattle.parse_spec.specs.Statements.{body}
use Rattle.parse_spec.specs.Units.{function_body, declared_as, declared, unit_entry, is_end, entries_from, whole_unit, read_of, tree_of}
use Rattle.parse_sound.specs.SoundLaws.{TreesSpell}
use Rattle.parse_sound.proofs.Declarations.{assertion_holds, declaration_specs_hold, DeclaredRule, named_declarator_holds, PartsEnd, more_parts_hold}
use Rattle.parse_sound.proofs.Holding.{Holds, holds, refused, bind_holds, weaken, if_holds, eat_holds, Braced, body_holds}
use Rattle.parse_sound.proofs.Rows.{Every, Extends, pushed}
use Rattle.parse_sound.proofs.Slides.{
  Kept,
  keeping,
  Slides,
  nothing_slides,
  never_slides,
  mark_slides,
  word_slides,
  identifier_slides,
  maybe_mark_slides,
  message_slides,
  then_slides,
  operand_slides,
  declares_slides,
  declarator_operand_slides,
  specifiers_slide,
  spells_slides,
  base_slides,
  declarator_slides,
}
use Rattle.parse_spec.proofs.AddingUnits.{body_adds}
use Rattle.parse_sound.proofs.Statements.{function_body_holds}

-- ---- initializers and declarations, whatever parameters were kept before

expr_slides : (least : ℕ) (e : Expr) → Slides (IsExpr least e)
expr_slides least e = operand_slides least (level e.node) e.at (Spells e.node) (spells_slides e.node)

assertion_slides : (e : Expr) (message : ℕ) → Slides (AssertionRule e message)
assertion_slides e message = then_slides _ _ (word_slides w.StaticAssert)
    (then_slides _ _ (mark_slides m.OpenParen) (then_slides _ _ (expr_slides op.conditional e)
    (then_slides _ _ (mark_slides m.Comma) (then_slides _ _ (message_slides message) (then_slides _ _ (mark_slides m.CloseParen) (mark_slides m.Semicolon))))))

designator_slides : (d : Designator) → Slides (DesignatorRule d)
designator_slides (Member n) = then_slides _ _ (mark_slides m.Dot) (identifier_slides n)
designator_slides (Element e) = then_slides _ _ (mark_slides m.OpenBracket) (then_slides _ _ (expr_slides op.conditional e) (mark_slides m.CloseBracket))

designators_slide : (all : List Designator) → Slides (DesignatorList all)
designators_slide [] = nothing_slides
designators_slide (d ∷ rest) = then_slides _ _ (designator_slides d) (designators_slide rest)

designation_slides : (all : List Designator) → Slides (Designation all)
designation_slides [] = nothing_slides
designation_slides (d ∷ rest) = then_slides _ _ (designators_slide (d ∷ rest)) (mark_slides m.Equal)

brace_slides : (at : ℕ) → Slides (λ s t. (at ≡ s.at) × Mark m.OpenBrace s t)
brace_slides at = record { slides = λ i j h p. let more = (mark_slides m.OpenBrace).slides i j h.1 p in (more.0, (h.0, more.1)) }

mutual
  init_slides : (a : Init) → Slides (InitRule a)
  init_slides (Single e) = expr_slides op.assignment e
  init_slides (Braced' at p entries) = then_slides _ _ (brace_slides at) (then_slides _ _ (inits_slide entries)
      (then_slides _ _ (maybe_mark_slides m.Comma) (mark_slides m.CloseBrace)))

  inits_slide : {n : _} (row : Row_of-InitEntry n) → Slides (InitEntries row)
  inits_slide end_of-InitEntry = never_slides
  inits_slide (more_of-InitEntry designators i rest) = then_slides _ _ (designation_slides designators)
      (then_slides _ _ (init_slides i) (more_inits_slide rest))

  more_inits_slide : {n : _} (row : Row_of-InitEntry n) → Slides (MoreInits row)
  more_inits_slide end_of-InitEntry = nothing_slides
  more_inits_slide (more_of-InitEntry designators i rest) = then_slides _ _ (mark_slides m.Comma)
      (then_slides _ _ (designation_slides designators) (then_slides _ _ (init_slides i) (more_inits_slide rest)))

maybe_init_slides : (a : Option Init) → Slides (MaybeInit a)
maybe_init_slides None = nothing_slides
maybe_init_slides (Some a) = then_slides _ _ (mark_slides m.Equal) (init_slides a)

part_slides : (typedef : Bool) (p : Part) → Slides (PartRule typedef p)
part_slides typedef p = then_slides _ _ (declarator_operand_slides Named 0 p.declarator (DeclaratorRule p.declarator Named)
    (declarator_slides p.declarator Named))
    (then_slides _ _ (declares_slides typedef (name_of p.declarator)) (maybe_init_slides p.init))

more_parts_slide : (typedef : Bool) (all : List Part) → Slides (MoreParts typedef all)
more_parts_slide typedef [] = nothing_slides
more_parts_slide typedef (p ∷ rest) = then_slides _ _ (mark_slides m.Comma) (then_slides _ _ (part_slides typedef p) (more_parts_slide typedef rest))

parts_slide : (typedef : Bool) (all : List Part) → Slides (Parts typedef all)
parts_slide typedef [] = nothing_slides
parts_slide typedef (p ∷ rest) = then_slides _ _ (part_slides typedef p) (more_parts_slide typedef rest)

parts_end_slides : (typedef : Bool) (all : List Part) → Slides (PartsEnd typedef all)
parts_end_slides typedef all = then_slides _ _ (parts_slide typedef all) (mark_slides m.Semicolon)

declaration_specs_slide : (s : Specs) → Slides (DeclarationSpecifiers s)
declaration_specs_slide s = specifiers_slide is_declaration_word s.base (BaseRule s.base) s.words (λ typed. base_slides s.base typed)

-- ---- external declarations

-- whatever parameters were kept before
abbrev AnyKept : UnitEntry → Rule
AnyKept a i j = (p : Kept) → (q : Kept) × UnitEntryRule a (keeping i p) (keeping j q)

body_of : (all : List Entry) (i j : Input) → Every EntryRule all i j → Body all i j
body_of [] i j h = h
body_of (a ∷ rest) i j (x, (h, more)) = (x, (h, body_of rest x j more))

function_body_is : (i : Input) → Holds (λ all j. Braced (Every EntryRule all) (with_parameters i) i j) (function_body i)
function_body_is i = body_holds (Every EntryRule) body i body_adds (function_body_holds (with_parameters i))

function_kept : (s : Specs) (d : Declarator) (all : List Entry) (i x y j : Input) → DeclarationSpecifiers s i x
    → DeclaredRule (declares_typedef s.words) d (without_prototype x) y → kind y ≡ Some (token.Punct m.OpenBrace)
    → Braced (Every EntryRule all) (with_parameters (next y)) (next y) j → AnyKept (unit.Function s d all) i j
function_kept s d all i x y j h (z, (g, n)) is (v, ((u, (b, same)), c)) p =
    let first = (declaration_specs_slide s).slides i x h p in (
      j.prototype,
      (
        keeping x first.0,
        (
          first.1,
          (
            without_prototype x,
            (
              refl,
              (
                z,
                (
                  g,
                  (
                    y,
                    (
                      n,
                      (
                        next y,
                        (
                          (is, refl),
                          (v, ((u, (body_of all (with_parameters (next y)) u b, same)), c)),
                        ),
                      ),
                    ),
                  ),
                ),
              ),
            ),
          ),
        ),
      ),
    )

-- the parameters that were kept are forgotten before the first declarator
declaration_kept : (s : Specs) (all : List Part) (i x j : Input) → DeclarationSpecifiers s i x →
    PartsEnd (declares_typedef s.words) all (without_prototype x) j
    → AnyKept (unit.Declaration (record { specs = s; parts = all })) i j
declaration_kept s all i x j h g p =
    let first = (declaration_specs_slide s).slides i x h p in
    let rest = (parts_end_slides (declares_typedef s.words) all).slides (without_prototype x) j g first.0 in
    (rest.0, (keeping x first.0, (first.1, rest.1)))

declared_as_holds : (s : Specs) (i x : Input) → DeclarationSpecifiers s i x → Holds (λ a j. AnyKept a i j) (declared_as s x)
unfolding declared_as
declared_as_holds s i x h = bind_holds _ _ (named_declarator_holds (declares_typedef s.words) (without_prototype x)) (λ d y g. eat_holds m.OpenBrace _ _ y
    (λ is. bind_holds _ _ (function_body_is (next y)) (λ all j b. holds (function_kept s d all i x y j h g is b)))
    (λ none. bind_holds _ _ (more_parts_hold (declares_typedef s.words) (without_prototype x) y d g) (λ all j b. holds (declaration_kept s all i x j h b))))

declared_holds : (i : Input) → Holds (λ a j. AnyKept a i j) (declared i)
unfolding declared kind next
declared_holds i = bind_holds _ _ (declaration_specs_hold i) (λ s x h. eat_holds m.Semicolon _ _ x
    (λ is. holds (declaration_kept s [] i x (without_prototype (next x)) h (without_prototype x, (refl, (is, refl)))))
    (λ none. declared_as_holds s i x h))

unit_entry_holds : (i : Input) → Holds (λ a j. AnyKept a i j) (unit_entry i)
unfolding unit_entry
unit_entry_holds i = eat_holds m.Semicolon _ _ i
    (λ is. holds ((mark_slides m.Semicolon).slides i (next i) (is, refl)))
    (λ none. if_holds (sees_word w.StaticAssert i) _ _ i
    (λ e. bind_holds _ _ (assertion_holds i) (λ p j h. holds ((assertion_slides p.0 p.1).slides i j h)))
    (λ e. declared_holds i))

-- ---- whole units

is_end_none : (k : Option TokenKind) → is_end k ≡ true → k ≡ None
is_end_none None e = refl
is_end_none (Some found) e = absurd (cc)

abbrev EndsUnit : List UnitEntry → Rule
EndsUnit all i j = Every AnyKept all i j × (kind j ≡ None)

one_entry_more : (found : List UnitEntry) (a : UnitEntry) (i j : Input) → AnyKept a i j → (all : List UnitEntry) (k : Input)
    → Extends (found ++ a ∷ []) EndsUnit j all k → Extends found EndsUnit i all k
one_entry_more found a i j h all k (more, (same, (g, end))) = (a ∷ more, (pushed found a more all same, ((j, (h, g)), end)))

entries_from_holds : (n : ℕ) (found : List UnitEntry) (i : Input) → Holds (λ u j. Extends found EndsUnit i u.entries j) (entries_from n found i)
unfolding entries_from
entries_from_holds zero found i = refused
entries_from_holds (suc n) found i = if_holds (is_end (kind i)) _ _ i
    (λ e. holds ([], (sym (append-nil found), (refl, is_end_none (kind i) e))))
    (λ e. bind_holds _ _ (unit_entry_holds i) (λ a j h. weaken _ (entries_from_holds n (found ++ a ∷ []) j) (λ u k g.
    one_entry_more found a i j h u.entries k g)))

whole_unit_holds : (i : Input) → Holds (λ u j. EndsUnit u.entries i j) (whole_unit i)
unfolding whole_unit
whole_unit_holds i = weaken _ (entries_from_holds (turns i) [] i) (λ u j h. subst (λ l. EndsUnit l i j) (sym h.1.0) h.1.1)

all_entries : (all : List UnitEntry) (i j : Input) (p : Kept) → Every AnyKept all i j → (q : Kept) × UnitEntries all (keeping i p) (keeping j q)
all_entries [] i j p h = (p, ap (λ s. keeping s p) h)
all_entries (a ∷ rest) i j p (x, (h, more)) =
    let first = h p in
    let others = all_entries rest x j first.0 more in
    (others.0, (keeping x first.0, (first.1, others.1)))

spelled : (tokens : TokenText) (u : TheUnit) (j : Input) → EndsUnit u.entries (start_of tokens) j → SpellsUnit u tokens
unfolding kind
spelled tokens u j h = let all = all_entries u.entries (start_of tokens) j [] h.0 in (keeping j all.0, (all.1, h.1))

abbrev MaybeSpells : TokenText → Option TheUnit → Type 0
MaybeSpells tokens None = Unit {0}
MaybeSpells tokens (Some u) = SpellsUnit u tokens

read_spells : (tokens : TokenText) (o : Outcome TheUnit) → Holds (λ u j. EndsUnit u.entries (start_of tokens) j) o → MaybeSpells tokens (read_of o)
read_spells tokens None h = tt
read_spells tokens (Some p) h = spelled tokens p.0 p.1 h.held

pub trees_spell : TreesSpell
unfolding tree_of
trees_spell tokens u e = subst (MaybeSpells tokens) e (read_spells tokens (whole_unit (start_of tokens)) (whole_unit_holds (start_of tokens)))
