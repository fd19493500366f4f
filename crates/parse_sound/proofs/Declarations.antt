-- What is read as a declaration is spelled.
use Rattle.std.proofs.Common.{ℕ, zero, suc, Bool, List, [], ◌∷◌, ◌++◌, refl, sym, subst, append-nil}
use Rattle.c_lex.specs.declared.token.Mark.TheVariants as m
use Rattle.c_ast.specs.declared.declaration.Declarator.{Declarator}
use Rattle.c_ast.specs.declared.declaration.Part.{Part}
use Rattle.c_ast.specs.Input.{Input, next}
use Rattle.c_grammar.specs.Grammar.{Named, AssertionRule, MaybeInit, PartRule, MoreParts, Parts, DeclarationSpecifiers, DeclarationRule, name_of}
use Rattle.c_grammar.specs.Rules.{Rule, ◌⨾◌, Mark, Declares, is_declaration_word, declares_typedef}
use Rattle.parse_spec.specs.Nested.{expr, declarator, specs}
use Rattle.parse_spec.specs.Steps.{turns}
use Rattle.parse_spec.specs.Declarations.{
  assertion,
  declaration_specs,
  named_declarator,
  maybe_init,
  part_of,
  parts_from,
  more_parts,
  maybe_parts,
  declaration,
}
use Rattle.parse_sound.proofs.Holding.{Holds, holds, refused, bind_holds, weaken, eat_holds, expect_holds, declares_is}
use Rattle.parse_sound.proofs.Initializers.{initializer_holds}
use Rattle.parse_sound.proofs.Nested.{expr_holds, declarator_holds, specs_hold}
use Rattle.parse_sound.proofs.Rows.{Extends, pushed, NamedRule}
use Rattle.parse_sound.proofs.Specifiers.{assertion_holds as any_assertion_holds}

pub assertion_holds : (i : Input) → Holds (λ p j. AssertionRule p.0 p.1 i j) (assertion i)
unfolding assertion
assertion_holds i = any_assertion_holds (expr (turns i)) (declarator (turns i)) (specs (turns i)) (expr_holds (turns i)) (declarator_holds (turns i))
    (specs_hold (turns i)) i

pub declaration_specs_hold : (i : Input) → Holds (λ s j. DeclarationSpecifiers s i j) (declaration_specs i)
unfolding declaration_specs
declaration_specs_hold i = specs_hold (turns i) is_declaration_word i

-- a declarator whose name is in scope behind it
abbrev pub DeclaredRule : Bool → Declarator → Rule
DeclaredRule typedef d = NamedRule d ⨾ Declares typedef (name_of d)

pub named_declarator_holds : (typedef : Bool) (i : Input) → Holds (λ d j. DeclaredRule typedef d i j) (named_declarator typedef i)
unfolding named_declarator
named_declarator_holds typedef i = bind_holds _ _ (declarator_holds (turns i) Named i) (λ d j h. holds (j, (h, declares_is typedef (name_of d) j)))

maybe_init_holds : (i : Input) → Holds (λ a j. MaybeInit a i j) (maybe_init i)
unfolding maybe_init
maybe_init_holds i = eat_holds m.Equal _ _ i
    (λ is. bind_holds _ _ (initializer_holds (turns (next i)) (next i)) (λ a j h. holds (next i, ((is, refl), h))))
    (λ none. holds refl)

part_holds : (typedef : Bool) (s i : Input) (d : Declarator) → DeclaredRule typedef d s i → Holds (λ p j. PartRule typedef p s j) (part_of d i)
unfolding part_of
part_holds typedef s i d (x, (h, n)) = bind_holds _ _ (maybe_init_holds i) (λ a j g. holds (x, (h, (i, (n, g)))))

abbrev MorePartsEnd : Bool → List Part → Rule
MorePartsEnd typedef more = MoreParts typedef more ⨾ Mark m.Semicolon

one_more : (typedef : Bool) (found : List Part) (p : Part) (i j k : Input) (all : List Part) → Mark m.Comma i j → (x : Input) → PartRule typedef p j x
    → Extends (found ++ p ∷ []) (MorePartsEnd typedef) x all k → Extends found (MorePartsEnd typedef) i all k
one_more typedef found p i j k all c x h (more, (same, (y, (g, l)))) = (p ∷ more, (pushed found p more all same, (y, ((j, (c, (x, (h, g)))), l))))

parts_from_holds : (typedef : Bool) (n : ℕ) (found : List Part) (i : Input) → Holds (Extends found (MorePartsEnd typedef) i) (parts_from typedef n found i)
unfolding parts_from
parts_from_holds typedef zero found i = refused
parts_from_holds typedef (suc n) found i = eat_holds m.Comma _ _ i
    (λ is. bind_holds _ _ (named_declarator_holds typedef (next i)) (λ d x h. bind_holds _ _ (part_holds typedef (next i) x d h) (λ p y g.
    weaken _ (parts_from_holds typedef n (found ++ p ∷ []) y) (λ all k l. one_more typedef found p i (next i) k all (is, refl) y g l))))
    (λ none. bind_holds _ _ (expect_holds m.Semicolon i) (λ _ k c. holds ([], (sym (append-nil found), (i, (refl, c))))))

-- the parts of a declaration and its semicolon
abbrev pub PartsEnd : Bool → List Part → Rule
PartsEnd typedef all = Parts typedef all ⨾ Mark m.Semicolon

all_parts : (typedef : Bool) (p : Part) (s i j : Input) (all : List Part) → PartRule typedef p s i → Extends (p ∷ []) (MorePartsEnd typedef) i all j
    → PartsEnd typedef all s j
all_parts typedef p s i j all h (more, (same, (y, (g, l)))) = subst (λ a. PartsEnd typedef a s j) (sym same) (y, ((i, (h, g)), l))

pub more_parts_hold : (typedef : Bool) (s i : Input) (first : Declarator) → DeclaredRule typedef first s i
    → Holds (λ all j. PartsEnd typedef all s j) (more_parts typedef first i)
unfolding more_parts
more_parts_hold typedef s i first h = bind_holds _ _ (part_holds typedef s i first h) (λ p x g.
    weaken _ (parts_from_holds typedef (turns x) (p ∷ []) x) (λ all j l. all_parts typedef p s x j all g l))

maybe_parts_hold : (typedef : Bool) (i : Input) → Holds (λ all j. PartsEnd typedef all i j) (maybe_parts typedef i)
unfolding maybe_parts
maybe_parts_hold typedef i = eat_holds m.Semicolon _ _ i
    (λ is. holds (i, (refl, (is, refl))))
    (λ none. bind_holds _ _ (named_declarator_holds typedef i) (λ first j h. more_parts_hold typedef i j first h))

pub declaration_holds : (i : Input) → Holds (λ d j. DeclarationRule d i j) (declaration i)
unfolding declaration
declaration_holds i = bind_holds _ _ (declaration_specs_hold i) (λ s j h. bind_holds _ _ (maybe_parts_hold (declares_typedef s.words) j) (λ all k g.
    holds (j, (h, g))))
