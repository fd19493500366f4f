-- What is kept of parameters, over what is read behind them.
use Rattle.std.proofs.Common.{◌≡◌, ℕ, zero, suc, false, true, List, [], ◌∷◌, ◌++◌, Ok, Err, sym, ap, subst, ◌∙◌}
use Rattle.std.specs.Prelude.{Result, All}
use Rattle.c_lex.specs.declared.token.Mark.TheVariants as m
use Rattle.c_ast.specs.declared.declaration.Param.{Param}
use Rattle.c_ast.specs.Input.{Input}
use Rattle.c_grammar.specs.Grammar.{Either, name_of}
use Rattle.c_grammar.specs.Rules.{is_declaration_word}
use Rattle.parse_spec.specs.Declarators.{no_parameters, one_parameter, parameters_from, parameters}
use Rattle.parse_spec.specs.Nested.{expr, declarator, specs}
use Rattle.parse_spec.specs.Scopes.{OnlyAdds}
use Rattle.parse_spec.specs.Steps.{Parser, turns, sees}
use Rattle.parse_spec.proofs.Adding.{pure_adds, refuse_adds, bind_adds, then_adds, if_adds, here_adds, eat_adds, declares_adds}
use Rattle.parse_spec.proofs.AddingRules.{declarator_adds, specs_adds}
use Rattle.parse_cursor.specs.Declarations.{IsWithin, with_prototype}
use Rattle.parse_cursor.specs.Reads.{Reads}
use Rattle.parse_cursor.specs.declared.refusal.Refusal.{Refusal}
use Rattle.parse_cursor.specs.declared.scope.Declared.{Declared}

tokens_stay : {A : Type 0} (p : Parser A) (i j : Input) (r : Result A Refusal) (a : A) → OnlyAdds p → Reads (p i) r j → r ≡ Ok a → j.tokens ≡ i.tokens
tokens_stay p i j (Ok b) a g h is = (g.adds i j b h).tokens
tokens_stay p i j (Err e) a g h is = absurd (cc)

-- they are tokens of what is read
pub still_within : {A : Type 0} (p : Parser A) (o i j : Input) (r : Result A Refusal) (a : A) (kept : List Declared) → OnlyAdds p → i ≡ with_prototype [] o
    → Reads (p i) r j → r ≡ Ok a → All (IsWithin o.tokens) kept → All (IsWithin j.tokens) kept
still_within p o i j r a kept g none h is all =
    subst (λ t. All (IsWithin t) kept) (sym (tokens_stay p i j r a g h is ∙ ap (λ k. k.tokens) none)) all
