-- Initializers and declarations: each number in one is that of a token of its kind.
use Rattle.std.proofs.Common.{ℕ, zero, suc, Bool, List, [], ◌∷◌, ◌++◌, All, Some, None}
use Rattle.std.proofs.lemmas.List.Elements.{All-nil, All-cons, All-push}
use Rattle.c_lex.specs.TokenText.{TokenText}
use Rattle.c_lex.specs.declared.token.Mark.TheVariants as m
use Rattle.c_ast.specs.declared.declaration.Declarator.{Declarator}
use Rattle.c_ast.specs.declared.declaration.Designator.{Designator}
use Rattle.c_ast.specs.declared.declaration.Designator.TheVariants as designator
use Rattle.c_ast.specs.declared.declaration.Init.{Init}
use Rattle.c_ast.specs.declared.declaration.Init.TheVariants as init
use Rattle.c_ast.specs.declared.declaration.InitEntry.{InitEntry}
use Rattle.c_ast.specs.declared.declaration.Part.{Part}
use Rattle.c_ast.specs.Input.{kind}
use Rattle.c_ast.specs.Names.{DeclaratorNames, SpecsName, DesignatorNames, InitNames, InitEntryNames, MaybeInitNames, PartNames, DeclarationNames}
use Rattle.c_ast.proofs.Trees.{braced_names}
use Rattle.c_grammar.specs.Operators as op
use Rattle.c_grammar.specs.Grammar.{Named, name_of}
use Rattle.c_grammar.specs.Rules.{is_declaration_word, declares_typedef}
use Rattle.parse_spec.specs.Steps.{Parser, turns}
use Rattle.parse_spec.specs.Places.{opens_designator}
use Rattle.parse_spec.specs.Nested.{expr, declarator, specs}
use Rattle.parse_spec.specs.Initializers.{
  one_designator,
  designators_from,
  no_designators,
  designation,
  entry_of,
  entries_from,
  initializer_at,
  one_initializer,
  initializer,
}
use Rattle.parse_spec.specs.Declarations.{
  assertion,
  declaration_specs,
  named_declarator,
  maybe_init,
  part_of,
  parts_from,
  more_parts,
  maybe_parts,
  declaration,
}
use Rattle.parse_spec.proofs.Adding.{eat_adds, expect_adds, declares_adds}
use Rattle.parse_names.proofs.Declarators.{expr_reads, declarator_reads, specs_reads}
use Rattle.parse_names.proofs.Reading.{Reads, pure_reads, refuse_reads, bind_reads, skip_reads, then_reads, if_reads, here_reads}
use Rattle.parse_names.proofs.Specifiers.{AssertionNames, assertion_reads as any_assertion_reads}
use Rattle.parse_names.proofs.Tokens.{identifier_reads}

module _ (t : TokenText) where
  -- ---- initializers

  one_designator_reads : Reads t (DesignatorNames t) one_designator
  unfolding one_designator
  one_designator_reads = skip_reads _ _ (eat_adds m.Dot) (λ dot. if_reads dot _ _
      (bind_reads _ _ (identifier_reads t) (λ n h. pure_reads (designator.Member n) h))
      (then_reads _ _ (expect_adds m.OpenBracket) (bind_reads _ _ (here_reads _ (λ i. expr_reads t (turns i) op.conditional)) (λ e h.
      then_reads _ _ (expect_adds m.CloseBracket) (pure_reads (designator.Element e) h)))))

  designators_from_reads : (n : ℕ) (found : List Designator) → All (DesignatorNames t) found → Reads t (All (DesignatorNames t)) (designators_from n found)
  unfolding designators_from
  designators_from_reads zero found all = refuse_reads
  designators_from_reads (suc n) found all = bind_reads _ _ one_designator_reads (λ d h.
      let more = All-push (DesignatorNames t) found d all h in
      here_reads _ (λ i. if_reads (opens_designator (kind i)) _ _ (designators_from_reads n (found ++ d ∷ []) more)
      (then_reads _ _ (expect_adds m.Equal) (pure_reads (found ++ d ∷ []) more))))

  designation_reads : Reads t (All (DesignatorNames t)) designation
  unfolding designation
  designation_reads = here_reads _ (λ i. if_reads (opens_designator (kind i)) _ _ (designators_from_reads (turns i) [] (All-nil (DesignatorNames t)))
      (pure_reads no_designators (All-nil (DesignatorNames t))))

  module _ (inner : Parser Init) (gi : Reads t (InitNames t) inner) where
    entries_from_reads : (n : ℕ) (found : List InitEntry) → All (InitEntryNames t) found → Reads t (All (InitEntryNames t)) (entries_from inner n found)
    unfolding entries_from
    entries_from_reads zero found all = refuse_reads
    entries_from_reads (suc n) found all = bind_reads _ _ designation_reads (λ ds h. bind_reads _ _ gi (λ i k.
        let more = All-push (InitEntryNames t) found (entry_of ds i) all (h, k) in
        skip_reads _ _ (eat_adds m.Comma) (λ comma. if_reads comma _ _
        (skip_reads _ _ (eat_adds m.CloseBrace) (λ done. if_reads done _ _ (pure_reads (found ++ entry_of ds i ∷ []) more)
        (entries_from_reads n (found ++ entry_of ds i ∷ []) more)))
        (then_reads _ _ (expect_adds m.CloseBrace) (pure_reads (found ++ entry_of ds i ∷ []) more)))))

    initializer_at_reads : (at : ℕ) → Reads t (InitNames t) (initializer_at inner at)
    unfolding initializer_at
    initializer_at_reads at = skip_reads _ _ (eat_adds m.OpenBrace) (λ brace. if_reads brace _ _
        (bind_reads _ _ (here_reads _ (λ i. entries_from_reads (turns i) [] (All-nil (InitEntryNames t)))) (λ all h.
        pure_reads (init.Braced at all) (braced_names t at all h)))
        (bind_reads _ _ (here_reads _ (λ i. expr_reads t (turns i) op.assignment)) (λ e h. pure_reads (init.Single e) h)))

    one_initializer_reads : Reads t (InitNames t) (one_initializer inner)
    unfolding one_initializer
    one_initializer_reads = here_reads _ (λ i. initializer_at_reads i.at)

  pub initializer_reads : (depth : ℕ) → Reads t (InitNames t) (initializer depth)
  unfolding initializer
  initializer_reads zero = refuse_reads
  initializer_reads (suc depth) = one_initializer_reads (initializer depth) (initializer_reads depth)

  -- ---- declarations

  pub assertion_reads : Reads t (AssertionNames t) assertion
  unfolding assertion
  assertion_reads = here_reads _ (λ i. any_assertion_reads t (expr (turns i)) (declarator (turns i)) (specs (turns i))
      (expr_reads t (turns i)) (declarator_reads t (turns i)) (specs_reads t (turns i)))

  pub declaration_specs_reads : Reads t (SpecsName t) declaration_specs
  unfolding declaration_specs
  declaration_specs_reads = here_reads _ (λ i. specs_reads t (turns i) is_declaration_word)

  pub named_declarator_reads : (typedef : Bool) → Reads t (DeclaratorNames t) (named_declarator typedef)
  unfolding named_declarator
  named_declarator_reads typedef = bind_reads _ _ (here_reads _ (λ i. declarator_reads t (turns i) Named)) (λ d h.
      then_reads _ _ (declares_adds typedef (name_of d)) (pure_reads d h))

  maybe_init_reads : Reads t (MaybeInitNames t) maybe_init
  unfolding maybe_init
  maybe_init_reads = skip_reads _ _ (eat_adds m.Equal) (λ more. if_reads more _ _
      (bind_reads _ _ (here_reads _ (λ j. initializer_reads (turns j))) (λ i h. pure_reads (Some i) h)) (pure_reads None tt))

  part_of_reads : (d : Declarator) → DeclaratorNames t d → Reads t (PartNames t) (part_of d)
  unfolding part_of
  part_of_reads d h = bind_reads _ _ maybe_init_reads (λ i k. pure_reads _ (h, k))

  parts_from_reads : (typedef : Bool) (n : ℕ) (found : List Part) → All (PartNames t) found → Reads t (All (PartNames t)) (parts_from typedef n found)
  unfolding parts_from
  parts_from_reads typedef zero found all = refuse_reads
  parts_from_reads typedef (suc n) found all = skip_reads _ _ (eat_adds m.Comma) (λ more. if_reads more _ _
      (bind_reads _ _ (named_declarator_reads typedef) (λ d h. bind_reads _ _ (part_of_reads d h) (λ p k.
      parts_from_reads typedef n (found ++ p ∷ []) (All-push (PartNames t) found p all k))))
      (then_reads _ _ (expect_adds m.Semicolon) (pure_reads found all)))

  pub more_parts_reads : (typedef : Bool) (first : Declarator) → DeclaratorNames t first → Reads t (All (PartNames t)) (more_parts typedef first)
  unfolding more_parts
  more_parts_reads typedef first h = bind_reads _ _ (part_of_reads first h) (λ p k.
      here_reads _ (λ i. parts_from_reads typedef (turns i) (p ∷ []) (All-cons (PartNames t) p [] k (All-nil (PartNames t)))))

  maybe_parts_reads : (typedef : Bool) → Reads t (All (PartNames t)) (maybe_parts typedef)
  unfolding maybe_parts
  maybe_parts_reads typedef = skip_reads _ _ (eat_adds m.Semicolon) (λ none. if_reads none _ _ (pure_reads [] (All-nil (PartNames t)))
      (bind_reads _ _ (named_declarator_reads typedef) (λ first h. more_parts_reads typedef first h)))

  pub declaration_reads : Reads t (DeclarationNames t) declaration
  unfolding declaration
  declaration_reads = bind_reads _ _ declaration_specs_reads (λ s h. bind_reads _ _ (maybe_parts_reads (declares_typedef s.words)) (λ all k.
      pure_reads _ (h, k)))
