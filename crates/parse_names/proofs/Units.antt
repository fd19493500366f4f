-- Translation units: each number in one is that of a token of its kind.
use Rattle.std.proofs.Common.{ℕ, zero, suc, List, [], ◌∷◌, ◌++◌, All, Option, Some, None, refl, subst}
use Rattle.std.proofs.lemmas.List.Elements.{All-nil, All-push}
use Rattle.c_lex.specs.TokenText.{TokenText}
use Rattle.c_lex.specs.declared.token.Word.TheVariants as w
use Rattle.c_lex.specs.declared.token.Mark.TheVariants as m
use Rattle.c_ast.specs.declared.declaration.Specs.{Specs}
use Rattle.c_ast.specs.declared.statement.Unit.{Unit as TheUnit}
use Rattle.c_ast.specs.declared.statement.UnitEntry.{UnitEntry}
use Rattle.c_ast.specs.declared.statement.UnitEntry.TheVariants as unit
use Rattle.c_ast.specs.Input.{kind, start_of}
use Rattle.c_ast.specs.Names.{SpecsName, PartNames, UnitEntryNames, Names}
use Rattle.c_grammar.specs.Rules.{declares_typedef}
use Rattle.parse_spec.specs.Steps.{Outcome, turns, sees_word}
use Rattle.parse_spec.specs.Units.{declared_as, declared, unit_entry, unit_of, is_end, entries_from, whole_unit, read_of, tree_of}
use Rattle.parse_spec.proofs.Adding.{eat_adds, afresh_adds}
use Rattle.parse_names.specs.NameLaws.{TreesName}
use Rattle.parse_names.proofs.Declarations.{assertion_reads, declaration_specs_reads, named_declarator_reads, more_parts_reads}
use Rattle.parse_names.proofs.Reading.{Gives, Reads, pure_reads, refuse_reads, bind_reads, skip_reads, then_reads, if_reads, here_reads, in_prototype_reads}
use Rattle.parse_names.proofs.Statements.{body_reads}

module _ (t : TokenText) where
  declared_as_reads : (s : Specs) → SpecsName t s → Reads t (UnitEntryNames t) (declared_as s)
  unfolding declared_as
  declared_as_reads s h = then_reads _ _ afresh_adds (bind_reads _ _ (named_declarator_reads t (declares_typedef s.words)) (λ d k.
      skip_reads _ _ (eat_adds m.OpenBrace) (λ brace. if_reads brace _ _
      (bind_reads _ _ (in_prototype_reads _ (body_reads t)) (λ all l. pure_reads (unit.Function s d all) (h, k, l)))
      (bind_reads _ _ (more_parts_reads t (declares_typedef s.words) d k) (λ all l.
      pure_reads (unit.Declaration (record { specs = s; parts = all })) (h, l))))))

  declared_reads : Reads t (UnitEntryNames t) declared
  unfolding declared
  declared_reads = bind_reads _ _ (declaration_specs_reads t) (λ s h. skip_reads _ _ (eat_adds m.Semicolon) (λ none. if_reads none _ _
      (pure_reads (unit.Declaration (record { specs = s; parts = [] })) (h, All-nil (PartNames t))) (declared_as_reads s h)))

  unit_entry_reads : Reads t (UnitEntryNames t) unit_entry
  unfolding unit_entry
  unit_entry_reads = skip_reads _ _ (eat_adds m.Semicolon) (λ empty. if_reads empty _ _ (pure_reads unit.Empty tt)
      (here_reads _ (λ i. if_reads (sees_word w.StaticAssert i) _ _
      (bind_reads _ _ (assertion_reads t) (λ p h. pure_reads (unit.Assertion p.0 p.1) h)) declared_reads)))

  entries_from_reads : (n : ℕ) (found : List UnitEntry) → All (UnitEntryNames t) found → Reads t (Names t) (entries_from n found)
  unfolding entries_from
  entries_from_reads zero found all = refuse_reads
  entries_from_reads (suc n) found all = here_reads _ (λ i. if_reads (is_end (kind i)) _ _ (pure_reads (unit_of found) all)
      (bind_reads _ _ unit_entry_reads (λ a h. entries_from_reads n (found ++ a ∷ []) (All-push (UnitEntryNames t) found a all h))))

  pub unit_reads : Reads t (Names t) whole_unit
  unfolding whole_unit
  unit_reads = here_reads _ (λ i. entries_from_reads (turns i) [] (All-nil (UnitEntryNames t)))

abbrev MaybeNames : TokenText → Option TheUnit → Type 0
MaybeNames t None = Unit {0}
MaybeNames t (Some u) = Names t u

read_names : (t : TokenText) (o : Outcome TheUnit) → Gives t (Names t) o → MaybeNames t (read_of o)
read_names t None h = tt
read_names t (Some p) h = h.1

pub trees_name : TreesName
unfolding tree_of
trees_name tokens u e = subst (MaybeNames tokens) e (read_names tokens (whole_unit (start_of tokens)) ((unit_reads tokens).reads (start_of tokens) refl))
