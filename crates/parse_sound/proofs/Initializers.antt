-- What is read as an initializer or a declaration is spelled.
use Rattle.std.proofs.Common.{◌≡◌, ℕ, zero, suc, List, [], ◌∷◌, ◌++◌, Some, refl, sym, subst, inl, inr, arith}
use denote.Hole.Carrier.{hidden}
use Rattle.c_lex.specs.declared.token.TokenKind.TheVariants as token
use Rattle.c_lex.specs.declared.token.Mark.TheVariants as m
use Rattle.c_ast.specs.declared.declaration.Designator.{Designator}
use Rattle.c_ast.specs.declared.declaration.Init.{Init}
use Rattle.c_ast.specs.declared.declaration.Init.TheBlock.{hidden-the_row-InitEntry-0}
use Rattle.c_ast.specs.declared.declaration.Init.TheVariants as init
use Rattle.c_ast.specs.declared.declaration.InitEntry.{InitEntry}
use Rattle.c_ast.specs.Input.{Input, kind, next}
use Rattle.c_grammar.specs.Grammar.{DesignatorRule, DesignatorList, Designation, InitRule}
use Rattle.c_grammar.specs.Rules.{Rule, ◌⨾◌, Mark, MaybeMark}
use Rattle.parse_spec.specs.Places.{opens_designator}
use Rattle.parse_spec.specs.Steps.{Parser, turns}
use Rattle.parse_spec.specs.Initializers.{one_designator, designators_from, designation, entry_of, entries_from, initializer_at, one_initializer, initializer}
use Rattle.parse_sound.proofs.Expressions.{identifier_holds}
use Rattle.parse_sound.proofs.Holding.{Holds, holds, refused, bind_holds, weaken, if_holds, eat_holds, expect_holds}
use Rattle.parse_sound.proofs.Nested.{expr_holds}
use Rattle.parse_sound.proofs.Rows.{Comma, Between, AtLeastOne, Every, Extends, at_least_then, longer_then, InitEntryRule, some_inits}

one_designator_holds : (i : Input) → Holds (λ d j. DesignatorRule d i j) (one_designator i)
unfolding one_designator
one_designator_holds i = eat_holds m.Dot _ _ i
    (λ is. bind_holds _ _ (identifier_holds (next i)) (λ n j h. holds (next i, ((is, refl), h))))
    (λ none. bind_holds _ _ (expect_holds m.OpenBracket i) (λ _ a b. bind_holds _ _ (expr_holds (turns a) 2 (omega arith) a) (λ e j h.
    bind_holds _ _ (expect_holds m.CloseBracket j) (λ _ k c. holds (a, (b, (j, (h.0, c))))))))

abbrev Designated : List Designator → Rule
Designated more = AtLeastOne DesignatorRule more ⨾ Mark m.Equal

designators_from_holds : (n : ℕ) (found : List Designator) (i : Input) → Holds (Extends found Designated i) (designators_from n found i)
unfolding designators_from
designators_from_holds zero found i = refused
designators_from_holds (suc n) found i = bind_holds _ _ (one_designator_holds i) (λ d j h. if_holds (opens_designator (kind j)) _ _ j
    (λ e. weaken _ (designators_from_holds n (found ++ d ∷ []) j) (λ all k g. at_least_then DesignatorRule (Mark m.Equal) found d i j h all k g))
    (λ e. bind_holds _ _ (expect_holds m.Equal j) (λ _ k c. holds (d ∷ [], (refl, (j, ((j, (h, refl)), c)))))))

designator_list : (all : List Designator) (i j : Input) → Every DesignatorRule all i j → DesignatorList all i j
designator_list [] i j h = h
designator_list (d ∷ rest) i j (x, (h, more)) = (x, (h, designator_list rest x j more))

designation_of : (all : List Designator) (i j : Input) → Designated all i j → Designation all i j
designation_of [] i j (x, (h, l)) = absurd h
designation_of (d ∷ rest) i j (x, (h, l)) = (x, (designator_list (d ∷ rest) i x h, l))

designation_holds : (i : Input) → Holds (λ ds j. Designation ds i j) (designation i)
unfolding designation
designation_holds i = if_holds (opens_designator (kind i)) _ _ i
    (λ e. weaken _ (designators_from_holds (turns i) [] i) (λ ds j h. designation_of ds i j (subst (λ l. Designated l i j) (sym h.1.0) h.1.1)))
    (λ e. holds refl)

abbrev pub InitHolds : Parser Init → Type 0
InitHolds inner = (i : Input) → Holds (λ a j. InitRule a i j) (inner i)

abbrev InitsEnd : Rule
InitsEnd = MaybeMark m.Comma ⨾ Mark m.CloseBrace

braced_rule : (all : List InitEntry) (i j : Input) → kind i ≡ Some (token.Punct m.OpenBrace) → (Between Comma InitEntryRule all ⨾ InitsEnd) (next i) j
    → InitRule (init.Braced i.at all) i j
unfolding hidden-the_row-InitEntry-0 hidden
braced_rule all i j is (x, (h, l)) = (next i, ((refl, (is, refl)), (x, (some_inits all (next i) x h, l))))

module _ (inner : Parser Init) (gi : InitHolds inner) where
  entries_from_holds : (n : ℕ) (found : List InitEntry) (i : Input) →
      Holds (Extends found (λ more. Between Comma InitEntryRule more ⨾ InitsEnd) i) (entries_from inner n found i)
  unfolding entries_from
  entries_from_holds zero found i = refused
  entries_from_holds (suc n) found i = bind_holds _ _ (designation_holds i) (λ ds x h. bind_holds _ _ (gi x) (λ a j g. eat_holds m.Comma _ _ j
      (λ comma. eat_holds m.CloseBrace _ _ (next j)
      (λ brace. holds (entry_of ds a ∷ [], (refl, (j, ((j, ((x, (h, g)), refl)), (next j, (inr (comma, refl), (brace, refl))))))))
      (λ none. weaken _ (entries_from_holds n (found ++ entry_of ds a ∷ []) (next j)) (λ all k l.
      longer_then InitEntryRule InitsEnd found (entry_of ds a) i j (x, (h, g)) comma all k l)))
      (λ none. bind_holds _ _ (expect_holds m.CloseBrace j) (λ _ k c.
      holds (entry_of ds a ∷ [], (refl, (j, ((j, ((x, (h, g)), refl)), (j, (inl refl, c))))))))))

  initializer_at_holds : (i : Input) → Holds (λ a j. InitRule a i j) (initializer_at inner i.at i)
  unfolding initializer_at
  initializer_at_holds i = eat_holds m.OpenBrace _ _ i
      (λ is. bind_holds _ _ (entries_from_holds (turns (next i)) [] (next i)) (λ all j h.
      holds (braced_rule all i j is (subst (λ l. (Between Comma InitEntryRule l ⨾ InitsEnd) (next i) j) (sym h.1.0) h.1.1))))
      (λ none. bind_holds _ _ (expr_holds (turns i) 1 (omega arith) i) (λ e j h. holds h.0))

  one_initializer_holds : InitHolds (one_initializer inner)
  unfolding one_initializer
  one_initializer_holds i = initializer_at_holds i

pub initializer_holds : (depth : ℕ) → InitHolds (initializer depth)
unfolding initializer
initializer_holds zero i = refused
initializer_holds (suc depth) i = one_initializer_holds (initializer depth) (initializer_holds depth) i
