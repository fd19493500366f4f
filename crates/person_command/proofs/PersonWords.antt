-- Words that a command for a person takes name a subcommand of it.
use Rattle.std.proofs.Common.{◌≡◌, ◌∙◌, ℕ, List, [], Bool, true, false, Option, Some, None, refl, sym, subst, inl, inr, codes}
use Rattle.std.specs.Prelude.{Box, IfSome, is_some, cond, option_map}
use Rattle.clap.specs.Faults.{entered_fault, fault_of, is_simple_and_free, level_fault}
use Rattle.clap.specs.Kinds.{Kinds}
use Rattle.clap.specs.Matches.{has_subcommand, subcommand_name_of}
use Rattle.clap.specs.Simple.{App, HasMatchesOf, Shape, built, entered, names_of, rows_at, subcommand_of, subcommand_rows}
use Rattle.clap.specs.Walk.{Held, Names, Row, Text, nothing_held, stop_after}
use Rattle.clap.specs.declared.parser.matches.ArgMatches.{ArgMatches}
use Rattle.person_command.specs.PersonApp.{person_app}
use Rattle.person_command.specs.PersonAsked.{IsPersonName, IsPersonTaken}
use Rattle.command.proofs.Words.{has_rows, missing, or_else_empty}

-- a level of the command at which no fault is found enters a subcommand
enters : (names : Names) (held : Held) (words : List Text) (found : Option (Text × List Row)) (below : Kinds)
    → level_fault (built person_app).top names held words (is_some found) below ≡ [] → is_some found ≡ true
enters names held words (Some p) below none = refl
enters names held words None below none =
    absurd (missing (or_else_empty _ _ (or_else_empty _ _ (or_else_empty below _ (or_else_empty _ _ none)))))

one_of_eight : (s t u v w x y z : Bool) (explain batch help version errors static swap story : Shape) (rest : List Text)
    → explain.name ≡ codes "explain" → batch.name ≡ codes "batch" → help.name ≡ codes "help" → version.name ≡ codes "version"
    → errors.name ≡ codes "errors" → static.name ≡ codes "static" → swap.name ≡ codes "swap" → story.name ≡ codes "story"
    → IfSome (option_map (λ shape. rows_at shape rest)
    (cond s (Some explain) (cond t (Some batch) (cond u (Some help) (cond v (Some version)
    (cond w (Some errors) (cond x (Some static) (cond y (Some swap) (cond z (Some story) None)))))))))
    (λ p. IsPersonName p.0)
one_of_eight true t u v w x y z explain batch help version errors static swap story rest a b c d e f g h = inl a
one_of_eight false true u v w x y z explain batch help version errors static swap story rest a b c d e f g h = inr (inl b)
one_of_eight false false true v w x y z explain batch help version errors static swap story rest a b c d e f g h = inr (inr (inl c))
one_of_eight false false false true w x y z explain batch help version errors static swap story rest a b c d e f g h = inr (inr (inr (inl d)))
one_of_eight false false false false true x y z explain batch help version errors static swap story rest a b c d e f g h = inr (inr (inr (inr (inl e))))
one_of_eight false false false false false true y z explain batch help version errors static swap story rest a b c d e f g h =
    inr (inr (inr (inr (inr (inl f)))))
one_of_eight false false false false false false true z explain batch help version errors static swap story rest a b c d e f g h =
    inr (inr (inr (inr (inr (inr (inl g))))))
one_of_eight false false false false false false false true explain batch help version errors static swap story rest a b c d e f g h =
    inr (inr (inr (inr (inr (inr (inr h))))))
one_of_eight false false false false false false false false explain batch help version errors static swap story rest a b c d e f g h = tt

entered_name : (stop : Option (Text × List Text)) → IfSome (entered (built person_app) stop) (λ p. IsPersonName p.0)
entered_name None = tt
entered_name (Some p) = one_of_eight _ _ _ _ _ _ _ _ _ _ _ _ _ _ _ _ p.1 refl refl refl refl refl refl refl refl

-- the words name this subcommand and give it this
pub record IsPersonNamed (found : Option (Text × List Row)) : Type 0 where
  pub name : Text
  pub rows : List Row
  pub is : found ≡ Some (name, rows)
  pub named : IsPersonName name

some_named : (found : Option (Text × List Row)) → is_some found ≡ true → IfSome found (λ p. IsPersonName p.0) → IsPersonNamed found
some_named (Some p) is named = record { name = p.0; rows = p.1; is = refl; named = named }
some_named None is named = absurd (cc)

-- where the walk over the words stops
abbrev stop : List (List ℕ) → Option (Text × List Text)
stop words = stop_after (built person_app).top.rules (names_of (built person_app)) words

pub taken_named : (words : List (List ℕ)) → IsPersonTaken words → IsPersonNamed (subcommand_of person_app words)
unfolding IsPersonTaken
taken_named words taken =
    some_named (entered (built person_app) (stop words))
    (enters (names_of (built person_app)) nothing_held words (entered (built person_app) (stop words)) (entered_fault (built person_app) (stop words)) taken)
    (entered_name (stop words))

pub has_subcommand_of : (words : List (List ℕ)) (m : ArgMatches) → IsPersonTaken words → HasMatchesOf person_app words m → has_subcommand m ≡ true
has_subcommand_of words m taken has =
    let named = taken_named words taken in
    has_rows _ (named.name, named.rows) ((has refl).1 ∙ named.is)

-- the command is simple, and no argument has a rule on another
pub person_is_simple : (app : App) → app ≡ person_app → is_simple_and_free app ≡ true
person_is_simple app same = subst (λ a. is_simple_and_free a ≡ true) (sym same) refl

pub takes_as : (app : App) (words : List (List ℕ)) → app ≡ person_app → fault_of app words ≡ [] → IsPersonTaken words
unfolding IsPersonTaken
takes_as app words same none = subst (λ a. fault_of a words ≡ []) same none

pub taken_as : (app : App) (words : List (List ℕ)) → app ≡ person_app → IsPersonTaken words → fault_of app words ≡ []
unfolding IsPersonTaken
taken_as app words same none = subst (λ a. fault_of a words ≡ []) (sym same) none

pub matches_as : (app : App) (words : List (List ℕ)) (m : ArgMatches) → app ≡ person_app → HasMatchesOf app words m → HasMatchesOf person_app words m
matches_as app words m same has = subst (λ a. HasMatchesOf a words m) same has
