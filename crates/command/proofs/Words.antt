-- Words that are taken name a subcommand.
use Rattle.std.proofs.Common.{◌≡◌, ◌∙◌, ℕ, List, [], ◌∷◌, Bool, true, false, Option, Some, None, refl, sym, subst, inl, inr, codes}
use Rattle.std.specs.Box.{box_value}
use Rattle.std.specs.Prelude.{Box, IfSome, is_some, cond, option_map}
use Rattle.clap.specs.Faults.{entered_fault, fault_of, is_simple_and_free, level_fault}
use Rattle.clap.specs.Kinds.{HasKind, Kinds, or_else}
use Rattle.clap.specs.Matches.{has_subcommand, subcommand_name_of}
use Rattle.clap.specs.Simple.{App, HasMatchesOf, Shape, built, entered, names_of, rows_at, subcommand_of, subcommand_rows}
use Rattle.clap.specs.Values.{kind_of}
use Rattle.clap.specs.Walk.{Held, Names, Row, Text, nothing_held, stop_after}
use Rattle.clap.specs.declared.parser.matches.ArgMatches.{ArgMatches}
use Rattle.clap.specs.declared.parser.matches.ArgMatches.TheViews.{out-SubCommand}
use Rattle.clap.specs.declared.parser.matches.SubCommand.{SubCommand}
use Rattle.clap.specs.declared.error.Error.{Error}
use Rattle.clap.specs.declared.error.kind.ErrorKind.TheVariants as kind
use Rattle.command.specs.App.{cub_app}
use Rattle.command.specs.Asked.{IsName, IsTaken}

pub or_else_empty : (first next : Kinds) → or_else first next ≡ [] → next ≡ []
or_else_empty [] next same = same
or_else_empty (k ∷ ks) next same = absurd (cc)

pub missing : (kind.MissingSubcommand ∷ []) ≡ [] → ⊥
missing same = cc

-- a level of the command at which no fault is found enters a subcommand
enters : (names : Names) (held : Held) (words : List Text) (found : Option (Text × List Row)) (below : Kinds)
    → level_fault (built cub_app).top names held words (is_some found) below ≡ [] → is_some found ≡ true
enters names held words (Some p) below none = refl
enters names held words None below none =
    absurd (missing (or_else_empty _ _ (or_else_empty _ _ (or_else_empty below _ (or_else_empty _ _ none)))))

one_of_three : (x y z : Bool) (audit check self : Shape) (rest : List Text)
    → audit.name ≡ codes "audit" → check.name ≡ codes "check" → self.name ≡ codes "self"
    → IfSome (option_map (λ s. rows_at s rest) (cond x (Some audit) (cond y (Some check) (cond z (Some self) None)))) (λ p. IsName p.0)
one_of_three true y z audit check self rest a c s = inl a
one_of_three false true z audit check self rest a c s = inr (inl c)
one_of_three false false true audit check self rest a c s = inr (inr s)
one_of_three false false false audit check self rest a c s = tt

entered_name : (stop : Option (Text × List Text)) → IfSome (entered (built cub_app) stop) (λ p. IsName p.0)
entered_name None = tt
entered_name (Some p) = one_of_three _ _ _ _ _ _ p.1 refl refl refl

-- the words name this subcommand and give it this
pub record IsNamed (found : Option (Text × List Row)) : Type 0 where
  pub name : Text
  pub rows : List Row
  pub is : found ≡ Some (name, rows)
  pub named : IsName name

some_named : (found : Option (Text × List Row)) → is_some found ≡ true → IfSome found (λ p. IsName p.0) → IsNamed found
some_named (Some p) is named = record { name = p.0; rows = p.1; is = refl; named = named }
some_named None is named = absurd (cc)

-- where the walk over the words stops
abbrev stop : List (List ℕ) → Option (Text × List Text)
stop words = stop_after (built cub_app).top.rules (names_of (built cub_app)) words

pub taken_named : (words : List (List ℕ)) → IsTaken words → IsNamed (subcommand_of cub_app words)
unfolding IsTaken
taken_named words taken =
    some_named (entered (built cub_app) (stop words))
    (enters (names_of (built cub_app)) nothing_held words (entered (built cub_app) (stop words)) (entered_fault (built cub_app) (stop words)) taken)
    (entered_name (stop words))

-- matches with such a subcommand have one
pub has_rows : {Z : Type 0} (o : Option (Box SubCommand Z)) (p : Text × List Row) → subcommand_rows o ≡ Some p → is_some o ≡ true
has_rows (Some b) p same = refl
has_rows None p same = absurd (cc)

pub has_subcommand_of : (words : List (List ℕ)) (m : ArgMatches) → IsTaken words → HasMatchesOf cub_app words m → has_subcommand m ≡ true
has_subcommand_of words m taken has =
    let named = taken_named words taken in
    has_rows _ (named.name, named.rows) ((has refl).1 ∙ named.is)

named_so : {Z : Type 0} (o : Option (Box SubCommand Z)) (found : Option (Text × List Row)) → subcommand_rows o ≡ found → IfSome found (λ p. IsName p.0)
    → IfSome (option_map (λ b. (out-SubCommand (box_value b)).name.now) o) IsName
named_so None found same named = tt
named_so (Some b) found same named = subst (λ f. IfSome f (λ p. IsName p.0)) (sym same) named

-- and its name is one of the three
pub name_of : (words : List (List ℕ)) (m : ArgMatches) (given : Option (List ℕ)) → HasMatchesOf cub_app words m → given ≡ subcommand_name_of m
    → IfSome given IsName
name_of words m given has same = subst (λ o. IfSome o IsName) (sym same) (named_so _ _ (has refl).1 (entered_name (stop words)))

-- where there is no fault, memory ran out
pub only_memory : (e : Error) (kinds : Kinds) → kinds ≡ [] → HasKind kinds e → kind_of e ≡ kind.OutOfMemory
only_memory e [] none (inl memory) = memory
only_memory e [] none (inr among) = absurd among
only_memory e (k ∷ ks) none has = absurd (cc)

-- the command is simple, and no argument has a rule on another
pub cub_is_simple : (app : App) → app ≡ cub_app → is_simple_and_free app ≡ true
cub_is_simple app same = subst (λ a. is_simple_and_free a ≡ true) (sym same) refl

pub takes_as : (app : App) (words : List (List ℕ)) → app ≡ cub_app → fault_of app words ≡ [] → IsTaken words
unfolding IsTaken
takes_as app words same none = subst (λ a. fault_of a words ≡ []) same none

pub taken_as : (app : App) (words : List (List ℕ)) → app ≡ cub_app → IsTaken words → fault_of app words ≡ []
unfolding IsTaken
taken_as app words same none = subst (λ a. fault_of a words ≡ []) (sym same) none
