-- Lists of trees, and the rows of the grammar that stand for them.
use Rattle.std.proofs.Common.{◌≡◌, Bool, true, false, List, [], ◌∷◌, ◌++◌, Some, refl, subst, ◌∙◌, append_assoc}
use denote.Hole.Carrier.{hidden}
use Rattle.c_lex.specs.declared.token.TokenKind.TheVariants as token
use Rattle.c_lex.specs.declared.token.Mark.TheVariants as m
use Rattle.c_ast.specs.declared.declaration.Base.TheBlock.{
  hidden-the_row-Declarator-5,
  hidden-the_row-Enumerator-1,
  hidden-the_row-Expr-6,
  hidden-the_row-MemberEntry-0,
  hidden-the_row-Param-4,
}
use Rattle.c_ast.specs.declared.declaration.Declarator.{Declarator}
use Rattle.c_ast.specs.declared.declaration.Enumerator.{Enumerator}
use Rattle.c_ast.specs.declared.declaration.Init.TheBlock.{hidden-the_row-InitEntry-0}
use Rattle.c_ast.specs.declared.declaration.InitEntry.{InitEntry}
use Rattle.c_ast.specs.declared.declaration.MemberEntry.{MemberEntry}
use Rattle.c_ast.specs.declared.declaration.Param.{Param}
use Rattle.c_ast.specs.declared.declaration.TypeName.{TypeName}
use Rattle.c_ast.specs.declared.expression.Expr.{Expr}
use Rattle.c_ast.specs.declared.statement.Entry.{Entry}
use Rattle.c_ast.specs.declared.statement.Entry.TheBlock as s
use Rattle.c_ast.specs.Input.{Input, kind, next}
use Rattle.c_grammar.specs.Operators as op
use Rattle.c_grammar.specs.Rules.{Rule, ◌⨾◌, Nothing, Never, Mark, Declares, is_declaration_word, is_qualified_word}
use Rattle.c_grammar.specs.Grammar.{
  Named,
  Abstract,
  Either,
  IsExpr,
  Specifiers,
  BaseRule,
  DeclaratorOperand,
  DeclaratorRule,
  name_of,
  Arguments,
  Several,
  MoreExprs,
  Members,
  MoreMembers,
  MemberRule,
  MemberNames,
  MoreNames,
  Enumerators,
  MoreEnumerators,
  EnumeratorRule,
  Parameters,
  MoreParameters,
  Designation,
  InitRule,
  InitEntries,
  MoreInits,
  Entries,
  EntryRule,
}

-- each of them, with this before it
abbrev pub Each : {A : Type 0} → Rule → (A → Rule) → List A → Rule
Each before R [] = Nothing
Each before R (a ∷ rest) = before ⨾ R a ⨾ Each before R rest

-- at least one, with this between them
abbrev pub Between : {A : Type 0} → Rule → (A → Rule) → List A → Rule
Between before R [] = Never
Between before R (a ∷ rest) = R a ⨾ Each before R rest

-- one after another
abbrev pub Every : {A : Type 0} → (A → Rule) → List A → Rule
Every R [] = Nothing
Every R (a ∷ rest) = R a ⨾ Every R rest

abbrev pub AtLeastOne : {A : Type 0} → (A → Rule) → List A → Rule
AtLeastOne R [] = Never
AtLeastOne R (a ∷ rest) = R a ⨾ Every R rest

-- what is read behind what was found, as one list
abbrev pub Extends : {A : Type 0} → List A → (List A → Rule) → Input → List A → Input → Type 0
Extends {A} found R i all j = (more : List A) × ((all ≡ found ++ more) × R more i j)

pub pushed : {A : Type 0} (found : List A) (a : A) (more all : List A) → all ≡ (found ++ a ∷ []) ++ more → all ≡ found ++ a ∷ more
pushed found a more all e = e ∙ append_assoc found (a ∷ []) more

abbrev pub Comma : Rule
Comma = Mark m.Comma

-- one more with a comma behind it, before those that were read then
pub longer : {A : Type 0} (R : A → Rule) (found : List A) (a : A) (i j : Input) → R a i j → kind j ≡ Some (token.Punct m.Comma) → (all : List A) (k : Input)
    → Extends (found ++ a ∷ []) (Between Comma R) (next j) all k → Extends found (Between Comma R) i all k
longer R found a i j h comma all k ([], (same, g)) = absurd g
longer R found a i j h comma all k (b ∷ more, (same, g)) = (a ∷ b ∷ more, (pushed found a (b ∷ more) all same, (j, (h, (next j, ((comma, refl), g))))))

-- ..where something stands behind the last
pub longer_then : {A : Type 0} (R : A → Rule) (last : Rule) (found : List A) (a : A) (i j : Input) → R a i j → kind j ≡ Some (token.Punct m.Comma) →
    (all : List A) (k : Input)
    → Extends (found ++ a ∷ []) (λ more. Between Comma R more ⨾ last) (next j) all k → Extends found (λ more. Between Comma R more ⨾ last) i all k
longer_then R last found a i j h comma all k ([], (same, (x, (g, l)))) = absurd g
longer_then R last found a i j h comma all k (b ∷ more, (same, (x, (g, l)))) =
    (a ∷ b ∷ more, (pushed found a (b ∷ more) all same, (x, ((j, (h, (next j, ((comma, refl), g)))), l))))

pub at_least_then : {A : Type 0} (R : A → Rule) (last : Rule) (found : List A) (a : A) (i j : Input) → R a i j → (all : List A) (k : Input)
    → Extends (found ++ a ∷ []) (λ more. AtLeastOne R more ⨾ last) j all k → Extends found (λ more. AtLeastOne R more ⨾ last) i all k
at_least_then R last found a i j h all k ([], (same, (x, (g, l)))) = absurd g
at_least_then R last found a i j h all k (b ∷ more, (same, (x, (g, l)))) = (a ∷ b ∷ more, (pushed found a (b ∷ more) all same, (x, ((j, (h, g)), l))))

pub every_then : {A : Type 0} (R : A → Rule) (last : Rule) (found : List A) (a : A) (i j : Input) → R a i j → (all : List A) (k : Input)
    → Extends (found ++ a ∷ []) (λ more. Every R more ⨾ last) j all k → Extends found (λ more. Every R more ⨾ last) i all k
every_then R last found a i j h all k (more, (same, (x, (g, l)))) = (a ∷ more, (pushed found a more all same, (x, ((j, (h, g)), l))))

-- ---- expressions

pub more_exprs : (all : List Expr) (i j : Input) → Each Comma (IsExpr op.assignment) all i j → MoreExprs (hidden-the_row-Expr-6 all) i j
unfolding hidden-the_row-Expr-6 hidden
more_exprs [] i j h = h
more_exprs (e ∷ rest) i j (x, (c, (y, (h, more)))) = (x, (c, (y, (h, more_exprs rest y j more))))

pub some_arguments : (all : List Expr) (i j : Input) → Between Comma (IsExpr op.assignment) all i j → Arguments (hidden-the_row-Expr-6 all) i j
unfolding hidden-the_row-Expr-6 hidden
some_arguments [] i j h = absurd h
some_arguments (e ∷ rest) i j (x, (h, more)) = (x, (h, more_exprs rest x j more))

pub no_arguments : (i : Input) → Arguments (hidden-the_row-Expr-6 []) i i
unfolding hidden-the_row-Expr-6 hidden
no_arguments i = refl

pub several : (a b : Expr) (rest : List Expr) (i j k : Input) → IsExpr op.assignment a i j → Each Comma (IsExpr op.assignment) (b ∷ rest) j k
    → Several (hidden-the_row-Expr-6 (a ∷ b ∷ rest)) i k
unfolding hidden-the_row-Expr-6 hidden
several a b rest i j k h (x, (c, (y, (g, more)))) = (j, (h, (x, (c, (y, (g, more_exprs rest y k more))))))

-- ---- declarators, members, enumerators

abbrev pub NamedRule : Declarator → Rule
NamedRule d = DeclaratorOperand Named 0 d (DeclaratorRule d Named)

pub more_names : (all : List Declarator) (i j : Input) → Each Comma NamedRule all i j → MoreNames (hidden-the_row-Declarator-5 all) i j
unfolding hidden-the_row-Declarator-5 hidden
more_names [] i j h = h
more_names (d ∷ rest) i j (x, (c, (y, (h, more)))) = (x, (c, (y, (h, more_names rest y j more))))

pub some_names : (all : List Declarator) (i j : Input) → Between Comma NamedRule all i j → MemberNames (hidden-the_row-Declarator-5 all) i j
unfolding hidden-the_row-Declarator-5 hidden
some_names [] i j h = absurd h
some_names (d ∷ rest) i j (x, (h, more)) = (x, (h, more_names rest x j more))

pub no_names : (i : Input) → MemberNames (hidden-the_row-Declarator-5 []) i i
unfolding hidden-the_row-Declarator-5 hidden
no_names i = refl

pub more_members : (all : List MemberEntry) (i j : Input) → Every MemberRule all i j → MoreMembers (hidden-the_row-MemberEntry-0 all) i j
unfolding hidden-the_row-MemberEntry-0 hidden
more_members [] i j h = h
more_members (a ∷ rest) i j (x, (h, more)) = (x, (h, more_members rest x j more))

pub members : (all : List MemberEntry) (i j : Input) → AtLeastOne MemberRule all i j → Members (hidden-the_row-MemberEntry-0 all) i j
unfolding hidden-the_row-MemberEntry-0 hidden
members [] i j h = absurd h
members (a ∷ rest) i j (x, (h, more)) = (x, (h, more_members rest x j more))

pub more_enumerators : (all : List Enumerator) (i j : Input) → Each Comma EnumeratorRule all i j → MoreEnumerators (hidden-the_row-Enumerator-1 all) i j
unfolding hidden-the_row-Enumerator-1 hidden
more_enumerators [] i j h = h
more_enumerators (a ∷ rest) i j (x, (c, (y, (h, more)))) = (x, (c, (y, (h, more_enumerators rest y j more))))

pub enumerators : (all : List Enumerator) (i j : Input) → Between Comma EnumeratorRule all i j → Enumerators (hidden-the_row-Enumerator-1 all) i j
unfolding hidden-the_row-Enumerator-1 hidden
enumerators [] i j h = absurd h
enumerators (a ∷ rest) i j (x, (h, more)) = (x, (h, more_enumerators rest x j more))

-- ---- parameters and type names

abbrev pub ParamRule : Param → Rule
ParamRule p = Specifiers is_declaration_word p.specs.base (BaseRule p.specs.base) p.specs.words
    ⨾ DeclaratorOperand Either 0 p.declarator (DeclaratorRule p.declarator Either) ⨾ Declares false (name_of p.declarator)

-- what stands behind the parameters, where an ellipsis does
abbrev pub LastRule : Bool → Rule
LastRule true = Comma ⨾ Mark m.Ellipsis
LastRule false = Nothing

pub more_parameters : (all : List Param) (ellipsis : Bool) (i j k : Input) → Each Comma ParamRule all i j → LastRule ellipsis j k
    → MoreParameters (hidden-the_row-Param-4 all) ellipsis i k
unfolding hidden-the_row-Param-4 hidden
more_parameters [] true i j k e h = subst (λ x. LastRule true x k) e h
more_parameters [] false i j k e h = h ∙ e
more_parameters (p ∷ rest) ellipsis i j k (x, (c, (y, ((a, (s, (b, (d, n)))), more)))) h =
    (x, (c, (a, (s, (b, (d, (y, (n, more_parameters rest ellipsis y j k more h))))))))

pub some_parameters : (all : List Param) (ellipsis : Bool) (i j k : Input) → Between Comma ParamRule all i j → LastRule ellipsis j k
    → Parameters (hidden-the_row-Param-4 all) ellipsis i k
unfolding hidden-the_row-Param-4 hidden
some_parameters [] ellipsis i j k h l = absurd h
some_parameters (p ∷ rest) ellipsis i j k (y, ((a, (s, (b, (d, n)))), more)) h = (a, (s, (b, (d, (y, (n, more_parameters rest ellipsis y j k more h))))))

pub no_parameters : (i : Input) → Parameters (hidden-the_row-Param-4 []) false i i
unfolding hidden-the_row-Param-4 hidden
no_parameters i = refl

abbrev pub TypeNameRule : TypeName → Rule
TypeNameRule n = Specifiers is_qualified_word n.specs.base (BaseRule n.specs.base) n.specs.words
    ⨾ DeclaratorOperand Abstract 0 n.declarator (DeclaratorRule n.declarator Abstract)

-- ---- initializers

abbrev pub InitEntryRule : InitEntry → Rule
InitEntryRule e = Designation e.designators ⨾ InitRule e.init

pub more_inits : (all : List InitEntry) (i j : Input) → Each Comma InitEntryRule all i j → MoreInits (hidden-the_row-InitEntry-0 all) i j
unfolding hidden-the_row-InitEntry-0 hidden
more_inits [] i j h = h
more_inits (e ∷ rest) i j (x, (c, (y, ((a, (d, n)), more)))) = (x, (c, (a, (d, (y, (n, more_inits rest y j more))))))

pub some_inits : (all : List InitEntry) (i j : Input) → Between Comma InitEntryRule all i j → InitEntries (hidden-the_row-InitEntry-0 all) i j
unfolding hidden-the_row-InitEntry-0 hidden
some_inits [] i j h = absurd h
some_inits (e ∷ rest) i j (y, ((a, (d, n)), more)) = (a, (d, (y, (n, more_inits rest y j more))))

-- ---- block items

pub entries : (all : List Entry) (i j : Input) → Every EntryRule all i j → Entries (s.hidden-the_row-Entry-0 all) i j
unfolding s.hidden-the_row-Entry-0 hidden
entries [] i j h = h
entries (a ∷ rest) i j (x, (h, more)) = (x, (h, entries rest x j more))
