-- The name of an enumerator is a token, and so it comes into scope.
use Rattle.std.proofs.Common.{◌≡◌, ℕ, ◌<◌, false, length, Option, Some, None, Ok, Err, sym, ap, subst, refl, ◌∙◌}
use Rattle.std.specs.Prelude.{Result, nat_lt, OnOk}
use Rattle.std.proofs.lemmas.Bool.{cond-true, lt-ltb}
use Rattle.c_lex.specs.declared.token.TokenKind.TheVariants as token
use Rattle.c_lex.specs.declared.token.Mark.TheVariants as m
use Rattle.c_ast.specs.declared.declaration.Enumerator.{roll-Enumerator}
use Rattle.c_ast.specs.declared.expression.Expr.{Expr}
use Rattle.c_ast.specs.Input.{Input, declared}
use Rattle.c_ast.specs.Names.{IsName}
use Rattle.c_grammar.specs.Operators as op
use Rattle.parse_spec.specs.Nested.{expr, declarator, specs}
use Rattle.parse_spec.specs.Scopes.{OnlyAdds}
use Rattle.parse_spec.specs.Specifiers.{enumerator_value, one_enumerator}
use Rattle.parse_spec.specs.Steps.{identifier}
use Rattle.parse_spec.proofs.Adding.{pure_adds, bind_adds, if_adds, eat_adds}
use Rattle.parse_spec.proofs.AddingRules.{identifier_adds, enumerator_value_adds, expr_adds, declarator_adds, specs_adds}
use Rattle.parse_cursor.specs.Declarations.{declared_at}
use Rattle.parse_cursor.specs.declared.refusal.Refusal.{Refusal}
use Rattle.parse_nodes.specs.Behind.{held}
use Rattle.parse_names.proofs.Reading.{given}
use Rattle.parse_names.proofs.Tokens.{identifier_reads, kind_within}

name_within : (depth : ℕ) (i j k : Input) (n : ℕ) (v : Option Expr) → identifier i ≡ Some (n, j)
    → enumerator_value (expr depth) (declarator depth) (specs depth) j ≡ Some (v, k) → n < length k.tokens.list
name_within depth i j k n v name value =
    let is = (given i.tokens (IsName i.tokens) (identifier i) n j ((identifier_reads i.tokens).reads i refl) name).1 in
    let same = ((enumerator_value_adds (expr depth) (declarator depth) (specs depth) (expr_adds depth) (declarator_adds depth) (specs_adds depth)).adds j k v
    value).tokens ∙ (identifier_adds.adds i j n name).tokens in
    subst (λ t. n < length t.list) (sym same) (kind_within i.tokens n token.Name is)

kept_case : (l x : Input) (v w : Option Expr) (r : Result (Unit {0}) Refusal) (t : Result (Option Expr) Refusal) → OnOk r (l ≡ x)
    → t ≡ held v r → t ≡ Ok w → (v ≡ w) × (l ≡ x)
kept_case l x v w (Ok u) t ok is was = (cc, ok)
kept_case l x v w (Err e) t ok is was = absurd (cc)

enumerator_is : (depth : ℕ) (i j k : Input) (n : ℕ) (v : Option Expr) → identifier i ≡ Some (n, j)
    → enumerator_value (expr depth) (declarator depth) (specs depth) j ≡ Some (v, k)
    → one_enumerator (expr depth) (declarator depth) (specs depth) i ≡ Some (roll-Enumerator (record { name = n; value = v }), declared n false k)
unfolding one_enumerator
enumerator_is depth i j k n v name value = rw (name, value) refl

pub enumerator_reads : (depth : ℕ) (i j k l : Input) (n : ℕ) (v w : Option Expr) (r : Result (Unit {0}) Refusal) (t : Result (Option Expr) Refusal)
    → identifier i ≡ Some (n, j) → enumerator_value (expr depth) (declarator depth) (specs depth) j ≡ Some (v, k) → OnOk r (l ≡ declared_at n false k)
    → t ≡ held v r → t ≡ Ok w
    → one_enumerator (expr depth) (declarator depth) (specs depth) i ≡ Some (roll-Enumerator (record { name = n; value = w }), l)
enumerator_reads depth i j k l n v w r t name value ok is was =
    let both = kept_case l (declared_at n false k) v w r t ok is was in
    let there = both.1 ∙ cond-true (nat_lt n (length k.tokens.list)) (declared n false k) k
    (lt-ltb n (length k.tokens.list) (name_within depth i j k n v name value)) in
    enumerator_is depth i j k n v name value ∙ ap (λ o. Some (roll-Enumerator (record { name = n; value = o }), declared n false k)) both.0
    ∙ ap (λ m. Some (roll-Enumerator (record { name = n; value = w }), m)) (sym there)
