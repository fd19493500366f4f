-- The name of a declarator, and that it comes into scope.
use Rattle.std.proofs.Common.{◌≡◌, ℕ, ◌<◌, Bool, false, List, length, Option, Some, None, Ok, Err, refl, sym, ap, subst, ◌∙◌}
use Rattle.std.specs.Prelude.{Result, nat_lt, OnOk, IfErr}
use Rattle.std.proofs.lemmas.Bool.{cond-true, lt-ltb}
use denote.Hole.Carrier.{hidden}
use Rattle.c_lex.specs.declared.token.Word.{Word as AWord}
use Rattle.c_ast.specs.declared.declaration.Declarator.{Declarator}
use Rattle.c_ast.specs.declared.declaration.Declarator.TheVariants as decl
use Rattle.c_ast.specs.declared.declaration.Param.{Param}
use Rattle.c_ast.specs.declared.expression.Expr.{Expr}
use Rattle.c_ast.specs.declared.declaration.Base.TheBlock.{hidden-the_row-Declarator-2, hidden-the_row-Expr-3}
use Rattle.c_ast.specs.Input.{Input, declared}
use Rattle.c_grammar.specs.Grammar.{Mode, Either, name_of}
use Rattle.parse_spec.specs.Nested.{declarator}
use Rattle.parse_spec.specs.Steps.{declare}
use Rattle.parse_cursor.specs.Reads.{Reads}
use Rattle.parse_cursor.specs.declared.refusal.Refusal.{Refusal}
use Rattle.parse_cursor.specs.declared.refusal.Refusal.TheVariants.{NoMemory}
use Rattle.parse_nodes.specs.Behind.{held}
use Rattle.parse_names.proofs.Declarators.{declarator_names, declarator_name_within}
use Rattle.parse_declarators.specs.Naming.{named_at}
use Rattle.parse_declarators.specs.Parts.{parameter_declarator}

pub name_pointer : (d e : Declarator) (words : List AWord) → d ≡ decl.Pointer words e → name_of d ≡ name_of e
unfolding hidden-the_row-Declarator-2 hidden
name_pointer d e words is = ap name_of is

name_array_of : (e : Declarator) (o : Option Expr) → name_of (decl.Array e o) ≡ name_of e
unfolding hidden-the_row-Declarator-2 hidden-the_row-Expr-3 hidden
name_array_of e None = refl
name_array_of e (Some x) = refl

pub name_array : (d e : Declarator) (o : Option Expr) → d ≡ decl.Array e o → name_of d ≡ name_of e
name_array d e o is = ap name_of is ∙ name_array_of e o

pub name_function : (d e : Declarator) (ps : List Param) (more : Bool) → d ≡ decl.Function e ps more → name_of d ≡ name_of e
unfolding hidden-the_row-Declarator-2 hidden
name_function d e ps more is = ap name_of is

named_is : (typedef : Bool) (o : Option ℕ) (j : Input) → ((n : ℕ) → o ≡ Some n → n < length j.tokens.list) → named_at typedef o j ≡ declare typedef o j
named_is typedef None j h = refl
named_is typedef (Some n) j h = cond-true (nat_lt n (length j.tokens.list)) (declared n typedef j) j (lt-ltb n (length j.tokens.list) (h n refl))

-- the name of a declarator that was read is a token, and so it is declared
pub named_declared : (typedef : Bool) (depth : ℕ) (mode : Mode) (i j : Input) (d : Declarator) → declarator depth mode i ≡ Some (d, j)
    → named_at typedef (name_of d) j ≡ declare typedef (name_of d) j
named_declared typedef depth mode i j d read = named_is typedef (name_of d) j (λ n named.
    subst (λ t. n < length t.list) (sym (declarator_names depth mode i j d read).1) (declarator_name_within depth mode i j d n read named))

pub parameter_reads : (depth : ℕ) (i j k : Input) (d : Declarator) (r : Result (Unit {0}) Refusal) (s : Result Declarator Refusal)
    → declarator depth Either i ≡ Some (d, j) → OnOk r (k ≡ named_at false (name_of d) j) → IfErr r (λ e. e ≡ NoMemory) → s ≡ held d r
    → Reads (parameter_declarator (declarator depth) i) s k
parameter_reads depth i j k d (Ok u) s read ok err is =
    let there : k ≡ declare false (name_of d) j = ok ∙ named_declared false depth Either i j d read in
    subst (λ o. Reads (parameter_declarator (declarator depth) i) o k) (sym is) (rw read (ap (λ m. Some (d, m)) (sym there)))
parameter_reads depth i j k d (Err e) s read ok err is =
    subst (λ o. Reads (parameter_declarator (declarator depth) i) o k) (sym is) (λ other. absurd (other err))
