-- The name of a declarator comes into scope behind it.
use Rattle.std.proofs.Common.{◌≡◌, Bool, Some, Ok, Err, sym, ap, subst, ◌∙◌}
use Rattle.std.specs.Prelude.{Result, OnOk, IfErr}
use Rattle.c_ast.specs.declared.declaration.Declarator.{Declarator}
use Rattle.c_ast.specs.Input.{Input}
use Rattle.c_grammar.specs.Grammar.{Named, name_of}
use Rattle.parse_spec.specs.Declarations.{named_declarator}
use Rattle.parse_spec.specs.Nested.{declarator}
use Rattle.parse_spec.specs.Steps.{turns, declare}
use Rattle.parse_cursor.specs.Reads.{Reads}
use Rattle.parse_cursor.specs.declared.refusal.Refusal.{Refusal}
use Rattle.parse_cursor.specs.declared.refusal.Refusal.TheVariants.{NoMemory}
use Rattle.parse_nodes.specs.Behind.{held}
use Rattle.parse_declarators.specs.Naming.{named_at}
use Rattle.parse_declarators.proofs.Names.{named_declared}

pub named_reads : (typedef : Bool) (i j k : Input) (d : Declarator) (r : Result (Unit {0}) Refusal) (s : Result Declarator Refusal)
    → declarator (turns i) Named i ≡ Some (d, j) → OnOk r (k ≡ named_at typedef (name_of d) j) → IfErr r (λ e. e ≡ NoMemory) → s ≡ held d r
    → Reads (named_declarator typedef i) s k
unfolding named_declarator
named_reads typedef i j k d (Ok u) s read ok err is =
    let there : k ≡ declare typedef (name_of d) j = ok ∙ named_declared typedef (turns i) Named i j d read in
    subst (λ o. Reads (named_declarator typedef i) o k) (sym is) (rw read (ap (λ m. Some (d, m)) (sym there)))
named_reads typedef i j k d (Err e) s read ok err is = subst (λ o. Reads (named_declarator typedef i) o k) (sym is) (λ other. absurd (other err))
