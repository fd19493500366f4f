use Rattle.std.proofs.Common.{ap, ◌∙◌, sym, subst}
use Rattle.std.specs.Prelude.{Option}
use Rattle.c_types.specs.Types.{qualified_of}
use Rattle.typing_env.specs.Env.{Env}
use Rattle.typing_words.specs.Words.{declare_parameter}
use Rattle.type_scope.specs.Known.{known_by}
use Rattle.type_scope.specs.Reads.{Reads}
use Rattle.type_declarators.proofs.Parameters.{unnamed, named}
use Rattle.type_declarators.proofs.declarator.declare_parameter.Goals as goal

pub returns-in-None-clause-reads : goal.returns-in-None-clause-reads
returns-in-None-clause-reads c small n env =
    let was = known_by n c.args.source.now c.args.state.now env in
    ap (λ name. declare_parameter name c.args.index (qualified_of c.args.qual.now) c.args.register was) c.in-None.is
    ∙ unnamed c.args.index (qualified_of c.args.qual.now) c.args.register was

pub returns-in_ok-copied_qual-in-Some-clause-reads : goal.returns-in_ok-copied_qual-in-Some-clause-reads
returns-in_ok-copied_qual-in-Some-clause-reads c small n env =
    let was = known_by n c.args.source.now c.args.state.now env in
    let now = known_by n c.args.source.now c.declare.new.self env in
    let P : Option (Unit {0} × Env) → Type 0 = λ found. Reads (λ (u : Unit {0}). u) found c.declare.result now in
    subst P
    (sym (ap (λ name. declare_parameter name c.args.index (qualified_of c.args.qual.now) c.args.register was) c.in-Some.is
    ∙ named c.in-Some.at c.args.index c.number_of.result (qualified_of c.args.qual.now) (qualified_of c.in_ok-copied_qual-in-Some.field-0)
    c.args.register was (c.number_of.ensures small) c.in_ok-copied_qual-in-Some.ensures))
    (c.declare.ensures.reads n env)
