use Rattle.std.proofs.Common.{ap, sym, ◌∙◌}
use Rattle.c_types.specs.Types.{qualified_of}
use Rattle.typing_words.specs.Words.{is_register}
use Rattle.type_scope.specs.Known.{known_by}
use Rattle.type_declarators.proofs.Parameters.{class_refused, function_refused, void_refused, declared, declared_refused}
use Rattle.type_declarators.proofs.declarator.parameter.Goals as goal

pub returns-in_default-clause-reads : goal.returns-in_default-clause-reads
returns-in_default-clause-reads c small ws said n env other =
    class_refused c.args.index ws c.args.param.name (qualified_of c.args.param.qual) (known_by n c.args.source.now c.args.state.now env)
    (ap is_register (sym said.storage) ∙ sym c.is_register.ensures ∙ c.in_default.is)

pub returns-then-words-clause-reads : goal.returns-then-words-clause-reads
returns-then-words-clause-reads c small ws said n env other =
    function_refused c.args.index ws c.args.param.name (qualified_of c.args.param.qual) (known_by n c.args.source.now c.args.state.now env)
    (sym said.function ∙ c.if-words.true)

pub returns-then-is_void_qual-clause-reads : goal.returns-then-is_void_qual-clause-reads
returns-then-is_void_qual-clause-reads c small ws said n env other =
    void_refused c.args.index ws c.args.param.name (qualified_of c.args.param.qual) (known_by n c.args.source.now c.args.state.now env)
    (sym c.is_void_qual.ensures ∙ c.if-is_void_qual.true)

pub returns-in-Ok-clause-reads : goal.returns-in-Ok-clause-reads
returns-in-Ok-clause-reads c small ws said n env =
    declared c.args.index ws c.args.param.name (qualified_of c.args.param.qual) (qualified_of c.in_ok-qual.qual) c.in-Some.register
    (known_by n c.args.source.now c.args.state.now env) (known_by n c.args.source.now c.declare_parameter.new.state env)
    (ap is_register (sym said.storage) ∙ sym c.is_register.ensures ∙ c.in-Some.is) (sym said.function ∙ c.if-words.false)
    (sym c.is_void_qual.ensures ∙ c.if-is_void_qual.false) c.in_ok-qual.ensures (c.in-Ok.ensures.reads small n env)

pub returns-in-Err-clause-reads : goal.returns-in-Err-clause-reads
returns-in-Err-clause-reads c small ws said n env other =
    declared_refused c.args.index ws c.args.param.name (qualified_of c.args.param.qual) (qualified_of c.in_ok-qual.qual) c.in-Some.register
    (known_by n c.args.source.now c.args.state.now env)
    (ap is_register (sym said.storage) ∙ sym c.is_register.ensures ∙ c.in-Some.is) (sym said.function ∙ c.if-words.false)
    (sym c.is_void_qual.ensures ∙ c.if-is_void_qual.false) c.in_ok-qual.ensures (c.in-Err.ensures.reads small n env other)
