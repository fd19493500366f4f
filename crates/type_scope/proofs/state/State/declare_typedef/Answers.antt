use Rattle.std.proofs.Common.{◌∙◌, sym, subst}
use Rattle.c_types.specs.Types.{qualified_of}
use Rattle.type_scope.specs.Known.{known_by}
use Rattle.type_scope.specs.Reads.{Reads}
use Rattle.type_scope.proofs.Seen.{typedef_again, typedef_new}
use Rattle.type_scope.proofs.state.State.declare_typedef.Goals as goal

pub returns-then-is_same_typedef-clause-reads : goal.returns-then-is_same_typedef-clause-reads
returns-then-is_same_typedef-clause-reads c n env =
    typedef_again n c.args.source.now c.args.self.now env c.args.at c.symbol.result (qualified_of c.args.qual) c.symbol.ensures
    (sym (c.is_same_typedef.ensures n c.args.source.now env) ∙ c.if-is_same_typedef.true)

pub returns-clause-reads : goal.returns-clause-reads
returns-clause-reads c n env =
    subst (λ found. Reads (λ u. u) found c.declare.result (known_by n c.args.source.now c.declare.new.self env))
    (sym (typedef_new n c.args.source.now c.args.self.now env c.args.at c.symbol.result (qualified_of c.args.qual) c.symbol.ensures
    (sym (c.is_same_typedef.ensures n c.args.source.now env) ∙ c.if-is_same_typedef.false)))
    (c.declare.ensures.reads n env)
