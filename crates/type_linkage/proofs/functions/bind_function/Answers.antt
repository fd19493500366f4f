use Rattle.std.proofs.Common.{◌≡◌, ap, ◌∙◌, rules}
use Rattle.std.proofs.lemmas.Result.{on_ok_weaker}
use Rattle.c_types.specs.Types.{type_of, qualified_of}
use Rattle.c_types.specs.declared.ty.Qual.{the_lemmas}
use Rattle.typing_env.specs.Env.{a_function}
use Rattle.typing_env.specs.Names as names
use Rattle.type_scope.specs.Known.{known_by}
use Rattle.type_linkage.proofs.functions.bind_function.Goals as goal

pub returns-clause-known : goal.returns-clause-known
returns-clause-known c =
    let e : type_of c.args.seen.ty ≡ (qualified_of c.args.seen).ty = search (rules, the_lemmas) in
    on_ok_weaker c.bind.result (λ k. λ n t env. k n t env
    ∙ ap (λ ty. names.bound c.args.symbol (a_function c.args.number ty) (known_by n t c.args.state.now env)) e)
    c.bind.ensures.known
