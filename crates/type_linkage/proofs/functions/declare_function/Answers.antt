use Rattle.std.proofs.Common.{ap, ◌∙◌, sym}
use Rattle.std.specs.Option.{option_map}
use Rattle.c_lex.specs.TokenText.{text_at}
use Rattle.c_types.specs.Types.{signature_of}
use Rattle.typing_env.specs.Names.{library_of, is_internal}
use Rattle.type_scope.specs.Known.{linked_seen}
use Rattle.type_linkage.specs.Linkage.{given_of, prior_in}
use Rattle.type_linkage.proofs.Declaring.{unfit_is}
use Rattle.type_linkage.proofs.functions.declare_function.Goals as goal

pub returns-then-not-branch-clause-reads : goal.returns-then-not-branch-clause-reads
returns-then-not-branch-clause-reads c n one env other =
    unfit_is n one c.args.source.now c.args.state.now env c.args.at c.symbol.result (signature_of c.args.ty) (given_of c.args.linkage)
    c.library_of-library.result c.is_internal-internal.result c.symbol.ensures
    (c.library_of-library.ensures ∙ ap (library_of c.is_internal-internal.result) c.spelling.ensures)
    (c.is_internal-internal.ensures n ∙ ap (λ o. is_internal (given_of c.args.linkage) (option_map (linked_seen n) o)) c.prior.ensures)
    (sym c.in_ok-fits_library.ensures ∙ c.if-not-branch.true)

pub returns-clause-reads : goal.returns-clause-reads
returns-clause-reads c n one env =
    c.function_number.ensures.reads n one env
    (c.library_of-library.ensures ∙ ap (library_of c.is_internal-internal.result) c.spelling.ensures
    ∙ ap (λ b. library_of b (text_at c.args.source.now c.args.at))
    (c.is_internal-internal.ensures n ∙ ap (λ o. is_internal (given_of c.args.linkage) (option_map (linked_seen n) o)) c.prior.ensures
    ∙ ap (λ x. is_internal (given_of c.args.linkage) (option_map (linked_seen n) (prior_in c.args.state.now x))) c.symbol.ensures))
    (sym c.in_ok-fits_library.ensures ∙ c.if-not-branch.false)
