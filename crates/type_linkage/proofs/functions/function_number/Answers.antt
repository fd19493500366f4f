use Rattle.std.proofs.Common.{ap, ◌∙◌, sym}
use Rattle.std.specs.Option.{option_map}
use Rattle.c_lex.specs.TokenText.{text_at}
use Rattle.c_types.specs.Types.{qualified_of, signature_of}
use Rattle.typing_env.specs.Names.{number_of_function, redeclared, library_of, is_internal}
use Rattle.type_scope.specs.declared.rows.Linked.{Linked}
use Rattle.type_scope.specs.Known.{known_by, linked_seen}
use Rattle.type_linkage.specs.Linkage.{given_of, entity_in, prior_in, redeclared_seen}
use Rattle.type_linkage.proofs.Linking.{nothing_known, something_known, function_seen}
use Rattle.type_linkage.proofs.Declaring.{function_refused, function_made, function_more, function_other, spelled_is}
use Rattle.type_linkage.proofs.UsedRows.{names_used}
use Rattle.type_linkage.proofs.functions.function_number.Goals as goal

pub returns-in-Err-clause-reads : goal.returns-in-Err-clause-reads
returns-in-Err-clause-reads c n one env which fits other =
    let k = known_by n c.args.source.now c.args.state.now env in
    function_refused c.args.at (signature_of c.args.ty.now) (given_of c.args.linkage) k
    (ap (λ q. redeclared c.args.at q (given_of c.args.linkage) k) (sym c.in_ok-qual.ensures) ∙ c.in-Err.ensures.reads n one env other)

pub returns-in-None-clause-reads : goal.returns-in-None-clause-reads
returns-in-None-clause-reads c n one env which fits =
    let none = nothing_known (λ (l : Linked). l.target) (entity_in c.args.state.now c.in-Ok.found.symbol) (sym c.in-Ok.ensures.target ∙ c.in-None.is) in
    function_made n c.args.source.now c.args.state.now c.new_function.new.state c.bind_function.new.state env c.args.at c.in_ok-number-in-None.number
    c.in-Ok.found.symbol (signature_of c.args.ty.now) (qualified_of c.in_ok-qual.qual) (qualified_of c.in-Ok.found.seen) (given_of c.args.linkage)
    c.in-Ok.found.internal (option_map (linked_seen n) (entity_in c.args.state.now c.in-Ok.found.symbol)) c.args.library c.in_ok-qual.ensures
    c.in_ok-number-in-None.ensures.number (c.in-Ok.ensures.reads n one env)
    (ap (λ b. library_of b (text_at c.args.source.now c.args.at))
    (c.in-Ok.ensures.internal n
    ∙ ap (λ x. is_internal (given_of c.args.linkage) (option_map (linked_seen n) (prior_in c.args.state.now x))) c.in-Ok.ensures.symbol)
    ∙ sym which)
    fits (ap (option_map (linked_seen n)) none) (λ e. c.in_ok-number-in-None.ensures.known n c.args.source.now e)
    (λ e. c.in_ok-bind_function-in-None.ensures.known n c.args.source.now e)

pub returns-in_default-clause-reads : goal.returns-in_default-clause-reads
returns-in_default-clause-reads c n one env which fits other =
    let k = known_by n c.args.source.now c.args.state.now env in
    let p = something_known (λ (l : Linked). l.target) (entity_in c.args.state.now c.in-Ok.found.symbol) c.in-Some.target
    (sym c.in-Ok.ensures.target ∙ c.in-Some.is) in
    function_other c.args.at (signature_of c.args.ty.now) (given_of c.args.linkage) k (redeclared_seen n c.args.state.now c.in-Ok.found) c.args.library
    (linked_seen n p.0)
    (ap (λ q. redeclared c.args.at q (given_of c.args.linkage) k) (sym c.in_ok-qual.ensures) ∙ c.in-Ok.ensures.reads n one env)
    (ap (library_of c.in-Ok.found.internal) (spelled_is n c.args.source.now c.args.state.now env c.args.at)
    ∙ ap (λ b. library_of b (text_at c.args.source.now c.args.at))
    (c.in-Ok.ensures.internal n
    ∙ ap (λ x. is_internal (given_of c.args.linkage) (option_map (linked_seen n) (prior_in c.args.state.now x))) c.in-Ok.ensures.symbol)
    ∙ sym which)
    fits (ap (option_map (linked_seen n)) p.1.0)
    (function_seen n (p.0).target ∙ ap number_of_function p.1.1 ∙ sym c.function_in.ensures ∙ c.in_default.is)

pub returns-clause-reads : goal.returns-clause-reads
returns-clause-reads c n one env which fits =
    let p = something_known (λ (l : Linked). l.target) (entity_in c.args.state.now c.in-Ok.found.symbol) c.in-Some.target
    (sym c.in-Ok.ensures.target ∙ c.in-Some.is) in
    function_more n c.args.source.now c.args.state.now c.further_function.new.state c.bind_function-in-Some.new.state env c.args.at
    c.in-Some-function_in.number c.in-Ok.found.symbol (signature_of c.args.ty.now) (qualified_of c.in_ok-qual.qual) (qualified_of c.in-Ok.found.seen)
    (given_of c.args.linkage) c.in-Ok.found.internal (option_map (linked_seen n) (entity_in c.args.state.now c.in-Ok.found.symbol)) (linked_seen n p.0)
    c.args.library c.in_ok-qual.ensures (c.in-Ok.ensures.reads n one env)
    (ap (λ b. library_of b (text_at c.args.source.now c.args.at))
    (c.in-Ok.ensures.internal n
    ∙ ap (λ x. is_internal (given_of c.args.linkage) (option_map (linked_seen n) (prior_in c.args.state.now x))) c.in-Ok.ensures.symbol)
    ∙ sym which)
    fits (ap (option_map (linked_seen n)) p.1.0)
    (function_seen n (p.0).target ∙ ap number_of_function p.1.1 ∙ sym c.function_in.ensures ∙ c.in-Some-function_in.is)
    (λ e. c.in_ok-further_function-in-Some.ensures.known n c.args.source.now e)
    (λ e. c.in_ok-bind_function-in-Some.ensures.known n c.args.source.now e)

pub returns-in-None-clause-uses : goal.returns-in-None-clause-uses
returns-in-None-clause-uses c n us unused has =
    names_used n c.new_function.new.state c.bind_function.new.state us c.bind_function.ensures.rest (c.in_ok-number-in-None.ensures.uses n us unused has)

pub returns-clause-uses : goal.returns-clause-uses
returns-clause-uses c n us unused has =
    names_used n c.further_function.new.state c.bind_function-in-Some.new.state us c.bind_function-in-Some.ensures.rest
    (c.in_ok-further_function-in-Some.ensures.uses n us has)
