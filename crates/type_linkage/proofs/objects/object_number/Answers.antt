use Rattle.std.proofs.Common.{ap, ◌∙◌, sym, refl}
use Rattle.std.specs.Option.{option_map}
use Rattle.c_types.specs.Types.{qualified_of}
use Rattle.typing_env.specs.Names.{declare_object, name_of_object, with_further}
use Rattle.type_scope.specs.declared.rows.Linked.{Linked}
use Rattle.type_scope.specs.Known.{known_by, linked_seen}
use Rattle.type_linkage.specs.Linkage.{given_of, entity_in, redeclared_seen}
use Rattle.type_linkage.proofs.Linking.{nothing_known, something_known, object_seen}
use Rattle.type_linkage.proofs.Declaring.{object_refused, object_made, object_more, object_other}
use Rattle.type_linkage.proofs.ObjectRows.{rows_made, rows_more}
use Rattle.type_linkage.proofs.UsedRows.{names_used, unused_named}
use Rattle.type_linkage.proofs.objects.object_number.Goals as goal

pub returns-in-Err-clause-reads : goal.returns-in-Err-clause-reads
returns-in-Err-clause-reads c n one named env known other =
    ap (declare_object c.args.at (qualified_of c.args.qual.now) (given_of c.args.linkage)) known
    ∙ object_refused c.args.at (qualified_of c.args.qual.now) (given_of c.args.linkage) (known_by n c.args.source.now c.args.state.now env)
    (c.in-Err.ensures.reads n one env other)

pub returns-in_ok-bind_object-in-None-clause-reads : goal.returns-in_ok-bind_object-in-None-clause-reads
returns-in_ok-bind_object-in-None-clause-reads c n one named env known =
    let none = nothing_known (λ (l : Linked). l.target) (entity_in c.args.state.now c.in-Ok.found.symbol) (sym c.in-Ok.ensures.target ∙ c.in-None.is) in
    object_made n c.args.source.now c.args.state.now c.new_object.new.state c.bind_object.new.state env c.args.at c.in_ok-number-in-None.number
    c.in-Ok.found.symbol (qualified_of c.args.qual.now) (qualified_of c.in-Ok.found.seen) (given_of c.args.linkage) c.in-Ok.found.internal
    (option_map (linked_seen n) (entity_in c.args.state.now c.in-Ok.found.symbol)) known (c.in-Ok.ensures.reads n one env)
    (ap (option_map (linked_seen n)) none) (λ e. c.in_ok-number-in-None.ensures.known n c.args.source.now e)
    (λ e. c.in_ok-bind_object-in-None.ensures.known n c.args.source.now e)
    (named (ap (entity_in c.args.state.now) (sym c.in-Ok.ensures.symbol) ∙ none))

pub returns-in_default-clause-reads : goal.returns-in_default-clause-reads
returns-in_default-clause-reads c n one named env known other =
    let p = something_known (λ (l : Linked). l.target) (entity_in c.args.state.now c.in-Ok.found.symbol) c.in-Some.target
    (sym c.in-Ok.ensures.target ∙ c.in-Some.is) in
    ap (declare_object c.args.at (qualified_of c.args.qual.now) (given_of c.args.linkage)) known
    ∙ object_other c.args.at (qualified_of c.args.qual.now) (given_of c.args.linkage) (known_by n c.args.source.now c.args.state.now env)
    (redeclared_seen n c.args.state.now c.in-Ok.found) (linked_seen n p.0) (c.in-Ok.ensures.reads n one env) (ap (option_map (linked_seen n)) p.1.0)
    (object_seen n (p.0).target ∙ ap (λ t. option_map n (name_of_object t)) p.1.1 ∙ ap (option_map n) (sym c.object_in.ensures ∙ c.in_default.is))

pub returns-in_ok-bind_object-in-Some-clause-reads : goal.returns-in_ok-bind_object-in-Some-clause-reads
returns-in_ok-bind_object-in-Some-clause-reads c n one named env known =
    let p = something_known (λ (l : Linked). l.target) (entity_in c.args.state.now c.in-Ok.found.symbol) c.in-Some.target
    (sym c.in-Ok.ensures.target ∙ c.in-Some.is) in
    object_more n c.args.source.now c.args.state.now c.further_object.new.state c.bind_object-in-Some.new.state env c.args.at
    c.in-Some-object_in.number c.in-Ok.found.symbol (qualified_of c.args.qual.now) (qualified_of c.in-Ok.found.seen) (given_of c.args.linkage)
    c.in-Ok.found.internal (option_map (linked_seen n) (entity_in c.args.state.now c.in-Ok.found.symbol)) (linked_seen n p.0) known
    (c.in-Ok.ensures.reads n one env) (ap (option_map (linked_seen n)) p.1.0)
    (object_seen n (p.0).target ∙ ap (λ t. option_map n (name_of_object t)) p.1.1 ∙ ap (option_map n) (sym c.object_in.ensures ∙ c.in-Some-object_in.is))
    (λ e. c.in_ok-further_object-in-Some.ensures.known n c.args.source.now e)
    (λ e. c.in_ok-bind_object-in-Some.ensures.known n c.args.source.now e)

pub returns-in-Err-clause-rows : goal.returns-in-Err-clause-rows
returns-in-Err-clause-rows c n one named env known has none other =
    ap (declare_object c.args.at (qualified_of c.args.qual.now) (given_of c.args.linkage)) known
    ∙ object_refused c.args.at (qualified_of c.args.qual.now) (given_of c.args.linkage) (known_by n c.args.source.now c.args.state.now env)
    (c.in-Err.ensures.reads n one env other)

pub returns-in_ok-bind_object-in-None-clause-rows : goal.returns-in_ok-bind_object-in-None-clause-rows
returns-in_ok-bind_object-in-None-clause-rows c n one named env known has new =
    let none = nothing_known (λ (l : Linked). l.target) (entity_in c.args.state.now c.in-Ok.found.symbol) (sym c.in-Ok.ensures.target ∙ c.in-None.is) in
    let is = named (ap (entity_in c.args.state.now) (sym c.in-Ok.ensures.symbol) ∙ none) in
    rows_made n c.args.source.now c.args.state.now c.new_object.new.state c.bind_object.new.state env c.args.at c.in_ok-number-in-None.number
    c.in-Ok.found.symbol (qualified_of c.args.qual.now) (qualified_of c.in-Ok.found.seen) (given_of c.args.linkage) c.in-Ok.found.internal
    (option_map (linked_seen n) (entity_in c.args.state.now c.in-Ok.found.symbol)) known (c.in-Ok.ensures.reads n one env)
    (ap (option_map (linked_seen n)) none) is (c.in_ok-number-in-None.ensures.rows n one env c.args.at has new is)
    c.in_ok-bind_object-in-None.ensures.rest

pub returns-in_default-clause-rows : goal.returns-in_default-clause-rows
returns-in_default-clause-rows c n one named env known has none other =
    let p = something_known (λ (l : Linked). l.target) (entity_in c.args.state.now c.in-Ok.found.symbol) c.in-Some.target
    (sym c.in-Ok.ensures.target ∙ c.in-Some.is) in
    ap (declare_object c.args.at (qualified_of c.args.qual.now) (given_of c.args.linkage)) known
    ∙ object_other c.args.at (qualified_of c.args.qual.now) (given_of c.args.linkage) (known_by n c.args.source.now c.args.state.now env)
    (redeclared_seen n c.args.state.now c.in-Ok.found) (linked_seen n p.0) (c.in-Ok.ensures.reads n one env) (ap (option_map (linked_seen n)) p.1.0)
    (object_seen n (p.0).target ∙ ap (λ t. option_map n (name_of_object t)) p.1.1 ∙ ap (option_map n) (sym c.object_in.ensures ∙ c.in_default.is))

pub returns-in_ok-bind_object-in-Some-clause-rows : goal.returns-in_ok-bind_object-in-Some-clause-rows
returns-in_ok-bind_object-in-Some-clause-rows c n one named env known has none =
    let p = something_known (λ (l : Linked). l.target) (entity_in c.args.state.now c.in-Ok.found.symbol) c.in-Some.target
    (sym c.in-Ok.ensures.target ∙ c.in-Some.is) in
    rows_more n c.args.source.now c.args.state.now c.further_object.new.state c.bind_object-in-Some.new.state env c.args.at
    c.in-Some-object_in.number c.in-Ok.found.symbol (qualified_of c.args.qual.now) (qualified_of c.in-Ok.found.seen) (given_of c.args.linkage)
    c.in-Ok.found.internal (option_map (linked_seen n) (entity_in c.args.state.now c.in-Ok.found.symbol)) (linked_seen n p.0) known
    (c.in-Ok.ensures.reads n one env) (ap (option_map (linked_seen n)) p.1.0)
    (object_seen n (p.0).target ∙ ap (λ t. option_map n (name_of_object t)) p.1.1 ∙ ap (option_map n) (sym c.object_in.ensures ∙ c.in-Some-object_in.is))
    (c.in_ok-further_object-in-Some.ensures.rows n one
    (with_further c.in-Ok.found.symbol (qualified_of c.args.qual.now) (known_by n c.args.source.now c.args.state.now env)) refl has)
    c.in_ok-bind_object-in-Some.ensures.rest

pub returns-in_ok-bind_object-in-None-clause-uses : goal.returns-in_ok-bind_object-in-None-clause-uses
returns-in_ok-bind_object-in-None-clause-uses c n named us places unused has =
    let none = nothing_known (λ (l : Linked). l.target) (entity_in c.args.state.now c.in-Ok.found.symbol) (sym c.in-Ok.ensures.target ∙ c.in-None.is) in
    let is = named (ap (entity_in c.args.state.now) (sym c.in-Ok.ensures.symbol) ∙ none) in
    names_used n c.new_object.new.state c.bind_object.new.state us c.in_ok-bind_object-in-None.ensures.rest
    (c.in_ok-number-in-None.ensures.uses n us places (unused_named (n c.in_ok-number-in-None.number) c.args.at us is unused) has)

pub returns-in_ok-bind_object-in-Some-clause-uses : goal.returns-in_ok-bind_object-in-Some-clause-uses
returns-in_ok-bind_object-in-Some-clause-uses c n named us places unused has =
    names_used n c.further_object.new.state c.bind_object-in-Some.new.state us c.in_ok-bind_object-in-Some.ensures.rest
    (c.in_ok-further_object-in-Some.ensures.uses n us has)
