use Rattle.std.proofs.Common.{ap, ◌∙◌, false, refl, subst}
use Rattle.c_types.specs.Types.{qualified_of}
use Rattle.c_typed.specs.declared.tree.Slot.TheVariants as slot
use Rattle.typing_env.specs.Env.{Object, an_object}
use Rattle.typing_env.specs.Names.{new_object, with_object, changing_object, first_of}
use Rattle.type_scope.specs.declared.state.State.{State}
use Rattle.type_scope.specs.Known.{known_by}
use Rattle.type_scope.specs.Objects.{HasObjects}
use Rattle.type_linkage.proofs.Declaring.{static_known, static_is, static_refused}
use Rattle.type_linkage.proofs.Linking.{is_known}
use Rattle.type_linkage.proofs.ObjectRows.{names_has}
use Rattle.type_linkage.proofs.UsedRows.{names_used, unused_named}
use Rattle.type_linkage.proofs.objects.declare_local_static.Goals as goal

pub returns-in-Ok-clause-reads : goal.returns-in-Ok-clause-reads
returns-in-Ok-clause-reads c n named env known =
    let q = qualified_of c.args.qual in
    let e = static_known c.args.at q env in (
      known_by n c.args.source.now c.declare.new.self e,
      static_is n c.args.source.now c.args.state.now c.define_object.new.self c.declare.new.self env c.args.at c.in_ok-number.number q
          (qualified_of c.in_ok-copy.copy) known
          (λ e. ap (λ (s : State). known_by n c.args.source.now s e) c.define_object.ensures.rest
          ∙ ap (λ (s : State). known_by n c.args.source.now s e) c.in_ok-number.ensures.rest)
          named c.in_ok-copy.ensures (λ e. c.in-Ok.ensures.reads n e),
      is_known n c.args.source.now c.declare.new.self (known_by n c.args.source.now c.declare.new.self e) e refl,
    )

pub returns-in-Err-clause-reads : goal.returns-in-Err-clause-reads
returns-in-Err-clause-reads c n named env known other =
    static_refused n c.args.source.now c.args.state.now c.define_object.new.self env c.args.at (qualified_of c.args.qual)
    (an_object (slot.Static (n c.in_ok-number.number)) (qualified_of c.in_ok-copy.copy) false) known
    (λ e. ap (λ (s : State). known_by n c.args.source.now s e) (c.define_object.ensures.rest)
    ∙ ap (λ (s : State). known_by n c.args.source.now s e) c.in_ok-number.ensures.rest)
    (λ e. c.in-Err.ensures.reads n e other)

pub returns-in-Ok-clause-rows : goal.returns-in-Ok-clause-rows
returns-in-Ok-clause-rows c n one named env known has new =
    let q = qualified_of c.args.qual in
    let e = static_known c.args.at q env in
    let f : Object → Object = λ o. record o { defined = first_of o.defined c.args.at } in (
      known_by n c.args.source.now c.declare.new.self e,
      static_is n c.args.source.now c.args.state.now c.define_object.new.self c.declare.new.self env c.args.at c.in_ok-number.number q
          (qualified_of c.in_ok-copy.copy) known
          (λ e. ap (λ (s : State). known_by n c.args.source.now s e) c.define_object.ensures.rest
          ∙ ap (λ (s : State). known_by n c.args.source.now s e) c.in_ok-number.ensures.rest)
          named c.in_ok-copy.ensures (λ e. c.in-Ok.ensures.reads n e),
      names_has n c.define_object.new.self c.declare.new.self e c.declare.ensures.rest
          (subst (λ m. HasObjects n c.define_object.new.self (changing_object m f (with_object (new_object c.args.at q) env))) named
          (c.define_object.ensures.rows n one (with_object (new_object c.args.at q) env) c.args.at
          (c.in_ok-number.ensures.rows n one env (new_object c.args.at q) has new named (c.new.ensures.row c.args.at)))),
    )

pub returns-in-Err-clause-rows : goal.returns-in-Err-clause-rows
returns-in-Err-clause-rows c n one named env known has new other =
    static_refused n c.args.source.now c.args.state.now c.define_object.new.self env c.args.at (qualified_of c.args.qual)
    (an_object (slot.Static (n c.in_ok-number.number)) (qualified_of c.in_ok-copy.copy) false) known
    (λ e. ap (λ (s : State). known_by n c.args.source.now s e) (c.define_object.ensures.rest)
    ∙ ap (λ (s : State). known_by n c.args.source.now s e) c.in_ok-number.ensures.rest)
    (λ e. c.in-Err.ensures.reads n e other)

pub returns-in-Ok-clause-uses : goal.returns-in-Ok-clause-uses
returns-in-Ok-clause-uses c n named us places unused has =
    names_used n c.define_object.new.self c.declare.new.self us c.declare.ensures.rest
    (c.define_object.ensures.uses n us
    (c.in_ok-number.ensures.uses n us places c.new.ensures.unused (unused_named (n c.in_ok-number.number) c.args.at us named unused) has))
