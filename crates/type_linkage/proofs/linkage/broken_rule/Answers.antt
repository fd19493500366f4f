use Rattle.std.proofs.Common.{◌≡◌, true, false, arith, refl}
use Rattle.std.specs.Prelude.{◌||◌, not, is_some}
use Rattle.std.specs.Option.{option_copied, option_map}
use Rattle.c_types.specs.Types.{qualified_of}
use Rattle.type_name_space.specs.Scopes.{visible, at_depth}
use Rattle.typing_env.specs.Names.{meaning_in, agrees}
use Rattle.type_scope.specs.Known.{linked_seen}
use Rattle.type_linkage.specs.Linkage.{given_of}
use Rattle.type_linkage.proofs.Linking.{rule_is, first_falls, second_falls, third_falls, all_stand}
use Rattle.type_linkage.proofs.linkage.broken_rule.Goals as goal

pub returns-then-not-keeps_linkage : goal.returns-then-not-keeps_linkage
returns-then-not-keeps_linkage c n one t env =
    let off : c.keeps_linkage.result ≡ false = grind (arith, c.if-not-keeps_linkage.true) in
    let taken = meaning_in (at_depth (c.args.state.now).names.depth (visible c.args.symbol (c.args.state.now).names.ordinary)) in
    first_falls _ _ _
    (rule_is n one t c.args.state.now env (qualified_of c.args.qual.now) (given_of c.args.linkage) c.args.symbol (option_copied c.prior-prior.result)
    (option_copied c.entity-entity.result) c.is_internal.result c.keeps_linkage.result (not (is_some taken) || is_some (option_copied c.prior-prior.result))
    c.prior-prior.ensures c.entity-entity.ensures (c.is_internal.ensures n) (c.keeps_linkage.ensures n) refl) off

pub returns-then-not-may_redeclare : goal.returns-then-not-may_redeclare
returns-then-not-may_redeclare c n one t env =
    let on : c.keeps_linkage.result ≡ true = grind (arith, c.if-not-keeps_linkage.false) in
    let off : c.may_redeclare.result ≡ false = grind (arith, c.if-not-may_redeclare.true) in
    second_falls _ _ _ _
    (rule_is n one t c.args.state.now env (qualified_of c.args.qual.now) (given_of c.args.linkage) c.args.symbol (option_copied c.prior-prior.result)
    (option_copied c.entity-entity.result) c.is_internal.result c.keeps_linkage.result c.may_redeclare.result
    c.prior-prior.ensures c.entity-entity.ensures (c.is_internal.ensures n) (c.keeps_linkage.ensures n) c.may_redeclare.ensures) on off

pub returns-then-not-agrees : goal.returns-then-not-agrees
returns-then-not-agrees c n one t env =
    let on : c.keeps_linkage.result ≡ true = grind (arith, c.if-not-keeps_linkage.false) in
    let free : c.may_redeclare.result ≡ true = grind (arith, c.if-not-may_redeclare.false) in
    let off : agrees (qualified_of c.args.qual.now) (option_map (linked_seen n) (option_copied c.entity-entity.result)) ≡ false =
    grind (arith, c.if-not-agrees.true, c.agrees.ensures n) in
    third_falls _ _ _ _
    (rule_is n one t c.args.state.now env (qualified_of c.args.qual.now) (given_of c.args.linkage) c.args.symbol (option_copied c.prior-prior.result)
    (option_copied c.entity-entity.result) c.is_internal.result c.keeps_linkage.result c.may_redeclare.result
    c.prior-prior.ensures c.entity-entity.ensures (c.is_internal.ensures n) (c.keeps_linkage.ensures n) c.may_redeclare.ensures) on free off

pub returns-else-not-agrees : goal.returns-else-not-agrees
returns-else-not-agrees c n one t env =
    let on : c.keeps_linkage.result ≡ true = grind (arith, c.if-not-keeps_linkage.false) in
    let free : c.may_redeclare.result ≡ true = grind (arith, c.if-not-may_redeclare.false) in
    let alike : agrees (qualified_of c.args.qual.now) (option_map (linked_seen n) (option_copied c.entity-entity.result)) ≡ true =
    grind (arith, c.if-not-agrees.false, c.agrees.ensures n) in
    all_stand _ _ _ _
    (rule_is n one t c.args.state.now env (qualified_of c.args.qual.now) (given_of c.args.linkage) c.args.symbol (option_copied c.prior-prior.result)
    (option_copied c.entity-entity.result) c.is_internal.result c.keeps_linkage.result c.may_redeclare.result
    c.prior-prior.ensures c.entity-entity.ensures (c.is_internal.ensures n) (c.keeps_linkage.ensures n) c.may_redeclare.ensures) on free alike
