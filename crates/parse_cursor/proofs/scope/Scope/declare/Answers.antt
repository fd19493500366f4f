use Rattle.std.proofs.Common.{◌<◌, ◌≤◌, length, ap, sym, subst, ◌∙◌, arith}
use Rattle.std.specs.Prelude.{slice_set}
use Rattle.parse_cursor.specs.Declarations.{AreKnown, is_typedef_in}
use Rattle.parse_cursor.proofs.Known.{set_more, same_more}
use Rattle.parse_cursor.proofs.scope.Scope.declare.Goals as goal

pub invariant_of-self-then-name-len : goal.invariant_of-self-then-name-len
invariant_of-self-then-name-len c =
    let within : c.args.name < length c.self.inside.typedefs.items = omega arith in
    subst (AreKnown (slice_set c.self.inside.typedefs.items c.args.name c.args.declared.typedef)) (sym c.in_ok-push.ensures.items)
    (set_more c.self.inside.typedefs.items c.self.inside.names.items
    (record { declared = c.args.declared; name = c.args.name; hidden = c.is_typedef-hidden.result })
    c.self.invariant within (c.is_typedef-hidden.ensures ∙ ap (λ d. is_typedef_in d c.args.name) (sym c.self.view_is)))

pub invariant_of-self-else-name-len : goal.invariant_of-self-else-name-len
invariant_of-self-else-name-len c =
    let beyond : length c.self.inside.typedefs.items ≤ c.args.name = omega arith in
    subst (AreKnown c.self.inside.typedefs.items) (sym c.in_ok-push.ensures.items)
    (same_more c.self.inside.typedefs.items c.self.inside.names.items
    (record { declared = c.args.declared; name = c.args.name; hidden = c.is_typedef-hidden.result })
    c.self.invariant beyond (c.is_typedef-hidden.ensures ∙ ap (λ d. is_typedef_in d c.args.name) (sym c.self.view_is)))
