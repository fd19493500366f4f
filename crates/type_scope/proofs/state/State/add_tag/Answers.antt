use Rattle.std.proofs.Common.{◌≡◌, false, ◌++◌, ◌∷◌, [], refl}
use Rattle.type_scope.specs.declared.rows.TagRow.{TagRow}
use Rattle.type_scope.proofs.Uses.{in_any_case}
use Rattle.type_scope.proofs.state.State.add_tag.Goals as goal

pub returns-clause-row : goal.returns-clause-row
returns-clause-row c =
    in_any_case c.declare.result
    ((x : TagRow) × (x.constant ≡ false) × (c.push.new.self.items ≡ ((c.args.self.now).tag_rows).items ++ x ∷ []))
    (record { constant = false; symbols = c.new.result }, refl, c.in_ok-push.ensures.items)
