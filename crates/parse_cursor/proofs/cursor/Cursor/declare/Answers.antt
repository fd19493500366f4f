use Rattle.std.proofs.Common.{◌≡◌, ◌<◌, length, map, subst, ◌∙◌, arith}
use Rattle.std.specs.Prelude.{OnOk}
use Rattle.std.proofs.lemmas.Grind.{get_or_default_zero}
use Rattle.parse_cursor.specs.Declarations.{said, with_name}
use Rattle.parse_cursor.proofs.Cursors.{declared_cursor, declared_view}
use Rattle.parse_cursor.proofs.cursor.Cursor.declare.Goals as goal

pub invariant_of-self : goal.invariant_of-self
invariant_of-self c =
    let within : c.args.at < length c.self.inside.spelled.items = omega arith in
    let name = c.index-name.ensures ∙ get_or_default_zero c.self.inside.spelled.items c.args.at c.index-name.result.now within in
    declared_cursor c.self.inside.tokens.now c.self.inside.at c.self.inside.spelled.items c.self.inside.scope c.declare.new.self c.self.inside.prototype.items
    (record { at = c.args.at; typedef = c.args.typedef }) c.declare.result c.self.invariant within
    (subst (λ n. OnOk c.declare.result (c.declare.new.self ≡ with_name (record { at = c.args.at; typedef = c.args.typedef }) n c.self.inside.scope)) name
    c.declare.ensures.ok)
    c.declare.ensures.err

pub returns-then-at-len-clause-ok : goal.returns-then-at-len-clause-ok
returns-then-at-len-clause-ok c =
    let within : c.args.at < length c.self.inside.spelled.items = omega arith in
    let name = c.index-name.ensures ∙ get_or_default_zero c.self.inside.spelled.items c.args.at c.index-name.result.now within in
    declared_view c.self.inside.tokens.now c.self.inside.at c.self.inside.spelled.items c.self.inside.scope c.declare.new.self
    (map said c.self.inside.prototype.items) c.self.inside.prototype.items (record { at = c.args.at; typedef = c.args.typedef }) c.args.self.now
    c.declare.result c.self.invariant within c.self.view_is
    (subst (λ n. OnOk c.declare.result (c.declare.new.self ≡ with_name (record { at = c.args.at; typedef = c.args.typedef }) n c.self.inside.scope)) name
    c.declare.ensures.ok)
