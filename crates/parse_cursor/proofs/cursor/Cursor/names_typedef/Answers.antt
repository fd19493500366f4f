use Rattle.std.proofs.Common.{◌<◌, length, ap, ◌∙◌, arith}
use Rattle.std.proofs.lemmas.Grind.{get_or_default_zero}
use Rattle.parse_cursor.specs.Declarations.{is_typedef_in, names_typedef}
use Rattle.parse_cursor.proofs.Cursors.{same_typedef}
use Rattle.parse_cursor.proofs.cursor.Cursor.names_typedef.Goals as goal

pub returns-then-at-len : goal.returns-then-at-len
returns-then-at-len c = λ h.
    let within : c.args.at < length c.self.inside.spelled.items = omega arith in
    c.is_typedef.ensures
    ∙ ap (is_typedef_in c.self.inside.scope) (c.index.ensures ∙ get_or_default_zero c.self.inside.spelled.items c.args.at c.index.result.now within)
    ∙ same_typedef c.self.inside.tokens.now c.self.inside.at c.self.inside.spelled.items c.self.inside.scope c.self.inside.prototype.items c.args.at
    c.self.invariant within
    ∙ ap (names_typedef c.args.at) c.self.view_is
