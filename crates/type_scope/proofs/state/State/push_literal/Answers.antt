use Rattle.std.proofs.Common.{map, ap, ◌∙◌, sym, ◌∷◌, []}
use Rattle.std.proofs.lemmas.List.{map-append, length-map}
use Rattle.type_scope.specs.declared.literals.Literal.{Literal}
use Rattle.type_scope.proofs.state.State.push_literal.Goals as goal

pub returns-clause-literals : goal.returns-clause-literals
returns-clause-literals c =
    let bytes = λ (l : Literal). l.bytes in
    ap (map bytes) c.in_ok-push.ensures.items ∙ map-append bytes ((c.args.self.now).literals).items (c.args.literal ∷ [])
