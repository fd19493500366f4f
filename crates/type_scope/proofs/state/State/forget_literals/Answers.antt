use Rattle.std.proofs.Common.{map, ap, ◌∙◌, sym}
use Rattle.std.proofs.lemmas.List.{take-map}
use Rattle.type_scope.specs.declared.literals.Literal.{Literal}
use Rattle.type_scope.specs.Numbered.{literal_bytes}
use Rattle.type_scope.proofs.Numbered.{named_before}
use Rattle.type_scope.proofs.state.State.forget_literals.Goals as goal

pub returns-clause-literals : goal.returns-clause-literals
returns-clause-literals c =
    let bytes = λ (l : Literal). l.bytes in
    ap (map bytes) c.truncate.ensures.items ∙ sym (take-map bytes c.args.mark.literals ((c.args.self.now).literals).items)

pub returns-clause-named : goal.returns-clause-named
returns-clause-named c bytes_at names all =
    let bytes = λ (l : Literal). l.bytes in
    named_before bytes_at names c.args.mark.literals (literal_bytes c.args.self.now) _
    (ap (map bytes) c.truncate.ensures.items ∙ sym (take-map bytes c.args.mark.literals ((c.args.self.now).literals).items)) all
