use Rattle.std.proofs.Common.{arith}
use Rattle.std.proofs.lemmas.List.{length-map}
use Rattle.std.proofs.lemmas.Option.{slice_get_within}
use Rattle.type_scope.specs.declared.literals.Literal.{Literal}
use Rattle.type_scope.specs.Numbered.{literal_bytes}
use Rattle.type_scope.proofs.Numbered.{length_named, kept_number, kept_named}
use Rattle.type_scope.proofs.state.State.keep_literal.Goals as goal

pub returns-then-number-len-clause-number : goal.returns-then-number-len-clause-number
returns-then-number-len-clause-number c le less =
    let count = length-map ((c.args.self.now).literals).items (λ (l : Literal). l.bytes) in
    let held = ((c.args.self.now).literals).ok.0 in
    absurd (omega (arith, c.if-number-len.true, c.len.ensures, count, held, less))

pub returns-then-number-len-clause-named : goal.returns-then-number-len-clause-named
returns-then-number-len-clause-named c le bytes_at names name is all =
    let count = length-map ((c.args.self.now).literals).items (λ (l : Literal). l.bytes) in
    let held = ((c.args.self.now).literals).ok.0 in
    let within = slice_get_within names c.args.number name is in
    let same = length_named bytes_at names (literal_bytes c.args.self.now) all in
    absurd (omega (arith, c.if-number-len.true, c.len.ensures, count, held, within, same))

pub returns-clause-number : goal.returns-clause-number
returns-clause-number c =
    kept_number c.push_literal.result c.args.mark.literals c.args.number (literal_bytes c.args.self.now) (literal_bytes c.take_literal-kept.new.self)
    c.push_literal.ensures.number c.take_literal-kept.ensures.literals

pub returns-clause-named : goal.returns-clause-named
returns-clause-named c =
    kept_named c.push_literal.result c.args.mark.literals c.args.number (c.take_literal-kept.result).bytes (literal_bytes c.args.self.now)
    (literal_bytes c.take_literal-kept.new.self) (literal_bytes c.push_literal.new.self) c.push_literal.ensures.literals
    c.take_literal-kept.ensures.taken c.take_literal-kept.ensures.literals
