use Rattle.parse_declarators.proofs.Enumerators.{enumerator_reads}
use Rattle.parse_declarators.proofs.nested.Declarators.enumerator.Goals as goal

pub returns : goal.returns
returns g c =
    enumerator_reads c.args.self.now.depth c.args.tokens.now c.identifier.new.tokens c.enumerator_value.new.tokens c.declare.new.self c.in_ok-name.name
    c.in_ok-value.value c.in_ok-value-2.value
    c.declare.result c.kept.result c.in_ok-name.ensures.reads c.in_ok-value.ensures c.declare.ensures.ok c.kept.ensures c.in_ok-value-2.was
