use Rattle.std.proofs.Common.{◌∙◌, ap, [], Some, Ok, map, arith}
use Rattle.c_types.specs.Types.{type_of}
use Rattle.prov_memory.proofs.KeepLemmas.{keeps_types}
use Rattle.mem_objects.proofs.TagLemmas.{unnumbered}
use Rattle.prov_memory.proofs.memory.Memory.type_id.Goals as goal

pub returns-in-Some-clause-known : goal.returns-in-Some-clause-known
returns-in-Some-clause-known c = omega (arith, (c.in-Some.ensures.some []).1)

pub returns-clause-listed : goal.returns-clause-listed
returns-clause-listed c = λ n e.
    absurd (unnumbered (map type_of c.args.self.now.types) (type_of c.args.ty.now) n (c.kind_id.ensures.plain c.in_default.is)
    (c.listed_type.ensures.none (c.in_ok-id.was ∙ ap Ok c.in_default-2.is)) (e ∙ ap Some (c.kind_id.ensures.none c.in_default.is)))

pub returns-clause-kept : goal.returns-clause-kept
returns-clause-kept c = keeps_types c.args.self.now c.add_type.new.self c.add_type.ensures.more
