use Rattle.std.proofs.Common.{◌≡◌, ◌∙◌, ℕ, sym, ap}
use Rattle.mem_objects.specs.Cells.{prov_numbered}
use Rattle.mem_objects.specs.declared.cell.Origin.{Origin}
use Rattle.mem_objects.proofs.PieceLemmas.{named_held}
use Rattle.mem_objects.proofs.SoundLemmas.{whole_within}
use Rattle.prov_memory.proofs.memory.Memory.origin_of.Goals as goal

pub returns-in-Some-clause-prov : goal.returns-in-Some-clause-prov
returns-in-Some-clause-prov c = λ named made.
    let at : c.origin.result.number ≡ c.in-Some.object.now.origin.number = ap (λ (o : Origin). o.number) c.origin.ensures in
    ap (λ (n : ℕ). prov_numbered c.args.self.now.origins n) at
    ∙ named_held c.args.self.now.origins c.args.self.now.objects c.in-Whole.name c.in-Some.object.now named (sym c.in-Some.ensures.object)
    ∙ sym c.in-Whole.is

pub returns-in-Some-clause-number : goal.returns-in-Some-clause-number
returns-in-Some-clause-number c = λ named made.
    whole_within c.args.self.now.origins c.origin.result.number c.args.prov c.in-Whole.name c.in-Whole.is (returns-in-Some-clause-prov c named made)
