use Rattle.std.proofs.Common.{sym, subst, List}
use Rattle.exposure.specs.declared.prov.Prov.{Prov}
use Rattle.mem_objects.specs.Sound.{AllMade}
use Rattle.mem_objects.specs.Cells.{prov_numbered}
use Rattle.prov_memory.proofs.FindLemmas.{look_up_created}
use Rattle.mem_objects.proofs.SoundLemmas.{more_made, more_sound}
use Rattle.prov_memory.proofs.KeepLemmas.{keeps_more}
use Rattle.prov_memory.proofs.memory.Memory.look_up.Goals as goal

pub returns-clause-value : goal.returns-clause-value
returns-clause-value c =
    c.in_ok-make.ensures.made (look_up_created c.args.self.now c.args.who c.choose-prov.result c.covering-inside.result.0 c.covering-inside.result.1
    c.found.result c.found-2.result c.found.ensures c.found-2.ensures c.choose-prov.ensures)

pub returns-clause-sound : goal.returns-clause-sound
returns-clause-sound c =
    more_sound c.args.self.now c.make.new.self c.make.ensures.more
    (λ made. c.make.ensures.each c.make.new.self
    (c.in_ok-make.ensures.made (look_up_created c.args.self.now c.args.who c.choose-prov.result c.covering-inside.result.0 c.covering-inside.result.1
    c.found.result c.found-2.result c.found.ensures c.found-2.ensures c.choose-prov.ensures))
    (λ n. more_made c.args.self.now c.make.new.self c.make.ensures.more (prov_numbered c.args.self.now.origins n) (made n)))

pub returns-in_err-make-clause-sound : goal.returns-in_err-make-clause-sound
returns-in_err-make-clause-sound c =
    more_sound c.args.self.now c.make.new.self c.make.ensures.more
    (λ made. subst (λ (ps : List Prov). AllMade c.make.new.self ps) (sym c.in_err-make.ensures.err)
    (λ n. more_made c.args.self.now c.make.new.self c.make.ensures.more (prov_numbered c.args.self.now.origins n) (made n)))

pub returns-clause-kept : goal.returns-clause-kept
returns-clause-kept c = keeps_more c.args.self.now c.make.new.self c.make.ensures.more (returns-clause-sound c)

pub returns-in_err-make-clause-kept : goal.returns-in_err-make-clause-kept
returns-in_err-make-clause-kept c = keeps_more c.args.self.now c.make.new.self c.make.ensures.more (returns-in_err-make-clause-sound c)
