use Rattle.std.proofs.Common.{ap, ◌∙◌, Some}
use Rattle.c_types.specs.Shapes.{Form, leaf, repeat}
use Rattle.c_types.specs.Types.{CType}
use Rattle.prov_memory.proofs.KeepLemmas.{keeps_none}
use Rattle.run_standing.proofs.Starting.{created_stands}
use Rattle.run_standing.proofs.Starts.{creates_in, creates_as}
use Rattle.run_standing.proofs.initial.create_text.Goals as goal

pub returns-clause-kept : goal.returns-clause-kept
returns-clause-kept c = c.create.ensures.kept (λ e. absurd (cc))

pub returns-clause-exact : goal.returns-clause-exact
returns-clause-exact c =
    creates_as c.create.result c.args.m.now c.create.new.self c.args.name _ _ _ _ _
    (ap (λ (f : Form). Some f) (c.in_ok-shape.ensures ∙ ap (λ (t : CType). repeat c.args.count 1 (leaf t)) c.character.ensures))
    (creates_in c.create.result c.args.m.now c.create.new.self c.args.name _ _ _ _ _ c.create.new.t c.create.ensures.born c.create.ensures.exact)

pub returns-clause-stands : goal.returns-clause-stands
returns-clause-stands c =
    created_stands c.create.result c.args.m.now c.create.new.self c.args.name _ _ _ _ c.create.ensures.born c.create.ensures.end
    c.create.ensures.whole

pub returns-in_err-shape-clause-kept : goal.returns-in_err-shape-clause-kept
returns-in_err-shape-clause-kept c = keeps_none c.args.m.now
