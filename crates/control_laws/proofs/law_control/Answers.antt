use Rattle.control_laws.proofs.Laws.{laws_of}
use Rattle.control_laws.proofs.Settles.{control_goes_on}
use Rattle.control_laws.proofs.law_control.Goals as goal

pub returns : goal.returns
returns c =
    control_goes_on
    (laws_of c.law_view.ensures.text c.law_blocks.ensures.stand c.law_blocks.ensures.there c.law_blocks.ensures.expressions c.law_labels.ensures
    c.law_named.ensures.placed c.law_views.ensures c.law_named.ensures.root c.law_asked.ensures.code c.law_asked.ensures.labels)
