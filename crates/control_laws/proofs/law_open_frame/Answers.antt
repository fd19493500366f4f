use Rattle.control_laws.proofs.Laws.{laws_of}
use Rattle.control_laws.proofs.Settles.{open_stands_so}
use Rattle.control_laws.proofs.law_open_frame.Goals as goal

pub returns : goal.returns
returns c =
    open_stands_so
    (laws_of c.law_view.ensures.text c.law_blocks.ensures.stand c.law_blocks.ensures.there c.law_blocks.ensures.expressions c.law_labels.ensures
    c.law_named.ensures.placed c.law_views.ensures c.law_named.ensures.root c.law_asked.ensures.code c.law_asked.ensures.labels)
