use Rattle.type_declarators.proofs.ConstantsKept.{begin_symbols, begin_constants}
use Rattle.type_declarators.proofs.tag.law_begin.Goals as goal

pub returns : goal.returns
returns c t s tags rows = (begin_symbols t s tags rows, begin_constants s tags rows)
