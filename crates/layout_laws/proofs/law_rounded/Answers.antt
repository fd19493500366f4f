use Rattle.layout_laws.proofs.Rounded.{rounded-multiple, rounded-above, rounded-least}
use Rattle.layout_laws.proofs.law_rounded.Goals as goal

pub returns-clause-multiple : goal.returns-clause-multiple
returns-clause-multiple c = λ align offset positive. rounded-multiple align offset positive

pub returns-clause-above : goal.returns-clause-above
returns-clause-above c = λ align offset. rounded-above align offset

pub returns-clause-least : goal.returns-clause-least
returns-clause-least c = λ align offset n positive above even. rounded-least align offset n positive above even
