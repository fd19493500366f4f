use Rattle.c_model.proofs.Later.{nothing_new}
use Rattle.c_model.proofs.order.law_later_choice.Goals as goal

pub returns : goal.returns
returns c = λ root taken done later v l r u h. nothing_new root taken later l.kept done v l.fresh r.due r.earlier u h
