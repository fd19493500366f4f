use Rattle.std.proofs.Common.{refl}
use Rattle.telling_laws.proofs.law_samples.Goals as goal

pub returns-clause-sum : goal.returns-clause-sum
returns-clause-sum c = (refl, refl, refl, refl, refl, refl, refl)

pub returns-clause-sum_told : goal.returns-clause-sum_told
returns-clause-sum_told c = (refl, refl, refl, refl, refl)

pub returns-clause-conjunction : goal.returns-clause-conjunction
returns-clause-conjunction c = (refl, refl, refl, refl, refl)

pub returns-clause-conjunction_told : goal.returns-clause-conjunction_told
returns-clause-conjunction_told c = (refl, refl, refl, refl)
