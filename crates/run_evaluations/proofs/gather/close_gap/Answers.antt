use Rattle.std.proofs.Common.{sym, subst, ◌∙◌, arith}
use Rattle.std.proofs.lemmas.Option.{slice_get_within}
use Rattle.evaluation_log.specs.Loose.{Thins}
use Rattle.evaluation_log.proofs.LooseWholeLemmas.{thin_take}
use Rattle.run_evaluations.proofs.gather.close_gap.Goals as goal

pub returns-then-to-from-clause-stays : goal.returns-then-to-from-clause-stays
returns-then-to-from-clause-stays c = λ p k low le h. (p, low, h)

pub returns-then-to-len-clause-thins : goal.returns-then-to-len-clause-thins
returns-then-to-len-clause-thins c =
    subst (λ xs. Thins c.args.from c.args.list.now.items xs) (sym c.truncate.ensures.items) (thin_take c.args.from c.args.list.now.items)

pub returns-then-to-len-clause-stays : goal.returns-then-to-len-clause-stays
returns-then-to-len-clause-stays c = λ p k low le h.
    absurd (let w = slice_get_within c.args.list.now.items p k h in let n = c.len.ensures ∙ c.args.list.now.ok.0 in omega (arith, w, le, n, c.if-to-len.true))
