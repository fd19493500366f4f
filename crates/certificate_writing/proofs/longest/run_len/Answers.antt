-- A row is the next one of the run, or the run stops before it.
use Rattle.std.proofs.Common.{◌≡◌, true, false, sym, ◌∙◌, arith, rules}
use Rattle.certificate_writing.proofs.Runs.{stands_more, stands_until, stands_within}
use Rattle.certificate_writing.proofs.longest.run_len.Goals as goal

pub returns-then-not-is_row-clause-longest : goal.returns-then-not-is_row-clause-longest
returns-then-not-is_row-clause-longest c = λ n is.
    stands_until c.args.first c.args.stride c.args.rows.now c.loop-at.at _ n
    (λ here. let on : c.is_row.result ≡ true = c.is_row.ensures.1 (c.row_at.ensures ∙ here) in let off : c.is_row.result ≡ false = search rules in absurd
    (cc)) is

pub loop-at-preserved : goal.loop-at-preserved
loop-at-preserved c =
    let on : c.is_row.result ≡ true = search rules in
    stands_more c.args.first c.args.stride c.args.rows.now c.loop-at.at _ _ c.loop-at.invariant (omega arith) (sym c.row_at.ensures ∙ c.is_row.ensures.0 on)
    (omega arith)

pub returns-clause-longest : goal.returns-clause-longest
returns-clause-longest c = λ n is. stands_within c.args.first c.args.stride c.args.rows.now n is
