-- The first two rows determine the stride, and so the longest run.
use Rattle.std.proofs.Common.{arith}
use Rattle.certificate_writing.proofs.Runs.{bound_by, few_rows, longest, no_stride, none_longer, there}
use Rattle.certificate_writing.proofs.longest.longest_run.Goals as goal

pub returns-in_err-stride-clause-short : goal.returns-in_err-stride-clause-short
returns-in_err-stride-clause-short c = λ none run begins.
    let few = none_longer c.args.rows.now _ _ 1 c.stride_of.result run (there c.args.rows.now 0 _ _ (omega arith)) (there c.args.rows.now 1 _ _ (omega arith))
    c.stride_of.ensures.only (λ stride is. absurd (no_stride c.stride_of.result stride c.in_err-stride.was is)) (omega arith) begins in
    omega (arith, few)

pub returns-then-count-lt3-clause-short : goal.returns-then-count-lt3-clause-short
returns-then-count-lt3-clause-short c = λ none run begins.
    let few = none_longer c.args.rows.now _ _ 2 c.stride_of.result run (there c.args.rows.now 0 _ _ (omega arith)) (there c.args.rows.now 1 _ _ (omega arith))
    c.stride_of.ensures.only (bound_by c.args.rows.now _ 2 c.stride_of.result c.in_ok-stride.stride c.in_ok-stride.was
    (λ n is. let most = c.run_len-count.ensures.longest n is in omega (arith, most))) (omega arith) begins in
    omega (arith, few)

pub returns-clause-found : goal.returns-clause-found
returns-clause-found c =
    longest c.args.rows.now _ (record { apart = c.in_ok-stride.ensures.apart; stands = c.run_len-count.ensures.stands })
    (λ run begins. none_longer c.args.rows.now _ _ c.run_len-count.result c.stride_of.result run (there c.args.rows.now 0 _ _ (omega arith))
    (there c.args.rows.now 1 _ _ (omega arith))
    c.stride_of.ensures.only (bound_by c.args.rows.now _ c.run_len-count.result c.stride_of.result c.in_ok-stride.stride c.in_ok-stride.was
    c.run_len-count.ensures.longest) (omega arith) begins)

pub returns-then-rows-lt3-clause-short : goal.returns-then-rows-lt3-clause-short
returns-then-rows-lt3-clause-short c = λ none run begins. few_rows c.args.rows.now run (omega arith) begins
