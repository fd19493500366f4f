use Rattle.std.proofs.Common.{◌≡◌, ◌++◌, ℕ, codes, decimal, length, subst}
use Rattle.audit_verdict.proofs.Texts.{counts_grown, on_ok}
use Rattle.audit_verdict.proofs.finding.put_clean.Goals as goal

pub returns : goal.returns
returns c = on_ok c.append-2.result
    (λ grown. counts_grown c.args.out.now (codes "clean\nexit ") (decimal c.args.status) (codes "\noutput ") (decimal (length c.args.output.now))
    (codes "\n") c.args.output.now
    c.put_counted.new.out c.put_counted-2.new.out c.append.new.self c.append-2.new.self
    (subst (λ (s : ℕ). c.put_counted.new.out ≡ c.args.out.now ++ (codes "clean\nexit " ++ decimal s)) c.from.ensures c.in_ok-put_counted.ensures)
    c.in_ok-put_counted-2.ensures c.in_ok-append.ensures.ok grown)
    c.append-2.ensures.ok
