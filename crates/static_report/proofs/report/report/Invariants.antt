use Rattle.std.proofs.Common.{◌≡◌, ◌++◌, drop}
use Rattle.static_report.specs.Report.{all_lines}
use Rattle.static_report.proofs.report.report.Given as goal

-- the lines so far, and those of the verdicts that are left
abbrev pub invariant-loop-verdict : goal.invariant-loop-verdict
invariant-loop-verdict l = l.text ++ all_lines (drop l.verdict-index l.said) ≡ all_lines l.said
