use Rattle.std.proofs.Common.{◌≡◌, ◌+◌, ◌≤◌, drop}
use Rattle.static_report.specs.Report.{unknown}
use Rattle.static_report.proofs.report.unknown.Given as goal

-- those so far, and those that are left
abbrev pub invariant-loop-verdict : goal.invariant-loop-verdict
invariant-loop-verdict l = record {
  count : l.count + unknown (drop l.verdict-index l.said) ≡ unknown l.said;
  within : l.count ≤ l.verdict-index;
}
