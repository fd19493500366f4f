use Rattle.std.proofs.Common.{◌+◌, ◌≤◌, arith}
use Rattle.addr_map.specs.Rows.{free_of}
use Rattle.libc_arguments.proofs.Checking.{row_ends}
use Rattle.libc_print.proofs.strings.size_of.Goals as goal

pub returns-in-Some-clause-low : goal.returns-in-Some-clause-low
returns-in-Some-clause-low c =
    let end : c.in-Some.row.base + c.in-Some.row.size ≤ free_of c.map.result.now = row_ends c.map.result.now c.args.object c.in-Some.row c.in-Some.ensures.row
    in
    omega (arith, c.in-Some.ensures.end)
