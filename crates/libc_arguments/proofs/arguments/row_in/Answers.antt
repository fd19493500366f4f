use Rattle.std.proofs.Common.{◌+◌, ◌≤◌, arith}
use Rattle.addr_map.specs.Rows.{free_of}
use Rattle.libc_arguments.proofs.Checking.{row_ends}
use Rattle.libc_arguments.proofs.arguments.row_in.Goals as goal

pub returns-clause-low : goal.returns-clause-low
returns-clause-low c =
    let end : c.in_ok-row.row.base + c.in_ok-row.row.size ≤ free_of c.map.result.now =
    row_ends c.map.result.now c.args.object c.in_ok-row.row c.in_ok-row.ensures.row in
    omega (arith, c.in_ok-row.ensures.end)
