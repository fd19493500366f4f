use Rattle.std.proofs.Common.{◌≤◌, length, sym, arith}
use Rattle.type_name_space.proofs.Links.{set_renamed, renamed_past}
use Rattle.type_name_space.proofs.space.rename.Goals as goal

pub returns-then-at-len : goal.returns-then-at-len
returns-then-at-len g c = set_renamed c.args.bindings.now.items c.args.at c.index_mut.result.now c.args.meaning c.index_mut.ensures.value

pub returns-else-at-len : goal.returns-else-at-len
returns-else-at-len g c =
    let past : length c.args.bindings.now.items ≤ c.args.at = omega arith in
    sym (renamed_past c.args.bindings.now.items c.args.at c.args.meaning past)
