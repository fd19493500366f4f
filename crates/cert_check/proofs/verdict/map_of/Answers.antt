use Rattle.std.proofs.Common.{rules, ◌≡◌, false, slice_index_or}
use Rattle.ub_base.specs.declared.names.ObjName.TheVariants.{Static}
use Rattle.addr_map.specs.declared.map.Row.{Row}
use Rattle.addr_map.specs.Rows.{breaks, insert_row}
use Rattle.cert_check.proofs.verdict.map_of.Goals as goal
use Rattle.cert_check.proofs.Adding.{from_row, one_more}

-- the row that stands for one past the end
abbrev none_there : Row
none_there = record { name = Static 0; base = 0; size = 0; align = 0 }

-- src/verdict.rt:113:5
pub loop-row-preserved : goal.loop-row-preserved
loop-row-preserved c =
    let row = slice_index_or c.args.rows.now c.loop-row.row-index none_there in
    let keeps : breaks c.loop-row.map row ≡ false = search rules in
    let is : c.add.new.self ≡ insert_row row c.loop-row.map = search rules in
    one_more c.loop-row.map c.add.new.self row _ _ _ keeps is (from_row c.args.rows.now c.loop-row.row-index none_there c.loop-row-test.true)
    c.loop-row.invariant
