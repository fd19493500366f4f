use Rattle.std.proofs.Common.{◌≡◌, sym, subst, List, None}
use Rattle.addr_map.specs.declared.map.Row.{Row}
use Rattle.addr_map.specs.Rows.{first_row, row_of, overlaps}
use Rattle.std.specs.HashMap.{get}
use Rattle.addr_map.specs.Sound.{rows_in, object_eq}
use Rattle.addr_map.proofs.Kept.{sound_same, sound_rows, sound_bases, sound_insert, rows_insert}
use Rattle.addr_map.proofs.map.AddrMap.insert.Goals as goal

pub invariant_of-self : goal.invariant_of-self
invariant_of-self c =
    sound_same c.self.inside.rows c.self.inside.bases c.insert.new.self c.self.inside.free c.in_err-insert.ensures.err c.self.invariant

pub invariant_of-self-in_err-insert-2 : goal.invariant_of-self-in_err-insert-2
invariant_of-self-in_err-insert-2 c =
    let new : row_of (rows_in c.self.inside.rows.entries) c.args.row.name ≡ None =
    subst (λ (rs : List Row). row_of rs c.args.row.name ≡ None) (sym c.self.view_is) c.requires.new in
    sound_rows c.self.inside.rows c.insert-2.new.self (get object_eq c.insert.new.self) c.self.inside.free c.in_err-insert-2.ensures.err
    (sound_bases c.self.inside.rows (get object_eq c.self.inside.bases) (get object_eq c.insert.new.self) c.self.inside.free c.args.row.name c.args.row.base
    c.in_ok-insert.ensures.updates.0 new c.self.invariant)

pub invariant_of-self-2 : goal.invariant_of-self-2
invariant_of-self-2 c =
    let new : row_of (rows_in c.self.inside.rows.entries) c.args.row.name ≡ None =
    subst (λ (rs : List Row). row_of rs c.args.row.name ≡ None) (sym c.self.view_is) c.requires.new in
    let clear : first_row (λ s. overlaps s c.args.row) (rows_in c.self.inside.rows.entries) ≡ None =
    subst (λ (rs : List Row). first_row (λ s. overlaps s c.args.row) rs ≡ None) (sym c.self.view_is) c.requires.free in
    sound_insert c.self.inside.rows c.insert-2.new.self (get object_eq c.self.inside.bases) (get object_eq c.insert.new.self) c.self.inside.free _
    c.args.row c.self.invariant
    c.in_ok-insert.ensures.updates.0 c.in_ok-insert.ensures.updates.1 c.in_ok-insert-2.ensures.entries c.requires.lawful new clear c.max-self-inside.ensures

pub returns-clause-ok : goal.returns-clause-ok
returns-clause-ok c =
    let clear : first_row (λ s. overlaps s c.args.row) (rows_in c.self.inside.rows.entries) ≡ None =
    subst (λ (rs : List Row). first_row (λ s. overlaps s c.args.row) rs ≡ None) (sym c.self.view_is) c.requires.free in
    rw (← c.self.view_is) (rows_insert c.self.inside.rows c.insert-2.new.self (get object_eq c.self.inside.bases) c.self.inside.free c.args.row c.self.invariant
    c.in_ok-insert-2.ensures.entries c.requires.lawful clear)
