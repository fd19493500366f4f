use Rattle.std.proofs.Common.{◌≡◌, ◌∙◌, sym, ap, Some, None, true, false, rules}
use Rattle.std.specs.Ordering.{nat_cmp}
use Rattle.std.specs.Map.{lookup}
use Rattle.std.specs.BTreeMap.{is_at}
use Rattle.std.specs.HashMap.{get}
use Rattle.addr_map.specs.Sound.{rows_in, object_eq}
use Rattle.addr_map.proofs.RowLists.{lookup_is}
use Rattle.addr_map.proofs.ApartRows.{apart_rows}
use Rattle.addr_map.proofs.Found.{none_found, found_is, named, named_same, named_other}
use Rattle.addr_map.proofs.map.AddrMap.row.Goals as goal

pub returns-in_err-base-clause-row : goal.returns-in_err-base-clause-row
returns-in_err-base-clause-row c =
    let e : get object_eq c.self.inside.bases c.args.name ≡ None = sym (c.copied.ensures ∙ c.get.ensures.value) ∙ c.in_err-base.was in
    rw (← c.self.view_is) (c.from_residual.ensures ∙ sym
    (none_found (get object_eq c.self.inside.bases) c.args.name (rows_in c.self.inside.rows.entries) e c.self.invariant.held))

pub returns-in_err-row-clause-row : goal.returns-in_err-row-clause-row
returns-in_err-row-clause-row c =
    let e : get object_eq c.self.inside.bases c.args.name ≡ Some c.in_ok-base.base = sym (c.copied.ensures ∙ c.get.ensures.value) ∙ c.in_ok-base.was in
    let f : lookup (is_at (nat_cmp c.in_ok-base.base)) c.self.inside.rows.entries ≡ None = sym (c.copied-2.ensures ∙ c.get-2.ensures.value) ∙ c.in_err-row.was
    in
    let g = found_is (get object_eq c.self.inside.bases) c.args.name c.in_ok-base.base (rows_in c.self.inside.rows.entries) e c.self.invariant.apart
    c.self.invariant.held in
    rw (← c.self.view_is) (c.from_residual-in_err-row.ensures ∙ sym
    (g ∙ ap (named c.args.name) (sym (lookup_is c.self.inside.rows.entries c.in_ok-base.base c.self.invariant.keyed) ∙ f)))

pub returns-then-eq-clause-row : goal.returns-then-eq-clause-row
returns-then-eq-clause-row c =
    let e : get object_eq c.self.inside.bases c.args.name ≡ Some c.in_ok-base.base = sym (c.copied.ensures ∙ c.get.ensures.value) ∙ c.in_ok-base.was in
    let f : lookup (is_at (nat_cmp c.in_ok-base.base)) c.self.inside.rows.entries ≡ Some c.in_ok-row.row =
    sym (c.copied-2.ensures ∙ c.get-2.ensures.value) ∙ c.in_ok-row.was in
    let g = found_is (get object_eq c.self.inside.bases) c.args.name c.in_ok-base.base (rows_in c.self.inside.rows.entries) e c.self.invariant.apart
    c.self.invariant.held in
    let same : c.eq.result ≡ true → c.in_ok-row.row.name ≡ c.args.name = search rules in
    rw (← c.self.view_is) (sym (g ∙ ap (named c.args.name) (sym (lookup_is c.self.inside.rows.entries c.in_ok-base.base c.self.invariant.keyed) ∙ f) ∙
    named_same c.args.name c.in_ok-row.row (same c.if-eq.true)))

pub returns-else-eq-clause-row : goal.returns-else-eq-clause-row
returns-else-eq-clause-row c =
    let e : get object_eq c.self.inside.bases c.args.name ≡ Some c.in_ok-base.base = sym (c.copied.ensures ∙ c.get.ensures.value) ∙ c.in_ok-base.was in
    let f : lookup (is_at (nat_cmp c.in_ok-base.base)) c.self.inside.rows.entries ≡ Some c.in_ok-row.row =
    sym (c.copied-2.ensures ∙ c.get-2.ensures.value) ∙ c.in_ok-row.was in
    let g = found_is (get object_eq c.self.inside.bases) c.args.name c.in_ok-base.base (rows_in c.self.inside.rows.entries) e c.self.invariant.apart
    c.self.invariant.held in
    let same : c.in_ok-row.row.name ≡ c.args.name → c.eq.result ≡ true = search rules in
    let off : c.eq.result ≡ false = c.if-eq.false in
    rw (← c.self.view_is) (sym (g ∙ ap (named c.args.name) (sym (lookup_is c.self.inside.rows.entries c.in_ok-base.base c.self.invariant.keyed) ∙ f) ∙
    named_other c.args.name c.in_ok-row.row (λ n. let on : c.eq.result ≡ true = same n in cc)))

pub returns-in_err-base-clause-apart : goal.returns-in_err-base-clause-apart
returns-in_err-base-clause-apart c =
    rw (← c.self.view_is) (apart_rows c.self.inside.rows (get object_eq c.self.inside.bases) c.self.inside.free c.self.invariant)

pub returns-in_err-row-clause-apart : goal.returns-in_err-row-clause-apart
returns-in_err-row-clause-apart c =
    rw (← c.self.view_is) (apart_rows c.self.inside.rows (get object_eq c.self.inside.bases) c.self.inside.free c.self.invariant)

pub returns-then-eq-clause-apart : goal.returns-then-eq-clause-apart
returns-then-eq-clause-apart c =
    rw (← c.self.view_is) (apart_rows c.self.inside.rows (get object_eq c.self.inside.bases) c.self.inside.free c.self.invariant)

pub returns-else-eq-clause-apart : goal.returns-else-eq-clause-apart
returns-else-eq-clause-apart c =
    rw (← c.self.view_is) (apart_rows c.self.inside.rows (get object_eq c.self.inside.bases) c.self.inside.free c.self.invariant)
