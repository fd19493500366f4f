-- How a map stays sound.
use Rattle.std.proofs.Common.{◌≡◌, ℕ, ◌+◌, ◌≤◌, ◌<◌, true, cond, refl, sym, ap, ◌∙◌, subst, arith, List, Option, Some, None, max}
use Rattle.std.specs.Prelude.{◌==◌, ◌^◌, ◌%◌, nat_lt, nat_le}
use Rattle.std.specs.Ordering.{nat_cmp}
use Rattle.std.specs.Map.{lookup}
use Rattle.std.specs.BTreeMap.{BTreeMap, insert_entry}
use Rattle.std.specs.HashMap as hash
use Rattle.std.specs.HashMap.{HashMap}
use Rattle.std.proofs.lemmas.Bool.Decides.{nat_tests}
use Rattle.ub_base.specs.declared.names.ObjName.{ObjName}
use Rattle.addr_map.specs.declared.map.Row.{Row}
use Rattle.addr_map.specs.Rows.{first_row, row_of, insert_row, free_of, overlaps, is_lawful, is_power}
use Rattle.addr_map.specs.Sound.{rows_in, Keyed, Apart, EachHeld, IsSound, object_eq}
use Rattle.addr_map.proofs.RowLists.{
  lookup_is,
  keyed-insert,
  apart-insert,
  free-insert,
  held-insert,
  held-update,
  rows_in-insert,
  absent,
  size_of_lawful,
  end_of_lawful,
}

pub sound_same : {S : Type 0} (rows : BTreeMap ℕ Row) (old new : HashMap ObjName ℕ S) (free : ℕ) → new.entries ≡ old.entries →
    IsSound rows (hash.get object_eq old) free → IsSound rows (hash.get object_eq new) free
sound_same rows old new free e s = subst (λ (es : List (ObjName × ℕ)). IsSound rows (λ x. lookup (object_eq x) es) free) (sym e) s

pub sound_rows : (old new : BTreeMap ℕ Row) (bases : ObjName → Option ℕ) (free : ℕ) → new.entries ≡ old.entries → IsSound old bases free →
    IsSound new bases free
sound_rows old new bases free e s = record {
  keyed = subst (λ (es : List (ℕ × Row)). Keyed es) (sym e) s.keyed;
  apart = subst (λ (es : List (ℕ × Row)). Apart (rows_in es)) (sym e) s.apart;
  held = subst (λ (es : List (ℕ × Row)). EachHeld bases (rows_in es)) (sym e) s.held;
  behind = s.behind ∙ ap (λ (es : List (ℕ × Row)). free_of (rows_in es)) (sym e);
  bound = s.bound;
}

-- a base at a name
abbrev pub Names : (ObjName → Option ℕ) → (ObjName → Option ℕ) → ObjName → ℕ → Type 0
Names old new x n = (y : ObjName) → new y ≡ cond (object_eq x y) (Some n) (old y)

pub sound_bases : (rows : BTreeMap ℕ Row) (old new : ObjName → Option ℕ) (free : ℕ) (x : ObjName) (n : ℕ) → Names old new x n →
    row_of (rows_in rows.entries) x ≡ None → IsSound rows old free → IsSound rows new free
sound_bases rows old new free x n update none s = record {
  keyed = s.keyed;
  apart = s.apart;
  held = held-update old new x n (rows_in rows.entries) update none s.held;
  behind = s.behind;
  bound = s.bound;
}

pub rows_insert : (rows rows' : BTreeMap ℕ Row) (bases : ObjName → Option ℕ) (free : ℕ) (r : Row) → IsSound rows bases free →
    rows'.entries ≡ insert_entry nat_cmp rows.entries r.base r → is_lawful r ≡ true → first_row (λ s. overlaps s r) (rows_in rows.entries) ≡ None →
    rows_in rows'.entries ≡ insert_row r (rows_in rows.entries)
rows_insert rows rows' bases free r s e lawful none =
    ap rows_in e ∙ rows_in-insert rows.entries r s.keyed
    (lookup_is rows.entries r.base s.keyed ∙ absent r (rows_in rows.entries) (size_of_lawful r lawful) none bases s.held)

grown : (free n : ℕ) (r : Row) (rs : List Row) → free ≡ free_of rs → n ≡ max free (r.base + r.size) → n ≡ max (r.base + r.size) (free_of rs)
grown free n r rs e h = omega arith

pub sound_insert : (rows rows' : BTreeMap ℕ Row) (old new : ObjName → Option ℕ) (free n : ℕ) (r : Row) → IsSound rows old free → Names old new r.name r.base →
    new r.name ≡ Some r.base → rows'.entries ≡ insert_entry nat_cmp rows.entries r.base r → is_lawful r ≡ true →
    row_of (rows_in rows.entries) r.name ≡ None → first_row (λ s. overlaps s r) (rows_in rows.entries) ≡ None → n ≡ max free (r.base + r.size) →
    IsSound rows' new n
sound_insert rows rows' old new free n r s update at e lawful none clear h =
    let is : rows_in rows'.entries ≡ insert_row r (rows_in rows.entries) = rows_insert rows rows' old free r s e lawful clear in
    record {
      keyed = subst (λ (es : List (ℕ × Row)). Keyed es) (sym e) (keyed-insert rows.entries r s.keyed);
      apart = subst (λ (rs : List Row). Apart rs) (sym is) (apart-insert r (rows_in rows.entries) (size_of_lawful r lawful) clear s.apart);
      held = subst (λ (rs : List Row). EachHeld new rs) (sym is)
          (held-insert new r (rows_in rows.entries) at lawful (held-update old new r.name r.base (rows_in rows.entries) update none s.held));
      behind = grown free n r (rows_in rows.entries) s.behind h ∙ sym (free-insert r (rows_in rows.entries)) ∙ ap free_of (sym is);
      bound = omega (arith, s.bound, end_of_lawful r lawful);
    }

pub lawful_placed : (r : Row) → 0 < r.size → is_power r.align ≡ true → r.base % r.align ≡ 0 → 16777216 ≤ r.base → r.base + r.size ≤ 2 ^ 47 → is_lawful r ≡ true
lawful_placed r some power aligned floor below =
    let a : nat_lt 0 r.size ≡ true = grind (arith, nat_tests) in
    let b : (r.base % r.align == 0) ≡ true = grind (arith, nat_tests) in
    let c : nat_le 16777216 r.base ≡ true = grind (arith, nat_tests) in
    let d : nat_le (r.base + r.size) (2 ^ 47) ≡ true = grind (arith, nat_tests) in
    rw (a, power, b, c, d) refl
