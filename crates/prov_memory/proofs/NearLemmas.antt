-- Addresses in objects and one past them.
use Rattle.std.proofs.Common.{◌≡◌, ℕ, ◌+◌, ◌≤◌, Bool, true, false, ◌&&◌, refl, sym, ap₂, arith, List, Option, Some, None, ℤ, pos, negsuc}
use Rattle.std.specs.Prelude.{int_le, ◌^◌}
use Rattle.std.proofs.lemmas.Int.{ints}
use Rattle.std.proofs.lemmas.Bool.Decides.{nat_tests}
use Rattle.ub_base.specs.declared.names.ObjName.{ObjName}
use Rattle.ub_base.specs.Names.{same_object}
use Rattle.addr_map.specs.declared.map.Row.{Row}
use Rattle.addr_map.specs.Rows.{row_of, free_of}
use Rattle.mem_spec.specs.Acts.{in_bounds}
use Rattle.mem_objects.specs.Held.{Held, is_near}
use Rattle.mem_objects.specs.Memory.{IsRowOf}
use Rattle.mem_objects.specs.Made.{IsAddress}
use Rattle.mem_objects.proofs.StoreLemmas.{end_of_row}

both : (a b : Bool) → (a && b) ≡ true → (a ≡ true) × (b ≡ true)
both true b h = (refl, h)
both false b h = absurd (cc)

at_most : (n top : ℕ) → int_le (pos n) (pos top) ≡ true → n ≤ top
at_most n top h = first_of (grind (arith, nat_tests), grind (arith, ints))

below_none : (low n : ℕ) → int_le (pos low) (negsuc n) ≡ true → ⊥
below_none low n h = first_of (cc, grind (arith, ints))

between : (z : ℤ) (low top : ℕ) → (int_le (pos low) z && int_le z (pos top)) ≡ true → top ≤ 2 ^ 47 → IsAddress z
between (pos n) low top e le =
    let f : n ≤ top = at_most n top (both (int_le (pos low) (pos n)) (int_le (pos n) (pos top)) e).1 in
    (n, (refl, omega (arith, f, le)))
between (negsuc n) low top e le = absurd (below_none low n (both (int_le (pos low) (negsuc n)) (int_le (negsuc n) (pos top)) e).0)

pub within_address : (o : Option Row) (rows : List Row) (x : ObjName) (z : ℤ) → o ≡ row_of rows x → free_of rows ≤ 2 ^ 47 → in_bounds o z ≡ true → IsAddress z
within_address None rows x z e le so = absurd (cc)
within_address (Some r) rows x z e le so =
    let end = end_of_row (λ s. same_object s.name x) r rows (sym e) in
    between z r.base (r.base + r.size) so (omega (arith, end, le))

pub near_is : (o : Option Row) (h : Held) (z : ℤ) → IsRowOf o h → is_near h z ≡ in_bounds o z
near_is None h z is = absurd is
near_is (Some r) h z is = ap₂ (λ (b s : ℕ). int_le (pos b) z && int_le z (pos (b + s))) (sym is.0) (sym is.1)
