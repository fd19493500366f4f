-- What `main` is given.
use Rattle.std.proofs.Common.{arith, ◌≡◌, ℕ, ◌+◌, ◌^◌, ◌≤◌, Bool, true, false, List, ℤ, pos, min, Some, slice_get, refl, sym, ap, ◌∙◌}
use Rattle.ub_base.specs.declared.names.ObjName.TheVariants.{Argv}
use Rattle.addr_map.specs.declared.map.Row.{Row}
use Rattle.addr_map.specs.Rows.{row_of}
use Rattle.exposure.specs.declared.prov.Prov.TheVariants.{Whole}
use Rattle.c_typed.specs.declared.program.Program.{Program}
use Rattle.c_model.specs.Values.{pointer_value, address_after}
use Rattle.mem_spec.specs.Acts.{base_in}
use Rattle.mem_objects.specs.declared.value.Value.TheVariants.{Int}
use Rattle.mem_objects.specs.Keeps.{Keeps, RowsStay}
use Rattle.mem_objects.specs.Memory.{Kept}
use Rattle.run_standing.specs.declared.initial.Started.{Started}
use Rattle.run_values.specs.declared.values.Pointer.{Pointer as Place}
use Rattle.run_standing.specs.Standing.{StandsThere, place_of, takes_arguments}
use Rattle.run_standing.specs.Viewed.{IsGiven}
use Rattle.run_values.specs.Views.{pointer_at, value_in}

no_offset : (a : ℕ) → a ≤ 2 ^ 47 → address_after a 0 ≡ a
no_offset a low = omega arith

at_row : (m end : Kept) (rows : List Row) (q : Place) → StandsThere m Argv q → Keeps m end → RowsStay end.rows rows → pointer_at q ≡ place_of rows Argv
at_row m end rows q there keeps stay =
    let s = there.2 in
    let named : row_of rows Argv ≡ Some s.row = stay Argv s.row (keeps.rows Argv s.row s.named) in
    let low : s.row.base ≤ 2 ^ 47 = omega (arith, s.ends) in
    let is : address_after there.0 0 ≡ base_in (row_of rows Argv) =
    ap (λ (a : ℕ). address_after a 0) (sym s.at) ∙ (no_offset s.row.base low ∙ sym (ap base_in named)) in
    there.1 ∙ (λ i. record { address = is i; prov = Whole Argv })

pub given_so : (m end : Kept) (p : Program) (n : ℕ) (s : Started) (q : Place) (z : ℤ) → s.count ≡ Int z → z ≡ pos n →
    ((k : Kept) → value_in k s.vector ≡ pointer_value (pointer_at q)) → StandsThere m Argv q → Keeps m end → IsGiven end p n s
given_so m end p n s q z count is vector there keeps = λ takes. (
  count ∙ ap Int is,
  λ rows stay k. vector k ∙ ap pointer_value (at_row m end rows q there keeps stay),
)

pub none_given : (m : Kept) (p : Program) (n : ℕ) (s : Started) → takes_arguments (slice_get p.functions p.main) ≡ false → IsGiven m p n s
none_given m p n s without = λ takes. absurd (cc)
