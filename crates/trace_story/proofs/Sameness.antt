-- What is the same is one.
use Rattle.std.proofs.Common.{◌≡◌, refl, ap, true}
use Rattle.std.specs.Prelude.{Option, Some, None}
use Rattle.ub_base.proofs.NameLemmas.{same_object_is}
use Rattle.ub_base.proofs.Tests.{and_parts, number_is}
use Rattle.addr_map.specs.declared.map.Row.{Row as Place}
use Rattle.trace_story.specs.declared.told.Sought.{Sought}
use Rattle.trace_story.specs.Same.{same_row, same_place, same_sought}

row_is : (r s : Place) → same_row r s ≡ true → r ≡ s
row_is r s h =
    let bases = and_parts _ _ h in
    let sizes = and_parts _ _ bases.1 in
    let aligns = and_parts _ _ sizes.1 in
    let o = same_object_is _ _ bases.0 in
    let b = number_is _ _ sizes.0 in
    let n = number_is _ _ aligns.0 in
    let a = number_is _ _ aligns.1 in
    λ i. record { name = o i; base = b i; size = n i; align = a i }

place_is : (r s : Option Place) → same_place r s ≡ true → r ≡ s
place_is None None h = refl
place_is None (Some s) h = absurd (cc)
place_is (Some r) None h = absurd (cc)
place_is (Some r) (Some s) h = ap Some (row_is r s h)

pub sought_is : (r s : Sought) → same_sought r s ≡ true → r ≡ s
sought_is r s h =
    let parts = and_parts _ _ h in
    let o = same_object_is _ _ parts.0 in
    let p = place_is _ _ parts.1 in
    λ i. record { object = o i; row = p i }
