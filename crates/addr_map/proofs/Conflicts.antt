-- Conflict is symmetric.
use Rattle.std.proofs.Common.{◌≡◌, ℕ, Bool, true, false, ◌||◌, refl, sym, ap, ap₂, ◌∙◌, List, [], ◌∷◌}
use Rattle.ub_base.specs.declared.names.ObjName.{ObjName}
use Rattle.ub_base.specs.declared.names.Item.{Item}
use Rattle.addr_map.specs.declared.map.Row.{Row}
use Rattle.addr_map.specs.Conflict.{conflicts_one, items_conflict, stands_at, conflicts_with, some_conflict}

or_turned : (a b : Bool) → (a || b) ≡ (b || a)
or_turned true true = refl
or_turned true false = refl
or_turned false true = refl
or_turned false false = refl

or_joined : (a b c d : Bool) → ((a || b) || (c || d)) ≡ ((a || c) || (b || d))
or_joined true b true d = refl
or_joined true b false d = refl
or_joined false true true d = refl
or_joined false true false d = refl
or_joined false false c d = refl

pub items_turned : (stands : ObjName → ℕ → Bool) (i j : Item) → items_conflict stands i j ≡ items_conflict stands j i
items_turned stands i j = or_turned (conflicts_one stands i j) (conflicts_one stands j i)

module _ (rows : List Row) where
  none_with : (js : List Item) → some_conflict rows js [] ≡ false
  none_with [] = refl
  none_with (j ∷ js) = none_with js

  -- one item more in the second list
  one_more : (i : Item) (is js : List Item) → some_conflict rows js (i ∷ is) ≡ (conflicts_with rows i js || some_conflict rows js is)
  one_more i is [] = refl
  one_more i is (j ∷ js) =
      ap₂ (λ a b. (a || conflicts_with rows j is) || b) (items_turned (stands_at rows) j i) (one_more i is js)
      ∙ or_joined (items_conflict (stands_at rows) i j) (conflicts_with rows j is) (conflicts_with rows i js) (some_conflict rows js is)

  pub lists_turned : (is js : List Item) → some_conflict rows is js ≡ some_conflict rows js is
  lists_turned [] js = sym (none_with js)
  lists_turned (i ∷ is) js = ap (λ b. conflicts_with rows i js || b) (lists_turned is js) ∙ sym (one_more i is js)
