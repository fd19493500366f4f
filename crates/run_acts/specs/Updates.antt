-- Which moves and updates the definitions speak of.
use Rattle.std.specs.Prelude.{ℕ, ◌^◌, ◌<◌, ◌*◌, ℤ, unsigned_abs}
use Rattle.c_typed.specs.declared.tree.Change.{Change}
use Rattle.c_typed.specs.declared.tree.Change.TheVariants as change
use Rattle.mem_objects.specs.Memory.{Kept, HasCell}
use Rattle.mem_objects.specs.Sound.{IsSound}
use Rattle.run_values.specs.declared.values.Pointer.{Pointer}

-- so many elements of this size are fewer than 2^127 bytes
abbrev pub IsNear : (size : ℕ) → (index : ℤ) → Type 0
IsNear size index = size * unsigned_abs index < 2 ^ 127

abbrev pub IsNearChange : Change → ℤ → Type 0
IsNearChange (change.Integer op kind work) n = Unit {0}
IsNearChange (change.Pointer size subtract) n = IsNear size n

-- the place's ambiguity, if any, has its cell, in a memory that knows what its pieces name
pub record CanChange (m : Kept) (place : Pointer) : Type 0 where
  pub cell : HasCell m place.prov
  pub sound : IsSound m
