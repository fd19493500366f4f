-- Where the objects with static storage and the string literals stand (5.1.2p1, 6.4.5p6).
use Rattle.std.specs.Prelude.{◌≡◌, ℕ, suc, List, [], ◌∷◌, length}
use Rattle.ub_base.specs.declared.names.ObjName.{ObjName}
use Rattle.ub_base.specs.declared.names.ObjName.TheVariants.{Static, Lit}
use Rattle.c_typed.specs.Lawful.{ContentIsLawful}
use Rattle.c_typed.specs.declared.program.Constant.{Constant}
use Rattle.c_typed.specs.declared.program.Program.{Program}
use Rattle.std.specs.List.{All}
use Rattle.mem_objects.specs.Memory.{Kept}
use Rattle.run_values.specs.declared.places.Places.{Places}
use Rattle.run_values.specs.Contents.{Stands, CanHoldAll}

-- the objects of these names, from this number on, stand at these addresses
abbrev pub AllStand : Kept → (ℕ → ObjName) → ℕ → List ℕ → Type 0
AllStand m name k [] = Unit {0}
AllStand m name k (a ∷ xs) = Stands m (name k) a × AllStand m name (suc k) xs

-- xs many xs there are
pub record AreAll (m : Kept) (name : ℕ → ObjName) (addresses : List ℕ) (n : ℕ) : Type 0 where
  pub count : length addresses ≡ n
  pub stand : AllStand m name 0 addresses

-- each object with static storage and each string literal stands where the lists say
pub record ArePlaced (m : Kept) (p : Program) (places : Places) : Type 0 where
  pub objects : AreAll m (λ k. Static k) places.objects (length p.statics)
  pub literals : AreAll m (λ k. Lit k) places.literals (length p.literals)

-- the constants of a lawful program can be held where its objects are placed
abbrev pub LawfulCanHold : Type 0
LawfulCanHold = (m : Kept) (p : Program) (places : Places) (cs : List Constant) → ArePlaced m p places → All (λ c. ContentIsLawful p c.content) cs
    → CanHoldAll m places cs
