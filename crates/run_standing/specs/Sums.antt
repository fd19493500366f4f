-- How many bytes the objects count that stand before a run (own).
use Rattle.std.specs.Prelude.{ℕ, ◌+◌, ◌*◌, ◌^◌, max, min, Bool, true, false, List, [], ◌∷◌, ◌++◌, length, map, slice_get}
use Rattle.c_types.specs.declared.tags.Tag.{Tag}
use Rattle.c_types.specs.Types.{qualified_of}
use Rattle.c_typed.specs.declared.program.Program.{Program}
use Rattle.c_typed.specs.declared.program.Static.{Static}
use Rattle.run_standing.specs.Standing.{takes_arguments}
use Rattle.run_objects.specs.Extents.{extent_of}

-- each object counts as at least 16 bytes, and the sum as at most 2^62
abbrev pub summed : ℕ → List ℕ → ℕ
summed n [] = n
summed n (k ∷ ks) = summed (min (n + max k 16) (2 ^ 62)) ks

abbrev pub static_sizes : List Tag → List Static → List ℕ
static_sizes tags ss = map (λ s. (extent_of tags (qualified_of s.qual).ty).size) ss

-- each argument has a zero behind it (5.1.2.2.1p2)
abbrev pub argument_sizes : List (List ℕ) → List ℕ
argument_sizes words = map (λ w. length w + 1) words

-- the arguments, the first one the program's name, and the array of pointers to them, where `main` takes them
abbrev pub given_sizes : Bool → List (List ℕ) → List ℕ
given_sizes false words = []
given_sizes true words = argument_sizes words ++ 8 * (length words + 1) ∷ []

-- the sizes of the objects, in the order of their creation
abbrev pub sizes_of : Program → List (List ℕ) → List ℕ
sizes_of p words =
    static_sizes p.tags p.statics ++ map length p.literals ++ given_sizes (takes_arguments (slice_get p.functions p.main)) words
