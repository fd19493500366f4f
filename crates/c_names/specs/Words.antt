-- The words with which the texts of objects begin.
use Rattle.std.specs.Prelude.{◌≢◌, ℕ, List, codes}
use Rattle.c_names.specs.declared.read.Sort.{Sort}
use Rattle.c_names.specs.declared.read.Sort.TheVariants as sorts

abbrev pub sort_text : Sort → List ℕ
sort_text sorts.Static = codes "static"
sort_text sorts.Lit = codes "lit"
sort_text sorts.Arg = codes "arg"
sort_text sorts.Auto = codes "auto"
sort_text sorts.Heap = codes "heap"

-- no object's text begins with this word and a space
abbrev pub IsNoSort : List ℕ → Type 0
IsNoSort word = (s : Sort) → sort_text s ≢ word
