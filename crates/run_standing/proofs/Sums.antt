-- The sum of what stands before a run.
use Rattle.std.proofs.Common.{◌≡◌, ℕ, suc, ◌+◌, ◌*◌, ◌^◌, max, min, Bool, true, false, refl, sym, ap, ap₂, ◌∙◌}
use Rattle.std.proofs.Common.{List, [], ◌∷◌, ◌++◌, length, map, slice_get}
use Rattle.std.proofs.lemmas.List.{length-append}
use Rattle.c_types.specs.declared.tags.Tag.{Tag}
use Rattle.c_typed.specs.declared.program.Program.{Program}
use Rattle.c_typed.specs.declared.program.Static.{Static}
use Rattle.c_model.specs.Program.{Standing}
use Rattle.c_model.specs.Runs.{created_after}
use Rattle.run_standing.specs.Standing.{arguments, AreStatics, given, literals, program_name, Stand, takes_arguments, vector}
use Rattle.run_standing.specs.Sums.{argument_sizes, given_sizes, sizes_of, static_sizes, summed}

-- ---- one more
pub summed_behind : (n k : ℕ) (ks : List ℕ) → summed n (ks ++ k ∷ []) ≡ min (summed n ks + max k 16) (2 ^ 62)
summed_behind n k [] = refl
summed_behind n k (j ∷ ks) = summed_behind (min (n + max j 16) (2 ^ 62)) k ks

-- ---- one list after the other
pub summed_then : (n : ℕ) (js ks : List ℕ) → summed n (js ++ ks) ≡ summed (summed n js) ks
summed_then n [] ks = refl
summed_then n (j ∷ js) ks = summed_then (min (n + max j 16) (2 ^ 62)) js ks

-- ---- as the definitions count them
pub created_sum : (n : ℕ) (os : List Standing) → created_after n (map (λ o. o.decl) os) ≡ summed n (map (λ o. o.decl.size) os)
created_sum n [] = refl
created_sum n (o ∷ os) = created_sum (min (n + max o.decl.size 16) (2 ^ 62)) os

abbrev pub sizes : List Standing → List ℕ
sizes os = map (λ o. o.decl.size) os

pub sizes_then : (os ps : List Standing) → sizes (os ++ ps) ≡ sizes os ++ sizes ps
sizes_then [] ps = refl
sizes_then (o ∷ os) ps = ap (λ (ks : List ℕ). o.decl.size ∷ ks) (sizes_then os ps)

pub sizes_of_statics : (tags : List Tag) (k : ℕ) (ss : List Static) (os : List Standing) → AreStatics tags k ss os → sizes os ≡ static_sizes tags ss
sizes_of_statics tags k [] [] are = refl
sizes_of_statics tags k [] (o ∷ os) are = absurd are
sizes_of_statics tags k (s ∷ ss) [] are = absurd are
sizes_of_statics tags k (s ∷ ss) (o ∷ os) are =
    let rest = sizes_of_statics tags (suc k) ss os are.1 in
    λ i. are.0.size i ∷ rest i

pub sizes_of_literals : (k : ℕ) (texts : List (List ℕ)) → sizes (literals k texts) ≡ map length texts
sizes_of_literals k [] = refl
sizes_of_literals k (bs ∷ rest) = ap (λ (ks : List ℕ). length bs ∷ ks) (sizes_of_literals (suc k) rest)

pub sizes_of_arguments : (k : ℕ) (words : List (List ℕ)) → sizes (arguments k words) ≡ argument_sizes words
sizes_of_arguments k [] = refl
sizes_of_arguments k (bs ∷ rest) =
    let here = length-append bs (0 ∷ []) in
    let more = sizes_of_arguments (suc k) rest in
    λ i. here i ∷ more i

sizes_of_given : (takes : Bool) (words : List (List ℕ)) → sizes (given takes words) ≡ given_sizes takes words
sizes_of_given false words = refl
sizes_of_given true words =
    sizes_then (arguments 0 words) (vector words ∷ []) ∙ ap (λ (ks : List ℕ). ks ++ 8 * (length words + 1) ∷ []) (sizes_of_arguments 0 words)

pub sizes_of_stand : (p : Program) (words : List (List ℕ)) (os : List Standing) → Stand p words os → sizes os ≡ sizes_of p words
sizes_of_stand p words os stand =
    let takes = takes_arguments (slice_get p.functions p.main) in
    let first = stand.statics ++ literals 0 p.literals in
    let named : sizes first ≡ static_sizes p.tags p.statics ++ map length p.literals =
    sizes_then stand.statics (literals 0 p.literals)
    ∙ ap₂ (λ (js ks : List ℕ). js ++ ks) (sizes_of_statics p.tags 0 p.statics stand.statics stand.each) (sizes_of_literals 0 p.literals) in
    ap sizes stand.all ∙ sizes_then first (given takes words) ∙ ap₂ (λ (js ks : List ℕ). js ++ ks) named (sizes_of_given takes words)

-- ---- the whole sum
pub named_sum : (p : Program) (words : List (List ℕ)) (os : List Standing) (first sum : ℕ) → Stand p words os →
    takes_arguments (slice_get p.functions p.main) ≡ false → first ≡ summed 0 (static_sizes p.tags p.statics) → sum ≡ summed first (map length p.literals) →
    sum ≡ created_after 0 (map (λ o. o.decl) os)
named_sum p words os first sum stand takes one two =
    let named = static_sizes p.tags p.statics ++ map length p.literals in
    two ∙ ap (λ (n : ℕ). summed n (map length p.literals)) one ∙ sym (summed_then 0 (static_sizes p.tags p.statics) (map length p.literals))
    ∙ sym (summed_then 0 named []) ∙ ap (λ (b : Bool). summed 0 (named ++ given_sizes b words)) (sym takes)
    ∙ ap (summed 0) (sym (sizes_of_stand p words os stand)) ∙ sym (created_sum 0 os)

pub given_sum : (p : Program) (words : List (List ℕ)) (os : List Standing) (first named strings size sum : ℕ) → Stand p (program_name ∷ words) os →
    takes_arguments (slice_get p.functions p.main) ≡ true → first ≡ summed 0 (static_sizes p.tags p.statics) →
    named ≡ summed first (map length p.literals) → strings ≡ summed (min (named + 16) (2 ^ 62)) (argument_sizes words) →
    size ≡ 8 * (length (program_name ∷ words) + 1) → sum ≡ min (strings + max size 16) (2 ^ 62) →
    sum ≡ created_after 0 (map (λ o. o.decl) os)
given_sum p words os first named strings size sum stand takes one two three len four =
    let all = program_name ∷ words in
    let objects = static_sizes p.tags p.statics ++ map length p.literals in
    let last = 8 * (length all + 1) in
    let so_far : named ≡ summed 0 objects =
    two ∙ ap (λ (n : ℕ). summed n (map length p.literals)) one ∙ sym (summed_then 0 (static_sizes p.tags p.statics) (map length p.literals)) in
    let texts : strings ≡ summed (summed 0 objects) (argument_sizes all) =
    three ∙ ap (λ (n : ℕ). summed (min (n + 16) (2 ^ 62)) (argument_sizes words)) so_far in
    let behind : sum ≡ summed (summed 0 objects) (argument_sizes all ++ last ∷ []) =
    four ∙ ap₂ (λ (m k : ℕ). min (m + max k 16) (2 ^ 62)) texts len ∙ sym (summed_behind (summed 0 objects) last (argument_sizes all)) in
    behind ∙ sym (summed_then 0 objects (given_sizes true all)) ∙ ap (λ (b : Bool). summed 0 (objects ++ given_sizes b all)) (sym takes)
    ∙ ap (summed 0) (sym (sizes_of_stand p all os stand)) ∙ sym (created_sum 0 os)
