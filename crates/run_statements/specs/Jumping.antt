-- Where the jumps of a program go: what is found among the labels of a function, and among the cases of a `switch`.
use Rattle.std.specs.Prelude.{◌≡◌, ℕ, suc, ℤ, true, false, List, [], ◌∷◌, ◌++◌, length, map, Option, Some, None}
use Rattle.std.specs.Borrow.{Bor}
use Rattle.c_model.specs.Control.{to_label, to_case, to_default, find, first_of}
use Rattle.run_control.specs.declared.links.Link.{Link}
use Rattle.run_control.specs.declared.links.Place.{Place}
use Rattle.run_control.specs.declared.statement.Statement.{Statement}
use Rattle.run_control.specs.declared.statement.Switch.{Switch}
use Rattle.run_control.specs.declared.targets.Found.{Found}
use Rattle.run_control.specs.Links.{work_at}
use Rattle.run_control.specs.Search.{Finds}
use Rattle.run_control.specs.Targets.{AllEqual, InRange, bodies}
use Rattle.run_control.specs.View.{Meaning, stmt_of}
use Rattle.run_statements.specs.declared.jumps.Jumps.{Jumps}
use Rattle.run_statements.specs.Switches.{switches_in, switches_of_all}

-- these labels were found in the body, and the links round them are there
pub record AreLabelsOf (links : List Link) (found : List Found) (body : Statement) : Type 0 where
  pub finds : Finds links found body true
  pub range : InRange (length links) found

-- of a function without a body nothing is said
abbrev pub AreLabels : List Link → List Found → Option (Bor Statement) → Type 0
AreLabels links found None = Unit {0}
AreLabels links found (Some body) = AreLabelsOf links found body.now

-- the functions in turn have these labels
abbrev pub HaveLabels : List Link → List (Option (Bor Statement)) → List (List Found) → Type 0
HaveLabels links [] [] = Unit {0}
HaveLabels links (b ∷ bs) (f ∷ fs) = AreLabels links f b × HaveLabels links bs fs
HaveLabels links _ _ = ⊥

abbrev pub labels_of : Jumps → List (List Found)
labels_of j = map (λ v. v.items) j.labels.items

-- the cases of the `switch` of this number were found in its body, and the links round them are there
pub record AreCases (links : List Link) (found : List Found) (n : ℕ) (s : Switch) : Type 0 where
  pub number : s.number ≡ n
  pub finds : Finds links found s.body false
  pub range : InRange (length links) found

-- the `switch` statements in turn, from this number on, have these cases
abbrev pub HaveCases : List Link → ℕ → List Switch → List (List Found) → Type 0
HaveCases links n [] [] = Unit {0}
HaveCases links n (s ∷ ss) (f ∷ fs) = AreCases links f n s × HaveCases links (suc n) ss fs
HaveCases links n _ _ = ⊥

abbrev pub cases_of : Jumps → List (List Found)
cases_of j = map (λ v. v.items) j.cases.items

-- for each `switch` in the bodies of these functions, in turn, the number of its function, where the first of them has this number (own)
abbrev pub owners_from : ℕ → List (Option (Bor Statement)) → List ℕ
owners_from n [] = []
owners_from n (None ∷ bs) = owners_from (suc n) bs
owners_from n (Some b ∷ bs) = map (λ s. n) (switches_in b.now) ++ owners_from (suc n) bs

-- the functions in turn have these labels, with their bodies where they are defined, and the `switch` statements in the bodies, in turn by their numbers,
-- these cases and these functions
pub record HasJumps (j : Jumps) (bs : List (Option (Bor Statement))) : Type 0 where
  pub labels : HaveLabels j.links.items bs (labels_of j)
  pub cases : HaveCases j.links.items 0 (switches_of_all bs) (cases_of j)
  pub owners : j.owners.items ≡ owners_from 0 bs

-- the place of this label in the body is the one that the definitions find, where each `switch` number stands for the body that stands there
abbrev pub IsFound : List Link → Statement → (label : ℕ) → Place → Type 0
IsFound links body label place = (m : Meaning) → AllEqual (bodies m body) → work_at m links (Some place) ≡ find (to_label label) (stmt_of m body)

-- The place of the case of this value in the `switch` of this number, of `default` where it has no such case, is the one that the definitions find
-- (6.8.4.2p5, p7), where each `switch` number in this body of a function stands for the body that stands there. Where it has neither, there is none.
abbrev pub IsCase : List Link → Statement → (number : ℕ) → ℤ → Option Place → Type 0
IsCase links body number z target =
    (m : Meaning) → AllEqual (bodies m body)
    → work_at m links target ≡ first_of (find (to_case z) (m.body number)) (find to_default (m.body number))
