-- The report on expressions that never race (own).
use Rattle.std.specs.Prelude.{ℕ, ◌+◌, ◌-◌, ◌^◌, ◌==◌, min, if◌then◌else◌, List, [], ◌∷◌, ◌++◌, codes, decimal, Option, Some, None}
use Rattle.ub_base.specs.declared.clause.Kind.{Kind}
use Rattle.ub_base.specs.declared.clause.Kind.TheVariants.{Val, Eff, Body}
use Rattle.static_seq.specs.declared.accesses.Accessed.{Accessed}
use Rattle.static_seq.specs.declared.verdicts.Verdict.{Verdict}

abbrev pub kind_text : Kind → List ℕ
kind_text Val = codes " val line "
kind_text Eff = codes " eff line "
kind_text Body = codes " body line "

-- words, and a number
abbrev pub counted : List ℕ → ℕ → List ℕ
counted words n = words ++ decimal n

abbrev pub access_line : Accessed → List ℕ
access_line a = counted (codes "access ") a.place.node ++ (counted (kind_text a.place.kind) a.line ++ codes "\n")

abbrev pub unknown_line : Verdict → List ℕ
unknown_line v =
    counted (codes "unknown function ") v.function
    ++ (counted (codes " expression ") v.expression
    ++ (counted (codes " line ") v.line ++ codes "\n"))

-- what is said of an expression: nothing where each pair is parted
abbrev pub lines_of : Verdict → Option (Accessed × Accessed) → List ℕ
lines_of v None = []
lines_of v (Some pair) = unknown_line v ++ (access_line pair.0 ++ access_line pair.1)

abbrev pub verdict_lines : Verdict → List ℕ
verdict_lines v = lines_of v v.unparted

abbrev pub all_lines : List Verdict → List ℕ
all_lines [] = []
all_lines (v ∷ vs) = verdict_lines v ++ all_lines vs

abbrev pub is_unknown : Option (Accessed × Accessed) → ℕ
is_unknown None = 0
is_unknown (Some pair) = 1

-- how many are unknown, and how many are parted
abbrev pub unknown : List Verdict → ℕ
unknown [] = 0
unknown (v ∷ vs) = is_unknown v.unparted + unknown vs

abbrev pub parted : List Verdict → ℕ
parted [] = 0
parted (v ∷ vs) = (1 - is_unknown v.unparted) + parted vs

abbrev pub last_line : List Verdict → List ℕ
last_line vs = counted (codes "parted ") (parted vs) ++ (counted (codes " unknown ") (unknown vs) ++ codes "\n")

abbrev pub report : List Verdict → List ℕ
report vs = all_lines vs ++ last_line vs

abbrev pub status : List Verdict → ℕ
status vs = if unknown vs == 0 then 0 else 8
