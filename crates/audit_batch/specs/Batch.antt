-- What a batch says of its runs (own).
use Rattle.std.specs.Prelude.{◌==◌, ◌+◌, ◌-◌, ◌^◌, if◌then◌else◌, ℕ, List, [], ◌++◌, codes, decimal, min, max, Option, Some, None}
use Rattle.audit_batch.specs.declared.tally.Tally.{Tally}

-- a number and what it counts
abbrev pub count_text : ℕ → List ℕ → List ℕ
count_text count of = decimal count ++ of

abbrev pub input_text : Option (List ℕ) → List ℕ
input_text None = []
input_text (Some name) = codes " < " ++ name

-- the line of a run that is said to be this
abbrev pub run_line : List ℕ → Option (List ℕ) → List ℕ → List ℕ
run_line program input said = program ++ (input_text input ++ (codes ": " ++ (said ++ codes "\n")))

-- one more, up to the end of the type
abbrev pub more : ℕ → ℕ
more count = min (count + 1) (2 ^ 64 - 1)

abbrev pub no_runs : Tally
no_runs = record { runs = 0; clean = 0; undefined = 0; order_dependent = 0; out_of_steps = 0; outside = 0; refused = 0; highest = 0 }

-- the verdict that a status stands for is counted
abbrev pub counted : Tally → ℕ → Tally
counted tally status =
    if status == 0 then record tally { clean = more tally.clean }
    else (if status == 1 then record tally { undefined = more tally.undefined }
    else (if status == 2 then record tally { order_dependent = more tally.order_dependent }
    else (if status == 3 then record tally { out_of_steps = more tally.out_of_steps }
    else (if status == 4 then record tally { outside = more tally.outside }
    else record tally { refused = more tally.refused }))))

-- with a further run, which ended with this status
abbrev pub tally_after : Tally → ℕ → Tally
tally_after tally status = record (counted tally status) { runs = more tally.runs; highest = max tally.highest status }

abbrev pub summary : Tally → List ℕ
summary tally =
    count_text tally.runs (codes " runs: ")
    ++ (count_text tally.clean (codes " clean, ")
    ++ (count_text tally.undefined (codes " undefined, ")
    ++ (count_text tally.order_dependent (codes " order-dependent, ")
    ++ (count_text tally.out_of_steps (codes " out of steps, ")
    ++ (count_text tally.outside (codes " outside, ")
    ++ count_text tally.refused (codes " not run\n"))))))
