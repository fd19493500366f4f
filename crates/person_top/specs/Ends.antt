-- How a call ends (own).
use Rattle.std.specs.Prelude.{◌≡◌, ◌⊎◌, ℕ, List, Option, codes}
use Rattle.ub_base.specs.Causes.{Rose}
use Rattle.ub_base.specs.Sink.{Gains, GainsPart}

-- the text was put whole, and the call ends with the status; or a put failed after a part of it
abbrev pub EndsBy : Option (List ℕ) → Option (List ℕ) → ℕ → ℕ → ℕ → ℕ → List ℕ → Type 0
EndsBy old new before now result status text =
    ((result ≡ status) × Gains old new text) ⊎ ((result ≡ 21) × GainsPart old new text × Rose before now)

-- memory ran out, and that is put
abbrev pub EndsForMemory : Option (List ℕ) → Option (List ℕ) → ℕ → ℕ → ℕ → Type 0
EndsForMemory old new before now result = EndsBy old new before now result 30 (codes "no memory\n")

-- a device at one moment: what was put on it, where that is told, and how often a put failed
pub record Device : Type 0 where
  pub told : Option (List ℕ)
  pub faults : ℕ

abbrev pub device : Option (List ℕ) → ℕ → Device
device told faults = record { told = told; faults = faults }

-- The text was put whole, and then the bytes on standard error, or a part of them before a put that failed. Or a put of the text failed
-- after a part of it, and nothing went to standard error.
abbrev pub EndsByBoth : Device → Device → Device → Device → ℕ → ℕ → List ℕ → List ℕ → Type 0
EndsByBoth old new was is result status text errors =
    (Gains old.told new.told text × EndsBy was.told is.told was.faults is.faults result status errors)
    ⊎ ((result ≡ 21) × GainsPart old.told new.told text × Rose old.faults new.faults × (is ≡ was))

-- what may be put with which status
abbrev pub Answers : Type 1
Answers = ℕ → List ℕ → Type 0

-- a status and a text that may be answered end the call, or memory ran out
abbrev pub EndsTold : Answers → Option (List ℕ) → Option (List ℕ) → ℕ → ℕ → ℕ → Type 0
EndsTold answers old new before now result =
    ((status : ℕ) × (text : List ℕ) × answers status text × EndsBy old new before now result status text) ⊎ EndsForMemory old new before now result

-- what may be put on standard output and on standard error, with which status
abbrev pub BothAnswers : Type 1
BothAnswers = ℕ → List ℕ → List ℕ → Type 0

-- a status, a text and bytes that may be answered end the call, or memory ran out
abbrev pub EndsOnBoth : BothAnswers → Device → Device → Device → Device → ℕ → Type 0
EndsOnBoth answers old new was is result =
    ((status : ℕ) × (text : List ℕ) × (errors : List ℕ) × answers status text errors × EndsByBoth old new was is result status text errors)
    ⊎ (EndsForMemory old.told new.told old.faults new.faults result × (is ≡ was))
