-- What is fetched, and why a fetch stops (own).
use Rattle.std.specs.Prelude.{◌≡◌, ◌⊎◌, ◌≤◌, ◌<◌, ℕ, length, List, [], ◌∷◌, Option, Some, None, ⊤}
use Rattle.ub_base.specs.Causes.{Rose}
use Rattle.ub_base.specs.Held.{Held, bytes_under, Fetches}
use Rattle.ub_base.specs.declared.files.Fetched.TheVariants.{Whole, TooLong}
use Rattle.audit_sources.specs.Role.{most}
use Rattle.audit_sources.specs.declared.fetch.FetchFault.{FetchFault}
use Rattle.audit_sources.specs.declared.fetch.FetchFault.TheVariants as Fault
use Rattle.audit_sources.specs.declared.role.Role.{Role}
use Rattle.audit_sources.specs.declared.role.Role.TheVariants.{Source, Certificate, Input}

-- the bytes of a file, within its limit
abbrev pub IsWhole : Option Held → Role × List ℕ → List ℕ → Type 0
IsWhole held file bytes = Fetches held file.1 (most file.0) (Whole bytes)

-- the file isn't there, or a read failed while the count of read faults went from before to now
abbrev pub IsUnread : Option Held → List ℕ → ℕ → ℕ → Type 0
IsUnread held name before now = ((files : Held) × (held ≡ Some files) × (bytes_under files name ≡ None)) ⊎ Rose before now

-- why a file isn't fetched
abbrev pub Misses : Option Held → ℕ → ℕ → Role × List ℕ → FetchFault → Type 0
Misses held before now file Fault.ReadFault = IsUnread held file.1 before now
Misses held before now file (Fault.TooLong role) = (role ≡ file.0) × Fetches held file.1 (most file.0) TooLong
Misses held before now file Fault.NoMemory = ⊤

-- the first of the files that isn't fetched stops them
abbrev pub Stops : Option Held → ℕ → ℕ → List (Role × List ℕ) → FetchFault → Type 0
Stops held before now [] fault = ⊥
Stops held before now (file ∷ files) fault =
    Misses held before now file fault ⊎ ((bytes : List ℕ) × IsWhole held file bytes × Stops held before now files fault)

-- the file of the input, where one is named
abbrev pub input_wanted : Option (List ℕ) → List (Role × List ℕ)
input_wanted None = []
input_wanted (Some name) = (Input, name) ∷ []

-- the files of an audit, in the order in which they are fetched
abbrev pub wanted : List ℕ → Option (List ℕ) → List (Role × List ℕ)
wanted source input = (Source, source) ∷ input_wanted input

-- the files of a check behind the source, and all of them, in the order in which they are fetched
abbrev pub certificate_wanted : List ℕ → Option (List ℕ) → List (Role × List ℕ)
certificate_wanted certificate input = (Certificate, certificate) ∷ input_wanted input

abbrev pub check_wanted : List ℕ → List ℕ → Option (List ℕ) → List (Role × List ℕ)
check_wanted source certificate input = (Source, source) ∷ certificate_wanted certificate input

-- the input of the program: none, or that of the named file
abbrev pub HasInput : Option Held → Option (List ℕ) → List ℕ → Type 0
HasInput held None bytes = bytes ≡ []
HasInput held (Some name) bytes = IsWhole held (Input, name) bytes

-- the file is held, within its limit
abbrev pub IsHeld : Held → Role × List ℕ → Type 0
IsHeld files file = (bytes : List ℕ) × (bytes_under files file.1 ≡ Some bytes) × (length bytes ≤ most file.0)

-- each of these files is
abbrev pub AreHeld : Held → List (Role × List ℕ) → Type 0
AreHeld files [] = ⊤
AreHeld files (file ∷ rest) = IsHeld files file × AreHeld files rest

-- the file isn't, as it isn't there, or as it is longer
abbrev pub Fails : Held → Role × List ℕ → FetchFault → Type 0
Fails files file Fault.ReadFault = bytes_under files file.1 ≡ None
Fails files file (Fault.TooLong role) = (role ≡ file.0) × (bytes : List ℕ) × (bytes_under files file.1 ≡ Some bytes) × (most file.0 < length bytes)
Fails files file Fault.NoMemory = ⊥

-- the first of these files that isn't held within its limit fails so
abbrev pub FailsFirst : Held → List (Role × List ℕ) → FetchFault → Type 0
FailsFirst files [] fault = ⊥
FailsFirst files (file ∷ rest) fault = Fails files file fault ⊎ (IsHeld files file × FailsFirst files rest fault)
