-- What a later count of faults says of an earlier one.
use Rattle.std.proofs.Common.{◌≡◌, ◌⊎◌, ℕ, ◌≤◌, List, [], ◌∷◌, Option, inl, inr, subst, sym, arith}
use Rattle.ub_base.specs.Causes.{Rose}
use Rattle.ub_base.specs.Held.{Held}
use Rattle.audit_sources.specs.Fetching.{IsWhole, Misses, Stops}
use Rattle.audit_sources.specs.declared.fetch.FetchFault.{FetchFault}
use Rattle.audit_sources.specs.declared.fetch.FetchFault.TheVariants as Fault
use Rattle.audit_sources.specs.declared.role.Role.{Role}

rose_later : (before mid now : ℕ) → before ≤ mid → Rose mid now → Rose before now
rose_later before mid now later rose = omega arith

misses_later : (held : Option Held) (before mid now : ℕ) (file : Role × List ℕ) (fault : FetchFault) → before ≤ mid → Misses held mid now file fault
    → Misses held before now file fault
misses_later held before mid now file Fault.ReadFault later (inl lacks) = inl lacks
misses_later held before mid now file Fault.ReadFault later (inr rose) = inr (rose_later before mid now later rose)
misses_later held before mid now file (Fault.TooLong role) later misses = misses
misses_later held before mid now file Fault.NoMemory later misses = misses

pub stops_later : (held : Option Held) (before mid now : ℕ) (files : List (Role × List ℕ)) (fault : FetchFault) → before ≤ mid → Stops held mid now files fault
    → Stops held before now files fault
stops_later held before mid now [] fault later stops = stops
stops_later held before mid now (file ∷ files) fault later (inl misses) = inl (misses_later held before mid now file fault later misses)
stops_later held before mid now (file ∷ files) fault later (inr r) = inr (r.0, r.1, stops_later held before mid now files fault later r.2)

-- the first file was fetched, and the others stop
pub stops_after : (held after : Option Held) (before mid now : ℕ) (file : Role × List ℕ) (files : List (Role × List ℕ)) (bytes : List ℕ) (fault : FetchFault)
    → before ≤ mid → after ≡ held → IsWhole held file bytes → Stops after mid now files fault → Stops held before now (file ∷ files) fault
stops_after held after before mid now file files bytes fault later same whole stops =
    inr (bytes, whole, stops_later held before mid now files fault later (subst (λ h. Stops h mid now files fault) same stops))
