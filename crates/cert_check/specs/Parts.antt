-- What the parts of a certificate are asked for (own).
use Rattle.std.specs.Prelude.{◌≡◌, ℕ, ◌-◌, Bool, true, false, ◌&&◌, ◌||◌, nat_lt, nat_le, List, [], ◌∷◌, Option, Some, None, if◌then◌else◌}
use Rattle.addr_map.specs.declared.map.Row.{Row}
use Rattle.addr_map.specs.Rows.{breaks, insert_row}
use Rattle.ub_base.specs.declared.clause.Clause.TheVariants.{Unsequenced}
use Rattle.certificate.specs.declared.cert.Segment.{Segment}
use Rattle.certificate.specs.declared.cert.Segment.TheVariants.{Canonical, Pick}
use Rattle.certificate.specs.declared.cert.Claim.{Claim}
use Rattle.certificate.specs.declared.cert.Claim.TheVariants.{Clean, Undefined, OrderDependent, OutOfSteps, Outside}

-- the map with these rows added in turn, none where one of them breaks a rule
abbrev pub added : List Row → List Row → Option (List Row)
added map [] = Some map
added map (row ∷ rows) = if breaks map row then None else added (insert_row row map) rows

-- how many picks a stretch has
abbrev pub picks_of : Segment → ℕ
picks_of (Canonical count) = count
picks_of (Pick node kind) = 1

-- no stretch is empty, and all together have at most so many picks
abbrev pub is_within : ℕ → List Segment → Bool
is_within most [] = true
is_within most (segment ∷ order) = nat_lt 0 (picks_of segment) && (nat_le (picks_of segment) most && is_within (most - picks_of segment) order)

-- one canonical stretch
abbrev pub is_one : List Segment → Bool
is_one [] = false
is_one (Canonical count ∷ []) = true
is_one (Canonical count ∷ segment ∷ order) = false
is_one (Pick node kind ∷ order) = false

abbrev pub is_none : List Segment → Bool
is_none [] = true
is_none (segment ∷ order) = false

-- the order has the form that the claim asks for: of undefined behaviour any, of a limit that is passed one canonical
-- stretch or none, and of all else one canonical stretch
abbrev pub is_of_form : Claim → List Segment → Bool
is_of_form (Clean status output) order = is_one order
is_of_form (Undefined clause pair) order = true
is_of_form (OrderDependent event against) order = is_one order
is_of_form OutOfSteps order = is_one order
is_of_form (Outside cause number) order = is_none order || is_one order

-- the order has that form, and at most 100,000,000 picks
abbrev pub is_formed : Claim → List Segment → Bool
is_formed claim order = is_of_form claim order && is_within 100000000 order

-- a pair of events is a race, which is undefined by 6.5p2
abbrev pub NamesRace : Claim → Type 0
NamesRace (Clean status output) = Unit {0}
NamesRace (Undefined clause None) = Unit {0}
NamesRace (Undefined clause (Some pair)) = clause ≡ Unsequenced
NamesRace (OrderDependent event against) = Unit {0}
NamesRace OutOfSteps = Unit {0}
NamesRace (Outside cause number) = Unit {0}
