-- What one table of a program that is laid out names in another is there (own).
use Rattle.std.specs.Prelude.{ℕ, ◌+◌, ◌<◌, ◌≤◌, Bool, true, false, List, take, drop}
use Rattle.run_layout.specs.declared.steps.Range.{Range}
use Rattle.run_layout.specs.declared.steps.Way.{Way}
use Rattle.run_layout.specs.declared.steps.Choice.{Choice}
use Rattle.run_layout.specs.declared.steps.ObjectCode.{ObjectCode}
use Rattle.run_layout.specs.declared.steps.BlockCode.{BlockCode}

-- these are entries of a table with so many
abbrev pub IsRange : (count : ℕ) → Range → Type 0
IsRange count r = r.first + r.count ≤ count

-- the entries of a range of a table
abbrev pub part_of : {A : Type 0} → List A → Range → List A
part_of table r = take r.count (drop r.first table)

-- how a choice goes by the truth of its test
abbrev pub way_of : Choice → Bool → Way
way_of c true = c.yes
way_of c false = c.no

-- what is chosen with a choice, of so many
abbrev pub IsChoice : (chosen : ℕ) → Choice → Type 0
IsChoice chosen c = IsRange chosen c.yes.chosen × IsRange chosen c.no.chosen

-- the store of an object, of so many
abbrev pub IsObject : (stores : ℕ) → ObjectCode → Type 0
IsObject stores o = o.store < stores

-- the objects of a block, of so many
abbrev pub IsBlock : (objects : ℕ) → BlockCode → Type 0
IsBlock objects b = IsRange objects b.objects
