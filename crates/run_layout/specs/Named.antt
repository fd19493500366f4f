-- What the entries of a listing name in the tables is there, and so are the entries of each full expression (own).
use Rattle.std.specs.Prelude.{◌≡◌, ℕ, ◌^◌, ◌<◌, ◌≤◌, List, length}
use Rattle.std.specs.Option.{ForSome}
use Rattle.c_typed.specs.Tree.{tree_of, size}
use Rattle.run_layout.specs.declared.steps.Operand.{Operand}
use Rattle.run_layout.specs.declared.steps.Act.{Act}
use Rattle.run_layout.specs.declared.steps.Act.TheVariants as act
use Rattle.run_layout.specs.declared.steps.Due.{Due}
use Rattle.run_layout.specs.declared.steps.Expression.{Expression}
use Rattle.run_layout.specs.declared.steps.Listed.{Listed}
use Rattle.run_layout.specs.declared.steps.Listed.TheVariants as listed
use Rattle.run_layout.specs.declared.tables.Tables.{Tables}
use Rattle.run_layout.specs.InRange.{IsRange}

-- the store, the call and the constant bytes that an act names
abbrev pub IsNamed : Tables → Act → Type 0
IsNamed tables a =
    ((n : ℕ) (place value : Operand) → a ≡ act.Store n place value → n < length tables.stores.items) ×
    ((n : ℕ) → a ≡ act.Call n → n < length tables.calls.items) ×
    ((object : Operand) (n : ℕ) → a ≡ act.Fill object n → n < length tables.constants.items)

-- those of an event, and the choice that is made at it
abbrev pub IsDueOf : Tables → Due → Type 0
IsDueOf tables d = IsNamed tables d.act × ForSome d.choice (λ n. n < length tables.choices.items)

abbrev pub IsListedOf : Tables → Listed → Type 0
IsListedOf tables x = (d : Due) → x ≡ listed.Event d → IsDueOf tables d

-- the entries of a full expression, and the choices that are made as it begins; its nodes have numbers of 32 bits
abbrev pub IsExpressionOf : Tables → List Listed → Expression → Type 0
IsExpressionOf tables entries e =
    (e.first ≤ e.end) × (e.end ≤ length entries) × IsRange (length tables.chosen.items) e.chosen × (size (tree_of e.root.now) < 2 ^ 32)
