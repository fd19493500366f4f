-- Calls with a format under the rows of a memory and under more (own).
use Rattle.std.specs.Prelude.{◌≡◌, ℕ, List, [], ◌∷◌, Option, ℤ}
use Rattle.addr_map.specs.declared.map.Row.{Row}
use Rattle.mem_spec.specs.Store.{Store}
use Rattle.libc_spec.specs.Library.{LibValue, prov_in}
use Rattle.libc_spec.specs.Print.{Argument, printed_by}
use Rattle.libc_spec.specs.Formatted.{printed_to_by, stored_by}
use Rattle.mem_laws.specs.MoreRows.{Extends, AreIn}

-- each candidate of each pointer among the arguments behind a format has a row
abbrev pub FormattedIn : List Row → List Argument → Type 0
FormattedIn rows [] = Unit {0}
FormattedIn rows (a ∷ rest) = AreIn rows (prov_in a.value) × FormattedIn rows rest

-- printf, fprintf, and sprintf and snprintf
pub record FormatsSame (few more : List Row) (format : LibValue) (given : List Argument) (s : Store) : Type 0 where
  pub printed : printed_by more format given s ≡ printed_by few format given s
  pub printed_to : (stream : ℤ) → printed_to_by more stream format given s ≡ printed_to_by few stream format given s
  pub stored : (most : Option ℕ) (to : LibValue) → AreIn few (prov_in to) → stored_by more most to format given s ≡ stored_by few most to format given s

-- a call with a format does the same under more rows
abbrev pub FormatsSameUnderMore : Type 0
FormatsSameUnderMore = (few more : List Row) (format : LibValue) (given : List Argument) (s : Store) → Extends few more → AreIn few (prov_in format)
    → FormattedIn few given → FormatsSame few more format given s
