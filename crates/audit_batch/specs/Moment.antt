-- The files that runs read (own).
use Rattle.std.specs.Prelude.{ℕ, Option}
use Rattle.ub_base.specs.Held.{Held}

-- the files at one moment: what they hold, and how often a read and a write failed
pub record Moment : Type 0 where
  pub held : Option Held
  pub reads : ℕ
  pub writes : ℕ

abbrev pub moment : Option Held → ℕ → ℕ → Moment
moment held reads writes = record { held = held; reads = reads; writes = writes }
