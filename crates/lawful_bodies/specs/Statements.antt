-- What a part of a function's statements adds to what was found before it.
use Rattle.std.specs.Prelude.{◌≡◌, ℕ, ◌+◌, Bool, true, false, List, ◌++◌, length}
use Rattle.std.specs.List.{All}
use Rattle.c_types.specs.declared.tags.Tag.{Tag}
use Rattle.c_typed.specs.declared.statement.ForStart.{ForStart, fold-ForStart}
use Rattle.c_typed.specs.declared.statement.Block.{Block, fold-Block}
use Rattle.c_typed.specs.declared.statement.Entry.{Entry, fold-Entry}
use Rattle.c_typed.specs.Sites.{Summary, summary_step, entry_summary, start_summary, block_summary}
use Rattle.c_typed.specs.Lawful.{NumberedFrom, BlockIsLawful, SwitchIsLawful}
use Rattle.lawful_bodies.specs.declared.found.Found.{Found}
use Rattle.lawful_bodies.specs.declared.found.Inside.{Inside}

abbrev pub block_found : Block → Summary
block_found = fold-Block Summary (Summary × List ℕ) Summary Summary summary_step entry_summary start_summary block_summary

abbrev pub start_found : ForStart → Summary
start_found = fold-ForStart Summary (Summary × List ℕ) Summary Summary summary_step entry_summary start_summary block_summary

-- an entry, and the objects that it declares without initializer
abbrev pub entry_found : Entry → Summary × List ℕ
entry_found = fold-Entry Summary (Summary × List ℕ) Summary Summary summary_step entry_summary start_summary block_summary

abbrev pub count_of : Bool → ℕ
count_of true = 1
count_of false = 0

-- what stands between these two states holds nothing unlawful, and the second has what it adds to the first
pub record Follows (tags : List Tag) (inside : Inside) (before : Found) (s : Summary) (after : Found) : Type 0 where
  pub numbered : NumberedFrom before.next s.blocks
  pub next : after.next ≡ before.next + length s.blocks
  pub blocks : All (BlockIsLawful tags) s.blocks
  pub switches : All SwitchIsLawful s.switches
  pub labels : after.labels ≡ before.labels ++ s.labels
  pub jumps : after.jumps ≡ before.jumps ++ s.jumps
  pub cases : after.cases ≡ before.cases ++ s.cases
  pub defaults : count_of after.has_default ≡ count_of before.has_default + s.defaults
  pub breaks : inside.breaks ≡ false → s.breaks ≡ 0
  pub continues : inside.continues ≡ false → s.continues ≡ 0
