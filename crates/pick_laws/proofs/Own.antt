-- A full expression of a function is laid out by nodes, where the objects of the function's blocks have their numbers.
use Rattle.std.proofs.Common.{arith, ◌≡◌, ◌+◌, ◌-◌, ◌<◌, ℕ, zero, suc, List, [], ◌∷◌, length, Some, slice_get}
use Rattle.std.proofs.Common.{subst}
use Rattle.c_typed.specs.declared.program.Program.{Program}
use Rattle.c_typed.specs.declared.tree.Typed.{Typed}
use Rattle.run_layout.specs.declared.nodes.NodeInfo.{NodeInfo}
use Rattle.run_layout.specs.declared.steps.Expression.{Expression as Laid}
use Rattle.run_layout.specs.declared.steps.FunctionCode.{FunctionCode}
use Rattle.run_layout.specs.declared.whole.Code.{Code}
use Rattle.run_layout.specs.Functions.{AreLaidFrom, IsLaidAt, laid_in}
use Rattle.run_layout.specs.LaidOut.{LaidOutBy}
use Rattle.run_statements.specs.declared.numbers.Numbers.{Numbers}
use Rattle.run_answers.specs.Beginning.{IsAmong}
use Rattle.run_laws.specs.SetUp.{IsItsCode}

-- the full expression of this number, with the numbers of its function's objects and the nodes
pub record IsOwnLaid (code : Code) (number : ℕ) : Type 0 where
  pub laid : Laid
  pub at : slice_get code.expressions.items number ≡ Some laid
  pub firsts : List ℕ
  pub nodes : List NodeInfo
  pub lays : LaidOutBy firsts nodes code.tables code.listing.items laid

laid_at : (firsts : List ℕ) (code : Code) (at k : ℕ) (ts : List Typed) → AreLaidFrom firsts code.tables (laid_in code) at ts → k < length ts
    → IsOwnLaid code (at + k)
laid_at firsts code at k [] all lt = absurd (omega (arith, lt))
laid_at firsts code at zero (t ∷ ts) all lt =
    let it = all.0 in
    subst (IsOwnLaid code) (omega arith) (first it)
  where
    first : IsLaidAt firsts code.tables (laid_in code) at t → IsOwnLaid code at
    first it = record { laid = it.0; at = it.1; firsts = firsts; nodes = it.3.0; lays = it.3.1 }
laid_at firsts code at (suc k) (t ∷ ts) all lt =
    subst (IsOwnLaid code) (omega (arith)) (laid_at firsts code (suc at) k ts all.1 (omega (arith, lt)))

pub own_laid : (p : Program) (numbers : Numbers) (code : Code) → IsItsCode p numbers code → (n : ℕ) (c : FunctionCode)
    → slice_get code.functions.items n ≡ Some (Some c) → (number : ℕ) → IsAmong c.expressions number → IsOwnLaid code number
own_laid p numbers code its n c at number is =
    let found = its.functions.only n (c, at) in
    let has = its.expressions n found.0 found.2 c found.1 found.3 at in
    let first = is.first in
    let end = is.end in
    let count = has.count in
    subst (IsOwnLaid code) (omega (arith, first))
    (laid_at _ code c.expressions.first (number - c.expressions.first) _ has.each (omega (arith, first, end, count)))
