-- What is known of the full expressions of a program that have begun (own).
use Rattle.std.specs.Borrow.{Bor}
use Rattle.std.specs.Prelude.{◌≡◌, ◌⊎◌, ◌==◌, ℕ, Bool, true, false, not, List, [], length, Option, Some, None, slice_get}
use Rattle.c_typed.specs.declared.tree.Typed.{Typed}
use Rattle.c_typed.specs.Tree.{tree_of}
use Rattle.evaluation_log.specs.declared.rules.Rule.{Rule}
use Rattle.evaluation_log.specs.declared.rules.Rule.TheVariants.{Open}
use Rattle.evaluation_log.specs.Ruled.{rules_of}
use Rattle.evaluation_log.specs.Ways.{rule_in}
use Rattle.quiet_trees.specs.Loads.{loads_of}
use Rattle.quiet_trees.specs.Quiet.{IsQuiet}
use Rattle.quiet_trees.specs.Summaries.{summary_of}
use Rattle.conflict_detector.specs.declared.examined.Examined.{Examined}
use Rattle.conflict_detector.specs.declared.examined.Expressions.{Expressions}

-- the full expression of this number is this one
abbrev pub IsNumbered : List (Bor Typed) → ℕ → Typed → Type 0
IsNumbered roots n t = (b : Bor Typed) × (slice_get roots n ≡ Some b) × (b.now ≡ t)

-- no two evaluations of the full expression may conflict of which neither is sequenced before the other, and its summary says so
abbrev pub IsQuietRoot : Typed → Type 0
IsQuietRoot t = IsQuiet (tree_of t) (loads_of t) × ((summary_of (tree_of t) (loads_of t)).clash ≡ false)

-- nothing is known yet of the full expression of this number, or the rules of its nodes are, and it is quiet if it is said to be
abbrev pub IsRight : List (Bor Typed) → ℕ → Examined → Type 0
IsRight roots n e = (t : Typed) → IsNumbered roots n t →
    ((e.rules.list.items ≡ []) ⊎ (e.rules.list.items ≡ rules_of t 0)) × (e.quiet ≡ true → IsQuietRoot t)

abbrev pub AreRight : List (Bor Typed) → Expressions → Type 0
AreRight roots x = (n : ℕ) (e : Examined) → slice_get x.list.items n ≡ Some e → IsRight roots n e

-- the rules of this one are known
abbrev pub HasRules : Expressions → ℕ → Typed → Type 0
HasRules x n t = (e : Examined) × (slice_get x.list.items n ≡ Some e) × (e.rules.list.items ≡ rules_of t 0)

abbrev pub is_known : Option Examined → Bool
is_known None = false
is_known (Some e) = not (length e.rules.list.items == 0)

abbrev pub is_said_quiet : Option Examined → Bool
is_said_quiet None = false
is_said_quiet (Some e) = e.quiet

-- the rule of a node of it, or that of a node of which nothing is known
abbrev pub rule_by : Option Examined → ℕ → Rule
rule_by None n = Open
rule_by (Some e) n = rule_in e.rules n
