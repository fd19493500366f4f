-- The way from the root of a full expression to a node (own).
use Rattle.std.specs.Prelude.{◌≡◌, ◌<◌, ◌+◌, ◌-◌, ◌^◌, min, nat_lt, ℕ, suc, List, [], ◌∷◌, Option, Some, None, slice_get, length, if◌then◌else◌}
use Rattle.c_typed.specs.declared.tree.Typed.{Typed, out-Typed}
use Rattle.c_typed.specs.Tree.{Tree, Trees, node, none, more, size}
use Rattle.evaluation_log.specs.declared.log.Segment.{Segment}
use Rattle.evaluation_log.specs.declared.rules.Rule.{Rule}
use Rattle.evaluation_log.specs.declared.rules.Rule.TheVariants.{Open}
use Rattle.evaluation_log.specs.declared.rules.Rules.{Rules}
use Rattle.evaluation_log.specs.declared.trees.Spot.{Spot}

abbrev mutual
  -- the nodes above a node, from the root on, whose number this is
  pub above_in : ℕ → Tree → ℕ → List ℕ
  above_in k (node class ts) n = if nat_lt k n then k ∷ above_among (suc k) ts n else []

  pub above_among : ℕ → Trees → ℕ → List ℕ
  above_among m none n = []
  above_among m (more t ts) n = if nat_lt n (m + size t) then above_in m t n else above_among (m + size t) ts n

abbrev pub rule_or_open : Option Rule → Rule
rule_or_open None = Open
rule_or_open (Some r) = r

-- the rule of a node
abbrev pub rule_in : Rules → ℕ → Rule
rule_in rules n = rule_or_open (slice_get rules.list.items n)

-- the nodes of a way stand in their order
abbrev pub IsRising : List ℕ → Type 0
IsRising above = (j k x y : ℕ) → j < k → slice_get above j ≡ Some x → slice_get above k ≡ Some y → x < y

abbrev pub node_of : Option Segment → Option ℕ
node_of None = None
node_of (Some s) = Some s.node

-- the operand that holds a node, found by the numbers of its neighbours, which end at the greatest of their type
abbrev pub next_number : ℕ → ℕ → ℕ
next_number m count = min (m + min count (2 ^ 32 - 1)) (2 ^ 32 - 1)

-- from operand i on, the first of which has the number m
abbrev pub spot_among : ℕ → ℕ → Trees → ℕ → Option Spot
spot_among i m none n = None
spot_among i m (more t ts) n =
    if nat_lt n (next_number m (size t)) then Some (record { index = i; number = m }) else spot_among (suc i) (next_number m (size t)) ts n

-- how many operands a node has
abbrev pub arity : Typed → ℕ
arity t = length (out-Typed t).children
