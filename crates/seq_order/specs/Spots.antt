-- The operand that holds a node, found by the numbers of its neighbours, which end at the greatest of their type.
use Rattle.std.specs.Prelude.{ℕ, suc, ◌+◌, ◌-◌, ◌^◌, min, nat_lt, length, Option, Some, None, if◌then◌else◌}
use Rattle.c_typed.specs.declared.tree.Typed.{Typed, out-Typed}
use Rattle.c_typed.specs.Tree.{Trees, none, more, size}
use Rattle.seq_order.specs.declared.spot.Spot.{Spot}

abbrev pub next_number : ℕ → ℕ → ℕ
next_number m count = min (m + min count (2 ^ 32 - 1)) (2 ^ 32 - 1)

-- from operand i on, the first of which has the number m
abbrev pub spot_among : ℕ → ℕ → Trees → ℕ → Option Spot
spot_among i m none n = None
spot_among i m (more t ts) n =
    if nat_lt n (next_number m (size t)) then Some (record { index = i; number = m }) else spot_among (suc i) (next_number m (size t)) ts n

-- how many operands a node has
abbrev pub arity : Typed → ℕ
arity t = length (out-Typed t).children
