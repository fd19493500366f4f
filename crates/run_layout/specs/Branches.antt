-- The nodes that evaluate one of their operands by the truth of the first (6.5.13 to 6.5.15).
use Rattle.std.specs.Prelude.{◌≡◌, Bool, true, false, List, ◌∷◌, Option, ℕ}
use Rattle.c_typed.specs.declared.tree.Node.TheOpen as shape
use Rattle.c_typed.specs.declared.tree.Node.TheOpen.{Node-F}
use Rattle.c_model.specs.Program.{Head, And, Or, Cond}
use Rattle.c_model.specs.Steps.{choice_by}
use Rattle.c_model.specs.Values.{Value, truth}

abbrev pub is_choice : Head → Bool
is_choice And = true
is_choice Or = true
is_choice Cond = true
is_choice _ = false

-- the node is to the definitions the one that chooses as it does, or neither chooses
abbrev pub IsChoiceOf : {A B : Type 0} → Node-F A B → Head → Type 0
IsChoiceOf shape.And h = h ≡ And
IsChoiceOf shape.Or h = h ≡ Or
IsChoiceOf shape.Cond h = h ≡ Cond
IsChoiceOf _ h = is_choice h ≡ false

-- the operand is the one that the definitions choose, where the first operand's value has this truth
abbrev pub Chooses : {A B : Type 0} → Node-F A B → Bool → Option ℕ → Type 0
Chooses node test operand = (h : Head) → IsChoiceOf node h → (v : Value) (vs : List Value) → truth v ≡ test → operand ≡ choice_by h (v ∷ vs) true
