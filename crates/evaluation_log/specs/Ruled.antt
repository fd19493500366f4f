-- The rules and the lines of a full expression's nodes, in preorder: those of the node of number n stand at place n (own). The own tree of a
-- listed initializer has numbers of its own.
use Rattle.std.specs.Prelude.{ℕ, zero, suc, ◌+◌, ◌-◌, ◌^◌, min, List, [], ◌∷◌, ◌++◌, length, slice_get, Option, Some, None, Result, Ok, Err}
use Rattle.c_typed.specs.declared.tree.Node.TheOpen as shape
use Rattle.c_typed.specs.declared.tree.Node.TheOpen.{Node-F, Typed-F}
use Rattle.c_typed.specs.declared.tree.Typed.{Typed, out-Typed, fold-Typed}
use Rattle.evaluation_log.specs.declared.rules.Rule.{Rule}
use Rattle.evaluation_log.specs.declared.rules.Rule.TheVariants.{Open, Closed, Choice, Comma}

-- the rule of a node, by the number of its last operand
abbrev pub NodeRule : Type 0
NodeRule = ℕ → Rule

-- the rules of a tree's nodes, by the number of its root
abbrev pub TreeRules : Type 0
TreeRules = ℕ → List Rule

abbrev pub node_rule : Node-F NodeRule TreeRules → NodeRule
node_rule shape.And last = Choice
node_rule shape.Or last = Choice
node_rule shape.Cond last = Choice
node_rule shape.Comma last = Comma last
node_rule (shape.Call discarded) last = Closed
node_rule (shape.List object bytes) last = Closed
node_rule (shape.Isolated tree) last = Closed
node_rule _ last = Open

-- the rules of operands, the first of which has the number m
abbrev pub rules_among : List TreeRules → ℕ → List Rule
rules_among [] m = []
rules_among (r ∷ rs) m = r m ++ rules_among rs (m + length (r m))

-- the number of the last of these operands, the first of which has the number m; the second number where there are none
abbrev pub last_among : List TreeRules → ℕ → ℕ → ℕ
last_among [] m last = last
last_among (r ∷ rs) m last = last_among rs (m + length (r m)) m

-- numbers end at the greatest of their type
abbrev pub tree_rules : Typed-F NodeRule TreeRules → TreeRules
tree_rules t k = t.node (min (last_among t.children (suc k) k) (2 ^ 32 - 1)) ∷ rules_among t.children (suc k)

-- the rules of a tree's nodes
abbrev pub rules_of : Typed → TreeRules
rules_of = fold-Typed NodeRule TreeRules node_rule tree_rules

abbrev pub joined : List (List ℕ) → List ℕ
joined [] = []
joined (ls ∷ lss) = ls ++ joined lss

abbrev pub no_line : Node-F (Unit {0}) (List ℕ) → Unit {0}
no_line n = tt

abbrev pub tree_lines : Typed-F (Unit {0}) (List ℕ) → List ℕ
tree_lines t = t.line ∷ joined t.children

-- the lines of a tree's nodes
abbrev pub lines_of : Typed → List ℕ
lines_of = fold-Typed (Unit {0}) (List ℕ) no_line tree_lines

abbrev pub line_or : ℕ → Option ℕ → ℕ
line_or line None = line
line_or line (Some l) = l

-- the line of a node, and the root's where there is no such node
abbrev pub line_at : Typed → ℕ → ℕ
line_at root n = line_or (out-Typed root).line (slice_get (lines_of root) n)

-- the line at this place of a list, or how much of the number is left behind its end
abbrev pub sought_line : ℕ → List ℕ → Result ℕ ℕ
sought_line n [] = Err n
sought_line zero (l ∷ ls) = Ok l
sought_line (suc n) (l ∷ ls) = sought_line n ls
