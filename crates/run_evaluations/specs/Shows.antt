-- Which pairs of evaluations show at a telling, and that none of them clash, unless one is sequenced before the other (5.1.2.3p3, 6.5p2).
use Rattle.std.specs.Prelude.{◌≡◌, ◌⊎◌, ◌≤◌, ◌<◌, ◌+◌, ◌-◌, ◌^◌, ℕ, true, false, List, Some, is_some, slice_get, length}
use Rattle.ub_base.specs.declared.clause.Kind.TheVariants.{Body}
use Rattle.ub_base.specs.declared.names.Item.TheVariants.{Any as AnyEvent}
use Rattle.addr_map.specs.declared.map.Row.{Row}
use Rattle.c_typed.specs.declared.tree.Place.{Place}
use Rattle.c_typed.specs.declared.class.Class.{Class}
use Rattle.c_typed.specs.declared.class.Class.TheVariants as class
use Rattle.c_typed.specs.Tree.{Tree, Trees, node, size, is_quiet}
use Rattle.c_typed.specs.Decide.{due_in, is_before}
use Rattle.footprint.specs.Holds.{stands_for}
use Rattle.evaluation_log.specs.declared.rules.Rules.{Rules}
use Rattle.evaluation_log.specs.Kept.{is_unsequenced}
use Rattle.evaluation_log.specs.Ways.{rule_in}
use Rattle.evaluation_log.specs.declared.sought.Sought.TheVariants.{Any}
use Rattle.evaluation_log.specs.Clashes.{NoClash}
use Rattle.run_evaluations.specs.Scopes.{Scope, IsRuled, ListsAreAlone, part_of}
use Rattle.run_evaluations.specs.Told.{Evaluation, Opened, has, IsBeside, IsOperandIn, IsUnder}

-- the evaluation is done
abbrev pub IsAmong : Opened → Evaluation → Type 0
IsAmong t e = (i : ℕ) × (slice_get t.done i ≡ Some e)

-- neither is sequenced before the other
pub record AreApart (s : Scope) (u v : Place) : Type 0 where
  pub before : is_before s.taken 0 s.tree u v ≡ false
  pub behind : is_before s.taken 0 s.tree v u ≡ false

-- the node x stands in the tree of the node m
pub record IsIn (s : Scope) (m x : ℕ) : Type 0 where
  pub part : Tree
  pub there : part_of s m ≡ Some part
  pub low : m ≤ x
  pub high : x < m + size part

-- the nodes stand in two operands of the node n, which are evaluated and have a value, the first in the first
pub record AreOfTwo (s : Scope) (n x y : ℕ) : Type 0 where
  pub first : ℕ
  pub second : ℕ
  pub of_first : IsOperandIn s n first
  pub of_second : IsOperandIn s n second
  pub rise : first < second
  pub in_first : IsIn s first x
  pub in_second : IsIn s second y

-- no evaluations of two operands of the node clash
abbrev pub NoneOfTwo : List Row → Opened → ℕ → Type 0
NoneOfTwo rows t n = (d e : Evaluation) → IsAmong t d → IsAmong t e → AreOfTwo t.scope n d.place.node e.place.node →
    AreApart t.scope d.place e.place → NoClash Any rows (has d) (has e)

-- nor does an evaluation of the node with one below it
abbrev pub NoneOfNode : List Row → Opened → ℕ → Type 0
NoneOfNode rows t n = (d e : Evaluation) → IsAmong t d → IsAmong t e → d.place.node ≡ n → IsUnder t.scope n e.place.node →
    AreApart t.scope d.place e.place → NoClash Any rows (has d) (has e)

-- the node's own evaluations are the last that were told, of which it has two at most
abbrev pub OwnAreLast : Opened → ℕ → Type 0
OwnAreLast t n = (i : ℕ) (e : Evaluation) → slice_get t.done i ≡ Some e → e.place.node ≡ n → length t.done ≤ i + 2

-- ---- where the run ends
-- each node of the tree has its rule, and those whose operands are sequenced are And, Or, Cond and commas alone
pub record FitsRules (s : Scope) (rules : Rules) : Type 0 where
  pub ruled : (n : ℕ) (c : Class) (ts : Trees) → part_of s n ≡ Some (node c ts) → IsRuled s n c ts (rule_in rules n) (is_some (s.taken n))
  pub free : (n : ℕ) (c : Class) (ts : Trees) → part_of s n ≡ Some (node c ts) → (c ≡ class.Choice → ⊥) → (c ≡ class.Comma → ⊥) →
      is_unsequenced (rule_in rules n) ≡ true

-- nothing is due in the tree of a node without events
abbrev pub IsStill : Scope → Type 0
IsStill s = (m : ℕ) (t : Tree) (u : Place) → part_of s m ≡ Some t → is_quiet t ≡ true → due_in s.taken m t u ≡ true → ⊥

-- a body was told last, and all that is done before it stands beside its node
pub record EndsTop (t : Opened) (last : Evaluation) : Type 0 where
  pub some : 0 < length t.done
  pub at : slice_get t.done (length t.done - 1) ≡ Some last
  pub body : last.place.kind ≡ Body
  pub due : due_in t.scope.taken 0 t.scope.tree last.place ≡ true
  pub parts : (m : ℕ) → t.parts m ≡ true → (m ≡ last.place.node) ⊎ IsBeside t.scope m last.place.node

-- an end of the run is told of this full expression, with its rules
pub record TellsEnd (t : Opened) (tree : Tree) (rules : Rules) (last : Evaluation) : Type 0 where
  pub same : t.scope.tree ≡ tree
  pub fits : FitsRules t.scope rules
  pub still : IsStill t.scope
  pub alone : ListsAreAlone t.scope
  pub top : EndsTop t last
  pub small : size tree < 2 ^ 32

-- no evaluations of two operands of a node above this one clash
abbrev pub NoneOfWay : List Row → Opened → ℕ → Type 0
NoneOfWay rows t x = (n : ℕ) → IsUnder t.scope n x → NoneOfTwo rows t n

-- nor would an evaluation that is due beside the last one, whatever it does
abbrev pub NonePending : List Row → Opened → Evaluation → Type 0
NonePending rows t last = (w : Place) → due_in t.scope.taken 0 t.scope.tree w ≡ true → (w.node ≡ last.place.node → ⊥) →
    AreApart t.scope w last.place → NoClash Any rows (stands_for AnyEvent) (has last)
