-- The rules of a typed tree's nodes fit its tree (6.5.13 to 6.5.17, 6.5.2.2p10, 6.7.9p23).
use Rattle.std.specs.Prelude.{◌≡◌, ◌<◌, ◌^◌, ℕ, Bool, true, false, not, ◌&&◌, ◌||◌, List, [], ◌∷◌}
use Rattle.std.specs.List.{list_all}
use Rattle.c_typed.specs.declared.tree.Node.TheOpen as shape
use Rattle.c_typed.specs.declared.tree.Node.TheOpen.{Node-F, Typed-F}
use Rattle.c_typed.specs.declared.tree.Typed.{Typed, fold-Typed}
use Rattle.c_typed.specs.Tree.{tree_of, size}
use Rattle.c_typed.specs.Order.{Taken}
use Rattle.evaluation_log.specs.declared.rules.Rules.{Rules}
use Rattle.evaluation_log.specs.Ruled.{rules_of}
use Rattle.evaluation_log.specs.Ways.{rule_in}
use Rattle.run_evaluations.specs.First.{SequencesNone}
use Rattle.run_evaluations.specs.Scopes.{ListsAreAlone}
use Rattle.run_evaluations.specs.Shows.{FitsRules}

-- whether a node is an initializer list, and whether it is a listed initializer
pub record Listing : Type 0 where
  pub lists : Bool
  pub listed : Bool

abbrev pub no_listing : Listing
no_listing = record { lists = false; listed = false }

abbrev pub node_listing : Node-F Listing Listing → Listing
node_listing (shape.List object bytes) = record { lists = true; listed = false }
node_listing (shape.Isolated tree) = record { lists = false; listed = true }
node_listing _ = no_listing

abbrev pub has_none : List Listing → Bool
has_none [] = true
has_none (l ∷ ls) = false

-- whether a tree is a listed initializer without operands, and whether all lists in it have such alone, and its listed initializers no operands
abbrev pub tree_listing : Typed-F Listing Listing → Listing
tree_listing t = record {
  lists =
      ((not t.node.lists || list_all (λ (l : Listing). l.listed) t.children) && (not t.node.listed || has_none t.children))
      && list_all (λ (l : Listing). l.lists) t.children;
  listed = t.node.listed && has_none t.children;
}

-- the operands of each initializer list are listed initializers, each a full expression of its own, whose nodes have no operands (6.7.9p23)
abbrev pub has_lists_alone : Typed → Bool
has_lists_alone t = (fold-Typed Listing Listing node_listing tree_listing t).lists

-- the rules that are made of such a tree are those of its nodes, and sequence no operands of those alone that do so
abbrev pub RulesFit : Type 0
RulesFit = (root : Typed) (rules : Rules) (taken : Taken) → rules.list.items ≡ rules_of root 0 → size (tree_of root) < 2 ^ 32 →
    has_lists_alone root ≡ true →
    FitsRules (record { tree = tree_of root; taken = taken }) rules × ListsAreAlone (record { tree = tree_of root; taken = taken }) ×
    ((n : ℕ) → SequencesNone (record { tree = tree_of root; taken = taken }) n (rule_in rules n))
