-- Trees whose nodes have the operands that their operators take.
use Rattle.std.specs.Prelude.{◌<◌, ◌^◌, Bool, true, ◌&&◌, List, [], ◌∷◌, IsTrue}
use Rattle.c_typed.specs.declared.class.Class.{Class}
use Rattle.c_typed.specs.declared.class.Class.TheVariants.{Object, Constant, Choice, Isolated}
use Rattle.c_typed.specs.Tree.{Tree, node, Trees, none, more, size, is_quiet}
use Rattle.c_typed.specs.Order.{is_last}
use Rattle.elaborate.specs.Terms.{term_for}
use Rattle.core_ir.specs.Faithful.{IsFaithful}

abbrev pub all_quiet : Trees → Bool
all_quiet none = true
all_quiet (more t ts) = is_quiet t && all_quiet ts

abbrev pub after : Trees → Trees
after none = none
after (more t ts) = ts

-- what has no events has no operand with events; &&, || and ?: have at most three operands (6.5.13 to 6.5.15); the expression of a
-- listed initializer is no operand
abbrev pub takes : Class → Trees → Bool
takes Object ts = all_quiet ts
takes Constant ts = all_quiet ts
takes Choice ts = is_last (after (after (after ts)))
takes Isolated ts = is_last ts
takes _ ts = true

abbrev mutual
  pub is_formed : Tree → Bool
  is_formed (node class ts) = takes class ts && are_formed ts

  pub are_formed : Trees → Bool
  are_formed none = true
  are_formed (more t ts) = is_formed t && are_formed ts

-- fewer nodes than a number of 32 bits counts
abbrev pub EachCounts : List Tree → Type 0
EachCounts [] = Unit {0}
EachCounts (t ∷ ts) = (size t < 2 ^ 32) × EachCounts ts

abbrev pub EachFormed : List Tree → Type 0
EachFormed [] = Unit {0}
EachFormed (t ∷ ts) = IsTrue (is_formed t) × EachFormed ts

-- the term of every such tree is faithful to it
abbrev pub TermsAreFaithful : Type 0
TermsAreFaithful = (root : Tree) → IsTrue (is_formed root) → IsFaithful root (term_for 0 root)
