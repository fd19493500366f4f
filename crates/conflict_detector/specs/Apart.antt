-- How the two evaluations of a conflict stand to one another.
use Rattle.std.specs.Prelude.{◌≡◌, ◌<◌, ◌^◌, ℕ, Bool, true, false, List, slice_get, Option, Some}
use Rattle.std.specs.Option.{ForSome}
use Rattle.ub_base.specs.declared.names.Event.{Event}
use Rattle.c_typed.specs.declared.tree.Place.{Place}
use Rattle.c_typed.specs.Tree.{Tree, size}
use Rattle.c_typed.specs.Order.{Taken}
use Rattle.c_typed.specs.Decide.{due_in}
use Rattle.seq_order.specs.declared.relations.Relation.{Relation}
use Rattle.seq_order.specs.declared.relations.Relation.TheVariants.{Sequenced, Unsequenced, Indeterminate}
use Rattle.seq_order.specs.Relations.{relation_in}
use Rattle.evaluation_log.specs.declared.found.Found.{Found}
use Rattle.conflict_detector.specs.declared.seen.Seen.{Seen}

abbrev pub place_of : Event → Place
place_of e = record { node = e.node; kind = e.kind }

-- those of a race are unsequenced (6.5p2), and of those of another conflict neither is sequenced before the other
abbrev pub Suits : Bool → Relation → Type 0
Suits race Sequenced = ⊥
Suits race Unsequenced = Unit {0}
Suits race Indeterminate = race ≡ false

-- both are evaluated in this full expression, where these operands are chosen, and they stand so there
abbrev pub IsApart : Taken → Tree → Bool → Place → Place → Type 0
IsApart taken root race u v = size root < 2 ^ 32 → (due_in taken 0 root u ≡ true) × (due_in taken 0 root v ≡ true) × Suits race (relation_in taken root u v)

-- one of these full expressions, with a choice of operands there by which they stand so in it
pub record StandIn (trees : List Tree) (race : Bool) (event against : Event) : Type 0 where
  pub number : ℕ
  pub root : Tree
  pub taken : Taken
  pub there : slice_get trees number ≡ Some root
  pub apart : IsApart taken root race (place_of event) (place_of against)

-- there is one
abbrev pub AreApart : List Tree → Bool → Event → Event → Type 0
AreApart trees race event against = ∥ StandIn trees race event against ∥₁

abbrev pub FoundApart : List Tree → Option Found → Type 0
FoundApart trees found = ForSome found (λ f. AreApart trees f.race f.event f.against)

abbrev pub SeenApart : List Tree → Option Seen → Type 0
SeenApart trees seen = ForSome seen (λ s. AreApart trees s.found.race s.found.event s.found.against)
