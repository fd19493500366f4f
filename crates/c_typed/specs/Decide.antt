-- Sequenced before and due, by going down to the operand that holds an event, and what may come next.
use Rattle.std.specs.Prelude.{ℕ, zero, suc, ◌+◌, Bool, true, false, not, ◌&&◌, ◌||◌, ◌==◌, nat_lt, List, [], ◌∷◌, Option, Some, None, if◌then◌else◌}
use Rattle.std.specs.List.{list_any, list_all}
use Rattle.ub_base.specs.declared.clause.Kind.{Kind}
use Rattle.ub_base.specs.declared.clause.Kind.TheVariants.{Val, Eff, Body}
use Rattle.ub_base.specs.Names.{same_kind}
use Rattle.c_typed.specs.declared.tree.Place.{Place}
use Rattle.c_typed.specs.declared.class.Class.{Class}
use Rattle.c_typed.specs.Tree.{Tree, node, Trees, none, more, size, is_quiet, kinds_of}
use Rattle.c_typed.specs.Order.{Taken, goes, across, upward, own_rule, is_val, is_body, is_last, events, update_is_open}

abbrev pub has_kind : List Kind → Kind → Bool
has_kind [] kind = false
has_kind (l ∷ ls) kind = same_kind kind l || has_kind ls kind

abbrev mutual
  -- the event is due in the tree whose root has the number k
  pub due_in : Taken → ℕ → Tree → Place → Bool
  due_in taken k (node class ts) u =
      if u.node == k then has_kind (kinds_of class) u.kind else due_among taken class (taken k) 0 (suc k) ts u

  pub due_among : Taken → Class → Option ℕ → ℕ → ℕ → Trees → Place → Bool
  due_among taken class choice i m none u = false
  due_among taken class choice i m (more t ts) u =
      if nat_lt u.node (m + size t) then goes class choice i && due_in taken m t u else due_among taken class choice (suc i) (m + size t) ts u

-- all of operand i before an event of its node, also by way of a body
abbrev pub lifts : Class → Option ℕ → ℕ → Bool → Kind → Bool
lifts class choice i last Val = upward class choice i last Val || upward class choice i last Body
lifts class choice i last kind = upward class choice i last kind

-- the node b stands in an operand from operand j on, which all of operand i comes before
abbrev pub crosses : Class → Option ℕ → ℕ → ℕ → ℕ → Trees → ℕ → Bool
crosses class choice i j m none b = false
crosses class choice i j m (more t ts) b =
    if nat_lt b (m + size t) then across class choice i j else crosses class choice i (suc j) (m + size t) ts b

abbrev mutual
  -- u is sequenced before v, where both are due
  pub is_before : Taken → ℕ → Tree → Place → Place → Bool
  is_before taken k (node class ts) u v =
      if u.node == k then (v.node == k) && own_rule class u.kind v.kind
      else (if v.node == k then rises taken class (taken k) 0 (suc k) ts u v.kind else between taken class (taken k) 0 (suc k) ts u v)

  -- u in an operand comes before the event of this kind of the node
  pub rises : Taken → Class → Option ℕ → ℕ → ℕ → Trees → Place → Kind → Bool
  rises taken class choice i m none u kind = false
  rises taken class choice i m (more t ts) u kind =
      if nat_lt u.node (m + size t)
      then lifts class choice i (is_last ts) kind || (not (is_body kind) && (not (is_quiet t) && to_val taken m t u))
      else rises taken class choice (suc i) (m + size t) ts u kind

  -- u is the value of the tree or comes before it
  pub to_val : Taken → ℕ → Tree → Place → Bool
  to_val taken k (node class ts) u =
      if u.node == k then is_val u.kind || own_rule class u.kind Val else rises taken class (taken k) 0 (suc k) ts u Val

  pub between : Taken → Class → Option ℕ → ℕ → ℕ → Trees → Place → Place → Bool
  between taken class choice i m none u v = false
  between taken class choice i m (more t ts) u v =
      if nat_lt u.node (m + size t)
      then (if nat_lt v.node (m + size t) then is_before taken m t u v else crosses class choice i (suc i) (m + size t) ts v.node)
      else (if nat_lt v.node (m + size t) then false else between taken class choice (suc i) (m + size t) ts u v)

-- each event that comes before u is done
abbrev pub earlier_done : Tree → Taken → (Place → Bool) → Place → List Place → Bool
earlier_done root taken done u vs = list_all (λ v. done v || not (is_before taken 0 root v u)) vs

abbrev pub is_ready : Tree → Taken → (Place → Bool) → Place → Bool
is_ready root taken done u = due_in taken 0 root u && (not (done u) && earlier_done root taken done u (events taken 0 root))

abbrev pub is_permitted : Tree → Taken → (Place → Bool) → Place → Bool
is_permitted root taken done u = is_ready root taken done u && not (is_body u.kind && update_is_open taken done 0 root)

abbrev pub first_place : (Place → Bool) → List Place → Option Place
first_place test [] = None
first_place test (u ∷ us) = if test u then Some u else first_place test us

-- the canonical order takes the first permitted event of the listing
abbrev pub canonical : Tree → Taken → (Place → Bool) → Option Place
canonical root taken done = first_place (is_permitted root taken done) (events taken 0 root)
