-- What the events of a node do, by what the node is.
use Rattle.std.proofs.Common.{◌≡◌, ℕ, Bool, false, List, sym, ap, subst, ◌∙◌}
use Rattle.std.specs.Borrow.{Bor}
use Rattle.c_types.specs.declared.ty.Ty.{Ty}
use Rattle.c_types.specs.Types.{type_of}
use Rattle.c_typed.specs.declared.tree.Access.{Access}
use Rattle.c_typed.specs.declared.tree.Change.{Change}
use Rattle.c_typed.specs.declared.tree.Node.{Node, fold-roll-Node}
use Rattle.c_typed.specs.declared.tree.Node.TheOpen as shape
use Rattle.c_typed.specs.declared.tree.Node.TheVariants as nodes
use Rattle.c_typed.specs.declared.tree.Typed.{Typed, out-Typed}
use Rattle.c_typed.specs.Sites.{Head, Seen, SeenNode, seen_node, seen_tree}
use Rattle.run_layout.specs.declared.steps.Operand.{Operand}
use Rattle.run_layout.specs.declared.steps.Operand.TheVariants.{Done}
use Rattle.run_layout.specs.declared.steps.Act.{Act}
use Rattle.run_layout.specs.declared.steps.Act.TheVariants as act
use Rattle.run_layout.specs.declared.tables.Tables.{Tables}
use Rattle.run_layout.specs.Resolved.{value_at}
use Rattle.run_layout.specs.EventActs.{head_at, pointed, first_type, seen, amount, change_access, IsValue, Stores, IsEffect, Calls, IsBody}

abbrev head_seen : SeenNode → Head
head_seen s = s.head

head_at-Load : (n : Node) (a : Access) → n ≡ nodes.Load a → head_at n ≡ shape.Load a
head_at-Load n a e = ap head_at (e ∙ sym (nodes.rolls-Load a)) ∙ ap head_seen (fold-roll-Node SeenNode Seen seen_node seen_tree (shape.Load a))

pub head_at-Assign : (n : Node) (first : Bool) (a : Access) → n ≡ nodes.Assign first a → head_at n ≡ shape.Assign first a
head_at-Assign n first a e = ap head_at (e ∙ sym (nodes.rolls-Assign first a)) ∙ ap head_seen
    (fold-roll-Node SeenNode Seen seen_node seen_tree (shape.Assign first a))

pub head_at-Update : (n : Node) (c : Change) (old : Bool) → n ≡ nodes.Update c old → head_at n ≡ shape.Update c old
head_at-Update n c old e = ap head_at (e ∙ sym (nodes.rolls-Update c old)) ∙ ap head_seen
    (fold-roll-Node SeenNode Seen seen_node seen_tree (shape.Update c old))

head_at-Call : (n : Node) (discarded : Bool) → n ≡ nodes.Call discarded → head_at n ≡ shape.Call discarded
head_at-Call n discarded e =
    ap head_at (e ∙ sym (nodes.rolls-Call discarded)) ∙ ap head_seen (fold-roll-Node SeenNode Seen seen_node seen_tree (shape.Call discarded))

pub calls : (tables : Tables) (t : Typed) (discarded : Bool) (os : List Operand) (own : Operand) (room initializer : ℕ) (a : Act)
    → (out-Typed t).node ≡ nodes.Call discarded → Calls tables (seen t os own room) a
    → IsBody tables initializer (head_at (out-Typed t).node) (seen t os own room) a
calls tables t discarded os own room initializer a e s =
    subst (λ h. IsBody tables initializer h (seen t os own room) a) (sym (head_at-Call (out-Typed t).node discarded e)) s

pub loads : (t : Typed) (how : Access) (os : List Operand) (own place : Operand) (room : ℕ) (ty : Bor Ty) → (out-Typed t).node ≡ nodes.Load how
    → type_of ty.now ≡ pointed (first_type (type_of (out-Typed t).ty) (out-Typed t).children) → place ≡ value_at os 0 →
    IsValue (head_at (out-Typed t).node) (seen t os own room) (act.Load how ty place)
loads t how os own place room ty e y p =
    subst (λ h. IsValue h (seen t os own room) (act.Load how ty place)) (sym (head_at-Load (out-Typed t).node how e)) (ty, y, ap (act.Load how ty) p)

pub changes : (t : Typed) (c : Change) (old : Bool) (os : List Operand) (own place operand : Operand) (room : ℕ) (ty : Bor Ty) →
    (out-Typed t).node ≡ nodes.Update c old
    → type_of ty.now ≡ pointed (first_type (type_of (out-Typed t).ty) (out-Typed t).children) → place ≡ value_at os 0 → operand ≡ amount old os
    → IsValue (head_at (out-Typed t).node) (seen t os own room) (act.Change c old ty place operand room)
changes t c old os own place operand room ty e y p o =
    subst (λ h. IsValue h (seen t os own room) (act.Change c old ty place operand room)) (sym (head_at-Update (out-Typed t).node c old e))
    (ty, y, ap (λ z. act.Change c old ty z operand room) p ∙ ap (λ z. act.Change c old ty (value_at os 0) z room) o)

pub assigns : (firsts : List ℕ) (tables : Tables) (t : Typed) (first : Bool) (how : Access) (os : List Operand) (own place value : Operand) (room : ℕ)
    (a : Act) → (out-Typed t).node ≡ nodes.Assign first how
    → place ≡ value_at os 0 → value ≡ value_at os 1 → Stores tables how first (pointed (first_type (type_of (out-Typed t).ty) (out-Typed t).children)) place
    value a
    → IsEffect firsts tables (head_at (out-Typed t).node) (seen t os own room) a
assigns firsts tables t first how os own place value room a e p v s =
    let object = pointed (first_type (type_of (out-Typed t).ty) (out-Typed t).children) in
    subst (λ h. IsEffect firsts tables h (seen t os own room) a) (sym (head_at-Assign (out-Typed t).node first how e))
    (subst (λ z. Stores tables how first object (value_at os 0) z a) v (subst (λ z. Stores tables how first object z value a) p s))

pub updates : (firsts : List ℕ) (tables : Tables) (t : Typed) (c : Change) (old : Bool) (how : Access) (os : List Operand) (own place : Operand) (room : ℕ)
    (a : Act) → (out-Typed t).node ≡ nodes.Update c old
    → how ≡ change_access c → place ≡ value_at os 0 → Stores tables how false (pointed (first_type (type_of (out-Typed t).ty) (out-Typed t).children)) place
    (Done room) a
    → IsEffect firsts tables (head_at (out-Typed t).node) (seen t os own room) a
updates firsts tables t c old how os own place room a e k p s =
    let object = pointed (first_type (type_of (out-Typed t).ty) (out-Typed t).children) in
    subst (λ h. IsEffect firsts tables h (seen t os own room) a) (sym (head_at-Update (out-Typed t).node c old e))
    (subst (λ z. Stores tables z false object (value_at os 0) (Done room) a) k (subst (λ z. Stores tables how false object z (Done room) a) p s))
