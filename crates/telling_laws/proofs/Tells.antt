-- What is told is what may be told.
use Rattle.std.proofs.Common.{◌≡◌, inl, inr, ⊎_elim, ℕ, ◌+◌, ◌<◌, ◌^◌, Bool, true, false, List, [], ◌∷◌, Option, Some, None, refl}
use Rattle.std.proofs.Common.{sym, ap, subst, ◌∙◌, arith}
use Rattle.std.specs.Prelude.{is_some}
use Rattle.c_typed.specs.declared.tree.Place.{Place}
use Rattle.c_typed.specs.Tree.{Tree, node, size}
use Rattle.c_typed.specs.Order.{has}
use Rattle.c_typed.specs.Decide.{due_in}
use Rattle.c_model.specs.Completions.{Completed, Incomplete, Own_node, Operands_of, parent_in}
use Rattle.c_model.proofs.Decided.{has_due}
use Rattle.elaborate.specs.Formed.{is_formed}
use Rattle.completion_laws.specs.Completed.{with_above, completed_next}
use Rattle.completion_laws.proofs.Lists.{has_at}
use Rattle.evaluation_log.specs.Ways.{rule_in}
use Rattle.run_evaluations.specs.Scopes.{Scope, part_of, IsOperandOf}
use Rattle.run_evaluations.specs.Told.{Evaluation, Opened, IsOperandIn, Tells}
use Rattle.run_evaluations.proofs.ListingLemmas.{listings_tell}
use Rattle.run_evaluations.proofs.PartLemmas.{part_range, size_some}
use Rattle.telling_laws.specs.Standing.{StandsBehind, NextIsTold, OperandsAreTold, LastAreOwn, EndIsTold, completed_in, places}
use Rattle.telling_laws.proofs.Parts.{operand_below, beside_up, still, lists_alone}
use Rattle.telling_laws.proofs.Stands.{node_of_next, last_of, completed_is, step_to, by_same, by_later, by_up}
use Rattle.telling_laws.proofs.Steps.{Step, same, up, later}

part_small : (s : Scope) (p : ℕ) (x : Tree) → part_of s p ≡ Some x → size s.tree < 2 ^ 32 → p + 1 < 2 ^ 32
part_small s p x there small =
    let r = part_range 0 s.tree p x there in
    let h = r.high in
    let z = size_some x in
    omega (arith, h, z, small)

-- ---- the next event
pub next_is_told : NextIsTold
next_is_told t rules u fits small stands next = with_tree (node_of_next t u stands.begins next).0 (node_of_next t u stands.begins next).1
  where
    with_tree : (x : Tree) → part_of t.scope u.node ≡ Some x → Tells t u (rule_in rules u.node) (is_some (t.scope.taken u.node))
    with_tree (node c ts) there = record {
      own = record {
        class = c;
        operands = ts;
        ruled = fits.ruled u.node c ts there;
        next = stands.next u c ts next there;
        small = part_small t.scope u.node (node c ts) there small;
      };
      due = (listings_tell t stands.begins).1 u next;
    }

-- ---- the node above
-- it completes all operands of the node of which it is one
pub operands_parent : (t : Opened) (last : Evaluation) (p : ℕ) → is_formed t.scope.tree ≡ true → StandsBehind t last →
    completed_in t last.place.node ≡ Operands_of p → IsOperandIn t.scope p last.place.node
operands_parent t last p formed stands is = by_ahead (last_of t last stands).ahead refl
  where
    no_more : (o : Option ℕ) → with_above o [] ≡ Operands_of p → ⊥
    no_more None h = absurd (cc)
    no_more (Some q) h = absurd (cc)

    number_of : Completed → ℕ
    number_of (Operands_of q) = q
    number_of c = 0

    by_step : (v : Place) (rest : List Place) → (last_of t last stands).ahead ≡ v ∷ rest → Step t.scope last.place.node v.node →
        IsOperandIn t.scope p last.place.node
    by_step v rest e (same h) = absurd (let z : Incomplete ≡ Operands_of p = sym (by_same t last formed stands (last_of t last stands) v rest e h) ∙ is in cc)
    by_step v rest e (later q o under end) =
        absurd (let z : Own_node ≡ Operands_of p = sym (by_later t last formed stands (last_of t last stands) v rest e q o under end) ∙ is in cc)
    by_step v rest e (up o) =
        subst (λ z. IsOperandIn t.scope z last.place.node)
        (ap number_of (sym (by_up t last formed stands (last_of t last stands) v rest e o) ∙ is)) o

    by_ahead : (us : List Place) → (last_of t last stands).ahead ≡ us → IsOperandIn t.scope p last.place.node
    by_ahead [] e = absurd (no_more (parent_in 0 t.scope.tree last.place.node)
        (sym (completed_is t last formed (last_of t last stands) ∙ ap (completed_next t.scope.tree last.place.node) e) ∙ is))
    by_ahead (v ∷ rest) e = by_step v rest e (step_to t last formed stands (last_of t last stands) v rest e)

pub operands_are_told : OperandsAreTold
operands_are_told t last rules p formed fits small stands is =
    let o = operands_parent t last p formed stands is in
    let b = operand_below t.scope p last.place.node o in
    let low = b.low in (
      record {
        class = o.class;
        operands = o.operands;
        ruled = fits.ruled p o.class o.operands o.there;
        next = λ m h. ⊎_elim
            (λ e. inr (inl (o.index, subst (λ z. IsOperandOf t.scope p o.class o.operands o.index z) (sym e) o.of)))
            (λ q. inr (beside_up t.scope p last.place.node m o.class o.operands o.there o q))
            (stands.parts m h);
        small = part_small t.scope p (node o.class o.operands) o.there small;
      },
      not_yet (t.parts p) refl,
    )
  where
    not_yet : (x : Bool) → t.parts p ≡ x → t.parts p ≡ false
    not_yet false e = e
    not_yet true e =
        let o = operands_parent t last p formed stands is in
        let b = operand_below t.scope p last.place.node o in
        let low = b.low in
        let high = b.high in
        let some = b.some in
        absurd (⊎_elim (λ q. omega (arith, q, low)) (λ q. let z = q.behind (node o.class o.operands) o.there in omega (arith, z, high, some))
        (stands.parts p e))

-- ---- the last one
pub last_are_own : LastAreOwn
last_are_own t last stands =
    let l = listings_tell t stands.begins in
    (l.0, l.2 last.place.node (last, stands.at, refl))

-- ---- an end of the run
last_due : (t : Opened) (last : Evaluation) → StandsBehind t last → due_in t.scope.taken 0 t.scope.tree last.place ≡ true
last_due t last stands =
    let l = last_of t last stands in
    sym (has_due t.scope.taken t.scope.tree 0 last.place) ∙ (ap (λ z. has z last.place) l.listed ∙ has_at (places l.front) l.ahead last.place)

pub end_is_told : EndIsTold
end_is_told t last rules formed fits small stands body = record {
  same = refl;
  fits = fits;
  still = still t.scope formed;
  alone = lists_alone t.scope formed;
  top = record { some = stands.some; at = stands.at; body = body; due = last_due t last stands; parts = stands.parts };
  small = small;
}
