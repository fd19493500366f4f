-- What shows once a node, or all operands of one, are complete.
use Rattle.std.proofs.Common.{◌≡◌, ◌⊎◌, inl, inr, ⊎_elim, ℕ, suc, ◌+◌, ◌<◌, ◌≤◌, ◌==◌, Bool, true, false, not, ◌||◌, if◌then◌else◌}
use Rattle.std.proofs.Common.{List, [], ◌∷◌, ◌++◌, Option, Some, None, refl, sym, ap, ap₂, subst, ◌∙◌, true≢false, arith}
use Rattle.std.specs.Prelude.{slice_get}
use Rattle.std.proofs.lemmas.Option.{same_Some}
use Rattle.c_typed.specs.declared.tree.Place.{Place}
use Rattle.c_typed.specs.Tree.{Tree, node, size}
use Rattle.c_typed.specs.Order.{Taken, events, has}
use Rattle.c_model.specs.Completions.{Completed, Incomplete, Own_node, Operands_of, parent_in}
use Rattle.c_model.specs.Moments.{complete, complete_for, least}
use Rattle.elaborate.specs.Formed.{is_formed}
use Rattle.elaborate.proofs.Ranges.{or_a, eq_eq, events_in}
use Rattle.completion_laws.specs.Completed.{comes_next, completed_next, with_above}
use Rattle.completion_laws.proofs.Lists.{outside, other, has_at}
use Rattle.completion_laws.proofs.Ahead.{by_test, if_true, if_false, node_ahead}
use Rattle.completion_laws.proofs.Above.{node_above}
use Rattle.completion_laws.proofs.Found.{complete_ahead, completes_by_next}
use Rattle.evaluation_log.specs.Sides.{Side, sides_from}
use Rattle.run_evaluations.specs.Scopes.{Scope, part_of}
use Rattle.run_evaluations.specs.Shows.{AreOfTwo}
use Rattle.run_evaluations.proofs.PartLemmas.{side_part}
use Rattle.telling_laws.specs.Newly.{IsTaken, AreOfNode, completed_with}
use Rattle.telling_laws.proofs.Leasts.{both, least_so, least_own, none_holds}
use Rattle.telling_laws.proofs.Parts.{operand_below, part_there, same_operands}
use Rattle.telling_laws.proofs.Splits.{append_one}

-- ---- from which number on all is complete
abbrev pub from_of : ℕ × ℕ → ℕ → ℕ → ℕ
from_of r a b = if (a == r.0) || (b == r.0) then r.0 else suc r.0

pub complete_as : (due : List Place) (done : Place → Bool) (r : ℕ × ℕ) (u v : Place) →
    complete_for due done r u v ≡ complete due done (from_of r u.node v.node) r.1
complete_as due done r u v = by_test ((u.node == r.0) || (v.node == r.0))
    (λ e. if_true _ _ _ e ∙ ap (λ z. complete due done z r.1) (sym (if_true _ r.0 (suc r.0) e)))
    (λ e. if_false _ _ _ e ∙ ap (λ z. complete due done z r.1) (sym (if_false _ r.0 (suc r.0) e)))

last_or_none : (us : List Place) → (us ≡ []) ⊎ ((f : List Place) × (q : Place) × (us ≡ f ++ q ∷ []))
last_or_none [] = inl refl
last_or_none (u ∷ us) = inr (of (last_or_none us))
  where
    of : (us ≡ []) ⊎ ((f : List Place) × (q : Place) × (us ≡ f ++ q ∷ [])) → (f : List Place) × (q : Place) × (u ∷ us ≡ f ++ q ∷ [])
    of (inl e) = ([], u, ap (λ z. u ∷ z) e)
    of (inr r) = (u ∷ r.0, r.1, ap (λ z. u ∷ z) r.2)

-- what is complete, as so much of the listing is done
pub complete_before : (root : Tree) (taken : Taken) (passed ahead : List Place) (from to : ℕ) → events taken 0 root ≡ passed ++ ahead →
    complete (events taken 0 root) (has passed) from to ≡ outside from to ahead
complete_before root taken passed ahead from to listed = of (last_or_none passed)
  where
    of : (passed ≡ []) ⊎ ((f : List Place) × (q : Place) × (passed ≡ f ++ q ∷ [])) → complete (events taken 0 root) (has passed) from to ≡ outside from to ahead
    of (inl e) =
        ap (λ z. complete (events taken 0 root) (has z) from to) e
        ∙ ap (λ z. complete z (has []) from to) (listed ∙ ap (λ z. z ++ ahead) e)
    of (inr r) =
        ap (λ z. complete (events taken 0 root) (has z) from to) r.2
        ∙ complete_ahead root taken r.0 ahead r.1 (listed ∙ (ap (λ z. z ++ ahead) r.2 ∙ append_one r.0 r.1 ahead)) from to

pub neither : (a b : Bool) → (a || b) ≡ false → (a ≡ false) × (b ≡ false)
neither true b h = absurd (true≢false h)
neither false b h = (refl, h)

pub low_or_high : (a b : ℕ) → (a < b) ⊎ ((a ≡ b) ⊎ (b < a))
low_or_high a b = grind arith

-- ---- one event, and two of which the first comes first or is of a node above
module _ (s : Scope) (x y : Place) (formed : is_formed s.tree ≡ true) (old : Taken) (passed : List Place) (u : Place) (ahead next : List Place)
    (is : IsTaken s old passed u ahead next) where
  abbrev r : ℕ × ℕ
  r = least 0 s.tree x.node y.node

  abbrev from : ℕ
  from = from_of r x.node y.node

  abbrev n : ℕ
  n = u.node

  abbrev c : Completed
  c = completed_with s passed u

  pub c_is : c ≡ completed_next s.tree n next
  c_is = completes_by_next s.tree s.taken passed next u formed is.behind

  pub not_coming : (c ≡ Incomplete → ⊥) → comes_next n next ≡ false
  not_coming f = by_test (comes_next n next) (λ e. absurd (f (c_is ∙ if_true _ _ _ e))) (λ e. e)

  pub node_shown : (c ≡ Incomplete → ⊥) → AreOfNode s n x y → outside from r.1 next ≡ true
  node_shown f are = with_part (part_there s.tree 0 n at_n.0 at_n.1).0 (part_there s.tree 0 n at_n.0 at_n.1).1
    where
      at_n : (0 ≤ n) × (n < 0 + size s.tree)
      at_n = events_in s.taken s.tree 0 u (ap (λ z. has z u) is.behind ∙ has_at passed next u)

      some : (t : Tree) → 0 < size t
      some (node d ts) = omega arith

      with_part : (t : Tree) → part_of s n ≡ Some t → outside from r.1 next ≡ true
      with_part (node d ts) there =
          let y_in : (n ≤ y.node) × (y.node < n + size (node d ts)) = ⊎_elim
          (λ e. (omega (arith, e), omega (arith, e)))
          (λ g. let a = g.low in let b = g.high in let q = ap size (same_Some (node d ts) g.part (sym there ∙ g.there)) in
          (omega (arith, a), omega (arith, b, q))) are.1 in
          let is_n : r ≡ (n, n + size (node d ts)) = ap (λ z. least 0 s.tree z y.node) are.0 ∙ least_own s n y.node d ts there y_in in
          let own : least 0 s.tree n n ≡ (n, n + size (node d ts)) = least_own s n n d ts there (omega arith, omega arith) in
          let first : from ≡ n = ap (λ z. from_of z x.node y.node) is_n ∙ if_true _ n (suc n)
          (or_a (x.node == n) _ (subst (λ z. (x.node == z) ≡ true) are.0 (eq_eq x.node))) in
          ap₂ (λ p q. outside p q next) first (ap (λ z. z.1) is_n)
          ∙ (ap (λ z. outside n z.1 next) (sym own) ∙ (node_ahead s.taken s.tree 0 passed next u is.behind ∙ ap not (not_coming f)))

  pub two_shown : (p : ℕ) → c ≡ Operands_of p → AreOfTwo s p x.node y.node → outside from r.1 next ≡ true
  two_shown p e two =
      let f = two.of_first in
      let g = two.of_second in
      let above = above_is (parent_in 0 s.tree n) refl in
      let fb = operand_below s p two.first f in
      let gb = operand_below s p two.second g in
      let fl = fb.low in
      let gh = gb.high in
      let fh = fb.high in
      let il = two.in_first.low in
      let ih = two.in_first.high in
      let jl = two.in_second.low in
      let jh = two.in_second.high in
      let rise = two.rise in
      let fs = ap size (same_Some fb.tree two.in_first.part (sym fb.there ∙ two.in_first.there)) in
      let gs = ap size (same_Some gb.tree two.in_second.part (sym gb.there ∙ two.in_second.there)) in
      let is_p : r ≡ (p, p + size (node f.class f.operands)) = least_so s p x.node y.node f.class f.operands f.there
      (omega (arith, fl, il), omega (arith, ih, fh, fs))
      (omega (arith, fl, rise, jl), in_whole (gb.high) gs jh) no_side in
      let own : least 0 s.tree p p ≡ (p, p + size (node f.class f.operands)) = least_own s p p f.class f.operands f.there (omega arith, omega arith) in
      let first : from ≡ suc p = ap (λ z. from_of z x.node y.node) is_p ∙ if_false _ p (suc p)
      (none_of (other x.node p (inr (omega (arith, fl, il)))) (other y.node p (inr (omega (arith, fl, rise, jl))))) in
      ap₂ (λ a b. outside a b next) first (ap (λ z. z.1) is_p)
      ∙ (ap (λ z. outside (suc p) z.1 next) (sym own) ∙ (node_above s.taken s.tree 0 passed next u p formed is.behind above.0 ∙ above.1))
    where
      none_of : {a b : Bool} → a ≡ false → b ≡ false → (a || b) ≡ false
      none_of {a} {b} h k = ap₂ (λ z w. z || w) h k

      above_is : (o : Option ℕ) → parent_in 0 s.tree n ≡ o → (parent_in 0 s.tree n ≡ Some p) × (comes_next p next ≡ true)
      above_is o q = of o q (sym (c_is ∙ (if_false (comes_next n next) Incomplete (with_above (parent_in 0 s.tree n) next)
          (not_coming (λ z. absurd (let w : Operands_of p ≡ Incomplete = sym e ∙ z in cc))) ∙ ap (λ z. with_above z next) q)) ∙ e)
        where
          number_of : Completed → ℕ
          number_of (Operands_of m) = m
          number_of d = 0

          of : (o2 : Option ℕ) → parent_in 0 s.tree n ≡ o2 → with_above o2 next ≡ Operands_of p →
              (parent_in 0 s.tree n ≡ Some p) × (comes_next p next ≡ true)
          of None w h = absurd (let z : Own_node ≡ Operands_of p = h in cc)
          of (Some m) w h = by_test (comes_next m next)
              (λ t. let g = ap number_of (sym (if_true _ (Operands_of m) Own_node t) ∙ h) in
              (w ∙ ap Some g, ap (λ z. comes_next z next) (sym g) ∙ t))
              (λ t. absurd (let z : Own_node ≡ Operands_of p = sym (if_false _ (Operands_of m) Own_node t) ∙ h in cc))

      in_whole : two.second + size (operand_below s p two.second two.of_second).tree ≤ p + size (node two.of_second.class two.of_second.operands) →
          size (operand_below s p two.second two.of_second).tree ≡ size two.in_second.part → y.node < two.second + size two.in_second.part →
          y.node < p + size (node two.of_first.class two.of_first.operands)
      in_whole high size_is less =
          let same_node = ap size (same_Some (node two.of_first.class two.of_first.operands) (node two.of_second.class two.of_second.operands)
          (sym two.of_first.there ∙ two.of_second.there)) in
          omega (arith, high, size_is, less, same_node)

      no_side : (i : ℕ) (d : Side) → slice_get (sides_from (suc p) two.of_first.operands) i ≡ Some d → both x.node y.node d ≡ true → ⊥
      no_side i d at h =
          let f = two.of_first in
          let g = two.of_second in
          let fo = f.of in
          let go = same_operands s p two.second g.index g.class f.class g.operands f.operands g.there f.there g.of in
          let fn = fo.number in
          let gn = go.number in
          let part = side_part s p f.class f.operands f.there f.index fo.side fo.there in
          let size_is = ap size (same_Some fo.side.tree two.in_first.part (sym part ∙ (ap (part_of s) fn ∙ two.in_first.there))) in
          let rise = two.rise in
          let il = two.in_first.low in
          let ih = two.in_first.high in
          let jl = two.in_second.low in
          none_holds f.operands (suc p) i f.index g.index x.node y.node d fo.side go.side at fo.there go.there (omega (arith, fn, gn, rise))
          (omega (arith, fn, il)) (omega (arith, fn, size_is, ih)) (omega (arith, gn, jl)) h
