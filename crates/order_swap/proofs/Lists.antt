-- Lists that are put one by one.
use Rattle.std.proofs.Common.{
  ◌≡◌,
  ◌∙◌,
  ◌<◌,
  ◌≤◌,
  ◌+◌,
  ◌^◌,
  ℕ,
  suc,
  sym,
  ap,
  List,
  [],
  ◌∷◌,
  ◌++◌,
  append_assoc,
  append-nil,
  length,
  get_or,
  drop,
  drop-cons,
  add-one,
}
use Rattle.std.specs.Prelude.{if◌then◌else◌, Bool, true, false, Option, Some, None}
use Rattle.std.proofs.lemmas.List.{drop_all}
use Rattle.c_typed.specs.declared.tree.Place.{Place}
use Rattle.c_typed.specs.Tree.{Tree}
use Rattle.c_typed.specs.Order.{Taken, same_place}
use Rattle.c_typed.specs.Decide.{first_place}
use Rattle.ub_base.proofs.Tests.{if_true, if_false}
use Rattle.order_swap.specs.declared.set.Pair.{Pair}
use Rattle.order_swap.specs.Sets.{in_order, is_put, put_of, kept_of, wanted_of}

at_front : (ps : List Place) (i : ℕ) (d p : Place) → i < length ps → p ≡ get_or ps i d → drop i ps ≡ p ∷ drop (i + 1) ps
at_front ps i d p l at = rw add-one (drop-cons ps i d l ∙ ap (λ y. y ∷ drop (suc i) ps) (sym at))

pub next_put : (taken : Taken) (root : Tree) (pair : Pair) (old new whole ps : List Place) (i : ℕ) (d p : Place) → i < length ps → p ≡ get_or ps i d
    → old ++ put_of taken root pair (drop i ps) ≡ whole → new ≡ old ++ (if is_put taken root pair p then p ∷ [] else [])
    → new ++ put_of taken root pair (drop (i + 1) ps) ≡ whole
next_put taken root pair old new whole ps i d p l at h n =
    ap (λ z. z ++ put_of taken root pair (drop (i + 1) ps)) n ∙ append_assoc old _ (put_of taken root pair (drop (i + 1) ps))
    ∙ ap (λ z. old ++ put_of taken root pair z) (sym (at_front ps i d p l at)) ∙ h

pub all_put : (taken : Taken) (root : Tree) (pair : Pair) (old whole ps : List Place) (n : ℕ) → length ps ≤ n
    → old ++ put_of taken root pair (drop n ps) ≡ whole → old ≡ whole
all_put taken root pair old whole ps n h e = sym (append-nil old) ∙ ap (λ z. old ++ put_of taken root pair z) (sym (drop_all n ps h)) ∙ e

pub with_kept : (taken : Taken) (root : Tree) (pair : Pair) (old mid new ps : List Place) → mid ≡ old ++ put_of taken root pair ps
    → new ≡ mid ++ kept_of taken root pair → new ≡ old ++ wanted_of taken root pair ps
with_kept taken root pair old mid new ps m n =
    n ∙ ap (λ z. z ++ kept_of taken root pair) m ∙ append_assoc old (put_of taken root pair ps) (kept_of taken root pair)

module _ (test : Place → Bool) (ps : List Place) (i : ℕ) (d p : Place) (l : i < length ps) (at : p ≡ get_or ps i d) where
  step : first_place test (drop i ps) ≡ (if test p then Some p else first_place test (drop (i + 1) ps))
  step = ap (first_place test) (at_front ps i d p l at)

  -- the next one passes the test
  pub here : test p ≡ true → first_place test (drop i ps) ≡ first_place test ps → Some p ≡ first_place test ps
  here t h = sym (if_true (test p) _ _ t) ∙ sym step ∙ h

  -- it doesn't
  pub not_here : test p ≡ false → first_place test (drop i ps) ≡ first_place test ps → first_place test (drop (i + 1) ps) ≡ first_place test ps
  not_here t h = sym (if_false (test p) _ _ t) ∙ sym step ∙ h

module _ (event against : Place) (ps : List Place) (i : ℕ) (d p : Place) (l : i < length ps) (at : p ≡ get_or ps i d)
    (h : in_order (drop i ps) event against ≡ in_order ps event against) where
  pub event_first : same_place p event ≡ true → record { first = event; second = against } ≡ in_order ps event against
  event_first t =
      sym (if_true (same_place p event) _ _ t) ∙ sym (ap (λ z. in_order z event against) (at_front ps i d p l at)) ∙ h

  pub against_first : same_place p event ≡ false → same_place p against ≡ true → record { first = against; second = event } ≡ in_order ps event against
  against_first f t =
      sym (if_true (same_place p against) _ _ t) ∙ sym (if_false (same_place p event) _ _ f)
      ∙ sym (ap (λ z. in_order z event against) (at_front ps i d p l at)) ∙ h

  pub neither_first : same_place p event ≡ false → same_place p against ≡ false →
      in_order (drop (i + 1) ps) event against ≡ in_order ps event against
  neither_first f g =
      sym (if_false (same_place p against) _ _ g) ∙ sym (if_false (same_place p event) _ _ f)
      ∙ sym (ap (λ z. in_order z event against) (at_front ps i d p l at)) ∙ h
