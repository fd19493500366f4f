-- What comes next is permitted, and not the first of the two events while the second waits.
use Rattle.std.proofs.Common.{◌≡◌, ◌∙◌, ◌<◌, ◌^◌, ℕ, zero, suc, drop, sym, ap, subst, refl, List, [], ◌∷◌, ◌++◌, append_assoc, append-nil, Bool, true, false}
use Rattle.std.proofs.Common.{not, ◌&&◌, ◌||◌}
use Rattle.std.specs.Prelude.{Option, Some, None, if◌then◌else◌}
use Rattle.ub_base.proofs.Tests.{and_left, and_right, not_true, some_is, if_true}
use Rattle.c_typed.specs.declared.tree.Place.{Place}
use Rattle.ub_base.specs.declared.clause.Kind.TheVariants.{Val}
use Rattle.c_typed.specs.Tree.{Tree, size}
use Rattle.c_typed.specs.Order.{Taken, same_place, place, events}
use Rattle.c_typed.specs.Decide.{first_place, is_permitted}
use Rattle.seq_order.specs.Marked.{taken_in}
use Rattle.order_swap.specs.declared.set.Pair.{Pair}
use Rattle.order_swap.specs.Sets.{places, is_put, is_kept, stores_needed, put_of, kept_of, wanted_of, waits, next_of}
use Rattle.order_swap.specs.Turns.{Step, tree_in, done_by, AllSteps, IsChosen, MayBeTaken, IsFair, pair_in}

found_at : (test : Place → Bool) (v u : Place) (vs : List Place) → (first_place test vs ≡ Some u → test u ≡ true) → (b : Bool) → test v ≡ b →
    (if b then Some v else first_place test vs) ≡ Some u → test u ≡ true
found_at test v u vs rest true e g = subst (λ z. test z ≡ true) (some_is v u g) e
found_at test v u vs rest false e g = rest g

-- what is found passes the test
found : (test : Place → Bool) (us : List Place) (u : Place) → first_place test us ≡ Some u → test u ≡ true
found test [] u h = absurd (cc)
found test (v ∷ vs) u h = found_at test v u vs (found test vs u) (test v) refl h

-- what is found in a list is an element that was put there, or one of the rest
one_of : (test : Place → Bool) (b : Bool) (p u : Place) (rest : List Place) (Q : Place → Type 0) → (b ≡ true → Q p) → (first_place test rest ≡ Some u → Q u) →
    first_place test ((if b then p ∷ [] else []) ++ rest) ≡ Some u → Q u
one_of test false p u rest Q q r h = r h
one_of test true p u rest Q q r h = step (test p) h
  where
    step : (c : Bool) → (if c then Some p else first_place test rest) ≡ Some u → Q u
    step true g = subst Q (some_is p u g) (q refl)
    step false g = r g

-- an event that is wanted isn't the first of the two
wanted_other : (test : Place → Bool) (taken : Taken) (root : Tree) (pair : Pair) (ps : List Place) (u : Place)
    → first_place test (wanted_of taken root pair ps) ≡ Some u → same_place u pair.first ≡ false
wanted_other test taken root pair ps u h = go ps h
  where
    kept : Place
    kept = place pair.first.node Val

    nothing : first_place test [] ≡ Some u → same_place u pair.first ≡ false
    nothing e = absurd (cc)

    go : (qs : List Place) → first_place test (put_of taken root pair qs ++ kept_of taken root pair) ≡ Some u → same_place u pair.first ≡ false
    go [] e =
        one_of test (is_kept taken root pair kept) kept u [] (λ w. same_place w pair.first ≡ false)
        (λ k. not_true _ (and_right _ _ (and_right _ _ k))) nothing
        (ap (first_place test) (append-nil (kept_of taken root pair)) ∙ e)
    go (q ∷ qs) e =
        one_of test (is_put taken root pair q) q u (put_of taken root pair qs ++ kept_of taken root pair) (λ w. same_place w pair.first ≡ false)
        (λ k. not_true _ (and_left _ _ k)) (go qs)
        (ap (first_place test) (sym (append_assoc _ (put_of taken root pair qs) (kept_of taken root pair))) ∙ e)

-- what comes next is permitted
next_permitted : (taken : Taken) (done : Place → Bool) (root : Tree) (pair : Pair) (u : Place) → next_of taken done root pair ≡ Some u →
    is_permitted root taken done u ≡ true
next_permitted taken done root pair u h = step (waits taken done root pair.second) h
  where
    step : (b : Bool) → (if b then first_place (is_permitted root taken done) (wanted_of taken root pair (places 0 root))
        else first_place (is_permitted root taken done) (events taken 0 root)) ≡ Some u → is_permitted root taken done u ≡ true
    step true g = found (is_permitted root taken done) _ u g
    step false g = found (is_permitted root taken done) _ u g

-- while the second waits it isn't the first
next_other : (taken : Taken) (done : Place → Bool) (root : Tree) (pair : Pair) (u : Place) → next_of taken done root pair ≡ Some u →
    waits taken done root pair.second ≡ true → same_place u pair.first ≡ false
next_other taken done root pair u h w =
    wanted_other (is_permitted root taken done) taken root pair (places 0 root) u (sym (if_true (waits taken done root pair.second) _ _ w) ∙ h)

pub all_permitted : (event against : Place) (steps : List Step) → AllSteps (IsChosen event against) steps → AllSteps MayBeTaken steps
all_permitted event against steps a i s at small =
    next_permitted (taken_in s.choices) (done_by (drop (suc i) steps)) (tree_in s) (pair_in (tree_in s) event against) s.place (sym (a i s at small))

pub all_fair : (event against : Place) (steps : List Step) → AllSteps (IsChosen event against) steps → AllSteps (IsFair event against) steps
all_fair event against steps a i s at small waiting =
    next_other (taken_in s.choices) (done_by (drop (suc i) steps)) (tree_in s) (pair_in (tree_in s) event against) s.place (sym (a i s at small)) waiting
