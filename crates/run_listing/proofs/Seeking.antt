-- A search along entries: what is left of them has the first event that a test takes.
use Rattle.std.proofs.Common.{◌≡◌, ℕ, zero, suc, ◌+◌, Bool, true, false, if◌then◌else◌, List, [], ◌∷◌, length, drop, Some, None, refl, sym, ap, subst, ◌∙◌}
use Rattle.std.specs.Borrow.{Bor}
use Rattle.ub_base.specs.declared.clause.Kind.{Kind}
use Rattle.ub_base.specs.declared.clause.Kind.TheVariants.{Val, Eff, Body}
use Rattle.c_typed.specs.declared.tree.Place.{Place}
use Rattle.c_typed.specs.Tree.{Tree}
use Rattle.c_typed.specs.Order.{Taken, events, is_body}
use Rattle.c_typed.specs.Decide.{first_place, canonical}
use Rattle.seq_order.specs.Walks.{is_left, walked}
use Rattle.seq_order.proofs.Canonical.{none_left, first_next}
use Rattle.run_layout.specs.declared.steps.Due.{Due}
use Rattle.run_layout.specs.declared.steps.Listed.{Listed}
use Rattle.run_listing.specs.Along.{part_of, events_of, Next, IsListed}
use Rattle.run_listing.proofs.Walked.{behind_one}

-- its entries are theirs, and where this holds, its events have the same first one
pub record SeeksWhere (Where : Type 0) (test : Place → Bool) (taken : Taken) (entries rest : List Listed) : Type 0 where
  pub first : Where → first_place test (events_of taken rest) ≡ first_place test (events_of taken entries)
  pub among : (due : Due) → IsListed rest due → IsListed entries due

among_rest : (xs : List Listed) (n : ℕ) (d : Due) → IsListed (drop n xs) d → IsListed xs d
among_rest xs zero d h = h
among_rest [] (suc n) d h = absurd (cc)
among_rest (y ∷ ys) (suc n) d h = let there = among_rest ys n d h in (suc there.0, there.1)

passes : (test : Place → Bool) (u : Place) (us : List Place) → test u ≡ false → first_place test (u ∷ us) ≡ first_place test us
passes test u us h = ap (λ b. if b then Some u else first_place test us) h

stops : (test : Place → Bool) (u : Place) (us : List Place) → test u ≡ true → first_place test (u ∷ us) ≡ Some u
stops test u us h = ap (λ b. if b then Some u else first_place test us) h

-- behind an event that the test doesn't take
pub seeks_on : (W : Type 0) (test : Place → Bool) (taken : Taken) (entries rest more : List Listed) (at : ℕ) (due : Bor Due) →
    Next taken rest (Some (at, due)) → (W → test due.now.place ≡ false) → more ≡ part_of rest (at + 1) (length rest) →
    SeeksWhere W test taken entries rest → SeeksWhere W test taken entries more
seeks_on W test taken entries rest more at due next fails is s =
    let behind : more ≡ drop (suc at) rest = behind_one rest more at is in
    record {
      first = λ w. ap (λ es. first_place test (events_of taken es)) behind
          ∙ sym (passes test due.now.place (events_of taken (drop (suc at) rest)) (fails w))
          ∙ ap (first_place test) (sym next.1)
          ∙ s.first w;
      among = λ d there. s.among d (among_rest rest (suc at) d (subst (λ es. IsListed es d) behind there));
    }

-- at the event that it takes
pub found_here : (W : Type 0) (test : Place → Bool) (taken : Taken) (entries rest : List Listed) (at : ℕ) (due : Bor Due) → Next taken rest (Some (at, due)) →
    (W → test due.now.place ≡ true) → SeeksWhere W test taken entries rest → W → Some due.now.place ≡ first_place test (events_of taken entries)
found_here W test taken entries rest at due next holds s w =
    sym (ap (first_place test) next.1 ∙ stops test due.now.place (events_of taken (drop (suc at) rest)) (holds w)) ∙ s.first w

-- and at the end
pub found_none : (W : Type 0) (test : Place → Bool) (taken : Taken) (entries rest : List Listed) → Next taken rest None → SeeksWhere W test taken entries rest →
    W → None ≡ first_place test (events_of taken entries)
found_none W test taken entries rest next s w = sym (ap (first_place test) next) ∙ s.first w

-- ---- the canonical one
no_body : (k : Kind) → (k ≡ Body → ⊥) → is_body k ≡ false
no_body Val h = refl
no_body Eff h = refl
no_body Body h = absurd (h refl)

module _ (root : Tree) (taken : Taken) (done : Place → Bool) (entries : List Listed) (all : events_of taken entries ≡ events taken 0 root) where
  -- where none is left, there is none
  pub none_canonical : None ≡ first_place (is_left done) (events_of taken entries) → None ≡ canonical root taken done
  none_canonical none = none_left root taken done 0 0 (ap (walked 0) (none ∙ ap (first_place (is_left done)) all))

  -- the first one that isn't done, where it is no body
  pub left_canonical : (u : Place) → (u.kind ≡ Body → ⊥) → Some u ≡ first_place (is_left done) (events_of taken entries) → Some u ≡ canonical root taken done
  left_canonical u body is = first_next root taken done 0 u (ap (walked 0) (is ∙ ap (first_place (is_left done)) all)) (no_body u.kind body)
