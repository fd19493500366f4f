-- What is done in the top frame's full expression.
use Rattle.std.proofs.Common.{◌≡◌, ◌≢◌, ℕ, subst, ◌<◌, ◌^◌, Bool, true, false, List, Some, Result, Ok, Err, IfOk, slice_get, length, sym, ap, ◌∙◌}
use Rattle.c_typed.specs.declared.tree.Place.{Place}
use Rattle.c_typed.specs.Tree.{tree_of, size}
use Rattle.c_typed.specs.Order.{has}
use Rattle.c_typed.specs.Decide.{is_permitted}
use Rattle.seq_order.specs.declared.done.Marks.{Marks}
use Rattle.seq_order.specs.Marked.{taken_in, done_in}
use Rattle.run_layout.specs.declared.steps.Listed.{Listed}
use Rattle.run_listing.specs.Along.{events_of}
use Rattle.run_state.specs.declared.machine.Machine.{Machine}
use Rattle.run_state.specs.declared.machine.Stage.{Stage}
use Rattle.run_state.specs.declared.watch.Begun.{Begun}
use Rattle.run_answers.specs.Picks.{top_of, passed_part, kept_in, kept_of, by_way, Decides, StraysIn}

pub kept_as : (m : Machine) (done : List Marks) → slice_get m.strayed.items (length m.below.items) ≡ Some done → done_in done ≡ kept_of m
kept_as m done h = sym (ap kept_in h)

-- what was passed of the part that was walked
pub passed_as : {E : Type 0} (m : Machine) (s : Stage) (b : Begun) (es : List Listed) (r : Result (List Marks) E)
    → top_of m ≡ Some b → es ≡ passed_part m s
    → IfOk r (λ done. (p : Place) → done_in done p ≡ has (events_of (taken_in b.taken) es) p)
    → IfOk r (λ done. (x : Begun) × (top_of m ≡ Some x) × ((p : Place) → done_in done p ≡ has (events_of (taken_in x.taken) (passed_part m s)) p))
passed_as m s b es (Ok done) top part h = (b, top, λ p. h p ∙ ap (λ xs. has (events_of (taken_in b.taken) xs) p) part)
passed_as m s b es (Err error) top part h = h

-- ---- whether an event is permitted
abbrev DecidesBy : Machine → Place → List Marks → Bool → Type 0
DecidesBy m u done permitted = (b : Begun) × (top_of m ≡ Some b)
    × (size (tree_of b.root.now) < 2 ^ 32 → permitted ≡ is_permitted (tree_of b.root.now) (taken_in b.taken) (done_in done) u)

-- by what is kept
pub decided_kept : {E : Type 0} (m : Machine) (s : Stage) (u : Place) (done : List Marks) (r : Result Bool E) → s.straight ≡ false
    → slice_get m.strayed.items (length m.below.items) ≡ Some done → IfOk r (DecidesBy m u done) → IfOk r (Decides m s u)
decided_kept m s u done (Ok permitted) strayed kept by = (
  by.0,
  by.1,
  λ few. by.2 few
      ∙ ap (λ d. is_permitted (tree_of by.0.root.now) (taken_in by.0.taken) d u) (kept_as m done kept ∙ sym (ap (λ w. by_way w m s by.0) strayed)),
)
decided_kept m s u done (Err error) strayed kept by = by

same_shown : (m : Machine) (b x : Begun) → top_of m ≡ Some b → top_of m ≡ Some x → x ≡ b
same_shown m b x top other = (let both : Some x ≡ Some b = sym other ∙ top in cc)

-- by what was passed
pub decided_passed : (m : Machine) (s : Stage) (u : Place) (done : List Marks) (permitted is : Bool) → s.straight ≡ true → permitted ≡ is
    → (b : Begun) × (top_of m ≡ Some b) × ((p : Place) → done_in done p ≡ has (events_of (taken_in b.taken) (passed_part m s)) p)
    → DecidesBy m u done permitted → Decides m s u is
decided_passed m s u done permitted is straight same passed by =
    let x = by.0 in
    let one = same_shown m x passed.0 by.1 passed.1 in
    let all : done_in done ≡ has (events_of (taken_in passed.0.taken) (passed_part m s)) = (λ i p. passed.2 p i) in (
      x,
      by.1,
      λ few. sym same ∙ by.2 few
          ∙ ap (λ d. is_permitted (tree_of x.root.now) (taken_in x.taken) d u)
          (all ∙ ap (λ (z : Begun). has (events_of (taken_in z.taken) (passed_part m s))) one ∙ sym (ap (λ w. by_way w m s x) straight)),
    )

pub strays_code : (straight : Bool) (old : Machine) (s : Stage) (new : Machine) (permitted : Bool) → StraysIn straight old s new permitted →
    new.image.code ≡ old.image.code
strays_code true old s new true h = ap (λ (m : Machine). m.image.code) h.rest
strays_code true old s new false h = ap (λ (m : Machine). m.image.code) h
strays_code false old s new permitted h = ap (λ (m : Machine). m.image.code) h

-- the canonical way is left with what was passed
pub leaves_way : (m new : Machine) (s : Stage) (done : List Marks) (permitted : Bool) → s.straight ≡ true → permitted ≡ true
    → new ≡ record m { top = record m.top { stage = Some (record s { straight = false }) }; strayed = new.strayed }
    → slice_get new.strayed.items (length m.below.items) ≡ Some done
    → ((j : ℕ) (other : List Marks) → j ≢ length m.below.items → slice_get m.strayed.items j ≡ Some other → slice_get new.strayed.items j ≡ Some other)
    → (b : Begun) × (top_of m ≡ Some b) × ((p : Place) → done_in done p ≡ has (events_of (taken_in b.taken) (passed_part m s)) p)
    → StraysIn s.straight m s new permitted
leaves_way m new s done permitted straight is rest there others passed =
    subst (λ w. StraysIn w m s new permitted) (sym straight) (subst (StraysIn true m s new) (sym is) (record {
      rest = rest;
      marks = done;
      there = there;
      done = λ b top p. passed.2 p ∙ ap (λ (z : Begun). has (events_of (taken_in z.taken) (passed_part m s)) p) (same_shown m b passed.0 top passed.1)
          ∙ ap (λ w. by_way w m s b p) (sym straight);
      others = others;
    }))
