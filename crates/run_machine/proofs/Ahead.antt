-- The entry at the cursor is the first of those that are ahead.
use Rattle.std.proofs.Common.{◌≡◌, ℕ, zero, suc, ◌-◌, ◌<◌, ◌==◌, Bool, true, refl, sym, subst, ap, ◌∙◌, if◌then◌else◌, arith}
use Rattle.std.proofs.Common.{List, [], ◌∷◌, take, drop, Option, Some, slice_get}
use Rattle.c_typed.specs.declared.tree.Place.{Place}
use Rattle.c_typed.specs.Order.{Taken}
use Rattle.seq_order.specs.Marked.{taken_in}
use Rattle.c_model.specs.Completions.{Incomplete, Operands_of, Own_node}
use Rattle.completion_laws.specs.Completed.{with_above}
use Rattle.completion_laws.specs.Listing.{completed_of}
use Rattle.run_layout.specs.declared.steps.Due.{Due}
use Rattle.run_layout.specs.declared.steps.Listed.{Listed}
use Rattle.run_layout.specs.declared.steps.Listed.TheVariants as listed
use Rattle.run_listing.specs.Along.{part_of, events_of}
use Rattle.run_state.specs.declared.machine.Machine.{Machine}
use Rattle.run_state.specs.declared.machine.Stage.{Stage}
use Rattle.run_state.specs.declared.watch.Begun.{Begun as Shown}
use Rattle.run_answers.specs.Picks.{ahead_part}

opened : (xs : List Listed) (from : ℕ) (x : Listed) → slice_get xs from ≡ Some x → drop from xs ≡ x ∷ drop (suc from) xs
opened [] from x is = absurd (cc)
opened (y ∷ ys) zero x is = (let e : y ≡ x = cc in ap (λ (z : Listed). z ∷ ys) e)
opened (y ∷ ys) (suc from) x is = opened ys from x is

taken_first : (n : ℕ) (x : Listed) (ys : List Listed) → 0 < n → (zs : List Listed) × (take n (x ∷ ys) ≡ x ∷ zs)
taken_first zero x ys some = absurd (omega arith)
taken_first (suc n) x ys some = (take n ys, refl)

head_of : (xs : List Listed) (from to : ℕ) (x : Listed) → slice_get xs from ≡ Some x → from < to → (ys : List Listed) × (part_of xs from to ≡ x ∷ ys)
head_of xs from to x is lt =
    let first = taken_first (to - from) x (drop (suc from) xs) (omega (arith, lt)) in
    (first.0, ap (λ (es : List Listed). take (to - from) es) (opened xs from x is) ∙ first.1)

-- an event there comes next, whatever is chosen
pub event_first : (xs : List Listed) (from to : ℕ) (d : Due) → slice_get xs from ≡ Some (listed.Event d) → from < to → (taken : Taken)
    → (us : List Place) × (events_of taken (part_of xs from to) ≡ d.place ∷ us)
event_first xs from to d is lt taken =
    let h = head_of xs from to (listed.Event d) is lt in
    (events_of taken h.0, ap (λ (es : List Listed). events_of taken es) h.1)

by_parent : (d : Due) (parent : ℕ) (u : Place) (us es : List Place) → d.completes ≡ true → d.parent ≡ Some parent → es ≡ u ∷ us
    → completed_of d es ≡ (if u.node == parent then Operands_of parent else Own_node)
by_parent d parent u us es done above first =
    ap (λ (c : Bool). if c then with_above d.parent es else Incomplete) done ∙ ap (λ (p : Option ℕ). with_above p es) above
    ∙ ap (λ (xs : List Place). with_above (Some parent) xs) first

-- what an event completes that is the last of its node, where the next one is known
pub completed_here : (d : Due) (m : Machine) (s stage : Stage) (b : Shown) (parent : ℕ) (u : Place) → m.top.stage ≡ Some stage → m.top.stage ≡ Some s
    → d.completes ≡ true → d.parent ≡ Some parent → ((taken : Taken) → (us : List Place) × (events_of taken (ahead_part m stage) ≡ u ∷ us))
    → (if u.node == parent then Operands_of parent else Own_node) ≡ completed_of d (events_of (taken_in b.taken) (ahead_part m s))
completed_here d m s stage b parent u mine other done above ahead =
    let both : Some stage ≡ Some s = sym mine ∙ other in
    let same : stage ≡ s = cc in
    let h = ahead (taken_in b.taken) in
    subst (λ (z : Stage). (if u.node == parent then Operands_of parent else Own_node) ≡ completed_of d (events_of (taken_in b.taken) (ahead_part m z))) same
    (sym (by_parent d parent u h.0 (events_of (taken_in b.taken) (ahead_part m stage)) done above h.1))
