-- A conflict of the definition is of two evaluations that clash, and what is done is due and done once.
use Rattle.std.proofs.Common.{◌≡◌, ℕ, zero, suc, Bool, true, List, [], ◌∷◌, length, refl, ap, ◌∙◌, Some}
use Rattle.std.specs.Prelude.{slice_get}
use Rattle.ub_base.specs.Frames.{Row as FrameRow}
use Rattle.addr_map.specs.declared.map.Row.{Row}
use Rattle.c_typed.specs.Decide.{due_in}
use Rattle.c_typed.specs.Order.{events}
use Rattle.evaluation_log.specs.declared.found.Found.{Found}
use Rattle.evaluation_log.specs.declared.sought.Sought.{Sought}
use Rattle.evaluation_log.specs.declared.sought.Sought.TheVariants.{Any, Races}
use Rattle.addr_map.specs.Conflict.{is_access, items_conflict, stands_at}
use Rattle.ub_base.specs.declared.names.ObjName.{ObjName}
use Rattle.ub_base.specs.declared.names.Item.{Item}
use Rattle.ub_base.specs.declared.names.Item.TheVariants.{Read, Write}
use Rattle.evaluation_log.specs.Clashes.{Clash, NoClash}
use Rattle.evaluation_search.specs.First.{sought_of}
use Rattle.run_evaluations.specs.First.{AreOfOperands, IsConflictIn}
use Rattle.run_evaluations.specs.Listing.{IsBeginning}
use Rattle.run_evaluations.specs.Shows.{IsAmong, NoneOfTwo}
use Rattle.run_evaluations.specs.Told.{Evaluation, Opened, has}
use Rattle.run_evaluations.proofs.ListingLemmas.{listings_tell}
use Rattle.conflict_detector.specs.Complete.{BeginningsDone}

-- so many of the first ones
abbrev first : ℕ → List Evaluation → List Evaluation
first zero es = []
first (suc n) [] = []
first (suc n) (e ∷ es) = e ∷ first n es

first_get : (n j : ℕ) (es : List Evaluation) (e : Evaluation) → slice_get (first n es) j ≡ Some e → slice_get es j ≡ Some e
first_get zero j es e h = absurd (cc)
first_get (suc n) j [] e h = absurd (cc)
first_get (suc n) zero (d ∷ es) e h = h
first_get (suc n) (suc j) (d ∷ es) e h = first_get n j es e h

first_length : (n : ℕ) (es : List Evaluation) (e : Evaluation) → slice_get es n ≡ Some e → length (first n es) ≡ n
first_length zero es e h = refl
first_length (suc n) [] e h = absurd (cc)
first_length (suc n) (d ∷ es) e h = ap suc (first_length n es e h)

-- an evaluation that is done is due
done_due : (t : Opened) → IsBeginning t → (e : Evaluation) → IsAmong t e → due_in t.scope.taken 0 t.scope.tree e.place ≡ true
done_due t begins e among =
    let before : Opened = record t { done = first among.0 t.done } in
    let tells = listings_tell before (λ j d h. begins j d (first_get among.0 j t.done d h)) in
    tells.1 e.place (ap (slice_get (events t.scope.taken 0 t.scope.tree)) (first_length among.0 t.done e among.1) ∙ begins among.0 e among.1)

pub beginnings_done : BeginningsDone
beginnings_done t begins = record { due = done_due t begins; once = (listings_tell t begins).0 }

-- ---- none of them conflict
access_conflict : (stands other : ObjName → ℕ → Bool) (i j : Item) → is_access i ≡ true → is_access j ≡ true →
    items_conflict stands i j ≡ items_conflict other i j
access_conflict stands other (Read x a n) (Read y b m) h k = refl
access_conflict stands other (Read x a n) (Write y b m) h k = refl
access_conflict stands other (Write x a n) (Read y b m) h k = refl
access_conflict stands other (Write x a n) (Write y b m) h k = refl
access_conflict stands other (Read x a n) j h k = absurd (cc)
access_conflict stands other (Write x a n) j h k = absurd (cc)
access_conflict stands other i j h k = absurd (cc)

any_clash : (s : Sought) (rows : List Row) (f g : Item → Bool) (i j : Item) → Clash s rows f g i j → Clash Any rows f g i j
any_clash Any rows f g i j c = c
any_clash Races rows f g i j c = (c.0, c.1, access_conflict (stands_at rows) (λ x n. true) i j c.2 c.3 ∙ c.4)

-- a conflict of the definition clashes
pub conflict_clashes : (frames : List FrameRow) (rows : List Row) (t : Opened) (Pairs : Evaluation → Evaluation → Type 0) (f : Found)
    (x : IsConflictIn frames rows t Pairs f) → NoClash Any rows (has x.one) (has x.other) → ⊥
conflict_clashes frames rows t Pairs f x never =
    never f.items.0 f.items.1 (any_clash (sought_of f.race) rows (has x.one) (has x.other) f.items.0 f.items.1 x.of.least.0)

pub none_of_two : (frames : List FrameRow) (rows : List Row) (t : Opened) (n : ℕ) → NoneOfTwo rows t n →
    (f : Found) → IsConflictIn frames rows t (AreOfOperands t n) f → ⊥
none_of_two frames rows t n none f x =
    conflict_clashes frames rows t (AreOfOperands t n) f x (none x.one x.other x.one_done x.other_done x.pair x.apart)
