-- What a call gives is the first conflict, or there is none.
use Rattle.std.proofs.Common.{◌≡◌, inl, inr, ℕ, Bor, Bool, true, false, List, refl, sym, subst, ◌∙◌, Option, Some, None, if◌then◌else◌}
use Rattle.std.specs.Prelude.{IfNone, IfSome}
use Rattle.std.proofs.lemmas.Option.{same_Some}
use Rattle.ub_base.specs.Frames.{Row as FrameRow}
use Rattle.addr_map.specs.declared.map.Row.{Row}
use Rattle.c_typed.specs.declared.tree.Typed.{Typed}
use Rattle.c_typed.specs.Tree.{tree_of}
use Rattle.seq_order.specs.Marked.{taken_in}
use Rattle.evaluation_log.specs.declared.found.Found.{Found}
use Rattle.evaluation_log.specs.FoundItems.{counts_before, first_found}
use Rattle.evaluation_search.specs.First.{IsFirst, IsFirstOf}
use Rattle.evaluation_search.proofs.FirstLemmas.{both}
use Rattle.run_state.specs.declared.watch.Begun.{Begun}
use Rattle.run_evaluations.specs.First.{AreOfNode, AreOfOperands, IsConflictIn, IsOrdered}
use Rattle.run_evaluations.specs.Shows.{NoneOfTwo}
use Rattle.run_evaluations.specs.Scopes.{IsRuled}
use Rattle.run_evaluations.specs.Told.{Opened, TellsNode}
use Rattle.evaluation_log.specs.declared.rules.Rule.{Rule}
use Rattle.conflict_detector.specs.Telling.{TellsAt}
use Rattle.conflict_detector.specs.declared.seen.Seen.{Seen}
use Rattle.conflict_detector.specs.Complete.{AreDone, IsConflictAbove, IsConflictDone, MayGather, above_of}
use Rattle.conflict_detector.specs.Recorded.{IsSeen, SeesFirst}
use Rattle.conflict_detector.specs.Shown.{IsDuePair, IsShown}
use Rattle.conflict_detector.proofs.Pairs.{due_pair}

-- a conflict that is found is the first one, and passes the question how it stands; so what is seen is that, and nothing only where none is found
pub sees_by : (frames : List FrameRow) (Q : Found → Type 0) (none : Type 0) (found r : Option Found) (seen : Option Seen) → (found ≡ None → none) →
    ((f : Found) → found ≡ Some f → IsFirst frames Q f) → ((f : Found) → found ≡ Some f → r ≡ Some f) → IfSome seen (λ s. r ≡ Some s.found) →
    (seen ≡ None → r ≡ None) → IfSome r (λ f. found ≡ Some f) → SeesFirst frames Q none seen
sees_by frames Q none None None None nothing first passes some empty given = nothing refl
sees_by frames Q none None None (Some s) nothing first passes some empty given = absurd (cc)
sees_by frames Q none None (Some f) seen nothing first passes some empty given = absurd (cc)
sees_by frames Q none (Some f) r None nothing first passes some empty given = absurd (let q = sym (passes f refl) ∙ empty refl in cc)
sees_by frames Q none (Some f) r (Some s) nothing first passes some empty given =
    subst (λ (z : Found). IsFirst frames Q z) (same_Some f s.found (sym (passes f refl) ∙ some)) (first f refl)

pub if_none : {A : Type 0} (o : Option A) (X : Type 0) → IfNone o X → o ≡ None → X
if_none None X h e = h
if_none (Some a) X h e = absurd (cc)

pub if_some : {A : Type 0} (o : Option A) (X : A → Type 0) → IfSome o X → (a : A) → o ≡ Some a → X a
if_some None X h a e = absurd (cc)
if_some (Some b) X h a e = subst X (same_Some b a e) h

-- of operands
pub sees_operands : (frames : List FrameRow) (rows : List Row) (t : Opened) (n : ℕ) (found r : Option Found) (seen : Option Seen) → AreDone t →
    IfNone found (NoneOfTwo rows t n) → IfSome found (IsFirst frames (IsConflictIn frames rows t (AreOfOperands t n))) →
    ((f : Found) → found ≡ Some f → IsDuePair t f → r ≡ Some f) → IfSome seen (λ s. r ≡ Some s.found) → (seen ≡ None → r ≡ None) →
    IfSome r (λ f. found ≡ Some f) → SeesFirst frames (IsConflictIn frames rows t (AreOfOperands t n)) (NoneOfTwo rows t n) seen
sees_operands frames rows t n found r seen done none first passes some empty given =
    let firsts = if_some found (IsFirst frames (IsConflictIn frames rows t (AreOfOperands t n))) first in
    sees_by frames (IsConflictIn frames rows t (AreOfOperands t n)) (NoneOfTwo rows t n) found r seen (if_none found (NoneOfTwo rows t n) none) firsts
    (λ f e. passes f e (due_pair t done frames rows (AreOfOperands t n) f (firsts f e).0)) some empty given

-- what node_done asks
pub ordered : (roots : List (Bor Typed)) (b : Begun) (t : Opened) → IsShown roots b t → IsOrdered t (taken_in b.taken) (tree_of b.root.now)
ordered roots b t shown = record { tree = shown.tree; chosen = shown.taken; small = shown.small }

-- what operands_done of the evaluations asks
pub tells_node : (t : Opened) (n : ℕ) (own : TellsAt t n) (rule : Rule) (chosen : Bool) → IsRuled t.scope n own.class own.operands rule chosen →
    TellsNode t n rule chosen
tells_node t n own rule chosen ruled = record { class = own.class; operands = own.operands; ruled = ruled; next = own.next; small = own.small }

-- ---- a node and the operands of the node above
-- the node above, where this one is the last of its operands
pub above_none : (frames : List FrameRow) (rows : List Row) (t : Opened) (o : Option ℕ) → o ≡ None → IsFirstOf frames (IsConflictAbove frames rows t o) None
above_none frames rows t None e = λ f x. x
above_none frames rows t (Some m) e = absurd (cc)

pub above_some : (frames : List FrameRow) (rows : List Row) (t : Opened) (o : Option ℕ) (m : ℕ) (r : Option Found) → o ≡ Some m →
    IsFirstOf frames (IsConflictIn frames rows t (AreOfOperands t m)) r → IsFirstOf frames (IsConflictAbove frames rows t o) r
above_some frames rows t o m r e h = subst (λ (z : Option ℕ). IsFirstOf frames (IsConflictAbove frames rows t z) r) (sym e) h

pub gathers : (t : Opened) (o : Option ℕ) (m : ℕ) → o ≡ Some m → MayGather t o → TellsAt t m × (t.parts m ≡ false)
gathers t o m e h = subst (λ (z : Option ℕ). MayGather t z) e h

above_pair : (frames : List FrameRow) (rows : List Row) (t : Opened) (o : Option ℕ) → AreDone t → (f : Found) → IsConflictAbove frames rows t o f →
    IsDuePair t f
above_pair frames rows t None done f x = absurd x
above_pair frames rows t (Some m) done f x = due_pair t done frames rows (AreOfOperands t m) f x

done_pair : (frames : List FrameRow) (rows : List Row) (t : Opened) (n : ℕ) → AreDone t → (f : Found) → IsConflictDone frames rows t n f → IsDuePair t f
done_pair frames rows t n done f (inl x) = due_pair t done frames rows (AreOfNode t n) f x
done_pair frames rows t n done f (inr x) = above_pair frames rows t (above_of t n) done f x

seen_by : (frames : List FrameRow) (Q : Found → Type 0) (found r : Option Found) (seen : Option Seen) → IsFirstOf frames Q found → (found ≡ None → ⊥) →
    ((f : Found) → found ≡ Some f → Q f → r ≡ Some f) → IfSome seen (λ s. r ≡ Some s.found) → (seen ≡ None → r ≡ None) → IsSeen frames Q seen
seen_by frames Q None r seen first there passes some empty = absurd (there refl)
seen_by frames Q (Some f) r None first there passes some empty = absurd (let q = sym (passes f refl first.0) ∙ empty refl in cc)
seen_by frames Q (Some f) r (Some s) first there passes some empty =
    subst (λ (z : Found). IsFirst frames Q z) (same_Some f s.found (sym (passes f refl first.0) ∙ some)) first

first_some : (frames : List FrameRow) (f : Found) (more : Option Found) → first_found frames (Some f) more ≡ None → ⊥
first_some frames f None e = absurd (cc)
first_some frames f (Some g) e = chosen (counts_before frames g f) e
  where
    chosen : (b : Bool) → (if b then Some g else Some f) ≡ None → ⊥
    chosen true e = absurd (cc)
    chosen false e = absurd (cc)

pub seen_node : (frames : List FrameRow) (rows : List Row) (t : Opened) (n : ℕ) (f : Found) (more first r : Option Found) (seen : Option Seen) → AreDone t →
    IsFirst frames (IsConflictIn frames rows t (AreOfNode t n)) f → IsFirstOf frames (IsConflictAbove frames rows t (above_of t n)) more →
    first ≡ first_found frames (Some f) more → ((g : Found) → first ≡ Some g → IsDuePair t g → r ≡ Some g) → IfSome seen (λ s. r ≡ Some s.found) →
    (seen ≡ None → r ≡ None) → IsSeen frames (IsConflictDone frames rows t n) seen
seen_node frames rows t n f more first r seen done own above e passes some empty =
    seen_by frames (IsConflictDone frames rows t n) first r seen
    (subst (λ (z : Option Found). IsFirstOf frames (IsConflictDone frames rows t n) z) (sym e)
    (both frames (IsConflictIn frames rows t (AreOfNode t n)) (IsConflictAbove frames rows t (above_of t n)) (Some f) more own above))
    (λ h. first_some frames f more (sym e ∙ h)) (λ g h q. passes g h (done_pair frames rows t n done g q)) some empty

-- so it is the first one
pub sees_seen : (frames : List FrameRow) (Q : Found → Type 0) (none : Type 0) (seen : Option Seen) → IsSeen frames Q seen → SeesFirst frames Q none seen
sees_seen frames Q none None h = absurd h
sees_seen frames Q none (Some s) h = h

-- and what holds of nothing seen holds
pub seen_some : (frames : List FrameRow) (Q : Found → Type 0) (X : Type 0) (seen : Option Seen) → IsSeen frames Q seen → IfNone seen X
seen_some frames Q X None h = absurd h
seen_some frames Q X (Some s) h = tt
