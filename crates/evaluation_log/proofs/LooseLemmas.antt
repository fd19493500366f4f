-- Events and the side effects that are listed.
use Rattle.std.proofs.Common.{◌≡◌, ⊎_elim, ℕ, ◌≤◌, ◌<◌, ◌-◌, Bool, true, false, List, length, refl, sym, ap, ◌∙◌, arith, Option, Some, None, subst}
use Rattle.std.proofs.Common.{if◌then◌else◌}
use Rattle.std.specs.Prelude.{slice_get, IfSome, IfNone}
use Rattle.std.proofs.lemmas.Option.{slice_get_past}
use Rattle.ub_base.specs.declared.names.Item.{Item}
use Rattle.ub_base.specs.Frames.{Row as FrameRow}
use Rattle.addr_map.specs.declared.map.Row.{Row}
use Rattle.addr_map.specs.Conflict.{items_conflict, stands_at}
use Rattle.footprint.specs.declared.foot.Foot.{Foot}
use Rattle.footprint.specs.Holds.{holds, stands_for}
use Rattle.evaluation_log.specs.declared.found.Found.{Found}
use Rattle.evaluation_log.specs.declared.log.Logged.{Logged}
use Rattle.evaluation_log.specs.declared.sought.Sought.TheVariants.{Any}
use Rattle.evaluation_log.specs.Touched.{touched, body_has, event_has}
use Rattle.evaluation_log.specs.Clashes.{NoClash}
use Rattle.evaluation_log.specs.FoundItems.{first_found, counts_before}
use Rattle.evaluation_log.specs.Kept.{IsApart, span_of}
use Rattle.evaluation_log.specs.Loose.{event_of, loose_has, NoLoose, HasLoose}
use Rattle.evaluation_log.proofs.KeptLemmas.{touched_by, or_split, before_or_past}
use Rattle.evaluation_log.proofs.StandLemmas.{stand_conflict}

-- past the list there is none
pub loose_past : (events : List Logged) (items : List Item) (loose : List ℕ) (i : ℕ) (j : Item) → length loose ≤ i → loose_has events items loose i j ≡ false
loose_past events items loose i j past = ap (λ o. event_has items (event_of events o) j) (slice_get_past loose i past)

pub loose_end : (rows : List Row) (events : List Logged) (items : List Item) (loose : List ℕ) (from n : ℕ) (f : Item → Bool) → length loose ≤ n →
    ((i : ℕ) → i < n → from ≤ i → NoClash Any rows f (loose_has events items loose i)) → NoLoose rows events items loose from f
loose_end rows events items loose from n f past none i le x y c =
    ⊎_elim (λ less. none i less le x y c)
    (λ more. absurd (let e : false ≡ true = sym (loose_past events items loose i y (omega (arith, past, more))) ∙ c.1 in cc))
    (before_or_past i n)

pub set_end : (events : List Logged) (items : List Item) (loose : List ℕ) (from n : ℕ) (foot : Foot) → length loose ≤ n →
    ((i : ℕ) → i < n → from ≤ i → (j : Item) → loose_has events items loose i j ≡ true → holds foot j ≡ true) → HasLoose events items loose from foot
set_end events items loose from n foot past has i le j h =
    ⊎_elim (λ less. has i less le j h)
    (λ more. absurd (let e : false ≡ true = sym (loose_past events items loose i j (omega (arith, past, more))) ∙ h in cc))
    (before_or_past i n)

-- an item of an event that started no frame
alone_by : (items : List Item) (o : Option Logged) (j : Item) (s : ℕ × ℕ) → ((e : Logged) → o ≡ Some e → e.foot ≡ None) → IfSome (span_of o) (λ t. s ≡ t) →
    event_has items o j ≡ true → (p : ℕ) × (x : Item) × (s.0 ≤ p) × (p < s.1) × (slice_get items p ≡ Some x) × (stands_for x j ≡ true)
alone_by items None j s bare is h = absurd (cc)
alone_by items (Some e) j s bare is h =
    let own : touched items e.from (e.to - e.from) j ≡ true =
    ⊎_elim (λ own. own) (λ body. absurd (let f : false ≡ true = sym (ap (λ b. body_has b j) (bare e refl)) ∙ body in cc))
    (or_split (touched items e.from (e.to - e.from) j) (body_has e.foot j) h) in
    let t = touched_by items e.from (e.to - e.from) j own in
    let a : s.0 ≡ e.from = ap (λ (x : ℕ × ℕ). x.0) is in
    let b : s.1 ≡ e.to = ap (λ (x : ℕ × ℕ). x.1) is in
    (t.0, t.1, omega (arith, a, t.2), omega (arith, b, t.2, t.3), t.4, t.5)

pub spans_none : (rows : List Row) (items : List Item) (o p : Option Logged) (s t : ℕ × ℕ) → ((e : Logged) → o ≡ Some e → e.foot ≡ None) →
    ((e : Logged) → p ≡ Some e → e.foot ≡ None) → IfSome (span_of o) (λ x. s ≡ x) → IfSome (span_of p) (λ x. t ≡ x) →
    ((k : ℕ) → s.0 ≤ k → k < s.1 → (q : ℕ) → t.0 ≤ q → q < t.1 → IsApart rows (slice_get items k) (slice_get items q)) →
    NoClash Any rows (event_has items o) (event_has items p)
spans_none rows items o p s t bare_o bare_p is_o is_p apart i j c =
    let a = alone_by items o i s bare_o is_o c.0 in
    let b = alone_by items p j t bare_p is_p c.1 in
    let some : items_conflict (stands_at rows) a.1 b.1 ≡ true = stand_conflict (stands_at rows) a.1 b.1 i j a.5 b.5 c.2 in
    let none : items_conflict (stands_at rows) a.1 b.1 ≡ false = apart a.0 a.2 a.3 b.0 b.2 b.3 a.1 b.1 a.4 b.4 in
    absurd (cc)

-- the one that counts is none where there is none
one_of : (b : Bool) (f g : Found) (Q : Type 0) → (if b then Some g else Some f) ≡ None → Q
one_of true f g Q h = absurd (cc)
one_of false f g Q h = absurd (cc)

pub first_none : (rows : List FrameRow) (a b : Option Found) → first_found rows a b ≡ None → (a ≡ None) × (b ≡ None)
first_none rows None b h = (refl, h)
first_none rows (Some f) None h = absurd (cc)
first_none rows (Some f) (Some g) h = one_of (counts_before rows g f) f g ((Some f ≡ None) × (Some g ≡ None)) h

pub none_at : (P : Type 0) (o : Option Found) → o ≡ None → IfNone o P → P
none_at P o e h = subst (λ (x : Option Found). IfNone x P) e h

pub if_none_by : (r : Option Found) (Q : Type 0) → (r ≡ None → Q) → IfNone r Q
if_none_by None Q h = h refl
if_none_by (Some f) Q h = tt
