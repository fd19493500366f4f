-- What is remembered of a frame stays in its set, or its object died there.
use Rattle.std.proofs.Common.{◌≡◌, ◌⊎◌, inl, inr, ⊎_elim, ℕ, zero, suc, ◌<◌, ◌+◌, Bool, true, false, not, ◌&&◌, ◌||◌, List, [], ◌∷◌, set}
use Rattle.std.proofs.Common.{Option, Some, None, refl, sym, ap, ◌∙◌, arith}
use Rattle.std.specs.Prelude.{slice_get, slice_index_or, length, ◌==◌}
use Rattle.std.proofs.lemmas.Option.{same_Some, slice_get-get_or}
use Rattle.ub_base.specs.declared.names.Frame.{Frame}
use Rattle.ub_base.specs.declared.names.Item.{Item}
use Rattle.ub_base.specs.declared.names.Item.TheVariants.{Read, Write, Alive}
use Rattle.ub_base.specs.Names.{same_object}
use Rattle.ub_base.proofs.NameLemmas.{same_object_is}
use Rattle.ub_base.proofs.Tests.{and_parts, number_is}
use Rattle.footprint.specs.declared.foot.Foot.{Foot}
use Rattle.footprint.specs.Holds.{holds, stands_for}
use Rattle.evaluation_log.specs.declared.known.Known.{Known}
use Rattle.evaluation_log.specs.Bodies.{Keeps}
use Rattle.evaluation_log.proofs.KeepLemmas.{lost_after}
use Rattle.evaluation_log.specs.Remembered.{is_remembered, same_access, has_entry, Knows, HasHad, HasHadAll, AreKnown, IsOfOne}

-- a note adds one item of one frame
abbrev pub IsNoted : Known → Known → Frame → Item → Type 0
IsNoted old new frame item = (other : Frame) (one : Item) → Knows new other one → Knows old other one ⊎ ((other ≡ frame) × (one ≡ item))

pub had_after : (f g : Foot) → Keeps f g → (i : Item) → HasHad f i → HasHad g i
had_after f g k i h = ⊎_elim (λ held. k i held) (λ lost. inr (lost_after f g k i lost)) h

pub all_after : (f g : Foot) (item : Item) → Keeps f g → HasHadAll f item → HasHadAll g item
all_after f g item k h j s = had_after f g k j (h j s)

pub known_after : (known : Known) (frame : Frame) (f g : Foot) → Keeps f g → AreKnown known frame f → AreKnown known frame g
known_after known frame f g k a item w = all_after f g item k (a item w)

pub known_noted : (old new : Known) (frame : Frame) (item : Item) (f g : Foot) → IsNoted old new frame item → Keeps f g → HasHadAll g item →
    AreKnown old frame f → AreKnown new frame g
known_noted old new frame item f g noted k has a one w j s =
    ⊎_elim (λ o. had_after f g k j (a one o j s)) (λ e. has j (ap (λ z. stands_for z j) (sym e.1) ∙ s)) (noted frame one w)

pub of_one : (old new : Known) (frame : Frame) (item : Item) → IsNoted old new frame item → IsOfOne old new frame
of_one old new frame item noted other one ne w = ⊎_elim (λ o. o) (λ e. absurd (ne e.0)) (noted other one w)

or_second : (p q : Bool) → q ≡ true → (p || q) ≡ true
or_second true q h = refl
or_second false q h = h

pub added_all : (f g : Foot) (item : Item) → ((i : Item) → holds g i ≡ (holds f i || stands_for item i)) → HasHadAll g item
added_all f g item is j s = inl (is j ∙ or_second (holds f j) (stands_for item j) s)

-- one item of a list more
pub each_step : (items : List Item) (at : ℕ) (x : Item) (f g : Foot) → Keeps f g → slice_get items at ≡ Some x → HasHadAll g x →
    ((p : ℕ) (item : Item) → p < at → slice_get items p ≡ Some item → HasHadAll f item) →
    (p : ℕ) (item : Item) → p < at + 1 → slice_get items p ≡ Some item → HasHadAll g item
each_step items at x f g k is has before p item less e = go p (p_cases p at less) item e
  where
    p_cases : (p at : ℕ) → p < at + 1 → (p < at) ⊎ (p ≡ at)
    p_cases p at h = grind (arith, h)

    go : (p : ℕ) → (p < at) ⊎ (p ≡ at) → (item : Item) → slice_get items p ≡ Some item → HasHadAll g item
    go p (inl l) item e = all_after f g item k (before p item l e)
    go p (inr q) item e = λ j s. has j (ap (λ z. stands_for z j) (same_Some x item (sym is ∙ (ap (slice_get items) (sym q) ∙ e))) ∙ s)

pub each_next : (items : List Item) (at : ℕ) (d : Item) (f g : Foot) → at < length items → Keeps f g → HasHadAll g (slice_index_or items at d) →
    ((p : ℕ) (item : Item) → p < at → slice_get items p ≡ Some item → HasHadAll f item) →
    (p : ℕ) (item : Item) → p < at + 1 → slice_get items p ≡ Some item → HasHadAll g item
each_next items at d f g l k has before = each_step items at (slice_index_or items at d) f g k (slice_get-get_or items at d l) has before

pub one_after : (first second third : Known) (f g : Frame) → g ≡ f → IsOfOne first second f → IsOfOne second third g → IsOfOne first third f
one_after first second third f g e h k other item ne w = h other item ne (k other item (λ q. ne (q ∙ e)) w)

-- ---- at first nothing is remembered
abbrev pub NoneRemembered : List (Frame × Item) → Type 0
NoneRemembered es = (p : ℕ) (frame : Frame) (item : Item) → slice_get es p ≡ Some (frame, item) → is_remembered item ≡ false

pub none_at_first : (es : List (Frame × Item)) → es ≡ [] → NoneRemembered es
none_at_first [] e p frame item h = absurd (cc)
none_at_first (x ∷ es) e p frame item h = absurd (cc)

pub none_known : (known : Known) → NoneRemembered known.entries.items → (frame : Frame) (item : Item) → Knows known frame item → ⊥
none_known known none frame item w = absurd (let e : false ≡ true = sym (none w.1.0 frame item w.1.1) ∙ w.0 in cc)

-- ---- an entry is read, and renewed
pub same_access-is : (a b : Item) → same_access a b ≡ true → a ≡ b
same_access-is (Read x f n) (Read y g m) h =
    let p = and_parts (same_object x y && (f == g)) (n == m) h in
    let q = and_parts (same_object x y) (f == g) p.0 in
    ap (λ z. Read z f n) (same_object_is x y q.0) ∙ (ap (λ z. Read y z n) (number_is f g q.1) ∙ ap (λ z. Read y g z) (number_is n m p.1))
same_access-is (Write x f n) (Write y g m) h =
    let p = and_parts (same_object x y && (f == g)) (n == m) h in
    let q = and_parts (same_object x y) (f == g) p.0 in
    ap (λ z. Write z f n) (same_object_is x y q.0) ∙ (ap (λ z. Write y z n) (number_is f g q.1) ∙ ap (λ z. Write y g z) (number_is n m p.1))
same_access-is (Alive x) (Alive y) h = ap (λ z. Alive z) (same_object_is x y h)
same_access-is _ _ h = absurd (cc)

pair_is : (a b : Frame) (x y : Item) → a.0 ≡ b.0 → x ≡ y → ◌≡◌ {A = Frame × Item} (a, x) (b, y)
pair_is a b x y p q = λ i. (record { 0 = p i }, q i)

pub entry_is : (o : Option (Frame × Item)) (frame : Frame) (item : Item) → has_entry o frame item ≡ true → o ≡ Some (frame, item)
entry_is None frame item h = absurd (cc)
entry_is (Some e) frame item h =
    let p = and_parts (same_access e.1 item) (e.0.0 == frame.0) h in
    ap Some (pair_is e.0 frame e.1 item (number_is e.0.0 frame.0 p.1) (same_access-is e.1 item p.0))

pub not_false : (b : Bool) → not b ≡ false → b ≡ true
not_false true h = refl
not_false false h = absurd (cc)

got_set : (es : List (Frame × Item)) (i : ℕ) (y x : Frame × Item) (p : ℕ) → slice_get (set es i y) p ≡ Some x → (slice_get es p ≡ Some x) ⊎ (x ≡ y)
got_set [] i y x p h = absurd (cc)
got_set (e ∷ es) zero y x zero h = inr (sym (same_Some y x h))
got_set (e ∷ es) zero y x (suc p) h = inl h
got_set (e ∷ es) (suc i) y x zero h = inl h
got_set (e ∷ es) (suc i) y x (suc p) h = got_set es i y x p h

pub renewed : (old new : Known) (i : ℕ) (frame : Frame) (item : Item) → new.entries.items ≡ set old.entries.items i (frame, item) → IsNoted old new frame item
renewed old new i frame item is other one w =
    ⊎_elim (λ q. inl (w.0, (w.1.0, q))) (λ q. inr (ap (λ (z : Frame × Item). z.0) q, ap (λ (z : Frame × Item). z.1) q))
    (got_set old.entries.items i (frame, item) (other, one) w.1.0 (ap (λ zs. slice_get zs w.1.0) (sym is) ∙ w.1.1))
