-- The bytes of ranges after a change.
use Rattle.std.proofs.Common.{
  ◌≡◌,
  ◌⊎◌,
  inl,
  inr,
  ⊎_elim,
  ℕ,
  ◌+◌,
  ◌<◌,
  ◌≤◌,
  Bool,
  true,
  false,
  cond,
  not,
  ◌&&◌,
  ◌||◌,
  refl,
  sym,
  ap,
  ◌∙◌,
  subst,
  arith,
  List,
  [],
  ◌∷◌,
  Some,
  None,
  Option,
  IsTrue,
}
use Rattle.std.specs.Prelude.{nat_lt, nat_le, ◌==◌, ◌^◌, Result, Ok, Err, OnOk, OnErr}
use Rattle.std.specs.Cmp.{both_ways}
use Rattle.std.specs.Map.{lookup}
use Rattle.std.specs.BTreeMap.{BTreeMap, is_at, IsOrdered}
use Rattle.std.proofs.lemmas.Bool.Decides.{nat_tests}
use Rattle.ub_base.specs.declared.names.ObjName.{ObjName}
use Rattle.ub_base.specs.Names.{same_object}
use Rattle.ub_base.proofs.NameLemmas.{same_object_is, same_object_refl}
use Rattle.footprint.specs.Ranges.{range_has, has_byte, start_cmp, end_at, Held, Separate, begins_in, Without, Joins, IsFirstByte}
use Rattle.footprint.specs.Searches.{IsJoinedStart, IsJoinedEnd, IsLast, IsNext}
use Rattle.footprint.specs.declared.span.Span.{Span}
use Rattle.footprint.proofs.RangeStarts.{has_from_held, held_from_has, and_left, and_right, within, or_true, first_of_or, or_split}
use Rattle.footprint.proofs.Removals.{begins_own, begins_is}

-- a range of the new ones is the joined one or an old one
joined_or : (a b : Bool) (old : BTreeMap (ObjName × ℕ) ℕ) (x : ObjName) (from end : ℕ) (y : ObjName) (f e : ℕ) (o : Option ℕ) →
    (same_object x y && (f == from)) ≡ a → begins_in x from end y f ≡ b → o ≡ cond a (Some end) (cond b None (end_at old y f)) → o ≡ Some e
    → ((x ≡ y) × (f ≡ from) × (e ≡ end)) ⊎ ((begins_in x from end y f ≡ false) × (end_at old y f ≡ Some e))
joined_or true b old x from end y f e o ha hb h got =
    let at : (f == from) ≡ true = and_right (same_object x y) _ ha in
    inl (same_object_is x y (and_left _ _ ha), grind (arith, nat_tests), cc)
joined_or false true old x from end y f e o ha hb h got = absurd (cc)
joined_or false false old x from end y f e o ha hb h got = inr (hb, sym h ∙ got)

module _ (old new : BTreeMap (ObjName × ℕ) ℕ) (x : ObjName) (from end : ℕ) (j : Joins old new x from end) where
  range_of : (y : ObjName) (f e : ℕ) → end_at new y f ≡ Some e → ((x ≡ y) × (f ≡ from) × (e ≡ end)) ⊎
      ((begins_in x from end y f ≡ false) × (end_at old y f ≡ Some e))
  range_of y f e got = joined_or _ _ old x from end y f e (end_at new y f) refl refl (j y f) got

  here : end_at new x from ≡ Some end
  here =
      let same : (same_object x x && (from == from)) ≡ true = grind (arith, nat_tests, same_object_refl) in
      j x from ∙ ap (λ b. cond b (Some end) (cond (begins_in x from end x from) None (end_at old x from))) same

  kept_by : (a : Bool) (y : ObjName) (f : ℕ) → (same_object x y && (f == from)) ≡ a → from ≤ end → begins_in x from end y f ≡ false →
      end_at new y f ≡ end_at old y f
  kept_by true y f ha le out =
      let own : x ≡ y = same_object_is x y (and_left _ _ ha) in
      let at : (f == from) ≡ true = and_right (same_object x y) _ ha in
      let e : f ≡ from = grind (arith, nat_tests) in
      let inside : begins_in x from end y f ≡ true = subst (λ (z : ObjName). begins_in x from end z f ≡ true) own
      (begins_own x from end f (omega (arith, e)) (omega (arith, e))) in
      absurd (cc)
  kept_by false y f ha le out =
      j y f ∙ ap (λ b. cond b (Some end) (cond (begins_in x from end y f) None (end_at old y f))) ha ∙ ap (λ b. cond b None (end_at old y f)) out

  module _ (s t : ℕ) (lt : s < t) (start : IsJoinedStart old x s from) (stop : IsJoinedEnd old x t end) where
    some_bytes : from < end
    some_bytes = omega (arith, start.early, stop.late)

    inside_old : (i : ℕ) → from ≤ i → i < end → (i < s) ⊎ ((s ≤ i) × (i < t)) ⊎ (t ≤ i)
    inside_old i le to = grind arith

    held_or : (y : ObjName) (i : ℕ) → Held new y i → Held old y i ⊎ ((x ≡ y) × (s ≤ i) × (i < t))
    held_or y i h =
        ⊎_elim
        (λ a. subst (λ (z : ObjName). Held old z i ⊎ ((x ≡ z) × (s ≤ i) × (i < t))) a.0
        (⊎_elim
        (λ before. inl (start.held i (omega (arith, a.1, h.3)) before))
        (λ rest. ⊎_elim (λ mid. inr (refl, mid.0, mid.1)) (λ after. inl (stop.held i after (omega (arith, a.2, h.4)))) rest)
        (inside_old i (omega (arith, a.1, h.3)) (omega (arith, a.2, h.4)))))
        (λ b. inl (h.0, h.1, b.1, h.3, h.4))
        (range_of y h.0 h.1 h.2)

    in_joined : (y : ObjName) (i : ℕ) → x ≡ y → from ≤ i → i < end → Held new y i
    in_joined y i own le to = subst (λ (z : ObjName). Held new z i) own (from, end, here, le, to)

    held_of_old : (b : Bool) (y : ObjName) (i : ℕ) (h : Held old y i) → begins_in x from end y h.0 ≡ b → Held new y i
    held_of_old false y i h out = (h.0, h.1, kept_by _ y h.0 refl (omega (arith, some_bytes)) out ∙ h.2, h.3, h.4)
    held_of_old true y i h inside =
        let own = begins_is x from end y h.0 inside in
        let got : end_at old x h.0 ≡ Some h.1 = subst (λ (z : ObjName). end_at old z h.0 ≡ Some h.1) (sym own.0) h.2 in
        let far : h.1 ≤ end = stop.clear h.0 h.1 got own.2 in
        in_joined y i own.0 (omega (arith, own.1, h.3)) (omega (arith, h.4, far))

    pub joined_bytes : IsOrdered start_cmp old → IsOrdered start_cmp new →
        (y : ObjName) (i : ℕ) → has_byte new.entries y i ≡ (has_byte old.entries y i || range_has ((x, s), t) y i)
    joined_bytes was now y i = both_ways _ _
        (λ h. ⊎_elim
        (λ held. first_of_or _ _ (has_from_held old y i held))
        (λ r. or_true (has_byte old.entries y i) _ (subst (λ (z : ObjName). range_has ((x, s), t) z i ≡ true) r.0 (bytes_own r.1 r.2)))
        (held_or y i (held_from_has new y i now h)))
        (λ h. or_split (has_byte old.entries y i) _ h
        (λ a. has_from_held new y i (let held = held_from_has old y i was a in held_of_old _ y i held refl))
        (λ r.
        let bounds = within s i t (and_right (same_object x y) _ r) in
        has_from_held new y i (in_joined y i (same_object_is x y (and_left _ _ r)) (omega (arith, bounds.0, start.early))
        (omega (arith, bounds.1, stop.late)))))
      where
        bytes_own : s ≤ i → i < t → range_has ((x, s), t) x i ≡ true
        bytes_own le to = grind (arith, nat_tests, same_object_refl)

    outside : (y : ObjName) (f : ℕ) → x ≡ y → begins_in x from end y f ≡ false → (f < from) ⊎ (end < f)
    outside y f own out =
        let there : begins_in x from end x f ≡ false = subst (λ (z : ObjName). begins_in x from end z f ≡ false) (sym own) out in
        let same : same_object x x ≡ true = same_object_refl x in
        let bounds : (nat_le from f && nat_le f end) ≡ false = ap (λ b. b && (nat_le from f && nat_le f end)) (sym same) ∙ there in
        grind (arith, nat_tests)

    pub joined_separate : end < 2 ^ 64 → Separate old → Separate new
    joined_separate small sep = record {
      bound = λ y f e got. ⊎_elim (λ a. omega (arith, a.2)) (λ b. sep.bound y f e b.1) (range_of y f e got);
      filled = λ y f e got. ⊎_elim (λ a. omega (arith, a.1, a.2, some_bytes)) (λ b. sep.filled y f e b.1) (range_of y f e got);
      apart = λ y f e g k got gone lt2. ⊎_elim
          (λ a. ⊎_elim
          (λ c. absurd (omega (arith, a.1, c.1, lt2)))
          (λ d. ⊎_elim (λ low. absurd (omega (arith, a.1, low, lt2))) (λ high. omega (arith, a.2, high)) (outside y g a.0 d.0))
          (range_of y g k gone))
          (λ b. ⊎_elim
          (λ c. start_clear y f e b.1 c.0 (omega (arith, c.1, lt2)) (c.1))
          (λ d. sep.apart y f e g k b.1 d.1 lt2)
          (range_of y g k gone))
          (range_of y f e got);
    }
      where
        start_clear : (y : ObjName) (f e : ℕ) → end_at old y f ≡ Some e → x ≡ y → f < from → {g : ℕ} → g ≡ from → e < g
        start_clear y f e got own low {g} is =
            let near = start.clear f e (subst (λ (z : ObjName). end_at old z f ≡ Some e) (sym own) got) low in
            omega (arith, near, is)

or_false : (a b : Bool) → b ≡ false → a ≡ (a || b)
or_false true b h = refl
or_false false b h = sym h

or_in : (a b : Bool) → (b ≡ true → a ≡ true) → a ≡ (a || b)
or_in true b h = refl
or_in false true h = absurd (cc_up (h refl))
  where
    cc_up : false ≡ true → ⊥
    cc_up e = cc
or_in false false h = refl

empty_range : (x : ObjName) (s t : ℕ) → t ≤ s → (y : ObjName) (i : ℕ) → range_has ((x, s), t) y i ≡ false
empty_range x s t le y i = and_false (same_object x y) (grind (arith, nat_tests))
  where
    and_false : (a : Bool) {b : Bool} → b ≡ false → (a && b) ≡ false
    and_false true h = h
    and_false false h = refl

pub none_added : (rs : List ((ObjName × ℕ) × ℕ)) (x : ObjName) (s t : ℕ) → t ≤ s →
    (y : ObjName) (i : ℕ) → has_byte rs y i ≡ (has_byte rs y i || range_has ((x, s), t) y i)
none_added rs x s t le y i = or_false _ _ (empty_range x s t le y i)

pub all_there : (rs : List ((ObjName × ℕ) × ℕ)) (x : ObjName) (s t : ℕ) → ((i : ℕ) → s ≤ i → i < t → has_byte rs x i ≡ true) →
    (y : ObjName) (i : ℕ) → has_byte rs y i ≡ (has_byte rs y i || range_has ((x, s), t) y i)
all_there rs x s t all y i = or_in _ _ (λ h.
    let bounds = within s i t (and_right (same_object x y) _ h) in
    subst (λ (z : ObjName). has_byte rs z i ≡ true) (same_object_is x y (and_left _ _ h)) (all i bounds.0 bounds.1))

-- ---- what the last range that begins in time tells
pub all_before_end : (ends : BTreeMap (ObjName × ℕ) ℕ) (x : ObjName) (s t : ℕ) (r : Span) → IsLast ends x s r → t ≤ r.end →
    (i : ℕ) → s ≤ i → i < t → has_byte ends.entries x i ≡ true
all_before_end ends x s t r last le i from to = has_from_held ends x i (r.from, r.end, last.found, omega (arith, last.early), omega arith)

some_is : (a b : ℕ) → Some a ≡ Some b → a ≡ b
some_is a b h = cc

pub has_none : (ends : BTreeMap (ObjName × ℕ) ℕ) (x : ObjName) (i : ℕ) → IsOrdered start_cmp ends → ((f : ℕ) → f ≤ i → end_at ends x f ≡ None) →
    has_byte ends.entries x i ≡ false
has_none ends x i ordered none = by (has_byte ends.entries x i) refl
  where
    by : (b : Bool) → has_byte ends.entries x i ≡ b → b ≡ false
    by false h = refl
    by true h =
        let held = held_from_has ends x i ordered h in
        let gone = none held.0 held.3 in
        let got = held.2 in
        absurd (cc)

pub has_last : (ends : BTreeMap (ObjName × ℕ) ℕ) (x : ObjName) (i : ℕ) (r : Span) → IsOrdered start_cmp ends → Separate ends → IsLast ends x i r →
    has_byte ends.entries x i ≡ nat_lt i r.end
has_last ends x i r ordered sep last = both_ways _ _
    (λ h.
    let held = held_from_has ends x i ordered h in
    let in_time = last.last held.0 held.1 held.3 held.2 in
    let reach : i < r.end = at_or held.0 held.1 held.2 held.4 in_time in
    lt_true reach)
    (λ h.
    let lt : i < r.end = true_lt h in
    has_from_held ends x i (r.from, r.end, last.found, last.early, lt))
  where
    lt_true : i < r.end → nat_lt i r.end ≡ true
    lt_true h = grind (arith, nat_tests)

    true_lt : nat_lt i r.end ≡ true → i < r.end
    true_lt h = grind (arith, nat_tests)

    at_or : (f e : ℕ) → end_at ends x f ≡ Some e → i < e → f ≤ r.from → i < r.end
    at_or f e got lt le = ⊎_elim
        (λ (same : f ≡ r.from).
        let is : e ≡ r.end = some_is e r.end (sym got ∙ ap (end_at ends x) same ∙ last.found) in
        omega arith)
        (λ (low : f < r.from).
        let near = sep.apart x f e r.from r.end got last.found low in
        omega (arith, near, last.early))
        (cases f r.from le)
      where
        cases : (a b : ℕ) → a ≤ b → (a ≡ b) ⊎ (a < b)
        cases a b h = grind arith

pub separate_same : (old new : BTreeMap (ObjName × ℕ) ℕ) → new.entries ≡ old.entries → Separate old → Separate new
separate_same old new e sep = record {
  bound = λ x f g got. sep.bound x f g (back x f ∙ got);
  filled = λ x f g got. sep.filled x f g (back x f ∙ got);
  apart = λ x f g h k got gone lt. sep.apart x f g h k (back x f ∙ got) (back x h ∙ gone) lt;
}
  where
    back : (x : ObjName) (f : ℕ) → end_at old x f ≡ end_at new x f
    back x f = ap (λ (es : List ((ObjName × ℕ) × ℕ)). lookup (is_at (start_cmp (x, f))) es) (sym e)

pub all_before_by : (ends : BTreeMap (ObjName × ℕ) ℕ) (x : ObjName) (s t : ℕ) (r : Span) → IsLast ends x s r → IsTrue (nat_le t r.end) →
    (i : ℕ) → s ≤ i → i < t → has_byte ends.entries x i ≡ true
all_before_by ends x s t r last le = all_before_end ends x s t r last (le_of le)
  where
    le_of : IsTrue (nat_le t r.end) → t ≤ r.end
    le_of h = grind (arith, nat_tests)

-- ---- the first byte of a range that is there
not_there : (rs : List ((ObjName × ℕ) × ℕ)) (x : ObjName) (i : ℕ) → (has_byte rs x i ≡ true → ⊥) → has_byte rs x i ≡ false
not_there rs x i h = by (has_byte rs x i) refl
  where
    by : (b : Bool) → has_byte rs x i ≡ b → b ≡ false
    by false e = refl
    by true e = absurd (h e)

-- no byte lies between the first one looked at, which isn't there, and the next range
pub none_until : (ends : BTreeMap (ObjName × ℕ) ℕ) (x : ObjName) (s n : ℕ) → IsOrdered start_cmp ends → has_byte ends.entries x s ≡ false →
    ((f e : ℕ) → s ≤ f → end_at ends x f ≡ Some e → n ≤ f) → (i : ℕ) → s ≤ i → i < n → has_byte ends.entries x i ≡ false
none_until ends x s n ordered absent first i from lt = not_there ends.entries x i (λ h.
    let held = held_from_has ends x i ordered h in
    ⊎_elim
    (λ (early : held.0 ≤ s).
    let there = has_from_held ends x s (held.0, held.1, held.2, early, omega (arith, held.4)) in
    absurd (cc))
    (λ (late : s < held.0).
    let far = first held.0 held.1 (omega arith) held.2 in
    absurd (omega (arith, far, held.3)))
    (either held.0 s))
  where
    either : (a b : ℕ) → (a ≤ b) ⊎ (b < a)
    either a b = grind arith

pub none_at_all : (ends : BTreeMap (ObjName × ℕ) ℕ) (x : ObjName) (s t : ℕ) → IsOrdered start_cmp ends → has_byte ends.entries x s ≡ false →
    ((f : ℕ) → s ≤ f → end_at ends x f ≡ None) → (i : ℕ) → s ≤ i → i < t → has_byte ends.entries x i ≡ false
none_at_all ends x s t ordered absent none = none_until ends x s t ordered absent (λ f e from got. let gone = none f from in absurd (cc))

pub next_too_far : (ends : BTreeMap (ObjName × ℕ) ℕ) (x : ObjName) (s t : ℕ) (r : Span) → IsOrdered start_cmp ends → has_byte ends.entries x s ≡ false →
    IsNext ends x s r → t ≤ r.from → (i : ℕ) → s ≤ i → i < t → has_byte ends.entries x i ≡ false
next_too_far ends x s t r ordered absent next far = none_until ends x s t ordered absent (λ f e from got. omega (arith, next.first f e from got, far))

pub next_is_first : (ends : BTreeMap (ObjName × ℕ) ℕ) (x : ObjName) (s t : ℕ) (r : Span) → IsOrdered start_cmp ends → Separate ends →
    has_byte ends.entries x s ≡ false → IsNext ends x s r → r.from < t → IsFirstByte ends.entries x s t (Some r.from)
next_is_first ends x s t r ordered sep absent next lt = (
  next.late,
  lt,
  has_from_held ends x r.from (r.from, r.end, next.found, omega arith, sep.filled x r.from r.end next.found),
  none_until ends x s r.from ordered absent next.first,
)

-- ---- an object's ranges taken away
pub forgotten : (old new : BTreeMap (ObjName × ℕ) ℕ) (x : ObjName) (last : ℕ) → last + 1 ≡ 2 ^ 64 → IsOrdered start_cmp old → IsOrdered start_cmp new →
    Without old new x 0 last → Separate old → (y : ObjName) (i : ℕ) → has_byte new.entries y i ≡ (has_byte old.entries y i && not (same_object x y))
forgotten old new x last top was now out sep y i = by (same_object x y) refl
  where
    cleared : (o : Option ℕ) (f : ℕ) → end_at old x f ≡ o → end_at new x f ≡ None
    cleared None f e = out x f ∙ ap (λ (p : Option ℕ). cond (begins_in x 0 last x f) None p) e ∙ none_if (begins_in x 0 last x f) None refl
      where
        none_if : (b : Bool) (p : Option ℕ) → p ≡ None → cond b None p ≡ None
        none_if true p h = refl
        none_if false p h = h
    cleared (Some g) f e =
        out x f ∙ ap (λ b. cond b None (end_at old x f))
        (begins_own x 0 last f (omega arith) (let some = sep.filled x f g e in let small = sep.bound x f g e in omega arith))

    none_new : (i : ℕ) → has_byte new.entries x i ≡ false
    none_new i = not_there new.entries x i (λ h. let held = held_from_has new x i now h in let gone = cleared _ held.0 refl in let got = held.2 in absurd (cc))

    and_not : (b : Bool) → false ≡ (b && not true)
    and_not true = refl
    and_not false = refl

    same : (b : Bool) → b ≡ (b && not false)
    same true = refl
    same false = refl

    outside_one : (f : ℕ) → same_object x y ≡ false → end_at new y f ≡ end_at old y f
    outside_one f apart = out y f ∙ ap (λ b. cond (b && (nat_le 0 f && nat_le f last)) None (end_at old y f)) apart

    by : (b : Bool) → same_object x y ≡ b → has_byte new.entries y i ≡ (has_byte old.entries y i && not b)
    by true own =
        subst (λ (z : ObjName). has_byte new.entries z i ≡ false) (same_object_is x y own) (none_new i) ∙ and_not (has_byte old.entries y i)
    by false apart =
        both_ways _ _
        (λ h. let held = held_from_has new y i now h in has_from_held old y i (held.0, held.1, sym (outside_one held.0 apart) ∙ held.2, held.3, held.4))
        (λ h. let held = held_from_has old y i was h in has_from_held new y i (held.0, held.1, outside_one held.0 apart ∙ held.2, held.3, held.4))
        ∙ same (has_byte old.entries y i)

-- ---- loops over ranges
pub merge_turn : (rest more : List ((ObjName × ℕ) × ℕ)) (r : (ObjName × ℕ) × ℕ) (x : ObjName) (i : ℕ) (now new whole : Bool) → rest ≡ r ∷ more →
    new ≡ (now || range_has r x i) → (now || has_byte rest x i) ≡ whole → (new || has_byte more x i) ≡ whole
merge_turn rest more r x i now new whole e step before =
    ap (λ b. b || has_byte more x i) step ∙ assoc now (range_has r x i) (has_byte more x i) ∙ ap (λ (rs : List ((ObjName × ℕ) × ℕ)). now || has_byte rs x i)
    (sym e) ∙ before
  where
    assoc : (a b c : Bool) → ((a || b) || c) ≡ (a || (b || c))
    assoc true b c = refl
    assoc false b c = refl

pub merge_end : (rest : List ((ObjName × ℕ) × ℕ)) (x : ObjName) (i : ℕ) (now whole : Bool) → rest ≡ [] → (now || has_byte rest x i) ≡ whole → now ≡ whole
merge_end rest x i now whole e h = or_false now (has_byte rest x i) (ap (λ (rs : List ((ObjName × ℕ) × ℕ)). has_byte rs x i) e) ∙ h

-- what follows both from an Ok and from an Err
pub either_way : {A E : Type 0} (r : Result A E) (P Q : Type 0) {C : Type 0} → OnOk r P → OnErr r Q → (P → C) → (Q → C) → C
either_way (Ok a) P Q p q f g = f p
either_way (Err e) P Q p q f g = g q
