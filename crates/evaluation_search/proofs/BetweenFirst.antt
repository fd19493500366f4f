-- The first conflict between operands: of the first operand that clashes with one behind it the least event that does, and the least event behind that it
-- clashes with.
use Rattle.std.proofs.Common.{◌≡◌, ◌≢◌, ◌⊎◌, inl, inr, ⊎_elim, ℕ, zero, suc, ◌≤◌, ◌<◌, ◌+◌, ◌-◌, Bool, true, false, ◌&&◌, ◌||◌, List, length, refl, sym, ap}
use Rattle.std.proofs.Common.{◌∙◌, arith}
use Rattle.std.proofs.Common.{Option, Some, None, Result, Ok, Err, subst}
use Rattle.std.specs.Prelude.{slice_get, IfNone, IfOk, IfSome}
use Rattle.std.specs.declared.cmp.Ordering.{Ordering}
use Rattle.std.specs.declared.cmp.Ordering.TheVariants.{Less, Equal, Greater}
use Rattle.std.specs.Ordering.{nat_cmp, ordering_then, is_lt, MatchOrdering}
use Rattle.std.proofs.lemmas.Cmp.{ranked, tied_itself, nat_cmp_total}
use Rattle.std.proofs.lemmas.Option.{same_Some}
use Rattle.ub_base.proofs.Tests.{and_both}
use Rattle.ub_base.specs.declared.clause.Kind.{Kind}
use Rattle.ub_base.specs.declared.clause.Kind.TheVariants.{Val, Eff, Body}
use Rattle.ub_base.specs.declared.names.Event.{Event}
use Rattle.ub_base.specs.declared.names.Item.{Item}
use Rattle.ub_base.specs.Frames.{Row as FrameRow}
use Rattle.c_names.specs.Orders.{event_cmp, frame_cmp, kind_rank}
use Rattle.addr_map.specs.declared.map.Row.{Row}
use Rattle.footprint.specs.declared.foot.Foot.{Foot}
use Rattle.footprint.specs.Holds.{holds}
use Rattle.footprint.specs.Least.{IsLeast}
use Rattle.footprint.proofs.LeastLemmas.{alike as least_by}
use Rattle.evaluation_log.specs.declared.found.Found.{Found}
use Rattle.evaluation_log.specs.declared.log.Logged.{Logged}
use Rattle.evaluation_log.specs.declared.log.Segment.{Segment}
use Rattle.evaluation_log.specs.declared.sought.Sought.{Sought}
use Rattle.evaluation_log.specs.declared.sought.Sought.TheVariants.{Races, Any}
use Rattle.evaluation_log.specs.Touched.{event_has, is_sought, range_has, start_of}
use Rattle.evaluation_log.specs.Clashes.{Clash, SomeClash, NoClash, AreSorted, NoneBetween, operand_has, behind_has}
use Rattle.evaluation_log.specs.FoundItems.{counts_before}
use Rattle.evaluation_log.proofs.BetweenLemmas.{range_within, rises_to, some_turned, start_past, never}
use Rattle.evaluation_log.proofs.ClashLemmas.{first_has, second_has, for_others, none_like}
use Rattle.evaluation_log.proofs.KeptLemmas.{before_or_past}
use Rattle.evaluation_search.specs.declared.log.Place.{Place}
use Rattle.evaluation_search.specs.First.{IsFirst, IsFirstOf, named, sought_of, IsOf, IsOfPair, IsSoughtPair, HasJust, AreFrom, AreBetween, AreRising, AreOnce}
use Rattle.evaluation_search.specs.First.{comes_first, IsLeastEvent, IsNearer, Takes}
use Rattle.evaluation_search.proofs.FirstLemmas.{never_less, counts_same, counts_race, event_itself}

-- ---- what is sought
pub same_races : (a b : Bool) → sought_of a ≡ sought_of b → a ≡ b
same_races true true h = refl
same_races true false h = absurd (cc)
same_races false true h = absurd (cc)
same_races false false h = refl

pub sought_any : (o : Option Logged) (sought : Sought) → is_sought sought o ≡ true → is_sought Any o ≡ true
sought_any None sought h = h
sought_any (Some e) sought h = refl

-- ---- orders of names
then_equal : (o p : Ordering) → ordering_then o p ≡ Equal → (o ≡ Equal) × (p ≡ Equal)
then_equal Less p h = absurd (cc)
then_equal Equal p h = (refl, h)
then_equal Greater p h = absurd (cc)

equal_numbers : (m n : ℕ) → nat_cmp m n ≡ Equal → m ≡ n
equal_numbers m n h = subst (λ o. MatchOrdering o (m < n) (m ≡ n) (n < m)) h (ranked m n (nat_cmp m n) refl)

later_number : (m n : ℕ) → n < m → (o : Ordering) → nat_cmp m n ≡ o → o ≡ Greater
later_number m n less Less h = absurd (let r = subst (λ o. MatchOrdering o (m < n) (m ≡ n) (n < m)) h (ranked m n (nat_cmp m n) refl) in omega (arith, r, less))
later_number m n less Equal h = absurd (let r = equal_numbers m n h in omega (arith, r, less))
later_number m n less Greater h = refl

same_rank : (k l : Kind) → kind_rank k ≡ kind_rank l → k ≡ l
same_rank Val Val h = refl
same_rank Val Eff h = absurd (omega (arith, h))
same_rank Val Body h = absurd (omega (arith, h))
same_rank Eff Val h = absurd (omega (arith, h))
same_rank Eff Eff h = refl
same_rank Eff Body h = absurd (omega (arith, h))
same_rank Body Val h = absurd (omega (arith, h))
same_rank Body Eff h = absurd (omega (arith, h))
same_rank Body Body h = refl

abbrev pub event_in : Place → Logged → Event
event_in p e = record { frame = p.frame; turn = p.turn; node = e.node; kind = e.kind }

pub name_there : (p : Place) (o : Option Logged) (x : Event) → named p o ≡ Some x → (e : Logged) × (o ≡ Some e) × (event_in p e ≡ x)
name_there p None x h = absurd (cc)
name_there p (Some e) x h = (e, refl, same_Some _ x h)

module _ (frames : List FrameRow) (p : Place) (d e : Logged) where
  frame_equal : frame_cmp frames p.frame.0 p.frame.0 ≡ Equal
  frame_equal = (then_equal (frame_cmp frames p.frame.0 p.frame.0) _ (event_itself frames (event_in p d))).0

  pub name_equal : event_cmp frames (event_in p d) (event_in p e) ≡ Equal → (d.node ≡ e.node) × (d.kind ≡ e.kind)
  name_equal h =
      let a = then_equal _ _ h in
      let b = then_equal _ _ a.1 in
      let c = then_equal _ _ b.1 in
      (equal_numbers d.node e.node c.0, same_rank d.kind e.kind (equal_numbers _ _ c.1))

  pub name_later : e.node < d.node → event_cmp frames (event_in p d) (event_in p e) ≡ Greater
  name_later less =
      ap (λ o. ordering_then o (ordering_then (nat_cmp p.turn p.turn) (ordering_then (nat_cmp d.node e.node) (nat_cmp (kind_rank d.kind) (kind_rank e.kind)))))
      frame_equal
      ∙ (ap (λ o. ordering_then o (ordering_then (nat_cmp d.node e.node) (nat_cmp (kind_rank d.kind) (kind_rank e.kind)))) (tied_itself nat_cmp_total p.turn)
      ∙ ap (λ o. ordering_then o (nat_cmp (kind_rank d.kind) (kind_rank e.kind))) (later_number d.node e.node less (nat_cmp d.node e.node) refl))

-- by how the first events stand to one another
pub counts_cases : (frames : List FrameRow) (f g : Found) → f.race ≡ g.race → (o : Ordering) → event_cmp frames f.event g.event ≡ o → (o ≡ Less → ⊥) →
    (o ≡ Equal → counts_before frames f g ≡ false) → counts_before frames f g ≡ false
counts_cases frames f g e Less h never same = absurd (never refl)
counts_cases frames f g e Equal h never same = same refl
counts_cases frames f g e Greater h never same = counts_same frames f g e (λ l. absurd (cc)) (λ q l. absurd (cc))

-- ---- what has an item has it in a range
pub in_range : (events : List Logged) (items : List Item) (sought : Sought) (from b to : ℕ) (j : Item) → from ≤ b → b < to →
    is_sought sought (slice_get events b) ≡ true → event_has items (slice_get events b) j ≡ true → range_has events items sought from (to - from) j ≡ true
in_range events items sought from b to j le less sought_b h =
    range_within events items sought from b (suc b) to j le (omega arith) (omega (arith, less))
    (let one : suc b - b ≡ 1 = omega arith in
    let here : b + 0 ≡ b = omega arith in
    ap (λ n. range_has events items sought b n j) one
    ∙ (ap (λ n. is_sought sought (slice_get events n) && event_has items (slice_get events n) j) here ∙ and_both _ _ sought_b h))

pub some_sub : (rows : List Row) (sought : Sought) (f g k l : Item → Bool) → ((j : Item) → f j ≡ true → k j ≡ true) → ((j : Item) → g j ≡ true → l j ≡ true) →
    SomeClash sought rows f g → SomeClash sought rows k l
some_sub rows sought f g k l p q c = (
  c.0,
  c.1,
  for_others rows sought f k g l c.0 c.1 (p c.0 (first_has rows sought f g c.0 c.1 c.2)) (q c.1 (second_has rows sought f g c.0 c.1 c.2)) c.2,
)

-- the least pair of what has the same items
pub least_like : (frames : List FrameRow) (rows : List Row) (sought : Sought) (f k g l : Item → Bool) (o : Option (Item × Item)) → ((j : Item) → f j ≡ k j) →
    ((j : Item) → g j ≡ l j) → IsLeast frames (Clash sought rows f g) o → IsLeast frames (Clash sought rows k l) o
least_like frames rows sought f k g l o p q h = least_by frames (Clash sought rows f g) (Clash sought rows k l) o
    (λ i j c. for_others rows sought f k g l i j (sym (p i) ∙ first_has rows sought f g i j c) (sym (q j) ∙ second_has rows sought f g i j c) c)
    (λ i j c. for_others rows sought k f l g i j (p i ∙ first_has rows sought k l i j c) (q j ∙ second_has rows sought k l i j c) c) h

-- the segment of an event
pub locate : (ss : List Segment) (es : List Logged) (n at k : ℕ) → start_of ss es at ≤ k → k < start_of ss es (at + n) →
    (g : ℕ) × (at ≤ g) × (start_of ss es g ≤ k) × (k < start_of ss es (suc g))
locate ss es zero at k from to = absurd (let e = ap (start_of ss es) (none_more at) in omega (arith, e, from, to))
  where
    none_more : (a : ℕ) → a + 0 ≡ a
    none_more a = omega arith
locate ss es (suc n) at k from to =
    ⊎_elim
    (λ less. locate ss es n at k from less)
    (λ past. (at + n, omega arith, past, next past))
    (before_or_past k (start_of ss es (at + n)))
  where
    next : start_of ss es (at + n) ≤ k → k < start_of ss es (suc (at + n))
    next past = let e = ap (start_of ss es) (same at n) in omega (arith, e, to)
      where
        same : (a b : ℕ) → a + suc b ≡ suc (a + b)
        same a b = omega arith

module _ (frames : List FrameRow) (rows : List Row) (p : Place) (events : List Logged) (items : List Item) where
  abbrev has : ℕ → Item → Bool
  has k = event_has items (slice_get events k)

  abbrev name : ℕ → Option Event
  name k = named p (slice_get events k)

  -- the items of a conflict clash
  pub of_clash : (sought : Sought) (a b : ℕ) (f : Found) → sought ≡ sought_of f.race → IsOf frames rows p events items a b f →
      SomeClash sought rows (has a) (has b)
  of_clash sought a b f e of = subst (λ s. SomeClash s rows (has a) (has b)) (sym e) (f.items.0, f.items.1, of.least.0)

  pub of_first : (sought : Sought) (a b : ℕ) (f : Found) → sought ≡ sought_of f.race → IsOf frames rows p events items a b f →
      is_sought sought (slice_get events a) ≡ true
  of_first sought a b f e of = ap (λ s. is_sought s (slice_get events a)) e ∙ of.first_sought

  pub of_second : (sought : Sought) (a b : ℕ) (f : Found) → sought ≡ sought_of f.race → IsOf frames rows p events items a b f →
      is_sought sought (slice_get events b) ≡ true
  of_second sought a b f e of = ap (λ s. is_sought s (slice_get events b)) e ∙ of.second_sought

  -- one event isn't before another, where it doesn't come first
  pub not_first : (k m : ℕ) (x y : Event) → name k ≡ Some x → name m ≡ Some y → comes_first frames (name k) (name m) ≡ false → event_cmp frames x y ≡ Less → ⊥
  not_first k m x y is_x is_y h = never_less _ (sym (λ i. comes_first frames (is_x i) (is_y i)) ∙ h)

  -- ---- the conflict of two events
  pub of_two_none : (sought : Sought) (a b : ℕ) (foot_a foot_b : Foot) → HasJust events items a foot_a → HasJust events items b foot_b →
      IsLeast frames (Clash sought rows (holds foot_a) (holds foot_b)) None →
      IsFirstOf frames (λ f. (sought ≡ sought_of f.race) × IsOf frames rows p events items a b f) None
  of_two_none sought a b foot_a foot_b ha hb least = λ f q.
      let c = of_clash sought a b f q.0 q.1 in
      least c.0 c.1 (for_others rows sought (has a) (holds foot_a) (has b) (holds foot_b) c.0 c.1 (ha c.0 ∙ first_has rows sought (has a) (has b) c.0 c.1 c.2)
      (hb c.1 ∙ second_has rows sought (has a) (has b) c.0 c.1 c.2) c.2)

  not_there : (sought : Sought) (o : Option Logged) → is_sought sought o ≡ true → o ≡ None → ⊥
  not_there sought o h e = let z = sym (ap (is_sought sought) e) ∙ h in absurd (cc)

  pub of_two : (sought : Sought) (a b : ℕ) (foot_a foot_b : Foot) (q : Item × Item) (r : Option Found) →
      is_sought sought (slice_get events a) ≡ true → is_sought sought (slice_get events b) ≡ true →
      HasJust events items a foot_a → HasJust events items b foot_b → IsLeast frames (Clash sought rows (holds foot_a) (holds foot_b)) (Some q) →
      IfNone r ((slice_get events a ≡ None) ⊎ (slice_get events b ≡ None)) →
      IfSome r (λ f. (name a ≡ Some f.event) × (name b ≡ Some f.against) × (f.items ≡ q)) →
      IfSome r (λ f. is_sought sought (slice_get events a) ≡ true → is_sought sought (slice_get events b) ≡ true → sought ≡ sought_of f.race) →
      IsFirstOf frames (λ f. (sought ≡ sought_of f.race) × IsOf frames rows p events items a b f) r
  of_two sought a b foot_a foot_b q None sa sb ha hb least none names race =
      absurd (⊎_elim (not_there sought (slice_get events a) sa) (not_there sought (slice_get events b) sb) none)
  of_two sought a b foot_a foot_b q (Some f) sa sb ha hb least none names race =
      let own = least_like frames rows sought (holds foot_a) (has a) (holds foot_b) (has b) (Some q) ha hb least in
      let kind = race sa sb in
      let own_f : IsLeast frames (Clash (sought_of f.race) rows (has a) (has b)) (Some f.items) =
      subst (λ s. IsLeast frames (Clash s rows (has a) (has b)) (Some f.items)) kind
      (subst (λ (o : Item × Item). IsLeast frames (Clash sought rows (has a) (has b)) (Some o)) (sym names.2) own) in (
        (
          kind,
          record {
            event = names.0;
            against = names.1;
            first_sought = ap (λ s. is_sought s (slice_get events a)) (sym kind) ∙ sa;
            second_sought = ap (λ s. is_sought s (slice_get events b)) (sym kind) ∙ sb;
            least = own_f;
          },
        ),
        λ g h.
            let first = same_Some g.event f.event (sym h.1.event ∙ names.0) in
            let second = same_Some g.against f.against (sym h.1.against ∙ names.1) in
            counts_same frames g f (same_races g.race f.race (sym h.0 ∙ kind))
            (λ l. let e = ap (λ z. event_cmp frames z f.event) first ∙ event_itself frames f.event in absurd (cc))
            (λ e l. let k = ap (λ z. event_cmp frames z f.against) second ∙ event_itself frames f.against in absurd (cc)),
      )

  -- one that isn't sought, or isn't there, has none
  pub of_none : (sought : Sought) (a b : ℕ) → (is_sought sought (slice_get events a) ≡ false) ⊎ (is_sought sought (slice_get events b) ≡ false) →
      IsFirstOf frames (λ f. (sought ≡ sought_of f.race) × IsOf frames rows p events items a b f) None
  of_none sought a b unsought f q = ⊎_elim
      (λ h. let e = of_first sought a b f q.0 q.1 in absurd (cc))
      (λ h. let e = of_second sought a b f q.0 q.1 in absurd (cc)) unsought

  -- a race that is the first one is the first of all
  pub races_win : (P : Found → Type 0) (f : Found) → IsFirst frames (λ g. (Races ≡ sought_of g.race) × P g) f → IsFirst frames P f
  races_win P f h = (h.0.1, λ g q. by_race g q g.race refl)
    where
      is_race : (b : Bool) → Races ≡ sought_of b → b ≡ true
      is_race true e = refl
      is_race false e = absurd (cc)

      by_race : (g : Found) → P g → (b : Bool) → g.race ≡ b → counts_before frames g f ≡ false
      by_race g q true e = h.1 g (sym (ap sought_of e), q)
      by_race g q false e = counts_race frames g f e (is_race f.race h.0.0)

  -- and where there is none, the first one of the others is
  pub races_none : (P : Found → Type 0) (o : Option Found) → IsFirstOf frames (λ g. (Races ≡ sought_of g.race) × P g) None →
      IsFirstOf frames (λ g. (Any ≡ sought_of g.race) × P g) o → IsFirstOf frames P o
  races_none P o none first = by_kind o first
    where
      any_of : (g : Found) → P g → (b : Bool) → g.race ≡ b → Any ≡ sought_of g.race
      any_of g q true e = absurd (none g (sym (ap sought_of e), q))
      any_of g q false e = sym (ap sought_of e)

      by_kind : (o : Option Found) → IsFirstOf frames (λ g. (Any ≡ sought_of g.race) × P g) o → IsFirstOf frames P o
      by_kind None k = λ f q. k f (any_of f q f.race refl, q)
      by_kind (Some f) k = (k.0.1, λ g q. k.1 g (any_of g q g.race refl, q))

  -- ---- of one event against a range
  module _ (sought : Sought) (event from to : ℕ) (foot : Foot) (own : HasJust events items event foot) where
    abbrev pub Against : Found → Type 0
    Against = IsSoughtPair sought frames rows p events items (λ a b. (a ≡ event) × (from ≤ b) × (b < to))

    abbrev MeetsFoot : ℕ → Type 0
    MeetsFoot k = SomeClash sought rows (has k) (holds foot)

    abbrev pub LeastOther : Option ℕ → Type 0
    LeastOther = IsLeastEvent frames name (λ k. (from ≤ k) × (k < to) × (is_sought sought (slice_get events k) ≡ true) ×
        SomeClash sought rows (has k) (holds foot))

    other_meets : (f : Found) (q : Against f) → MeetsFoot q.1.1
    other_meets f q =
        let a = q.1.0 in
        let b = q.1.1 in
        some_sub rows sought (has b) (has a) (has b) (holds foot) (λ j h. h) (λ j h. own j ∙ (ap (λ k. has k j) (sym q.1.2.0) ∙ h))
        (some_turned rows sought (has a) (has b) (of_clash sought a b f q.0 q.1.3))

    pub against_none : LeastOther None → IsFirstOf frames Against None
    against_none least f q = least q.1.1 (q.1.2.1, q.1.2.2, of_second sought q.1.0 q.1.1 f q.0 q.1.3, other_meets f q)

    pub against_some : (m : ℕ) (other : Foot) (r : Option Found) → HasJust events items m other → LeastOther (Some m) →
        IsFirstOf frames (λ f. (sought ≡ sought_of f.race) × IsOf frames rows p events items event m f) r →
        IfNone r (NoClash sought rows (holds foot) (holds other)) → IsFirstOf frames Against r
    against_some m other None is least s none =
        let c = some_turned rows sought (has m) (holds foot) least.0.3 in
        absurd (never rows sought (holds foot) (has m) (holds foot) (holds other) (λ j. refl) (λ j. sym (is j)) c none)
    against_some m other (Some f) is least s none = (
      (s.0.0, (event, m, (refl, least.0.0, least.0.1), s.0.1)),
      λ g q.
          let of = q.1.3 in
          let here = same_Some g.event f.event (sym of.event ∙ (ap name q.1.2.0 ∙ s.0.1.event)) in
          let not_before = least.1 q.1.1 (q.1.2.1, q.1.2.2, of_second sought q.1.0 q.1.1 g q.0 of, other_meets g q) in
          counts_same frames g f (same_races g.race f.race (sym q.0 ∙ s.0.0))
          (λ l. let e = ap (λ z. event_cmp frames z f.event) here ∙ event_itself frames f.event in absurd (cc))
          (λ e l. not_first q.1.1 m g.against f.against of.against s.0.1.against not_before l),
    )

  -- ---- of one operand against what stands behind it
  module _ (segments : List Segment) (sought : Sought) (group begin end : ℕ) (begins : begin ≡ start_of segments events group)
      (ends_at : end ≡ start_of segments events (suc group)) (rest : Item → Bool)
      (is : (j : Item) → rest j ≡ range_has events items sought end (length events - end) j) where
    abbrev pub LeastOwn : Option ℕ → Type 0
    LeastOwn = IsLeastEvent frames name (λ k. (begin ≤ k) × (k < end) × (is_sought sought (slice_get events k) ≡ true) × SomeClash sought rows (has k) rest)

    -- an event of such a conflict meets what stands behind
    meets_rest : (a b : ℕ) (f : Found) → sought ≡ sought_of f.race → AreFrom segments events group a b → IsOf frames rows p events items a b f →
        (begin ≤ a) × (a < end) × (is_sought sought (slice_get events a) ≡ true) × SomeClash sought rows (has a) rest
    meets_rest a b f e from of = (
      (let l = from.from in omega (arith, begins, l)),
      (let l = from.to in omega (arith, ends_at, l)),
      of_first sought a b f e of,
      some_sub rows sought (has a) (has b) (has a) rest (λ j h. h)
          (λ j h. is j ∙ in_range events items sought end b (length events) j (let l = from.behind in omega (arith, ends_at, l)) from.within
          (of_second sought a b f e of) h)
          (of_clash sought a b f e of),
    )

    pub from_none : LeastOwn None → IsFirstOf frames (IsSoughtPair sought frames rows p events items (AreFrom segments events group)) None
    from_none least f q = least q.1.0 (meets_rest q.1.0 q.1.1 f q.0 q.1.2 q.1.3)

    pub from_some : AreOnce events (start_of segments events group) → (m : ℕ) (r : Option Found) → LeastOwn (Some m) →
        IsFirstOf frames (IsSoughtPair sought frames rows p events items (λ a b. (a ≡ m) × (end ≤ b) × (b < length events))) r →
        IfNone r (NoClash sought rows (has m) (range_has events items sought end (length events - end))) →
        IsFirstOf frames (IsSoughtPair sought frames rows p events items (AreFrom segments events group)) r
    from_some once m None least s none =
        absurd (never rows sought (has m) rest (has m) (range_has events items sought end (length events - end)) (λ j. refl) is least.0.3 none)
    from_some once m (Some f) least s none =
        let pair = s.0.1.2 in
        let of = s.0.1.3 in
        let behind = pair.1 in
        let at : name m ≡ Some f.event = ap name (sym pair.0) ∙ of.event in (
          (
            s.0.0,
            (
              s.0.1.0,
              s.0.1.1,
              record {
                from = (let l = least.0.0 in let e = pair.0 in omega (arith, l, e, begins));
                to = (let l = least.0.1 in let e = pair.0 in omega (arith, l, e, ends_at));
                behind = omega (arith, behind, ends_at);
                within = pair.2;
              },
              of,
            ),
          ),
          λ g q.
              let a = q.1.0 in
              let meets = meets_rest a q.1.1 g q.0 q.1.2 q.1.3 in
              let not_before = least.1 a meets in
              let low = q.1.2.behind in
              counts_cases frames g f (same_races g.race f.race (sym q.0 ∙ s.0.0)) (event_cmp frames g.event f.event) refl
              (not_first a m g.event f.event q.1.3.event at not_before)
              (λ e. s.1 g (
                q.0,
                (
                  a,
                  q.1.1,
                  (same_event a m g.event f.event q.1.3.event at meets.0 least.0.0 e, omega (arith, low, ends_at), q.1.2.within),
                  q.1.3,
                ),
              )),
        )
      where
        same_event : (k l : ℕ) (x y : Event) → name k ≡ Some x → name l ≡ Some y → begin ≤ k → begin ≤ l → event_cmp frames x y ≡ Equal → k ≡ l
        same_event k l x y is_x is_y low_k low_l e =
            let d = name_there p (slice_get events k) x is_x in
            let c = name_there p (slice_get events l) y is_y in
            let n = name_equal frames p d.0 c.0 ((λ i. event_cmp frames (d.2 i) (c.2 i)) ∙ e) in
            once k l d.0 c.0 (omega (arith, begins, low_k)) (omega (arith, begins, low_l)) d.1 c.1 n.0 n.1

  -- ---- of operands
  module _ (segments : List Segment) (sought : Sought) (at : ℕ) (sorted : AreSorted segments events at) (rising : AreRising segments events at) where
    abbrev pub Between : Found → Type 0
    Between = IsSoughtPair sought frames rows p events items (AreBetween segments events at)

    -- an event of a conflict has its items in its operand, and in what stands behind an earlier one
    in_operand : (g k : ℕ) (j : Item) → start_of segments events g ≤ k → k < start_of segments events (suc g) →
        is_sought sought (slice_get events k) ≡ true → has k j ≡ true → operand_has sought segments events items g j ≡ true
    in_operand g k j from to sought_k h = in_range events items sought (start_of segments events g) k (start_of segments events (suc g)) j from to sought_k h

    ends : (g h : ℕ) → at ≤ g → g ≤ h → start_of segments events g ≤ start_of segments events h
    ends g h low le = rises_to (start_of segments events) at g h (λ k more. (sorted k more).0) low le

    in_behind : (g h k : ℕ) (j : Item) → at ≤ g → g < h → start_of segments events h ≤ k → k < start_of segments events (suc h) →
        is_sought sought (slice_get events k) ≡ true → has k j ≡ true → behind_has sought segments events items g j ≡ true
    in_behind g h k j low less from to sought_k is =
        let a = ends (suc g) h (omega (arith, low)) less in
        let b = (sorted (suc h) (omega (arith, low, less))).1 in
        in_range events items sought (start_of segments events (suc g)) k (length events) j (omega (arith, a, from)) (omega (arith, b, to)) sought_k is

    pub between_clash : (f : Found) (q : Between f) → SomeClash sought rows (operand_has sought segments events items q.1.2.first)
        (behind_has sought segments events items q.1.2.first)
    between_clash f q =
        let w = q.1.2 in
        some_sub rows sought (has q.1.0) (has q.1.1) (operand_has sought segments events items w.first) (behind_has sought segments events items w.first)
        (λ j h. in_operand w.first q.1.0 j w.from w.to (of_first sought q.1.0 q.1.1 f q.0 q.1.3) h)
        (λ j h. in_behind w.first w.second q.1.1 j w.low w.rise w.behind w.within (of_second sought q.1.0 q.1.1 f q.0 q.1.3) h)
        (of_clash sought q.1.0 q.1.1 f q.0 q.1.3)

    between_none : NoneBetween sought rows segments events items at → (f : Found) → Between f → ⊥
    between_none none f q =
        let w = q.1.2 in
        let low = w.low in
        let rise = w.rise in
        let c = some_sub rows sought (has q.1.0) (has q.1.1) (operand_has sought segments events items w.first)
        (operand_has sought segments events items w.second)
        (λ j h. in_operand w.first q.1.0 j w.from w.to (of_first sought q.1.0 q.1.1 f q.0 q.1.3) h)
        (λ j h. in_operand w.second q.1.1 j w.behind w.within (of_second sought q.1.0 q.1.1 f q.0 q.1.3) h)
        (of_clash sought q.1.0 q.1.1 f q.0 q.1.3) in
        none w.first w.second low (omega (arith, low, rise)) (λ e. omega (arith, e, rise)) c.0 c.1 c.2

    from_between : (g a b : ℕ) → at ≤ g → AreFrom segments events g a b → AreBetween segments events at a b
    from_between g a b low w =
        let behind = w.behind in
        let within = w.within in
        let past = start_past segments events (suc g + length segments) (omega arith) in
        let l = locate segments events (length segments) (suc g) b behind (omega (arith, within, past)) in
        let over = l.1 in
        record { first = g; second = l.0; low = low; rise = omega (arith, over); from = w.from; to = w.to; behind = l.2; within = l.3 }

    pub between_clean : NoneBetween sought rows segments events items at → IsFirstOf frames Between None
    between_clean none f q = between_none none f q

    pub between_first : (g : ℕ) (r : Option Found) → at ≤ g → ((h : ℕ) → at ≤ h → h < g → NoClash sought rows (operand_has sought segments events items h)
        (behind_has sought segments events items h)) →
        SomeClash sought rows (operand_has sought segments events items g) (behind_has sought segments events items g) →
        IsFirstOf frames (IsSoughtPair sought frames rows p events items (AreFrom segments events g)) r →
        IfNone r (NoClash sought rows (operand_has sought segments events items g) (behind_has sought segments events items g)) → IsFirstOf frames Between r
    between_first g None low clean c s none = absurd (none c.0 c.1 c.2)
    between_first g (Some f) low clean some s none = (
      (s.0.0, (s.0.1.0, s.0.1.1, from_between g s.0.1.0 s.0.1.1 low s.0.1.2, s.0.1.3)),
      λ h q.
          let w = q.1.2 in
          ⊎_elim
          (λ less. absurd (let c = between_clash h q in clean w.first w.low less c.0 c.1 c.2))
          (λ le. ⊎_elim
          (λ more.
          let d = name_there p (slice_get events q.1.0) h.event q.1.3.event in
          let e = name_there p (slice_get events s.0.1.0) f.event s.0.1.3.event in
          let later = rising g w.first s.0.1.0 q.1.0 e.0 d.0 low more s.0.1.2.from s.0.1.2.to w.from w.to e.1 d.1 in
          let z = (λ i. event_cmp frames (sym d.2 i) (sym e.2 i)) ∙ name_later frames p d.0 e.0 later in
          counts_same frames h f (same_races h.race f.race (sym q.0 ∙ s.0.0)) (λ l. absurd (cc)) (λ l k. absurd (cc)))
          (λ ge. s.1 h (q.0, (q.1.0, q.1.1, same_group w.first q.1.0 q.1.1 w.second w.rise (omega (arith, le, ge)) low w.from w.to w.behind w.within, q.1.3)))
          (before_or_past g w.first))
          (before_or_past w.first g),
    )
      where
        same_group : (first a b second : ℕ) → first < second → first ≡ g → at ≤ g → start_of segments events first ≤ a →
            a < start_of segments events (suc first) → start_of segments events second ≤ b → b < start_of segments events (suc second) →
            AreFrom segments events g a b
        same_group first a b second rise e low from to behind within =
            let x = ap (start_of segments events) e in
            let y = ap (λ n. start_of segments events (suc n)) e in
            let z = ends (suc g) second (omega (arith, low)) (omega (arith, rise, e)) in
            let u = (sorted (suc second) (omega (arith, rise, e, low))).1 in
            record {
              from = omega (arith, x, from);
              to = omega (arith, y, to);
              behind = omega (arith, z, behind);
              within = omega (arith, u, within);
            }

-- ---- the first operand that clashes with what stands behind it
pub nearer_none : (rows : List Row) (sought : Sought) (foot rest : Item → Bool) (one : ℕ) (best r : Option ℕ) → IsNearer sought rows foot rest one best r →
    r ≡ None → (best ≡ None) × NoClash sought rows foot rest
nearer_none rows sought foot rest one best r h e = ⊎_elim
    (λ stays. (sym stays.0 ∙ e, stays.1)) (λ goes. absurd (let z : None ≡ Some one = sym e ∙ goes.0 in cc)) h

pub nearer_some : (rows : List Row) (sought : Sought) (foot rest : Item → Bool) (one : ℕ) (best r : Option ℕ) → IsNearer sought rows foot rest one best r →
    (r ≡ best) ⊎ ((r ≡ Some one) × SomeClash sought rows foot rest)
nearer_some rows sought foot rest one best r h = ⊎_elim (λ stays. inl stays.0) (λ goes. inr goes) h

module _ (rows : List Row) (segments : List Segment) (events : List Logged) (items : List Item) (sought : Sought) where
  abbrev Clean : ℕ → Type 0
  Clean h = NoClash sought rows (operand_has sought segments events items h) (behind_has sought segments events items h)

  abbrev FirstFrom : (at p : ℕ) → Option ℕ → Type 0
  FirstFrom at p best = IfSome best (λ g. (at ≤ g) × ((h : ℕ) → p ≤ h → h < g → Clean h))

  pub group_step : (at q p : ℕ) (foot rest : Item → Bool) (best r : Option ℕ) → p ≡ suc q → at ≤ q →
      ((j : Item) → foot j ≡ operand_has sought segments events items q j) →
      ((j : Item) → rest j ≡ range_has events items sought (start_of segments events p) (length events - start_of segments events p) j) →
      IsNearer sought rows foot rest q best r → FirstFrom at p best → FirstFrom at q r
  group_step at q p foot rest best r e low own is step old = ⊎_elim
      (λ stays. subst (FirstFrom at q) (sym stays.0) (kept best stays.1 old))
      (λ goes. subst (FirstFrom at q) (sym goes.0) (low, λ h le less. absurd (omega (arith, le, less))))
      step
    where
      here_or_above : (q g : ℕ) → q ≤ g → (g ≡ q) ⊎ (suc q ≤ g)
      here_or_above q g le = grind arith

      kept : (best : Option ℕ) → NoClash sought rows foot rest → FirstFrom at p best → FirstFrom at q best
      kept None clean old = tt
      kept (Some g) clean old = (
        old.0,
        λ h le less. ⊎_elim
            (λ here. subst Clean (sym here)
            (none_like rows sought foot (operand_has sought segments events items q) rest (behind_has sought segments events items q) own
            (λ j. is j ∙ ap (λ (x : ℕ). range_has events items sought (start_of segments events x) (length events - start_of segments events x) j) e) clean))
            (λ above. old.1 h (omega (arith, e, above)) less)
            (here_or_above q h le),
      )

  pub group_end : (at p : ℕ) (best : Option ℕ) → p ≤ at → FirstFrom at p best → FirstFrom at at best
  group_end at p None low old = tt
  group_end at p (Some g) low old = (old.0, λ h le less. old.1 h (omega (arith, low, le)) less)

-- ---- the best event so far
pub takes_nearer : (frames : List FrameRow) (rows : List Row) (p : Place) (events : List Logged) (items : List Item) (sought : Sought) (at : ℕ)
    (best r : Option ℕ) (own foot : Foot) → HasJust events items at own → is_sought sought (slice_get events at) ≡ true →
    ((m : ℕ) → best ≡ Some m → comes_first frames (named p (slice_get events at)) (named p (slice_get events m)) ≡ true) →
    IsNearer sought rows (holds own) (holds foot) at best r →
    Takes frames (λ k. named p (slice_get events k))
    ((is_sought sought (slice_get events at) ≡ true) × SomeClash sought rows (event_has items (slice_get events at)) (holds foot)) at best r
takes_nearer frames rows p events items sought at best r own foot is own_sought first step = ⊎_elim
    (λ stays. inl (
      stays.0,
      λ q. absurd (never rows sought (event_has items (slice_get events at)) (holds foot) (holds own) (holds foot)
          (λ j. sym (is j)) (λ j. refl) q.1 stays.1),
    ))
    (λ goes. inr (
      goes.0,
      (
        own_sought,
        some_sub rows sought (holds own) (holds foot) (event_has items (slice_get events at)) (holds foot)
            (λ j h. sym (is j) ∙ h) (λ j h. h) goes.1,
      ),
      first,
    ))
    step

pub takes_kept : (frames : List FrameRow) (p : Place) (events : List Logged) {Q : Type 0} (at : ℕ) (best : Option ℕ) (b : Bool) → (best ≡ None → b ≡ true) →
    ((m : ℕ) → best ≡ Some m → b ≡ comes_first frames (named p (slice_get events at)) (named p (slice_get events m))) → b ≡ false →
    Takes frames (λ k. named p (slice_get events k)) Q at best best
takes_kept frames p events at None b none some h = absurd (let z : true ≡ false = sym (none refl) ∙ h in cc)
takes_kept frames p events at (Some m) b none some h = inl (refl, λ q. (m, refl, sym (some m refl) ∙ h))

-- ---- of what is given as it is
pub ok_both : {E : Type 0} (P Q R : Option Found → Type 0) (r : Result (Option Found) E) → ((o : Option Found) → P o → Q o → R o) → IfOk r P → IfOk r Q →
    IfOk r R
ok_both P Q R (Ok o) f p q = f o p q
ok_both P Q R (Err e) f p q = tt

pub once_from : (segments : List Segment) (events : List Logged) (at g : ℕ) → AreSorted segments events at → at ≤ g →
    AreOnce events (start_of segments events at) → AreOnce events (start_of segments events g)
once_from segments events at g sorted low once k l d e low_k low_l =
    let r = rises_to (start_of segments events) at at g (λ k more. (sorted k more).0) (omega arith) low in
    once k l d e (omega (arith, r, low_k)) (omega (arith, r, low_l))

pub ok_weaker : {E : Type 0} (P Q : Option Found → Type 0) (r : Result (Option Found) E) → ((o : Option Found) → P o → Q o) → IfOk r P → IfOk r Q
ok_weaker P Q (Ok o) f p = f o p
ok_weaker P Q (Err e) f p = tt
