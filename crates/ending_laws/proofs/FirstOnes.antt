-- The first of some conflicts is that of the first pair that passes, if they are those of just the pairs that pass.
use Rattle.std.proofs.Common.{◌≡◌, Bool, true, false, if◌then◌else◌, Option, Some, None, List, refl, sym, ap, ap₂, subst, ◌∙◌, true≢false}
use Rattle.std.specs.declared.cmp.Ordering.{Ordering}
use Rattle.std.specs.declared.cmp.Ordering.TheVariants.{Less, Equal, Greater}
use Rattle.std.specs.Ordering.{is_lt, ordering_then}
use Rattle.std.proofs.lemmas.Cmp.{tied_itself}
use Rattle.ub_base.specs.Frames.{Row as FrameRow}
use Rattle.ub_base.specs.declared.names.Event.{Event}
use Rattle.c_names.specs.Orders.{event_cmp}
use Rattle.addr_map.specs.declared.map.Row.{Row}
use Rattle.c_typed.specs.declared.tree.Place.{Place}
use Rattle.c_model.specs.FirstFinding.{quarrels, races}
use Rattle.c_model.specs.Moments.{Open}
use Rattle.evaluation_log.specs.FoundItems.{counts_before, is_lesser}
use Rattle.evaluation_log.specs.declared.found.Found.{Found}
use Rattle.evaluation_search.specs.First.{IsFirstOf}
use Rattle.finding_laws.specs.FirstPairs.{IsDue, IsFirstPair, NoPair, precedes}
use Rattle.finding_laws.proofs.FirstPairs.{events_by_places}
use Rattle.footprint.proofs.LeastLemmas.{event_total}
use Rattle.run_evaluations.specs.First.{event_in}
use Rattle.run_evaluations.specs.Told.{Opened}
use Rattle.telling_laws.specs.FirstFound.{IsFoundIn, place_in}
use Rattle.telling_laws.proofs.New.{not_false}

-- ---- which of two counts
lesser_parts : (a b : Ordering) → is_lt (ordering_then a b) ≡ false → (is_lt a ≡ false) × (a ≡ Equal → is_lt b ≡ false)
lesser_parts Less b h = absurd (cc)
lesser_parts Equal b h = (refl, λ e. h)
lesser_parts Greater b h = (refl, λ e. absurd (cc))

by_race : (b c : Bool) (l : Bool) → b ≡ true → c ≡ true → (if b then (if c then l else true) else (if c then false else l)) ≡ l
by_race b c l h g = ap₂ (λ p q. if p then (if q then l else true) else (if q then false else l)) h g

by_other : (b c : Bool) (l : Bool) → b ≡ false → c ≡ false → (if b then (if c then l else true) else (if c then false else l)) ≡ l
by_other b c l h g = ap₂ (λ p q. if p then (if q then l else true) else (if q then false else l)) h g

race_counts : (b c : Bool) (l : Bool) → b ≡ true → c ≡ false → (if b then (if c then l else true) else (if c then false else l)) ≡ true
race_counts b c l h g = ap₂ (λ p q. if p then (if q then l else true) else (if q then false else l)) h g

-- ---- one conflict
-- it is of these two due events, the first one first
pub record IsOfPlaces (t : Opened) (o : Open) (f : Found) (x y : Place) : Type 0 where
  pub event : f.event ≡ event_in t x
  pub against : f.against ≡ event_in t y
  pub due_first : IsDue o x
  pub due_second : IsDue o y
  pub order : precedes x y ≡ true

-- which race, if it is a race, or else quarrel
pub record IsSound (rows : List Row) (t : Opened) (o : Open) (f : Found) : Type 0 where
  pub first : Place
  pub second : Place
  pub of : IsOfPlaces t o f first second
  pub raced : f.race ≡ true → races rows o first second ≡ true
  pub quarrelled : f.race ≡ false → quarrels rows o first second ≡ true

-- a conflict is told of these two
abbrev pub IsToldOf : Opened → (Found → Type 0) → Bool → Place → Place → Type 0
IsToldOf t Q race x y = (f : Found) × Q f × (f.race ≡ race) × (f.event ≡ event_in t x) × (f.against ≡ event_in t y)

-- they are of just the pairs that race or quarrel
pub record Describes (rows : List Row) (t : Opened) (o : Open) (Q : Found → Type 0) : Type 0 where
  pub sound : (f : Found) → Q f → IsSound rows t o f
  pub raced : (x y : Place) → IsDue o x → IsDue o y → precedes x y ≡ true → races rows o x y ≡ true → IsToldOf t Q true x y
  pub quarrelled : (x y : Place) → IsDue o x → IsDue o y → precedes x y ≡ true → quarrels rows o x y ≡ true → IsToldOf t Q false x y

module _ (frames : List FrameRow) (rows : List Row) (t : Opened) (o : Open) (Q : Found → Type 0) (d : Describes rows t o Q) where
  -- no lesser pair counts
  lesser : (f g : Found) (u v x y : Place) → f.event ≡ event_in t u → f.against ≡ event_in t v → g.event ≡ event_in t x → g.against ≡ event_in t y →
      is_lesser frames g f ≡ false → (precedes x u ≡ false) × (x ≡ u → precedes y v ≡ false)
  lesser f g u v x y fe fa ge ga h =
      let parts = lesser_parts (event_cmp frames g.event f.event) (event_cmp frames g.against f.against) h in
      let first = events_by_places frames g.event f.event
      (ap (λ (z : Event). z.frame) ge ∙ sym (ap (λ (z : Event). z.frame) fe))
      (ap (λ (z : Event). z.turn) ge ∙ sym (ap (λ (z : Event). z.turn) fe)) in
      let second = events_by_places frames g.against f.against
      (ap (λ (z : Event). z.frame) ga ∙ sym (ap (λ (z : Event). z.frame) fa))
      (ap (λ (z : Event). z.turn) ga ∙ sym (ap (λ (z : Event). z.turn) fa)) in (
        sym (ap₂ precedes (ap place_in ge) (ap place_in fe)) ∙ (sym first ∙ parts.0),
        λ is. sym (ap₂ precedes (ap place_in ga) (ap place_in fa)) ∙ (sym second ∙ parts.1
            (ap₂ (event_cmp frames) (ge ∙ ap (event_in t) is) fe ∙ tied_itself (event_total frames) (event_in t u))),
      )

  pub no_race : ((f : Found) → Q f → f.race ≡ true → ⊥) → NoPair o (races rows o)
  no_race none x y dx dy order = not_false (races rows o x y) (λ h. let r = d.raced x y dx dy order h in none r.0 r.1 r.2)

  module _ (f : Found) (q : Q f) (least : (g : Found) → Q g → counts_before frames g f ≡ false) where
    s : IsSound rows t o f
    s = d.sound f q

    abbrev u : Place
    u = s.first

    abbrev v : Place
    v = s.second

    named : (test : Place → Place → Bool) → IsFirstPair o test u v → IsFirstPair o test (place_in f.event) (place_in f.against)
    named test h =
        subst (λ z. IsFirstPair o test (place_in f.event) z) (sym (ap place_in s.of.against))
        (subst (λ z. IsFirstPair o test z v) (sym (ap place_in s.of.event)) h)

    first_race : f.race ≡ true → IsFirstPair o (races rows o) u v
    first_race r = record {
      first = s.of.due_first;
      second = s.of.due_second;
      order = s.of.order;
      passes = s.raced r;
      least = λ x y dx dy order h.
          let g = d.raced x y dx dy order h in
          lesser f g.0 u v x y s.of.event s.of.against g.3 g.4 (sym (by_race g.0.race f.race (is_lesser frames g.0 f) g.2 r) ∙ least g.0 g.1);
    }

    none_races : f.race ≡ false → NoPair o (races rows o)
    none_races r = no_race (λ g p is. true≢false (sym (race_counts g.race f.race (is_lesser frames g f) is r) ∙ least g p))

    first_quarrel : f.race ≡ false → IsFirstPair o (quarrels rows o) u v
    first_quarrel r = record {
      first = s.of.due_first;
      second = s.of.due_second;
      order = s.of.order;
      passes = s.quarrelled r;
      least = λ x y dx dy order h.
          let g = d.quarrelled x y dx dy order h in
          lesser f g.0 u v x y s.of.event s.of.against g.3 g.4 (sym (by_other g.0.race f.race (is_lesser frames g.0 f) g.2 r) ∙ least g.0 g.1);
    }

  pub no_quarrel : ((f : Found) → Q f → f.race ≡ false → ⊥) → NoPair o (quarrels rows o)
  no_quarrel none x y dx dy order = not_false (quarrels rows o x y) (λ h. let r = d.quarrelled x y dx dy order h in none r.0 r.1 r.2)

  pub first_is_first : (r : Option Found) → IsFirstOf frames Q r → IsFoundIn rows o r
  first_is_first None none = (
    no_race (λ f q is. none f q),
    no_quarrel (λ f q is. none f q),
  )
  first_is_first (Some f) (q, least) = (
    λ r. named f q least (races rows o) (first_race f q least r),
    λ r. (none_races f q least r, named f q least (quarrels rows o) (first_quarrel f q least r)),
  )
