-- The first conflict of what was told is the first pair of c_model.
use Rattle.std.proofs.Common.{◌≡◌, ⊎_elim, ℕ, zero, suc, Bool, true, false, not, ◌||◌, if◌then◌else◌, List, [], ◌∷◌}
use Rattle.std.proofs.Common.{Some, refl, sym, ap, ap₂, subst, ◌∙◌, true≢false, arith}
use Rattle.std.specs.Prelude.{slice_get, ◌↔◌}
use Rattle.std.specs.declared.cmp.Ordering.{Ordering}
use Rattle.std.specs.declared.cmp.Ordering.TheVariants.{Less, Equal, Greater}
use Rattle.std.specs.Ordering.{is_lt, ordering_then}
use Rattle.std.proofs.lemmas.Cmp.{tied_itself}
use Rattle.ub_base.specs.Frames.{Row as FrameRow}
use Rattle.ub_base.specs.declared.names.Event.{Event}
use Rattle.ub_base.specs.declared.names.Item.{Item}
use Rattle.c_names.specs.Orders.{event_cmp}
use Rattle.addr_map.specs.Conflict.{some_conflict}
use Rattle.addr_map.specs.declared.map.Row.{Row}
use Rattle.c_typed.specs.declared.tree.Place.{Place}
use Rattle.c_typed.specs.Tree.{Tree, size}
use Rattle.c_typed.specs.Order.{Taken, events, has, is_body, is_due, same_place}
use Rattle.c_typed.specs.Decide.{is_before}
use Rattle.c_model.specs.Findings.{accesses}
use Rattle.c_model.specs.FirstFinding.{are_apart, quarrels, races}
use Rattle.c_model.specs.Moments.{Open}
use Rattle.c_model.proofs.Listed.{same_place_eq}
use Rattle.elaborate.proofs.Listed.{and_l, and_r}
use Rattle.elaborate.proofs.Ranges.{and_b, events_in, or_b, or_cases}
use Rattle.std.proofs.lemmas.Option.{same_Some}
use Rattle.completion_laws.proofs.Lists.{has_at}
use Rattle.evaluation_log.specs.Clashes.{Clash, SomeClash}
use Rattle.evaluation_log.specs.FoundItems.{is_lesser}
use Rattle.evaluation_log.specs.declared.found.Found.{Found}
use Rattle.evaluation_log.specs.declared.sought.Sought.{Sought}
use Rattle.evaluation_log.specs.declared.sought.Sought.TheVariants.{Any, Races}
use Rattle.evaluation_search.specs.First.{IsFirst, sought_of}
use Rattle.finding_laws.specs.FirstPairs.{IsDue, precedes}
use Rattle.finding_laws.proofs.FirstPairs.{events_by_places}
use Rattle.finding_laws.specs.Forgotten.{HasItemsBut}
use Rattle.footprint.specs.Least.{IsLeast}
use Rattle.footprint.proofs.LeastLemmas.{event_total}
use Rattle.run_evaluations.specs.First.{IsConflictIn, event_in}
use Rattle.run_evaluations.specs.Shows.{AreApart, IsAmong}
use Rattle.run_evaluations.specs.Told.{Evaluation, Opened, has as has_item}
use Rattle.telling_laws.specs.FirstFound.{IsLookedAt, ByPlaces, place_in}
use Rattle.telling_laws.specs.OnlyNew.{IsFirstAmong, NoneAmong}
use Rattle.telling_laws.specs.Standing.{places}
use Rattle.telling_laws.proofs.Besides.{besides, has_least_besides, just, meets_besides, races_besides}
use Rattle.telling_laws.proofs.ClashLemmas.{races_by_items}
use Rattle.telling_laws.proofs.New.{pair_of, not_false, neither, not_any}
use Rattle.telling_laws.proofs.Shown.{shown_are_done}
use Rattle.telling_laws.proofs.Splits.{beginning}

-- ---- of some pairs
-- of due events that stand so the first comes first, and the pair shows
abbrev pub AreShown : Open → (Place → Place → Type 0) → Type 0
AreShown o Pairs = (x y : Place) → IsDue o x → IsDue o y → Pairs x y → (precedes x y ≡ true) × (o.shows x y ≡ true)

-- the conflict is of the first race among them; or it is of the first quarrel, and none of them race
pub record IsOfFirst (rows : List Row) (o : Open) (Pairs : Place → Place → Type 0) (f : Found) : Type 0 where
  pub race : f.race ≡ true → IsFirstAmong o Pairs (races rows o) (place_in f.event) (place_in f.against)
  pub other : f.race ≡ false → NoneAmong o Pairs (races rows o) × IsFirstAmong o Pairs (quarrels rows o) (place_in f.event) (place_in f.against)

-- ---- an event that is done was told
pub told_of : (es : List Evaluation) (x : Place) → has (places es) x ≡ true → (e : Evaluation) × (i : ℕ) × (slice_get es i ≡ Some e) × (x ≡ e.place)
told_of [] x h = absurd (true≢false (sym h))
told_of (e ∷ es) x h =
    ⊎_elim
    (λ same. (e, zero, refl, same_place_eq x e.place same))
    (λ rest. let r = told_of es x rest in (r.0, suc r.1, r.2, r.3))
    (or_cases (same_place x e.place) (has (places es) x) h)

-- ---- which of two comes first
lesser_parts : (a b : Ordering) → is_lt (ordering_then a b) ≡ false → (is_lt a ≡ false) × (a ≡ Equal → is_lt b ≡ false)
lesser_parts Less b h = absurd (cc)
lesser_parts Equal b h = (refl, λ e. h)
lesser_parts Greater b h = (refl, λ e. absurd (cc))

by_race : (b c : Bool) (l : Bool) → b ≡ true → c ≡ true → (if b then (if c then l else true) else (if c then false else l)) ≡ l
by_race b c l h g = ap₂ (λ p q. if p then (if q then l else true) else (if q then false else l)) h g

by_other : (b c : Bool) (l : Bool) → b ≡ false → c ≡ false → (if b then (if c then l else true) else (if c then false else l)) ≡ l
by_other b c l h g = ap₂ (λ p q. if p then (if q then l else true) else (if q then false else l)) h g

race_counts : (b c : Bool) (l : Bool) → b ≡ true → c ≡ false → (if b then (if c then l else true) else (if c then false else l)) ≡ true
race_counts b c l h g = ap₂ (λ p q. if p then (if q then l else true) else (if q then false else l)) h g

module _ (rows : List Row) (frames : List FrameRow) (t : Opened) (o : Open) (Pairs : Place → Place → Type 0) (look : IsLookedAt t o)
    (shown : AreShown o Pairs) where
  abbrev Conflict : Found → Type 0
  Conflict = IsConflictIn frames rows t (ByPlaces Pairs)

  -- ---- what was told of two of them clashes where their items do
  had : (e : Evaluation) → IsAmong t e → HasItemsBut (has_item e) (o.items e.place)
  had e a = besides (is_body e.place.kind) (has_item e) (o.items e.place) (look.items e a)

  meets : (d e : Evaluation) → IsAmong t d → IsAmong t e →
      SomeClash Any rows (has_item d) (has_item e) ↔ (some_conflict rows (o.items d.place) (o.items e.place) ≡ true)
  meets d e a b =
      meets_besides rows (has_item d) (has_item e) (o.items d.place) (o.items e.place) (had d a) (had e b) (look.asked d a) (look.asked e b)

  raced : (d e : Evaluation) → IsAmong t d → IsAmong t e → SomeClash Races rows (has_item d) (has_item e) →
      some_conflict rows (accesses (o.items d.place)) (accesses (o.items e.place)) ≡ true
  raced d e a b = races_besides rows (has_item d) (has_item e) (o.items d.place) (o.items e.place) (had d a) (had e b)

  -- of two that aren't bodies
  races_at : (d e : Evaluation) → IsAmong t d → IsAmong t e → not (is_body d.place.kind || is_body e.place.kind) ≡ true →
      some_conflict rows (accesses (o.items d.place)) (accesses (o.items e.place)) ≡ true → SomeClash Races rows (has_item d) (has_item e)
  races_at d e a b bodies h =
      let n = neither (is_body d.place.kind) (is_body e.place.kind) bodies in
      (races_by_items rows (has_item d) (has_item e) (o.items d.place) (o.items e.place)
      (just (is_body d.place.kind) (has_item d) (o.items d.place) n.0 (look.items d a))
      (just (is_body e.place.kind) (has_item e) (o.items e.place) n.1 (look.items e b))).1 h

  least_of : (sought : Sought) (d e : Evaluation) → IsAmong t d → IsAmong t e → SomeClash sought rows (has_item d) (has_item e) →
      (p : Item × Item) × IsLeast frames (Clash sought rows (has_item d) (has_item e)) (Some p)
  least_of sought d e a b = has_least_besides rows frames sought (has_item d) (has_item e) (o.items d.place) (o.items e.place) (had d a) (had e b)

  -- ---- of two events that stand so evaluations were told
  pub record Both (x y : Place) : Type 0 where
    pub one : Evaluation
    pub other : Evaluation
    pub one_done : IsAmong t one
    pub other_done : IsAmong t other
    pub one_is : x ≡ one.place
    pub other_is : y ≡ other.place

  both : (x y : Place) → IsDue o x → IsDue o y → Pairs x y → Both x y
  both x y dx dy p =
      let h = shown x y dx dy p in
      let l = beginning t.done (events t.scope.taken 0 t.scope.tree) look.begins in
      let d = shown_are_done t.scope (places t.done) l.0 x y look.formed l.1 (pair_of t.scope o x y look.tree look.taken dx dy h.0)
      (sym (ap (λ f. f x y) look.shows) ∙ h.1) in
      let a = told_of t.done x d.0 in
      let b = told_of t.done y d.1 in
      record { one = a.0; other = b.0; one_done = (a.1, a.2); other_done = (b.1, b.2); one_is = a.3; other_is = b.3 }

  -- ---- they stand apart
  apart_told : (x y : Place) → are_apart o x y ≡ true → AreApart t.scope x y
  apart_told x y h =
      let n = neither _ _ h in
      record {
        before = ap₂ (λ (c : Taken) (z : Tree). is_before c 0 z x y) (sym look.taken) (sym look.tree) ∙ n.0;
        behind = ap₂ (λ (c : Taken) (z : Tree). is_before c 0 z y x) (sym look.taken) (sym look.tree) ∙ n.1;
      }

  apart_looked : (x y : Place) → AreApart t.scope x y → are_apart o x y ≡ true
  apart_looked x y a =
      not_any _ _
      (ap₂ (λ (c : Taken) (z : Tree). is_before c 0 z x y) look.taken look.tree ∙ a.before)
      (ap₂ (λ (c : Taken) (z : Tree). is_before c 0 z y x) look.taken look.tree ∙ a.behind)

  -- ---- a race and a quarrel as conflicts
  abbrev found : Bool → Evaluation → Evaluation → Item × Item → Found
  found race d e p = record { race = race; event = event_in t d.place; against = event_in t e.place; items = p }

  moved : (test : Place → Place → Bool) (x y u v : Place) → x ≡ u → y ≡ v → test x y ≡ true → test u v ≡ true
  moved test x y u v a b h = ap₂ test (sym a) (sym b) ∙ h

  pairs_moved : (x y u v : Place) → x ≡ u → y ≡ v → Pairs x y → Pairs u v
  pairs_moved x y u v a b p = subst (λ z. Pairs u z) b (subst (λ z. Pairs z y) a p)

  race_of : (x y : Place) → IsDue o x → IsDue o y → Pairs x y → races rows o x y ≡ true →
      (b : Both x y) × (p : Item × Item) × Conflict (found true b.one b.other p)
  race_of x y dx dy p h =
      let b = both x y dx dy p in
      let g = moved (races rows o) x y b.one.place b.other.place b.one_is b.other_is h in
      let bodies = and_l (not (is_body b.one.place.kind || is_body b.other.place.kind)) _ g in
      let rest = and_r (not (is_body b.one.place.kind || is_body b.other.place.kind)) _ g in
      let meet = and_r (o.shows b.one.place b.other.place) _ (and_r (are_apart o b.one.place b.other.place) _ rest) in
      let least = least_of Races b.one b.other b.one_done b.other_done (races_at b.one b.other b.one_done b.other_done bodies meet) in (
        b,
        least.0,
        record {
          one = b.one;
          other = b.other;
          one_done = b.one_done;
          other_done = b.other_done;
          pair = pairs_moved x y b.one.place b.other.place b.one_is b.other_is p;
          apart = apart_told b.one.place b.other.place (and_l (are_apart o b.one.place b.other.place) _ rest);
          of = record {
            event = refl;
            against = refl;
            bodiless = λ r. no_body (is_body b.one.place.kind || is_body b.other.place.kind) bodies;
            least = least.1;
          };
        },
      )
    where
      no_body : (c : Bool) → not c ≡ true → c ≡ false
      no_body true q = absurd (true≢false (sym q))
      no_body false q = refl

  quarrel_of : (x y : Place) → IsDue o x → IsDue o y → Pairs x y → quarrels rows o x y ≡ true →
      (b : Both x y) × (p : Item × Item) × Conflict (found false b.one b.other p)
  quarrel_of x y dx dy p h =
      let b = both x y dx dy p in
      let g = moved (quarrels rows o) x y b.one.place b.other.place b.one_is b.other_is h in
      let meet = and_r (o.shows b.one.place b.other.place) _ (and_r (are_apart o b.one.place b.other.place) _ g) in
      let least = least_of Any b.one b.other b.one_done b.other_done ((meets b.one b.other b.one_done b.other_done).1 meet) in (
        b,
        least.0,
        record {
          one = b.one;
          other = b.other;
          one_done = b.one_done;
          other_done = b.other_done;
          pair = pairs_moved x y b.one.place b.other.place b.one_is b.other_is p;
          apart = apart_told b.one.place b.other.place (and_l (are_apart o b.one.place b.other.place) _ g);
          of = record { event = refl; against = refl; bodiless = λ r. absurd (cc); least = least.1 };
        },
      )

  -- ---- where none was told
  pub none_told : ((f : Found) → Conflict f → ⊥) → NoneAmong o Pairs (races rows o) × NoneAmong o Pairs (quarrels rows o)
  none_told none = (
    λ x y dx dy order p. not_false (races rows o x y) (λ h. let r = race_of x y dx dy p h in none (found true r.0.one r.0.other r.1) r.2),
    λ x y dx dy order p. not_false (quarrels rows o x y) (λ h. let r = quarrel_of x y dx dy p h in none (found false r.0.one r.0.other r.1) r.2),
  )

  -- ---- the first one
  due_of : (e : Evaluation) → IsAmong t e → IsDue o e.place
  due_of e among =
      let l = beginning t.done (events t.scope.taken 0 t.scope.tree) look.begins in
      let d : is_due t.scope.tree t.scope.taken e.place ≡ true = listed e.place (events t.scope.taken 0 t.scope.tree) among.0 (look.begins among.0 e among.1) in
      let r = events_in t.scope.taken t.scope.tree 0 e.place d in
      let h = r.1 in
      let z = ap size look.tree in
      record {
        due = ap₂ (λ (c : Taken) (q : Tree). is_due q c e.place) look.taken look.tree ∙ d;
        within = omega (arith, h, z);
      }
    where
      listed : (u : Place) (us : List Place) (i : ℕ) → slice_get us i ≡ Some u → has us u ≡ true
      listed u [] i h = absurd (cc)
      listed u (v ∷ us) zero h = subst (λ z. has (z ∷ us) u ≡ true) (sym (same_Some v u h)) (has_at [] us u)
      listed u (v ∷ us) (suc i) h = or_b (same_place u v) _ (listed u us i h)

  -- no lesser pair counts
  lesser : (f : Found) (d e : Evaluation) (x y : Place) (b : Both x y) (race : Bool) (p : Item × Item) → f.event ≡ event_in t d.place →
      f.against ≡ event_in t e.place → is_lesser frames (found race b.one b.other p) f ≡ false →
      (precedes x d.place ≡ false) × (x ≡ d.place → precedes y e.place ≡ false)
  lesser f d e x y b race p event against h =
      let g = found race b.one b.other p in
      let parts = lesser_parts (event_cmp frames g.event f.event) (event_cmp frames g.against f.against) h in
      let first = events_by_places frames g.event f.event (ap (λ (z : Event). z.frame) (sym event)) (ap (λ (z : Event). z.turn) (sym event)) in
      let second = events_by_places frames g.against f.against (ap (λ (z : Event). z.frame) (sym against)) (ap (λ (z : Event). z.turn) (sym against)) in (
        ap₂ precedes b.one_is (sym (ap place_in event)) ∙ (sym first ∙ parts.0),
        λ is. ap₂ precedes b.other_is (sym (ap place_in against)) ∙ (sym second ∙ parts.1
            (ap₂ (event_cmp frames) (ap (event_in t) (sym b.one_is ∙ is)) event ∙ tied_itself (event_total frames) (event_in t d.place))),
      )

  module _ (f : Found) (first : IsFirst frames Conflict f) where
    abbrev c : Conflict f
    c = first.0

    abbrev u : Place
    u = c.one.place

    abbrev v : Place
    v = c.other.place

    event_is : place_in f.event ≡ u
    event_is = ap place_in c.of.event

    against_is : place_in f.against ≡ v
    against_is = ap place_in c.of.against

    du : IsDue o u
    du = due_of c.one c.one_done

    dv : IsDue o v
    dv = due_of c.other c.other_done

    stands : (precedes u v ≡ true) × (o.shows u v ≡ true)
    stands = shown u v du dv c.pair

    named : (test : Place → Place → Bool) → IsFirstAmong o Pairs test u v → IsFirstAmong o Pairs test (place_in f.event) (place_in f.against)
    named test h = subst (λ z. IsFirstAmong o Pairs test (place_in f.event) z) (sym against_is) (subst (λ z. IsFirstAmong o Pairs test z v) (sym event_is) h)

    first_race : f.race ≡ true → IsFirstAmong o Pairs (races rows o) u v
    first_race r =
        let least = subst (λ b. IsLeast frames (Clash (sought_of b) rows (has_item c.one) (has_item c.other)) (Some f.items)) r c.of.least in
        let meet = raced c.one c.other c.one_done c.other_done (f.items.0, f.items.1, least.0) in
        record {
          first = du;
          second = dv;
          order = stands.0;
          pair = c.pair;
          passes = and_b _ _ (ap not (c.of.bodiless r)) (and_b _ _ (apart_looked u v c.apart) (and_b _ _ stands.1 meet));
          least = λ x y dx dy order p h.
              let g = race_of x y dx dy p h in
              lesser f c.one c.other x y g.0 true g.1 c.of.event c.of.against
              (sym (by_race true f.race (is_lesser frames (found true g.0.one g.0.other g.1) f) refl r) ∙ first.1 (found true g.0.one g.0.other g.1) g.2);
        }

    no_race : f.race ≡ false → NoneAmong o Pairs (races rows o)
    no_race r x y dx dy order p = not_false (races rows o x y) (λ h.
        let g = race_of x y dx dy p h in
        true≢false (sym (race_counts true f.race (is_lesser frames (found true g.0.one g.0.other g.1) f) refl r)
        ∙ first.1 (found true g.0.one g.0.other g.1) g.2))

    first_quarrel : f.race ≡ false → IsFirstAmong o Pairs (quarrels rows o) u v
    first_quarrel r =
        let least = subst (λ b. IsLeast frames (Clash (sought_of b) rows (has_item c.one) (has_item c.other)) (Some f.items)) r c.of.least in
        let meet = (meets c.one c.other c.one_done c.other_done).0 (f.items.0, f.items.1, least.0) in
        record {
          first = du;
          second = dv;
          order = stands.0;
          pair = c.pair;
          passes = and_b _ _ (apart_looked u v c.apart) (and_b _ _ stands.1 meet);
          least = λ x y dx dy order p h.
              let g = quarrel_of x y dx dy p h in
              lesser f c.one c.other x y g.0 false g.1 c.of.event c.of.against
              (sym (by_other false f.race (is_lesser frames (found false g.0.one g.0.other g.1) f) refl r) ∙ first.1 (found false g.0.one g.0.other g.1) g.2);
        }

    pub of_first : IsOfFirst rows o Pairs f
    of_first = record {
      race = λ r. named (races rows o) (first_race r);
      other = λ r. (no_race r, named (quarrels rows o) (first_quarrel r));
    }

pub first_is_told : (rows : List Row) (frames : List FrameRow) (t : Opened) (o : Open) (Pairs : Place → Place → Type 0) (f : Found) → IsLookedAt t o →
    AreShown o Pairs → IsFirst frames (IsConflictIn frames rows t (ByPlaces Pairs)) f → IsOfFirst rows o Pairs f
first_is_told rows frames t o Pairs f look shown first = of_first rows frames t o Pairs look shown f first

-- where no conflict was told of them, none of them race or quarrel
pub none_is_told : (rows : List Row) (frames : List FrameRow) (t : Opened) (o : Open) (Pairs : Place → Place → Type 0) → IsLookedAt t o →
    AreShown o Pairs → ((f : Found) → IsConflictIn frames rows t (ByPlaces Pairs) f → ⊥) →
    NoneAmong o Pairs (races rows o) × NoneAmong o Pairs (quarrels rows o)
none_is_told rows frames t o Pairs look shown none = none_told rows frames t o Pairs look shown none
