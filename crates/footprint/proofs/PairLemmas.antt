-- The least conflicting pair of two footprints.
use Rattle.std.proofs.Common.{◌≡◌, ◌⊎◌, inl, inr, ℕ, Bool, true, false, ◌&&◌, ◌||◌, not, IfSome, refl, sym, ap, ◌∙◌, subst, List, [], ◌∷◌, Some, None, Option}
use Rattle.std.specs.Ordering.{nat_cmp, is_eq}
use Rattle.std.specs.declared.cmp.Ordering.TheVariants.{Equal}
use Rattle.std.specs.BTreeMap.{IsOrdered}
use Rattle.std.proofs.lemmas.Cmp.{tied_itself, nat_cmp_total}
use Rattle.std.proofs.lemmas.Map.Lookups.{exact_unsigned, exact_pairs}
use Rattle.ub_base.specs.declared.names.Event.{Event}
use Rattle.ub_base.specs.declared.names.ObjName.{ObjName}
use Rattle.ub_base.specs.declared.names.Item.{Item}
use Rattle.ub_base.specs.declared.names.Item.TheVariants.{Read, Write, Born, Dies, Alive, Expose, Lookup, Narrow, Input, Output, Ending, Any}
use Rattle.ub_base.specs.Names.{same_object, same_event}
use Rattle.ub_base.specs.NameOrders.{object_cmp, event_cmp}
use Rattle.ub_base.specs.Frames.{Row}
use Rattle.ub_base.proofs.NameLemmas.{same_object_is, same_object_refl, same_event_is, same_event_refl, tie_event}
use Rattle.addr_map.specs.declared.map.Row.{Row as Place}
use Rattle.addr_map.specs.Rows.{covers, past}
use Rattle.footprint.specs.declared.foot.Foot.{Foot}
use Rattle.footprint.specs.declared.state.State.{State}
use Rattle.footprint.specs.States.{nothing, state_in, only_at, listed, said_by}
use Rattle.addr_map.specs.Conflict.{items_conflict, stands_at, is_object, is_access}
use Rattle.footprint.specs.Conflicts.{is_state, is_lookup, is_narrow, is_stream, MayConflict}
use Rattle.footprint.specs.Found.{ConflictIn, ConflictOf, AtObject, NarrowIn, SettledIn, RaceIn}
use Rattle.footprint.specs.Holds.{holds, narrow_cmp}
use Rattle.footprint.specs.Least.{IsLeast, lesser}
use Rattle.footprint.specs.Candidates.{when, least_of_three, beside, stream_pair}
use Rattle.footprint.proofs.RangeStarts.{or_split, and_left, and_right, object_exact}
use Rattle.footprint.proofs.SetLemmas.{listed_all, narrow_total}
use Rattle.footprint.proofs.LeastLemmas.{both, alike}
use Rattle.footprint.proofs.Loops.{AnyOf, any_in, any_out}
use Rattle.footprint.proofs.ConflictLemmas.{Single, single, three, and_both, or_one}

module _ (a b : Foot) (places : List Place) where
  -- ---- what was done to objects as wholes
  AtEntry : ObjName × State → Item → Item → Type 0
  AtEntry e = AtObject b places e.0 e.1

  said_or : (e : ObjName × State) (es : List (ObjName × State)) (i : Item) →
      said_by (listed (e ∷ es)) i ≡ (said_by (only_at e.0 e.1) i || said_by (listed es) i)
  said_or e es (Born x) = refl
  said_or e es (Dies x) = refl
  said_or e es (Alive x) = refl
  said_or e es (Expose x) = refl
  said_or e es _ = refl

  entries_is : (es : List (ObjName × State)) (i j : Item) → said_by (listed es) i ≡ true → holds b j ≡ true → items_conflict (stands_at places) i j ≡ true →
      AnyOf AtEntry es i j
  unfolding AtEntry
  entries_is [] i j h hj hc = absurd (nothing_said i h)
    where
      nothing_said : (k : Item) → said_by (λ (x : ObjName). nothing) k ≡ true → ⊥
      nothing_said (Born x) t = cc
      nothing_said (Dies x) t = cc
      nothing_said (Alive x) t = cc
      nothing_said (Expose x) t = cc
      nothing_said _ t = cc
  entries_is (e ∷ es) i j h hj hc =
      or_split (said_by (only_at e.0 e.1) i) (said_by (listed es) i) (sym (said_or e es i) ∙ h)
      (λ t. inl (t, hj, hc))
      (λ t. inr (entries_is es i j t hj hc))

  or_first : (p q : Bool) → p ≡ true → (p || q) ≡ true
  or_first p q h = ap (λ r. r || q) h

  or_second : (p q : Bool) → q ≡ true → (p || q) ≡ true
  or_second true q h = refl
  or_second false q h = h

  entries_from : (es : List (ObjName × State)) (i j : Item) → AnyOf AtEntry es i j → (said_by (listed es) i ≡ true) × (holds b j ≡ true) ×
      (items_conflict (stands_at places) i j ≡ true)
  unfolding AtEntry
  entries_from [] i j h = absurd h
  entries_from (e ∷ es) i j (inl h) = (said_or e es i ∙ or_first _ _ h.0, h.1, h.2)
  entries_from (e ∷ es) i j (inr h) = let r = entries_from es i j h in (said_or e es i ∙ or_second (said_by (only_at e.0 e.1) i) _ r.0, r.1, r.2)

  module _ (ordered : IsOrdered object_cmp a.states) where
    said_is : (i : Item) → is_state i ≡ true → holds a i ≡ said_by (listed a.states.entries) i
    said_is (Born x) t = ap (λ s. s.born) (sym (listed_all a.states x ordered))
    said_is (Dies x) t = ap (λ s. s.dies) (sym (listed_all a.states x ordered))
    said_is (Alive x) t = ap (λ s. s.alive) (sym (listed_all a.states x ordered))
    said_is (Expose x) t = ap (λ s. s.expose) (sym (listed_all a.states x ordered))
    said_is _ t = absurd (let c : false ≡ true = t in cc)

    said_state : (f : ObjName → State) (i : Item) → said_by f i ≡ true → is_state i ≡ true
    said_state f (Born x) h = refl
    said_state f (Dies x) h = refl
    said_state f (Alive x) h = refl
    said_state f (Expose x) h = refl
    said_state f _ h = absurd (let c : false ≡ true = h in cc)

    pub states_least : (rows : List Row) (o : Option (Item × Item)) →
        IsLeast rows (AnyOf (λ (e : ObjName × State). AtObject b places e.0 e.1) a.states.entries) o → IsLeast rows (ConflictOf is_state a b places) o
    unfolding AtEntry
    states_least rows o h =
        alike rows (AnyOf AtEntry a.states.entries) (ConflictOf is_state a b places) o
        (λ i j n. let r = entries_from a.states.entries i j n in let st = said_state (listed a.states.entries) i r.0 in (st, said_is i st ∙ r.0, r.1, r.2))
        (λ i j c. entries_is a.states.entries i j (sym (said_is i c.0) ∙ c.1) c.2 c.3)
        h

  -- ---- lookups
  abbrev pub OneLookup : ℕ → Item → Item → Type 0
  OneLookup k i j = (i ≡ Lookup k) × (holds b j ≡ true) × (items_conflict (stands_at places) (Lookup k) j ≡ true)

  Beside : ℕ → Option ObjName → Item → Item → Type 0
  Beside k None i j = ⊥
  Beside k (Some x) i j = Single (state_in b.states x).dies (Lookup k) (Dies x) i j ⊎ Single (state_in b.states x).expose (Lookup k) (Expose x) i j

  beside_least : (rows : List Row) (k : ℕ) (o : Option ObjName) → IsLeast rows (Beside k o) (beside rows k b o)
  unfolding Beside
  beside_least rows k None = λ i j h. h
  beside_least rows k (Some x) = both rows _ _ _ _ (single rows (state_in b.states x).dies (Lookup k) (Dies x))
      (single rows (state_in b.states x).expose (Lookup k) (Expose x))

  dies_at : (k : ℕ) (o : Option ObjName) (y : ObjName) (i : Item) → i ≡ Lookup k → (state_in b.states y).dies ≡ true → is_object o y ≡ true →
      Beside k o i (Dies y)
  unfolding Beside
  dies_at k None y i e h at = absurd (let c : false ≡ true = at in cc)
  dies_at k (Some x) y i e h at =
      let own : x ≡ y = same_object_is x y at in
      inl (subst (λ (z : ObjName). (state_in b.states z).dies ≡ true) (sym own) h, e, (λ t. Dies (sym own t)))

  expose_at : (k : ℕ) (o : Option ObjName) (y : ObjName) (i : Item) → i ≡ Lookup k → (state_in b.states y).expose ≡ true → is_object o y ≡ true →
      Beside k o i (Expose y)
  unfolding Beside
  expose_at k None y i e h at = absurd (let c : false ≡ true = at in cc)
  expose_at k (Some x) y i e h at =
      let own : x ≡ y = same_object_is x y at in
      inr (subst (λ (z : ObjName). (state_in b.states z).expose ≡ true) (sym own) h, e, (λ t. Expose (sym own t)))

  lookup_is : (k : ℕ) (i j : Item) → OneLookup k i j → Beside k (covers places k) i j ⊎ Beside k (past places k) i j
  lookup_is k i (Dies y) h =
      or_split (is_object (covers places k) y) (is_object (past places k) y) (or_one _ h.2)
      (λ t. inl (dies_at k (covers places k) y i h.0 h.1 t))
      (λ t. inr (dies_at k (past places k) y i h.0 h.1 t))
  lookup_is k i (Expose y) h =
      or_split (is_object (covers places k) y) (is_object (past places k) y) (or_one _ h.2)
      (λ t. inl (expose_at k (covers places k) y i h.0 h.1 t))
      (λ t. inr (expose_at k (past places k) y i h.0 h.1 t))
  lookup_is k i _ h = absurd (let c : false ≡ true = h.2 in cc)

  of_single : (k : ℕ) (c : Bool) (q : Item) (i j : Item) → Single c (Lookup k) q i j →
      (c ≡ true → holds b q ≡ true) → items_conflict (stands_at places) (Lookup k) q ≡ true → OneLookup k i j
  of_single k c q i j h hold conf = (
    h.1,
    subst (λ (r : Item). holds b r ≡ true) (sym h.2) (hold h.0),
    subst (λ (r : Item). items_conflict (stands_at places) (Lookup k) r ≡ true) (sym h.2) conf,
  )

  from_beside : (k : ℕ) (o : Option ObjName) (i j : Item) → ((x : ObjName) → o ≡ Some x → stands_at places x k ≡ true) → Beside k o i j → OneLookup k i j
  unfolding Beside
  from_beside k None i j at h = absurd h
  from_beside k (Some x) i j at (inl h) = of_single k _ (Dies x) i j h (λ e. e) (or_first _ _ (at x refl))
  from_beside k (Some x) i j at (inr h) = of_single k _ (Expose x) i j h (λ e. e) (or_first _ _ (at x refl))

  is_own : (o : Option ObjName) (x : ObjName) → o ≡ Some x → is_object o x ≡ true
  is_own o x e = subst (λ (p : Option ObjName). is_object p x ≡ true) (sym e) (same_object_refl x)

  lookup_from : (k : ℕ) (i j : Item) → Beside k (covers places k) i j ⊎ Beside k (past places k) i j → OneLookup k i j
  lookup_from k i j (inl h) = from_beside k (covers places k) i j (λ x e. or_first _ _ (is_own _ x e)) h
  lookup_from k i j (inr h) = from_beside k (past places k) i j (λ x e. or_second (is_object (covers places k) x) _ (is_own _ x e)) h

  pub one_lookup : (rows : List Row) (k : ℕ) (inside behind : Option ObjName) (p q o : Option (Item × Item)) → inside ≡ covers places k →
      behind ≡ past places k → p ≡ beside rows k b inside → q ≡ beside rows k b behind → o ≡ lesser rows p q → IsLeast rows (OneLookup k) o
  one_lookup rows k inside behind p q o ei eb ep eq eo =
      subst (λ (r : Option (Item × Item)). IsLeast rows (OneLookup k) r)
      (sym (eo ∙ (λ t. lesser rows ((ep ∙ (λ l. beside rows k b (ei l))) t) ((eq ∙ (λ l. beside rows k b (eb l))) t))))
      (alike rows _ (OneLookup k) _ (lookup_from k) (lookup_is k)
      (both rows (Beside k (covers places k)) (Beside k (past places k)) _ _ (beside_least rows k (covers places k)) (beside_least rows k (past places k))))

  lookups_is : (i j : Item) → ConflictOf is_lookup a b places i j → AnyOf OneLookup a.lookups.keys i j
  lookups_is (Lookup k) j h = any_in exact_unsigned OneLookup k a.lookups.keys (Lookup k) j h.1 (refl, h.2, h.3)
  lookups_is _ j h = absurd (let c : false ≡ true = h.0 in cc)

  lookups_from : (i j : Item) → AnyOf OneLookup a.lookups.keys i j → ConflictOf is_lookup a b places i j
  lookups_from i j h =
      let f = any_out nat_cmp (tied_itself nat_cmp_total) OneLookup a.lookups.keys i j h in
      subst (λ (k : Item). ConflictOf is_lookup a b places k j) (sym f.2.0) (refl, f.1, f.2.1, f.2.2)

  pub lookups_least : (rows : List Row) (o : Option (Item × Item)) → IsLeast rows (AnyOf OneLookup a.lookups.keys) o →
      IsLeast rows (ConflictOf is_lookup a b places) o
  lookups_least rows o h = alike rows (AnyOf OneLookup a.lookups.keys) (ConflictOf is_lookup a b places) o lookups_from lookups_is h

-- ---- settled ambiguities
pub event_exact : (d e : Event) → event_cmp d e ≡ Equal → d ≡ e
event_exact d e h = same_event_is d e (sym (tie_event d e) ∙ ap is_eq h)

pub narrow_exact : (x y : Event × ObjName) → narrow_cmp x y ≡ Equal → x ≡ y
narrow_exact = exact_pairs event_cmp object_cmp event_exact object_exact

module _ (b : Foot) (d : Event) (x : ObjName) where
  abbrev pub OtherKeep : Event × ObjName → Item → Item → Type 0
  OtherKeep m i j = (i ≡ Narrow d x) × (j ≡ Narrow m.0 m.1) × ((same_event d m.0 && not (same_object x m.1)) ≡ true)

  pub other_least : (rows : List Row) (m : Event × ObjName) (c : Bool) (o : Option (Item × Item)) → c ≡ (same_event d m.0 && not (same_object x m.1)) →
      o ≡ when c (Narrow d x) (Narrow m.0 m.1) → IsLeast rows (OtherKeep m) o
  other_least rows m c o ec eo =
      subst (λ (r : Option (Item × Item)). IsLeast rows (OtherKeep m) r) (sym (eo ∙ (λ t. when (ec t) (Narrow d x) (Narrow m.0 m.1))))
      (alike rows (Single (same_event d m.0 && not (same_object x m.1)) (Narrow d x) (Narrow m.0 m.1)) (OtherKeep m) _ (λ i j h. (h.1, h.2, h.0))
      (λ i j h. (h.2, h.0, h.1)) (single rows _ (Narrow d x) (Narrow m.0 m.1)))

  turned_settles : (e : Event) (y : ObjName) → (same_event e d && not (same_object y x)) ≡ true → (same_event d e && not (same_object x y)) ≡ true
  turned_settles e y h =
      let same : e ≡ d = same_event_is e d (and_left _ _ h) in
      let apart : not (same_object y x) ≡ true = and_right (same_event e d) _ h in
      and_both _ _ (subst (λ (f : Event). same_event d f ≡ true) (sym same) (same_event_refl d)) (not_turned (same_object x y) refl apart)
    where
      not_turned : (c : Bool) → same_object x y ≡ c → not (same_object y x) ≡ true → not c ≡ true
      not_turned false k apart = refl
      not_turned true k apart =
          let own : x ≡ y = same_object_is x y k in
          let self : same_object y x ≡ true = subst (λ (z : ObjName). same_object y z ≡ true) (sym own) (same_object_refl y) in
          absurd (let c : not true ≡ true = ap not (sym self) ∙ apart in cc)

  settled_by : (i j : Item) → i ≡ Narrow d x → holds b j ≡ true → items_conflict (λ z n. true) (Narrow d x) j ≡ true → AnyOf OtherKeep b.narrows.keys i j
  settled_by i (Narrow e y) q hj c =
      any_in narrow_exact OtherKeep (e, y) b.narrows.keys i (Narrow e y) hj
      (q, refl, or_split (same_event d e && not (same_object x y)) (same_event e d && not (same_object y x)) c (λ t. t) (λ t. turned_settles e y t))
  settled_by i _ q hj c = absurd (let t : false ≡ true = c in cc)

  settled_is : (i j : Item) → SettledIn b d x i j → AnyOf OtherKeep b.narrows.keys i j
  settled_is i j h = settled_by i j h.0 h.1 (subst (λ (k : Item). items_conflict (λ z n. true) k j ≡ true) h.0 h.2)

  settled_from : (i j : Item) → AnyOf OtherKeep b.narrows.keys i j → SettledIn b d x i j
  settled_from i j h =
      let f = any_out narrow_cmp (tied_itself narrow_total) OtherKeep b.narrows.keys i j h in (
        f.2.0,
        subst (λ (k : Item). holds b k ≡ true) (sym f.2.1) f.1,
        subst (λ (r : Item × Item). items_conflict (λ z n. true) r.0 r.1 ≡ true) (λ t. (sym f.2.0 t, sym f.2.1 t)) (or_true_first _ _ f.2.2),
      )
    where
      or_true_first : (p q : Bool) → p ≡ true → (p || q) ≡ true
      or_true_first p q t = ap (λ r. r || q) t

  pub settled_least : (rows : List Row) (o : Option (Item × Item)) → IsLeast rows (AnyOf OtherKeep b.narrows.keys) o → IsLeast rows (SettledIn b d x) o
  settled_least rows o h = alike rows (AnyOf OtherKeep b.narrows.keys) (SettledIn b d x) o settled_from settled_is h

module _ (a b : Foot) where
  OneNarrow : Event × ObjName → Item → Item → Type 0
  OneNarrow m = SettledIn b m.0 m.1

  narrows_is : (i j : Item) → NarrowIn a b i j → AnyOf OneNarrow a.narrows.keys i j
  unfolding OneNarrow
  narrows_is (Narrow d x) j h = any_in narrow_exact OneNarrow (d, x) a.narrows.keys (Narrow d x) j h.1 (refl, h.2, h.3)
  narrows_is _ j h = absurd (let t : false ≡ true = h.0 in cc)

  narrows_from : (i j : Item) → AnyOf OneNarrow a.narrows.keys i j → NarrowIn a b i j
  unfolding OneNarrow
  narrows_from i j h =
      let f = any_out narrow_cmp (tied_itself narrow_total) OneNarrow a.narrows.keys i j h in
      subst (λ (k : Item). NarrowIn a b k j) (sym f.2.0) (refl, f.1, f.2.1, subst (λ (k : Item). items_conflict (λ z n. true) k j ≡ true) f.2.0 f.2.2)

  pub narrows_least : (rows : List Row) (o : Option (Item × Item)) → IsLeast rows (AnyOf (λ (m : Event × ObjName). SettledIn b m.0 m.1) a.narrows.keys) o →
      IsLeast rows (NarrowIn a b) o
  unfolding OneNarrow
  narrows_least rows o h = alike rows (AnyOf OneNarrow a.narrows.keys) (NarrowIn a b) o narrows_from narrows_is h

-- ---- all together
module _ (a b : Foot) (places : List Place) where
  Streams : Item → Item → Type 0
  Streams i j = ((Single (a.input && b.input) Input Input i j ⊎ Single (a.output && b.output) Output Output i j) ⊎
      Single (a.ending && b.any) Ending Any i j) ⊎ Single (a.any && b.ending) Any Ending i j

  streams_is : (i j : Item) → ConflictOf is_stream a b places i j → Streams i j
  unfolding Streams
  streams_is Input Input h = inl (inl (inl (and_both a.input b.input h.1 h.2, refl, refl)))
  streams_is Output Output h = inl (inl (inr (and_both a.output b.output h.1 h.2, refl, refl)))
  streams_is Ending Any h = inl (inr (and_both a.ending b.any h.1 h.2, refl, refl))
  streams_is Any Ending h = inr (and_both a.any b.ending h.1 h.2, refl, refl)
  streams_is Input _ h = absurd (let t : false ≡ true = h.3 in cc)
  streams_is Output _ h = absurd (let t : false ≡ true = h.3 in cc)
  streams_is Ending _ h = absurd (let t : false ≡ true = h.3 in cc)
  streams_is Any _ h = absurd (let t : false ≡ true = h.3 in cc)
  streams_is _ j h = absurd (let t : false ≡ true = h.0 in cc)

  of_stream : (c d : Bool) (p q i j : Item) → is_stream p ≡ true → items_conflict (stands_at places) p q ≡ true → (c ≡ true → holds a p ≡ true) →
      (d ≡ true → holds b q ≡ true) → Single (c && d) p q i j → ConflictOf is_stream a b places i j
  of_stream c d p q i j st conf hp hq h =
      subst (λ (r : Item × Item). ConflictOf is_stream a b places r.0 r.1) (λ t. (sym h.1 t, sym h.2 t))
      (st, hp (and_left c d h.0), hq (and_right c d h.0), conf)

  streams_from : (i j : Item) → Streams i j → ConflictOf is_stream a b places i j
  unfolding Streams
  streams_from i j (inl (inl (inl h))) = of_stream a.input b.input Input Input i j refl refl (λ e. e) (λ e. e) h
  streams_from i j (inl (inl (inr h))) = of_stream a.output b.output Output Output i j refl refl (λ e. e) (λ e. e) h
  streams_from i j (inl (inr h)) = of_stream a.ending b.any Ending Any i j refl refl (λ e. e) (λ e. e) h
  streams_from i j (inr h) = of_stream a.any b.ending Any Ending i j refl refl (λ e. e) (λ e. e) h

  streams_least : (rows : List Row) → IsLeast rows (ConflictOf is_stream a b places) (stream_pair rows a b)
  unfolding Streams
  streams_least rows =
      alike rows Streams (ConflictOf is_stream a b places) _ streams_from streams_is
      (both rows _ _ _ _
      (three rows _ _ _ _ _ _ (single rows (a.input && b.input) Input Input) (single rows (a.output && b.output) Output Output)
      (single rows (a.ending && b.any) Ending Any))
      (single rows (a.any && b.ending) Any Ending))

  pub access_from : (i j : Item) → RaceIn a b i j → ConflictIn a b places i j
  access_from (Read x f n) (Read y g m) h = (h.0, h.1, h.4)
  access_from (Read x f n) (Write y g m) h = (h.0, h.1, h.4)
  access_from (Write x f n) (Read y g m) h = (h.0, h.1, h.4)
  access_from (Write x f n) (Write y g m) h = (h.0, h.1, h.4)
  access_from (Read x f n) _ h = absurd (let t : false ≡ true = h.3 in cc)
  access_from (Write x f n) _ h = absurd (let t : false ≡ true = h.3 in cc)
  access_from _ j h = absurd (let t : false ≡ true = h.2 in cc)

  pub access_is : (i j : Item) → is_access i ≡ true → ConflictIn a b places i j → RaceIn a b i j
  access_is (Read x f n) (Write y g m) e h = (h.0, h.1, refl, refl, h.2)
  access_is (Write x f n) (Read y g m) e h = (h.0, h.1, refl, refl, h.2)
  access_is (Write x f n) (Write y g m) e h = (h.0, h.1, refl, refl, h.2)
  access_is (Read x f n) _ e h = absurd (let t : false ≡ true = h.2 in cc)
  access_is (Write x f n) _ e h = absurd (let t : false ≡ true = h.2 in cc)
  access_is _ j e h = absurd (let t : false ≡ true = e in cc)

  narrow_from : (i j : Item) → NarrowIn a b i j → ConflictIn a b places i j
  narrow_from (Narrow d x) (Narrow e y) h = (h.1, h.2, h.3)
  narrow_from (Narrow d x) _ h = absurd (let t : false ≡ true = h.3 in cc)
  narrow_from _ j h = absurd (let t : false ≡ true = h.0 in cc)

  narrow_is : (i j : Item) → is_narrow i ≡ true → ConflictIn a b places i j → NarrowIn a b i j
  narrow_is (Narrow d x) (Narrow e y) q h = (refl, h.0, h.1, h.2)
  narrow_is (Narrow d x) _ q h = absurd (let t : false ≡ true = h.2 in cc)
  narrow_is _ j q h = absurd (let t : false ≡ true = q in cc)

  All : Item → Item → Type 0
  All i j = ((RaceIn a b i j ⊎ ConflictOf is_state a b places i j) ⊎ (ConflictOf is_lookup a b places i j ⊎ NarrowIn a b i j)) ⊎
      ConflictOf is_stream a b places i j

  all_is : (i j : Item) → ConflictIn a b places i j → All i j
  unfolding All
  all_is (Read x f n) j h = inl (inl (inl (access_is (Read x f n) j refl h)))
  all_is (Write x f n) j h = inl (inl (inl (access_is (Write x f n) j refl h)))
  all_is (Born x) j h = inl (inl (inr (refl, h.0, h.1, h.2)))
  all_is (Dies x) j h = inl (inl (inr (refl, h.0, h.1, h.2)))
  all_is (Alive x) j h = inl (inl (inr (refl, h.0, h.1, h.2)))
  all_is (Expose x) j h = inl (inl (inr (refl, h.0, h.1, h.2)))
  all_is (Lookup k) j h = inl (inr (inl (refl, h.0, h.1, h.2)))
  all_is (Narrow d x) j h = inl (inr (inr (narrow_is (Narrow d x) j refl h)))
  all_is Input j h = inr (refl, h.0, h.1, h.2)
  all_is Output j h = inr (refl, h.0, h.1, h.2)
  all_is Ending j h = inr (refl, h.0, h.1, h.2)
  all_is Any j h = inr (refl, h.0, h.1, h.2)

  all_from : (i j : Item) → All i j → ConflictIn a b places i j
  unfolding All
  all_from i j (inl (inl (inl h))) = access_from i j h
  all_from i j (inl (inl (inr h))) = (h.1, h.2, h.3)
  all_from i j (inl (inr (inl h))) = (h.1, h.2, h.3)
  all_from i j (inl (inr (inr h))) = narrow_from i j h
  all_from i j (inr h) = (h.1, h.2, h.3)

  pub all_least : (rows : List Row) (p s l n f u v o : Option (Item × Item)) → IsLeast rows (RaceIn a b) p → IsLeast rows (ConflictOf is_state a b places) s →
      IsLeast rows (ConflictOf is_lookup a b places) l → IsLeast rows (NarrowIn a b) n → f ≡ stream_pair rows a b
      → u ≡ lesser rows p s → v ≡ lesser rows l n → o ≡ least_of_three rows u v f → IsLeast rows (ConflictIn a b places) o
  unfolding All
  all_least rows p s l n f u v o hp hs hl hn ef eu ev eo =
      subst (λ (r : Option (Item × Item)). IsLeast rows (ConflictIn a b places) r)
      (sym (eo ∙ (λ t. least_of_three rows (eu t) (ev t) (ef t))))
      (alike rows All (ConflictIn a b places) _ all_from all_is
      (three rows _ _ _ _ _ _ (both rows _ _ p s hp hs) (both rows _ _ l n hl hn) (streams_least rows)))

  may_of : (i j : Item) → items_conflict (stands_at places) i j ≡ true → MayConflict i j
  may_of (Lookup k) (Expose y) h = refl
  may_of (Lookup k) (Dies y) h = refl
  may_of (Expose y) (Lookup k) h = refl
  may_of (Dies y) (Lookup k) h = refl
  may_of (Lookup k) _ h = absurd (let t : false ≡ true = h in cc)
  may_of _ (Lookup k) h = absurd (let t : false ≡ true = h in cc)
  may_of _ _ h = h

  pub least_may : (rows : List Row) (o : Option (Item × Item)) → IsLeast rows (ConflictIn a b places) o → IfSome o (λ p. MayConflict p.0 p.1)
  least_may rows None h = tt
  least_may rows (Some p) h = may_of p.0 p.1 h.0.2
