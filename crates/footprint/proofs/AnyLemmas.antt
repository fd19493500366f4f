-- Whether some items of two footprints conflict.
use Rattle.std.proofs.Common.{
  ◌≡◌,
  ◌⊎◌,
  inl,
  inr,
  ⊎_elim,
  ℕ,
  Bool,
  true,
  false,
  cond,
  ◌&&◌,
  ◌||◌,
  not,
  refl,
  sym,
  ap,
  ◌∙◌,
  subst,
  List,
  [],
  ◌∷◌,
  ◌++◌,
  Some,
  None,
  Option,
}
use Rattle.std.specs.Prelude.{◌↔◌, IsTrue}
use Rattle.std.specs.declared.cmp.Ordering.{Ordering}
use Rattle.std.specs.declared.cmp.Ordering.TheVariants.{Less, Equal, Greater}
use Rattle.std.specs.Ordering.{nat_cmp, is_eq, is_lt, is_gt, ordering_then, ordering_reverse}
use Rattle.std.specs.Cmp.{both_ways}
use Rattle.std.specs.List.{list_any, All, slice_get}
use Rattle.std.specs.Option.{IfSome}
use Rattle.std.specs.Map.{lookup}
use Rattle.std.specs.declared.ops.Bound.TheVariants.{Excluded, Unbounded}
use Rattle.std.specs.BTreeMap.{BTreeMap, get, is_at, IsOrdered}
use Rattle.std.specs.BTreeSet.{BTreeSet, contains, IsKeyRangeOf}
use Rattle.std.proofs.lemmas.Cmp.{tied_itself, nat_cmp_total}
use Rattle.std.proofs.lemmas.List.Elements.{All-head, All-tail}
use Rattle.std.proofs.lemmas.Map.Lookups.{exact_unsigned}
use Rattle.std.proofs.lemmas.Map.Views.{All-found}
use Rattle.ub_base.specs.declared.names.Event.{Event}
use Rattle.ub_base.specs.declared.names.ObjName.{ObjName}
use Rattle.ub_base.specs.declared.names.Item.{Item}
use Rattle.ub_base.specs.declared.names.Item.TheVariants.{Read, Write, Born, Dies, Alive, Expose, Lookup, Narrow, Input, Output, Ending, Any}
use Rattle.ub_base.specs.Names.{same_object, same_event}
use Rattle.ub_base.specs.NameOrders.{object_cmp, event_cmp}
use Rattle.ub_base.proofs.NameLemmas.{same_object_is, same_object_refl, same_event_is, same_event_refl}
use Rattle.addr_map.specs.declared.map.Row.{Row as Place}
use Rattle.addr_map.specs.Rows.{covers, past}
use Rattle.footprint.specs.declared.foot.Foot.{Foot}
use Rattle.footprint.specs.declared.state.State.{State}
use Rattle.footprint.specs.States.{or_nothing, state_in}
use Rattle.addr_map.specs.Conflict.{conflicts_one, stands_at, is_object}
use Rattle.footprint.specs.Found.{ConflictIn, SomeConflict, SomeRace}
use Rattle.footprint.specs.Holds.{narrow_cmp}
use Rattle.footprint.specs.Meets.{
  states_meet,
  states_conflict,
  SomeStates,
  is_hit,
  is_met,
  SomeLookup,
  settled_otherwise,
  SettledBelow,
  SettledAbove,
  SomeNarrow,
  streams_meet,
}
use Rattle.footprint.proofs.Pairs.{apart}
use Rattle.footprint.proofs.RangeStarts.{is_equal, or_split, and_left, and_right, object_exact, object_total}
use Rattle.footprint.proofs.SetLemmas.{event_total, narrow_total}
use Rattle.footprint.proofs.ConflictLemmas.{and_both, or_one}
use Rattle.footprint.proofs.PairLemmas.{access_from, access_is, event_exact, narrow_exact}

or_first : (p q : Bool) → p ≡ true → (p || q) ≡ true
or_first p q h = ap (λ r. r || q) h

or_second : (p q : Bool) → q ≡ true → (p || q) ≡ true
or_second true q h = refl
or_second false q h = h

or_turned : (p q : Bool) → (p || q) ≡ true → (q || p) ≡ true
or_turned p q h = or_split p q h (λ a. or_second q p a) (λ b. or_first q p b)

never : {C : Type 0} → false ≡ true → C
never h = absurd (cc)

-- ---- elements of a list that pass a test
any_entry : {E : Type 0} (P : E → Type 0) (test : E → Bool) (es : List E) → All P es → list_any test es ≡ true → (e : E) × P e × (test e ≡ true)
any_entry P test [] all h = never h
any_entry P test (e ∷ es) all h = or_split (test e) (list_any test es) h (λ t. (e, All-head P e es all, t)) (λ t. any_entry P test es (All-tail P e es all) t)

any_key : {K : Type 0} (R : K → K → Ordering) → ((x : K) → R x x ≡ Equal) → (test : K → Bool) (ks : List K) → list_any test ks ≡ true → (k : K) ×
    (list_any (is_at (R k)) ks ≡ true) × (test k ≡ true)
any_key R own test [] h = never h
any_key R own test (x ∷ xs) h =
    or_split (test x) (list_any test xs) h
    (λ t. (x, or_first (is_eq (R x x)) (list_any (is_at (R x)) xs) (ap is_eq (own x)), t))
    (λ t. let found = any_key R own test xs t in (found.0, or_second (is_eq (R found.0 x)) (list_any (is_at (R found.0)) xs) found.1, found.2))

key_any : {K : Type 0} (R : K → K → Ordering) → ((x y : K) → R x y ≡ Equal → x ≡ y) → (test : K → Bool) (k : K) (ks : List K) →
    list_any (is_at (R k)) ks ≡ true → test k ≡ true → list_any test ks ≡ true
key_any R exact test k [] h t = never h
key_any R exact test k (x ∷ xs) h t =
    or_split (is_eq (R k x)) (list_any (is_at (R k)) xs) h
    (λ e. or_first (test x) (list_any test xs) (ap test (sym (exact k x (is_equal _ e))) ∙ t))
    (λ m. or_second (test x) (list_any test xs) (key_any R exact test k xs m t))

-- ---- what was done to objects as wholes
no_parts : (p q : Bool) → ((p && false) || (q && false)) ≡ true → ⊥
no_parts true true h = never h
no_parts true false h = never h
no_parts false true h = never h
no_parts false false h = never h

meets_born_alive : (s t : State) → s.born ≡ true → t.alive ≡ true → states_meet s t ≡ true
meets_born_alive s t hs ht = or_first _ _ (and_both s.born _ hs (or_first t.alive t.expose ht))

meets_born_expose : (s t : State) → s.born ≡ true → t.expose ≡ true → states_meet s t ≡ true
meets_born_expose s t hs ht = or_first _ _ (and_both s.born _ hs (or_second t.alive t.expose ht))

meets_dies_alive : (s t : State) → s.dies ≡ true → t.alive ≡ true → states_meet s t ≡ true
meets_dies_alive s t hs ht = or_second (s.born && (t.alive || t.expose)) _ (and_both s.dies _ hs (or_first t.alive _ ht))

meets_dies_born : (s t : State) → s.dies ≡ true → t.born ≡ true → states_meet s t ≡ true
meets_dies_born s t hs ht = or_second (s.born && (t.alive || t.expose)) _ (and_both s.dies _ hs (or_second t.alive _ (or_first t.born t.dies ht)))

meets_dies_dies : (s t : State) → s.dies ≡ true → t.dies ≡ true → states_meet s t ≡ true
meets_dies_dies s t hs ht = or_second (s.born && (t.alive || t.expose)) _ (and_both s.dies _ hs (or_second t.alive _ (or_second t.born t.dies ht)))

module _ (m n : BTreeMap ObjName State) where
  at_entry : ObjName × State → Bool
  at_entry e = states_conflict e.1 (state_in n e.0)

  entry_step : (b : Bool) (e : ObjName × State) (es : List (ObjName × State)) (x : ObjName) (s : State) → is_at (object_cmp x) e.0 ≡ b →
      cond b (Some e.1) (lookup (is_at (object_cmp x)) es) ≡ Some s → at_entry (x, s) ≡ true
      → (lookup (is_at (object_cmp x)) es ≡ Some s → list_any at_entry es ≡ true) → (at_entry e || list_any at_entry es) ≡ true
  entry_step true e es x s at h t more =
      let key : x ≡ e.0 = object_exact x e.0 (is_equal _ at) in
      let value : s ≡ e.1 = cc in
      or_first (at_entry e) (list_any at_entry es) (subst (λ (d : ObjName × State). at_entry d ≡ true) (λ i. (key i, value i)) t)
  entry_step false e es x s at h t more = or_second (at_entry e) (list_any at_entry es) (more h)

  entry_any : (es : List (ObjName × State)) (x : ObjName) (s : State) → lookup (is_at (object_cmp x)) es ≡ Some s → at_entry (x, s) ≡ true →
      list_any at_entry es ≡ true
  entry_any [] x s h t = absurd (cc)
  entry_any (e ∷ es) x s h t = entry_step (is_at (object_cmp x) e.0) e es x s refl h t (λ g. entry_any es x s g t)

  at_some : (x : ObjName) (o : Option State) → get object_cmp m x ≡ o → states_conflict (or_nothing o) (state_in n x) ≡ true →
      list_any at_entry m.entries ≡ true
  unfolding at_entry
  at_some x None is h = absurd (no_parts (state_in n x).born (state_in n x).dies h)
  at_some x (Some s) is h = entry_any m.entries x s is h

  states_from : IsOrdered object_cmp m → list_any at_entry m.entries ≡ true → SomeStates m n
  unfolding at_entry
  states_from ordered h =
      let f = any_entry (λ (e : ObjName × State). get object_cmp m e.0 ≡ Some e.1) at_entry m.entries (All-found object_total m ordered) h in
      (f.0.0, subst (λ (s : State). states_conflict s (state_in n f.0.0) ≡ true) (sym (ap or_nothing f.1)) f.2)

  pub states_some : (r : Bool) → IsOrdered object_cmp m → r ≡ list_any (λ (e : ObjName × State). states_conflict e.1 (state_in n e.0)) m.entries →
      IsTrue r ↔ SomeStates m n
  unfolding at_entry
  states_some r ordered is = (λ h. states_from ordered (sym is ∙ h), λ s. is ∙ at_some s.0 (get object_cmp m s.0) refl s.1)

states_turned : (m n : BTreeMap ObjName State) → SomeStates m n → SomeStates n m
states_turned m n s = (s.0, or_turned (states_meet (state_in m s.0) (state_in n s.0)) (states_meet (state_in n s.0) (state_in m s.0)) s.1)

pub states_other : (m n : BTreeMap ObjName State) (r : Bool) → IsOrdered object_cmp n →
    r ≡ list_any (λ (e : ObjName × State). states_conflict e.1 (state_in m e.0)) n.entries → IsTrue r ↔ SomeStates m n
states_other m n r ordered is =
    let h = states_some n m r ordered is in
    (λ t. states_turned n m (h.0 t), λ s. h.1 (states_turned m n s))

-- ---- settled ambiguities
event_itself : (d : Event) → event_cmp d d ≡ Equal
event_itself = tied_itself event_total

by_object : (d : Event) (x y : ObjName) → narrow_cmp (d, x) (d, y) ≡ object_cmp x y
by_object d x y = ap (λ o. ordering_then o (object_cmp x y)) (event_itself d)

by_event : (k m : Event × ObjName) (o : Ordering) → event_cmp k.0 m.0 ≡ o → narrow_cmp k m ≡ ordering_then o (object_cmp k.1 m.1)
by_event k m o h = ap (λ p. ordering_then p (object_cmp k.1 m.1)) h

-- of (d, y) up to k and k below (d, x) the event of k is d
between : (k : Event × ObjName) (d : Event) (x y : ObjName) (o : Ordering) → event_cmp k.0 d ≡ o → is_lt (narrow_cmp k (d, y)) ≡ false →
    narrow_cmp k (d, x) ≡ Less → k.0 ≡ d
between k d x y Less e low high = let t : is_lt (narrow_cmp k (d, y)) ≡ true = ap is_lt (by_event k (d, y) Less e) in absurd (cc)
between k d x y Equal e low high = event_exact k.0 d e
between k d x y Greater e low high = let t : narrow_cmp k (d, x) ≡ Greater = by_event k (d, x) Greater e in absurd (cc)

-- of k up to (d, y) and (d, x) below k the event of k is d
between_above : (k : Event × ObjName) (d : Event) (x y : ObjName) (o : Ordering) → event_cmp k.0 d ≡ o → is_gt (narrow_cmp k (d, y)) ≡ false →
    narrow_cmp (d, x) k ≡ Less → k.0 ≡ d
between_above k d x y Less e high low =
    let turned : event_cmp d k.0 ≡ Greater = event_total.antisymm d k.0 ∙ ap ordering_reverse e in
    let t : narrow_cmp (d, x) k ≡ Greater = by_event (d, x) k Greater turned in
    absurd (cc)
between_above k d x y Equal e high low = event_exact k.0 d e
between_above k d x y Greater e high low = let t : is_gt (narrow_cmp k (d, y)) ≡ true = ap is_gt (by_event k (d, y) Greater e) in absurd (cc)

module _ (s : BTreeSet (Event × ObjName)) (d : Event) (x : ObjName) where
  pub below_none : (r : List (Event × ObjName)) → IsKeyRangeOf narrow_cmp Unbounded (Excluded (d, x)) s r → r ≡ [] → SettledBelow s d x → ⊥
  below_none r h empty b =
      let none : contains narrow_cmp s (d, b.0) ≡ false = h.5 empty (d, b.0) (tt, by_object d b.0 x ∙ b.2) in
      let some : contains narrow_cmp s (d, b.0) ≡ true = b.1 in
      cc

  pub below_here : (r t : List (Event × ObjName)) (k : Event × ObjName) → IsKeyRangeOf narrow_cmp Unbounded (Excluded (d, x)) s r → r ≡ t ++ k ∷ [] →
      k.0 ≡ d → SettledBelow s d x
  below_here r t k h is own =
      let here = h.3 k t is in (
        k.1,
        subst (λ (e : Event). contains narrow_cmp s (e, k.1) ≡ true) own here.1,
        sym (by_object d k.1 x) ∙ subst (λ (e : Event). narrow_cmp (e, k.1) (d, x) ≡ Less) own here.0.1,
      )

  pub below_last : (r t : List (Event × ObjName)) (k : Event × ObjName) → IsKeyRangeOf narrow_cmp Unbounded (Excluded (d, x)) s r → r ≡ t ++ k ∷ [] →
      SettledBelow s d x → k.0 ≡ d
  below_last r t k h is b =
      between k d x b.0 (event_cmp k.0 d) refl (h.4 k t is (d, b.0) (tt, by_object d b.0 x ∙ b.2) b.1) (h.3 k t is).0.1

  pub above_none : (r : List (Event × ObjName)) → IsKeyRangeOf narrow_cmp (Excluded (d, x)) Unbounded s r → r ≡ [] → SettledAbove s d x → ⊥
  above_none r h empty b =
      let none : contains narrow_cmp s (d, b.0) ≡ false = h.5 empty (d, b.0) (by_object d x b.0 ∙ b.2, tt) in
      let some : contains narrow_cmp s (d, b.0) ≡ true = b.1 in
      cc

  first_in : (r t : List (Event × ObjName)) (k : Event × ObjName) → IsKeyRangeOf narrow_cmp (Excluded (d, x)) Unbounded s r → r ≡ k ∷ t →
      (narrow_cmp (d, x) k ≡ Less) × (contains narrow_cmp s k ≡ true)
  first_in r t k h is =
      let here = subst (λ (l : List (Event × ObjName)). IfSome (slice_get l 0)
      (λ (q : Event × ObjName). (narrow_cmp (d, x) q ≡ Less) × (contains narrow_cmp s q ≡ true))) is (first_of r h.1) in here
    where
      first_of : (l : List (Event × ObjName)) → IfSome (slice_get l 0)
          (λ (q : Event × ObjName). ((narrow_cmp (d, x) q ≡ Less) × Unit {0}) × (contains narrow_cmp s q ≡ true)) →
          IfSome (slice_get l 0) (λ (q : Event × ObjName). (narrow_cmp (d, x) q ≡ Less) × (contains narrow_cmp s q ≡ true))
      first_of [] g = tt
      first_of (q ∷ qs) g = (g.0.0, g.1)

  pub above_here : (r t : List (Event × ObjName)) (k : Event × ObjName) → IsKeyRangeOf narrow_cmp (Excluded (d, x)) Unbounded s r → r ≡ k ∷ t → k.0 ≡ d →
      SettledAbove s d x
  above_here r t k h is own =
      let here = first_in r t k h is in (
        k.1,
        subst (λ (e : Event). contains narrow_cmp s (e, k.1) ≡ true) own here.1,
        sym (by_object d x k.1) ∙ subst (λ (e : Event). narrow_cmp (d, x) (e, k.1) ≡ Less) own here.0,
      )

  pub above_first : (r t : List (Event × ObjName)) (k : Event × ObjName) → IsKeyRangeOf narrow_cmp (Excluded (d, x)) Unbounded s r → r ≡ k ∷ t →
      SettledAbove s d x → k.0 ≡ d
  above_first r t k h is b =
      let least : is_gt (narrow_cmp k (d, b.0)) ≡ false =
      subst (λ (l : List (Event × ObjName)). IfSome (slice_get l 0) (λ q. is_gt (narrow_cmp q (d, b.0)) ≡ false)) is
      (h.2 (d, b.0) (by_object d x b.0 ∙ b.2, tt) b.1) in
      between_above k d x b.0 (event_cmp k.0 d) refl least (first_in r t k h is).0

  otherwise_at : (y : ObjName) → contains narrow_cmp s (d, y) ≡ true → not (same_object x y) ≡ true → settled_otherwise s d x ≡ true
  otherwise_at y held apart = key_any narrow_cmp narrow_exact (λ m. same_event d m.0 && not (same_object x m.1)) (d, y) s.keys held
      (and_both (same_event d d) _ (same_event_refl d) apart)

  apart_below : (y : ObjName) → object_cmp y x ≡ Less → x ≡ y → ⊥
  apart_below y less e =
      let own : object_cmp y x ≡ Equal = subst (λ (z : ObjName). object_cmp z x ≡ Equal) e (tied_itself object_total x) in
      cc

  apart_above : (y : ObjName) → object_cmp x y ≡ Less → x ≡ y → ⊥
  apart_above y less e =
      let own : object_cmp x y ≡ Equal = subst (λ (z : ObjName). object_cmp x z ≡ Equal) e (tied_itself object_total x) in
      cc

  otherwise_from : SettledBelow s d x ⊎ SettledAbove s d x → settled_otherwise s d x ≡ true
  otherwise_from (inl b) = otherwise_at b.0 b.1 (apart x b.0 (apart_below b.0 b.2))
  otherwise_from (inr b) = otherwise_at b.0 b.1 (apart x b.0 (apart_above b.0 b.2))

  side_of : (y : ObjName) (o : Ordering) → object_cmp x y ≡ o → contains narrow_cmp s (d, y) ≡ true → not (same_object x y) ≡ true → SettledBelow s d x ⊎
      SettledAbove s d x
  side_of y Less e h apart = inr (y, h, e)
  side_of y Equal e h apart =
      let own : x ≡ y = object_exact x y e in
      let same : same_object x y ≡ true = subst (λ (z : ObjName). same_object x z ≡ true) own (same_object_refl x) in
      never (ap not (sym same) ∙ apart)
  side_of y Greater e h apart = inl (y, h, object_total.antisymm y x ∙ ap ordering_reverse e)

  otherwise_is : settled_otherwise s d x ≡ true → SettledBelow s d x ⊎ SettledAbove s d x
  otherwise_is h =
      let f = any_key narrow_cmp (tied_itself narrow_total) (λ m. same_event d m.0 && not (same_object x m.1)) s.keys h in
      let own : d ≡ f.0.0 = same_event_is d f.0.0 (and_left _ _ f.2) in
      let held : contains narrow_cmp s (d, f.0.1) ≡ true = subst (λ (e : Event). contains narrow_cmp s (e, f.0.1) ≡ true) (sym own) f.1 in
      side_of f.0.1 (object_cmp x f.0.1) refl held (and_right (same_event d f.0.0) _ f.2)

  pub otherwise : (b a r : Bool) → IsTrue b ↔ SettledBelow s d x → IsTrue a ↔ SettledAbove s d x → r ≡ (b || a) → r ≡ settled_otherwise s d x
  otherwise b a r hb ha is =
      is ∙ both_ways _ _
      (λ h. or_split b a h (λ t. otherwise_from (inl (hb.0 t))) (λ t. otherwise_from (inr (ha.0 t))))
      (λ h. ⊎_elim (λ l. or_first b a (hb.1 l)) (λ u. or_second b a (ha.1 u)) (otherwise_is h))

module _ (s t : BTreeSet (Event × ObjName)) where
  at_narrow : Event × ObjName → Bool
  at_narrow m = settled_otherwise t m.0 m.1

  narrow_from : list_any at_narrow s.keys ≡ true → SomeNarrow s t
  unfolding at_narrow
  narrow_from h =
      let f = any_key narrow_cmp (tied_itself narrow_total) at_narrow s.keys h in
      let g = any_key narrow_cmp (tied_itself narrow_total) (λ m. same_event f.0.0 m.0 && not (same_object f.0.1 m.1)) t.keys f.2 in
      let own : f.0.0 ≡ g.0.0 = same_event_is f.0.0 g.0.0 (and_left _ _ g.2) in
      (f.0.0, f.0.1, g.0.1, f.1, subst (λ (e : Event). contains narrow_cmp t (e, g.0.1) ≡ true) (sym own) g.1, and_right (same_event f.0.0 g.0.0) _ g.2)

  narrow_is : SomeNarrow s t → list_any at_narrow s.keys ≡ true
  unfolding at_narrow
  narrow_is n =
      key_any narrow_cmp narrow_exact at_narrow (n.0, n.1) s.keys n.3
      (key_any narrow_cmp narrow_exact (λ m. same_event n.0 m.0 && not (same_object n.1 m.1)) (n.0, n.2) t.keys n.4
      (and_both (same_event n.0 n.0) _ (same_event_refl n.0) n.5))

  pub narrows_some : (r : Bool) → r ≡ list_any (λ (m : Event × ObjName). settled_otherwise t m.0 m.1) s.keys → IsTrue r ↔ SomeNarrow s t
  unfolding at_narrow
  narrows_some r is = (λ h. narrow_from (sym is ∙ h), λ n. is ∙ narrow_is n)

not_turned : (x y : ObjName) (c : Bool) → same_object y x ≡ c → not (same_object x y) ≡ true → not c ≡ true
not_turned x y false k apart = refl
not_turned x y true k apart =
    let own : y ≡ x = same_object_is y x k in
    let same : same_object x y ≡ true = subst (λ (z : ObjName). same_object x z ≡ true) (sym own) (same_object_refl x) in
    never (ap not (sym same) ∙ apart)

narrows_turned : (s t : BTreeSet (Event × ObjName)) → SomeNarrow s t → SomeNarrow t s
narrows_turned s t n = (n.0, n.2, n.1, n.4, n.3, not_turned n.1 n.2 (same_object n.2 n.1) refl n.5)

pub narrows_other : (s t : BTreeSet (Event × ObjName)) (r : Bool) → r ≡ list_any (λ (m : Event × ObjName). settled_otherwise s m.0 m.1) t.keys →
    IsTrue r ↔ SomeNarrow s t
narrows_other s t r is =
    let h = narrows_some t s r is in
    (λ e. narrows_turned t s (h.0 e), λ n. h.1 (narrows_turned s t n))

-- ---- all together
lookups_some : (a b : Foot) (places : List Place) (r : Bool) → r ≡ list_any (is_met b places) a.lookups.keys → IsTrue r ↔ SomeLookup a b places
lookups_some a b places r is = (
  λ h. any_key nat_cmp (tied_itself nat_cmp_total) (is_met b places) a.lookups.keys (sym is ∙ h),
  λ k. is ∙ key_any nat_cmp exact_unsigned (is_met b places) k.0 a.lookups.keys k.1 k.2,
)

conflict_turned : (a b : Foot) (places : List Place) → SomeConflict b a places → SomeConflict a b places
conflict_turned a b places c = (
  c.1,
  c.0,
  (c.2.1, c.2.0, or_turned (conflicts_one (stands_at places) c.0 c.1) (conflicts_one (stands_at places) c.1 c.0) c.2.2),
)

module _ (a b : Foot) (places : List Place) where
  meet_pair : (x : ObjName) → states_meet (state_in a.states x) (state_in b.states x) ≡ true → SomeConflict a b places
  meet_pair x h =
      or_split _ _ h
      (λ e. or_split (state_in b.states x).alive (state_in b.states x).expose (and_right (state_in a.states x).born _ e)
      (λ t. (Born x, Alive x, (and_left _ _ e, t, or_first _ _ (same_object_refl x))))
      (λ t. (Born x, Expose x, (and_left _ _ e, t, or_first _ _ (same_object_refl x)))))
      (λ e. or_split (state_in b.states x).alive _ (and_right (state_in a.states x).dies _ e)
      (λ t. (Dies x, Alive x, (and_left _ _ e, t, or_first _ _ (same_object_refl x))))
      (λ u. or_split (state_in b.states x).born (state_in b.states x).dies u
      (λ t. (Dies x, Born x, (and_left _ _ e, t, or_first _ _ (same_object_refl x))))
      (λ t. (Dies x, Dies x, (and_left _ _ e, t, or_first _ _ (same_object_refl x))))))

  hit_pair : (k : ℕ) (o : Option ObjName) → ((x : ObjName) → is_object o x ≡ true → stands_at places x k ≡ true) → contains nat_cmp a.lookups k ≡ true →
      is_hit b o ≡ true → SomeConflict a b places
  hit_pair k None at held h = never h
  hit_pair k (Some x) at held h =
      or_split (state_in b.states x).dies (state_in b.states x).expose h
      (λ t. (Lookup k, Dies x, (held, t, or_first _ _ (at x (same_object_refl x)))))
      (λ t. (Lookup k, Expose x, (held, t, or_first _ _ (at x (same_object_refl x)))))

  lookup_pair : SomeLookup a b places → SomeConflict a b places
  lookup_pair l =
      or_split (is_hit b (covers places l.0)) (is_hit b (past places l.0)) l.2
      (λ h. hit_pair l.0 (covers places l.0) (λ x t. or_first _ _ t) l.1 h)
      (λ h. hit_pair l.0 (past places l.0) (λ x t. or_second (is_object (covers places l.0) x) _ t) l.1 h)

  narrow_pair : SomeNarrow a.narrows b.narrows → SomeConflict a b places
  narrow_pair n = (Narrow n.0 n.1, Narrow n.0 n.2, (n.3, n.4, or_first _ _ (and_both (same_event n.0 n.0) _ (same_event_refl n.0) n.5)))

  stream_pair : streams_meet a b ≡ true → SomeConflict a b places
  stream_pair h =
      or_split ((a.input && b.input) || (a.output && b.output)) _ h
      (λ e. or_split (a.input && b.input) _ e
      (λ t. (Input, Input, (and_left _ _ t, and_right a.input _ t, refl)))
      (λ t. (Output, Output, (and_left _ _ t, and_right a.output _ t, refl))))
      (λ e. or_split (a.ending && b.any) _ e
      (λ t. (Ending, Any, (and_left _ _ t, and_right a.ending _ t, refl)))
      (λ t. (Any, Ending, (and_left _ _ t, and_right a.any _ t, refl))))

  -- which kind of conflict it is
  Kinds : Type 0
  Kinds = (SomeRace a b ⊎ SomeStates a.states b.states) ⊎
      ((SomeLookup a b places ⊎ SomeLookup b a places) ⊎ (SomeNarrow a.narrows b.narrows ⊎ (streams_meet a b ≡ true)))

  at_both : (ps pt : State → Bool) (x z : ObjName) → x ≡ z → ps (state_in a.states x) ≡ true → pt (state_in b.states z) ≡ true →
      ((s t : State) → ps s ≡ true → pt t ≡ true → states_conflict s t ≡ true) → Kinds
  unfolding Kinds
  at_both ps pt x z e hs ht f = inl (inr (x, f _ _ hs (subst (λ (y : ObjName). pt (state_in b.states y) ≡ true) (sym e) ht)))

  left_of : (x z : ObjName) → (same_object x z || false) ≡ true → x ≡ z
  left_of x z h = same_object_is x z (or_one _ h)

  right_of : (x z : ObjName) → same_object z x ≡ true → x ≡ z
  right_of x z h = sym (same_object_is z x h)

  either_of : (x z : ObjName) → (same_object x z || same_object z x) ≡ true → x ≡ z
  either_of x z h = or_split (same_object x z) (same_object z x) h (same_object_is x z) (right_of x z)

  direct : (s t : State) → states_meet s t ≡ true → states_conflict s t ≡ true
  direct s t h = or_first _ _ h

  turned : (s t : State) → states_meet t s ≡ true → states_conflict s t ≡ true
  turned s t h = or_second (states_meet s t) _ h

  hit_own : (f : Foot) (o : Option ObjName) (y : ObjName) → is_object o y ≡ true → ((state_in f.states y).dies || (state_in f.states y).expose) ≡ true →
      is_hit f o ≡ true
  hit_own f None y at h = never at
  hit_own f (Some x) y at h = subst (λ (z : ObjName). ((state_in f.states z).dies || (state_in f.states z).expose) ≡ true) (sym (same_object_is x y at)) h

  met_at : (f : Foot) (k : ℕ) (y : ObjName) → stands_at places y k ≡ true → ((state_in f.states y).dies || (state_in f.states y).expose) ≡ true →
      is_met f places k ≡ true
  met_at f k y at h =
      or_split (is_object (covers places k) y) (is_object (past places k) y) at
      (λ t. or_first _ _ (hit_own f (covers places k) y t h))
      (λ t. or_second (is_hit f (covers places k)) _ (hit_own f (past places k) y t h))

  narrow_of : (d e : Event) (x y : ObjName) → contains narrow_cmp a.narrows (d, x) ≡ true → contains narrow_cmp b.narrows (e, y) ≡ true → d ≡ e →
      not (same_object x y) ≡ true → Kinds
  unfolding Kinds
  narrow_of d e x y hx hy own apart = inr (inr (inl (d, x, y, hx, subst (λ (f : Event). contains narrow_cmp b.narrows (f, y) ≡ true) (sym own) hy, apart)))

  kind_of : (i j : Item) → ConflictIn a b places i j → Kinds
  unfolding Kinds
  kind_of (Read x f n) j h = inl (inl (Read x f n, j, access_is a b places (Read x f n) j refl h))
  kind_of (Write x f n) j h = inl (inl (Write x f n, j, access_is a b places (Write x f n) j refl h))
  kind_of (Born x) (Dies z) h = at_both (λ u. u.born) (λ u. u.dies) x z (right_of x z h.2) h.0 h.1 (λ s t p q. turned s t (meets_dies_born t s q p))
  kind_of (Born x) (Alive z) h = at_both (λ u. u.born) (λ u. u.alive) x z (left_of x z h.2) h.0 h.1 (λ s t p q. direct s t (meets_born_alive s t p q))
  kind_of (Born x) (Expose z) h = at_both (λ u. u.born) (λ u. u.expose) x z (left_of x z h.2) h.0 h.1 (λ s t p q. direct s t (meets_born_expose s t p q))
  kind_of (Born x) _ h = never h.2
  kind_of (Dies x) (Born z) h = at_both (λ u. u.dies) (λ u. u.born) x z (left_of x z h.2) h.0 h.1 (λ s t p q. direct s t (meets_dies_born s t p q))
  kind_of (Dies x) (Dies z) h = at_both (λ u. u.dies) (λ u. u.dies) x z (either_of x z h.2) h.0 h.1 (λ s t p q. direct s t (meets_dies_dies s t p q))
  kind_of (Dies x) (Alive z) h = at_both (λ u. u.dies) (λ u. u.alive) x z (left_of x z h.2) h.0 h.1 (λ s t p q. direct s t (meets_dies_alive s t p q))
  kind_of (Dies x) (Lookup k) h = inr (inl (inr (k, h.1, met_at a k x h.2 (or_first _ _ h.0))))
  kind_of (Dies x) _ h = never h.2
  kind_of (Alive x) (Born z) h = at_both (λ u. u.alive) (λ u. u.born) x z (right_of x z h.2) h.0 h.1 (λ s t p q. turned s t (meets_born_alive t s q p))
  kind_of (Alive x) (Dies z) h = at_both (λ u. u.alive) (λ u. u.dies) x z (right_of x z h.2) h.0 h.1 (λ s t p q. turned s t (meets_dies_alive t s q p))
  kind_of (Alive x) _ h = never h.2
  kind_of (Expose x) (Born z) h = at_both (λ u. u.expose) (λ u. u.born) x z (right_of x z h.2) h.0 h.1 (λ s t p q. turned s t (meets_born_expose t s q p))
  kind_of (Expose x) (Lookup k) h = inr (inl (inr (k, h.1, met_at a k x h.2 (or_second (state_in a.states x).dies _ h.0))))
  kind_of (Expose x) _ h = never h.2
  kind_of (Lookup k) (Dies y) h = inr (inl (inl (k, h.0, met_at b k y (or_one _ h.2) (or_first _ _ h.1))))
  kind_of (Lookup k) (Expose y) h = inr (inl (inl (k, h.0, met_at b k y (or_one _ h.2) (or_second (state_in b.states y).dies _ h.1))))
  kind_of (Lookup k) _ h = never h.2
  kind_of (Narrow d x) (Narrow e y) h =
      or_split (same_event d e && not (same_object x y)) (same_event e d && not (same_object y x)) h.2
      (λ t. narrow_of d e x y h.0 h.1 (same_event_is d e (and_left _ _ t)) (and_right (same_event d e) _ t))
      (λ t. narrow_of d e x y h.0 h.1 (sym (same_event_is e d (and_left _ _ t))) (not_turned y x (same_object x y) refl (and_right (same_event e d) _ t)))
  kind_of (Narrow d x) _ h = never h.2
  kind_of Input Input h = inr (inr (inr (or_first _ _ (or_first _ _ (and_both a.input b.input h.0 h.1)))))
  kind_of Input _ h = never h.2
  kind_of Output Output h = inr (inr (inr (or_first _ _ (or_second (a.input && b.input) _ (and_both a.output b.output h.0 h.1)))))
  kind_of Output _ h = never h.2
  kind_of Ending Any h = inr (inr (inr (or_second ((a.input && b.input) || (a.output && b.output)) _ (or_first _ _ (and_both a.ending b.any h.0 h.1)))))
  kind_of Ending _ h = never h.2
  kind_of Any Ending h = inr (inr (inr (or_second ((a.input && b.input) || (a.output && b.output)) _
      (or_second (a.ending && b.any) _ (and_both a.any b.ending h.0 h.1)))))
  kind_of Any _ h = never h.2

of_states : (a b : Foot) (places : List Place) → SomeStates a.states b.states → SomeConflict a b places
of_states a b places s =
    or_split (states_meet (state_in a.states s.0) (state_in b.states s.0)) (states_meet (state_in b.states s.0) (state_in a.states s.0)) s.1
    (λ t. meet_pair a b places s.0 t)
    (λ t. conflict_turned a b places (meet_pair b a places s.0 t))

of_lookups : (a b : Foot) (places : List Place) → SomeLookup b a places → SomeConflict a b places
of_lookups a b places l = conflict_turned a b places (lookup_pair b a places l)

pub some_conflict : (a b : Foot) (places : List Place) (r s l m n t o : Bool) → IsTrue r ↔ SomeRace a b → IsTrue s ↔ SomeStates a.states b.states →
    l ≡ list_any (is_met b places) a.lookups.keys → m ≡ list_any (is_met a places) b.lookups.keys
    → IsTrue n ↔ SomeNarrow a.narrows b.narrows → t ≡ streams_meet a b → o ≡ ((r || s) || ((l || m) || (n || t))) → IsTrue o ↔ SomeConflict a b places
unfolding Kinds
some_conflict a b places r s l m n t o hr hs hl hm hn ht is = (
  λ h. or_split (r || s) _ (sym is ∙ h)
      (λ e. or_split r s e
      (λ g. let p = hr.0 g in (p.0, p.1, access_from a b places p.0 p.1 p.2))
      (λ g. of_states a b places (hs.0 g)))
      (λ e. or_split (l || m) _ e
      (λ f. or_split l m f
      (λ g. lookup_pair a b places ((lookups_some a b places l hl).0 g))
      (λ g. of_lookups a b places ((lookups_some b a places m hm).0 g)))
      (λ f. or_split n t f
      (λ g. narrow_pair a b places (hn.0 g))
      (λ g. stream_pair a b places (sym ht ∙ g)))),
  λ c. is ∙ ⊎_elim
      (λ e. or_first (r || s) _ (⊎_elim (λ g. or_first r s (hr.1 g)) (λ g. or_second r s (hs.1 g)) e))
      (λ e. or_second (r || s) _ (⊎_elim
      (λ f. or_first (l || m) _ (⊎_elim (λ g. or_first l m ((lookups_some a b places l hl).1 g)) (λ g. or_second l m ((lookups_some b a places m hm).1 g)) f))
      (λ f. or_second (l || m) _ (⊎_elim (λ g. or_first n t (hn.1 g)) (λ g. or_second n t (ht ∙ g)) f))
      e))
      (kind_of a b places c.0 c.1 c.2),
)
