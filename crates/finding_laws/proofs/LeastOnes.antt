-- The definition's search finds the least pair in the order of rows.
use Rattle.std.proofs.Common.{◌≡◌, ◌⊎◌, inl, inr, ⊎_elim, ℕ, ◌≤◌, ◌<◌, arith, Bool, true, false, cond, List, [], ◌∷◌, refl, sym, ap, ◌∙◌, subst, Option, Some}
use Rattle.std.proofs.Common.{None, ◌&&◌, ◌||◌, true≢false}
use Rattle.std.specs.Ordering.{nat_cmp, ordering_reverse, ordering_then, MatchOrdering}
use Rattle.std.proofs.lemmas.Cmp.{ranked, tied_itself}
use Rattle.std.specs.declared.cmp.Ordering.{Ordering}
use Rattle.std.specs.declared.cmp.Ordering.TheVariants.{Less, Equal, Greater}
use Rattle.ub_base.specs.declared.names.ObjName.{ObjName}
use Rattle.ub_base.specs.declared.names.Item.{Item}
use Rattle.ub_base.specs.declared.names.Item.TheVariants.{Read, Write, Born, Dies, Alive, Expose, Lookup, Narrow, Input, Output, Ending, Any}
use Rattle.ub_base.specs.Names.{same_object}
use Rattle.ub_base.proofs.NameLemmas.{same_object_is, same_object_refl}
use Rattle.addr_map.specs.Conflict.{conflicts_one, items_conflict, overlap, stands_at, is_access}
use Rattle.ub_base.specs.Frames.{Row}
use Rattle.footprint.specs.Holds.{holds, is_forgotten}
use Rattle.footprint.specs.Least.{item_rank, item_cmp, pair_cmp, IsLeast}
use Rattle.footprint.specs.Least as rows_order
use Rattle.footprint.proofs.LeastLemmas.{item_total, pair_total, both, alike, not_itself}
use Rattle.c_model.specs.World.{World}
use Rattle.c_model.specs.Runs.{Entry}
use Rattle.c_model.specs.Findings.{clash}
use Rattle.c_model.specs.Keys.{lesser, least_beside, least_among, all_by_bytes, least_items}
use Rattle.finding_laws.specs.ItemOrder.{IsKnownItem}
use Rattle.finding_laws.specs.Footprints.{IsAmong}
use Rattle.finding_laws.specs.Forgotten.{AccessesAlone, HasItemsBut, IsLost, LeastBesides, is_access_of}
use Rattle.finding_laws.specs.LeastPairs.{LeastAccesses, LeastIsTold, LeastOfItems}
use Rattle.finding_laws.proofs.Keys.{pairs_by}
use Rattle.finding_laws.proofs.OneItem.{IsByte, pair_is}
use Rattle.finding_laws.proofs.Bytes.{are_bytes}

module _ (world : World) (trace : List Entry) (rows : List Row) where
  abbrev Known : Option (Item × Item) → Type 0
  Known None = Unit {0}
  Known (Some p) = IsKnownItem world trace rows p.0 × IsKnownItem world trace rows p.1

  chosen : (b c : Bool) (p q : Item × Item) → b ≡ c → Some (cond b q p) ≡ cond c (Some q) (Some p)
  chosen true c p q e = ap (λ d. cond d (Some q) (Some p)) e
  chosen false c p q e = ap (λ d. cond d (Some q) (Some p)) e

  lesser_is : (p : Item × Item) (best : Option (Item × Item)) → Known (Some p) → Known best →
      Some (lesser world trace p best) ≡ rows_order.lesser rows (Some p) best
  lesser_is p None hp hb = refl
  lesser_is p (Some q) hp hb = chosen _ _ p q (sym (pairs_by world trace rows q p hb.0 hb.1 hp.0 hp.1))

  known_of : (b : Bool) (p q : Item × Item) → Known (Some p) → Known (Some q) → Known (Some (cond b q p))
  known_of true p q hp hq = hq
  known_of false p q hp hq = hp

  known_lesser : (p : Item × Item) (best : Option (Item × Item)) → Known (Some p) → Known best → Known (Some (lesser world trace p best))
  known_lesser p None hp hb = hp
  known_lesser p (Some q) hp hb = known_of _ p q hp hb

  -- one pair more
  abbrev Or : (Item → Item → Type 0) → Item → Item → Item → Item → Type 0
  Or P i j a b = P a b ⊎ ((i ≡ a) × (j ≡ b) × (clash world.rows a b ≡ true))

  one_alone : (i j : Item) → clash world.rows i j ≡ true →
      IsLeast rows (λ a b. (i ≡ a) × (j ≡ b) × (clash world.rows a b ≡ true)) (Some (i, j))
  one_alone i j h = (
    (refl, refl, h),
    λ a b same lt. not_itself (pair_cmp rows) (pair_total rows) (i, j) (subst (λ (p : Item × Item). pair_cmp rows p (i, j) ≡ Less)
        (λ t. (sym same.0 t, sym same.1 t)) lt),
  )

  one_more : (c : Bool) (i j : Item) (best : Option (Item × Item)) (P : Item → Item → Type 0) → clash world.rows i j ≡ c → Known (Some (i, j)) → Known best →
      IsLeast rows P best → IsLeast rows (Or P i j) (cond c (Some (lesser world trace (i, j) best)) best)
  one_more true i j best P h known kept least =
      subst (λ (o : Option (Item × Item)). IsLeast rows (Or P i j) o) (sym (lesser_is (i, j) best known kept))
      (alike rows _ _ (rows_order.lesser rows (Some (i, j)) best) (λ a b one. ⊎_elim (λ own. inr own) (λ old. inl old) one)
      (λ a b one. ⊎_elim (λ old. inr old) (λ own. inl own) one)
      (both rows (λ a b. (i ≡ a) × (j ≡ b) × (clash world.rows a b ≡ true)) P (Some (i, j)) best (one_alone i j h) least))
  one_more false i j best P h known kept least =
      alike rows P (Or P i j) best (λ a b old. inl old)
      (λ a b one. ⊎_elim (λ old. old) (λ own. absurd (let e : clash world.rows i j ≡ true = at own.0 own.1 own.2 in cc)) one) least
    where
      at : {a b : Item} → i ≡ a → j ≡ b → clash world.rows a b ≡ true → clash world.rows i j ≡ true
      at e f g = (λ t. clash world.rows (e t) (f t)) ∙ g

  kept_more : (c : Bool) (i j : Item) (best : Option (Item × Item)) → Known (Some (i, j)) → Known best →
      Known (cond c (Some (lesser world trace (i, j) best)) best)
  kept_more true i j best known kept = known_lesser (i, j) best known kept
  kept_more false i j best known kept = kept

  abbrev Beside : (Item → Item → Type 0) → Item → List Item → Item → Item → Type 0
  Beside P i js a b = P a b ⊎ ((i ≡ a) × IsAmong js b × (clash world.rows a b ≡ true))

  beside : (i : Item) (js : List Item) (best : Option (Item × Item)) (P : Item → Item → Type 0) → IsKnownItem world trace rows i →
      ((j : Item) → IsAmong js j → IsKnownItem world trace rows j) → Known best → IsLeast rows P best →
      IsLeast rows (Beside P i js) (least_beside world trace i js best) × Known (least_beside world trace i js best)
  beside i [] best P hi hj kept least = (
    alike rows P (Beside P i []) best (λ a b old. inl old) (λ a b one. ⊎_elim (λ old. old) (λ own. absurd own.1) one) least,
    kept,
  )
  beside i (j ∷ js) best P hi hj kept least =
      let now : Option (Item × Item) = cond (clash world.rows i j) (Some (lesser world trace (i, j) best)) best in
      let known : Known (Some (i, j)) = (hi, hj j (inl refl)) in
      let rest = beside i js now (Or P i j) hi (λ k h. hj k (inr h)) (kept_more (clash world.rows i j) i j best known kept)
      (one_more (clash world.rows i j) i j best P refl known kept least) in (
        alike rows (Beside (Or P i j) i js) (Beside P i (j ∷ js)) (least_beside world trace i js now)
            (λ a b one. ⊎_elim (λ old. ⊎_elim (λ p. inl p) (λ own. inr (own.0, inl own.1, own.2)) old) (λ own. inr (own.0, inr own.1, own.2)) one)
            (λ a b one. ⊎_elim (λ p. inl (inl p))
            (λ own. ⊎_elim (λ e. inl (inr (own.0, e, own.2))) (λ t. inr (own.0, t, own.2)) own.1) one) rest.0,
        rest.1,
      )

  abbrev Among : (Item → Item → Type 0) → List Item → List Item → Item → Item → Type 0
  Among P is js a b = P a b ⊎ (IsAmong is a × IsAmong js b × (clash world.rows a b ≡ true))

  among : (is js : List Item) (best : Option (Item × Item)) (P : Item → Item → Type 0) → ((i : Item) → IsAmong is i → IsKnownItem world trace rows i) →
      ((j : Item) → IsAmong js j → IsKnownItem world trace rows j) → Known best → IsLeast rows P best →
      IsLeast rows (Among P is js) (least_among world trace is js best)
  among [] js best P hi hj kept least =
      alike rows P (Among P [] js) best (λ a b old. inl old) (λ a b one. ⊎_elim (λ old. old) (λ own. absurd own.0) one) least
  among (i ∷ is) js best P hi hj kept least =
      let first = beside i js best P (hi i (inl refl)) hj kept least in
      let now : Option (Item × Item) = least_beside world trace i js best in
      alike rows (Among (Beside P i js) is js) (Among P (i ∷ is) js) (least_among world trace is js now)
      (λ a b one. ⊎_elim (λ old. ⊎_elim (λ p. inl p) (λ own. inr (inl own.0, own.1, own.2)) old) (λ own. inr (inr own.0, own.1, own.2)) one)
      (λ a b one. ⊎_elim (λ p. inl (inl p))
      (λ own. ⊎_elim (λ e. inl (inr (e, own.1, own.2))) (λ t. inr (t, own.1, own.2)) own.0) one)
      (among is js now (Beside P i js) (λ k h. hi k (inr h)) hj first.1 first.0)

  -- ---- there is one least pair
  tied : (o : Ordering) (p q : Item × Item) → pair_cmp rows p q ≡ o → (pair_cmp rows p q ≡ Less → ⊥) → (pair_cmp rows q p ≡ Less → ⊥) →
      pair_cmp rows p q ≡ Equal
  tied Less p q e first second = absurd (first e)
  tied Equal p q e first second = e
  tied Greater p q e first second = absurd (second ((pair_total rows).antisymm q p ∙ ap ordering_reverse e))

  only_one : (P : Item → Item → Type 0) (o r : Option (Item × Item)) →
      ((a b : Item) → P a b → IsByte a × IsByte b × IsKnownItem world trace rows a × IsKnownItem world trace rows b) → IsLeast rows P o → IsLeast rows P r →
      o ≡ r
  only_one P None None of ho hr = refl
  only_one P None (Some q) of ho hr = absurd (ho q.0 q.1 hr.0)
  only_one P (Some p) None of ho hr = absurd (hr p.0 p.1 ho.0)
  only_one P (Some p) (Some q) of ho hr =
      let mine = of p.0 p.1 ho.0 in
      let other = of q.0 q.1 hr.0 in
      ap Some (pair_is world trace rows p q mine.0 mine.1 other.0 other.1 mine.2 mine.3 other.2 other.3
      (tied (pair_cmp rows p q) p q refl (hr.1 p.0 p.1 ho.0) (ho.1 q.0 q.1 hr.0)))

pub least_of_items : LeastOfItems
least_of_items world trace rows is js f g pair ki kj hf hg least =
    only_one world trace rows (Among world trace rows (λ a b. ⊥) (all_by_bytes is) (all_by_bytes js)) pair (least_items world trace is js)
    (λ a b one. ⊎_elim (λ none. absurd none)
    (λ own. (are_bytes is a own.0, are_bytes js b own.1, ki a own.0, kj b own.1)) one)
    (alike rows (λ i j. (f i ≡ true) × (g j ≡ true) × (items_conflict (stands_at world.rows) i j ≡ true))
    (Among world trace rows (λ a b. ⊥) (all_by_bytes is) (all_by_bytes js)) pair
    (λ a b c. inr ((hf a).0 c.0, (hg b).0 c.1, c.2))
    (λ a b one. ⊎_elim (λ none. absurd none) (λ own. ((hf a).1 own.0, (hg b).1 own.1, own.2)) one) least)
    (among world trace rows (all_by_bytes is) (all_by_bytes js) None (λ a b. ⊥) ki kj tt (λ a b none. none))

-- ---- where accesses are forgotten
turned : (x y : ObjName) → same_object x y ≡ true → same_object y x ≡ true
turned x y h = subst (λ (z : ObjName). same_object z x ≡ true) (same_object_is x y h) (same_object_refl x)

either_first : (p q : Bool) → (p || q) ≡ true → (p ≡ true) ⊎ (q ≡ true)
either_first true q h = inl refl
either_first false q h = inr h

or_first : (p q : Bool) → p ≡ true → (p || q) ≡ true
or_first p q h = ap (λ r. r || q) h

or_second : (p q : Bool) → q ≡ true → (p || q) ≡ true
or_second true q h = refl
or_second false q h = h

first_of_both : (p q : Bool) → (p && q) ≡ true → p ≡ true
first_of_both true q h = refl
first_of_both false q h = h

-- ---- what conflicts with a forgotten item
module _ (stands : ObjName → ℕ → Bool) where
  same_as : (x y z : ObjName) → same_object x y ≡ true → same_object z y ≡ true → same_object x z ≡ true
  same_as x y z p q = subst (λ (w : ObjName). same_object x w ≡ true) (sym (same_object_is z y q)) p

  -- it is an access of the object; or its birth or its death, and the item asks whether it lives
  abbrev BesideLost : ObjName → Item → Item → Type 0
  BesideLost x i j = (is_access_of x j ≡ true) ⊎ ((Alive x ≡ i) × ((Born x ≡ j) ⊎ (Dies x ≡ j)))

  beside_lost : (x : ObjName) (i j : Item) → is_forgotten x i ≡ true → items_conflict stands i j ≡ true → BesideLost x i j
  beside_lost x (Read y a n) (Write z b m) f c = inl (same_as x y z f (first_of_both (same_object z y) _ c))
  beside_lost x (Write y a n) (Read z b m) f c =
      inl (same_as x y z f
      (turned y z (first_of_both (same_object y z) _ (⊎_elim (λ l. l) (λ r. absurd (cc)) (either_first (same_object y z && overlap a n b m) false c)))))
  beside_lost x (Write y a n) (Write z b m) f c =
      inl (same_as x y z f
      (⊎_elim (λ l. turned y z (first_of_both (same_object y z) _ l)) (λ r. first_of_both (same_object z y) _ r)
      (either_first (same_object y z && overlap a n b m) (same_object z y && overlap b m a n) c)))
  beside_lost x (Alive y) (Born z) f c = inr (ap Alive (same_object_is x y f), inl (ap Born (same_object_is x z (same_as x y z f c))))
  beside_lost x (Alive y) (Dies z) f c = inr (ap Alive (same_object_is x y f), inr (ap Dies (same_object_is x z (same_as x y z f c))))
  beside_lost x _ _ f c = absurd (cc)

  exchanged : (i j : Item) → items_conflict stands i j ≡ true → items_conflict stands j i ≡ true
  exchanged i j h =
      ⊎_elim (λ l. or_second (conflicts_one stands j i) _ l) (λ r. or_first _ (conflicts_one stands i j) r)
      (either_first (conflicts_one stands i j) (conflicts_one stands j i) h)

  -- births and deaths aren't forgotten
  birth_had : (f : Item → Bool) (is : List Item) → HasItemsBut f is → (x : ObjName) → IsAmong (all_by_bytes is) (Born x) → f (Born x) ≡ true
  birth_had f is hf x h = ⊎_elim (λ own. own) (λ lost. absurd (let e : false ≡ true = lost.1 in cc)) (hf.all (Born x) h)

  death_had : (f : Item → Bool) (is : List Item) → HasItemsBut f is → (x : ObjName) → IsAmong (all_by_bytes is) (Dies x) → f (Dies x) ≡ true
  death_had f is hf x h = ⊎_elim (λ own. own) (λ lost. absurd (let e : false ≡ true = lost.1 in cc)) (hf.all (Dies x) h)

  -- so beside a forgotten item the other one is had, and conflicts with the death of its object
  abbrev MeetsDeath : (Item → Bool) → (Item → Bool) → Item → Item → Type 0
  MeetsDeath f g i j = (x : ObjName) × (Alive x ≡ i) × (f (Dies x) ≡ true) × (g j ≡ true) × (items_conflict stands (Dies x) j ≡ true)

  of_lost : (f g : Item → Bool) (js : List Item) → HasItemsBut g js → AccessesAlone f js → (i j : Item) → IsLost f i → IsAmong (all_by_bytes js) j →
      items_conflict stands i j ≡ true → MeetsDeath f g i j
  of_lost f g js hg alone i j lost hj c = ⊎_elim
      (λ access. absurd (true≢false (sym access ∙ alone lost.0 lost.2 lost.3 j hj)))
      (λ asks. (
        lost.0,
        asks.0,
        lost.3,
        ⊎_elim (λ e. subst (λ (k : Item). g k ≡ true) e (birth_had g js hg lost.0 (subst (IsAmong (all_by_bytes js)) (sym e) hj)))
            (λ e. subst (λ (k : Item). g k ≡ true) e (death_had g js hg lost.0 (subst (IsAmong (all_by_bytes js)) (sym e) hj))) asks.1,
        ⊎_elim (λ e. subst (λ (k : Item). items_conflict stands (Dies lost.0) k ≡ true) e (or_first _ _ (same_object_refl lost.0)))
            (λ e. subst (λ (k : Item). items_conflict stands (Dies lost.0) k ≡ true) e (or_first _ _ (same_object_refl lost.0))) asks.1,
      ))
      (beside_lost lost.0 i j lost.1 c)

-- the death of an object comes before the question whether it lives
module _ (rows : List Row) where
  lesser_first : (x : ObjName) (j : Item) → pair_cmp rows (Dies x, j) (Alive x, j) ≡ Less
  lesser_first x j = refl

  lesser_second : (x : ObjName) (i : Item) → pair_cmp rows (i, Dies x) (i, Alive x) ≡ Less
  lesser_second x i = ap (λ (o : Ordering). ordering_then o (item_cmp rows (Dies x) (Alive x))) (tied_itself (item_total rows) i)

module _ (rows : List Row) (stands : ObjName → ℕ → Bool) (is js : List Item) (f g : Item → Bool) (hf : HasItemsBut f is) (hg : HasItemsBut g js)
    (af : AccessesAlone f js) (ag : AccessesAlone g is) where
  abbrev Had : Item → Item → Type 0
  Had i j = (f i ≡ true) × (g j ≡ true) × (items_conflict stands i j ≡ true)

  abbrev All : Item → Item → Type 0
  All i j = IsAmong (all_by_bytes is) i × IsAmong (all_by_bytes js) j × (items_conflict stands i j ≡ true)

  -- of all pairs each is had, or one that is had is lesser
  abbrev LesserHad : Item → Item → Type 0
  LesserHad i j = (p : Item) × (q : Item) × Had p q × (pair_cmp rows (p, q) (i, j) ≡ Less)

  first_lost : (i j : Item) → All i j → IsLost f i → LesserHad i j
  first_lost i j (hi, hj, c) lost =
      let r = of_lost stands f g js hg af i j lost hj c in
      (Dies r.0, j, (r.2, r.3, r.4), subst (λ (k : Item). pair_cmp rows (Dies r.0, j) (k, j) ≡ Less) r.1 (lesser_first rows r.0 j))

  second_lost : (i j : Item) → All i j → IsLost g j → LesserHad i j
  second_lost i j (hi, hj, c) lost =
      let r = of_lost stands g f is hf ag j i lost hi (exchanged stands i j c) in (
        i,
        Dies r.0,
        (r.3, r.2, exchanged stands (Dies r.0) i r.4),
        subst (λ (k : Item). pair_cmp rows (i, Dies r.0) (i, k) ≡ Less) r.1 (lesser_second rows r.0 i),
      )

  had_or_lesser : (i j : Item) → All i j → Had i j ⊎ LesserHad i j
  had_or_lesser i j all = ⊎_elim
      (λ fi. ⊎_elim (λ gj. inl (fi, gj, all.2)) (λ lost. inr (second_lost i j all lost)) (hg.all j all.1))
      (λ lost. inr (first_lost i j all lost))
      (hf.all i all.0)

  least_of_all : (pair : Option (Item × Item)) → IsLeast rows Had pair → IsLeast rows All pair
  least_of_all None none = λ i j all. ⊎_elim (λ had. none i j had) (λ more. none more.0 more.1 more.2) (had_or_lesser i j all)
  least_of_all (Some p) least = (
    (hf.only p.0 least.0.0, hg.only p.1 least.0.1, least.0.2),
    λ i j all lt. ⊎_elim
        (λ had. least.1 i j had lt)
        (λ more. least.1 more.0 more.1 more.2 ((pair_total rows).trans (more.0, more.1) (i, j) p more.3 lt))
        (had_or_lesser i j all),
  )

pub least_besides : LeastBesides
least_besides world trace rows is js f g pair ki kj hf hg af ag least =
    only_one world trace rows (Among world trace rows (λ a b. ⊥) (all_by_bytes is) (all_by_bytes js)) pair (least_items world trace is js)
    (λ a b one. ⊎_elim (λ none. absurd none)
    (λ own. (are_bytes is a own.0, are_bytes js b own.1, ki a own.0, kj b own.1)) one)
    (alike rows (All rows (stands_at world.rows) is js f g hf hg af ag) (Among world trace rows (λ a b. ⊥) (all_by_bytes is) (all_by_bytes js)) pair
    (λ a b all. inr all) (λ a b one. ⊎_elim (λ none. absurd none) (λ own. own) one)
    (least_of_all rows (stands_at world.rows) is js f g hf hg af ag pair least))
    (among world trace rows (all_by_bytes is) (all_by_bytes js) None (λ a b. ⊥) ki kj tt (λ a b none. none))

pub least_is_told : LeastIsTold
least_is_told world trace rows is js f g pair ki kj hf hg least =
    least_of_items world trace rows is js (holds f) (holds g) pair ki kj (λ i. hf i) (λ i. hg i) least

-- ---- accesses
-- an access conflicts with accesses alone, wherever objects stand
access_alone : (stands : ObjName → ℕ → Bool) (i j : Item) → is_access i ≡ true → items_conflict stands i j ≡ true → is_access j ≡ true
access_alone stands i (Read y b m) h c = refl
access_alone stands i (Write y b m) h c = refl
access_alone stands (Read x a n) (Born y) h c = absurd (cc)
access_alone stands (Write x a n) (Born y) h c = absurd (cc)
access_alone stands (Read x a n) (Dies y) h c = absurd (cc)
access_alone stands (Write x a n) (Dies y) h c = absurd (cc)
access_alone stands (Read x a n) (Alive y) h c = absurd (cc)
access_alone stands (Write x a n) (Alive y) h c = absurd (cc)
access_alone stands (Read x a n) (Expose y) h c = absurd (cc)
access_alone stands (Write x a n) (Expose y) h c = absurd (cc)
access_alone stands (Read x a n) (Lookup y) h c = absurd (cc)
access_alone stands (Write x a n) (Lookup y) h c = absurd (cc)
access_alone stands (Read x a n) (Narrow d y) h c = absurd (cc)
access_alone stands (Write x a n) (Narrow d y) h c = absurd (cc)
access_alone stands (Read x a n) Input h c = absurd (cc)
access_alone stands (Write x a n) Input h c = absurd (cc)
access_alone stands (Read x a n) Output h c = absurd (cc)
access_alone stands (Write x a n) Output h c = absurd (cc)
access_alone stands (Read x a n) Ending h c = absurd (cc)
access_alone stands (Write x a n) Ending h c = absurd (cc)
access_alone stands (Read x a n) Any h c = absurd (cc)
access_alone stands (Write x a n) Any h c = absurd (cc)
access_alone stands (Born x) j h c = absurd (cc)
access_alone stands (Dies x) j h c = absurd (cc)
access_alone stands (Alive x) j h c = absurd (cc)
access_alone stands (Expose x) j h c = absurd (cc)
access_alone stands (Lookup x) j h c = absurd (cc)
access_alone stands (Narrow d x) j h c = absurd (cc)
access_alone stands Input j h c = absurd (cc)
access_alone stands Output j h c = absurd (cc)
access_alone stands Ending j h c = absurd (cc)
access_alone stands Any j h c = absurd (cc)

access_anywhere : (stands other : ObjName → ℕ → Bool) (i j : Item) → is_access i ≡ true → is_access j ≡ true →
    items_conflict stands i j ≡ items_conflict other i j
access_anywhere stands other (Read x a n) (Read y b m) h k = refl
access_anywhere stands other (Read x a n) (Write y b m) h k = refl
access_anywhere stands other (Write x a n) (Read y b m) h k = refl
access_anywhere stands other (Write x a n) (Write y b m) h k = refl
access_anywhere stands other (Read x a n) j h k = absurd (cc)
access_anywhere stands other (Write x a n) j h k = absurd (cc)
access_anywhere stands other i j h k = absurd (cc)

low_rank : (i : Item) → item_rank i ≤ 1 → is_access i ≡ true
low_rank (Read x a n) h = refl
low_rank (Write x a n) h = refl
low_rank (Born x) h = absurd (omega (arith, h))
low_rank (Dies x) h = absurd (omega (arith, h))
low_rank (Alive x) h = absurd (omega (arith, h))
low_rank (Expose x) h = absurd (omega (arith, h))
low_rank (Lookup x) h = absurd (omega (arith, h))
low_rank (Narrow d x) h = absurd (omega (arith, h))
low_rank Input h = absurd (omega (arith, h))
low_rank Output h = absurd (omega (arith, h))
low_rank Ending h = absurd (omega (arith, h))
low_rank Any h = absurd (omega (arith, h))

access_rank : (i : Item) → is_access i ≡ true → item_rank i ≤ 1
access_rank (Read x a n) h = omega arith
access_rank (Write x a n) h = omega arith
access_rank (Born x) h = absurd (cc)
access_rank (Dies x) h = absurd (cc)
access_rank (Alive x) h = absurd (cc)
access_rank (Expose x) h = absurd (cc)
access_rank (Lookup x) h = absurd (cc)
access_rank (Narrow d x) h = absurd (cc)
access_rank Input h = absurd (cc)
access_rank Output h = absurd (cc)
access_rank Ending h = absurd (cc)
access_rank Any h = absurd (cc)

-- what isn't greater has no greater rank
rank_up_to : (o r s : Ordering) (m n : ℕ) → nat_cmp m n ≡ o → ordering_then (ordering_then o r) s ≡ Less → m ≤ n
rank_up_to Less r s m n e h = let w = subst (λ o. MatchOrdering o (m < n) (m ≡ n) (n < m)) e (ranked m n (nat_cmp m n) refl) in omega (arith, w)
rank_up_to Equal r s m n e h = let w = subst (λ o. MatchOrdering o (m < n) (m ≡ n) (n < m)) e (ranked m n (nat_cmp m n) refl) in omega (arith, w)
rank_up_to Greater r s m n e h = absurd (cc)

pub least_accesses : LeastAccesses
least_accesses world trace rows is js f g pair ki kj hf hg least =
    least_of_items world trace rows is js f g (Some pair) ki kj hf hg (
      (least.0.0, least.0.1, access_anywhere (stands_at world.rows) (λ x n. true) pair.0 pair.1 least.0.2 least.0.3 ∙ least.0.4),
      λ i j c lt.
          let low = rank_up_to (nat_cmp (item_rank i) (item_rank pair.0)) _ (item_cmp rows j pair.1) (item_rank i) (item_rank pair.0) refl lt in
          let up = access_rank pair.0 least.0.2 in
          let one = low_rank i (omega (arith, low, up)) in
          let other = access_alone (stands_at world.rows) i j one c.2 in
          least.1 i j (c.0, c.1, one, other, access_anywhere (λ x n. true) (stands_at world.rows) i j one other ∙ c.2) lt,
    )
