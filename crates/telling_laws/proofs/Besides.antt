-- What has the items of two lists but for forgotten accesses clashes where these conflict.
use Rattle.std.proofs.Common.{◌≡◌, ◌↔◌, ◌⊎◌, inl, inr, ⊎_elim, ℕ, Bool, true, false, ◌&&◌, List, refl, sym, ◌∙◌, subst}
use Rattle.ub_base.specs.declared.names.ObjName.{ObjName}
use Rattle.ub_base.specs.declared.names.Item.{Item}
use Rattle.ub_base.specs.declared.names.Item.TheVariants.{Read, Write, Born, Dies, Alive}
use Rattle.ub_base.specs.Names.{same_object}
use Rattle.ub_base.proofs.NameLemmas.{same_object_is, same_object_refl}
use Rattle.ub_base.specs.Frames.{Row as FrameRow}
use Rattle.addr_map.specs.declared.map.Row.{Row}
use Rattle.addr_map.specs.Conflict.{conflicts_one, is_access, items_conflict, overlap, some_conflict, stands_at}
use Rattle.c_model.specs.Findings.{accesses}
use Rattle.c_model.specs.Keys.{all_by_bytes}
use Rattle.elaborate.proofs.Listed.{and_l, and_r}
use Rattle.elaborate.proofs.Ranges.{and_b, or_a, or_b, or_cases}
use Rattle.evaluation_log.specs.Clashes.{Clash, SomeClash}
use Rattle.evaluation_log.specs.declared.sought.Sought.TheVariants.{Any, Races}
use Rattle.finding_laws.specs.Footprints.{IsAmong}
use Rattle.finding_laws.specs.Forgotten.{AreAsked, HasItemsBut, HasItemsOf, IsLost}
use Rattle.finding_laws.specs.LeastPairs.{HasItems}
use Rattle.footprint.specs.Holds.{is_forgotten}
use Rattle.footprint.proofs.LeastLemmas.{alike}
use Rattle.telling_laws.specs.Met.{HasLeastBesides, MeetsBesides, RacesBesides}
use Rattle.telling_laws.proofs.ClashLemmas.{Among, access_test, accessed, anywhere, least_among, parts_some, some_least, some_parts}

-- ---- beside a forgotten access the other has something that conflicts with the death of its object
module _ (stands : ObjName → ℕ → Bool) (g : Item → Bool) (js : List Item) (has : HasItemsBut g js) (asked : AreAsked js) where
  abbrev MeetsDeath : ObjName → Type 0
  MeetsDeath x = (q : Item) × (g q ≡ true) × (items_conflict stands (Dies x) q ≡ true)

  of_alive : (x : ObjName) → IsAmong (all_by_bytes js) (Alive x) → MeetsDeath x
  of_alive x h = ⊎_elim
      (λ held. (Alive x, held, or_a _ _ (same_object_refl x)))
      (λ lost. (
        Dies lost.0,
        lost.3,
        subst (λ (y : ObjName). items_conflict stands (Dies x) (Dies y) ≡ true) (sym (same_object_is lost.0 x lost.1)) (or_a _ _ (same_object_refl x)),
      ))
      (has.all (Alive x) h)

  of_birth : (x : ObjName) → IsAmong (all_by_bytes js) (Born x) → MeetsDeath x
  of_birth x h = ⊎_elim
      (λ held. (Born x, held, or_a _ _ (same_object_refl x)))
      (λ lost. absurd (let e : false ≡ true = lost.1 in cc))
      (has.all (Born x) h)

  of_death : (x : ObjName) → IsAmong (all_by_bytes js) (Dies x) → MeetsDeath x
  of_death x h = ⊎_elim
      (λ held. (Dies x, held, or_a _ _ (same_object_refl x)))
      (λ lost. absurd (let e : false ≡ true = lost.1 in cc))
      (has.all (Dies x) h)

  -- it is of the same object
  of_read : (x y z : ObjName) (a n : ℕ) → same_object x y ≡ true → same_object z y ≡ true → IsAmong (all_by_bytes js) (Read z a n) → MeetsDeath x
  of_read x y z a n p q h =
      of_alive x (asked.reads x a n
      (subst (λ (w : ObjName). IsAmong (all_by_bytes js) (Read w a n)) (same_object_is z y q ∙ sym (same_object_is x y p)) h))

  of_write : (x y z : ObjName) (a n : ℕ) → same_object x y ≡ true → same_object z y ≡ true → IsAmong (all_by_bytes js) (Write z a n) → MeetsDeath x
  of_write x y z a n p q h =
      of_alive x (asked.writes x a n
      (subst (λ (w : ObjName). IsAmong (all_by_bytes js) (Write w a n)) (same_object_is z y q ∙ sym (same_object_is x y p)) h))

  turned : (x y : ObjName) → same_object x y ≡ true → same_object y x ≡ true
  turned x y h = subst (λ (z : ObjName). same_object z x ≡ true) (same_object_is x y h) (same_object_refl x)

  none : (b : Bool) → false ≡ true → b ≡ true
  none b h = absurd (cc)

  pub beside_lost : (x : ObjName) (p q : Item) → is_forgotten x p ≡ true → IsAmong (all_by_bytes js) q → items_conflict stands p q ≡ true → MeetsDeath x
  beside_lost x (Read y a n) (Write z b m) f h c = of_write x y z b m f (and_l (same_object z y) _ c) h
  beside_lost x (Write y a n) (Read z b m) f h c =
      of_read x y z b m f
      (turned y z (and_l (same_object y z) _ (⊎_elim (λ l. l) (λ r. none _ r) (or_cases (same_object y z && overlap a n b m) false c)))) h
  beside_lost x (Write y a n) (Write z b m) f h c =
      of_write x y z b m f
      (⊎_elim (λ l. turned y z (and_l (same_object y z) _ l)) (λ r. and_l (same_object z y) _ r)
      (or_cases (same_object y z && overlap a n b m) (same_object z y && overlap b m a n) c)) h
  beside_lost x (Alive y) (Born z) f h c =
      of_birth x (subst (λ (w : ObjName). IsAmong (all_by_bytes js) (Born w)) (same_object_is z y c ∙ sym (same_object_is x y f)) h)
  beside_lost x (Alive y) (Dies z) f h c =
      of_death x (subst (λ (w : ObjName). IsAmong (all_by_bytes js) (Dies w)) (same_object_is z y c ∙ sym (same_object_is x y f)) h)
  beside_lost x _ _ f h c = absurd (cc)

-- conflicts are of both directions
exchanged : (stands : ObjName → ℕ → Bool) (i j : Item) → items_conflict stands i j ≡ true → items_conflict stands j i ≡ true
exchanged stands i j h =
    ⊎_elim (λ l. or_b (conflicts_one stands j i) _ l) (λ r. or_a _ (conflicts_one stands i j) r)
    (or_cases (conflicts_one stands i j) (conflicts_one stands j i) h)

-- ---- so some of what is had conflict where some of all do
module _ (rows : List Row) (f g : Item → Bool) (is js : List Item) (hf : HasItemsBut f is) (hg : HasItemsBut g js) where
  module _ (af : AreAsked is) (ag : AreAsked js) where
    first_lost : (p q : Item) → IsLost f p → IsAmong (all_by_bytes js) q → items_conflict (stands_at rows) p q ≡ true → SomeClash Any rows f g
    first_lost p q lost h c =
        let r = beside_lost (stands_at rows) g js hg ag lost.0 p q lost.1 h c in (Dies lost.0, r.0, (lost.3, r.1, r.2))

    second_lost : (p q : Item) → IsLost g q → IsAmong (all_by_bytes is) p → items_conflict (stands_at rows) p q ≡ true → SomeClash Any rows f g
    second_lost p q lost h c =
        let r = beside_lost (stands_at rows) f is hf af lost.0 q p lost.1 h (exchanged (stands_at rows) p q c) in
        (r.0, Dies lost.0, (r.1, lost.3, exchanged (stands_at rows) (Dies lost.0) r.0 r.2))

    had : (p q : Item) → IsAmong (all_by_bytes is) p → IsAmong (all_by_bytes js) q → items_conflict (stands_at rows) p q ≡ true → SomeClash Any rows f g
    had p q hp hq c = ⊎_elim
        (λ fp. ⊎_elim (λ gq. (p, q, (fp, gq, c))) (λ lost. second_lost p q lost hp c) (hg.all q hq))
        (λ lost. first_lost p q lost hq c)
        (hf.all p hp)

    pub meets : SomeClash Any rows f g ↔ (some_conflict rows is js ≡ true)
    meets = (
      λ c. parts_some rows is js c.0 c.1 (hf.only c.0 c.2.0) (hg.only c.1 c.2.1) c.2.2,
      λ h. let r = some_parts rows is js h in had r.0 r.1 r.2 r.3 r.4,
    )

  pub races_among : SomeClash Races rows f g → some_conflict rows (accesses is) (accesses js) ≡ true
  races_among c =
      parts_some rows (accesses is) (accesses js) c.0 c.1 (accessed is c.0 c.2.2 (hf.only c.0 c.2.0)) (accessed js c.1 c.2.3 (hg.only c.1 c.2.1))
      (anywhere (stands_at rows) (λ x n. true) c.0 c.1 c.2.2 c.2.3 ∙ c.2.4)

pub meets_besides : MeetsBesides
meets_besides rows f g is js hf hg af ag = meets rows f g is js hf hg af ag

pub races_besides : RacesBesides
races_besides rows f g is js hf hg c = races_among rows f g is js hf hg c

-- ---- the least pair of what is had
pub has_least_besides : HasLeastBesides
has_least_besides rows frames Any f g is js hf hg c =
    let test : Item → Item → Bool = (λ i j. f i && (g j && items_conflict (stands_at rows) i j)) in
    let o = least_among frames test (all_by_bytes is) (all_by_bytes js) in
    some_least frames (Clash Any rows f g) o.0
    (alike frames (Among frames test (all_by_bytes is) (all_by_bytes js)) (Clash Any rows f g) o.0
    (λ i j q. let r = and_r (f i) _ q.2 in (and_l (f i) _ q.2, and_l (g j) _ r, and_r (g j) _ r))
    (λ i j q. (hf.only i q.0, hg.only j q.1, and_b _ _ q.0 (and_b _ _ q.1 q.2))) o.1) c.0 c.1 c.2
has_least_besides rows frames Races f g is js hf hg c =
    let test : Item → Item → Bool = (λ i j. f i && (g j && access_test i j)) in
    let o = least_among frames test (all_by_bytes is) (all_by_bytes js) in
    some_least frames (Clash Races rows f g) o.0
    (alike frames (Among frames test (all_by_bytes is) (all_by_bytes js)) (Clash Races rows f g) o.0
    (λ i j q.
    let r = and_r (f i) _ q.2 in
    let a = and_r (g j) _ r in
    let b = and_r (is_access i) _ a in
    (and_l (f i) _ q.2, and_l (g j) _ r, and_l (is_access i) _ a, and_l (is_access j) _ b, and_r (is_access j) _ b))
    (λ i j q. (hf.only i q.0, hg.only j q.1, and_b _ _ q.0 (and_b _ _ q.1 (and_b _ _ q.2 (and_b _ _ q.3 q.4))))) o.1) c.0 c.1 c.2

-- ---- of events by whether they are bodies
pub exact : (f : Item → Bool) (is : List Item) → HasItems f is → HasItemsBut f is
exact f is h = record { only = λ i. (h i).0; all = λ i a. inl ((h i).1 a) }

pub of_either : (b : Bool) (f : Item → Bool) (is : List Item) → HasItems f is → HasItemsOf b f is
of_either true f is h = exact f is h
of_either false f is h = h

pub besides : (b : Bool) (f : Item → Bool) (is : List Item) → HasItemsOf b f is → HasItemsBut f is
besides true f is h = h
besides false f is h = exact f is h

pub just : (b : Bool) (f : Item → Bool) (is : List Item) → b ≡ false → HasItemsOf b f is → HasItems f is
just false f is e h = h
just true f is e h = absurd (cc)
