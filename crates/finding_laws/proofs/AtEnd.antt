-- The item `any` behind those of an event.
use Rattle.std.proofs.Common.{◌≡◌, inl, inr, ⊎_elim, Bool, true, false, ◌||◌, List, [], ◌∷◌, ◌++◌, refl, sym, ap, ◌∙◌, if◌then◌else◌, ℕ, subst}
use Rattle.ub_base.proofs.Tests.{or_cases, or_left, or_right}
use Rattle.ub_base.specs.declared.names.ObjName.{ObjName}
use Rattle.ub_base.specs.declared.names.Item.{Item}
use Rattle.ub_base.specs.declared.names.Item.TheVariants.{Read, Write, Born, Dies, Alive, Expose, Lookup, Narrow, Input, Output, Ending, Any}
use Rattle.addr_map.specs.declared.map.Row.{Row}
use Rattle.addr_map.specs.Conflict.{conflicts_with, is_access, items_conflict, some_conflict, stands_at}
use Rattle.footprint.specs.Holds.{stands_for}
use Rattle.c_model.specs.Findings.{has_ending}
use Rattle.c_model.specs.Keys.{all_by_bytes, by_bytes}
use Rattle.finding_laws.specs.AtEnd.{AnyIsAsked, AnyIsHad, AnyIsHadBesides, OnlyEndsMeet, RacesAsBefore, with_any}
use Rattle.finding_laws.specs.Footprints.{IsAmong}
use Rattle.finding_laws.specs.Forgotten.{AreAsked, HasItemsBut, IsLost}
use Rattle.finding_laws.proofs.Bytes.{left_of, one_of, right_of}

is_ending : Item → Bool
is_ending Ending = true
is_ending _ = false

-- ---- conflicts
meets_any : (stands : ObjName → ℕ → Bool) (i : Item) → items_conflict stands i Any ≡ is_ending i
unfolding is_ending
meets_any stands (Read x a n) = refl
meets_any stands (Write x a n) = refl
meets_any stands (Born x) = refl
meets_any stands (Dies x) = refl
meets_any stands (Alive x) = refl
meets_any stands (Expose x) = refl
meets_any stands (Lookup a) = refl
meets_any stands (Narrow e x) = refl
meets_any stands Input = refl
meets_any stands Output = refl
meets_any stands Ending = refl
meets_any stands Any = refl

any_meets : (stands : ObjName → ℕ → Bool) (i : Item) → items_conflict stands Any i ≡ is_ending i
unfolding is_ending
any_meets stands (Read x a n) = refl
any_meets stands (Write x a n) = refl
any_meets stands (Born x) = refl
any_meets stands (Dies x) = refl
any_meets stands (Alive x) = refl
any_meets stands (Expose x) = refl
any_meets stands (Lookup a) = refl
any_meets stands (Narrow e x) = refl
any_meets stands Input = refl
any_meets stands Output = refl
any_meets stands Ending = refl
any_meets stands Any = refl

ending_first : (i : Item) (is : List Item) → has_ending (i ∷ is) ≡ (is_ending i || has_ending is)
unfolding is_ending
ending_first (Read x a n) is = refl
ending_first (Write x a n) is = refl
ending_first (Born x) is = refl
ending_first (Dies x) is = refl
ending_first (Alive x) is = refl
ending_first (Expose x) is = refl
ending_first (Lookup a) is = refl
ending_first (Narrow e x) is = refl
ending_first Input is = refl
ending_first Output is = refl
ending_first Ending is = refl
ending_first Any is = refl

or_none : (a : Bool) → (a || false) ≡ a
or_none true = refl
or_none false = refl

or_moved : (a b c : Bool) → (a || (b || c)) ≡ ((a || b) || c)
or_moved true b c = refl
or_moved false b c = refl

module _ (rows : List Row) where
  with_more : (i : Item) (js : List Item) → conflicts_with rows i (with_any js) ≡ (conflicts_with rows i js || is_ending i)
  with_more i [] = or_none (items_conflict (stands_at rows) i Any) ∙ meets_any (stands_at rows) i
  with_more i (j ∷ js) =
      ap (λ b. items_conflict (stands_at rows) i j || b) (with_more i js)
      ∙ or_moved (items_conflict (stands_at rows) i j) (conflicts_with rows i js) (is_ending i)

  any_with : (js : List Item) → conflicts_with rows Any js ≡ has_ending js
  any_with [] = refl
  any_with (j ∷ js) = (λ t. any_meets (stands_at rows) j t || any_with js t) ∙ sym (ending_first j js)

  -- what stands together, by the first item and the rest
  ordered : (a e b h k : Bool) → ((a || e) || (b || (h || k))) ≡ ((a || b) || ((e || h) || k))
  ordered true e b h k = refl
  ordered false true true h k = refl
  ordered false true false h k = refl
  ordered false false b h k = refl

  some_more : (is js : List Item) → some_conflict rows (with_any is) (with_any js) ≡ (some_conflict rows is js || (has_ending is || has_ending js))
  unfolding is_ending
  some_more [] js = or_none (conflicts_with rows Any (with_any js)) ∙ (with_more Any js ∙ (or_none (conflicts_with rows Any js) ∙ any_with js))
  some_more (i ∷ is) js =
      (λ t. with_more i js t || some_more is js t)
      ∙ (ordered (conflicts_with rows i js) (is_ending i) (some_conflict rows is js) (has_ending is) (has_ending js)
      ∙ ap (λ b. (conflicts_with rows i js || some_conflict rows is js) || (b || has_ending js)) (sym (ending_first i is)))

pub only_ends_meet : OnlyEndsMeet
only_ends_meet rows is js = some_more rows is js

-- ---- accesses
pub races_as_before : RacesAsBefore
races_as_before [] = refl
races_as_before (i ∷ is) = ap (λ (js : List Item). if is_access i then i ∷ js else js) (races_as_before is)

-- ---- the items that are had
joined : (is : List Item) → all_by_bytes (with_any is) ≡ all_by_bytes is ++ (Any ∷ [])
joined [] = refl
joined (i ∷ is) = ap (λ js. by_bytes i ++ js) (joined is) ∙ moved (by_bytes i) (all_by_bytes is)
  where
    moved : (xs ys : List Item) → xs ++ (ys ++ (Any ∷ [])) ≡ (xs ++ ys) ++ (Any ∷ [])
    moved [] ys = refl
    moved (x ∷ xs) ys = ap (λ zs. x ∷ zs) (moved xs ys)

stands_any : (i : Item) → stands_for Any i ≡ true → Any ≡ i
stands_any Any h = refl
stands_any i h = absurd (cc)

any_stands : (i : Item) → Any ≡ i → stands_for Any i ≡ true
any_stands i e = ap (stands_for Any) (sym e)

pub any_is_had : AnyIsHad
any_is_had f is had i = (
  λ h. there (⊎_elim (λ own. left_of (all_by_bytes is) (Any ∷ []) i ((had i).0 own))
      (λ any. right_of (all_by_bytes is) (Any ∷ []) i (inl (stands_any i any))) (or_cases (f i) (stands_for Any i) h)),
  λ h. ⊎_elim (λ own. or_left (f i) (stands_for Any i) ((had i).1 own))
      (λ more. or_right (f i) (stands_for Any i) (any_stands i (⊎_elim (λ e. e) (λ none. absurd none) more)))
      (one_of (all_by_bytes is) (Any ∷ []) i (back h)),
)
  where
    there : IsAmong (all_by_bytes is ++ (Any ∷ [])) i → IsAmong (all_by_bytes (with_any is)) i
    there h = subst (λ (zs : List Item). IsAmong zs i) (sym (joined is)) h

    back : IsAmong (all_by_bytes (with_any is)) i → IsAmong (all_by_bytes is ++ (Any ∷ [])) i
    back h = subst (λ (zs : List Item). IsAmong zs i) (joined is) h

-- ---- where accesses are forgotten
module _ (f : Item → Bool) (is : List Item) where
  abbrev besides : Item → Bool
  besides i = f i || stands_for Any i

  more_lost : (i : Item) → IsLost f i → IsLost besides i
  more_lost i lost = (
    lost.0,
    lost.1,
    or_left (f (Born lost.0)) (stands_for Any (Born lost.0)) lost.2,
    or_left (f (Dies lost.0)) (stands_for Any (Dies lost.0)) lost.3,
  )

  there_besides : (i : Item) → IsAmong (all_by_bytes is ++ (Any ∷ [])) i → IsAmong (all_by_bytes (with_any is)) i
  there_besides i h = subst (λ (zs : List Item). IsAmong zs i) (sym (joined is)) h

  back_besides : (i : Item) → IsAmong (all_by_bytes (with_any is)) i → IsAmong (all_by_bytes is ++ (Any ∷ [])) i
  back_besides i h = subst (λ (zs : List Item). IsAmong zs i) (joined is) h

  had_besides : HasItemsBut f is → HasItemsBut besides (with_any is)
  had_besides had = record {
    only = λ i h. there_besides i (⊎_elim (λ own. left_of (all_by_bytes is) (Any ∷ []) i (had.only i own))
        (λ any. right_of (all_by_bytes is) (Any ∷ []) i (inl (stands_any i any))) (or_cases (f i) (stands_for Any i) h));
    all = λ i h. ⊎_elim
        (λ own. ⊎_elim (λ held. inl (or_left (f i) (stands_for Any i) held)) (λ lost. inr (more_lost i lost)) (had.all i own))
        (λ more. inl (or_right (f i) (stands_for Any i) (any_stands i (⊎_elim (λ e. e) (λ none. absurd none) more))))
        (one_of (all_by_bytes is) (Any ∷ []) i (back_besides i h));
  }

  -- an access is one of the list
  of_list : (i : Item) → (Any ≡ i → ⊥) → IsAmong (all_by_bytes (with_any is)) i → IsAmong (all_by_bytes is) i
  of_list i other h =
      ⊎_elim (λ own. own) (λ more. absurd (other (⊎_elim (λ e. e) (λ none. absurd none) more))) (one_of (all_by_bytes is) (Any ∷ []) i (back_besides i h))

  asked_besides : AreAsked is → AreAsked (with_any is)
  asked_besides asked = record {
    reads = λ x a n h. there_besides (Alive x)
        (left_of (all_by_bytes is) (Any ∷ []) (Alive x) (asked.reads x a n (of_list (Read x a n) (λ e. absurd (cc)) h)));
    writes = λ x a n h. there_besides (Alive x)
        (left_of (all_by_bytes is) (Any ∷ []) (Alive x) (asked.writes x a n (of_list (Write x a n) (λ e. absurd (cc)) h)));
  }

pub any_is_had_besides : AnyIsHadBesides
any_is_had_besides f is had = had_besides f is had

pub any_is_asked : AnyIsAsked
any_is_asked is asked = asked_besides (λ i. false) is asked
