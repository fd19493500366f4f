-- What is told of an event is what is found first.
use Rattle.std.proofs.Common.{◌≡◌, ◌⊎◌, inl, inr, ⊎_elim, ℕ, suc, ◌<◌, Bool, true, false, List, Option, Some, None, sym, ap, ◌∙◌, true≢false, arith}
use Rattle.std.specs.Prelude.{slice_get}
use Rattle.std.proofs.lemmas.Bool.Decides.{nat_tests}
use Rattle.std.proofs.lemmas.Option.{same_Some}
use Rattle.ub_base.specs.Frames.{Row as FrameRow}
use Rattle.addr_map.specs.declared.map.Row.{Row}
use Rattle.c_typed.specs.declared.tree.Place.{Place}
use Rattle.c_typed.specs.Tree.{size}
use Rattle.c_typed.specs.Order.{Taken}
use Rattle.c_model.specs.Completions.{Completed, Incomplete, Own_node, Operands_of}
use Rattle.c_model.specs.FirstFinding.{quarrels, races}
use Rattle.c_model.specs.Moments.{Open}
use Rattle.evaluation_log.specs.FoundItems.{first_found}
use Rattle.evaluation_log.specs.Sides.{Side, sides_from}
use Rattle.evaluation_log.specs.declared.found.Found.{Found}
use Rattle.evaluation_search.specs.First.{IsFirstOf}
use Rattle.evaluation_search.proofs.FirstLemmas.{alike, both}
use Rattle.finding_laws.specs.FirstPairs.{IsDue, IsFirstPair, NoPair, place_key, precedes}
use Rattle.run_evaluations.specs.First.{IsConflictIn}
use Rattle.run_evaluations.specs.Scopes.{Scope, part_of}
use Rattle.run_evaluations.specs.Shows.{AreOfTwo}
use Rattle.run_evaluations.specs.Told.{Opened}
use Rattle.run_evaluations.proofs.PartLemmas.{side_part}
use Rattle.telling_laws.specs.FirstFound.{ByPlaces, ToldPairs, IsTold, IsFoundIn, FirstIsFound, BothLots, place_in}
use Rattle.telling_laws.specs.Newly.{ShowNewly, completed_with}
use Rattle.telling_laws.specs.OnlyNew.{IsNew, IsFirstAmong, NoneAmong}
use Rattle.telling_laws.proofs.FirstTold.{AreShown, first_is_told, none_is_told}
use Rattle.telling_laws.proofs.Leasts.{sides_rise}
use Rattle.telling_laws.proofs.New.{key_small, pair_of, only_new_race, only_new_quarrel}
use Rattle.telling_laws.proofs.Parts.{same_operands}
use Rattle.telling_laws.proofs.Shown.{shows_newly}

-- ---- the events of such pairs come one before the other
node_precedes : (x y : Place) → x.node < y.node → precedes x y ≡ true
node_precedes x y less =
    let a = key_small x.kind in
    let key : place_key x < place_key y = omega (arith, less, a) in
    grind (arith, nat_tests, key)

two_rise : (s : Scope) (p x y : ℕ) → AreOfTwo s p x y → x < y
two_rise s p x y two =
    let f = two.of_first in
    let g = two.of_second in
    let fo = f.of in
    let go = same_operands s p two.second g.index g.class f.class g.operands f.operands g.there f.there g.of in
    let fn = fo.number in
    let gn = go.number in
    let rise = two.rise in
    let ih = two.in_first.high in
    let jl = two.in_second.low in
    let size_is = ap size (same_Some fo.side.tree two.in_first.part
    (sym (side_part s p f.class f.operands f.there f.index fo.side fo.there) ∙ (ap (part_of s) fn ∙ two.in_first.there))) in
    ⊎_elim
    (λ less. let r = sides_rise f.operands (suc p) f.index g.index fo.side go.side fo.there go.there less in omega (arith, r, fn, gn, ih, jl, size_is))
    (λ m. absurd (⊎_elim
    (λ e. let n = ap (λ (z : Side). z.number) (same_Some fo.side go.side (sym fo.there ∙ (ap (slice_get (sides_from (suc p) f.operands)) e ∙ go.there))) in
    omega (arith, n, fn, gn, rise))
    (λ more. let r = sides_rise f.operands (suc p) g.index f.index go.side fo.side go.there fo.there more in omega (arith, r, fn, gn, rise)) m))
    (low_or_high f.index g.index)
  where
    low_or_high : (a b : ℕ) → (a < b) ⊎ ((a ≡ b) ⊎ (b < a))
    low_or_high a b = grind arith

pairs_rise : (s : Scope) (n : ℕ) (c : Completed) (x y : Place) → ToldPairs s n c x y → x.node < y.node
pairs_rise s n Incomplete x y p = absurd p
pairs_rise s n Own_node x y p = let e = p.0 in let l = p.1.low in omega (arith, e, l)
pairs_rise s n (Operands_of q) x y (inl p) = let e = p.0 in let l = p.1.low in omega (arith, e, l)
pairs_rise s n (Operands_of q) x y (inr p) = two_rise s q x.node y.node p

-- ---- they are those that newly show, but for two of the node itself
told_new : (s : Scope) (n : ℕ) (c : Completed) (x y : Place) → ToldPairs s n c x y → ShowNewly s n c x y
told_new s n Incomplete x y p = p
told_new s n Own_node x y p = (p.0, inr p.1)
told_new s n (Operands_of q) x y (inl p) = inl (p.0, inr p.1)
told_new s n (Operands_of q) x y (inr p) = inr p

new_told : (s : Scope) (n : ℕ) (c : Completed) (x y : Place) → ShowNewly s n c x y → ToldPairs s n c x y ⊎ ((x.node ≡ n) × (y.node ≡ n))
new_told s n Incomplete x y p = absurd p
new_told s n Own_node x y p = ⊎_elim (λ e. inr (p.0, e)) (λ u. inl (p.0, u)) p.1
new_told s n (Operands_of q) x y (inl p) = ⊎_elim (λ e. inr (p.0, e)) (λ u. inl (inl (p.0, u))) p.1
new_told s n (Operands_of q) x y (inr p) = inl (inr p)

module _ (rows : List Row) (frames : List FrameRow) (t : Opened) (old : Taken) (passed : List Place) (u : Place) (ahead next : List Place)
    (before behind : Open) (is : IsTold rows t old passed u ahead next before behind) where
  abbrev c : Completed
  c = completed_with t.scope passed u

  abbrev Pairs : Place → Place → Type 0
  Pairs = ToldPairs t.scope u.node c

  shown : AreShown behind Pairs
  shown x y dx dy p =
      let order = node_precedes x y (pairs_rise t.scope u.node c x y p) in (
        order,
        ap (λ f. f x y) is.around.shows
            ∙ (shows_newly t.scope old passed u ahead next x y is.taken (pair_of t.scope behind x y is.around.tree is.around.taken dx dy order)).1
            (inr (told_new t.scope u.node c x y p)),
      )

  -- ---- among all that newly show
  module _ (test : Place → Place → Bool) (own : (x y : Place) → IsDue behind x → IsDue behind y → precedes x y ≡ true → x.node ≡ u.node → y.node ≡ u.node →
      test x y ≡ false) where
    none_new : NoneAmong behind Pairs test → NoneAmong behind (IsNew t.scope passed u) test
    none_new f x y dx dy order p = ⊎_elim (λ q. f x y dx dy order q) (λ q. own x y dx dy order q.0 q.1) (new_told t.scope u.node c x y p)

    first_new : (x y : Place) → IsFirstAmong behind Pairs test x y → IsFirstAmong behind (IsNew t.scope passed u) test x y
    first_new x y f = record {
      first = f.first;
      second = f.second;
      order = f.order;
      pair = told_new t.scope u.node c x y f.pair;
      passes = f.passes;
      least = λ v w dv dw order p h. ⊎_elim (λ q. f.least v w dv dw order q h) (λ q. absurd (true≢false (sym h ∙ own v w dv dw order q.0 q.1)))
          (new_told t.scope u.node c v w p);
    }

  race_own : (x y : Place) → IsDue behind x → IsDue behind y → precedes x y ≡ true → x.node ≡ u.node → y.node ≡ u.node → races rows behind x y ≡ false
  race_own x y dx dy order a b = (is.own x y dx dy order a b).0

  quarrel_own : (x y : Place) → IsDue behind x → IsDue behind y → precedes x y ≡ true → x.node ≡ u.node → y.node ≡ u.node → quarrels rows behind x y ≡ false
  quarrel_own x y dx dy order a b = (is.own x y dx dy order a b).1

  raced : ((x y : Place) → IsFirstAmong behind (IsNew t.scope passed u) (races rows behind) x y → IsFirstPair behind (races rows behind) x y) ×
      (NoneAmong behind (IsNew t.scope passed u) (races rows behind) → NoPair behind (races rows behind))
  raced = only_new_race rows t.scope old passed u ahead next before behind is.taken is.around is.raceless

  quarrelled : ((x y : Place) → IsFirstAmong behind (IsNew t.scope passed u) (quarrels rows behind) x y → IsFirstPair behind (quarrels rows behind) x y) ×
      (NoneAmong behind (IsNew t.scope passed u) (quarrels rows behind) → NoPair behind (quarrels rows behind))
  quarrelled = only_new_quarrel rows t.scope old passed u ahead next before behind is.taken is.around is.quarrelless

  pub found : (r : Option Found) → IsFirstOf frames (IsConflictIn frames rows t (ByPlaces Pairs)) r → IsFoundIn rows behind r
  found None none =
      let g = none_is_told rows frames t behind Pairs is.looked shown none in
      (raced.1 (none_new (races rows behind) race_own g.0), quarrelled.1 (none_new (quarrels rows behind) quarrel_own g.1))
  found (Some f) first =
      let g = first_is_told rows frames t behind Pairs f is.looked shown first in (
        λ r. raced.0 (place_in f.event) (place_in f.against) (first_new (races rows behind) race_own (place_in f.event) (place_in f.against) (g.race r)),
        λ r. let h = g.other r in (
          raced.1 (none_new (races rows behind) race_own h.0),
          quarrelled.0 (place_in f.event) (place_in f.against)
              (first_new (quarrels rows behind) quarrel_own (place_in f.event) (place_in f.against) h.1),
        ),
      )

pub first_is_found : FirstIsFound
first_is_found rows frames t old passed u ahead next before behind r is first = found rows frames t old passed u ahead next before behind is r first

-- ---- two lots
module _ (rows : List Row) (frames : List FrameRow) (t : Opened) where
  abbrev Lot : (Place → Place → Type 0) → Found → Type 0
  Lot Pairs = IsConflictIn frames rows t (ByPlaces Pairs)

  with_pair : (Pairs More : Place → Place → Type 0) (f : Found) (h : Lot Pairs f) → More h.one.place h.other.place → Lot More f
  with_pair Pairs More f h p = record {
    one = h.one;
    other = h.other;
    one_done = h.one_done;
    other_done = h.other_done;
    pair = p;
    apart = h.apart;
    of = h.of;
  }

  pub of_lots : (One Other All : Place → Place → Type 0) (a b : Option Found) → ((x y : Place) → One x y ⊎ Other x y → All x y) →
      ((x y : Place) → All x y → One x y ⊎ Other x y) → IsFirstOf frames (Lot One) a → IsFirstOf frames (Lot Other) b →
      IsFirstOf frames (Lot All) (first_found frames a b)
  of_lots One Other All a b there back first second =
      alike frames (λ f. Lot One f ⊎ Lot Other f) (Lot All) (first_found frames a b)
      (λ f one. ⊎_elim
      (λ h. with_pair One All f h (there h.one.place h.other.place (inl h.pair)))
      (λ h. with_pair Other All f h (there h.one.place h.other.place (inr h.pair))) one)
      (λ f h. ⊎_elim
      (λ p. inl (with_pair All One f h p))
      (λ p. inr (with_pair All Other f h p)) (back h.one.place h.other.place h.pair))
      (both frames (Lot One) (Lot Other) a b first second)

pub both_lots : BothLots
both_lots rows frames t n p a b first second =
    of_lots rows frames t (ToldPairs t.scope n Own_node) (λ x y. AreOfTwo t.scope p x.node y.node) (ToldPairs t.scope n (Operands_of p)) a b
    (λ x y h. h) (λ x y h. h) first second
