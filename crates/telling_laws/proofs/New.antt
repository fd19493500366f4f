-- What passes a test with an event, where nothing passed it before, newly shows.
use Rattle.std.proofs.Common.{◌≡◌, ◌⊎◌, inl, inr, ⊎_elim, ◌<◌, ◌≤◌, Bool, true, false, not, ◌&&◌, ◌||◌, List, [], ◌∷◌, refl, sym, ap, ap₂}
use Rattle.std.proofs.Common.{◌∙◌, true≢false, arith}
use Rattle.std.proofs.lemmas.Bool.Decides.{nat_tests}
use Rattle.ub_base.specs.declared.clause.Kind.{Kind}
use Rattle.ub_base.specs.declared.clause.Kind.TheVariants.{Val, Eff, Body}
use Rattle.ub_base.specs.declared.names.Item.{Item}
use Rattle.addr_map.specs.declared.map.Row.{Row}
use Rattle.addr_map.specs.Conflict.{some_conflict}
use Rattle.c_typed.specs.declared.tree.Place.{Place}
use Rattle.c_typed.specs.Tree.{Tree, size}
use Rattle.c_typed.specs.Order.{Taken, events, has, is_body, is_due}
use Rattle.c_typed.specs.Decide.{is_before}
use Rattle.c_model.specs.Findings.{accesses}
use Rattle.c_model.specs.FirstFinding.{are_apart, quarrels, races}
use Rattle.c_model.specs.Keys.{kind_key}
use Rattle.c_model.specs.Moments.{Open}
use Rattle.c_model.proofs.Updates.{before_kept}
use Rattle.elaborate.proofs.Listed.{and_l, and_r}
use Rattle.elaborate.proofs.Ranges.{and_b, has_left}
use Rattle.finding_laws.specs.FirstPairs.{IsDue, IsFirstPair, NoPair, place_key, precedes}
use Rattle.run_evaluations.specs.Scopes.{Scope}
use Rattle.telling_laws.specs.Newly.{IsPair, IsTaken, had_shown}
use Rattle.telling_laws.specs.OnlyNew.{AreAround, IsNew, IsFirstAmong, NoneAmong, OnlyNewRace, OnlyNewQuarrel, NothingPasses, NothingAtFirst}
use Rattle.telling_laws.proofs.Shown.{shows_newly, shown_are_done}

-- ---- the order of places is that of their nodes first
pub key_small : (k : Kind) → kind_key k < 3
key_small Val = omega arith
key_small Eff = omega arith
key_small Body = omega arith

pub node_order : (x y : Place) → precedes x y ≡ true → x.node ≤ y.node
node_order x y h =
    let a = key_small x.kind in
    let b = key_small y.kind in
    let less : place_key x < place_key y = grind (arith, nat_tests, h) in
    omega (arith, less, a, b)

pub pair_of : (s : Scope) (o : Open) (x y : Place) → o.tree ≡ s.tree → o.taken ≡ s.taken → IsDue o x → IsDue o y → precedes x y ≡ true → IsPair s x y
pair_of s o x y tree taken dx dy order = record {
  first = ap₂ (λ (t : Tree) (c : Taken). is_due t c x) (sym tree) (sym taken) ∙ dx.due;
  second = ap₂ (λ (t : Tree) (c : Taken). is_due t c y) (sym tree) (sym taken) ∙ dy.due;
  order = node_order x y order;
}

-- ---- more choices leave no two events apart that weren't
pub not_false : (b : Bool) → (b ≡ true → ⊥) → b ≡ false
not_false true f = absurd (f refl)
not_false false f = refl

pub neither : (a b : Bool) → not (a || b) ≡ true → (a ≡ false) × (b ≡ false)
neither true b h = absurd (true≢false (sym h))
neither false true h = absurd (true≢false (sym h))
neither false false h = (refl, refl)

pub not_any : (a b : Bool) → a ≡ false → b ≡ false → not (a || b) ≡ true
not_any true b h g = absurd (true≢false h)
not_any false true h g = absurd (true≢false g)
not_any false false h g = refl

module _ (s : Scope) (old : Taken) (passed : List Place) (u : Place) (before behind : Open) (around : AreAround s old passed u before behind) where
  still_before : (x y : Place) → is_before before.taken 0 before.tree x y ≡ true → is_before behind.taken 0 behind.tree x y ≡ true
  still_before x y h =
      ap₂ (λ (c : Taken) (t : Tree). is_before c 0 t x y) around.taken around.tree
      ∙ before_kept old s.taken (λ n i e. around.grows n i e) s.tree 0 x y
      (ap₂ (λ (c : Taken) (t : Tree). is_before c 0 t x y) (sym around.taken_before) (sym around.tree_before) ∙ h)

  apart_before : (x y : Place) → are_apart behind x y ≡ true → are_apart before x y ≡ true
  apart_before x y h =
      let n = neither _ _ h in
      not_any _ _
      (not_false _ (λ e. true≢false (sym (still_before x y e) ∙ n.0)))
      (not_false _ (λ e. true≢false (sym (still_before y x e) ∙ n.1)))

  -- what had shown before, of the events that were done
  pub record Had (x y : Place) : Type 0 where
    pub first : IsDue before x
    pub second : IsDue before y
    pub shows : before.shows x y ≡ true
    pub items : (before.items x ≡ behind.items x) × (before.items y ≡ behind.items y)

  module _ (ahead next : List Place) (is : IsTaken s old passed u ahead next) where
    due_before : (w : Place) → has passed w ≡ true → IsDue behind w → IsDue before w
    due_before w done d = record {
      due = ap₂ (λ (c : Taken) (t : Tree). is_due t c w) around.taken_before around.tree_before
          ∙ (ap (λ z. has z w) is.before ∙ has_left passed (u ∷ ahead) w done);
      within = (let e = ap size (around.tree_before ∙ sym around.tree) in let l = d.within in omega (arith, e, l));
    }

    had : (x y : Place) → IsDue behind x → IsDue behind y → had_shown s old passed x y ≡ true → Had x y
    had x y dx dy h =
        let a = and_l (has passed x) _ (and_l (has passed x && has passed y) _ h) in
        let b = and_r (has passed x) _ (and_l (has passed x && has passed y) _ h) in
        record {
          first = due_before x a dx;
          second = due_before y b dy;
          shows = ap (λ f. f x y) around.shows_before ∙ and_r (has passed x && has passed y) _ h;
          items = (sym (around.items x a), sym (around.items y b));
        }

    pub cases : (x y : Place) → IsDue behind x → IsDue behind y → precedes x y ≡ true → behind.shows x y ≡ true → Had x y ⊎ IsNew s passed u x y
    cases x y dx dy order shown =
        ⊎_elim (λ h. inl (had x y dx dy h)) inr
        ((shows_newly s old passed u ahead next x y is (pair_of s behind x y around.tree around.taken dx dy order)).0
        (sym (ap (λ f. f x y) around.shows) ∙ shown))

    -- ---- races and quarrels
    raced : (rows : List Row) (x y : Place) → Had x y → races rows behind x y ≡ true → races rows before x y ≡ true
    raced rows x y h r =
        let a = and_l (not (is_body x.kind || is_body y.kind)) _ r in
        let b = and_r (not (is_body x.kind || is_body y.kind)) _ r in
        let c = and_l (are_apart behind x y) _ b in
        let d = and_r (behind.shows x y) _ (and_r (are_apart behind x y) _ b) in
        and_b _ _ a (and_b _ _ (apart_before x y c) (and_b _ _ h.shows
        (ap₂ (λ (p q : List Item). some_conflict rows (accesses p) (accesses q)) h.items.0 h.items.1 ∙ d)))

    quarrelled : (rows : List Row) (x y : Place) → Had x y → quarrels rows behind x y ≡ true → quarrels rows before x y ≡ true
    quarrelled rows x y h r =
        let c = and_l (are_apart behind x y) _ r in
        let d = and_r (behind.shows x y) _ (and_r (are_apart behind x y) _ r) in
        and_b _ _ (apart_before x y c) (and_b _ _ h.shows
        (ap₂ (λ (p q : List Item). some_conflict rows p q) h.items.0 h.items.1 ∙ d))

    -- ---- of any test that only what shows passes
    module _ (test : Open → Place → Place → Bool) (shown : (x y : Place) → test behind x y ≡ true → behind.shows x y ≡ true)
        (passed_it : (x y : Place) → Had x y → test behind x y ≡ true → test before x y ≡ true) (none : NoPair before (test before)) where
      is_new : (x y : Place) → IsDue behind x → IsDue behind y → precedes x y ≡ true → test behind x y ≡ true → IsNew s passed u x y
      is_new x y dx dy order h =
          ⊎_elim (λ g. absurd (true≢false (sym (passed_it x y g h) ∙ none x y g.first g.second order))) (λ g. g)
          (cases x y dx dy order (shown x y h))

      pub only_new : ((x y : Place) → IsFirstAmong behind (IsNew s passed u) (test behind) x y → IsFirstPair behind (test behind) x y) ×
          (NoneAmong behind (IsNew s passed u) (test behind) → NoPair behind (test behind))
      only_new = (
        λ x y f. record {
          first = f.first;
          second = f.second;
          order = f.order;
          passes = f.passes;
          least = λ v w dv dw order h. f.least v w dv dw order (is_new v w dv dw order h) h;
        },
        λ f x y dx dy order. not_false (test behind x y) (λ h. true≢false (sym h ∙ f x y dx dy order (is_new x y dx dy order h))),
      )

shown_of_race : (rows : List Row) (o : Open) (x y : Place) → races rows o x y ≡ true → o.shows x y ≡ true
shown_of_race rows o x y h =
    and_l (o.shows x y) _ (and_r (are_apart o x y) _ (and_r (not (is_body x.kind || is_body y.kind)) _ h))

shown_of_quarrel : (rows : List Row) (o : Open) (x y : Place) → quarrels rows o x y ≡ true → o.shows x y ≡ true
shown_of_quarrel rows o x y h = and_l (o.shows x y) _ (and_r (are_apart o x y) _ h)

pub only_new_race : OnlyNewRace
only_new_race rows s old passed u ahead next before behind is around none =
    only_new s old passed u before behind around ahead next is (races rows) (shown_of_race rows behind)
    (raced s old passed u before behind around ahead next is rows) none

pub only_new_quarrel : OnlyNewQuarrel
only_new_quarrel rows s old passed u ahead next before behind is around none =
    only_new s old passed u before behind around ahead next is (quarrels rows) (shown_of_quarrel rows behind)
    (quarrelled s old passed u before behind around ahead next is rows) none

-- ---- as it begins
nothing_passes : (test : Open → Place → Place → Bool) → ((o : Open) (x y : Place) → test o x y ≡ true → o.shows x y ≡ true) → NothingPasses test
nothing_passes test shown s o formed tree taken shows x y dx dy order = not_false (test o x y) (λ h.
    let d = shown_are_done s [] (events s.taken 0 s.tree) x y formed refl (pair_of s o x y tree taken dx dy order)
    (sym (ap (λ f. f x y) shows) ∙ shown o x y h) in
    true≢false (sym d.0))

pub nothing_at_first : NothingAtFirst
nothing_at_first rows = (nothing_passes (races rows) (shown_of_race rows), nothing_passes (quarrels rows) (shown_of_quarrel rows))
