-- Two events of one node don't conflict, but for those of an assignment or a list.
use Rattle.std.proofs.Common.{◌≡◌, ◌⊎◌, inl, inr, ⊎_elim, ℕ, ◌<◌, ◌==◌, Bool, true, false, not, ◌&&◌, ◌||◌, List, []}
use Rattle.std.proofs.Common.{Some, refl, sym, ap, ap₂, subst, ◌∙◌, true≢false, arith}
use Rattle.std.proofs.lemmas.Bool.Decides.{nat_tests}
use Rattle.ub_base.specs.declared.clause.Kind.{Kind}
use Rattle.ub_base.specs.declared.clause.Kind.TheVariants.{Val, Eff, Body}
use Rattle.ub_base.specs.declared.names.Item.{Item}
use Rattle.addr_map.specs.Conflict.{some_conflict}
use Rattle.addr_map.specs.declared.map.Row.{Row}
use Rattle.c_typed.specs.declared.tree.Place.{Place}
use Rattle.c_typed.specs.declared.class.Class.{Class}
use Rattle.c_typed.specs.declared.class.Class.TheVariants.{Object, Constant, Plain, Store, Update, Choice, Comma, Call, Isolated}
use Rattle.c_typed.specs.Tree.{Tree, Trees, node, size, kinds_of}
use Rattle.c_typed.specs.Order.{Taken, is_body, is_due, own_rule, place}
use Rattle.c_typed.specs.Decide.{has_kind, is_before}
use Rattle.c_model.specs.Findings.{accesses}
use Rattle.c_model.specs.FirstFinding.{are_apart, quarrels, races}
use Rattle.c_model.specs.Keys.{kind_key}
use Rattle.c_model.specs.Moments.{Open}
use Rattle.c_model.proofs.Decided.{has_due}
use Rattle.elaborate.proofs.Listed.{and_l, and_r}
use Rattle.elaborate.proofs.Ranges.{eq_eq}
use Rattle.completion_laws.proofs.Ahead.{if_true}
use Rattle.finding_laws.specs.FirstPairs.{IsDue, place_key, precedes}
use Rattle.run_evaluations.specs.Scopes.{Scope, part_of}
use Rattle.run_evaluations.proofs.PartLemmas.{part_before}
use Rattle.run_evaluations.proofs.ToldLemmas.{due_part}
use Rattle.telling_laws.specs.OwnEvents.{OnlyStoresConflict}
use Rattle.telling_laws.proofs.New.{not_false}
use Rattle.telling_laws.proofs.Parts.{part_there}

-- ---- which events of a node are in no order
either_way : (c : Class) → (own_rule c Val Body || own_rule c Body Val) ≡ true
either_way Object = refl
either_way Constant = refl
either_way Plain = refl
either_way Store = refl
either_way Update = refl
either_way Choice = refl
either_way Comma = refl
either_way Call = refl
either_way Isolated = refl

value_effect : (c : Class) → has_kind (kinds_of c) Eff ≡ true → (c ≡ Store) ⊎ ((own_rule c Val Eff || own_rule c Eff Val) ≡ true)
value_effect Store h = inl refl
value_effect Update h = inr refl
value_effect Object h = absurd (cc)
value_effect Constant h = absurd (cc)
value_effect Plain h = absurd (cc)
value_effect Choice h = absurd (cc)
value_effect Comma h = absurd (cc)
value_effect Call h = absurd (cc)
value_effect Isolated h = absurd (cc)

not_both : (c : Class) → has_kind (kinds_of c) Eff ≡ true → has_kind (kinds_of c) Body ≡ true → ⊥
not_both Store h g = true≢false (sym g)
not_both Update h g = true≢false (sym g)
not_both Object h g = true≢false (sym h)
not_both Constant h g = true≢false (sym h)
not_both Plain h g = true≢false (sym h)
not_both Choice h g = true≢false (sym h)
not_both Comma h g = true≢false (sym h)
not_both Call h g = true≢false (sym h)
not_both Isolated h g = true≢false (sym h)

by_kinds : (c : Class) (a b : Kind) → has_kind (kinds_of c) a ≡ true → has_kind (kinds_of c) b ≡ true → kind_key a < kind_key b →
    ((c ≡ Store) × (a ≡ Val)) ⊎ ((own_rule c a b || own_rule c b a) ≡ true)
by_kinds c Val Eff h g l = ⊎_elim (λ e. inl (e, refl)) inr (value_effect c g)
by_kinds c Val Body h g l = inr (either_way c)
by_kinds c Eff Body h g l = absurd (not_both c h g)
by_kinds c Val Val h g l = absurd (omega (arith, l))
by_kinds c Eff Val h g l = absurd (omega (arith, l))
by_kinds c Eff Eff h g l = absurd (omega (arith, l))
by_kinds c Body Val h g l = absurd (omega (arith, l))
by_kinds c Body Eff h g l = absurd (omega (arith, l))
by_kinds c Body Body h g l = absurd (omega (arith, l))

own_before : (taken : Taken) (n : ℕ) (c : Class) (ts : Trees) (x y : Place) → x.node ≡ n → y.node ≡ n →
    is_before taken n (node c ts) x y ≡ own_rule c x.kind y.kind
own_before taken n c ts x y a b =
    if_true _ _ _ (subst (λ z. (x.node == z) ≡ true) a (eq_eq x.node))
    ∙ ap (λ z. z && own_rule c x.kind y.kind) (subst (λ z. (y.node == z) ≡ true) b (eq_eq y.node))

of_false : (b : Bool) → b ≡ true → not b ≡ false
of_false true h = refl
of_false false h = absurd (true≢false (sym h))

module _ (rows : List Row) (s : Scope) (o : Open) (n : ℕ) (tree : o.tree ≡ s.tree) (taken : o.taken ≡ s.taken) (x y : Place) (xn : x.node ≡ n)
    (yn : y.node ≡ n) where
  -- they stand in an order
  ordered : are_apart o x y ≡ false → (races rows o x y ≡ false) × (quarrels rows o x y ≡ false)
  ordered h = (
    not_false (races rows o x y)
        (λ r. true≢false (sym (and_l (are_apart o x y) _ (and_r (not (is_body x.kind || is_body y.kind)) _ r)) ∙ h)),
    not_false (quarrels rows o x y) (λ r. true≢false (sym (and_l (are_apart o x y) _ r) ∙ h)),
  )

  -- the first one has no items
  without : o.items x ≡ [] → (races rows o x y ≡ false) × (quarrels rows o x y ≡ false)
  without e = (
    not_false (races rows o x y) (λ r. let meet = and_r (o.shows x y) _ (and_r (are_apart o x y) _ (and_r (not (is_body x.kind || is_body y.kind)) _ r)) in
        true≢false (sym meet ∙ ap (λ (z : List Item). some_conflict rows (accesses z) (accesses (o.items y))) e)),
    not_false (quarrels rows o x y) (λ r. let meet = and_r (o.shows x y) _ (and_r (are_apart o x y) _ r) in
        true≢false (sym meet ∙ ap (λ (z : List Item). some_conflict rows z (o.items y)) e)),
  )

  kinds_rise : precedes x y ≡ true → kind_key x.kind < kind_key y.kind
  kinds_rise h = let less : place_key x < place_key y = grind (arith, nat_tests, h) in omega (arith, less, xn, yn)

  module _ (c : Class) (ts : Trees) (there : part_of s n ≡ Some (node c ts)) where
    kind_due : (w : Place) → w.node ≡ n → is_due o.tree o.taken w ≡ true → has_kind (kinds_of c) w.kind ≡ true
    kind_due w wn due =
        sym (if_true _ _ _ (subst (λ z. (w.node == z) ≡ true) wn (eq_eq w.node)))
        ∙ due_part s.taken 0 s.tree n w (node c ts) there (omega (arith, wn)) (omega (arith, wn))
        (sym (has_due s.taken s.tree 0 w) ∙ (ap₂ (λ (z : Taken) (t : Tree). is_due t z w) (sym taken) (sym tree) ∙ due))

    before_is : (v w : Place) → v.node ≡ n → w.node ≡ n → is_before o.taken 0 o.tree v w ≡ own_rule c v.kind w.kind
    before_is v w vn wn =
        ap₂ (λ (z : Taken) (t : Tree). is_before z 0 t v w) taken tree
        ∙ (part_before s.taken 0 s.tree n v w (node c ts) there (omega (arith, vn)) (omega (arith, vn)) (omega (arith, wn)) (omega (arith, wn))
        ∙ own_before s.taken n c ts v w vn wn)

    pub free : IsDue o x → IsDue o y → precedes x y ≡ true → ((us : Trees) → part_of s n ≡ Some (node Store us) → o.items (place n Val) ≡ []) →
        (races rows o x y ≡ false) × (quarrels rows o x y ≡ false)
    free dx dy order store = ⊎_elim
        (λ e. let is : place n Val ≡ x = (λ i. record { node = sym xn i; kind = sym e.1 i }) in
        without (ap o.items (sym is) ∙ store ts (subst (λ z. part_of s n ≡ Some (node z ts)) e.0 there)))
        (λ r. ordered (of_false _ (ap₂ (λ a b. a || b) (before_is x y xn yn) (before_is y x yn xn) ∙ r)))
        (by_kinds c x.kind y.kind (kind_due x xn dx.due) (kind_due y yn dy.due) (kinds_rise order))

pub only_stores_conflict : OnlyStoresConflict
only_stores_conflict rows s o n tree taken store x y dx dy order xn yn =
    let w = dx.within in
    let e = ap size tree in
    let r = part_there s.tree 0 n (omega arith) (omega (arith, w, e, xn)) in
    with_part r.0 r.1
  where
    with_part : (t : Tree) → part_of s n ≡ Some t → (races rows o x y ≡ false) × (quarrels rows o x y ≡ false)
    with_part (node c ts) there = free rows s o n tree taken x y xn yn c ts there dx dy order store
