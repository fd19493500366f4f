-- What is left out of a quiet full expression clashes with nothing that it stands apart from.
use Rattle.std.proofs.Common.{◌≡◌, ◌⊎◌, ◌+◌, inl, inr, ⊎_elim, ℕ, suc, Bool, true, false, ◌&&◌, ◌||◌, ◌==◌, nat_lt, List, refl, sym, ap, ◌∙◌, subst, arith}
use Rattle.std.proofs.Common.{Option}
use Rattle.ub_base.proofs.Tests.{if_true, if_false, number_other, and_right}
use Rattle.ub_base.specs.declared.names.Item.{Item}
use Rattle.ub_base.specs.Names.{same_kind}
use Rattle.ub_base.specs.declared.clause.Kind.{Kind}
use Rattle.ub_base.specs.declared.clause.Kind.TheVariants.{Val, Eff, Body}
use Rattle.addr_map.specs.Conflict.{stands_at}
use Rattle.addr_map.specs.declared.map.Row.{Row}
use Rattle.c_typed.specs.declared.tree.Place.{Place}
use Rattle.c_typed.specs.declared.class.Class.{Class}
use Rattle.c_typed.specs.declared.class.Class.TheVariants.{Call, Isolated}
use Rattle.c_typed.specs.Tree.{Tree, Trees, node, none, more, size, kinds_of}
use Rattle.c_typed.specs.Order.{Taken, goes, is_body, same_place}
use Rattle.c_typed.specs.Decide.{due_among, due_in, has_kind}
use Rattle.quiet_trees.specs.Acts.{Act, act_among, act_by, act_in, may_clash}
use Rattle.quiet_trees.specs.Acts as act
use Rattle.quiet_trees.specs.Items.{QuietItems, is_noted}
use Rattle.quiet_trees.specs.Loads.{Loads, LoadsList, below, first, is_load, rest}
use Rattle.quiet_trees.specs.Quiet.{IsQuiet}
use Rattle.evaluation_log.specs.declared.sought.Sought.TheVariants.{Any}
use Rattle.evaluation_log.specs.Clashes.{NoClash}
use Rattle.run_evaluations.specs.Scopes.{Scope}
use Rattle.run_evaluations.specs.Shows.{AreApart, AreOfTwo, IsAmong, IsIn}
use Rattle.run_evaluations.specs.Told.{Evaluation, IsUnder, Opened, has}
use Rattle.run_evaluations.proofs.ShowLemmas.{same_operand}
use Rattle.conflict_detector.specs.Parts.{AllSuit, IsLeftOut, IsPart, LeavesNone, PartsShow}

by_test : {A : Type 0} (b : Bool) → (b ≡ true → A) → (b ≡ false → A) → A
by_test true one other = one refl
by_test false one other = other refl

-- ---- a body may clash with everything
body_class : (class : Class) (l : Bool) → has_kind (kinds_of class) Body ≡ true → act_by class l Body ≡ act.All
body_class Call l h = refl
body_class Isolated l h = refl
body_class _ l h = absurd (cc)

body_kind : (class : Class) (l : Bool) (kind : Kind) → has_kind (kinds_of class) kind ≡ true → is_body kind ≡ true → act_by class l kind ≡ act.All
body_kind class l Body h b = body_class class l h
body_kind class l Val h b = absurd (cc)
body_kind class l Eff h b = absurd (cc)

module _ (taken : Taken) (u : Place) (body : is_body u.kind ≡ true) where
  mutual
    body_acts : (k : ℕ) (t : Tree) (f : Loads) → due_in taken k t u ≡ true → act_in k t f u ≡ act.All
    body_acts k (node class ts) f h = by_test (u.node == k)
        (λ e. if_true _ _ _ e ∙ body_kind class (is_load f) u.kind (sym (if_true _ _ _ e) ∙ h) body)
        (λ e. if_false _ _ _ e ∙ bodies_act class (taken k) 0 (suc k) ts (below f) (sym (if_false _ _ _ e) ∙ h))

    bodies_act : (class : Class) (choice : Option ℕ) (i m : ℕ) (ts : Trees) (fs : LoadsList) → due_among taken class choice i m ts u ≡ true →
        act_among m ts fs u ≡ act.All
    bodies_act class choice i m none fs h = absurd (cc)
    bodies_act class choice i m (more t ts) fs h = by_test (nat_lt u.node (m + size t))
        (λ e. if_true _ _ _ e ∙ body_acts m t (first fs) (and_right (goes class choice i) (due_in taken m t u) (sym (if_true _ _ _ e) ∙ h)))
        (λ e. if_false _ _ _ e ∙ bodies_act class choice (suc i) (m + size t) ts (rest fs) (sym (if_false _ _ _ e) ∙ h))

all_clash : (a b : Act) → a ≡ act.All → may_clash a b ≡ false → ⊥
all_clash a b e c = let q : true ≡ false = sym (ap (λ z. may_clash z b) e) ∙ c in absurd (cc)

clash_all : (a b : Act) → b ≡ act.All → may_clash a b ≡ false → ⊥
clash_all a b e c = let q = sym (ap (λ z. may_clash a z) e) ∙ c in with_all a q
  where
    with_all : (a : Act) → may_clash a act.All ≡ false → ⊥
    with_all act.Nothing h = absurd (cc)
    with_all act.Reads h = absurd (cc)
    with_all act.Writes h = absurd (cc)
    with_all act.All h = absurd (cc)

-- ---- two evaluations
own_of : (e : Evaluation) (j : Item) → e.body j ≡ false → has e j ≡ true → e.own j ≡ true
own_of e j b h = own_or (e.own j) (e.body j) b h
  where
    own_or : (x y : Bool) → y ≡ false → (x || y) ≡ true → x ≡ true
    own_or true y e h = refl
    own_or false y e h = absurd (let q = sym e ∙ h in cc)

left_false : (x y : Bool) → x ≡ false → (x && y) ≡ false
left_false x y e = ap (λ z. z && y) e

right_false : (x y : Bool) → y ≡ false → (x && y) ≡ false
right_false true y e = e
right_false false y e = refl

-- what two of the kinds touch that they have doesn't conflict, if one of them has no noted items
pub leaves_none : QuietItems → LeavesNone
leaves_none law t f rows d e quiet of_d of_e other apart out i j clash =
    let a = act_in 0 t.scope.tree f d.place in
    let b = act_in 0 t.scope.tree f e.place in
    let c : may_clash a b ≡ false = quiet t.scope.taken d.place e.place of_d.due of_e.due other apart.before apart.behind in
    let plain_d : is_body d.place.kind ≡ false = by_test (is_body d.place.kind)
    (λ h. absurd (all_clash a b (body_acts t.scope.taken d.place h 0 t.scope.tree f of_d.due) c)) (λ h. h) in
    let plain_e : is_body e.place.kind ≡ false = by_test (is_body e.place.kind)
    (λ h. absurd (clash_all a b (body_acts t.scope.taken e.place h 0 t.scope.tree f of_e.due) c)) (λ h. h) in
    let own_i = own_of d i (of_d.bodiless plain_d i) clash.0 in
    let own_j = own_of e j (of_e.bodiless plain_e j) clash.1 in
    let noted : (is_noted i && is_noted j) ≡ false = ⊎_elim
    (λ l. left_false (is_noted i) (is_noted j) (l.plain i own_i))
    (λ l. right_false (is_noted i) (is_noted j) (l.plain j own_j)) out in
    let no = law (stands_at rows) a b i j c (of_d.suits i own_i) (of_e.suits j own_j) noted in
    absurd (let q : true ≡ false = sym clash.2 ∙ no in cc)

-- ---- the part and the whole
node_other : (u v : Place) → (u.node ≡ v.node → ⊥) → same_place u v ≡ false
node_other u v h = left_false (u.node == v.node) (same_kind u.kind v.kind) (number_other u.node v.node h)

apart_nodes : (rows : List Row) (k t : Opened) (f : Loads) → QuietItems → IsQuiet t.scope.tree f → IsPart k t → AllSuit t f → (d e : Evaluation) →
    IsAmong t d → IsAmong t e → (d.place.node ≡ e.place.node → ⊥) → AreApart t.scope d.place e.place →
    (IsAmong k d → IsAmong k e → NoClash Any rows (has d) (has e)) → NoClash Any rows (has d) (has e)
apart_nodes rows k t f law quiet part suit d e in_d in_e other apart both_kept = decide (part.rest d in_d) (part.rest e in_e)
  where
    decide : (IsAmong k d ⊎ IsLeftOut d) → (IsAmong k e ⊎ IsLeftOut e) → NoClash Any rows (has d) (has e)
    decide (inl kept_d) (inl kept_e) = both_kept kept_d kept_e
    decide (inl kept_d) (inr out) =
        leaves_none law t f rows d e quiet (suit d in_d) (suit e in_e) (node_other d.place e.place other) apart (inr out)
    decide (inr out) kept = leaves_none law t f rows d e quiet (suit d in_d) (suit e in_e) (node_other d.place e.place other) apart (inl out)

-- nodes of two operands are two
two_nodes : (s : Scope) (n x y : ℕ) → AreOfTwo s n x y → x ≡ y → ⊥
two_nodes s n x y two e =
    let same = same_operand s n two.first two.second x two.of_first two.of_second two.in_first (subst (λ (z : ℕ). IsIn s two.second z) (sym e) two.in_second) in
    let rise = two.rise in
    absurd (omega (arith, same, rise))

pub parts_show : QuietItems → PartsShow
parts_show law k t f rows n quiet part suit = (
  λ none d e in_d in_e two apart. apart_nodes rows k t f law quiet part suit d e in_d in_e (two_nodes t.scope n d.place.node e.place.node two) apart
      (λ kept_d kept_e. none d e kept_d kept_e
      (subst (λ (s : Scope). AreOfTwo s n d.place.node e.place.node) (sym part.scope) two)
      (subst (λ (s : Scope). AreApart s d.place e.place) (sym part.scope) apart)),
  λ none d e in_d in_e own under apart. apart_nodes rows k t f law quiet part suit d e in_d in_e
      (λ same. absurd (let low = under.low in omega (arith, own, same, low))) apart
      (λ kept_d kept_e. none d e kept_d kept_e own
      (subst (λ (s : Scope). IsUnder s n e.place.node) (sym part.scope) under)
      (subst (λ (s : Scope). AreApart s d.place e.place) (sym part.scope) apart)),
)
