-- Choices of nodes that aren't evaluated change nothing.
use Rattle.std.proofs.Common.{◌≡◌, ℕ, suc, ◌+◌, Bool, true, false, not, ◌&&◌, ◌||◌, ◌==◌, if◌then◌else◌, List, [], ◌∷◌, ◌++◌, Option, refl, sym, ap, ap₂, subst}
use Rattle.std.proofs.Common.{◌∙◌, inl, inr, true≢false, arith}
use Rattle.std.specs.List.{list_all}
use Rattle.ub_base.specs.declared.clause.Kind.{Kind}
use Rattle.ub_base.specs.declared.clause.Kind.TheVariants.{Val, Eff, Body}
use Rattle.c_typed.specs.declared.tree.Place.{Place}
use Rattle.c_typed.specs.declared.class.Class.{Class}
use Rattle.c_typed.specs.declared.class.Class.TheVariants.{Comma, Choice, Call}
use Rattle.c_typed.specs.Tree.{Tree, node, Trees, none, more, size, is_quiet, kinds_of}
use Rattle.c_typed.specs.Order.{Taken, goes, place, same_place, own_events, own_rule, events, operand_events, is_choice, is_val, is_body, is_last, has, across}
use Rattle.c_typed.specs.Order.{upward, in_later, comes, operand_rules, Before, rule, chain, IsPermitted, update_is_open, operand_is_open}
use Rattle.c_typed.specs.Decide.{has_kind, due_in, due_among, is_before, is_ready, earlier_done, is_permitted, first_place}
use Rattle.c_model.proofs.Ranks.{lt_lt, ge_lt, if_true, if_false, and_l, and_r, or_cases, eq_eq, events_in}
use Rattle.c_model.proofs.Decided.{and_b, or_a, or_b, ne_eq, has_due, among_range}
use Rattle.c_model.proofs.Closed.{before_due, before_found, found_before}
use Rattle.c_model.proofs.Listed.{same_place_itself, same_place_eq}
use Rattle.listing_laws.specs.Due.{AgreeWhereDue, ListsAlike, PermitsAlike, TakesAlike, DecidesPermitted}

-- ---- nodes that are no choice
goes_plain : (class : Class) (c d : Option ℕ) (i : ℕ) → is_choice class ≡ false → goes class c i ≡ goes class d i
goes_plain Choice c d i h = absurd (true≢false h)
goes_plain _ c d i h = refl

across_plain : (class : Class) (c d : Option ℕ) (i j : ℕ) → is_choice class ≡ false → across class c i j ≡ across class d i j
across_plain Choice c d i j h = absurd (true≢false h)
across_plain _ c d i j h = refl

upward_plain : (class : Class) (c d : Option ℕ) (i : ℕ) (last : Bool) (kind : Kind) → is_choice class ≡ false →
    upward class c i last kind ≡ upward class d i last kind
upward_plain Choice c d i last kind h = absurd (true≢false h)
upward_plain Comma c d i last Val h = refl
upward_plain Call c d i last Body h = refl
upward_plain _ c d i last kind h = refl

plain_events : (s : Taken) (ts : Trees) (class : Class) (c d : Option ℕ) (i m : ℕ) → is_choice class ≡ false →
    operand_events s class c i m ts ≡ operand_events s class d i m ts
plain_events s none class c d i m h = refl
plain_events s (more t ts) class c d i m h =
    ap₂ (λ b us. (if b then events s m t else []) ++ us) (goes_plain class c d i h) (plain_events s ts class c d (suc i) (m + size t) h)

plain_later : (s : Taken) (ts : Trees) (class : Class) (c d : Option ℕ) (i j m : ℕ) (v : Place) → is_choice class ≡ false →
    in_later s class c i j m ts v ≡ in_later s class d i j m ts v
plain_later s none class c d i j m v h = refl
plain_later s (more t ts) class c d i j m v h =
    ap₂ (λ a b. (a && has (events s m t) v) || b) (across_plain class c d i j h) (plain_later s ts class c d i (suc j) (m + size t) v h)

-- how a node with this operand orders
abbrev order_of : (goes_on : Bool) (value : Bool) (has_u : Bool) (up : Bool) (later : Bool) (inside : Bool) → Bool
order_of goes_on value has_u up later inside = goes_on && (value || ((has_u && (up || later)) || inside))

plain_rules : (s : Taken) (ts : Trees) (class : Class) (c d : Option ℕ) (k i m : ℕ) (u v : Place) → is_choice class ≡ false →
    operand_rules s class c k i m ts u v ≡ operand_rules s class d k i m ts u v
plain_rules s none class c d k i m u v h = refl
plain_rules s (more t ts) class c d k i m u v h =
    let value : Bool = (u.node == m) && (is_val u.kind && (not (is_quiet t) && ((v.node == k) && not (is_body v.kind)))) in
    let has_u : Bool = has (events s m t) u in
    let inside : Bool = comes s m t u v in
    ap (λ b. order_of b value has_u ((v.node == k) && upward class c i (is_last ts) v.kind) (in_later s class c i (suc i) (m + size t) ts v) inside
    || operand_rules s class c k (suc i) (m + size t) ts u v) (goes_plain class c d i h)
    ∙ ap (λ b. order_of (goes class d i) value has_u ((v.node == k) && b) (in_later s class c i (suc i) (m + size t) ts v) inside
    || operand_rules s class c k (suc i) (m + size t) ts u v) (upward_plain class c d i (is_last ts) v.kind h)
    ∙ ap₂ (λ a b. order_of (goes class d i) value has_u ((v.node == k) && upward class d i (is_last ts) v.kind) a inside || b)
    (plain_later s ts class c d i (suc i) (m + size t) v h) (plain_rules s ts class c d k (suc i) (m + size t) u v h)

plain_open : (s : Taken) (done : Place → Bool) (ts : Trees) (class : Class) (c d : Option ℕ) (i m : ℕ) → is_choice class ≡ false →
    operand_is_open s done class c i m ts ≡ operand_is_open s done class d i m ts
plain_open s done none class c d i m h = refl
plain_open s done (more t ts) class c d i m h =
    ap₂ (λ a b. (a && update_is_open s done m t) || b) (goes_plain class c d i h) (plain_open s done ts class c d (suc i) (m + size t) h)

-- an operand that another one comes before is evaluated
across_goes : (class : Class) (c : Option ℕ) (i j : ℕ) → across class c i j ≡ true → goes class c j ≡ true
across_goes Comma c i j h = refl
across_goes Choice c i j h = or_b (j == 0) _ (and_r (i == 0) _ h)
across_goes _ c i j h = absurd (true≢false (sym h))

choice_val : (class : Class) → is_choice class ≡ true → has_kind (kinds_of class) Val ≡ true
choice_val Choice h = refl
choice_val _ h = absurd (true≢false (sym h))

if_both : (b : Bool) (us vs : List Place) → (b ≡ true → us ≡ vs) → (if b then us else []) ≡ (if b then vs else [])
if_both true us vs f = f refl
if_both false us vs f = refl

and_both : (b x y : Bool) → (b ≡ true → x ≡ y) → (b && x) ≡ (b && y)
and_both true x y f = f refl
and_both false x y f = refl

module _ (taken other : Taken) where
  abbrev Agree : Tree → ℕ → Type 0
  Agree t k = (n : ℕ) → due_in taken k t (place n Val) ≡ true → other n ≡ taken n

  abbrev AgreeAmong : Trees → Class → Option ℕ → ℕ → ℕ → Type 0
  AgreeAmong ts class c i m = (n : ℕ) → due_among taken class c i m ts (place n Val) ≡ true → other n ≡ taken n

  below_root : (class : Class) (ts : Trees) (k : ℕ) → Agree (node class ts) k → AgreeAmong ts class (taken k) 0 (suc k)
  below_root class ts k f n d =
      let r = among_range taken class (taken k) ts 0 (suc k) (place n Val) d in
      f n (if_false (n == k) _ _ (ne_eq n k (λ q. let l = r.0 in omega (arith, q, l))) ∙ d)

  in_first : (t : Tree) (ts : Trees) (class : Class) (c : Option ℕ) (i m : ℕ) → AgreeAmong (more t ts) class c i m → goes class c i ≡ true → Agree t m
  in_first t ts class c i m f g n d =
      let r = events_in taken t m (place n Val) (has_due taken t m (place n Val) ∙ d) in
      f n (if_true _ _ _ (lt_lt n (m + size t) (let h = r.1 in omega (arith, h))) ∙ and_b _ _ g d)

  in_rest : (t : Tree) (ts : Trees) (class : Class) (c : Option ℕ) (i m : ℕ) → AgreeAmong (more t ts) class c i m → AgreeAmong ts class c (suc i) (m + size t)
  in_rest t ts class c i m f n d =
      let r = among_range taken class c ts (suc i) (m + size t) (place n Val) d in
      f n (if_false _ _ _ (ge_lt n (m + size t) (let h = r.0 in omega (arith, h))) ∙ d)

  -- what looks at the choice of the root
  by_choice : {A : Type 0} (class : Class) (ts : Trees) (k : ℕ) (look : Option ℕ → A) → Agree (node class ts) k
      → ((c d : Option ℕ) → is_choice class ≡ false → look c ≡ look d) → look (other k) ≡ look (taken k)
  by_choice class ts k look f g = go (is_choice class) refl
    where
      go : (b : Bool) → is_choice class ≡ b → look (other k) ≡ look (taken k)
      go true e = ap look (f k (if_true (k == k) _ _ (eq_eq k k refl) ∙ choice_val class e))
      go false e = g (other k) (taken k) e

  mutual
    same_events : (t : Tree) (k : ℕ) → Agree t k → events other k t ≡ events taken k t
    same_events (node class ts) k f =
        ap (λ us. us ++ own_events k class)
        (by_choice class ts k (λ c. operand_events other class c 0 (suc k) ts) f (λ c d h. plain_events other ts class c d 0 (suc k) h)
        ∙ same_operands ts class (taken k) 0 (suc k) (below_root class ts k f))

    same_operands : (ts : Trees) (class : Class) (c : Option ℕ) (i m : ℕ) → AgreeAmong ts class c i m →
        operand_events other class c i m ts ≡ operand_events taken class c i m ts
    same_operands none class c i m f = refl
    same_operands (more t ts) class c i m f =
        ap₂ (λ us vs. us ++ vs) (if_both (goes class c i) _ _ (λ g. same_events t m (in_first t ts class c i m f g)))
        (same_operands ts class c (suc i) (m + size t) (in_rest t ts class c i m f))

  same_later : (ts : Trees) (class : Class) (c : Option ℕ) (i j m : ℕ) (v : Place) → AgreeAmong ts class c j m →
      in_later other class c i j m ts v ≡ in_later taken class c i j m ts v
  same_later none class c i j m v f = refl
  same_later (more t ts) class c i j m v f =
      ap₂ (λ a b. a || b)
      (and_both (across class c i j) _ _
      (λ g. ap (λ us. has us v) (same_events t m (in_first t ts class c j m f (across_goes class c i j g)))))
      (same_later ts class c i (suc j) (m + size t) v (in_rest t ts class c j m f))

  mutual
    same_comes : (t : Tree) (k : ℕ) (u v : Place) → Agree t k → comes other k t u v ≡ comes taken k t u v
    same_comes (node class ts) k u v f =
        ap (λ b. ((u.node == k) && ((v.node == k) && own_rule class u.kind v.kind)) || b)
        (by_choice class ts k (λ c. operand_rules other class c k 0 (suc k) ts u v) f (λ c d h. plain_rules other ts class c d k 0 (suc k) u v h)
        ∙ same_rules ts class (taken k) k 0 (suc k) u v (below_root class ts k f))

    same_rules : (ts : Trees) (class : Class) (c : Option ℕ) (k i m : ℕ) (u v : Place) → AgreeAmong ts class c i m →
        operand_rules other class c k i m ts u v ≡ operand_rules taken class c k i m ts u v
    same_rules none class c k i m u v f = refl
    same_rules (more t ts) class c k i m u v f =
        let value : Bool = (u.node == m) && (is_val u.kind && (not (is_quiet t) && ((v.node == k) && not (is_body v.kind)))) in
        let up : Bool = (v.node == k) && upward class c i (is_last ts) v.kind in
        let rest = in_rest t ts class c i m f in
        ap₂ (λ a b. a || b)
        (and_both (goes class c i) _ _ (λ g.
        let first = in_first t ts class c i m f g in
        ap (λ us. value || ((has us u && (up || in_later other class c i (suc i) (m + size t) ts v)) || comes other m t u v)) (same_events t m first)
        ∙ ap₂ (λ a b. value || ((has (events taken m t) u && (up || a)) || b)) (same_later ts class c i (suc i) (m + size t) v rest)
        (same_comes t m u v first)))
        (same_rules ts class c k (suc i) (m + size t) u v rest)

  mutual
    same_open : (done : Place → Bool) (t : Tree) (k : ℕ) → Agree t k → update_is_open other done k t ≡ update_is_open taken done k t
    same_open done (node class ts) k f =
        ap (λ b. (own_rule class Val Eff && (done (place k Val) && not (done (place k Eff)))) || b)
        (by_choice class ts k (λ c. operand_is_open other done class c 0 (suc k) ts) f (λ c d h. plain_open other done ts class c d 0 (suc k) h)
        ∙ same_operands_open done ts class (taken k) 0 (suc k) (below_root class ts k f))

    same_operands_open : (done : Place → Bool) (ts : Trees) (class : Class) (c : Option ℕ) (i m : ℕ) → AgreeAmong ts class c i m →
        operand_is_open other done class c i m ts ≡ operand_is_open taken done class c i m ts
    same_operands_open done none class c i m f = refl
    same_operands_open done (more t ts) class c i m f =
        ap₂ (λ a b. a || b) (and_both (goes class c i) _ _ (λ g. same_open done t m (in_first t ts class c i m f g)))
        (same_operands_open done ts class c (suc i) (m + size t) (in_rest t ts class c i m f))

agree_in : (root : Tree) (taken other : Taken) → AgreeWhereDue root taken other → Agree taken other root 0
agree_in root taken other f n d = f n (has_due taken root 0 (place n Val) ∙ d)

pub lists_alike : ListsAlike
lists_alike root taken other f = same_events taken other root 0 (agree_in root taken other f)

-- ---- what is permitted
all_at : (test : Place → Bool) (us : List Place) (v : Place) → list_all test us ≡ true → has us v ≡ true → test v ≡ true
all_at test [] v h g = absurd (true≢false (sym g))
all_at test (u ∷ us) v h g = elim (or_cases (same_place v u) _ g) [
  | inl e ↦ subst (λ z. test z ≡ true) (sym (same_place_eq v u e)) (and_l (test u) _ h)
  | inr e ↦ all_at test us v (and_r (test u) _ h) e
]

all_of : (test : Place → Bool) (us : List Place) → ((v : Place) → has us v ≡ true → test v ≡ true) → list_all test us ≡ true
all_of test [] f = refl
all_of test (u ∷ us) f = and_b _ _ (f u (or_a _ _ (same_place_itself u))) (all_of test us (λ v h. f v (or_b (same_place v u) _ h)))

left_one : (a b : Bool) → (a || not b) ≡ true → b ≡ true → a ≡ true
left_one true b h g = refl
left_one false true h g = absurd (true≢false (sym h))
left_one false false h g = absurd (true≢false (sym g))

not_of : (b : Bool) → not b ≡ true → b ≡ false
not_of true h = absurd (true≢false (sym h))
not_of false h = refl

module _ (root : Tree) (taken : Taken) (done : Place → Bool) (u : Place) where
  pub says : is_permitted root taken done u ≡ true → IsPermitted root taken done u
  says h =
      let r : is_ready root taken done u ≡ true = and_l (is_ready root taken done u) _ h in
      let s : (not (done u) && earlier_done root taken done u (events taken 0 root)) ≡ true = and_r (due_in taken 0 root u) _ r in
      record {
        ready = record {
          due = has_due taken root 0 u ∙ and_l (due_in taken 0 root u) _ r;
          left = not_of (done u) (and_l (not (done u)) _ s);
          earlier = λ v b. left_one (done v) (is_before taken 0 root v u)
              (all_at (λ w. done w || not (is_before taken 0 root w u)) (events taken 0 root) v (and_r (not (done u)) _ s) (before_due root taken v u b).0)
              (before_found root taken v u b);
        };
        no_split = not_of _ (and_r (is_ready root taken done u) _ h);
      }

  pub said : IsPermitted root taken done u → is_permitted root taken done u ≡ true
  said p =
      let done_or : (w : Place) → has (events taken 0 root) w ≡ true → (done w || not (is_before taken 0 root w u)) ≡ true = λ w d.
      step w d (is_before taken 0 root w u) refl in
      and_b _ _
      (and_b _ _ (sym (has_due taken root 0 u) ∙ p.ready.due)
      (and_b _ _ (ap not p.ready.left) (all_of (λ w. done w || not (is_before taken 0 root w u)) (events taken 0 root) done_or)))
      (ap not p.no_split)
    where
      step : (w : Place) → has (events taken 0 root) w ≡ true → (b : Bool) → is_before taken 0 root w u ≡ b → (done w || not b) ≡ true
      step w d true e = or_a _ _ (p.ready.earlier w (found_before root taken w u d p.ready.due e))
      step w d false e = or_b (done w) _ refl

pub decides_permitted : DecidesPermitted
decides_permitted root taken done u = (says root taken done u, said root taken done u)

before_as : (root : Tree) (s t : Taken) → events s 0 root ≡ events t 0 root → ((u v : Place) → comes s 0 root u v ≡ comes t 0 root u v)
    → (u v : Place) → Before root s u v → Before root t u v
before_as root s t e f _ _ (rule u v du dv c) = rule u v (ap (λ us. has us u) (sym e) ∙ du) (ap (λ us. has us v) (sym e) ∙ dv) (sym (f u v) ∙ c)
before_as root s t e f _ _ (chain u v w a b) = chain u v w (before_as root s t e f u v a) (before_as root s t e f v w b)

permitted_as : (root : Tree) (s t : Taken) (done : Place → Bool) (u : Place) → events s 0 root ≡ events t 0 root
    → ((u v : Place) → comes s 0 root u v ≡ comes t 0 root u v) → update_is_open s done 0 root ≡ update_is_open t done 0 root
    → IsPermitted root s done u → IsPermitted root t done u
permitted_as root s t done u e f g p = record {
  ready = record {
    due = ap (λ us. has us u) (sym e) ∙ p.ready.due;
    left = p.ready.left;
    earlier = λ v b. p.ready.earlier v (before_as root t s (sym e) (λ x y. sym (f x y)) v u b);
  };
  no_split = ap (λ b. is_body u.kind && b) (sym g) ∙ p.no_split;
}

either_way : (a b : Bool) → (a ≡ true → b ≡ true) → (b ≡ true → a ≡ true) → a ≡ b
either_way true b f g = sym (f refl)
either_way false true f g = g refl
either_way false false f g = refl

pub permits_alike : PermitsAlike
permits_alike root taken other done u f =
    let agree = agree_in root taken other f in
    let e = same_events taken other root 0 agree in
    let c : (x y : Place) → comes other 0 root x y ≡ comes taken 0 root x y = λ x y. same_comes taken other root 0 x y agree in
    let o = same_open taken other done root 0 agree in
    either_way _ _
    (λ h. said root taken done u (permitted_as root other taken done u e c o (says root other done u h)))
    (λ h. said root other done u (permitted_as root taken other done u (sym e) (λ x y. sym (c x y)) (sym o) (says root taken done u h)))

pub takes_alike : TakesAlike
takes_alike root taken other done f =
    let test : is_permitted root other done ≡ is_permitted root taken done = λ i u. permits_alike root taken other done u f i in
    ap₂ (λ p us. first_place p us) test (lists_alike root taken other f)
