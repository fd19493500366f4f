-- The node above, of whose operands a node is the last one with a value, has all its operands complete with that node; and where it isn't the last one, the
-- operands of the node above are in an order.
use Rattle.std.proofs.Common.{◌≡◌, ◌<◌, ◌≤◌, ◌+◌, ℕ, zero, suc, ◌==◌, true, false, not, List, [], ◌∷◌, ◌++◌}
use Rattle.std.proofs.Common.{Option, Some, None, refl, sym, ap, subst, ◌∙◌, true≢false, arith}
use Rattle.std.specs.Prelude.{slice_get, nat_lt}
use Rattle.std.proofs.lemmas.Bool.Decides.{nat_tests}
use Rattle.std.proofs.lemmas.Option.{same_Some}
use Rattle.ub_base.specs.declared.clause.Kind.TheVariants.{Val}
use Rattle.c_typed.specs.declared.class.Class.{Class}
use Rattle.c_typed.specs.declared.tree.Place.{Place}
use Rattle.c_typed.specs.Order.{Taken, events, goes, has, operand_events, own_events, place}
use Rattle.c_typed.specs.Tree.{Tree, Trees, node, none, more, is_quiet, size}
use Rattle.c_model.proofs.Decided.{has_due, val_due}
use Rattle.completion_laws.proofs.Ahead.{by_test, if_false, if_true, operand, operand_split, own_of}
use Rattle.completion_laws.proofs.Lists.{has_at, left, right, split}
use Rattle.elaborate.proofs.Ranges.{eq_eq, events_in, has_itself, operands_in}
use Rattle.evaluation_log.specs.Sides.{Side, first_loud, last_among, last_if, last_in, side, sides_from}
use Rattle.run_evaluations.specs.Scopes.{part_among, part_in}
use Rattle.run_evaluations.proofs.PartLemmas.{among_range, not_less_is, number_is, part_range, side_at, size_some}

less_test : (a b : ℕ) → a < b → nat_lt a b ≡ true
less_test a b l = grind (arith, nat_tests, l)

not_less_test : (a b : ℕ) → b ≤ a → nat_lt a b ≡ false
not_less_test a b l = grind (arith, nat_tests, l)

other_test : (a b : ℕ) → (a ≡ b → ⊥) → (a == b) ≡ false
other_test a b ne = grind (arith, nat_tests, ne)

-- ---- the operands behind one
abbrev pub behind_side : ℕ → List Side → List Side
behind_side i [] = []
behind_side zero (d ∷ ds) = ds
behind_side (suc i) (d ∷ ds) = behind_side i ds

pub behind_at : (ds : List Side) (i j : ℕ) (d : Side) → i < j → slice_get ds j ≡ Some d → (q : ℕ) × (slice_get (behind_side i ds) q ≡ Some d)
behind_at [] i j d l h = absurd (cc)
behind_at (c ∷ ds) zero zero d l h = absurd (omega (arith, l))
behind_at (c ∷ ds) zero (suc j) d l h = (j, h)
behind_at (c ∷ ds) (suc i) zero d l h = absurd (omega (arith, l))
behind_at (c ∷ ds) (suc i) (suc j) d l h = behind_at ds i j d (omega (arith, l)) h

pub at_behind : (ds : List Side) (i q : ℕ) (d : Side) → slice_get (behind_side i ds) q ≡ Some d → (j : ℕ) × (i < j) × (slice_get ds j ≡ Some d)
at_behind [] i q d h = absurd (cc)
at_behind (c ∷ ds) zero q d h = (suc q, omega arith, h)
at_behind (c ∷ ds) (suc i) q d h =
    let r = at_behind ds i q d h in
    let l = r.1 in
    (suc r.0, omega (arith, l), r.2)

pub none_loud : (ds : List Side) → first_loud ds ≡ None → (q : ℕ) (d : Side) → slice_get ds q ≡ Some d → is_quiet d.tree ≡ true
none_loud [] h q d g = absurd (cc)
none_loud (c ∷ ds) h zero d g = by_test (is_quiet c.tree)
    (λ e. subst (λ (z : Side). is_quiet z.tree ≡ true) (same_Some c d g) e)
    (λ e. absurd (let z : Some c.number ≡ None = sym (if_false _ _ _ e) ∙ h in cc (z)))
none_loud (c ∷ ds) h (suc q) d g = by_test (is_quiet c.tree)
    (λ e. none_loud ds (sym (if_true _ _ _ e) ∙ h) q d g)
    (λ e. absurd (let z : Some c.number ≡ None = sym (if_false _ _ _ e) ∙ h in cc (z)))

pub some_loud : (ds : List Side) (m : ℕ) → first_loud ds ≡ Some m → (q : ℕ) × (d : Side) × (slice_get ds q ≡ Some d) × (is_quiet d.tree ≡ false)
some_loud [] m h = absurd (cc)
some_loud (c ∷ ds) m h = by_test (is_quiet c.tree)
    (λ e. let r = some_loud ds m (sym (if_true _ _ _ e) ∙ h) in (suc r.0, r.1, r.2, r.3))
    (λ e. (0, c, refl, e))

-- ---- which node is above an operand that is the last one with a value
among_last : (ts : Trees) (k m i : ℕ) (d : Side) → slice_get (sides_from m ts) i ≡ Some d →
    last_among k m ts d.number ≡ last_if k (first_loud (behind_side i (sides_from m ts)))
among_last none k m i d h = absurd (cc)
among_last (more t ts) k m zero d h =
    let same : m ≡ d.number = ap (λ (z : Side). z.number) (same_Some (side m t) d h) in
    let some = size_some t in
    subst (λ z. last_among k m (more t ts) z ≡ last_if k (first_loud (sides_from (m + size t) ts))) same
    (if_true _ _ _ (less_test m (m + size t) (omega (arith, some))) ∙ if_true _ _ _ (eq_eq m))
among_last (more t ts) k m (suc i) d h =
    let a = side_at (m + size t) ts i d h in
    let l = a.low in
    if_false _ _ _ (not_less_test d.number (m + size t) l) ∙ among_last ts k (m + size t) i d h

module _ (p i : ℕ) (c : Class) (all : Trees) (d : Side) (at : slice_get (sides_from (suc p) all) i ≡ Some d) where
  abbrev last_of_all : Option ℕ
  last_of_all = last_if p (first_loud (behind_side i (sides_from (suc p) all)))

  low : p < d.number
  low = let l = (side_at (suc p) all i d at).low in omega (arith, l)

  high : d.number < p + size (node c all)
  high = let h = (side_at (suc p) all i d at).high in let z = size_some d.tree in omega (arith, h, z)

  mutual
    pub last_side : (t : Tree) (k : ℕ) → part_in k t p ≡ Some (node c all) → last_in k t d.number ≡ last_of_all
    last_side (node class ts) k h = by_test (p == k)
        (λ e. here (number_is p k e) (same_Some (node class ts) (node c all) (sym (if_true _ _ _ e) ∙ h)))
        (λ e. let g : part_among (suc k) ts p ≡ Some (node c all) = sym (if_false _ _ _ e) ∙ h in
        let r = (among_range (suc k) ts p (node c all) g).low in
        let l = low in
        if_true _ _ _ (less_test k d.number (omega (arith, r, l))) ∙ last_among_side ts k (suc k) g)
      where
        here : p ≡ k → node class ts ≡ node c all → last_in k (node class ts) d.number ≡ last_of_all
        here same q =
            subst (λ z. last_in k z d.number ≡ last_of_all) (sym q)
            (subst (λ z. last_in z (node c all) d.number ≡ last_of_all) same
            (if_true _ _ _ (less_test p d.number low) ∙ among_last all p (suc p) i d at))

    last_among_side : (ts : Trees) (k m : ℕ) → part_among m ts p ≡ Some (node c all) → last_among k m ts d.number ≡ last_of_all
    last_among_side none k m h = absurd (cc)
    last_among_side (more t ts) k m h = by_test (nat_lt p (m + size t))
        (λ e. let g : part_in m t p ≡ Some (node c all) = sym (if_true _ _ _ e) ∙ h in
        let r = part_range m t p (node c all) g in
        let rl = r.low in
        let rh = r.high in
        let l = low in
        let u = high in
        if_true _ _ _ (less_test d.number (m + size t) (omega (arith, rh, u)))
        ∙ (if_false _ _ _ (other_test d.number m (λ q. omega (arith, q, rl, l))) ∙ last_side t m g))
        (λ e. let g : part_among (m + size t) ts p ≡ Some (node c all) = sym (if_false _ _ _ e) ∙ h in
        let past = not_less_is p (m + size t) e in
        let l = low in
        if_false _ _ _ (not_less_test d.number (m + size t) (omega (arith, past, l))) ∙ last_among_side ts k (m + size t) g)

-- ---- where an event of the node above follows one of its operand, no later operand has a value that is evaluated
nil_right : (xs ys : List Place) → [] ≡ xs ++ ys → ys ≡ []
nil_right [] ys h = sym h
nil_right (x ∷ xs) ys h = absurd (let z : [] ≡ x ∷ (xs ++ ys) = h in cc (z))

nil_left : (xs ys : List Place) → [] ≡ xs ++ ys → xs ≡ []
nil_left [] ys h = refl
nil_left (x ∷ xs) ys h = absurd (let z : [] ≡ x ∷ (xs ++ ys) = h in cc (z))

head_is : (v x : Place) (us vs : List Place) → v ∷ us ≡ x ∷ vs → v ≡ x
head_is v x us vs h = ap head h
  where
    head : List Place → Place
    head [] = v
    head (z ∷ zs) = z

module _ (taken : Taken) where
  -- a tree without events has no value
  no_events : (t : Tree) (k : ℕ) → events taken k t ≡ [] → is_quiet t ≡ true
  no_events t k h = by_test (is_quiet t)
      (λ q. q)
      (λ q. absurd (true≢false (sym (ap (λ z. has z (place k Val)) (sym h) ∙ (has_due taken t k (place k Val) ∙ val_due taken t k (ap not q))))))

  none_going : (c : Class) (choice : Option ℕ) (ts : Trees) (i m j : ℕ) (d : Side) → operand_events taken c choice i m ts ≡ [] →
      slice_get (sides_from m ts) j ≡ Some d → goes c choice (i + j) ≡ true → is_quiet d.tree ≡ true
  none_going c choice none i m j d h g on = absurd (cc)
  none_going c choice (more t ts) i m zero d h g on =
      let same = same_Some (side m t) d g in
      subst (λ (z : Side). is_quiet z.tree ≡ true) same
      (no_events t m (sym (if_true (goes c choice i) (events taken m t) [] (ap (goes c choice) (sum_zero i) ∙ on))
      ∙ nil_left (operand taken c choice i m t) (operand_events taken c choice (suc i) (m + size t) ts) (sym h)))
    where
      sum_zero : (n : ℕ) → n ≡ n + 0
      sum_zero n = omega arith
  none_going c choice (more t ts) i m (suc j) d h g on =
      none_going c choice ts (suc i) (m + size t) j d
      (nil_right (operand taken c choice i m t) (operand_events taken c choice (suc i) (m + size t) ts) (sym h)) g
      (ap (goes c choice) (sum_next i j) ∙ on)
    where
      sum_next : (a b : ℕ) → suc a + b ≡ a + suc b
      sum_next a b = omega arith

  -- the last event of a node's operands is of this one
  last_going : (c : Class) (choice : Option ℕ) (ts : Trees) (o m i j : ℕ) (passed : List Place) (u : Place) (d e : Side) →
      operand_events taken c choice o m ts ≡ passed ++ u ∷ [] → slice_get (sides_from m ts) i ≡ Some d → u.node ≡ d.number → i < j →
      slice_get (sides_from m ts) j ≡ Some e → goes c choice (o + j) ≡ true → is_quiet e.tree ≡ true
  last_going c choice none o m i j passed u d e h at is l g on = absurd (cc)
  last_going c choice (more t ts) o m i j passed u d e h at is l g on =
      elim (split (operand taken c choice o m t) (operand_events taken c choice (suc o) (m + size t) ts) passed [] u h) [
        | left rest a b ↦ in_first j l g on (nil_right rest (operand_events taken c choice (suc o) (m + size t) ts) b)
        | right before a b ↦ in_rest i j l at g on before b
            (λ q w qa ql wg won. last_going c choice ts (suc o) (m + size t) q w before u d e b qa is ql wg won)
      ]
    where
      sum_next : (a b : ℕ) → suc a + b ≡ a + suc b
      sum_next a b = omega arith

      in_first : (j : ℕ) → i < j → slice_get (sides_from m (more t ts)) j ≡ Some e → goes c choice (o + j) ≡ true →
          operand_events taken c choice (suc o) (m + size t) ts ≡ [] → is_quiet e.tree ≡ true
      in_first zero l g on none_left = absurd (omega (arith, l))
      in_first (suc j) l g on none_left = none_going c choice ts (suc o) (m + size t) j e none_left g (ap (goes c choice) (sum_next o j) ∙ on)

      Again : Type 0
      Again = (q w : ℕ) → slice_get (sides_from (m + size t) ts) q ≡ Some d → q < w → slice_get (sides_from (m + size t) ts) w ≡ Some e →
          goes c choice (suc o + w) ≡ true → is_quiet e.tree ≡ true

      in_rest : (i j : ℕ) → i < j → slice_get (sides_from m (more t ts)) i ≡ Some d → slice_get (sides_from m (more t ts)) j ≡ Some e →
          goes c choice (o + j) ≡ true → (before : List Place) → operand_events taken c choice (suc o) (m + size t) ts ≡ before ++ u ∷ [] →
          Again → is_quiet e.tree ≡ true
      in_rest zero j l at g on before b again =
          let same : m ≡ d.number = ap (λ (z : Side). z.number) (same_Some (side m t) d at) in
          let r = (operands_in taken c choice ts (suc o) (m + size t) u (ap (λ z. has z u) b ∙ has_at before [] u)).0 in
          let some = size_some t in
          absurd (omega (arith, same, is, r, some))
      in_rest (suc i) zero l at g on before b again = absurd (omega (arith, l))
      in_rest (suc i) (suc j) l at g on before b again = again i j at (omega (arith, l)) g (ap (goes c choice) (sum_next o j) ∙ on)

  module _ (p i j : ℕ) (c : Class) (all : Trees) (d e : Side) (at : slice_get (sides_from (suc p) all) i ≡ Some d) (l : i < j)
      (g : slice_get (sides_from (suc p) all) j ≡ Some e) (on : goes c (taken p) j ≡ true) (u v : Place) (below : u.node ≡ d.number)
      (own : v.node ≡ p) where
    u_low : p < u.node
    u_low = let q = low p i c all d at in omega (arith, q, below)

    u_high : u.node < p + size (node c all)
    u_high = let q = high p i c all d at in omega (arith, q, below)

    mutual
      pub up_last : (t : Tree) (k : ℕ) (passed rest : List Place) → part_in k t p ≡ Some (node c all) → events taken k t ≡ passed ++ u ∷ v ∷ rest →
          is_quiet e.tree ≡ true
      up_last (node class ts) k passed rest h listed =
          elim (split (operand_events taken class (taken k) 0 (suc k) ts) (own_events k class) passed (v ∷ rest) u listed) [
            | left xs a b ↦ by_test (p == k) (λ q. at_root (number_is p k q) xs a b) (λ q. further q xs a b
                (λ ys eq. up_among class (taken k) ts 0 (suc k) passed ys (sym (if_false _ _ _ q) ∙ h) eq))
            | right before a b ↦
                (let x = own_of k class u (ap (λ z. has z u) b ∙ has_at before (v ∷ rest) u) in
                let q = u_low in
                let r = (part_range k (node class ts) p (node c all) h).low in
                absurd (omega (arith, x, q, r)))
          ]
        where
          sum_zero : (n : ℕ) → n ≡ 0 + n
          sum_zero n = omega arith

          at_root : p ≡ k → (xs : List Place) → operand_events taken class (taken k) 0 (suc k) ts ≡ passed ++ u ∷ xs →
              v ∷ rest ≡ xs ++ own_events k class → is_quiet e.tree ≡ true
          at_root same [] a b =
              let q : node class ts ≡ node c all = same_Some (node class ts) (node c all) (sym (if_true (p == k) _ _
              (ap (λ z. z == k) same ∙ eq_eq k)) ∙ h) in
              last_going c (taken p) all 0 (suc p) i j passed u d e
              (subst Listed q (subst (λ z. operand_events taken class (taken z) 0 (suc z) ts ≡ passed ++ u ∷ []) (sym same) a)) at below l g
              (ap (goes c (taken p)) (sym (sum_zero j)) ∙ on)
            where
              Listed : Tree → Type 0
              Listed (node y ys) = operand_events taken y (taken p) 0 (suc p) ys ≡ passed ++ u ∷ []
          at_root same (x ∷ xs) a b =
              let r = (operands_in taken class (taken k) ts 0 (suc k) v
              (ap (λ z. has z v) (a ∙ ap (λ z. passed ++ u ∷ z ∷ xs) (sym (head_is v x rest (xs ++ own_events k class) b)))
              ∙ has_second passed xs)).0 in
              absurd (omega (arith, r, own, same))
            where
              has_second : (us vs : List Place) → has (us ++ u ∷ v ∷ vs) v ≡ true
              has_second us vs = subst (λ z. has z v ≡ true) (append_one us vs) (has_at (us ++ u ∷ []) vs v)
                where
                  append_one : (us vs : List Place) → (us ++ u ∷ []) ++ v ∷ vs ≡ us ++ u ∷ v ∷ vs
                  append_one [] vs = refl
                  append_one (y ∷ us) vs = ap (λ z. y ∷ z) (append_one us vs)

          further : (p == k) ≡ false → (xs : List Place) → operand_events taken class (taken k) 0 (suc k) ts ≡ passed ++ u ∷ xs →
              v ∷ rest ≡ xs ++ own_events k class →
              ((ys : List Place) → operand_events taken class (taken k) 0 (suc k) ts ≡ passed ++ u ∷ v ∷ ys → is_quiet e.tree ≡ true) →
              is_quiet e.tree ≡ true
          further q [] a b again =
              let x = own_of k class v (ap (λ z. has z v) (sym b) ∙ has_itself v rest) in
              let r = (among_range (suc k) ts p (node c all) (sym (if_false _ _ _ q) ∙ h)).low in
              absurd (omega (arith, x, own, r))
          further q (x ∷ xs) a b again = again xs (a ∙ ap (λ z. passed ++ u ∷ z ∷ xs) (sym (head_is v x rest (xs ++ own_events k class) b)))

      up_among : (class : Class) (choice : Option ℕ) (ts : Trees) (o m : ℕ) (passed rest : List Place) → part_among m ts p ≡ Some (node c all) →
          operand_events taken class choice o m ts ≡ passed ++ u ∷ v ∷ rest → is_quiet e.tree ≡ true
      up_among class choice none o m passed rest h listed = absurd (cc)
      up_among class choice (more t ts) o m passed rest h listed = by_test (nat_lt p (m + size t))
          (λ q. in_first (sym (if_true _ _ _ q) ∙ h)
          (λ ys eq. up_last t m passed ys (sym (if_true _ _ _ q) ∙ h) (operand_split taken class choice o m t passed (v ∷ ys) u eq)))
          (λ q. in_rest q (λ before eq. up_among class choice ts (suc o) (m + size t) before rest (sym (if_false _ _ _ q) ∙ h) eq))
        where
          behind : List Place
          behind = operand_events taken class choice (suc o) (m + size t) ts

          First : Type 0
          First = (ys : List Place) → operand taken class choice o m t ≡ passed ++ u ∷ v ∷ ys → is_quiet e.tree ≡ true

          with_rest : part_in m t p ≡ Some (node c all) → (xs : List Place) → operand taken class choice o m t ≡ passed ++ u ∷ xs →
              v ∷ rest ≡ xs ++ behind → First → is_quiet e.tree ≡ true
          with_rest part [] a b again =
              let x = (operands_in taken class choice ts (suc o) (m + size t) v (ap (λ z. has z v) (sym b) ∙ has_itself v rest)).0 in
              let r = (part_range m t p (node c all) part).high in
              let z = size_some (node c all) in
              absurd (omega (arith, x, r, own, z))
          with_rest part (x ∷ xs) a b again = again xs (a ∙ ap (λ z. passed ++ u ∷ z ∷ xs) (sym (head_is v x rest (xs ++ behind) b)))

          in_first : part_in m t p ≡ Some (node c all) → First → is_quiet e.tree ≡ true
          in_first part again =
              let r = (part_range m t p (node c all) part).high in
              let n = u_high in
              elim (split (operand taken class choice o m t) behind passed (v ∷ rest) u listed) [
                | left xs a b ↦ with_rest part xs a b again
                | right before a b ↦
                    (let x = (operands_in taken class choice ts (suc o) (m + size t) u (ap (λ z. has z u) b ∙ has_at before (v ∷ rest) u)).0 in
                    absurd (omega (arith, x, r, n)))
              ]

          in_rest : nat_lt p (m + size t) ≡ false → ((before : List Place) → behind ≡ before ++ u ∷ v ∷ rest → is_quiet e.tree ≡ true) →
              is_quiet e.tree ≡ true
          in_rest q again =
              let past = not_less_is p (m + size t) q in
              let n = u_low in
              elim (split (operand taken class choice o m t) behind passed (v ∷ rest) u listed) [
                | left xs a b ↦
                    (let x = (events_in taken t m u (ap (λ z. has z u) (operand_split taken class choice o m t passed xs u a) ∙ has_at passed xs u)).1 in
                    absurd (omega (arith, x, past, n)))
                | right before a b ↦ again before b
              ]
