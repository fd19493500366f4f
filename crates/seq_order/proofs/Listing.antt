-- The listing of a tree's due events goes along the order: no event comes before one that stands earlier in it.
use Rattle.std.proofs.Common.{◌≡◌, ℕ, suc, ◌+◌, ◌<◌, ◌≤◌, Bool, true, false, ◌&&◌, ◌==◌, if◌then◌else◌, List, [], ◌∷◌, ◌++◌, Option, refl, ap, ◌∙◌, arith}
use Rattle.ub_base.proofs.Tests.{and_false, and_both, number_equal, number_other, less_test, not_less_test, if_true, if_false}
use Rattle.ub_base.specs.declared.clause.Kind.{Kind}
use Rattle.ub_base.specs.declared.clause.Kind.TheVariants.{Val, Eff, Body}
use Rattle.c_typed.specs.declared.tree.Place.{Place}
use Rattle.c_typed.specs.declared.class.Class.{Class}
use Rattle.c_typed.specs.declared.class.Class.TheVariants.{Object, Constant, Plain, Store, Update, Choice, Comma, Call, Isolated}
use Rattle.c_typed.specs.Tree.{Tree, node, Trees, none, more, size, sizes, kinds_of}
use Rattle.c_typed.specs.Order.{Taken, goes, place, own_events, events, operand_events, own_rule}
use Rattle.c_typed.specs.Decide.{has_kind, due_in, due_among, is_before, between}

pub data Each (P : Place → Type 0) : List Place → Type 0 where
  no_more : Each P []
  and_then : (u : Place) (us : List Place) → P u → Each P us → Each P (u ∷ us)

pub each_append : (P : Place → Type 0) (us vs : List Place) → Each P us → Each P vs → Each P (us ++ vs)
each_append P _ vs no_more g = g
each_append P _ vs (and_then u us p h) g = and_then u (us ++ vs) p (each_append P us vs h g)

pub each_map : (P Q : Place → Type 0) (us : List Place) → ((u : Place) → P u → Q u) → Each P us → Each Q us
each_map P Q _ f no_more = no_more
each_map P Q _ f (and_then u us p h) = and_then u us (f u p) (each_map P Q us f h)

-- no event of the list comes before one that stands earlier, or before itself
pub data Ordered (B : Place → Place → Bool) : List Place → Type 0 where
  in_order : Ordered B []
  first : (v : Place) (vs : List Place) → B v v ≡ false → Each (λ w. B w v ≡ false) vs → Ordered B vs → Ordered B (v ∷ vs)

ordered_append : (B : Place → Place → Bool) (us vs : List Place) → Ordered B us → Ordered B vs → Each (λ v. Each (λ w. B w v ≡ false) vs) us →
    Ordered B (us ++ vs)
ordered_append B _ vs in_order g no_more = g
ordered_append B _ vs (first u us a b h) g (and_then _ _ p q) = first u (us ++ vs) a (each_append (λ w. B w u ≡ false) us vs b p)
    (ordered_append B us vs h g q)

each_both : (P Q R : Place → Type 0) (us : List Place) → ((u : Place) → P u → Q u → R u) → Each P us → Each Q us → Each R us
each_both P Q R _ f no_more no_more = no_more
each_both P Q R _ f (and_then u us p h) (and_then _ _ q g) = and_then u us (f u p q) (each_both P Q R us f h g)

ordered_map : (B C : Place → Place → Bool) (P : Place → Type 0) (us : List Place) → ((u v : Place) → P u → P v → C u v ≡ B u v) → Each P us → Ordered B us →
    Ordered C us
ordered_map B C P _ f no_more in_order = in_order
ordered_map B C P _ f (and_then u us p h) (first _ _ a b g) =
    first u us (f u u p p ∙ a) (each_both P (λ w. B w u ≡ false) (λ w. C w u ≡ false) us (λ w q e. f w u q p ∙ e) h b) (ordered_map B C P us f h g)

-- an event of the tree, due there
pub record Due (taken : Taken) (k : ℕ) (t : Tree) (u : Place) : Type 0 where
  pub low : k ≤ u.node
  pub high : u.node < k + size t
  pub due : due_in taken k t u ≡ true

record DueAmong (taken : Taken) (class : Class) (choice : Option ℕ) (i m : ℕ) (ts : Trees) (u : Place) : Type 0 where
  low : m ≤ u.node
  high : u.node < m + sizes ts
  due : due_among taken class choice i m ts u ≡ true

record Own (class : Class) (k : ℕ) (u : Place) : Type 0 where
  at : u.node ≡ k
  has : has_kind (kinds_of class) u.kind ≡ true

own_at : (class : Class) (k : ℕ) → Each (Own class k) (own_events k class)
own_at Object k = no_more
own_at Constant k = no_more
own_at Plain k = and_then (place k Val) [] (record { at = refl; has = refl }) no_more
own_at Choice k = and_then (place k Val) [] (record { at = refl; has = refl }) no_more
own_at Comma k = and_then (place k Val) [] (record { at = refl; has = refl }) no_more
own_at Store k = and_then (place k Val) (place k Eff ∷ []) (record { at = refl; has = refl })
    (and_then (place k Eff) [] (record { at = refl; has = refl }) no_more)
own_at Update k = and_then (place k Val) (place k Eff ∷ []) (record { at = refl; has = refl })
    (and_then (place k Eff) [] (record { at = refl; has = refl }) no_more)
own_at Call k = and_then (place k Body) (place k Val ∷ []) (record { at = refl; has = refl })
    (and_then (place k Val) [] (record { at = refl; has = refl }) no_more)
own_at Isolated k = and_then (place k Body) (place k Val ∷ []) (record { at = refl; has = refl })
    (and_then (place k Val) [] (record { at = refl; has = refl }) no_more)

each_if : (P : Place → Type 0) (c : Bool) (us : List Place) → (c ≡ true → Each P us) → Each P (if c then us else [])
each_if P true us f = f refl
each_if P false us f = no_more

above : (k n : ℕ) → suc k ≤ n → n ≡ k → ⊥
above k n h e = omega (arith, h, e)

mutual
  -- each event of the listing is due
  pub listed_due : (taken : Taken) (t : Tree) (k : ℕ) → Each (Due taken k t) (events taken k t)
  listed_due taken (node class ts) k =
      each_append (Due taken k (node class ts)) (operand_events taken class (taken k) 0 (suc k) ts) (own_events k class)
      (each_map (DueAmong taken class (taken k) 0 (suc k) ts) (Due taken k (node class ts)) (operand_events taken class (taken k) 0 (suc k) ts)
      (λ u d. let l = d.low in let h = d.high in record {
        low = omega (arith, l);
        high = omega (arith, h);
        due =
            if_false _ _ _ (number_other u.node k (above k u.node l)) ∙ d.due;
      })
      (operands_due taken class (taken k) ts 0 (suc k)))
      (each_map (Own class k) (Due taken k (node class ts)) (own_events k class)
      (λ u d. let e = d.at in record { low = omega (arith, e); high = omega (arith, e); due = if_true _ _ _ (number_equal u.node k e) ∙ d.has })
      (own_at class k))

  operands_due : (taken : Taken) (class : Class) (choice : Option ℕ) (ts : Trees) (i m : ℕ) →
      Each (DueAmong taken class choice i m ts) (operand_events taken class choice i m ts)
  operands_due taken class choice none i m = no_more
  operands_due taken class choice (more t ts) i m =
      each_append (DueAmong taken class choice i m (more t ts)) (if goes class choice i then events taken m t else [])
      (operand_events taken class choice (suc i) (m + size t) ts)
      (each_if (DueAmong taken class choice i m (more t ts)) (goes class choice i) (events taken m t) (λ g.
      each_map (Due taken m t) (DueAmong taken class choice i m (more t ts)) (events taken m t)
      (λ u d. let h = d.high in record { low = d.low; high = omega (arith, h); due = if_true _ _ _ (less_test u.node (m + size t) h) ∙ and_both _ _ g d.due })
      (listed_due taken t m)))
      (each_map (DueAmong taken class choice (suc i) (m + size t) ts) (DueAmong taken class choice i m (more t ts))
      (operand_events taken class choice (suc i) (m + size t) ts)
      (λ u d. let l = d.low in let h = d.high in record {
        low = omega (arith, l);
        high = omega (arith, h);
        due =
            if_false _ _ _ (not_less_test u.node (m + size t) l) ∙ d.due;
      })
      (operands_due taken class choice ts (suc i) (m + size t)))

module _ (taken : Taken) where
  own_after : (k : ℕ) (class : Class) (ts : Trees) (a b : Kind) → own_rule class a b ≡ false →
      is_before taken k (node class ts) (place k a) (place k b) ≡ false
  own_after k class ts a b h = if_true _ _ _ (number_equal k k refl) ∙ and_false (k == k) (own_rule class a b) h

  one_own : (k : ℕ) (class : Class) (ts : Trees) (a : Kind) → own_rule class a a ≡ false → Ordered (is_before taken k (node class ts)) (place k a ∷ [])
  one_own k class ts a h = first (place k a) [] (own_after k class ts a a h) no_more in_order

  two_own : (k : ℕ) (class : Class) (ts : Trees) (a b : Kind) → own_rule class a a ≡ false → own_rule class b b ≡ false → own_rule class b a ≡ false →
      Ordered (is_before taken k (node class ts)) (place k a ∷ place k b ∷ [])
  two_own k class ts a b h g f = first (place k a) (place k b ∷ []) (own_after k class ts a a h)
      (and_then (place k b) [] (own_after k class ts b a f) no_more) (one_own k class ts b g)

  own_ordered : (class : Class) (k : ℕ) (ts : Trees) → Ordered (is_before taken k (node class ts)) (own_events k class)
  own_ordered Object k ts = in_order
  own_ordered Constant k ts = in_order
  own_ordered Plain k ts = one_own k Plain ts Val refl
  own_ordered Choice k ts = one_own k Choice ts Val refl
  own_ordered Comma k ts = one_own k Comma ts Val refl
  own_ordered Store k ts = two_own k Store ts Val Eff refl refl refl
  own_ordered Update k ts = two_own k Update ts Val Eff refl refl refl
  own_ordered Call k ts = two_own k Call ts Body Val refl refl refl
  own_ordered Isolated k ts = two_own k Isolated ts Body Val refl refl refl

  ordered_if : (B : Place → Place → Bool) (c : Bool) (us : List Place) → Ordered B us → Ordered B (if c then us else [])
  ordered_if B true us h = h
  ordered_if B false us h = in_order

  -- an event of the root doesn't come before one of an operand
  root_last : (k : ℕ) (class : Class) (ts : Trees) (u v : Place) → u.node ≡ k → suc k ≤ v.node → is_before taken k (node class ts) u v ≡ false
  root_last k class ts u v e l = if_true _ _ _ (number_equal u.node k e) ∙ ap (λ z. z && own_rule class u.kind v.kind)
      (number_other v.node k (above k v.node l))

  inside : (k : ℕ) (class : Class) (ts : Trees) (u v : Place) → suc k ≤ u.node → suc k ≤ v.node →
      is_before taken k (node class ts) u v ≡ between taken class (taken k) 0 (suc k) ts u v
  inside k class ts u v l h = if_false _ _ _ (number_other u.node k (above k u.node l)) ∙ if_false _ _ _ (number_other v.node k (above k v.node h))

  module _ (class : Class) (choice : Option ℕ) where
    in_first : (i m : ℕ) (t : Tree) (ts : Trees) (u v : Place) → u.node < m + size t → v.node < m + size t →
        between taken class choice i m (more t ts) u v ≡ is_before taken m t u v
    in_first i m t ts u v l h = if_true _ _ _ (less_test u.node (m + size t) l) ∙ if_true _ _ _ (less_test v.node (m + size t) h)

    in_rest : (i m : ℕ) (t : Tree) (ts : Trees) (u v : Place) → m + size t ≤ u.node → m + size t ≤ v.node →
        between taken class choice i m (more t ts) u v ≡ between taken class choice (suc i) (m + size t) ts u v
    in_rest i m t ts u v l h = if_false _ _ _ (not_less_test u.node (m + size t) l) ∙ if_false _ _ _ (not_less_test v.node (m + size t) h)

    later_first : (i m : ℕ) (t : Tree) (ts : Trees) (u v : Place) → m + size t ≤ u.node → v.node < m + size t →
        between taken class choice i m (more t ts) u v ≡ false
    later_first i m t ts u v l h = if_false _ _ _ (not_less_test u.node (m + size t) l) ∙ if_true _ _ _ (less_test v.node (m + size t) h)

  mutual
    -- no event of the listing comes before one that stands earlier
    pub listed_ordered : (t : Tree) (k : ℕ) → Ordered (is_before taken k t) (events taken k t)
    listed_ordered (node class ts) k =
        let below = operand_events taken class (taken k) 0 (suc k) ts in
        let dues = operands_due taken class (taken k) ts 0 (suc k) in
        ordered_append (is_before taken k (node class ts)) below (own_events k class)
        (ordered_map (between taken class (taken k) 0 (suc k) ts) (is_before taken k (node class ts)) (DueAmong taken class (taken k) 0 (suc k) ts) below
        (λ u v d e. inside k class ts u v d.low e.low) dues (among_ordered class (taken k) ts 0 (suc k)))
        (own_ordered class k ts)
        (each_map (DueAmong taken class (taken k) 0 (suc k) ts) (λ v. Each (λ w. is_before taken k (node class ts) w v ≡ false) (own_events k class)) below
        (λ v d. each_map (Own class k) (λ w. is_before taken k (node class ts) w v ≡ false) (own_events k class) (λ w o. root_last k class ts w v o.at d.low)
        (own_at class k)) dues)

    among_ordered : (class : Class) (choice : Option ℕ) (ts : Trees) (i m : ℕ) →
        Ordered (between taken class choice i m ts) (operand_events taken class choice i m ts)
    among_ordered class choice none i m = in_order
    among_ordered class choice (more t ts) i m =
        let here = if goes class choice i then events taken m t else [] in
        let rest = operand_events taken class choice (suc i) (m + size t) ts in
        let dues = operands_due taken class choice ts (suc i) (m + size t) in
        let B = between taken class choice i m (more t ts) in
        ordered_append B here rest
        (ordered_if B (goes class choice i) (events taken m t)
        (ordered_map (is_before taken m t) B (Due taken m t) (events taken m t) (λ u v d e. in_first class choice i m t ts u v d.high e.high)
        (listed_due taken t m) (listed_ordered t m)))
        (ordered_map (between taken class choice (suc i) (m + size t) ts) B (DueAmong taken class choice (suc i) (m + size t) ts) rest
        (λ u v d e. in_rest class choice i m t ts u v d.low e.low) dues (among_ordered class choice ts (suc i) (m + size t)))
        (each_if (λ v. Each (λ w. B w v ≡ false) rest) (goes class choice i) (events taken m t) (λ g.
        each_map (Due taken m t) (λ v. Each (λ w. B w v ≡ false) rest) (events taken m t)
        (λ v d. each_map (DueAmong taken class choice (suc i) (m + size t) ts) (λ w. B w v ≡ false) rest
        (λ w o. later_first class choice i m t ts w v o.low d.high) dues)
        (listed_due taken t m)))
