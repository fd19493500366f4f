-- The order at an update, and the order under more choices.
use Rattle.std.proofs.Common.{
  ◌≡◌,
  ℕ,
  suc,
  ◌+◌,
  Bool,
  true,
  false,
  not,
  ◌&&◌,
  ◌||◌,
  ◌==◌,
  nat_lt,
  if◌then◌else◌,
  true≢false,
  Option,
  Some,
  None,
  is_some,
  refl,
  sym,
  ap,
  ◌∙◌,
  ◌⊎◌,
  inl,
  inr,
  arith,
}
use Rattle.std.proofs.lemmas.Bool.Decides.{nat_tests}
use Rattle.ub_base.specs.declared.clause.Kind.{Kind}
use Rattle.ub_base.specs.declared.clause.Kind.TheVariants.{Val, Eff, Body}
use Rattle.c_typed.specs.declared.tree.Place.{Place}
use Rattle.c_typed.specs.declared.class.Class.{Class}
use Rattle.c_typed.specs.declared.class.Class.TheVariants.{Update, Choice, Comma, Call}
use Rattle.c_typed.specs.Tree.{Tree, node, Trees, none, more, size, is_quiet, kinds_of}
use Rattle.c_typed.specs.Order.{Taken, across, upward, own_rule, is_body, is_last, is_number}
use Rattle.c_typed.specs.Decide.{due_in, due_among, has_kind, is_before, rises, to_val, between, crosses, lifts}
use Rattle.c_model.specs.ChoiceLaws.{is_update, update_at, update_among}

if_both : (b x y x' y' : Bool) → (x ≡ true → x' ≡ true) → (y ≡ true → y' ≡ true) → (if b then x else y) ≡ true → (if b then x' else y') ≡ true
if_both true x y x' y' f g h = f h
if_both false x y x' y' f g h = g h

if_two : (b p q x y x' y' : Bool) → (p ≡ true → x ≡ true → x' ≡ true) → (q ≡ true → y ≡ true → y' ≡ true) → (if b then p else q) ≡ true →
    (if b then x else y) ≡ true → (if b then x' else y') ≡ true
if_two true p q x y x' y' f g h k = f h k
if_two false p q x y x' y' f g h k = g h k

and_l : (a b : Bool) → (a && b) ≡ true → a ≡ true
and_l true b h = refl
and_l false b h = h

and_r : (a b : Bool) → (a && b) ≡ true → b ≡ true
and_r true b h = h
and_r false b h = absurd (cc)

and_b : (a b : Bool) → a ≡ true → b ≡ true → (a && b) ≡ true
and_b true b h k = k
and_b false b h k = h

or_map : (a b c d : Bool) → (a ≡ true → c ≡ true) → (b ≡ true → d ≡ true) → (a || b) ≡ true → (c || d) ≡ true
or_map true b c d f g h = left c d (f refl)
  where
    left : (c d : Bool) → c ≡ true → (c || d) ≡ true
    left true d h = refl
    left false d h = absurd (cc)
or_map false b c d f g h = right c d (g h)
  where
    right : (c d : Bool) → d ≡ true → (c || d) ≡ true
    right true d h = refl
    right false d h = h

and_map : (a b c d : Bool) → (a ≡ true → c ≡ true) → (b ≡ true → d ≡ true) → (a && b) ≡ true → (c && d) ≡ true
and_map a b c d f g h = and_b c d (f (and_l a b h)) (g (and_r a b h))

module _ (taken taken' : Taken) (kept : (k j : ℕ) → taken k ≡ Some j → taken' k ≡ Some j) where
  -- more choices order more
  number_kept : (k j : ℕ) → is_number (taken k) j ≡ true → is_number (taken' k) j ≡ true
  number_kept k j h = go (taken k) refl h
    where
      go : (o : Option ℕ) → taken k ≡ o → is_number o j ≡ true → is_number (taken' k) j ≡ true
      go None e h = absurd (cc)
      go (Some i) e h = ap (λ z. is_number z j) (kept k i e) ∙ h

  some_kept : (k : ℕ) → is_some (taken k) ≡ true → is_some (taken' k) ≡ true
  some_kept k h = go (taken k) refl h
    where
      go : (o : Option ℕ) → taken k ≡ o → is_some o ≡ true → is_some (taken' k) ≡ true
      go None e h = absurd (cc)
      go (Some i) e h = ap is_some (kept k i e)

  across_kept : (n : Class) (k i j : ℕ) → across n (taken k) i j ≡ true → across n (taken' k) i j ≡ true
  across_kept Choice k i j h = and_map (i == 0) _ _ _ (λ z. z) (number_kept k j) h
  across_kept Comma k i j h = h
  across_kept _ k i j h = absurd (cc)

  upward_kept : (n : Class) (k i : ℕ) (last : Bool) (kind : Kind) → upward n (taken k) i last kind ≡ true → upward n (taken' k) i last kind ≡ true
  upward_kept Choice k i last Val h = and_map (i == 0) _ _ _ (λ z. z) (some_kept k) h
  upward_kept Comma k i last Val h = h
  upward_kept Call k i last Body h = h
  upward_kept _ k i last kind h = absurd (cc)

  lifts_kept : (n : Class) (k i : ℕ) (last : Bool) (kind : Kind) → lifts n (taken k) i last kind ≡ true → lifts n (taken' k) i last kind ≡ true
  lifts_kept n k i last Val h = or_map _ _ _ _ (upward_kept n k i last Val) (upward_kept n k i last Body) h
  lifts_kept n k i last Eff h = upward_kept n k i last Eff h
  lifts_kept n k i last Body h = upward_kept n k i last Body h

  crosses_kept : (ts : Trees) (n : Class) (k i j m v : ℕ) → crosses n (taken k) i j m ts v ≡ true → crosses n (taken' k) i j m ts v ≡ true
  crosses_kept none n k i j m v h = h
  crosses_kept (more t ts) n k i j m v h = if_both (nat_lt v (m + size t)) _ _ _ _ (across_kept n k i j) (crosses_kept ts n k i (suc j) (m + size t) v) h

  mutual
    pub before_kept : (t : Tree) (k : ℕ) (u v : Place) → is_before taken k t u v ≡ true → is_before taken' k t u v ≡ true
    before_kept (node n ts) k u v h =
        if_both (u.node == k) _ _ _ _ (λ z. z) (λ z. if_both (v.node == k) _ _ _ _ (rises_kept ts n k 0 (suc k) u v.kind)
        (between_kept ts n k 0 (suc k) u v) z) h

    to_val_kept : (t : Tree) (k : ℕ) (u : Place) → to_val taken k t u ≡ true → to_val taken' k t u ≡ true
    to_val_kept (node n ts) k u h = if_both (u.node == k) _ _ _ _ (λ z. z) (rises_kept ts n k 0 (suc k) u Val) h

    rises_kept : (ts : Trees) (n : Class) (k i m : ℕ) (u : Place) (kind : Kind) → rises taken n (taken k) i m ts u kind ≡ true →
        rises taken' n (taken' k) i m ts u kind ≡ true
    rises_kept none n k i m u kind h = h
    rises_kept (more t ts) n k i m u kind h =
        if_both (nat_lt u.node (m + size t)) _ _ _ _
        (λ z. or_map _ _ _ _ (lifts_kept n k i (is_last ts) kind)
        (λ y. and_map (not (is_body kind)) _ _ _ (λ a. a) (λ a. and_map (not (is_quiet t)) _ _ _ (λ b. b) (to_val_kept t m u) a) y) z)
        (rises_kept ts n k (suc i) (m + size t) u kind) h

    between_kept : (ts : Trees) (n : Class) (k i m : ℕ) (u v : Place) → between taken n (taken k) i m ts u v ≡ true →
        between taken' n (taken' k) i m ts u v ≡ true
    between_kept none n k i m u v h = h
    between_kept (more t ts) n k i m u v h =
        if_both (nat_lt u.node (m + size t)) _ _ _ _
        (λ z. if_both (nat_lt v.node (m + size t)) _ _ _ _ (before_kept t m u v) (crosses_kept ts n k i (suc i) (m + size t) v.node) z)
        (λ z. if_both (nat_lt v.node (m + size t)) _ _ _ _ (λ y. y) (between_kept ts n k (suc i) (m + size t) u v) z) h

module _ (taken : Taken) (m : ℕ) where
  abbrev V : Place
  V = record { node = m; kind = Val }

  abbrev E : Place
  E = record { node = m; kind = Eff }

  update_rule : (n : Class) → is_update n ≡ true → own_rule n Val Eff ≡ true
  update_rule Update h = refl
  update_rule _ h = absurd (cc)

  eq_rule : (a : ℕ) → (a == a) ≡ true
  eq_rule a = grind (arith, nat_tests)

  same_if : (b : Bool) (x y : Bool) → b ≡ true → x ≡ true → (if b then x else y) ≡ true
  same_if true x y h k = k
  same_if false x y h k = absurd (cc)

  -- the two halves of an Update
  root_halves : (b : Bool) (n : Class) (k : ℕ) (x r y : Bool) → (m == k) ≡ b → (y ≡ true → x ≡ true) → (if b then is_update n else y) ≡ true →
      (if b then (m == k) && own_rule n Val Eff else (if b then r else x)) ≡ true
  root_halves true n k x r y e f h = and_b _ _ e (update_rule n h)
  root_halves false n k x r y e f h = f h

  among_halves : (b x y z p q : Bool) → (p ≡ true → x ≡ true) → (q ≡ true → y ≡ true) → (if b then p else q) ≡ true →
      (if b then (if b then x else z) else (if b then false else y)) ≡ true
  among_halves true x y z p q f g h = f h
  among_halves false x y z p q f g h = g h

  mutual
    pub halves : (t : Tree) (k : ℕ) → update_at k t m ≡ true → is_before taken k t V E ≡ true
    halves (node n ts) k h = root_halves (m == k) n k _ (rises taken n (taken k) 0 (suc k) ts V Eff) _ refl (halves_among ts n (taken k) 0 (suc k)) h

    halves_among : (ts : Trees) (n : Class) (c : Option ℕ) (i k : ℕ) → update_among k ts m ≡ true → between taken n c i k ts V E ≡ true
    halves_among none n c i k h = h
    halves_among (more t ts) n c i k h = among_halves (nat_lt m (k + size t)) _ _ _ _ _ (halves t k) (halves_among ts n c (suc i) (k + size t)) h

  eff_due : (n : Class) → is_update n ≡ true → has_kind (kinds_of n) Val ≡ true → has_kind (kinds_of n) Eff ≡ true
  eff_due Update u h = refl
  eff_due _ u h = absurd (cc)

  mutual
    -- where its value is due, so is its effect
    pub due_halves : (t : Tree) (k : ℕ) → update_at k t m ≡ true → due_in taken k t V ≡ true → due_in taken k t E ≡ true
    due_halves (node n ts) k h d = if_two (m == k) _ _ _ _ _ _ (eff_due n) (due_halves_among ts n (taken k) 0 (suc k)) h d

    due_halves_among : (ts : Trees) (n : Class) (c : Option ℕ) (i k : ℕ) → update_among k ts m ≡ true → due_among taken n c i k ts V ≡ true →
        due_among taken n c i k ts E ≡ true
    due_halves_among none n c i k h d = d
    due_halves_among (more t ts) n c i k h d =
        if_two (nat_lt m (k + size t)) _ _ _ _ _ _ (λ u z. and_b _ _ (and_l _ _ z) (due_halves t k u (and_r _ _ z)))
        (due_halves_among ts n c (suc i) (k + size t)) h d

  -- what comes before the effect is the value or comes before it
  abbrev Either' : Bool → Place → Type 0
  Either' b v = (v ≡ V) ⊎ (b ≡ true)

  no_lifts : (n : Class) (c : Option ℕ) (i : ℕ) (last : Bool) → is_update n ≡ true → (lifts n c i last Eff ≡ false)
  no_lifts Update c i last u = refl
  no_lifts _ c i last u = absurd (cc)

  lift_case : (a b c : Bool) → a ≡ false → (a || c) ≡ true → (b || c) ≡ true
  lift_case false true c h k = refl
  lift_case false false c h k = k
  lift_case true b c h k = absurd (cc)

  rises_halves : (ts : Trees) (n : Class) (c : Option ℕ) (i k : ℕ) (v : Place) → is_update n ≡ true → rises taken n c i k ts v Eff ≡ true →
      rises taken n c i k ts v Val ≡ true
  rises_halves none n c i k v u h = h
  rises_halves (more t ts) n c i k v u h =
      if_both (nat_lt v.node (k + size t)) _ _ _ _ (λ z. lift_case _ _ _ (no_lifts n c i (is_last ts) u) z) (rises_halves ts n c (suc i) (k + size t) v u) h

  own_half : (n : Class) (v : Place) (k : ℕ) → is_update n ≡ true → (v.node == k) ≡ true → (m == k) ≡ true → own_rule n v.kind Eff ≡ true → v ≡ V
  own_half n v k u e em h = go n v.kind refl u h
    where
      eq_number : (a b : ℕ) → (a == b) ≡ true → a ≡ b
      eq_number a b h = grind (arith, nat_tests, h)

      go : (n : Class) (c : Kind) → v.kind ≡ c → is_update n ≡ true → own_rule n c Eff ≡ true → v ≡ V
      go Update Val ek u h = let en = eq_number v.node k e ∙ sym (eq_number m k em) in λ i. record { node = en i; kind = ek i }
      go Update Eff ek u h = absurd (cc)
      go Update Body ek u h = absurd (cc)
      go _ c ek u h = absurd (cc)

  root_back : (bv bm : Bool) (n : Class) (k : ℕ) (ts : Trees) (v : Place) (y : Bool) → (v.node == k) ≡ bv → (m == k) ≡ bm
      → (y ≡ true → between taken n (taken k) 0 (suc k) ts v E ≡ true → Either' (between taken n (taken k) 0 (suc k) ts v V) v)
      → (if bm then is_update n else y) ≡ true
      → (if bv then (m == k) && own_rule n v.kind Eff else (if bm then rises taken n (taken k) 0 (suc k) ts v Eff else between taken n (taken k) 0
      (suc k) ts v E)) ≡ true
      → Either' (if bv then (m == k) && own_rule n v.kind Val else (if bm then rises taken n (taken k) 0 (suc k) ts v Val else between taken n (taken k) 0
      (suc k) ts v V)) v
  root_back true true n k ts v y e em f h b = inl (own_half n v k h e em (and_r (m == k) _ b))
  root_back true false n k ts v y e em f h b = absurd (true≢false (sym (and_l (m == k) _ b) ∙ em))
  root_back false true n k ts v y e em f h b = inr (rises_halves ts n (taken k) 0 (suc k) v h b)
  root_back false false n k ts v y e em f h b = f h b

  among_back : (bv bm x y z p q x' y' : Bool) (v : Place) → (p ≡ true → x ≡ true → Either' x' v) → (q ≡ true → y ≡ true → Either' y' v) →
      (if bm then p else q) ≡ true
      → (if bv then (if bm then x else z) else (if bm then false else y)) ≡ true →
      Either' (if bv then (if bm then x' else z) else (if bm then false else y')) v
  among_back true true x y z p q x' y' v f g h b = f h b
  among_back true false x y z p q x' y' v f g h b = inr b
  among_back false true x y z p q x' y' v f g h b = absurd (true≢false (sym b))
  among_back false false x y z p q x' y' v f g h b = g h b

  mutual
    pub halves_back : (t : Tree) (k : ℕ) (v : Place) → update_at k t m ≡ true → is_before taken k t v E ≡ true → Either' (is_before taken k t v V) v
    halves_back (node n ts) k v h b = root_back (v.node == k) (m == k) n k ts v _ refl refl (halves_back_among ts n (taken k) 0 (suc k) v) h b

    halves_back_among : (ts : Trees) (n : Class) (c : Option ℕ) (i k : ℕ) (v : Place) → update_among k ts m ≡ true → between taken n c i k ts v E ≡ true →
        Either' (between taken n c i k ts v V) v
    halves_back_among none n c i k v h b = inr b
    halves_back_among (more t ts) n c i k v h b = among_back (nat_lt v.node (k + size t)) (nat_lt m (k + size t)) _ _ _ _ _ _ _ v (halves_back t k v)
        (halves_back_among ts n c (suc i) (k + size t) v) h b
