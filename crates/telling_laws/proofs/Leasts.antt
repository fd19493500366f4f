-- The least node whose tree holds two nodes.
use Rattle.std.proofs.Common.{◌≡◌, ◌⊎◌, inr, ⊎_elim, ℕ, zero, suc, ◌+◌, ◌<◌, ◌≤◌, nat_lt, ◌==◌, Bool, true, false, ◌&&◌}
use Rattle.std.proofs.Common.{Some, refl, sym, ap, subst, ◌∙◌, true≢false, arith}
use Rattle.std.specs.Prelude.{slice_get}
use Rattle.std.proofs.lemmas.Bool.Decides.{nat_tests}
use Rattle.std.proofs.lemmas.Option.{same_Some}
use Rattle.c_typed.specs.declared.class.Class.{Class}
use Rattle.c_typed.specs.Tree.{Tree, Trees, node, none, more, size, sizes}
use Rattle.c_model.specs.Moments.{holds, least, least_in}
use Rattle.elaborate.proofs.Listed.{and_l, and_r}
use Rattle.completion_laws.proofs.Lists.{out_of, within, and_both}
use Rattle.completion_laws.proofs.Ahead.{by_test, if_true, if_false}
use Rattle.evaluation_log.specs.Sides.{Side, side, sides_from}
use Rattle.run_evaluations.specs.Scopes.{Scope, part_in, part_among, part_of}
use Rattle.run_evaluations.proofs.PartLemmas.{not_less_is, number_is, part_range, side_part, side_at}
use Rattle.telling_laws.proofs.Blocks.{holds_is}
use Rattle.telling_laws.proofs.Steps.{Suffix, suffix_rest, suffix_first, whole}

-- the operand holds both nodes
abbrev pub both : ℕ → ℕ → Side → Bool
both a b d = holds d.number (d.number + size d.tree) a && holds d.number (d.number + size d.tree) b

-- the node holds both, and none of its operands does
pub record IsLeast (s : Scope) (a b : ℕ) (r : ℕ × ℕ) : Type 0 where
  pub class : Class
  pub operands : Trees
  pub there : part_of s r.0 ≡ Some (node class operands)
  pub end : r.1 ≡ r.0 + size (node class operands)
  pub first : (r.0 ≤ a) × (a < r.1)
  pub second : (r.0 ≤ b) × (b < r.1)
  pub apart : (i : ℕ) (d : Side) → slice_get (sides_from (suc r.0) operands) i ≡ Some d → both a b d ≡ true → ⊥

module _ (s : Scope) (a b : ℕ) where
  -- the operands that hold both are among those that are left
  abbrev Left : ℕ → Trees → ℕ → Trees → Type 0
  Left k all m ts = (i : ℕ) (d : Side) → slice_get (sides_from (suc k) all) i ≡ Some d → both a b d ≡ true → (j : ℕ) × (slice_get (sides_from m ts) j ≡ Some d)

  left_rest : (k : ℕ) (all : Trees) (m : ℕ) (t : Tree) (ts : Trees) → Left k all m (more t ts) → both a b (side m t) ≡ false → Left k all (m + size t) ts
  left_rest k all m t ts left isnt i d at h = of (left i d at h).0 (left i d at h).1
    where
      of : (j : ℕ) → slice_get (sides_from m (more t ts)) j ≡ Some d → (j : ℕ) × (slice_get (sides_from (m + size t) ts) j ≡ Some d)
      of zero e = absurd (true≢false (sym h ∙ (ap (both a b) (sym (same_Some (side m t) d e)) ∙ isnt)))
      of (suc j) e = (j, e)

  mutual
    pub least_is : (t : Tree) (k : ℕ) → part_of s k ≡ Some t → (k ≤ a) × (a < k + size t) → (k ≤ b) × (b < k + size t) → IsLeast s a b (least k t a b)
    least_is (node c ts) k there x y =
        among_is ts 0 (suc k) k c ts there (whole k ts) (λ i d at h. (i, at)) x y

    among_is : (ts : Trees) (i m k : ℕ) (c : Class) (all : Trees) → part_of s k ≡ Some (node c all) → Suffix k all i m ts → Left k all m ts →
        (k ≤ a) × (a < k + size (node c all)) → (k ≤ b) × (b < k + size (node c all)) → IsLeast s a b (least_in m ts a b (k, k + size (node c all)))
    among_is none i m k c all there f left x y = record {
      class = c;
      operands = all;
      there = there;
      end = refl;
      first = x;
      second = y;
      apart = λ j d at h. absurd (let z = (left j d at h).1 in cc);
    }
    among_is (more t ts) i m k c all there f left x y = by_test (both a b (side m t))
        (λ e. let p = holds_is m (m + size t) a (and_l (holds m (m + size t) a) _ e) in
        let q = holds_is m (m + size t) b (and_r (holds m (m + size t) a) _ e) in
        subst (IsLeast s a b) (sym (if_true (both a b (side m t)) (least m t a b) (least_in (m + size t) ts a b (k, k + size (node c all))) e))
        (least_is t m (side_part s k c all there i (side m t) (suffix_first k all i m t ts f)) p q))
        (λ e. subst (IsLeast s a b) (sym (if_false (both a b (side m t)) (least m t a b) (least_in (m + size t) ts a b (k, k + size (node c all))) e))
        (among_is ts (suc i) (m + size t) k c all there (suffix_rest k all i m t ts f) (left_rest k all m t ts left e) x y))

-- ---- it is a node that holds both, of which no operand does
mutual
  least_part : (t : Tree) (k n : ℕ) (x : Tree) (a b : ℕ) → part_in k t n ≡ Some x → (n ≤ a) × (a < n + size x) → (n ≤ b) × (b < n + size x) →
      least k t a b ≡ least n x a b
  least_part (node c ts) k n x a b h p q = by_test (n == k)
      (λ e. let y = same_Some (node c ts) x (sym (if_true _ _ _ e) ∙ h) in
      ap (λ z. least z (node c ts) a b) (sym (number_is n k e)) ∙ ap (λ z. least n z a b) y)
      (λ e. least_among ts (suc k) n x a b (k, k + size (node c ts)) (sym (if_false _ _ _ e) ∙ h) p q)

  least_among : (ts : Trees) (m n : ℕ) (x : Tree) (a b : ℕ) (here : ℕ × ℕ) → part_among m ts n ≡ Some x → (n ≤ a) × (a < n + size x) →
      (n ≤ b) × (b < n + size x) → least_in m ts a b here ≡ least n x a b
  least_among none m n x a b here h p q = absurd (cc)
  least_among (more t ts) m n x a b here h p q = by_test (nat_lt n (m + size t))
      (λ e. let g : part_in m t n ≡ Some x = sym (if_true _ _ _ e) ∙ h in
      let r = part_range m t n x g in
      let l = r.low in
      let u = r.high in
      let pl = p.0 in
      let ph = p.1 in
      let ql = q.0 in
      let qh = q.1 in
      if_true _ _ _ (and_both _ _ (within m (m + size t) a (omega (arith, l, pl)) (omega (arith, u, ph)))
      (within m (m + size t) b (omega (arith, l, ql)) (omega (arith, u, qh))))
      ∙ least_part t m n x a b g p q)
      (λ e. let past = not_less_is n (m + size t) e in
      let pl = p.0 in
      if_false _ _ _ (ap (λ z. z && holds m (m + size t) b) (out_of m (m + size t) a (inr (omega (arith, past, pl)))))
      ∙ least_among ts (m + size t) n x a b here (sym (if_false _ _ _ e) ∙ h) p q)

least_here : (ts : Trees) (m a b : ℕ) (here : ℕ × ℕ) → ((i : ℕ) (d : Side) → slice_get (sides_from m ts) i ≡ Some d → both a b d ≡ true → ⊥) →
    least_in m ts a b here ≡ here
least_here none m a b here f = refl
least_here (more t ts) m a b here f = by_test (both a b (side m t))
    (λ e. absurd (f 0 (side m t) refl e))
    (λ e. if_false _ _ _ e ∙ least_here ts (m + size t) a b here (λ i d h. f (suc i) d h))

pub least_so : (s : Scope) (p a b : ℕ) (c : Class) (ts : Trees) → part_of s p ≡ Some (node c ts) → (p ≤ a) × (a < p + size (node c ts)) →
    (p ≤ b) × (b < p + size (node c ts)) → ((i : ℕ) (d : Side) → slice_get (sides_from (suc p) ts) i ≡ Some d → both a b d ≡ true → ⊥) →
    least 0 s.tree a b ≡ (p, p + size (node c ts))
least_so s p a b c ts there x y apart =
    least_part s.tree 0 p (node c ts) a b there x y ∙ least_here ts (suc p) a b (p, p + size (node c ts)) apart

-- of a node and one in its tree it is that node
pub least_own : (s : Scope) (p b : ℕ) (c : Class) (ts : Trees) → part_of s p ≡ Some (node c ts) → (p ≤ b) × (b < p + size (node c ts)) →
    least 0 s.tree p b ≡ (p, p + size (node c ts))
least_own s p b c ts there y = least_so s p p b c ts there (omega arith, omega arith) y (λ i d at h.
    let l = (side_at (suc p) ts i d at).low in
    let g = (holds_is d.number (d.number + size d.tree) p (and_l (holds d.number (d.number + size d.tree) p) _ h)).0 in
    absurd (omega (arith, l, g)))

-- ---- operands stand one behind the other
pub sides_rise : (ts : Trees) (m i j : ℕ) (d e : Side) → slice_get (sides_from m ts) i ≡ Some d → slice_get (sides_from m ts) j ≡ Some e → i < j →
    d.number + size d.tree ≤ e.number
sides_rise none m i j d e h g less = absurd (cc)
sides_rise (more t ts) m zero zero d e h g less = absurd (omega (arith, less))
sides_rise (more t ts) m zero (suc j) d e h g less =
    let l = (side_at (m + size t) ts j e g).low in
    let n = ap (λ (z : Side). z.number + size z.tree) (same_Some (side m t) d h) in
    omega (arith, l, n)
sides_rise (more t ts) m (suc i) zero d e h g less = absurd (omega (arith, less))
sides_rise (more t ts) m (suc i) (suc j) d e h g less = sides_rise ts (m + size t) i j d e h g (omega (arith, less))

-- each node below is in one of them
pub side_of : (ts : Trees) (m a : ℕ) → m ≤ a → a < m + sizes ts →
    (i : ℕ) × (d : Side) × (slice_get (sides_from m ts) i ≡ Some d) × (d.number ≤ a) × (a < d.number + size d.tree)
side_of none m a low high = absurd (omega (arith, low, high))
side_of (more t ts) m a low high = by_test (nat_lt a (m + size t))
    (λ e. (0, side m t, refl, low, grind (arith, nat_tests, e)))
    (λ e. let r = side_of ts (m + size t) a (not_less_is a (m + size t) e) (omega (arith, high)) in (suc r.0, r.1, r.2, r.3, r.4))

-- none holds a node of one and a node of a later one
pub none_holds : (ts : Trees) (m i j k a b : ℕ) (d e f : Side) → slice_get (sides_from m ts) i ≡ Some d → slice_get (sides_from m ts) j ≡ Some e →
    slice_get (sides_from m ts) k ≡ Some f → e.number < f.number → e.number ≤ a → a < e.number + size e.tree → f.number ≤ b → both a b d ≡ true → ⊥
none_holds ts m i j k a b d e f di ej fk rise el eh fl h =
    ⊎_elim
    (λ less. let g = sides_rise ts m i j d e di ej less in omega (arith, g, el, ah))
    (λ r. ⊎_elim
    (λ is. ⊎_elim
    (λ less. let g = sides_rise ts m j k e f ej fk less in
    let n = ap (λ (z : Side). z.number + size z.tree) (same_Some d e (sym di ∙ (ap (slice_get (sides_from m ts)) is ∙ ej))) in
    omega (arith, g, n, bh, fl))
    (λ q. ⊎_elim
    (λ one. let n = ap (λ (z : Side). z.number) (same_Some e f (sym ej ∙ (ap (slice_get (sides_from m ts)) one ∙ fk))) in omega (arith, n, rise))
    (λ more. let g = sides_rise ts m k j f e fk ej more in omega (arith, g, rise)) q)
    (low_or_high j k))
    (λ more. let g = sides_rise ts m j i e d ej di more in omega (arith, g, eh, al)) r)
    (low_or_high i j)
  where
    of_a : (d.number ≤ a) × (a < d.number + size d.tree)
    of_a = holds_is d.number (d.number + size d.tree) a (and_l (holds d.number (d.number + size d.tree) a) _ h)

    of_b : (d.number ≤ b) × (b < d.number + size d.tree)
    of_b = holds_is d.number (d.number + size d.tree) b (and_r (holds d.number (d.number + size d.tree) a) _ h)

    al : d.number ≤ a
    al = of_a.0

    ah : a < d.number + size d.tree
    ah = of_a.1

    bh : b < d.number + size d.tree
    bh = of_b.1

    low_or_high : (n m : ℕ) → (n < m) ⊎ ((n ≡ m) ⊎ (m < n))
    low_or_high n m = grind arith
