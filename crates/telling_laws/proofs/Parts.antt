-- Nodes of a full expression, the trees below them, and the nodes above.
use Rattle.std.proofs.Common.{◌≡◌, ◌⊎◌, inl, inr, ⊎_elim, ℕ, zero, suc, ◌+◌, ◌<◌, ◌≤◌, nat_lt, ◌==◌, true, false, Some, refl}
use Rattle.std.proofs.Common.{sym, ap, subst, ◌∙◌, true≢false, arith}
use Rattle.std.specs.Prelude.{slice_get}
use Rattle.std.proofs.lemmas.Bool.Decides.{nat_tests}
use Rattle.std.proofs.lemmas.Option.{same_Some}
use Rattle.c_typed.specs.declared.class.Class.{Class}
use Rattle.c_typed.specs.declared.class.Class.TheVariants as class
use Rattle.c_typed.specs.Tree.{Tree, Trees, node, none, more, size, sizes, class_of, operands}
use Rattle.c_typed.specs.Order.{has}
use Rattle.c_model.specs.Completions.{parent_in, parent_among}
use Rattle.c_model.proofs.Decided.{has_due}
use Rattle.elaborate.specs.Formed.{is_formed, are_formed, takes}
use Rattle.elaborate.proofs.Listed.{and_l, and_r, silent}
use Rattle.elaborate.proofs.Ranges.{eq_eq}
use Rattle.completion_laws.proofs.Lists.{other}
use Rattle.completion_laws.proofs.Ahead.{if_true, if_false, among_first, among_rest, above_in}
use Rattle.evaluation_log.specs.Sides.{Side, side, sides_from}
use Rattle.run_evaluations.specs.Scopes.{Scope, part_in, part_among, part_of, IsOperandOf, ListsAreAlone}
use Rattle.run_evaluations.specs.Shows.{IsStill}
use Rattle.run_evaluations.specs.Told.{IsBeside, IsOperandIn, IsUnder}
use Rattle.run_evaluations.proofs.PartLemmas.{by_test, not_less_is, number_is, part_range, part_part, side_at, side_part, size_some}

-- ---- a node has a tree
mutual
  pub part_there : (t : Tree) (k n : ℕ) → k ≤ n → n < k + size t → (x : Tree) × (part_in k t n ≡ Some x)
  part_there (node c ts) k n low high = by_test (n == k)
      (λ e. (node c ts, if_true _ _ _ e))
      (λ e. let r = among_there ts (suc k) n (number_above n k e low) (omega (arith, high)) in (r.0, if_false _ _ _ e ∙ r.1))
    where
      number_above : (n k : ℕ) → (n == k) ≡ false → k ≤ n → suc k ≤ n
      number_above n k e low = grind (arith, nat_tests)

  pub among_there : (ts : Trees) (m n : ℕ) → m ≤ n → n < m + sizes ts → (x : Tree) × (part_among m ts n ≡ Some x)
  among_there none m n low high = absurd (omega (arith, low, high))
  among_there (more t ts) m n low high = by_test (nat_lt n (m + size t))
      (λ e. let r = part_there t m n low (grind (arith, nat_tests, e)) in (r.0, if_true _ _ _ e ∙ r.1))
      (λ e. let r = among_there ts (m + size t) n (not_less_is n (m + size t) e) (omega (arith, high)) in (r.0, if_false _ _ _ e ∙ r.1))

-- ---- which has the operands that its operators take
mutual
  pub part_formed : (t : Tree) (k n : ℕ) (x : Tree) → is_formed t ≡ true → part_in k t n ≡ Some x → is_formed x ≡ true
  part_formed (node c ts) k n x formed h = by_test (n == k)
      (λ e. subst (λ z. is_formed z ≡ true) (same_Some (node c ts) x (sym (if_true _ _ _ e) ∙ h)) formed)
      (λ e. among_formed ts (suc k) n x (and_r (takes c ts) _ formed) (sym (if_false _ _ _ e) ∙ h))

  among_formed : (ts : Trees) (m n : ℕ) (x : Tree) → are_formed ts ≡ true → part_among m ts n ≡ Some x → is_formed x ≡ true
  among_formed none m n x formed h = absurd (cc)
  among_formed (more t ts) m n x formed h = by_test (nat_lt n (m + size t))
      (λ e. part_formed t m n x (and_l (is_formed t) _ formed) (sym (if_true _ _ _ e) ∙ h))
      (λ e. among_formed ts (m + size t) n x (and_r (is_formed t) _ formed) (sym (if_false _ _ _ e) ∙ h))

pub still : (s : Scope) → is_formed s.tree ≡ true → IsStill s
still s formed m t u there quiet due =
    true≢false (sym due ∙ (sym (has_due s.taken t m u) ∙ ap (λ z. has z u) (silent s.taken t m (part_formed s.tree 0 m t formed there) quiet)))

pub lists_alone : (s : Scope) → is_formed s.tree ≡ true → ListsAreAlone s
lists_alone s formed n ts there = no_operands ts (part_formed s.tree 0 n (node class.Isolated ts) formed there)
  where
    no_operands : (us : Trees) → is_formed (node class.Isolated us) ≡ true → us ≡ none
    no_operands none h = refl
    no_operands (more t us) h = absurd (true≢false (sym h))

-- ---- the node above is the one whose operand it is
mutual
  pub part_parent : (k : ℕ) (t : Tree) (n p : ℕ) (x : Tree) → part_in k t n ≡ Some x → n < p → p < n + size x → parent_in k t p ≡ parent_in n x p
  part_parent k (node c ts) n p x h low high = by_test (n == k)
      (λ e. let q = same_Some (node c ts) x (sym (if_true _ _ _ e) ∙ h) in
      ap (λ z. parent_in z (node c ts) p) (sym (number_is n k e)) ∙ ap (λ z. parent_in n z p) q)
      (λ e. among_parent k (suc k) ts n p x (sym (if_false _ _ _ e) ∙ h) low high)

  among_parent : (k m : ℕ) (ts : Trees) (n p : ℕ) (x : Tree) → part_among m ts n ≡ Some x → n < p → p < n + size x →
      parent_among k m ts p ≡ parent_in n x p
  among_parent k m none n p x h low high = absurd (cc)
  among_parent k m (more t ts) n p x h low high = by_test (nat_lt n (m + size t))
      (λ e. let g : part_in m t n ≡ Some x = sym (if_true _ _ _ e) ∙ h in
      let r = part_range m t n x g in
      let a = r.low in
      let b = r.high in
      among_first k m t ts p (omega (arith, b, high))
      ∙ (if_false _ _ _ (other p m (inr (omega (arith, a, low)))) ∙ part_parent m t n p x g low high))
      (λ e. let o = not_less_is n (m + size t) e in
      among_rest k m t ts p (omega (arith, o, low)) ∙ among_parent k (m + size t) ts n p x (sym (if_false _ _ _ e) ∙ h) low high)

side_parent : (k m : ℕ) (ts : Trees) (i : ℕ) (d : Side) → slice_get (sides_from m ts) i ≡ Some d → parent_among k m ts d.number ≡ Some k
side_parent k m none i d h = absurd (cc)
side_parent k m (more t ts) zero d h =
    let z = size_some t in
    subst (λ (q : Side). parent_among k m (more t ts) q.number ≡ Some k) (same_Some (side m t) d h)
    (among_first k m t ts m (omega (arith, z)) ∙ if_true _ _ _ (eq_eq m))
side_parent k m (more t ts) (suc i) d h =
    let a = side_at (m + size t) ts i d h in
    among_rest k m t ts d.number a.low ∙ side_parent k (m + size t) ts i d h

-- an operand of a node, with its tree
pub record Below (s : Scope) (p n : ℕ) (c : Class) (ts : Trees) : Type 0 where
  pub tree : Tree
  pub there : part_of s n ≡ Some tree
  pub low : p < n
  pub high : n + size tree ≤ p + size (node c ts)
  pub some : 0 < size tree

pub operand_below : (s : Scope) (p n : ℕ) (o : IsOperandIn s p n) → Below s p n o.class o.operands
operand_below s p n o =
    let x = o.of in
    let a = side_at (suc p) o.operands o.index x.side x.there in
    subst (λ z. Below s p z o.class o.operands) x.number (record {
      tree = x.side.tree;
      there = side_part s p o.class o.operands o.there o.index x.side x.there;
      low = (let l = a.low in omega (arith, l));
      high = (let h = a.high in omega (arith, h));
      some = size_some x.side.tree;
    })

pub parent_is : (s : Scope) (p n : ℕ) → IsOperandIn s p n → parent_in 0 s.tree n ≡ Some p
parent_is s p n o =
    let x = o.of in
    let b = operand_below s p n o in
    let l = b.low in
    let h = b.high in
    let z = b.some in
    part_parent 0 s.tree p n (node o.class o.operands) o.there l (omega (arith, h, z))
    ∙ subst (λ z. parent_in p (node o.class o.operands) z ≡ Some p) x.number (side_parent p (suc p) o.operands o.index x.side x.there)

-- a node stands in the tree of each node above it with all of its own
pub record Within (a x p y : ℕ) : Type 0 where
  pub low : a ≤ p
  pub high : p + y ≤ a + x

pub part_within : (s : Scope) (a p : ℕ) (x y : Tree) → part_of s a ≡ Some x → part_of s p ≡ Some y → a ≤ p → p < a + size x → Within a (size x) p (size y)
part_within s a p x y at there low high =
    let r = part_range a x p y (sym (part_part 0 s.tree a p x at low high) ∙ there) in
    let h = r.high in
    record { low = low; high = h }

-- an operand of a node above another one, that is below a third one, which is an operand of that one or stands above it
pub above_parent : (s : Scope) (a p n : ℕ) → IsOperandIn s p n → IsUnder s a n → (a ≡ p) ⊎ IsUnder s a p
above_parent s a p n o w =
    let l = w.low in
    let h = w.high in
    let r = above_in w.part a n p (sym (part_parent 0 s.tree a n w.part w.there l h) ∙ parent_is s p n o) in
    let b = r.0 in
    let e = r.1 in
    ⊎_elim inl (λ g. inr (record { part = w.part; there = w.there; low = g; high = e })) (same_or_less a p b)
  where
    same_or_less : (a b : ℕ) → a ≤ b → (a ≡ b) ⊎ (a < b)
    same_or_less a b h = grind arith

-- ---- operands of one node
pub same_operands : (s : Scope) (p m i : ℕ) (c d : Class) (ts us : Trees) → part_of s p ≡ Some (node c ts) → part_of s p ≡ Some (node d us) →
    IsOperandOf s p c ts i m → IsOperandOf s p d us i m
same_operands s p m i c d ts us a b o =
    let e = same_Some (node c ts) (node d us) (sym a ∙ b) in
    subst (λ z. IsOperandOf s p d z i m) (ap operands e) (subst (λ z. IsOperandOf s p z ts i m) (ap class_of e) o)

-- what stands beside an operand of a node is an operand of that node too, or stands beside the node
pub beside_up : (s : Scope) (p n m : ℕ) (c : Class) (ts : Trees) → part_of s p ≡ Some (node c ts) → IsOperandIn s p n → IsBeside s m n →
    ((i : ℕ) × IsOperandOf s p c ts i m) ⊎ IsBeside s m p
beside_up s p n m c ts there o b = ⊎_elim (λ e. inl (of_same e)) (λ w. inr (of_above w)) (above_parent s b.above p n o b.way)
  where
    of_same : b.above ≡ p → (i : ℕ) × IsOperandOf s p c ts i m
    of_same e =
        let q = subst (λ z. IsOperandIn s z m) e b.operand in
        (q.index, same_operands s p m q.index q.class c q.operands ts q.there there q.of)

    of_above : IsUnder s b.above p → IsBeside s m p
    of_above w =
        let mine = operand_below s b.above m b.operand in
        let own = operand_below s p n o in
        let end = b.behind mine.tree mine.there in
        let ol = own.low in
        let oh = own.high in
        let os = own.some in
        let ms = mine.some in
        let wl = w.low in
        record {
          above = b.above;
          operand = b.operand;
          way = w;
          behind = λ part at.
              let same = ap size (same_Some mine.tree part (sym mine.there ∙ at)) in
              ⊎_elim
              (λ before. ⊎_elim (λ less. omega (arith, same, less)) (λ inside. absurd (
              let r = part_within s m p mine.tree (node o.class o.operands) mine.there o.there before inside in
              let z = r.high in
              omega (arith, z, end, oh, os))) (end_or_in p (m + size mine.tree)))
              (λ after. absurd (
              let q = sym (part_parent 0 s.tree p m (node o.class o.operands) o.there after (omega (arith, end, ms, oh, os)))
              ∙ parent_is s b.above m b.operand in
              let z = (above_in (node o.class o.operands) p m b.above q).0 in
              omega (arith, z, wl)))
              (low_or_high m p);
        }
      where
        low_or_high : (a b : ℕ) → (a ≤ b) ⊎ (b < a)
        low_or_high a b = grind arith

        end_or_in : (a e : ℕ) → (e ≤ a) ⊎ (a < e)
        end_or_in a e = grind arith
