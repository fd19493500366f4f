-- Where the node stands of the event that is listed behind another one.
use Rattle.std.proofs.Common.{◌≡◌, ℕ, suc, ◌+◌, ◌≤◌, true, false, List, [], ◌∷◌, ◌++◌, Option, Some, refl, sym, ap, subst, ◌∙◌, true≢false, arith}
use Rattle.std.specs.Prelude.{slice_get}
use Rattle.std.proofs.lemmas.Option.{same_Some}
use Rattle.c_typed.specs.declared.tree.Place.{Place}
use Rattle.c_typed.specs.declared.class.Class.{Class}
use Rattle.c_typed.specs.Tree.{Tree, Trees, node, none, more, size, sizes, is_quiet}
use Rattle.c_typed.specs.Order.{goes, own_events, events, operand_events, has}
use Rattle.elaborate.specs.Formed.{is_formed, are_formed, takes}
use Rattle.elaborate.proofs.Listed.{and_l, and_r, silent}
use Rattle.elaborate.proofs.Ranges.{has_itself, operands_in}
use Rattle.completion_laws.specs.Completed.{comes_next}
use Rattle.completion_laws.proofs.Lists.{left, right, split, no_split, has_at}
use Rattle.completion_laws.proofs.Ahead.{by_test, if_false, own_next, own_of, operand, operand_split}
use Rattle.evaluation_log.specs.Sides.{Side, side, sides_from}
use Rattle.run_evaluations.specs.Scopes.{Scope, part_of}
use Rattle.run_evaluations.specs.Told.{IsOperandIn, IsUnder}
use Rattle.run_evaluations.proofs.PartLemmas.{side_part}

pub data Step (s : Scope) (n w : ℕ) : Type 0 where
  same : w ≡ n → Step s n w
  up : IsOperandIn s w n → Step s n w
  later : (p : ℕ) → IsOperandIn s p n → IsUnder s p w → ((part : Tree) → part_of s n ≡ Some part → n + size part ≤ w) → Step s n w

same_part : (o : Option Tree) (x y : Tree) → o ≡ Some x → o ≡ Some y → x ≡ y
same_part o x y a b = same_Some x y (sym a ∙ b)

nil_left : (xs ys : List Place) → [] ≡ xs ++ ys → xs ≡ []
nil_left [] ys h = refl
nil_left (x ∷ xs) ys h = absurd (cc)

no_next : (k : ℕ) (xs own : List Place) → [] ≡ xs ++ own → comes_next k own ≡ true → ⊥
no_next k [] [] h g = true≢false (sym g)
no_next k [] (x ∷ own) h g = absurd (cc)
no_next k (x ∷ xs) own h g = absurd (cc)

head_is : (v x : Place) (us vs : List Place) → v ∷ us ≡ x ∷ vs → v ≡ x
head_is v x us vs h = ap head h
  where
    head : List Place → Place
    head [] = v
    head (z ∷ zs) = z

-- the operands from operand i on, the first of which has the number m, are those of the node k
abbrev pub Suffix : ℕ → Trees → ℕ → ℕ → Trees → Type 0
Suffix k all i m ts = (j : ℕ) (d : Side) → slice_get (sides_from m ts) j ≡ Some d → slice_get (sides_from (suc k) all) (i + j) ≡ Some d

pub whole : (k : ℕ) (all : Trees) → Suffix k all 0 (suc k) all
whole k all j d h = ap (slice_get (sides_from (suc k) all)) (none_more j) ∙ h
  where
    none_more : (n : ℕ) → 0 + n ≡ n
    none_more n = omega arith

pub suffix_rest : (k : ℕ) (all : Trees) (i m : ℕ) (t : Tree) (ts : Trees) → Suffix k all i m (more t ts) → Suffix k all (suc i) (m + size t) ts
suffix_rest k all i m t ts f j d h = ap (slice_get (sides_from (suc k) all)) (omega arith) ∙ f (suc j) d h

pub suffix_first : (k : ℕ) (all : Trees) (i m : ℕ) (t : Tree) (ts : Trees) → Suffix k all i m (more t ts) →
    slice_get (sides_from (suc k) all) i ≡ Some (side m t)
suffix_first k all i m t ts f = ap (slice_get (sides_from (suc k) all)) (omega arith) ∙ f 0 (side m t) refl

module _ (s : Scope) where
  pub loud_of : (t : Tree) (k : ℕ) (passed ahead : List Place) (u : Place) → is_formed t ≡ true → events s.taken k t ≡ passed ++ u ∷ ahead → is_quiet t ≡ false
  loud_of t k passed ahead u formed h = by_test (is_quiet t)
      (λ q. absurd (no_split passed ahead u (sym (silent s.taken t k formed q) ∙ h)))
      (λ q. q)

  goes_of : (c : Class) (choice : Option ℕ) (i m : ℕ) (t : Tree) (passed ahead : List Place) (u : Place) →
      operand s.taken c choice i m t ≡ passed ++ u ∷ ahead → goes c choice i ≡ true
  goes_of c choice i m t passed ahead u h = by_test (goes c choice i)
      (λ e. e)
      (λ e. absurd (no_split passed ahead u (sym (if_false _ _ _ e) ∙ h)))

  -- the last event of a tree is its root's
  pub last_root : (t : Tree) (k : ℕ) (passed : List Place) (u : Place) → is_formed t ≡ true → events s.taken k t ≡ passed ++ (u ∷ []) → u.node ≡ k
  last_root (node c ts) k passed u formed h =
      elim (split (operand_events s.taken c (s.taken k) 0 (suc k) ts) (own_events k c) passed [] u h) [
        | left rest a b ↦ absurd (no_next k rest (own_events k c) b (own_next k c ts passed rest u s.taken formed a))
        | right before a b ↦ own_of k c u (ap (λ z. has z u) b ∙ has_at before [] u)
      ]

  module _ (k : ℕ) (c : Class) (all : Trees) (here : part_of s k ≡ Some (node c all)) where
    operand_here : (i m : ℕ) (t : Tree) → slice_get (sides_from (suc k) all) i ≡ Some (side m t) → goes c (s.taken k) i ≡ true → is_quiet t ≡ false →
        IsOperandIn s k m
    operand_here i m t at g l = record {
      class = c;
      operands = all;
      there = here;
      index = i;
      of = record { side = side m t; there = at; number = refl; goes = g; loud = l };
    }

    -- an event that is the last of an operand's is the operand's own
    last_own : (i m : ℕ) (t : Tree) (passed : List Place) (u : Place) → slice_get (sides_from (suc k) all) i ≡ Some (side m t) → is_formed t ≡ true →
        operand s.taken c (s.taken k) i m t ≡ passed ++ (u ∷ []) → IsOperandIn s k u.node × (u.node ≡ m)
    last_own i m t passed u at formed h =
        let e = operand_split s.taken c (s.taken k) i m t passed [] u h in
        let own = last_root t m passed u formed e in
        (subst (λ z. IsOperandIn s k z) (sym own) (operand_here i m t at (goes_of c (s.taken k) i m t passed [] u h) (loud_of t m passed [] u formed e)), own)

    last_operand : (ts : Trees) (i m : ℕ) → Suffix k all i m ts → (passed : List Place) (u : Place) → are_formed ts ≡ true →
        operand_events s.taken c (s.taken k) i m ts ≡ passed ++ (u ∷ []) → IsOperandIn s k u.node
    last_operand none i m f passed u formed h = absurd (no_split passed [] u h)
    last_operand (more t ts) i m f passed u formed h =
        elim (split (operand s.taken c (s.taken k) i m t) (operand_events s.taken c (s.taken k) (suc i) (m + size t) ts) passed [] u h) [
          | left rest a b ↦ (last_own i m t passed u (suffix_first k all i m t ts f) (and_l (is_formed t) _ formed)
              (a ∙ ap (λ z. passed ++ u ∷ z) (nil_left rest _ b))).0
          | right before a b ↦ last_operand ts (suc i) (m + size t) (suffix_rest k all i m t ts f) before u (and_r (is_formed t) _ formed) b
        ]

    -- the next event is one of a later operand
    seam : (ts : Trees) (i m : ℕ) (t : Tree) (passed rest : List Place) (u v : Place) → slice_get (sides_from (suc k) all) i ≡ Some (side m t) →
        is_formed t ≡ true → suc k ≤ m → m + (size t + sizes ts) ≤ suc k + sizes all → operand s.taken c (s.taken k) i m t ≡ passed ++ (u ∷ []) →
        v ∷ rest ≡ operand_events s.taken c (s.taken k) (suc i) (m + size t) ts → Step s u.node v.node
    seam ts i m t passed rest u v at formed low high a b =
        let r = last_own i m t passed u at formed a in
        let own = r.1 in
        let w = operands_in s.taken c (s.taken k) ts (suc i) (m + size t) v (ap (λ z. has z v) (sym b) ∙ has_itself v rest) in
        let l = w.0 in
        let h = w.1 in
        later k r.0 (record { part = node c all; there = here; low = omega (arith, l, low); high = omega (arith, h, high) })
        (λ part there.
        let e = ap size (same_part (part_of s u.node) part t there (ap (part_of s) own ∙ side_part s k c all here i (side m t) at)) in
        omega (arith, e, own, l))

  mutual
    pub tree_step : (t : Tree) (k : ℕ) (passed rest : List Place) (u v : Place) → part_of s k ≡ Some t → is_formed t ≡ true →
        events s.taken k t ≡ passed ++ (u ∷ v ∷ rest) → Step s u.node v.node
    tree_step (node c ts) k passed rest u v here formed h =
        elim (split (operand_events s.taken c (s.taken k) 0 (suc k) ts) (own_events k c) passed (v ∷ rest) u h) [
          | left xs a b ↦ in_operands xs a b
              (λ ys e. operands_step ts 0 (suc k) k c ts here (whole k ts) passed ys u v (and_r (takes c ts) _ formed) (omega arith) (omega arith) e)
          | right before a b ↦
              (let xu = own_of k c u (ap (λ z. has z u) b ∙ has_at before (v ∷ rest) u) in
              let xv = own_of k c v (ap (λ z. has z v) b ∙ behind before) in
              same (xv ∙ sym xu))
        ]
      where
        behind : (before : List Place) → has (before ++ u ∷ v ∷ rest) v ≡ true
        behind before = subst (λ z. has z v ≡ true) (append_one before) (has_at (before ++ (u ∷ [])) rest v)
          where
            append_one : (xs : List Place) → (xs ++ (u ∷ [])) ++ v ∷ rest ≡ xs ++ u ∷ v ∷ rest
            append_one [] = refl
            append_one (x ∷ xs) = ap (λ z. x ∷ z) (append_one xs)

        in_operands : (xs : List Place) → operand_events s.taken c (s.taken k) 0 (suc k) ts ≡ passed ++ u ∷ xs → v ∷ rest ≡ xs ++ own_events k c →
            ((ys : List Place) → operand_events s.taken c (s.taken k) 0 (suc k) ts ≡ passed ++ (u ∷ v ∷ ys) → Step s u.node v.node) → Step s u.node v.node
        in_operands [] a b again =
            let own = own_of k c v (ap (λ z. has z v) (sym b) ∙ has_itself v rest) in
            up (subst (λ z. IsOperandIn s z u.node) (sym own) (last_operand k c ts here ts 0 (suc k) (whole k ts) passed u (and_r (takes c ts) _ formed) a))
        in_operands (x ∷ xs) a b again = again xs (a ∙ ap (λ z. passed ++ u ∷ z ∷ xs) (sym (head_is v x rest (xs ++ own_events k c) b)))

    operands_step : (ts : Trees) (i m k : ℕ) (c : Class) (all : Trees) → part_of s k ≡ Some (node c all) → Suffix k all i m ts →
        (passed rest : List Place) (u v : Place) → are_formed ts ≡ true → suc k ≤ m → m + sizes ts ≤ suc k + sizes all →
        operand_events s.taken c (s.taken k) i m ts ≡ passed ++ (u ∷ v ∷ rest) → Step s u.node v.node
    operands_step none i m k c all here f passed rest u v formed low high h = absurd (no_split passed (v ∷ rest) u h)
    operands_step (more t ts) i m k c all here f passed rest u v formed low high h =
        elim (split (operand s.taken c (s.taken k) i m t) (operand_events s.taken c (s.taken k) (suc i) (m + size t) ts) passed (v ∷ rest) u h) [
          | left xs a b ↦ in_first xs a b
              (λ ys e. tree_step t m passed ys u v (side_part s k c all here i (side m t) (suffix_first k all i m t ts f)) (and_l (is_formed t) _ formed)
              (operand_split s.taken c (s.taken k) i m t passed (v ∷ ys) u e))
          | right before a b ↦ operands_step ts (suc i) (m + size t) k c all here (suffix_rest k all i m t ts f) before rest u v
              (and_r (is_formed t) _ formed) (omega (arith, low)) (omega (arith, high)) b
        ]
      where
        in_first : (xs : List Place) → operand s.taken c (s.taken k) i m t ≡ passed ++ u ∷ xs →
            v ∷ rest ≡ xs ++ operand_events s.taken c (s.taken k) (suc i) (m + size t) ts →
            ((ys : List Place) → operand s.taken c (s.taken k) i m t ≡ passed ++ (u ∷ v ∷ ys) → Step s u.node v.node) → Step s u.node v.node
        in_first [] a b again =
            seam k c all here ts i m t passed rest u v (suffix_first k all i m t ts f) (and_l (is_formed t) _ formed) low (omega (arith, high)) a b
        in_first (x ∷ xs) a b again = again xs (a ∙ ap (λ z. passed ++ u ∷ z ∷ xs)
            (sym (head_is v x rest (xs ++ operand_events s.taken c (s.taken k) (suc i) (m + size t) ts) b)))
