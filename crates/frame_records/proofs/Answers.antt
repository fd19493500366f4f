-- What the calls answer is the first conflict of all pairs of which they tell.
use Rattle.std.proofs.Common.{◌≡◌, ◌⊎◌, inl, inr, ⊎_elim, ◌<◌, ◌≤◌, ◌+◌, ℕ, suc, true, false, List, [], ◌∷◌, ◌++◌, Option, Some, None}
use Rattle.std.proofs.Common.{refl, sym, ap, subst, ◌∙◌, true≢false, arith}
use Rattle.std.specs.Prelude.{slice_get}
use Rattle.std.proofs.lemmas.Option.{same_Some}
use Rattle.ub_base.specs.Frames.{Row as FrameRow}
use Rattle.addr_map.specs.declared.map.Row.{Row}
use Rattle.c_typed.specs.declared.class.Class.{Class}
use Rattle.c_typed.specs.declared.class.Class.TheVariants.{Object, Constant, Plain, Store, Update, Choice, Comma, Call, Isolated}
use Rattle.c_typed.specs.declared.tree.Place.{Place}
use Rattle.c_typed.specs.Decide.{due_in}
use Rattle.c_typed.specs.Order.{events, goes, has}
use Rattle.c_typed.specs.Tree.{Tree, node, is_quiet, size}
use Rattle.c_model.specs.Completions.{Completed, Incomplete, Own_node, Operands_of, parent_in}
use Rattle.c_model.proofs.Decided.{has_due}
use Rattle.completion_laws.specs.Completed.{completed_next, with_above}
use Rattle.completion_laws.proofs.Lists.{has_at}
use Rattle.conflict_detector.specs.Complete.{IsConflictAbove, IsConflictDone, MayGather, above_of}
use Rattle.elaborate.specs.Formed.{is_formed}
use Rattle.evaluation_log.specs.Sides.{Side, first_loud, last_if, last_in, sides_from}
use Rattle.evaluation_log.specs.declared.found.Found.{Found}
use Rattle.evaluation_search.specs.First.{IsFirst, IsFirstOf}
use Rattle.evaluation_search.proofs.FirstLemmas.{alike}
use Rattle.run_evaluations.specs.First.{AreOfNode, AreOfOperands, IsConflictIn}
use Rattle.run_evaluations.specs.Scopes.{Scope, part_of}
use Rattle.run_evaluations.specs.Shows.{NoneOfNode, NoneOfTwo}
use Rattle.run_evaluations.specs.Told.{Evaluation, IsOperandIn, IsUnder, Opened}
use Rattle.run_evaluations.proofs.PartLemmas.{side_part}
use Rattle.run_evaluations.proofs.ShowLemmas.{choice_before}
use Rattle.run_evaluations.proofs.ToldLemmas.{due_part}
use Rattle.telling_laws.specs.FirstFound.{ByPlaces, ToldPairs}
use Rattle.telling_laws.specs.Standing.{StandsBehind, completed_in, places}
use Rattle.telling_laws.proofs.Leasts.{side_of, sides_rise}
use Rattle.telling_laws.proofs.Parts.{same_operands, still}
use Rattle.telling_laws.proofs.Stands.{Last, by_later, by_same, by_up, completed_is, last_of, step_to}
use Rattle.telling_laws.proofs.Steps.{Step, last_root, later, same, up}
use Rattle.telling_laws.proofs.Tells.{operands_parent}
use Rattle.frame_records.specs.Answers.{Answers, AnswersAreFirst, SeesOr, nothing, operands, own, sees}
use Rattle.frame_records.specs.Asked.{AboveMayBeTold}
use Rattle.frame_records.proofs.Above.{at_behind, behind_at, behind_side, last_side, none_loud, some_loud, up_last}
use Rattle.frame_records.proofs.Asked.{behind_may_be_told}
use Rattle.frame_records.proofs.Pairs.{conflict_clashes, none_of_two}

-- ---- which node is above
abbrev number_of : Option ℕ → ℕ
number_of None = 0
number_of (Some n) = n

above_last : (p m : ℕ) (o : Option ℕ) → last_if p o ≡ Some m → (m ≡ p) × (o ≡ None)
above_last p m None h = (sym (ap number_of h), refl)
above_last p m (Some q) h = absurd (let z : None ≡ Some m = h in cc (z))

not_last : (p : ℕ) (o : Option ℕ) → last_if p o ≡ None → (q : ℕ) × (o ≡ Some q)
not_last p None h = absurd (let z : Some p ≡ None = h in cc (z))
not_last p (Some q) h = (q, refl)

root_has_none : (t : Tree) (m : ℕ) → last_in 0 t 0 ≡ Some m → ⊥
root_has_none (node c ts) m h = let z : None ≡ Some m = h in cc (z)

module _ (t : Opened) (last : Evaluation) (formed : is_formed t.scope.tree ≡ true) (stands : StandsBehind t last) where
  abbrev n : ℕ
  n = last.place.node

  abbrev s : Scope
  s = t.scope

  l : Last t last
  l = last_of t last stands

  at_place : places l.front ++ last.place ∷ l.ahead ≡ events s.taken 0 s.tree
  at_place = sym l.listed

  -- the node of which it is an operand is above it, where it is the last one with a value
  last_is : (p : ℕ) (o : IsOperandIn s p n) →
      last_in 0 s.tree n ≡ last_if p (first_loud (behind_side o.index (sides_from (suc p) o.operands)))
  last_is p o =
      subst (λ z. last_in 0 s.tree z ≡ last_if p (first_loud (behind_side o.index (sides_from (suc p) o.operands)))) o.of.number
      (last_side p o.index o.class o.operands o.of.side o.of.there s.tree 0 o.there)

  -- then no event of a later operand follows
  not_later : (q m : ℕ) (v : Place) (rest : List Place) → l.ahead ≡ v ∷ rest → (o : IsOperandIn s q n) → IsUnder s q v.node →
      ((part : Tree) → part_of s n ≡ Some part → n + size part ≤ v.node) → last_in 0 s.tree n ≡ Some m → ⊥
  not_later q m v rest e o under end h =
      still s formed r.1.number r.1.tree v (side_part s q o.class o.operands o.there r.0 r.1 r.2)
      (let b = behind_at (sides_from (suc q) o.operands) o.index r.0 r.1 behind r.2 in
      none_loud (behind_side o.index (sides_from (suc q) o.operands))
      (above_last q m (first_loud (behind_side o.index (sides_from (suc q) o.operands))) (sym (last_is q o) ∙ h)).1 b.0 r.1 b.1)
      (due_part s.taken 0 s.tree r.1.number v r.1.tree (side_part s q o.class o.operands o.there r.0 r.1 r.2) r.3 r.4 due)
    where
      size_is : size under.part ≡ size (node o.class o.operands)
      size_is = ap size (same_Some under.part (node o.class o.operands) (sym under.there ∙ o.there))

      r : (i : ℕ) × (d : Side) × (slice_get (sides_from (suc q) o.operands) i ≡ Some d) × (d.number ≤ v.node) × (v.node < d.number + size d.tree)
      r = side_of o.operands (suc q) v.node (let low = under.low in omega (arith, low)) (let high = under.high in let z = size_is in omega (arith, high, z))

      own_there : part_of s n ≡ Some o.of.side.tree
      own_there =
          subst (λ z. part_of s z ≡ Some o.of.side.tree) o.of.number (side_part s q o.class o.operands o.there o.index o.of.side o.of.there)

      far : n + size o.of.side.tree ≤ v.node
      far = end o.of.side.tree own_there

      behind : o.index < r.0
      behind = by_order (low_or_high o.index r.0)
        where
          low_or_high : (a b : ℕ) → (a < b) ⊎ ((a ≡ b) ⊎ (b < a))
          low_or_high a b = grind arith

          by_order : (o.index < r.0) ⊎ ((o.index ≡ r.0) ⊎ (r.0 < o.index)) → o.index < r.0
          by_order (inl less) = less
          by_order (inr (inl is)) =
              let d = ap (λ (z : Side). z.number + size z.tree)
              (same_Some o.of.side r.1 (sym o.of.there ∙ (ap (slice_get (sides_from (suc q) o.operands)) is ∙ r.2))) in
              let number = o.of.number in
              let high = r.4 in
              let z = far in
              absurd (omega (arith, d, number, high, z))
          by_order (inr (inr more)) =
              let d = sides_rise o.operands (suc q) r.0 o.index r.1 o.of.side r.2 o.of.there more in
              let number = o.of.number in
              let high = r.4 in
              let z = far in
              absurd (omega (arith, d, number, high, z))

      due : due_in s.taken 0 s.tree v ≡ true
      due =
          sym (has_due s.taken s.tree 0 v)
          ∙ (ap (λ z. has z v) (l.listed ∙ ap (λ z. places l.front ++ last.place ∷ z) e) ∙ has_second (places l.front))
        where
          has_second : (us : List Place) → has (us ++ last.place ∷ v ∷ rest) v ≡ true
          has_second us = subst (λ z. has z v ≡ true) (append_one us) (has_at (us ++ last.place ∷ []) rest v)
            where
              append_one : (us : List Place) → (us ++ last.place ∷ []) ++ v ∷ rest ≡ us ++ last.place ∷ v ∷ rest
              append_one [] = refl
              append_one (y ∷ us) = ap (λ z. y ∷ z) (append_one us)

  pub above_so : (m : ℕ) → last_in 0 s.tree n ≡ Some m → (completed_in t n ≡ Incomplete → ⊥) → completed_in t n ≡ Operands_of m
  above_so m h some = by_ahead l.ahead refl
    where
      by_step : (v : Place) (rest : List Place) → l.ahead ≡ v ∷ rest → Step s n v.node → completed_in t n ≡ Operands_of m
      by_step v rest e (same q) = absurd (some (by_same t last formed stands l v rest e q))
      by_step v rest e (up o) =
          by_up t last formed stands l v rest e o
          ∙ ap Operands_of
          (sym (above_last v.node m (first_loud (behind_side o.index (sides_from (suc v.node) o.operands))) (sym (last_is v.node o) ∙ h)).0)
      by_step v rest e (later q o under end) = absurd (not_later q m v rest e o under end h)

      by_ahead : (us : List Place) → l.ahead ≡ us → completed_in t n ≡ Operands_of m
      by_ahead [] e =
          let root : n ≡ 0 = last_root s s.tree 0 (places l.front) last.place formed (l.listed ∙ ap (λ z. places l.front ++ last.place ∷ z) e) in
          absurd (root_has_none s.tree m (ap (last_in 0 s.tree) (sym root) ∙ h))
      by_ahead (v ∷ rest) e = by_step v rest e (step_to t last formed stands l v rest e)

  -- ---- where there is none above, the operands of the node above are in an order
  abbrev completed_number : Completed → ℕ
  completed_number (Operands_of q) = q
  completed_number c = 0

  next_is_own : (p : ℕ) → completed_in t n ≡ Operands_of p → (v : Place) × (rest : List Place) × (l.ahead ≡ v ∷ rest) × (v.node ≡ p)
  next_is_own p is = by_ahead l.ahead refl
    where
      no_more : (o : Option ℕ) → with_above o [] ≡ Operands_of p → ⊥
      no_more None h = cc (h)
      no_more (Some q) h = cc (h)

      by_step : (v : Place) (rest : List Place) → l.ahead ≡ v ∷ rest → Step s n v.node → v.node ≡ p
      by_step v rest e (same q) = absurd (let z : Incomplete ≡ Operands_of p = sym (by_same t last formed stands l v rest e q) ∙ is in cc (z))
      by_step v rest e (later q o under end) =
          absurd (let z : Own_node ≡ Operands_of p = sym (by_later t last formed stands l v rest e q o under end) ∙ is in cc (z))
      by_step v rest e (up o) = ap completed_number (sym (by_up t last formed stands l v rest e o) ∙ is)

      by_ahead : (us : List Place) → l.ahead ≡ us → (v : Place) × (rest : List Place) × (l.ahead ≡ v ∷ rest) × (v.node ≡ p)
      by_ahead [] e =
          absurd (no_more (parent_in 0 s.tree n) (sym (completed_is t last formed l ∙ ap (completed_next s.tree n) e) ∙ is))
      by_ahead (v ∷ rest) e = (v, rest, e, by_step v rest e (step_to t last formed stands l v rest e))

  choice_or : (c : Class) → (c ≡ Choice) ⊎ ((choice : Option ℕ) (j : ℕ) → goes c choice j ≡ true)
  choice_or Choice = inl refl
  choice_or Object = inr (λ choice j. refl)
  choice_or Constant = inr (λ choice j. refl)
  choice_or Plain = inr (λ choice j. refl)
  choice_or Store = inr (λ choice j. refl)
  choice_or Update = inr (λ choice j. refl)
  choice_or Comma = inr (λ choice j. refl)
  choice_or Call = inr (λ choice j. refl)
  choice_or Isolated = inr (λ choice j. refl)

  abbrev class_of : Class → Tree → Class
  class_of d (node c ts) = c

  pub none_apart : (frames : List FrameRow) (rows : List Row) (p : ℕ) (f : Found) → last_in 0 s.tree n ≡ None → completed_in t n ≡ Operands_of p →
      IsConflictIn frames rows t (AreOfOperands t p) f → ⊥
  none_apart frames rows p f h is c = by_class (choice_or o.class)
    where
      o : IsOperandIn s p n
      o = operands_parent t last p formed stands is

      all : List Side
      all = sides_from (suc p) o.operands

      loud : (q : ℕ) × (d : Side) × (slice_get (behind_side o.index all) q ≡ Some d) × (is_quiet d.tree ≡ false)
      loud = let w = not_last p (first_loud (behind_side o.index all)) (sym (last_is p o) ∙ h) in some_loud (behind_side o.index all) w.0 w.1

      j : (j : ℕ) × (o.index < j) × (slice_get all j ≡ Some loud.1)
      j = at_behind all o.index loud.0 loud.1 loud.2

      next : (v : Place) × (rest : List Place) × (l.ahead ≡ v ∷ rest) × (v.node ≡ p)
      next = next_is_own p is

      by_class : (o.class ≡ Choice) ⊎ ((choice : Option ℕ) (i : ℕ) → goes o.class choice i ≡ true) → ⊥
      by_class (inr going) =
          true≢false
          (sym (up_last s.taken p o.index j.0 o.class o.operands o.of.side loud.1 o.of.there j.1 j.2 (going (s.taken p) j.0) last.place next.0
          (sym o.of.number) next.3 s.tree 0 (places l.front) next.1 o.there (l.listed ∙ ap (λ z. places l.front ++ last.place ∷ z) next.2))
          ∙ loud.3)
      by_class (inl chooses) =
          let two = c.pair in
          let g = two.of_first in
          let k = two.of_second in
          let same_class : g.class ≡ Choice =
          ap (class_of g.class) (same_Some (node g.class g.operands) (node o.class o.operands) (sym g.there ∙ o.there)) ∙ chooses in
          true≢false
          (sym (choice_before s p g.class g.operands g.there two.first two.second g.index k.index g.of
          (same_operands s p two.second k.index k.class g.class k.operands g.operands k.there g.there k.of) two.rise c.one.place c.other.place
          two.in_first two.in_second same_class)
          ∙ c.apart.before)

pub above_may_be_told : AboveMayBeTold
above_may_be_told t last formed small stands some = by_above (above_of t last.place.node) refl
  where
    by_above : (o : Option ℕ) → above_of t last.place.node ≡ o → MayGather t o
    by_above None e = tt
    by_above (Some m) e = (behind_may_be_told t last formed small stands).2 m (above_so t last formed stands m e some)

-- ---- none is a conflict where none clash
module _ (frames : List FrameRow) (rows : List Row) (t : Opened) where
  abbrev In : (Evaluation → Evaluation → Type 0) → Found → Type 0
  In Pairs = IsConflictIn frames rows t Pairs

  with_pair : (Pairs More : Evaluation → Evaluation → Type 0) (f : Found) (h : In Pairs f) → More h.one h.other → In More f
  with_pair Pairs More f h p = record {
    one = h.one;
    other = h.other;
    one_done = h.one_done;
    other_done = h.other_done;
    pair = p;
    apart = h.apart;
    of = h.of;
  }

  none_of_node : (n : ℕ) → NoneOfNode rows t n → (f : Found) → In (AreOfNode t n) f → ⊥
  none_of_node n none f h =
      conflict_clashes frames rows t (AreOfNode t n) f h (none h.one h.other h.one_done h.other_done h.pair.0 h.pair.1 h.apart)

  module _ (n : ℕ) where
    abbrev Told : Completed → Found → Type 0
    Told c = In (ByPlaces (ToldPairs t.scope n c))

    above_in : (o : Option ℕ) (p : ℕ) → o ≡ Some p → (f : Found) → IsConflictAbove frames rows t o f → In (AreOfOperands t p) f
    above_in o p q f h = subst (λ z. IsConflictAbove frames rows t z f) q h

    in_above : (o : Option ℕ) (p : ℕ) → o ≡ Some p → (f : Found) → In (AreOfOperands t p) f → IsConflictAbove frames rows t o f
    in_above o p q f h = subst (λ z. IsConflictAbove frames rows t z f) (sym q) h

    none_in : (o : Option ℕ) → o ≡ None → (f : Found) → IsConflictAbove frames rows t o f → ⊥
    none_in o q f h = subst (λ z. IsConflictAbove frames rows t z f) q h

    -- of the node alone
    pub own_told : above_of t n ≡ None → (r : Option Found) → SeesOr frames (IsConflictDone frames rows t n) (NoneOfNode rows t n) r →
        IsFirstOf frames (Told Own_node) r
    own_told none None h = none_of_node n h
    own_told none (Some f) h =
        alike frames (IsConflictDone frames rows t n) (Told Own_node) (Some f)
        (λ g c. ⊎_elim (λ a. with_pair (AreOfNode t n) (ByPlaces (ToldPairs t.scope n Own_node)) g a a.pair) (λ b. absurd (none_in (above_of t n) none g b)) c)
        (λ g c. inl (with_pair (ByPlaces (ToldPairs t.scope n Own_node)) (AreOfNode t n) g c c.pair))
        h

    -- of the node and the operands above
    split_told : (p : ℕ) (g : Found) → Told (Operands_of p) g → In (AreOfNode t n) g ⊎ In (AreOfOperands t p) g
    split_told p g c =
        ⊎_elim
        (λ a. inl (with_pair (ByPlaces (ToldPairs t.scope n (Operands_of p))) (AreOfNode t n) g c a))
        (λ b. inr (with_pair (ByPlaces (ToldPairs t.scope n (Operands_of p))) (AreOfOperands t p) g c b))
        c.pair

    node_told : (p : ℕ) (g : Found) → In (AreOfNode t n) g → Told (Operands_of p) g
    node_told p g a = with_pair (AreOfNode t n) (ByPlaces (ToldPairs t.scope n (Operands_of p))) g a (inl a.pair)

    two_told : (p : ℕ) (g : Found) → In (AreOfOperands t p) g → Told (Operands_of p) g
    two_told p g b = with_pair (AreOfOperands t p) (ByPlaces (ToldPairs t.scope n (Operands_of p))) g b (inr b.pair)

    pub sees_told : (p : ℕ) (f : Found) → (above_of t n ≡ Some p) ⊎
        ((above_of t n ≡ None) × ((g : Found) → In (AreOfOperands t p) g → ⊥)) → IsFirst frames (IsConflictDone frames rows t n) f →
        IsFirstOf frames (Told (Operands_of p)) (Some f)
    sees_told p f (inl q) h =
        alike frames (IsConflictDone frames rows t n) (Told (Operands_of p)) (Some f)
        (λ g c. ⊎_elim (node_told p g) (λ b. two_told p g (above_in (above_of t n) p q g b)) c)
        (λ g c. ⊎_elim inl (λ b. inr (in_above (above_of t n) p q g b)) (split_told p g c))
        h
    sees_told p f (inr (none, empty)) h =
        alike frames (IsConflictDone frames rows t n) (Told (Operands_of p)) (Some f)
        (λ g c. ⊎_elim (node_told p g) (λ b. absurd (none_in (above_of t n) none g b)) c)
        (λ g c. ⊎_elim inl (λ b. absurd (empty g b)) (split_told p g c))
        h

    pub operands_told : (p : ℕ) (r : Option Found) → NoneOfNode rows t n →
        SeesOr frames (In (AreOfOperands t p)) (NoneOfTwo rows t p) r → IsFirstOf frames (Told (Operands_of p)) r
    operands_told p None none h = λ g c. ⊎_elim (none_of_node n none g) (none_of_two frames rows t p h g) (split_told p g c)
    operands_told p (Some f) none h =
        alike frames (In (AreOfOperands t p)) (Told (Operands_of p)) (Some f) (two_told p)
        (λ g c. ⊎_elim (λ a. absurd (none_of_node n none g a)) (λ b. b) (split_told p g c))
        h

-- ---- whatever it completes
module _ (frames : List FrameRow) (rows : List Row) (t : Opened) (last : Evaluation) (formed : is_formed t.scope.tree ≡ true)
    (stands : StandsBehind t last) where
  above_of_own : completed_in t last.place.node ≡ Own_node → (o : Option ℕ) → above_of t last.place.node ≡ o → o ≡ None
  above_of_own is None q = refl
  above_of_own is (Some m) q =
      absurd (let z : Own_node ≡ Operands_of m = sym is ∙ above_so t last formed stands m q
      (λ e. let w : Own_node ≡ Incomplete = sym is ∙ e in cc (w)) in cc (z))

  above_of_two : (p : ℕ) → completed_in t last.place.node ≡ Operands_of p → (o : Option ℕ) → above_of t last.place.node ≡ o →
      (above_of t last.place.node ≡ Some p) ⊎ ((above_of t last.place.node ≡ None) × ((g : Found) → IsConflictIn frames rows t (AreOfOperands t p) g → ⊥))
  above_of_two p is None q = inr (q, λ g c. none_apart t last formed stands frames rows p g q is c)
  above_of_two p is (Some m) q =
      let z : Operands_of p ≡ Operands_of m = sym is ∙ above_so t last formed stands m q
      (λ e. let w : Operands_of p ≡ Incomplete = sym is ∙ e in cc (w)) in
      inl (q ∙ ap Some (sym (ap number z)))
    where
      number : Completed → ℕ
      number (Operands_of k) = k
      number c = 0

  pub first_of_answers : (c : Completed) (r : Option Found) → completed_in t last.place.node ≡ c → Answers frames rows t last.place.node c r →
      IsFirstOf frames (IsConflictIn frames rows t (ByPlaces (ToldPairs t.scope last.place.node c))) r
  first_of_answers _ _ is nothing = λ g c. c.pair
  first_of_answers _ _ is (own r h) = own_told frames rows t last.place.node (above_of_own is (above_of t last.place.node) refl) r h
  first_of_answers _ _ is (sees p f h) = sees_told frames rows t last.place.node p f (above_of_two p is (above_of t last.place.node) refl) h
  first_of_answers _ _ is (operands p r none h) = operands_told frames rows t last.place.node p r none h

pub answers_are_first : AnswersAreFirst
answers_are_first frames rows t last r formed stands h = first_of_answers frames rows t last formed stands (completed_in t last.place.node) r refl h
