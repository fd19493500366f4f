-- Which pairs newly show as an event is done.
use Rattle.std.proofs.Common.{◌≡◌, ◌⊎◌, inl, inr, ⊎_elim, ℕ, suc, ◌+◌, ◌<◌, ◌≤◌, ◌==◌, true, false, ◌&&◌, ◌||◌}
use Rattle.std.proofs.Common.{List, [], ◌∷◌, ◌++◌, Option, Some, None, refl, sym, ap, ap₂, subst, ◌∙◌, true≢false, arith}
use Rattle.std.specs.Prelude.{slice_get}
use Rattle.std.proofs.lemmas.Bool.Decides.{nat_tests}
use Rattle.std.proofs.lemmas.Option.{same_Some}
use Rattle.c_typed.specs.declared.tree.Place.{Place}
use Rattle.c_typed.specs.Tree.{Tree, node, size, is_quiet}
use Rattle.c_typed.specs.Order.{Taken, events, has, same_place, is_due, goes}
use Rattle.c_typed.specs.Decide.{due_in}
use Rattle.c_model.specs.Completions.{Completed, Incomplete, Own_node, Operands_of, parent_in}
use Rattle.c_model.specs.Moments.{holds, has_shown, least}
use Rattle.c_model.proofs.Decided.{has_due}
use Rattle.elaborate.specs.Formed.{is_formed}
use Rattle.elaborate.proofs.Listed.{and_l, and_r}
use Rattle.elaborate.proofs.Ranges.{has_cases, or_cases, eq_of, eq_eq, events_in, has_itself}
use Rattle.completion_laws.specs.Completed.{comes_next, completed_next, with_above}
use Rattle.completion_laws.proofs.Lists.{outside, all_outside, out_of, within, other}
use Rattle.completion_laws.proofs.Ahead.{by_test, if_true, if_false}
use Rattle.evaluation_log.specs.Sides.{Side, sides_from}
use Rattle.run_evaluations.specs.Scopes.{Scope, part_of}
use Rattle.run_evaluations.specs.Shows.{AreOfTwo}
use Rattle.run_evaluations.specs.Told.{IsOperandIn, IsUnder}
use Rattle.run_evaluations.proofs.PartLemmas.{side_part, due_at}
use Rattle.run_evaluations.proofs.ToldLemmas.{due_part}
use Rattle.telling_laws.specs.Newly.{IsTaken, IsPair, with_it, AreOfNode, ShowNewly, completed_with, had_shown, ShowsNewly, ShownAreDone}
use Rattle.telling_laws.proofs.Blocks.{Block, holds_is, tree_block, operands_block, none_behind, none_before, outside_each}
use Rattle.telling_laws.proofs.Leasts.{IsLeast, least_is, sides_rise, side_of}
use Rattle.telling_laws.proofs.Parts.{operand_below, parent_is, above_parent, still, part_within}
use Rattle.telling_laws.proofs.Splits.{append_one}
use Rattle.telling_laws.proofs.Steps.{Step, same, up, later, tree_step, last_root}
use Rattle.telling_laws.proofs.ShowLemmas.{from_of, complete_as, complete_before, neither, low_or_high, c_is as complete_is, node_shown, two_shown}

-- ---- one pair of due events
module _ (s : Scope) (x y : Place) (pair : IsPair s x y) (formed : is_formed s.tree ≡ true) where
  abbrev r : ℕ × ℕ
  r = least 0 s.tree x.node y.node

  root_there : part_of s 0 ≡ Some s.tree
  root_there = at s.tree
    where
      at : (t : Tree) → part_of (record { tree = t; taken = s.taken }) 0 ≡ Some t
      at (node c ts) = refl

  pub leasts : IsLeast s x.node y.node r
  leasts = least_is s x.node y.node s.tree 0 root_there (events_in s.taken s.tree 0 x pair.first) (events_in s.taken s.tree 0 y pair.second)

  abbrev from : ℕ
  from = from_of r x.node y.node

  -- where one is of the node itself it is the first
  own_first : ((x.node == r.0) || (y.node == r.0)) ≡ true → x.node ≡ r.0
  own_first h = ⊎_elim
      (λ e. eq_of x.node r.0 e)
      (λ e. let g = eq_of y.node r.0 e in let l = leasts.first.0 in let o = pair.order in omega (arith, g, l, o))
      (or_cases (x.node == r.0) (y.node == r.0) h)

  from_low : r.0 ≤ from
  from_low = by_test ((x.node == r.0) || (y.node == r.0))
      (λ e. let q = if_true _ r.0 (suc r.0) e in omega (arith, q))
      (λ e. let q = if_false _ r.0 (suc r.0) e in omega (arith, q))

  above_not : (a b : ℕ) → a ≤ b → (b == a) ≡ false → suc a ≤ b
  above_not a b l h = grind (arith, nat_tests, l, h)

  first_in : holds from r.1 x.node ≡ true
  first_in = by_test ((x.node == r.0) || (y.node == r.0))
      (λ e. let q = if_true _ r.0 (suc r.0) e in let l = leasts.first.0 in within from r.1 x.node (omega (arith, q, l)) leasts.first.1)
      (λ e. let q = if_false _ r.0 (suc r.0) e in let l = above_not r.0 x.node leasts.first.0 (neither (x.node == r.0) (y.node == r.0) e).0 in
      within from r.1 x.node (omega (arith, q, l)) leasts.first.1)

  second_in : holds from r.1 y.node ≡ true
  second_in = by_test ((x.node == r.0) || (y.node == r.0))
      (λ e. let q = if_true _ r.0 (suc r.0) e in let l = leasts.second.0 in within from r.1 y.node (omega (arith, q, l)) leasts.second.1)
      (λ e. let q = if_false _ r.0 (suc r.0) e in let l = above_not r.0 y.node leasts.second.0 (neither (x.node == r.0) (y.node == r.0) e).1 in
      within from r.1 y.node (omega (arith, q, l)) leasts.second.1)

  -- the events that have to be done stand together, whatever is chosen
  block : (taken : Taken) → Block r.0 from r.1 (events taken 0 s.tree)
  block taken = by_test ((x.node == r.0) || (y.node == r.0))
      (λ e. subst (λ z. Block r.0 z r.1 (events taken 0 s.tree)) (sym (if_true _ r.0 (suc r.0) e))
      (subst (λ z. Block r.0 r.0 z (events taken 0 s.tree)) (sym leasts.end)
      (tree_block taken s.tree r.0 (node leasts.class leasts.operands) leasts.there)))
      (λ e. subst (λ z. Block r.0 z r.1 (events taken 0 s.tree)) (sym (if_false _ r.0 (suc r.0) e))
      (subst (λ z. Block r.0 (suc r.0) z (events taken 0 s.tree)) (sym leasts.end)
      (operands_block taken s.tree r.0 (node leasts.class leasts.operands) leasts.there)))

  -- the pair shows where none of these is ahead
  shown_as : (taken : Taken) (passed ahead : List Place) → events taken 0 s.tree ≡ passed ++ ahead →
      has_shown s.tree taken (has passed) x y ≡ outside from r.1 ahead
  shown_as taken passed ahead listed =
      complete_as (events taken 0 s.tree) (has passed) r x y ∙ complete_before s.tree taken passed ahead from r.1 listed

  -- then none of its events is ahead
  done_of : (passed ahead : List Place) (w : Place) → events s.taken 0 s.tree ≡ passed ++ ahead → outside from r.1 ahead ≡ true →
      is_due s.tree s.taken w ≡ true → holds from r.1 w.node ≡ true → has passed w ≡ true
  done_of passed ahead w listed out due in_it =
      ⊎_elim (λ h. h) (λ h. absurd (true≢false (sym in_it ∙ outside_each from r.1 ahead out w h)))
      (has_cases passed ahead w (ap (λ z. has z w) (sym listed) ∙ due))

  module _ (old : Taken) (passed : List Place) (u : Place) (ahead next : List Place) (is : IsTaken s old passed u ahead next) where
    listed_with : events s.taken 0 s.tree ≡ with_it passed u ++ next
    listed_with = is.behind ∙ sym (append_one passed u next)

    abbrev n : ℕ
    n = u.node

    abbrev c : Completed
    c = completed_with s passed u

    c_is : c ≡ completed_next s.tree n next
    c_is = complete_is s x y formed old passed u ahead next is

    -- the event isn't one that had to be done
    old_one : outside from r.1 next ≡ true → holds from r.1 n ≡ false → had_shown s old passed x y ≡ true
    old_one out isnt =
        let a = before_it x pair.first first_in in
        let b = before_it y pair.second second_in in
        let rest = none_behind r.0 from r.1 (events old 0 s.tree) (block old) from_low passed ahead x u is.before a first_in isnt in
        ap₂ (λ p q. p && q) (ap₂ (λ p q. p && q) a b)
        (shown_as old passed (u ∷ ahead) is.before ∙ all_outside from r.1 (u ∷ ahead) (λ w h. ⊎_elim
        (λ e. ap (holds from r.1) (eq_of w.node n (and_l (w.node == n) _ e)) ∙ isnt) (rest w) (or_cases (same_place w u) (has ahead w) h)))
      where
        before_it : (w : Place) → is_due s.tree s.taken w ≡ true → holds from r.1 w.node ≡ true → has passed w ≡ true
        before_it w due in_it =
            ⊎_elim (λ h. h)
            (λ h. absurd (⊎_elim
            (λ e. true≢false (sym in_it ∙ (ap (holds from r.1) (eq_of w.node n (and_l (w.node == n) _ e)) ∙ isnt)))
            (λ e. true≢false (sym e)) (or_cases (same_place w u) false h)))
            (has_cases passed (u ∷ []) w (done_of (with_it passed u) next w listed_with out due in_it))

    -- where the first is of the node, the node is the event's
    own_is : outside from r.1 next ≡ true → holds from r.1 n ≡ true → x.node ≡ r.0 → n ≡ r.0
    own_is out in_it own = ⊎_elim
        (λ less. absurd (let l = from_low in let h = (holds_is from r.1 n in_it).0 in omega (arith, l, h, less)))
        (λ m. ⊎_elim (λ e. e) (λ more. absurd (below more)) m)
        (low_or_high n r.0)
      where
        below : r.0 < n → ⊥
        below more =
            let b = subst (λ z. Block r.0 (suc r.0) z (events s.taken 0 s.tree)) (sym leasts.end)
            (operands_block s.taken s.tree r.0 (node leasts.class leasts.operands) leasts.there) in
            let d = done_of (with_it passed u) next x listed_with out pair.first first_in in
            ⊎_elim
            (λ h. none_before r.0 (suc r.0) r.1 (events s.taken 0 s.tree) b (omega arith) passed next x u is.behind h
            (within r.0 r.1 x.node leasts.first.0 leasts.first.1) (out_of (suc r.0) r.1 x.node (inl (omega (arith, own))))
            (within (suc r.0) r.1 n more (holds_is from r.1 n in_it).1))
            (λ h. ⊎_elim (λ e. let q = eq_of x.node n (and_l (x.node == n) _ e) in omega (arith, q, own, more)) (λ e. true≢false (sym e))
            (or_cases (same_place x u) false h))
            (has_cases passed (u ∷ []) x d)

    show_own : (d : Completed) → (d ≡ Incomplete → ⊥) → AreOfNode s n x y → ShowNewly s n d x y
    show_own Incomplete f h = absurd (f refl)
    show_own Own_node f h = h
    show_own (Operands_of p) f h = inl h

    some_complete : comes_next n next ≡ false → c ≡ Incomplete → ⊥
    some_complete isnt e = of (parent_in 0 s.tree n) (sym (c_is ∙ if_false (comes_next n next) Incomplete (with_above (parent_in 0 s.tree n) next) isnt) ∙ e)
      where
        of : (o : Option ℕ) → with_above o next ≡ Incomplete → ⊥
        of None h = absurd (cc)
        of (Some p) h = by_test (comes_next p next)
            (λ t. absurd (let z : Operands_of p ≡ Incomplete = sym (if_true _ _ _ t) ∙ h in cc))
            (λ t. absurd (let z : Own_node ≡ Incomplete = sym (if_false _ _ _ t) ∙ h in cc))

    not_next : (m : ℕ) (us : List Place) → outside from r.1 us ≡ true → holds from r.1 m ≡ true → comes_next m us ≡ false
    not_next m [] out in_it = refl
    not_next m (v ∷ vs) out in_it = by_test (v.node == m)
        (λ e. absurd (true≢false (sym in_it ∙ (ap (holds from r.1) (sym (eq_of v.node m e)) ∙ outside_each from r.1 (v ∷ vs) out v (has_itself v vs)))))
        (λ e. e)

    of_node : outside from r.1 next ≡ true → holds from r.1 n ≡ true → x.node ≡ r.0 → ShowNewly s n c x y
    of_node out in_it own =
        let e = own_is out in_it own in
        let low = leasts.second.0 in
        show_own c (some_complete (not_next n next out in_it)) (
          own ∙ sym e,
          ⊎_elim
              (λ less. absurd (omega (arith, low, e, less)))
              (λ m. ⊎_elim (λ q. inl q) (λ more. inr (record {
                part = node leasts.class leasts.operands;
                there = ap (part_of s) e ∙ leasts.there;
                low = more;
                high = (let h = leasts.second.1 in let z = leasts.end in omega (arith, h, z, e));
              })) m)
              (low_or_high y.node n),
        )

    -- ---- or they are of two operands of it
    abbrev l : ℕ
    l = r.0

    due_below : (w : Place) → is_due s.tree s.taken w ≡ true → (l ≤ w.node) × (w.node < r.1) →
        due_in s.taken l (node leasts.class leasts.operands) w ≡ true
    due_below w due w_in =
        due_part s.taken 0 s.tree l w (node leasts.class leasts.operands) leasts.there w_in.0
        (let h = w_in.1 in let z = leasts.end in omega (arith, h, z))
        (sym (has_due s.taken s.tree 0 w) ∙ due)

    -- the operand of an event that is due below the node
    pub record InSide (w : Place) : Type 0 where
      pub index : ℕ
      pub side : Side
      pub at : slice_get (sides_from (suc l) leasts.operands) index ≡ Some side
      pub low : side.number ≤ w.node
      pub high : w.node < side.number + size side.tree
      pub operand : IsOperandIn s l side.number

    in_side : (w : Place) → is_due s.tree s.taken w ≡ true → (l ≤ w.node) × (w.node < r.1) → (w.node == l) ≡ false → InSide w
    in_side w due w_in not_own =
        let z = leasts.end in
        let h = w_in.1 in
        let q = side_of leasts.operands (suc l) w.node (above_not l w.node w_in.0 not_own) (omega (arith, h, z)) in
        let d = q.1 in
        let both_so = sym (due_at s.taken leasts.class (s.taken l) 0 (suc l) leasts.operands q.0 q.0 d w (omega arith) q.2 q.3 q.4)
        ∙ (sym (if_false _ _ _ not_own) ∙ due_below w due w_in) in
        record {
          index = q.0;
          side = d;
          at = q.2;
          low = q.3;
          high = q.4;
          operand = record {
            class = leasts.class;
            operands = leasts.operands;
            there = leasts.there;
            index = q.0;
            of = record {
              side = d;
              there = q.2;
              number = refl;
              goes = and_l (goes leasts.class (s.taken l) q.0) _ both_so;
              loud = by_test (is_quiet d.tree)
                  (λ quiet. absurd (still s formed d.number d.tree w (side_part s l leasts.class leasts.operands leasts.there q.0 d q.2) quiet
                  (and_r (goes leasts.class (s.taken l) q.0) _ both_so)))
                  (λ loud. loud);
            };
          };
        }

    of_two : ((x.node == l) || (y.node == l)) ≡ false → AreOfTwo s l x.node y.node
    of_two isnt =
        let a = in_side x pair.first leasts.first (neither (x.node == l) (y.node == l) isnt).0 in
        let b = in_side y pair.second leasts.second (neither (x.node == l) (y.node == l) isnt).1 in
        let al = a.low in
        let ah = a.high in
        let bl = b.low in
        let bh = b.high in
        let o = pair.order in
        ⊎_elim
        (λ less. let g = sides_rise leasts.operands (suc l) a.index b.index a.side b.side a.at b.at less in record {
          first = a.side.number;
          second = b.side.number;
          of_first = a.operand;
          of_second = b.operand;
          rise = omega (arith, g, al, ah);
          in_first = record {
            part = a.side.tree;
            there = side_part s l leasts.class leasts.operands leasts.there a.index a.side a.at;
            low = al;
            high = ah;
          };
          in_second = record {
            part = b.side.tree;
            there = side_part s l leasts.class leasts.operands leasts.there b.index b.side b.at;
            low = bl;
            high = bh;
          };
        })
        (λ m. absurd (⊎_elim
        (λ e. let d = same_Some b.side a.side (sym b.at ∙ (ap (slice_get (sides_from (suc l) leasts.operands)) (sym e) ∙ a.at)) in
        leasts.apart a.index a.side a.at (ap₂ (λ p q. p && q)
        (within a.side.number (a.side.number + size a.side.tree) x.node al ah)
        (subst (λ (z : Side). holds z.number (z.number + size z.tree) y.node ≡ true) d
        (within b.side.number (b.side.number + size b.side.tree) y.node bl bh))))
        (λ more. let g = sides_rise leasts.operands (suc l) b.index a.index b.side a.side b.at a.at more in omega (arith, g, al, bh, o)) m))
        (low_or_high a.index b.index)

    show_two : (p : ℕ) (d : Completed) → d ≡ Operands_of p → p ≡ l → AreOfTwo s l x.node y.node → ShowNewly s n d x y
    show_two p d e is_l two = subst (λ z. ShowNewly s n z x y) (sym (e ∙ ap Operands_of is_l)) (inr two)

    by_step : (v : Place) (rest : List Place) → next ≡ v ∷ rest → holds (suc l) r.1 v.node ≡ false → (l < n) × (n < r.1) →
        AreOfTwo s l x.node y.node → Step s n v.node → ShowNewly s n c x y
    by_step v rest e out w two (same q) = absurd (true≢false (sym (ap (holds (suc l) r.1) q ∙ within (suc l) r.1 n w.0 w.1) ∙ out))
    by_step v rest e out w two (later p o under far) =
        let z = leasts.end in
        let vl = under.low in
        let vh = under.high in
        absurd (⊎_elim
        (λ q. let h = ap size (same_Some (node leasts.class leasts.operands) under.part (sym leasts.there ∙ (ap (part_of s) q ∙ under.there))) in
        true≢false (sym (within (suc l) r.1 v.node (omega (arith, q, vl)) (omega (arith, q, h, z, vh))) ∙ out))
        (λ g. let gl = g.low in let b = operand_below s p n o in
        let gh = g.high in
        let size_is = ap size (same_Some (node leasts.class leasts.operands) g.part (sym leasts.there ∙ g.there)) in
        let in_l = part_in_l p g under.part under.there in
        true≢false (sym (within (suc l) r.1 v.node (omega (arith, gl, vl)) (omega (arith, in_l, vh))) ∙ out))
        (above_parent s l p n o (record {
          part = node leasts.class leasts.operands;
          there = leasts.there;
          low = w.0;
          high = (let h = w.1 in omega (arith, h, z));
        })))
      where
        part_in_l : (p : ℕ) → IsUnder s l p → (t : Tree) → part_of s p ≡ Some t → p + size t ≤ r.1
        part_in_l p g t there =
            let z = leasts.end in
            let gl = g.low in
            let h = (part_within s l p g.part t g.there there (omega (arith, gl)) g.high).high in
            let size_is = ap size (same_Some (node leasts.class leasts.operands) g.part (sym leasts.there ∙ g.there)) in
            omega (arith, h, z, size_is)
    by_step v rest e out w two (up o) =
        let z = leasts.end in
        let p = v.node in
        let low = (operand_below s p n o).low in
        show_two p c
        (c_is ∙ (ap (completed_next s.tree n) e ∙ (if_false _ _ _ (other v.node n (inl low))
        ∙ (ap (λ q. with_above q (v ∷ rest)) (parent_is s p n o) ∙ if_true _ _ _ (eq_eq v.node)))))
        (⊎_elim (λ q. sym q)
        (λ g. let gl = g.low in
        let gh = g.high in
        let size_is = ap size (same_Some (node leasts.class leasts.operands) g.part (sym leasts.there ∙ g.there)) in
        absurd (true≢false (sym (within (suc l) r.1 v.node gl (omega (arith, gh, size_is, z))) ∙ out)))
        (above_parent s l p n o (record {
          part = node leasts.class leasts.operands;
          there = leasts.there;
          low = w.0;
          high = (let h = w.1 in omega (arith, h, z));
        })))
        two

    of_operands : ((x.node == l) || (y.node == l)) ≡ false → outside from r.1 next ≡ true → holds from r.1 n ≡ true → ShowNewly s n c x y
    of_operands isnt out in_it = by_next next refl
      where
        from_is : from ≡ suc l
        from_is = if_false _ r.0 (suc r.0) isnt

        here : (l < n) × (n < r.1)
        here = let h = holds_is from r.1 n in_it in let a = h.0 in let f = from_is in (omega (arith, a, f), h.1)

        by_next : (us : List Place) → next ≡ us → ShowNewly s n c x y
        by_next [] e =
            let q = last_root s s.tree 0 passed u formed (is.behind ∙ ap (λ z. passed ++ u ∷ z) e) in
            absurd (let h = here.0 in omega (arith, q, h))
        by_next (v ∷ rest) e =
            by_step v rest e (subst (λ z. holds z r.1 v.node ≡ false) from_is
            (outside_each from r.1 next out v (ap (λ z. has z v) e ∙ has_itself v rest)))
            here (of_two isnt)
            (tree_step s s.tree 0 passed rest u v root_there formed (is.behind ∙ ap (λ z. passed ++ u ∷ z) e))

    newly : outside from r.1 next ≡ true → (had_shown s old passed x y ≡ true) ⊎ ShowNewly s n c x y
    newly out = by_test (holds from r.1 n)
        (λ in_it. inr (by_test ((x.node == r.0) || (y.node == r.0)) (λ e. of_node out in_it (own_first e)) (λ e. of_operands e out in_it)))
        (λ isnt. inl (old_one out isnt))

    -- ---- and these do show
    still_shown : had_shown s old passed x y ≡ true → outside from r.1 next ≡ true
    still_shown h =
        let a = and_l (has passed x) _ (and_l (has passed x && has passed y) _ h) in
        let before = sym (shown_as old passed (u ∷ ahead) is.before) ∙ and_r (has passed x && has passed y) _ h in
        all_outside from r.1 next (none_behind r.0 from r.1 (events s.taken 0 s.tree) (block s.taken) from_low passed next x u is.behind a first_in
        (outside_each from r.1 (u ∷ ahead) before u (has_itself u ahead)))

    pub shows : (had_shown s old passed x y ≡ true) ⊎ ShowNewly s n c x y → outside from r.1 next ≡ true
    shows (inl h) = still_shown h
    shows (inr h) = of c refl h
      where
        of : (d : Completed) → c ≡ d → ShowNewly s n d x y → outside from r.1 next ≡ true
        of Incomplete e g = absurd (g)
        of Own_node e g = node_shown s x y formed old passed u ahead next is (λ z. absurd (let w : Own_node ≡ Incomplete = sym e ∙ z in cc)) g
        of (Operands_of p) e (inl g) = node_shown s x y formed old passed u ahead next is (λ z. absurd (let w : Operands_of p ≡ Incomplete = sym e ∙ z in cc)) g
        of (Operands_of p) e (inr g) = two_shown s x y formed old passed u ahead next is p e g

pub shows_newly : ShowsNewly
shows_newly s old passed u ahead next x y is pair = (
  λ h. newly s x y pair is.formed old passed u ahead next is
      (sym (shown_as s x y pair is.formed s.taken (with_it passed u) next (is.behind ∙ sym (append_one passed u next))) ∙ h),
  λ h. shown_as s x y pair is.formed s.taken (with_it passed u) next (is.behind ∙ sym (append_one passed u next))
      ∙ shows s x y pair is.formed old passed u ahead next is h,
)

pub shown_are_done : ShownAreDone
shown_are_done s passed ahead x y formed listed pair h =
    let out = sym (shown_as s x y pair formed s.taken passed ahead listed) ∙ h in (
      done_of s x y pair formed passed ahead x listed out pair.first (first_in s x y pair formed),
      done_of s x y pair formed passed ahead y listed out pair.second (second_in s x y pair formed),
    )
