-- Two events that are done before a body, and haven't shown, are of two operands of a node above it.
use Rattle.std.proofs.Common.{◌≡◌, inl, ⊎_elim, ℕ, suc, ◌+◌, ◌<◌, ◌≤◌, ◌==◌, Bool, true, false, ◌&&◌, ◌||◌, List, [], ◌∷◌, ◌++◌}
use Rattle.std.proofs.Common.{Some, refl, sym, ap, ap₂, subst, ◌∙◌, true≢false, arith}
use Rattle.std.specs.Prelude.{slice_get}
use Rattle.std.proofs.lemmas.Bool.Decides.{nat_tests}
use Rattle.std.proofs.lemmas.Option.{same_Some}
use Rattle.ub_base.specs.declared.clause.Kind.{Kind}
use Rattle.ub_base.specs.declared.clause.Kind.TheVariants.{Val, Eff, Body}
use Rattle.c_typed.specs.declared.class.Class.{Class}
use Rattle.c_typed.specs.declared.class.Class.TheVariants.{Object, Constant, Plain, Store, Update, Choice, Comma, Call, Isolated}
use Rattle.c_typed.specs.declared.tree.Place.{Place}
use Rattle.c_typed.specs.Decide.{due_in, has_kind, is_before}
use Rattle.c_typed.specs.Order.{events, goes, has, own_rule, same_place}
use Rattle.c_typed.specs.Tree.{Tree, Trees, node, is_quiet, kinds_of, size}
use Rattle.c_model.specs.Moments.{has_shown, holds, least}
use Rattle.c_model.proofs.Closed.{found_before}
use Rattle.c_model.proofs.Decided.{has_due}
use Rattle.c_model.proofs.Listed.{listed_once, respected, same_place_eq}
use Rattle.completion_laws.proofs.Ahead.{by_test, if_false, if_true}
use Rattle.completion_laws.proofs.Lists.{all_outside, has_at, out_of, outside, within}
use Rattle.elaborate.specs.Formed.{is_formed}
use Rattle.elaborate.proofs.Listed.{and_l, and_r}
use Rattle.elaborate.proofs.Ranges.{eq_eq, eq_of, events_in, has_left, or_cases}
use Rattle.evaluation_log.specs.Sides.{Side, sides_from}
use Rattle.run_evaluations.specs.Scopes.{Scope, part_of}
use Rattle.run_evaluations.specs.Shows.{AreOfTwo}
use Rattle.run_evaluations.specs.Told.{IsOperandIn, IsUnder}
use Rattle.run_evaluations.proofs.PartLemmas.{due_at, part_before, side_part}
use Rattle.run_evaluations.proofs.ToldLemmas.{due_part}
use Rattle.telling_laws.proofs.Blocks.{Block, holds_is, none_before, none_behind, operands_block, tree_block}
use Rattle.telling_laws.proofs.Leasts.{IsLeast, side_of, sides_rise}
use Rattle.telling_laws.proofs.Parts.{part_there, same_operands, still}
use Rattle.telling_laws.proofs.ShowLemmas.{complete_as, complete_before, from_of, low_or_high, neither}
use Rattle.telling_laws.proofs.Shown.{leasts}

-- ---- lists
split_of : (us : List Place) (x : Place) → has us x ≡ true → (p : List Place) × (q : List Place) × (us ≡ p ++ x ∷ q)
split_of [] x h = absurd (true≢false (sym h))
split_of (v ∷ us) x h =
    ⊎_elim
    (λ e. ([], us, ap (λ z. z ∷ us) (sym (same_place_eq x v e))))
    (λ e. let r = split_of us x e in (v ∷ r.0, r.1, ap (λ z. v ∷ z) r.2))
    (or_cases (same_place x v) (has us x) h)

joined : (xs : List Place) (x : Place) (ys zs : List Place) → (xs ++ x ∷ ys) ++ zs ≡ xs ++ x ∷ (ys ++ zs)
joined [] x ys zs = refl
joined (v ∷ xs) x ys zs = ap (λ z. v ∷ z) (joined xs x ys zs)

-- ---- the events of a node that has a body
not_both : (c : Class) → has_kind (kinds_of c) Eff ≡ true → has_kind (kinds_of c) Body ≡ true → ⊥
not_both Store h g = true≢false (sym g)
not_both Update h g = true≢false (sym g)
not_both Object h g = true≢false (sym h)
not_both Constant h g = true≢false (sym h)
not_both Plain h g = true≢false (sym h)
not_both Choice h g = true≢false (sym h)
not_both Comma h g = true≢false (sym h)
not_both Call h g = true≢false (sym h)
not_both Isolated h g = true≢false (sym h)

body_rule : (c : Class) → own_rule c Body Val ≡ true
body_rule Object = refl
body_rule Constant = refl
body_rule Plain = refl
body_rule Store = refl
body_rule Update = refl
body_rule Choice = refl
body_rule Comma = refl
body_rule Call = refl
body_rule Isolated = refl

module _ (s : Scope) (passed ahead : List Place) (u : Place) (listed : events s.taken 0 s.tree ≡ passed ++ u ∷ ahead) (body : u.kind ≡ Body) where
  due_u : has (events s.taken 0 s.tree) u ≡ true
  due_u = ap (λ z. has z u) listed ∙ has_at passed ahead u

  pub due_passed : (w : Place) → has passed w ≡ true → has (events s.taken 0 s.tree) w ≡ true
  due_passed w h = ap (λ z. has z w) listed ∙ has_left passed (u ∷ ahead) w h

  -- ---- its node
  u_in : (0 ≤ u.node) × (u.node < 0 + size s.tree)
  u_in = events_in s.taken s.tree 0 u due_u

  own_part : (x : Tree) × (part_of s u.node ≡ Some x)
  own_part = part_there s.tree 0 u.node u_in.0 u_in.1

  kind_due : (c : Class) (ts : Trees) → part_of s u.node ≡ Some (node c ts) → (w : Place) → w.node ≡ u.node → has (events s.taken 0 s.tree) w ≡ true →
      has_kind (kinds_of c) w.kind ≡ true
  kind_due c ts there w same due =
      sym (if_true _ _ _ (subst (λ z. (w.node == z) ≡ true) same (eq_eq w.node)))
      ∙ due_part s.taken 0 s.tree u.node w (node c ts) there (omega (arith, same)) (omega (arith, same)) (sym (has_due s.taken s.tree 0 w) ∙ due)

  pub body_due : (c : Class) (ts : Trees) → part_of s u.node ≡ Some (node c ts) → has_kind (kinds_of c) Body ≡ true
  body_due c ts there = ap (has_kind (kinds_of c)) (sym body) ∙ kind_due c ts there u refl due_u

  own_before : (c : Class) (ts : Trees) → part_of s u.node ≡ Some (node c ts) → (w : Place) → w.node ≡ u.node →
      is_before s.taken 0 s.tree u w ≡ own_rule c u.kind w.kind
  own_before c ts there w same =
      part_before s.taken 0 s.tree u.node u w (node c ts) there (omega arith) (omega arith) (omega (arith, same)) (omega (arith, same))
      ∙ (if_true _ _ _ (eq_eq u.node)
      ∙ ap (λ z. z && own_rule c u.kind w.kind) (subst (λ z. (w.node == z) ≡ true) same (eq_eq w.node)))

  -- no event of the node is done before the body
  pub body_first : (x : Place) → has passed x ≡ true → x.node ≡ u.node → ⊥
  body_first x done same = at_part own_part.0 own_part.1
    where
      again : has passed u ≡ true → ⊥
      again h = true≢false (sym h ∙ listed_once s.tree s.taken passed ahead u listed)

      by_kind : (c : Class) (ts : Trees) → part_of s u.node ≡ Some (node c ts) → (k : Kind) → x.kind ≡ k → ⊥
      by_kind c ts there Body q =
          let e : x ≡ u = (λ i. record { node = same i; kind = (q ∙ sym body) i }) in
          again (subst (λ z. has passed z ≡ true) e done)
      by_kind c ts there Eff q =
          not_both c (ap (has_kind (kinds_of c)) (sym q) ∙ kind_due c ts there x same (due_passed x done)) (body_due c ts there)
      by_kind c ts there Val q =
          let p = split_of passed x done in
          let before = own_before c ts there x same ∙ (ap₂ (own_rule c) body q ∙ body_rule c) in
          let h = respected s.tree s.taken p.0 (p.1 ++ u ∷ ahead) x (listed ∙ (ap (λ z. z ++ u ∷ ahead) p.2 ∙ joined p.0 x p.1 (u ∷ ahead))) u due_u
          (found_before s.tree s.taken u x due_u (due_passed x done) before) in
          again (ap (λ z. has z u) p.2 ∙ has_left p.0 (x ∷ p.1) u h)

      at_part : (t : Tree) → part_of s u.node ≡ Some t → ⊥
      at_part (node c ts) there = by_kind c ts there x.kind refl

  -- ---- two events that are done
  module _ (formed : is_formed s.tree ≡ true) (x y : Place) (dx : has passed x ≡ true) (dy : has passed y ≡ true) (order : x.node ≤ y.node)
      (unshown : has_shown s.tree s.taken (has passed) x y ≡ false) where
    abbrev r : ℕ × ℕ
    r = least 0 s.tree x.node y.node

    l : IsLeast s x.node y.node r
    l = leasts s x y (record { first = due_passed x dx; second = due_passed y dy; order = order }) formed

    abbrev own : Bool
    own = (x.node == r.0) || (y.node == r.0)

    unseen : outside (from_of r x.node y.node) r.1 (u ∷ ahead) ≡ false
    unseen =
        sym (complete_as (events s.taken 0 s.tree) (has passed) r x y
        ∙ complete_before s.tree s.taken passed (u ∷ ahead) (from_of r x.node y.node) r.1 listed)
        ∙ unshown

    -- the body is one of the events that are left of these
    in_block : (from : ℕ) → r.0 ≤ from → Block r.0 from r.1 (events s.taken 0 s.tree) → holds from r.1 x.node ≡ true →
        outside from r.1 (u ∷ ahead) ≡ false → holds from r.1 u.node ≡ true
    in_block from low b hx out = by_test (holds from r.1 u.node) (λ e. e) (λ e.
        let rest = none_behind r.0 from r.1 (events s.taken 0 s.tree) b low passed ahead x u listed dx hx e in
        absurd (true≢false (sym (all_outside from r.1 (u ∷ ahead) (λ w h. ⊎_elim
        (λ q. ap (holds from r.1) (eq_of w.node u.node (and_l (w.node == u.node) _ q)) ∙ e)
        (λ q. rest w q)
        (or_cases (same_place w u) (has ahead w) h))) ∙ out)))

    block_all : Block r.0 r.0 r.1 (events s.taken 0 s.tree)
    block_all =
        subst (λ z. Block r.0 r.0 z (events s.taken 0 s.tree)) (sym l.end) (tree_block s.taken s.tree r.0 (node l.class l.operands) l.there)

    block_below : Block r.0 (suc r.0) r.1 (events s.taken 0 s.tree)
    block_below =
        subst (λ z. Block r.0 (suc r.0) z (events s.taken 0 s.tree)) (sym l.end) (operands_block s.taken s.tree r.0 (node l.class l.operands) l.there)

    above_not : (a b : ℕ) → a ≤ b → (b == a) ≡ false → suc a ≤ b
    above_not a b low h = grind (arith, nat_tests, low, h)

    -- neither is of the least node that holds both
    not_own : own ≡ true → ⊥
    not_own e =
        let first : x.node ≡ r.0 = ⊎_elim
        (λ q. eq_of x.node r.0 q)
        (λ q. let g = eq_of y.node r.0 q in let a = l.first.0 in omega (arith, g, a, order))
        (or_cases (x.node == r.0) (y.node == r.0) e) in
        let in_all = within r.0 r.1 x.node l.first.0 l.first.1 in
        let h = in_block r.0 (omega arith) block_all in_all (subst (λ z. outside z r.1 (u ∷ ahead) ≡ false) (if_true own r.0 (suc r.0) e) unseen) in
        let b = holds_is r.0 r.1 u.node h in
        let low = b.0 in
        ⊎_elim
        (λ less. omega (arith, less, low))
        (λ m. ⊎_elim
        (λ same. body_first x dx (first ∙ sym same))
        (λ more. none_before r.0 (suc r.0) r.1 (events s.taken 0 s.tree) block_below (omega arith) passed ahead x u listed dx in_all
        (out_of (suc r.0) r.1 x.node (inl (omega (arith, first)))) (within (suc r.0) r.1 u.node more b.1))
        m)
        (low_or_high u.node r.0)

    isnt : own ≡ false
    isnt = by_test own (λ e. absurd (not_own e)) (λ e. e)

    -- ---- they are of two operands of it
    due_below : (w : Place) → has (events s.taken 0 s.tree) w ≡ true → (r.0 ≤ w.node) × (w.node < r.1) →
        due_in s.taken r.0 (node l.class l.operands) w ≡ true
    due_below w due w_in =
        due_part s.taken 0 s.tree r.0 w (node l.class l.operands) l.there w_in.0
        (let h = w_in.1 in let z = l.end in omega (arith, h, z))
        (sym (has_due s.taken s.tree 0 w) ∙ due)

    record InSide (w : Place) : Type 0 where
      index : ℕ
      side : Side
      at : slice_get (sides_from (suc r.0) l.operands) index ≡ Some side
      low : side.number ≤ w.node
      high : w.node < side.number + size side.tree
      operand : IsOperandIn s r.0 side.number

    in_side : (w : Place) → has (events s.taken 0 s.tree) w ≡ true → (r.0 ≤ w.node) × (w.node < r.1) → (w.node == r.0) ≡ false → InSide w
    in_side w due w_in not_root =
        let z = l.end in
        let h = w_in.1 in
        let q = side_of l.operands (suc r.0) w.node (above_not r.0 w.node w_in.0 not_root) (omega (arith, h, z)) in
        let d = q.1 in
        let both_so = sym (due_at s.taken l.class (s.taken r.0) 0 (suc r.0) l.operands q.0 q.0 d w (omega arith) q.2 q.3 q.4)
        ∙ (sym (if_false _ _ _ not_root) ∙ due_below w due w_in) in
        record {
          index = q.0;
          side = d;
          at = q.2;
          low = q.3;
          high = q.4;
          operand = record {
            class = l.class;
            operands = l.operands;
            there = l.there;
            index = q.0;
            of = record {
              side = d;
              there = q.2;
              number = refl;
              goes = and_l (goes l.class (s.taken r.0) q.0) _ both_so;
              loud = by_test (is_quiet d.tree)
                  (λ quiet. absurd (still s formed d.number d.tree w (side_part s r.0 l.class l.operands l.there q.0 d q.2) quiet
                  (and_r (goes l.class (s.taken r.0) q.0) _ both_so)))
                  (λ loud. loud);
            };
          };
        }

    of_two : AreOfTwo s r.0 x.node y.node
    of_two =
        let a = in_side x (due_passed x dx) l.first (neither (x.node == r.0) (y.node == r.0) isnt).0 in
        let b = in_side y (due_passed y dy) l.second (neither (x.node == r.0) (y.node == r.0) isnt).1 in
        let al = a.low in
        let ah = a.high in
        let bl = b.low in
        let bh = b.high in
        ⊎_elim
        (λ less. let g = sides_rise l.operands (suc r.0) a.index b.index a.side b.side a.at b.at less in record {
          first = a.side.number;
          second = b.side.number;
          of_first = a.operand;
          of_second = b.operand;
          rise = omega (arith, g, al, ah);
          in_first = record {
            part = a.side.tree;
            there = side_part s r.0 l.class l.operands l.there a.index a.side a.at;
            low = al;
            high = ah;
          };
          in_second = record {
            part = b.side.tree;
            there = side_part s r.0 l.class l.operands l.there b.index b.side b.at;
            low = bl;
            high = bh;
          };
        })
        (λ m. absurd (⊎_elim
        (λ e. let d = same_Some b.side a.side (sym b.at ∙ (ap (slice_get (sides_from (suc r.0) l.operands)) (sym e) ∙ a.at)) in
        l.apart a.index a.side a.at (ap₂ (λ p q. p && q)
        (within a.side.number (a.side.number + size a.side.tree) x.node al ah)
        (subst (λ (z : Side). holds z.number (z.number + size z.tree) y.node ≡ true) d
        (within b.side.number (b.side.number + size b.side.tree) y.node bl bh))))
        (λ more. let g = sides_rise l.operands (suc r.0) b.index a.index b.side a.side b.at a.at more in omega (arith, g, al, bh, order)) m))
        (low_or_high a.index b.index)

    -- ---- and the body stands below it
    pub way_of : (n : ℕ) × IsUnder s n u.node × AreOfTwo s n x.node y.node
    way_of =
        let more = above_not r.0 x.node l.first.0 (neither (x.node == r.0) (y.node == r.0) isnt).0 in
        let h = in_block (suc r.0) (omega arith) block_below (within (suc r.0) r.1 x.node more l.first.1)
        (subst (λ z. outside z r.1 (u ∷ ahead) ≡ false) (if_false own r.0 (suc r.0) isnt) unseen) in
        let b = holds_is (suc r.0) r.1 u.node h in
        let low = b.0 in
        let high = b.1 in
        let z = l.end in (
          r.0,
          record { part = node l.class l.operands; there = l.there; low = omega (arith, low); high = omega (arith, high, z) },
          of_two,
        )

-- ---- the events of two operands come one before the other
pub two_rise : (s : Scope) (p x y : ℕ) → AreOfTwo s p x y → x < y
two_rise s p x y two =
    let f = two.of_first in
    let g = two.of_second in
    let fo = f.of in
    let go = same_operands s p two.second g.index g.class f.class g.operands f.operands g.there f.there g.of in
    let fn = fo.number in
    let gn = go.number in
    let rise = two.rise in
    let ih = two.in_first.high in
    let jl = two.in_second.low in
    let size_is = ap size (same_Some fo.side.tree two.in_first.part
    (sym (side_part s p f.class f.operands f.there f.index fo.side fo.there) ∙ (ap (part_of s) fn ∙ two.in_first.there))) in
    ⊎_elim
    (λ less. let r = sides_rise f.operands (suc p) f.index g.index fo.side go.side fo.there go.there less in omega (arith, r, fn, gn, ih, jl, size_is))
    (λ m. absurd (⊎_elim
    (λ e. let n = ap (λ (z : Side). z.number) (same_Some fo.side go.side (sym fo.there ∙ (ap (slice_get (sides_from (suc p) f.operands)) e ∙ go.there))) in
    omega (arith, n, fn, gn, rise))
    (λ more. let r = sides_rise f.operands (suc p) g.index f.index go.side fo.side go.there fo.there more in omega (arith, r, fn, gn, rise)) m))
    (low_or_high f.index g.index)
