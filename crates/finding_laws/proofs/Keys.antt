-- Keys of names compare as the names do.
use Rattle.std.proofs.Common.{◌≡◌, ℕ, suc, Bool, true, false, cond, ◌&&◌, ◌||◌, List, [], ◌∷◌, ◌++◌, reverse, refl, sym, ap, ◌∙◌, arith}
use mathlib.Core.List.{reverse-cons, append-nil}
use Rattle.std.specs.Ordering.{nat_cmp, ordering_then, is_lt}
use Rattle.std.specs.declared.cmp.Ordering.{Ordering}
use Rattle.std.specs.declared.cmp.Ordering.TheVariants.{Less, Equal, Greater}
use Rattle.std.specs.Cmp.Lexicographic.{slice_cmp}
use Rattle.std.proofs.lemmas.Bool.Decides.{nat_tests}
use Rattle.ub_base.specs.declared.clause.Kind.{Kind}
use Rattle.ub_base.specs.declared.clause.Kind.TheVariants.{Val, Eff, Body}
use Rattle.ub_base.specs.declared.names.Event.{Event}
use Rattle.ub_base.specs.declared.names.ObjName.{ObjName}
use Rattle.ub_base.specs.declared.names.ObjName.TheVariants.{Static, Lit, Argv, Arg, Auto, Heap}
use Rattle.ub_base.specs.declared.names.Item.{Item}
use Rattle.ub_base.specs.declared.names.Item.TheVariants.{Read, Write, Born, Dies, Alive, Expose, Lookup, Narrow, Input, Output, Ending, Any}
use Rattle.ub_base.specs.Frames.{Row, Path}
use Rattle.c_names.specs.Orders.{step_cmp, steps_cmp, frame_cmp, event_cmp, object_cmp, kind_rank}
use Rattle.c_names.proofs.OrderLemmas.{then_assoc}
use Rattle.footprint.specs.Least.{item_cmp, pair_cmp}
use Rattle.c_model.specs.World.{World}
use Rattle.c_model.specs.Runs.{Entry}
use Rattle.c_model.specs.Keys.{comes_first, kind_key, path_key, path_in, frame_key, object_key, item_key}
use Rattle.finding_laws.specs.ItemOrder.{IsKnown, IsKnownObject, IsKnownItem}

abbrev pub keys_cmp : List ℕ → List ℕ → Ordering
keys_cmp = slice_cmp nat_cmp

step_by : (p q : Bool) (o : Ordering) (c : Bool) → is_lt o ≡ c → is_lt (ordering_then (cond p Less (cond q Equal Greater)) o) ≡ (p || (q && c))
step_by true q o c e = refl
step_by false true o c e = e
step_by false false o c e = refl

pub first_by : (ns ms : List ℕ) → is_lt (keys_cmp ns ms) ≡ comes_first ns ms
first_by [] [] = refl
first_by [] (b ∷ ms) = refl
first_by (a ∷ ns) [] = refl
first_by (a ∷ ns) (b ∷ ms) = step_by _ _ (keys_cmp ns ms) (comes_first ns ms) (first_by ns ms)

pub then_equal : (o : Ordering) → ordering_then o Equal ≡ o
then_equal Less = refl
then_equal Equal = refl
then_equal Greater = refl

three : (f t n k : Ordering) → ordering_then f (ordering_then t (ordering_then n k)) ≡ ordering_then (ordering_then f (ordering_then t n)) k
three Less t n k = refl
three Equal t n k = sym (then_assoc t n k)
three Greater t n k = refl

five : (f t n k o r : Ordering) → ordering_then f (ordering_then t (ordering_then n (ordering_then k (ordering_then o r))))
    ≡ ordering_then (ordering_then (ordering_then f (ordering_then t (ordering_then n k))) (ordering_then o Equal)) r
five Less t n k o r = refl
five Greater t n k o r = refl
five Equal Less n k o r = refl
five Equal Greater n k o r = refl
five Equal Equal Less k o r = refl
five Equal Equal Greater k o r = refl
five Equal Equal Equal Less o r = refl
five Equal Equal Equal Greater o r = refl
five Equal Equal Equal Equal o r = ap (λ p. ordering_then p r) (sym (then_equal o))

-- ---- paths
flat : List (ℕ × ℕ) → List ℕ → List ℕ
flat [] r = r
flat (s ∷ p) r = suc s.0 ∷ s.1 ∷ flat p r

flat_append : (p q : Path) (r : List ℕ) → flat (p ++ q) r ≡ flat p (flat q r)
unfolding flat
flat_append [] q r = refl
flat_append (s ∷ p) q r = ap (λ (l : List ℕ). suc s.0 ∷ s.1 ∷ l) (flat_append p q r)

key_is : (p : Path) (r : List ℕ) → path_key p r ≡ flat (reverse p) r
unfolding flat
key_is [] r = refl
key_is (s ∷ p) r =
    key_is p (suc s.0 ∷ s.1 ∷ r) ∙ sym (flat_append (reverse p) (s ∷ []) r) ∙ ap (λ (q : Path). flat q r) (sym (reverse-cons s p))

below : (n : ℕ) → nat_cmp 0 (suc n) ≡ Less
below n = grind (arith, nat_tests)

above : (n : ℕ) → nat_cmp (suc n) 0 ≡ Greater
above n = grind (arith, nat_tests)

sucs : (m n : ℕ) → nat_cmp (suc m) (suc n) ≡ nat_cmp m n
sucs m n = grind (arith, nat_tests)

flat_by : (p q : Path) (r s : List ℕ) → keys_cmp (flat p (0 ∷ r)) (flat q (0 ∷ s)) ≡ ordering_then (steps_cmp p q) (keys_cmp r s)
unfolding flat
flat_by [] [] r s = refl
flat_by [] (t ∷ q) r s = ap (λ o. ordering_then o (keys_cmp r (t.1 ∷ flat q (0 ∷ s)))) (below t.0)
flat_by (t ∷ p) [] r s = ap (λ o. ordering_then o (keys_cmp (t.1 ∷ flat p (0 ∷ r)) s)) (above t.0)
flat_by (a ∷ p) (b ∷ q) r s =
    (λ i. ordering_then (sucs a.0 b.0 i) (ordering_then (nat_cmp a.1 b.1) (flat_by p q r s i))) ∙
    sym (then_assoc (nat_cmp a.0 b.0) (nat_cmp a.1 b.1) (ordering_then (steps_cmp p q) (keys_cmp r s))) ∙
    sym (then_assoc (step_cmp a b) (steps_cmp p q) (keys_cmp r s))

path_append : (p : Path) (r s : List ℕ) → path_key p r ++ s ≡ path_key p (r ++ s)
path_append [] r s = refl
path_append (a ∷ p) r s = path_append p (suc a.0 ∷ a.1 ∷ r) s

kind_is : (k : Kind) → kind_key k ≡ kind_rank k
kind_is Val = refl
kind_is Eff = refl
kind_is Body = refl

module _ (world : World) (trace : List Entry) (rows : List Row) where
  frame_by : (f g : ℕ) (r s : List ℕ) → IsKnown world trace rows f → IsKnown world trace rows g →
      keys_cmp (frame_key world trace f r) (frame_key world trace g s) ≡ ordering_then (frame_cmp rows f g) (keys_cmp r s)
  frame_by f g r s h k =
      (λ i. keys_cmp (key_is (path_in world trace trace f) (0 ∷ r) i) (key_is (path_in world trace trace g) (0 ∷ s) i)) ∙
      flat_by (reverse (path_in world trace trace f)) (reverse (path_in world trace trace g)) r s ∙
      (λ i. ordering_then (steps_cmp (reverse (h.path i)) (reverse (k.path i))) (keys_cmp r s))

  object_by : (x y : ObjName) (r s : List ℕ) → IsKnownObject world trace rows x → IsKnownObject world trace rows y →
      keys_cmp (object_key world trace x r) (object_key world trace y s) ≡ ordering_then (object_cmp rows x y) (keys_cmp r s)
  object_by (Auto f t k) (Auto g u l) r s hx hy =
      frame_by f.0 g.0 (t ∷ k ∷ r) (u ∷ l ∷ s) hx hy ∙ three (frame_cmp rows f.0 g.0) (nat_cmp t u) (nat_cmp k l) (keys_cmp r s)
  object_by (Heap f t k) (Heap g u l) r s hx hy =
      frame_by f.0 g.0 (t ∷ k ∷ r) (u ∷ l ∷ s) hx hy ∙ three (frame_cmp rows f.0 g.0) (nat_cmp t u) (nat_cmp k l) (keys_cmp r s)
  object_by (Static k) (Static l) r s hx hy = refl
  object_by (Lit k) (Lit l) r s hx hy = refl
  object_by Argv Argv r s hx hy = refl
  object_by (Arg k) (Arg l) r s hx hy = refl
  object_by _ _ r s hx hy = refl

  object_append : (x : ObjName) (r s : List ℕ) → object_key world trace x r ++ s ≡ object_key world trace x (r ++ s)
  object_append (Auto f t k) r s = ap (λ (l : List ℕ). 4 ∷ l) (path_append (path_in world trace trace f.0) (0 ∷ t ∷ k ∷ r) s)
  object_append (Heap f t k) r s = ap (λ (l : List ℕ). 5 ∷ l) (path_append (path_in world trace trace f.0) (0 ∷ t ∷ k ∷ r) s)
  object_append _ r s = refl

  accesses_by : (x y : ObjName) (a b : ℕ) (r s : List ℕ) → IsKnownObject world trace rows x → IsKnownObject world trace rows y →
      keys_cmp (object_key world trace x (a ∷ []) ++ r) (object_key world trace y (b ∷ []) ++ s)
      ≡ ordering_then (ordering_then (object_cmp rows x y) (nat_cmp a b)) (keys_cmp r s)
  accesses_by x y a b r s hx hy =
      (λ i. keys_cmp (object_append x (a ∷ []) r i) (object_append y (b ∷ []) s i)) ∙ object_by x y (a ∷ r) (b ∷ s) hx hy ∙
      sym (then_assoc (object_cmp rows x y) (nat_cmp a b) (keys_cmp r s))

  wholes_by : (x y : ObjName) (r s : List ℕ) → IsKnownObject world trace rows x → IsKnownObject world trace rows y →
      keys_cmp (object_key world trace x [] ++ r) (object_key world trace y [] ++ s)
      ≡ ordering_then (ordering_then (object_cmp rows x y) Equal) (keys_cmp r s)
  wholes_by x y r s hx hy =
      (λ i. keys_cmp (object_append x [] r i) (object_append y [] s i)) ∙ object_by x y r s hx hy ∙
      ap (λ o. ordering_then o (keys_cmp r s)) (sym (then_equal (object_cmp rows x y)))

  parts_append : (d : Event) (x : ObjName) (r : List ℕ) →
      frame_key world trace d.frame.0 (d.turn ∷ d.node ∷ kind_key d.kind ∷ object_key world trace x []) ++ r
      ≡ frame_key world trace d.frame.0 (d.turn ∷ d.node ∷ kind_key d.kind ∷ object_key world trace x r)
  parts_append d x r =
      path_append (path_in world trace trace d.frame.0) (0 ∷ d.turn ∷ d.node ∷ kind_key d.kind ∷ object_key world trace x []) r ∙
      ap (λ (l : List ℕ). path_key (path_in world trace trace d.frame.0) (0 ∷ d.turn ∷ d.node ∷ kind_key d.kind ∷ l)) (object_append x [] r)

  narrows_by : (d e : Event) (x y : ObjName) (r s : List ℕ) → IsKnown world trace rows d.frame.0 → IsKnown world trace rows e.frame.0
      → IsKnownObject world trace rows x → IsKnownObject world trace rows y →
      keys_cmp (frame_key world trace d.frame.0 (d.turn ∷ d.node ∷ kind_key d.kind ∷ object_key world trace x []) ++ r)
      (frame_key world trace e.frame.0 (e.turn ∷ e.node ∷ kind_key e.kind ∷ object_key world trace y []) ++ s)
      ≡ ordering_then (ordering_then (event_cmp rows d e) (ordering_then (object_cmp rows x y) Equal)) (keys_cmp r s)
  narrows_by d e x y r s hd he hx hy =
      (λ i. keys_cmp (parts_append d x r i) (parts_append e y s i)) ∙
      frame_by d.frame.0 e.frame.0 (d.turn ∷ d.node ∷ kind_key d.kind ∷ object_key world trace x r)
      (e.turn ∷ e.node ∷ kind_key e.kind ∷ object_key world trace y s) hd he ∙
      (λ i. ordering_then (frame_cmp rows d.frame.0 e.frame.0)
      (ordering_then (nat_cmp d.turn e.turn)
      (ordering_then (nat_cmp d.node e.node) (ordering_then (nat_cmp (kind_is d.kind i) (kind_is e.kind i)) (object_by x y r s hx hy i))))) ∙
      five (frame_cmp rows d.frame.0 e.frame.0) (nat_cmp d.turn e.turn) (nat_cmp d.node e.node) (nat_cmp (kind_rank d.kind) (kind_rank e.kind))
      (object_cmp rows x y) (keys_cmp r s)

  pub item_by : (i j : Item) (r s : List ℕ) → IsKnownItem world trace rows i → IsKnownItem world trace rows j →
      keys_cmp (item_key world trace i ++ r) (item_key world trace j ++ s) ≡ ordering_then (item_cmp rows i j) (keys_cmp r s)
  item_by (Read x a n) (Read y b m) r s h k = accesses_by x y a b r s h.object k.object
  item_by (Write x a n) (Write y b m) r s h k = accesses_by x y a b r s h.object k.object
  item_by (Born x) (Born y) r s h k = wholes_by x y r s h.object k.object
  item_by (Dies x) (Dies y) r s h k = wholes_by x y r s h.object k.object
  item_by (Alive x) (Alive y) r s h k = wholes_by x y r s h.object k.object
  item_by (Expose x) (Expose y) r s h k = wholes_by x y r s h.object k.object
  item_by (Narrow d x) (Narrow e y) r s h k = narrows_by d e x y r s h.event k.event h.object k.object
  item_by (Lookup a) (Lookup b) r s h k = refl
  item_by Input Input r s h k = refl
  item_by Output Output r s h k = refl
  item_by Ending Ending r s h k = refl
  item_by Any Any r s h k = refl
  item_by _ _ r s h k = refl

  item_alone : (i j : Item) → IsKnownItem world trace rows i → IsKnownItem world trace rows j →
      item_cmp rows i j ≡ keys_cmp (item_key world trace i) (item_key world trace j)
  item_alone i j h k =
      sym (then_equal (item_cmp rows i j)) ∙ sym (item_by i j [] [] h k) ∙
      (λ n. keys_cmp (append-nil (item_key world trace i) n) (append-nil (item_key world trace j) n))

  pub items_by : (i j : Item) → IsKnownItem world trace rows i → IsKnownItem world trace rows j →
      is_lt (item_cmp rows i j) ≡ comes_first (item_key world trace i) (item_key world trace j)
  items_by i j h k = ap is_lt (item_alone i j h k) ∙ first_by (item_key world trace i) (item_key world trace j)

  pub pairs_by : (p q : Item × Item) → IsKnownItem world trace rows p.0 → IsKnownItem world trace rows p.1 → IsKnownItem world trace rows q.0
      → IsKnownItem world trace rows q.1 →
      is_lt (pair_cmp rows p q) ≡
      comes_first (item_key world trace p.0 ++ item_key world trace p.1) (item_key world trace q.0 ++ item_key world trace q.1)
  pairs_by p q hp kp hq kq =
      ap (λ o. is_lt (ordering_then (item_cmp rows p.0 q.0) o)) (item_alone p.1 q.1 kp kq) ∙
      ap is_lt (sym (item_by p.0 q.0 (item_key world trace p.1) (item_key world trace q.1) hp hq)) ∙
      first_by (item_key world trace p.0 ++ item_key world trace p.1) (item_key world trace q.0 ++ item_key world trace q.1)
