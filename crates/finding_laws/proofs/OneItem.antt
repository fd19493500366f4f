-- Known items that tie are one.
use Rattle.std.proofs.Common.{◌≡◌, ℕ, List, [], ◌∷◌, reverse, refl, sym, ap, ◌∙◌, arith}
use mathlib.Core.List.{reverse-reverse}
use Rattle.std.specs.Ordering.{nat_cmp, ordering_then}
use Rattle.std.specs.declared.cmp.Ordering.{Ordering}
use Rattle.std.specs.declared.cmp.Ordering.TheVariants.{Less, Equal, Greater}
use Rattle.std.proofs.lemmas.Bool.Decides.{nat_tests}
use Rattle.ub_base.specs.declared.clause.Kind.{Kind}
use Rattle.ub_base.specs.declared.clause.Kind.TheVariants.{Val, Eff, Body}
use Rattle.ub_base.specs.declared.names.Event.{Event}
use Rattle.ub_base.specs.declared.names.ObjName.{ObjName}
use Rattle.ub_base.specs.declared.names.ObjName.TheVariants.{Static, Lit, Argv, Arg, Auto, Heap}
use Rattle.ub_base.specs.declared.names.Item.{Item}
use Rattle.ub_base.specs.declared.names.Item.TheVariants.{Read, Write, Born, Dies, Alive, Expose, Lookup, Narrow, Input, Output, Ending, Any}
use Rattle.ub_base.specs.Frames.{Row, Path, path_of}
use Rattle.c_names.specs.Orders.{step_cmp, steps_cmp, path_cmp, frame_cmp, event_cmp, object_cmp, kind_rank}
use Rattle.footprint.specs.Least.{item_cmp, pair_cmp}
use Rattle.c_model.specs.World.{World}
use Rattle.c_model.specs.Runs.{Entry}
use Rattle.finding_laws.specs.ItemOrder.{IsKnown, IsKnownObject, IsKnownItem}

-- an access of one byte, or no access
abbrev pub IsByte : Item → Type 0
IsByte (Read x a n) = n ≡ 1
IsByte (Write x a n) = n ≡ 1
IsByte _ = Unit {0}

parts : (o p : Ordering) → ordering_then o p ≡ Equal → (o ≡ Equal) × (p ≡ Equal)
parts Less p h = absurd (cc)
parts Equal p h = (refl, h)
parts Greater p h = absurd (cc)

number_is : (m n : ℕ) → nat_cmp m n ≡ Equal → m ≡ n
number_is m n h = grind (arith, nat_tests)

steps_is : (p q : Path) → steps_cmp p q ≡ Equal → p ≡ q
steps_is [] [] h = refl
steps_is [] (t ∷ q) h = absurd (cc)
steps_is (s ∷ p) [] h = absurd (cc)
steps_is (s ∷ p) (t ∷ q) h =
    let both = parts (step_cmp s t) (steps_cmp p q) h in
    let step = parts (nat_cmp s.0 t.0) (nat_cmp s.1 t.1) both.0 in
    (λ i. (number_is s.0 t.0 step.0 i, number_is s.1 t.1 step.1 i) ∷ steps_is p q both.1 i)

path_is : (p q : Path) → path_cmp p q ≡ Equal → p ≡ q
path_is p q h = sym (reverse-reverse p) ∙ ap (λ (r : Path). reverse r) (steps_is (reverse p) (reverse q) h) ∙ reverse-reverse q

kind_is : (k l : Kind) → nat_cmp (kind_rank k) (kind_rank l) ≡ Equal → k ≡ l
kind_is Val Val h = refl
kind_is Eff Eff h = refl
kind_is Body Body h = refl
kind_is _ _ h = absurd (cc)

module _ (world : World) (trace : List Entry) (rows : List Row) where
  frame_is : (f g : ℕ) → IsKnown world trace rows f → IsKnown world trace rows g → frame_cmp rows f g ≡ Equal → f ≡ g
  frame_is f g h k e =
      sym h.own ∙ ap world.number (h.path ∙ path_is (path_of rows f) (path_of rows g) e ∙ sym k.path) ∙ k.own

  object_is : (x y : ObjName) → IsKnownObject world trace rows x → IsKnownObject world trace rows y → object_cmp rows x y ≡ Equal → x ≡ y
  object_is (Static k) (Static l) hx hy e = ap Static (number_is k l e)
  object_is (Lit k) (Lit l) hx hy e = ap Lit (number_is k l e)
  object_is Argv Argv hx hy e = refl
  object_is (Arg k) (Arg l) hx hy e = ap Arg (number_is k l e)
  object_is (Auto f t k) (Auto g u l) hx hy e =
      let one = parts (frame_cmp rows f.0 g.0) (ordering_then (nat_cmp t u) (nat_cmp k l)) e in
      let two = parts (nat_cmp t u) (nat_cmp k l) one.1 in
      (λ i. Auto (record { 0 = frame_is f.0 g.0 hx hy one.0 i }) (number_is t u two.0 i) (number_is k l two.1 i))
  object_is (Heap f t k) (Heap g u l) hx hy e =
      let one = parts (frame_cmp rows f.0 g.0) (ordering_then (nat_cmp t u) (nat_cmp k l)) e in
      let two = parts (nat_cmp t u) (nat_cmp k l) one.1 in
      (λ i. Heap (record { 0 = frame_is f.0 g.0 hx hy one.0 i }) (number_is t u two.0 i) (number_is k l two.1 i))
  object_is _ _ hx hy e = absurd (cc)

  event_is : (d e : Event) → IsKnown world trace rows d.frame.0 → IsKnown world trace rows e.frame.0 → event_cmp rows d e ≡ Equal → d ≡ e
  event_is d e hd he tied =
      let one = parts (frame_cmp rows d.frame.0 e.frame.0) _ tied in
      let two = parts (nat_cmp d.turn e.turn) _ one.1 in
      let three = parts (nat_cmp d.node e.node) _ two.1 in
      (λ i. record {
        frame = record { 0 = frame_is d.frame.0 e.frame.0 hd he one.0 i };
        turn = number_is d.turn e.turn two.0 i;
        node = number_is d.node e.node three.0 i;
        kind = kind_is d.kind e.kind three.1 i;
      })

  pub item_is : (i j : Item) → IsByte i → IsByte j → IsKnownItem world trace rows i → IsKnownItem world trace rows j → item_cmp rows i j ≡ Equal → i ≡ j
  item_is (Read x a n) (Read y b m) hi hj ki kj e =
      let both = parts (object_cmp rows x y) (nat_cmp a b) e in
      (λ t. Read (object_is x y ki.object kj.object both.0 t) (number_is a b both.1 t) ((hi ∙ sym hj) t))
  item_is (Write x a n) (Write y b m) hi hj ki kj e =
      let both = parts (object_cmp rows x y) (nat_cmp a b) e in
      (λ t. Write (object_is x y ki.object kj.object both.0 t) (number_is a b both.1 t) ((hi ∙ sym hj) t))
  item_is (Born x) (Born y) hi hj ki kj e = ap Born (object_is x y ki.object kj.object (parts (object_cmp rows x y) Equal e).0)
  item_is (Dies x) (Dies y) hi hj ki kj e = ap Dies (object_is x y ki.object kj.object (parts (object_cmp rows x y) Equal e).0)
  item_is (Alive x) (Alive y) hi hj ki kj e = ap Alive (object_is x y ki.object kj.object (parts (object_cmp rows x y) Equal e).0)
  item_is (Expose x) (Expose y) hi hj ki kj e = ap Expose (object_is x y ki.object kj.object (parts (object_cmp rows x y) Equal e).0)
  item_is (Lookup a) (Lookup b) hi hj ki kj e = ap Lookup (number_is a b e)
  item_is (Narrow d x) (Narrow f y) hi hj ki kj e =
      let both = parts (event_cmp rows d f) (ordering_then (object_cmp rows x y) Equal) e in
      let object = parts (object_cmp rows x y) Equal both.1 in
      (λ t. Narrow (event_is d f ki.event kj.event both.0 t) (object_is x y ki.object kj.object object.0 t))
  item_is Input Input hi hj ki kj e = refl
  item_is Output Output hi hj ki kj e = refl
  item_is Ending Ending hi hj ki kj e = refl
  item_is Any Any hi hj ki kj e = refl
  item_is _ _ hi hj ki kj e = absurd (cc)

  pub pair_is : (p q : Item × Item) → IsByte p.0 → IsByte p.1 → IsByte q.0 → IsByte q.1 → IsKnownItem world trace rows p.0
      → IsKnownItem world trace rows p.1 → IsKnownItem world trace rows q.0 → IsKnownItem world trace rows q.1 → pair_cmp rows p q ≡ Equal → p ≡ q
  pair_is p q a b c d e f g h tied =
      let both = parts (item_cmp rows p.0 q.0) (item_cmp rows p.1 q.1) tied in
      (λ i. (item_is p.0 q.0 a c e g both.0 i, item_is p.1 q.1 b d f h both.1 i))
