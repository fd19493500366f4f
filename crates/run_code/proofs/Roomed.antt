-- The rooms of the updates that give their old value are apart.
use Rattle.std.proofs.Common.{arith, ◌≡◌, ◌<◌, ◌≤◌, ◌+◌, ◌^◌, inl, inr, ℕ, suc, true, false, List, [], ◌∷◌, ◌++◌, length, Some, slice_get}
use Rattle.std.proofs.Common.{refl, sym, ap, ◌∙◌, length-append}
use Rattle.std.proofs.Math.ListN.{set}
use Rattle.std.proofs.lemmas.Option.{slice_get_within}
use Rattle.c_typed.specs.declared.tree.Node.TheOpen as shape
use Rattle.c_typed.specs.declared.tree.Typed.{Typed, out-Typed}
use Rattle.c_typed.specs.Sites.{Head}
use Rattle.run_layout.specs.declared.nodes.NodeInfo.{NodeInfo}
use Rattle.run_layout.specs.EventActs.{head_at}
use Rattle.run_layout.specs.Numbered.{AreKept}
use Rattle.run_layout.specs.Rooms.{gives_old, olds_with, IsOld, IsRoomedBy, AreRoomed}
use Rattle.run_layout.proofs.Collected.{by_number, by_place, same_some, slice_get-seam, slice_get-set, slice_get-set_other, there}

-- one update more, where it gives the old value
one_old : (h : Head) (olds : ℕ) → gives_old h ≡ true → olds_with h olds ≡ olds + 1
one_old (shape.Update c true) olds e = refl
one_old (shape.Update c false) olds e = absurd (cc)
one_old _ olds e = absurd (cc)

no_less : (h : Head) (olds : ℕ) → olds ≤ olds_with h olds
no_less (shape.Update c true) olds = omega arith
no_less (shape.Update c false) olds = omega arith
no_less _ olds = omega arith

-- a node behind those that were there
pub one_roomed : (number : ℕ) (old new : List NodeInfo) (x : NodeInfo) (t : Typed) (low high : ℕ) → number ≡ length old → new ≡ old ++ x ∷ []
    → x.tree.now ≡ t → x.room ≡ low → high ≡ olds_with (head_at (out-Typed t).node) low → AreRoomed number new low high
one_roomed number old new x t low high a e p r o =
    let count : length new ≡ suc number = ap length e ∙ omega (arith, length-append old (x ∷ []), a) in
    let here : slice_get new number ≡ Some x = ap (λ z. slice_get z number) e ∙ ap (slice_get (old ++ x ∷ [])) a ∙ slice_get-seam old x [] in
    let last : (n : ℕ) (y : NodeInfo) → number ≤ n → slice_get new n ≡ Some y → n ≡ number = λ n y l h. omega (arith, slice_get_within new n y h, l, count) in
    record {
      order = omega (arith, no_less (head_at (out-Typed t).node) low, o);
      each = λ n y l h.
          let same : y ≡ x = same_some (slice_get new number) y x (ap (slice_get new) (sym (last n y l h.0)) ∙ h.0) here in
          let room : y.room ≡ low = ap (λ (z : NodeInfo). z.room) same ∙ r in
          let tree : y.tree.now ≡ t = ap (λ (z : NodeInfo). z.tree.now) same ∙ p in
          let one : high ≡ low + 1 =
          o ∙ one_old (head_at (out-Typed t).node) low (ap (λ u. gives_old (head_at (out-Typed u).node)) (sym tree) ∙ h.1) in
          (omega (arith, room), omega (arith, room, one));
      rising = λ n k y z l m h g. absurd (omega (arith, last n y l h.0, last k z (omega (arith, l, m)) g.0, m));
    }

-- the nodes of an operand behind these
pub more_roomed : (number : ℕ) (new newer : List NodeInfo) (low mid high : ℕ) → AreKept new newer → AreRoomed number new low mid
    → AreRoomed (length new) newer mid high → AreRoomed number newer low high
more_roomed number new newer low mid high kept a b =
    let old : (n : ℕ) (x : NodeInfo) → n < length new → IsOld newer n x → IsOld new n x = λ n x l h. (there new newer n x kept l h.0, h.1) in
    record {
      order = omega (arith, a.order, b.order);
      each = λ n x l h. elim (by_place n (length new)) [
        | inl i ↦ let r = a.each n x l (old n x i h) in (r.0, omega (arith, r.1, b.order))
        | inr o ↦ let r = b.each n x o h in (omega (arith, r.0, a.order), r.1)
      ];
      rising = λ n k x y l m h g. elim (by_place k (length new)) [
        | inl i ↦ a.rising n k x y l m (old n x (omega (arith, m, i)) h) (old k y i g)
        | inr o ↦ (elim (by_place n (length new)) [
          | inl i ↦ let r = a.each n x l (old n x i h) in let s = b.each k y o g in omega (arith, r.1, s.0)
          | inr p ↦ b.rising n k x y p m h g
        ])
      ];
    }

-- what a node of the one list is in the other, but for the number behind it
abbrev SeenIn : List NodeInfo → ℕ → NodeInfo → Type 0
SeenIn nodes n x = (y : NodeInfo) × (slice_get nodes n ≡ Some y) × (x.tree.now ≡ y.tree.now) × (x.room ≡ y.room)

pub all_roomed : (number : ℕ) (old new end : List NodeInfo) (last top : NodeInfo) (low high : ℕ) → number ≡ length old → end ≡ set new number last
    → last.tree.now ≡ top.tree.now → last.room ≡ top.room → slice_get new number ≡ Some top → AreRoomed number new low high
    → AreRoomed (length old) end low high
all_roomed number old new end last top low high a e tree room at h =
    let seen : (n : ℕ) (x : NodeInfo) → slice_get end n ≡ Some x → SeenIn new n x = λ n x g. elim (by_number n number) [
      | inl q ↦
          let here : slice_get end number ≡ Some last = ap (λ z. slice_get z number) e ∙ slice_get-set new number last top at in
          let same : x ≡ last = same_some (slice_get end number) x last (ap (slice_get end) (sym q) ∙ g) here in
          (top, ap (slice_get new) q ∙ at, ap (λ (z : NodeInfo). z.tree.now) same ∙ tree, ap (λ (z : NodeInfo). z.room) same ∙ room)
      | inr q ↦ (x, sym (ap (λ z. slice_get z n) e ∙ slice_get-set_other new number n last q) ∙ g, refl, refl)
    ] in
    let old_in : (n : ℕ) (x : NodeInfo) → (g : IsOld end n x) → IsOld new n (seen n x g.0).0 = λ n x g.
    let s = seen n x g.0 in
    (s.1, ap (λ t. gives_old (head_at (out-Typed t).node)) (sym s.2) ∙ g.1) in
    record {
      order = h.order;
      each = λ n x l g.
          let r = h.each n (seen n x g.0).0 (omega (arith, l, a)) (old_in n x g) in
          let s = (seen n x g.0).3 in
          (omega (arith, r.0, s), omega (arith, r.1, s));
      rising = λ n k x y l m f g.
          let r = h.rising n k (seen n x f.0).0 (seen k y g.0).0 (omega (arith, l, a)) m (old_in n x f) (old_in k y g) in
          omega (arith, r, (seen n x f.0).3, (seen k y g.0).3);
    }

-- so they have their rooms behind those of the nodes
pub roomed_by : (nodes : List NodeInfo) (olds rooms : ℕ) → rooms ≡ length nodes + olds → rooms < 2 ^ 32 → AreRoomed 0 nodes 0 olds → IsRoomedBy nodes rooms
roomed_by nodes olds rooms e few h = record {
  few = few;
  own = omega (arith, e);
  behind = λ n x is. let r = h.each n x (omega arith) is in omega (arith, r.1, e);
  apart = λ n k x y f g same. elim (by_place n k) [
    | inl l ↦ absurd (let r = h.rising n k x y (omega arith) l f g in omega (arith, r, same))
    | inr l ↦ (elim (by_place k n) [
      | inl m ↦ absurd (let r = h.rising k n y x (omega arith) m g f in omega (arith, r, same))
      | inr m ↦ omega (arith, l, m)
    ])
  ];
}
