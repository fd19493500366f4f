-- The two halves of an update, in a full expression of which some events are done.
use Rattle.std.proofs.Common.{
  ◌≡◌,
  ◌≢◌,
  ℕ,
  Bool,
  true,
  false,
  ◌&&◌,
  if◌then◌else◌,
  true≢false,
  Option,
  Some,
  None,
  is_some,
  refl,
  sym,
  ap,
  ◌∙◌,
  subst,
  inl,
  inr,
  arith,
}
use Rattle.std.proofs.lemmas.Bool.Decides.{nat_tests}
use Rattle.ub_base.specs.declared.clause.Kind.{Kind}
use Rattle.ub_base.specs.declared.clause.Kind.TheVariants.{Val, Eff, Body}
use Rattle.ub_base.specs.Names.{same_kind}
use Rattle.c_typed.specs.declared.tree.Place.{Place}
use Rattle.c_typed.specs.Order.{Taken, place, same_place}
use Rattle.c_model.specs.Program.{tree_of}
use Rattle.c_model.specs.Values.{Value}
use Rattle.c_model.specs.World.{World}
use Rattle.c_model.specs.Steps.{Scene, Begun, with_given, taken_by}
use Rattle.c_model.specs.ChoiceLaws.{IsNext, IsReached, update_at}
use Rattle.c_model.proofs.LaterChoices.{due_kept}
use Rattle.c_model.proofs.LaterPicks.{given_other, still_given, reached_next, reached_made, choices_kept, old_or_u, none_some, same_place-eq}
use Rattle.c_model.proofs.Updates.{halves, due_halves, halves_back}

both_true : (a b : Bool) → a ≡ true → b ≡ true → a && b ≡ true
both_true true b h k = k
both_true false b h k = h

refl_kind : (k : Kind) → same_kind k k ≡ true
refl_kind Val = refl
refl_kind Eff = refl
refl_kind Body = refl

pub refl_place : (p : Place) → same_place p p ≡ true
refl_place p = both_true _ _ (grind (arith, nat_tests)) (refl_kind p.kind)

pub given_at : (e : Begun) (u v : Place) (w : Value) → u ≡ v → is_some ((with_given e u w).given v) ≡ true
given_at e u v w q = go (same_place u v) refl
  where
    go : (b : Bool) → same_place u v ≡ b → is_some (if b then Some w else e.given v) ≡ true
    go true s = refl
    go false s = absurd (true≢false (sym (subst (λ z. same_place u z ≡ true) q (refl_place u)) ∙ s))

module _ (world : World) where
  pub closed_at : (sc : Scene) (e : Begun) (u : Place) (w : Value) → IsNext world sc e u → (v : Place)
      → (is_some (e.given v) ≡ true → IsReached world sc e v)
      → is_some ((with_given e u w).given v) ≡ true
      → IsReached world sc (with_given e u w) v
  closed_at sc e u w n v closed h = go (same_place u v) refl
    where
      go : (b : Bool) → same_place u v ≡ b → IsReached world sc (with_given e u w) v
      go true eq = subst (λ z. IsReached world sc (with_given e u w) z) (same_place-eq u v eq) (reached_made world sc e u w n)
      go false eq = reached_next world sc e u v w n (closed (subst (λ b. is_some (if b then Some w else e.given v) ≡ true) eq h))

  module _ (sc : Scene) (e : Begun) (m : ℕ) (w : Value) (up : update_at 0 (tree_of e.root) m ≡ true) (n : IsNext world sc e (place m Val))
      (closed : is_some (e.given (place m Eff)) ≡ true → IsReached world sc e (place m Eff)) where
    abbrev T : Taken
    T = taken_by world sc e

    abbrev T' : Taken
    T' = taken_by world sc (with_given e (place m Val) w)

    -- the effect wasn't done before the value
    eff_left : e.given (place m Eff) ≡ None
    eff_left = go (e.given (place m Eff)) refl
      where
        go : (o : Option Value) → e.given (place m Eff) ≡ o → e.given (place m Eff) ≡ None
        go None q = q
        go (Some v) q =
            let reached = closed (ap is_some q) in
            absurd (none_some (e.given (place m Val)) n.left (reached.earlier (place m Val) n.due (halves T m (tree_of e.root) 0 up)))

    val_not_eff : place m Val ≢ place m Eff
    val_not_eff q = cc (ap (λ z. z.kind) q)

    pub effect_next : IsNext world sc (with_given e (place m Val) w) (place m Eff)
    effect_next =
        let k = choices_kept world sc e (place m Val) w n.due n.left in
        let due = due_kept T T' k (tree_of e.root) 0 (place m Eff) (due_halves T m (tree_of e.root) 0 up n.due) in
        record {
          due = due;
          left = given_other world sc e (place m Val) w (place m Eff) val_not_eff ∙ eff_left;
          earlier = λ z d b. elim (halves_back T' m (tree_of e.root) 0 z up b) [
            | inl q ↦ given_at e (place m Val) z w (sym q)
            | inr b2 ↦ (elim (old_or_u world sc e (place m Val) w z (place m Val) n.due n.left b2 d n.due) [
              | inl a ↦ still_given world sc e (place m Val) z w (n.earlier z a.1 a.0)
              | inr a ↦ absurd (none_some (e.given (place m Val)) n.left (n.earlier (place m Val) n.due a))
            ])
          ];
        }
