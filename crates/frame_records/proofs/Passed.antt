-- What is done of a full expression is one beginning of its listing.
use Rattle.std.proofs.Common.{◌≡◌, true, false, List, [], ◌∷◌, ◌++◌, append_assoc, None, refl, sym, ap, ap₂, ◌∙◌, true≢false}
use Rattle.c_typed.specs.declared.tree.Place.{Place}
use Rattle.c_typed.specs.Order.{has}
use Rattle.c_model.specs.Steps.{Begun, Scene}
use Rattle.c_model.specs.World.{World}
use Rattle.completion_laws.proofs.Lists.{has_at}
use Rattle.listing_laws.specs.Along.{StandsAlong}
use Rattle.detector_laws.proofs.Free.{done_as, not_passed}

-- two beginnings of one list are the same, or one goes further than the other
data Fronts (xs zs : List Place) : Type 0 where
  same : xs ≡ zs → Fronts xs zs
  further : (u : Place) (r : List Place) → zs ≡ xs ++ u ∷ r → Fronts xs zs
  shorter : (u : Place) (r : List Place) → xs ≡ zs ++ u ∷ r → Fronts xs zs

behind : (x z : Place) (xs zs : List Place) → x ≡ z → Fronts xs zs → Fronts (x ∷ xs) (z ∷ zs)
behind x z xs zs q (same h) = same (ap₂ (λ a ws. a ∷ ws) q h)
behind x z xs zs q (further u r h) = further u r (ap₂ (λ a ws. a ∷ ws) (sym q) h)
behind x z xs zs q (shorter u r h) = shorter u r (ap₂ (λ a ws. a ∷ ws) q h)

fronts : (xs ys zs ws : List Place) → xs ++ ys ≡ zs ++ ws → Fronts xs zs
fronts [] ys [] ws h = same refl
fronts [] ys (z ∷ zs) ws h = further z zs refl
fronts (x ∷ xs) ys [] ws h = shorter x xs refl
fronts (x ∷ xs) ys (z ∷ zs) ws h =
    let head : x ≡ z = cc (h) in
    let rest : xs ++ ys ≡ zs ++ ws = cc (h) in
    behind x z xs zs head (fronts xs ys zs ws rest)

-- what goes further has an event that isn't done
module _ (world : World) (f : Scene) (e : Begun) (passed ahead done more : List Place) (s : StandsAlong world f e None passed ahead)
    (t : StandsAlong world f e None done more) (u : Place) (r : List Place) (is : done ≡ passed ++ u ∷ r) where
  listed : passed ++ u ∷ (r ++ more) ≡ passed ++ ahead
  listed = sym (append_assoc passed (u ∷ r) more) ∙ (ap (λ z. z ++ more) (sym is) ∙ (t.listed ∙ sym s.listed))

  not_done : has passed u ≡ false
  not_done = not_passed world f e passed (r ++ more) u (record { done = s.done; listed = listed ∙ s.listed })

  is_there : has done u ≡ true
  is_there = ap (λ z. has z u) is ∙ has_at passed r u

  both : has done u ≡ has passed u
  both = ap (λ g. g u) (sym (done_as world f e done more t) ∙ done_as world f e passed ahead s)

  no_further : ⊥
  no_further = true≢false (sym is_there ∙ (both ∙ not_done))

pub same_passed : (world : World) (f : Scene) (e : Begun) (passed ahead done more : List Place) → StandsAlong world f e None passed ahead →
    StandsAlong world f e None done more → passed ≡ done
same_passed world f e passed ahead done more s t = by_fronts (fronts passed ahead done more (s.listed ∙ sym t.listed))
  where
    by_fronts : Fronts passed done → passed ≡ done
    by_fronts (same h) = h
    by_fronts (further u r h) = absurd (no_further world f e passed ahead done more s t u r h)
    by_fronts (shorter u r h) = absurd (no_further world f e done more passed ahead t s u r h)
