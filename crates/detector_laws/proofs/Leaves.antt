-- Where nothing is found in the top frame behind a pick, nothing was found in any.
use Rattle.std.proofs.Common.{◌≡◌, List, [], ◌∷◌, ◌++◌, Option, Some, None, sym, subst}
use Rattle.c_typed.specs.declared.tree.Place.{Place}
use Rattle.c_typed.specs.Order.{events}
use Rattle.c_model.specs.Program.{tree_of}
use Rattle.c_model.specs.Runs.{State}
use Rattle.c_model.specs.Steps.{Begun, taken_by, with_given}
use Rattle.c_model.specs.World.{World}
use Rattle.listing_laws.specs.Along.{StandsAlong}
use Rattle.listing_laws.proofs.Going.{begins_along}
use Rattle.detector_laws.specs.Looked.{IsFreeIn}
use Rattle.detector_laws.specs.Frames.{ComesTo, rests, begins, takes, starts, ends, IsFormedIn, PicksLeaveFree, TopStands}
use Rattle.detector_laws.proofs.Goes.{picks_come_to}

module _ (world : World) (next : State) (formed : IsFormedIn next.top.begun) (free : IsFreeIn world next.trace next.top.scene next.top.begun) where
  abbrev Stands : Option Begun → Type 0
  Stands o = TopStands world next.trace next.top.scene o

  open_so : (e : Begun) (passed ahead : List Place) → next.top.begun ≡ Some e → StandsAlong world next.top.scene e None passed ahead → Stands next.top.begun
  open_so e passed ahead is along =
      subst Stands (sym is) (
        passed,
        ahead,
        record { formed = subst IsFormedIn is formed; along = along; free = subst (IsFreeIn world next.trace next.top.scene) is free },
      )

  top_of : (st : State) → ComesTo world st next → Stands next.top.begun
  top_of st (rests b p l h) = subst Stands (sym b) tt
  top_of st (begins e is none p n h) = open_so e [] (events (taken_by world next.top.scene e) 0 (tree_of e.root)) is (begins_along world next.top.scene e none)
  top_of st (takes e u x is t tr en bare h) =
      open_so (with_given e u t.value) (t.passed ++ u ∷ []) t.further t.begun
      (subst (λ z. StandsAlong world z (with_given e u t.value) None (t.passed ++ u ∷ []) t.further) (sym t.scene) t.along)
  top_of st (starts u x b p tr en h) = subst Stands (sym b) tt
  top_of st (ends h e is body t held) =
      open_so (with_given e h.1 t.value) (t.passed ++ h.1 ∷ []) t.further t.begun
      (subst (λ z. StandsAlong world z (with_given e h.1 t.value) None (t.passed ++ h.1 ∷ []) t.further) (sym t.scene) t.along)

pub picks_leave_free : PicksLeaveFree
picks_leave_free world st next a r formed free =
    let c = picks_come_to world st next a r in
    record { top = top_of world next formed free st c.0; held = c.2 }
