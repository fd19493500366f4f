-- A body ends the run in the full expression of the top frame, and in those that wait for the frames above them.
use Rattle.std.proofs.Common.{◌≡◌, Bool, true, false, ◌||◌, List, [], ◌∷◌, ◌++◌, Option, Some, None, refl, sym, ap, subst, ◌∙◌, true≢false}
use Rattle.ub_base.specs.Frames.{Path}
use Rattle.ub_base.specs.declared.clause.Kind.TheVariants.{Body}
use Rattle.c_typed.specs.declared.tree.Place.{Place}
use Rattle.c_typed.specs.Order.{has, place, same_place}
use Rattle.c_model.specs.Findings.{has_ending, is_under}
use Rattle.c_model.specs.Runs.{Entry, canonical_pick, chosen_pick, entry_of, place_of}
use Rattle.c_model.specs.Steps.{Begun, Control, Ev, Local, Pick, Scene, is_done}
use Rattle.c_model.specs.World.{World}
use Rattle.c_model.proofs.Listed.{same_place_itself}
use Rattle.elaborate.proofs.Ranges.{has_or}
use Rattle.listing_laws.specs.Along.{first_of}
use Rattle.listing_laws.proofs.Going.{takes_first}
use Rattle.telling_laws.proofs.ShowLemmas.{neither}
use Rattle.detector_laws.specs.Frames.{AllWaitFree, IsEntryOf, StandsFree, TopStands, WaitsFree}
use Rattle.detector_laws.proofs.Free.{done_as, not_passed}
use Rattle.detector_laws.proofs.Goes.{held_items, own_items}
use Rattle.detector_laws.proofs.Items.{stay_of_above, stay_of_other}
use Rattle.detector_laws.proofs.Paths.{under_itself, under_tail}
use Rattle.ending_laws.specs.Ends.{AllEndIn, BodiesEnd, EndsIn}
use Rattle.ending_laws.specs.Untouched.{AllHeldUntouched, IsUntouched, NoneEnds, done_in, with_body}
use Rattle.ending_laws.proofs.Entries.{none_by}

abbrev place_in : Pick → Place → Place
place_in Control w = w
place_in (Ev u) w = u

-- the canonical pick is the event that is listed next
pub listed_next : (world : World) (trace : List Entry) (f : Local) (o : Option Begun) (u : Place) → TopStands world trace f.scene o
    → canonical_pick world f o ≡ Ev u →
    (e : Begun) × (o ≡ Some e) × (passed : List Place) × (ahead : List Place) × StandsFree world trace f.scene e passed (u ∷ ahead)
listed_next world trace f None u s q = absurd (cc (q))
listed_next world trace f (Some e) u (passed, ahead, s) q = by_ahead ahead s (sym (takes_first world f e passed ahead s.along) ∙ q)
  where
    by_ahead : (us : List Place) → StandsFree world trace f.scene e passed us → chosen_pick world (first_of us) ≡ Ev u →
        (d : Begun) × (Some e ≡ Some d) × (passed : List Place) × (ahead : List Place) × StandsFree world trace f.scene d passed (u ∷ ahead)
    by_ahead [] h r = absurd (cc (r))
    by_ahead (w ∷ ws) h r =
        (e, refl, passed, ws, subst (λ z. StandsFree world trace f.scene e passed (z ∷ ws)) (ap (λ p. place_in p w) r) h)

-- what isn't listed up to a body is neither done nor the body
beside_of : (passed : List Place) (u w : Place) → has (passed ++ u ∷ []) w ≡ false → (has passed w ≡ false) × (same_place w u ≡ false)
beside_of passed u w h =
    let n = neither (has passed w) (same_place w u || false) (sym (has_or passed (u ∷ []) w) ∙ h) in
    (n.0, (neither (same_place w u) false n.1).0)

neither_is : (a b : Bool) → a ≡ false → b ≡ false → (a || b) ≡ false
neither_is false b h g = g
neither_is true b h g = absurd (true≢false h)

body_is : (u : Place) → u.kind ≡ Body → u ≡ place u.node Body
body_is u h = λ i. record { node = u.node; kind = h i }

module _ (world : World) (trace : List Entry) (endless : NoneEnds trace) where
  -- ---- the top frame
  pub ends_top : (f : Scene) (e : Begun) (u : Place) (x : Entry) (passed ahead : List Place) → StandsFree world trace f e passed (u ∷ ahead) →
      u.kind ≡ Body → IsEntryOf f u x → IsUntouched trace f (is_done e) → EndsIn world trace (x ∷ trace) f e u
  ends_top f e u x passed ahead s body is untouched =
      let stay = own_items world trace x f u passed is (not_passed world f e passed ahead u s.along) in
      record {
        passed = passed;
        ahead = ahead;
        before = s;
        body = body;
        stay = stay;
        endless = λ w h. ap has_ending (stay w h) ∙ none_by trace f.path f.turn w endless;
        left = λ w h.
            let n = beside_of passed u w h in
            stay_of_other trace x f.path f.turn u w is.path is.place n.1
            ∙ untouched.now w (ap (λ d. d w) (done_as world f e passed (u ∷ ahead) s.along) ∙ n.0);
      }

  -- ---- those that are held
  ends_held : (f : Local) (u : Place) (x : Entry) → WaitsFree world trace f u → is_under x.path ((f.scene.turn, u.node) ∷ f.scene.path) ≡ true →
      IsUntouched trace f.scene (with_body u (done_in f.begun)) → (e : Begun) × (f.begun ≡ Some e) × EndsIn world trace (x ∷ trace) f.scene e u
  ends_held f u x w under untouched =
      let e = w.expression in
      let stay = held_items world trace x f.scene u w.passed w.body (not_passed world f.scene e w.passed w.ahead u w.stands.along) under in (
        e,
        w.is,
        record {
          passed = w.passed;
          ahead = w.ahead;
          before = w.stands;
          body = w.body;
          stay = stay;
          endless = λ v h. ap has_ending (stay v h) ∙ none_by trace f.scene.path f.scene.turn v endless;
          left = λ v h.
              let n = beside_of w.passed u v h in
              stay_of_above trace x f.scene.path f.scene.turn u.node v under
              (λ q. true≢false (sym (subst (λ z. same_place z u ≡ true) (body_is u w.body ∙ sym q) (same_place_itself u)) ∙ n.1))
              ∙ untouched.now v (neither_is (done_in f.begun v) (same_place v u)
              (ap (λ o. done_in o v) w.is ∙ (ap (λ d. d v) (done_as world f.scene e w.passed (u ∷ w.ahead) w.stands.along) ∙ n.0)) n.1);
        },
      )

  pub ends_all : (x : Entry) (path : Path) (hs : List (Local × Place)) → is_under x.path path ≡ true → AllWaitFree world trace path hs →
      AllHeldUntouched trace hs → AllEndIn world trace (x ∷ trace) hs
  ends_all x path [] under a h = tt
  ends_all x path (g ∷ hs) under (p, w, rest) (h, below) =
      let more = subst (λ z. is_under x.path z ≡ true) p under in (
        ends_held g.0 g.1 x w more h,
        ends_all x g.0.scene.path hs (under_tail x.path (g.0.scene.turn, g.1.node) g.0.scene.path more) rest below,
      )

pub bodies_end : BodiesEnd
bodies_end world st later way end =
    subst (λ (z : List Entry).
    ((e : Begun) × (st.top.begun ≡ Some e) × EndsIn world st.trace z st.top.scene e end.body) × AllEndIn world st.trace z st.held) (sym end.newest)
    ((l.0, l.1, here), ends_all world st.trace way.endless x st.top.scene.path st.held (under_itself st.top.scene.path) way.clear.free.held way.untouched.held)
  where
    x : Entry
    x = entry_of world st.top (canonical_pick world st.top st.top.begun) end.items

    l : (e : Begun) × (st.top.begun ≡ Some e) × (passed : List Place) × (ahead : List Place) ×
        StandsFree world st.trace st.top.scene e passed (end.body ∷ ahead)
    l = listed_next world st.trace st.top st.top.begun end.body way.clear.free.top end.is

    here : EndsIn world st.trace (x ∷ st.trace) st.top.scene l.0 end.body
    here =
        ends_top world st.trace way.endless st.top.scene l.0 end.body x l.2 l.3 l.4 end.kind
        (record { path = refl; turn = refl; place = ap place_of end.is })
        (subst (λ o. IsUntouched st.trace st.top.scene (done_in o)) l.1 way.untouched.top)
