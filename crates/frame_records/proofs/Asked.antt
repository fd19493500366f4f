-- What may be told of an event.
use Rattle.std.proofs.Common.{◌≡◌, inl, inr, ⊎_elim, ◌<◌, ◌^◌, ◌+◌, ◌-◌, ℕ, Bool, true, false, List, [], ◌∷◌, ◌++◌, length, Option, Some, None}
use Rattle.std.proofs.Common.{refl, sym, ap, ap₂, subst, ◌∙◌, arith}
use Rattle.std.specs.Prelude.{slice_get}
use Rattle.ub_base.specs.declared.names.Frame.{Frame}
use Rattle.c_typed.specs.declared.tree.Place.{Place}
use Rattle.c_typed.specs.Order.{Taken, events}
use Rattle.c_typed.specs.Tree.{Tree, node, size}
use Rattle.c_model.specs.Completions.{Operands_of}
use Rattle.c_model.specs.Program.{tree_of}
use Rattle.c_model.specs.Runs.{State, canonical_pick}
use Rattle.c_model.specs.Steps.{Begun, Control, Ev, Local, Pick, Scene, taken_by, with_given}
use Rattle.c_model.specs.World.{NumbersFrames, World}
use Rattle.conflict_detector.specs.Telling.{AreStarted, IsBare, IsOpen, IsReached, TellsAt, TellsEvent}
use Rattle.listing_laws.specs.Along.{StandsAlong}
use Rattle.run_evaluations.specs.Follows.{HasStarted}
use Rattle.run_evaluations.specs.Listing.{IsListedNext}
use Rattle.run_evaluations.specs.Scopes.{Scope, IsOperandOf, part_of}
use Rattle.run_evaluations.specs.Told.{Grows, Opened, chosen_by}
use Rattle.run_evaluations.proofs.ListingLemmas.{listings_tell}
use Rattle.run_evaluations.proofs.PartLemmas.{part_range, size_some}
use Rattle.telling_laws.specs.Standing.{Chooses, StandsTold, completed_in, places}
use Rattle.telling_laws.proofs.Parts.{beside_up, operand_below, still}
use Rattle.telling_laws.proofs.Splits.{at_seam}
use Rattle.telling_laws.proofs.Stands.{chooses_standing, node_of_next}
use Rattle.telling_laws.proofs.Tells.{last_are_own, operands_parent}
use Rattle.detector_laws.specs.Frames.{AreFree, StandsFree, TakesEvent}
use Rattle.detector_laws.specs.Shown.{all_begun, begun_below, begun_in}
use Rattle.frame_records.specs.Asked.{AreStartedSo, BehindMayBeTold, BodiesMayEnd, EventsMayBeTold, StandsOpen, TopIsOpen}
use Rattle.frame_records.specs.Frames.{AllRecorded, HeldAre, idle, rests, opens, ended, below, more}
use Rattle.frame_records.specs.Picks.{PicksSo}
use Rattle.frame_records.specs.Picks as kind
use Rattle.frame_records.proofs.Picks.{picks_are_so}
use Rattle.frame_records.proofs.Passed.{same_passed}
use Rattle.frame_records.proofs.Reached.{reaches_open}
use Rattle.frame_records.proofs.Pairs.{beginnings_done}

-- ---- each was started by an evaluation of the one below it
done_some : (t : Opened) (us : List Opened) → 0 < length t.done → HasStarted t us
done_some t us some none = absurd (let n = ap length none in omega (arith, some, n))

bare_started : (t : Opened) (ts : List Opened) → IsBare ts → AreStarted (t ∷ ts)
bare_started t [] bare = tt
bare_started t (m ∷ []) bare = (λ q. refl, tt)
bare_started t (m ∷ k ∷ ms) bare = absurd bare

module _ (world : World) (st : State) (left : List (Scene × Begun)) where
  held_started : (t : Opened) (hs : List (Local × Place)) (ts : List Opened) → HeldAre world st.trace left hs ts → AreStarted (t ∷ ts)
  held_started t _ _ (below hs ts is bare) = bare_started t ts bare
  held_started t _ _ (more h hs u us r rest) = (done_some u us r.behind.some, held_started u hs us rest)

  all_started : (n : ℕ) (os : List Opened) → 0 < n → AllRecorded world st left n os → AreStarted os
  all_started _ _ some (idle os w bare) = absurd (omega (arith, some))
  all_started _ _ some (rests n t ts c l b f h) = held_started t st.held ts h
  all_started _ _ some (opens n e t ts c b f h) = held_started t st.held ts h
  all_started _ _ some (ended n e u gone t ts c b f number h) = (done_some t ts f.behind.some, held_started t st.held ts h)

  same_frame : (f g : Frame) → f.0 ≡ g.0 → f ≡ g
  same_frame f g q = λ i. record { 0 = q i }

  top_open : (n : ℕ) (os : List Opened) (f : Frame) (e : Begun) → 0 < n → st.top.begun ≡ Some e → f.0 ≡ world.number st.top.scene.path →
      AllRecorded world st left n os → IsOpen f os
  top_open _ _ f e some q name (idle os w bare) = absurd (omega (arith, some))
  top_open _ _ f e some q name (rests n t ts c l b r h) = absurd (let z : None ≡ Some e = sym b ∙ q in cc (z))
  top_open _ _ f e some q name (opens n d t ts c b r h) = inl (same_frame t.frame f (r.records.frame ∙ sym name))
  top_open _ _ f e some q name (ended n d u gone t ts c b r number h) = inr (inl (same_frame t.frame f (r.records.frame ∙ sym name)))

pub are_started_so : AreStartedSo
are_started_so world st left n os some r = all_started world st left n os some r

pub top_is_open : TopIsOpen
top_is_open world st left n os f e some r q name = top_open world st left n os f e some q name r

-- ---- a node of the tree
small_node : (s : Scope) (p : ℕ) (x : Tree) → part_of s p ≡ Some x → size s.tree < 2 ^ 32 → p + 1 < 2 ^ 32
small_node s p x there small =
    let r = part_range 0 s.tree p x there in
    let h = r.high in
    let z = size_some x in
    omega (arith, h, z, small)

-- ---- the next event
module _ (world : World) (f : Scene) (e : Begun) (t : Opened) (u : Place) (r : StandsOpen world f e t) (passed ahead : List Place)
    (s : StandsAlong world f e None passed (u ∷ ahead)) (small : size (tree_of e.root) < 2 ^ 32) where
  places_are : places t.done ≡ passed
  places_are = r.places ∙ same_passed world f e r.passed r.ahead passed (u ∷ ahead) r.along s

  listed_next : IsListedNext t u
  listed_next =
      ap₂ (λ (c : Taken) (z : Tree). slice_get (events c 0 z) (length t.done)) r.taken r.tree
      ∙ (ap (λ z. slice_get z (length t.done)) (sym s.listed)
      ∙ (ap (λ z. slice_get (z ++ u ∷ ahead) (length t.done)) (sym places_are) ∙ at_seam t.done u ahead))

  tells_event : (o : Opened) → StandsTold o → IsListedNext o u → size o.scope.tree < 2 ^ 32 → TellsEvent o u
  tells_event o stands next low = with_tree (node_of_next o u stands.begins next).0 (node_of_next o u stands.begins next).1
    where
      with_tree : (x : Tree) → part_of o.scope u.node ≡ Some x → TellsEvent o u
      with_tree (node c ts) there = record {
        own = record { class = c; operands = ts; there = there; next = stands.next u c ts next there; small = small_node o.scope u.node (node c ts) there low };
        due = (listings_tell o stands.begins).1 u next;
      }

  pub next_told : (new : Taken) → Chooses (taken_by world f e) new u → Grows t.scope.taken new × TellsEvent (chosen_by new t) u
  next_told new chooses =
      let mine : Chooses t.scope.taken new u = subst (λ (z : Taken). Chooses z new u) (sym r.taken) chooses in
      let c = chooses_standing t u new r.told listed_next mine in
      (mine.grows, tells_event (chosen_by new t) c.0 c.1 (subst (λ z. size z < 2 ^ 32) (sym r.tree) small))

head_of : (x y : Scene × Begun) (xs ys : List (Scene × Begun)) → x ∷ xs ≡ y ∷ ys → x ≡ y
head_of x y xs ys q = ap first q
  where
    first : List (Scene × Begun) → Scene × Begun
    first [] = x
    first (z ∷ zs) = z

module _ (world : World) (st after : State) (left : List (Scene × Begun)) (n : ℕ) (os fs : List Opened) (f : Frame) (u : Place) (y : Scene × Begun)
    (ys : List (Scene × Begun)) (numbers : NumbersFrames world.number) (a : AreFree world st) (r : AllRecorded world st left n os) (some : 0 < n)
    (name : f.0 ≡ world.number st.top.scene.path) (shown : all_begun after ≡ y ∷ ys) (small : size (tree_of y.1.root) < 2 ^ 32)
    (reached : IsReached f os fs) where
  abbrev Result : Scene × Begun → Type 0
  Result z = Grows reached.top.scope.taken (taken_by world z.0 z.1) × TellsEvent (chosen_by (taken_by world z.0 z.1) reached.top) u ×
      (reached.top.turn ≡ z.0.turn) × (reached.top.scope.tree ≡ tree_of z.1.root)

  open_at : (e : Begun) → st.top.begun ≡ Some e → StandsOpen world st.top.scene e reached.top
  open_at e q = reaches_open world st left n os fs f e numbers a r some q name reached

  begun_first : (g : Scene) (o : Option Begun) (d : Begun) (xs : List (Scene × Begun)) → o ≡ Some d → begun_in g o xs ≡ y ∷ ys → (g, d) ≡ y
  begun_first g None d xs q h = absurd (cc (q))
  begun_first g (Some z) d xs q h = ap (λ w. (g, w)) (sym (some_is z d q)) ∙ head_of (g, z) y xs ys h
    where
      some_is : (b c : Begun) → Some b ≡ Some c → b ≡ c
      some_is b c p = cc (p)

  takes_told : (e : Begun) → st.top.begun ≡ Some e → TakesEvent world st.trace after.trace st.top.scene e u after.top → Result y
  takes_told e q took =
      let now = with_given e u took.value in
      let is : (after.top.scene, now) ≡ y = begun_first after.top.scene after.top.begun now (begun_below after.held) took.begun shown in
      let so : (st.top.scene, now) ≡ y = ap (λ (z : Scene). (z, now)) (sym took.scene) ∙ is in
      let low : size (tree_of e.root) < 2 ^ 32 = subst (λ (z : Scene × Begun). size (tree_of z.1.root) < 2 ^ 32) (sym so) small in
      let t = next_told world st.top.scene e reached.top u (open_at e q) took.passed took.ahead took.before.along low
      (taken_by world st.top.scene now) took.chooses in
      subst Result so (t.0, t.1, (open_at e q).turn, (open_at e q).tree)

  starts_told : (e : Begun) (passed ahead : List Place) → st.top.begun ≡ Some e → StandsFree world st.trace st.top.scene e passed (u ∷ ahead) →
      after.top.begun ≡ None → after.held ≡ (st.top, u) ∷ st.held → Result y
  starts_told e passed ahead q s none held =
      let first = begun_none after.top.scene after.top.begun (begun_below after.held) none in
      let so : (st.top.scene, e) ≡ y = begun_first st.top.scene st.top.begun e (begun_below st.held) q
      (ap begun_below (sym held) ∙ (sym first ∙ shown)) in
      let low : size (tree_of e.root) < 2 ^ 32 = subst (λ (z : Scene × Begun). size (tree_of z.1.root) < 2 ^ 32) (sym so) small in
      let t = next_told world st.top.scene e reached.top u (open_at e q) passed ahead s.along low (taken_by world st.top.scene e)
      (record { grows = λ k i h. h; only = λ k ne. refl }) in
      subst Result so (t.0, t.1, (open_at e q).turn, (open_at e q).tree)
    where
      begun_none : (g : Scene) (o : Option Begun) (xs : List (Scene × Begun)) → o ≡ None → begun_in g o xs ≡ xs
      begun_none g None xs p = refl
      begun_none g (Some d) xs p = absurd (cc (p))

  abbrev place_in : Place → Pick → Place
  place_in z Control = z
  place_in z (Ev w) = w

  event_told : (p : Pick) → p ≡ Ev u → PicksSo world st after p → Result y
  event_told p q (kind.rests c none behind path held) = absurd (let z : Control ≡ Ev u = sym c ∙ q in cc (z))
  event_told p q (kind.settles e c one behind path held) = absurd (let z : Control ≡ Ev u = sym c ∙ q in cc (z))
  event_told p q (kind.begins e c none one fresh path held) = absurd (let z : Control ≡ Ev u = sym c ∙ q in cc (z))
  event_told p q (kind.ends h e c one body took held) = absurd (let z : Control ≡ Ev u = sym c ∙ q in cc (z))
  event_told p q (kind.takes e w x c one took newest is bare held) =
      takes_told e one (subst (λ z. TakesEvent world st.trace after.trace st.top.scene e z after.top) (ap (place_in w) (sym c ∙ q)) took)
  event_told p q (kind.starts e w x passed ahead c one body s newest is none path held) =
      let same : w ≡ u = ap (place_in w) (sym c ∙ q) in
      starts_told e passed ahead one (subst (λ z. StandsFree world st.trace st.top.scene e passed (z ∷ ahead)) same s) none
      (held ∙ ap (λ z. (st.top, z) ∷ st.held) same)

pub events_may_be_told : EventsMayBeTold
events_may_be_told world st after left n os fs f u y ys numbers a r some is q name shown small reached =
    event_told world st after left n os fs f u y ys numbers a r some name shown small reached (canonical_pick world st.top st.top.begun) is
    (picks_are_so world st after a q)

-- ---- straight behind it
pub behind_may_be_told : BehindMayBeTold
behind_may_be_told t last formed small stands = (
  beginnings_done t stands.begins,
  (last_are_own t last stands).1,
  λ p is. (at_above p is, not_yet p is (t.parts p) refl),
)
  where
    at_above : (p : ℕ) → completed_in t last.place.node ≡ Operands_of p → TellsAt t p
    at_above p is =
        let o = operands_parent t last p formed stands is in
        record {
          class = o.class;
          operands = o.operands;
          there = o.there;
          next = λ m h. ⊎_elim
              (λ e. inr (inl (o.index, subst (λ z. IsOperandOf t.scope p o.class o.operands o.index z) (sym e) o.of)))
              (λ q. inr (beside_up t.scope p last.place.node m o.class o.operands o.there o q))
              (stands.parts m h);
          small = small_node t.scope p (node o.class o.operands) o.there small;
        }

    not_yet : (p : ℕ) → completed_in t last.place.node ≡ Operands_of p → (x : Bool) → t.parts p ≡ x → t.parts p ≡ false
    not_yet p is false e = e
    not_yet p is true e =
        let o = operands_parent t last p formed stands is in
        let b = operand_below t.scope p last.place.node o in
        let low = b.low in
        let high = b.high in
        let some = b.some in
        absurd (⊎_elim (λ q. omega (arith, q, low)) (λ q. let z = q.behind (node o.class o.operands) o.there in omega (arith, z, high, some))
        (stands.parts p e))

pub bodies_may_end : BodiesMayEnd
bodies_may_end t last formed small stands body =
    let done = beginnings_done t stands.begins in
    record {
      last = last;
      top = record { some = stands.some; at = stands.at; body = body; due = done.due last (length t.done - 1, stands.at); parts = stands.parts };
      still = still t.scope formed;
      done = done;
    }
