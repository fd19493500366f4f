-- As the frames above the top one are left, its full expression is what is on top.
use Rattle.std.proofs.Common.{◌≡◌, ◌<◌, ◌-◌, ℕ, Bool, true, List, [], ◌∷◌, ◌++◌, length, Option, Some, None, refl, sym, ap, ap₂, subst, ◌∙◌, arith}
use Rattle.std.specs.Prelude.{slice_get}
use Rattle.ub_base.specs.declared.names.Frame.{Frame}
use Rattle.ub_base.specs.declared.names.Item.{Item}
use Rattle.c_typed.specs.declared.tree.Place.{Place}
use Rattle.c_typed.specs.Order.{Taken, events, has, is_body}
use Rattle.c_typed.specs.Tree.{Tree}
use Rattle.c_model.specs.Completions.{Incomplete, completed_by}
use Rattle.c_model.specs.Moments.{items_by}
use Rattle.c_model.specs.Program.{tree_of}
use Rattle.c_model.specs.Runs.{Entry, State}
use Rattle.c_model.specs.Steps.{Begun, Scene, taken_by}
use Rattle.c_model.specs.World.{NumbersFrames, World}
use Rattle.conflict_detector.specs.Telling.{IsReached, LeftTo}
use Rattle.conflict_detector.specs.Telling as leaving
use Rattle.elaborate.specs.Formed.{is_formed}
use Rattle.finding_laws.specs.Forgotten.{HasItemsOf}
use Rattle.run_evaluations.specs.Told.{Evaluation, Opened, given, last_given, has as has_item}
use Rattle.telling_laws.specs.Standing.{StandsBehind, StandsTold, completed_in, places, with_completed}
use Rattle.telling_laws.proofs.Splits.{append_one, at_last, given_last, last_split, places_push}
use Rattle.telling_laws.proofs.Stands.{completes_standing, gives_standing}
use Rattle.detector_laws.specs.Frames.{AreFree, TopStands}
use Rattle.detector_laws.specs.Records.{Records}
use Rattle.detector_laws.proofs.Bodies.{body_completes_none}
use Rattle.ending_laws.proofs.Ending.{same_ends}
use Rattle.ending_laws.proofs.Recorded.{gives_ending}
use Rattle.frame_records.specs.Asked.{ReachesOpen, StandsOpen}
use Rattle.frame_records.specs.Frames.{AllRecorded, EndedRecorded, HeldAre, OpenRecorded, idle, rests, opens, ended}
use Rattle.frame_records.specs.Kept.{ReachesTop}
use Rattle.frame_records.specs.Told.{GivesAll}
use Rattle.frame_records.proofs.Held.{some_of}
use Rattle.frame_records.proofs.Picks.{longer, tail_of}

same_frame : (f g : Frame) → f.0 ≡ g.0 → f ≡ g
same_frame f g q = λ i. record { 0 = q i }

pub first_is : (t u : Opened) (ts us : List Opened) → t ∷ ts ≡ u ∷ us → t ≡ u
first_is t u ts us q = ap first q
  where
    first : List Opened → Opened
    first [] = t
    first (v ∷ vs) = v

-- ---- a body of which the frame is left
module _ (world : World) (trace : List Entry) (f : Scene) (e : Begun) (formed : is_formed (tree_of e.root) ≡ true) (u : Place) (t : Opened)
    (r : EndedRecorded world trace f e u t) (body : Item → Bool) where
  abbrev last_now : Evaluation
  last_now = record r.last { body = body }

  abbrev split : (front : List Evaluation) × (t.done ≡ front ++ (r.last ∷ []))
  split = last_split t.done r.last r.behind.some r.behind.at

  given_is : last_given body t.done ≡ split.0 ++ (last_now ∷ [])
  given_is = ap (last_given body) split.1 ∙ given_last body split.0 r.last

  told_places : places split.0 ++ r.last.place ∷ [] ≡ r.passed ++ u ∷ []
  told_places = sym (ap places split.1 ∙ places_push split.0 r.last) ∙ r.records.places

  last_place : r.last.place ≡ u
  last_place = (same_ends (places split.0) r.passed r.last.place u told_places).1

  given_places : places (given body t).done ≡ r.passed ++ u ∷ []
  given_places = ap places given_is ∙ (places_push split.0 last_now ∙ told_places)

  behind : StandsBehind (given body t) last_now
  behind = (gives_standing t body).1 r.last r.behind

  listed : events (taken_by world f e) 0 (tree_of e.root) ≡ r.passed ++ u ∷ r.ahead
  listed = sym r.along.listed ∙ append_one r.passed u r.ahead

  -- it completes nothing
  completes_none : completed_in (given body t) last_now.place.node ≡ Incomplete
  completes_none =
      ap (λ (z : Place). completed_in (given body t) z.node) last_place
      ∙ (ap (λ z. completed_by (given body t).scope.tree (given body t).scope.taken (has z) u.node) given_places
      ∙ (ap₂ (λ (z : Tree) (c : Taken). completed_by z c (has (r.passed ++ u ∷ [])) u.node) r.records.tree r.records.taken
      ∙ body_completes_none (tree_of e.root) (taken_by world f e) r.passed r.ahead u formed listed r.kind))

  stands : StandsTold (given body t)
  stands =
      subst (λ c. StandsTold (with_completed c (given body t))) completes_none
      (completes_standing (given body t) last_now (ap is_formed r.records.tree ∙ formed) behind)

  pub left_open : StandsOpen world f e (given body t)
  left_open = record {
    passed = r.passed ++ u ∷ [];
    ahead = r.ahead;
    along = r.along;
    frame = r.records.frame;
    turn = r.records.turn;
    tree = r.records.tree;
    taken = r.records.taken;
    places = given_places;
    told = stands;
  }

  -- with all that the trace has of it, but for forgotten accesses, it is closed
  module _ (all : GivesAll trace f (given body t)) where
    at_end : slice_get (given body t).done (length (given body t).done - 1) ≡ Some last_now
    at_end = ap (λ z. slice_get z (length z - 1)) given_is ∙ at_last split.0 last_now

    has_all : HasItemsOf (is_body u.kind) (has_item last_now) (items_by trace trace f.path f.turn u)
    has_all = subst (λ (z : Place). HasItemsOf (is_body z.kind) (has_item last_now) (items_by trace trace f.path f.turn z)) last_place (all last_now at_end)

    pub closed : OpenRecorded world trace f e (given body t)
    closed = record {
      passed = r.passed ++ u ∷ [];
      ahead = r.ahead;
      along = r.along;
      records = (gives_ending world trace f e u r.passed t r.last body r.records r.behind has_all).0;
      told = stands;
    }

pub open_as : (world : World) (trace : List Entry) (f : Scene) (e : Begun) (t : Opened) → OpenRecorded world trace f e t → StandsOpen world f e t
open_as world trace f e t r = record {
  passed = r.passed;
  ahead = r.ahead;
  along = r.along;
  frame = r.records.frame;
  turn = r.records.turn;
  tree = r.records.tree;
  taken = r.records.taken;
  places = r.records.places;
  told = r.told;
}

-- ---- which frames are left
-- none, where the top one is that frame
none_left : (g : Frame) (fs os : List Opened) (t : Opened) (ts : List Opened) → os ≡ t ∷ ts → t.frame ≡ g → LeftTo g fs os → fs ≡ t ∷ ts
none_left g fs _ t ts is name leaving.stays = is
none_left g fs _ t ts is name (leaving.left v u us body other rest) =
    absurd (other (ap (λ (z : Opened). z.frame) (first_is v t (u ∷ us) ts is) ∙ name))

-- one, where the one below it is
one_left : (g : Frame) (fs os : List Opened) (gone t top : Opened) (ts rest : List Opened) → os ≡ gone ∷ t ∷ ts → (gone.frame ≡ g → ⊥) → t.frame ≡ g →
    fs ≡ top ∷ rest → top.frame ≡ g → LeftTo g fs os → (body : Item → Bool) × (fs ≡ given body t ∷ ts)
one_left g fs _ gone t top ts rest is other name at top_name leaving.stays =
    absurd (other (ap (λ (z : Opened). z.frame) (first_is gone top (t ∷ ts) rest (sym is ∙ at)) ∙ top_name))
one_left g fs _ gone t top ts rest is other name at top_name (leaving.left v u us body ne more) =
    let tails = tail_of v gone (u ∷ us) (t ∷ ts) is in
    let same = first_is u t us ts tails in
    let below = tail_of u t us ts tails in (
      body,
      none_left g fs (given body u ∷ us) (given body u) us refl (ap (λ (z : Opened). z.frame) same ∙ name) more
          ∙ ap₂ (λ z zs. given body z ∷ zs) same below,
    )

module _ (world : World) (st : State) (left : List (Scene × Begun)) (e : Begun) (numbers : NumbersFrames world.number) (a : AreFree world st)
    (q : st.top.begun ≡ Some e) (g : Frame) (name : g.0 ≡ world.number st.top.scene.path) where
  abbrev Reached : Opened → List Opened → Type 0
  Reached t ts = OpenRecorded world st.trace st.top.scene e t × HeldAre world st.trace left st.held ts

  none_some : (o : Option Begun) → o ≡ None → o ≡ Some e → ⊥
  none_some o p r = let z : None ≡ Some e = sym p ∙ r in cc (z)

  formed_of : is_formed (tree_of e.root) ≡ true
  formed_of = (subst (TopStands world st.trace st.top.scene) q a.top).2.formed

  pub named : (t : Opened) (d : Begun) (closed done : List Place) → Records world st.trace st.top.scene d closed done t → t.frame ≡ g
  named t d _ _ r = same_frame t.frame g (r.frame ∙ sym name)

  reached_as : (t u : Opened) (ts us : List Opened) → u ∷ us ≡ t ∷ ts → Reached t ts → Reached u us
  reached_as t u ts us is r = (
    subst (OpenRecorded world st.trace st.top.scene e) (sym (first_is u t us ts is)) r.0,
    subst (HeldAre world st.trace left st.held) (sym (tail_of u t us ts is)) r.1,
  )

  -- the frame that ended has another number
  other_frame : (gone : Opened) (u : Place) → gone.frame.0 ≡ world.number ((st.top.scene.turn, u.node) ∷ st.top.scene.path) → gone.frame ≡ g → ⊥
  other_frame gone u number same =
      longer (st.top.scene.turn, u.node) st.top.scene.path
      (numbers.distinct st.top.scene.path ((st.top.scene.turn, u.node) ∷ st.top.scene.path)
      (sym name ∙ (ap (λ (z : Frame). z.0) (sym same) ∙ number)))

  pub reaches : (n : ℕ) (os fs : List Opened) → 0 < n → (r : IsReached g os fs) → GivesAll st.trace st.top.scene r.top → AllRecorded world st left n os →
      Reached r.top r.below
  reaches _ _ fs some r all (idle os w bare) = absurd (omega (arith, some))
  reaches _ _ fs some r all (rests n t ts c l b f h) = absurd (none_some st.top.begun b q)
  reaches _ _ fs some r all (opens n d t ts c b f h) =
      reached_as t r.top ts r.below (sym r.is ∙ none_left g fs (t ∷ ts) t ts refl (named t d f.passed f.passed f.records) r.left)
      (subst (λ z. OpenRecorded world st.trace st.top.scene z t) (some_of d e st.top.begun b q) f, h)
  reaches _ _ fs some r all (ended n d u gone t ts c b f number h) =
      let one = one_left g fs (gone ∷ t ∷ ts) gone t r.top ts r.below refl (other_frame gone u number)
      (named t d f.passed (f.passed ++ u ∷ []) f.records) r.is r.name r.left in
      let top = first_is r.top (given one.0 t) r.below ts (sym r.is ∙ one.1) in
      reached_as (given one.0 t) r.top ts r.below (sym r.is ∙ one.1) (
        closed world st.trace st.top.scene e formed_of u t
            (subst (λ z. EndedRecorded world st.trace st.top.scene z u t) (some_of d e st.top.begun b q) f) one.0
            (subst (GivesAll st.trace st.top.scene) top all),
        h,
      )

  stands_as : (t u : Opened) → t ≡ u → StandsOpen world st.top.scene e t → StandsOpen world st.top.scene e u
  stands_as t u is r = subst (StandsOpen world st.top.scene e) is r

  pub reaches_open_so : (n : ℕ) (os fs : List Opened) → 0 < n → (r : IsReached g os fs) → AllRecorded world st left n os →
      StandsOpen world st.top.scene e r.top
  reaches_open_so _ _ fs some r (idle os w bare) = absurd (omega (arith, some))
  reaches_open_so _ _ fs some r (rests n t ts c l b f h) = absurd (none_some st.top.begun b q)
  reaches_open_so _ _ fs some r (opens n d t ts c b f h) =
      stands_as t r.top
      (sym (first_is r.top t r.below ts (sym r.is ∙ none_left g fs (t ∷ ts) t ts refl (named t d f.passed f.passed f.records) r.left)))
      (open_as world st.trace st.top.scene e t (subst (λ z. OpenRecorded world st.trace st.top.scene z t) (some_of d e st.top.begun b q) f))
  reaches_open_so _ _ fs some r (ended n d u gone t ts c b f number h) =
      let one = one_left g fs (gone ∷ t ∷ ts) gone t r.top ts r.below refl (other_frame gone u number)
      (named t d f.passed (f.passed ++ u ∷ []) f.records) r.is r.name r.left in
      stands_as (given one.0 t) r.top (sym (first_is r.top (given one.0 t) r.below ts (sym r.is ∙ one.1)))
      (left_open world st.trace st.top.scene e formed_of u t
      (subst (λ z. EndedRecorded world st.trace st.top.scene z u t) (some_of d e st.top.begun b q) f) one.0)

pub reaches_open : ReachesOpen
reaches_open world st left n os fs g e numbers a r some q name reached = reaches_open_so world st left e numbers a q g name n os fs some reached r

pub reaches_top : ReachesTop
reaches_top world st left n os fs g e numbers a r some q name reached all = reaches world st left e numbers a q g name n os fs some reached all r
