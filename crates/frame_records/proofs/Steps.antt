-- What is recorded stays what the definitions have behind a control step.
use Rattle.std.proofs.Common.{◌≡◌, ◌≤◌, ◌<◌, ℕ, zero, suc, true, List, [], ◌∷◌, length, Option, Some, None, refl, sym, ap, subst, ◌∙◌, arith}
use Rattle.ub_base.specs.declared.clause.Kind.TheVariants.{Body}
use Rattle.ub_base.specs.declared.names.Frame.{Frame}
use Rattle.c_typed.specs.declared.tree.Place.{Place}
use Rattle.c_typed.specs.Order.{events}
use Rattle.c_model.specs.Findings.{is_under}
use Rattle.c_model.specs.Program.{tree_of}
use Rattle.c_model.specs.Runs.{Entry, State, canonical_pick}
use Rattle.c_model.specs.Steps.{Begun, Control, Ev, Local, Pick, Scene, taken_by, with_given}
use Rattle.c_model.specs.World.{World}
use Rattle.conflict_detector.specs.Telling.{IsBare, fresh}
use Rattle.elaborate.specs.Formed.{is_formed}
use Rattle.listing_laws.proofs.Going.{begins_along}
use Rattle.run_evaluations.specs.Told.{Opened, begun, entered, settled}
use Rattle.detector_laws.specs.Frames.{AllWaitFree, AreFree, TakesEvent, TopStands}
use Rattle.detector_laws.specs.Looked.{scope_of}
use Rattle.detector_laws.specs.Shown.{all_begun, begun_below, begun_in}
use Rattle.detector_laws.proofs.Goes.{picks_come_to}
use Rattle.detector_laws.proofs.Paths.{under_itself, under_tail}
use Rattle.detector_laws.proofs.Recorded.{begins_recorded}
use Rattle.frame_records.specs.Frames.{AllRecorded, Counts, EndedRecorded, HeldAre, HeldRecorded, OpenRecorded, RestsRecorded, below, more}
use Rattle.frame_records.specs.Frames as all
use Rattle.frame_records.specs.Kept.{StepsKeep, left_behind}
use Rattle.frame_records.specs.Picks.{PicksSo}
use Rattle.frame_records.specs.Picks as kind
use Rattle.frame_records.specs.Told.{Steps, stays, settles, closes, begins, idles, opens}
use Rattle.frame_records.proofs.Ended.{ends_so, goes_on}
use Rattle.frame_records.proofs.Held.{begun_more, held_stay, some_of}
use Rattle.frame_records.proofs.Picks.{picks_are_so, tail_of}

begun_none : (f : Scene) (o : Option Begun) (xs : List (Scene × Begun)) → o ≡ None → begun_in f o xs ≡ xs
begun_none f None xs q = refl
begun_none f (Some e) xs q = absurd (cc (q))

module _ (world : World) (st after : State) (a : AreFree world st) (left : List (Scene × Begun)) where
  abbrev count : State → ℕ
  count s = length (all_begun s)

  count_none : (s : State) → s.top.begun ≡ None → count s ≡ length (begun_below s.held)
  count_none s q = ap length (begun_none s.top.scene s.top.begun (begun_below s.held) q)

  count_some : (s : State) (e : Begun) → s.top.begun ≡ Some e → count s ≡ suc (length (begun_below s.held))
  count_some s e q = begun_more world s.top.scene s.top.begun e (begun_below s.held) q

  same_below : after.held ≡ st.held → length (begun_below after.held) ≡ length (begun_below st.held)
  same_below q = ap (λ hs. length (begun_below hs)) q

  -- where nothing is recorded
  none_left : (m : ℕ) (ps : List Opened) → m ≡ 0 → IsBare ps → AllRecorded world after (left_behind m after left) m ps
  none_left m ps q bare = subst (λ z. AllRecorded world after (left_behind z after left) z ps) (sym q) (all.idle ps refl bare)

  some_left : (m k : ℕ) → m ≡ suc k → left_behind m after left ≡ left
  some_left m k q = ap (λ z. left_behind z after left) q

  keeps : (m k : ℕ) (ps : List Opened) → m ≡ suc k → AllRecorded world after left m ps → AllRecorded world after (left_behind m after left) m ps
  keeps m k ps q r = subst (λ z. AllRecorded world after z m ps) (sym (some_left m k q)) r

  some_so : (n : ℕ) → 0 < n → (k : ℕ) × (n ≡ suc k)
  some_so zero l = absurd (omega (arith, l))
  some_so (suc k) l = (k, refl)

  module _ (x : Entry) (newest : after.trace ≡ x ∷ st.trace) (at : x.path ≡ st.top.scene.path) where
    under : is_under x.path st.top.scene.path ≡ true
    under = subst (λ z. is_under z st.top.scene.path ≡ true) (sym at) (under_itself st.top.scene.path)

    -- the frames that are held stay
    held_now : (ts : List Opened) → after.held ≡ st.held → HeldAre world st.trace left st.held ts → HeldAre world after.trace left after.held ts
    held_now ts q r =
        subst (λ z. HeldAre world z left after.held ts) (sym newest)
        (subst (λ z. HeldAre world (x ∷ st.trace) left z ts) (sym q)
        (held_stay world st.trace x left st.top.scene.path st.held ts under a.held r))

    formed_of : (e : Begun) → st.top.begun ≡ Some e → is_formed (tree_of e.root) ≡ true
    formed_of e q = (subst (TopStands world st.trace st.top.scene) q a.top).2.formed

    not_both : {A : Type 0} → (o : Option Begun) (e : Begun) → o ≡ None → o ≡ Some e → A
    not_both o e p q = absurd (let z : None ≡ Some e = sym p ∙ q in cc (z))

    -- ---- none is open, before it and behind it
    rests_stay : (n : ℕ) (os : List Opened) → st.top.begun ≡ None → after.top.begun ≡ None → after.top.scene.path ≡ st.top.scene.path →
        after.held ≡ st.held → 0 < n → AllRecorded world st left n os → AllRecorded world after left n os
    rests_stay _ _ p q path held some (all.idle os is bare) = absurd (omega (arith, some))
    rests_stay _ _ p q path held some (all.rests n t ts c l b f h) =
        all.rests n t ts c (let z = same_below held in omega (arith, z, l)) q
        (record { frame = f.frame ∙ ap world.number (sym path); none = f.none }) (held_now ts held h)
    rests_stay _ _ p q path held some (all.opens n e t ts c b f h) = not_both st.top.begun e p b
    rests_stay _ _ p q path held some (all.ended n e u g t ts c b f number h) = not_both st.top.begun e p b

    rests_keep : (n m : ℕ) (os ps : List Opened) → st.top.begun ≡ None → after.top.begun ≡ None → after.top.scene.path ≡ st.top.scene.path →
        after.held ≡ st.held → AllRecorded world st left n os → Steps world st after n os m ps → AllRecorded world after (left_behind m after left) m ps
    rests_keep _ _ _ _ p q path held r (stays n os same some) =
        let k = some_so n some in keeps n k.0 os k.1 (rests_stay n os p q path held some r)
    rests_keep _ _ _ _ p q path held r (settles n t ts less some low) =
        absurd (let y = count_none st p in let z = count_none after q in let w = same_below held in omega (arith, y, z, w, less))
    rests_keep _ _ _ _ p q path held r (closes n os ps less low bare) = none_left 0 ps refl bare
    rests_keep _ _ _ _ p q path held r (begins n e t ts less some is) = not_both after.top.begun e q is
    rests_keep _ _ _ _ p q path held r (idles os ps low bare) = none_left 0 ps refl bare
    rests_keep _ _ _ _ p q path held r (opens e f os ps less is number bare) = not_both after.top.begun e q is

    -- ---- the full expression that is open is settled
    settles_so : (n : ℕ) (t : Opened) (ts : List Opened) (e : Begun) → canonical_pick world st.top st.top.begun ≡ Control → st.top.begun ≡ Some e →
        after.top.begun ≡ None → after.top.scene.path ≡ st.top.scene.path → after.held ≡ st.held → 0 < n → n ≤ count after →
        (os : List Opened) → os ≡ t ∷ ts → AllRecorded world st left n os → AllRecorded world after left n (settled t ∷ ts)
    settles_so _ t ts e is p q path held some low _ same (all.idle os w bare) = absurd (omega (arith, some))
    settles_so _ t ts e is p q path held some low _ same (all.rests n v vs c l b f h) = not_both st.top.begun e b p
    settles_so _ t ts e is p q path held some low _ same (all.opens n d v vs c b f h) =
        subst (λ z. AllRecorded world after left n z) (ap settled_first same)
        (all.rests n (settled v) vs c (let z = count_none after q in omega (arith, z, low)) q
        (record { frame = f.records.frame ∙ ap world.number (sym path); none = refl }) (held_now vs held h))
      where
        settled_first : List Opened → List Opened
        settled_first [] = []
        settled_first (v ∷ vs) = settled v ∷ vs
    settles_so _ t ts e is p q path held some low _ same (all.ended n d u g v vs c b f number h) =
        absurd (goes_on world st.trace st.top d u v (formed_of d b) f (ap (canonical_pick world st.top) (sym b) ∙ is))

    settles_keep : (n m : ℕ) (os ps : List Opened) (e : Begun) → canonical_pick world st.top st.top.begun ≡ Control → st.top.begun ≡ Some e →
        after.top.begun ≡ None → after.top.scene.path ≡ st.top.scene.path → after.held ≡ st.held → AllRecorded world st left n os →
        Steps world st after n os m ps → AllRecorded world after (left_behind m after left) m ps
    settles_keep _ _ _ _ e is p q path held r (stays n os same some) =
        absurd (let y = count_some st e p in let z = count_none after q in let w = same_below held in omega (arith, y, z, w, same))
    settles_keep _ _ _ _ e is p q path held r (settles n t ts less some low) =
        let k = some_so n some in
        keeps n k.0 (settled t ∷ ts) k.1 (settles_so n t ts e is p q path held some low (t ∷ ts) refl r)
    settles_keep _ _ _ _ e is p q path held r (closes n os ps less low bare) = none_left 0 ps refl bare
    settles_keep _ _ _ _ e is p q path held r (begins n d t ts less some w) = not_both after.top.begun d q w
    settles_keep _ _ _ _ e is p q path held r (idles os ps low bare) = none_left 0 ps refl bare
    settles_keep _ _ _ _ e is p q path held r (opens d f os ps less w number bare) = not_both after.top.begun d q w

    -- ---- one begins
    open_at : (e d : Begun) (t : Opened) → after.top.begun ≡ Some e → after.top.begun ≡ Some d → ((u : Place) → e.given u ≡ None) →
        t.frame.0 ≡ world.number after.top.scene.path →
        OpenRecorded world after.trace after.top.scene d (begun after.top.scene.turn (scope_of world after.top.scene d) t)
    open_at e d t p q none name =
        let none_now = subst (λ (z : Begun). (u : Place) → z.given u ≡ None) (some_of e d after.top.begun p q) none in
        let r = begins_recorded world after.trace after.top.scene d t name in
        record {
          passed = [];
          ahead = events (taken_by world after.top.scene d) 0 (tree_of d.root);
          along = begins_along world after.top.scene d none_now;
          records = r.0;
          told = r.1;
        }

    begins_so : (n : ℕ) (t : Opened) (ts : List Opened) (e d : Begun) → st.top.begun ≡ None → after.top.begun ≡ Some e → after.top.begun ≡ Some d →
        ((u : Place) → e.given u ≡ None) → after.top.scene.path ≡ st.top.scene.path → after.held ≡ st.held → 0 < n →
        (os : List Opened) → os ≡ t ∷ ts → AllRecorded world st left n os →
        AllRecorded world after left n (begun after.top.scene.turn (scope_of world after.top.scene d) t ∷ ts)
    begins_so _ t ts e d p q is none path held some _ same (all.idle os w bare) = absurd (omega (arith, some))
    begins_so _ t ts e d p q is none path held some _ same (all.rests n v vs c l b f h) =
        subst (λ z. AllRecorded world after left n z) (ap begun_first same)
        (all.opens n d (begun after.top.scene.turn (scope_of world after.top.scene d) v) vs c is
        (open_at e d v q is none (f.frame ∙ ap world.number (sym path))) (held_now vs held h))
      where
        begun_first : List Opened → List Opened
        begun_first [] = []
        begun_first (v ∷ vs) = begun after.top.scene.turn (scope_of world after.top.scene d) v ∷ vs
    begins_so _ t ts e d p q is none path held some _ same (all.opens n g v vs c b f h) = not_both st.top.begun g p b
    begins_so _ t ts e d p q is none path held some _ same (all.ended n g u w v vs c b f number h) = not_both st.top.begun g p b

    opens_so : (m : ℕ) (os ps : List Opened) (g : Frame) (e d : Begun) → st.top.begun ≡ None → after.top.begun ≡ Some e → after.top.begun ≡ Some d →
        ((u : Place) → e.given u ≡ None) → after.held ≡ st.held → g.0 ≡ world.number after.top.scene.path → IsBare ps → m ≡ count after →
        (n : ℕ) → n ≡ 0 → AllRecorded world st left n os →
        AllRecorded world after left m (fresh g after.top.scene.turn (scope_of world after.top.scene d) ∷ ps)
    opens_so m _ ps g e d p q is none held name bare counts _ zero_is (all.idle os w _) =
        let left_is : begun_below after.held ≡ left = ap begun_below held ∙ (sym (begun_none st.top.scene st.top.begun (begun_below st.held) p) ∙ w) in
        all.opens m d (fresh g after.top.scene.turn (scope_of world after.top.scene d)) ps
        (let y = count_some after d is in let z = ap length left_is in omega (arith, y, z, counts)) is
        (open_at e d (entered g) q is none name) (below after.held ps left_is bare)
    opens_so m _ ps g e d p q is none held name bare counts _ zero_is (all.rests n v vs c l b f h) = absurd (omega (arith, zero_is, c))
    opens_so m _ ps g e d p q is none held name bare counts _ zero_is (all.opens n w v vs c b f h) = absurd (omega (arith, zero_is, c))
    opens_so m _ ps g e d p q is none held name bare counts _ zero_is (all.ended n w u k v vs c b f number h) = absurd (omega (arith, zero_is, c))

    begins_keep : (n m : ℕ) (os ps : List Opened) (e : Begun) → st.top.begun ≡ None → after.top.begun ≡ Some e → ((u : Place) → e.given u ≡ None) →
        after.top.scene.path ≡ st.top.scene.path → after.held ≡ st.held → AllRecorded world st left n os →
        Steps world st after n os m ps → AllRecorded world after (left_behind m after left) m ps
    begins_keep _ _ _ _ e p q none path held r (stays n os same some) =
        absurd (let y = count_none st p in let z = count_some after e q in let w = same_below held in omega (arith, y, z, w, same))
    begins_keep _ _ _ _ e p q none path held r (settles n t ts less some low) =
        absurd (let y = count_none st p in let z = count_some after e q in let w = same_below held in omega (arith, y, z, w, less))
    begins_keep _ _ _ _ e p q none path held r (closes n os ps less low bare) = none_left 0 ps refl bare
    begins_keep _ _ _ _ e p q none path held r (begins n d t ts less some is) =
        let k = some_so n some in
        keeps n k.0 (begun after.top.scene.turn (scope_of world after.top.scene d) t ∷ ts) k.1
        (begins_so n t ts e d p q is none path held some (t ∷ ts) refl r)
    begins_keep _ _ _ _ e p q none path held r (idles os ps low bare) = none_left 0 ps refl bare
    begins_keep _ _ _ _ e p q none path held r (opens d f os ps less is number bare) =
        keeps (count after) (length (begun_below after.held)) (fresh f after.top.scene.turn (scope_of world after.top.scene d) ∷ ps)
        (count_some after d is) (opens_so (count after) os ps f e d p q is none held number bare refl 0 refl r)

    -- ---- the frame ends
    module _ (h : Local × Place) (e : Begun) (p : h.0.begun ≡ Some e) (body : h.1.kind ≡ Body)
        (took : TakesEvent world st.trace after.trace h.0.scene e h.1 after.top) (held : st.held ≡ h ∷ after.held) where
      waits : AllWaitFree world st.trace st.top.scene.path (h ∷ after.held)
      waits = subst (AllWaitFree world st.trace st.top.scene.path) held a.held

      abbrev took_now : TakesEvent world st.trace (x ∷ st.trace) h.0.scene e h.1 after.top
      took_now = subst (λ z. TakesEvent world st.trace z h.0.scene e h.1 after.top) newest took

      under_body : is_under x.path ((h.0.scene.turn, h.1.node) ∷ h.0.scene.path) ≡ true
      under_body = subst (λ z. is_under x.path z ≡ true) waits.0 under

      count_below : length (begun_below st.held) ≡ suc (length (begun_below after.held))
      count_below = ap (λ hs. length (begun_below hs)) held ∙ begun_more world h.0.scene h.0.begun e (begun_below after.held) p

      count_after : count after ≡ suc (length (begun_below after.held))
      count_after = count_some after (with_given e h.1 took.value) took.begun

      -- it is left only with the next event
      ends_now : (n : ℕ) (g : Opened) (hs : List (Local × Place)) (ts : List Opened) → Counts n left → n ≤ length (begun_below st.held) →
          g.frame.0 ≡ world.number st.top.scene.path → hs ≡ h ∷ after.held → HeldAre world st.trace left hs ts → AllRecorded world after left n (g ∷ ts)
      ends_now n g _ _ c low name is (below hs ts same bare) =
          absurd (let y = ap length same in let z = ap (λ us. length (begun_below us)) (held ∙ sym is) in omega (arith, c, low, y, z))
      ends_now n g _ _ c low name is (more k hs t ts r rest) =
          all.ended n (with_given e h.1 took.value) h.1 g t ts c took.begun
          (subst (λ z. EndedRecorded world after.trace z (with_given e h.1 took.value) h.1 t) (sym took.scene)
          (subst (λ z. EndedRecorded world z h.0.scene (with_given e h.1 took.value) h.1 t) (sym newest) here))
          (name ∙ ap world.number (waits.0 ∙ ap (λ (z : Scene). (z.turn, h.1.node) ∷ z.path) (sym took.scene)))
          (subst (λ z. HeldAre world z left after.held ts) (sym newest)
          (held_stay world st.trace x left h.0.scene.path after.held ts (under_tail x.path (h.0.scene.turn, h.1.node) h.0.scene.path under_body) waits.2
          (subst (λ z. HeldAre world st.trace left z ts) (tail_of k h hs after.held is) rest)))
        where
          first_of : List (Local × Place) → Local × Place
          first_of [] = h
          first_of (y ∷ ys) = y

          r_now : HeldRecorded world st.trace h.0 h.1 t
          r_now = subst (λ (z : Local × Place). HeldRecorded world st.trace z.0 z.1 t) (ap first_of is) r

          here : EndedRecorded world (x ∷ st.trace) h.0.scene (with_given e h.1 took.value) h.1 t
          here = ends_so world st.trace x h e t after.top body p waits.1 under_body took_now r_now

      ends_stay : (n : ℕ) (os : List Opened) → count after ≡ count st → 0 < n → AllRecorded world st left n os → AllRecorded world after left n os
      ends_stay _ _ same some (all.idle os w bare) = absurd (omega (arith, some))
      ends_stay _ _ same some (all.rests n t ts c l b f k) = ends_now n t st.held ts c l f.frame held k
      ends_stay _ _ same some (all.opens n d t ts c b f k) =
          absurd (let y = count_some st d b in let z = count_below in let w = count_after in omega (arith, y, z, w, same))
      ends_stay _ _ same some (all.ended n d u g t ts c b f number k) =
          absurd (let y = count_some st d b in let z = count_below in let w = count_after in omega (arith, y, z, w, same))

      ends_settled : (n : ℕ) (t : Opened) (ts : List Opened) → canonical_pick world st.top st.top.begun ≡ Control → count after < count st → 0 < n →
          n ≤ count after → (os : List Opened) → os ≡ t ∷ ts → AllRecorded world st left n os → AllRecorded world after left n (settled t ∷ ts)
      ends_settled _ t ts is less some low _ same (all.idle os w bare) = absurd (omega (arith, some))
      ends_settled _ t ts is less some low _ same (all.rests n v vs c l b f k) =
          absurd (let y = count_none st b in let z = count_below in let w = count_after in omega (arith, y, z, w, less))
      ends_settled _ t ts is less some low _ same (all.opens n d v vs c b f k) =
          subst (λ z. AllRecorded world after left n z) (ap settled_first same)
          (ends_now n (settled v) st.held vs c (let z = count_below in let w = count_after in omega (arith, z, w, low)) f.records.frame held k)
        where
          settled_first : List Opened → List Opened
          settled_first [] = []
          settled_first (v ∷ vs) = settled v ∷ vs
      ends_settled _ t ts is less some low _ same (all.ended n d u g v vs c b f number k) =
          absurd (goes_on world st.trace st.top d u v (formed_of d b) f (ap (canonical_pick world st.top) (sym b) ∙ is))

      count_less : count after ≤ count st
      count_less = let z = count_below in let w = count_after in let y = at_least st.top.scene st.top.begun in omega (arith, z, w, y)
        where
          at_least : (f : Scene) (o : Option Begun) → length (begun_below st.held) ≤ length (begun_in f o (begun_below st.held))
          at_least f None = omega arith
          at_least f (Some d) = omega arith

      ends_keep : (n m : ℕ) (os ps : List Opened) → canonical_pick world st.top st.top.begun ≡ Control → AllRecorded world st left n os →
          Steps world st after n os m ps → AllRecorded world after (left_behind m after left) m ps
      ends_keep _ _ _ _ is r (stays n os same some) = let k = some_so n some in keeps n k.0 os k.1 (ends_stay n os same some r)
      ends_keep _ _ _ _ is r (settles n t ts less some low) =
          let k = some_so n some in keeps n k.0 (settled t ∷ ts) k.1 (ends_settled n t ts is less some low (t ∷ ts) refl r)
      ends_keep _ _ _ _ is r (closes n os ps less low bare) = none_left 0 ps refl bare
      ends_keep _ _ _ _ is r (begins n d t ts less some w) = absurd (let z = count_less in omega (arith, z, less))
      ends_keep _ _ _ _ is r (idles os ps low bare) = none_left 0 ps refl bare
      ends_keep _ _ _ _ is r (opens d f os ps less w number bare) = absurd (let z = count_less in omega (arith, z, less))

    -- ---- whatever it does
    so_keep : (n m : ℕ) (os ps : List Opened) (p : Pick) → p ≡ canonical_pick world st.top st.top.begun → p ≡ Control → PicksSo world st after p →
        AllRecorded world st left n os → Steps world st after n os m ps → AllRecorded world after (left_behind m after left) m ps
    so_keep n m os ps p is q (kind.rests c none behind path held) r k = rests_keep n m os ps none behind path held r k
    so_keep n m os ps p is q (kind.settles e c some behind path held) r k = settles_keep n m os ps e (sym is ∙ q) some behind path held r k
    so_keep n m os ps p is q (kind.begins e c none some fresh path held) r k = begins_keep n m os ps e none some fresh path held r k
    so_keep n m os ps p is q (kind.ends h e c some body took held) r k = ends_keep h e some body took held n m os ps (sym is ∙ q) r k
    so_keep n m os ps p is q (kind.takes e u y c some took newest entry bare held) r k = absurd (let z : Control ≡ Ev u = sym q ∙ c in cc (z))
    so_keep n m os ps p is q (kind.starts e u y passed ahead c some body s newest entry none path held) r k =
        absurd (let z : Control ≡ Ev u = sym q ∙ c in cc (z))

pub steps_keep : StepsKeep
steps_keep world st after left n m os ps a r is q k =
    let h = (picks_come_to world st after a q).1 in
    so_keep world st after a left h.entry h.newest h.path n m os ps (canonical_pick world st.top st.top.begun) refl is
    (picks_are_so world st after a q) r k
