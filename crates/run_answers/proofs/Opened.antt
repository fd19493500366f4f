-- The full expression that is open in the top frame of a machine, by a state that the machine stands for.
use Rattle.std.proofs.Common.{◌≡◌, ◌↔◌, ℕ, ◌<◌, ◌^◌, Bool, true, false, if◌then◌else◌, List, [], ◌∷◌, length, Option, Some, None}
use Rattle.std.proofs.Common.{refl, sym, ap, subst, ◌∙◌, true≢false}
use Rattle.std.proofs.lemmas.List.{length-reverse}
use Rattle.std.specs.Borrow.{Bor}
use Rattle.std.specs.List.{All}
use Rattle.c_typed.specs.declared.tree.Place.{Place}
use Rattle.c_typed.specs.Tree.{tree_of, size}
use Rattle.c_typed.specs.Order.{events, has}
use Rattle.c_typed.specs.Decide.{first_place, is_permitted, canonical}
use Rattle.c_model.specs.Program as model
use Rattle.c_model.specs.Steps.{Scene, Local, Begun, Ev, MayPick, taken_by, is_done}
use Rattle.c_model.specs.Runs.{State, canonical_pick, chosen_pick}
use Rattle.c_model.specs.World.{World}
use Rattle.program_view.specs.Laws.{TreesAreKept}
use Rattle.seq_order.specs.Marked.{taken_in}
use Rattle.run_control.specs.View.{Meaning}
use Rattle.run_layout.specs.declared.steps.Due.{Due}
use Rattle.run_layout.specs.Named.{IsExpressionOf}
use Rattle.run_layout.specs.OfTrees.{HasListing, IsListingOf}
use Rattle.run_listing.specs.Along.{part_of, events_of, place_of}
use Rattle.run_listing.specs.Straight.{ListsTree, HasEntries}
use Rattle.run_listing.specs.Cursor as cursor
use Rattle.run_listing.specs.Cursor.{NextIsCanonical, PermitsPicks, TakesByDone, PermitsByDone}
use Rattle.run_state.specs.declared.machine.Machine.{Machine}
use Rattle.run_state.specs.declared.machine.Open.{Open}
use Rattle.run_state.specs.declared.machine.Stage.{Stage}
use Rattle.run_state.specs.declared.watch.Begun.{Begun as Shown}
use Rattle.run_state.specs.Stands.{Stands, StandsBegun, StandsDone, StandsExpression, StandsFrame}
use Rattle.run_answers.specs.Picks.{
  top_of,
  whole_part,
  kept_in,
  kept_of,
  by_way,
  ByWay,
  FollowsIn,
  NoneIsPermitted,
  UnlistedIsRefused,
  NextIsPermitted,
  PermitsDecided,
  FollowsCanonical,
}
use Rattle.run_answers.proofs.Parts.{each_at}

-- ---- what the top frame's full expression is
pub top_frame : (world : World) (meaning : Option ℕ → Meaning) (m : Machine) (st : State) → Stands world meaning m st →
    StandsFrame world (meaning m.top.function) m (length m.below.items) m.top m.work.now m.left st.top None
top_frame world meaning m st s =
    subst (λ (n : ℕ). StandsFrame world (meaning m.top.function) m n m.top m.work.now m.left st.top None) (length-reverse m.below.items) s.frames.0

pub none_open : (world : World) (meaning : Meaning) (m : Machine) (height : ℕ) (o : Open) (stage : Option Stage) (f : Scene) (e : Option Begun) →
    StandsBegun world meaning m height o stage f e None → stage ≡ None → e ≡ None
none_open world meaning m height o None f None b h = refl
none_open world meaning m height o None f (Some e) b h = absurd b
none_open world meaning m height o (Some s) f e b h = absurd (cc)

pub one_open : (world : World) (meaning : Meaning) (m : Machine) (height : ℕ) (o : Open) (stage : Option Stage) (s : Stage) (f : Scene) (e : Option Begun) →
    StandsBegun world meaning m height o stage f e None → stage ≡ Some s →
    (x : Begun) × (e ≡ Some x) × StandsExpression world meaning m height o s f x None
one_open world meaning m height o None s f e b h = absurd (cc)
one_open world meaning m height o (Some t) s f None b h = absurd b
one_open world meaning m height o (Some t) s f (Some x) b h =
    (x, refl, subst (λ (z : Stage). StandsExpression world meaning m height o z f x None) (let same : t ≡ s = cc in same) b)

-- it has begun, and its listing is that of its tree; the machine has its choices, of the nodes that are evaluated
pub record Opened (world : World) (m : Machine) (s : Stage) (b : Shown) (f : Local) (e : Begun) : Type 0 where
  pub tree : model.tree_of e.root ≡ tree_of b.root.now
  pub few : size (tree_of b.root.now) < 2 ^ 32
  pub listed : cursor.IsListed world f.scene m.image.code.now.listing.items s.first s.end e (taken_in b.taken)
  pub done : StandsDone s.straight world m (length m.below.items) s.first s.cursor s.end f.scene e None

pub opened : TreesAreKept → (world : World) (meaning : Meaning) (m : Machine) (s : Stage) (b : Shown) (f : Local) (e : Begun) →
    All (HasListing m.image.code.now.listing.items) m.image.code.now.expressions.items → top_of m ≡ Some b →
    StandsExpression world meaning m (length m.below.items) m.top s f.scene e None → Opened world m s b f e
opened trees world meaning m s b f e all top x =
    let same : x.shown ≡ b = (let both : Some x.shown ≡ Some b = sym x.shows ∙ top in cc) in
    let has = each_at (HasListing m.image.code.now.listing.items) m.image.code.now.expressions.items s.expression x.laid x.at all in
    let laid = each_at (IsExpressionOf m.image.code.now.tables m.image.code.now.listing.items) m.image.code.now.expressions.items s.expression x.laid x.at
    m.image.code.now.within in
    let typed : tree_of x.laid.root.now ≡ tree_of b.root.now = ap tree_of (sym x.tree_root) ∙ ap (λ (z : Shown). tree_of z.root.now) same in
    let modelled : model.tree_of e.root ≡ tree_of x.laid.root.now = ap model.tree_of x.root ∙ trees x.laid.root.now in
    record {
      tree = modelled ∙ typed;
      few = subst (λ t. size t < 2 ^ 32) typed laid.3;
      listed = (
        subst (λ t. IsListingOf (whole_part m s) t) (sym modelled)
            (subst (λ (n : ℕ). IsListingOf (part_of m.image.code.now.listing.items n s.end) (tree_of x.laid.root.now)) (sym x.first)
            (subst (λ (n : ℕ). IsListingOf (part_of m.image.code.now.listing.items x.laid.first n) (tree_of x.laid.root.now)) (sym x.end) has)),
        λ n due. ap (λ (z : Shown). taken_in z.taken n) (sym same) ∙ x.taken n due,
      );
      done = subst (λ (n : ℕ). StandsDone s.straight world m (length m.below.items) n s.cursor s.end f.scene e None) (sym x.first)
          (subst (λ (n : ℕ). StandsDone s.straight world m (length m.below.items) x.laid.first s.cursor n f.scene e None) (sym x.end) x.done);
    }

-- of a machine that stands
abbrev Stood : World → (Option ℕ → Meaning) → Machine → Stage → Local → Type 0
Stood world meaning m s f = (e : Begun) × (f.begun ≡ Some e) × ((b : Shown) → top_of m ≡ Some b → Opened world m s b f e)

stood : TreesAreKept → (world : World) (meaning : Option ℕ → Meaning) (m : Machine) (s : Stage) (st : State) → Stands world meaning m st →
    m.top.stage ≡ Some s → Stood world meaning m s st.top
stood trees world meaning m s st stands stage =
    let frame = top_frame world meaning m st stands in
    let begun = one_open world (meaning m.top.function) m (length m.below.items) m.top m.top.stage s st.top.scene st.top.begun frame.begun stage in
    (begun.0, begun.1, λ b top. opened trees world (meaning m.top.function) m s b st.top begun.0 stands.listed top begun.2)

-- there is one that is shown
shown_there : TreesAreKept → (world : World) (meaning : Option ℕ → Meaning) (m : Machine) (s : Stage) (st : State) → Stands world meaning m st →
    m.top.stage ≡ Some s → (b : Shown) × (top_of m ≡ Some b)
shown_there trees world meaning m s st stands stage =
    let frame = top_frame world meaning m st stands in
    let begun = one_open world (meaning m.top.function) m (length m.below.items) m.top m.top.stage s st.top.scene st.top.begun frame.begun stage in
    (begun.2.shown, begun.2.shows)

-- ---- an event that may come next
abbrev May : World → Local → Option Begun → Place → Type 0
May world f e u = MayPick world f e (Ev u)

pub closed : NoneIsPermitted
closed m u none world meaning st stands =
    let e = none_open world (meaning m.top.function) m (length m.below.items) m.top m.top.stage st.top.scene st.top.begun
    (top_frame world meaning m st stands).begun none in
    (λ h. absurd (true≢false (sym h)), λ may. absurd (subst (λ (x : Option Begun). May world st.top x u) e may))

-- what is permitted is due
due_of_permitted : (world : World) (f : Local) (e : Begun) (u : Place) → May world f (Some e) u →
    has (events (taken_by world f.scene e) 0 (model.tree_of e.root)) u ≡ true
due_of_permitted world f e u may = may.ready.due

pub unlisted : TreesAreKept → HasEntries → UnlistedIsRefused
unlisted trees entries m s u stage none world meaning st stands =
    let there = stood trees world meaning m s st stands stage in
    let shown = shown_there trees world meaning m s st stands stage in
    let x = there.2 shown.0 shown.1 in
    let e = there.0 in (
      λ h. absurd (true≢false (sym h)),
      λ may.
          let due = due_of_permitted world st.top e u (subst (λ (z : Option Begun). May world st.top z u) there.1 may) in
          let entry = entries (whole_part m s) (model.tree_of e.root) x.listed.0 (taken_by world st.top.scene e) u due in
          absurd (none entry.0 entry.1 entry.2),
    )

chosen_place : (world : World) (o : Option Place) (u : Place) → chosen_pick world o ≡ Ev u → o ≡ Some u
chosen_place world None u h = absurd (cc)
chosen_place world (Some v) u h = cc

first_taken : (test : Place → Bool) (us : List Place) (v : Place) → first_place test us ≡ Some v → test v ≡ true
first_taken test [] v h = absurd (cc)
first_taken test (u ∷ us) v h = step (test u) refl (first_taken test us v) h
  where
    or_else : Option Place → Place → Place
    or_else None d = d
    or_else (Some w) d = w

    step : (b : Bool) → test u ≡ b → (first_place test us ≡ Some v → test v ≡ true) → (if b then Some u else first_place test us) ≡ Some v → test v ≡ true
    step true e later g = subst (λ w. test w ≡ true) (ap (λ o. or_else o u) g) e
    step false e later g = later g

-- the canonical pick may come next
canonical_may : PermitsByDone → (world : World) (f : Local) (e : Begun) (u : Place) → canonical_pick world f (Some e) ≡ Ev u → May world f (Some e) u
canonical_may by_done world f e u is =
    let t = taken_by world f.scene e in
    (by_done world f e t (is_done e) u (λ n due. refl) (λ v. refl)).0
    (first_taken (is_permitted (model.tree_of e.root) t (is_done e)) (events t 0 (model.tree_of e.root)) u
    (chosen_place world (canonical (model.tree_of e.root) t (is_done e)) u is))

straight_done : (world : World) (m : Machine) (height : ℕ) (straight : Bool) (first at end : ℕ) (f : Scene) (e : Begun) → straight ≡ true →
    StandsDone straight world m height first at end f e None → cursor.StandsStraight world f m.image.code.now.listing.items first at end e None
straight_done world m height true first at end f e is done = done
straight_done world m height false first at end f e is done = absurd (true≢false (sym is))

pub next_may : TreesAreKept → NextIsCanonical → PermitsByDone → NextIsPermitted
next_may trees picks by_done m s next stage straight comes world meaning st stands =
    let there = stood trees world meaning m s st stands stage in
    let e = there.0 in
    let b = comes.0 in
    let x = there.2 b comes.1 in
    let takes = picks world st.top m.image.code.now.listing.items s.first s.cursor s.end e (taken_in b.taken) (Some next)
    (straight_done world m (length m.below.items) s.straight s.first s.cursor s.end st.top.scene e straight x.done) x.listed comes.2 in (
      λ h. subst (λ (z : Option Begun). May world st.top z next.1.now.place) (sym there.1) (canonical_may by_done world st.top e next.1.now.place takes.0),
      λ may. refl,
    )

-- ---- by what is done
strayed_done : (world : World) (m : Machine) (s : Stage) (b : Shown) (f : Scene) (e : Begun) →
    StandsDone false world m (length m.below.items) s.first s.cursor s.end f e None → (u : Place) → kept_of m u ≡ is_done e u
strayed_done world m s b f e done u = ap (λ o. kept_in o u) done.1 ∙ done.2 u

decided_by : PermitsPicks → PermitsByDone → (world : World) (m : Machine) (s : Stage) (b : Shown) (f : Local) (e : Begun) (u : Place) (straight : Bool) →
    StandsDone straight world m (length m.below.items) s.first s.cursor s.end f.scene e None →
    cursor.IsListed world f.scene m.image.code.now.listing.items s.first s.end e (taken_in b.taken) →
    (is_permitted (model.tree_of e.root) (taken_in b.taken) (by_way straight m s b) u ≡ true) ↔ May world f (Some e) u
decided_by picks by_done world m s b f e u true done listed =
    picks world f m.image.code.now.listing.items s.first s.cursor s.end e (taken_in b.taken) u done listed
decided_by picks by_done world m s b f e u false done listed =
    by_done world f e (taken_in b.taken) (kept_of m) u listed.1 (strayed_done world m s b f.scene e done)

pub decided : TreesAreKept → PermitsPicks → PermitsByDone → PermitsDecided
decided trees picks by_done m s u permitted stage decides world meaning st stands =
    let there = stood trees world meaning m s st stands stage in
    let e = there.0 in
    let b = decides.0 in
    let x = there.2 b decides.1 in
    let by = decided_by picks by_done world m s b st.top e u s.straight x.done x.listed in
    let is : permitted ≡ is_permitted (model.tree_of e.root) (taken_in b.taken) (by_way s.straight m s b) u =
    decides.2 x.few ∙ ap (λ t. is_permitted t (taken_in b.taken) (by_way s.straight m s b) u) (sym x.tree) in (
      λ h. subst (λ (z : Option Begun). May world st.top z u) (sym there.1) (by.0 (sym is ∙ h)),
      λ may. is ∙ by.1 (subst (λ (z : Option Begun). May world st.top z u) there.1 may),
    )

follows_way : ListsTree → NextIsCanonical → TakesByDone → (world : World) (old new : Machine) (s : Stage) (b : Shown) (f : Local) (e : Begun)
    (straight : Bool) (due : Option (Bor Due)) → StandsDone straight world old (length old.below.items) s.first s.cursor s.end f.scene e None →
    Opened world old s b f e → ByWay straight old s b new due → chosen_pick world (place_of due) ≡ canonical_pick world f (Some e)
follows_way lists next by_done world old new s b f e true None done x way =
    sym (next world f old.image.code.now.listing.items s.first s.cursor s.end e (taken_in b.taken) None done x.listed way.0).0
follows_way lists next by_done world old new s b f e true (Some due) done x way =
    sym (next world f old.image.code.now.listing.items s.first s.cursor s.end e (taken_in b.taken) (Some (way.0, due)) done x.listed way.1).0
follows_way lists next by_done world old new s b f e false due done x way =
    let t = taken_in b.taken in
    let all : events_of t (whole_part old s) ≡ events t 0 (tree_of b.root.now) =
    lists (whole_part old s) (model.tree_of e.root) x.listed.0 t ∙ ap (events t 0) x.tree in
    ap (chosen_pick world) (way.0 x.few all ∙ ap (λ z. canonical z t (kept_of old)) (sym x.tree))
    ∙ sym (by_done world f e t (kept_of old) x.listed.1 (strayed_done world old s b f.scene e done))

follows_in : TreesAreKept → ListsTree → NextIsCanonical → TakesByDone → (world : World) (meaning : Option ℕ → Meaning) (old new : Machine) (st : State)
    (stage : Option Stage) (top : Option Shown) (due : Option (Bor Due)) → Stands world meaning old st → old.top.stage ≡ stage → top_of old ≡ top →
    FollowsIn old stage top new due → chosen_pick world (place_of due) ≡ canonical_pick world st.top st.top.begun
follows_in trees lists next by_done world meaning old new st None top due stands stage is way =
    let e = none_open world (meaning old.top.function) old (length old.below.items) old.top old.top.stage st.top.scene st.top.begun
    (top_frame world meaning old st stands).begun stage in
    ap (λ o. chosen_pick world (place_of o)) way.0 ∙ sym (ap (canonical_pick world st.top) e)
follows_in trees lists next by_done world meaning old new st (Some s) None due stands stage is way = absurd way
follows_in trees lists next by_done world meaning old new st (Some s) (Some b) due stands stage is way =
    let there = stood trees world meaning old s st stands stage in
    let x = there.2 b is in
    follows_way lists next by_done world old new s b st.top there.0 s.straight due x.done x way ∙ sym (ap (canonical_pick world st.top) there.1)

pub follows : TreesAreKept → ListsTree → NextIsCanonical → TakesByDone → FollowsCanonical
follows trees lists next by_done old new due way world meaning st stands =
    follows_in trees lists next by_done world meaning old new st old.top.stage (top_of old) due stands refl refl way
