-- What `ended` gives is what c_model finds first where the run ends.
use Rattle.std.proofs.Common.{◌≡◌, ◌⊎◌, inl, inr, ⊎_elim, ℕ, zero, suc, ◌-◌, ◌<◌, Bool, true, false, not, ◌&&◌, ◌||◌, List, [], ◌∷◌, ◌++◌, length}
use Rattle.std.proofs.Common.{Option, Some, None, refl, sym, ap, ap₂, subst, ◌∙◌, true≢false, arith}
use Rattle.std.specs.Prelude.{slice_get}
use Rattle.std.proofs.lemmas.Bool.Decides.{nat_tests}
use Rattle.std.proofs.lemmas.Option.{same_Some}
use Rattle.ub_base.specs.declared.names.Event.{Event}
use Rattle.ub_base.specs.declared.names.Item.{Item}
use Rattle.ub_base.specs.declared.names.Item.TheVariants.{Born, Dies, Ending, Any as AnyItem}
use Rattle.ub_base.specs.Frames.{Row as FrameRow}
use Rattle.addr_map.specs.Conflict.{some_conflict}
use Rattle.addr_map.specs.declared.map.Row.{Row}
use Rattle.c_typed.specs.declared.class.Class.TheVariants.{Store}
use Rattle.c_typed.specs.declared.tree.Place.{Place}
use Rattle.c_typed.specs.Decide.{due_in, is_before}
use Rattle.c_typed.specs.Order.{events, has, is_body, same_place}
use Rattle.c_model.specs.Findings.{accesses, has_ending}
use Rattle.c_model.specs.FirstFinding.{are_apart, quarrels, races}
use Rattle.c_model.specs.Keys.{all_by_bytes, by_bytes}
use Rattle.c_model.specs.Moments.{Open, has_shown, items_by}
use Rattle.c_model.specs.Runs.{Entry}
use Rattle.c_model.specs.Steps.{Begun, Scene}
use Rattle.c_model.specs.World.{World}
use Rattle.c_model.proofs.Decided.{has_due}
use Rattle.c_model.proofs.Listed.{same_place_eq, same_place_itself}
use Rattle.completion_laws.proofs.Ahead.{by_test}
use Rattle.elaborate.proofs.Listed.{and_l, and_r}
use Rattle.elaborate.proofs.Ranges.{and_b, events_in, has_left, has_or, or_a, or_b, or_cases}
use Rattle.evaluation_log.specs.Clashes.{Clash, SomeClash}
use Rattle.evaluation_log.specs.declared.found.Found.{Found}
use Rattle.evaluation_log.specs.declared.sought.Sought.TheVariants.{Any, Races}
use Rattle.evaluation_search.specs.First.{IsFirstOf, sought_of}
use Rattle.finding_laws.specs.AtEnd.{with_any}
use Rattle.finding_laws.specs.FirstPairs.{IsDue, place_key, precedes}
use Rattle.finding_laws.specs.Footprints.{IsAmong as IsItemOf}
use Rattle.finding_laws.specs.Forgotten.{AllAsked, AreAsked, HasItemsBut, HasItemsOf, IsLost}
use Rattle.finding_laws.specs.LeastPairs.{HasItems}
use Rattle.finding_laws.proofs.AtEnd.{any_is_asked, any_is_had_besides, only_ends_meet, races_as_before}
use Rattle.finding_laws.proofs.Bytes.{right_of}
use Rattle.footprint.specs.Holds.{stands_for}
use Rattle.footprint.specs.Least.{IsLeast}
use Rattle.run_evaluations.specs.First.{IsConflictIn, event_in}
use Rattle.run_evaluations.specs.FirstAtEnd.{AreOfWay, IsConflictAtEnd, IsConflictBeside, done_has, has_at_end}
use Rattle.run_evaluations.specs.Scopes.{Scope}
use Rattle.run_evaluations.specs.Shows.{AreApart, AreOfTwo, IsAmong}
use Rattle.run_evaluations.specs.Told.{Evaluation, IsUnder, Opened, has as has_item}
use Rattle.telling_laws.specs.Standing.{StandsBehind, places}
use Rattle.telling_laws.proofs.Besides.{besides, has_least_besides, just, meets_besides, races_besides}
use Rattle.telling_laws.proofs.ClashLemmas.{has_least, races_by_items}
use Rattle.telling_laws.proofs.FirstTold.{told_of}
use Rattle.telling_laws.proofs.New.{key_small, neither, node_order, not_any, not_false}
use Rattle.telling_laws.proofs.OwnLemmas.{only_stores_conflict}
use Rattle.telling_laws.proofs.Splits.{append_one, last_split, places_push}
use Rattle.detector_laws.specs.Looked.{looked_at, scope_of}
use Rattle.detector_laws.specs.Records.{Records}
use Rattle.detector_laws.proofs.Asked.{by_asked}
use Rattle.detector_laws.proofs.Free.{done_as}
use Rattle.detector_laws.proofs.Recorded.{has_place}
use Rattle.ending_laws.specs.Ends.{EndIsFound, EndsIn, IsToldAtEnd, ending_at}
use Rattle.ending_laws.proofs.FirstOnes.{Describes, IsSound, IsToldOf, first_is_first}
use Rattle.ending_laws.proofs.Ways.{body_due, two_rise, way_of}

-- ---- lists
pub same_ends : (xs ys : List Place) (a b : Place) → xs ++ a ∷ [] ≡ ys ++ b ∷ [] → (xs ≡ ys) × (a ≡ b)
same_ends [] [] a b h = (refl, let z : a ≡ b = cc in z)
same_ends [] (y ∷ []) a b h = absurd (let z : [] ≡ b ∷ [] = cc in cc)
same_ends [] (y ∷ w ∷ ys) a b h = absurd (let z : [] ≡ w ∷ (ys ++ b ∷ []) = cc in cc)
same_ends (x ∷ []) [] a b h = absurd (let z : a ∷ [] ≡ [] = cc in cc)
same_ends (x ∷ w ∷ xs) [] a b h = absurd (let z : w ∷ (xs ++ a ∷ []) ≡ [] = cc in cc)
same_ends (x ∷ xs) (y ∷ ys) a b h =
    let rest : xs ++ a ∷ [] ≡ ys ++ b ∷ [] = cc in
    let head : x ≡ y = cc in
    let r = same_ends xs ys a b rest in
    (ap₂ (λ z zs. z ∷ zs) head r.0, r.1)

neither_of : (a b : Bool) → a ≡ false → b ≡ false → (a || b) ≡ false
neither_of false b h g = g
neither_of true b h g = absurd (true≢false h)

-- ---- conflicts of items
none_right : (rows : List Row) (is : List Item) → some_conflict rows is [] ≡ false
none_right rows [] = refl
none_right rows (i ∷ is) = none_right rows is

-- what ends the run is among the items
ending_among : (is : List Item) → has_ending is ≡ true → IsItemOf (all_by_bytes is) Ending
ending_among [] h = absurd (true≢false (sym h))
ending_among (Ending ∷ is) h = inl refl
ending_among (i ∷ is) h = right_of (by_bytes i) (all_by_bytes is) Ending (ending_among is h)

-- ---- what is done of a place
done_found : (es : List Evaluation) (w : Place) (j : Item) → done_has es w j ≡ true →
    (d : Evaluation) × (i : ℕ) × (slice_get es i ≡ Some d) × (d.place ≡ w) × (has_item d j ≡ true)
done_found [] w j h = absurd (true≢false (sym h))
done_found (e ∷ es) w j h =
    ⊎_elim
    (λ one. (e, zero, refl, same_place_eq e.place w (and_l (same_place e.place w) _ one), and_r (same_place e.place w) _ one))
    (λ more. let r = done_found es w j more in (r.0, suc r.1, r.2, r.3, r.4))
    (or_cases (same_place e.place w && has_item e j) (done_has es w j) h)

done_at : (es : List Evaluation) (i : ℕ) (d : Evaluation) (w : Place) (j : Item) → slice_get es i ≡ Some d → w ≡ d.place → has_item d j ≡ true →
    done_has es w j ≡ true
done_at [] i d w j h same g = absurd (cc)
done_at (e ∷ es) zero d w j h same g =
    or_a _ _ (and_b _ _
    (subst (λ z. same_place e.place z ≡ true) (sym (same ∙ ap (λ (z : Evaluation). z.place) (sym (same_Some e d h)))) (same_place_itself e.place))
    (ap (λ (z : Evaluation). has_item z j) (same_Some e d h) ∙ g))
done_at (e ∷ es) (suc i) d w j h same g = or_b (same_place e.place w && has_item e j) _ (done_at es i d w j h same g)

module _ (world : World) (trace later : List Entry) (frames : List FrameRow) (f : Scene) (e : Begun) (u : Place) (t : Opened) (last : Evaluation)
    (ends : EndsIn world trace later f e u) (r : Records world later f e (ends.passed ++ u ∷ []) (ends.passed ++ u ∷ []) t)
    (stands : StandsBehind t last) (asked : AllAsked later) where
  abbrev o : Open
  o = ending_at world later f e

  abbrev before : Open
  before = looked_at world trace f e

  abbrev it : Place → List Item
  it = items_by later later f.path f.turn

  abbrev s : Scope
  s = scope_of world f e

  abbrev passed : List Place
  passed = ends.passed

  listed : events s.taken 0 s.tree ≡ passed ++ u ∷ ends.ahead
  listed = sym ends.before.along.listed

  same_scope : t.scope ≡ s
  same_scope = λ i. record { tree = r.tree i; taken = r.taken i }

  -- ---- the last one
  split : (front : List Evaluation) × (t.done ≡ front ++ (last ∷ []))
  split = last_split t.done last stands.some stands.at

  last_is : last.place ≡ u
  last_is =
      (same_ends (places split.0) passed last.place u (sym (ap places split.1 ∙ places_push split.0 last) ∙ r.places)).1

  -- ---- items
  told_of_either : (d : Evaluation) → IsAmong t d → HasItemsOf (is_body d.place.kind) (has_item d) (it d.place)
  told_of_either d a = r.items d a (ap (λ z. has z d.place) (sym r.places) ∙ has_place t.done a.0 d a.1)

  told_items : (d : Evaluation) → IsAmong t d → HasItemsBut (has_item d) (it d.place)
  told_items d a = besides (is_body d.place.kind) (has_item d) (it d.place) (told_of_either d a)

  -- of another event than a body
  just_items : (d : Evaluation) → IsAmong t d → is_body d.place.kind ≡ false → HasItems (has_item d) (it d.place)
  just_items d a bodiless = just (is_body d.place.kind) (has_item d) (it d.place) bodiless (told_of_either d a)

  last_among : IsAmong t last
  last_among = (length t.done - 1, stands.at)

  last_items : HasItemsBut (has_item last) (it u)
  last_items = subst (λ z. HasItemsBut (has_item last) (it z)) last_is (told_items last last_among)

  last_ending : IsItemOf (all_by_bytes (it u)) Ending → has_item last Ending ≡ true
  last_ending h = ⊎_elim (λ held. held) (λ lost. absurd (let e : false ≡ true = lost.1 in cc)) (last_items.all Ending h)

  done_only : (w : Place) (j : Item) → done_has t.done w j ≡ true → IsItemOf (all_by_bytes (it w)) j
  done_only w j h =
      let d = done_found t.done w j h in
      subst (λ z. IsItemOf (all_by_bytes (it z)) j) d.3 ((told_items d.0 (d.1, d.2)).only j d.4)

  done_all : (w : Place) (j : Item) → IsItemOf (all_by_bytes (it w)) j → (done_has t.done w j ≡ true) ⊎ IsLost (done_has t.done w) j
  done_all w j h = by_test (has (places t.done) w)
      (λ g.
      let d = told_of t.done w g in
      ⊎_elim
      (λ held. inl (done_at t.done d.1 d.0 w j d.2 d.3 held))
      (λ lost. inr (lost.0, lost.1, done_at t.done d.1 d.0 w (Born lost.0) d.2 d.3 lost.2, done_at t.done d.1 d.0 w (Dies lost.0) d.2 d.3 lost.3))
      ((told_items d.0 (d.1, d.2)).all j (subst (λ z. IsItemOf (all_by_bytes (it z)) j) d.3 h)))
      (λ g. absurd (subst (λ (z : List Item). IsItemOf (all_by_bytes z) j) (ends.left w (ap (λ z. has z w) (sym r.places) ∙ g)) h))

  done_items : (w : Place) → HasItemsBut (done_has t.done w) (it w)
  done_items w = record { only = done_only w; all = done_all w }

  at_end_items : (w : Place) → HasItemsBut (has_at_end t w) (with_any (it w))
  at_end_items w = any_is_had_besides (done_has t.done w) (it w) (done_items w)

  asked_items : (w : Place) → AreAsked (it w)
  asked_items w = by_asked later later f.path f.turn w asked asked

  asked_at_end : (w : Place) → AreAsked (with_any (it w))
  asked_at_end w = any_is_asked (it w) (asked_items w)

  -- of another event than the body
  left_without : (w : Place) → same_place w u ≡ false → has passed w ≡ false → it w ≡ []
  left_without w other h =
      ends.left w (has_or passed (u ∷ []) w ∙ neither_of (has passed w) (same_place w u || false) h (neither_of (same_place w u) false other refl))

  endless_at : (w : Place) → same_place w u ≡ false → has_ending (it w) ≡ false
  endless_at w other = by_test (has passed w) (λ h. ends.endless w h) (λ h. ap has_ending (left_without w other h))

  -- ---- due events
  due_looked : (w : Place) → due_in t.scope.taken 0 t.scope.tree w ≡ true → IsDue o w
  due_looked w h =
      let d : due_in s.taken 0 s.tree w ≡ true = ap (λ (z : Scope). due_in z.taken 0 z.tree w) (sym same_scope) ∙ h in
      let g = has_due s.taken s.tree 0 w ∙ d in
      let n = (events_in s.taken s.tree 0 w g).1 in
      record { due = g; within = omega (arith, n) }

  due_told : (w : Place) → IsDue o w → due_in t.scope.taken 0 t.scope.tree w ≡ true
  due_told w d = ap (λ (z : Scope). due_in z.taken 0 z.tree w) same_scope ∙ (sym (has_due s.taken s.tree 0 w) ∙ d.due)

  due_done : (d : Evaluation) → IsAmong t d → IsDue o d.place
  due_done d a =
      let h : has (passed ++ u ∷ []) d.place ≡ true = ap (λ z. has z d.place) (sym r.places) ∙ has_place t.done a.0 d a.1 in
      let g : has (events s.taken 0 s.tree) d.place ≡ true =
      ap (λ z. has z d.place) (listed ∙ sym (append_one passed u ends.ahead)) ∙ has_left (passed ++ u ∷ []) ends.ahead d.place h in
      let n = (events_in s.taken s.tree 0 d.place g).1 in
      record { due = g; within = omega (arith, n) }

  -- ---- that stand apart
  apart_looked : (x y : Place) → AreApart t.scope x y → are_apart o x y ≡ true
  apart_looked x y a =
      not_any _ _
      (ap (λ (z : Scope). is_before z.taken 0 z.tree x y) (sym same_scope) ∙ a.before)
      (ap (λ (z : Scope). is_before z.taken 0 z.tree y x) (sym same_scope) ∙ a.behind)

  apart_told : (x y : Place) → are_apart o x y ≡ true → AreApart t.scope x y
  apart_told x y h =
      let n = neither _ _ h in
      record {
        before = ap (λ (z : Scope). is_before z.taken 0 z.tree x y) same_scope ∙ n.0;
        behind = ap (λ (z : Scope). is_before z.taken 0 z.tree y x) same_scope ∙ n.1;
      }

  node_precedes : (x y : Place) → x.node < y.node → precedes x y ≡ true
  node_precedes x y less =
      let a = key_small x.kind in
      let key : place_key x < place_key y = omega (arith, less, a) in
      grind (arith, nat_tests, key)

  -- ---- two events that race, or quarrel, by what was told of them
  race_met : (x y : Place) (g h : Item → Bool) → HasItemsBut g (it x) → HasItemsBut h (it y) → (is_body x.kind || is_body y.kind) ≡ false →
      are_apart o x y ≡ true → SomeClash Races world.rows g h → races world.rows o x y ≡ true
  race_met x y g h gx hy bodiless apart c =
      and_b _ _ (ap not bodiless) (and_b _ _ apart
      (ap₂ (λ (p q : List Item). some_conflict world.rows p q) (races_as_before (it x)) (races_as_before (it y))
      ∙ races_besides world.rows g h (it x) (it y) gx hy c))

  quarrel_met : (x y : Place) (g h : Item → Bool) → HasItemsBut g (with_any (it x)) → HasItemsBut h (with_any (it y)) → are_apart o x y ≡ true →
      SomeClash Any world.rows g h → quarrels world.rows o x y ≡ true
  quarrel_met x y g h gx hy apart c =
      and_b _ _ apart ((meets_besides world.rows g h (with_any (it x)) (with_any (it y)) gx hy (asked_at_end x) (asked_at_end y)).0 c)

  -- with `any` besides they clash all the more
  more_left : (g h : Item → Bool) → SomeClash Any world.rows g h → SomeClash Any world.rows (λ i. g i || stands_for AnyItem i) h
  more_left g h c = (c.0, c.1, (or_a (g c.0) _ c.2.0, c.2.1, c.2.2))

  more_right : (g h : Item → Bool) → SomeClash Any world.rows g h → SomeClash Any world.rows g (λ i. h i || stands_for AnyItem i)
  more_right g h c = (c.0, c.1, (c.2.0, or_a (h c.1) _ c.2.1, c.2.2))

  -- ---- a conflict that was told is one
  abbrev Conflict : Found → Type 0
  Conflict = IsConflictAtEnd frames world.rows t last

  clash_of : (b : Bool) (g h : Item → Bool) (p : Item × Item) → IsLeast frames (Clash (sought_of b) world.rows g h) (Some p) →
      SomeClash (sought_of b) world.rows g h
  clash_of b g h p l = (p.0, p.1, l.0)

  way_sound : (x : Found) → IsConflictIn frames world.rows t (AreOfWay t last) x → IsSound world.rows t o x
  way_sound x c =
      let a = c.one.place in
      let b = c.other.place in
      let apart = apart_looked a b c.apart in
      let clash = clash_of x.race (has_item c.one) (has_item c.other) x.items c.of.least in
      record {
        first = a;
        second = b;
        of = record {
          event = c.of.event;
          against = c.of.against;
          due_first = due_done c.one c.one_done;
          due_second = due_done c.other c.other_done;
          order = node_precedes a b (two_rise t.scope c.pair.0 a.node b.node c.pair.2);
        };
        raced = λ q. race_met a b (has_item c.one) (has_item c.other) (told_items c.one c.one_done) (told_items c.other c.other_done) (c.of.bodiless q) apart
            (subst (λ z. SomeClash (sought_of z) world.rows (has_item c.one) (has_item c.other)) q clash);
        quarrelled = λ q. quarrel_met a b (λ i. has_item c.one i || stands_for AnyItem i) (λ i. has_item c.other i || stands_for AnyItem i)
            (any_is_had_besides (has_item c.one) (it a) (told_items c.one c.one_done))
            (any_is_had_besides (has_item c.other) (it b) (told_items c.other c.other_done)) apart
            (more_right (λ i. has_item c.one i || stands_for AnyItem i) (has_item c.other) (more_left (has_item c.one) (has_item c.other)
            (subst (λ z. SomeClash (sought_of z) world.rows (has_item c.one) (has_item c.other)) q clash)));
      }

  last_at_end : HasItemsBut (λ i. has_item last i || stands_for AnyItem i) (with_any (it last.place))
  last_at_end = any_is_had_besides (has_item last) (it last.place) (told_items last last_among)

  beside_sound : (x : Found) → IsConflictBeside frames world.rows t last x → IsSound world.rows t o x
  beside_sound x c = by_order (less_or (c.other.node) last.place.node c.elsewhere)
    where
      less_or : (a b : ℕ) → (a ≡ b → ⊥) → (a < b) ⊎ (b < a)
      less_or a b ne = grind (arith, ne)

      no_race : x.race ≡ false → x.race ≡ true → (b : Bool) → b ≡ true
      no_race h g b = absurd (true≢false (sym g ∙ h))

      by_order : (c.other.node < last.place.node) ⊎ (last.place.node < c.other.node) → IsSound world.rows t o x
      by_order (inl less) =
          let d = c.before less in
          record {
            first = c.other;
            second = last.place;
            of = record {
              event = d.event;
              against = d.against;
              due_first = due_looked c.other c.due;
              due_second = due_done last last_among;
              order = node_precedes c.other last.place less;
            };
            raced = λ q. no_race d.dependent q _;
            quarrelled = λ q. quarrel_met c.other last.place (has_at_end t c.other) (λ i. has_item last i || stands_for AnyItem i)
                (at_end_items c.other) last_at_end (apart_looked c.other last.place c.apart)
                (more_right (has_at_end t c.other) (has_item last) (x.items.0, x.items.1, d.least.0));
          }
      by_order (inr less) =
          let d = c.behind less in
          record {
            first = last.place;
            second = c.other;
            of = record {
              event = d.event;
              against = d.against;
              due_first = due_done last last_among;
              due_second = due_looked c.other c.due;
              order = node_precedes last.place c.other less;
            };
            raced = λ q. no_race d.dependent q _;
            quarrelled = λ q. quarrel_met last.place c.other (λ i. has_item last i || stands_for AnyItem i) (has_at_end t c.other)
                last_at_end (at_end_items c.other)
                (apart_looked last.place c.other (record { before = c.apart.behind; behind = c.apart.before }))
                (more_left (has_item last) (has_at_end t c.other) (x.items.0, x.items.1, d.least.0));
          }

  pub sound : (x : Found) → Conflict x → IsSound world.rows t o x
  sound x (inl c) = beside_sound x c
  sound x (inr c) = way_sound x c

  -- ---- two events that are done before the body, and conflict, haven't shown
  before_due : (w : Place) → IsDue o w → IsDue before w
  before_due w d = record { due = d.due; within = d.within }

  unshown : (x y : Place) → (before.shows x y ≡ true → ⊥) → has_shown s.tree s.taken (has passed) x y ≡ false
  unshown x y h =
      not_false (has_shown s.tree s.taken (has passed) x y)
      (λ g. h (ap (λ d. has_shown s.tree s.taken d x y) (done_as world f e passed (u ∷ ends.ahead) ends.before.along) ∙ g))

  -- so they are of the way
  pub record OfWay (x y : Place) : Type 0 where
    pub one : Evaluation
    pub other : Evaluation
    pub one_done : IsAmong t one
    pub other_done : IsAmong t other
    pub one_is : x ≡ one.place
    pub other_is : y ≡ other.place
    pub pair : AreOfWay t last one other

  told_at : (w : Place) → has passed w ≡ true → (d : Evaluation) × (i : ℕ) × (slice_get t.done i ≡ Some d) × (w ≡ d.place)
  told_at w h = told_of t.done w (ap (λ z. has z w) r.places ∙ has_left passed (u ∷ []) w h)

  of_way : (x y : Place) → has passed x ≡ true → has passed y ≡ true → precedes x y ≡ true → (before.shows x y ≡ true → ⊥) → OfWay x y
  of_way x y dx dy order h =
      let w = way_of s passed ends.ahead u listed ends.body ends.before.formed x y dx dy (node_order x y order) (unshown x y h) in
      let a = told_at x dx in
      let b = told_at y dy in
      record {
        one = a.0;
        other = b.0;
        one_done = (a.1, a.2);
        other_done = (b.1, b.2);
        one_is = a.3;
        other_is = b.3;
        pair = (
          w.0,
          subst (λ (z : Scope). IsUnder z w.0 last.place.node) (sym same_scope)
              (subst (λ (z : Place). IsUnder s w.0 z.node) (sym last_is) w.1),
          subst (λ (z : Scope). AreOfTwo z w.0 a.0.place.node b.0.place.node) (sym same_scope)
              (subst (λ (z : Place). AreOfTwo s w.0 a.0.place.node z.node) b.3 (subst (λ (z : Place). AreOfTwo s w.0 z.node y.node) a.3 w.2)),
        );
      }

  not_body : (x : Place) → is_body x.kind ≡ false → same_place x u ≡ false
  not_body x h = not_false (same_place x u) (λ g.
      let q = ap (λ (z : Place). is_body z.kind) (same_place_eq x u g) ∙ ap is_body ends.body in true≢false (sym q ∙ h))

  either_false : (a b : Bool) → not (a || b) ≡ true → (a ≡ false) × (b ≡ false)
  either_false a b h = neither a b h

  -- items that conflict are of what was done
  meet_first : (x y : Place) (pick : List Item → List Item) → pick [] ≡ [] → same_place x u ≡ false →
      some_conflict world.rows (pick (it x)) (pick (it y)) ≡ true → has passed x ≡ true
  meet_first x y pick none other h = by_test (has passed x) (λ g. g) (λ g.
      absurd (true≢false (sym h ∙ ap (λ (z : List Item). some_conflict world.rows z (pick (it y))) (ap pick (left_without x other g) ∙ none))))

  meet_second : (x y : Place) (pick : List Item → List Item) → pick [] ≡ [] → same_place y u ≡ false →
      some_conflict world.rows (pick (it x)) (pick (it y)) ≡ true → has passed y ≡ true
  meet_second x y pick none other h = by_test (has passed y) (λ g. g) (λ g.
      absurd (true≢false (sym h ∙ (ap (λ (z : List Item). some_conflict world.rows (pick (it x)) z) (ap pick (left_without y other g) ∙ none)
      ∙ none_right world.rows (pick (it x))))))

  -- ---- races
  pub races_told : (x y : Place) → IsDue o x → IsDue o y → precedes x y ≡ true → races world.rows o x y ≡ true → IsToldOf t Conflict true x y
  races_told x y dx dy order h =
      let bodies = and_l (not (is_body x.kind || is_body y.kind)) _ h in
      let rest = and_r (not (is_body x.kind || is_body y.kind)) _ h in
      let apart = and_l (are_apart o x y) _ rest in
      let met = and_r (are_apart o x y) _ rest in
      let kinds = either_false (is_body x.kind) (is_body y.kind) bodies in
      let meet : some_conflict world.rows (accesses (it x)) (accesses (it y)) ≡ true =
      sym (ap₂ (λ (p q : List Item). some_conflict world.rows p q) (races_as_before (it x)) (races_as_before (it y))) ∙ met in
      let px = meet_first x y accesses refl (not_body x kinds.0) meet in
      let py = meet_second x y accesses refl (not_body y kinds.1) meet in
      let w = of_way x y px py order (λ shown. true≢false (sym (and_b _ _ bodies (and_b _ _ apart (and_b _ _ shown
      (ap₂ (λ (p q : List Item). some_conflict world.rows (accesses p) (accesses q)) (sym (ends.stay x px)) (sym (ends.stay y py)) ∙ meet))))
      ∙ ends.before.free.raceless x y (before_due x dx) (before_due y dy) order)) in
      let mx = subst (λ z. HasItems (has_item w.one) (it z)) (sym w.one_is)
      (just_items w.one w.one_done (ap (λ (z : Place). is_body z.kind) (sym w.one_is) ∙ kinds.0)) in
      let my = subst (λ z. HasItems (has_item w.other) (it z)) (sym w.other_is)
      (just_items w.other w.other_done (ap (λ (z : Place). is_body z.kind) (sym w.other_is) ∙ kinds.1)) in
      let least = has_least world.rows frames Races (has_item w.one) (has_item w.other) (it x) (it y) mx my
      ((races_by_items world.rows (has_item w.one) (has_item w.other) (it x) (it y) mx my).1 meet) in (
        record { race = true; event = event_in t w.one.place; against = event_in t w.other.place; items = least.0 },
        inr (record {
          one = w.one;
          other = w.other;
          one_done = w.one_done;
          other_done = w.other_done;
          pair = w.pair;
          apart = subst (λ z. AreApart t.scope w.one.place z) w.other_is (subst (λ z. AreApart t.scope z y) w.one_is (apart_told x y apart));
          of = record {
            event = refl;
            against = refl;
            bodiless = λ q. ap₂ (λ (p q : Place). is_body p.kind || is_body q.kind) (sym w.one_is) (sym w.other_is)
                ∙ neither_of (is_body x.kind) (is_body y.kind) kinds.0 kinds.1;
            least = least.1;
          };
        }),
        refl,
        ap (event_in t) (sym w.one_is),
        ap (event_in t) (sym w.other_is),
      )

  -- ---- quarrels of two others than the body
  others_told : (x y : Place) → IsDue o x → IsDue o y → precedes x y ≡ true → same_place x u ≡ false → same_place y u ≡ false → are_apart o x y ≡ true →
      some_conflict world.rows (it x) (it y) ≡ true → IsToldOf t Conflict false x y
  others_told x y dx dy order ox oy apart meet =
      let px = meet_first x y (λ z. z) refl ox meet in
      let py = meet_second x y (λ z. z) refl oy meet in
      let w = of_way x y px py order (λ shown. true≢false (sym (and_b _ _ apart (and_b _ _ shown
      (ap₂ (λ (p q : List Item). some_conflict world.rows p q) (sym (ends.stay x px)) (sym (ends.stay y py)) ∙ meet)))
      ∙ ends.before.free.quarrelless x y (before_due x dx) (before_due y dy) order)) in
      let mx = subst (λ z. HasItemsBut (has_item w.one) (it z)) (sym w.one_is) (told_items w.one w.one_done) in
      let my = subst (λ z. HasItemsBut (has_item w.other) (it z)) (sym w.other_is) (told_items w.other w.other_done) in
      let least = has_least_besides world.rows frames Any (has_item w.one) (has_item w.other) (it x) (it y) mx my
      ((meets_besides world.rows (has_item w.one) (has_item w.other) (it x) (it y) mx my (asked_items x) (asked_items y)).1 meet) in (
        record { race = false; event = event_in t w.one.place; against = event_in t w.other.place; items = least.0 },
        inr (record {
          one = w.one;
          other = w.other;
          one_done = w.one_done;
          other_done = w.other_done;
          pair = w.pair;
          apart = subst (λ z. AreApart t.scope w.one.place z) w.other_is (subst (λ z. AreApart t.scope z y) w.one_is (apart_told x y apart));
          of = record { event = refl; against = refl; bodiless = λ q. absurd (true≢false (sym q)); least = least.1 };
        }),
        refl,
        ap (event_in t) (sym w.one_is),
        ap (event_in t) (sym w.other_is),
      )

  -- ---- quarrels of the body
  -- it and another event of its node stand in an order
  own_free : (x y : Place) → IsDue o x → IsDue o y → precedes x y ≡ true → x.node ≡ u.node → y.node ≡ u.node → quarrels world.rows o x y ≡ false
  own_free x y dx dy order a b =
      (only_stores_conflict world.rows s o u.node refl refl
      (λ ts there. absurd (true≢false (sym (body_due s passed ends.ahead u listed ends.body Store ts there)))) x y dx dy order a b).1

  -- where another event clashes with it by what is told
  with_last : (w : Place) → has_ending (it w) ≡ false →
      (some_conflict world.rows (it w) (it u) || (has_ending (it w) || has_ending (it u))) ≡ true →
      SomeClash Any world.rows (has_at_end t w) (has_item last)
  with_last w endless h = ⊎_elim
      (λ meet. more_left (done_has t.done w) (has_item last)
      ((meets_besides world.rows (done_has t.done w) (has_item last) (it w) (it u) (done_items w) last_items (asked_items w) (asked_items u)).1 meet))
      (λ some. ⊎_elim
      (λ own. absurd (true≢false (sym own ∙ endless)))
      (λ ending. (AnyItem, Ending, (or_b (done_has t.done w AnyItem) _ refl, last_ending (ending_among (it u) ending), refl)))
      (or_cases (has_ending (it w)) (has_ending (it u)) some))
      (or_cases (some_conflict world.rows (it w) (it u)) (has_ending (it w) || has_ending (it u)) h)

  last_with : (w : Place) → has_ending (it w) ≡ false →
      (some_conflict world.rows (it u) (it w) || (has_ending (it u) || has_ending (it w))) ≡ true →
      SomeClash Any world.rows (has_item last) (has_at_end t w)
  last_with w endless h = ⊎_elim
      (λ meet. more_right (has_item last) (done_has t.done w)
      ((meets_besides world.rows (has_item last) (done_has t.done w) (it u) (it w) last_items (done_items w) (asked_items u) (asked_items w)).1 meet))
      (λ some. ⊎_elim
      (λ ending. (Ending, AnyItem, (last_ending (ending_among (it u) ending), or_b (done_has t.done w AnyItem) _ refl, refl)))
      (λ own. absurd (true≢false (sym own ∙ endless)))
      (or_cases (has_ending (it u)) (has_ending (it w)) some))
      (or_cases (some_conflict world.rows (it u) (it w)) (has_ending (it u) || has_ending (it w)) h)

  beside_told : (x y : Place) → IsDue o x → IsDue o y → precedes x y ≡ true → y ≡ u → same_place x u ≡ false → are_apart o x y ≡ true →
      quarrels world.rows o x y ≡ true → IsToldOf t Conflict false x y
  beside_told x y dx dy order is other apart h =
      let elsewhere : x.node ≡ u.node → ⊥ = (λ q. true≢false (sym h ∙ own_free x y dx dy order q (ap (λ (z : Place). z.node) is))) in
      let met = and_r (are_apart o x y) _ h in
      let clash = with_last x (endless_at x other)
      (sym (only_ends_meet world.rows (it x) (it u)) ∙ (ap (λ z. some_conflict world.rows (with_any (it x)) (with_any (it z))) (sym is) ∙ met)) in
      let least = has_least_besides world.rows frames Any (has_at_end t x) (has_item last) (with_any (it x)) (it u) (at_end_items x) last_items clash in
      let low = node_order x y order in
      let n = ap (λ (z : Place). z.node) is in
      let m = ap (λ (z : Place). z.node) last_is in (
        record { race = false; event = event_in t x; against = event_in t last.place; items = least.0 },
        inl (record {
          other = x;
          due = due_told x dx;
          elsewhere = λ q. elsewhere (q ∙ m);
          apart = subst (λ z. AreApart t.scope x z) (is ∙ sym last_is) (apart_told x y apart);
          before = λ less. record { dependent = refl; event = refl; against = refl; least = least.1 };
          behind = λ less. absurd (omega (arith, less, low, n, m));
        }),
        refl,
        refl,
        ap (event_in t) (last_is ∙ sym is),
      )

  behind_told : (x y : Place) → IsDue o x → IsDue o y → precedes x y ≡ true → x ≡ u → same_place y u ≡ false → are_apart o x y ≡ true →
      quarrels world.rows o x y ≡ true → IsToldOf t Conflict false x y
  behind_told x y dx dy order is other apart h =
      let elsewhere : y.node ≡ u.node → ⊥ = (λ q. true≢false (sym h ∙ own_free x y dx dy order (ap (λ (z : Place). z.node) is) q)) in
      let met = and_r (are_apart o x y) _ h in
      let clash = last_with y (endless_at y other)
      (sym (only_ends_meet world.rows (it u) (it y)) ∙ (ap (λ z. some_conflict world.rows (with_any (it z)) (with_any (it y))) (sym is) ∙ met)) in
      let least = has_least_besides world.rows frames Any (has_item last) (has_at_end t y) (it u) (with_any (it y)) last_items (at_end_items y) clash in
      let told = apart_told x y apart in
      let low = node_order x y order in
      let n = ap (λ (z : Place). z.node) is in
      let m = ap (λ (z : Place). z.node) last_is in (
        record { race = false; event = event_in t last.place; against = event_in t y; items = least.0 },
        inl (record {
          other = y;
          due = due_told y dy;
          elsewhere = λ q. elsewhere (q ∙ m);
          apart = subst (λ z. AreApart t.scope y z) (is ∙ sym last_is) (record { before = told.behind; behind = told.before });
          before = λ less. absurd (omega (arith, less, low, n, m));
          behind = λ less. record { dependent = refl; event = refl; against = refl; least = least.1 };
        }),
        refl,
        ap (event_in t) (last_is ∙ sym is),
        refl,
      )

  -- ---- all quarrels
  pub quarrels_told : (x y : Place) → IsDue o x → IsDue o y → precedes x y ≡ true → quarrels world.rows o x y ≡ true → IsToldOf t Conflict false x y
  quarrels_told x y dx dy order h =
      let apart = and_l (are_apart o x y) _ h in
      let met : some_conflict world.rows (with_any (it x)) (with_any (it y)) ≡ true = and_r (are_apart o x y) _ h in
      by_test (same_place x u)
      (λ ux. by_test (same_place y u)
      (λ uy. let same = same_place_eq x u ux ∙ sym (same_place_eq y u uy) in
      absurd (true≢false (sym order ∙ ap (λ z. precedes z y) same ∙ not_itself y)))
      (λ oy. behind_told x y dx dy order (same_place_eq x u ux) oy apart h))
      (λ ox. by_test (same_place y u)
      (λ uy. beside_told x y dx dy order (same_place_eq y u uy) ox apart h)
      (λ oy. others_told x y dx dy order ox oy apart (only_items x y ox oy (sym (only_ends_meet world.rows (it x) (it y)) ∙ met))))
    where
      not_itself : (w : Place) → precedes w w ≡ false
      not_itself w = grind (arith, nat_tests)

      only_items : (v w : Place) → same_place v u ≡ false → same_place w u ≡ false →
          (some_conflict world.rows (it v) (it w) || (has_ending (it v) || has_ending (it w))) ≡ true → some_conflict world.rows (it v) (it w) ≡ true
      only_items v w ov ow g = ⊎_elim
          (λ meet. meet)
          (λ some. absurd (true≢false (sym some ∙ neither_of (has_ending (it v)) (has_ending (it w)) (endless_at v ov) (endless_at w ow))))
          (or_cases (some_conflict world.rows (it v) (it w)) (has_ending (it v) || has_ending (it w)) g)

  -- ---- each is of this frame
  pub of_frame : (x : Found) → Conflict x → x.event.frame.0 ≡ world.number f.path
  of_frame x c = let z = sound x c in ap (λ (v : Event). v.frame.0) z.of.event ∙ r.frame

-- its conflicts are those of just the pairs that race or quarrel
pub describes : (world : World) (trace later : List Entry) (frames : List FrameRow) (f : Scene) (e : Begun) (t : Opened)
    (told : IsToldAtEnd world trace later f e t) →
    Describes world.rows t (ending_at world later f e) (IsConflictAtEnd frames world.rows t told.last)
describes world trace later frames f e t a = record {
  sound = sound world trace later frames f e a.body t a.last a.ends a.records a.stands a.asked;
  raced = races_told world trace later frames f e a.body t a.last a.ends a.records a.stands a.asked;
  quarrelled = quarrels_told world trace later frames f e a.body t a.last a.ends a.records a.stands a.asked;
}

pub end_is_found : EndIsFound
end_is_found world trace later frames f e t r a first = (
  first_is_first frames world.rows t (ending_at world later f e) (IsConflictAtEnd frames world.rows t a.last) (describes world trace later frames f e t a) r
      first,
  λ y is. of_frame world trace later frames f e a.body t a.last a.ends a.records a.stands a.asked y (held r y is first),
)
  where
    held : (z : Option Found) (y : Found) → z ≡ Some y → IsFirstOf frames (IsConflictAtEnd frames world.rows t a.last) z →
        IsConflictAtEnd frames world.rows t a.last y
    held None y is q = absurd (cc)
    held (Some w) y is q = subst (IsConflictAtEnd frames world.rows t a.last) (same_Some w y is) q.0
