-- Where nothing was found, nothing is found while the items of what is done stay.
use Rattle.std.proofs.Common.{◌≡◌, Bool, true, false, not, ◌||◌, List, [], ◌∷◌, None, is_some, refl, sym, ap, ap₂, ◌∙◌, true≢false}
use Rattle.ub_base.specs.declared.names.Item.{Item}
use Rattle.addr_map.specs.Conflict.{some_conflict}
use Rattle.addr_map.specs.declared.map.Row.{Row}
use Rattle.c_typed.specs.declared.tree.Place.{Place}
use Rattle.c_typed.specs.Order.{has, is_body}
use Rattle.c_model.specs.Findings.{accesses}
use Rattle.c_model.specs.FirstFinding.{are_apart, quarrels, races}
use Rattle.c_model.specs.Moments.{Open, has_shown, items_by}
use Rattle.c_model.specs.Program.{tree_of}
use Rattle.c_model.specs.Runs.{Entry}
use Rattle.c_model.specs.Steps.{Begun, Scene, is_done, taken_by}
use Rattle.c_model.specs.World.{World}
use Rattle.c_model.proofs.Listed.{listed_once}
use Rattle.elaborate.specs.Formed.{is_formed}
use Rattle.finding_laws.specs.FirstPairs.{IsDue, precedes}
use Rattle.listing_laws.specs.Along.{StandsAlong}
use Rattle.telling_laws.proofs.New.{nothing_at_first, pair_of}
use Rattle.telling_laws.proofs.Shown.{shown_are_done}
use Rattle.detector_laws.specs.Looked.{IsFree, looked_at, scope_of}
use Rattle.detector_laws.specs.Frames.{BeginsFree}
use Rattle.detector_laws.proofs.Paths.{and_b, and_l, and_r, not_true}

pub or_false : (b : Bool) → (b || false) ≡ b
or_false true = refl
or_false false = refl

-- what is done is what was passed
pub done_as : (world : World) (f : Scene) (e : Begun) (passed ahead : List Place) → StandsAlong world f e None passed ahead → is_done e ≡ has passed
done_as world f e passed ahead s = λ i u. (sym (s.done u ∙ or_false (is_done e u))) i

-- and the next event isn't
pub not_passed : (world : World) (f : Scene) (e : Begun) (passed ahead : List Place) (u : Place) → StandsAlong world f e None passed (u ∷ ahead) →
    has passed u ≡ false
not_passed world f e passed ahead u s = listed_once (tree_of e.root) (taken_by world f e) passed ahead u (sym s.listed)

-- ---- what shows, where a pair races or quarrels
pub shown_of_race : (rows : List Row) (o : Open) (x y : Place) → races rows o x y ≡ true → o.shows x y ≡ true
shown_of_race rows o x y h = and_l (o.shows x y) _ (and_r (are_apart o x y) _ (and_r (not (is_body x.kind || is_body y.kind)) _ h))

pub shown_of_quarrel : (rows : List Row) (o : Open) (x y : Place) → quarrels rows o x y ≡ true → o.shows x y ≡ true
shown_of_quarrel rows o x y h = and_l (o.shows x y) _ (and_r (are_apart o x y) _ h)

-- events of a pair that shows are done
pub done_if_shown : (world : World) (trace : List Entry) (f : Scene) (e : Begun) (passed ahead : List Place) → is_formed (tree_of e.root) ≡ true →
    StandsAlong world f e None passed ahead → (x y : Place) → IsDue (looked_at world trace f e) x → IsDue (looked_at world trace f e) y →
    precedes x y ≡ true → (looked_at world trace f e).shows x y ≡ true → (has passed x ≡ true) × (has passed y ≡ true)
done_if_shown world trace f e passed ahead formed along x y dx dy order shown =
    shown_are_done (scope_of world f e) passed ahead x y formed (sym along.listed)
    (pair_of (scope_of world f e) (looked_at world trace f e) x y refl refl dx dy order)
    (ap (λ d. has_shown (tree_of e.root) (taken_by world f e) d x y) (sym (done_as world f e passed ahead along)) ∙ shown)

module _ (world : World) (trace later : List Entry) (f : Scene) (e : Begun) (passed ahead : List Place) (formed : is_formed (tree_of e.root) ≡ true)
    (along : StandsAlong world f e None passed ahead)
    (stay : (w : Place) → has passed w ≡ true → items_by later later f.path f.turn w ≡ items_by trace trace f.path f.turn w) where
  abbrev before : Open
  before = looked_at world trace f e

  abbrev behind : Open
  behind = looked_at world later f e

  due_before : (w : Place) → IsDue behind w → IsDue before w
  due_before w d = record { due = d.due; within = d.within }

  both_done : (x y : Place) → IsDue behind x → IsDue behind y → precedes x y ≡ true → behind.shows x y ≡ true →
      (has passed x ≡ true) × (has passed y ≡ true)
  both_done x y dx dy order shown = done_if_shown world later f e passed ahead formed along x y dx dy order shown

  raced : (x y : Place) → has passed x ≡ true → has passed y ≡ true → races world.rows behind x y ≡ true → races world.rows before x y ≡ true
  raced x y dx dy h =
      let a = and_l (not (is_body x.kind || is_body y.kind)) _ h in
      let b = and_r (not (is_body x.kind || is_body y.kind)) _ h in
      let c = and_l (are_apart behind x y) _ b in
      let d = and_r (are_apart behind x y) _ b in
      let s = and_l (behind.shows x y) _ d in
      let m = and_r (behind.shows x y) _ d in
      and_b _ _ a (and_b _ _ c (and_b _ _ s
      (ap₂ (λ (p q : List Item). some_conflict world.rows (accesses p) (accesses q)) (sym (stay x dx)) (sym (stay y dy)) ∙ m)))

  quarrelled : (x y : Place) → has passed x ≡ true → has passed y ≡ true → quarrels world.rows behind x y ≡ true → quarrels world.rows before x y ≡ true
  quarrelled x y dx dy h =
      let c = and_l (are_apart behind x y) _ h in
      let d = and_r (are_apart behind x y) _ h in
      let s = and_l (behind.shows x y) _ d in
      let m = and_r (behind.shows x y) _ d in
      and_b _ _ c (and_b _ _ s (ap₂ (λ (p q : List Item). some_conflict world.rows p q) (sym (stay x dx)) (sym (stay y dy)) ∙ m))

  pub free_stays : IsFree world.rows before → IsFree world.rows behind
  free_stays g = record {
    raceless = λ x y dx dy order. not_true (races world.rows behind x y)
        (λ h. let d = both_done x y dx dy order (shown_of_race world.rows behind x y h) in
        true≢false (sym (raced x y d.0 d.1 h) ∙ g.raceless x y (due_before x dx) (due_before y dy) order));
    quarrelless = λ x y dx dy order. not_true (quarrels world.rows behind x y)
        (λ h. let d = both_done x y dx dy order (shown_of_quarrel world.rows behind x y h) in
        true≢false (sym (quarrelled x y d.0 d.1 h) ∙ g.quarrelless x y (due_before x dx) (due_before y dy) order));
  }

-- ---- as a full expression begins
pub begins_free : BeginsFree
begins_free world trace f e formed none =
    let o = looked_at world trace f e in
    let empty : is_done e ≡ has [] = (λ i u. ap is_some (none u) i) in
    let shows : o.shows ≡ has_shown (tree_of e.root) (taken_by world f e) (has []) = ap (has_shown (tree_of e.root) (taken_by world f e)) empty in
    let n = nothing_at_first world.rows in
    record {
      raceless = n.0 (scope_of world f e) o formed refl refl shows;
      quarrelless = n.1 (scope_of world f e) o formed refl refl shows;
    }
