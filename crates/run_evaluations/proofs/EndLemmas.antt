-- An end of the run beside the value of a node.
use Rattle.std.proofs.Common.{◌≡◌, ⊎_elim, ℕ, ◌≤◌, ◌<◌, ◌-◌, Bool, true, false, List, length, refl, sym, ap, ◌∙◌, arith, Option, Some, None, subst}
use Rattle.std.specs.Prelude.{slice_get, IfSome}
use Rattle.std.proofs.lemmas.Option.{slice_get_past}
use Rattle.ub_base.specs.declared.names.Event.{Event}
use Rattle.ub_base.specs.declared.names.Item.{Item}
use Rattle.ub_base.specs.Frames.{Row as FrameRow}
use Rattle.addr_map.specs.declared.map.Row.{Row}
use Rattle.footprint.specs.declared.foot.Foot.{Foot}
use Rattle.footprint.specs.Holds.{holds}
use Rattle.footprint.specs.Least.{IsLeast}
use Rattle.run_evaluations.specs.declared.open.Evaluations.{Evaluations}
use Rattle.evaluation_log.specs.declared.found.Found.{Found}
use Rattle.evaluation_log.specs.declared.log.Logged.{Logged}
use Rattle.evaluation_log.specs.declared.sought.Sought.TheVariants.{Any}
use Rattle.evaluation_log.specs.Clashes.{Clash, NoClash}
use Rattle.evaluation_log.specs.Touched.{event_has}
use Rattle.run_evaluations.specs.Scopes.{place_of}
use Rattle.run_evaluations.specs.Ends.{is_value, events_from, IsDone, HasValue, IsDependenceIf, last_has, NoneBeside}
use Rattle.evaluation_search.proofs.BetweenFirst.{least_like}
use Rattle.evaluation_log.proofs.BetweenLemmas.{none_turned}
use Rattle.evaluation_log.proofs.KeptLemmas.{before_or_past}

-- none of the events so far is the value
abbrev pub NoValue : Evaluations → (node n : ℕ) → Type 0
NoValue o node n = (i : ℕ) → i < n → events_from o ≤ i → is_value node (slice_get o.events.items i) ≡ false

pub value_here : (o : Evaluations) (node at k : ℕ) → NoValue o node at → events_from o ≤ at → is_value node (slice_get o.events.items at) ≡ true →
    IsDone o node k → Some at ≡ Some k
value_here o node at k none low is done =
    ⊎_elim
    (λ less. absurd (let n : false ≡ true = sym (none k less done.low) ∙ done.value in cc))
    (λ le. ⊎_elim
    (λ more. absurd (let n : false ≡ true = sym (done.first at low more) ∙ is in cc))
    (λ same. let e : at ≡ k = omega (arith, le, same) in ap Some e)
    (before_or_past at k))
    (before_or_past k at)

pub value_nowhere : (o : Evaluations) (node n k : ℕ) (r : Option ℕ) → NoValue o node n → length o.events.items ≤ n → IsDone o node k → r ≡ Some k
value_nowhere o node n k r none past done =
    ⊎_elim
    (λ less. absurd (let e : false ≡ true = sym (none k less done.low) ∙ done.value in cc))
    (λ le. absurd (
    let e : false ≡ true = sym (ap (is_value node) (slice_get_past o.events.items k (omega (arith, past, le)))) ∙ done.value in cc))
    (before_or_past k n)

-- ---- between the value and the last event
no_least : (frames : List FrameRow) (Q : Item → Item → Type 0) (p : Option (Item × Item)) → p ≡ None → IsLeast frames Q p → (i j : Item) → Q i j → ⊥
no_least frames Q p e h = subst (λ (x : Option (Item × Item)). IsLeast frames Q x) e h

beside_by : (rows : List Row) (o : Evaluations) (node : ℕ) (foot ending : Foot) → HasValue o node foot → ((i : Item) → holds ending i ≡ last_has o i) →
    NoClash Any rows (holds foot) (holds ending) → NoneBeside rows o node
beside_by rows o node foot ending has last none = record {
  any = λ i j c. none i j (has.any i c.0, last j ∙ c.1, c.2);
  done = λ k d i j c. none i j (has.done k d i c.0, last j ∙ c.1, c.2);
}

pub none_first : (frames : List FrameRow) (rows : List Row) (o : Evaluations) (node : ℕ) (foot ending : Foot) (p : Option (Item × Item)) →
    HasValue o node foot → ((i : Item) → holds ending i ≡ last_has o i) → IsLeast frames (Clash Any rows (holds foot) (holds ending)) p → p ≡ None →
    NoneBeside rows o node
none_first frames rows o node foot ending p has last least e =
    beside_by rows o node foot ending has last (no_least frames (Clash Any rows (holds foot) (holds ending)) p e least)

pub none_second : (frames : List FrameRow) (rows : List Row) (o : Evaluations) (node : ℕ) (foot ending : Foot) (p : Option (Item × Item)) →
    HasValue o node foot → ((i : Item) → holds ending i ≡ last_has o i) → IsLeast frames (Clash Any rows (holds ending) (holds foot)) p → p ≡ None →
    NoneBeside rows o node
none_second frames rows o node foot ending p has last least e =
    beside_by rows o node foot ending has last
    (none_turned rows Any (holds ending) (holds foot) (no_least frames (Clash Any rows (holds ending) (holds foot)) p e least))

-- what is given of two events by the least of their items that conflict
pub depends_by : (frames : List FrameRow) (rows : List Row) (d v e u : Event) (f h g k : Item → Bool) (p : Option (Item × Item)) (r : Option Found) → d ≡ v →
    e ≡ u → ((j : Item) → f j ≡ h j) → ((j : Item) → g j ≡ k j) → IsLeast frames (Clash Any rows f g) p → (r ≡ None → p ≡ None) →
    IfSome r (λ x. (x.race ≡ false) × (x.event ≡ d) × (x.against ≡ e) × (p ≡ Some x.items)) → IsDependenceIf frames rows v h u k r
depends_by frames rows d v e u f h g k p None dv eu fh gk least none some = λ i j c.
    no_least frames (Clash Any rows f g) p (none refl) least i j (fh i ∙ c.0, gk j ∙ c.1, c.2)
depends_by frames rows d v e u f h g k p (Some x) dv eu fh gk least none some = record {
  dependent = some.0;
  event = some.1 ∙ dv;
  against = some.2 ∙ eu;
  least = least_like frames rows Any f h g k (Some x.items) fh gk
      (subst (λ (o : Option (Item × Item)). IsLeast frames (Clash Any rows f g) o) some.3 least);
}

-- where nothing is logged
pub none_there : (rows : List Row) (o : Evaluations) (node : ℕ) → None ≡ place_of (slice_get o.events.items (length o.events.items - 1)) →
    NoneBeside rows o node
none_there rows o node h = record {
  any = λ i j c. no_event j c.1;
  done = λ k d i j c. no_event j c.1;
}
  where
    by_place : (p : Option Logged) (j : Item) → None ≡ place_of p → event_has o.items.items p j ≡ true → ⊥
    by_place None j e h = absurd (cc)
    by_place (Some x) j e h = absurd (cc)

    no_event : (j : Item) → last_has o j ≡ true → ⊥
    no_event j has = by_place (slice_get o.events.items (length o.events.items - 1)) j h has
