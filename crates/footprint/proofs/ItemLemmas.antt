-- The items of a footprint after a change of its parts.
use Rattle.std.proofs.Common.{◌≡◌, ℕ, Bool, true, false, cond, ◌&&◌, ◌||◌, refl, ap, ◌∙◌}
use Rattle.std.specs.Prelude.{◌==◌}
use Rattle.std.specs.declared.cmp.Ordering.{Ordering}
use Rattle.std.specs.declared.cmp.Ordering.TheVariants.{Less, Equal, Greater}
use Rattle.std.specs.Ordering.{nat_cmp, is_eq, ordering_then}
use Rattle.ub_base.specs.NameOrders.{event_cmp, object_cmp}
use Rattle.std.specs.BTreeMap.{BTreeMap}
use Rattle.std.specs.BTreeSet.{BTreeSet, contains}
use Rattle.ub_base.specs.declared.names.Event.{Event}
use Rattle.ub_base.specs.declared.names.ObjName.{ObjName}
use Rattle.ub_base.specs.declared.names.Item.{Item}
use Rattle.ub_base.specs.declared.names.Item.TheVariants.{Read, Write, Born, Dies, Alive, Expose, Lookup, Narrow, Input, Output, Ending, Any}
use Rattle.ub_base.specs.Names.{same_object, same_event}
use Rattle.ub_base.proofs.NameLemmas.{tie_object, tie_event}
use Rattle.footprint.specs.declared.foot.Foot.{Foot}
use Rattle.footprint.specs.declared.spans.Spans.{Spans}
use Rattle.footprint.specs.declared.state.State.{State}
use Rattle.footprint.specs.Ranges.{has_byte}
use Rattle.footprint.specs.States.{state_in, either}
use Rattle.footprint.specs.Holds.{narrow_cmp, holds, stands_for}

spread : (b a c : Bool) → (b && (a || c)) ≡ ((b && a) || (b && c))
spread true a c = refl
spread false a c = refl

pub or_no : (a : Bool) → a ≡ (a || false)
or_no true = refl
or_no false = refl

-- ---- the union of two
pub union : (f g : Foot) (reads writes : Spans) (states : BTreeMap ObjName State) (lookups : BTreeSet ℕ) (narrows : BTreeSet (Event × ObjName))
    → ((x : ObjName) (i : ℕ) → has_byte reads.ends.entries x i ≡ (has_byte f.reads.ends.entries x i || has_byte g.reads.ends.entries x i))
    → ((x : ObjName) (i : ℕ) → has_byte writes.ends.entries x i ≡ (has_byte f.writes.ends.entries x i || has_byte g.writes.ends.entries x i))
    → ((x : ObjName) → state_in states x ≡ either (state_in f.states x) (state_in g.states x))
    → ((a : ℕ) → contains nat_cmp lookups a ≡ (contains nat_cmp f.lookups a || contains nat_cmp g.lookups a))
    → ((d : Event) (x : ObjName) → contains narrow_cmp narrows (d, x) ≡ (contains narrow_cmp f.narrows (d, x) || contains narrow_cmp g.narrows (d, x)))
    → (i : Item)
    → holds (record {
      reads = reads;
      writes = writes;
      states = states;
      lookups = lookups;
      narrows = narrows;
      input = f.input || g.input;
      output = f.output ||
          g.output;
      ending = f.ending || g.ending;
      any = f.any || g.any;
    }) i ≡ (holds f i || holds g i)
union f g reads writes states lookups narrows hr hw hs hl hn (Read x i n) =
    ap (λ b. (n == 1) && b) (hr x i) ∙ spread (n == 1) (has_byte f.reads.ends.entries x i) (has_byte g.reads.ends.entries x i)
union f g reads writes states lookups narrows hr hw hs hl hn (Write x i n) =
    ap (λ b. (n == 1) && b) (hw x i) ∙ spread (n == 1) (has_byte f.writes.ends.entries x i) (has_byte g.writes.ends.entries x i)
union f g reads writes states lookups narrows hr hw hs hl hn (Born x) = ap (λ s. s.born) (hs x)
union f g reads writes states lookups narrows hr hw hs hl hn (Dies x) = ap (λ s. s.dies) (hs x)
union f g reads writes states lookups narrows hr hw hs hl hn (Alive x) = ap (λ s. s.alive) (hs x)
union f g reads writes states lookups narrows hr hw hs hl hn (Expose x) = ap (λ s. s.expose) (hs x)
union f g reads writes states lookups narrows hr hw hs hl hn (Lookup a) = hl a
union f g reads writes states lookups narrows hr hw hs hl hn (Narrow d x) = hn d x
union f g reads writes states lookups narrows hr hw hs hl hn Input = refl
union f g reads writes states lookups narrows hr hw hs hl hn Output = refl
union f g reads writes states lookups narrows hr hw hs hl hn Ending = refl
union f g reads writes states lookups narrows hr hw hs hl hn Any = refl

-- ---- one settled ambiguity more
event_key : (d e : Event) (x y : ObjName) (b : Bool) → same_event d e ≡ b → is_eq (narrow_cmp (d, x) (e, y)) ≡ (b && same_object x y)
event_key d e x y b h = is_eq-then (event_cmp d e) (object_cmp x y) ∙ (λ i. (tie_event d e ∙ h) i && tie_object x y i)
  where
    is_eq-then : (o p : Ordering) → is_eq (ordering_then o p) ≡ (is_eq o && is_eq p)
    is_eq-then Less p = refl
    is_eq-then Equal p = refl
    is_eq-then Greater p = refl

added_or : (b now : Bool) → cond b true now ≡ (now || b)
added_or true true = refl
added_or true false = refl
added_or false true = refl
added_or false false = refl

pub narrow_added : (f : Foot) (ns : BTreeSet (Event × ObjName)) (d : Event) (x : ObjName) →
    ((k : Event × ObjName) → contains narrow_cmp ns k ≡ cond (is_eq (narrow_cmp (d, x) k)) true (contains narrow_cmp f.narrows k)) →
    (i : Item) → holds (record f { narrows = ns }) i ≡ (holds f i || stands_for (Narrow d x) i)
narrow_added f ns d x put (Read y i n) = or_no (holds f (Read y i n))
narrow_added f ns d x put (Write y i n) = or_no (holds f (Write y i n))
narrow_added f ns d x put (Born y) = or_no (holds f (Born y))
narrow_added f ns d x put (Dies y) = or_no (holds f (Dies y))
narrow_added f ns d x put (Alive y) = or_no (holds f (Alive y))
narrow_added f ns d x put (Expose y) = or_no (holds f (Expose y))
narrow_added f ns d x put (Lookup a) = or_no (holds f (Lookup a))
narrow_added f ns d x put (Narrow e y) = put (e, y) ∙ ap (λ b. cond b true (contains narrow_cmp f.narrows (e, y))) (event_key d e x y (same_event d e) refl) ∙
    added_or (same_event d e && same_object x y) (contains narrow_cmp f.narrows (e, y))
narrow_added f ns d x put Input = or_no (holds f Input)
narrow_added f ns d x put Output = or_no (holds f Output)
narrow_added f ns d x put Ending = or_no (holds f Ending)
narrow_added f ns d x put Any = or_no (holds f Any)
