-- Pairs of items that may be the least ones that conflict.
use Rattle.std.specs.Prelude.{ℕ, Bool, ◌&&◌, List, Option, Some, None, if◌then◌else◌}
use Rattle.ub_base.specs.declared.names.ObjName.{ObjName}
use Rattle.ub_base.specs.declared.names.Item.{Item}
use Rattle.ub_base.specs.declared.names.Item.TheVariants.{Born, Dies, Alive, Expose, Lookup, Input, Output, Ending, Any}
use Rattle.ub_base.specs.Frames.{Row}
use Rattle.footprint.specs.declared.foot.Foot.{Foot}
use Rattle.footprint.specs.declared.state.State.{State}
use Rattle.footprint.specs.Least.{lesser}
use Rattle.footprint.specs.States.{state_in}

-- the pair, where it is one
abbrev pub when : Bool → Item → Item → Option (Item × Item)
when c i j = if c then Some (i, j) else None

abbrev pub least_of_three : List Row → (p q r : Option (Item × Item)) → Option (Item × Item)
least_of_three rows p q r = lesser rows (lesser rows p q) r

-- of what was done to one object as a whole
abbrev pub whole_pair : List Row → ObjName → State → State → Option (Item × Item)
whole_pair rows x s t =
    least_of_three rows
    (least_of_three rows (when (s.born && t.dies) (Born x) (Dies x)) (when (s.born && t.alive) (Born x) (Alive x))
    (when (s.born && t.expose) (Born x) (Expose x)))
    (least_of_three rows (when (s.dies && t.born) (Dies x) (Born x)) (when (s.dies && t.dies) (Dies x) (Dies x)) (when (s.dies && t.alive) (Dies x) (Alive x)))
    (least_of_three rows (when (s.alive && t.born) (Alive x) (Born x)) (when (s.alive && t.dies) (Alive x) (Dies x))
    (when (s.expose && t.born) (Expose x) (Born x)))

-- of an address that was looked up and an object that may stand there
abbrev pub beside : List Row → ℕ → Foot → Option ObjName → Option (Item × Item)
beside rows a b None = None
beside rows a b (Some x) = lesser rows (when (state_in b.states x).dies (Lookup a) (Dies x)) (when (state_in b.states x).expose (Lookup a) (Expose x))

-- of streams and ends
abbrev pub stream_pair : List Row → Foot → Foot → Option (Item × Item)
stream_pair rows a b =
    lesser rows
    (least_of_three rows (when (a.input && b.input) Input Input) (when (a.output && b.output) Output Output) (when (a.ending && b.any) Ending Any))
    (when (a.any && b.ending) Any Ending)
