-- The report of a swap (own).
use Rattle.std.specs.Prelude.{ℕ, List, ◌++◌, length, codes, decimal, Bool, true, false}
use Rattle.ub_base.specs.Clause.{clause_text}
use Rattle.ub_base.specs.Frames.{Row}
use Rattle.ub_base.specs.declared.clause.Cause.{Cause}
use Rattle.ub_base.specs.declared.clause.Cause.TheVariants.{Output as OutputCause, Created, Depth, Conversion, Directive}
use Rattle.ub_base.specs.declared.names.Event.{Event}
use Rattle.c_names.specs.Texts.{event_text}
use Rattle.order_swap.specs.declared.answer.Swapped.{Swapped}
use Rattle.order_swap.specs.declared.end.End.{End}
use Rattle.order_swap.specs.declared.end.End.TheVariants.{Ended, Raised, OutOfSteps, Outside, Unplaced}

-- words, an event and its line
abbrev pub event_line : List ℕ → List Row → Event × ℕ → List ℕ
event_line words frames place = words ++ (event_text frames place.0 ++ (codes " line " ++ (decimal place.1 ++ codes "\n")))

abbrev pub cause_text : Cause → List ℕ
cause_text OutputCause = codes "output"
cause_text Created = codes "created"
cause_text Depth = codes "depth"
cause_text Conversion = codes "conversion"
cause_text Directive = codes "directive"

-- an end; of what was written, how many bytes went to standard output
abbrev pub end_text : End → List ℕ
end_text (Ended status output errors) = codes "exit " ++ (decimal status ++ (codes " output " ++ decimal (length output)))
end_text (Raised clause) = codes "undefined " ++ clause_text clause
end_text OutOfSteps = codes "out of steps"
end_text (Outside cause number) = codes "outside " ++ (cause_text cause ++ (codes " " ++ decimal number))
end_text Unplaced = codes "unplaced"

abbrev pub end_line : List ℕ → End → ℕ → List ℕ
end_line word end picks = word ++ (decimal picks ++ (codes " " ++ (end_text end ++ codes "\n")))

abbrev pub verdict_text : Bool → List ℕ
verdict_text true = codes "differs\n"
verdict_text false = codes "same\n"

abbrev pub swapped_text : List Row → Event × ℕ → Event × ℕ → Swapped → List ℕ
swapped_text frames event against s =
    codes "swap\n" ++ (event_line (codes "event ") frames event ++ (event_line (codes "against ") frames against
    ++ (end_line (codes "canonical ") s.canonical.0 s.canonical.1 ++ (end_line (codes "swapped ") s.swapped.0 s.swapped.1 ++ verdict_text s.differs))))
