-- Stories without an object, and of a name among the same frames.
use Rattle.std.proofs.Common.{◌≡◌, ◌∙◌, ℕ, refl, sym, ap, subst, List, [], ◌∷◌, ◌++◌, append-nil, map}
use Rattle.std.specs.Prelude.{Option, Some, None}
use Rattle.ub_base.specs.Frames.{Row}
use Rattle.core_run.specs.Calls.{Call, node_done, operands_done, Heard, picks_in}
use Rattle.ub_base.specs.declared.names.ObjName.{ObjName}
use Rattle.c_names.specs.Names.{object_name}
use Rattle.trace_story.specs.Named.{IsNamed}
use Rattle.trace_story.specs.Stories.{Mark, mark_of, marks_in, story_in}

-- without an object nothing is told
pub no_object : (rows : List Row) (calls : Heard) → [] ≡ story_in rows None calls
no_object rows [] = refl
no_object rows (h ∷ hs) = no_object rows hs ∙ sym (append-nil (story_in rows None hs))

-- an object has its name among the same frames
pub named_again : (given first second : List Row) (x : ObjName) (found : Option ObjName) (named : ObjName) → IsNamed given x first found →
    found ≡ Some named → first ≡ second → object_name second named ≡ object_name given x
named_again given first second x found named h is same = sym (ap (λ rows. object_name rows named) same) ∙ subst (IsNamed given x first) is h
