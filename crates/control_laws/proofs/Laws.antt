-- The laws of other crates that control steps rest on, and what is said of lists and bodies in short.
use Rattle.std.proofs.Common.{◌≡◌, ℕ, zero, suc, ◌<◌, List, [], ◌∷◌, length, Option, Some, None, slice_get, refl, sym, ap, subst, ◌∙◌, arith}
use Rattle.std.specs.List.{All}
use Rattle.std.proofs.lemmas.List.{length-reverse}
use Rattle.std.proofs.lemmas.List.Elements.{All-head, All-tail}
use Rattle.std.proofs.lemmas.Option.{same_Some}
use Rattle.c_typed.specs.declared.statement.Block.{Block}
use Rattle.c_typed.specs.declared.statement.Body.{Body, out-Body, roll-Body, roll-out-Body}
use Rattle.c_typed.specs.declared.statement.Body.TheOpen as form
use Rattle.c_typed.specs.declared.statement.Body.TheOpen.{Body-F}
use Rattle.c_typed.specs.declared.statement.Body.TheVariants as body
use Rattle.c_typed.specs.declared.statement.Entry.{Entry}
use Rattle.c_typed.specs.declared.statement.ForStart.{ForStart}
use Rattle.c_typed.specs.Lawful.{Where}
use Rattle.c_model.specs.Program as model
use Rattle.c_model.specs.Runs.{State}
use Rattle.c_model.specs.Steps.{body_of}
use Rattle.c_model.specs.World.{World}
use Rattle.program_view.specs.Text.{TextIsKept}
use Rattle.run_layout.specs.declared.steps.Listed.{Listed}
use Rattle.run_layout.specs.Roots.{as_block, block_in}
use Rattle.run_control.specs.View.{Meaning}
use Rattle.run_listing.specs.Along.{part_of}
use Rattle.run_state.specs.declared.machine.Machine.{Machine}
use Rattle.run_state.specs.Stands.{Stands, StandsFrame}
use Rattle.code_view.specs.Blocks.{BlocksStandInCode, ExpressionsStandInCode, OpenBlocksAreThere}
use Rattle.code_view.specs.Known.{CodeIsKnown}
use Rattle.code_view.specs.Labels.{DefinedKeepLabels}
use Rattle.code_view.specs.Named.{OpenIsPlaced, OpenRootIsNamed}
use Rattle.run_laws.specs.Asked.{CodeHasRooms, LabelsAreAsked}

pub record Laws : Type 0 where
  pub text : TextIsKept
  pub blocks : BlocksStandInCode
  pub there : OpenBlocksAreThere
  pub expressions : ExpressionsStandInCode
  pub labels : DefinedKeepLabels
  pub placed : OpenIsPlaced
  pub known : CodeIsKnown
  pub root : OpenRootIsNamed
  pub rooms : CodeHasRooms
  pub asked : LabelsAreAsked

pub laws_of : TextIsKept → BlocksStandInCode → OpenBlocksAreThere → ExpressionsStandInCode → DefinedKeepLabels → OpenIsPlaced → CodeIsKnown → OpenRootIsNamed
    → CodeHasRooms → LabelsAreAsked → Laws
laws_of text blocks there expressions labels placed known root rooms asked = record {
  text = text;
  blocks = blocks;
  there = there;
  expressions = expressions;
  labels = labels;
  placed = placed;
  known = known;
  root = root;
  rooms = rooms;
  asked = asked;
}

-- ---- lists
pub there_some : {A : Type 0} (xs : List A) (k : ℕ) → k < length xs → (x : A) × (slice_get xs k ≡ Some x)
there_some [] k l = absurd (omega (arith, l))
there_some (x ∷ xs) zero l = (x, refl)
there_some (x ∷ xs) (suc k) l = there_some xs k (omega (arith, l))

pub each_at : {A : Type 0} (P : A → Type 0) (xs : List A) (n : ℕ) (x : A) → slice_get xs n ≡ Some x → All P xs → P x
each_at P [] zero x at h = absurd (cc)
each_at P [] (suc n) x at h = absurd (cc)
each_at P (y ∷ ys) zero x at h = subst P (same_Some y x at) (All-head P y ys h)
each_at P (y ∷ ys) (suc n) x at h = each_at P ys n x at (All-tail P y ys h)

pub where_some : {A : Type 0} (P : A → Type 0) (o : Option A) (x : A) → o ≡ Some x → Where P o → P x
where_some P o x e h = let k : Where P (Some x) = subst (Where P) e h in k

pub part_same : (listing : List Listed) (a b c d : ℕ) → a ≡ b → c ≡ d → part_of listing a c ≡ part_of listing b d
part_same listing a b c d h k = ap (λ (n : ℕ). part_of listing n c) h ∙ ap (λ (n : ℕ). part_of listing b n) k

-- ---- bodies
form_of : (z : Body-F Body Entry ForStart Block) (b : Block) → as_block z ≡ Some b → z ≡ form.Block b
form_of (form.Block y) b e = let same : y ≡ b = cc in ap form.Block same
form_of _ b e = absurd (cc)

pub body_there : (o : Option Body) (b : Block) → block_in o ≡ Some b → o ≡ Some (body.Block b)
body_there None b e = absurd (cc)
body_there (Some x) b e = ap Some (sym (roll-out-Body x) ∙ (ap roll-Body (form_of (out-Body x) b e) ∙ body.rolls-Block b))

pub function_body : (world : World) (n : ℕ) (f : model.Function) → slice_get world.program.functions n ≡ Some f → body_of world (Some n) ≡ f.body
function_body world n f e = rw e

-- ---- the top frame of a machine
pub top_frame : (world : World) (meaning : Option ℕ → Meaning) (m : Machine) (st : State) → Stands world meaning m st
    → StandsFrame world (meaning m.top.function) m (length m.below.items) m.top m.work.now m.left st.top None
top_frame world meaning m st s =
    subst (λ (n : ℕ). StandsFrame world (meaning m.top.function) m n m.top m.work.now m.left st.top None) (length-reverse m.below.items) s.frames.0
