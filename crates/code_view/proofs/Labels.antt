-- The labels of each function that has a body are kept.
use Rattle.std.proofs.Common.{◌≡◌, ℕ, List, Option, Some, None, slice_get, refl, sym, ap, ◌∙◌}
use Rattle.std.specs.Option.{option_map}
use Rattle.std.proofs.lemmas.Option.{slice_get-map}
use Rattle.c_types.specs.declared.tags.Tag.{Tag}
use Rattle.c_typed.specs.declared.statement.Body.{Body, out-Body}
use Rattle.c_typed.specs.declared.statement.Body.TheOpen as form
use Rattle.c_typed.specs.declared.statement.Body.TheOpen.{Body-F}
use Rattle.c_typed.specs.declared.statement.Block.{Block}
use Rattle.c_typed.specs.declared.statement.Entry.{Entry}
use Rattle.c_typed.specs.declared.statement.ForStart.{ForStart}
use Rattle.c_typed.specs.declared.program.Function.{Function}
use Rattle.c_typed.specs.declared.program.Program.{Program}
use Rattle.c_model.specs.Program.{Stmt}
use Rattle.c_model.specs.Steps.{body_of}
use Rattle.c_model.specs.World.{World}
use Rattle.program_view.specs.Statements.{defined, definition}
use Rattle.program_view.specs.View.{function_of}
use Rattle.run_layout.specs.declared.whole.Code.{Code}
use Rattle.run_layout.specs.Roots.{as_block, block_in, HasCode, HaveCode}
use Rattle.run_state.specs.Meaning.{StandsProgram}
use Rattle.code_view.specs.Labels.{DefinedKeepLabels}
use Rattle.code_view.proofs.Whole.{function_body}

-- what is defined is defined by a block
by_block : (tags : List Tag) (z : Body-F Body Entry ForStart Block) (s : Stmt) → defined tags z ≡ Some s → (x : Block) × (as_block z ≡ Some x)
by_block tags (form.Block b) s e = (b, refl)
by_block tags _ s e = absurd (cc)

in_block : (tags : List Tag) (o : Option Body) (s : Stmt) → definition tags o ≡ Some s → (x : Block) × (block_in o ≡ Some x)
in_block tags None s e = absurd (cc)
in_block tags (Some b) s e = by_block tags (out-Body b) s e

no_function : (world : World) (n : ℕ) → slice_get world.program.functions n ≡ None → body_of world (Some n) ≡ None
no_function world n e = rw e

has_code : (p : Program) (code : Code) (world : World) (n : ℕ) (s : Stmt) → HaveCode p.functions code → StandsProgram world p
    → body_of world (Some n) ≡ Some s → HasCode code n
has_code p code world n s have stands is = go (slice_get p.functions n) refl
  where
    seen : (o : Option Function) → slice_get p.functions n ≡ o → slice_get world.program.functions n ≡ option_map (function_of p.tags) o
    seen o e =
        ap (λ fs. slice_get fs n) stands.functions ∙ (slice_get-map (function_of p.tags) p.functions n ∙ ap (option_map (function_of p.tags)) e)

    go : (o : Option Function) → slice_get p.functions n ≡ o → HasCode code n
    go None e = absurd (let none = no_function world n (seen None e) in cc)
    go (Some f) e =
        let block = in_block p.tags f.body s (sym (function_body world n (function_of p.tags f) (seen (Some f) e)) ∙ is) in
        have.defined n f block.0 e block.1

pub labels_kept : DefinedKeepLabels
labels_kept p code jumps world n s have keeps stands is =
    let c = has_code p code world n s have stands is in
    let b = keeps.each n c.0 c.1 in
    record { function = c.0; bodies = keeps.bodies; body = b.0; at = c.1; labels = keeps.labels; there = b.1; same = b.2 }
