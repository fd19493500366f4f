-- `goto` goes where the definitions go: to the work that they find from its label on.
use Rattle.std.proofs.Common.{◌≡◌, ℕ, refl, sym, ap, ◌∙◌, subst, List, Option, Some, None, slice_get}
use Rattle.std.specs.Prelude.{Ok}
use Rattle.std.specs.Borrow.{Bor}
use Rattle.c_model.specs.Control.{find, gone_to, to_label}
use Rattle.c_model.specs.Steps.{body_of, found_label}
use Rattle.c_model.specs.World.{World}
use Rattle.c_typed.specs.declared.program.Program.{Program}
use Rattle.run_control.specs.declared.links.Link.{Link}
use Rattle.run_control.specs.declared.links.Place.{Place}
use Rattle.run_control.specs.declared.statement.Statement.{Statement}
use Rattle.run_control.specs.declared.work.Step.TheVariants as taking
use Rattle.run_control.specs.declared.work.Work.{Work as Kept_work}
use Rattle.run_control.specs.Links.{work_from}
use Rattle.run_control.specs.Targets.{AllEqual, bodies}
use Rattle.run_control.specs.View.{Meaning, stmt_of, todo_of}
use Rattle.run_layout.specs.declared.whole.Code.{Code}
use Rattle.run_statements.specs.declared.jumps.Jumps.{Jumps}
use Rattle.run_statements.specs.Jumping.{HasJumps, IsFound}
use Rattle.run_state.specs.declared.machine.Machine.{Machine}
use Rattle.run_state.specs.Meaning.{StandsCode}
use Rattle.run_answers.specs.Answering.{AnswersStep}
use Rattle.run_answers.specs.Jumps.{HasLabels}
use Rattle.run_answers.proofs.Staying.{left_answers, with_work}

-- the label's function has a body
abbrev IsFoundIn : Jumps → ℕ → (links : List Link) → (label : ℕ) → Place → Type 0
IsFoundIn jumps n links label target =
    (bs : List (Option (Bor Statement))) (body : Bor Statement) → HasJumps jumps bs → slice_get bs n ≡ Some (Some body) → IsFound links body.now label target

-- the place of its label is the one that the definitions find
found_there : (world : World) (meaning : Option ℕ → Meaning) (p : Program) (code : Code) (jumps : Jumps) (n label : ℕ) (links : List Link) (target : Place) →
    StandsCode world p code meaning → HasLabels code jumps (Some n) → IsFoundIn jumps n links label target →
    Some (todo_of (meaning (Some n)) (work_from links target)) ≡ found_label world label (body_of world (Some n))
found_there world meaning p code jumps n label links target stands has found =
    let c = has.function in
    let mg = meaning (Some n) in
    found has.bodies has.body has.labels has.there mg (subst (λ (s : Statement). AllEqual (bodies mg s)) (sym has.same) (stands.switches n c has.at))
    ∙ ap (λ (s : Statement). find (to_label label) (stmt_of mg s)) has.same
    ∙ ap (found_label world label) (sym (stands.body n c has.at))

found_for : (world : World) (meaning : Option ℕ → Meaning) (p : Program) (code : Code) (jumps : Jumps) (n label : ℕ) (links : List Link) (target : Place)
    (f g : Option ℕ) → f ≡ Some n → f ≡ g → StandsCode world p code meaning → HasLabels code jumps f → IsFoundIn jumps n links label target →
    Some (todo_of (meaning f) (work_from links target)) ≡ found_label world label (body_of world g)
found_for world meaning p code jumps n label links target f g is same stands has found =
    ap (λ (x : Option ℕ). Some (todo_of (meaning x) (work_from links target))) is
    ∙ found_there world meaning p code jumps n label links target stands (subst (λ (x : Option ℕ). HasLabels code jumps x) is has) found
    ∙ ap (λ (x : Option ℕ). found_label world label (body_of world x)) (sym is ∙ same)

label_answers : (m : Machine) (n label : ℕ) (target : Place) (ws : List Kept_work) → m.top.function ≡ Some n →
    IsFoundIn m.jumps n m.jumps.links.items label target →
    ((k : Meaning) → todo_of k ws ≡ gone_to (todo_of k m.work.now) (Some (todo_of k (work_from m.jumps.links.items target)))) →
    AnswersStep (taking.GoTo label) m (with_work m m.work.below ws) (Ok None)
label_answers m n label target ws is found now = λ world meaning st h.
    let mg = meaning m.top.function in
    let rest = todo_of mg m.work.now in
    left_answers (taking.GoTo label) world meaning m ws st (gone_to rest (found_label world label (body_of world st.top.function))) h
    (now mg ∙ ap (gone_to rest) (found_for world meaning m.program.now m.image.code.now m.jumps n label m.jumps.links.items target m.top.function
    st.top.function is
    h.stands.frames.0.function h.stands.code h.can found))
    refl refl refl refl

pub goto_answers : (m : Machine) (n label : ℕ) (target : Place) (links : List Link) (below : List (List Kept_work)) (ws : List Kept_work) →
    m.top.function ≡ Some n → links ≡ m.jumps.links.items → below ≡ m.work.below → IsFoundIn m.jumps n m.jumps.links.items label target →
    ((k : Meaning) → todo_of k ws ≡ gone_to (todo_of k m.work.now) (Some (todo_of k (work_from links target)))) →
    AnswersStep (taking.GoTo label) m (with_work m below ws) (Ok None)
goto_answers m n label target links below ws is same under found now =
    subst (λ (bs : List (List Kept_work)). AnswersStep (taking.GoTo label) m (with_work m bs ws) (Ok None)) (sym under)
    (label_answers m n label target ws is found
    (subst (λ (ls : List Link). (k : Meaning) → todo_of k ws ≡ gone_to (todo_of k m.work.now) (Some (todo_of k (work_from ls target)))) same now))
