-- A machine before its first pick, by what it was made of.
use Rattle.std.proofs.Common.{◌≡◌, ◌≤◌, ◌∙◌, ℕ, sym, ap, subst, List, [], length, map, None}
use Rattle.c_typed.specs.declared.program.Program.{Program}
use Rattle.c_model.specs.Program.{Standing}
use Rattle.c_model.specs.Runs.{created_after}
use Rattle.mem_spec.specs.Store.{Store}
use Rattle.mem_objects.specs.Memory.{Kept, empty, store_of}
use Rattle.run_standing.proofs.Counts.{start_counts}
use Rattle.run_standing.proofs.Viewed.{as_viewed}
use Rattle.run_layout.specs.declared.whole.Code.{Code}
use Rattle.run_state.specs.declared.machine.Machine.{Machine}
use Rattle.run_state.specs.declared.machine.Open.{Open}
use Rattle.run_start.specs.Begins.{CountsAsDefined, IsFirst, IsUnstarted, SeesMain}
use Rattle.run_start.proofs.Beginning.{Parts}

-- ---- the machine
pub unstarted : (p : Program) (code : Code) (top : Open) (m n : Machine) → n ≡ record m { locals = n.locals } → m.top.above ≤ length n.locals.items →
    m.program.now ≡ p → m.image.code.now ≡ code → m.top ≡ top → IsFirst p top → SeesMain p code top → m.below.items ≡ [] → m.entered ≡ 0 → m.depth ≡ 1 →
    m.begun.items ≡ [] → m.strayed.items ≡ [] → m.left ≡ None → m.items ≡ [] → m.spare ≡ [] → IsUnstarted p n
unstarted p code top m n same places is_p is_code is_top first sees below entered depth begun strayed left items spare =
    subst (λ (k : Machine). IsUnstarted p k) (sym same) (record {
      program = is_p;
      top = subst (λ (o : Open). IsFirst p o) (sym is_top) first;
      sees = subst (λ (o : Open). SeesMain p m.image.code.now o) (sym is_top) (subst (λ (k : Code). SeesMain p k top) (sym is_code) sees);
      places = places;
      below = below;
      entered = entered;
      depth = depth;
      begun = begun;
      strayed = strayed;
      left = left;
      items = items;
      spare = spare;
    })

-- ---- what was created
pub counted : (old first : Kept) (p : Program) (args : List (List ℕ)) (input : List ℕ) (m : Machine) → old ≡ empty old.rows old.mode →
    Parts old first p args input m → CountsAsDefined p args input m
counted old first p args input m nothing parts =
    let os = parts.started.0 in
    let steps = parts.started.2 first.rows (λ x r e. e) m.streams in
    let counts = start_counts first.rows os (store_of old m.streams) steps.0 (store_of first m.streams) steps.1 steps.2 in
    record {
      created = ap (λ (s : Store). s.created) (parts.store m.streams) ∙ counts
          ∙ ap (λ (n : ℕ). created_after n (map (λ o. o.decl) os)) (ap (λ (k : Kept). k.created) nothing)
          ∙ ap (λ (xs : List Standing). created_after 0 (map (λ o. o.decl) xs)) (as_viewed p args os parts.started.1);
      streams = parts.streams;
    }
