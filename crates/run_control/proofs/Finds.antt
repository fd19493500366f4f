-- The targets of a whole body are what the model finds in it.
use Rattle.std.proofs.Common.{◌≡◌, Bool, List, [], map, reverse, sym, ◌∙◌, ap, subst, arith}
use Rattle.run_control.specs.declared.statement.Statement.{Statement}
use Rattle.run_control.specs.declared.links.Link.{Link}
use Rattle.run_control.specs.declared.targets.Found.{Found}
use Rattle.run_control.specs.View.{stmt_of, todo_of}
use Rattle.run_control.specs.Targets.{and_all, targets, seen, bodies, Adds}
use Rattle.run_control.specs.Search.{looked, Finds}
use Rattle.run_control.proofs.Paths.{path_zero}
use Rattle.run_control.proofs.Finding.{find_is, and_all_none}

pub finds_all : (l0 l1 : List Link) (f0 f1 : List Found) (s : Statement) (labels : Bool) → f0 ≡ []
    → Adds l0 f0 l1 f1 0 (λ m. targets labels (stmt_of m s)) (λ m. bodies m s) → Finds l1 f1 s labels
finds_all l0 l1 f0 f1 s labels e a m q t g =
    let P : List Found → Type 0 = λ fs. Adds l0 fs l1 f1 0 (λ x. targets labels (stmt_of x s)) (λ x. bodies x s) in
    let b : P [] = subst P e a in
    let all : map (seen m l1) f1 ≡ targets labels (stmt_of m s) =
    b.adds m q (omega arith) tt
    ∙ (ap (λ ws. and_all (targets labels (stmt_of m s)) (todo_of m ws)) (path_zero (reverse l0)) ∙ and_all_none (targets labels (stmt_of m s))) in
    ap (looked t) all ∙ (ap (λ x. looked t (targets x (stmt_of m s))) (sym g) ∙ sym (find_is t (stmt_of m s)))
