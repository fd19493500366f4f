use Rattle.std.proofs.Common.{◌≡◌, List, map, drop}
use Rattle.run_control.specs.declared.links.Link.{Link}
use Rattle.run_control.specs.declared.targets.Found.{Found}
use Rattle.run_control.specs.View.{stmt_of, in_turn, block_of}
use Rattle.run_control.specs.Targets.{Adds, all_targets, all_bodies, block_pairs}
use Rattle.run_control.proofs.targets.+visit.Given as goal

-- what is added for the statements that are left completes the block
abbrev pub invariant-visit_all-loop-statement : goal.invariant-visit_all-loop-statement
invariant-visit_all-loop-statement l =
    (l.rest ≡ drop l.statement-index l.statement-items)
    × ((links : List Link) (found : List Found) → Adds l.links.items l.found.items links found l.round
    (λ m. all_targets l.labels (in_turn (map (stmt_of m) (drop l.statement-index l.statement-items)))) (λ m. all_bodies m (drop l.statement-index
    l.statement-items))
    → Adds l.fn.links.items l.fn.found.items links found l.round (λ m. all_targets l.labels (block_of m l.block).statements) (λ m. block_pairs m l.block))
