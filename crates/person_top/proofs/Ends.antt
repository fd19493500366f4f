-- Calls that end after something was put.
use Rattle.std.proofs.Common.{◌≡◌, ◌⊎◌, ◌≤◌, ℕ, List, Option, sym, subst, inl, inr, arith}
use Rattle.ub_base.specs.Causes.{Rose}
use Rattle.audit_batch.specs.declared.audit.BatchFault.{BatchFault}
use Rattle.audit_batch.specs.declared.audit.BatchFault.TheVariants as Fault
use Rattle.person_top.specs.Ends.{Answers, EndsBy, EndsForMemory, EndsTold}

by_earlier : (old new : Option (List ℕ)) (first before now result status : ℕ) (text : List ℕ) → first ≤ before → EndsBy old new before now result status text
    → EndsBy old new first now result status text
by_earlier old new first before now result status text later (inl whole) = inl whole
by_earlier old new first before now result status text later (inr (same, part, rose)) = inr (same, part, omega (arith, later, rose))

-- the faults may be counted from an earlier moment on
pub told_earlier : (answers : Answers) (old new : Option (List ℕ)) (first before now result : ℕ) → first ≤ before
    → EndsTold answers old new before now result → EndsTold answers old new first now result
told_earlier answers old new first before now result later (inl (status, text, may, ends)) =
    inl (status, text, may, by_earlier old new first before now result status text later ends)
told_earlier answers old new first before now result later (inr ends) = inr (by_earlier old new first before now result 30 _ later ends)

-- how a batch ends that is broken off
pub break_ends : (fault : BatchFault) (told new : Option (List ℕ)) (first before now result : ℕ) → first ≤ before → (fault ≡ Fault.Failed → Rose first before)
    → ((fault ≡ Fault.Failed) × (result ≡ 21) × (new ≡ told) × (now ≡ before)) ⊎ EndsForMemory told new before now result
    → ((result ≡ 21) × Rose first now × (new ≡ told)) ⊎ EndsForMemory told new first now result
break_ends fault told new first before now result later rose (inl (failed, is, stays, same)) =
    inl (is, subst (λ n. Rose first n) (sym same) (rose failed), stays)
break_ends fault told new first before now result later rose (inr ends) = inr (by_earlier told new first before now result 30 _ later ends)
