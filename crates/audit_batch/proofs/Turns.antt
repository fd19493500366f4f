-- Runs are said one after the other.
use Rattle.std.proofs.Common.{◌≡◌, ◌∙◌, ℕ, ◌+◌, ◌<◌, List, [], ◌∷◌, length, get_or, map, drop, refl, sym, ap, subst, inl, inr, add-one, drop-cons}
use Rattle.audit_batch.specs.Batch.{tally_after}
use Rattle.audit_batch.specs.Runs.{Goes, IsSaid, Names, Reaches, Says, Stand, names_of}
use Rattle.audit_batch.specs.declared.audit.Run.{Run}

-- no further run is said
pub reaches_none : (says : Says) (old : Stand) (runs : List Names) (new : Stand) → new ≡ old → Reaches says old runs new runs
reaches_none says old [] new same = (same, refl)
reaches_none says old (run ∷ runs) new same = inl (same, refl)

head_same : (run first : Names) (rest runs : List Names) → run ∷ rest ≡ first ∷ runs → run ≡ first
head_same run first rest runs same = cc

tail_same : (run first : Names) (rest runs : List Names) → run ∷ rest ≡ first ∷ runs → rest ≡ runs
tail_same run first rest runs same = cc

first_goes : (says : Says) (old at new : Stand) (run first : Names) → at ≡ old → run ≡ first → Goes says at run new → Goes says old first new
first_goes says old at new run first same is goes = subst (λ s. Goes says s first new) same (subst (λ r. Goes says at r new) is goes)

-- a further run is said
pub reaches_next : (says : Says) (old : Stand) (runs : List Names) (at new : Stand) (run : Names) (rest : List Names)
    → Reaches says old runs at (run ∷ rest) → Goes says at run new → Reaches says old runs new rest
reaches_next says old [] at new run rest (same, none) goes = absurd (cc)
reaches_next says old (first ∷ runs) at new run rest (inl (same, left)) goes =
    inr (
      new,
      first_goes says old at new run first same (head_same run first rest runs left) goes,
      subst (λ more. Reaches says new more new rest) (tail_same run first rest runs left) (reaches_none says new rest new refl),
    )
reaches_next says old (first ∷ runs) at new run rest (inr (next, goes_first, reaches)) goes =
    inr (next, goes_first, reaches_next says next runs at new run rest reaches goes)

-- the runs from one on are that run and those behind it
pub runs_left : (runs : List Run) (at : ℕ) (none : Run) → at < length runs
    → map names_of (drop at runs) ≡ names_of (get_or runs at none) ∷ map names_of (drop (at + 1) runs)
runs_left runs at none within =
    ap (map names_of) (drop-cons runs at none within) ∙ ap (λ n. names_of (get_or runs at none) ∷ map names_of (drop n runs)) (sym (add-one at))

-- the next of the runs is said
pub reaches_run : (says : Says) (old at new : Stand) (runs : List Run) (i : ℕ) (none : Run) (status : ℕ) → i < length runs
    → IsSaid says at.files new.files (names_of (get_or runs i none)) at.told new.told status → new.tally ≡ tally_after at.tally status
    → Reaches says old (map names_of runs) at (map names_of (drop i runs)) → Reaches says old (map names_of runs) new (map names_of (drop (i + 1) runs))
reaches_run says old at new runs i none status within said counted reaches =
    reaches_next says old (map names_of runs) at new (names_of (get_or runs i none)) (map names_of (drop (i + 1) runs))
    (subst (λ left. Reaches says old (map names_of runs) at left) (runs_left runs i none within) reaches)
    (record { status = status; said = said; counted = counted })
