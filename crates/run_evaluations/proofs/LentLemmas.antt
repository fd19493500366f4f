-- Segments that were lent.
use Rattle.std.proofs.Common.{◌≡◌, ◌∙◌, ◌++◌, ℕ, List, ap, length, subst, sym, take}
use Rattle.std.proofs.lemmas.List.{take_at}
use Rattle.ub_base.specs.declared.names.Item.{Item}
use Rattle.evaluation_log.specs.declared.log.Logged.{Logged}
use Rattle.evaluation_log.specs.declared.log.Segment.{Segment}
use Rattle.evaluation_log.proofs.WholeLemmas.{length_alike}
use Rattle.evaluation_search.specs.Segments.{AreAlike, IsTaken as IsGone}
use Rattle.run_evaluations.specs.declared.open.Evaluations.{Evaluations}
use Rattle.run_evaluations.specs.Kept.{IsSameLog, IsTaken}

-- what comes back is what was made of them, which are as many
pub lent : (o s n rest : List Segment) (count : ℕ) → s ≡ o → count ≡ length o → AreAlike s n → take count (n ++ rest) ≡ n
lent o s n rest count e l a = take_at n rest count (length_alike n s a.alike ∙ ap (λ (xs : List Segment). length xs) e ∙ sym l)

-- what is said of lists that were lent is said of those that lent them
pub said : (P : List Segment → List Segment → List Logged → List Item → List ℕ → Type 0) (o s n back : List Segment)
    (ev ev2 : List Logged) (it it2 : List Item) (la la2 : List ℕ) → s ≡ o → back ≡ n → ev2 ≡ ev → it2 ≡ it → la2 ≡ la →
    P s n ev2 it2 la2 → P o back ev it la
said P o s n back ev ev2 it it2 la la2 es eb ee ei el h =
    subst (λ (x : List Segment). P x back ev it la) es
    (subst (λ (x : List Segment). P s x ev it la) (sym eb)
    (subst (λ (x : List Logged). P s n x it la) ee
    (subst (λ (x : List Item). P s n ev2 x la) ei
    (subst (λ (x : List ℕ). P s n ev2 it2 x) el h))))

pub same_lent : (old new : Evaluations) (s n : List Segment) → s ≡ old.segments.items → new.segments.items ≡ n → AreAlike s n →
    new.events.items ≡ old.events.items → new.items.items ≡ old.items.items → new.large.items ≡ old.large.items →
    new.levels.items ≡ old.levels.items → new.loose.items ≡ old.loose.items → IsSameLog old new
same_lent old new s n es eb a ee ei el ev eo =
    let b = subst (λ (x : List Segment). AreAlike x new.segments.items) es (subst (λ (x : List Segment). AreAlike s x) (sym eb) a) in
    record {
      events = ee;
      items = ei;
      large = el;
      levels = ev;
      alike = b.alike;
      harm = b.harm;
      loose = eo;
      lows = b.lows;
      nodes = b.nodes;
    }

pub taken_lent : (old new : Evaluations) (at : ℕ) (s n : List Segment) → s ≡ old.segments.items → new.segments.items ≡ n → IsGone s n at →
    new.events.items ≡ old.events.items → new.items.items ≡ old.items.items → new.large.items ≡ old.large.items →
    new.levels.items ≡ old.levels.items → new.loose.items ≡ old.loose.items → IsTaken old new at
taken_lent old new at s n es eb t ee ei el ev eo =
    let b = subst (λ (x : List Segment). IsGone x new.segments.items at) es (subst (λ (x : List Segment). IsGone s x at) (sym eb) t) in
    record {
      same = same_lent old new s n es eb t.same ee ei el ev eo;
      gone = b.gone;
      others = b.others;
    }
