-- What is found first, where nothing was found before.
use Rattle.std.proofs.Common.{◌≡◌, ℕ, suc, ◌+◌, Bool, true, false, if◌then◌else◌, List, [], ◌∷◌, Option, Some, None, refl, sym, ap, ◌∙◌, arith}
use Rattle.ub_base.specs.declared.clause.Kind.{Kind}
use Rattle.ub_base.specs.declared.clause.Kind.TheVariants.{Val}
use Rattle.c_model.specs.FirstFinding.{Finding, Pair, Raced, Order_dependent, found_from, found_in, open_on_top, shown_at}
use Rattle.c_model.specs.Moments.{Open}
use Rattle.c_model.specs.Runs.{Entry, Outcome, Running, State, canonical_pick, step}
use Rattle.c_model.specs.Steps.{Begun, Local}
use Rattle.c_model.specs.World.{World}
use Rattle.evaluation_log.specs.declared.found.Found.{Found}
use Rattle.finding_laws.specs.FirstPairs.{pair_told}
use Rattle.finding_laws.proofs.FirstPairs.{first_found}
use Rattle.telling_laws.specs.FirstFound.{IsFoundIn, place_in}
use Rattle.detector_laws.specs.Looked.{none, more, IsFree, IsFreeIn, FreePicksPass, LastPickTells, ConflictIsFirst, finding_of, looked_at}

-- nothing is found in a full expression in which nothing is
passes_by : (world : World) (trace : List Entry) (o : Open) (picks : ℕ) (later : Finding) → IsFree world.rows o →
    found_in world trace (o ∷ []) picks later ≡ later
passes_by world trace o picks later g =
    (first_found world trace o (record { node = 0; kind = some_kind }) (record { node = 0; kind = some_kind }) picks later).2 g.raceless g.quarrelless
  where
    some_kind : Kind
    some_kind = Val

top_passes : (world : World) (trace : List Entry) (f : Local) (o : Option Begun) (picks : ℕ) (later : Finding) → IsFreeIn world trace f.scene o →
    found_in world trace (open_on_top world trace f o) picks later ≡ later
top_passes world trace f None picks later g = refl
top_passes world trace f (Some e) picks later g = passes_by world trace (looked_at world trace f.scene e) picks later g

-- one pick more
pick_tells : (world : World) (st : State) (n left : ℕ) (o : Outcome) → step world st (canonical_pick world st.top st.top.begun) ≡ o →
    found_from world (suc left) n st ≡ shown_at world st o n (found_from world left (suc n))
pick_tells world st n left o q = ap (λ z. shown_at world st z n (found_from world left (suc n))) q

more_left : (world : World) (first : State) (n left : ℕ) → found_from world (n + suc left) 0 first ≡ found_from world (suc n + left) 0 first
more_left world first n left = ap (λ z. found_from world z 0 first) (let e : n + suc left ≡ suc n + left = omega arith in e)

pub free_picks_pass : FreePicksPass
free_picks_pass world first _ _ left none = ap (λ z. found_from world z 0 first) (let e : 0 + left ≡ left = omega arith in e)
free_picks_pass world first _ _ left (more n st next before q g) =
    sym (more_left world first n left)
    ∙ free_picks_pass world first st n (suc left) before
    ∙ pick_tells world st n left (Running next) q
    ∙ top_passes world next.trace next.top next.top.begun (suc n) (found_from world left (suc n) next) g

pub last_pick_tells : LastPickTells
last_pick_tells world first st n left o before q =
    free_picks_pass world first st n (suc left) before ∙ pick_tells world st n left o q

-- ---- a conflict on the way
found_by : (world : World) (trace : List Entry) (o : Open) (picks : ℕ) (later : Finding) (f : Found) → IsFoundIn world.rows o (Some f) →
    found_in world trace (o ∷ []) picks later ≡ finding_of world trace o picks f
found_by world trace o picks later f found = by_race f.race refl
  where
    pair : Pair
    pair = pair_told world trace o (place_in f.event) (place_in f.against)

    by_race : (b : Bool) → f.race ≡ b → found_in world trace (o ∷ []) picks later ≡ finding_of world trace o picks f
    by_race true r =
        (first_found world trace o (place_in f.event) (place_in f.against) picks later).0 (found.0 r)
        ∙ sym (ap (λ b. if b then Raced pair picks else Order_dependent pair picks) r)
    by_race false r =
        (first_found world trace o (place_in f.event) (place_in f.against) picks later).1 (found.1 r).0 (found.1 r).1
        ∙ sym (ap (λ b. if b then Raced pair picks else Order_dependent pair picks) r)

pub conflict_is_first : ConflictIsFirst
conflict_is_first world first st next n left e f before q is found =
    last_pick_tells world first st n left (Running next) before q
    ∙ ap (λ z. found_in world next.trace (open_on_top world next.trace next.top z) (suc n) (found_from world left (suc n) next)) is
    ∙ found_by world next.trace (looked_at world next.trace next.top.scene e) (suc n) (found_from world left (suc n) next) f found
