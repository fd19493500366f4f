-- An event of a part of a listing is one of the listing, so that what it names is there.
use Rattle.std.proofs.Common.{◌≡◌, ℕ, ◌-◌, List, drop, Option, Some, None, slice_get, refl, sym, subst}
use Rattle.std.specs.Borrow.{Bor}
use Rattle.std.specs.List.{All}
use Rattle.std.specs.Option.{IfSome}
use Rattle.std.proofs.lemmas.List.Elements.{All-get_or, All-take, All-drop}
use Rattle.std.proofs.lemmas.Option.{get_or_from_slice_get, slice_get_within}
use Rattle.c_typed.specs.Order.{Taken}
use Rattle.run_layout.specs.declared.steps.Due.{Due}
use Rattle.run_layout.specs.declared.steps.Listed.{Listed}
use Rattle.run_layout.specs.declared.steps.Listed.TheVariants.{Event}
use Rattle.run_layout.specs.declared.tables.Tables.{Tables}
use Rattle.run_layout.specs.Named.{IsDueOf, IsListedOf}
use Rattle.run_listing.specs.Along.{part_of, Next, IsListed}

-- what holds of each element holds of this one
pub each_at : {A : Type 0} (P : A → Type 0) (xs : List A) (i : ℕ) (x : A) → slice_get xs i ≡ Some x → All P xs → P x
each_at P xs i x h all = subst P (get_or_from_slice_get xs i x x h) (All-get_or P xs i x (slice_get_within xs i x h) all)

-- what holds of each entry holds of each one of a part
of_part : (P : Listed → Type 0) (listing es : List Listed) (from to : ℕ) → es ≡ part_of listing from to → All P listing → All P es
of_part P listing es from to part all = subst (All P) (sym part) (All-take P (to - from) (drop from listing) (All-drop P from listing all))

pub named_listed : (tables : Tables) (listing es : List Listed) (from to : ℕ) (due : Due) → es ≡ part_of listing from to →
    All (IsListedOf tables) listing → IsListed es due → IsDueOf tables due
named_listed tables listing es from to due part all at =
    each_at (IsListedOf tables) es at.0 (Event due) at.1 (of_part (IsListedOf tables) listing es from to part all) due refl

pub named_next : (tables : Tables) (listing es : List Listed) (from to : ℕ) (taken : Taken) (found : Option (ℕ × Bor Due)) → es ≡ part_of listing from to →
    All (IsListedOf tables) listing → Next taken es found → IfSome found (λ f. IsDueOf tables f.1.now)
named_next tables listing es from to taken None part all next = tt
named_next tables listing es from to taken (Some f) part all next = named_listed tables listing es from to f.1.now part all (f.0, next.0)

pub named_found : (tables : Tables) (listing es : List Listed) (from to : ℕ) (found : Option (Bor Due)) → es ≡ part_of listing from to →
    All (IsListedOf tables) listing → IfSome found (λ due. IsListed es due.now) → IfSome found (λ due. IsDueOf tables due.now)
named_found tables listing es from to None part all at = tt
named_found tables listing es from to (Some due) part all at = named_listed tables listing es from to due.now part all at
