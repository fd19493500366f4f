-- What is read of the rows of a parse.
use Rattle.std.proofs.Common.{◌≡◌, ℕ, List, Option, Some, None, Ok, Err, max, min, refl}
use Rattle.std.specs.Prelude.{unwrap_or}
use Rattle.std.specs.Str.Parse.{ParsesUnsigned, ExplainsUnsignedError, HasUnsignedDigitsIfOk}
use Rattle.clap.specs.Matches.{ReadsOne}
use Rattle.command.specs.Asked.{Spells}

pub spells : (least most : ℕ) (text : Option (List ℕ)) (given : Option ℕ) → (text ≡ None → given ≡ None)
    → ((t : List ℕ) → text ≡ Some t
    → ReadsOne (λ bs r. ParsesUnsigned 64 10 bs r × ExplainsUnsignedError 10 bs r × HasUnsignedDigitsIfOk bs r) t given)
    → Spells least most text (max (min (unwrap_or given 0) most) least)
spells least most None None none value = refl
spells least most None (Some n) none value = let bad = none refl in absurd (cc)
spells least most (Some t) (Some n) none value = (Ok n, (value t refl).0, refl)
spells least most (Some t) None none value = (Err tt, ((value t refl).1).0, refl)
