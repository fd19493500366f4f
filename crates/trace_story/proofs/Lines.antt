-- Entries that are told one by one.
use Rattle.std.proofs.Common.{◌≡◌, ◌∙◌, ◌<◌, ◌+◌, ℕ, sym, ap, List, [], ◌∷◌, ◌++◌, length, get_or, take, map}
use Rattle.std.proofs.lemmas.List.{map-append}
use Rattle.std.proofs.lemmas.Grind.{take_at_read}

-- one more entry for one more item
pub next_mark : {X Y M : Type 0} (f : X → M) (g : Y → M) (old new : List X) (ys : List Y) (i : ℕ) (x : X) (d y : Y) → i < length ys → y ≡ get_or ys i d
    → new ≡ old ++ x ∷ [] → f x ≡ g y → map f old ≡ map g (take i ys) → map f new ≡ map g (take (i + 1) ys)
next_mark f g old new ys i x d y l at n is h =
    ap (map f) n ∙ map-append f old (x ∷ []) ∙ (λ k. h k ++ is k ∷ []) ∙ sym (map-append g (take i ys) (y ∷ []))
    ∙ ap (map g) (sym ((take_at_read ys i d l).1 ∙ ap (λ z. take i ys ++ z ∷ []) (sym at)))
