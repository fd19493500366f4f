-- How texts grow piece by piece.
use Rattle.std.proofs.Common.{◌≡◌, ℕ, List, ◌++◌, Result, Ok, Err, OnOk, ap, ◌∙◌, append_assoc}

pub on_ok : {T E P Q : Type 0} (result : Result T E) → (P → Q) → OnOk result P → OnOk result Q
on_ok (Ok x) f p = f p
on_ok (Err e) f p = p

-- words, digits and a tail
pub line_grown : (old words digits tail middle new : List ℕ) → middle ≡ old ++ (words ++ digits) → new ≡ middle ++ tail
    → new ≡ old ++ (words ++ (digits ++ tail))
line_grown old words digits tail middle new counted grown = grown ∙ (ap (λ m. m ++ tail) counted ∙ simp append_assoc)

-- two counts, a line feed and an output
pub counts_grown : (old words digits others more feed output first second third new : List ℕ) → first ≡ old ++ (words ++ digits)
    → second ≡ first ++ (others ++ more) → third ≡ second ++ feed → new ≡ third ++ output
    → new ≡ old ++ (words ++ (digits ++ (others ++ (more ++ (feed ++ output)))))
counts_grown old words digits others more feed output first second third new a b c d =
    d ∙ (ap (λ m. m ++ output) (c ∙ ap (λ m. m ++ feed) (b ∙ ap (λ m. m ++ (others ++ more)) a)) ∙ simp append_assoc)
