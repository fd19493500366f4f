-- What the parts of a declarator make of a type, the last one first.
use Rattle.std.proofs.Common.{◌≡◌, ◌∙◌, ℕ, suc, Bool, true, false, refl, ap, sym, List, [], ◌∷◌, ◌++◌, length, map, reverse, Option, Some, true≢false, arith}
use Rattle.std.specs.Prelude.{◌==◌}
use Rattle.std.proofs.lemmas.Bool.{eqb-true, eq-eqb}
use Rattle.std.proofs.lemmas.List.{reverse-append, length-reverse}
use Rattle.c_types.specs.Types.{Qualified}
use Rattle.typing_env.specs.Env.{if_found}
use Rattle.typing_env.specs.Seen.{SeenTag}
use Rattle.typing_words.specs.Words.{derived_by, derived, limited}
use Rattle.type_declarators.specs.declared.declarator.Derivation.{Derivation}
use Rattle.typing_words.specs.Words as spec
use Rattle.type_declarators.proofs.Derived.{at_last, derived_is}
use Rattle.type_declarators.specs.Parts.{part_seen, parts_seen, applied, FitsCount, AllFit}

pub last_seen : (parts : List Derivation) (part : Derivation) → parts_seen (parts ++ part ∷ []) ≡ part_seen part ∷ parts_seen parts
last_seen parts part = ap (map part_seen) (reverse-append parts (part ∷ []))

pub fits_last : (parts : List Derivation) (part : Derivation) → AllFit (parts ++ part ∷ []) → AllFit parts × FitsCount part
fits_last [] part h = (tt, h.0)
fits_last (d ∷ ds) part h = let rest = fits_last ds part h.1 in ((h.0, rest.0), rest.1)

pub one_applied : (tags : List SeenTag) (all parts : List Derivation) (part : Derivation) (q : Qualified) (o : Option Qualified)
    → all ≡ parts ++ part ∷ [] → derived_by tags q (part_seen part) ≡ o
    → applied tags (parts_seen all) q ≡ if_found o (applied tags (parts_seen parts))
one_applied tags all parts part q o e is =
    ap (λ ds. applied tags ds q) (ap parts_seen e ∙ last_seen parts part) ∙ ap (λ x. if_found x (applied tags (parts_seen parts))) is

length_seen : (parts : List Derivation) → length (map part_seen parts) ≡ length parts
length_seen [] = refl
length_seen (d ∷ ds) = ap (λ (n : ℕ). suc n) (length_seen ds)

at_last_some : (ds : List spec.Derivation) (n : ℕ) (o : Option Qualified) → length ds ≡ suc n → at_last ds o ≡ limited o
at_last_some [] n o e = absurd (omega arith)
at_last_some (d ∷ ds) n o e = refl

-- where there is no part, nothing is derived
pub none_derived : (tags : List SeenTag) (parts slice : List Derivation) (q : Qualified) (b : Bool) → b ≡ (length slice == 0) → slice ≡ parts → b ≡ true
    → derived tags (parts_seen parts) q ≡ Some q
none_derived tags [] slice q b e same is = refl
none_derived tags (d ∷ ds) slice q b e same is =
    let none : length slice ≡ 0 = eqb-true (length slice) 0 (sym e ∙ is) in
    let some : length slice ≡ suc (length ds) = ap length same in
    absurd (omega arith)

-- where there is one, the last type is within the limits
pub some_derived : (tags : List SeenTag) (parts slice : List Derivation) (q : Qualified) (b : Bool) → b ≡ (length slice == 0) → slice ≡ parts → b ≡ false
    → derived tags (parts_seen parts) q ≡ limited (applied tags (parts_seen parts) q)
some_derived tags [] slice q b e same is =
    let none : length slice ≡ 0 = ap length same in
    absurd (true≢false (sym (eq-eqb (length slice) 0 none) ∙ sym e ∙ is))
some_derived tags (d ∷ ds) slice q b e same is =
    derived_is tags (parts_seen (d ∷ ds)) q
    ∙ at_last_some (parts_seen (d ∷ ds)) (length ds) (applied tags (parts_seen (d ∷ ds)) q) (length_seen (reverse (d ∷ ds)) ∙ length-reverse (d ∷ ds))
