-- The blocks that are open, after each change of the innermost one.
use Rattle.std.proofs.Common.{◌≡◌, ℕ, zero, suc, ◌<◌, ◌≤◌, ◌-◌, List, [], ◌∷◌, ◌++◌, length, map, reverse, refl, sym, ap, ◌∙◌, Some, arith}
use Rattle.std.specs.Prelude.{Result, Ok, Err, OnErr, slice_get, slice_set, get_or}
use Rattle.std.proofs.lemmas.List.{map-append, reverse-append}
use Rattle.std.proofs.lemmas.Option.{none-some, same_Some, slice_get_read}
use Rattle.typing_env.specs.Env.{OpenBlock as Seen}
use Rattle.c_types.specs.Types.{Qualified, qualified_of}
use Rattle.c_types.specs.declared.ty.Qual.{Qual}
use Rattle.typing_env.specs.Tasks.{innermost, with_innermost, retyped_in}
use Rattle.type_scope.specs.declared.task.OpenBlock.{OpenBlock}
use Rattle.type_scope.specs.Working.{block_seen}

-- one more, which is the innermost
pub one_more : (b : OpenBlock) (bs : List OpenBlock) → reverse (map block_seen (bs ++ b ∷ [])) ≡ block_seen b ∷ reverse (map block_seen bs)
one_more b bs = ap reverse (map-append block_seen bs (b ∷ [])) ∙ reverse-append (map block_seen bs) (block_seen b ∷ [])

one_less : (n : ℕ) → suc n - 1 ≡ n
one_less n = omega arith

-- the last one stands behind the first
behind : (a c : OpenBlock) (cs : List OpenBlock) (b : OpenBlock) → slice_get (a ∷ c ∷ cs) (length (a ∷ c ∷ cs) - 1) ≡ Some b
    → slice_get (c ∷ cs) (length (c ∷ cs) - 1) ≡ Some b
behind a c cs b is =
    ap (slice_get (c ∷ cs)) (one_less (length cs)) ∙ sym (ap (slice_get (a ∷ c ∷ cs)) (one_less (suc (length cs)))) ∙ is

set_behind : (a c : OpenBlock) (cs : List OpenBlock) (now : OpenBlock)
    → slice_set (a ∷ c ∷ cs) (length (a ∷ c ∷ cs) - 1) now ≡ a ∷ slice_set (c ∷ cs) (length (c ∷ cs) - 1) now
set_behind a c cs now =
    ap (λ n. slice_set (a ∷ c ∷ cs) n now) (one_less (suc (length cs)))
    ∙ sym (ap (λ n. a ∷ slice_set (c ∷ cs) n now) (one_less (length cs)))

-- a list is what stands before its last item, and that item
split : (bs : List OpenBlock) (b : OpenBlock) → slice_get bs (length bs - 1) ≡ Some b
    → (front : List OpenBlock) × (bs ≡ front ++ b ∷ []) × ((now : OpenBlock) → slice_set bs (length bs - 1) now ≡ front ++ now ∷ [])
split [] b is = absurd (none-some b is)
split (a ∷ []) b is = ([], ap (λ x. x ∷ []) (same_Some a b is), λ now. refl)
split (a ∷ c ∷ cs) b is =
    let p = split (c ∷ cs) b (behind a c cs b is) in
    (a ∷ p.0, ap (λ bs. a ∷ bs) p.1, λ now. set_behind a c cs now ∙ ap (λ bs. a ∷ bs) (p.2 now))

-- .. and another one in its place
changed_last : (f : Seen → Seen) (bs : List OpenBlock) (b now : OpenBlock) → slice_get bs (length bs - 1) ≡ Some b → block_seen now ≡ f (block_seen b)
    → reverse (map block_seen (slice_set bs (length bs - 1) now)) ≡ with_innermost f (reverse (map block_seen bs))
changed_last f bs b now is e =
    let p = split bs b is in
    ap (λ xs. reverse (map block_seen xs)) (p.2 now)
    ∙ one_more now p.0
    ∙ ap (λ s. s ∷ reverse (map block_seen p.0)) e
    ∙ sym (ap (λ xs. with_innermost f (reverse (map block_seen xs))) p.1 ∙ ap (with_innermost f) (one_more b p.0))

-- the same of a list of known length
last_of : (bs : List OpenBlock) (n : ℕ) (b : OpenBlock) → n ≡ length bs → 0 < n → b ≡ get_or bs (n - 1) b → slice_get bs (length bs - 1) ≡ Some b
last_of bs n b e some is = sym (ap (λ k. slice_get bs (k - 1)) e) ∙ slice_get_read bs n (n - 1) b e (omega arith) is

pub changed_is : (f : Seen → Seen) (bs : List OpenBlock) (n : ℕ) (b now : OpenBlock) → n ≡ length bs → 0 < n → b ≡ get_or bs (n - 1) b
    → block_seen now ≡ f (block_seen b)
    → reverse (map block_seen (slice_set bs (n - 1) now)) ≡ with_innermost f (reverse (map block_seen bs))
changed_is f bs n b now e some is same =
    ap (λ k. reverse (map block_seen (slice_set bs (k - 1) now))) e ∙ changed_last f bs b now (last_of bs n b e some is) same

-- an object of a block has another type
pub retyped_set : (n : ℕ) (q : Qual) (qs : List Qual) → n < length qs
    → map qualified_of (slice_set qs n q) ≡ retyped_in n (qualified_of q) (map qualified_of qs)
retyped_set n q [] less = absurd (omega arith)
retyped_set zero q (p ∷ ps) less = refl
retyped_set (suc n) q (p ∷ ps) less = ap (λ (rs : List Qualified). qualified_of p ∷ rs) (retyped_set n q ps (omega arith))

-- .. and none, where there is no such object
pub retyped_none : (n : ℕ) (q : Qualified) (qs : List Qual) → length qs ≤ n → map qualified_of qs ≡ retyped_in n q (map qualified_of qs)
retyped_none n q [] more = refl
retyped_none zero q (p ∷ ps) more = absurd (omega arith)
retyped_none (suc n) q (p ∷ ps) more = ap (λ (rs : List Qualified). qualified_of p ∷ rs) (retyped_none n q ps (omega arith))

pub given_err : {T E P : Type 0} (r : Result T E) → P → OnErr r P
given_err (Ok t) p = tt
given_err (Err e) p = p
