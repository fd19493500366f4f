-- Declarations one by one: which is visible, and what is left.
use Rattle.std.proofs.Common.{
  ◌≡◌,
  ℕ,
  ◌<◌,
  ◌≤◌,
  ◌==◌,
  Bool,
  true,
  false,
  if◌then◌else◌,
  nat_lt,
  nat_le,
  List,
  [],
  ◌∷◌,
  ◌++◌,
  Option,
  Some,
  None,
  refl,
  sym,
  ap,
  ◌∙◌,
}
use Rattle.std.specs.List.{All}
use Rattle.std.proofs.lemmas.List.Elements.{All-head, All-tail}
use borrow.Author.Tests.{lt-ltb, le-ltb, leb-true, leb-false}
use Rattle.type_name_space.specs.Scopes.{Declared, or_else, visible, kept, left, ends_at, InnerHides, EndRestores}

or_if : {M : Type 0} (t : Bool) (x : Declared M) (o p : Option (Declared M)) → or_else (if t then Some x else o) p ≡ (if t then Some x else or_else o p)
or_if true x o p = refl
or_if false x o p = refl

pub hides : {M : Type 0} → InnerHides M
hides symbol [] d = refl
hides symbol (e ∷ ds) d =
    ap (λ o. or_else o (if e.symbol == symbol then Some e else None)) (hides symbol ds d)
    ∙ or_if (d.symbol == symbol) d (visible symbol ds) (if e.symbol == symbol then Some e else None)

kept_more : {M : Type 0} (depth : ℕ) (e : Declared M) (ds : List (Declared M)) (d : Declared M) → kept depth e (ds ++ d ∷ []) ≡ e ∷ (ds ++ d ∷ [])
kept_more depth e [] d = refl
kept_more depth e (a ∷ ds) d = refl

kept_if : {M : Type 0} (t : Bool) (depth : ℕ) (e : Declared M) (ds : List (Declared M)) (d : Declared M) →
    kept depth e (if t then ds ++ d ∷ [] else left depth ds) ≡ (if t then e ∷ (ds ++ d ∷ []) else kept depth e (left depth ds))
kept_if true depth e ds d = kept_more depth e ds d
kept_if false depth e ds d = refl

pub left_last : {M : Type 0} (depth : ℕ) (ds : List (Declared M)) (d : Declared M) →
    left depth (ds ++ d ∷ []) ≡ (if nat_lt d.depth depth then ds ++ d ∷ [] else left depth ds)
left_last depth [] d = refl
left_last depth (e ∷ ds) d = ap (kept depth e) (left_last depth ds d) ∙ kept_if (nat_lt d.depth depth) depth e ds d

pub ends_last : {M : Type 0} (depth : ℕ) (ds : List (Declared M)) (d : Declared M) → ends_at depth (ds ++ d ∷ []) ≡ nat_le depth d.depth
ends_last depth [] d = refl
ends_last depth (e ∷ []) d = refl
ends_last depth (e ∷ f ∷ ds) d = ends_last depth (f ∷ ds) d

-- what ends in an outer scope stays as it is
kept_whole : {M : Type 0} (depth : ℕ) (e : Declared M) (ds : List (Declared M)) → nat_lt e.depth depth ≡ true → kept depth e ds ≡ e ∷ ds
kept_whole depth e [] h = ap (λ t. if t then e ∷ [] else []) h
kept_whole depth e (d ∷ ds) h = refl

ended : {M : Type 0} (depth : ℕ) (ds : List (Declared M)) → All (λ d. depth ≤ d.depth) ds → left depth ds ≡ []
ended depth [] h = refl
ended {M} depth (d ∷ ds) h =
    ap (kept depth d) (ended depth ds (All-tail (λ (x : Declared M). depth ≤ x.depth) d ds h))
    ∙ ap (λ t. if t then d ∷ [] else []) (le-ltb d.depth depth (All-head (λ (x : Declared M). depth ≤ x.depth) d ds h))

pub restores : {M : Type 0} → EndRestores M
restores depth [] inner o i = ended depth inner i
restores {M} depth (d ∷ outer) inner o i =
    ap (kept depth d) (restores depth outer inner (All-tail (λ (x : Declared M). x.depth < depth) d outer o) i)
    ∙ kept_whole depth d outer (lt-ltb d.depth depth (All-head (λ (x : Declared M). x.depth < depth) d outer o))

-- the newest, of an inner scope, isn't left
pub left_inner : {M : Type 0} (depth : ℕ) (ds : List (Declared M)) (d : Declared M) → ends_at depth (ds ++ d ∷ []) ≡ true →
    left depth (ds ++ d ∷ []) ≡ left depth ds
left_inner depth ds d h =
    let b : nat_le depth d.depth ≡ true = sym (ends_last depth ds d) ∙ h in
    left_last depth ds d ∙ ap (λ t. if t then ds ++ d ∷ [] else left depth ds) (le-ltb d.depth depth (leb-true depth d.depth b))

-- where the newest is of an outer scope, all are left
pub left_whole : {M : Type 0} (depth : ℕ) (ds : List (Declared M)) → ends_at depth ds ≡ false → left depth ds ≡ ds
left_whole depth [] h = refl
left_whole depth (d ∷ []) h = ap (λ t. if t then d ∷ [] else []) (lt-ltb d.depth depth (leb-false depth d.depth h))
left_whole depth (d ∷ e ∷ ds) h = ap (kept depth d) (left_whole depth (e ∷ ds) h)
