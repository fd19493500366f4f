-- A text falls apart at a byte in one way.
use Rattle.std.proofs.Common.{
  ◌≡◌,
  ◌≤◌,
  ◌<◌,
  ◌^◌,
  ◌+◌,
  ℕ,
  zero,
  suc,
  List,
  [],
  ◌∷◌,
  ◌++◌,
  length,
  get_or,
  refl,
  sym,
  ◌∙◌,
  ap,
  subst,
  arith,
  decimal,
  codes,
  Contains,
  append_assoc,
  Result,
  Ok,
  Err,
}
use Rattle.std.specs.Str.Parse.{AllDigits, ParsesUnsigned}
use Rattle.std.specs.Char.{digit_value}
use Rattle.std.proofs.lemmas.Str.Parse.{digit_from_value}
use Rattle.std.proofs.lemmas.Fmt.{decimal_is_IsNumeral, decimal_injective, parse-decimal}
use Rattle.c_names.specs.Names.{IsStep}
use Rattle.c_names.specs.Texts.{step_text}
use Rattle.c_names.specs.Parts.{Lacks, AtByte, IsNoNumber, BeginsWithNoNumber, BeginsWithNoStep}

pub Lacks-from : (b : ℕ) (xs : List ℕ) → (Contains xs b → ⊥) → Lacks b xs
Lacks-from b [] h = tt
Lacks-from b (x ∷ xs) h = (λ e. h (0, omega arith, e), Lacks-from b xs (λ c. h (suc c.0, omega (arith, c.1), c.2)))

pub Contains-at : (b : ℕ) (xs ys : List ℕ) → Contains (xs ++ b ∷ ys) b
Contains-at b [] ys = (0, omega arith, refl)
Contains-at b (x ∷ xs) ys = let c = Contains-at b xs ys in (suc c.0, omega (arith, c.1), c.2)

pub Lacks-append : (b : ℕ) (xs ys : List ℕ) → Lacks b xs → Lacks b ys → Lacks b (xs ++ ys)
Lacks-append b [] ys h k = k
Lacks-append b (x ∷ xs) ys h k = (h.0, Lacks-append b xs ys h.1 k)

-- what stands before the byte or the end, and what stands from there on
pub front_once : (b : ℕ) (a c m n : List ℕ) → Lacks b a → Lacks b c → AtByte b m → AtByte b n → a ++ m ≡ c ++ n → (a ≡ c) × (m ≡ n)
front_once b [] [] m n h k p q e = (refl, e)
front_once b [] (y ∷ c) [] n h k p q e = absurd (cc)
front_once b [] (y ∷ c) (x ∷ m) n h k p q e = let f : x ≡ y = cc in absurd (k.0 (sym f ∙ p))
front_once b (x ∷ a) [] m [] h k p q e = absurd (cc)
front_once b (x ∷ a) [] m (y ∷ n) h k p q e = let f : x ≡ y = cc in absurd (h.0 (f ∙ q))
front_once b (x ∷ a) (y ∷ c) m n h k p q e =
    let heads : x ≡ y = cc in
    let tails : a ++ m ≡ c ++ n = cc in
    let r = front_once b a c m n h.1 k.1 p q tails in
    ((λ i. heads i ∷ r.0 i), r.1)

pub cut_once : (b : ℕ) (a c m n : List ℕ) → Lacks b a → Lacks b c → a ++ b ∷ m ≡ c ++ b ∷ n → (a ≡ c) × (m ≡ n)
cut_once b a c m n h k e =
    let r = front_once b a c (b ∷ m) (b ∷ n) h k refl refl e in
    let tails : b ∷ m ≡ b ∷ n = r.1 in
    (r.0, cc)

digits_lack : (b : ℕ) (ds : List ℕ) → ((48 ≤ b) → (b ≤ 57) → ⊥) → AllDigits 10 ds → Lacks b ds
digits_lack b [] out h = tt
digits_lack b (d ∷ ds) out h =
    let range = digit_from_value d h.0 in
    ((λ e. out (omega (arith, range)) (omega (arith, range))), digits_lack b ds out h.1)

-- a number's text has no space, slash or colon
pub decimal_lacks : (b n : ℕ) → ((48 ≤ b) → (b ≤ 57) → ⊥) → n < 2 ^ 64 → Lacks b (decimal n)
decimal_lacks b n out h = digits_lack b (decimal n) out (decimal_is_IsNumeral n h).0.1

pub apart : (m n : ℕ) → n < m → m ≡ n → ⊥
apart m n h e = absurd (omega arith)

pub space_out : (48 ≤ 32) → (32 ≤ 57) → ⊥
space_out a b = absurd (omega arith)

pub slash_out : (48 ≤ 47) → (47 ≤ 57) → ⊥
slash_out a b = absurd (omega arith)

pub colon_out : (48 ≤ 58) → (58 ≤ 57) → ⊥
colon_out a b = absurd (omega arith)

-- a text that wasn't parsed is no number's
pub IsNoNumber-from_parse : {E : Type 0} (text : List ℕ) (r : Result ℕ E) (e : E) → ParsesUnsigned 64 10 text r → r ≡ Err e → IsNoNumber (2 ^ 64) text
IsNoNumber-from_parse text r e p is n h same =
    let read : r ≡ Ok n = parse-decimal 64 n text r h h (sym same) p in
    absurd (cc)

-- nor one that was parsed to a number with another text
pub IsNoNumber-from_other : {E : Type 0} (text : List ℕ) (r : Result ℕ E) (v : ℕ) → ParsesUnsigned 64 10 text r → r ≡ Ok v →
    (decimal v ≡ text → ⊥) → IsNoNumber (2 ^ 64) text
IsNoNumber-from_other text r v p is other n h same =
    let read : r ≡ Ok n = parse-decimal 64 n text r h h (sym same) p in
    let value : n ≡ v = cc in
    other (ap decimal (sym value) ∙ same)

-- nor a small number's, one that is a large number's
pub IsNoNumber-from_large : (text : List ℕ) (v : ℕ) → v < 2 ^ 64 → 2 ^ 32 ≤ v → decimal v ≡ text → IsNoNumber (2 ^ 32) text
IsNoNumber-from_large text v fits large is n h same =
    let value : v ≡ n = decimal_injective v n fits (omega arith) (is ∙ sym same) in
    absurd (omega arith)

pub BeginsWithNoNumber-from_cut : (bound : ℕ) (text : List ℕ) → (Contains text 32 → ⊥) → BeginsWithNoNumber bound text
BeginsWithNoNumber-from_cut bound text none n rest h e = none (subst (λ t. Contains t 32) e (Contains-at 32 (decimal n) rest))

pub BeginsWithNoNumber-from_front : (bound : ℕ) (text front rest : List ℕ) → bound ≤ 2 ^ 64 → text ≡ front ++ 32 ∷ rest →
    (Contains front 32 → ⊥) → IsNoNumber bound front → BeginsWithNoNumber bound text
BeginsWithNoNumber-from_front bound text front rest le is lacks none n more h e =
    let parts = cut_once 32 (decimal n) front more rest (decimal_lacks 32 n space_out (omega arith)) (Lacks-from 32 front lacks) (e ∙ is) in
    none n h parts.0

-- the text of one number and a space, and a number that begins it
pub number_once : (m n : ℕ) (p q : List ℕ) → m < 2 ^ 64 → n < 2 ^ 64 → decimal m ++ 32 ∷ p ≡ decimal n ++ 32 ∷ q → (m ≡ n) × (p ≡ q)
number_once m n p q h k e =
    let parts = cut_once 32 (decimal m) (decimal n) p q (decimal_lacks 32 m space_out h) (decimal_lacks 32 n space_out k) e in
    (decimal_injective m n h k parts.0, parts.1)

step_parts : (s : ℕ × ℕ) (rest : List ℕ) → step_text s ++ rest ≡ 47 ∷ (decimal s.0 ++ 58 ∷ (decimal s.1 ++ rest))
step_parts s rest = ap (λ t. 47 ∷ t) (append_assoc (decimal s.0) (58 ∷ decimal s.1) rest)

pub step_once : (s t : ℕ × ℕ) (m n : List ℕ) → IsStep s → IsStep t → AtByte 47 m → AtByte 47 n → step_text s ++ m ≡ step_text t ++ n → (s ≡ t) × (m ≡ n)
step_once s t m n h k p q e =
    let whole : 47 ∷ (decimal s.0 ++ 58 ∷ (decimal s.1 ++ m)) ≡ 47 ∷ (decimal t.0 ++ 58 ∷ (decimal t.1 ++ n)) = sym (step_parts s m) ∙ e ∙ step_parts t n in
    let inner : decimal s.0 ++ 58 ∷ (decimal s.1 ++ m) ≡ decimal t.0 ++ 58 ∷ (decimal t.1 ++ n) = cc in
    let turns = cut_once 58 (decimal s.0) (decimal t.0) (decimal s.1 ++ m) (decimal t.1 ++ n) (decimal_lacks 58 s.0 colon_out h.0)
    (decimal_lacks 58 t.0 colon_out k.0) inner in
    let nodes = front_once 47 (decimal s.1) (decimal t.1) m n (decimal_lacks 47 s.1 slash_out (omega (arith, h.1)))
    (decimal_lacks 47 t.1 slash_out (omega (arith, k.1))) p q turns.1 in
    let first : s.0 ≡ t.0 = decimal_injective s.0 t.0 h.0 k.0 turns.0 in
    let second : s.1 ≡ t.1 = decimal_injective s.1 t.1 (omega (arith, h.1)) (omega (arith, k.1)) nodes.0 in
    ((λ i. (first i, second i)), nodes.1)

-- where no step begins the text: no slash, no colon in the piece, no number before or behind it
pub BeginsWithNoStep-from_slash : (text : List ℕ) → ((rest : List ℕ) → text ≡ 47 ∷ rest → ⊥) → BeginsWithNoStep text
BeginsWithNoStep-from_slash text none s rest h at e = none _ (sym e ∙ step_parts s rest)

piece_of : (text piece more : List ℕ) (s : ℕ × ℕ) (rest : List ℕ) → text ≡ 47 ∷ (piece ++ more) → (Contains piece 47 → ⊥) → AtByte 47 more → IsStep s →
    AtByte 47 rest → step_text s ++ rest ≡ text
    → piece ≡ decimal s.0 ++ 58 ∷ decimal s.1
piece_of text piece more s rest is lacks at h here e =
    let whole : 47 ∷ (piece ++ more) ≡ 47 ∷ ((decimal s.0 ++ 58 ∷ decimal s.1) ++ rest) = sym is ∙ sym e in
    let inner : piece ++ more ≡ (decimal s.0 ++ 58 ∷ decimal s.1) ++ rest = cc in
    let slash : 58 ≡ 47 → ⊥ = apart 58 47 (omega arith) in
    let none = Lacks-append 47 (decimal s.0) (58 ∷ decimal s.1) (decimal_lacks 47 s.0 slash_out h.0)
    (slash, decimal_lacks 47 s.1 slash_out (omega (arith, h.1))) in
    (front_once 47 piece (decimal s.0 ++ 58 ∷ decimal s.1) more rest (Lacks-from 47 piece lacks) none at here inner).0

module _ (text piece more : List ℕ) (is : text ≡ 47 ∷ (piece ++ more)) (lacks : Contains piece 47 → ⊥) (at : AtByte 47 more) where
  pub BeginsWithNoStep-from_colon : (Contains piece 58 → ⊥) → BeginsWithNoStep text
  BeginsWithNoStep-from_colon none s rest h here e =
      none (subst (λ p. Contains p 58) (sym (piece_of text piece more s rest is lacks at h here e)) (Contains-at 58 (decimal s.0) (decimal s.1)))

  parts_of : (turn node : List ℕ) → piece ≡ turn ++ 58 ∷ node → (Contains turn 58 → ⊥) → (s : ℕ × ℕ) (rest : List ℕ) → IsStep s → AtByte 47 rest →
      step_text s ++ rest ≡ text
      → (decimal s.0 ≡ turn) × (decimal s.1 ≡ node)
  parts_of turn node parts before s rest h here e =
      cut_once 58 (decimal s.0) turn (decimal s.1) node (decimal_lacks 58 s.0 colon_out h.0) (Lacks-from 58 turn before)
      (sym (piece_of text piece more s rest is lacks at h here e) ∙ parts)

  pub BeginsWithNoStep-from_turn : (turn node : List ℕ) → piece ≡ turn ++ 58 ∷ node → (Contains turn 58 → ⊥) → IsNoNumber (2 ^ 64) turn → BeginsWithNoStep text
  BeginsWithNoStep-from_turn turn node parts before none s rest h here e = none s.0 h.0 (parts_of turn node parts before s rest h here e).0

  pub BeginsWithNoStep-from_node : (turn node : List ℕ) → piece ≡ turn ++ 58 ∷ node → (Contains turn 58 → ⊥) → IsNoNumber (2 ^ 32) node → BeginsWithNoStep text
  BeginsWithNoStep-from_node turn node parts before none s rest h here e = none s.1 h.1 (parts_of turn node parts before s rest h here e).1

  -- and where one does
  pub step_text-from : (turn node : List ℕ) (s : ℕ × ℕ) → piece ≡ turn ++ 58 ∷ node → decimal s.0 ≡ turn → decimal s.1 ≡ node → step_text s ++ more ≡ text
  step_text-from turn node s parts first second =
      let piece_is : decimal s.0 ++ 58 ∷ decimal s.1 ≡ piece = (λ i. first i ++ 58 ∷ second i) ∙ sym parts in
      ap (λ p. 47 ∷ (p ++ more)) piece_is ∙ sym is
