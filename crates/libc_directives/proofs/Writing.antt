-- Lemmas on the bytes of conversions.
use Rattle.std.proofs.Common.{
  ◌≡◌,
  ℕ,
  zero,
  suc,
  ◌+◌,
  ◌-◌,
  ◌/◌,
  ◌%◌,
  ◌<◌,
  ◌≤◌,
  Bool,
  List,
  [],
  ◌∷◌,
  ◌++◌,
  Result,
  Ok,
  Err,
  Option,
  ℤ,
  refl,
  sym,
  ap,
  ◌∙◌,
  subst,
  arith,
  append_assoc,
  replicate,
  reverse,
}
use Rattle.std.proofs.lemmas.Bool.{ne_eqb}
use Rattle.std.proofs.lemmas.List.{append-nil, replicate-append-replicate, reverse-append}
use Rattle.ub_base.specs.declared.clause.Clause.{Clause}
use Rattle.mem_spec.specs.Script.{Script, Give, Raise as RaiseOf, Exceed, ◌>>=◌}
use Rattle.libc_spec.specs.Directives.{Flags}
use Rattle.libc_spec.specs.Print.{Argument, Taken, integer_parts, Field, field, one, digit, digits_by}
use Rattle.libc_directives.specs.declared.refusal.Refusal.{Refusal}
use Rattle.libc_directives.specs.declared.refusal.Refusal.TheVariants.{Raise, Outside, NoMemory}
use Rattle.libc_directives.specs.Seen.{digits_of, integer_parts_of}
use Rattle.libc_directives.specs.Answers.{PutsBytes, Puts}

-- an integer with its digits, opened
pub integer_opened : (r : Result (Unit {0}) Refusal) (old new : List ℕ) (flags : Flags) (c : ℕ) (precision : Option ℕ) (n : ℤ) (g : Field) →
    PutsBytes r old new (field (integer_parts_of flags c precision n) g) → PutsBytes r old new (field (integer_parts flags c precision n) g)
unfolding digits_of
integer_opened r old new flags c precision n g h = h

-- bytes, and then the arguments that are left
pub puts_one : (r : Result (Unit {0}) Refusal) (old new : List ℕ) (s : Script (List ℕ)) (rest : List Argument) →
    PutsBytes r old new s → Puts r old new rest (s >>= (λ bytes. one bytes rest))
puts_one (Err NoMemory) old new s rest h = tt
puts_one (Ok u) old new (Give bytes) rest h = (h, refl)
puts_one (Err (Raise c)) old new (RaiseOf d) rest h = h
puts_one (Err (Outside c n)) old new (Exceed d m) rest h = h
puts_one r old new s rest h = absurd h

-- an argument that is refused
pub puts_refused : {A : Type 0} (c : Clause) (old new : List ℕ) (rest : List Argument) (s : Script (Taken A)) (k : Taken A → Script (Taken (List ℕ))) →
    RaiseOf c ≡ s → Puts (Err (Raise c)) old new rest (s >>= k)
puts_refused c old new rest s k e = subst (λ s. Puts (Err (Raise c)) old new rest (s >>= k)) e refl

-- an argument that is taken
pub puts_taken : {A : Type 0} (r : Result (Unit {0}) Refusal) (old new : List ℕ) (rest : List Argument) (a : Taken A) (s : Script (Taken A))
    (k : Taken A → Script (Taken (List ℕ))) →
    Give a ≡ s → Puts r old new rest (k a) → Puts r old new rest (s >>= k)
puts_taken r old new rest a s k e h = subst (λ s. Puts r old new rest (s >>= k)) e h

-- the bytes, and then one more
pub one_more : (old : List ℕ) (n b : ℕ) → (old ++ replicate n b) ++ b ∷ [] ≡ old ++ replicate (n + 1) b
one_more old n b = append_assoc old (replicate n b) (b ∷ []) ∙ ap (λ l. old ++ l) (replicate-append-replicate n 1 b)

-- the digits that are left
unfoldable pub digits_left : ℕ → Bool → ℕ → ℕ → List ℕ
digits_left turns upper base n = digits_by turns upper base n

pub digits_left-all : (upper : Bool) (base n : ℕ) → digits_left 64 upper base n ≡ digits_of upper base n
unfolding digits_left digits_of
digits_left-all upper base n = refl

pub digits_left-zero : (turns : ℕ) (upper : Bool) (base : ℕ) → digits_left turns upper base 0 ≡ []
unfolding digits_left
digits_left-zero zero upper base = refl
digits_left-zero (suc turns) upper base = refl

pub digits_left-none : (upper : Bool) (base n : ℕ) → digits_left 0 upper base n ≡ []
unfolding digits_left
digits_left-none upper base n = refl

-- one digit more
digits_left-more : (turns : ℕ) (upper : Bool) (base n : ℕ) → (n ≡ 0 → ⊥) →
    digits_left (suc turns) upper base n ≡ digits_left turns upper base (n / base) ++ digit upper (n % base) ∷ []
unfolding digits_left
digits_left-more turns upper base n h = rw (ne_eqb n 0 h) refl

pub digits_left-step : (turns : ℕ) (upper : Bool) (base n d : ℕ) (ds whole : List ℕ) → turns < 64 → (n ≡ 0 → ⊥) → d ≡ digit upper (n % base) →
    whole ≡ digits_left (64 - turns) upper base n ++ reverse ds →
    whole ≡ digits_left (64 - (turns + 1)) upper base (n / base) ++ reverse (ds ++ d ∷ [])
digits_left-step turns upper base n d ds whole h k e w =
    let q : 64 - turns ≡ suc (64 - (turns + 1)) = omega arith in
    w ∙ ap (λ f. digits_left f upper base n ++ reverse ds) q
    ∙ ap (λ l. l ++ reverse ds) (digits_left-more (64 - (turns + 1)) upper base n k)
    ∙ append_assoc (digits_left (64 - (turns + 1)) upper base (n / base)) (digit upper (n % base) ∷ []) (reverse ds)
    ∙ ap (λ c. digits_left (64 - (turns + 1)) upper base (n / base) ++ c ∷ reverse ds) (sym e)
    ∙ ap (λ l. digits_left (64 - (turns + 1)) upper base (n / base) ++ l) (sym (reverse-append ds (d ∷ [])))

-- all digits are there
pub digits_left-read : (turns : ℕ) (upper : Bool) (base n whole : ℕ) (ds : List ℕ) → n ≡ 0 →
    digits_left 64 upper base whole ≡ digits_left turns upper base n ++ reverse ds → reverse ds ≡ digits_of upper base whole
digits_left-read turns upper base n whole ds q e =
    sym (sym (digits_left-all upper base whole) ∙ e ∙ ap (λ m. digits_left turns upper base m ++ reverse ds) q ∙ ap (λ l. l ++ reverse ds)
    (digits_left-zero turns upper base))

pub digits_left-done : (turns : ℕ) (upper : Bool) (base n whole : ℕ) (ds : List ℕ) → 64 ≤ turns →
    digits_left 64 upper base whole ≡ digits_left (64 - turns) upper base n ++ reverse ds → reverse ds ≡ digits_of upper base whole
digits_left-done turns upper base n whole ds h e =
    let q : 64 - turns ≡ 0 = omega (arith, h) in
    sym (sym (digits_left-all upper base whole) ∙ e ∙ ap (λ f. digits_left f upper base n ++ reverse ds) q ∙ ap (λ l. l ++ reverse ds)
    (digits_left-none upper base n))

pub digits_left-first : (upper : Bool) (base n : ℕ) (ds : List ℕ) → ds ≡ [] →
    digits_left 64 upper base n ≡ digits_left (64 - 0) upper base n ++ reverse ds
digits_left-first upper base n ds e = sym (ap (λ l. digits_left 64 upper base n ++ reverse l) e ∙ append-nil (digits_left 64 upper base n))
