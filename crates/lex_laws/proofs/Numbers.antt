-- Preprocessing numbers, and integer constants.
use Rattle.std.proofs.Common.{◌≡◌, ◌⊎◌, ℕ, ◌+◌, ◌<◌, ◌≤◌, Bool, true, false, ◌==◌, List, [], ◌∷◌, ◌++◌, length, take, drop, codes, Option, Some, None, refl}
use Rattle.std.proofs.Common.{ap, sym, subst, ◌∙◌, inl, inr, if◌then◌else◌, lit≤, arith}
use Rattle.std.specs.Prelude.{is_some}
use Rattle.std.specs.List.{prefix_len}
use Rattle.std.specs.Char.{is_digit}
use Rattle.std.specs.Str.{bytes_eq}
use Rattle.std.proofs.lemmas.Bool.Decides.{nat_tests}
use Rattle.std.proofs.lemmas.List.{append-nil, take-append-drop}
use Rattle.std.proofs.lemmas.Slice.Eq.{bytes_eq-Decides}
use Rattle.c_lex.specs.Bytes.{begins}
use Rattle.c_lex.specs.Integers.{digits_of, is_hexadecimal, is_integer, suffix_of, with_suffix}
use Rattle.c_lex.specs.Runs.{goes_on, number_end}
use Rattle.c_lex.specs.declared.integer.Suffix.{Suffix}
use Rattle.c_lex.specs.declared.integer.Suffix.TheVariants.{Plain, Unsigned, Long, UnsignedLong, LongLong, UnsignedLongLong}
use Rattle.lex_laws.specs.Fronts.{Each, HasDigits, IsInteger, IsLong, IsSuffix, IsUnsigned, NumberGoes, Stops}
use Rattle.lex_laws.proofs.Parts.{behind_of, front_of, len_is, run_of}

false_from : (b : Bool) → (b ≡ true → ⊥) → b ≡ false
false_from true never = absurd (never refl)
false_from false never = refl

-- ---- how far a number goes

pub record Goes (last : ℕ) (text : List ℕ) : Type 0 where
  pub part : List ℕ
  pub rest : List ℕ
  pub spelled : text ≡ part ++ rest
  pub goes : NumberGoes last part rest
  pub end : (at : ℕ) → number_end at last text ≡ at + length part

goes_step : (last b : ℕ) (bs : List ℕ) (is : Bool) → goes_on last b ≡ is → Goes b bs → Goes last (b ∷ bs)
goes_step last b bs true is g = record {
  part = b ∷ g.part;
  rest = g.rest;
  spelled = ap (λ xs. b ∷ xs) g.spelled;
  goes = (is, g.goes);
  end = λ at. rw is (g.end (at + 1) ∙ omega arith);
}
goes_step last b bs false is g = record { part = []; rest = b ∷ bs; spelled = refl; goes = is; end = λ at. rw is (omega arith) }

pub goes_of : (last : ℕ) (text : List ℕ) → Goes last text
goes_of last [] = record { part = []; rest = []; spelled = refl; goes = tt; end = λ at. omega arith }
goes_of last (b ∷ bs) = goes_step last b bs (goes_on last b) refl (goes_of b bs)

stopped_end : (at last : ℕ) (rest : List ℕ) → Stops (goes_on last) rest → number_end at last rest ≡ at + 0
stopped_end at last [] stops = omega arith
stopped_end at last (b ∷ bs) stops = rw stops (omega arith)

pub end_of_goes : (at last : ℕ) (part rest : List ℕ) → NumberGoes last part rest → number_end at last (part ++ rest) ≡ at + length part
end_of_goes at last [] rest goes = stopped_end at last rest goes
end_of_goes at last (b ∷ bs) rest goes = rw goes.0 (end_of_goes (at + 1) b bs rest goes.1 ∙ omega arith)

-- ---- suffixes

suffix_row : (t : Bool) (text spelling : List ℕ) (s : Suffix) (more : Option Suffix) (P : Type 0) → bytes_eq text spelling ≡ t → (text ≡ spelling → P)
    → (is_some more ≡ true → P) → is_some (if t then Some s else more) ≡ true → P
suffix_row true text spelling s more P is here below e = here ((bytes_eq-Decides text spelling).0 is)
suffix_row false text spelling s more P is here below e = below e

pub suffix_is : (text : List ℕ) → is_some (suffix_of text) ≡ true → IsSuffix text
suffix_is text =
    suffix_row _ text [] _ _ _ refl (λ e. inl e)
    (suffix_row _ text (codes "u") _ _ _ refl (λ e. inr (inl (inl e)))
    (suffix_row _ text (codes "U") _ _ _ refl (λ e. inr (inl (inr e)))
    (suffix_row _ text (codes "l") _ _ _ refl (λ e. inr (inr (inl (inl e))))
    (suffix_row _ text (codes "L") _ _ _ refl (λ e. inr (inr (inl (inr (inl e)))))
    (suffix_row _ text (codes "ul") _ _ _ refl (λ e. inr (inr (inr (codes "u", (codes "l", e, inl (inl refl, inl refl))))))
    (suffix_row _ text (codes "uL") _ _ _ refl (λ e. inr (inr (inr (codes "u", (codes "L", e, inl (inl refl, inr (inl refl)))))))
    (suffix_row _ text (codes "Ul") _ _ _ refl (λ e. inr (inr (inr (codes "U", (codes "l", e, inl (inr refl, inl refl))))))
    (suffix_row _ text (codes "UL") _ _ _ refl (λ e. inr (inr (inr (codes "U", (codes "L", e, inl (inr refl, inr (inl refl)))))))
    (suffix_row _ text (codes "lu") _ _ _ refl (λ e. inr (inr (inr (codes "l", (codes "u", e, inr (inl refl, inl refl))))))
    (suffix_row _ text (codes "lU") _ _ _ refl (λ e. inr (inr (inr (codes "l", (codes "U", e, inr (inl refl, inr refl))))))
    (suffix_row _ text (codes "Lu") _ _ _ refl (λ e. inr (inr (inr (codes "L", (codes "u", e, inr (inr (inl refl), inl refl))))))
    (suffix_row _ text (codes "LU") _ _ _ refl (λ e. inr (inr (inr (codes "L", (codes "U", e, inr (inr (inl refl), inr refl))))))
    (suffix_row _ text (codes "ll") _ _ _ refl (λ e. inr (inr (inl (inr (inr (inl e))))))
    (suffix_row _ text (codes "LL") _ _ _ refl (λ e. inr (inr (inl (inr (inr (inr e))))))
    (suffix_row _ text (codes "ull") _ _ _ refl (λ e. inr (inr (inr (codes "u", (codes "ll", e, inl (inl refl, inr (inr (inl refl))))))))
    (suffix_row _ text (codes "uLL") _ _ _ refl (λ e. inr (inr (inr (codes "u", (codes "LL", e, inl (inl refl, inr (inr (inr refl))))))))
    (suffix_row _ text (codes "Ull") _ _ _ refl (λ e. inr (inr (inr (codes "U", (codes "ll", e, inl (inr refl, inr (inr (inl refl))))))))
    (suffix_row _ text (codes "ULL") _ _ _ refl (λ e. inr (inr (inr (codes "U", (codes "LL", e, inl (inr refl, inr (inr (inr refl))))))))
    (suffix_row _ text (codes "llu") _ _ _ refl (λ e. inr (inr (inr (codes "ll", (codes "u", e, inr (inr (inr (inl refl)), inl refl))))))
    (suffix_row _ text (codes "llU") _ _ _ refl (λ e. inr (inr (inr (codes "ll", (codes "U", e, inr (inr (inr (inl refl)), inr refl))))))
    (suffix_row _ text (codes "LLu") _ _ _ refl (λ e. inr (inr (inr (codes "LL", (codes "u", e, inr (inr (inr (inr refl)), inl refl))))))
    (suffix_row _ text (codes "LLU") _ _ _ refl (λ e. inr (inr (inr (codes "LL", (codes "U", e, inr (inr (inr (inr refl)), inr refl))))))
    (λ e. absurd (cc))))))))))))))))))))))))

-- each suffix is read, and stands behind digits of any radix
abbrev IsRead : List ℕ → Type 0
IsRead text = (s : Suffix) × (suffix_of text ≡ Some s)

unsigned_long : (first second : List ℕ) → IsUnsigned first → IsLong second → IsRead (first ++ second)
unsigned_long first second (inl a) (inl b) = (UnsignedLong, (λ i. suffix_of (a i ++ b i)))
unsigned_long first second (inl a) (inr (inl b)) = (UnsignedLong, (λ i. suffix_of (a i ++ b i)))
unsigned_long first second (inl a) (inr (inr (inl b))) = (UnsignedLongLong, (λ i. suffix_of (a i ++ b i)))
unsigned_long first second (inl a) (inr (inr (inr b))) = (UnsignedLongLong, (λ i. suffix_of (a i ++ b i)))
unsigned_long first second (inr a) (inl b) = (UnsignedLong, (λ i. suffix_of (a i ++ b i)))
unsigned_long first second (inr a) (inr (inl b)) = (UnsignedLong, (λ i. suffix_of (a i ++ b i)))
unsigned_long first second (inr a) (inr (inr (inl b))) = (UnsignedLongLong, (λ i. suffix_of (a i ++ b i)))
unsigned_long first second (inr a) (inr (inr (inr b))) = (UnsignedLongLong, (λ i. suffix_of (a i ++ b i)))

long_unsigned : (first second : List ℕ) → IsLong first → IsUnsigned second → IsRead (first ++ second)
long_unsigned first second (inl a) (inl b) = (UnsignedLong, (λ i. suffix_of (a i ++ b i)))
long_unsigned first second (inl a) (inr b) = (UnsignedLong, (λ i. suffix_of (a i ++ b i)))
long_unsigned first second (inr (inl a)) (inl b) = (UnsignedLong, (λ i. suffix_of (a i ++ b i)))
long_unsigned first second (inr (inl a)) (inr b) = (UnsignedLong, (λ i. suffix_of (a i ++ b i)))
long_unsigned first second (inr (inr (inl a))) (inl b) = (UnsignedLongLong, (λ i. suffix_of (a i ++ b i)))
long_unsigned first second (inr (inr (inl a))) (inr b) = (UnsignedLongLong, (λ i. suffix_of (a i ++ b i)))
long_unsigned first second (inr (inr (inr a))) (inl b) = (UnsignedLongLong, (λ i. suffix_of (a i ++ b i)))
long_unsigned first second (inr (inr (inr a))) (inr b) = (UnsignedLongLong, (λ i. suffix_of (a i ++ b i)))

pub suffix_back : (text : List ℕ) → IsSuffix text → IsRead text
suffix_back text (inl e) = (Plain, ap suffix_of e)
suffix_back text (inr (inl (inl e))) = (Unsigned, ap suffix_of e)
suffix_back text (inr (inl (inr e))) = (Unsigned, ap suffix_of e)
suffix_back text (inr (inr (inl (inl e)))) = (Long, ap suffix_of e)
suffix_back text (inr (inr (inl (inr (inl e))))) = (Long, ap suffix_of e)
suffix_back text (inr (inr (inl (inr (inr (inl e)))))) = (LongLong, ap suffix_of e)
suffix_back text (inr (inr (inl (inr (inr (inr e)))))) = (LongLong, ap suffix_of e)
suffix_back text (inr (inr (inr (first, (second, e, inl h))))) = let r = unsigned_long first second h.0 h.1 in (r.0, ap suffix_of e ∙ r.1)
suffix_back text (inr (inr (inr (first, (second, e, inr h))))) = let r = long_unsigned first second h.0 h.1 in (r.0, ap suffix_of e ∙ r.1)

-- ---- digits

-- a suffix begins with no digit
begins_u : (text more : List ℕ) → IsUnsigned text → Stops (λ b. is_digit b 16) (text ++ more)
begins_u text more (inl e) = subst (λ t. Stops (λ b. is_digit b 16) (t ++ more)) (sym e) refl
begins_u text more (inr e) = subst (λ t. Stops (λ b. is_digit b 16) (t ++ more)) (sym e) refl

begins_l : (text more : List ℕ) → IsLong text → Stops (λ b. is_digit b 16) (text ++ more)
begins_l text more (inl e) = subst (λ t. Stops (λ b. is_digit b 16) (t ++ more)) (sym e) refl
begins_l text more (inr (inl e)) = subst (λ t. Stops (λ b. is_digit b 16) (t ++ more)) (sym e) refl
begins_l text more (inr (inr (inl e))) = subst (λ t. Stops (λ b. is_digit b 16) (t ++ more)) (sym e) refl
begins_l text more (inr (inr (inr e))) = subst (λ t. Stops (λ b. is_digit b 16) (t ++ more)) (sym e) refl

whole : (text : List ℕ) → Stops (λ b. is_digit b 16) (text ++ []) → Stops (λ b. is_digit b 16) text
whole text stops = subst (Stops (λ b. is_digit b 16)) (append-nil text) stops

suffix_stops : (text : List ℕ) → IsSuffix text → Stops (λ b. is_digit b 16) text
suffix_stops text (inl e) = subst (Stops (λ b. is_digit b 16)) (sym e) tt
suffix_stops text (inr (inl h)) = whole text (begins_u text [] h)
suffix_stops text (inr (inr (inl h))) = whole text (begins_l text [] h)
suffix_stops text (inr (inr (inr (first, (second, e, inl h))))) = subst (Stops (λ b. is_digit b 16)) (sym e) (begins_u first second h.0)
suffix_stops text (inr (inr (inr (first, (second, e, inr h))))) = subst (Stops (λ b. is_digit b 16)) (sym e) (begins_l first second h.0)

fewer_digits : (radix : ℕ) (text : List ℕ) → radix ≤ 16 → Stops (λ b. is_digit b 16) text → Stops (λ b. is_digit b radix) text
fewer_digits radix [] few stops = tt
fewer_digits radix (b ∷ bs) few stops = grind (arith, nat_tests)

of_parts : (radix : ℕ) (digits suffix : List ℕ) → is_some (with_suffix radix digits (suffix_of suffix)) ≡ true
    → (0 < length digits) × (is_some (suffix_of suffix) ≡ true)
of_parts radix [] suffix e = absurd (cc)
of_parts radix (d ∷ ds) suffix e = (omega arith, by (suffix_of suffix) e)
  where
    by : (s : Option Suffix) → is_some (with_suffix radix (d ∷ ds) s) ≡ true → is_some s ≡ true
    by None e = absurd (cc)
    by (Some s) e = refl

pub digits_is : (radix : ℕ) (text : List ℕ) → is_some (digits_of radix text) ≡ true → HasDigits radix text
digits_is radix text e =
    let r = run_of (λ b. is_digit b radix) text in
    let front : take (prefix_len (λ b. is_digit b radix) text) text ≡ r.part = ap (λ n. take n text) r.len ∙ front_of r.part r.rest text r.spelled in
    let behind : drop (prefix_len (λ b. is_digit b radix) text) text ≡ r.rest = ap (λ n. drop n text) r.len ∙ behind_of r.part r.rest text r.spelled in
    let parts = of_parts radix r.part r.rest (sym (λ i. is_some (with_suffix radix (front i) (suffix_of (behind i)))) ∙ e) in
    record { digits = r.part; suffix = r.rest; spelled = r.spelled; some = parts.0; each = r.run.each; is_suffix = suffix_is r.rest parts.1 }

some_by : (radix : ℕ) (digits : List ℕ) (s : Suffix) → 0 < length digits → is_some (with_suffix radix digits (Some s)) ≡ true
some_by radix [] s some = absurd (omega arith)
some_by radix (d ∷ ds) s some = refl

pub digits_back : (radix : ℕ) (text : List ℕ) → radix ≤ 16 → HasDigits radix text → is_some (digits_of radix text) ≡ true
digits_back radix text few h =
    let len = len_is (λ b. is_digit b radix) h.digits h.suffix text h.spelled
    (record { each = h.each; stops = fewer_digits radix h.suffix few (suffix_stops h.suffix h.is_suffix) }) in
    let front : take (prefix_len (λ b. is_digit b radix) text) text ≡ h.digits = ap (λ n. take n text) len ∙ front_of h.digits h.suffix text h.spelled in
    let behind : drop (prefix_len (λ b. is_digit b radix) text) text ≡ h.suffix = ap (λ n. drop n text) len ∙ behind_of h.digits h.suffix text h.spelled in
    let read = suffix_back h.suffix h.is_suffix in
    (λ i. is_some (with_suffix radix (front i) (suffix_of (behind i))))
    ∙ ap (λ s. is_some (with_suffix radix h.digits s)) read.1 ∙ some_by radix h.digits read.0 h.some

-- ---- integer constants

hexadecimal_is : (text : List ℕ) → is_hexadecimal (take 2 text) ≡ true → (text ≡ 48 ∷ 120 ∷ drop 2 text) ⊎ (text ≡ 48 ∷ 88 ∷ drop 2 text)
hexadecimal_is text e = by (bytes_eq (take 2 text) (codes "0x")) (bytes_eq (take 2 text) (codes "0X")) refl refl e
  where
    by : (s t : Bool) → bytes_eq (take 2 text) (codes "0x") ≡ s → bytes_eq (take 2 text) (codes "0X") ≡ t
        → (if s then true else (if t then true else false)) ≡ true
        → (text ≡ 48 ∷ 120 ∷ drop 2 text) ⊎ (text ≡ 48 ∷ 88 ∷ drop 2 text)
    by true t is other e = inl (sym (take-append-drop 2 text) ∙ ap (λ f. f ++ drop 2 text) ((bytes_eq-Decides (take 2 text) (codes "0x")).0 is))
    by false true is other e = inr (sym (take-append-drop 2 text) ∙ ap (λ f. f ++ drop 2 text) ((bytes_eq-Decides (take 2 text) (codes "0X")).0 other))
    by false false is other e = absurd (cc)

integer_by : (text : List ℕ) (h z : Bool) → is_hexadecimal (take 2 text) ≡ h → begins (λ b. b == 48) text ≡ z
    → is_some (if h then digits_of 16 (drop 2 text) else (if z then digits_of 8 text else digits_of 10 text)) ≡ true → IsInteger text
integer_by text true z hex zero e = inl (drop 2 text, (hexadecimal_is text hex, digits_is 16 (drop 2 text) e))
integer_by text false true hex zero e = inr (inl (zero, digits_is 8 text e))
integer_by text false false hex zero e = inr (inr (zero, digits_is 10 text e))

pub integer_is : (text : List ℕ) → is_integer text ≡ true → IsInteger text
integer_is text e = integer_by text (is_hexadecimal (take 2 text)) (begins (λ b. b == 48) text) refl refl e

-- digits of a radix don't go on with a byte that is no digit and begins no suffix
no_x : (radix x : ℕ) (digits suffix more : List ℕ) → radix ≤ 16 → is_digit x 16 ≡ false → suffix_of (x ∷ more) ≡ None → 0 < length digits
    → Each (λ b. is_digit b radix) digits → IsSuffix suffix → digits ++ suffix ≡ 48 ∷ x ∷ more → ⊥
no_x radix x [] suffix more few none alone some each is same = absurd (omega arith)
no_x radix x (d ∷ []) suffix more few none alone some each is same =
    let left : suffix ≡ x ∷ more = (let e = same in cc) in
    let read = suffix_back suffix is in
    let bad : None ≡ Some read.0 = sym alone ∙ ap suffix_of (sym left) ∙ read.1 in cc
no_x radix x (d ∷ e ∷ ds) suffix more few none alone some each is same =
    let left : e ≡ x = (let q = same in cc) in
    let digit : is_digit x radix ≡ true = ap (λ b. is_digit b radix) (sym left) ∙ each.1.0 in
    let no = fewer_digits radix (x ∷ []) few none in
    let bad : true ≡ false = sym digit ∙ no in cc

no_hexadecimal : (radix : ℕ) (text : List ℕ) → radix ≤ 16 → HasDigits radix text → is_hexadecimal (take 2 text) ≡ false
no_hexadecimal radix text few h = false_from (is_hexadecimal (take 2 text)) (λ e. elim (hexadecimal_is text e) [
  | inl is ↦ no_x radix 120 h.digits h.suffix (drop 2 text) few refl refl h.some h.each h.is_suffix (sym h.spelled ∙ is)
  | inr is ↦ no_x radix 88 h.digits h.suffix (drop 2 text) few refl refl h.some h.each h.is_suffix (sym h.spelled ∙ is)
])

pub integer_back : (text : List ℕ) → IsInteger text → is_integer text ≡ true
integer_back text (inl (digits, (inl e, h))) =
    ap is_integer e ∙ digits_back 16 digits (lit≤ tt) h
integer_back text (inl (digits, (inr e, h))) =
    ap is_integer e ∙ digits_back 16 digits (lit≤ tt) h
integer_back text (inr (inl (zero, h))) =
    (λ i. is_some (if no_hexadecimal 8 text (lit≤ tt) h i then digits_of 16 (drop 2 text) else (if zero i then digits_of 8 text else digits_of 10 text)))
    ∙ digits_back 8 text (lit≤ tt) h
integer_back text (inr (inr (zero, h))) =
    (λ i. is_some (if no_hexadecimal 10 text (lit≤ tt) h i then digits_of 16 (drop 2 text) else (if zero i then digits_of 8 text else digits_of 10 text)))
    ∙ digits_back 10 text (lit≤ tt) h
