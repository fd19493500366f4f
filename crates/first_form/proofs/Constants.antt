-- The digits of a number are text, and are read as that number.
use Rattle.std.proofs.Common.{◌≡◌, ℕ, ◌∙◌, List, Result, Ok, Err, false, decimal, sym, ap, subst, arith}
use Rattle.std.specs.Str.{bytes_eq}
use Rattle.std.proofs.lemmas.Slice.Eq.{bytes_eq-Decides}
use Rattle.std.proofs.lemmas.Bool.{false≢true}
use Rattle.std.specs.Str.{IsUtf8}
use Rattle.std.specs.Str.Parse.{ParsesUnsigned}
use Rattle.std.proofs.lemmas.Str.{IsUtf8-from_ascii}
use Rattle.std.proofs.lemmas.Fmt.{IsAscii-decimal, parse-decimal}
use Rattle.first_form.specs.Tokens.{IsConstant}

pub constant_is_text : (text : List ℕ) (n : ℕ) → IsConstant text n → IsUtf8 text
constant_is_text text n k = subst IsUtf8 (sym k.digits) (IsUtf8-from_ascii _ (IsAscii-decimal n (omega (arith, k.small))))

read : {E : Type 0} (text : List ℕ) (n : ℕ) (r : Result ℕ E) → IsConstant text n → ParsesUnsigned 32 10 text r → r ≡ Ok n
read text n r k parsed = parse-decimal 32 n text r (omega (arith, k.small)) (omega (arith, k.small)) k.digits parsed

pub constant_is_read : {E : Type 0} (text digits : List ℕ) (n m : ℕ) (r : Result ℕ E)
    → digits ≡ text → ParsesUnsigned 32 10 digits r → r ≡ Ok m → IsConstant text n → m ≡ n
constant_is_read text digits n m r same parsed is k = let e = read text n r k (rw same at parsed) in cc

pub constant_is_not_refused : {E : Type 0} (text digits : List ℕ) (n : ℕ) (e : E) (r : Result ℕ E)
    → digits ≡ text → ParsesUnsigned 32 10 digits r → r ≡ Err e → IsConstant text n → ⊥
constant_is_not_refused text digits n e r same parsed is k =
    let e : Ok n ≡ Err e = sym (read text n r k (rw same at parsed)) ∙ is in cc

pub constant_is_written : (text written : List ℕ) (n m : ℕ) → IsConstant text n → m ≡ n → written ≡ decimal m → bytes_eq written text ≡ false → ⊥
constant_is_written text written n m k same is differs =
    let yes = (bytes_eq-Decides written text).1 (is ∙ ap decimal same ∙ sym k.digits) in false≢true (sym differs ∙ yes)
