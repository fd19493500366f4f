-- String literals, one after the other.
use Rattle.std.proofs.Common.{◌≡◌, ℕ, suc, ◌+◌, ◌-◌, ◌<◌, ◌≤◌, List, [], ◌∷◌, ◌++◌, refl, sym, ap, ◌∙◌, append_assoc, arith}
use Rattle.std.specs.Prelude.{ℤ, Bool, true, false, if◌then◌else◌, is_some, Option, Some, None, Result, Ok, Err}
use Rattle.c_lex.specs.TokenText.{TokenText, text_at}
use Rattle.c_lit.specs.Literals.{string_value, IsAppended}
use Rattle.c_lit.specs.declared.fault.LitFault.{LitFault}
use Rattle.type_declarators.specs.Literals.{bytes_then, bytes_from, is_zero, asserted}

-- these bytes, and those behind them
abbrev pub prepended : List ℕ → Option (List ℕ) → Option (List ℕ)
prepended bs None = None
prepended bs (Some cs) = Some (bs ++ cs)

pub none_before : (o : Option (List ℕ)) → prepended [] o ≡ o
none_before None = refl
none_before (Some cs) = refl

then_by : (bs more : List ℕ) (o : Option (List ℕ)) → prepended bs (bytes_then (Ok more) o) ≡ prepended (bs ++ more) o
then_by bs more None = refl
then_by bs more (Some cs) = ap (λ xs. Some xs) (sym (append_assoc bs more cs))

rest : (count k : ℕ) → k < count → count - k ≡ suc (count - (k + 1))
rest count k less = omega arith

first_of : (t : TokenText) (first count k : ℕ) (bs : List ℕ) (read : Result (List ℕ) LitFault) → k < count → string_value (text_at t (first + k)) ≡ read
    → prepended bs (bytes_from t (count - k) (first + k)) ≡ prepended bs (bytes_then read (bytes_from t (count - (k + 1)) (first + k + 1)))
first_of t first count k bs read less is =
    ap (λ n. prepended bs (bytes_from t n (first + k))) (rest count k less)
    ∙ ap (λ r. prepended bs (bytes_then r (bytes_from t (count - (k + 1)) (first + k + 1)))) is

-- none so far
pub begins : (t : TokenText) (first count : ℕ) (bs : List ℕ) → bs ≡ []
    → prepended bs (bytes_from t (count - 0) (first + 0)) ≡ bytes_from t count first
begins t first count bs e =
    let all : count - 0 ≡ count = omega arith in
    let here : first + 0 ≡ first = omega arith in
    ap (λ n. prepended bs (bytes_from t n (first + 0))) all
    ∙ ap (λ n. prepended bs (bytes_from t count n)) here
    ∙ ap (λ xs. prepended xs (bytes_from t count first)) e
    ∙ none_before (bytes_from t count first)

-- one literal more
pub one_more : (t : TokenText) (first count k at : ℕ) (bs now text : List ℕ) (whole : Option (List ℕ)) → k < count → at ≡ first + k
    → text ≡ text_at t at → IsAppended bs now text → prepended bs (bytes_from t (count - k) (first + k)) ≡ whole
    → prepended now (bytes_from t (count - (k + 1)) (first + (k + 1))) ≡ whole
one_more t first count k at bs now text whole less e spelled added is =
    let next : first + (k + 1) ≡ first + k + 1 = omega arith in
    ap (λ xs. prepended xs (bytes_from t (count - (k + 1)) (first + (k + 1)))) added.new_is
    ∙ ap (λ n. prepended (bs ++ added.bytes) (bytes_from t (count - (k + 1)) n)) next
    ∙ sym (then_by bs added.bytes (bytes_from t (count - (k + 1)) (first + k + 1)))
    ∙ sym (first_of t first count k bs (Ok added.bytes) less
    (ap (λ n. string_value (text_at t n)) (sym e) ∙ ap string_value (sym spelled) ∙ added.is))
    ∙ is

-- one that has no value
pub broken : (t : TokenText) (first count k at : ℕ) (bs text : List ℕ) (whole : Option (List ℕ)) (fault : LitFault) → k < count → at ≡ first + k
    → text ≡ text_at t at → string_value text ≡ Err fault → prepended bs (bytes_from t (count - k) (first + k)) ≡ whole → whole ≡ None
broken t first count k at bs text whole fault less e spelled fails is =
    sym is
    ∙ first_of t first count k bs (Err fault) less (ap (λ n. string_value (text_at t n)) (sym e) ∙ ap string_value (sym spelled) ∙ fails)

-- all of them
pub all_read : (t : TokenText) (first count k : ℕ) (bs now : List ℕ) (whole : Option (List ℕ)) → count ≤ k → now ≡ bs ++ 0 ∷ []
    → prepended bs (bytes_from t (count - k) (first + k)) ≡ whole → whole ≡ Some now
all_read t first count k bs now whole e is reads =
    let none : count - k ≡ 0 = omega arith in
    sym reads ∙ ap (λ n. prepended bs (bytes_from t n (first + k))) none ∙ ap (λ xs. Some xs) (sym is)

-- a static assertion

pub fails : (z : ℤ) (message : Option (List ℕ)) (zero : Bool) → zero ≡ is_zero z → zero ≡ true → asserted z message ≡ None
fails z message none e is = ap (λ b. if b then None else if is_some message then Some (tt {0}) else None) (sym e ∙ is)

pub stands : (z : ℤ) (message : Option (List ℕ)) (bs : List ℕ) (zero : Bool) → zero ≡ is_zero z → zero ≡ false → message ≡ Some bs
    → asserted z message ≡ Some tt
stands z message bs none e is read =
    ap (λ b. if b then None else if is_some message then Some (tt {0}) else None) (sym e ∙ is)
    ∙ ap (λ o. if is_some o then Some (tt {0}) else None) read

pub no_message : (z : ℤ) (message : Option (List ℕ)) (zero : Bool) → zero ≡ is_zero z → zero ≡ false → message ≡ None → asserted z message ≡ None
no_message z message none e is read =
    ap (λ b. if b then None else if is_some message then Some (tt {0}) else None) (sym e ∙ is)
    ∙ ap (λ o. if is_some o then Some (tt {0}) else None) read
