-- A list of tokens is the sentence of at most one unit.
use Rattle.std.proofs.Common.{get_or, ◌≡◌, ℕ, ◌<◌, ◌∙◌, List, length, Option, Some, None, decimal, refl, ap, sym, arith}
use Rattle.std.specs.Prelude.{MatchOption, ⊤, slice_get, slice_range}
use Rattle.std.proofs.lemmas.Option.{slice_get_read}
use Rattle.std.proofs.lemmas.Fmt.{decimal_injective}
use Rattle.first_form.specs.declared.token.Token.{Token}
use Rattle.first_form.specs.declared.token.TokenKind.{TokenKind}
use Rattle.first_form.specs.declared.token.TokenKind.TheVariants.{Punct}
use Rattle.first_form.specs.declared.token.Mark.TheVariants.{Plus, Minus, Star, Slash, Percent}
use Rattle.first_form.specs.Grammar.{IsNumberAt, Spells, sentence, kinds, op_of}
use Rattle.first_form.specs.declared.tree.Operator.{Operator}
use Rattle.first_form.specs.declared.tree.Operator.TheVariants.{Add, Sub, Mul, Div, Rem}
use Rattle.first_form.specs.declared.tree.ReturnUnit.{ReturnUnit}

some_injective : {X : Type 0} (x y : X) → Some x ≡ Some y → x ≡ y
some_injective x y e = cc

pub number_unique : (text : List ℕ) (tokens : List Token) (place n m : ℕ) (a : IsNumberAt text tokens place n) (b : IsNumberAt text tokens place m)
    → (n ≡ m) × (a.token ≡ b.token)
number_unique text tokens place n m a b =
    let same : a.token ≡ b.token = some_injective a.token b.token (sym a.there ∙ b.there) in
    let digits : decimal n ≡ decimal m = sym a.spelled.digits ∙ ap (λ (t : Token). slice_range text t.start t.end) same ∙ b.spelled.digits in
    (decimal_injective n m (omega (arith, a.spelled.small)) (omega (arith, b.spelled.small)) digits, same)

-- the operator of a sentence
abbrev op_in : Option TokenKind → Option Operator
op_in (Some (Punct Plus)) = Some Add
op_in (Some (Punct Minus)) = Some Sub
op_in (Some (Punct Star)) = Some Mul
op_in (Some (Punct Slash)) = Some Div
op_in (Some (Punct Percent)) = Some Rem
op_in kind = None

op_in_sentence : (op : Option Operator) → op_in (slice_get (sentence op) 8) ≡ op
op_in_sentence None = refl
op_in_sentence (Some Add) = refl
op_in_sentence (Some Sub) = refl
op_in_sentence (Some Mul) = refl
op_in_sentence (Some Div) = refl
op_in_sentence (Some Rem) = refl

pub op_unique : (ks : List TokenKind) (op other : Option Operator) → ks ≡ sentence op → ks ≡ sentence other → op ≡ other
op_unique ks op other is too =
    sym (op_in_sentence op) ∙ ap (λ xs. op_in (slice_get xs 8)) (sym is ∙ too) ∙ op_in_sentence other

rest_unique : (text : List ℕ) (tokens : List Token) (r s : Option (Operator × ℕ)) → op_of r ≡ op_of s
    → MatchOption r ⊤ (λ rest. IsNumberAt text tokens 9 rest.1) → MatchOption s ⊤ (λ rest. IsNumberAt text tokens 9 rest.1) → r ≡ s
rest_unique text tokens None None same a b = refl
rest_unique text tokens None (Some y) same a b = cc
rest_unique text tokens (Some x) None same a b = cc
rest_unique text tokens (Some x) (Some y) same a b =
    let number = (number_unique text tokens 9 x.1 y.1 a b).0 in
    let op : x.0 ≡ y.0 = some_injective x.0 y.0 same in
    ap Some (λ i. (op i, number i))

unit_ext : (u v : ReturnUnit) → u.line ≡ v.line → u.left ≡ v.left → u.rest ≡ v.rest → u ≡ v
unit_ext u v line left rest = λ i. record { line = line i; left = left i; rest = rest i }

-- one unit
pub unit_unique : (text : List ℕ) (tokens : List Token) (u v : ReturnUnit) → Spells text tokens u → Spells text tokens v → u ≡ v
unit_unique text tokens u v a b =
    let left = number_unique text tokens 7 u.left v.left a.left b.left in
    let op = op_unique (kinds tokens) (op_of u.rest) (op_of v.rest) a.order b.order in
    unit_ext u v (a.line ∙ ap (λ (t : Token). t.line) left.1 ∙ sym b.line) left.0 (rest_unique text tokens u.rest v.rest op a.right b.right)

pub get_there : (tokens : List Token) (place : ℕ) (token : Token) → place < length tokens → token ≡ get_or tokens place token
    → slice_get tokens place ≡ Some token
get_there tokens place token within is = slice_get_read tokens (length tokens) place token refl within is
