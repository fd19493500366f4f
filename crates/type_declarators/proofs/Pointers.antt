-- The qualifiers of a pointer.
use Rattle.std.proofs.Common.{◌≡◌, Bool, true, false, List, [], ◌∷◌, refl, sym, ap, ◌∙◌, true≢false}
use Rattle.std.specs.Prelude.{◌&&◌, ◌||◌, not, if◌then◌else◌, Option, Some, None}
use Rattle.c_lex.specs.declared.token.Word.{Word}
use Rattle.c_lex.specs.declared.token.Word.TheVariants as w
use Rattle.typing_words.specs.Words.{role, Words, said, and_word, with_word, Derivation, pointer_to, pointer_by, are_qualifiers, has_no_storage, is_no_word}
use Rattle.typing_words.specs.Words.{Role, storage, type_word, const_word, restrict_word, function_word, left_out}
use Rattle.typing_words.specs.Words.{Storage, no_storage, with_storage}
use Rattle.type_declarators.specs.Keywords.{pointer_from}

-- what the keywords give behind those before
abbrev given : (c r : Bool) → Option Words → Option Derivation
given c r None = None
given c r (Some ws) = if are_qualifiers ws then Some (pointer_to (c || ws.constant) (r || ws.restricted)) else None

abbrev is_qualifier : Role → Bool
is_qualifier const_word = true
is_qualifier restrict_word = true
is_qualifier _ = false

no_function : (a b : Bool) → (a && (b && not true)) ≡ false
no_function true true = refl
no_function true false = refl
no_function false b = refl

no_types : (a b : Bool) → (a && (false && b)) ≡ false
no_types true b = refl
no_types false b = refl

no_first : (a : Bool) → (a && false) ≡ false
no_first true = refl
no_first false = refl

refused_by : (c r b : Bool) (ws : Words) → are_qualifiers ws ≡ b → b ≡ false → given c r (Some ws) ≡ None
refused_by c r b ws e f = ap (λ x. if x then Some (pointer_to (c || ws.constant) (r || ws.restricted)) else None) (e ∙ f)

storage_refused : (c r : Bool) (s was : Storage) (ws : Words) → has_no_storage s ≡ false → given c r (with_storage s ws was) ≡ None
storage_refused c r s no_storage ws some =
    refused_by c r _ (record ws { storage = s }) refl (ap (λ b. b && (is_no_word ws.types && not ws.is_function)) some)
storage_refused c r s _ ws some = refl

abbrev is_given : Role → Bool
is_given (storage s) = not (has_no_storage s)
is_given _ = true

not_none : (b : Bool) → not b ≡ true → b ≡ false
not_none true e = sym e
not_none false e = refl

-- a keyword that is no qualifier of a pointer
other_refused : (word : Word) (c r : Bool) (was : Role) (ws : Words) → is_qualifier was ≡ false → is_given was ≡ true → given c r (with_word word was ws) ≡ None
other_refused word c r (storage s) ws other some = storage_refused c r s ws.storage ws (not_none (has_no_storage s) some)
other_refused word c r type_word ws other some =
    refused_by c r _ (record ws { types = word ∷ ws.types }) refl (no_types (has_no_storage ws.storage) (not ws.is_function))
other_refused word c r function_word ws other some =
    refused_by c r _ (record ws { is_function = true }) refl (no_function (has_no_storage ws.storage) (is_no_word ws.types))
other_refused word c r left_out ws other some = refl
other_refused word c r const_word ws other some = absurd (true≢false other)
other_refused word c r restrict_word ws other some = absurd (true≢false other)

other_given : (word : Word) (c r : Bool) (o : Option Words) → is_qualifier (role word) ≡ false → is_given (role word) ≡ true
    → None ≡ given c r (and_word word o)
other_given word c r None other some = refl
other_given word c r (Some ws) other some = sym (other_refused word c r (role word) ws other some)

or_true : (b : Bool) → true ≡ (b || true)
or_true true = refl
or_true false = refl

or_false : (b : Bool) → b ≡ (b || false)
or_false true = refl
or_false false = refl

const_given : (c r : Bool) (o : Option Words) → given true r o ≡ given c r (and_word w.Const o)
const_given c r None = refl
const_given c r (Some ws) = ap (λ x. if are_qualifiers ws then Some (pointer_to x (r || ws.restricted)) else None) (or_true c)

restrict_given : (c r : Bool) (o : Option Words) → given c true o ≡ given c r (and_word w.Restrict o)
restrict_given c r None = refl
restrict_given c r (Some ws) = ap (λ x. if are_qualifiers ws then Some (pointer_to (c || ws.constant) x) else None) (or_true r)

pointer_is : (words : List Word) (c r : Bool) → pointer_from c r words ≡ given c r (said words)
pointer_is [] c r = ap (λ x. Some (pointer_to x r)) (or_false c) ∙ ap (λ x. Some (pointer_to (c || false) x)) (or_false r)
pointer_is (w.Const ∷ words) c r = pointer_is words true r ∙ const_given c r (said words)
pointer_is (w.Restrict ∷ words) c r = pointer_is words c true ∙ restrict_given c r (said words)
pointer_is (word ∷ words) c r = other_given word c r (said words) refl refl

given_all : (o : Option Words) → given false false o ≡ pointer_by o
given_all None = refl
given_all (Some ws) = refl

-- the qualifiers are those that the definition tells
pub qualifiers_are : (words : List Word) → pointer_from false false words ≡ pointer_by (said words)
qualifiers_are words = pointer_is words false false ∙ given_all (said words)
