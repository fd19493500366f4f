-- What steps that may fail gave, and tests that were passed.
use Rattle.std.proofs.Common.{
  ◌≡◌,
  ℕ,
  ◌+◌,
  ◌<◌,
  ◌≤◌,
  Bool,
  true,
  false,
  cond,
  nat_lt,
  nat_le,
  List,
  [],
  ◌∷◌,
  length,
  map,
  drop,
  get_or,
  Option,
  Some,
  None,
  option_map,
  refl,
  sym,
  ap,
  ◌∙◌,
  arith,
}
use Rattle.std.proofs.lemmas.List.{at_drop_more, at_drop_all}
use Rattle.serde_json.specs.Data.{Data}
use Rattle.serde_json.specs.Find.{as_array}
use Rattle.serde_json.specs.View.{view, items_of, items_view}
use Rattle.serde_json.specs.declared.value.Value.{Value}
use Rattle.std.proofs.lemmas.Bool.Decides.{nat_tests}
use Rattle.certificate_text.specs.Reading.{◌>>=◌, kept, list_of, list_in}

pub then_some : {A B : Type 0} (f : A → Option B) (o : Option A) (y : B) → (o >>= f) ≡ Some y → (x : A) × (o ≡ Some x) × (f x ≡ Some y)
then_some f None y h = absurd (cc)
then_some f (Some x) y h = (x, refl, h)

pub map_some : {A B : Type 0} (f : A → B) (o : Option A) (y : B) → option_map f o ≡ Some y → (x : A) × (o ≡ Some x) × (f x ≡ y)
map_some f None y h = absurd (cc)
map_some f (Some x) y h = (x, refl, cc)

passes_by : {A : Type 0} (b : Bool) (x y : A) → cond b (Some x) None ≡ Some y → (b ≡ true) × (x ≡ y)
passes_by true x y h = (refl, cc)
passes_by false x y h = absurd (cc)

pub kept_some : {A : Type 0} (test : A → Bool) (x y : A) → kept test x ≡ Some y → (test x ≡ true) × (x ≡ y)
kept_some test x y h = passes_by (test x) x y h

-- what passes a bound lies below it
pub kept_below : (x y bound : ℕ) → kept (λ n. nat_lt n bound) x ≡ Some y → y < bound
kept_below x y bound h = let k = passes_by (nat_lt x bound) x y h in grind (arith, nat_tests, k.0, k.1)

pub kept_up_to : (x y bound : ℕ) → kept (λ n. nat_le n bound) x ≡ Some y → y ≤ bound
kept_up_to x y bound h = let k = passes_by (nat_le x bound) x y h in grind (arith, nat_tests, k.0, k.1)

-- the item of a list of values at a loop's place, as its data
pub at_view : {Y : Type 0} (F : List Data → Y) (xs : List Value) (i : ℕ) (x : Value) → i < length xs → x ≡ get_or xs i x
    → F (map view (drop i xs)) ≡ F (view x ∷ map view (drop (i + 1) xs))
at_view F xs i x within is =
    at_drop_more (λ ys. F (map view ys)) xs i x within ∙ ap (λ y. F (view y ∷ map view (drop (i + 1) xs))) (sym is)

-- the values behind a loop are none
pub at_end : {Y : Type 0} (F : List Data → Y) (xs : List Value) (i : ℕ) → length xs ≤ i → F (map view (drop i xs)) ≡ F []
at_end F xs i past = at_drop_all (λ ys. F (map view ys)) xs i past

pub list_of-items_of : (ds : List Data) → list_of (items_of ds) ≡ ds
list_of-items_of [] = refl
list_of-items_of (d ∷ ds) = ap (λ rest. d ∷ rest) (list_of-items_of ds)

-- the items of a value that is a list
pub list_of_values : (vs : List Value) (d : Data) → Some (items_view vs) ≡ as_array d → Some (map view vs) ≡ list_in d
list_of_values vs d is = ap Some (sym (list_of-items_of (map view vs))) ∙ ap (option_map list_of) is
