-- The names of an object's members are the keys of its map.
use Rattle.std.proofs.Common.{◌≡◌, ℕ, Bool, false, ◌&&◌, List, [], ◌∷◌, Some, option_map, unwrap_or, String, Global, string_bytes, refl, ap, ◌∙◌}
use Rattle.std.specs.List.{list_all}
use Rattle.std.specs.Map.{keys_of}
use Rattle.serde_json.specs.Data.{Data}
use Rattle.serde_json.specs.Find.{as_object}
use Rattle.serde_json.specs.View.{members_view}
use Rattle.serde_json.specs.declared.value.Value.{Value}
use Rattle.certificate_text.specs.Reading.{all_names}

names_of_entries : (test : List ℕ → Bool) (es : List (String Global × Value))
    → list_all (λ name. test (string_bytes name)) (keys_of es) ≡ all_names test (members_view es)
names_of_entries test [] = refl
names_of_entries test (e ∷ es) = ap (λ rest. test (string_bytes e.0) && rest) (names_of_entries test es)

pub names_of_object : (test : List ℕ → Bool) (es : List (String Global × Value)) (d : Data) (b : Bool) → Some (members_view es) ≡ as_object d
    → b ≡ list_all (λ name. test (string_bytes name)) (keys_of es) → b ≡ unwrap_or (option_map (all_names test) (as_object d)) false
names_of_object test es d b is answer =
    answer ∙ names_of_entries test es ∙ ap (λ o. unwrap_or (option_map (all_names test) o) false) is
