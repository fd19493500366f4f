use Rattle.std.proofs.Common.{◌≡◌, ℕ, ◌<◌, ◌≤◌, List, length, get_or}
use Rattle.std.specs.HashMap.{get_by}
use Rattle.std.specs.Str.{bytes_eq}
use Rattle.c_lex.specs.TokenText.{text_at}
use Rattle.c_spelling.specs.Spelling.{IsFirst, IsFirstBefore}
use Rattle.c_spelling.proofs.spelling.spelled_by.Given as goal

abbrev pub invariant-loop-at : goal.invariant-loop-at
invariant-loop-at l = record {
  whole : length l.spelled.items ≡ l.at;
  firsts : (k : ℕ) → k < l.at → IsFirst l.tokens (text_at l.tokens k) (get_or l.spelled.items k 0);
  within : (k : ℕ) → k < l.at → get_or l.spelled.items k 0 ≤ k;
  known : (text : List ℕ) → IsFirstBefore l.tokens l.at text (get_by (λ k. bytes_eq text k.now) l.numbers);
}
