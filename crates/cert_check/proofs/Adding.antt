-- Adding rows in turn.
use Rattle.std.proofs.Common.{◌≡◌, ℕ, ◌+◌, ◌<◌, ap, ◌∙◌, suc, arith, List, ◌∷◌, Option, Bool, false, length, drop, slice_index_or}
use Rattle.std.proofs.Math.Seq.{drop-cons}
use Rattle.addr_map.specs.declared.map.Row.{Row}
use Rattle.addr_map.specs.Rows.{breaks, insert_row}
use Rattle.cert_check.specs.Parts.{added}

-- the rows from one on are that row and those behind it
pub from_row : (rows : List Row) (i : ℕ) (d : Row) → i < length rows → drop i rows ≡ slice_index_or rows i d ∷ drop (i + 1) rows
from_row rows i d within = drop-cons rows i d within ∙ ap (λ n. slice_index_or rows i d ∷ drop n rows) {x = suc i} {y = i + 1} (omega arith)

-- a row that breaks no rule is added
next_row : (map : List Row) (row : Row) (rows : List Row) → breaks map row ≡ false → added map (row ∷ rows) ≡ added (insert_row row map) rows
next_row map row rows keeps = rw keeps

-- where a row was added, what is left goes on behind it
pub one_more : (map now : List Row) (row : Row) (left rest : List Row) (start : Option (List Row)) → breaks map row ≡ false → now ≡ insert_row row map →
    left ≡ row ∷ rest → added map left ≡ start →
    added now rest ≡ start
one_more map now row left rest start keeps is split was = let next = next_row map row rest keeps in cc
