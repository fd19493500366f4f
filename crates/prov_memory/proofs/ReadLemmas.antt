-- Eight bytes that are the pieces of one pointer value, read from the last one on.
use Rattle.std.proofs.Common.{◌≡◌, ℕ, suc, ◌+◌, ◌-◌, ◌<◌, Bool, true, false, ◌&&◌, refl, sym, ap, ◌∙◌, subst, arith, Some}
use Rattle.exposure.specs.declared.prov.Prov.{Prov}
use Rattle.mem_spec.specs.Acts.{is_piece, are_pieces, pointer_in}
use Rattle.mem_spec.specs.Store.{TaggedByte, range_from}
use Rattle.mem_objects.specs.declared.cell.Cell.{Cell}
use Rattle.mem_objects.specs.declared.cell.State.{State}
use Rattle.mem_objects.specs.declared.cell.State.TheVariants as states
use Rattle.mem_objects.specs.Access.{bytes_in}
use Rattle.mem_objects.specs.Cells.{cell_at, byte_in, byte_in_state, prov_numbered}
use Rattle.mem_objects.specs.Held.{Held}
use Rattle.mem_objects.specs.Memory.{Kept}
use Rattle.prov_memory.specs.Named.{named_in}
use Rattle.prov_memory.proofs.NumberLemmas.{piece_numbered}

-- the pieces from one on, and the one before it
pub pieces_before : (p : Prov) (f : ℕ → TaggedByte) (from n step at : ℕ) → step < n → at ≡ from + (n - (step + 1))
    → are_pieces p (n - step) (range_from f (from + (n - step)) step) ≡ true → is_piece p (n - (step + 1)) (f at).byte ≡ true
    → are_pieces p (n - (step + 1)) (range_from f (from + (n - (step + 1))) (step + 1)) ≡ true
pieces_before p f from n step at lt place rest here =
    let next : from + (n - step) ≡ suc at = omega arith in
    let index : n - step ≡ suc (n - (step + 1)) = omega arith in
    let count : suc step ≡ step + 1 = omega arith in
    let moved : are_pieces p (n - step) (range_from f (suc at) step) ≡ true =
    subst (λ (k : ℕ). are_pieces p (n - step) (range_from f k step) ≡ true) next rest in
    let behind : are_pieces p (suc (n - (step + 1))) (range_from f (suc at) step) ≡ true =
    subst (λ (k : ℕ). are_pieces p k (range_from f (suc at) step) ≡ true) index moved in
    let all : are_pieces p (n - (step + 1)) (range_from f at (suc step)) ≡ true =
    ap (λ (x : Bool). x && are_pieces p (suc (n - (step + 1))) (range_from f (suc at) step)) here ∙ behind in
    let placed : are_pieces p (n - (step + 1)) (range_from f (from + (n - (step + 1))) (suc step)) ≡ true =
    subst (λ (k : ℕ). are_pieces p (n - (step + 1)) (range_from f k (suc step)) ≡ true) place all in
    subst (λ (k : ℕ). are_pieces p (n - (step + 1)) (range_from f (from + (n - (step + 1))) k) ≡ true) count placed

-- all of them
pub pieces_whole : (p : Prov) (f : ℕ → TaggedByte) (from step : ℕ) → step ≡ 8
    → are_pieces p (8 - step) (range_from f (from + (8 - step)) step) ≡ true → are_pieces p 0 (range_from f from 8) ≡ true
pieces_whole p f from step end all =
    let none : from + 0 ≡ from = omega arith in
    subst (λ (k : ℕ). are_pieces p 0 (range_from f k 8) ≡ true) none
    (subst (λ (k : ℕ). are_pieces p (8 - k) (range_from f (from + (8 - k)) k) ≡ true) end all)

first_of : (a b : Bool) → (a && b) ≡ true → a ≡ true
first_of true b e = refl
first_of false b e = absurd (cc)

piece_state : (s : State) (c : Cell) (m : Kept) (p : Prov) → is_piece p 0 (byte_in_state m.origins s c) ≡ true → s ≡ states.Piece
piece_state states.Unwritten c m p e = absurd (cc)
piece_state states.Plain c m p e = absurd (cc)
piece_state states.Piece c m p e = refl

-- the first of them says what they were made from
pub pieces_pointer : (m : Kept) (h : Held) (from : ℕ) (c : Cell) → c ≡ cell_at h.cells from
    → are_pieces (prov_numbered m.origins c.origin.number) 0 (bytes_in m h from 8) ≡ true
    → named_in m.origins (Some c.origin) ≡ pointer_in (bytes_in m h from 8)
pieces_pointer m h from c is all =
    let p = prov_numbered m.origins c.origin.number in
    let there : is_piece p 0 (byte_in m.origins (cell_at h.cells from)) ≡ true = first_of (is_piece p 0 (byte_in m.origins (cell_at h.cells from))) _ all in
    let here : is_piece p 0 (byte_in m.origins c) ≡ true = subst (λ (k : Cell). is_piece p 0 (byte_in m.origins k) ≡ true) (sym is) there in
    piece_numbered m h from c true is (piece_state c.state c m p here) (sym all)
