-- Pieces of pointers by the numbers of their provenances.
use Rattle.std.proofs.Common.{◌≡◌, ℕ, Bool, true, false, cond, refl, ap, ◌∙◌, List, Option, Some, None}
use Rattle.std.specs.Bool.{then_some}
use Rattle.exposure.specs.declared.prov.Prov.{Prov}
use Rattle.mem_spec.specs.Acts.{are_pieces, same_prov, origin_in, pointer_if, pointer_in}
use Rattle.mem_objects.specs.declared.cell.Cell.{Cell}
use Rattle.mem_objects.specs.declared.cell.Origin.{Origin}
use Rattle.mem_objects.specs.declared.cell.State.TheVariants as states
use Rattle.mem_objects.specs.Access.{bytes_in}
use Rattle.mem_objects.specs.Cells.{cell_at, byte_in, prov_numbered}
use Rattle.mem_objects.specs.Held.{Held}
use Rattle.mem_objects.specs.Memory.{Kept}
use Rattle.prov_memory.specs.Named.{named_in}
use Rattle.prov_memory.proofs.PointerLemmas.{same_numbered}

pub same_numbers : (ps : List Prov) (n k : ℕ) → n ≡ k → true ≡ same_prov (prov_numbered ps n) (prov_numbered ps k)
same_numbers ps n k same = same_numbered ps n k (prov_numbered ps k) refl same

unwritten_origin : (ps : List Prov) (c : Cell) → c.state ≡ states.Unwritten → None ≡ origin_in (byte_in ps c)
unwritten_origin ps c e = rw e refl

plain_origin : (ps : List Prov) (c : Cell) → c.state ≡ states.Plain → None ≡ origin_in (byte_in ps c)
plain_origin ps c e = rw e refl

piece_origin : (ps : List Prov) (c : Cell) → c.state ≡ states.Piece → Some (prov_numbered ps c.origin.number) ≡ origin_in (byte_in ps c)
piece_origin ps c e = rw e refl

none_numbered : (m : Kept) (h : Held) (from : ℕ) (c : Cell) → c ≡ cell_at h.cells from → None ≡ origin_in (byte_in m.origins c) →
    None ≡ pointer_in (bytes_in m h from 8)
none_numbered m h from c is e =
    ap (λ (o : Option Prov). pointer_if o (bytes_in m h from 8)) (e ∙ ap (λ (k : Cell). origin_in (byte_in m.origins k)) is)

pub unwritten_numbered : (m : Kept) (h : Held) (from : ℕ) (c : Cell) → c ≡ cell_at h.cells from → c.state ≡ states.Unwritten →
    None ≡ pointer_in (bytes_in m h from 8)
unwritten_numbered m h from c is e = none_numbered m h from c is (unwritten_origin m.origins c e)

pub plain_numbered : (m : Kept) (h : Held) (from : ℕ) (c : Cell) → c ≡ cell_at h.cells from → c.state ≡ states.Plain →
    None ≡ pointer_in (bytes_in m h from 8)
plain_numbered m h from c is e = none_numbered m h from c is (plain_origin m.origins c e)

named_split : (b : Bool) (ps : List Prov) (o : Origin) → named_in ps (then_some b o) ≡ cond b (Some (prov_numbered ps o.number)) None
named_split true ps o = refl
named_split false ps o = refl

pub piece_numbered : (m : Kept) (h : Held) (from : ℕ) (c : Cell) (b : Bool) → c ≡ cell_at h.cells from → c.state ≡ states.Piece →
    b ≡ are_pieces (prov_numbered m.origins c.origin.number) 0 (bytes_in m h from 8) →
    named_in m.origins (then_some b c.origin) ≡ pointer_in (bytes_in m h from 8)
piece_numbered m h from c b is e all =
    named_split b m.origins c.origin
    ∙ ap (λ (d : Bool). cond d (Some (prov_numbered m.origins c.origin.number)) None) all
    ∙ ap (λ (o : Option Prov). pointer_if o (bytes_in m h from 8))
    (piece_origin m.origins c e ∙ ap (λ (k : Cell). origin_in (byte_in m.origins k)) is)
