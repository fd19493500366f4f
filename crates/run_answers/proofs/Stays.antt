-- What a memory that is kept leaves of what stands in it.
use Rattle.std.proofs.Common.{◌≡◌, ℕ, zero, suc, ◌+◌, ◌-◌, ◌<◌, ◌≤◌, Bool, true, false, refl, ap, ap₂, ◌∙◌, arith, if◌then◌else◌}
use Rattle.std.proofs.Common.{List, [], ◌∷◌, ◌++◌, length, map, slice_get, Option, Some, None}
use Rattle.std.specs.Prelude.{◌==◌, nat_le, option_map}
use Rattle.std.proofs.lemmas.Bool.Decides.{nat_tests}
use Rattle.exposure.specs.declared.prov.Prov.{Prov}
use Rattle.c_types.specs.declared.ty.Ty.{Ty}
use Rattle.c_types.specs.Types.{CType, type_of}
use Rattle.mem_spec.specs.Store.{TaggedByte}
use Rattle.mem_objects.specs.declared.cell.Cell.{Cell}
use Rattle.mem_objects.specs.declared.cell.State.{State}
use Rattle.mem_objects.specs.declared.cell.State.TheVariants as states
use Rattle.mem_objects.specs.declared.value.Value.{Value as Kept_value}
use Rattle.mem_objects.specs.declared.value.Value.TheVariants as kept
use Rattle.mem_objects.specs.Cells.{byte_in_state, integer_or, kind_numbered, tagged_in, type_numbered}
use Rattle.mem_objects.specs.Keeps.{Keeps}
use Rattle.mem_objects.specs.Memory.{Kept, CellsKnown}
use Rattle.mem_objects.specs.Pieces.{seen}
use Rattle.mem_objects.specs.Tags.{CellsTagged}
use Rattle.mem_objects.proofs.ProvLemmas.{prov_more}
use Rattle.c_model.specs.Values.{Value, Whole}
use Rattle.run_values.specs.Kept.{IsOf}
use Rattle.run_values.specs.Views.{value_in}
use Rattle.run_values.proofs.Keeping.{values_stay}
use Rattle.run_state.specs.Stands.{Holds}

-- ---- types keep their numbers
low : (ts us : List CType) (n : ℕ) → n ≤ 12 → type_numbered ts n ≡ type_numbered us n
low ts us zero le = refl
low ts us (suc zero) le = refl
low ts us (suc (suc zero)) le = refl
low ts us (suc (suc (suc zero))) le = refl
low ts us (suc (suc (suc (suc zero)))) le = refl
low ts us (suc (suc (suc (suc (suc zero))))) le = refl
low ts us (suc (suc (suc (suc (suc (suc zero)))))) le = refl
low ts us (suc (suc (suc (suc (suc (suc (suc zero))))))) le = refl
low ts us (suc (suc (suc (suc (suc (suc (suc (suc zero)))))))) le = refl
low ts us (suc (suc (suc (suc (suc (suc (suc (suc (suc zero))))))))) le = refl
low ts us (suc (suc (suc (suc (suc (suc (suc (suc (suc (suc zero)))))))))) le = refl
low ts us (suc (suc (suc (suc (suc (suc (suc (suc (suc (suc (suc zero))))))))))) le = refl
low ts us (suc (suc (suc (suc (suc (suc (suc (suc (suc (suc (suc (suc zero)))))))))))) le = refl
low ts us (suc (suc (suc (suc (suc (suc (suc (suc (suc (suc (suc (suc (suc n))))))))))))) le = absurd (omega (arith, le))

got : (ts more : List Ty) (k : ℕ) → k < length ts → slice_get (map type_of (ts ++ more)) k ≡ slice_get (map type_of ts) k
got [] more k lt = absurd (omega (arith, lt))
got (t ∷ ts) more zero lt = refl
got (t ∷ ts) more (suc k) lt = got ts more k (omega (arith, lt))

pub type_stays : (ts more : List Ty) (n : ℕ) → n ≤ length ts + 12 → type_numbered (map type_of (ts ++ more)) n ≡ type_numbered (map type_of ts) n
type_stays ts more n le = go (nat_le n 12) refl
  where
    go : (b : Bool) → nat_le n 12 ≡ b → type_numbered (map type_of (ts ++ more)) n ≡ type_numbered (map type_of ts) n
    go true e = low (map type_of (ts ++ more)) (map type_of ts) n (grind (arith, nat_tests, e))
    go false e =
        let past : 13 ≤ n = grind (arith, nat_tests, e) in
        ap (λ (o : Option CType). if n == 0 then None else integer_or (kind_numbered n) o) (got ts more (n - 13) (omega (arith, le, past)))

-- ---- bytes stand for what they stood for
byte_stays : (ps more : List Prov) (c : Cell) (s : State) → c.origin.number ≤ length ps → byte_in_state (ps ++ more) s c ≡ byte_in_state ps s c
byte_stays ps more c states.Unwritten le = refl
byte_stays ps more c states.Plain le = refl
byte_stays ps more c states.Piece le =
    ap (λ (p : Prov). Rattle.mem_spec.specs.Store.written c.number (Some (p, c.piece_index))) (prov_more ps more c.origin.number le)

cell_stays : (ps more_ps : List Prov) (ts more_ts : List Ty) (c : Cell) → c.origin.number ≤ length ps → c.tag.number ≤ length ts + 12
    → tagged_in (ps ++ more_ps) (map type_of (ts ++ more_ts)) c ≡ tagged_in ps (map type_of ts) c
cell_stays ps more_ps ts more_ts c known tagged =
    ap₂ (λ (b : _) (o : Option CType). record { byte = b; tag = option_map (λ (ty : CType). (ty, c.tag_index)) o })
    (byte_stays ps more_ps c c.state known) (type_stays ts more_ts c.tag.number tagged)

cells_stay : (ps more_ps : List Prov) (ts more_ts : List Ty) (cs : List Cell) → CellsKnown (length ps) cs → CellsTagged (length ts) cs
    → map (tagged_in (ps ++ more_ps) (map type_of (ts ++ more_ts))) cs ≡ map (tagged_in ps (map type_of ts)) cs
cells_stay ps more_ps ts more_ts [] known tagged = refl
cells_stay ps more_ps ts more_ts (c ∷ cs) known tagged =
    ap₂ (λ (b : TaggedByte) (bs : List TaggedByte). b ∷ bs) (cell_stays ps more_ps ts more_ts c known.0 tagged.0)
    (cells_stay ps more_ps ts more_ts cs known.1 tagged.1)

pub seen_stays : (old new : Kept) (cs : List Cell) → Keeps old new → CellsKnown (length old.origins) cs → CellsTagged (length old.types) cs
    → seen new cs ≡ seen old cs
seen_stays old new cs keeps known tagged =
    ap₂ (λ (ps : List Prov) (ts : List Ty). map (tagged_in ps (map type_of ts)) cs) keeps.origins.1 keeps.types.1
    ∙ cells_stay old.origins keeps.origins.0 old.types keeps.types.0 cs known tagged

-- ---- values
pub value_stays : (old new : Kept) (h : Kept_value) → Keeps old new → IsOf old h → value_in new h ≡ value_in old h
value_stays old new (kept.Block b) keeps is = ap (λ (bs : List TaggedByte). Whole bs b.source) (seen_stays old new b.cells keeps is.known is.tagged)
value_stays old new (kept.Int z) keeps is = refl
value_stays old new (kept.Ptr a p) keeps is = refl
value_stays old new (kept.Func a) keeps is = refl
value_stays old new kept.Missing keeps is = refl
value_stays old new kept.Nothing keeps is = refl

-- what stands in a room that stays stands on
pub holds_stay : (old new : Kept) (rooms after : List Kept_value) (room : ℕ) (v : Value) → Keeps old new → slice_get after room ≡ slice_get rooms room
    → Holds old rooms room v → Holds new after room v
holds_stay old new rooms after room v keeps same held =
    (held.0, same ∙ held.1, values_stay old new held.0 keeps held.2, value_stays old new held.0 keeps held.2 ∙ held.3)
