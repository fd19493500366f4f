-- What an initialization puts, as the definitions have it (6.7.9).
use Rattle.std.specs.Prelude.{◌≡◌, List, [], ◌∷◌, true}
use Rattle.mem_spec.specs.Script.{Script}
use Rattle.mem_spec.specs.Acts.{store, bytes}
use Rattle.mem_objects.specs.Memory.{Kept}
use Rattle.mem_objects.specs.Pieces.{seen}
use Rattle.c_model.specs.Program.{Filling as Filled}
use Rattle.c_model.specs.Values.{Pointer, address_after}
use Rattle.c_model.specs.Nodes.{content_bytes}
use Rattle.run_values.specs.declared.filling.Filling.{Filling}

-- the same place in an object, and the same bytes
pub record IsFilling (m : Kept) (f : Filling) (c : Filled) : Type 0 where
  pub at : f.at ≡ c.offset
  pub bytes : seen m f.bytes.cells ≡ content_bytes m.rows c.content

abbrev pub AreFillings : Kept → List Filling → List Filled → Type 0
AreFillings m [] [] = Unit {0}
AreFillings m (f ∷ fs) (c ∷ cs) = IsFilling m f c × AreFillings m fs cs
AreFillings m _ _ = ⊥

-- the store of one of them
abbrev pub filling_act : Kept → Filling → Pointer → Script (Unit {0})
filling_act m f p = store m.rows true bytes 1 (address_after p.address f.at) p.prov (seen m f.bytes.cells)
