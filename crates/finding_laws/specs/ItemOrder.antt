-- The order of items by the rows of a run's frames, and by the keys of the definition.
use Rattle.std.specs.Prelude.{◌≡◌, ℕ, ◌++◌, List}
use Rattle.std.specs.Ordering.{is_lt}
use Rattle.ub_base.specs.declared.names.ObjName.{ObjName}
use Rattle.ub_base.specs.declared.names.ObjName.TheVariants.{Auto, Heap}
use Rattle.ub_base.specs.declared.names.Item.{Item}
use Rattle.ub_base.specs.declared.names.Item.TheVariants.{Narrow}
use Rattle.ub_base.specs.Frames.{Row, path_of}
use Rattle.footprint.specs.Least.{item_object, item_cmp, pair_cmp}
use Rattle.c_model.specs.World.{World}
use Rattle.c_model.specs.Runs.{Entry}
use Rattle.c_model.specs.Keys.{comes_first, path_in, item_key}

module _ (world : World) (trace : List Entry) (rows : List Row) where
  -- a frame of the trace, to which the rows give the same path
  pub record IsKnown (frame : ℕ) : Type 0 where
    pub path : path_in world trace trace frame ≡ path_of rows frame
    pub own : world.number (path_in world trace trace frame) ≡ frame

  abbrev pub IsKnownObject : ObjName → Type 0
  IsKnownObject (Auto f turn k) = IsKnown f.0
  IsKnownObject (Heap f turn node) = IsKnown f.0
  IsKnownObject _ = Unit {0}

  abbrev pub IsKnownEvent : Item → Type 0
  IsKnownEvent (Narrow d x) = IsKnown d.frame.0
  IsKnownEvent _ = Unit {0}

  -- so is each frame by which the item names its object or its ambiguity
  pub record IsKnownItem (i : Item) : Type 0 where
    pub object : IsKnownObject (item_object i)
    pub event : IsKnownEvent i

-- one item comes before another by the rows where it does by the keys
abbrev pub ItemsByKeys : Type 0
ItemsByKeys = (world : World) (trace : List Entry) (rows : List Row) (i j : Item) → IsKnownItem world trace rows i → IsKnownItem world trace rows j →
    is_lt (item_cmp rows i j) ≡ comes_first (item_key world trace i) (item_key world trace j)

-- so does a pair of items
abbrev pub PairsByKeys : Type 0
PairsByKeys = (world : World) (trace : List Entry) (rows : List Row) (p q : Item × Item)
    → IsKnownItem world trace rows p.0 → IsKnownItem world trace rows p.1 → IsKnownItem world trace rows q.0 → IsKnownItem world trace rows q.1 →
    is_lt (pair_cmp rows p q) ≡
    comes_first (item_key world trace p.0 ++ item_key world trace p.1) (item_key world trace q.0 ++ item_key world trace q.1)
