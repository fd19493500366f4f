-- What is looked at in the store of a program, so that its acts keep the laws of the store (own).
use Rattle.std.specs.Prelude.{ℕ, ◌+◌, ◌^◌, min, max, Bool, true, false, not, ◌&&◌, ◌||◌, List, [], ◌∷◌, Option, Some, None, is_some}
use Rattle.ub_base.specs.declared.names.Event.{Event}
use Rattle.ub_base.specs.declared.names.ObjName.{ObjName}
use Rattle.ub_base.specs.declared.names.Item.{Item}
use Rattle.ub_base.specs.declared.names.Item.TheVariants.{Born, Narrow}
use Rattle.ub_base.specs.Names.{same_event, same_object}
use Rattle.addr_map.specs.declared.map.Row.{Row}
use Rattle.addr_map.specs.Rows.{row_of}
use Rattle.exposure.specs.Cells.{is_other}
use Rattle.mem_spec.specs.Streams.{Outputs}
use Rattle.mem_spec.specs.Store.{TaggedByte, Life, Store, can_find}
use Rattle.mem_spec.specs.Acts.{size_in}
use Rattle.mem_laws.specs.Frame.{bears, ends_life, shows, writes, settles, settles_away, takes, prints, any_of, interferes}
use Rattle.c_model.specs.ModelMachine.{StorePart}

-- the parts of a store
pub data Part : Type 0 where
  life_of : ObjName → Part
  is_known : ObjName → Part
  is_exposed : ObjName → Part
  byte_of : ObjName → ℕ → Part
  is_found : ObjName → Part
  kept_for : Event → Part
  -- whether an ambiguity was settled to another object
  kept_away : Event → ObjName → Part
  the_input : Part
  the_position : Part
  the_output : Part

-- and what a look at one shows
pub data Seen : Type 0 where
  a_life : Option Life → Seen
  a_truth : Bool → Seen
  a_byte : TaggedByte → Seen
  an_object : Option ObjName → Seen
  some_bytes : List ℕ → Seen
  some_outputs : Outputs → Seen
  a_number : ℕ → Seen

abbrev pub look : Part → Store → Seen
look (life_of x) s = a_life (s.life x)
look (is_known x) s = a_truth (is_some (s.life x))
look (is_exposed x) s = a_truth (s.exposed x)
look (byte_of x b) s = a_byte (s.bytes x b)
look (is_found x) s = a_truth (can_find s x)
look (kept_for e) s = an_object (s.kept e)
look (kept_away e x) s = a_truth (is_other (s.kept e) x)
look the_input s = some_bytes s.input
look the_position s = a_number s.position
look the_output s = some_outputs s.output

-- the parts that an item alters
abbrev pub alters : Item → Part → Bool
alters i (life_of x) = bears i x || ends_life i x
alters i (is_known x) = bears i x
alters i (is_exposed x) = bears i x || shows i x
alters i (byte_of x b) = bears i x || (ends_life i x || writes i x b)
alters i (is_found x) = shows i x || ends_life i x
alters i (kept_for e) = settles i e
alters i (kept_away e x) = settles_away i e x
alters i the_input = false
alters i the_position = takes i
alters i the_output = prints i

-- what two lists of items may both leave so
pub data Fact : Type 0 where
  -- the object is exposed if it was created
  was_shown : ObjName → Fact
  was_settled : Event → ObjName → Fact

abbrev pub settles_to : Item → Event → ObjName → Bool
settles_to (Narrow d y) e x = same_event d e && same_object y x
settles_to _ e x = false

-- after these items, where it was so before or not
abbrev pub shown_after : List Item → ObjName → Bool → Bool
shown_after [] x before = before
shown_after (i ∷ is) x before = shown_after is x (not (bears i x) && (shows i x || before))

abbrev pub says : List Item → Fact → Bool
says is (was_shown x) = shown_after is x false
says is (was_settled e x) = any_of (λ i. settles_to i e x) is

abbrev pub same_truth : Bool → Bool → Bool
same_truth true b = b
same_truth false b = not b

abbrev pub is_the : Option ObjName → ObjName → Bool
is_the None x = false
is_the (Some y) x = same_object y x

abbrev pub is_so : Fact → Store → Bool
is_so (was_shown x) s = same_truth (s.exposed x) (is_some (s.life x))
is_so (was_settled e x) s = is_the (s.kept e) x

-- the sum of created bytes, to which a birth adds the size of its object's row
abbrev pub counts : List Row → Item → ℕ → ℕ
counts rows (Born x) n = min (n + max (size_in (row_of rows x)) 16) (2 ^ 62)
counts rows _ n = n

abbrev pub counted_after : List Row → List Item → ℕ → ℕ
counted_after rows [] n = n
counted_after rows (i ∷ is) n = counted_after rows is (counts rows i n)

abbrev pub store_parts : List Row → StorePart Part Seen Fact
store_parts rows = record {
  look = look;
  alters = alters;
  clash = interferes rows;
  says = says;
  is_so = is_so;
  counted = λ s. s.created;
  counts = counts rows;
}
