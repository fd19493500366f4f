-- What every call of a memory keeps, step by step.
use Rattle.std.proofs.Common.{◌≡◌, ℕ, zero, suc, ◌+◌, ◌-◌, ◌≤◌, ◌^◌, Bool, true, false, not, ◌&&◌, cond, refl, sym, ap, ◌∙◌, subst, arith}
use Rattle.std.proofs.Common.{append_assoc, List, [], ◌∷◌, ◌++◌, length, map, slice_get, Option, Some, None}
use Rattle.std.specs.Prelude.{is_some, option_map, IfSome, ◌%◌, nat_le, nat_lt}
use Rattle.std.specs.Bool.{OnTrue, OnFalse}
use Rattle.ub_base.specs.declared.names.Event.{Event}
use Rattle.ub_base.specs.declared.names.ObjName.{ObjName}
use Rattle.ub_base.specs.Names.{same_event, same_object}
use Rattle.ub_base.proofs.NameLemmas.{same_event_is, same_object_is}
use Rattle.addr_map.specs.Rows.{row_of}
use Rattle.addr_map.specs.Sound.{Above}
use Rattle.exposure.specs.declared.prov.Prov.{Prov}
use Rattle.exposure.specs.Cells.{Cells, kept_in, has_cell, is_other, Settles}
use Rattle.c_types.specs.declared.ty.Ty.{Ty}
use Rattle.mem_objects.specs.declared.cell.Cell.{Cell}
use Rattle.mem_objects.specs.declared.cell.Via.{Via}
use Rattle.mem_objects.specs.declared.cell.Via.TheVariants as vias
use Rattle.mem_objects.specs.Cells.{is_character_numbered, untagged, cell_at, cell_left}
use Rattle.mem_objects.specs.Held.{Held, IsWritten, held_of, changed, killed, emptied, uncovered, holding}
use Rattle.mem_objects.specs.Memory.{Kept, CellsKnown, ObjectsKnown, life_in, uncovered_each}
use Rattle.mem_objects.specs.Made.{EachNamed, HasMore}
use Rattle.mem_objects.specs.Sound.{IsSound}
use Rattle.mem_objects.specs.Tags.{AddsTypes, IsTagged, CellsTagged, ObjectsTagged, AreTagged}
use Rattle.mem_objects.specs.Room.{IsPacked, AreRowsCreated}
use Rattle.mem_objects.specs.Keeps.{lasting, GoesOn, SettledStays, AreBare, Keeps, IsNumbered}
use Rattle.mem_objects.proofs.ProvLemmas.{extends_none}
use Rattle.mem_objects.proofs.SettleLemmas.{stays_made}
use Rattle.mem_objects.proofs.ActLemmas.{known_killed, known_emptied, known_uncovered}
use Rattle.mem_objects.proofs.WriteLemmas.{held_known, holding_known, written_known}
use Rattle.mem_objects.proofs.TagLemmas.{tag_at, tags_of, all_tagged_adds}
use Rattle.mem_objects.proofs.SoundLemmas.{Alters, alters_made, alters_sound, more_made, settled_sound, typed_made, typed_sound}

-- ---- nothing, and one step after the other
append_none : {A : Type 0} (l : List A) → l ++ [] ≡ l
append_none [] = refl
append_none (x ∷ l) = ap (λ k. x ∷ k) (append_none l)

pub goes_on_same : {A : Type 0} (old new : List A) → new ≡ old → GoesOn old new
goes_on_same old new e = ([], e ∙ sym (append_none old))

goes_on_then : {A : Type 0} (a b c : List A) → GoesOn a b → GoesOn b c → GoesOn a c
goes_on_then a b c p q = (p.0 ++ q.0, q.1 ∙ ap (λ l. l ++ q.0) p.1 ∙ append_assoc a p.0 q.0)

pub keeps_none : (m : Kept) → Keeps m m
keeps_none m = record {
  rows = λ x r e. e;
  high = λ h. h;
  mode = refl;
  objects = goes_on_same (map lasting m.objects) (map lasting m.objects) refl;
  origins = extends_none m.origins;
  types = goes_on_same m.types m.types refl;
  cells = λ e h. h;
  settled = λ e x h. h;
  made = λ p h. h;
  sound = λ s. s;
  tagged = λ t. t;
  bare = λ b. b;
  close = λ c. c;
}

pub keeps_same : (old new : Kept) → new ≡ old → Keeps old new
keeps_same old new e = subst (λ (m : Kept). Keeps old m) (sym e) (keeps_none old)

pub keeps_then : (a b c : Kept) → Keeps a b → Keeps b c → Keeps a c
keeps_then a b c p q = record {
  rows = λ x r e. q.rows x r (p.rows x r e);
  high = λ h. q.high (p.high h);
  mode = q.mode ∙ p.mode;
  objects = goes_on_then (map lasting a.objects) (map lasting b.objects) (map lasting c.objects) p.objects q.objects;
  origins = goes_on_then a.origins b.origins c.origins p.origins q.origins;
  types = goes_on_then a.types b.types c.types p.types q.types;
  cells = λ e h. q.cells e (p.cells e h);
  settled = λ e x h. q.settled e x (p.settled e x h);
  made = λ r h. q.made r (p.made r h);
  sound = λ s. q.sound (p.sound s);
  tagged = λ t. q.tagged (p.tagged t);
  bare = λ u. q.bare (p.bare u);
  close = λ u. q.close (p.close u);
}

-- after a step that changes nothing
pub keeps_after : (old acc new : Kept) → acc ≡ old → Keeps acc new → Keeps old new
keeps_after old acc new same k = subst (λ (m : Kept). Keeps m new) same k

-- ---- settling
some_is : (a b : ObjName) → Some a ≡ Some b → a ≡ b
some_is a b e = cc

not_false : (b : Bool) → not b ≡ false → b ≡ true
not_false true e = refl
not_false false e = absurd (cc)

own : (o : Option ObjName) (x keep : ObjName) → is_other o keep ≡ false → o ≡ Some x → x ≡ keep
own None x keep free e = absurd (cc)
own (Some y) x keep free e = sym (some_is y x e) ∙ same_object_is y keep (not_false (same_object y keep) free)

left_of : (b c : Bool) → (b && c) ≡ true → b ≡ true
left_of true c e = refl
left_of false c e = absurd (cc)

settled_split : (b : Bool) (old : Cells) (id e : Event) (keep x : ObjName) → (same_event id e && has_cell old id) ≡ b →
    is_other (kept_in old id) keep ≡ false → kept_in old e ≡ Some x → cond b (Some keep) (kept_in old e) ≡ Some x
settled_split true old id e keep x is free h =
    let here : id ≡ e = same_event_is id e (left_of (same_event id e) (has_cell old id) is) in
    ap Some (sym (own (kept_in old id) x keep free (ap (kept_in old) here ∙ h)))
settled_split false old id e keep x is free h = h

settles_stays : (old new : Cells) (id : Event) (keep : ObjName) → Settles old new id keep → is_other (kept_in old id) keep ≡ false → SettledStays old new
settles_stays old new id keep s free e x h =
    s.kept e ∙ settled_split (same_event id e && has_cell old id) old id e keep x refl free h

keeps_cells : (m : Kept) (cells : Cells) → ((e : Event) → has_cell cells e ≡ has_cell m.cells e) → SettledStays m.cells cells →
    Keeps m (record m { cells = cells })
keeps_cells m cells same stays = record {
  rows = λ x r e. e;
  high = λ h. h;
  mode = refl;
  objects = goes_on_same (map lasting m.objects) (map lasting m.objects) refl;
  origins = extends_none m.origins;
  types = goes_on_same m.types m.types refl;
  cells = λ e h. same e ∙ h;
  settled = stays;
  made = stays_made m (record m { cells = cells }) refl same;
  sound = settled_sound m (record m { cells = cells }) refl same;
  tagged = λ t. t;
  bare = λ b. b;
  close = λ c. record { packed = c.packed; only = c.only };
}

pub keeps_narrowed : (b : Bool) (m : Kept) (cells : Cells) (id : Event) (keep : ObjName) → b ≡ not (is_other (kept_in m.cells id) keep) →
    OnTrue b (Settles m.cells cells id keep) → OnFalse b (cells ≡ m.cells) → Keeps m (record m { cells = cells })
keeps_narrowed true m cells id keep is s same =
    keeps_cells m cells s.cells (settles_stays m.cells cells id keep s (free_of (is_other (kept_in m.cells id) keep) is))
  where
    free_of : (b : Bool) → true ≡ not b → b ≡ false
    free_of true e = absurd (cc)
    free_of false e = refl
keeps_narrowed false m cells id keep is s same = keeps_same m (record m { cells = cells }) (ap (λ (cs : Cells). record m { cells = cs }) same)

-- ---- the objects change, but for what lasts
held_split : (b : Bool) (h : Held) (o p : Option Held) → p ≡ option_map lasting o →
    cond b (Some (lasting h)) p ≡ option_map lasting (cond b (Some h) o)
held_split true h o p e = refl
held_split false h o p e = e

held_lasting : (hs : List Held) (x : ObjName) → held_of (map lasting hs) x ≡ option_map lasting (held_of hs x)
held_lasting [] x = refl
held_lasting (h ∷ hs) x = held_split (same_object h.name x) h (held_of hs x) (held_of (map lasting hs) x) (held_lasting hs x)

some_lasting : (o : Option Held) → is_some (option_map lasting o) ≡ is_some o
some_lasting None = refl
some_lasting (Some h) = refl

held_stays : (hs gs : List Held) (x : ObjName) → map lasting gs ≡ map lasting hs → is_some (held_of gs x) ≡ is_some (held_of hs x)
held_stays hs gs x e =
    sym (some_lasting (held_of gs x))
    ∙ ap is_some (sym (held_lasting gs x) ∙ ap (λ (l : List Held). held_of l x) e ∙ held_lasting hs x)
    ∙ some_lasting (held_of hs x)

named_lasting : (ps : List Prov) (hs : List Held) → EachNamed ps hs → EachNamed ps (map lasting hs)
named_lasting ps [] named = tt
named_lasting ps (h ∷ hs) named = (named.0, named_lasting ps hs named.1)

named_back : (ps : List Prov) (hs : List Held) → EachNamed ps (map lasting hs) → EachNamed ps hs
named_back ps [] named = tt
named_back ps (h ∷ hs) named = (named.0, named_back ps hs named.1)

abbrev Bare : Option Held → Type 0
Bare o = IfSome (life_in o) (λ l. l.kind.heap ≡ true → l.declared ≡ None)

bare_lasting : (o : Option Held) → Bare o → Bare (option_map lasting o)
bare_lasting None b = tt
bare_lasting (Some h) b = b

bare_back : (o : Option Held) → Bare (option_map lasting o) → Bare o
bare_back None b = tt
bare_back (Some h) b = b

bare_stays : (hs gs : List Held) (x : ObjName) → map lasting gs ≡ map lasting hs → Bare (held_of hs x) → Bare (held_of gs x)
bare_stays hs gs x e b =
    bare_back (held_of gs x) (subst (λ (o : Option Held). Bare o)
    (sym (sym (held_lasting gs x) ∙ ap (λ (l : List Held). held_of l x) e ∙ held_lasting hs x)) (bare_lasting (held_of hs x) b))

pub keeps_objects : (m : Kept) (hs : List Held) → map lasting hs ≡ map lasting m.objects →
    (ObjectsKnown (length m.origins) m.objects → ObjectsKnown (length m.origins) hs) →
    (ObjectsTagged (length m.types) m.objects → ObjectsTagged (length m.types) hs) → Keeps m (record m { objects = hs })
keeps_objects m hs same known tagged =
    let new : Kept = record m { objects = hs } in
    let alters : Alters m new hs = record {
      objects = refl;
      rows = refl;
      origins = refl;
      cells = λ e h. h;
      held = λ x. held_stays m.objects hs x same;
      named = λ named. named_back m.origins hs (subst (λ (l : List Held). EachNamed m.origins l) (sym same) (named_lasting m.origins m.objects named));
    } in
    record {
      rows = λ x r e. e;
      high = λ h. h;
      mode = refl;
      objects = goes_on_same (map lasting m.objects) (map lasting hs) same;
      origins = extends_none m.origins;
      types = goes_on_same m.types m.types refl;
      cells = λ e h. h;
      settled = λ e x h. h;
      made = alters_made m new hs alters;
      sound = λ s. alters_sound m new hs alters (known s.known) s;
      tagged = tagged;
      bare = λ b x. bare_stays m.objects hs x same (b x);
      close = λ c. record { packed = c.packed; only = λ within x h. held_stays m.objects hs x same ∙ c.only within x h };
    }

lasting_split : (b : Bool) (f : Held → Held) (h : Held) → lasting (f h) ≡ lasting h → lasting (cond b (f h) h) ≡ lasting h
lasting_split true f h e = e
lasting_split false f h e = refl

lasting_changed : (f : Held → Held) (x : ObjName) (hs : List Held) → ((h : Held) → lasting (f h) ≡ lasting h) →
    map lasting (changed f x hs) ≡ map lasting hs
lasting_changed f x [] keeps = refl
lasting_changed f x (h ∷ hs) keeps = λ i. lasting_split (same_object h.name x) f h (keeps h) i ∷ lasting_changed f x hs keeps i

lasting_shown : (xs : List ObjName) (hs : List Held) → map lasting (uncovered_each xs hs) ≡ map lasting hs
lasting_shown [] hs = refl
lasting_shown (x ∷ xs) hs = lasting_shown xs (changed uncovered x hs) ∙ lasting_changed uncovered x hs (λ h. refl)

tagged_split : (b : Bool) (n : ℕ) (f : Held → Held) (h : Held) → CellsTagged n h.cells → CellsTagged n (f h).cells → CellsTagged n (cond b (f h) h).cells
tagged_split true n f h old new = new
tagged_split false n f h old new = old

tagged_changed : (n : ℕ) (f : Held → Held) (x : ObjName) (hs : List Held) → ((h : Held) → CellsTagged n h.cells → CellsTagged n (f h).cells) →
    ObjectsTagged n hs → ObjectsTagged n (changed f x hs)
tagged_changed n f x [] keeps t = tt
tagged_changed n f x (h ∷ hs) keeps t = (tagged_split (same_object h.name x) n f h t.0 (keeps h t.0), tagged_changed n f x hs keeps t.1)

tagged_shown : (n : ℕ) (xs : List ObjName) (hs : List Held) → ObjectsTagged n hs → ObjectsTagged n (uncovered_each xs hs)
tagged_shown n [] hs t = t
tagged_shown n (x ∷ xs) hs t = tagged_shown n xs (changed uncovered x hs) (tagged_changed n uncovered x hs (λ h k. k) t)

pub keeps_killed : (m : Kept) (x : ObjName) → Keeps m (record m { objects = changed killed x m.objects })
keeps_killed m x = keeps_objects m (changed killed x m.objects) (lasting_changed killed x m.objects (λ h. refl))
    (known_killed (length m.origins) x m.objects) (tagged_changed (length m.types) killed x m.objects (λ h k. tt))

pub keeps_emptied : (m : Kept) (x : ObjName) → Keeps m (record m { objects = changed emptied x m.objects })
keeps_emptied m x = keeps_objects m (changed emptied x m.objects) (lasting_changed emptied x m.objects (λ h. refl))
    (known_emptied (length m.origins) x m.objects) (tagged_changed (length m.types) emptied x m.objects (λ h k. tt))

pub keeps_shown : (m new : Kept) (xs : List ObjName) → new ≡ record m { objects = uncovered_each xs m.objects } → Keeps m new
keeps_shown m new xs e =
    subst (λ (k : Kept). Keeps m k) (sym e) (keeps_objects m (uncovered_each xs m.objects) (lasting_shown xs m.objects)
    (known_uncovered (length m.origins) xs m.objects) (tagged_shown (length m.types) xs m.objects))

-- ---- stores
left_tag : (d : Bool) (via : Via) (i : ℕ) (c : Cell) (n : ℕ) → IsNumbered n via → IsTagged n c → IsTagged n (cell_left d via i c)
left_tag true via i c n numbered t = omega arith
left_tag false vias.Whole i c n numbered t = t
left_tag false vias.Bytes i c n numbered t = omega arith
left_tag false (vias.Scalar id) i c n numbered t = scalar_tag (is_character_numbered id.number)
  where
    scalar_tag : (b : Bool) → IsTagged n (cond b (untagged c) (record c { tag_index = i % 256; tag = id }))
    scalar_tag true = omega arith
    scalar_tag false = numbered

put_tag : (t d : Bool) (n : ℕ) (old new : Cell) (via : Via) (i : ℕ) → IsNumbered n via → IsTagged n old → IsTagged n new →
    IsTagged n (cond t (cell_left d via i new) old)
put_tag true d n old new via i numbered e f = left_tag d via i new n numbered f
put_tag false d n old new via i numbered e f = e

all_tagged : (n : ℕ) (cs : List Cell) → ((at : ℕ) → IsTagged n (cell_at cs at)) → CellsTagged n cs
all_tagged n [] all = tt
all_tagged n (c ∷ cs) all = (all zero, all_tagged n cs (λ at. all (suc at)))

written_tagged : (n : ℕ) (h g : Held) (from : ℕ) (via : Via) (cs : List Cell) → IsWritten h g from via cs → IsNumbered n via → CellsTagged n h.cells →
    CellsTagged n cs → CellsTagged n g.cells
written_tagged n h g from via cs w numbered old new =
    all_tagged n g.cells (λ at. subst (λ (c : Cell). IsTagged n c) (sym (w.bytes at))
    (put_tag (nat_le from at && nat_lt at (from + length cs)) (is_some h.declared) n (cell_at h.cells at) (cell_at cs (at - from)) via (at - from)
    numbered (tag_at n h.cells at old) (tag_at n cs (at - from) new)))

holding_tagged : (n : ℕ) (cs : List Cell) (x : ObjName) (hs : List Held) → CellsTagged n cs → ObjectsTagged n hs → ObjectsTagged n (changed (holding cs) x hs)
holding_tagged n cs x hs t = tagged_changed n (holding cs) x hs (λ h k. t)

pub keeps_written : (m new : Kept) (h g : Held) (x : ObjName) (at from : ℕ) (via : Via) (cs : List Cell) → slice_get m.objects at ≡ Some h →
    new ≡ record m { objects = changed (holding g.cells) x m.objects } → IsWritten h g from via cs → IsNumbered (length m.types) via →
    CellsKnown (length m.origins) cs → CellsTagged (length m.types) cs → Keeps m new
keeps_written m new h g x at from via cs there e w numbered known tagged =
    subst (λ (k : Kept). Keeps m k) (sym e) (keeps_objects m (changed (holding g.cells) x m.objects)
    (lasting_changed (holding g.cells) x m.objects (λ k. refl))
    (λ was. holding_known (length m.origins) g.cells x m.objects
    (written_known (length m.origins) h g from via cs w (held_known (length m.origins) m.objects at h there was) known) was)
    (λ was. holding_tagged (length m.types) g.cells x m.objects
    (written_tagged (length m.types) h g from via cs w numbered (tags_of (length m.types) m.objects at h there was) tagged) was))

-- ---- more provenances and ambiguities, more types
pub keeps_more : (old new : Kept) → HasMore old new → (IsSound old → IsSound new) → Keeps old new
keeps_more old new more sound = record {
  rows = λ x r e. ap (λ (m : Kept). row_of m.rows x) more.rest ∙ e;
  high = subst (λ (m : Kept). Above 16777216 old.rows → Above 16777216 m.rows) (sym more.rest) (λ h. h);
  mode = ap (λ (m : Kept). m.mode) more.rest;
  objects = goes_on_same (map lasting old.objects) (map lasting new.objects) (ap (λ (m : Kept). map lasting m.objects) more.rest);
  origins = more.origins;
  types = goes_on_same old.types new.types (ap (λ (m : Kept). m.types) more.rest);
  cells = more.cells;
  settled = λ e x h. more.kept e ∙ h;
  made = more_made old new more;
  sound = sound;
  tagged = subst (λ (m : Kept). AreTagged old → AreTagged m) (sym more.rest) (λ t. t);
  bare = subst (λ (m : Kept). AreBare old → AreBare m) (sym more.rest) (λ b. b);
  close = λ c. record {
    packed = subst (λ (m : Kept). m.created ≤ 2 ^ 40 → IsPacked m) (sym more.rest) c.packed;
    only = subst (λ (m : Kept). m.created ≤ 2 ^ 40 → AreRowsCreated m) (sym more.rest) c.only;
  };
}

keeps_typed : (m : Kept) (more : List Ty) → Keeps m (record m { types = m.types ++ more })
keeps_typed m more = record {
  rows = λ x r e. e;
  high = λ h. h;
  mode = refl;
  objects = goes_on_same (map lasting m.objects) (map lasting m.objects) refl;
  origins = extends_none m.origins;
  types = (more, refl);
  cells = λ e h. h;
  settled = λ e x h. h;
  made = typed_made m (record m { types = m.types ++ more }) refl;
  sound = typed_sound m (record m { types = m.types ++ more }) refl;
  tagged = all_tagged_adds m (record m { types = m.types ++ more }) (more, refl);
  bare = λ b. b;
  close = λ c. record { packed = c.packed; only = c.only };
}

pub keeps_types : (old new : Kept) → AddsTypes old new → Keeps old new
keeps_types old new p = subst (λ (k : Kept). Keeps old k) (sym p.1) (keeps_typed old p.0)
