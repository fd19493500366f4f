-- What a load reads of the bytes where it falls.
use Rattle.std.proofs.Common.{
  ◌≡◌,
  ℕ,
  zero,
  suc,
  ◌+◌,
  ◌-◌,
  ◌*◌,
  ◌<◌,
  ◌≤◌,
  Bool,
  true,
  false,
  not,
  ◌&&◌,
  cond,
  refl,
  sym,
  ap,
  ◌∙◌,
  subst,
  arith,
  ℤ,
  List,
  [],
  ◌∷◌,
  ◌++◌,
  map,
  slice_get,
  Option,
  Some,
  None,
}
use Rattle.std.specs.Prelude.{Result, Ok, Err, IfErr, nat_lt, option_map, ◌==◌}
use Rattle.std.proofs.lemmas.Bool.Decides.{nat_tests}
use Rattle.ub_base.specs.declared.clause.Clause.{Clause}
use Rattle.ub_base.specs.declared.clause.Clause.TheVariants.{EffectiveType, Indeterminate, TrapRepresentation}
use Rattle.ub_base.specs.declared.names.Item.TheVariants.{Alive}
use Rattle.ub_base.specs.declared.names.ObjName.{ObjName}
use Rattle.addr_map.specs.declared.map.Row.{Row}
use Rattle.exposure.specs.declared.prov.Prov.{Prov}
use Rattle.c_types.specs.declared.kind.IntKind.{IntKind}
use Rattle.c_types.specs.declared.kind.IntKind.TheVariants as kinds
use Rattle.c_types.specs.Layout.{bytes as bytes_of}
use Rattle.c_types.specs.declared.ty.Ty.{Ty}
use Rattle.c_types.specs.Types.{CType, int, type_of}
use Rattle.c_types.specs.Shapes.{form_of}
use Rattle.mem_objects.specs.declared.cell.Cell.{Cell}
use Rattle.mem_objects.specs.declared.cell.State.{State}
use Rattle.mem_objects.specs.declared.cell.State.TheVariants as states
use Rattle.mem_objects.specs.declared.accessed.Accessed.{Accessed as Found}
use Rattle.mem_spec.specs.Agreement.{number_of_kind, bytes_of_kind}
use Rattle.mem_spec.specs.Store.{Store, Life, TaggedByte, range_from}
use Rattle.mem_spec.specs.Script.{Script, Give, Get, Raised, run, touch, require, ◌>>=◌, ◌>>◌}
use Rattle.mem_spec.specs.Acts.{
  Accessed,
  access,
  declared_of,
  tag_agrees,
  tags_agree,
  is_written,
  number_in,
  all_written,
  number_of,
  suits_load,
  show_pieces,
  value_of,
  load_int,
  load_func,
}
use Rattle.mem_spec.specs.Streams.{Io}
use Rattle.mem_objects.specs.Cells.{byte_in, byte_in_state, kind_numbered, integer_or, type_numbered, tag_in}
use Rattle.mem_objects.specs.Held.{Held, held_of}
use Rattle.mem_objects.specs.Memory.{Kept, store_of, life_in, tagged_in_object}
use Rattle.mem_objects.specs.Made.{Settling, after_settling, settling_items}
use Rattle.mem_objects.specs.Access.{IsReached, reached, bytes_in}
use Rattle.mem_objects.specs.Loads.{number_held, number_if, number_checked, number_read}
use Rattle.mem_objects.proofs.AccessLemmas.{raised_then, raised_first}
use Rattle.mem_objects.proofs.WriteLemmas.{Makes}

-- ---- a tag
by_kind : (k : IntKind) (o : Option IntKind) (rest : Option CType) → Some k ≡ o → integer_or o rest ≡ Some (int k)
by_kind k None rest e = absurd (cc)
by_kind k (Some j) rest e = cc

by_other : (o : Option IntKind) (rest : Option CType) → None ≡ o → integer_or o rest ≡ rest
by_other None rest e = refl
by_other (Some j) rest e = absurd (cc)

mapped_at : (ts : List Ty) (k : ℕ) → slice_get (map type_of ts) k ≡ option_map type_of (slice_get ts k)
mapped_at [] k = refl
mapped_at (t ∷ ts) zero = refl
mapped_at (t ∷ ts) (suc k) = mapped_at ts k

not_none : (n : ℕ) → (n ≡ 0 → ⊥) → (n == 0) ≡ false
not_none n e = grind (arith, nat_tests)

tag_other : (ts : List Ty) (n : ℕ) (o : Option Ty) → (n ≡ 0 → ⊥) → None ≡ kind_numbered n → o ≡ slice_get ts (n - 13) →
    type_numbered (map type_of ts) n ≡ option_map type_of o
tag_other ts n o some e at = rw (not_none n some)
    (by_other (kind_numbered n) (slice_get (map type_of ts) (n - 13)) e ∙ mapped_at ts (n - 13) ∙ ap (option_map type_of) (sym at))

abbrev pub tag_by : CType → ℕ → ℕ → Option CType → Bool
tag_by a i index o = tag_agrees a i (option_map (λ (ty : CType). (ty, index)) o)

pub other_agrees : (a : CType) (i : ℕ) (ts : List Ty) (c : Cell) (o : Option Ty) → (c.tag.number ≡ 0 → ⊥) → None ≡ kind_numbered c.tag.number →
    o ≡ slice_get ts (c.tag.number - 13) → tag_by a i c.tag_index (option_map type_of o) ≡ tag_agrees a i (tag_in (map type_of ts) c)
other_agrees a i ts c o some e at = ap (tag_by a i c.tag_index) (sym (tag_other ts c.tag.number o some e at))

-- ---- ranges
pub tags_next : (a : CType) (f : ℕ → TaggedByte) (from i n : ℕ) → i < n →
    tags_agree a i (range_from f (from + i) (n - i)) ≡ (tag_agrees a i (f (from + i)).tag &&
    tags_agree a (i + 1) (range_from f (from + (i + 1)) (n - (i + 1))))
tags_next a f from i n e =
    let count : n - i ≡ suc (n - (i + 1)) = omega arith in
    let next : from + (i + 1) ≡ suc (from + i) = omega arith in
    let index : i + 1 ≡ suc i = omega arith in
    rw (count, next, index) refl

held_by : (ps : List Prov) (s : State) (c : Cell) (n : ℕ) → Some n ≡ number_held s c → (is_written (byte_in_state ps s c) ≡ true) ×
    (number_in (byte_in_state ps s c) ≡ n)
held_by ps states.Unwritten c n e = absurd (cc)
held_by ps states.Plain c n e = (refl, cc)
held_by ps states.Piece c n e = (refl, cc)

pub held_is : (ps : List Prov) (c : Cell) (n : ℕ) → Some n ≡ number_held c.state c → (is_written (byte_in ps c) ≡ true) × (number_in (byte_in ps c) ≡ n)
held_is ps c n e = held_by ps c.state c n e

none_by : (ps : List Prov) (s : State) (c : Cell) → None ≡ number_held s c → is_written (byte_in_state ps s c) ≡ false
none_by ps states.Unwritten c e = refl
none_by ps states.Plain c e = absurd (cc)
none_by ps states.Piece c e = absurd (cc)

pub none_is : (ps : List Prov) (c : Cell) → None ≡ number_held c.state c → is_written (byte_in ps c) ≡ false
none_is ps c e = none_by ps c.state c e

and_false : (b c : Bool) → c ≡ false → (b && c) ≡ false
and_false true c e = e
and_false false c e = refl

not_written : (f : ℕ → TaggedByte) (a n i : ℕ) → i < n → is_written (f (a + i)).byte ≡ false → all_written (range_from f a n) ≡ false
not_written f a zero i lt e = absurd (omega arith)
not_written f a (suc n) zero lt e =
    let same : a + 0 ≡ a = omega arith in
    let here : is_written (f a).byte ≡ false = subst (λ (k : ℕ). is_written (f k).byte ≡ false) same e in
    rw here refl
not_written f a (suc n) (suc i) lt e =
    let same : a + suc i ≡ suc a + i = omega arith in
    and_false (is_written (f a).byte) (all_written (range_from f (suc a) n))
    (not_written f (suc a) n i (omega arith) (subst (λ (k : ℕ). is_written (f k).byte ≡ false) same e))

pub indeterminate : (f : ℕ → TaggedByte) (a n i : ℕ) → i < n → is_written (f (a + i)).byte ≡ false → number_if (range_from f a n) ≡ None
indeterminate f a n i lt e = rw (not_written f a n i lt e) refl

-- the numbers below so many bytes
abbrev pub cap : ℕ → ℕ
cap zero = 1
cap (suc n) = 256 * cap n

pub cap_small : (n : ℕ) → n ≤ 7 → cap n ≤ 72057594037927936
cap_small zero e = omega arith
cap_small (suc zero) e = omega arith
cap_small (suc (suc zero)) e = omega arith
cap_small (suc (suc (suc zero))) e = omega arith
cap_small (suc (suc (suc (suc zero)))) e = omega arith
cap_small (suc (suc (suc (suc (suc zero))))) e = omega arith
cap_small (suc (suc (suc (suc (suc (suc zero)))))) e = omega arith
cap_small (suc (suc (suc (suc (suc (suc (suc zero))))))) e = omega arith
cap_small (suc (suc (suc (suc (suc (suc (suc (suc n)))))))) e = absurd (omega arith)

-- the last bytes of a range and their number, one more than before
pub record IsRead (f : ℕ → TaggedByte) (from n step number : ℕ) : Type 0 where
  pub written : all_written (range_from f (from + (n - step)) step) ≡ true
  pub number_is : number_of (range_from f (from + (n - step)) step) ≡ number

pub read_first : (f : ℕ → TaggedByte) (from n : ℕ) → IsRead f from n 0 0
read_first f from n = record { written = refl; number_is = refl }

pub read_next : (f : ℕ → TaggedByte) (from n step number byte at : ℕ) → step < n → at ≡ from + (n - (step + 1)) → is_written (f at).byte ≡ true →
    number_in (f at).byte ≡ byte → IsRead f from n step number → IsRead f from n (step + 1) (number * 256 + byte)
read_next f from n step number byte at lt place w b r =
    let next : from + (n - step) ≡ suc at = omega arith in
    let rest : all_written (range_from f (suc at) step) ≡ true = subst (λ (k : ℕ). all_written (range_from f k step) ≡ true) next r.written in
    let number_rest : number_of (range_from f (suc at) step) ≡ number = subst (λ (k : ℕ). number_of (range_from f k step) ≡ number) next r.number_is in
    let count : step + 1 ≡ suc step = omega arith in
    record {
      written = rw (← place, count, w) rest;
      number_is = rw (← place, count, b, number_rest) (omega arith);
    }

pub read_all : (f : ℕ → TaggedByte) (from n number : ℕ) → IsRead f from n n number → Some number ≡ number_if (range_from f from n)
read_all f from n number r =
    let none : from + (n - n) ≡ from = omega arith in
    let w : all_written (range_from f from n) ≡ true = subst (λ (k : ℕ). all_written (range_from f k n) ≡ true) none r.written in
    let b : number_of (range_from f from n) ≡ number = subst (λ (k : ℕ). number_of (range_from f k n) ≡ number) none r.number_is in
    rw (w, b) refl

-- ---- the act
abbrev pub load_tail : {V : Type 0} → CType → Bool → (List TaggedByte → Script V) → ℕ → Accessed → Script V
load_tail ty is_bool rest n at = do
  bs ← touch (Get at.object at.from n)
  require (suits_load ty (declared_of at.life) at.from bs) EffectiveType
  require (all_written bs) Indeterminate
  require (not (is_bool && nat_lt 1 (number_of bs))) TrapRepresentation
  rest bs

abbrev pub err_of : Clause → Result ℕ Clause
err_of c = Err c

abbrev pub ok_of : ℕ → Result ℕ Clause
ok_of n = Ok n

err_is : (a b : Clause) → err_of b ≡ err_of a → a ≡ b
err_is a b q = cc

not_ok : (c : Clause) (k : ℕ) → err_of c ≡ ok_of k → ⊥
not_ok c k q = cc

tail_raises_by : {V : Type 0} (t u v : Bool) (c : Clause) (rows : List Row) (ty : CType) (is_bool : Bool) (rest : List TaggedByte → Script V) (n : ℕ)
    (x : ObjName) (from : ℕ) (life : Life) (s : Store) (bs : List TaggedByte) → range_from (s.bytes x) from n ≡ bs → suits_load ty life.declared from bs ≡ t →
    all_written bs ≡ u → (is_bool && nat_lt 1 (number_of bs)) ≡ v → Err c ≡ cond t (number_checked is_bool (cond u (Some (number_of bs)) None))
    (Err EffectiveType) → run rows (load_tail ty is_bool rest n (record { object = x; from = from; life = Some life })) s ≡ Raised c
tail_raises_by false u v c rows ty is_bool rest n x from life s bs g e f h is = rw (g, e) (ap Raised (err_is EffectiveType c is))
tail_raises_by true false v c rows ty is_bool rest n x from life s bs g e f h is = rw (g, e, f) (ap Raised (err_is Indeterminate c is))
tail_raises_by true true true c rows ty is_bool rest n x from life s bs g e f h is = rw (g, e, f, h) (ap Raised (err_is TrapRepresentation c (rw h at is)))
tail_raises_by true true false c rows ty is_bool rest n x from life s bs g e f h is = absurd (not_ok c (number_of bs) (rw h at is))

settled_bytes : (o : Settling) (s : Store) (x : ObjName) → (after_settling o s).bytes x ≡ s.bytes x
settled_bytes None s x = refl
settled_bytes (Some p) s x = refl

pub range_is : (m : Kept) (io : Io) (o : Settling) (x : ObjName) (h : Held) (from n : ℕ) → held_of m.objects x ≡ Some h →
    range_from ((after_settling o (store_of m io)).bytes x) from n ≡ bytes_in m h from n
range_is m io o x h from n e =
    ap (λ (f : ℕ → TaggedByte). range_from f from n) (settled_bytes o (store_of m io) x) ∙ ap
    (λ (k : Option Held). range_from (λ at. tagged_in_object m.origins m.types k at) from n) e

abbrev pub life_at : Held → Life
life_at h = record { live = h.state.live; kind = h.state.kind; declared = option_map form_of h.declared }

abbrev pub ReadFails : Kept → Found → CType → Bool → ℕ → Clause → Type 0
ReadFails m f ty is_bool n c = (h : Held) → slice_get m.objects f.object ≡ Some h →
    Err c ≡ number_read ty is_bool (option_map form_of h.declared) f.from (bytes_in m h f.from n)

pub tail_raises : {V : Type 0} (m : Kept) (f : Found) (ty : CType) (is_bool : Bool) (rest : List TaggedByte → Script V) (n : ℕ) (c : Clause)
    (r : IsReached m.objects f n) → ReadFails m f ty is_bool n c → (io : Io) →
    run m.rows (load_tail ty is_bool rest n (reached m.objects f)) (after_settling f.settles (store_of m io)) ≡ Raised c
tail_raises m f ty is_bool rest n c r fails io =
    let s = after_settling f.settles (store_of m io) in
    let bs = bytes_in m r.object f.from n in
    ap (λ (o : Option Held). run m.rows (load_tail ty is_bool rest n (record { object = f.name; from = f.from; life = life_in o })) s) r.held
    ∙ tail_raises_by (suits_load ty (option_map form_of r.object.declared) f.from bs) (all_written bs) (is_bool && nat_lt 1 (number_of bs)) c m.rows ty
    is_bool rest n f.name f.from (life_at r.object) s bs (range_is m io f.settles f.name r.object f.from n r.held) refl refl refl (fails r.object r.there)

abbrev pub load_of : List Row → IntKind → ℕ → Prov → ℕ → Script ℤ
load_of rows kind a prov n = access rows n n a prov >>= load_tail (int kind) (number_of_kind kind == 1)
    (λ bs. show_pieces bs >> Give (value_of kind (number_of bs))) n

pub int_raises : (m : Kept) (f : Found) (kind : IntKind) (is_bool : Bool) (a n : ℕ) (prov : Prov) (c : Clause) → n ≡ bytes_of_kind kind →
    is_bool ≡ (number_of_kind kind == 1) → Makes m f n n a prov → IsReached m.objects f n → ReadFails m f (int kind) is_bool n c →
    (io : Io) → run m.rows (load_int m.rows kind a prov) (store_of m io) ≡ Raised c
int_raises m f kind is_bool a n prov c size bool makes r fails io =
    ap (λ (k : ℕ). run m.rows (load_of m.rows kind a prov k) (store_of m io)) (sym size)
    ∙ raised_then m.rows (access m.rows n n a prov)
    (load_tail (int kind) (number_of_kind kind == 1) (λ bs. show_pieces bs >> Give (value_of kind (number_of bs))) n) (store_of m io)
    (after_settling f.settles (store_of m io)) (reached m.objects f) (settling_items f.settles ++ Alive f.name ∷ []) c (makes io)
    (tail_raises m f (int kind) (number_of_kind kind == 1) (λ bs. show_pieces bs >> Give (value_of kind (number_of bs))) n c r
    (subst (λ (b : Bool). ReadFails m f (int kind) b n c) bool fails) io)

pub func_raises : (m : Kept) (f : Found) (ty : CType) (a : ℕ) (prov : Prov) (c : Clause) → Makes m f 8 8 a prov → IsReached m.objects f 8 →
    ReadFails m f ty false 8 c → (io : Io) → run m.rows (load_func m.rows ty a prov) (store_of m io) ≡ Raised c
func_raises m f ty a prov c makes r fails io =
    raised_then m.rows (access m.rows 8 8 a prov) (load_tail ty false (λ bs. show_pieces bs >> Give (number_of bs)) 8) (store_of m io)
    (after_settling f.settles (store_of m io)) (reached m.objects f) (settling_items f.settles ++ Alive f.name ∷ []) c (makes io)
    (tail_raises m f ty false (λ bs. show_pieces bs >> Give (number_of bs)) 8 c r fails io)

pub int_unreached : (m : Kept) (kind : IntKind) (a n : ℕ) (prov : Prov) (c : Clause) → n ≡ bytes_of_kind kind →
    ((io : Io) → run m.rows (access m.rows n n a prov) (store_of m io) ≡ Raised c) →
    (io : Io) → run m.rows (load_int m.rows kind a prov) (store_of m io) ≡ Raised c
int_unreached m kind a n prov c size raises io =
    ap (λ (k : ℕ). run m.rows (load_of m.rows kind a prov k) (store_of m io)) (sym size)
    ∙ raised_first m.rows (access m.rows n n a prov)
    (load_tail (int kind) (number_of_kind kind == 1) (λ bs. show_pieces bs >> Give (value_of kind (number_of bs))) n) (store_of m io) c (raises io)

pub func_unreached : (m : Kept) (ty : CType) (a : ℕ) (prov : Prov) (c : Clause) →
    ((io : Io) → run m.rows (access m.rows 8 8 a prov) (store_of m io) ≡ Raised c) →
    (io : Io) → run m.rows (load_func m.rows ty a prov) (store_of m io) ≡ Raised c
func_unreached m ty a prov c raises io =
    raised_first m.rows (access m.rows 8 8 a prov) (load_tail ty false (λ bs. show_pieces bs >> Give (number_of bs)) 8) (store_of m io) c (raises io)

pub tags_pass : (b all : Bool) (a : CType) (f : ℕ → TaggedByte) (from i n : ℕ) → i < n → all ≡ tags_agree a i (range_from f (from + i) (n - i)) →
    b ≡ tag_agrees a i (f (from + i)).tag → b ≡ true → all ≡ tags_agree a (i + 1) (range_from f (from + (i + 1)) (n - (i + 1)))
tags_pass b all a f from i n lt e is t =
    let here : tag_agrees a i (f (from + i)).tag ≡ true = sym is ∙ t in
    e ∙ tags_next a f from i n lt ∙ ap (λ (x : Bool). x && tags_agree a (i + 1) (range_from f (from + (i + 1)) (n - (i + 1)))) here

pub tags_fail : (b all : Bool) (a : CType) (f : ℕ → TaggedByte) (from i n : ℕ) → i < n → all ≡ tags_agree a i (range_from f (from + i) (n - i)) →
    b ≡ tag_agrees a i (f (from + i)).tag → b ≡ false → false ≡ all
tags_fail b all a f from i n lt e is t =
    let here : tag_agrees a i (f (from + i)).tag ≡ false = sym is ∙ t in
    sym (e ∙ tags_next a f from i n lt ∙ ap (λ (x : Bool). x && tags_agree a (i + 1) (range_from f (from + (i + 1)) (n - (i + 1)))) here)

cap_next : (n : ℕ) → cap (n + 1) ≡ 256 * cap n
cap_next n =
    let e : n + 1 ≡ suc n = omega arith in
    rw e refl

pub below_next : (n number byte : ℕ) → number < cap n → byte < 256 → number * 256 + byte < cap (n + 1)
below_next n number byte lt small = omega (arith, cap_next n)

pub same_bytes : (k : IntKind) → bytes_of k ≡ bytes_of_kind k
same_bytes kinds.Bool = refl
same_bytes kinds.Char = refl
same_bytes kinds.SChar = refl
same_bytes kinds.UChar = refl
same_bytes kinds.Short = refl
same_bytes kinds.UShort = refl
same_bytes kinds.Int = refl
same_bytes kinds.UInt = refl
same_bytes kinds.Long = refl
same_bytes kinds.ULong = refl
same_bytes kinds.LLong = refl
same_bytes kinds.ULLong = refl

-- what the reading answers, of the memory and the type that it was given
pub fails_as : (m acc : Kept) (f : Found) (given ty : CType) (is_bool : Bool) (n : ℕ) (c : Clause) → acc ≡ m → given ≡ ty →
    ReadFails acc f given is_bool n c → ReadFails m f ty is_bool n c
fails_as m acc f given ty is_bool n c same named fails =
    subst (λ (a : CType). ReadFails m f a is_bool n c) named (subst (λ (k : Kept). ReadFails k f given is_bool n c) same fails)

pub func_raises_all : (r : Result ℕ Clause) (m acc : Kept) (f : Found) (ty : CType) (a : ℕ) (prov : Prov) → acc ≡ m → Makes m f 8 8 a prov →
    IsReached m.objects f 8 → IfErr r (λ c. ReadFails acc f ty false 8 c) →
    IfErr r (λ c. (io : Io) → run m.rows (load_func m.rows ty a prov) (store_of m io) ≡ Raised c)
func_raises_all (Ok n) m acc f ty a prov same makes r fails = tt
func_raises_all (Err c) m acc f ty a prov same makes r fails = func_raises m f ty a prov c makes r (fails_as m acc f ty ty false 8 c same refl fails)
