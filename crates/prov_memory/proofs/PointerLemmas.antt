-- What a load of a pointer to an object reads and asks for.
use Rattle.std.proofs.Common.{
  ◌≡◌,
  ℕ,
  suc,
  ◌+◌,
  ◌-◌,
  ◌<◌,
  ◌≤◌,
  Bool,
  true,
  false,
  not,
  ◌&&◌,
  ◌||◌,
  cond,
  refl,
  sym,
  ap,
  ap₂,
  ◌∙◌,
  subst,
  arith,
  append_assoc,
  length-append,
  List,
  [],
  ◌∷◌,
  ◌++◌,
  length,
  map,
  slice_get,
  Option,
  Some,
  None,
}
use Rattle.std.specs.Prelude.{◌==◌}
use Rattle.ub_base.specs.declared.clause.Clause.{Clause}
use Rattle.ub_base.specs.declared.clause.Clause.TheVariants.{DeadObject}
use Rattle.ub_base.specs.declared.names.Event.{Event}
use Rattle.ub_base.specs.declared.names.Item.{Item}
use Rattle.ub_base.specs.declared.names.Item.TheVariants.{Alive, Read}
use Rattle.ub_base.specs.declared.names.ObjName.{ObjName}
use Rattle.ub_base.proofs.NameLemmas.{same_event_refl, same_object_refl}
use Rattle.addr_map.specs.declared.map.Row.{Row}
use Rattle.addr_map.specs.Rows.{covers, past}
use Rattle.exposure.specs.declared.prov.Prov.{Prov}
use Rattle.exposure.specs.declared.prov.Prov.TheVariants.{Empty, Whole, Either}
use Rattle.exposure.specs.Choice.{chosen}
use Rattle.exposure.specs.Cells.{is_other}
use Rattle.c_types.specs.Types.{CType}
use Rattle.mem_objects.specs.declared.answer.MemFault.{MemFault}
use Rattle.mem_objects.specs.declared.answer.MemFault.TheVariants as faults
use Rattle.mem_objects.specs.declared.accessed.Accessed.{Accessed as Found}
use Rattle.mem_spec.specs.Store.{Store, TaggedByte, range_from, is_live, findable}
use Rattle.mem_spec.specs.Script.{Script, Give, Act, Done, Raised, run, ◌>>◌}
use Rattle.mem_spec.specs.Acts.{access, candidates, number_of, is_piece, are_pieces, same_prov, pointer_in, from_int, target_lives, pointer_or_number, load_ptr}
use Rattle.mem_spec.specs.Streams.{Io}
use Rattle.mem_objects.specs.Cells.{prov_numbered}
use Rattle.mem_objects.specs.Held.{Held}
use Rattle.mem_objects.specs.Memory.{Kept, HasCell, AreKnown, store_of}
use Rattle.mem_objects.specs.Access.{CanSettleOf, IsReached, reached, bytes_in}
use Rattle.mem_objects.specs.Made.{HasMore, Settling, CanSettle, after_settling, settling_items, look_up_items}
use Rattle.mem_objects.specs.Loads.{IfRaise, is_dead_in, pointer_items}
use Rattle.mem_objects.proofs.AccessLemmas.{done_then, raised_then, raised_first}
use Rattle.prov_memory.proofs.FindLemmas.{store_more}
use Rattle.mem_objects.proofs.WriteLemmas.{Makes}
use Rattle.prov_memory.proofs.LoadLemmas.{ReadFails, load_tail, tail_raises}
use Rattle.prov_memory.proofs.ShowLemmas.{Reads, tail_then, two_at_most}

-- ---- one number
pub same_prov_refl : (p : Prov) → same_prov p p ≡ true
same_prov_refl Empty = refl
same_prov_refl (Whole x) = same_object_refl x
same_prov_refl (Either e x y) = rw (same_event_refl e, same_object_refl x, same_object_refl y) refl

pub same_numbered : (ps : List Prov) (n k : ℕ) (p : Prov) → prov_numbered ps k ≡ p → n ≡ k → true ≡ same_prov (prov_numbered ps n) p
same_numbered ps n k p is same = sym (rw (same, is) (same_prov_refl p))

-- ---- the pieces of a range
pieces_next : (p : Prov) (f : ℕ → TaggedByte) (from i n : ℕ) → i < n →
    are_pieces p i (range_from f (from + i) (n - i)) ≡ (is_piece p i (f (from + i)).byte && are_pieces p (i + 1) (range_from f (from + (i + 1)) (n - (i + 1))))
pieces_next p f from i n e =
    let count : n - i ≡ suc (n - (i + 1)) = omega arith in
    let next : from + (i + 1) ≡ suc (from + i) = omega arith in
    let index : i + 1 ≡ suc i = omega arith in
    rw (count, next, index) refl

pub pieces_pass : (b all : Bool) (p : Prov) (f : ℕ → TaggedByte) (from i n : ℕ) → i < n → all ≡ are_pieces p i (range_from f (from + i) (n - i)) →
    b ≡ is_piece p i (f (from + i)).byte → b ≡ true → all ≡ are_pieces p (i + 1) (range_from f (from + (i + 1)) (n - (i + 1)))
pieces_pass b all p f from i n lt e is t =
    let here : is_piece p i (f (from + i)).byte ≡ true = sym is ∙ t in
    e ∙ pieces_next p f from i n lt ∙ ap (λ (x : Bool). x && are_pieces p (i + 1) (range_from f (from + (i + 1)) (n - (i + 1)))) here

pub pieces_fail : (b all : Bool) (p : Prov) (f : ℕ → TaggedByte) (from i n : ℕ) → i < n → all ≡ are_pieces p i (range_from f (from + i) (n - i)) →
    b ≡ is_piece p i (f (from + i)).byte → b ≡ false → false ≡ all
pieces_fail b all p f from i n lt e is t =
    let here : is_piece p i (f (from + i)).byte ≡ false = sym is ∙ t in
    sym (e ∙ pieces_next p f from i n lt ∙ ap (λ (x : Bool). x && are_pieces p (i + 1) (range_from f (from + (i + 1)) (n - (i + 1)))) here)

abbrev answer_by : Bool → Prov → ℕ → Store → Act (ℕ × Prov)
answer_by dead prov a s = cond dead (Raised DeadObject) (Done (a, prov) (map Alive (candidates prov)) s)

one_split : (b : Bool) (rows : List Row) (x : ObjName) (a : ℕ) (s : Store) → is_live (s.life x) ≡ b →
    run rows (target_lives (Whole x) >> Give (a, Whole x)) s ≡ answer_by (not b) (Whole x) a s
one_split true rows x a s e = rw e refl
one_split false rows x a s e = rw e refl

two_split : (b c : Bool) (rows : List Row) (id : Event) (x y : ObjName) (a : ℕ) (s : Store) → is_live (s.life x) ≡ b → is_live (s.life y) ≡ c →
    run rows (target_lives (Either id x y) >> Give (a, Either id x y)) s ≡ answer_by (not b && not c) (Either id x y) a s
two_split true c rows id x y a s e f = rw e refl
two_split false true rows id x y a s e f = rw (e, f) refl
two_split false false rows id x y a s e f = rw (e, f) refl

lives_run : (rows : List Row) (prov : Prov) (a : ℕ) (s : Store) → run rows (target_lives prov >> Give (a, prov)) s ≡ answer_by (is_dead_in s prov) prov a s
lives_run rows Empty a s = refl
lives_run rows (Whole x) a s = one_split (is_live (s.life x)) rows x a s refl
lives_run rows (Either id x y) a s = two_split (is_live (s.life x)) (is_live (s.life y)) rows id x y a s refl refl

-- a pointer, and none of its candidates lives
pub resolved_live : (rows : List Row) (who : Event) (prov : Prov) (a : ℕ) (s : Store) (b : Bool) → b ≡ is_dead_in s prov → b ≡ false →
    run rows (pointer_or_number who (Some prov) a) s ≡ Done (a, prov) (map Alive (candidates prov)) s
resolved_live rows who prov a s b is off = lives_run rows prov a s ∙ ap (λ (d : Bool). answer_by d prov a s) (sym is ∙ off)

pub resolved_dead : (rows : List Row) (who : Event) (prov : Prov) (a : ℕ) (s : Store) (b : Bool) → b ≡ is_dead_in s prov → b ≡ true →
    run rows (pointer_or_number who (Some prov) a) s ≡ Raised DeadObject
resolved_dead rows who prov a s b is on = lives_run rows prov a s ∙ ap (λ (d : Bool). answer_by d prov a s) (sym is ∙ on)

append_none : (items : List Item) → items ++ [] ≡ items
append_none [] = refl
append_none (i ∷ is) = ap (λ (js : List Item). i ∷ js) (append_none is)

abbrev with_number : ℕ → Prov → Script (ℕ × Prov)
with_number a prov = Give (a, prov)

pub resolved_number : (rows : List Row) (who : Event) (prov : Prov) (a : ℕ) (s : Store) → run rows (from_int who a) s ≡ Done prov (look_up_items a) s →
    run rows (pointer_or_number who None a) s ≡ Done (a, prov) (look_up_items a) s
resolved_number rows who prov a s runs =
    done_then rows (from_int who a) (with_number a) s s s prov (a, prov) (look_up_items a) [] runs refl ∙ ap (λ (js : List Item). Done (a, prov) js s)
    (append_none (look_up_items a))

-- ---- what a settling doesn't change
find_settled : (o : Settling) (s : Store) (x : Option ObjName) → findable (after_settling o s) x ≡ findable s x
find_settled None s x = refl
find_settled (Some p) s None = refl
find_settled (Some p) s (Some x) = refl

dead_settled : (o : Settling) (s : Store) (prov : Prov) → is_dead_in (after_settling o s) prov ≡ is_dead_in s prov
dead_settled None s prov = refl
dead_settled (Some p) s Empty = refl
dead_settled (Some p) s (Whole x) = refl
dead_settled (Some p) s (Either id x y) = refl

abbrev found_prov : List Row → Event → ℕ → Store → Prov
found_prov rows who a s = cond (a == 0) Empty (chosen (findable s (covers rows a)) (findable s (past rows a)) who)

found_split : (b : Bool) (rows : List Row) (who : Event) (a : ℕ) (s : Store) →
    (a == 0) ≡ b → run rows (from_int who a) s ≡ Done (cond b Empty (chosen (findable s (covers rows a)) (findable s (past rows a)) who)) (look_up_items a) s
found_split true rows who a s e = rw e refl
found_split false rows who a s e = rw e refl

found_run : (rows : List Row) (who : Event) (a : ℕ) (s : Store) → run rows (from_int who a) s ≡ Done (found_prov rows who a s) (look_up_items a) s
found_run rows who a s = found_split (a == 0) rows who a s refl

found_settled : (o : Settling) (rows : List Row) (who : Event) (a : ℕ) (s : Store) → found_prov rows who a (after_settling o s) ≡ found_prov rows who a s
found_settled o rows who a s = ap₂ (λ (x y : Option ObjName). cond (a == 0) Empty (chosen x y who)) (find_settled o s (covers rows a))
    (find_settled o s (past rows a))

abbrev pub Pair : Type 0
Pair = ℕ × Prov

-- what is asked for gives, of a store
abbrev given_by : List Row → Event → Option Prov → ℕ → Store → Act Pair
given_by rows who (Some prov) a s = answer_by (is_dead_in s prov) prov a s
given_by rows who None a s = Done (a, found_prov rows who a s) (look_up_items a) s

given_run : (rows : List Row) (who : Event) (pointer : Option Prov) (a : ℕ) (s : Store) →
    run rows (pointer_or_number who pointer a) s ≡ given_by rows who pointer a s
given_run rows who (Some prov) a s = lives_run rows prov a s
given_run rows who None a s = resolved_number rows who (found_prov rows who a s) a s (found_run rows who a s)

-- an act that leaves the store, in another one
abbrev over : Store → Act Pair → Act Pair
over t (Done v js s) = Done v js t
over t (Raised c) = Raised c
over t a = a

answer_over : (b : Bool) (prov : Prov) (a : ℕ) (s t : Store) → answer_by b prov a t ≡ over t (answer_by b prov a s)
answer_over true prov a s t = refl
answer_over false prov a s t = refl

given_settled : (o : Settling) (rows : List Row) (who : Event) (pointer : Option Prov) (a : ℕ) (s : Store) →
    given_by rows who pointer a (after_settling o s) ≡ over (after_settling o s) (given_by rows who pointer a s)
given_settled o rows who (Some prov) a s =
    ap (λ (b : Bool). answer_by b prov a (after_settling o s)) (dead_settled o s prov) ∙ answer_over (is_dead_in s prov) prov a s (after_settling o s)
given_settled o rows who None a s = ap (λ (p : Prov). Done (a, p) (look_up_items a) (after_settling o s)) (found_settled o rows who a s)

run_settled : (o : Settling) (rows : List Row) (who : Event) (pointer : Option Prov) (a : ℕ) (s : Store) →
    run rows (pointer_or_number who pointer a) (after_settling o s) ≡ over (after_settling o s) (run rows (pointer_or_number who pointer a) s)
run_settled o rows who pointer a s =
    given_run rows who pointer a (after_settling o s) ∙ given_settled o rows who pointer a s ∙ ap (over (after_settling o s))
    (sym (given_run rows who pointer a s))

-- ---- the act
abbrev pointer_rest : Event → List TaggedByte → Script Pair
pointer_rest who bs = pointer_or_number who (pointer_in bs) (number_of bs)

can_more : (m looked : Kept) (o : Settling) → HasMore m looked → CanSettle m.cells o → CanSettle looked.cells o
can_more m looked None more can = tt
can_more m looked (Some p) more can = (more.cells p.0 can.0, ap (λ (k : Option ObjName). is_other k p.1) (more.kept p.0) ∙ can.1)

-- what a settling leaves of a memory
abbrev pub Settled : Kept → Kept → Settling → Type 0
Settled old new settles = CanSettle old.cells settles → (k : Kept) → k.cells ≡ old.cells →
    (io : Io) → store_of (record k { cells = new.cells }) io ≡ after_settling settles (store_of k io)

pub pointer_loaded : (m looked new : Kept) (f : Found) (ty : CType) (who : Event) (align a : ℕ) (prov target : Prov) (pointer : Option Prov) (number : ℕ)
    (items : List Item) → Makes m f 8 align a prov → (r : IsReached m.objects f 8) → CanSettleOf m prov f.settles → Reads m f ty false 8 number →
    pointer ≡ pointer_in (bytes_in m r.object f.from 8) →
    ((io : Io) → run m.rows (pointer_or_number who pointer number) (store_of m io) ≡ Done (number, target) (pointer_items pointer number) (store_of m io)) →
    HasMore m looked → record new { cells = [] } ≡ record looked { cells = [] } → Settled looked new f.settles →
    items ≡ ((settling_items f.settles ++ Alive f.name ∷ []) ++ Read f.name f.from 8 ∷ []) ++ pointer_items pointer number → HasCell m prov → AreKnown m →
    (io : Io) → run m.rows (load_ptr m.rows ty who align a prov) (store_of m io) ≡ Done (number, target) items (store_of new io)
pointer_loaded m looked new f ty who align a prov target pointer number items makes r can reads is act more rest settles noted has known io =
    let bs = bytes_in m r.object f.from 8 in
    let s = after_settling f.settles (store_of m io) in
    let js = pointer_items pointer number in
    let first = settling_items f.settles ++ Alive f.name ∷ [] in
    let runs : number_of bs ≡ number → run m.rows (pointer_rest who bs) s ≡ Done (number, target) js s = λ same.
    ap₂ (λ (p : Option Prov) (k : ℕ). run m.rows (pointer_or_number who p k) s) (sym is) same
    ∙ run_settled f.settles m.rows who pointer number (store_of m io)
    ∙ ap (over s) (act io) in
    let after : store_of (record looked { cells = new.cells }) io ≡ after_settling f.settles (store_of looked io) =
    settles (can_more m looked f.settles more (can has)) looked refl io in
    let new_is : new ≡ record looked { cells = new.cells } = ap (λ (k : Kept). record k { cells = new.cells }) rest in
    let end : s ≡ store_of new io = ap (λ (q : Store). after_settling f.settles q) (sym (store_more m looked more known io)) ∙ sym after ∙ ap
    (λ (k : Kept). store_of k io) (sym new_is) in
    done_then m.rows (access m.rows 8 align a prov) (load_tail ty false (pointer_rest who) 8) (store_of m io) s s (reached m.objects f) (number, target) first
    (Read f.name f.from 8 ∷ js) (makes io) (tail_then m f ty false (pointer_rest who) 8 number (Done (number, target) js s) io r reads runs)
    ∙ ap₂ (λ (l : List Item) (q : Store). Done (number, target) l q) (sym (append_assoc first (Read f.name f.from 8 ∷ []) js) ∙ sym noted) end

pub pointer_unreached : (m : Kept) (ty : CType) (who : Event) (align a : ℕ) (prov : Prov) (c : Clause) →
    ((io : Io) → run m.rows (access m.rows 8 align a prov) (store_of m io) ≡ Raised c) →
    (io : Io) → run m.rows (load_ptr m.rows ty who align a prov) (store_of m io) ≡ Raised c
pointer_unreached m ty who align a prov c raises io =
    raised_first m.rows (access m.rows 8 align a prov) (load_tail ty false (pointer_rest who) 8) (store_of m io) c (raises io)

pub pointer_unread : (m acc : Kept) (f : Found) (ty : CType) (who : Event) (align a : ℕ) (prov : Prov) (c : Clause) → acc ≡ m → Makes m f 8 align a prov →
    IsReached m.objects f 8 → ReadFails acc f ty false 8 c → (io : Io) → run m.rows (load_ptr m.rows ty who align a prov) (store_of m io) ≡ Raised c
pointer_unread m acc f ty who align a prov c same makes r fails io =
    raised_then m.rows (access m.rows 8 align a prov) (load_tail ty false (pointer_rest who) 8) (store_of m io) (after_settling f.settles (store_of m io))
    (reached m.objects f) (settling_items f.settles ++ Alive f.name ∷ []) c (makes io)
    (tail_raises m f ty false (pointer_rest who) 8 c r (subst (λ (k : Kept). ReadFails k f ty false 8 c) same fails) io)

-- the pieces of the bytes where a load falls
abbrev pub SeesPointer : Kept → Found → Option Prov → Type 0
SeesPointer m f pointer = (h : Held) → slice_get m.objects f.object ≡ Some h → pointer ≡ pointer_in (bytes_in m h f.from 8)

pointer_lost : (m : Kept) (f : Found) (ty : CType) (who : Event) (align a : ℕ) (prov : Prov) (pointer : Option Prov) (number : ℕ) (c : Clause) →
    Makes m f 8 align a prov → IsReached m.objects f 8 → Reads m f ty false 8 number → SeesPointer m f pointer →
    ((io : Io) → run m.rows (pointer_or_number who pointer number) (store_of m io) ≡ Raised c) →
    (io : Io) → run m.rows (load_ptr m.rows ty who align a prov) (store_of m io) ≡ Raised c
pointer_lost m f ty who align a prov pointer number c makes r reads sees act io =
    let bs = bytes_in m r.object f.from 8 in
    let s = after_settling f.settles (store_of m io) in
    let runs : number_of bs ≡ number → run m.rows (pointer_rest who bs) s ≡ Raised c = λ same.
    ap₂ (λ (p : Option Prov) (k : ℕ). run m.rows (pointer_or_number who p k) s) (sym (sees r.object r.there)) same
    ∙ run_settled f.settles m.rows who pointer number (store_of m io)
    ∙ ap (over s) (act io) in
    raised_then m.rows (access m.rows 8 align a prov) (load_tail ty false (pointer_rest who) 8) (store_of m io) s (reached m.objects f)
    (settling_items f.settles ++ Alive f.name ∷ []) c (makes io) (tail_then m f ty false (pointer_rest who) 8 number (Raised c) io r reads runs)

-- ---- from what the steps of a load ensure
raise_map : (e : MemFault) (P Q : Clause → Type 0) → ((c : Clause) → P c → Q c) → IfRaise e P → IfRaise e Q
raise_map (faults.Raise c) P Q f p = f c p
raise_map faults.NoMemory P Q f p = tt

pub unresolved : (e : MemFault) (m acc : Kept) (f : Found) (ty : CType) (who : Event) (align a : ℕ) (prov : Prov) (pointer : Option Prov) (number : ℕ) →
    acc ≡ m → Makes m f 8 align a prov → IsReached m.objects f 8 → Reads acc f ty false 8 number → SeesPointer acc f pointer →
    IfRaise e (λ c. (io : Io) → run acc.rows (pointer_or_number who pointer number) (store_of acc io) ≡ Raised c) →
    IfRaise e (λ c. (io : Io) → run m.rows (load_ptr m.rows ty who align a prov) (store_of m io) ≡ Raised c)
unresolved e m acc f ty who align a prov pointer number same makes r reads sees act =
    raise_map e (λ c. (io : Io) → run acc.rows (pointer_or_number who pointer number) (store_of acc io) ≡ Raised c)
    (λ c. (io : Io) → run m.rows (load_ptr m.rows ty who align a prov) (store_of m io) ≡ Raised c)
    (λ c raises. pointer_lost m f ty who align a prov pointer number c makes r (subst (λ (k : Kept). Reads k f ty false 8 number) same reads)
    (subst (λ (k : Kept). SeesPointer k f pointer) same sees)
    (subst (λ (k : Kept). (io : Io) → run k.rows (pointer_or_number who pointer number) (store_of k io) ≡ Raised c) same raises)) act

pointer_noted : (first t mid items js : List Item) (i : Item) → length first ≤ 2 → t ≡ first → (length t < 32 → mid ≡ t ++ i ∷ []) →
    (length mid + 1 < 32 → items ≡ mid ++ js) → items ≡ (first ++ i ∷ []) ++ js
pointer_noted first t mid items js i few is one more =
    let long : length t ≡ length first = ap length is in
    let next : mid ≡ first ++ i ∷ [] = one (omega arith) ∙ ap (λ (l : List Item). l ++ i ∷ []) is in
    let longer : length mid ≡ length first + 1 = ap length next ∙ length-append first (i ∷ []) in
    more (omega arith) ∙ ap (λ (l : List Item). l ++ js) next

pub pointer_exact : (m acc looked new : Kept) (f : Found) (ty : CType) (who : Event) (align a : ℕ) (prov target : Prov) (pointer : Option Prov) (number : ℕ)
    (t mid items : List Item) → acc ≡ m → Makes m f 8 align a prov → IsReached m.objects f 8 → CanSettleOf m prov f.settles → t ≡ settling_items f.settles ++
    Alive f.name ∷ [] → Reads acc f ty false 8 number → (length t < 32 → mid ≡ t ++ Read f.name f.from 8 ∷ []) → SeesPointer acc f pointer →
    ((io : Io) → run acc.rows (pointer_or_number who pointer number) (store_of acc io) ≡ Done (number, target) (pointer_items pointer number)
    (store_of acc io))
    → (length mid + 1 < 32 → items ≡ mid ++ pointer_items pointer number) → HasMore acc looked → record new { cells = [] } ≡ record looked { cells = [] } →
    Settled looked new f.settles → HasCell m prov → AreKnown m → (io : Io) →
    run m.rows (load_ptr m.rows ty who align a prov) (store_of m io) ≡ Done (number, target) items (store_of new io)
pointer_exact m acc looked new f ty who align a prov target pointer number t mid items same makes r can first reads one sees act more_items more rest settles
    has known =
    pointer_loaded m looked new f ty who align a prov target pointer number items makes r can (subst (λ (k : Kept). Reads k f ty false 8 number) same reads)
    ((subst (λ (k : Kept). SeesPointer k f pointer) same sees) r.object r.there)
    (subst (λ (k : Kept). (io : Io) → run k.rows (pointer_or_number who pointer number) (store_of k io) ≡ Done (number, target)
    (pointer_items pointer number) (store_of k io)) same act) (subst (λ (k : Kept). HasMore k looked) same more) rest settles
    (pointer_noted (settling_items f.settles ++ Alive f.name ∷ []) t mid items (pointer_items pointer number) (Read f.name f.from 8)
    (two_at_most f.settles f.name) first one more_items) has known
