-- Calls of the library: their arguments, what is answered, and what is done with it.
use Rattle.std.proofs.Common.{◌≡◌, ◌≢◌, ℕ, zero, suc, ◌+◌, ◌<◌, ◌≤◌, true, false, refl, sym, ap, ap₂, ◌∙◌, subst, arith, List, [], ◌∷◌, ◌++◌, length, take}
use Rattle.std.proofs.Common.{drop, IsTrue, Some, None, Result, Ok, Err, slice_get}
use Rattle.std.specs.Prelude.{OnErr}
use Rattle.ub_base.specs.declared.clause.Clause.{Clause}
use Rattle.ub_base.specs.declared.clause.Cause.{Cause}
use Rattle.ub_base.specs.declared.names.Event.{Event}
use Rattle.ub_base.specs.declared.names.Item.{Item}
use Rattle.addr_map.specs.declared.map.Row.{Row}
use Rattle.c_types.specs.declared.library.LibFunc.{LibFunc}
use Rattle.c_types.specs.declared.library.LibFunc.TheVariants.{Malloc, Calloc, Realloc, Free, Memcpy, Memmove, Memset, Memcmp, Strlen, Strcpy, Strcmp}
use Rattle.c_types.specs.declared.library.LibFunc.TheVariants.{Strchr, Getchar, Putchar, Puts, Printf, Fprintf, Sprintf, Snprintf, Exit, Abort}
use Rattle.c_types.specs.declared.ty.Qual.{Qual}
use Rattle.c_types.specs.Types.{CType, qualified_of}
use Rattle.mem_spec.specs.Script.{Act, Done, Raised, Ended, Outside, Unplaced}
use Rattle.mem_spec.specs.Store.{Store}
use Rattle.mem_spec.specs.Streams.{Io}
use Rattle.mem_objects.specs.declared.answer.LibAnswer.{LibAnswer}
use Rattle.mem_objects.specs.declared.answer.LibAnswer.TheVariants as answers
use Rattle.mem_objects.specs.declared.value.Value.{Value as Kept_value}
use Rattle.mem_objects.specs.Keeps.{Keeps}
use Rattle.mem_objects.specs.Memory.{AreKnown, Kept, store_of}
use Rattle.mem_objects.specs.Pieces.{IsMadeValue}
use Rattle.mem_objects.specs.Tags.{AreTagged}
use Rattle.prov_memory.proofs.KeepLemmas.{keeps_none}
use Rattle.libc_spec.specs.Formatted.{printed_to_by, stored_by}
use Rattle.libc_spec.specs.Library.{LibValue, number, pointer, nothing, argument_at, called, integer_in, prov_in, size_of_value}
use Rattle.libc_spec.specs.Print.{Argument, printed_by}
use Rattle.libc_arguments.specs.Answers.{Answers, AreTyped, AreWithin, ArgumentsMade, GivesMade, HaveCells, IsCall, StandHigh}
use Rattle.libc_arguments.specs.Answers.{are_sizes, given_value, gives_value, is_size, size_places}
use Rattle.libc_arguments.specs.Seen.{value_seen, values_seen}
use Rattle.libc_print.specs.Seen as printing
use Rattle.c_model.specs.Libraries.{result, typed}
use Rattle.library_laws.specs.Called.{called_with}
use Rattle.run_values.specs.Kept.{IsOf}
use Rattle.run_values.specs.Views.{value_in}
use Rattle.run_layout.specs.declared.steps.Operand.{Operand}
use Rattle.run_state.specs.declared.machine.Machine.{Machine}
use Rattle.run_state.specs.Operands.{operand_in}
use Rattle.run_state.specs.Stands.{Holds}
use Rattle.run_answers.specs.declared.outcome.Outcome.{Outcome}
use Rattle.run_answers.specs.declared.outcome.Outcome.TheVariants as outcome
use Rattle.run_answers.specs.declared.fault.Fault.{Fault}
use Rattle.run_answers.specs.declared.fault.Fault.TheVariants as fault
use Rattle.run_answers.specs.LibraryCalls.{Arguments, AreArguments, CallsLibrary, CanCall, ChangesByCall, DoesCall, IsAnswered, TakesAnswer, TouchesStreams}
use Rattle.run_answers.specs.LibraryCalls.{call_in, types_seen}
use Rattle.run_answers.specs.Performs.{store_in}
use Rattle.run_answers.proofs.Doing.{cell_of}
use Rattle.run_events.proofs.Rooms.{no_fewer}

-- ---- the arguments, one after the other
-- the first so many of them
abbrev pub FirstArguments : Machine → List Operand → ℕ → List Kept_value → Type 0
FirstArguments m os k vs = (hs : List Kept_value) → Arguments m os hs → vs ≡ take k hs

record IsArgument (m : Machine) (o : Operand) (hs : List Kept_value) (k : ℕ) : Type 0 where
  value : Kept_value
  there : slice_get hs k ≡ Some value
  given : operand_in m o ≡ Some value

some_same : {A : Type 0} (x y : A) → Some x ≡ Some y → x ≡ y
some_same x y e = cc

one_argument : (m : Machine) (os : List Operand) (hs : List Kept_value) (k : ℕ) (o : Operand) → Arguments m os hs → slice_get os k ≡ Some o
    → IsArgument m o hs k
one_argument m [] hs k o are at = absurd (cc)
one_argument m (p ∷ os) [] k o are at = absurd are
one_argument m (p ∷ os) (h ∷ hs) zero o are at = record {
  value = h;
  there = refl;
  given = ap (operand_in m) (sym (some_same p o at)) ∙ are.0;
}
one_argument m (p ∷ os) (h ∷ hs) (suc k) o are at =
    let a = one_argument m os hs k o are.1 at in
    record { value = a.value; there = a.there; given = a.given }

take_more : (hs : List Kept_value) (k : ℕ) (h : Kept_value) → slice_get hs k ≡ Some h → take k hs ++ h ∷ [] ≡ take (suc k) hs
take_more [] k h at = absurd (cc)
take_more (x ∷ xs) zero h at = ap (λ (z : Kept_value). z ∷ []) (sym (some_same x h at))
take_more (x ∷ xs) (suc k) h at = ap (λ (zs : List Kept_value). x ∷ zs) (take_more xs k h at)

take_all : (m : Machine) (os : List Operand) (hs : List Kept_value) (k : ℕ) → Arguments m os hs → length os ≤ k → take k hs ≡ hs
take_all m [] [] zero are le = refl
take_all m [] [] (suc k) are le = refl
take_all m [] (h ∷ hs) k are le = absurd are
take_all m (o ∷ os) [] k are le = absurd are
take_all m (o ∷ os) (h ∷ hs) zero are le = absurd (omega (arith, le))
take_all m (o ∷ os) (h ∷ hs) (suc k) are le = ap (λ (zs : List Kept_value). h ∷ zs) (take_all m os hs k are.1 (omega (arith, le)))

pub none_first : (m : Machine) (os : List Operand) (vs : List Kept_value) → vs ≡ [] → FirstArguments m os 0 vs
none_first m os vs is = λ hs are. is

pub one_more : (m : Machine) (os : List Operand) (k : ℕ) (vs ws : List Kept_value) (o : Operand) (v : Kept_value) → FirstArguments m os k vs
    → slice_get os k ≡ Some o → ((h : Kept_value) → operand_in m o ≡ Some h → v ≡ h) → ws ≡ vs ++ v ∷ [] → FirstArguments m os (k + 1) ws
one_more m os k vs ws o v first at gives is = λ hs are.
    let a = one_argument m os hs k o are at in
    let next : suc k ≡ k + 1 = omega arith in
    is ∙ ap₂ (λ (xs : List Kept_value) (x : Kept_value). xs ++ x ∷ []) (first hs are) (gives a.value a.given)
    ∙ take_more hs k a.value a.there ∙ ap (λ (n : ℕ). take n hs) next

pub all_of_them : (m : Machine) (os : List Operand) (k : ℕ) (vs : List Kept_value) → length os ≤ k → FirstArguments m os k vs → AreArguments m os vs
all_of_them m os k vs le first = λ hs are. first hs are ∙ take_all m os hs k are le

-- ---- as the functions of the library take them
cells : (m : Kept) (vs : List LibValue) → ArgumentsMade m vs → HaveCells m vs
cells m [] made = tt
cells m (v ∷ vs) made = (cell_of m (prov_in v) made.0, cells m vs made.1)

typed_same : (vs : List Kept_value) (ts : List Qual) → printing.typed vs ts ≡ typed (types_seen ts) (values_seen vs)
typed_same [] [] = refl
typed_same [] (t ∷ ts) = refl
typed_same (v ∷ vs) [] = refl
typed_same (v ∷ vs) (t ∷ ts) =
    ap (λ (zs : List Argument). record { value = value_seen v; ty = (qualified_of t).ty } ∷ zs) (typed_same vs ts)

-- a function that takes no format
pub record TakesNoFormat (f : LibFunc) : Type 0 where
  pub printf : f ≢ Printf
  pub fprintf : f ≢ Fprintf
  pub sprintf : f ≢ Sprintf
  pub snprintf : f ≢ Snprintf

can_call : (m : Machine) (f : LibFunc) (hs : List Kept_value) → AreTyped f m.memory → StandHigh f m.memory.rows
    → are_sizes (values_seen hs) (size_places f) ≡ true → CanCall m f hs → IsCall f (values_seen hs) m.memory m.streams
can_call m f hs typed high sizes can = record {
  known = can.sound.known;
  streams = can.within;
  sizes = sizes;
  cells = cells m.memory (values_seen hs) can.made;
  tags = typed;
  high = high;
}

is_call : (m : Machine) (f : LibFunc) (hs : List Kept_value) → TakesNoFormat f → CanCall m f hs → IsCall f (values_seen hs) m.memory m.streams
is_call m Malloc hs none can = can_call m Malloc hs tt tt can.sizes can
is_call m Calloc hs none can = can_call m Calloc hs tt can.high can.sizes can
is_call m Realloc hs none can = can_call m Realloc hs (can.tagged, can.bare) can.high can.sizes can
is_call m Free hs none can = can_call m Free hs tt tt can.sizes can
is_call m Memcpy hs none can = can_call m Memcpy hs can.tagged tt can.sizes can
is_call m Memmove hs none can = can_call m Memmove hs can.tagged tt can.sizes can
is_call m Memset hs none can = can_call m Memset hs tt tt can.sizes can
is_call m Memcmp hs none can = can_call m Memcmp hs tt tt can.sizes can
is_call m Strlen hs none can = can_call m Strlen hs tt tt can.sizes can
is_call m Strcpy hs none can = can_call m Strcpy hs tt tt can.sizes can
is_call m Strcmp hs none can = can_call m Strcmp hs tt tt can.sizes can
is_call m Strchr hs none can = can_call m Strchr hs tt tt can.sizes can
is_call m Getchar hs none can = can_call m Getchar hs tt tt can.sizes can
is_call m Putchar hs none can = can_call m Putchar hs tt tt can.sizes can
is_call m Puts hs none can = can_call m Puts hs tt tt can.sizes can
is_call m Printf hs none can = absurd (none.printf refl)
is_call m Fprintf hs none can = absurd (none.fprintf refl)
is_call m Sprintf hs none can = absurd (none.sprintf refl)
is_call m Snprintf hs none can = absurd (none.snprintf refl)
is_call m Exit hs none can = can_call m Exit hs tt tt can.sizes can
is_call m Abort hs none can = can_call m Abort hs tt tt can.sizes can

plain_call : (f : LibFunc) (rows : List Row) (who : Event) (ts : List CType) (vs : List LibValue) (s : Store) → TakesNoFormat f
    → called rows f vs who s ≡ called_with rows f who ts vs s
plain_call Malloc rows who ts vs s none = refl
plain_call Calloc rows who ts vs s none = refl
plain_call Realloc rows who ts vs s none = refl
plain_call Free rows who ts vs s none = refl
plain_call Memcpy rows who ts vs s none = refl
plain_call Memmove rows who ts vs s none = refl
plain_call Memset rows who ts vs s none = refl
plain_call Memcmp rows who ts vs s none = refl
plain_call Strlen rows who ts vs s none = refl
plain_call Strcpy rows who ts vs s none = refl
plain_call Strcmp rows who ts vs s none = refl
plain_call Strchr rows who ts vs s none = refl
plain_call Getchar rows who ts vs s none = refl
plain_call Putchar rows who ts vs s none = refl
plain_call Puts rows who ts vs s none = refl
plain_call Printf rows who ts vs s none = absurd (none.printf refl)
plain_call Fprintf rows who ts vs s none = absurd (none.fprintf refl)
plain_call Sprintf rows who ts vs s none = absurd (none.sprintf refl)
plain_call Snprintf rows who ts vs s none = absurd (none.snprintf refl)
plain_call Exit rows who ts vs s none = refl
plain_call Abort rows who ts vs s none = refl

-- ---- what is answered
module _ (old : Machine) (k : Kept) (io : Io) (t : List Item) (who : Event) (hs : List Kept_value) (ts : List Qual) (answer : LibAnswer) where
  abbrev new : Machine
  new = record old { memory = k; streams = io; items = t }

  abbrev Answered : LibFunc → Type 0
  Answered f = CanCall old f hs → IsAnswered old new f who (types_seen ts) hs answer

  pub answers_plain : (f : LibFunc) → TakesNoFormat f
      → (IsCall f (values_seen hs) old.memory old.streams → Answers answer t (store_of k io) (called k.rows f (values_seen hs) who (store_in old)))
      → (AreKnown old.memory → AreTagged old.memory → Keeps old.memory k)
      → (IsCall f (values_seen hs) old.memory old.streams → AreTagged old.memory → ArgumentsMade old.memory (values_seen hs) → GivesMade k answer)
      → Answered f
  answers_plain f none exact kept made = λ can.
      let is = is_call old f hs none can in
      record {
        does = subst (λ (act : Act LibValue). Answers answer t (store_of k io) act)
            (plain_call f k.rows who (types_seen ts) (values_seen hs) (store_in old) none) (exact is);
        kept = kept can.sound.known can.tagged;
        made = made is can.tagged can.made;
      }

  -- a function that takes a format, by its act
  answers_format : (f : LibFunc) (act : List Argument → Act LibValue)
      → ((given : List Argument) → given ≡ typed (types_seen ts) (values_seen hs) → act given ≡ call_in old new f who (types_seen ts) hs)
      → (CanCall old f hs → HaveCells old.memory (values_seen hs) → Answers answer t (store_of k io) (act (printing.typed hs ts)))
      → Keeps old.memory k → (CanCall old f hs → HaveCells old.memory (values_seen hs) → GivesMade k answer) → Answered f
  answers_format f act same exact kept made = λ can.
      let held = cells old.memory (values_seen hs) can.made in
      record {
        does = subst (λ (a : Act LibValue). Answers answer t (store_of k io) a) (same (printing.typed hs ts) (typed_same hs ts)) (exact can held);
        kept = kept;
        made = made can held;
      }

  abbrev vs : List LibValue
  vs = values_seen hs

  pub answers_printf : (AreWithin old.streams → HaveCells old.memory vs
      → Answers answer t (store_of k io) (printed_by k.rows (argument_at vs 0) (drop 1 (printing.typed hs ts)) (store_in old)))
      → Keeps old.memory k → (AreWithin old.streams → HaveCells old.memory vs → GivesMade k answer) → Answered Printf
  answers_printf exact kept made =
      answers_format Printf (λ given. printed_by k.rows (argument_at vs 0) (drop 1 given) (store_in old))
      (λ given is. ap (λ (zs : List Argument). printed_by k.rows (argument_at vs 0) (drop 1 zs) (store_in old)) is)
      (λ can held. exact can.within held) kept (λ can held. made can.within held)

  pub answers_fprintf : (AreWithin old.streams → HaveCells old.memory vs → Answers answer t (store_of k io)
      (printed_to_by k.rows (integer_in (argument_at vs 0)) (argument_at vs 1) (drop 2 (printing.typed hs ts)) (store_in old)))
      → Keeps old.memory k → (AreWithin old.streams → HaveCells old.memory vs → GivesMade k answer) → Answered Fprintf
  answers_fprintf exact kept made =
      answers_format Fprintf (λ given. printed_to_by k.rows (integer_in (argument_at vs 0)) (argument_at vs 1) (drop 2 given) (store_in old))
      (λ given is. ap (λ (zs : List Argument). printed_to_by k.rows (integer_in (argument_at vs 0)) (argument_at vs 1) (drop 2 zs) (store_in old)) is)
      (λ can held. exact can.within held) kept (λ can held. made can.within held)

  pub answers_sprintf : (AreWithin old.streams → HaveCells old.memory vs → Answers answer t (store_of k io)
      (stored_by k.rows None (argument_at vs 0) (argument_at vs 1) (drop 2 (printing.typed hs ts)) (store_in old)))
      → Keeps old.memory k → (HaveCells old.memory vs → GivesMade k answer) → Answered Sprintf
  answers_sprintf exact kept made =
      answers_format Sprintf (λ given. stored_by k.rows None (argument_at vs 0) (argument_at vs 1) (drop 2 given) (store_in old))
      (λ given is. ap (λ (zs : List Argument). stored_by k.rows None (argument_at vs 0) (argument_at vs 1) (drop 2 zs) (store_in old)) is)
      (λ can held. exact can.within held) kept (λ can held. made held)

  pub answers_snprintf : (AreWithin old.streams → IsTrue (is_size (integer_in (argument_at vs 1))) → HaveCells old.memory vs → Answers answer t (store_of k io)
      (stored_by k.rows (Some (size_of_value (argument_at vs 1))) (argument_at vs 0) (argument_at vs 2) (drop 3 (printing.typed hs ts)) (store_in old)))
      → Keeps old.memory k → (HaveCells old.memory vs → GivesMade k answer) → Answered Snprintf
  answers_snprintf exact kept made =
      answers_format Snprintf
      (λ given. stored_by k.rows (Some (size_of_value (argument_at vs 1))) (argument_at vs 0) (argument_at vs 2) (drop 3 given) (store_in old))
      (λ given is. ap (λ (zs : List Argument).
      stored_by k.rows (Some (size_of_value (argument_at vs 1))) (argument_at vs 0) (argument_at vs 2) (drop 3 zs) (store_in old)) is)
      (λ can held. exact can.within can.sizes held) kept (λ can held. made held)

-- ---- what is done with it
value_of : (v : Kept_value) (is : List Item) (s : Store) (act : Act LibValue) → Answers (answers.Value v) is s act
    → (w : LibValue) × (act ≡ Done w is s) × (v ≡ given_value w)
value_of v is s (Done w js u) a = (w, (λ i. Done w (sym a.1 i) (sym a.2 i)), a.0)
value_of v is s (Raised c) a = absurd a
value_of v is s (Ended n js u) a = absurd a
value_of v is s (Outside c n) a = absurd a
value_of v is s Unplaced a = absurd a

end_of : (n : ℕ) (is : List Item) (s : Store) (act : Act LibValue) → Answers (answers.End n) is s act → act ≡ Ended n is s
end_of n is s (Done w js u) a = absurd a
end_of n is s (Raised c) a = absurd a
end_of n is s (Ended k js u) a = λ i. Ended (sym a.0 i) (sym a.1 i) (sym a.2 i)
end_of n is s (Outside c k) a = absurd a
end_of n is s Unplaced a = absurd a

raised_of : (c : Clause) (is : List Item) (s : Store) (act : Act LibValue) → Answers (answers.Raise c) is s act → act ≡ Raised c
raised_of c is s (Done w js u) a = absurd a
raised_of c is s (Raised d) a = ap Raised (sym a)
raised_of c is s (Ended n js u) a = absurd a
raised_of c is s (Outside d n) a = absurd a
raised_of c is s Unplaced a = absurd a

outside_of : (c : Cause) (n : ℕ) (is : List Item) (s : Store) (act : Act LibValue) → Answers (answers.Outside c n) is s act → act ≡ Outside c n
outside_of c n is s (Done w js u) a = absurd a
outside_of c n is s (Raised d) a = absurd a
outside_of c n is s (Ended k js u) a = absurd a
outside_of c n is s (Outside d k) a = λ i. Outside (sym a.0 i) (sym a.1 i)
outside_of c n is s Unplaced a = absurd a

unplaced_of : (is : List Item) (s : Store) (act : Act LibValue) → Answers answers.Unplaced is s act → act ≡ Unplaced
unplaced_of is s (Done w js u) a = absurd a
unplaced_of is s (Raised d) a = absurd a
unplaced_of is s (Ended k js u) a = absurd a
unplaced_of is s (Outside d k) a = absurd a
unplaced_of is s Unplaced a = refl

-- a value of the library as one of the run
given_of : (m : Kept) (w : LibValue) → IsMadeValue m (given_value w) → IsOf m (given_value w)
given_of m (number n) made = record { made = tt; known = tt; tagged = tt }
given_of m (pointer a p) made = record { made = made; known = tt; tagged = tt }
given_of m nothing made = record { made = tt; known = tt; tagged = tt }

given_seen : (m : Kept) (w : LibValue) → value_in m (given_value w) ≡ result w
given_seen m (number n) = refl
given_seen m (pointer a p) = refl
given_seen m nothing = refl

module _ (old mid new : Machine) (f : LibFunc) (who : Event) (ts : List CType) (hs : List Kept_value) (touches : TouchesStreams old mid) where
  same_rooms : mid.values.items ≡ old.values.items
  same_rooms = ap (λ (k : Machine). k.values.items) touches

  same_base : mid.top.base ≡ old.top.base
  same_base = ap (λ (k : Machine). k.top.base) touches

  -- where nothing else is done
  changes_none : new ≡ mid → ChangesByCall old new who.node
  changes_none is = record {
    rest = subst (λ (k : Machine). k ≡ record old { memory = k.memory; streams = k.streams; values = k.values; items = k.items }) (sym (is ∙ touches)) refl;
    others = λ j ne. ap (λ (k : Machine). slice_get k.values.items j) (is ∙ touches);
    count = (let c = ap (λ (k : Machine). length k.values.items) (is ∙ touches) in omega (arith, c));
  }

  -- where a value goes to its room
  module _ (v : Kept_value) (rest : new ≡ record mid { values = new.values })
      (room : mid.top.base + who.node < length mid.values.items → slice_get new.values.items (mid.top.base + who.node) ≡ Some v)
      (others : (j : ℕ) → j ≢ mid.top.base + who.node → slice_get new.values.items j ≡ slice_get mid.values.items j) where
    abbrev at : ℕ
    at = old.top.base + who.node

    room_so : at < length old.values.items → slice_get new.values.items at ≡ Some v
    room_so =
        subst (λ (xs : List Kept_value). at < length xs → slice_get new.values.items at ≡ Some v) same_rooms
        (subst (λ (b : ℕ). b + who.node < length mid.values.items → slice_get new.values.items (b + who.node) ≡ Some v) same_base room)

    others_so : (j : ℕ) → j ≢ at → slice_get new.values.items j ≡ slice_get old.values.items j
    others_so =
        subst (λ (xs : List Kept_value). (j : ℕ) → j ≢ at → slice_get new.values.items j ≡ slice_get xs j) same_rooms
        (subst (λ (b : ℕ). (j : ℕ) → j ≢ b + who.node → slice_get new.values.items j ≡ slice_get mid.values.items j) same_base others)

    changes_value : ChangesByCall old new who.node
    changes_value = record {
      rest = subst (λ (k : Machine). k ≡ record old { memory = k.memory; streams = k.streams; values = k.values; items = k.items })
          (sym (rest ∙ ap (λ (k : Machine). record k { values = new.values }) touches)) refl;
      others = others_so;
      count = no_fewer old.values.items new.values.items at v room_so others_so;
    }

    does_value : IsAnswered old mid f who ts hs (answers.Value v) → DoesCall old f who ts hs new (Ok outcome.Done)
    does_value is =
        let g = value_of v mid.items (store_in mid) (call_in old mid f who ts hs) is.does in
        let memory : mid.memory ≡ new.memory = sym (ap (λ (k : Machine). k.memory) rest) in
        let made : IsMadeValue mid.memory (given_value g.0) = subst (IsMadeValue mid.memory) g.2 is.made in (
          g.0,
          record {
            did = subst (λ (k : Machine). call_in old k f who ts hs ≡ Done g.0 k.items (store_in k)) (sym rest) g.1;
            kept = subst (Keeps old.memory) memory is.kept;
            value = λ lt. subst (λ (k : Kept). Holds k new.values.items at (result g.0)) memory (
              given_value g.0,
              room_so lt ∙ ap (λ (x : Kept_value). Some x) g.2,
              given_of mid.memory g.0 made,
              given_seen mid.memory g.0,
            );
          },
        )

  pub changes_so : (answer : LibAnswer) (r : Result Outcome Fault) → TakesAnswer mid answer who.node new r → ChangesByCall old new who.node
  changes_so (answers.Value v) r t = changes_value v t.1 t.2 t.3
  changes_so (answers.End status) r t = changes_none t.1
  changes_so (answers.Raise c) r t = changes_none t.1
  changes_so (answers.Outside c n) r t = changes_none t.1
  changes_so answers.Unplaced r t = changes_none t.1
  changes_so answers.NoMemory r t = changes_none t.1

  pub does_so : (answer : LibAnswer) (r : Result Outcome Fault) → TakesAnswer mid answer who.node new r → IsAnswered old mid f who ts hs answer
      → DoesCall old f who ts hs new r
  does_so (answers.Value v) r t is = subst (DoesCall old f who ts hs new) (sym t.0) (does_value v t.1 t.2 t.3 is)
  does_so (answers.End status) r t is =
      subst (DoesCall old f who ts hs new) (sym t.0)
      (subst (λ (k : Machine). call_in old k f who ts hs ≡ Ended status k.items (store_in k)) (sym t.1)
      (end_of status mid.items (store_in mid) (call_in old mid f who ts hs) is.does))
  does_so (answers.Raise c) r t is =
      subst (DoesCall old f who ts hs new) (sym t.0)
      (subst (λ (k : Machine). call_in old k f who ts hs ≡ Raised c) (sym t.1)
      (raised_of c mid.items (store_in mid) (call_in old mid f who ts hs) is.does))
  does_so (answers.Outside c n) r t is =
      subst (DoesCall old f who ts hs new) (sym t.0)
      (subst (λ (k : Machine). call_in old k f who ts hs ≡ Outside c n) (sym t.1)
      (outside_of c n mid.items (store_in mid) (call_in old mid f who ts hs) is.does))
  does_so answers.Unplaced r t is =
      subst (DoesCall old f who ts hs new) (sym t.0)
      (subst (λ (k : Machine). call_in old k f who ts hs ≡ Unplaced) (sym t.1)
      (unplaced_of mid.items (store_in mid) (call_in old mid f who ts hs) is.does))
  does_so answers.NoMemory r t is = subst (DoesCall old f who ts hs new) (sym t.0) tt

-- ---- a whole call
kept_so : {old : Kept} (mid end : Machine) (answer : LibAnswer) (node : ℕ) (r : Result Outcome Fault) → TakesAnswer mid answer node end r
    → Keeps old mid.memory → Keeps old end.memory
kept_so {old = old} mid end (answers.Value v) node r t kept = subst (λ (k : Machine). Keeps old k.memory) (sym t.1) kept
kept_so {old = old} mid end (answers.End status) node r t kept = subst (λ (k : Machine). Keeps old k.memory) (sym t.1) kept
kept_so {old = old} mid end (answers.Raise c) node r t kept = subst (λ (k : Machine). Keeps old k.memory) (sym t.1) kept
kept_so {old = old} mid end (answers.Outside c n) node r t kept = subst (λ (k : Machine). Keeps old k.memory) (sym t.1) kept
kept_so {old = old} mid end answers.Unplaced node r t kept = subst (λ (k : Machine). Keeps old k.memory) (sym t.1) kept
kept_so {old = old} mid end answers.NoMemory node r t kept = subst (λ (k : Machine). Keeps old k.memory) (sym t.1) kept

pub calls_so : (old mid new : Machine) (f : LibFunc) (os : List Operand) (ts : List Qual) (who : Event) (vs : List Kept_value) (answer : LibAnswer)
    (r : Result Outcome Fault) → AreArguments old os vs → TouchesStreams old mid
    → (CanCall old f vs → IsAnswered old mid f who (types_seen ts) vs answer) → TakesAnswer mid answer who.node new r
    → CallsLibrary old f os ts who new r
calls_so old mid new f os ts who vs answer r arguments touches answered takes = record {
  changes = changes_so old mid new f who (types_seen ts) vs touches answer r takes;
  does = λ hs are can.
      let same : vs ≡ hs = arguments hs are in
      subst (λ (xs : List Kept_value). DoesCall old f who (types_seen ts) xs new r) same
      (does_so old mid new f who (types_seen ts) vs touches answer r takes (answered (subst (CanCall old f) (sym same) can)));
  kept = λ hs are can. kept_so mid new answer who.node r takes (answered (subst (CanCall old f) (sym (arguments hs are)) can)).kept;
}

-- nothing was written where there is no value
pub written_so : (old mid new : Machine) (answer : LibAnswer) (node : ℕ) (r : Result Outcome Fault) → (gives_value answer ≡ false
    → mid.streams ≡ old.streams) → TakesAnswer mid answer node new r → OnErr r (new.streams ≡ old.streams)
written_so old mid new answer node r same t = by answer same t
  where
    as_before : (x : Fault) → r ≡ Err x → new ≡ mid → mid.streams ≡ old.streams → OnErr r (new.streams ≡ old.streams)
    as_before x is stays written =
        subst (λ (q : Result Outcome Fault). OnErr q (new.streams ≡ old.streams)) (sym is) (ap (λ (k : Machine). k.streams) stays ∙ written)

    done : (o : Outcome) → r ≡ Ok o → OnErr r (new.streams ≡ old.streams)
    done o is = subst (λ (q : Result Outcome Fault). OnErr q (new.streams ≡ old.streams)) (sym is) tt

    by : (answer : LibAnswer) → (gives_value answer ≡ false → mid.streams ≡ old.streams) → TakesAnswer mid answer node new r
        → OnErr r (new.streams ≡ old.streams)
    by (answers.Value v) same t = done outcome.Done t.0
    by (answers.End status) same t = done (outcome.End status) t.0
    by (answers.Raise c) same t = as_before (fault.Raise c) t.0 t.1 (same refl)
    by (answers.Outside cause n) same t = as_before (fault.Over cause n) t.0 t.1 (same refl)
    by answers.Unplaced same t = as_before fault.Unplaced t.0 t.1 (same refl)
    by answers.NoMemory same t = as_before fault.NoMemory t.0 t.1 (same refl)

-- where memory was wanted before
pub wants_memory : (old : Machine) (f : LibFunc) (os : List Operand) (ts : List Qual) (who : Event) → CallsLibrary old f os ts who old (Err fault.NoMemory)
wants_memory old f os ts who = record {
  changes = record { rest = refl; others = λ j ne. refl; count = omega arith };
  does = λ hs are can. tt;
  kept = λ hs are can. keeps_none old.memory;
}
