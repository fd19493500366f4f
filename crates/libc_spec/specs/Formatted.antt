-- fprintf, sprintf and snprintf as scripts of touches: the text of printf, to another stream or into an array (7.21.6.1, 7.21.6.5, 7.21.6.6).
use Rattle.std.specs.Prelude.{
  ℕ,
  zero,
  suc,
  ◌-◌,
  ◌^◌,
  Bool,
  false,
  not,
  ◌&&◌,
  ◌||◌,
  nat_lt,
  nat_le,
  min,
  List,
  [],
  ◌∷◌,
  ◌++◌,
  length,
  take,
  Option,
  Some,
  None,
  if◌then◌else◌,
  ℤ,
  pos,
}
use Rattle.std.specs.Ordering.{int_eq}
use Rattle.ub_base.specs.declared.clause.Clause.TheVariants.{LibraryArgument}
use Rattle.ub_base.specs.declared.clause.Cause.TheVariants.{Output as PastOutput}
use Rattle.ub_base.specs.declared.names.ObjName.{ObjName}
use Rattle.ub_base.specs.declared.names.Item.{Item}
use Rattle.ub_base.specs.declared.names.Item.TheVariants.{Read}
use Rattle.ub_base.specs.Names.{same_object}
use Rattle.addr_map.specs.declared.map.Row.{Row}
use Rattle.mem_spec.specs.declared.stream.Stream.TheVariants as streams
use Rattle.mem_spec.specs.Store.{Store}
use Rattle.mem_spec.specs.Script.{item_of, Script, Give, Raise, Finish, Exceed, Misplace, Do, touch, require, ◌>>=◌, ◌>>◌, Act, run}
use Rattle.mem_spec.specs.Acts.{Accessed, argument}
use Rattle.libc_spec.specs.Library.{
  LibValue,
  number,
  address_in,
  prov_in,
  read_numbers,
  without_zero,
  text,
  check_target,
  write_numbers,
  in_ranges,
  output_within,
}
use Rattle.libc_spec.specs.Print.{Argument, text_of, print_to}

-- the text of a call
abbrev pub formatted : List Row → LibValue → List Argument → Script (List ℕ)
formatted rows format as' = do
  s ← text rows (address_in format) (prov_in format)
  ns ← read_numbers s.bytes
  text_of (length ns) rows 0 (without_zero ns) as'

-- a text that isn't printed has at most as many bytes as standard output and standard error together (own)
abbrev pub short : List ℕ → Script (List ℕ)
short bytes = if nat_lt (2 ^ 24) (length bytes) then Exceed PastOutput (length bytes) else Give bytes

abbrev pub short_text : List Row → LibValue → List Argument → Script (List ℕ)
short_text rows format as' = formatted rows format as' >>= short

-- the stream 1 is standard output, 2 is standard error, and there is no other; what goes to either has the item of output, so any two
-- outputs conflict, whichever streams they go to (own)
abbrev pub fprintf : List Row → ℤ → LibValue → List Argument → Script LibValue
fprintf rows stream format as' =
    if int_eq stream (pos 1) then print_to streams.Output rows format as'
    else if int_eq stream (pos 2) then print_to streams.Errors rows format as'
    else Raise LibraryArgument

-- how many bytes of a text are stored, with the zero: all of them, or at most so many (7.21.6.5p2)
abbrev pub room : Option ℕ → (len : ℕ) → ℕ
room None len = suc len
room (Some n) len = min n (suc len)

-- so many bytes, of which the last is a zero
abbrev pub ended : ℕ → List ℕ → List ℕ
ended zero bytes = []
ended (suc n) bytes = take n bytes ++ 0 ∷ []

-- where they are stored; with room for none any pointer will do (7.21.6.5p2)
abbrev pub array : List Row → ℕ → LibValue → Script (Option Accessed)
array rows zero v = Give None
array rows (suc n) v = do
  at ← argument rows (suc n) (address_in v) (prov_in v)
  check_target (suc n) at
  Give at

-- a script with the items of its touches
pub record Noted (V : Type 0) : Type 0 where
  pub value : V
  pub items : List Item

abbrev pub noting : {V : Type 0} → Script V → Script (Noted V)
noting (Give v) = Give (record { value = v; items = [] })
noting (Raise c) = Raise c
noting (Finish n) = Finish n
noting (Exceed c n) = Exceed c n
noting Misplace = Misplace
noting (Do t k) = Do t (λ a. noting (k a) >>= (λ n. Give (record { value = n.value; items = item_of t ∷ n.items })))

-- a range of an object has a byte in common with those that were read, where neither is empty
abbrev pub touches : ObjName → (from len : ℕ) → Item → Bool
touches x a n (Read y b m) = same_object y x && (if nat_le b a then nat_lt (a - b) m else nat_lt (b - a) n)
touches x a n i = false

abbrev pub touches_any : ObjName → (from len : ℕ) → List Item → Bool
touches_any x a n [] = false
touches_any x a n (i ∷ is) = touches x a n i || touches_any x a n is

abbrev pub overlaps : Option Accessed → ℕ → List Item → Bool
overlaps None n is = false
overlaps (Some at) n is = touches_any at.object at.from n is

-- the text and where it is stored
pub record Placed : Type 0 where
  pub bytes : List ℕ
  pub at : Option Accessed

abbrev pub placed : List Row → Option ℕ → LibValue → LibValue → List Argument → Script Placed
placed rows most to format as' = do
  bytes ← short_text rows format as'
  at ← array rows (room most (length bytes)) to
  Give (record { bytes = bytes; at = at })

-- what is stored may overlap nothing that is read for it, the format and the strings (7.21.6.5p2, 7.21.6.6p2)
abbrev pub store_text : Option ℕ → Noted Placed → Script LibValue
store_text most p = do
  require (not (overlaps p.value.at (room most (length p.value.bytes)) p.items)) LibraryArgument
  write_numbers (ended (room most (length p.value.bytes)) p.value.bytes) p.value.at
  Give (number (pos (length p.value.bytes)))

-- sprintf, and snprintf with the size of its array: the value is the length of the whole text (7.21.6.5p3, 7.21.6.6p3)
abbrev pub sprintf : List Row → Option ℕ → (to format : LibValue) → List Argument → Script LibValue
sprintf rows most to format as' = noting (placed rows most to format as') >>= store_text most

-- calls of them, with what is read of a string named by one range (own), and the limit on what is printed
abbrev pub printed_to_by : List Row → ℤ → LibValue → List Argument → Store → Act LibValue
printed_to_by rows stream format as' s = output_within (in_ranges (run rows (fprintf rows stream format as') s))

abbrev pub stored_by : List Row → Option ℕ → (to format : LibValue) → List Argument → Store → Act LibValue
stored_by rows most to format as' s = output_within (in_ranges (run rows (sprintf rows most to format as') s))
