-- The directives of a printf format (7.21.6.1p3 to p9), and which of them are left out (own).
use Rattle.std.specs.Prelude.{
  ℕ,
  ◌+◌,
  ◌-◌,
  ◌*◌,
  ◌^◌,
  Bool,
  true,
  false,
  not,
  ◌&&◌,
  ◌||◌,
  ◌==◌,
  nat_le,
  min,
  List,
  [],
  ◌∷◌,
  length,
  drop,
  take_while,
  Option,
  Some,
  None,
  if◌then◌else◌,
}

pub record Flags : Type 0 where
  pub minus : Bool
  pub plus : Bool
  pub space : Bool
  pub hash : Bool
  pub zeros : Bool

-- a width or a precision as it is written
pub data Count : Type 0 where
  absent : Count
  argument : Count
  count : ℕ → Count

-- a length modifier
pub data Length : Type 0 where
  no_length : Length
  hh : Length
  h : Length
  l : Length
  ll : Length
  j : Length
  z : Length
  t : Length
  big_l : Length

pub record Directive : Type 0 where
  pub flags : Flags
  pub width : Count
  pub precision : Count
  pub modifier : Length
  pub conversion : ℕ
  pub len : ℕ  -- its bytes behind the `%`

-- a number above 2 ^ 62 counts as 2 ^ 62 (own)
abbrev pub most : ℕ
most = 2 ^ 62

abbrev pub is_flag : ℕ → Bool
is_flag c = c == 45 || (c == 43 || (c == 32 || (c == 35 || c == 48)))

abbrev pub is_digit : ℕ → Bool
is_digit c = nat_le 48 c && nat_le c 57

abbrev pub is_in : ℕ → List ℕ → Bool
is_in c [] = false
is_in c (d ∷ ds) = c == d || is_in c ds

abbrev pub flags_in : List ℕ → Flags
flags_in cs = record { minus = is_in 45 cs; plus = is_in 43 cs; space = is_in 32 cs; hash = is_in 35 cs; zeros = is_in 48 cs }

abbrev pub number_from : ℕ → List ℕ → ℕ
number_from n [] = n
number_from n (c ∷ cs) = number_from (min (10 * n + (c - 48)) most) cs

abbrev pub count_of_digits : List ℕ → Count
count_of_digits [] = absent
count_of_digits (c ∷ cs) = count (number_from 0 (c ∷ cs))

-- a piece of a directive and how many bytes it has
pub record Piece (A : Type 0) : Type 0 where
  pub item : A
  pub size : ℕ

abbrev pub width_of : List ℕ → Piece Count
width_of [] = record { item = absent; size = 0 }
width_of (c ∷ cs) =
    if c == 42 then record { item = argument; size = 1 }
    else record { item = count_of_digits (take_while is_digit (c ∷ cs)); size = length (take_while is_digit (c ∷ cs)) }

-- behind the point; without digits it is 0
abbrev pub precision_behind : List ℕ → Piece Count
precision_behind [] = record { item = count 0; size = 1 }
precision_behind (c ∷ cs) =
    if c == 42 then record { item = argument; size = 2 }
    else record { item = count (number_from 0 (take_while is_digit (c ∷ cs))); size = 1 + length (take_while is_digit (c ∷ cs)) }

abbrev pub precision_of : List ℕ → Piece Count
precision_of [] = record { item = absent; size = 0 }
precision_of (c ∷ cs) = if c == 46 then precision_behind cs else record { item = absent; size = 0 }

abbrev pub begins : ℕ → List ℕ → Bool
begins c [] = false
begins c (d ∷ ds) = c == d

abbrev pub length_of : List ℕ → Piece Length
length_of [] = record { item = no_length; size = 0 }
length_of (c ∷ cs) =
    if c == 104 then (if begins 104 cs then record { item = hh; size = 2 } else record { item = h; size = 1 })
    else if c == 108 then (if begins 108 cs then record { item = ll; size = 2 } else record { item = l; size = 1 })
    else if c == 106 then record { item = j; size = 1 }
    else if c == 122 then record { item = z; size = 1 }
    else if c == 116 then record { item = t; size = 1 }
    else if c == 76 then record { item = big_l; size = 1 }
    else record { item = no_length; size = 0 }

abbrev pub ended_by : Flags → Piece Count → Piece Count → Piece Length → ℕ → List ℕ → Option Directive
ended_by flags w p m n [] = None
ended_by flags w p m n (c ∷ cs) = Some (record { flags = flags; width = w.item; precision = p.item; modifier = m.item; conversion = c; len = n + 1 })

abbrev pub with_length : Flags → Piece Count → Piece Count → Piece Length → ℕ → List ℕ → Option Directive
with_length flags w p m n cs = ended_by flags w p m (n + m.size) (drop m.size cs)

abbrev pub with_precision : Flags → Piece Count → Piece Count → ℕ → List ℕ → Option Directive
with_precision flags w p n cs = with_length flags w p (length_of (drop p.size cs)) (n + p.size) (drop p.size cs)

abbrev pub with_width : Flags → Piece Count → ℕ → List ℕ → Option Directive
with_width flags w n cs = with_precision flags w (precision_of (drop w.size cs)) (n + w.size) (drop w.size cs)

-- the directive whose `%` stands before the text; none where the text ends inside it
abbrev pub directive_of : List ℕ → Option Directive
directive_of cs =
    with_width (flags_in (take_while is_flag cs)) (width_of (drop (length (take_while is_flag cs)) cs))
    (length (take_while is_flag cs)) (drop (length (take_while is_flag cs)) cs)

pub data Form : Type 0 where
  taken : Form
  left_out : Form
  invalid : Form

abbrev pub form_if : Bool → Form → Form
form_if true form = form
form_if false form = invalid

abbrev pub is_absent : Count → Bool
is_absent absent = true
is_absent _ = false

abbrev pub has_flag : Flags → Bool
has_flag f = f.minus || (f.plus || (f.space || (f.hash || f.zeros)))

abbrev pub is_plain : Length → Bool
is_plain no_length = true
is_plain _ = false

abbrev pub is_l : Length → Bool
is_l l = true
is_l _ = false

abbrev pub is_big_l : Length → Bool
is_big_l big_l = true
is_big_l _ = false

-- a, A, e, E, f, F, g, G
abbrev pub is_floating : ℕ → Bool
is_floating c = is_in c (97 ∷ 65 ∷ 101 ∷ 69 ∷ 102 ∷ 70 ∷ 103 ∷ 71 ∷ [])

-- c and s: no length, or `l`, which is left out
abbrev pub form_of_text : Length → Bool → Form
form_of_text no_length valid = form_if valid taken
form_of_text l valid = form_if valid left_out
form_of_text _ valid = invalid

abbrev pub form : Directive → Form
form d =
    if is_in d.conversion (100 ∷ 105 ∷ 117 ∷ []) then form_if (not (is_big_l d.modifier) && not d.flags.hash) taken
    else if is_in d.conversion (111 ∷ 120 ∷ 88 ∷ []) then form_if (not (is_big_l d.modifier)) taken
    else if d.conversion == 99 then form_of_text d.modifier (is_absent d.precision && (not d.flags.hash && not d.flags.zeros))
    else if d.conversion == 115 then form_of_text d.modifier (not d.flags.hash && not d.flags.zeros)
    else if d.conversion == 112 then form_if (is_plain d.modifier && (is_absent d.precision && (not d.flags.hash && not d.flags.zeros))) taken
    else if d.conversion == 37 then form_if (d.len == 1) taken
    else if d.conversion == 110 then form_if (not (is_big_l d.modifier) && (not (has_flag d.flags) && (is_absent d.width && is_absent d.precision))) left_out
    else form_if (is_floating d.conversion && (is_plain d.modifier || (is_l d.modifier || is_big_l d.modifier))) left_out
