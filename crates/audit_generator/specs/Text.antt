-- The text that a seed and a number of lines give (own).
use Rattle.std.specs.Prelude.{ℕ, zero, suc, ◌+◌, ◌*◌, ◌%◌, List, [], ◌++◌, codes, decimal}

-- a draw, from the one before it
abbrev pub drawn : ℕ → ℕ
drawn x = (75 * x + 74) % 65537

-- an element of the array
abbrev pub element : ℕ → List ℕ
element i = codes "a[" ++ (decimal i ++ codes "]")

-- `a[i]=a[j]+ku;`, with this operator
abbrev pub with_constant : List ℕ → ℕ → ℕ → ℕ → List ℕ
with_constant operator i j k = element i ++ (codes "=" ++ (element j ++ (operator ++ (decimal k ++ codes "u;\n"))))

abbrev pub exclusive_or : ℕ → ℕ → List ℕ
exclusive_or i j = element i ++ (codes "^=" ++ (element j ++ codes ";\n"))

abbrev pub greater : ℕ → ℕ → List ℕ
greater i j = codes "if(" ++ (element i ++ (codes ">" ++ (element j ++ codes ")")))

abbrev pub difference : ℕ → ℕ → List ℕ
difference i j = element i ++ (codes "=" ++ (element i ++ (codes "-" ++ (element j ++ codes ";\n"))))

-- a line of one of four forms
abbrev pub statement : ℕ → ℕ → ℕ → ℕ → List ℕ
statement zero i j k = with_constant (codes "+") i j k
statement (suc zero) i j k = with_constant (codes "*") i j k
statement (suc (suc zero)) i j k = exclusive_or i j
statement (suc (suc (suc t))) i j k = greater i j ++ difference i j

-- the line that four draws give: its form, its two elements and its constant
abbrev pub drawn_line : ℕ → ℕ → ℕ → ℕ → List ℕ
drawn_line t i j k = statement (t % 4) (i % 8) (j % 8) (k % 1000)

-- the line that the draws after x give
abbrev pub line_after : ℕ → List ℕ
line_after x =
    let t = drawn x in
    let i = drawn t in
    let j = drawn i in
    drawn_line t i j (drawn j)

-- the draw before those of a line, the lines counted from 0; the first draw is made from the seed
abbrev pub draw_before : ℕ → ℕ → ℕ
draw_before seed zero = seed
draw_before seed (suc n) = drawn (drawn (drawn (drawn (draw_before seed n))))

-- the first lines
abbrev pub lines : ℕ → ℕ → List ℕ
lines seed zero = []
lines seed (suc n) = lines seed n ++ line_after (draw_before seed n)

abbrev pub text : ℕ → ℕ → List ℕ
text seed count = codes "unsigned a[8]={1,2,3,4,5,6,7,8};\nint main(void){\n" ++ (lines seed count ++ codes "return (int)(a[0]&127u);\n}\n")
