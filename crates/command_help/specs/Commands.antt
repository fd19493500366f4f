-- The commands by their names (own).
use Rattle.std.specs.Prelude.{◌≡◌, ◌⊎◌, ◌++◌, ℕ, List, codes, length, take}

-- the text begins with these words
abbrev pub Begins : List ℕ → List ℕ → Type 0
Begins words text = take (length words) text ≡ words

-- the name of a command that looks further at a program or its run
abbrev pub IsLook : List ℕ → Type 0
IsLook name = (name ≡ codes "errors") ⊎ (name ≡ codes "static") ⊎ (name ≡ codes "swap") ⊎ (name ≡ codes "story")

-- the name of a command
abbrev pub IsCommand : List ℕ → Type 0
IsCommand name =
    (name ≡ codes "audit") ⊎ (name ≡ codes "explain") ⊎ (name ≡ codes "batch") ⊎ (name ≡ codes "check") ⊎ (name ≡ codes "self")
    ⊎ (name ≡ codes "help") ⊎ (name ≡ codes "version") ⊎ IsLook name

-- what the program is for, and the commands that a person needs first
abbrev pub first_lines : List ℕ
first_lines =
    codes "cub follows one run of one preprocessed C11 program and says what C makes of it.\n"
    ++ (codes "  cub audit FILE     the verdict, in lines for scripts\n"
    ++ (codes "  cub explain FILE   the verdict, and why, for a person\n"
    ++ (codes "  cub batch FILE..   a line for each of many programs or inputs, and how many had which verdict\n"
    ++ (codes "  cub check FILE C   whether the certificate C holds for FILE\n"
    ++ codes "  cub help COMMAND   what COMMAND takes, with an example\n"))))

-- the version, and the line of the kit whose checker proved it
abbrev pub version_text : List ℕ
version_text = codes "cub 1\n" ++ codes "proved with rattle-kit-13f logic dac8208d650f15bf\n"
