-- The blocks of the function whose body is read, and their objects (6.8.2).
use Rattle.std.specs.Prelude.{ℕ, zero, suc, ◌+◌, List, [], ◌∷◌, ◌++◌}
use Rattle.c_types.specs.Types.{Qualified}
use Rattle.typing_env.specs.Env.{Task, OpenBlock}

-- a block begins: blocks are numbered in the order in which they begin (own)
abbrev pub open_block : Task → Task
open_block t = record t { blocks = t.blocks + 1; open_blocks = record { number = t.blocks; objects = [] } ∷ t.open_blocks }

abbrev pub no_block : OpenBlock
no_block = record { number = 0; objects = [] }

abbrev pub innermost : List OpenBlock → OpenBlock
innermost [] = no_block
innermost (b ∷ bs) = b

abbrev pub tail : {A : Type 0} → List A → List A
tail [] = []
tail (x ∷ xs) = xs

-- the innermost block ends
abbrev pub close_block : Task → Task
close_block t = record t { open_blocks = tail t.open_blocks }

abbrev pub with_innermost : (OpenBlock → OpenBlock) → List OpenBlock → List OpenBlock
with_innermost f [] = []
with_innermost f (b ∷ bs) = f b ∷ bs

abbrev pub one_object : Qualified → OpenBlock → OpenBlock
one_object q b = record b { objects = b.objects ++ q ∷ [] }

-- the innermost block has an object more
abbrev pub another_object : Qualified → Task → Task
another_object q t = record t { open_blocks = with_innermost (one_object q) t.open_blocks }

abbrev pub retyped_in : ℕ → Qualified → List Qualified → List Qualified
retyped_in n q [] = []
retyped_in zero q (p ∷ ps) = q ∷ ps
retyped_in (suc n) q (p ∷ ps) = p ∷ retyped_in n q ps

abbrev pub retyped_object : ℕ → Qualified → OpenBlock → OpenBlock
retyped_object n q b = record b { objects = retyped_in n q b.objects }

-- an object of the innermost block has this type
abbrev pub retyped_task : ℕ → Qualified → Task → Task
retyped_task n q t = record t { open_blocks = with_innermost (retyped_object n q) t.open_blocks }
