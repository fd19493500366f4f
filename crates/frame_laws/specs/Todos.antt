-- What is left to do in a frame goes with the blocks that are open.
use Rattle.std.specs.Prelude.{◌≡◌, ℕ, List, [], ◌∷◌}
use Rattle.c_model.specs.Control.{Use, Unused, To_branch, To_enter, To_select, To_go_round, To_go_again, Result, Todo, Work, Enter, Leave, Unwrite}
use Rattle.c_model.specs.Control.{Begin}
use Rattle.c_model.specs.Control.{To_do, Rest, Round, Again, Test}
use Rattle.c_model.specs.OpenBlocks.{NoEnters}
use Rattle.frame_laws.specs.Scopes.{Objects, IsBlockIn, ExprFits, PerhapsFits, DeclareFits, Fits, AllFit}

-- some block is open
abbrev pub IsInside : List ℕ → Type 0
IsInside [] = ⊥
IsInside (o ∷ os) = Unit {0}

-- Blocks that are still to be entered stand in front, behind leaves at most: behind another control step none is entered.
abbrev pub EntersFirst : Todo → Type 0
EntersFirst [] = Unit {0}
EntersFirst (Enter b ds ∷ rest) = EntersFirst rest
EntersFirst (Leave b ds ∷ rest) = EntersFirst rest
EntersFirst (w ∷ rest) = NoEnters rest

module _ (objects : Objects) where
  -- what follows a full expression
  abbrev pub UseFits : (around : List ℕ) → Use → Type 0
  UseFits around Unused = Unit {0}
  UseFits around (To_branch s t) = Fits objects around s × Fits objects around t
  UseFits around (To_enter s) = Fits objects around s
  UseFits around (To_select s) = Fits objects around s
  UseFits around (To_go_round test step s) = PerhapsFits objects around test × PerhapsFits objects around step × Fits objects around s
  UseFits around (To_go_again e s) = ExprFits objects around e × Fits objects around s
  UseFits around Result = Unit {0}

  -- a piece of work in these blocks
  abbrev pub WorkFits : (around : List ℕ) → Work → Type 0
  WorkFits around (Unwrite d) = DeclareFits objects around d
  WorkFits around (Begin e what) = ExprFits objects around e × UseFits around what
  WorkFits around (To_do s) = Fits objects around s
  WorkFits around (Rest ss) = AllFit objects around ss
  WorkFits around (Round test step s) = PerhapsFits objects around test × PerhapsFits objects around step × Fits objects around s
  WorkFits around (Again e s) = ExprFits objects around e × Fits objects around s
  WorkFits around (Test test step s) = PerhapsFits objects around test × PerhapsFits objects around step × Fits objects around s
  WorkFits around w = Unit {0}

  -- From where the first blocks are open, the innermost first, the list leads to where the others are: it leaves and enters them in this order, each with
  -- its objects. All other work is done inside some block, and names objects of the blocks that are open then alone.
  abbrev pub Runs : Todo → (around last : List ℕ) → Type 0
  Runs [] around last = around ≡ last
  Runs (Enter b ds ∷ rest) around last = IsInside around × IsBlockIn objects around b ds × Runs rest (b ∷ around) last
  Runs (Leave b ds ∷ rest) [] last = ⊥
  Runs (Leave b ds ∷ rest) (o ∷ os) last = (o ≡ b) × IsBlockIn objects os b ds × Runs rest os last
  Runs (w ∷ rest) around last = IsInside around × WorkFits around w × Runs rest around last
