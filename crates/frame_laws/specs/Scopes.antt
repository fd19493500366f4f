-- Which automatic objects a statement names, and of which blocks (6.2.1p4, 6.2.4p6).
use Rattle.std.specs.Prelude.{◌≡◌, ℕ, ◌<◌, ◌⊎◌, List, [], ◌∷◌, ◌++◌, length, Option, Some, None, slice_get}
use Rattle.c_typed.specs.declared.tree.Slot.{Slot}
use Rattle.c_typed.specs.declared.tree.Slot.TheVariants as slot
use Rattle.c_model.specs.Program.{Decl, Head, Obj, Listed, Isolated, Expr, expr, Exprs, none, more, Stmt, Value, Empty, Declare, Block, If, If_only}
use Rattle.c_model.specs.Program.{Switch}
use Rattle.c_model.specs.Program.{Do, For, Goto, Continue, Break, Return, Return_none, Label, Case, Default, Stmts, end, and_then}
use Rattle.program_view.specs.Text.{text_of}

-- the objects of each block of a function's body, by the number of the block
abbrev pub Objects : Type 0
Objects = ℕ → Option (List Decl)

abbrev pub objects_of_row : Option (ℕ × List Decl) → Option (List Decl)
objects_of_row None = None
objects_of_row (Some row) = Some row.1

-- blocks are numbered in the order of the text
abbrev pub objects_in : Stmt → Objects
objects_in body b = objects_of_row (slice_get (text_of body).blocks b)

-- the block is one of these
abbrev pub IsOneOf : ℕ → List ℕ → Type 0
IsOneOf b [] = ⊥
IsOneOf b (o ∷ os) = (o ≡ b) ⊎ IsOneOf b os

-- the block has a higher number than the innermost one of these
abbrev pub IsAbove : ℕ → List ℕ → Type 0
IsAbove b [] = Unit {0}
IsAbove b (o ∷ os) = o < b

-- each of these blocks has a lower number
abbrev pub AreLower : ℕ → List ℕ → Type 0
AreLower b [] = Unit {0}
AreLower b (o ∷ os) = (o < b) × AreLower b os

-- A block in these blocks, the innermost first: it has these objects; and since blocks are numbered in the order of the text, it has a higher number.
pub record IsBlockIn (objects : Objects) (around : List ℕ) (b : ℕ) (ds : List Decl) : Type 0 where
  pub declares : objects b ≡ Some ds
  pub above : IsAbove b around

-- the object of this number is there
abbrev pub HasObject : ℕ → Option (List Decl) → Type 0
HasObject d None = ⊥
HasObject d (Some ds) = d < length ds

abbrev mutual
  -- the objects that the nodes of an expression name, in the order of the text; those of a listed initializer's own full expression too (6.7.9p23)
  pub names : Expr → List Slot
  names (expr h ty line es) = head_names h ++ names_of_all es

  pub names_of_all : Exprs → List Slot
  names_of_all none = []
  names_of_all (more e es) = names e ++ names_of_all es

  pub head_names : Head → List Slot
  head_names (Obj s) = s ∷ []
  head_names (Listed s fillings) = s ∷ []
  head_names (Isolated e) = names e
  head_names _ = []

module _ (objects : Objects) where
  -- an object with static storage, or one of a block round the place
  abbrev pub IsOpen : (around : List ℕ) → Slot → Type 0
  IsOpen around (slot.Static number) = Unit {0}
  IsOpen around (slot.Auto b d) = IsOneOf b around × HasObject d (objects b)

  abbrev pub AreOpen : (around : List ℕ) → List Slot → Type 0
  AreOpen around [] = Unit {0}
  AreOpen around (s ∷ ss) = IsOpen around s × AreOpen around ss

  -- a full expression in these blocks, the innermost first, names objects of them alone
  abbrev pub ExprFits : (around : List ℕ) → Expr → Type 0
  ExprFits around e = AreOpen around (names e)

  abbrev pub PerhapsFits : (around : List ℕ) → Option Expr → Type 0
  PerhapsFits around None = Unit {0}
  PerhapsFits around (Some e) = ExprFits around e

  -- a declaration is of an object of the innermost block
  abbrev pub DeclareFits : (around : List ℕ) → ℕ → Type 0
  DeclareFits [] d = ⊥
  DeclareFits (b ∷ bs) d = HasObject d (objects b)

  abbrev mutual
    -- so do the full expressions of a statement in these blocks, with the blocks that it has itself
    pub Fits : (around : List ℕ) → Stmt → Type 0
    Fits around (Value e) = ExprFits around e
    Fits around Empty = Unit {0}
    Fits around (Declare d) = DeclareFits around d
    Fits around (Block b ds ss) = IsBlockIn objects around b ds × AllFit (b ∷ around) ss
    Fits around (If e s t) = ExprFits around e × Fits around s × Fits around t
    Fits around (If_only e s) = ExprFits around e × Fits around s
    Fits around (Switch e s) = ExprFits around e × Fits around s
    Fits around (Do s e) = ExprFits around e × Fits around s
    Fits around (For start test step s) = PerhapsFits around start × PerhapsFits around test × PerhapsFits around step × Fits around s
    Fits around (Goto k) = Unit {0}
    Fits around Continue = Unit {0}
    Fits around Break = Unit {0}
    Fits around (Return e) = ExprFits around e
    Fits around Return_none = Unit {0}
    Fits around (Label k s) = Fits around s
    Fits around (Case z s) = Fits around s
    Fits around (Default s) = Fits around s

    pub AllFit : (around : List ℕ) → Stmts → Type 0
    AllFit around end = Unit {0}
    AllFit around (and_then s ss) = Fits around s × AllFit around ss

-- a function's body is a block (6.9.1p1)
abbrev pub BodyFits : Stmt → Type 0
BodyFits (Block b ds ss) = Fits (objects_in (Block b ds ss)) [] (Block b ds ss)
BodyFits s = ⊥
