-- The characters so far, and those of what is left.
use Rattle.std.proofs.Common.{
  ◌≡◌,
  ℕ,
  zero,
  suc,
  ◌<◌,
  ◌≤◌,
  List,
  [],
  ◌∷◌,
  ◌++◌,
  length,
  drop,
  Option,
  Some,
  None,
  refl,
  ap,
  sym,
  ◌∙◌,
  arith,
  append_assoc,
  length-drop,
}
use Rattle.std.proofs.lemmas.List.{append-nil}
use Rattle.std.specs.Option.{option_map}
use Rattle.c_lit.specs.Characters.{character, characters, characters_from, before}
use Rattle.c_lit.specs.Literals.{GainsCharacters}
use Rattle.c_lit.specs.declared.character.Character.{Character}

-- these were added behind the old ones, and those of what is left are left
pub record SoFar (old new body rest : List ℕ) : Type 0 where
  pub given : List ℕ
  pub pieces : ℕ
  pub enough : length rest ≤ pieces
  pub new_is : new ≡ old ++ given
  pub is : characters body ≡ option_map (λ cs. given ++ cs) (characters_from pieces rest)

none_before : (all : Option (List ℕ)) → all ≡ option_map (λ cs. [] ++ cs) all
none_before None = refl
none_before (Some cs) = refl

pub so_far_none : (old body : List ℕ) → SoFar old old body body
so_far_none old body =
    record { given = []; pieces = length body; enough = omega arith; new_is = sym (append-nil old); is = none_before (characters body) }

twice : (given : List ℕ) (n : ℕ) (all : Option (List ℕ))
    → option_map (λ cs. given ++ cs) (option_map (λ cs. n ∷ cs) all) ≡ option_map (λ cs. (given ++ n ∷ []) ++ cs) all
twice given n None = refl
twice given n (Some cs) = ap Some (sym (append_assoc given (n ∷ []) cs))

one_more : (given rest : List ℕ) (pieces b : ℕ) (bs : List ℕ) (c : Character) → rest ≡ b ∷ bs → Some c ≡ character b bs
    → option_map (λ cs. given ++ cs) (characters_from (suc pieces) rest)
    ≡ option_map (λ cs. (given ++ c.value ∷ []) ++ cs) (characters_from pieces (drop c.len rest))
one_more given rest pieces b bs c is read =
    ap (λ r. option_map (λ cs. given ++ cs) (characters_from (suc pieces) r)) is
    ∙ ap (λ q. option_map (λ cs. given ++ cs) (before (characters_from pieces) (b ∷ bs) q)) (sym read)
    ∙ twice given c.value _
    ∙ ap (λ r. option_map (λ cs. (given ++ c.value ∷ []) ++ cs) (characters_from pieces (drop c.len r))) (sym is)

more_from : (old new new2 body rest rest2 given : List ℕ) (pieces b : ℕ) (bs : List ℕ) (c : Character)
    → length rest ≤ pieces → new ≡ old ++ given
    → characters body ≡ option_map (λ cs. given ++ cs) (characters_from pieces rest)
    → rest ≡ b ∷ bs → Some c ≡ character b bs → 0 < c.len → new2 ≡ new ++ c.value ∷ [] → rest2 ≡ drop c.len rest
    → SoFar old new2 body rest2
more_from old new new2 body rest rest2 given zero b bs c enough new_is so_far is read some new2_is rest2_is =
    let len = ap length is in absurd (omega arith)
more_from old new new2 body rest rest2 given (suc pieces) b bs c enough new_is so_far is read some new2_is rest2_is =
    let left = length-drop c.len rest in let len = ap length rest2_is in let full = ap length is in
    record {
      given = given ++ c.value ∷ [];
      pieces = pieces;
      enough = omega arith;
      new_is = new2_is ∙ ap (λ n. n ++ c.value ∷ []) new_is ∙ append_assoc old given (c.value ∷ []);
      is = so_far ∙ one_more given rest pieces b bs c is read ∙ ap (λ r. option_map (λ cs. (given ++ c.value ∷ []) ++ cs) (characters_from pieces r))
          (sym rest2_is);
    }

-- a character more
pub so_far_more : {old new new2 body rest rest2 : List ℕ} (b : ℕ) (bs : List ℕ) (c : Character)
    → SoFar old new body rest → rest ≡ b ∷ bs → Some c ≡ character b bs → 0 < c.len → new2 ≡ new ++ c.value ∷ [] → rest2 ≡ drop c.len rest
    → SoFar old new2 body rest2
so_far_more {old = old} {new = new} {new2 = new2} {body = body} {rest = rest} {rest2 = rest2} b bs c s is read some new2_is rest2_is =
    more_from old new new2 body rest rest2 s.given s.pieces b bs c s.enough s.new_is s.is is read some new2_is rest2_is

nothing_left : (given rest : List ℕ) (pieces : ℕ) → length rest ≡ 0 → option_map (λ cs. given ++ cs) (characters_from pieces rest) ≡ Some given
nothing_left given [] zero none = ap Some (append-nil given)
nothing_left given [] (suc pieces) none = ap Some (append-nil given)
nothing_left given (b ∷ bs) pieces none = absurd (omega arith)

-- at the end all were added
pub all_added : {old new body rest : List ℕ} → SoFar old new body rest → length rest ≡ 0 → GainsCharacters old new body
all_added {old = old} {new = new} {body = body} {rest = rest} s none =
    record { bytes = s.given; is = s.is ∙ nothing_left s.given rest s.pieces none; new_is = s.new_is }

fault_from : (given rest : List ℕ) (pieces b : ℕ) (bs : List ℕ) → length rest ≤ pieces → rest ≡ b ∷ bs → None ≡ character b bs
    → option_map (λ cs. given ++ cs) (characters_from pieces rest) ≡ None
fault_from given rest zero b bs enough is none = let len = ap length is in absurd (omega arith)
fault_from given rest (suc pieces) b bs enough is none =
    ap (λ r. option_map (λ cs. given ++ cs) (characters_from (suc pieces) r)) is
    ∙ ap (λ q. option_map (λ cs. given ++ cs) (before (characters_from pieces) (b ∷ bs) q)) (sym none)
