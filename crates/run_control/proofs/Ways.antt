-- The way of a move: what was kept, and then what the move makes of the rest.
use Rattle.std.proofs.Common.{◌≡◌, List, [], ◌∷◌, ◌++◌, refl, sym, ◌∙◌, ap, append_assoc}
use Rattle.std.proofs.lemmas.List.{map-append}
use Rattle.c_model.specs.Control.{Todo}
use Rattle.run_control.specs.declared.work.Work.{Work}
use Rattle.run_control.specs.declared.moves.Move.{Move}
use Rattle.run_control.specs.declared.moves.Move.TheVariants.{Out, On, Back}
use Rattle.run_control.specs.declared.moves.Fate.TheVariants.{Keep, Skip, Past, At}
use Rattle.run_control.specs.View.{Meaning, work_of, todo_of}
use Rattle.run_control.specs.Moves.{moved, Becomes}

-- all of the way, where so much was kept and this is still to come
abbrev pub Along : Move → (all : List Work) → (kept now : List Work) → Type 0
Along how all kept now = (m : Meaning) → moved how (todo_of m all) ≡ todo_of m kept ++ moved how (todo_of m now)

pub front : (m : Meaning) (how : Move) (all kept now rest : List Work) (w : Work) → Along how all kept now → now ≡ w ∷ rest
    → moved how (todo_of m all) ≡ todo_of m kept ++ moved how (todo_of m (w ∷ rest))
front m how all kept now rest w h e = h m ∙ ap (λ ws. todo_of m kept ++ moved how (todo_of m ws)) e

pub one_more : (m : Meaning) (kept : List Work) (w : Work) (rest : Todo) → todo_of m (kept ++ w ∷ []) ++ rest ≡ todo_of m kept ++ (work_of m w ∷ rest)
one_more m kept w rest =
    ap (λ ws. ws ++ rest) (map-append (work_of m) kept (w ∷ [])) ∙ append_assoc (todo_of m kept) (work_of m w ∷ []) rest

pub keeps : (how : Move) (all kept now rest more : List Work) (w : Work) → Along how all kept now → now ≡ w ∷ rest
    → ((m : Meaning) (ws : List Work) → Becomes m how w Keep ws) → more ≡ kept ++ w ∷ [] → Along how all more rest
keeps how all kept now rest more w h e becomes grown m =
    front m how all kept now rest w h e ∙ (ap (λ ws. todo_of m kept ++ ws) (becomes m rest)
    ∙ (sym (one_more m kept w (moved how (todo_of m rest))) ∙ ap (λ ws. todo_of m ws ++ moved how (todo_of m rest)) (sym grown)))

pub skips : (how : Move) (all kept now rest : List Work) (w : Work) → Along how all kept now → now ≡ w ∷ rest
    → ((m : Meaning) (ws : List Work) → Becomes m how w Skip ws) → Along how all kept rest
skips how all kept now rest w h e becomes m = front m how all kept now rest w h e ∙ ap (λ ws. todo_of m kept ++ ws) (becomes m rest)

pub put : (m : Meaning) (kept rest after : List Work) → after ≡ kept ++ rest → todo_of m after ≡ todo_of m kept ++ todo_of m rest
put m kept rest after e = ap (todo_of m) e ∙ map-append (work_of m) kept rest

pub goes_past : (how : Move) (all kept now rest after : List Work) (w : Work) → Along how all kept now → now ≡ w ∷ rest
    → ((m : Meaning) (ws : List Work) → Becomes m how w Past ws) → after ≡ kept ++ rest → (m : Meaning) → todo_of m after ≡ moved how (todo_of m all)
goes_past how all kept now rest after w h e becomes p m =
    put m kept rest after p ∙ sym (front m how all kept now rest w h e ∙ ap (λ ws. todo_of m kept ++ ws) (becomes m rest))

pub goes_to : (how : Move) (all kept now rest put_on after : List Work) (w : Work) → Along how all kept now → now ≡ w ∷ rest
    → ((m : Meaning) (ws : List Work) → Becomes m how w At ws) → put_on ≡ w ∷ rest → after ≡ kept ++ put_on
    → (m : Meaning) → todo_of m after ≡ moved how (todo_of m all)
goes_to how all kept now rest put_on after w h e becomes on p m =
    put m kept (w ∷ rest) after (p ∙ ap (λ ws. kept ++ ws) on)
    ∙ sym (front m how all kept now rest w h e ∙ ap (λ ws. todo_of m kept ++ ws) (becomes m rest))

pub moved_nothing : (how : Move) → moved how [] ≡ []
moved_nothing Out = refl
moved_nothing On = refl
moved_nothing Back = refl

pub goes_over : (how : Move) (all kept now rest after : List Work) → Along how all kept now → now ≡ [] → rest ≡ [] → after ≡ kept ++ rest
    → (m : Meaning) → todo_of m after ≡ moved how (todo_of m all)
goes_over how all kept now rest after h e f p m =
    put m kept [] after (p ∙ ap (λ ws. kept ++ ws) f)
    ∙ sym (h m ∙ (ap (λ ws. todo_of m kept ++ moved how (todo_of m ws)) e ∙ ap (λ ws. todo_of m kept ++ ws) (moved_nothing how)))
