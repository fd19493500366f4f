-- Where a jump arrives: what is to be done there is what the model says.
use Rattle.std.specs.Borrow.{Bor}
use Rattle.std.proofs.Common.{◌≡◌, ℕ, List, [], ◌∷◌, ◌++◌, map, reverse, Some, refl, sym, ◌∙◌, ap, append_assoc}
use Rattle.std.proofs.lemmas.List.{map-append, reverse-append, append-nil}
use Rattle.c_model.specs.Program.{Decl}
use Rattle.c_model.specs.Control.{Todo, blocks_round, unshared, enter_all, leave_all, gone_to, moved_in}
use Rattle.run_control.specs.declared.statement.Block.{Block}
use Rattle.run_control.specs.declared.work.Work.{Work}
use Rattle.run_control.specs.declared.work.Work.TheVariants as work
use Rattle.run_control.specs.View.{Meaning, todo_of, work_of}
use Rattle.run_control.specs.Links.{blocks_in, named, outwards_in}

pub unshared_none : (bs : List (ℕ × List Decl)) → unshared bs [] ≡ bs
unshared_none [] = refl
unshared_none (b ∷ bs) = refl

pub named_cons : (m : Meaning) (b : Bor Block) (bs : List (Bor Block)) (rest : List (ℕ × List Decl))
    → named m (reverse (b ∷ bs)) ++ rest ≡ named m (reverse bs) ++ (named m (b ∷ []) ++ rest)
named_cons m b bs rest =
    ap (λ xs. named m xs ++ rest) (reverse-append (b ∷ []) bs)
    ∙ (ap (λ xs. xs ++ rest) (map-append _ (reverse bs) (b ∷ [])) ∙ append_assoc (named m (reverse bs)) (named m (b ∷ [])) rest)

-- the blocks round work
pub round_onto : (m : Meaning) (ws : List Work) (inner : List (ℕ × List Decl)) → blocks_round (todo_of m ws) inner ≡ outwards_in m (blocks_in ws) ++ inner
round_onto m [] inner = refl
round_onto m (work.Leave b ∷ ws) inner =
    round_onto m ws (named m (b ∷ []) ++ inner) ∙ sym (named_cons m b (blocks_in ws) inner)
round_onto m (work.Enter b ∷ ws) inner = round_onto m ws inner
round_onto m (work.ToDo s ∷ ws) inner = round_onto m ws inner
round_onto m (work.Rest ss ∷ ws) inner = round_onto m ws inner
round_onto m (work.Round b ∷ ws) inner = round_onto m ws inner
round_onto m (work.Again b ∷ ws) inner = round_onto m ws inner
round_onto m (work.Test b ∷ ws) inner = round_onto m ws inner
round_onto m (work.BreakHere ∷ ws) inner = round_onto m ws inner
round_onto m (work.Begin n ∷ ws) inner = round_onto m ws inner

pub round_is : (m : Meaning) (ws : List Work) → blocks_round (todo_of m ws) [] ≡ outwards_in m (blocks_in ws)
round_is m ws = round_onto m ws [] ∙ append-nil (outwards_in m (blocks_in ws))

-- enters and leaves
pub enters : (m : Meaning) (bs : List (Bor Block)) (rest : List Work) → todo_of m (map work.Enter bs ++ rest) ≡ enter_all (named m bs) (todo_of m rest)
enters m [] rest = refl
enters m (b ∷ bs) rest = ap (λ ws. work_of m (work.Enter b) ∷ ws) (enters m bs rest)

pub leave_last : (bs cs : List (ℕ × List Decl)) (rest : Todo) → leave_all (bs ++ cs) rest ≡ leave_all cs (leave_all bs rest)
leave_last [] cs rest = refl
leave_last (b ∷ bs) cs rest = leave_last bs cs _

pub leaves_all : (m : Meaning) (bs : List (Bor Block)) (rest : List Work) → todo_of m (map work.Leave bs ++ rest)
    ≡ leave_all (outwards_in m bs) (todo_of m rest)
leaves_all m [] rest = refl
leaves_all m (b ∷ bs) rest =
    ap (λ ws. work_of m (work.Leave b) ∷ ws) (leaves_all m bs rest)
    ∙ sym (ap (λ cs. leave_all cs (todo_of m rest)) (ap (named m) (reverse-append (b ∷ []) bs) ∙ map-append _ (reverse bs) (b ∷ []))
    ∙ leave_last (named m (reverse bs)) (named m (b ∷ [])) (todo_of m rest))

-- into a statement
pub arrives_in : (m : Meaning) (ws old put after : List Work) (blocks : List (Bor Block))
    → blocks ≡ blocks_in ws → put ≡ ws ++ old → after ≡ map work.Enter (reverse blocks) ++ put
    → todo_of m after ≡ moved_in (Some (todo_of m ws)) (todo_of m old)
arrives_in m ws old put after blocks b p e =
    ap (todo_of m) e ∙ (enters m (reverse blocks) put
    ∙ (ap (λ bs. enter_all bs (todo_of m put)) (ap (outwards_in m) b ∙ sym (round_is m ws))
    ∙ ap (λ ts. enter_all (blocks_round (todo_of m ws) []) ts) (ap (todo_of m) p ∙ map-append (work_of m) ws old)))

-- at a label
pub arrives : (m : Meaning) (ws old empty put entered after : List Work) (left0 left entered0 enter : List (Bor Block))
    → left0 ≡ blocks_in old → empty ≡ [] → entered0 ≡ blocks_in ws
    → outwards_in m left ≡ unshared (outwards_in m left0) (outwards_in m entered0)
    → outwards_in m enter ≡ unshared (outwards_in m entered0) (outwards_in m left0)
    → put ≡ ws ++ empty → entered ≡ map work.Enter (reverse enter) ++ put → after ≡ map work.Leave left ++ entered
    → todo_of m after ≡ gone_to (todo_of m old) (Some (todo_of m ws))
arrives m ws old empty put entered after left0 left entered0 enter l n e ul ue p i a =
    let away : outwards_in m left0 ≡ blocks_round (todo_of m old) [] = ap (outwards_in m) l ∙ sym (round_is m old) in
    let there : outwards_in m entered0 ≡ blocks_round (todo_of m ws) [] = ap (outwards_in m) e ∙ sym (round_is m ws) in
    let is : put ≡ ws = p ∙ (ap (λ xs. ws ++ xs) n ∙ append-nil ws) in
    let goes : outwards_in m left ≡ unshared (blocks_round (todo_of m old) []) (blocks_round (todo_of m ws) []) =
    ul ∙ (ap (λ xs. unshared xs (outwards_in m entered0)) away ∙ ap (λ ys. unshared (blocks_round (todo_of m old) []) ys) there) in
    let comes : outwards_in m enter ≡ unshared (blocks_round (todo_of m ws) []) (blocks_round (todo_of m old) []) =
    ue ∙ (ap (λ xs. unshared xs (outwards_in m left0)) there ∙ ap (λ ys. unshared (blocks_round (todo_of m ws) []) ys) away) in
    ap (todo_of m) a ∙ (leaves_all m left entered
    ∙ (ap (λ ts. leave_all (outwards_in m left) ts) (ap (todo_of m) i ∙ (enters m (reverse enter) put
    ∙ ap (λ xs. enter_all (outwards_in m enter) (todo_of m xs)) is))
    ∙ (ap (λ bs. leave_all bs (enter_all (outwards_in m enter) (todo_of m ws))) goes
    ∙ ap (λ bs. leave_all (unshared (blocks_round (todo_of m old) []) (blocks_round (todo_of m ws) [])) (enter_all bs (todo_of m ws))) comes)))
