-- Lemmas on the steps from one directive of a format to the next.
use Rattle.std.proofs.Common.{◌≡◌, ℕ, suc, ◌+◌, ◌-◌, ◌≤◌, List, [], ◌∷◌, ◌++◌, length, drop, Ok, Err, Option, Some, None, refl, ap, ◌∙◌, subst, arith}
use Rattle.std.proofs.lemmas.Bool.{ne_eqb}
use Rattle.std.proofs.lemmas.List.{length-drop}
use Rattle.addr_map.specs.declared.map.Row.{Row}
use Rattle.mem_spec.specs.Script.{Script, Give, ◌>>=◌}
use Rattle.libc_spec.specs.Directives as directives
use Rattle.libc_spec.specs.Directives.{directive_of, form, Form, taken, left_out, invalid}
use Rattle.libc_spec.specs.Print.{Argument, Taken, Step, put_formed, step_by, step}
use Rattle.libc_directives.specs.declared.refusal.Refusal.{Refusal}
use Rattle.libc_directives.specs.declared.refusal.Refusal.TheVariants.{Raise, Outside}
use Rattle.libc_print.specs.Answers.{Steps, IsFormed, refusal_of}
use Rattle.libc_directives.specs.Answers.{answer_of}

-- ---- one step
abbrev pub sized_step : ℕ → Taken (List ℕ) → Script Step
sized_step n p = Give (record { bytes = p.item; len = n; rest = p.rest })

-- a directive that is refused
form_refused : (r : Refusal) (rows : List Row) (at : ℕ) (old new : List ℕ) (as' rest : List Argument) (d : directives.Directive) (f : Form)
    (k : Taken (List ℕ) → Script Step) →
    Some r ≡ refusal_of f at → Steps (Err (answer_of r)) old new rest (put_formed rows f d at as' >>= k)
form_refused r rows at old new as' rest d taken k e = absurd (cc)
form_refused r rows at old new as' rest d left_out k e = let q : r ≡ Outside _ at = cc in rw q (refl, refl)
form_refused r rows at old new as' rest d invalid k e = let q : r ≡ Raise _ = cc in rw q refl

by_refused : (r : Refusal) (rows : List Row) (at : ℕ) (old new : List ℕ) (as' rest : List Argument) (o : Option directives.Directive) →
    IsFormed (Err r) o at → Steps (Err (answer_of r)) old new rest (step_by rows o at as')
by_refused r rows at old new as' rest None h = rw h refl
by_refused r rows at old new as' rest (Some d) h = form_refused r rows at old new as' rest d (form d) (sized_step d.len) h

pub steps_refused : (r : Refusal) (rows : List Row) (c at : ℕ) (cs old new : List ℕ) (as' rest : List Argument) → c ≡ 37 →
    IsFormed (Err r) (directive_of cs) at → Steps (Err (answer_of r)) old new rest (step rows c cs at as')
steps_refused r rows c at cs old new as' rest e h = rw e (by_refused r rows at old new as' rest (directive_of cs) h)

-- a byte of the format itself
pub steps_byte : (rows : List Row) (c at : ℕ) (cs old : List ℕ) (as' : List Argument) → (c ≡ 37 → ⊥) →
    Steps (Ok 0) old (old ++ c ∷ []) as' (step rows c cs at as')
steps_byte rows c at cs old as' n = rw (ne_eqb c 37 n) (refl, refl, refl)

-- ---- one turn of the loop over a format
pub none_left : (l : List ℕ) → length l ≡ 0 → l ≡ []
none_left [] h = refl
none_left (c ∷ cs) h = absurd cc

pub fits_turn : (len turn n : ℕ) (all cs behind : List ℕ) (c : ℕ) → length all + turn ≤ len → all ≡ c ∷ cs → behind ≡ drop n cs →
    length behind + (turn + 1) ≤ len
fits_turn len turn n all cs behind c fits d b =
    let g : suc (length cs) + turn ≤ len = subst (λ (l : List ℕ). length l + turn ≤ len) d fits in
    let q : length behind ≡ length cs - n = ap length b ∙ length-drop n cs in
    omega (arith, g, q)
