-- Texts of paths: their steps from the oldest on, and that a text is one path's.
use Rattle.std.proofs.Common.{
  ◌≡◌,
  ◌≤◌,
  ◌<◌,
  ◌^◌,
  ◌+◌,
  ℕ,
  zero,
  suc,
  List,
  [],
  ◌∷◌,
  ◌++◌,
  length,
  reverse,
  refl,
  sym,
  ◌∙◌,
  ap,
  subst,
  arith,
  decimal,
  codes,
  append_assoc,
  append-nil,
  length-append,
  Some,
  None,
}
use mathlib.Core.List.{reverse-cons}
use Rattle.std.specs.List.{AllByRecursion}
use Rattle.std.proofs.lemmas.List.{reverse-reverse, length-reverse}
use Rattle.ub_base.specs.Frames.{Path}
use Rattle.c_names.specs.Names.{IsStep, HasSteps, IsFrame}
use Rattle.c_names.specs.Texts.{step_text, frame_text}
use Rattle.c_names.specs.Parts.{Lacks, AtByte, steps_text, BeginsWithNoStep, IsNoPathText, IsNoFrameText}
use Rattle.c_names.proofs.Cuts.{step_once, decimal_lacks, space_out, apart, Lacks-append}

pub steps_text-append : (p q : Path) → steps_text (p ++ q) ≡ steps_text p ++ steps_text q
steps_text-append [] q = refl
steps_text-append (s ∷ p) q = ap (λ t. step_text s ++ t) (steps_text-append p q) ∙ sym (append_assoc (step_text s) (steps_text p) (steps_text q))

pub steps_text-push : (p : Path) (s : ℕ × ℕ) (rest : List ℕ) → steps_text (p ++ s ∷ []) ++ rest ≡ steps_text p ++ (step_text s ++ rest)
steps_text-push p s rest =
    ap (λ t. t ++ rest) (steps_text-append p (s ∷ []) ∙ ap (λ t. steps_text p ++ t) (append-nil (step_text s)))
    ∙ append_assoc (steps_text p) (step_text s) rest

pub frame_text-steps : (p : Path) → frame_text p ≡ codes "main" ++ steps_text (reverse p)
frame_text-steps [] = refl
frame_text-steps (s ∷ p) =
    ap (λ t. t ++ step_text s) (frame_text-steps p)
    ∙ append_assoc (codes "main") (steps_text (reverse p)) (step_text s)
    ∙ ap (λ t. codes "main" ++ t) (ap (λ t. steps_text (reverse p) ++ t) (sym (append-nil (step_text s))) ∙ sym (steps_text-append (reverse p) (s ∷ [])))
    ∙ ap (λ q. codes "main" ++ steps_text q) (sym (reverse-cons s p))

pub HasSteps-append : (p q : Path) → HasSteps p → HasSteps q → HasSteps (p ++ q)
HasSteps-append [] q h k = k
HasSteps-append (s ∷ p) q h k = (h.0, HasSteps-append p q h.1 k)

pub HasSteps-reverse : (p : Path) → HasSteps p → HasSteps (reverse p)
HasSteps-reverse [] h = tt
HasSteps-reverse (s ∷ p) h = subst HasSteps (sym (reverse-cons s p)) (HasSteps-append (reverse p) (s ∷ []) (HasSteps-reverse p h.1) (h.0, tt))

pub AtByte-steps : (p : Path) → AtByte 47 (steps_text p)
AtByte-steps [] = tt
AtByte-steps (s ∷ p) = refl

at_more : (p : Path) (rest : List ℕ) → AtByte 47 rest → AtByte 47 (steps_text p ++ rest)
at_more [] rest h = h
at_more (s ∷ p) rest h = refl

-- where a front of the steps is read, the rest is the text of the others
pub steps_after : (done q : Path) (rest : List ℕ) → HasSteps done → HasSteps q → (0 < length done → AtByte 47 rest) → steps_text q ≡ steps_text done ++ rest
    → (p : Path) × (q ≡ done ++ p) × (steps_text p ≡ rest)
steps_after [] q rest h k at e = (q, refl, e)
steps_after (s ∷ done) [] rest h k at e = absurd (cc)
steps_after (s ∷ done) (t ∷ q) rest h k at e =
    let here : step_text t ++ steps_text q ≡ step_text s ++ (steps_text done ++ rest) = e ∙ append_assoc (step_text s) (steps_text done) rest in
    let first = step_once t s (steps_text q) (steps_text done ++ rest) k.0 h.0 (AtByte-steps q) (at_more done rest (at (omega arith))) here in
    let more = steps_after done q rest h.1 k.1 (λ some. at (omega arith)) first.1 in
    (more.0, (λ i. first.0 i ∷ more.1 i), more.2)

no_steps : (p : Path) → steps_text p ≡ [] → p ≡ []
no_steps [] e = refl
no_steps (s ∷ p) e = absurd (cc)

steps_once : (p q : Path) → HasSteps p → HasSteps q → steps_text p ≡ steps_text q → p ≡ q
steps_once p q h k e =
    let more = steps_after q p [] k h (λ some. tt) (e ∙ sym (append-nil (steps_text q))) in
    more.1 ∙ ap (λ r. q ++ r) (no_steps more.0 more.2) ∙ append-nil q

after_main : (a b : List ℕ) → codes "main" ++ a ≡ codes "main" ++ b → a ≡ b
after_main a b e = cc

pub path_once : (p q : Path) → HasSteps p → HasSteps q → frame_text p ≡ frame_text q → p ≡ q
path_once p q h k e =
    let steps : steps_text (reverse p) ≡ steps_text (reverse q) = after_main _ _ (sym (frame_text-steps p) ∙ e ∙ frame_text-steps q) in
    sym (reverse-reverse p) ∙ ap reverse (steps_once (reverse p) (reverse q) (HasSteps-reverse p h) (HasSteps-reverse q k) steps) ∙ reverse-reverse q

-- a text that doesn't begin with `main` is no path's
pub IsNoPathText-from_main : (text : List ℕ) → ((rest : List ℕ) → text ≡ codes "main" ++ rest → ⊥) → IsNoPathText text
IsNoPathText-from_main text none p h e = none (steps_text (reverse p)) (sym e ∙ frame_text-steps p)

-- nor one where behind some steps more follows, and no step
pub IsNoPathText-from_step : (text rest : List ℕ) (done : Path) → text ≡ codes "main" ++ (steps_text done ++ rest) → HasSteps done →
    (0 < length done → AtByte 47 rest) → 0 < length rest → BeginsWithNoStep rest → IsNoPathText text
IsNoPathText-from_step text rest done is h at some none p k e =
    let steps : steps_text (reverse p) ≡ steps_text done ++ rest = after_main _ _ (sym (frame_text-steps p) ∙ e ∙ is) in
    let more = steps_after done (reverse p) rest h (HasSteps-reverse p k) at steps in
    let all : HasSteps (done ++ more.0) = subst HasSteps more.1 (HasSteps-reverse p k) in
    by more.0 (behind done more.0 all) more.2
  where
    behind : (d q : Path) → HasSteps (d ++ q) → HasSteps q
    behind [] q h = h
    behind (s ∷ d) q h = behind d q h.1

    by : (q : Path) → HasSteps q → steps_text q ≡ rest → ⊥
    by [] l f = absurd (omega (arith, ap (length {A = ℕ}) f))
    by (s ∷ q) l f = none s (steps_text q) l.0 (AtByte-steps q) f

-- one more step read
pub read_more : (text rest more : List ℕ) (done : Path) (s : ℕ × ℕ) → text ≡ codes "main" ++ (steps_text done ++ rest) → step_text s ++ more ≡ rest →
    text ≡ codes "main" ++ (steps_text (done ++ s ∷ []) ++ more)
read_more text rest more done s is e =
    is ∙ ap (λ t. codes "main" ++ t) (ap (λ t. steps_text done ++ t) (sym e) ∙ sym (steps_text-push done s more))

pub HasSteps-push : (done : Path) (s : ℕ × ℕ) → HasSteps done → IsStep s → HasSteps (done ++ s ∷ [])
HasSteps-push done s h k = HasSteps-append done (s ∷ []) h (k, tt)

-- where all is read, the text is that path's
pub frame_text-read : (text rest : List ℕ) (done : Path) → text ≡ codes "main" ++ (steps_text done ++ rest) → length rest ≤ 0 →
    frame_text (reverse done) ≡ text
frame_text-read text [] done is e =
    frame_text-steps (reverse done)
    ∙ ap (λ q. codes "main" ++ steps_text q) (reverse-reverse done)
    ∙ ap (λ t. codes "main" ++ t) (sym (append-nil (steps_text done)))
    ∙ sym is
frame_text-read text (x ∷ rest) done is e = absurd (omega arith)

-- a text that is another path's, or a path's of too many steps, is no frame's
pub IsNoFrameText-from_path : (text : List ℕ) → IsNoPathText text → IsNoFrameText text
IsNoFrameText-from_path text none p h = none p h.steps

pub IsNoFrameText-from_long : (text : List ℕ) (done : Path) → frame_text (reverse done) ≡ text → HasSteps done → 2 ^ 31 ≤ length done → IsNoFrameText text
IsNoFrameText-from_long text done is h long p k e =
    let same : p ≡ reverse done = path_once p (reverse done) k.steps (HasSteps-reverse done h) (e ∙ sym is) in
    let count : length p ≡ length done = ap (length {A = ℕ × ℕ}) same ∙ length-reverse done in
    absurd (omega (arith, k.few))

pub frame_from : (text : List ℕ) (path done : Path) → path ≡ reverse done → frame_text (reverse done) ≡ text → HasSteps done → length done < 2 ^ 31 →
    (frame_text path ≡ text) × IsFrame path
frame_from text path done e is h few = (
  ap frame_text e ∙ is,
  record {
    few = omega (arith, ap (length {A = ℕ × ℕ}) e, length-reverse done);
    steps = subst HasSteps (sym e) (HasSteps-reverse done h);
  },
)

-- the text of a frame has no space
pub frame_lacks : (p : Path) → HasSteps p → Lacks 32 (frame_text p)
frame_lacks [] h = (apart 109 32 (omega arith), (apart 97 32 (omega arith), (apart 105 32 (omega arith), (apart 110 32 (omega arith), tt))))
frame_lacks (s ∷ p) h =
    Lacks-append 32 (frame_text p) (step_text s) (frame_lacks p h.1) (
      apart 47 32 (omega arith),
      Lacks-append 32 (decimal s.0) (58 ∷ decimal s.1) (decimal_lacks 32 s.0 space_out h.0.0)
          (apart 58 32 (omega arith), decimal_lacks 32 s.1 space_out (omega (arith, h.0.1))),
    )
