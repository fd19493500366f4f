-- Texts that are no object's.
use Rattle.std.proofs.Common.{◌≡◌, ◌<◌, ◌^◌, ℕ, List, [], ◌∷◌, ◌++◌, refl, sym, ◌∙◌, subst, arith, decimal, codes, Contains}
use Rattle.c_names.specs.declared.read.Sort.TheVariants as sorts
use Rattle.c_names.specs.Names.{ObjectName, StaticName, LitName, ArgvName, ArgName, AutoName, HeapName, IsObject}
use Rattle.c_names.specs.Texts.{frame_text, numbers_text, object_name_text, IsNoObjectText}
use Rattle.c_names.specs.Parts.{Lacks, IsNoNumber, IsNoPlaceText}
use Rattle.c_names.specs.Words.{sort_text, IsNoSort}
use Rattle.c_names.proofs.Cuts.{Lacks-from, Contains-at, cut_once, apart}
use Rattle.c_names.proofs.Once.{differ}

-- without a space only `argv` is an object's
pub IsNoObjectText-from_cut : (text : List ℕ) → (codes "argv" ≡ text → ⊥) → (Contains text 32 → ⊥) → IsNoObjectText text
IsNoObjectText-from_cut text argv none (StaticName k) h e = none (subst (λ t. Contains t 32) e (Contains-at 32 (codes "static") (decimal k)))
IsNoObjectText-from_cut text argv none (LitName k) h e = none (subst (λ t. Contains t 32) e (Contains-at 32 (codes "lit") (decimal k)))
IsNoObjectText-from_cut text argv none ArgvName h e = argv e
IsNoObjectText-from_cut text argv none (ArgName k) h e = none (subst (λ t. Contains t 32) e (Contains-at 32 (codes "arg") (decimal k)))
IsNoObjectText-from_cut text argv none (AutoName f u k) h e =
    none (subst (λ t. Contains t 32) e (Contains-at 32 (codes "auto") ((frame_text f ++ numbers_text u k))))
IsNoObjectText-from_cut text argv none (HeapName f u k) h e =
    none (subst (λ t. Contains t 32) e (Contains-at 32 (codes "heap") ((frame_text f ++ numbers_text u k))))

-- and with one only where a word of objects stands before it
pub IsNoObjectText-from_word : (text word rest : List ℕ) → (codes "argv" ≡ text → ⊥) → text ≡ word ++ 32 ∷ rest → (Contains word 32 → ⊥) → IsNoSort word →
    IsNoObjectText text
IsNoObjectText-from_word text word rest argv is lacks none (StaticName k) h e =
    none sorts.Static (cut_once 32 (codes "static") word (decimal k) rest (
      apart 115 32 (omega arith),
      (
        apart 116 32 (omega arith),
        (apart 97 32 (omega arith), (apart 116 32 (omega arith), (apart 105 32 (omega arith), (apart 99 32 (omega arith), tt)))),
      ),
    ) (Lacks-from 32 word lacks)
    (e ∙ is)).0
IsNoObjectText-from_word text word rest argv is lacks none (LitName k) h e =
    none sorts.Lit (cut_once 32 (codes "lit") word (decimal k) rest (
      apart 108 32 (omega arith),
      (apart 105 32 (omega arith), (apart 116 32 (omega arith), tt)),
    ) (Lacks-from 32 word lacks) (e ∙ is)).0
IsNoObjectText-from_word text word rest argv is lacks none ArgvName h e = argv e
IsNoObjectText-from_word text word rest argv is lacks none (ArgName k) h e =
    none sorts.Arg (cut_once 32 (codes "arg") word (decimal k) rest (
      apart 97 32 (omega arith),
      (apart 114 32 (omega arith), (apart 103 32 (omega arith), tt)),
    ) (Lacks-from 32 word lacks) (e ∙ is)).0
IsNoObjectText-from_word text word rest argv is lacks none (AutoName f t k) h e =
    none sorts.Auto (cut_once 32 (codes "auto") word ((frame_text f ++ numbers_text t k)) rest
    (apart 97 32 (omega arith), (apart 117 32 (omega arith), (apart 116 32 (omega arith), (apart 111 32 (omega arith), tt)))) (Lacks-from 32 word lacks)
    (e ∙ is)).0
IsNoObjectText-from_word text word rest argv is lacks none (HeapName f t k) h e =
    none sorts.Heap (cut_once 32 (codes "heap") word ((frame_text f ++ numbers_text t k)) rest
    (apart 104 32 (omega arith), (apart 101 32 (omega arith), (apart 97 32 (omega arith), (apart 112 32 (omega arith), tt)))) (Lacks-from 32 word lacks)
    (e ∙ is)).0

after_static : (a b : List ℕ) → codes "static " ++ a ≡ codes "static " ++ b → a ≡ b
after_static a b e = cc

pub IsNoObjectText-from_static : (text : List ℕ) → IsNoNumber (2 ^ 32) text → IsNoObjectText (codes "static " ++ text)
IsNoObjectText-from_static text none (StaticName k) h e = none k h (after_static (decimal k) text e)
IsNoObjectText-from_static text none _ h e = differ _ _ refl e

after_lit : (a b : List ℕ) → codes "lit " ++ a ≡ codes "lit " ++ b → a ≡ b
after_lit a b e = cc

pub IsNoObjectText-from_lit : (text : List ℕ) → IsNoNumber (2 ^ 32) text → IsNoObjectText (codes "lit " ++ text)
IsNoObjectText-from_lit text none (LitName k) h e = none k h (after_lit (decimal k) text e)
IsNoObjectText-from_lit text none _ h e = differ _ _ refl e

after_arg : (a b : List ℕ) → codes "arg " ++ a ≡ codes "arg " ++ b → a ≡ b
after_arg a b e = cc

pub IsNoObjectText-from_arg : (text : List ℕ) → IsNoNumber (2 ^ 32) text → IsNoObjectText (codes "arg " ++ text)
IsNoObjectText-from_arg text none (ArgName k) h e = none k h (after_arg (decimal k) text e)
IsNoObjectText-from_arg text none _ h e = differ _ _ refl e

after_auto : (a b : List ℕ) → codes "auto " ++ a ≡ codes "auto " ++ b → a ≡ b
after_auto a b e = cc

pub IsNoObjectText-from_auto : (text : List ℕ) → IsNoPlaceText text → IsNoObjectText (codes "auto " ++ text)
IsNoObjectText-from_auto text none (AutoName f t k) h e = none f t k h (after_auto (frame_text f ++ numbers_text t k) text e)
IsNoObjectText-from_auto text none _ h e = differ _ _ refl e

after_heap : (a b : List ℕ) → codes "heap " ++ a ≡ codes "heap " ++ b → a ≡ b
after_heap a b e = cc

pub IsNoObjectText-from_heap : (text : List ℕ) → IsNoPlaceText text → IsNoObjectText (codes "heap " ++ text)
IsNoObjectText-from_heap text none (HeapName f t k) h e = none f t k h (after_heap (frame_text f ++ numbers_text t k) text e)
IsNoObjectText-from_heap text none _ h e = differ _ _ refl e
