-- What is known of names, as declarations come and go.
use Rattle.std.proofs.Common.{◌≡◌, ℕ, ◌<◌, ◌≤◌, Bool, false, List, [], ◌∷◌, ◌++◌, length, take, get_or, refl, sym, ◌∙◌, ap, arith, inl, inr}
use Rattle.std.specs.Prelude.{◌==◌, if◌then◌else◌, nat_lt}
use Rattle.std.proofs.Math.ListN.{set}
use Rattle.std.proofs.Math.Seq.{get_or-append_seam, take-append_seam}
use Rattle.std.proofs.lemmas.Bool.{cond_both, cond-true, cond-false, lt-ltb, eqb-true, eqb-false, ne_eqb, cases_lt}
use Rattle.std.proofs.lemmas.List.{get_or_append_left, get_or-set_same, get_or-set_other, length-set, length_push, take-append-le}
use Rattle.parse_cursor.specs.Declarations.{InScope, AreKnown, newest, is_typedef_in}
use Rattle.parse_cursor.specs.declared.scope.Named.{Named}

pub newest_push : (name : ℕ) (found : Bool) (xs : List Named) (x : Named)
    → newest name found (xs ++ x ∷ []) ≡ (if x.name == name then x.declared.typedef else newest name found xs)
unfolding newest
newest_push name found [] x = refl
newest_push name found (y ∷ ys) x = newest_push name (if y.name == name then y.declared.typedef else found) ys x

pub is_typedef_at : (d : InScope) (name : ℕ) → name < d.count → is_typedef_in d name ≡ newest name false d.names
is_typedef_at d name h = cond-true (nat_lt name d.count) (newest name false d.names) false (lt-ltb name d.count h)

pub none_known : (ts : List Bool) → ((k : ℕ) → get_or ts k false ≡ false) → AreKnown ts []
unfolding newest
none_known ts all = record { now = λ name h. all name; before = λ k x h. absurd (omega (arith, h)) }

-- a table that says this of one name, and else what the other table says
abbrev Differs : List Bool → List Bool → ℕ → Bool → Type 0
Differs ts us at v = (name : ℕ) → name < length us → get_or us name false ≡ (if at == name then v else get_or ts name false)

set_differs : (ts : List Bool) (at : ℕ) (v : Bool) → at < length ts → Differs ts (set ts at v) at v
set_differs ts at v h name below =
    cond_both (at == name) v (get_or ts name false) (λ w. get_or (set ts at v) name false ≡ w)
    (λ e. let same : name ≡ at = sym (eqb-true at name e) in rw same (get_or-set_same ts at v false h))
    (λ e. get_or-set_other ts at name v false (λ p. eqb-false at name e (sym p)))

same_differs : (ts : List Bool) (at : ℕ) (v : Bool) → length ts ≤ at → Differs ts ts at v
same_differs ts at v h name below = sym (cond-false (at == name) v (get_or ts name false) (ne_eqb at name (λ p. omega (arith, p, h, below))))

known_more : (ts us : List Bool) (names : List Named) (x : Named) → AreKnown ts names → length us ≡ length ts
    → Differs ts us x.name x.declared.typedef
    → x.hidden ≡ is_typedef_in (record { count = length ts; names = names }) x.name
    → AreKnown us (names ++ x ∷ [])
known_more ts us names x known same each hides = record {
  now = λ name h.
      let there : name < length ts = omega arith in
      each name h ∙ ap (λ b. if x.name == name then x.declared.typedef else b) (known.now name there) ∙ sym (newest_push name false names x);
  before = λ k d h. elim (cases_lt k (length names)) as
      (λ _. (get_or (names ++ x ∷ []) k d).hidden ≡ is_typedef_in (record { count = length us; names = take k (names ++ x ∷ []) })
      (get_or (names ++ x ∷ []) k d).name) [
        | inl lt ↦
            let here = get_or_append_left names (x ∷ []) d k lt in
            let front : take k (names ++ x ∷ []) ≡ take k names = take-append-le k names (x ∷ []) (omega arith) in
            rw (here, front, same) (known.before k d lt)
        | inr ge ↦
            let last : k ≡ length names = omega (arith, length_push names x) in
            rw (last, get_or-append_seam names x [] d, take-append_seam names (x ∷ []), same) hides
      ];
}

pub set_more : (ts : List Bool) (names : List Named) (x : Named) → AreKnown ts names → x.name < length ts
    → x.hidden ≡ is_typedef_in (record { count = length ts; names = names }) x.name
    → AreKnown (set ts x.name x.declared.typedef) (names ++ x ∷ [])
set_more ts names x known h hides =
    known_more ts (set ts x.name x.declared.typedef) names x known (length-set ts x.name x.declared.typedef) (set_differs ts x.name x.declared.typedef h) hides

pub same_more : (ts : List Bool) (names : List Named) (x : Named) → AreKnown ts names → length ts ≤ x.name
    → x.hidden ≡ is_typedef_in (record { count = length ts; names = names }) x.name
    → AreKnown ts (names ++ x ∷ [])
same_more ts names x known h hides = known_more ts ts names x known refl (same_differs ts x.name x.declared.typedef h) hides

back : (ts : List Bool) (names : List Named) (x : Named) (name : ℕ) → name < length ts
    → x.hidden ≡ is_typedef_in (record { count = length ts; names = names }) x.name
    → get_or ts name false ≡ newest name false (names ++ x ∷ [])
    → (if x.name == name then x.hidden else get_or ts name false) ≡ newest name false names
back ts names x name h hides now =
    cond_both (x.name == name) x.hidden (get_or ts name false) (λ v. v ≡ newest name false names)
    (λ e.
    let same : x.name ≡ name = eqb-true x.name name e in
    let within : x.name < length ts = omega arith in
    hides ∙ is_typedef_at (record { count = length ts; names = names }) x.name within ∙ ap (λ n. newest n false names) same)
    (λ e. now ∙ newest_push name false names x ∙ cond-false (x.name == name) x.declared.typedef (newest name false names) e)

known_less : (ts us : List Bool) (names : List Named) (x : Named) → AreKnown ts (names ++ x ∷ []) → length us ≡ length ts
    → Differs ts us x.name x.hidden
    → AreKnown us names
known_less ts us names x known same each =
    let at : length names < length (names ++ x ∷ []) = omega (arith, length_push names x) in
    let hides : x.hidden ≡ is_typedef_in (record { count = length ts; names = names }) x.name =
    rw (get_or-append_seam names x [] x, take-append_seam names (x ∷ [])) at (known.before (length names) x at) in
    record {
      now = λ name h.
          let there : name < length ts = omega arith in
          each name h ∙ back ts names x name there hides (known.now name there);
      before = λ k d h.
          let wide : k < length (names ++ x ∷ []) = omega (arith, length_push names x) in
          let here = get_or_append_left names (x ∷ []) d k h in
          let front : take k (names ++ x ∷ []) ≡ take k names = take-append-le k names (x ∷ []) (omega arith) in
          rw (same, ← here, ← front) (known.before k d wide);
    }

pub set_less : (ts : List Bool) (names : List Named) (x : Named) → AreKnown ts (names ++ x ∷ []) → x.name < length ts → AreKnown (set ts x.name x.hidden) names
set_less ts names x known h =
    known_less ts (set ts x.name x.hidden) names x known (length-set ts x.name x.hidden) (set_differs ts x.name x.hidden h)

pub same_less : (ts : List Bool) (names : List Named) (x : Named) → AreKnown ts (names ++ x ∷ []) → length ts ≤ x.name → AreKnown ts names
same_less ts names x known h = known_less ts ts names x known refl (same_differs ts x.name x.hidden h)
