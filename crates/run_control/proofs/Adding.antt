-- Targets that are added, one statement after another.
use Rattle.std.proofs.Common.{◌≡◌, ℕ, suc, ◌+◌, ◌≤◌, Bool, true, false, List, [], ◌∷◌, ◌++◌, length, reverse, map, refl, sym, ◌∙◌, ap, subst, arith}
use Rattle.std.proofs.lemmas.List.{reverse-append, append_assoc, length-append, length-reverse, append-nil, map-append}
use Rattle.c_model.specs.Control as todo
use Rattle.c_model.specs.Control.{Todo}
use Rattle.run_control.specs.declared.links.Link.{Link}
use Rattle.run_control.specs.declared.targets.Found.{Found}
use Rattle.run_control.specs.View.{Meaning, todo_of, work_of, stmt_of}
use Rattle.run_control.specs.Links.{path}
use Rattle.run_control.specs.Targets.{Targets, and_all, target_of, seen, added, if_in, InRange, Bodies, AllEqual, Adds}
use Rattle.run_control.proofs.Paths.{path_older, first}

pub and_all_append : (ts us : Targets) (rest : Todo) → and_all (ts ++ us) rest ≡ and_all ts rest ++ and_all us rest
and_all_append [] us rest = refl
and_all_append (t ∷ ts) us rest = ap (λ xs. (t.0, t.1 ++ rest) ∷ xs) (and_all_append ts us rest)

pub and_all_twice : (ts : Targets) (a b : Todo) → and_all (and_all ts a) b ≡ and_all ts (a ++ b)
and_all_twice [] a b = refl
and_all_twice (t ∷ ts) a b =
    ap (λ w. (t.0, w) ∷ and_all (and_all ts a) b) (append_assoc t.1 a b) ∙ ap (λ xs. (t.0, t.1 ++ (a ++ b)) ∷ xs) (and_all_twice ts a b)

pub equal_append : (ps qs : Bodies) → AllEqual (ps ++ qs) → AllEqual ps × AllEqual qs
equal_append [] qs h = (tt, h)
equal_append (p ∷ ps) qs h = let r = equal_append ps qs h.1 in ((h.0, r.0), r.1)

pub in_range_more : (n k : ℕ) (fs : List Found) → n ≤ k → InRange n fs → InRange k fs
in_range_more n k [] h r = tt
in_range_more n k (f ∷ fs) h r = (omega (arith, h, r.0), in_range_more n k fs h r.1)

pub in_range_one : (n : ℕ) (fs : List Found) (f : Found) → InRange n fs → f.place.round ≤ n → InRange n (fs ++ f ∷ [])
in_range_one n [] f r h = (h, tt)
in_range_one n (g ∷ gs) f r h = (r.0, in_range_one n gs f r.1 h)

abbrev pub Older : List Link → List Link → Type 0
Older links links' = (n : ℕ) → n ≤ length links → path (reverse links') n ≡ path (reverse links) n

pub seen_older : (m : Meaning) (links links' : List Link) (fs : List Found) → Older links links' → InRange (length links) fs
    → map (seen m links') fs ≡ map (seen m links) fs
seen_older m links links' [] o r = refl
seen_older m links links' (f ∷ fs) o r =
    ap (λ ws. (target_of f.target, todo.To_do (stmt_of m f.place.statement.now) ∷ todo_of m ws) ∷ map (seen m links') fs) (o f.place.round r.0)
    ∙ ap (λ xs. seen m links f ∷ xs) (seen_older m links links' fs o r.1)

pub adds_nothing : (links : List Link) (found : List Found) (round : ℕ) → Adds links found links found round (λ m. []) (λ m. [])
adds_nothing links found round = record {
  longer = omega arith;
  older = λ n h. refl;
  in_range = λ h r. r;
  adds = λ m e h r. sym (append-nil _);
}

pub adds_two : (l0 l1 l2 : List Link) (f0 f1 f2 : List Found) (round : ℕ) (ts us : Meaning → Targets) (ps qs : Meaning → Bodies)
    → Adds l0 f0 l1 f1 round ts ps → Adds l1 f1 l2 f2 round us qs → Adds l0 f0 l2 f2 round (λ m. ts m ++ us m) (λ m. ps m ++ qs m)
adds_two l0 l1 l2 f0 f1 f2 round ts us ps qs a b =
    let longer : length l0 ≤ length l1 = a.longer in
    let more : length l1 ≤ length l2 = b.longer in
    record {
      longer = omega (arith, longer, more);
      older = λ n h. b.older n (omega (arith, h, longer)) ∙ a.older n h;
      in_range = λ h r. b.in_range (omega (arith, h, longer)) (a.in_range h r);
      adds = λ m e h r.
          let both = equal_append (ps m) (qs m) e in
          let base : Todo = todo_of m (path (reverse l0) round) in
          b.adds m both.1 (omega (arith, h, longer)) (a.in_range h r)
          ∙ (ap (λ ws. map (seen m l1) f1 ++ and_all (us m) (todo_of m ws)) (a.older round h)
          ∙ (ap (λ xs. xs ++ and_all (us m) base) (a.adds m both.0 h r)
          ∙ (append_assoc (map (seen m l0) f0) (and_all (ts m) base) (and_all (us m) base)
          ∙ ap (λ xs. map (seen m l0) f0 ++ xs) (sym (and_all_append (ts m) (us m) base)))));
    }

-- one more link, round what is added
pub newest : (links : List Link) (l : Link) → reverse (links ++ l ∷ []) ≡ l ∷ reverse links
newest links l = reverse-append links (l ∷ [])

pub linked_older : (links : List Link) (l : Link) → Older links (links ++ l ∷ [])
linked_older links l n h =
    let len : length (reverse links) ≡ length links = length-reverse links in
    ap (λ ls. path ls n) (newest links l) ∙ path_older (l ∷ []) (reverse links) n (omega (arith, len, h))

pub linked_at : (links : List Link) (l : Link) (n : ℕ) → n ≡ length (links ++ l ∷ []) → path (reverse (links ++ l ∷ [])) n
    ≡ l.work ∷ path (reverse links) l.outer
linked_at links l n e =
    let len : length (links ++ l ∷ []) ≡ length links + 1 = length-append links (l ∷ []) in
    let is : n ≡ suc (length links) = e ∙ (len ∙ omega arith) in
    ap (path (reverse (links ++ l ∷ []))) is ∙ (ap (λ ls. path ls (suc (length links))) (newest links l)
    ∙ first l (reverse links) (length links) (length-reverse links))

linked : (l0 l2 : List Link) (f0 f2 : List Found) (l : Link) (n : ℕ) (ts : Meaning → Targets) (ps : Meaning → Bodies)
    → n ≡ length (l0 ++ l ∷ []) → Adds (l0 ++ l ∷ []) f0 l2 f2 n ts ps → Adds l0 f0 l2 f2 l.outer (λ m. and_all (ts m) (work_of m l.work ∷ [])) ps
linked l0 l2 f0 f2 l n ts ps e a =
    let len : length (l0 ++ l ∷ []) ≡ length l0 + 1 = length-append l0 (l ∷ []) in
    let more : length (l0 ++ l ∷ []) ≤ length l2 = a.longer in
    record {
      longer = omega (arith, len, more);
      older = λ k h. a.older k (omega (arith, len, h)) ∙ linked_older l0 l k h;
      in_range = λ h r. a.in_range (omega (arith, e)) (in_range_more _ _ f0 (omega (arith, len)) r);
      adds = λ m q h r.
          a.adds m q (omega (arith, e)) (in_range_more _ _ f0 (omega (arith, len)) r)
          ∙ (ap (λ xs. xs ++ and_all (ts m) (todo_of m (path (reverse (l0 ++ l ∷ [])) n))) (seen_older m l0 (l0 ++ l ∷ []) f0 (linked_older l0 l) r)
          ∙ ap (λ xs. map (seen m l0) f0 ++ xs)
          (ap (λ ws. and_all (ts m) (todo_of m ws)) (linked_at l0 l n e) ∙ sym (and_all_twice (ts m) (work_of m l.work ∷ []) (todo_of m (path
          (reverse l0) l.outer)))));
    }

pub adds_linked : (l0 l1 l2 : List Link) (f0 f2 : List Found) (l : Link) (n : ℕ) (ts : Meaning → Targets) (ps : Meaning → Bodies)
    → l1 ≡ l0 ++ l ∷ [] → n ≡ length l1 → Adds l1 f0 l2 f2 n ts ps → Adds l0 f0 l2 f2 l.outer (λ m. and_all (ts m) (work_of m l.work ∷ [])) ps
adds_linked l0 l1 l2 f0 f2 l n ts ps is e a =
    let P : List Link → Type 0 = λ ls. Adds ls f0 l2 f2 n ts ps in
    linked l0 l2 f0 f2 l n ts ps (e ∙ ap length is) (subst P is a)

labelled : (l0 l2 : List Link) (f0 f2 : List Found) (f : Found) (ts : Meaning → Targets) (ps : Meaning → Bodies)
    → Adds l0 (f0 ++ f ∷ []) l2 f2 f.place.round ts ps
    → Adds l0 f0 l2 f2 f.place.round (λ m. (target_of f.target, todo.To_do (stmt_of m f.place.statement.now) ∷ []) ∷ ts m) ps
labelled l0 l2 f0 f2 f ts ps a = record {
  longer = a.longer;
  older = a.older;
  in_range = λ h r. a.in_range h (in_range_one _ f0 f r h);
  adds = λ m q h r.
      a.adds m q h (in_range_one _ f0 f r h)
      ∙ (ap (λ xs. xs ++ and_all (ts m) (todo_of m (path (reverse l0) f.place.round))) (map-append (seen m l0) f0 (f ∷ []))
      ∙ append_assoc (map (seen m l0) f0) (seen m l0 f ∷ []) (and_all (ts m) (todo_of m (path (reverse l0) f.place.round))));
}

by_want : (wanted : Bool) (l0 l2 : List Link) (f0 f2 : List Found) (f : Found) (ts : Meaning → Targets) (ps : Meaning → Bodies)
    → Adds l0 (added wanted f0 f) l2 f2 f.place.round ts ps → Adds l0 f0 l2 f2 f.place.round (λ m. if_in wanted (target_of f.target) (stmt_of m
    f.place.statement.now) (ts m)) ps
by_want true l0 l2 f0 f2 f ts ps a = labelled l0 l2 f0 f2 f ts ps a
by_want false l0 l2 f0 f2 f ts ps a = a

pub adds_labelled : (wanted : Bool) (l0 l2 : List Link) (f0 f1 f2 : List Found) (f : Found) (ts : Meaning → Targets) (ps : Meaning → Bodies)
    → f1 ≡ added wanted f0 f → Adds l0 f1 l2 f2 f.place.round ts ps → Adds l0 f0 l2 f2 f.place.round (λ m. if_in wanted (target_of f.target) (stmt_of
    m f.place.statement.now) (ts m)) ps
adds_labelled wanted l0 l2 f0 f1 f2 f ts ps is a =
    let P : List Found → Type 0 = λ fs. Adds l0 fs l2 f2 f.place.round ts ps in by_want wanted l0 l2 f0 f2 f ts ps (subst P is a)

-- the same targets by another name, where these bodies are what they stand for
pub adds_as : (l0 l2 : List Link) (f0 f2 : List Found) (round : ℕ) (ts us : Meaning → Targets) (ps qs : Meaning → Bodies)
    → ((m : Meaning) → AllEqual (qs m) → (ts m ≡ us m) × AllEqual (ps m)) → Adds l0 f0 l2 f2 round ts ps → Adds l0 f0 l2 f2 round us qs
adds_as l0 l2 f0 f2 round ts us ps qs same a = record {
  longer = a.longer;
  older = a.older;
  in_range = a.in_range;
  adds = λ m q h r. a.adds m (same m q).1 h r ∙ ap (λ xs. map (seen m l0) f0 ++ and_all xs (todo_of m (path (reverse l0) round))) (same m q).0;
}

pub adds_same : (l0 l2 : List Link) (f0 f2 : List Found) (round : ℕ) (ts us : Meaning → Targets) (ps qs : Meaning → Bodies)
    → ((m : Meaning) → ts m ≡ us m) → ((m : Meaning) → qs m ≡ ps m) → Adds l0 f0 l2 f2 round ts ps → Adds l0 f0 l2 f2 round us qs
adds_same l0 l2 f0 f2 round ts us ps qs e p a = adds_as l0 l2 f0 f2 round ts us ps qs (λ m q. (e m, subst AllEqual (p m) q)) a
