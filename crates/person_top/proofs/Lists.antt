-- Lists are fetched one after the other.
use Rattle.std.proofs.Common.{
  ◌≡◌,
  ◌∙◌,
  ℕ,
  ◌+◌,
  ◌<◌,
  ◌≤◌,
  List,
  [],
  ◌∷◌,
  ◌++◌,
  Option,
  length,
  get_or,
  map,
  drop,
  sym,
  ap,
  subst,
  inl,
  inr,
  arith,
  append_assoc,
  append-nil,
  add-one,
  drop-cons,
  drop_of_length-le,
}
use Rattle.ub_base.specs.Held.{Held}
use Rattle.audit_sources.specs.Fetching.{IsUnread, IsWhole, Misses, Stops}
use Rattle.audit_sources.specs.declared.fetch.FetchFault.{FetchFault}
use Rattle.audit_sources.specs.declared.fetch.FetchFault.TheVariants as Fault
use Rattle.audit_sources.specs.declared.role.Role.{Role}
use Rattle.person_top.specs.Batch.{AreLists, list_file}

-- the lists of these names are fetched but for those that are left
pub record Fetching (held : Option Held) (reads : ℕ) (names : List (List ℕ)) (now : ℕ) (texts left : List (List ℕ)) : Type 0 where
  pub later : reads ≤ now
  pub lists : (more : List (List ℕ)) → AreLists held left more → AreLists held names (texts ++ more)
  pub stops : (end : ℕ) (fault : FetchFault) → Stops held now end (map list_file left) fault → Stops held reads end (map list_file names) fault

unread_later : (held : Option Held) (name : List ℕ) (m n end : ℕ) → m ≤ n → IsUnread held name n end → IsUnread held name m end
unread_later held name m n end later (inl absent) = inl absent
unread_later held name m n end later (inr rose) = inr (omega (arith, later, rose))

misses_later : (held : Option Held) (file : Role × List ℕ) (m n end : ℕ) (fault : FetchFault) → m ≤ n → Misses held n end file fault
    → Misses held m end file fault
misses_later held file m n end Fault.ReadFault later misses = unread_later held file.1 m n end later misses
misses_later held file m n end (Fault.TooLong role) later misses = misses
misses_later held file m n end Fault.NoMemory later misses = tt

stops_later : (held : Option Held) (files : List (Role × List ℕ)) (m n end : ℕ) (fault : FetchFault) → m ≤ n → Stops held n end files fault
    → Stops held m end files fault
stops_later held [] m n end fault later stops = stops
stops_later held (file ∷ files) m n end fault later (inl misses) = inl (misses_later held file m n end fault later misses)
stops_later held (file ∷ files) m n end fault later (inr (bytes, whole, stops)) = inr (bytes, whole, stops_later held files m n end fault later stops)

-- a further list is fetched
pub fetching_next : (held : Option Held) (reads : ℕ) (names : List (List ℕ)) (now : ℕ) (texts : List (List ℕ)) (name : List ℕ) (left : List (List ℕ))
    (next : ℕ) (text : List ℕ) → now ≤ next → IsWhole held (list_file name) text → Fetching held reads names now texts (name ∷ left)
    → Fetching held reads names next (texts ++ text ∷ []) left
fetching_next held reads names now texts name left next text later whole so = record {
  later = omega (arith, later, so.later);
  lists = λ more h. subst (λ all. AreLists held names all) (sym (append_assoc texts (text ∷ []) more)) (so.lists (text ∷ more) (whole, h));
  stops = λ end fault h. so.stops end fault (inr (text, whole, stops_later held (map list_file left) now next end fault later h));
}

-- all are fetched
pub fetching_end : (held : Option Held) (reads : ℕ) (names : List (List ℕ)) (now : ℕ) (texts : List (List ℕ)) → Fetching held reads names now texts []
    → AreLists held names texts
fetching_end held reads names now texts so = subst (λ all. AreLists held names all) (append-nil texts) (so.lists [] tt)

-- what is made of a list from one place on is what is made of that element and of those behind it
pub left_from : {X Y : Type 0} (f : X → Y) (xs : List X) (at : ℕ) (none : X) → at < length xs
    → map f (drop at xs) ≡ f (get_or xs at none) ∷ map f (drop (at + 1) xs)
left_from f xs at none within = ap (map f) (drop-cons xs at none within) ∙ ap (λ n. f (get_or xs at none) ∷ map f (drop n xs)) (sym (add-one at))

-- the next of the lists is fetched
pub fetching_item : {X : Type 0} (f : X → List ℕ) (items : List X) (at : ℕ) (item : X) (name : List ℕ) (was held : Option Held) (reads now next : ℕ)
    (texts more : List (List ℕ)) → at < length items → item ≡ get_or items at item → name ≡ f item → was ≡ held → now ≤ next
    → ((text : List ℕ) × IsWhole was (list_file name) text × (more ≡ texts ++ text ∷ []))
    → Fetching held reads (map f items) now texts (map f (drop at items)) → Fetching held reads (map f items) next more (map f (drop (at + 1) items))
fetching_item f items at item name was held reads now next texts more within is named same later (text, whole, added) so =
    subst (λ all. Fetching held reads (map f items) next all (map f (drop (at + 1) items))) (sym added)
    (fetching_next held reads (map f items) now texts (f (get_or items at item)) (map f (drop (at + 1) items)) next text later
    (subst (λ h. IsWhole h (list_file (f (get_or items at item))) text) same (subst (λ n. IsWhole was (list_file n) text) (named ∙ ap f is) whole))
    (subst (λ left. Fetching held reads (map f items) now texts left) (left_from f items at item within) so))

-- all lists are fetched
pub fetched_all : {X : Type 0} (f : X → List ℕ) (items : List X) (at : ℕ) (held : Option Held) (reads now : ℕ) (texts : List (List ℕ)) → length items ≤ at
    → Fetching held reads (map f items) now texts (map f (drop at items)) → AreLists held (map f items) texts
fetched_all f items at held reads now texts past so =
    fetching_end held reads (map f items) now texts
    (subst (λ left. Fetching held reads (map f items) now texts left) (ap (map f) (drop_of_length-le items past)) so)
