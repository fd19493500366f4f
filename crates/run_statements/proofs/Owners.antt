-- The function in whose body a `switch` stands.
use Rattle.std.proofs.Common.{◌≡◌, ◌⊎◌, inl, inr, ℕ, zero, suc, ◌+◌, ◌≤◌, List, [], ◌∷◌, ◌++◌, length, map, Option, Some, None, slice_get}
use Rattle.std.proofs.Common.{append_assoc, refl, sym, ap, ◌∙◌, subst, arith}
use Rattle.std.specs.Borrow.{Bor}
use Rattle.run_control.specs.declared.statement.Statement.{Statement}
use Rattle.run_control.specs.declared.statement.Switch.{Switch}
use Rattle.run_statements.specs.Jumping.{owners_from}
use Rattle.run_statements.specs.Switches.{StandsIn, switches_in, switches_of_all}
use Rattle.run_statements.proofs.Gathering.{append_nothing}
use Rattle.run_statements.proofs.Jumping.{map_next, some_same}

-- ---- one more function
owners_later : (n : ℕ) (bs : List (Option (Bor Statement))) (b : Option (Bor Statement))
    → owners_from n (bs ++ b ∷ []) ≡ owners_from n bs ++ owners_from (n + length bs) (b ∷ [])
owners_later n [] b = ap (λ (k : ℕ). owners_from k (b ∷ [])) (let e : n ≡ n + 0 = omega arith in e)
owners_later n (None ∷ bs) b =
    owners_later (suc n) bs b
    ∙ ap (λ (k : ℕ). owners_from (suc n) bs ++ owners_from k (b ∷ [])) (let e : suc n + length bs ≡ n + suc (length bs) = omega arith in e)
owners_later n (Some d ∷ bs) b =
    ap (λ (ks : List ℕ). map (λ s. n) (switches_in d.now) ++ ks)
    (owners_later (suc n) bs b
    ∙ ap (λ (k : ℕ). owners_from (suc n) bs ++ owners_from k (b ∷ [])) (let e : suc n + length bs ≡ n + suc (length bs) = omega arith in e))
    ∙ (let along : map (λ s. n) (switches_in d.now) ++ (owners_from (suc n) bs ++ owners_from (n + suc (length bs)) (b ∷ []))
    ≡ (map (λ s. n) (switches_in d.now) ++ owners_from (suc n) bs) ++ owners_from (n + suc (length bs)) (b ∷ []) = simp append_assoc in along)

pub owners_none : (bs : List (Option (Bor Statement))) (b : Option (Bor Statement)) → b ≡ None → owners_from 0 (bs ++ b ∷ []) ≡ owners_from 0 bs
owners_none bs b none =
    owners_later 0 bs b ∙ ap (λ (o : Option (Bor Statement)). owners_from 0 bs ++ owners_from (0 + length bs) (o ∷ [])) none
    ∙ append_nothing (owners_from 0 bs)

pub owners_body : (bs : List (Option (Bor Statement))) (b : Option (Bor Statement)) (d : Bor Statement) → b ≡ Some d
    → owners_from 0 (bs ++ b ∷ []) ≡ owners_from 0 bs ++ map (λ s. length bs) (switches_in d.now)
owners_body bs b d is =
    owners_later 0 bs b ∙ ap (λ (o : Option (Bor Statement)). owners_from 0 bs ++ owners_from (0 + length bs) (o ∷ [])) is
    ∙ ap (λ (ks : List ℕ). owners_from 0 bs ++ ks) (append_nothing (map (λ s. 0 + length bs) (switches_in d.now)))
    ∙ ap (λ (n : ℕ). owners_from 0 bs ++ map (λ s. n) (switches_in d.now)) (let e : 0 + length bs ≡ length bs = omega arith in e)

abbrev tail_of : {A : Type 0} → List A → List A
tail_of [] = []
tail_of (x ∷ xs) = xs

-- a list of one number is as long as the list by which it was made
pub same_each : {A B C : Type 0} (f : A → C) (g : B → C) (n : ℕ) (xs : List A) (ys : List B) → map f xs ≡ map g ys → map (λ x. n) xs ≡ map (λ y. n) ys
same_each f g n [] [] is = refl
same_each f g n [] (y ∷ ys) is = absurd (cc)
same_each f g n (x ∷ xs) [] is = absurd (cc)
same_each f g n (x ∷ xs) (y ∷ ys) is = ap (λ ks. n ∷ ks) (same_each f g n xs ys (ap tail_of is))

-- ---- it stands there
pub first_at : {A : Type 0} (xs ys : List A) (k : ℕ) (s : A) → slice_get xs k ≡ Some s → slice_get (xs ++ ys) k ≡ Some s
first_at [] ys k s at = absurd (cc)
first_at (x ∷ xs) ys zero s at = at
first_at (x ∷ xs) ys (suc k) s at = first_at xs ys k s at

-- the owner at this place is that of one of the first switches, or one of the later ones
abbrev IsLater : List ℕ → (xs zs : List Switch) → (k m : ℕ) → Type 0
IsLater ys xs zs k m = (j : ℕ) × (slice_get ys j ≡ Some m) × ((s : Switch) → slice_get zs j ≡ Some s → slice_get (xs ++ zs) k ≡ Some s)

abbrev IsFirst : ℕ → List Switch → (k m : ℕ) → Type 0
IsFirst n xs k m = (m ≡ n) × (s : Switch) × (slice_get xs k ≡ Some s)

one_of : (n : ℕ) (xs zs : List Switch) (ys : List ℕ) (k m : ℕ) → slice_get (map (λ s. n) xs ++ ys) k ≡ Some m → IsFirst n xs k m ⊎ IsLater ys xs zs k m
one_of n [] zs ys k m at = inr (k, at, λ s is. is)
one_of n (x ∷ xs) zs ys zero m at = inl (sym (some_same n m at), x, refl)
one_of n (x ∷ xs) zs ys (suc k) m at = one_of n xs zs ys k m at

least_by : (n : ℕ) (d : Bor Statement) (bs : List (Option (Bor Statement))) (k m : ℕ)
    → ((j : ℕ) → slice_get (owners_from (suc n) bs) j ≡ Some m → suc n ≤ m)
    → IsFirst n (switches_in d.now) k m ⊎ IsLater (owners_from (suc n) bs) (switches_in d.now) [] k m → n ≤ m
least_by n d bs k m rest (inl h) = let is = h.0 in omega (arith, is)
least_by n d bs k m rest (inr h) = let le = rest h.0 h.1 in omega (arith, le)

least : (n : ℕ) (bs : List (Option (Bor Statement))) (k m : ℕ) → slice_get (owners_from n bs) k ≡ Some m → n ≤ m
least n [] k m at = absurd (cc)
least n (None ∷ bs) k m at = let le = least (suc n) bs k m at in omega (arith, le)
least n (Some d ∷ bs) k m at =
    least_by n d bs k m (λ j is. least (suc n) bs j m is) (one_of n (switches_in d.now) [] (owners_from (suc n) bs) k m at)

-- a `switch` of the body of this function, which is the one of this place among all
abbrev pub StandsAt : List (Option (Bor Statement)) → ℕ → Statement → Type 0
StandsAt bs k body = (s : Switch) × (slice_get (switches_of_all bs) k ≡ Some s) × StandsIn body s

owned_first : (n : ℕ) (d : Bor Statement) (bs : List (Option (Bor Statement))) (k i m : ℕ) (b : Bor Statement) → m ≡ n + i
    → slice_get (Some d ∷ bs) i ≡ Some (Some b) → IsFirst n (switches_in d.now) k m → StandsAt (Some d ∷ bs) k b.now
owned_first n d bs k zero m b is there h =
    let same : d ≡ b = cc in (
      h.1,
      first_at (switches_in d.now) (switches_of_all bs) k h.1 h.2,
      (k, subst (λ (c : Bor Statement). slice_get (switches_in c.now) k ≡ Some h.1) same h.2),
    )
owned_first n d bs k (suc i) m b is there h = let first = h.0 in absurd (omega (arith, is, first))

owned_later : (n : ℕ) (d : Bor Statement) (bs : List (Option (Bor Statement))) (k i m : ℕ) (b : Bor Statement) → m ≡ n + i
    → slice_get (Some d ∷ bs) i ≡ Some (Some b)
    → ((j h : ℕ) → m ≡ suc n + h → slice_get (owners_from (suc n) bs) j ≡ Some m → slice_get bs h ≡ Some (Some b) → StandsAt bs j b.now)
    → IsLater (owners_from (suc n) bs) (switches_in d.now) (switches_of_all bs) k m → StandsAt (Some d ∷ bs) k b.now
owned_later n d bs k zero m b is there rest h = let le = least (suc n) bs h.0 m h.1 in absurd (omega (arith, is, le))
owned_later n d bs k (suc i) m b is there rest h = let r = rest h.0 i (omega (arith, is)) h.1 there in (r.0, h.2 r.0 r.1, r.2)

owned_by : (n : ℕ) (d : Bor Statement) (bs : List (Option (Bor Statement))) (k i m : ℕ) (b : Bor Statement) → m ≡ n + i
    → slice_get (Some d ∷ bs) i ≡ Some (Some b)
    → ((j h : ℕ) → m ≡ suc n + h → slice_get (owners_from (suc n) bs) j ≡ Some m → slice_get bs h ≡ Some (Some b) → StandsAt bs j b.now)
    → IsFirst n (switches_in d.now) k m ⊎ IsLater (owners_from (suc n) bs) (switches_in d.now) (switches_of_all bs) k m → StandsAt (Some d ∷ bs) k b.now
owned_by n d bs k i m b is there rest (inl h) = owned_first n d bs k i m b is there h
owned_by n d bs k i m b is there rest (inr h) = owned_later n d bs k i m b is there rest h

pub owned : (n : ℕ) (bs : List (Option (Bor Statement))) (k i m : ℕ) (b : Bor Statement) → m ≡ n + i → slice_get (owners_from n bs) k ≡ Some m
    → slice_get bs i ≡ Some (Some b) → StandsAt bs k b.now
owned n [] k i m b is at there = absurd (cc)
owned n (None ∷ bs) k zero m b is at there = absurd (cc)
owned n (None ∷ bs) k (suc i) m b is at there = owned (suc n) bs k i m b (omega (arith, is)) at there
owned n (Some d ∷ bs) k i m b is at there =
    owned_by n d bs k i m b is there (λ j h same own below. owned (suc n) bs j h m b same own below)
    (one_of n (switches_in d.now) (switches_of_all bs) (owners_from (suc n) bs) k m at)
