-- Markers, from their number on.
use Rattle.std.proofs.Common.{◌≡◌, ℕ, ◌+◌, ◌*◌, ◌-◌, ◌<◌, ◌≤◌, Bool, true, false, ◌&&◌, ◌==◌, List, [], ◌∷◌, ◌++◌, length, take, drop, Option, Some, None}
use Rattle.std.proofs.Common.{refl, ap, sym, subst, ◌∙◌, inl, inr, if◌then◌else◌, append_assoc, length-append, arith}
use Rattle.std.specs.Prelude.{nat_lt, nat_le}
use Rattle.std.specs.Char.{is_ascii_digit}
use Rattle.std.specs.List.{list_all, prefix_len}
use Rattle.std.proofs.lemmas.Bool.Decides.{nat_tests}
use Rattle.c_lex.specs.Bytes.{is_blank}
use Rattle.c_lex.specs.Pieces.{is_behind_line, is_behind_string, is_further, marker_number, skip_blank}
use Rattle.c_lex.specs.Runs.{literal_end, line_number}
use Rattle.c_lex.proofs.Literals.{closed_where_some, some_where_body}
use Rattle.lex_laws.specs.Fronts.{Each, IsMarkerString, IsMarkerTail, IsRun, decimal_from}
use Rattle.lex_laws.proofs.Parts.{Run, behind_of, front_of, len_is, run_of}

-- ---- what stands behind the number

all_is : (p : ℕ → Bool) (xs : List ℕ) → list_all p xs ≡ true → Each p xs
all_is p [] e = tt
all_is p (x ∷ xs) e = by (p x) refl e (all_is p xs)
  where
    by : (b : Bool) → p x ≡ b → (b && list_all p xs) ≡ true → (list_all p xs ≡ true → Each p xs) → (p x ≡ true) × Each p xs
    by true is e more = (is, more e)
    by false is e more = absurd (cc)

all_back : (p : ℕ → Bool) (xs : List ℕ) → Each p xs → list_all p xs ≡ true
all_back p [] each = refl
all_back p (x ∷ xs) each = rw each.0 (all_back p xs each.1)

behind_string : (body after : List ℕ) (n : ℕ) → n ≡ length body + 1 → drop n (body ++ 34 ∷ after) ≡ after
behind_string body after n len =
    ap (λ k. drop k (body ++ 34 ∷ after)) (len ∙ sym (length-append body (34 ∷ [])))
    ∙ behind_of (body ++ 34 ∷ []) after (body ++ 34 ∷ after) (sym (append_assoc body (34 ∷ []) after))

string_is : (text : List ℕ) → is_behind_string text (literal_end 34 0 false text) ≡ true → IsMarkerString (34 ∷ text)
string_is text e = by (literal_end 34 0 false text) refl e
  where
    by : (o : Option ℕ) → literal_end 34 0 false text ≡ o → is_behind_string text o ≡ true → IsMarkerString (34 ∷ text)
    by None is e = absurd (cc)
    by (Some n) is e =
        let c = closed_where_some 34 0 false text n is in
        record {
          body = c.body;
          behind = c.after;
          spelled = ap (λ xs. 34 ∷ xs) c.text_is;
          is_body = c.is_body;
          each = all_is is_further c.after
              (ap (list_all is_further) (sym (behind_string c.body c.after n (let q = c.end_is in omega arith)) ∙ ap (drop n) (sym c.text_is)) ∙ e);
        }

string_back : (text : List ℕ) → IsMarkerString (34 ∷ text) → is_behind_string text (literal_end 34 0 false text) ≡ true
string_back text h =
    let left : text ≡ h.body ++ 34 ∷ h.behind = (let e = h.spelled in cc) in
    let end : literal_end 34 0 false text ≡ Some (0 + length h.body + 1) =
    ap (literal_end 34 0 false) left ∙ some_where_body 34 0 false h.body h.behind (λ e. absurd (omega arith)) h.is_body in
    ap (is_behind_string text) end
    ∙ ap (list_all is_further) (ap (drop (0 + length h.body + 1)) left ∙ behind_string h.body h.behind (0 + length h.body + 1) (omega arith))
    ∙ all_back is_further h.behind h.each

pub tail_is : (text : List ℕ) → is_behind_line text ≡ true → IsMarkerTail text
tail_is [] e = inl refl
tail_is (b ∷ bs) e = by (b == 34) refl e
  where
    by : (t : Bool) → (b == 34) ≡ t → (if t then is_behind_string bs (literal_end 34 0 false bs) else false) ≡ true → IsMarkerTail (b ∷ bs)
    by true is e = let same : b ≡ 34 = grind (arith, nat_tests) in inr (subst (λ c. IsMarkerString (c ∷ bs)) (sym same) (string_is bs e))
    by false is e = absurd (cc)

pub tail_back : (text : List ℕ) → IsMarkerTail text → is_behind_line text ≡ true
tail_back text (inl e) = ap is_behind_line e
tail_back [] (inr h) = let e = h.spelled in absurd (cc)
tail_back (b ∷ bs) (inr h) =
    let same : b ≡ 34 = (let e = h.spelled in cc) in
    subst (λ c. IsMarkerString (c ∷ bs) → is_behind_line (c ∷ bs) ≡ true) (sym same) (λ g. string_back bs g) h

-- ---- the number

grows : (n : ℕ) (ds : List ℕ) → n ≤ decimal_from n ds
grows n [] = omega arith
grows n (d ∷ ds) = let h = grows (10 * n + (d - 48)) ds in omega arith

number_is : (n m : ℕ) (ds : List ℕ) → n ≤ 2147483647 → line_number n ds ≡ Some m → (m ≡ decimal_from n ds) × (m ≤ 2147483647)
number_is n m [] small e = let same : n ≡ m = cc in (sym same, (omega arith))
number_is n m (d ∷ ds) small e = by (nat_le (10 * n + (d - 48)) 2147483647) refl e (number_is (10 * n + (d - 48)) m ds)
  where
    fits : (k : ℕ) → nat_le k 2147483647 ≡ true → k ≤ 2147483647
    fits k h = grind (arith, nat_tests)

    by : (t : Bool) → nat_le (10 * n + (d - 48)) 2147483647 ≡ t → (if t then line_number (10 * n + (d - 48)) ds else None) ≡ Some m
        → (10 * n + (d - 48) ≤ 2147483647 → line_number (10 * n + (d - 48)) ds ≡ Some m → (m ≡ decimal_from (10 * n + (d - 48)) ds) × (m ≤ 2147483647))
        → (m ≡ decimal_from (10 * n + (d - 48)) ds) × (m ≤ 2147483647)
    by true is e more = more (fits (10 * n + (d - 48)) is) e
    by false is e more = absurd (cc)

number_back : (n : ℕ) (ds : List ℕ) → decimal_from n ds ≤ 2147483647 → line_number n ds ≡ Some (decimal_from n ds)
number_back n [] small = refl
number_back n (d ∷ ds) small =
    let h = grows (10 * n + (d - 48)) ds in
    let fits : nat_le (10 * n + (d - 48)) 2147483647 ≡ true = grind (arith, nat_tests) in
    rw fits (number_back (10 * n + (d - 48)) ds small)

-- a number, and what may stand behind it
pub record IsNumbered (text : List ℕ) (number : ℕ) : Type 0 where
  pub digits : List ℕ
  pub space : List ℕ
  pub tail : List ℕ
  pub spelled : text ≡ digits ++ (space ++ tail)
  pub some : 0 < length digits
  pub are_digits : IsRun is_ascii_digit digits (space ++ tail)
  pub are_space : IsRun is_blank space tail
  pub is_tail : IsMarkerTail tail
  pub is_number : number ≡ decimal_from 0 digits
  pub within : number ≤ 2147483647

pub skipped : (text : List ℕ) → (r : Run is_blank text) → skip_blank text ≡ r.rest
skipped text r = ap (λ n. drop n text) r.len ∙ behind_of r.part r.rest text r.spelled

pub numbered_is : (text : List ℕ) (number : ℕ) → marker_number text (prefix_len is_ascii_digit text) ≡ Some number → IsNumbered text number
numbered_is text number e =
    let d = run_of is_ascii_digit text in
    let s = run_of is_blank d.rest in
    let front : take (prefix_len is_ascii_digit text) text ≡ d.part = ap (λ n. take n text) d.len ∙ front_of d.part d.rest text d.spelled in
    let left : skip_blank (drop (prefix_len is_ascii_digit text) text) ≡ s.rest =
    ap skip_blank (ap (λ n. drop n text) d.len ∙ behind_of d.part d.rest text d.spelled) ∙ skipped d.rest s in
    by d s (nat_lt 0 (prefix_len is_ascii_digit text)) (is_behind_line s.rest) refl refl
    (sym (λ i. if nat_lt 0 (prefix_len is_ascii_digit text) && is_behind_line (left i) then line_number 0 (front i) else None) ∙ e)
  where
    by : (d : Run is_ascii_digit text) (s : Run is_blank d.rest) (a b : Bool) → nat_lt 0 (prefix_len is_ascii_digit text) ≡ a → is_behind_line s.rest ≡ b
        → (if a && b then line_number 0 d.part else None) ≡ Some number → IsNumbered text number
    by d s true true some is e =
        let n = number_is 0 number d.part (omega arith) e in
        let len = d.len in
        record {
          digits = d.part;
          space = s.part;
          tail = s.rest;
          spelled = d.spelled ∙ ap (λ r. d.part ++ r) s.spelled;
          some = grind (arith, nat_tests);
          are_digits = subst (λ r. IsRun is_ascii_digit d.part r) s.spelled d.run;
          are_space = s.run;
          is_tail = tail_is s.rest is;
          is_number = n.0;
          within = n.1;
        }
    by d s true false some is e = absurd (cc)
    by d s false b some is e = absurd (cc)

pub numbered_back : (text : List ℕ) (number : ℕ) → IsNumbered text number → marker_number text (prefix_len is_ascii_digit text) ≡ Some number
numbered_back text number h =
    let len = len_is is_ascii_digit h.digits (h.space ++ h.tail) text h.spelled h.are_digits in
    let front : take (prefix_len is_ascii_digit text) text ≡ h.digits = ap (λ n. take n text) len ∙ front_of h.digits (h.space ++ h.tail) text h.spelled in
    let behind : drop (prefix_len is_ascii_digit text) text ≡ h.space ++ h.tail = ap (λ n. drop n text) len
    ∙ behind_of h.digits (h.space ++ h.tail) text h.spelled in
    let blanks = len_is is_blank h.space h.tail (h.space ++ h.tail) refl h.are_space in
    let left : skip_blank (drop (prefix_len is_ascii_digit text) text) ≡ h.tail =
    ap skip_blank behind ∙ ap (λ n. drop n (h.space ++ h.tail)) blanks ∙ behind_of h.space h.tail (h.space ++ h.tail) refl in
    let some : nat_lt 0 (prefix_len is_ascii_digit text) ≡ true = (let s = h.some in grind (arith, nat_tests)) in
    let tail : is_behind_line h.tail ≡ true = tail_back h.tail h.is_tail in
    let small : decimal_from 0 h.digits ≤ 2147483647 = (let w = h.within in let n = h.is_number in omega arith) in
    (λ i. if some i && is_behind_line (left i) then line_number 0 (front i) else None)
    ∙ ap (λ t. if t then line_number 0 h.digits else None) tail
    ∙ number_back 0 h.digits small ∙ ap Some (sym h.is_number)
