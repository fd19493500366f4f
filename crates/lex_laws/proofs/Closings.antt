-- Literals and comments, and where they aren't closed.
use Rattle.std.proofs.Common.{◌≡◌, ◌≢◌, ℕ, ◌+◌, Bool, true, false, ◌&&◌, ◌==◌, List, [], ◌∷◌, ◌++◌, length, Option, Some, None, refl, ap, sym, ◌∙◌}
use Rattle.std.proofs.Common.{if◌then◌else◌, append_assoc, length-append, arith}
use Rattle.std.proofs.lemmas.Bool.Decides.{nat_tests}
use Rattle.c_lex.specs.Runs.{comment_end, literal_end}
use Rattle.c_lex.proofs.Literals.{closed_where_some, some_where_body}
use Rattle.lex_laws.specs.Fronts.{IsBlockComment, IsInside, IsLiteral, IsOpen, IsOpenComment}

none_is_not_some : {A : Type 0} (o : Option A) (a : A) → o ≡ None → o ≡ Some a → ⊥
none_is_not_some o a none some = let e : None ≡ Some a = sym none ∙ some in cc

-- ---- literals

-- a literal at the front, or a quote that isn't closed
pub data Closing (quote : ℕ) (text : List ℕ) (found : Option ℕ) : Type 0 where
  closed : (part rest : List ℕ) → text ≡ part ++ rest → IsLiteral quote part → (n : ℕ) → found ≡ Some n → n + 1 ≡ length part → Closing quote text found
  unclosed : IsOpen quote text → found ≡ None → Closing quote text found

literal_part : (quote : ℕ) (body after : List ℕ) → quote ∷ (body ++ quote ∷ after) ≡ (quote ∷ (body ++ quote ∷ [])) ++ after
literal_part quote body after = ap (λ xs. quote ∷ xs) (sym (append_assoc body (quote ∷ []) after))

literal_len : (quote : ℕ) (body : List ℕ) → length body + 1 + 1 ≡ length (quote ∷ (body ++ quote ∷ []))
literal_len quote body = simp length-append (omega arith)

pub closing_of : (quote : ℕ) (behind : List ℕ) → quote ≢ 10 → Closing quote (quote ∷ behind) (literal_end quote 0 false behind)
closing_of quote behind ne = by (literal_end quote 0 false behind) refl
  where
    by : (o : Option ℕ) → literal_end quote 0 false behind ≡ o → Closing quote (quote ∷ behind) (literal_end quote 0 false behind)
    by (Some n) is =
        let c = closed_where_some quote 0 false behind n is in
        closed (quote ∷ (c.body ++ quote ∷ [])) c.after (ap (λ xs. quote ∷ xs) c.text_is ∙ literal_part quote c.body c.after)
        (record { body = c.body; spelled = refl; is_body = c.is_body }) n is
        (let e = c.end_is in let l = literal_len quote c.body in omega arith)
    by None is = unclosed (record {
      behind = behind;
      spelled = refl;
      never = λ body after same is_body. none_is_not_some (literal_end quote 0 false behind) (0 + length body + 1) is
          (ap (literal_end quote 0 false) same ∙ some_where_body quote 0 false body after ne is_body);
    }) is

-- the end that a literal has
pub literal_found : (quote : ℕ) (part rest behind : List ℕ) → quote ≢ 10 → IsLiteral quote part → quote ∷ behind ≡ part ++ rest
    → (n : ℕ) × (literal_end quote 0 false behind ≡ Some n) × (n + 1 ≡ length part)
literal_found quote part rest behind ne h same =
    let whole : quote ∷ behind ≡ quote ∷ (h.body ++ quote ∷ rest) = same ∙ ap (λ f. f ++ rest) h.spelled ∙ sym (literal_part quote h.body rest) in
    let left : behind ≡ h.body ++ quote ∷ rest = (let e = whole in cc) in (
      0 + length h.body + 1,
      ap (literal_end quote 0 false) left ∙ some_where_body quote 0 false h.body rest ne h.is_body,
      (let e = ap length h.spelled in let l = literal_len quote h.body in omega arith),
    )

-- a quote that isn't closed has no end
pub literal_lost : (quote : ℕ) (behind : List ℕ) → IsOpen quote (quote ∷ behind) → literal_end quote 0 false behind ≡ None
literal_lost quote behind h = by (literal_end quote 0 false behind) refl
  where
    by : (o : Option ℕ) → literal_end quote 0 false behind ≡ o → literal_end quote 0 false behind ≡ None
    by None is = is
    by (Some n) is =
        let c = closed_where_some quote 0 false behind n is in
        let left : behind ≡ h.behind = (let e = h.spelled in cc) in
        absurd (h.never c.body c.after (sym left ∙ c.text_is) c.is_body)

-- ---- comments

inside_step : (starred slash : Bool) (at b n : ℕ) (bs : List ℕ) → (b == 47) ≡ slash
    → (comment_end (at + 1) (b == 42) bs ≡ Some n → (inside : List ℕ) × ((after : List ℕ) × (bs ≡ inside ++ 47 ∷ after) × IsInside (b == 42) inside ×
    (n ≡ at + 1 + length inside + 1)))
    → (if starred && slash then Some (at + 1) else comment_end (at + 1) (b == 42) bs) ≡ Some n
    → (inside : List ℕ) × ((after : List ℕ) × (b ∷ bs ≡ inside ++ 47 ∷ after) × IsInside starred inside × (n ≡ at + length inside + 1))
inside_step true true at b n bs is more e = ([], (bs, ap (λ x. x ∷ bs) (same b is), tt, (let q : at + 1 ≡ n = (let w = e in cc) in omega arith)))
  where
    same : (b : ℕ) → (b == 47) ≡ true → b ≡ 47
    same b h = grind (arith, nat_tests)
inside_step true false at b n bs is more e =
    let r = more e in (b ∷ r.0, (r.1.0, ap (λ xs. b ∷ xs) r.1.1, ((λ s q. differ b is q), r.1.2), (let q = r.1.3 in omega arith)))
  where
    differ : (b : ℕ) → (b == 47) ≡ false → b ≡ 47 → ⊥
    differ b h q = grind (arith, nat_tests)
inside_step false slash at b n bs is more e =
    let r = more e in (
      b ∷ r.0,
      (
        r.1.0,
        ap (λ xs. b ∷ xs) r.1.1,
        ((λ s q. (let w : false ≡ true = s in absurd (cc))), r.1.2),
        (let q = r.1.3 in omega arith),
      ),
    )

inside_of : (at : ℕ) (starred : Bool) (text : List ℕ) (n : ℕ) → comment_end at starred text ≡ Some n
    → (inside : List ℕ) × ((after : List ℕ) × (text ≡ inside ++ 47 ∷ after) × IsInside starred inside × (n ≡ at + length inside + 1))
inside_of at starred [] n e = absurd (cc)
inside_of at starred (b ∷ bs) n e = inside_step starred (b == 47) at b n bs refl (inside_of (at + 1) (b == 42) bs n) e

end_of_inside : (at : ℕ) (starred : Bool) (inside after : List ℕ) → IsInside starred inside
    → comment_end at starred (inside ++ 47 ∷ after) ≡ Some (at + length inside + 1)
end_of_inside at true [] after is = ap Some (omega arith)
end_of_inside at false [] after is = absurd is
end_of_inside at true (b ∷ bs) after is =
    let other : (b == 47) ≡ false = grind (arith, nat_tests, is.0 refl) in
    rw other (end_of_inside (at + 1) (b == 42) bs after is.1 ∙ ap Some (omega arith))
end_of_inside at false (b ∷ bs) after is = end_of_inside (at + 1) (b == 42) bs after is.1 ∙ ap Some (omega arith)

-- a comment at the front, or one that isn't closed
pub data Commenting (text : List ℕ) (found : Option ℕ) : Type 0 where
  ended : (part rest : List ℕ) → text ≡ part ++ rest → IsBlockComment part → (n : ℕ) → found ≡ Some n → n + 2 ≡ length part → Commenting text found
  endless : IsOpenComment text → found ≡ None → Commenting text found

comment_part : (inside after : List ℕ) → 47 ∷ 42 ∷ (inside ++ 47 ∷ after) ≡ (47 ∷ 42 ∷ (inside ++ 47 ∷ [])) ++ after
comment_part inside after = ap (λ xs. 47 ∷ 42 ∷ xs) (sym (append_assoc inside (47 ∷ []) after))

comment_len : (inside : List ℕ) → length inside + 1 + 2 ≡ length (47 ∷ 42 ∷ (inside ++ 47 ∷ []))
comment_len inside = simp length-append (omega arith)

pub commenting_of : (behind : List ℕ) → Commenting (47 ∷ 42 ∷ behind) (comment_end 0 false behind)
commenting_of behind = by (comment_end 0 false behind) refl
  where
    by : (o : Option ℕ) → comment_end 0 false behind ≡ o → Commenting (47 ∷ 42 ∷ behind) (comment_end 0 false behind)
    by (Some n) is =
        let c = inside_of 0 false behind n is in
        ended (47 ∷ 42 ∷ (c.0 ++ 47 ∷ [])) c.1.0 (ap (λ xs. 47 ∷ 42 ∷ xs) c.1.1 ∙ comment_part c.0 c.1.0)
        (record { inside = c.0; spelled = refl; is_inside = c.1.2 }) n is
        (let e = c.1.3 in let l = comment_len c.0 in omega arith)
    by None is = endless (record {
      behind = behind;
      spelled = refl;
      never = λ inside after same is_inside. none_is_not_some (comment_end 0 false behind) (0 + length inside + 1) is
          (ap (comment_end 0 false) same ∙ end_of_inside 0 false inside after is_inside);
    }) is

pub comment_found : (part rest behind : List ℕ) → IsBlockComment part → 47 ∷ 42 ∷ behind ≡ part ++ rest
    → (n : ℕ) × (comment_end 0 false behind ≡ Some n) × (n + 2 ≡ length part)
comment_found part rest behind h same =
    let whole : 47 ∷ 42 ∷ behind ≡ 47 ∷ 42 ∷ (h.inside ++ 47 ∷ rest) = same ∙ ap (λ f. f ++ rest) h.spelled ∙ sym (comment_part h.inside rest) in
    let left : behind ≡ h.inside ++ 47 ∷ rest = (let e = whole in cc) in (
      0 + length h.inside + 1,
      ap (comment_end 0 false) left ∙ end_of_inside 0 false h.inside rest h.is_inside,
      (let e = ap length h.spelled in let l = comment_len h.inside in omega arith),
    )

pub comment_lost : (behind : List ℕ) → IsOpenComment (47 ∷ 42 ∷ behind) → comment_end 0 false behind ≡ None
comment_lost behind h = by (comment_end 0 false behind) refl
  where
    by : (o : Option ℕ) → comment_end 0 false behind ≡ o → comment_end 0 false behind ≡ None
    by None is = is
    by (Some n) is =
        let c = inside_of 0 false behind n is in
        let left : behind ≡ h.behind = (let e = h.spelled in cc) in
        absurd (h.never c.0 c.1.0 (sym left ∙ c.1.1) c.1.2)
