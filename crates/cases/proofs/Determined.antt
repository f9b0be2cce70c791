-- Bytes are cut in one way at the first such byte, and so at most one case begins them; and where no case does.
use Rattle.std.proofs.Common.{◌≡◌, ℕ, ◌<◌, ◌≤◌, ◌^◌, List, ◌∷◌, ◌++◌, length, get_or, take, drop, sym, refl, ap, ◌∙◌, subst, arith, codes, ◌≢◌, Option, None, Result, Ok, Err, ⊎_elim}
use Rattle.std.proofs.lemmas.Bool.{cases_lt}
use Rattle.std.proofs.lemmas.List.{append_cancel_left, get_or_append_left, get_or_at, take_at, drop_at, length-append}
use Rattle.std.proofs.lemmas.List.Elements.{Contains-append_right}
use Rattle.std.proofs.lemmas.Str.{IsUtf8-from_ascii}
use Rattle.std.proofs.lemmas.Str.Parse.{digit_at}
use Rattle.std.proofs.Math.ListN.{get_or-eq_default}
use Rattle.std.specs.List.{Contains}
use Rattle.std.specs.Option.{MatchOption}
use Rattle.std.specs.Result.{MatchResult, result_ok}
use Rattle.std.specs.Str.{IsUtf8}
use Rattle.std.specs.Str.Parse.{AllDigits, digits_value}
use Rattle.cases.specs.Case.{IsCut, IsCase, NoCase}

-- digits are ASCII, and so UTF-8
pub digits_utf8 : (ds : List ℕ) → AllDigits 10 ds → IsUtf8 ds
digits_utf8 ds all = IsUtf8-from_ascii ds (λ i. low i)
  where
    low : (i : ℕ) → get_or ds i 0 < 128
    low i = ⊎_elim (λ l. let d = digit_at ds i all l in omega arith) (λ past. let none = get_or-eq_default ds 0 past in omega arith) (cases_lt i (length ds))

-- of two fronts without the byte none is shorter
not_shorter : (at : ℕ) (f g f' g' : List ℕ) → ¬ (Contains f' at) → f ++ (at ∷ g) ≡ f' ++ (at ∷ g') → length f' ≤ length f
not_shorter at f g f' g' without same = ⊎_elim (λ l. absurd (without (length f, l, there l))) (λ le. le) (cases_lt (length f) (length f'))
  where
    there : length f < length f' → get_or f' (length f) at ≡ at
    there l =
        sym (get_or_append_left f' (at ∷ g') at (length f) l) ∙ ap (λ l. get_or l (length f) at) (sym same)
        ∙ get_or_at f at g at (length f) refl

pub cut_contains : {at : ℕ} {bytes front behind : List ℕ} → IsCut at bytes front behind → Contains bytes at
cut_contains {at} {bytes} {front} {behind} X =
    subst (λ l. Contains l at) (sym X.is) (Contains-append_right front (at ∷ behind) at (0, omega arith, refl))

-- there is one cut
pub one_cut : {at : ℕ} {bytes f g f' g' : List ℕ} → IsCut at bytes f g → IsCut at bytes f' g' → (f ≡ f') × (g ≡ g')
one_cut {at} {bytes} {f} {g} {f'} {g'} X Y =
    let same : f ++ (at ∷ g) ≡ f' ++ (at ∷ g') = sym X.is ∙ Y.is in
    let one = not_shorter at f g f' g' Y.without same in
    let other = not_shorter at f' g' f g X.without (sym same) in
    let long : length f' ≡ length f = omega arith in
    let tails : at ∷ g ≡ at ∷ g' =
    sym (drop_at f (at ∷ g) (length f) refl) ∙ ap (drop (length f)) same ∙ drop_at f' (at ∷ g') (length f) long in
    (sym (take_at f (at ∷ g) (length f) refl) ∙ ap (take (length f)) same ∙ take_at f' (at ∷ g') (length f) long, cc)

-- the first line of the input, and behind it what else there is
module _ {input words after : List ℕ} (line : IsCut 10 input (codes "case " ++ words) after) where
  same_words : {n t r : List ℕ} (X : IsCase input n t r) → words ≡ X.words
  same_words X = append_cancel_left (codes "case ") words X.words (one_cut line X.line).0

  pub no_name : ¬ (Contains words 32) → NoCase input
  no_name none n t r X = none (subst (λ w. Contains w 32) (sym (same_words X)) (cut_contains X.named))

  module _ {name digits : List ℕ} (named : IsCut 32 words name digits) where
    same_name : {n t r : List ℕ} (X : IsCase input n t r) → (name ≡ n) × (digits ≡ X.digits)
    same_name {n} {t} {r} X = one_cut named (subst (λ w. IsCut 32 w n X.digits) (sym (same_words X)) X.named)

    -- the digits are digits, and the text that they count and a byte more lie in what is behind the line
    pub counted : {n t r : List ℕ} (X : IsCase input n t r) → AllDigits 10 digits × (digits_value 10 digits < length after)
    counted {n} {t} {r} X =
        let same : digits ≡ X.digits = (same_name X).1 in
        let size : digits_value 10 digits ≡ length t = ap (digits_value 10) same ∙ X.size in
        let long : length after ≡ length (t ++ (X.last ∷ r)) = ap length ((one_cut line X.line).1 ∙ X.ends) in
        (subst (AllDigits 10) (sym same) X.numeral, omega (arith, length-append t (X.last ∷ r)))

    pub no_number : ¬ (AllDigits 10 digits × (digits_value 10 digits < 2 ^ 64)) → length input < 2 ^ 64 → NoCase input
    no_number none few n t r X =
        let here = counted X in
        let long : length input ≡ length ((codes "case " ++ words) ++ (10 ∷ after)) = ap length line.is in
        none (here.0, omega (arith, length-append (codes "case " ++ words) (10 ∷ after)))

    pub no_text : length after ≤ digits_value 10 digits → NoCase input
    no_text short n t r X = let here = counted X in omega arith

pub no_line : {input : List ℕ} → ¬ (Contains input 10) → NoCase input
no_line none n t r X = none (cut_contains X.line)

pub no_words : {input line after : List ℕ} → IsCut 10 input line after → ((rest : List ℕ) → line ≢ codes "case " ++ rest) → NoCase input
no_words line none n t r X = none X.words (one_cut line X.line).0

-- at most one case begins the input
pub one_case : {input name text rest n t r : List ℕ} → IsCase input name text rest → IsCase input n t r → (name ≡ n) × (text ≡ t) × (rest ≡ r)
one_case {input} {name} {text} {rest} {n} {t} {r} X Y =
    let names = same_name X.line X.named Y in
    let long : length t ≡ length text = sym Y.size ∙ ap (digits_value 10) (sym names.1) ∙ X.size in
    let same : text ++ (X.last ∷ rest) ≡ t ++ (Y.last ∷ r) = sym X.ends ∙ (one_cut X.line Y.line).1 ∙ Y.ends in
    let tails : X.last ∷ rest ≡ Y.last ∷ r =
    sym (drop_at text (X.last ∷ rest) (length text) refl) ∙ ap (drop (length text)) same ∙ drop_at t (Y.last ∷ r) (length text) long in
    (names.0, sym (take_at text (X.last ∷ rest) (length text) refl) ∙ ap (take (length text)) same ∙ take_at t (Y.last ∷ r) (length text) long, cc)

pub line_is : {input line after words : List ℕ} → line ≡ codes "case " ++ words → IsCut 10 input line after → IsCut 10 input (codes "case " ++ words) after
line_is {input} {line} {after} is X = subst (λ l. IsCut 10 input l after) is X

pub none_match : {T P : Type 0} {r : Option T} (Q : T → Type 0) → r ≡ None → P → MatchOption r P Q
none_match {T} {P} Q e p = subst (λ r. MatchOption r P Q) (sym e) p

-- a result whose value is asked for, and is none, is an error
pub no_value : {T E : Type 0} (P : T → Type 0) (Q : E → Type 0) (X : Type 0) (r : Result T E) → MatchResult r P (λ e. ¬ X × Q e) → result_ok r ≡ None → ¬ X
no_value P Q X (Ok x) told is = absurd (cc)
no_value P Q X (Err e) told is = told.0
