-- Words between spaces, and lines between newlines.
use Rattle.std.proofs.Common.{◌≡◌, ℕ, zero, suc, ◌+◌, ◌<◌, ◌≤◌, ◌^◌, ◌%◌, ◌==◌, true, false, nat_lt, List, [], ◌∷◌, ◌++◌, length, take, drop, get_or}
use Rattle.std.proofs.Common.{refl, sym, ap, ◌∙◌, arith, decimal, Some, None, inl, inr, map, append-nil}
use Rattle.std.specs.List.{AllByRecursion, flat_map, position, position_or_len}
use Rattle.std.specs.Cmp.Lexicographic.{bytes_decides}
use Rattle.std.proofs.lemmas.Fmt.{decimal_by_steps}
use Rattle.std.proofs.lemmas.Bool.{cases_Bool, eqb-true, eq-eqb, both_ways}
use Rattle.std.proofs.lemmas.List.Quantifiers.{position-Some}
use Rattle.std.proofs.lemmas.Bool.Decides.{nat_tests}
use Rattle.run_text.specs.Text.{segment_text}
use Rattle.run_text.specs.Words.{words_of, with_byte, is_text}

-- the byte does not stand in the bytes
abbrev pub Lacks : ℕ → List ℕ → Type 0
Lacks c bytes = AllByRecursion (λ b. (b == c) ≡ false) bytes

pub lacks_append : (c : ℕ) (xs ys : List ℕ) → Lacks c xs → Lacks c ys → Lacks c (xs ++ ys)
lacks_append c [] ys h k = k
lacks_append c (x ∷ xs) ys h k = (h.0, lacks_append c xs ys h.1 k)

pub lacks_front : (c : ℕ) (xs ys : List ℕ) → Lacks c (xs ++ ys) → Lacks c xs
lacks_front c [] ys h = tt
lacks_front c (x ∷ xs) ys h = (h.0, lacks_front c xs ys h.1)

digit_is_other : (c d : ℕ) → c < 48 → d < 10 → ((48 + d) == c) ≡ false
digit_is_other c d small h = grind (arith, nat_tests)

-- the digits of a number lack each byte below them
pub decimal_lacks : (c n : ℕ) → c < 48 → n < 2 ^ 64 → Lacks c (decimal n)
decimal_lacks c n small h = decimal_by_steps (λ n ds. Lacks c ds)
    (λ n less. (digit_is_other c n small less, tt))
    (λ n ds big one. lacks_append c ds ((48 + n % 10) ∷ []) one (digit_is_other c (n % 10) small (omega arith), tt)) n h

-- what stands before the first such byte, and behind it
pub split_at : (c : ℕ) (a b s t : List ℕ) → Lacks c a → Lacks c b → a ++ c ∷ s ≡ b ++ c ∷ t → (a ≡ b) × (s ≡ t)
split_at c [] [] s t h k e = (refl, (let r : s ≡ t = cc in r))
split_at c [] (y ∷ b) s t h k e = absurd (let same : y ≡ c = cc in both_ways (y == c) k.0 (eq-eqb y c same))
split_at c (x ∷ a) [] s t h k e = absurd (let same : x ≡ c = cc in both_ways (x == c) h.0 (eq-eqb x c same))
split_at c (x ∷ a) (y ∷ b) s t h k e =
    let heads : x ≡ y = cc in
    let tails : a ++ c ∷ s ≡ b ++ c ∷ t = cc in
    let r = split_at c a b s t h.1 k.1 tails in
    ((let front : a ≡ b = r.0 in cc), r.1)

pub not_inside : (c : ℕ) (a b t : List ℕ) → Lacks c a → a ≡ b ++ c ∷ t → ⊥
not_inside c [] [] t h e = cc
not_inside c [] (y ∷ b) t h e = cc
not_inside c (x ∷ a) [] t h e = let same : x ≡ c = cc in both_ways (x == c) h.0 (eq-eqb x c same)
not_inside c (x ∷ a) (y ∷ b) t h e = not_inside c a b t h.1 (let r : a ≡ b ++ c ∷ t = cc in r)

-- a front without the byte ends before it
pub front_of : (c : ℕ) (a s w m : List ℕ) → Lacks c w → a ++ c ∷ s ≡ w ++ m → (u : List ℕ) × (a ≡ w ++ u)
front_of c a s [] m h e = (a, refl)
front_of c [] s (x ∷ w) m h e = absurd (let same : x ≡ c = cc in both_ways (x == c) h.0 (eq-eqb x c same))
front_of c (y ∷ a) s (x ∷ w) m h e =
    let heads : y ≡ x = cc in
    let tails : a ++ c ∷ s ≡ w ++ m = cc in
    let r = front_of c a s w m h.1 tails in
    let found : a ≡ w ++ r.0 = r.1 in
    (r.0, cc)

pub words_last : (w : List ℕ) → Lacks 32 w → words_of w ≡ w ∷ []
words_last [] h = refl
words_last (x ∷ w) h = rw (h.0, words_last w h.1) refl

pub words_more : (w t : List ℕ) → Lacks 32 w → words_of (w ++ 32 ∷ t) ≡ w ∷ words_of t
words_more [] t h = refl
words_more (x ∷ w) t h = rw (h.0, words_more w t h.1) refl

-- the words with spaces between them
abbrev pub spaced : List (List ℕ) → List ℕ
spaced [] = []
spaced (w ∷ []) = w
spaced (w ∷ (v ∷ ws)) = w ++ 32 ∷ spaced (v ∷ ws)

spaced-with_byte : (x : ℕ) (ws : List (List ℕ)) → spaced (with_byte x ws) ≡ x ∷ spaced ws
spaced-with_byte x [] = refl
spaced-with_byte x (w ∷ []) = refl
spaced-with_byte x (w ∷ (v ∷ ws)) = refl

spaced-after : (ws : List (List ℕ)) → (ws ≡ [] → ⊥) → spaced ([] ∷ ws) ≡ 32 ∷ spaced ws
spaced-after [] h = absurd (h refl)
spaced-after (v ∷ ws) h = refl

with_byte-some : (x : ℕ) (ws : List (List ℕ)) → with_byte x ws ≡ [] → ⊥
with_byte-some x [] e = cc
with_byte-some x (w ∷ ws) e = cc

some_words : (line : List ℕ) → words_of line ≡ [] → ⊥
some_words [] = λ e. cc
some_words (x ∷ xs) = elim (cases_Bool (x == 32)) [
  | inl h ↦ rw h (λ e. cc)
  | inr h ↦ rw h (λ e. with_byte-some x (words_of xs) e)
]

pub spaced-words_of : (line : List ℕ) → spaced (words_of line) ≡ line
spaced-words_of [] = refl
spaced-words_of (x ∷ xs) = elim (cases_Bool (x == 32)) [
  | inl h ↦ (let space : x ≡ 32 = eqb-true x 32 h in rw h (spaced-after (words_of xs) (some_words xs) ∙ rw (spaced-words_of xs, space) refl))
  | inr h ↦ rw h (spaced-with_byte x (words_of xs) ∙ ap (λ (l : List ℕ). x ∷ l) (spaced-words_of xs))
]

-- lines with the same words are the same
pub words_of-same : (a b : List ℕ) → words_of a ≡ words_of b → a ≡ b
words_of-same a b e = sym (spaced-words_of a) ∙ ap spaced e ∙ spaced-words_of b

-- the words of numbers behind spaces
pub words_of-numbers : (w : List ℕ) (ns : List ℕ) → Lacks 32 w → AllByRecursion (λ n. n < 2 ^ 64) ns →
    words_of (w ++ flat_map segment_text ns) ≡ w ∷ map decimal ns
words_of-numbers w [] h all = words_last (w ++ []) (lacks_append 32 w [] h tt) ∙ ap (λ (v : List ℕ). v ∷ []) (append-nil w)
words_of-numbers w (n ∷ ns) h all = words_more w (decimal n ++ flat_map segment_text ns) h ∙
    ap (λ ws. w ∷ ws) (words_of-numbers (decimal n) ns (decimal_lacks 32 n (omega arith) all.0) all.1)

pub text_is : (a b : List ℕ) → is_text a b ≡ true → a ≡ b
text_is a b h = (bytes_decides a b).0 h

pub is_text-self : (a : List ℕ) → is_text a a ≡ true
is_text-self a = (bytes_decides a a).1 refl

lacks_take : (c : ℕ) (line : List ℕ) (i : ℕ) → i ≤ length line → ((k : ℕ) → k < i → (get_or line k 0 == c) ≡ false) → Lacks c (take i line)
lacks_take c [] zero le h = tt
lacks_take c [] (suc i) le h = absurd (omega arith)
lacks_take c (x ∷ line) zero le h = tt
lacks_take c (x ∷ line) (suc i) le h = (h 0 (omega arith), lacks_take c line i (omega arith) (λ k less. h (suc k) (omega arith)))

cut_at : (line : List ℕ) (i j : ℕ) → i < length line → j ≡ suc i → line ≡ take i line ++ get_or line i 0 ∷ drop j line
cut_at [] i j h e = absurd (omega arith)
cut_at (x ∷ line) zero j h e = rw e refl
cut_at (x ∷ line) (suc i) zero h e = absurd (omega arith)
cut_at (x ∷ line) (suc i) (suc j) h e = ap (λ (l : List ℕ). x ∷ l) (cut_at line i j (omega arith) (omega arith))

-- the words, where the first space stands at i
pub words_at : (line : List ℕ) (i : ℕ) → position (λ b. b == 32) line ≡ Some i → words_of line ≡ take i line ∷ words_of (drop (i + 1) line)
words_at line i e =
    let p = position-Some (λ b. b == 32) line i 0 e in
    let lacks : Lacks 32 (take i line) = lacks_take 32 line i (omega (arith, p.0)) p.2 in
    let space : get_or line i 0 ≡ 32 = eqb-true (get_or line i 0) 32 p.1 in
    let rest = drop (i + 1) line in
    let parts : line ≡ take i line ++ 32 ∷ rest = cut_at line i (i + 1) p.0 (omega arith) ∙ ap (λ (x : ℕ). take i line ++ x ∷ rest) space in
    ap words_of parts ∙ words_more (take i line) rest lacks

lacks_none : (line : List ℕ) → nat_lt (position_or_len (λ b. b == 32) line) (length line) ≡ false → Lacks 32 line
lacks_none [] = λ h. tt
lacks_none (x ∷ line) = elim (cases_Bool (x == 32)) [
  | inl h ↦ rw h (λ k. absurd (let some : nat_lt 0 (suc (length line)) ≡ true = grind (arith, nat_tests) in cc))
  | inr h ↦ rw h (λ k. (refl, lacks_none line (grind (arith, nat_tests))))
]

-- the words, where no space stands
pub words_none : (line : List ℕ) → position (λ b. b == 32) line ≡ None → words_of line ≡ line ∷ []
words_none line = elim (cases_Bool (nat_lt (position_or_len (λ b. b == 32) line) (length line))) [
  | inl h ↦ rw h (λ e. absurd (cc))
  | inr h ↦ λ e. words_last line (lacks_none line h)
]
