-- What holds of the texts of any format.
use Rattle.std.proofs.Common.{◌≡◌, ℕ, ◌+◌, List, [], ◌∷◌, ◌++◌, length, append_assoc, refl, sym, ap, subst, ◌∙◌, arith, Result, Ok, Err}
use Rattle.poet_io.specs.declared.text_refusal.TextRefusal.{TextRefusal}
use Rattle.poet_io.specs.declared.text_refusal.TextRefusal.TheVariants.{Line, Memory}
use Rattle.poet_io.specs.Texts.{Format, Parses, BeginsText, newlines, IsRefusedLine, IsReading, HaveOneReading}

-- two fronts of one list that are of one length
same_front : (xs ys us vs : List ℕ) → xs ++ us ≡ ys ++ vs → length xs ≡ length ys → xs ≡ ys
same_front [] [] us vs e h = refl
same_front [] (y ∷ ys) us vs e h = absurd (omega arith)
same_front (x ∷ xs) [] us vs e h = absurd (omega arith)
same_front (x ∷ xs) (y ∷ ys) us vs e h =
    let heads : x ≡ y = cc in
    let tails : xs ++ us ≡ ys ++ vs = cc in
    let rest : xs ≡ ys = same_front xs ys us vs tails (omega arith) in
    cc

module _ {A : Type 0} (format : Format A) where
  -- a front of what begins a text begins it too
  pub begins_front : (b more : List ℕ) → BeginsText format (b ++ more) → BeginsText format b
  begins_front b more h = record {
    value = h.value;
    more = more ++ h.more;
    parses = subst (λ (t : List ℕ). Parses format t h.value) (append_assoc b more h.more) h.parses;
  }

  -- bytes have one refused line
  pub one_refused_line : (b : List ℕ) (m n : ℕ) → IsRefusedLine format b m → IsRefusedLine format b n → m ≡ n
  one_refused_line b m n h k =
      let front : h.front ≡ k.front = same_front h.front k.front h.rest k.rest (sym h.whole ∙ k.whole)
      (omega (arith, h.longest k.front k.rest k.whole k.begins, k.longest h.front h.rest h.whole h.begins)) in
      h.line ∙ ap (λ (l : List ℕ). 1 + newlines l) front ∙ sym k.line

  -- bytes have one reading, where no bytes are a text of two values
  pub one_reading : ((b : List ℕ) (c d : A) → Parses format b c → Parses format b d → c ≡ d) →
      (b : List ℕ) (r s : Result A TextRefusal) → IsReading format b r → IsReading format b s → r ≡ s
  one_reading one_parse b (Ok c) (Ok d) h k = ap Ok (one_parse b c d h k)
  one_reading one_parse b (Ok c) (Err (Line n)) h k = absurd (k.none c h)
  one_reading one_parse b (Ok c) (Err Memory) h k = absurd k
  one_reading one_parse b (Err (Line m)) (Ok d) h k = absurd (h.none d k)
  one_reading one_parse b (Err (Line m)) (Err (Line n)) h k = ap (λ (n : ℕ). Err (Line n)) (one_refused_line b m n h.line k.line)
  one_reading one_parse b (Err (Line m)) (Err Memory) h k = absurd k
  one_reading one_parse b (Err Memory) s h k = absurd h

  module _ (reading_of : List ℕ → Result A TextRefusal) (one : HaveOneReading format reading_of) where
    -- what the function gives is the reading
    pub reading_given : (b : List ℕ) (r : Result A TextRefusal) → reading_of b ≡ r → IsReading format b r
    reading_given b r e = subst (IsReading format b) e (one.exists b)

    -- and what is a reading the function gives
    pub reading_is : (b : List ℕ) (r : Result A TextRefusal) → IsReading format b r → reading_of b ≡ r
    reading_is b r h = one.single b (reading_of b) r (one.exists b) h
