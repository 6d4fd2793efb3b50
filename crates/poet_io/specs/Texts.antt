-- Formats of texts: which bytes say a value, where bytes cease to be the front of a text, and what reading them gives.
use Rattle.std.specs.Prelude.{◌≡◌, ◌≢◌, ℕ, ◌+◌, ◌≤◌, ◌==◌, List, ◌++◌, length, count_by, Result, Ok, Err}
use Rattle.poet_io.specs.declared.text_refusal.TextRefusal.{TextRefusal}
use Rattle.poet_io.specs.declared.text_refusal.TextRefusal.TheVariants.{Line, Memory}

-- a format: the values within its grammar, and the bytes that are a text of a value
pub record Format (A : Type 0) : Type 1 where
  pub is_within : A → Type 0
  pub is_text_of : List ℕ → A → Type 0

-- the bytes are a text of the value
pub record Parses {A : Type 0} (format : Format A) (bytes : List ℕ) (value : A) : Type 0 where
  pub within : format.is_within value
  pub text : format.is_text_of bytes value

-- some value's text begins with these bytes
pub record BeginsText {A : Type 0} (format : Format A) (bytes : List ℕ) : Type 0 where
  pub value : A
  pub more : List ℕ
  pub parses : Parses format (bytes ++ more) value

-- how many of the bytes are newlines
abbrev pub newlines : List ℕ → ℕ
newlines bytes = count_by (λ b. b == 10) bytes

-- n is 1 plus the newlines in the longest front of the bytes with which some text begins
pub record IsRefusedLine {A : Type 0} (format : Format A) (bytes : List ℕ) (n : ℕ) : Type 0 where
  pub front : List ℕ
  pub rest : List ℕ
  pub whole : bytes ≡ front ++ rest
  pub begins : BeginsText format front
  pub longest : (longer more : List ℕ) → bytes ≡ longer ++ more → BeginsText format longer → length longer ≤ length front
  pub line : n ≡ 1 + newlines front

-- the bytes are no text, and n is their refused line
pub record IsRefusedAt {A : Type 0} (format : Format A) (bytes : List ℕ) (n : ℕ) : Type 0 where
  pub none : (value : A) → Parses format bytes value → ⊥
  pub line : IsRefusedLine format bytes n

-- reading the bytes gives this: a value whose text they are, or their refused line; want of memory is no reading
abbrev pub IsReading : {A : Type 0} → Format A → List ℕ → Result A TextRefusal → Type 0
IsReading format bytes (Ok value) = Parses format bytes value
IsReading format bytes (Err (Line n)) = IsRefusedAt format bytes n
IsReading format bytes (Err Memory) = ⊥

-- any bytes have one reading, and this function gives it
pub record HaveOneReading {A : Type 0} (format : Format A) (reading_of : List ℕ → Result A TextRefusal) : Type 0 where
  pub exists : (bytes : List ℕ) → IsReading format bytes (reading_of bytes)
  pub single : (bytes : List ℕ) (r s : Result A TextRefusal) → IsReading format bytes r → IsReading format bytes s → r ≡ s

-- the answer is this reading, unless memory ran out
abbrev pub AnswersReading : {A : Type 0} → Result A TextRefusal → Result A TextRefusal → Type 0
AnswersReading (Ok value) reading = reading ≡ Ok value
AnswersReading (Err e) reading = e ≢ Memory → reading ≡ Err e
