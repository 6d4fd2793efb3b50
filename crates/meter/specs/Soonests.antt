use Rattle.std.specs.Prelude.{◌≡◌, ◌≢◌, ℕ, ◌+◌, ◌-◌, ◌*◌, ◌<◌, ◌≤◌, min, List, length, set, slice_index_or}
use Rattle.lists.specs.Sums.{sum_below}

abbrev pub number_of : List ℕ → ℕ → ℕ
number_of numbers k = slice_index_or numbers k 0

-- each node of a tree is the lesser of the two below it, but for the node above the place
abbrev pub AreNodesBut : List ℕ → ℕ → Type 0
AreNodesBut tree at = (i : ℕ) → 1 ≤ i → 2 * i + 1 < length tree → 2 * i ≢ at → 2 * i + 1 ≢ at →
    number_of tree i ≡ min (number_of tree (2 * i)) (number_of tree (2 * i + 1))

-- the leaves of a tree, its second half, are those of another tree with one of them replaced
abbrev pub AreLeaves : List ℕ → ℕ → ℕ → List ℕ → Type 0
AreLeaves before leaf key after = (k : ℕ) → length before ≤ 2 * k → number_of after k ≡ number_of (set before leaf key) k

-- on the way up from a leaf with another key: all is right but the nodes above the place
pub record IsClimbing (before : List ℕ) (leaf key at least : ℕ) (now : List ℕ) : Type 0 where
  pub low : 1 ≤ at
  pub within : at < length before
  pub count : length now ≡ length before
  pub is : number_of now at ≡ least
  pub leaves : AreLeaves before leaf key now
  pub nodes : AreNodesBut now at

-- a tree with another key at a leaf
pub record IsRenewed (before : List ℕ) (leaf key : ℕ) (after : List ℕ) : Type 0 where
  pub count : length after ≡ length before
  pub leaves : AreLeaves before leaf key after
  pub nodes : AreNodesBut after 1

-- the leaves of a tree are the keys of the numbers: a number and its place
abbrev pub AreKeys : List ℕ → List ℕ → ℕ → Type 0
AreKeys numbers tree n = (k : ℕ) → k < n → number_of tree (length numbers + k) ≡ number_of numbers k * 1024 + k

-- a tree over the keys of the numbers
pub record IsSoonest (numbers tree : List ℕ) : Type 0 where
  pub some : 0 < length numbers
  pub few : length numbers ≤ 1000
  pub count : length tree ≡ 2 * length numbers
  pub keys : AreKeys numbers tree (length numbers)
  pub nodes : AreNodesBut tree 1

-- a place with this number
pub record Stands (numbers : List ℕ) (n : ℕ) : Type 0 where
  pub at : ℕ
  pub within : at < length numbers
  pub is : number_of numbers at ≡ n

-- one of the numbers, and none is below it
pub record IsLeastNumber (numbers : List ℕ) (n : ℕ) : Type 0 where
  pub least : (m : ℕ) → m < length numbers → n ≤ number_of numbers m
  pub stands : Stands numbers n

-- a place, and no number is below the one there
pub record IsFirst (numbers : List ℕ) (k : ℕ) : Type 0 where
  pub within : k < length numbers
  pub least : (m : ℕ) → m < length numbers → number_of numbers k ≤ number_of numbers m

-- the least number, where it is below the bound; else the bound
pub record IsLeastOf (numbers : List ℕ) (bound n : ℕ) : Type 0 where
  pub within : n ≤ bound
  pub least : (m : ℕ) → m < length numbers → n ≤ number_of numbers m
  pub stands : n < bound → Stands numbers n

-- how far the first n numbers are from passing x, together
abbrev pub left_to : List ℕ → ℕ → ℕ → ℕ
left_to numbers x n = sum_below (λ k. x + 1 - number_of numbers k) n
