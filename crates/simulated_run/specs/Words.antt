-- The words of SplitMix64.
use Rattle.std.specs.Prelude.{ℕ, zero, suc}
use Rattle.rand_xoshiro.specs.SplitMix64.{mix_u64}

-- the word that a generator in this state gives next
unfoldable pub word : ℕ → ℕ
word state = (mix_u64 state).0

-- the state after it
unfoldable pub next : ℕ → ℕ
next state = (mix_u64 state).1

-- the state after n words
abbrev pub after : ℕ → ℕ → ℕ
after zero state = state
after (suc n) state = after n (next state)
