-- What the two lag questions give: the largest lags that meet a period, the least period, and the loops that prove a refusal.
use Rattle.std.specs.Prelude.{◌≡◌, List, ◌∷◌, map, ℕ, ◌≤◌, ◌<◌, ℤ, pos, ◌≤ℤ◌, length, get_or}
use Rattle.sheet.specs.Core.{Core}
use Rattle.paths.specs.Distinct.{NoDup}
use Rattle.moves.specs.Lags.{Permitted, Meets}
use Rattle.loops.specs.Link.{link_a, ValidLoop, NoPath}

-- 01: "the largest permitted lags that meet c, block by block": "each entry is at least that of every other list that meets the period."
pub record Largest (c : Core) (p : ℕ) (r : ℕ → ℤ) : Type 0 where
  pub meets : Meets c p r
  pub largest : (q : ℕ → ℤ) → Meets c p q → (b : ℕ) → b < c.shape.n → q b ≤ℤ r b

-- 01: "the least period met by permitted lags"
pub record Least (c : Core) (p : ℕ) : Type 0 where
  pub lags : ℕ → ℤ
  pub met : Meets c p lags
  pub least : (q : ℕ) (r : ℕ → ℤ) → Meets c q r → p ≤ q

-- 10: "no permitted lags exist"
abbrev pub NonePermitted : Core → Type 0
NonePermitted c = (r : ℕ → ℤ) → Permitted c r → ⊥

-- 11: "permitted lags exist, none meets c"
pub record NoneMeets (c : Core) (p : ℕ) : Type 0 where
  pub lags : ℕ → ℤ
  pub permitted : Permitted c lags
  pub none : (r : ℕ → ℤ) → Meets c p r → ⊥

-- 01: "Loops written by the library visit no block as an a twice"
pub record LoopGiven (c : Core) (p : ℕ) (words : List ℕ) : Type 0 where
  pub valid : ValidLoop c p words
  pub once : NoDup (map (link_a c) (valid.first ∷ valid.others))

-- "and for refusal 10 have no link of kind 2": such a loop is valid at every period
pub record PlainLoop (c : Core) (words : List ℕ) : Type 0 where
  pub given : (p : ℕ) → LoopGiven c p words
  pub plain : (p : ℕ) → NoPath c ((given p).valid.first ∷ (given p).valid.others)

-- 01: "Entries past those named stay unchanged": the lags from entry k on
pub record LagsKeptFrom (k : ℕ) (before after : List ℤ) : Type 0 where
  pub long : length after ≡ length before
  pub past : (i : ℕ) → k ≤ i → get_or after i (pos 0) ≡ get_or before i (pos 0)
