-- Laws of the table's order.
-- Assumes nothing.
use Rattle.std.specs.Prelude.{◌≡◌, ◌⊎◌, ℕ, ◌+◌, ◌≤◌, ◌<◌}
use Rattle.std.proofs.Common.{inl, inr, arith}
use Rattle.std.proofs.Math.Decide.{dec_le, dec_lt}
use Rattle.tables.specs.Order.{Ahead, fewer, level}

pub ahead_registers : {W D W' D' : ℕ} → Ahead W D W' D' → W ≤ W'
ahead_registers (fewer h) = omega arith
ahead_registers (level e l) = omega arith

pub ahead_delay : {W D W' D' : ℕ} → Ahead W D W' D' → W' ≡ W → D' ≤ D
ahead_delay (fewer h) e = absurd (omega arith)
ahead_delay (level e l) e' = l

pub ahead_refl : (W D : ℕ) → Ahead W D W D
ahead_refl W D = level (omega arith) (omega arith)

pub ahead_trans : {W D W' D' W'' D'' : ℕ} → Ahead W D W' D' → Ahead W' D' W'' D'' → Ahead W D W'' D''
ahead_trans (fewer h) (fewer h') = fewer (omega arith)
ahead_trans (fewer h) (level e l) = fewer (omega arith)
ahead_trans (level e l) (fewer h) = fewer (omega arith)
ahead_trans (level e l) (level e' l') = level (omega arith) (omega arith)

-- one of the two is ahead
pub ahead_or : (W D W' D' : ℕ) → Ahead W D W' D' ⊎ Ahead W' D' W D
ahead_or W D W' D' = go (dec_lt W W') (dec_lt W' W) (dec_le D' D)
  where
    go : Dec (W < W') → Dec (W' < W) → Dec (D' ≤ D) → Ahead W D W' D' ⊎ Ahead W' D' W D
    go (yes h) _ _ = inl (fewer h)
    go (no h) (yes h') _ = inr (fewer h')
    go (no h) (no h') (yes l) = inl (level (omega arith) l)
    go (no h) (no h') (no l) = inr (level (omega arith) (omega arith))

-- the same registers and delay more on both sides
pub ahead_add : (k d W D W' D' : ℕ) → Ahead W D W' D' → Ahead (W + k) (D + d) (W' + k) (D' + d)
ahead_add k d W D W' D' (fewer h) = fewer (omega arith)
ahead_add k d W D W' D' (level e l) = level (omega arith) (omega arith)

-- the same pair by other names
pub ahead_as : {W D W' D' : ℕ} (W'' D'' : ℕ) → W'' ≡ W' → D'' ≡ D' → Ahead W D W' D' → Ahead W D W'' D''
ahead_as W'' D'' p q (fewer h) = fewer (omega arith)
ahead_as W'' D'' p q (level e l) = level (omega arith) (omega arith)
