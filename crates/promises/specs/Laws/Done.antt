-- Lags that were found and written out are an answer.
-- Assumes nothing.
use Rattle.std.specs.Prelude.{◌≡◌, refl, List, ℕ, ◌≤◌, ◌<◌, ℤ, pos, length, get_or}
use Rattle.std.proofs.Common.{sym, ap, ◌∙◌, arith}
use Rattle.sheet.specs.Lag.{lag_of}
use Rattle.sheet.specs.Core.{Core, blocks_in, core_of}
use Rattle.sheet.specs.Sheet.{Formed, FormedSheet}
use Rattle.sheet.specs.Filled.{filled}
use Rattle.sheet.specs.Rules.{First, answer}
use Rattle.sheet.specs.Laws.Filled.{length_filled, filled_past, filled_at}
use Rattle.sheet.specs.Laws.Formed.{formed_core}
use Rattle.moves.specs.Lags.{lags_in, moved_by, Meets}
use Rattle.promises.specs.Lags.{Largest, Least}
use Rattle.promises.specs.Questions.{lags_outcome, lags_last, LagsDone, best_last}
use Rattle.promises.specs.Laws.Asked.{lags_done, best_done}

-- ---- largest lags are largest in whatever list they stand
module _ (c : Core) (f : Formed c) (p : ℕ) (r q : ℕ → ℤ) (same : (b : ℕ) → b < c.shape.n → r b ≡ q b) where
  moved_same : (j : ℕ) → j < c.shape.m → moved_by c r j ≡ moved_by c q j
  moved_same j h = rw (same (c.shape.to j) (f.to_block j h), same (c.shape.from j) (f.from_block j h))

  meets_same : Meets c p r → Meets c p q
  meets_same m = record {
    permitted = record {
      in_range = λ b h. rw (← same b h) (m.permitted.in_range b h);
      fits = λ j h. rw (← moved_same j h) (m.permitted.fits j h);
    };
    quick = λ x mx. m.quick x (λ j h. mx j h ∙ sym (moved_same j h));
  }

  pub largest_same : Largest c p r → Largest c p q
  largest_same a = record { meets = meets_same a.meets; largest = λ t m b h. rw (← same b h) (a.largest t m b h) }

-- ---- the first n lags are those in e
module _ {s : List ℕ} (e : List ℕ) {n p : ℕ} (f : FormedSheet s) (n_is : n ≡ blocks_in s) (L : Largest (core_of s) p (λ b. lag_of (get_or e b 0)))
    (l l' : List ℤ) (w w' : List ℕ) (long : n ≤ length l) (filled_is : l' ≡ filled (λ b. lag_of (get_or e b 0)) n l) (kept : w' ≡ w) where
  written : (b : ℕ) → b < blocks_in s → lag_of (get_or e b 0) ≡ lags_in l' b
  written b h = sym (ap (λ (x : List ℤ). get_or x b (pos 0)) filled_is ∙ filled_at (λ i. lag_of (get_or e i 0)) n l b (pos 0) (omega (arith, n_is)) long)

  done_written : (value : ℕ) → LagsDone s p value l w (lags_outcome (answer 0 0 value) l' w')
  done_written value = record {
    says_done = refl;
    largest = largest_same (core_of s) (formed_core s f) p (λ b. lag_of (get_or e b 0)) (lags_in l') written L;
    lags_kept = record {
      long = ap length filled_is ∙ length_filled (λ b. lag_of (get_or e b 0)) n l;
      past = λ i h. ap (λ (x : List ℤ). get_or x i (pos 0)) filled_is ∙ filled_past (λ b. lag_of (get_or e b 0)) n l i (pos 0) (omega (arith, n_is));
    };
    words_kept = kept;
  }

  pub lags_written : First (lags_last s p l w) (lags_outcome (answer 0 0 0) l' w')
  lags_written = lags_done s l w (lags_outcome (answer 0 0 0) l' w') p (done_written 0)

  pub best_written : Least (core_of s) p → First (best_last s l w) (lags_outcome (answer 0 0 p) l' w')
  best_written h = best_done s l w (lags_outcome (answer 0 0 p) l' w') (record { period = p; least = h; done = done_written p })
