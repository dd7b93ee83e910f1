-- What a test of each entry says of a lent list, and a lent list of lags by its excess numbers.
use Rattle.std.specs.Prelude.{◌≡◌, Bool, true, false, List, ℕ, ◌+◌, ◌-◌, ◌<◌, ◌≤◌, ◌↔◌, length, get_or, ℤ, pos, negsuc, MatchBool}
use Rattle.std.specs.List.{AllWithin, HoldsAt, range_with_len}
use Rattle.std.proofs.Common.{◌∙◌, ap, sym, subst, arith}
use Rattle.std.proofs.lemmas.List.FromFn.{get_or-range_with_len, length-range_with_len}
use Rattle.std.proofs.lemmas.List.{get_or_default}
use Rattle.std.specs.Int.Signed.{mag}
use Rattle.sheet.specs.Lag.{excess, lag_of}
use Rattle.sheet.specs.Laws.Lag.{excess_lag, lag_excess}
use Rattle.sheet.specs.Rules.{Told}
use Rattle.records.specs.Lent.{AsBefore, KeptFrom, LagsKeptFrom, lag_before, excess_before}
use Rattle.records.specs.declared.lent.TheConstants.{LONGEST}

module _ {A : Type 0} (before : ℕ → A) (l : List A) where
  -- every number from `first` on was tried, or one was found where the entry is another
  pub kept_by_range : (first : ℕ) (r : Bool) → MatchBool r (AllWithin (AsBefore before l) (range_with_len first (LONGEST - first)) 0 (length (range_with_len first (LONGEST - first)))) ((k : ℕ) × (k < length (range_with_len first (LONGEST - first))) × HoldsAt (λ i. AsBefore before l i → ⊥) (range_with_len first (LONGEST - first)) k) → Told (KeptFrom before first l) r
  kept_by_range first true all = λ k f b. subst (AsBefore before l) (get_or-range_with_len first (LONGEST - first) (k - first) 0 (omega arith) ∙ omega arith) (all (k - first) 0 (omega arith) (omega (arith, length-range_with_len first (LONGEST - first))))
  kept_by_range first false (k, within, other) = λ kept. subst (λ i. AsBefore before l i → ⊥) (get_or-range_with_len first (LONGEST - first) k 0 (omega (arith, length-range_with_len first (LONGEST - first)))) (other 0) (kept (first + k) (omega arith) (omega (arith, length-range_with_len first (LONGEST - first))))

  -- in a list as long as the longest it is the same whatever a read past the end gives
  pub kept_as_read : (first : ℕ) (past : A) → length l ≡ LONGEST → KeptFrom before first l ↔ ((k : ℕ) → first ≤ k → k < LONGEST → get_or l k past ≡ before k)
  kept_as_read first past long = (λ h k f few. h k f few past, λ h k f few other. get_or_default l k other past (omega arith) ∙ h k f few)

-- ---- lags by their excess numbers, in which code holds them elsewhere
small_before : (z : ℤ) (k : ℕ) → k < LONGEST → excess z ≡ excess_before k → mag z < 32768
small_before (pos j) k few e = omega arith
small_before (negsuc j) k few e = absurd (omega arith)

lag_is_before : (z : ℤ) (k : ℕ) → k < LONGEST → excess z ≡ excess_before k → z ≡ lag_before k
lag_is_before z k few e = sym (lag_excess z (small_before z k few e)) ∙ ap lag_of e

pub lags_kept : (first : ℕ) (l : List ℤ) → length l ≡ LONGEST → KeptFrom lag_before first l ↔ LagsKeptFrom first l
lags_kept first l long = (
  λ h k f few. ap excess (h k f few (pos 0)) ∙ excess_lag (excess_before k) (omega arith),
  λ h. (kept_as_read lag_before l first (pos 0) long).1 (λ k f few. lag_is_before (get_or l k (pos 0)) k few (h k f few)),
)
