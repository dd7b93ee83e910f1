-- The loop over the lanes of one wire: its start and its two kinds of turns.
-- Assumes nothing.
use Rattle.std.specs.Prelude.{◌≡◌, refl, ◌⊎◌, List, ℕ, ◌+◌, ◌*◌, ◌-◌, ◌≤◌, ◌<◌, set}
use Rattle.std.proofs.Common.{◌∙◌, inr, arith, below_more, length-set, get_or-set_same}
use Rattle.std.proofs.lemmas.List.{set-get_or}
use Rattle.keys.specs.Keys.{entry}
use Rattle.keys.specs.Filling.{Within, Lanes}
use Rattle.sheet.specs.Laws.Sum.{sum_set}
use Rattle.keys.specs.Laws.Entry.{entry_set}

-- the numbers of a lane that is not tried yet
pub lane_room : {f t plus minus i : ℕ} {keys₀ keys : List ℕ} {r : ℕ} → Lanes f t plus minus i keys₀ keys r → Within keys₀ → f < 64 → i < 64 → (10000 ≤ entry keys i f) × (entry keys i f ≤ 2099249152)
lane_room {f} {i = i} L W hf hi = (omega (arith, L.ahead i f hi hf (omega arith), W.low i f hi hf), omega (arith, L.ahead i f hi hf (omega arith), W.high i f hi hf))

module _ {f t plus minus i : ℕ} {keys₀ keys : List ℕ} {r : ℕ} (L : Lanes f t plus minus i keys₀ keys r) (hf : f < 64) (ht : t < 64) (hi : i < 64) (x : ℕ) (offer : x + minus ≡ entry keys i f + plus) where
  offered : x + minus ≡ entry keys₀ i f + plus
  offered = omega (arith, L.ahead i f hi hf (omega arith))

  -- the wire's offer is lower
  lower : x < entry keys i t → Lanes f t plus minus (i + 1) keys₀ (set keys (t * 64 + i) x) (r + 1)
  lower lt = record {
    long = length-set keys (t * 64 + i) x ∙ L.long;
    few = omega (arith, L.few);
    less = omega (arith, L.less, sum_set keys (t * 64 + i) x (omega (arith, L.long)));
    same = λ q. absurd (omega (arith, q));
    lowered = below_more (λ (u : ℕ). entry (set keys (t * 64 + i) x) u t + minus ≤ entry keys₀ u f + plus) i
        (λ u l. entry_set (λ (a b k : ℕ). a ≡ u → b ≡ t → k + minus ≤ entry keys₀ u f + plus) keys L.long i t x hi ht
        (λ e _. absurd (omega (arith, e))) (λ a b _ _ _ ea eb. rw (ea, eb) (L.lowered u l)) u t (omega arith) ht refl refl)
        (omega (arith, offered, get_or-set_same keys (t * 64 + i) x 0 (omega (arith, L.long))));
    falls = entry_set (λ (u v k : ℕ). k ≤ entry keys₀ u v) keys L.long i t x hi ht (omega (arith, L.falls i t hi ht)) (λ u v hu hv _. L.falls u v hu hv);
    kept = entry_set (λ (u v k : ℕ). (k ≡ entry keys₀ u v) ⊎ ((v ≡ t) × (k + minus ≡ entry keys₀ u f + plus))) keys L.long i t x hi ht
        (inr (refl, offered)) (λ u v hu hv _. L.kept u v hu hv);
    ahead = entry_set (λ (u v k : ℕ). i + 1 ≤ u → k ≡ entry keys₀ u v) keys L.long i t x hi ht
        (λ h. absurd (omega (arith, h))) (λ u v hu hv _ h. L.ahead u v hu hv (omega (arith, h)));
  }

  -- it is not
  keep : (x < entry keys i t → ⊥) → Lanes f t plus minus (i + 1) keys₀ (set keys (t * 64 + i) (entry keys i t)) r
  keep nl = rw (set-get_or keys (t * 64 + i) 0) (record {
    long = L.long;
    few = omega (arith, L.few);
    less = L.less;
    same = L.same;
    lowered = below_more (λ (u : ℕ). entry keys u t + minus ≤ entry keys₀ u f + plus) i L.lowered (omega (arith, offered, nl));
    falls = L.falls;
    kept = L.kept;
    ahead = λ u v hu hv h. L.ahead u v hu hv (omega (arith, h));
  })

-- the turns as code takes them
module _ {f t plus minus i : ℕ} {keys₀ keys : List ℕ} {r : ℕ} (L : Lanes f t plus minus i keys₀ keys r) (hf : f < 64) (ht : t < 64) (hi : i < 64) (W : Within keys₀) (hm : minus ≤ 10000) (new changed : ℕ) where
  offer_is : entry keys i f + plus - minus + minus ≡ entry keys i f + plus
  offer_is = omega (arith, lane_room L W hf hi)

  pub lanes_lower : new ≡ entry keys i f + plus - minus → changed ≡ r + 1 → entry keys i f + plus - minus < entry keys i t → Lanes f t plus minus (i + 1) keys₀ (set keys (t * 64 + i) new) changed
  lanes_lower en ec lt = rw (en, ec) (lower L hf ht hi (entry keys i f + plus - minus) offer_is lt)

  pub lanes_keep : new ≡ entry keys i t → changed ≡ r → entry keys i t ≤ entry keys i f + plus - minus → Lanes f t plus minus (i + 1) keys₀ (set keys (t * 64 + i) new) changed
  lanes_keep en ec le = rw (en, ec) (keep L hf ht hi (entry keys i f + plus - minus) offer_is (λ lt. omega (arith, lt, le)))
