-- What a filled list holds, and the turns of a loop that fills it.
-- Assumes nothing.
use Rattle.std.specs.Prelude.{◌≡◌, List, length, get_or, set}
use Rattle.std.proofs.Math.Path.{refl}
use Rattle.std.proofs.Common.{◌∙◌, ap, arith, get_or-set_same}
use Prim.Native.Nat.{ℕ, zero, suc, ◌+◌, ◌<◌, ◌≤◌}
use Rattle.std.proofs.Math.Decide.{ℕ_discrete}
use Rattle.std.proofs.Math.Numerals.{add-one}
use Rattle.std.proofs.Math.ListN.{length-set}
use Rattle.std.proofs.Math.Seq.{get_or-set_other}
use Rattle.sheet.specs.Filled.{filled}

module _ {A : Type 0} (f : ℕ → A) where
  pub length_filled : (n : ℕ) (l : List A) → length (filled f n l) ≡ length l
  unfolding filled
  length_filled zero l = refl
  length_filled (suc n) l = length-set (filled f n l) n (f n) ∙ length_filled n l

  pub filled_past : (n : ℕ) (l : List A) (k : ℕ) (d : A) → n ≤ k → get_or (filled f n l) k d ≡ get_or l k d
  unfolding filled
  filled_past zero l k d h = refl
  filled_past (suc n) l k d h = get_or-set_other (filled f n l) n k (f n) d (λ e. omega arith) ∙ filled_past n l k d (omega arith)

  at_last : (n k : ℕ) (l : List A) (d : A) → k < suc n → suc n ≤ length l → (k < n → get_or (filled f n l) k d ≡ f k) → Dec (k ≡ n) → get_or (filled f (suc n) l) k d ≡ f k
  unfolding filled
  at_last n k l d h g below (yes e) = rw e (get_or-set_same (filled f n l) n (f n) d (rw (length_filled n l) g))
  at_last n k l d h g below (no e) = get_or-set_other (filled f n l) n k (f n) d e ∙ below (omega arith)

  pub filled_at : (n : ℕ) (l : List A) (k : ℕ) (d : A) → k < n → n ≤ length l → get_or (filled f n l) k d ≡ f k
  filled_at zero l k d h g = absurd (omega arith)
  filled_at (suc n) l k d h g = at_last n k l d h g (λ b. filled_at n l k d b (omega arith)) (ℕ_discrete k n)

  -- ---- a loop that fills: its start, a turn, its end
  pub filled_none : (l : List A) → filled f 0 l ≡ l
  unfolding filled
  filled_none l = refl

  pub filled_turn : (i : ℕ) (l₀ l : List A) (v : A) → l ≡ filled f i l₀ → v ≡ f i → set l i v ≡ filled f (i + 1) l₀
  unfolding filled
  filled_turn i l₀ l v p q = rw (p, q, add-one i)

  pub filled_done : (i n : ℕ) (l₀ l : List A) → l ≡ filled f i l₀ → i ≤ n → n ≤ i → l ≡ filled f n l₀
  filled_done i n l₀ l p h k = p ∙ ap (λ (j : ℕ). filled f j l₀) (omega arith)

-- the same entries: the same list
pub filled_same : {A : Type 0} (f g : ℕ → A) (n : ℕ) (l : List A) → ((i : ℕ) → i < n → f i ≡ g i) → filled f n l ≡ filled g n l
unfolding filled
filled_same f g zero l h = refl
filled_same f g (suc n) l h = rw (filled_same f g n l (λ i k. h i (omega arith)), h n (omega arith))
