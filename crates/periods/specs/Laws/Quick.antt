-- What the descent found says of the sheet.
-- Assumes nothing.
use Rattle.std.specs.Prelude.{◌≡◌, refl, List, ℕ, ◌≤◌, ◌<◌, min, ℤ, length, get_or, Option, Some, None}
use Rattle.std.proofs.Common.{subst, arith}
use Rattle.std.proofs.Math.Decide.{dec_le}
use Rattle.std.proofs.Math.Nat.{min-eq_left}
use Rattle.sheet.specs.Lag.{lag_of}
use Rattle.sheet.specs.Core.{blocks_in, core_of}
use Rattle.sheet.specs.Filled.{filled}
use Rattle.sheet.specs.Rules.{First, answer}
use Rattle.paths.specs.Questions.{SoundSheet}
use Rattle.moves.specs.Lags.{Meets}
use Rattle.descent.specs.System.{Keeps}
use Rattle.descent.specs.State.{AtRest}
use Rattle.descent.specs.Least.{LeastRest}
use Rattle.descent.specs.declared.rules.Rules.{Rules}
use Rattle.bounds.specs.Ruled.{Ruled}
use Rattle.bounds.specs.Laws.Meets.{meets_keeps, permitted_meets, rest_meets, rest_largest, floor_none}
use Rattle.promises.specs.Lags.{Largest, Least, NonePermitted}
use Rattle.periods.specs.Quick.{Sought, Lags, Answers, Quick}
use Rattle.refusals.specs.Solving.{last_of, Hopeless}
use Rattle.promises.specs.Questions.{lags_outcome}
use Rattle.promises.specs.Laws.Done.{lags_written, best_written}
use Rattle.refusals.specs.declared.Aim.{Aim}
use Rattle.refusals.specs.declared.Aim.TheVariants as A
use Rattle.periods.specs.declared.quick.Found.{Found}

-- ---- what the descent's end says of the sheet
module _ {s : List ℕ} (g : Rules) (R : Ruled s g.keys.now g.lower.now g.upper.now) where
  -- lags at rest are the largest
  rest_is : {c : ℕ} {e : List ℕ} → c < 1048576 → AtRest g c e → Largest (core_of s) c (λ b. lag_of (get_or e b 0))
  rest_is h A = record { meets = rest_meets R h A; largest = rest_largest R h A }

  -- at a period that is longer than every path, all permitted lags meet it
  longer : {c : ℕ} {r : ℕ → ℤ} → 1048575 ≤ c → Largest (core_of s) 1048575 r → Largest (core_of s) c r
  longer {c} {r} h L = record {
    meets = permitted_meets R c (omega arith) r L.meets.permitted;
    largest = λ q M. L.largest q (permitted_meets R 1048575 (omega arith) q M.permitted);
  }

  at_period : (c : ℕ) {e : List ℕ} → Dec (c ≤ 1048575) → AtRest g (min c 1048575) e → Largest (core_of s) c (λ b. lag_of (get_or e b 0))
  at_period c (yes h) A = rest_is (omega arith) (rw (min-eq_left h) at A)
  at_period c (no h) A =
      let e : min c 1048575 ≡ 1048575 = omega arith in
      longer (omega arith) (rest_is (omega arith) (rw e at A))

  least_is : {p : ℕ} {e : List ℕ} → LeastRest g 1048575 p e → Least (core_of s) p
  least_is {p} {e} L = record {
    lags = λ b. lag_of (get_or e b 0);
    met = rest_meets R (omega (arith, L.within)) L.rest;
    least = λ q r M. go q r M (dec_le p q);
  }
    where
      go : (q : ℕ) (r : ℕ → ℤ) → Meets (core_of s) q r → Dec (p ≤ q) → p ≤ q
      go q r M (yes le) = le
      go q r M (no gt) = absurd (floor_none R (omega (arith, L.within)) L.floor (omega arith) r M)

  none_is : ((x : ℕ → ℕ) → Keeps g.keys.now g.lower.now g.upper.now 1048575 x → ⊥) → NonePermitted (core_of s)
  none_is f r P = f _ (meets_keeps R 1048575 (omega arith) r (permitted_meets R 1048575 (omega arith) r P))

  rest_lags : {c : ℕ} {e : List ℕ} → AtRest g c e → Lags e
  rest_lags A = record { long = A.state.e_long; small = λ b h. omega (arith, A.state.high b h, A.state.fit.high b h) }

  answers_by : (aim : Aim) (found : Option Found) → Sought g aim found → Answers s aim found
  answers_by (A.At c) (Some f) q = (rest_lags q.1, at_period c (dec_le c 1048575) q.1, q.0)
  answers_by A.Least (Some f) q = (rest_lags q.rest, rest_is (omega (arith, q.within)) q.rest, least_is q)
  answers_by (A.At c) None q = tt
  answers_by A.Least None q = none_is q

  pub quick_is : (aim : Aim) (found : Option Found) → Sought g aim found → Quick s aim found
  quick_is aim found q = record { answers = answers_by aim found q }

-- ---- the answer that was found is written out
module _ {s : List ℕ} {n : ℕ} {aim : Aim} {found : Option Found} (S : SoundSheet s) (n_is : n ≡ blocks_in s) (Q : Quick s aim found) where
  told : {f : Option Found} → found ≡ f → Answers s aim f
  told q = subst (Answers s aim) q Q.answers

  pub quick_hopeless : found ≡ None → Hopeless s aim
  quick_hopeless q = told q

  found_lags : (a : Aim) (f : Found) → Answers s a (Some f) → Lags f.lags
  found_lags (A.At c) f q = q.0
  found_lags A.Least f q = q.0

  module _ (f : Found) (q : found ≡ Some f) where
    pub quick_writes : (k : ℕ) → n ≤ k → (n ≤ 64) × (length f.lags ≡ 64) × (n ≤ k) × ((b : ℕ) → b < n → get_or f.lags b 0 < 65536)
    quick_writes k long =
        let few = S.formed.framed.few_blocks in
        let l = found_lags aim f (told q) in
        (omega arith, l.long, long, λ b h. l.small b (omega arith))

    done_by : (a : Aim) (l l' : List ℤ) (w : List ℕ) → n ≤ length l → l' ≡ filled (λ b. lag_of (get_or f.lags b 0)) n l
        → Answers s a (Some f) → First (last_of s a l w) (lags_outcome (answer 0 0 f.value) l' w)
    done_by (A.At c) l l' w long e z = rw z.2 (lags_written f.lags S.formed n_is z.1 l l' w w long e refl)
    done_by A.Least l l' w long e z = best_written f.lags S.formed n_is z.1 l l' w w long e refl z.2

    pub quick_done : (l l' : List ℤ) (w : List ℕ) → n ≤ length l → l' ≡ filled (λ b. lag_of (get_or f.lags b 0)) n l → First (last_of s aim l w) (lags_outcome (answer 0 0 f.value) l' w)
    quick_done l l' w long e = done_by aim l l' w long e (told q)
