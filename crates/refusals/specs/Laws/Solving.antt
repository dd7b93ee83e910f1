-- The solver's runs, from the lists just loaded to the answer.
-- Assumes nothing.
use Rattle.std.specs.Prelude.{◌≡◌, refl, Result, Ok, Err, List, ℕ, ◌≤◌, ◌<◌, ℤ, length, get_or}
use Rattle.std.proofs.Common.{◌∙◌, subst, arith}
use Rattle.sheet.specs.Lag.{lag_of}
use Rattle.sheet.specs.Core.{blocks_in, registers_in, shape_of, core_of}
use Rattle.sheet.specs.Filled.{filled}
use Rattle.sheet.specs.Rules.{First, answer}
use Rattle.sheet.specs.Laws.Formed.{formed_core, formed_numbers}
use Rattle.paths.specs.Table.{Table}
use Rattle.tables.specs.Row.{Rows}
use Rattle.moves.specs.Lags.{Permitted}
use Rattle.solver.specs.declared.Given.{Given}
use Rattle.solver.specs.declared.Standing.{Standing}
use Rattle.solver.specs.System.{tabled, Within}
use Rattle.solver.specs.Laws.Begun.{blank_quick, state_stays}
use Rattle.witness.specs.Written.{LoopWritten}
use Rattle.promises.specs.Lags.{Largest, NonePermitted}
use Rattle.refusals.specs.Load.{Loaded}
use Rattle.refusals.specs.Solving.{Solving, Resting, Ran, Solved, last_of}
use Rattle.promises.specs.Questions.{lags_outcome, lags_last}
use Rattle.refusals.specs.declared.Aim.{Aim}
use Rattle.refusals.specs.declared.Aim.TheVariants as A
use Rattle.refusals.specs.Laws.Load.{stands_fits}
use Rattle.refusals.specs.Laws.Solved.{rest_permitted, rest_largest, stands_with}
use Rattle.promises.specs.Laws.Done.{lags_written}
use Rattle.refusals.specs.Laws.Loops.{refused_none, best_refused_none, refused_slow}

-- what a run gave, once its case is known
module _ {s : List ℕ} {g : Given} {t : Standing} {w w' : List ℕ} {r : Result (Unit {0}) ℕ} (h : Solved s g t w w' r) where
  pub solved_rests : r ≡ Ok tt → Resting s g t × (w' ≡ w)
  solved_rests q = subst (Ran s g t w w') q h.ran

  pub solved_refuses : (count : ℕ) → r ≡ Err count → LoopWritten (core_of s) g.period w w' count
  solved_refuses count q = subst (Ran s g t w w') q h.ran

-- ---- lags at rest
module _ {s : List ℕ} {g : Given} {t : Standing} (R : Resting s g t) where
  blocks : g.n ≡ blocks_in s
  blocks = R.solving.stands.n_is

  -- the lags are permitted, and with a path table they are the largest that meet the period
  pub resting_permitted : Permitted (core_of s) (λ b. lag_of (get_or t.lags b 0))
  resting_permitted = rest_permitted R.solving.stands R.solving.state R.rest

  pub resting_largest : Table (shape_of s) (registers_in s) g.registers g.delays → Largest (core_of s) g.period (λ b. lag_of (get_or t.lags b 0))
  resting_largest T = rest_largest R.solving.stands R.solving.state R.rest T

  module _ {registers' delays' : List ℕ} (W : Rows (shape_of s) (registers_in s) g.n g.registers g.delays registers' delays') where
    pub table_written : Table (shape_of s) (registers_in s) registers' delays'
    table_written u v hu hv = W.entry u v (omega (arith, blocks)) hv

    -- lags without path rules: the solver goes on from there at any period
    pub goes_on : (q : ℕ) → Loaded s g → Solving s (tabled g q registers' delays') t
    goes_on q L =
        let F = R.solving.state.fit in
        let S = stands_with R.solving.stands q registers' delays' table_written in
        let quick : Within g.delays g.period = rw L.unused.delays_are (blank_quick g.period) in
        let fit =
        stands_fits S
        (record {
          lower_long = F.lower_long;
          upper_long = F.upper_long;
          from_long = F.from_long;
          to_long = F.to_long;
          wires_long = F.wires_long;
          ceilings_long = F.ceilings_long;
          registers_long = W.ws_kept.long ∙ F.registers_long;
          delays_long = W.ds_kept.long ∙ F.delays_long;
        }) in
        record { stands = S; state = state_stays quick q registers' delays' fit R.solving.state }

  -- they are few, and each is an i16
  pub resting_few : g.n ≤ 64
  resting_few = R.solving.state.fit.few_blocks

  pub resting_small : (b : ℕ) → b < g.n → get_or t.lags b 0 < 65536
  resting_small b h =
      let S = R.solving.stands in
      let k : b < blocks_in s = omega (arith, blocks) in
      omega (arith, R.solving.state.high b h, S.upper_is b k, (formed_numbers (core_of s) (formed_core s S.sound.formed) b k).highest)

-- ---- refusals: the first run finds that no permitted lags exist, a later one that none meets the period
module _ {s : List ℕ} {g : Given} {t : Standing} {w w' : List ℕ} {r : Result (Unit {0}) ℕ} (l : List ℤ) (count : ℕ) (q : r ≡ Err count) where
  pub first_refuses : (aim : Aim) → Loaded s g → Solved s g t w w' r → First (last_of s aim l w) (lags_outcome (answer 10 0 count) l w')
  first_refuses (A.At c) L h = refused_none s L.held.stands.sound l w w' (answer 10 0 count) count refl (subst (λ p. LoopWritten (core_of s) p w w' count) L.unused.period_is (solved_refuses h count q)) c
  first_refuses A.Least L h = best_refused_none s L.held.stands.sound l w w' (answer 10 0 count) count refl (subst (λ p. LoopWritten (core_of s) p w w' count) L.unused.period_is (solved_refuses h count q))

  pub later_refuses : {g₀ : Given} {t₀ : Standing} → Resting s g₀ t₀ → Solved s g t w w' r → First (lags_last s g.period l w) (lags_outcome (answer 11 0 count) l w')
  later_refuses R h = refused_slow s R.solving.stands.sound l w w' (answer 11 0 count) count g.period refl (solved_refuses h count q) _ (resting_permitted R)

-- a run that came to rest: what the writer of lags needs, and the answer 0 with the lags that it wrote
module _ {s : List ℕ} {g : Given} {t : Standing} {w w' : List ℕ} {r : Result (Unit {0}) ℕ} (h : Solved s g t w w' r) (q : r ≡ Ok tt) where
  pub later_writes : (k : ℕ) → g.n ≤ k → (g.n ≤ 64) × (length t.lags ≡ 64) × (g.n ≤ k) × ((b : ℕ) → b < g.n → get_or t.lags b 0 < 65536)
  later_writes k long = let R = (solved_rests h q).0 in (resting_few R, R.solving.state.lags_long, long, resting_small R)

  pub later_done : Table (shape_of s) (registers_in s) g.registers g.delays → (l l' : List ℤ) → g.n ≤ length l → l' ≡ filled (λ b. lag_of (get_or t.lags b 0)) g.n l → First (lags_last s g.period l w) (lags_outcome (answer 0 0 0) l' w')
  later_done T l l' long f =
      let R = solved_rests h q in
      lags_written t.lags R.0.solving.stands.sound.formed (blocks R.0) (resting_largest R.0 T) l l' w w' long f R.1

-- no lags are permitted, so the solver does not come to rest
pub hopeless_rest : {s : List ℕ} {g : Given} {t : Standing} → NonePermitted (core_of s) → Resting s g t → ⊥
hopeless_rest none R = none _ (resting_permitted R)
