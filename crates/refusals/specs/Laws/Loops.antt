-- The loops that the library writes are those that 10 and 11 promise.
-- Assumes nothing.
use Rattle.std.specs.Prelude.{◌≡◌, refl, List, ◌∷◌, ℕ, ◌<◌, ℤ, take}
use Rattle.std.proofs.Common.{arith}
use Rattle.sheet.specs.Core.{core_of, registers_in, shape_of}
use Rattle.sheet.specs.Rules.{First, answer}
use Rattle.sheet.specs.Laws.Formed.{formed_core}
use Rattle.sheet.specs.declared.answer.Answer.{Answer}
use Rattle.paths.specs.Table.{Best}
use Rattle.paths.specs.Questions.{SoundSheet}
use Rattle.paths.specs.Laws.Questions.{sound_core}
use Rattle.moves.specs.Lags.{Permitted}
use Rattle.loops.specs.Link.{NoPath}
use Rattle.witness.specs.Written.{LoopWritten}
use Rattle.witness.specs.Laws.Plain.{valid_plain}
use Rattle.promises.specs.Lags.{LoopGiven, PlainLoop}
use Rattle.promises.specs.Questions.{lags_outcome, LagsRefused, lags_last, best_last}
use Rattle.tables.specs.Laws.Small.{best_quick}
use Rattle.promises.specs.Laws.Asked.{plain_none, given_none, lags_none, lags_slow, best_none}

-- no path is slower than the longest period
pub no_slow : (s : List ℕ) → SoundSheet s → (u v W D : ℕ) → Best (shape_of s) (registers_in s) u v W D → 4294967295 < D → ⊥
no_slow s S u v W D b l = omega (arith, best_quick (core_of s) (sound_core s S) u v W D b)

module _ (s : List ℕ) (S : SoundSheet s) (l : List ℤ) (w w' : List ℕ) (a : Answer) (r : ℕ) where
  -- ---- 11
  module _ (c : ℕ) (says : a ≡ answer 11 0 r) (L : LoopWritten (core_of s) c w w' r) where
    given_loop : LoopGiven (core_of s) c (take r w')
    given_loop = record { valid = L.valid; once = L.once }

    loop_given : LagsRefused s 11 (LoopGiven (core_of s) c) l w (lags_outcome a l w')
    loop_given = record { count = r; says_refused = says; loop = given_loop; few = L.few; words_kept = L.kept; lags_kept = refl }

    -- permitted lags exist, and the loop says that none meets the period
    pub refused_slow : (q : ℕ → ℤ) → Permitted (core_of s) q → First (lags_last s c l w) (lags_outcome a l w')
    refused_slow q h = lags_slow s l w (lags_outcome a l w') c q h (given_none (core_of s) (formed_core s S.formed) c (take r w') given_loop) loop_given

  -- ---- 10: at the longest period no path is slow, so the loop has no link of kind 2
  module _ (says : a ≡ answer 10 0 r) (L : LoopWritten (core_of s) 4294967295 w w' r) where
    links_plain : NoPath (core_of s) (L.valid.first ∷ L.valid.others)
    links_plain = L.plain (no_slow s S)

    plain_loop : PlainLoop (core_of s) (take r w')
    plain_loop = record { given = λ q. record { valid = valid_plain (core_of s) 4294967295 q (take r w') L.valid links_plain; once = L.once }; plain = λ q. links_plain }

    loop_plain : LagsRefused s 10 (PlainLoop (core_of s)) l w (lags_outcome a l w')
    loop_plain = record { count = r; says_refused = says; loop = plain_loop; few = L.few; words_kept = L.kept; lags_kept = refl }

    -- the loop says that no permitted lags exist: lags at period c, and best period
    pub refused_none : (c : ℕ) → First (lags_last s c l w) (lags_outcome a l w')
    refused_none c = lags_none s l w (lags_outcome a l w') c (plain_none (core_of s) (formed_core s S.formed) (take r w') plain_loop) loop_plain

    pub best_refused_none : First (best_last s l w) (lags_outcome a l w')
    best_refused_none = best_none s l w (lags_outcome a l w') (plain_none (core_of s) (formed_core s S.formed) (take r w') plain_loop) loop_plain
