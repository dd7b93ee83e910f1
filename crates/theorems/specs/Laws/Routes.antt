-- Demand 3 through the questions alone: ask, move by the lags found, and the sheet delivered is one whichever route was taken.
-- Assumes nothing.
use Rattle.std.specs.Prelude.{◌≡◌, List, ℕ, ◌≤◌, ◌<◌, ℤ, pos, length, take}
use Rattle.std.proofs.Common.{ap, ◌∙◌, arith}
use Rattle.sheet.specs.Core.{blocks_in}
use Rattle.sheet.specs.Rules.{answer}
use Rattle.sheet.specs.declared.answer.Answer.{Answer}
use Rattle.paths.specs.Questions.{CheckRight}
use Rattle.moves.specs.Lags.{lags_in}
use Rattle.moves.specs.Move.{MoveOutcome, MoveDone, MoveRight}
use Rattle.moves.specs.Laws.Theorems.{move_means, permitted_moves}
use Rattle.promises.specs.Questions.{LagsOutcome, LagsRight, BestRight, PeriodRight}
use Rattle.promises.specs.Laws.Asked.{LongLists}
use Rattle.theorems.specs.Laws.Theorems.{lags_mean_done, lags_long, best_means_done, best_long}
use Rattle.theorems.specs.Laws.Delivered.{Follows, lags_follow, best_follow, delivered_checks, delivered_period, delivered_lags, delivered_best}

-- ---- a sheet can be moved by the lags found on it
module _ (s : List ℕ) (l : List ℤ) (w : List ℕ) (o : LagsOutcome) (z : o.says.number ≡ 0) (l₁ : List ℕ) (m : MoveOutcome) (room : length s ≤ length l₁) (h : MoveRight s o.lags l₁ m) where
  -- move answers 0 and writes the moved sheet
  pub lags_deliver : (c : ℕ) → LagsRight s c l w o → MoveDone s (lags_in o.lags) l₁ m
  lags_deliver c a =
      let d = lags_mean_done s c l w o a z in
      permitted_moves s o.lags l₁ m d.0 d.1.largest.meets.permitted (omega (arith, (lags_long s c l w o a z).lags_long, d.1.lags_kept.long)) room h

  pub best_deliver : BestRight s l w o → MoveDone s (lags_in o.lags) l₁ m
  best_deliver a =
      let d = best_means_done s l w o a z in
      permitted_moves s o.lags l₁ m d.0 d.1.done.largest.meets.permitted (omega (arith, (best_long s l w o a z).lags_long, d.1.done.lags_kept.long)) room h

-- ---- T10 for a sheet s and what the question move made of it
module _ (s : List ℕ) (lags : List ℤ) (l₁ : List ℕ) (m : MoveOutcome) (hm : MoveRight s lags l₁ m) (zm : m.says.number ≡ 0) where
  abbrev pub s' : List ℕ
  s' = take (length s) m.moved

  module _ (l l' : List ℤ) (w w' : List ℕ) (long : LongLists s l w) (long' : LongLists s' l' w') (o o' : LagsOutcome) where
    -- numbers, places, values and lags
    pub lags_route : (c : ℕ) → LagsRight s c l w o → LagsRight s' c l' w' o' → Follows s (lags_in lags) s' o o'
    lags_route c a a' =
        let k = move_means s lags l₁ m hm zm in
        lags_follow s (lags_in lags) s' k.sound k.permitted k.done.moved_sheet l l' w w' long long' o o' c a a'

    pub best_route : BestRight s l w o → BestRight s' l' w' o' → Follows s (lags_in lags) s' o o'
    best_route a a' =
        let k = move_means s lags l₁ m hm zm in
        best_follow s (lags_in lags) s' k.sound k.permitted k.done.moved_sheet l l' w w' long long' o o' a a'

    -- and the delivered sheets, byte for byte
    module _ (z : o.says.number ≡ 0) (l₂ l₃ : List ℕ) (m₂ m₃ : MoveOutcome) (room₂ : length s ≤ length l₂) (room₃ : length s' ≤ length l₃)
        (h₂ : MoveRight s o.lags l₂ m₂) (h₃ : MoveRight s' o'.lags l₃ m₃) where
      pub lags_one_sheet : (c : ℕ) → LagsRight s c l w o → LagsRight s' c l' w' o' → take (length s) m₂.moved ≡ take (length s') m₃.moved
      lags_one_sheet c a a' =
          let f = lags_route c a a' in
          f.delivered_same z (take (length s) m₂.moved) (take (length s') m₃.moved)
          (lags_deliver s l w o z l₂ m₂ room₂ h₂ c a).moved_sheet
          (lags_deliver s' l' w' o' (f.number_same ∙ z) l₃ m₃ room₃ h₃ c a').moved_sheet

      pub best_one_sheet : BestRight s l w o → BestRight s' l' w' o' → take (length s) m₂.moved ≡ take (length s') m₃.moved
      best_one_sheet a a' =
          let f = best_route a a' in
          f.delivered_same z (take (length s) m₂.moved) (take (length s') m₃.moved)
          (best_deliver s l w o z l₂ m₂ room₂ h₂ a).moved_sheet
          (best_deliver s' l' w' o' (f.number_same ∙ z) l₃ m₃ room₃ h₃ a').moved_sheet

-- ---- T13: what the questions say of a delivered sheet t whose best period is p
pub record Delivered (t : List ℕ) (p : ℕ) : Type 0 where
  -- check answers 0
  pub checks : (a : Answer) → CheckRight t a → a ≡ answer 0 0 0
  -- its period as it stands is p
  pub stands : (a : Answer) → PeriodRight t a → a ≡ answer 0 0 p
  -- its own largest lags at p are all 0, and its best period is p with the same lags
  pub own_lags : (l : List ℤ) (w : List ℕ) (o : LagsOutcome) → LongLists t l w → LagsRight t p l w o → (o.says ≡ answer 0 0 0) × ((b : ℕ) → b < blocks_in t → lags_in o.lags b ≡ pos 0)
  pub own_best : (l : List ℤ) (w : List ℕ) (o : LagsOutcome) → LongLists t l w → BestRight t l w o → (o.says ≡ answer 0 0 p) × ((b : ℕ) → b < blocks_in t → lags_in o.lags b ≡ pos 0)

-- ask for the best period p, move by its lags: the move answers 0, and the sheet is delivered
pub best_delivered : (s : List ℕ) (l : List ℤ) (w : List ℕ) (o : LagsOutcome) (p : ℕ) (l₁ : List ℕ) (m : MoveOutcome) → BestRight s l w o → o.says ≡ answer 0 0 p
    → length s ≤ length l₁ → MoveRight s o.lags l₁ m → (m.says ≡ answer 0 0 0) × Delivered (take (length s) m.moved) p
best_delivered s l w o p l₁ m a e room h =
    let d = best_deliver s l w o (ap (λ (x : Answer). x.number) e) l₁ m room h a in
    let t = take (length s) m.moved in
    let mv = d.moved_sheet in (
      d.says_done,
      record {
        checks = delivered_checks s l w o a p e t mv;
        stands = delivered_period s l w o a p e t mv;
        own_lags = delivered_lags s l w o a p e t mv;
        own_best = delivered_best s l w o a p e t mv;
      },
    )
