-- The moved sheet has the header of the sheet, and room for all its wires.
use Rattle.std.proofs.Common.{arith, rules}
use mathlib.Core.Path.{◌≡◌}
use mathlib.Core.List.{List}
use Prim.Native.Nat.{ℕ, ◌+◌, ◌*◌, ◌<◌, ◌≤◌}
use lib.IntN.{ℤ}
use lib.ListN.{length, length-replicate, replicate, take}
use lib.Seq.{get_or-take, length-take-le}
use Rattle.sheet.specs.Core.{blocks_in, wires_in}
use Rattle.sheet.specs.Sheet.{Framed}
use Rattle.sheet.specs.declared.answer.Answer.{Answer}
use Rattle.moves.specs.Lags.{lags_in}
use Rattle.moves.specs.Move.{MoveRight, move_outcome}
use Rattle.moves.specs.Laws.Sheets.{same_blocks}
use Rattle.moves.specs.Laws.Theorems.{move_means}
use Rattle.note.proofs.note.lines.Goals as goal

-- a list that begins as the sheet's first bytes has its number of blocks
blocks-of : (s t : List ℕ) → 1 < length s → blocks_in (take (length s) t) ≡ blocks_in t
blocks-of s t h = omega (arith, get_or-take (length s) t 0 0 (omega arith), get_or-take (length s) t 1 0 h)

placed : (s : List ℕ) (lags : List ℤ) (l t : List ℕ) (a : Answer) (n m : ℕ) → MoveRight s lags l (move_outcome a t) → a.number ≡ 0 → length l ≡ 2576
    → (n ≡ blocks_in s) × (m ≡ wires_in s) × Framed s
    → (n ≤ 64) × (m ≤ 256) × (n ≡ blocks_in s) × (n ≡ blocks_in t) × (16 + 8 * n + 8 * m ≤ length s) × (16 + 8 * n + 8 * m ≤ length t)
placed s lags l t a n m h z k f =
    let d = (move_means s lags l (move_outcome a t) h z).done in
    let long = f.2.offsets.whole in
    let few = f.2.few_blocks in
    let wires = f.2.few_wires in
    let kept = d.rest.long in
    let same = same_blocks s (lags_in lags) (take (length s) t) d.moved_sheet in (
      omega arith,
      omega arith,
      f.0,
      omega (arith, same, blocks-of s t (omega arith)),
      omega arith,
      omega arith,
    )

pub invariant_of-note : goal.invariant_of-note
invariant_of-note c =
    let p = placed c.args.sheet.now c.best.new.lags (replicate 2576 0) _ c.move_by.result _ _ c.move_by.ensures c.in_ok-value_of.ensures.done.0 (length-replicate {A = ℕ} 2576 0) (c.in_ok-opened.ensures.1, c.in_ok-opened.ensures.2, c.in_ok-opened.ensures.3) in
    let long = length-take-le c.in_ok-opened.opened.n c.best.new.lags (omega arith) in search rules
