-- A sheet that passes the test is sound.
-- Assumes nothing.
use Rattle.std.specs.Prelude.{◌≡◌, List, [], ◌∷◌, ℕ, ◌+◌, ◌≤◌, ◌<◌, T, eqb, ltb, ℤ, pos, negsuc, ◌-ℤ◌, length, get_or}
use Rattle.std.proofs.Common.{ap, arith, eq-eqb, leb→le, ltb→lt, eqb→eq}
use Rattle.sheet.specs.Core.{shape_of, blocks_in, wires_in, delay_in, lower_in, upper_in, from_in, to_in, registers_in, spare_in}
use Rattle.sheet.specs.Sheet.{BlockRule, WireRule, Framed}
use Rattle.paths.specs.Path.{Joins, registers_on}
use Rattle.paths.specs.Table.{LoopAt}
use Rattle.paths.specs.Questions.{SoundSheet}
use Rattle.sums.specs.Test.{every, frame_tests, host_tests, block_tests, wire_tests, ranks, rank_test, sound_tests, sound_test}
use Rattle.sums.specs.Laws.Finite.{each, implied, all_below_lem, le_told, same_told}

block_rule : (b d : ℕ) (l u : ℤ) → T (every (block_tests b d l u)) → BlockRule b d l u
block_rule b d l u t =
    let h = each (block_tests b d l u) t in
    record {
      small = leb→le d 10000 h.0;
      lower_limits = (le_told (negsuc 999) l h.1.0, le_told l (pos 1000) h.1.1.0);
      upper_limits = (le_told (negsuc 999) u h.1.1.1.0, le_told u (pos 1000) h.1.1.1.1.0);
      ordered = le_told l u h.1.1.1.1.1.0;
      narrow = le_told (u -ℤ l) (pos 1000) h.1.1.1.1.1.1.0;
      host = λ z.
          let k = each (host_tests d l u) (implied (eqb b 0) (every (host_tests d l u)) h.1.1.1.1.1.1.1.0 (eq-eqb b 0 z)) in
          (eqb→eq d 0 k.0, same_told l (pos 0) k.1.0, same_told u (pos 0) k.1.1.0);
    }

wire_rule : (n f t w z : ℕ) → T (every (wire_tests n f t w z)) → WireRule n f t w z
wire_rule n f t w z p =
    let h = each (wire_tests n f t w z) p in
    record { from_block = ltb→lt f n h.0; to_block = ltb→lt t n h.1.0; few = leb→le w 2000 h.1.1.0; blank = eqb→eq z 0 h.1.1.1.0 }

module _ (s : List ℕ) where
  framed : T (every (frame_tests s)) → Framed s
  framed t =
      let h = each (frame_tests s) t in
      record {
        some_block = leb→le _ _ h.0;
        few_blocks = leb→le _ _ h.1.0;
        few_wires = leb→le _ _ h.1.1.0;
        offsets = record {
          blocks_at = eqb→eq _ _ h.1.1.1.0;
          wires_at = eqb→eq _ _ h.1.1.1.1.0;
          total = eqb→eq _ _ h.1.1.1.1.1.0;
          whole = eqb→eq _ _ h.1.1.1.1.1.1.0;
        };
      }

  -- along wires without registers the rank rises
  module _ (rank : ℕ → ℕ) (rises : (j : ℕ) → j < wires_in s → registers_in s j ≡ 0 → rank (from_in s j) < rank (to_in s j)) where
    rank_rises : (x : ℕ) (ws : List ℕ) (v : ℕ) → Joins (shape_of s) x ws v → registers_on (registers_in s) ws ≡ 0 → rank x + length ws ≤ rank v
    rank_rises x [] v h z = omega (arith, ap rank h.1)
    rank_rises x (j ∷ ws) v h z =
        omega (arith, rises j h.1 (omega arith), ap rank h.2, rank_rises (to_in s j) ws v h.4 (omega arith))

    no_loop : (b : ℕ) → LoopAt (shape_of s) (registers_in s) b → ⊥
    no_loop b l = omega (arith, rank_rises b (l.wire ∷ l.wires) b l.joins l.free)

  pub sound_told : T (sound_test s) → SoundSheet s
  sound_told t =
      let r = ranks s in
      let h = each (sound_tests s r) t in
      record {
        formed = record {
          framed = framed h.0;
          block = λ b k. block_rule b (delay_in s b) (lower_in s b) (upper_in s b) (all_below_lem (blocks_in s) (λ (b : ℕ). every (block_tests b (delay_in s b) (lower_in s b) (upper_in s b))) h.1.0 b k);
          wire = λ j k. wire_rule (blocks_in s) (from_in s j) (to_in s j) (registers_in s j) (spare_in s j) (all_below_lem (wires_in s) (λ (j : ℕ). every (wire_tests (blocks_in s) (from_in s j) (to_in s j) (registers_in s j) (spare_in s j))) h.1.1.0 j k);
        };
        free = no_loop (λ b. get_or r b 0) (λ j k z. ltb→lt (get_or r (from_in s j) 0) (get_or r (to_in s j) 0) (implied (eqb (registers_in s j) 0) (ltb (get_or r (from_in s j) 0) (get_or r (to_in s j) 0)) (all_below_lem (wires_in s) (rank_test s r) h.1.1.1.0 j k) (eq-eqb (registers_in s j) 0 z)));
      }
