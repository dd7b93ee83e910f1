-- One column of the keys, pushed lane by lane.
-- Assumes nothing.
use Rattle.std.specs.Prelude.{ℕ, ◌+◌, ◌<◌, ◌≤◌, ◌≡◌, List, get_or, set}
use Rattle.std.proofs.Common.{◌∙◌, inl, inr, arith, below_more, length-set, get_or-set_same, get_or-set_other}
use Rattle.sheet.specs.Laws.Sum.{sum_set}
use Rattle.descent.specs.State.{bar, Lowered, Pushed}

module _ {keys : List ℕ} {c v ev : ℕ} (e : List ℕ) where
  module _ {e' : List ℕ} {u : ℕ} (P : Pushed keys c v ev e e' u) (hu : u < 64) (x : ℕ) where
    stored : (w : ℕ) → (w ≡ u → ⊥) → get_or (set e' u x) w 0 ≡ get_or e' w 0
    stored w n = get_or-set_other e' u w x 0 n

    here : get_or (set e' u x) u 0 ≡ x
    here = get_or-set_same e' u x 0 (omega (arith, P.e_long))

    before : (w : ℕ) → w < u → Lowered keys c v ev e (set e' u x) w
    before w h = let q = stored w (λ z. omega arith) in rw q (P.done w h)

    push_turn : x ≤ get_or e' u 0 → Lowered keys c v ev e (set e' u x) u → Pushed keys c v ev e (set e' u x) (u + 1)
    push_turn le l = record {
      e_long = length-set e' u x ∙ P.e_long;
      done = below_more (λ (i : ℕ). Lowered keys c v ev e (set e' u x) i) u before l;
      rest = λ i h. stored i (λ z. omega arith) ∙ P.rest i (omega arith);
      less = omega (arith, P.less, sum_set e' u x (omega (arith, P.e_long)));
    }

    -- the block is lowered
    pub push_lowers : x + 1 ≡ bar keys c v ev u → bar keys c v ev u ≤ get_or e' u 0 → Pushed keys c v ev e (set e' u x) (u + 1)
    push_lowers q h = push_turn (omega arith) (inl (omega (arith, P.rest u (omega arith)), omega (arith, here)))

    -- the block stays
    pub push_stays : get_or e' u 0 < bar keys c v ev u → x ≡ get_or e' u 0 → Pushed keys c v ev e (set e' u x) (u + 1)
    push_stays h q =
        let r = P.rest u (omega arith) in
        push_turn (omega arith) (inr (omega (arith, r), here ∙ q ∙ r))
