-- Heads and links: what each reader's answer comes to.
-- Assumes nothing.
use Rattle.std.specs.Prelude.{◌≡◌, refl, ◌⊎◌, List, ℕ, ◌+◌, ◌-◌, ◌<◌, ◌≤◌, length, drop, get_or, pos}
use Rattle.std.proofs.Common.{sym, ◌∙◌, subst, inl, inr, arith}
use Rattle.sheet.specs.Core.{core_of, blocks_in, wires_in, delay_in, lower_in, upper_in, registers_in}
use Rattle.sheet.specs.Sheet.{BlockGood}
use Rattle.sheet.specs.Reads.{BlockIs, WireIs}
use Rattle.sheet.specs.Integer.{up, down}
use Rattle.sheet.specs.Laws.Integer.{minus, negated}
use Rattle.sheet.specs.Laws.Sheet.{lower_parts, upper_parts}
use Rattle.loops.specs.Link.{Link, wire, upper, lower, ceiling, Good}
use Rattle.loops.specs.Reads.{Spelt, HeadGiven, LinkGiven, WireSettled, BlockSettled}
use Rattle.loops.specs.Laws.Words.{same_link, two_words, known_kind, path_words, two_spell}
use Rattle.std.specs.Prelude.{Some, None}
use Rattle.sheet.specs.declared.block.Limit.{Limit}
use Rattle.sheet.specs.declared.block.Limit.TheVariants.{Lower, Upper}
use Rattle.loops.specs.declared.link.Bound.{Bound}
use Rattle.loops.specs.declared.link.Bound.TheVariants.{Floor, Ceiling}
use Rattle.loops.specs.declared.link.Link.TheVariants as L

-- ---- heads
module _ (words : List ℕ) (at : ℕ) where
  pub head_short : length words < at + 2 → HeadGiven words at None
  head_short h l r e = omega (arith, two_words words at l r e)

  -- no kind lies outside 1 to 5
  pub head_strange : (kind : ℕ) → kind ≡ get_or words at 0 → (kind < 1) ⊎ (5 < kind) → HeadGiven words at None
  head_strange kind q (inl h) l r e = omega (arith, known_kind words at l r e)
  head_strange kind q (inr h) l r e = omega (arith, known_kind words at l r e)

  module _ (x : ℕ) (q : get_or words (at + 1) 0 ≡ x) (h : at + 2 ≤ length words) where
    pub head_wire : get_or words at 0 ≡ 1 → HeadGiven words at (Some (L.Wire Floor x))
    head_wire e = two_spell words at 1 x (wire x) h e q refl

    pub head_ceiling : get_or words at 0 ≡ 5 → HeadGiven words at (Some (L.Wire Ceiling x))
    head_ceiling e = two_spell words at 5 x (ceiling x) h e q refl

    pub head_upper : get_or words at 0 ≡ 3 → HeadGiven words at (Some (L.Block Upper x))
    head_upper e = two_spell words at 3 x (upper x) h e q refl

    pub head_lower : get_or words at 0 ≡ 4 → HeadGiven words at (Some (L.Block Lower x))
    head_lower e = two_spell words at 4 x (lower x) h e q refl

  -- a path whose count or wires are not all there
  pub path_short : get_or words at 0 ≡ 2 → length words < at + 3 → HeadGiven words at None
  path_short k h l r e = omega (arith, path_words words at l r e k)

  pub path_cut : (count : ℕ) → get_or words at 0 ≡ 2 → count ≡ get_or words (at + 2) 0 → length words < at + 3 + count → HeadGiven words at None
  path_cut count k q h l r e = omega (arith, path_words words at l r e k)

-- ---- words that spell no good link
module _ (s : List ℕ) (p : ℕ) (words : List ℕ) (at : ℕ) where
  -- words that spell a link that is not good spell no good link
  pub not_good : (next : ℕ) (l : Link) → Spelt words at next l → (Good (core_of s) p l → ⊥) → LinkGiven s p words at None
  not_good next l h bad m rest e g = bad (subst (Good (core_of s) p) (same_link m l rest (drop next words) (sym e ∙ h.words_are)) g)

-- ---- wires
module _ (s : List ℕ) (at j : ℕ) where
  pub wire_out : (bound : Bound) → wires_in s ≤ j → WireSettled s at bound j None
  wire_out Floor h p words g = not_good s p words at (at + 2) (wire j) g (λ k. omega arith)
  wire_out Ceiling h p words g = not_good s p words at (at + 2) (ceiling j) g (λ k. omega arith)

  module _ (f t w : ℕ) (i : WireIs s j f t w) (h : j < wires_in s) where
    pub wire_good : WireSettled s at Floor j (Some (record { link = L.Wire Floor j; a = f; b = t; k = w + 32768; next = at + 2 }))
    wire_good p words g = record {
      head = g;
      link = wire j;
      spelt = g;
      good = h;
      a_is = i.from_is;
      b_is = i.to_is;
      k_is = omega (arith, i.registers_is);
      small = omega (arith, i.few);
    }

    pub ceiling_good : (k : ℕ) → k + w ≡ 34768 → WireSettled s at Ceiling j (Some (record { link = L.Wire Ceiling j; a = t; b = f; k = k; next = at + 2 }))
    ceiling_good k q p words g = record {
      head = g;
      link = ceiling j;
      spelt = g;
      good = h;
      a_is = i.to_is;
      b_is = i.from_is;
      k_is = omega (arith, q, i.registers_is, minus (pos 2000) (pos (registers_in s j)));
      small = omega (arith, q, i.few);
    }

-- ---- blocks
module _ (s : List ℕ) (at b : ℕ) where
  pub block_out : (which : Limit) → blocks_in s ≤ b → BlockSettled s at which b None
  block_out Upper h p words g = not_good s p words at (at + 2) (upper b) g (λ k. omega arith)
  block_out Lower h p words g = not_good s p words at (at + 2) (lower b) g (λ k. omega arith)

  module _ (d lo hi : ℕ) (i : BlockIs s b d lo hi) (o : BlockGood s b) (h : b < blocks_in s) where
    lower_excess : lo + down (lower_in s b) ≡ up (lower_in s b) + 32768
    lower_excess = omega (arith, i.lower_is, lower_parts b (delay_in s b) (lower_in s b) (upper_in s b) o)

    upper_excess : hi + down (upper_in s b) ≡ up (upper_in s b) + 32768
    upper_excess = omega (arith, i.upper_is, upper_parts b (delay_in s b) (lower_in s b) (upper_in s b) o)

    pub upper_good : BlockSettled s at Upper b (Some (record { link = L.Block Upper b; a = b; b = 0; k = hi; next = at + 2 }))
    upper_good p words g = record {
      head = g;
      link = upper b;
      spelt = g;
      good = h;
      a_is = refl;
      b_is = refl;
      k_is = upper_excess;
      small = omega (arith, i.numbers.highest);
    }

    pub lower_good : BlockSettled s at Lower b (Some (record { link = L.Block Lower b; a = 0; b = b; k = 65536 - lo; next = at + 2 }))
    lower_good p words g = record {
      head = g;
      link = lower b;
      spelt = g;
      good = h;
      a_is = refl;
      b_is = refl;
      k_is = omega (arith, lower_excess, i.numbers.ordered, i.numbers.highest, negated (lower_in s b));
      small = omega (arith, i.numbers.lowest);
    }
