-- A path followed wire by wire along the words.
-- Assumes nothing.
use Rattle.std.specs.Prelude.{◌≡◌, refl, List, [], ◌∷◌, ◌++◌, ℕ, suc, ◌+◌, ◌<◌, ◌≤◌, length, take, drop, get_or, pos}
use Rattle.std.proofs.Common.{sym, ap, ◌∙◌, subst, arith, add-one, take-suc, take-take, get_or-take, length-take-le}
use Rattle.std.proofs.Math.Seq.{split_at}
use Rattle.sheet.specs.Core.{shape_of, blocks_in, wires_in, delay_in, from_in, to_in, registers_in}
use Rattle.sheet.specs.Laws.Integer.{minus}
use Rattle.sheet.specs.Reads.{BlockIs, WireIs}
use Rattle.paths.specs.Path.{Joins, registers_on, end_of}
use Rattle.paths.specs.Laws.Path.{passes_all, between_passes, joins_snoc, joins_end, joins_right, joins_start_lt, registers_snoc}
use Rattle.paths.proofs.Delays.{delay_snoc}
use Rattle.loops.specs.Link.{path}
use Rattle.loops.specs.Reads.{PathHead, LinkGiven, StepIs, Followed, FollowGiven}
use Rattle.loops.specs.Laws.Links.{not_good}
use Rattle.std.specs.Prelude.{Option, Some, None}
use Rattle.loops.specs.declared.link.Link.TheVariants as L
use Rattle.loops.specs.declared.path.Leg.{Leg}

-- ---- one step
module _ (s : List ℕ) (here j : ℕ) where
  pub step_good : (f t w d lo hi : ℕ) → j < wires_in s → WireIs s j f t w → f ≡ here → BlockIs s t d lo hi → StepIs s here j t w d
  step_good f t w d lo hi h i e b = record {
    wire = h;
    joins = sym i.from_is ∙ e;
    to_is = i.to_is;
    registers_is = i.registers_is;
    delay_is = b.delay_is;
    block = i.to_block;
    few = i.few;
    short = b.numbers.small;
  }

-- ---- along the wires ws from block u
module _ (s ws : List ℕ) (u : ℕ) where
  pub follow_start : (d lo hi : ℕ) → u < blocks_in s → BlockIs s u d lo hi → Followed s ws u 0 u 0 d
  follow_start d lo hi h b = record { joins = (h, refl); registers_is = refl; delay_is = b.delay_is; few = omega arith; short = omega (arith, b.numbers.small) }

  module _ (i here r d : ℕ) (f : Followed s ws u i here r d) where
    pub follow_step : (j t w e : ℕ) → i < length ws → j ≡ get_or ws i 0 → StepIs s here j t w e → Followed s ws u (i + 1) t (r + w) (d + e)
    follow_step j t w e h q g =
        let k : take (i + 1) ws ≡ take i ws ++ (j ∷ []) = rw (add-one i, q) (take-suc ws i 0 h) in
        let o : Joins (shape_of s) u (take i ws ++ (j ∷ [])) t = rw g.to_is (joins_snoc (shape_of s) u (take i ws) here j f.joins g.wire g.joins (omega (arith, g.to_is, g.block)) (between_passes (shape_of s) (take i ws) here (j ∷ []) (passes_all (shape_of s) here))) in
        let x : e ≡ delay_in s (to_in s j) = g.delay_is ∙ ap (delay_in s) g.to_is in
        record {
          joins = rw k o;
          registers_is = rw k (omega (arith, registers_snoc (registers_in s) (take i ws) j, f.registers_is, g.registers_is));
          delay_is = rw k (omega (arith, delay_snoc (shape_of s) u (take i ws) j, f.delay_is));
          few = omega (arith, f.few, g.few);
          short = omega (arith, f.short, g.short);
        }

    -- the next wire does not lead on
    pub follow_stuck : (count j : ℕ) → i < count → count ≤ length ws → j ≡ get_or ws i 0 → (j < wires_in s → from_in s j ≡ here → ⊥) → FollowGiven s ws u count None
    follow_stuck count j h l q bad g =
        let xs = take count ws in
        let k : xs ≡ take i ws ++ get_or ws i 0 ∷ drop (suc i) xs = split_at xs i 0 (omega (arith, length-take-le count ws l)) ∙ rw (take-take i count ws (omega arith), get_or-take count ws i 0 h) refl in
        let o = joins_right (shape_of s) u (take i ws) (get_or ws i 0 ∷ drop (suc i) xs) (end_of (shape_of s) u xs) (subst (λ (ys : List ℕ). Joins (shape_of s) u ys (end_of (shape_of s) u xs)) k g) in
        bad (rw q o.1) (rw q (o.2 ∙ joins_end (shape_of s) u (take i ws) here f.joins))

  pub start_out : (count : ℕ) → blocks_in s ≤ u → FollowGiven s ws u count None
  start_out count h g = omega (arith, joins_start_lt (shape_of s) u (take count ws) (end_of (shape_of s) u (take count ws)) g)

-- ---- the first `count` words alone say the same
pub follow_part : (s ws : List ℕ) (u count : ℕ) → count ≤ length ws → (r : Option Leg) → FollowGiven s (take count ws) u (length (take count ws)) r → FollowGiven s ws u count r
follow_part s ws u count h (Some leg) f = followed (rw (length-take-le count ws h) at f)
  where
    followed : Followed s (take count ws) u count leg.to leg.registers leg.delay → Followed s ws u count leg.to leg.registers leg.delay
    followed g =
        let e : take count (take count ws) ≡ take count ws = take-take count count ws (omega arith) in
        record { joins = rw e at g.joins; registers_is = rw e at g.registers_is; delay_is = rw e at g.delay_is; few = g.few; short = g.short }
follow_part s ws u count h None f = λ g.
    let e : take (length (take count ws)) (take count ws) ≡ take count ws = rw (length-take-le count ws h) (take-take count count ws (omega arith)) in
    f (rw e g)

-- ---- the link, where the words say that it is a path
module _ (s : List ℕ) (p : ℕ) (words : List ℕ) (at u count : ℕ) (h : PathHead words at u count) where
  abbrev along : List ℕ
  along = drop (at + 3) words

  pub path_stuck : FollowGiven s along u count None → LinkGiven s p words at None
  path_stuck f = not_good s p words at (at + 3 + count) (path u (take count along)) h (λ g. f g.0)

  module _ (end w d : ℕ) (f : Followed s along u count end w d) where
    pub path_quick : d ≤ p → LinkGiven s p words at None
    path_quick k =
        not_good s p words at (at + 3 + count) (path u (take count along)) h (λ g. omega (arith, g.1, f.delay_is))

    pub path_good : p < d → LinkGiven s p words at (Some (record { link = L.Path u count; a = u; b = end; k = w + 32767; next = at + 3 + count }))
    path_good k =
        let q = joins_end (shape_of s) u (take count along) end f.joins in
        record {
          head = h;
          link = path u (take count along);
          spelt = h;
          good = (rw q f.joins, omega (arith, f.delay_is));
          a_is = refl;
          b_is = sym q;
          k_is = omega (arith, f.registers_is, minus (pos (registers_on (registers_in s) (take count along))) (pos 1));
          small = omega (arith, f.few);
        }
