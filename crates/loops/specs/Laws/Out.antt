-- T4: a valid loop rules its period out; without kind 2 it rules out all permitted lags.
-- Assumes nothing.
use Rattle.std.specs.Prelude.{◌≡◌, refl, List, [], ◌∷◌, ℕ, ◌+◌, ◌≤◌, ◌<◌, ℤ, pos, negsuc, ◌<ℤ◌}
use Rattle.std.proofs.Common.{ap, inl, inr, arith, ltb→lt}
use Rattle.std.proofs.Math.Decide.{ℕ_discrete}
use Rattle.sheet.specs.Core.{Core, core_of}
use Rattle.sheet.specs.Sheet.{Formed, frame_rules}
use Rattle.sheet.specs.Rules.{First, refusal, answer}
use Rattle.sheet.specs.Integer.{up, down}
use Rattle.sheet.specs.Laws.Integer.{plus, minus, negated, le_parts, parts_eq}
use Rattle.sheet.specs.Laws.Rules.{past}
use Rattle.sheet.specs.Laws.Formed.{formed_core, frame_nonzero}
use Rattle.sheet.specs.declared.answer.Answer.{Answer}
use Rattle.paths.specs.Path.{registers_on, end_of}
use Rattle.paths.specs.Questions.{sound_rules}
use Rattle.paths.specs.Laws.Questions.{sound_nonzero, sound_sheet}
use Rattle.moves.specs.Lags.{moved_by, Permitted, Meets}
use Rattle.moves.specs.Laws.Lags.{telescope}
use Rattle.moves.specs.Laws.Lattice.{moved_to, value}
use Rattle.loops.specs.Link.{Link, wire, path, upper, lower, ceiling, link_a, link_b, link_k, Good, Chain, sum_k, ValidLoop, NoPath}
use Rattle.loops.specs.Loop.{LoopRight, loop_after_frame}

lt_parts : (x y : ℤ) → x <ℤ y → up x + down y < up y + down x
lt_parts (pos a) (pos b) h = omega (arith, ltb→lt a b h.lt)
lt_parts (pos a) (negsuc b) h = absurd h.lt
lt_parts (negsuc a) (pos b) h = omega arith
lt_parts (negsuc a) (negsuc b) h = omega (arith, ltb→lt b a h.lt)

module _ (c : Core) (f : Formed c) (r : ℕ → ℤ) (h : Permitted c r) where
  -- lags keep a rule lag(a) - lag(b) <= k, without subtraction
  abbrev Keeps : Link → Type 0
  Keeps l = up (r (link_a c l)) + down (r (link_b c l)) + down (link_k c l) ≤ up (r (link_b c l)) + down (r (link_a c l)) + up (link_k c l)

  -- the host's lag is 0
  pub host_zero : (up (r 0) ≡ 0) × (down (r 0) ≡ 0)
  host_zero =
      let i = h.in_range 0 f.some_block in
      let g = (f.block 0 f.some_block).host refl in
      let l = le_parts (c.lower 0) (r 0) i.0 in
      let u = le_parts (r 0) (c.upper 0) i.1 in
      let e : r 0 ≡ pos 0 = parts_eq (r 0) (pos 0) (omega (arith, l, u, ap up g.1, ap down g.1, ap up g.2, ap down g.2)) in
      (ap up e, ap down e)

  wire_kept : (j : ℕ) → j < c.shape.m → Keeps (wire j)
  wire_kept j k = omega (arith, value c j r, le_parts (pos 0) (moved_by c r j) (h.fits j k).0)

  ceiling_kept : (j : ℕ) → j < c.shape.m → Keeps (ceiling j)
  ceiling_kept j k =
      omega (arith, value c j r, le_parts (moved_by c r j) (pos (c.ceiling j)) (h.fits j k).1, minus (pos (c.ceiling j)) (pos (c.registers j)))

  upper_kept : (b : ℕ) → b < c.shape.n → Keeps (upper b)
  upper_kept b k = omega (arith, host_zero, le_parts (r b) (c.upper b) (h.in_range b k).1)

  lower_kept : (b : ℕ) → b < c.shape.n → Keeps (lower b)
  lower_kept b k = omega (arith, host_zero, le_parts (c.lower b) (r b) (h.in_range b k).0, negated (c.lower b))

  -- a path whose delay exceeds the period keeps a register
  path_kept : (p u : ℕ) (ws : List ℕ) → Meets c p r → Good c p (path u ws) → Keeps (path u ws)
  path_kept p u ws m g =
      let v = end_of c.shape u ws in
      let x : ℕ → ℕ = λ j. up (moved_by c r j) in
      let mx = moved_to c r h in
      let t = telescope c r x mx u ws v g.0 in
      elim (ℕ_discrete (registers_on x ws) 0) [
        | yes z ↦ absurd (omega (arith, m.quick x mx u v ws g.0 z, g.1))
        | no z ↦ omega (arith, t, minus (pos (registers_on c.registers ws)) (pos 1))
      ]

  -- rules along a chain add up
  pub chain_kept : (p a : ℕ) (ls : List Link) (e : ℕ) → Chain c p a ls e → ((l : Link) → Good c p l → Keeps l)
      → up (r a) + down (r e) + down (sum_k c ls) ≤ up (r e) + down (r a) + up (sum_k c ls)
  chain_kept p a [] e k all = omega (arith, ap (λ (b : ℕ). up (r b)) k, ap (λ (b : ℕ). down (r b)) k)
  chain_kept p a (l ∷ ls) e k all =
      omega (
        arith,
        all l k.1,
        ap (λ (b : ℕ). up (r b)) k.0,
        ap (λ (b : ℕ). down (r b)) k.0,
        chain_kept p (link_b c l) ls e k.2 all,
        plus (link_k c l) (sum_k c ls),
      )

  pub meets_keeps : (p : ℕ) → Meets c p r → (l : Link) → Good c p l → Keeps l
  meets_keeps p m (wire j) g = wire_kept j g
  meets_keeps p m (path u ws) g = path_kept p u ws m g
  meets_keeps p m (upper b) g = upper_kept b g
  meets_keeps p m (lower b) g = lower_kept b g
  meets_keeps p m (ceiling j) g = ceiling_kept j g

  -- the same along a chain without kind 2, for permitted lags
  plain_kept : (p a : ℕ) (ls : List Link) (e : ℕ) → Chain c p a ls e → NoPath c ls → up (r a) + down (r e) + down (sum_k c ls) ≤ up (r e) + down (r a) + up (sum_k c ls)
  plain_kept p a [] e k n = omega (arith, ap (λ (b : ℕ). up (r b)) k, ap (λ (b : ℕ). down (r b)) k)
  plain_kept p a (wire j ∷ ls) e k n =
      omega (arith, wire_kept j k.1, ap (λ (b : ℕ). up (r b)) k.0, ap (λ (b : ℕ). down (r b)) k.0, plain_kept p (link_b c (wire j)) ls e k.2 n, plus (link_k c (wire j)) (sum_k c ls))
  plain_kept p a (path u ws ∷ ls) e k n = absurd n
  plain_kept p a (upper b ∷ ls) e k n =
      omega (arith, upper_kept b k.1, ap (λ (b : ℕ). up (r b)) k.0, ap (λ (b : ℕ). down (r b)) k.0, plain_kept p (link_b c (upper b)) ls e k.2 n, plus (link_k c (upper b)) (sum_k c ls))
  plain_kept p a (lower b ∷ ls) e k n =
      omega (arith, lower_kept b k.1, ap (λ (b : ℕ). up (r b)) k.0, ap (λ (b : ℕ). down (r b)) k.0, plain_kept p (link_b c (lower b)) ls e k.2 n, plus (link_k c (lower b)) (sum_k c ls))
  plain_kept p a (ceiling j ∷ ls) e k n =
      omega (arith, ceiling_kept j k.1, ap (λ (b : ℕ). up (r b)) k.0, ap (λ (b : ℕ). down (r b)) k.0, plain_kept p (link_b c (ceiling j)) ls e k.2 n, plus (link_k c (ceiling j)) (sum_k c ls))

-- 01: "A yes means no permitted lags meet c"
pub rules_out : (c : Core) → Formed c → (p : ℕ) (words : List ℕ) → ValidLoop c p words → (r : ℕ → ℤ) → Meets c p r → ⊥
rules_out c f p words l r m =
    let ls = l.first ∷ l.others in
    omega (
      arith,
      chain_kept c f r m.permitted p (link_a c l.first) ls (link_a c l.first) l.closed (meets_keeps c f r m.permitted p m),
      lt_parts (sum_k c ls) (pos 0) l.negative,
    )

-- 01: "without kind 2 it means none are permitted at all"
pub rules_all_out : (c : Core) → Formed c → (p : ℕ) (words : List ℕ) (l : ValidLoop c p words) → NoPath c (l.first ∷ l.others) → (r : ℕ → ℤ) → Permitted c r → ⊥
rules_all_out c f p words l n r h =
    let ls = l.first ∷ l.others in
    omega (
      arith,
      plain_kept c f r h p (link_a c l.first) ls (link_a c l.first) l.closed n,
      lt_parts (sum_k c ls) (pos 0) l.negative,
    )

-- T4 on bytes: where the loop check says yes, no lags meet the period
pub yes_rules_out : (s : List ℕ) (c : ℕ) (words : List ℕ) (a : Answer) → LoopRight s c words a → a.number ≡ 0 → (r : ℕ → ℤ) → Meets (core_of s) c r → ⊥
yes_rules_out s c words a h z r m =
    let p = past (frame_rules s) (loop_after_frame s c words) a (frame_nonzero s) z h in
    let q = past (sound_rules s) (refusal (ValidLoop (core_of s) c words → ⊥) (answer 12 0 0) ∷ refusal Unit (answer 0 0 0) ∷ []) a (sound_nonzero s) z p.1 in
    let f = formed_core s (sound_sheet s p.0 q.0).formed in
    not_refused q.1 (λ l. rules_out (core_of s) f c words l r m)
  where
    not_refused : First (refusal (ValidLoop (core_of s) c words → ⊥) (answer 12 0 0) ∷ refusal (Unit {0}) (answer 0 0 0) ∷ []) a → (ValidLoop (core_of s) c words → ⊥) → ⊥
    not_refused (inl g) k = omega (arith, ap (λ (x : Answer). x.number) g.1)
    not_refused (inr g) k = g.0 k
