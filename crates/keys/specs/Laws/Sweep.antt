-- A sweep: its start, a wire met, its end.
-- Assumes nothing.
use Rattle.std.specs.Prelude.{◌≡◌, refl, Bool, true, false, ◌||◌, ◌⊎◌, List, ℕ, ◌+◌, ◌*◌, ◌-◌, ◌/◌, ◌%◌, ◌≤◌, ◌<◌, length, get_or, set, replicate}
use Rattle.std.specs.Coded.{le_prop}
use Rattle.std.proofs.Math.Logic.{∥∥₁_elim}
use Rattle.std.proofs.Common.{sym, ap, ◌∙◌, subst, true≢false, inl, inr, arith, below_more, length-set}
use Rattle.std.proofs.lemmas.List.{length-replicate, get_or-replicate}
use Rattle.sheet.specs.Core.{Shape}
use Rattle.paths.specs.Wired.{wired, weights}
use Rattle.paths.specs.declared.wiring.Wiring.{Wiring}
use Rattle.paths.proofs.Way.{Limits}
use Rattle.keys.specs.Keys.{entry, Turns}
use Rattle.keys.specs.declared.order.Direction.{Direction}
use Rattle.keys.specs.declared.order.Direction.TheVariants.{Forwards, Backwards}
use Rattle.keys.specs.Filling.{Blank, Lanes, turn_at, Stepped, Stepped.idle, Stepped.tried, Standing, Holds, Settling, Sweeping, Swept}
use Rattle.sheet.specs.Sum.{sum}
use Rattle.keys.specs.Laws.Sum.{sum_most}
use Rattle.keys.specs.Laws.Entry.{stored, counts_same}
use Rattle.keys.specs.Laws.Stand.{standing_blank, standing_tried}

-- every wire has its place, forwards and backwards
turn_every : {m : ℕ} {turns : List ℕ} → Turns m turns → (way : Direction) (j : ℕ) → j < m → (p : ℕ) × (p < m) × (turn_at m turns way p ≡ j)
turn_every {m} {turns} T Backwards j h =
    let y = T.every j h in
    let e : m - 1 - (m - 1 - y.0) ≡ y.0 = omega (arith, y.1) in
    (m - 1 - y.0, omega (arith, y.1), ap (λ (i : ℕ). get_or turns i 0) e ∙ y.2)
turn_every T Forwards j h = T.every j h

stepped_least : {s : Shape} {w : ℕ → ℕ} {j : ℕ} {versions seen keys versions' seen' keys' : List ℕ} {b : Bool} → Stepped s w j versions seen keys versions' seen' keys' b → sum keys' ≤ sum keys
stepped_least (idle _ _ _ ek _) = rw ek (omega arith)
stepped_least (tried r _ _ _ _ L) = omega (arith, L.less)

stepped_less : {s : Shape} {w : ℕ → ℕ} {j : ℕ} {versions seen keys versions' seen' keys' : List ℕ} {b : Bool} → Stepped s w j versions seen keys versions' seen' keys' b → b ≡ true → sum keys' < sum keys
stepped_less (idle z _ _ _ _) e = absurd (true≢false (sym e ∙ z))
stepped_less (tried r up _ _ _ L) e = omega (arith, L.less, up e)

module _ {s : Shape} {w : ℕ → ℕ} where
  module _ (g : Limits s w) (narrow : s.n ≤ 64) (few_wires : s.m ≤ 256) (j : ℕ) (hj : j < s.m) {versions seen keys versions' seen' keys' : List ℕ}
      (X : Settling s w versions seen keys) where
    -- the wire was tried
    module _ {r : ℕ} (ev : versions' ≡ set versions (s.to j) (get_or versions (s.to j) 0 + r)) (es : seen' ≡ set seen j (get_or versions (s.from j) 0))
        (L : Lanes (s.from j) (s.to j) (w j * 1048576) (s.delay (s.to j)) 64 keys keys' r) where
      -- only the version of the row that the wire leads to grows, by r
      grown : (b : ℕ) → (get_or versions b 0 ≤ get_or versions' b 0) × (get_or versions' b 0 ≤ get_or versions b 0 + r) × (b ≡ s.to j → get_or versions' b 0 ≡ get_or versions b 0 + r)
      grown b = rw ev (stored (λ (i y : ℕ). (get_or versions i 0 ≤ y) × (y ≤ get_or versions i 0 + r) × (i ≡ s.to j → y ≡ get_or versions i 0 + r))
          versions (s.to j) (get_or versions (s.to j) 0 + r) (omega (arith, X.long, g.to_block j hj))
          (omega arith, omega arith, λ _. refl) (λ i ne. (omega arith, omega arith, λ q. absurd (ne q))) b)

      -- a row whose version is as it was is as it was
      still : (b : ℕ) → b < 64 → get_or versions' b 0 ≡ get_or versions b 0 → (u : ℕ) → u < 64 → entry keys' u b ≡ entry keys u b
      still b hb q u hu = go (L.kept u b hu hb)
        where
          go : (entry keys' u b ≡ entry keys u b) ⊎ ((b ≡ s.to j) × (entry keys' u b + s.delay (s.to j) ≡ entry keys u (s.from j) + w j * 1048576)) → entry keys' u b ≡ entry keys u b
          go (inl k) = k
          go (inr k) = ap (λ (l : List ℕ). entry l u b) (L.same (omega (arith, q, (grown b).2 k.0)))

      f_low : (i : ℕ) → i < s.m → s.from i < 64
      f_low i hi = omega (arith, g.from_block i hi)

      t_low : (i : ℕ) → i < s.m → s.to i < 64
      t_low i hi = omega (arith, g.to_block i hi)

      holds_now : get_or versions' (s.from j) 0 ≡ get_or versions (s.from j) 0 → Holds s w keys' j
      holds_now q u hu = omega (arith, L.lowered u hu, still (s.from j) (f_low j hj) q u hu)

      -- a wire that has seen a row's last version had seen it before
      holds_still : (i : ℕ) → i < s.m → get_or seen i 0 ≡ get_or versions' (s.from i) 0 → Holds s w keys' i
      holds_still i hi q u hu = omega (
        arith,
        X.quiet i hi (omega (arith, q, X.past i hi, (grown (s.from i)).0)) u hu,
        L.falls u (s.to i) hu (t_low i hi),
        still (s.from i) (f_low i hi) (omega (arith, q, X.past i hi, (grown (s.from i)).0)) u hu,
      )

      j_in : j < length seen
      j_in = omega (arith, X.wide)

      settling_tried : Settling s w versions' seen' keys'
      settling_tried = record {
        standing = standing_tried s w g narrow j hj X.standing L;
        long = ap length ev ∙ length-set versions (s.to j) (get_or versions (s.to j) 0 + r) ∙ X.long;
        wide = ap length es ∙ length-set seen j (get_or versions (s.from j) 0) ∙ X.wide;
        room = λ b. omega (arith, X.room b, (grown b).1, L.less);
        past = rw es (stored (λ (i y : ℕ). i < s.m → y ≤ get_or versions' (s.from i) 0) seen j (get_or versions (s.from j) 0) j_in
            (λ _. (grown (s.from j)).0) (λ i _ hi. omega (arith, X.past i hi, (grown (s.from i)).0)));
        quiet = rw es (stored (λ (i y : ℕ). i < s.m → y ≡ get_or versions' (s.from i) 0 → Holds s w keys' i) seen j (get_or versions (s.from j) 0) j_in
            (λ _ q. holds_now (sym q)) (λ i _. holds_still i));
      }

    -- wire j holds where it lowered nothing
    met_now : {b : Bool} → Stepped s w j versions seen keys versions' seen' keys' b → b ≡ false → (keys' ≡ keys) × Holds s w keys j
    met_now (idle _ _ _ ek q) z = (ek, X.quiet j hj q)
    met_now (tried r _ none _ _ L) z = (L.same (none z), λ u hu. omega (arith, L.lowered u hu, ap (λ (l : List ℕ). entry l u (s.to j)) (L.same (none z))))

    settling_next : {b : Bool} → Stepped s w j versions seen keys versions' seen' keys' b → Settling s w versions' seen' keys'
    settling_next (idle _ ev es ek _) = rw (ev, es, ek) X
    settling_next (tried r _ _ ev es L) = settling_tried ev es L

  pub sweep_turn : Limits s w → s.n ≤ 64 → s.m ≤ 256 → {turn : ℕ → ℕ} {first versions seen keys versions' seen' keys' : List ℕ} {p : ℕ} {lowered b : Bool} (j : ℕ) → j < s.m → j ≡ turn p
      → Sweeping s w turn first p versions seen keys lowered → Stepped s w j versions seen keys versions' seen' keys' b → Sweeping s w turn first (p + 1) versions' seen' keys' (lowered || b)
  sweep_turn g narrow few_wires {turn} {first} {versions} {seen} {keys} {versions'} {seen'} {keys'} {p} {lowered} {b} j hj is X Y = record {
    settling = settling_next g narrow few_wires j hj X.settling Y;
    least = omega (arith, X.least, stepped_least Y);
    less = less lowered b X.less (stepped_less Y);
    met = met lowered b X.met (met_now g narrow few_wires j hj X.settling Y);
  }
    where
      less : (x y : Bool) → (x ≡ true → sum keys < sum first) → (y ≡ true → sum keys' < sum keys) → (x || y) ≡ true → sum keys' < sum first
      less true y f h e = omega (arith, f refl, stepped_least Y)
      less false true f h e = omega (arith, X.least, h refl)
      less false false f h e = absurd (true≢false (sym e))

      met : (x y : Bool) → (x ≡ false → (q : ℕ) → q < p → Holds s w keys (turn q)) → (y ≡ false → (keys' ≡ keys) × Holds s w keys j)
          → (x || y) ≡ false → (q : ℕ) → q < p + 1 → Holds s w keys' (turn q)
      met true true f h e = absurd (true≢false e)
      met true false f h e = absurd (true≢false e)
      met false true f h e = absurd (true≢false e)
      met false false f h e = rw (h refl).0 (below_more (λ (q : ℕ). Holds s w keys (turn q)) p (f refl) (rw (← is) (h refl).1))

  pub sweep_ends : {turns : List ℕ} (way : Direction) {first versions seen keys : List ℕ} {p : ℕ} {lowered : Bool} → ∥ Turns s.m turns ∥₁ → s.m ≤ p → p ≤ s.m
      → Sweeping s w (turn_at s.m turns way) first p versions seen keys lowered → Swept s w first versions seen keys lowered
  sweep_ends {turns} way {keys = keys} T h1 h2 X = record {
    settling = X.settling;
    least = X.least;
    less = X.less;
    ended = λ z j hj u hu. ∥∥₁_elim T le_prop (λ t. let y = turn_every t way j hj in subst (Holds s w keys) y.2 (X.met z y.0 (omega (arith, y.1))) u hu);
  }

-- before the first sweep no wire has seen its start's row
pub settling_start : (w : Wiring) {delays keys : List ℕ} → Blank w.n delays keys → Settling (wired w delays) (weights w) (replicate 64 1) (replicate 256 0) keys
settling_start w {delays} {keys} B = record {
  standing = T;
  long = length-replicate {A = ℕ} 64 1;
  wide = length-replicate {A = ℕ} 256 0;
  room = λ b. omega (arith, (counts_same 64 1 1 (omega arith)).few b, sum_most keys high, B.long);
  past = λ j h. omega (arith, seen j h);
  quiet = λ j h q. absurd (omega (arith, q, seen j h, get_or-replicate {A = ℕ} 64 (get_or w.from j 0) 1 0 (omega (arith, w.wires.from_block j h, w.wires.few_blocks))));
}
  where
    T : Standing (wired w delays) (weights w) keys
    T = standing_blank (wired w delays) (weights w) w.wires.few_blocks B (λ b. refl)

    seen : (j : ℕ) → j < w.m → ◌≡◌ {A = ℕ} (get_or (replicate 256 0) j 0) 0
    seen j h = get_or-replicate {A = ℕ} 256 j 0 0 (omega (arith, h, w.wires.few_wires))

    high : (i : ℕ) → i < length keys → get_or keys i 0 ≤ 2099249152
    high i h =
        let e : i / 64 * 64 + i % 64 ≡ i = omega arith in
        rw e at (T.high (i % 64) (i / 64) (omega arith) (omega (arith, h, B.long)))
