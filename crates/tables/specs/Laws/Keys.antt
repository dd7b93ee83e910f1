-- Keys: decoding goes through stores, the lower key is the pair ahead, and what trying a wire on keys comes to.
-- Assumes nothing.
use Rattle.std.specs.Prelude.{◌≡◌, true, false, ◌⊎◌, ltb, length, get_or, replicate}
use Rattle.std.proofs.Math.Path.{refl, ap}
use Rattle.std.proofs.Common.{sym, ◌∙◌, inl, inr, arith, lt-ltb, le-ltb, length-set, get_or-set_same, get_or-set_other}
use mathlib.Core.List.{List, [], ◌∷◌}
use Prim.Native.Nat.{ℕ, zero, suc, ◌+◌, ◌*◌, ◌%◌, ◌≤◌, ◌<◌, min}
use Rattle.std.proofs.Math.Decide.{ℕ_discrete, dec_lt}
use Rattle.std.proofs.Math.ListN.{set}
use Rattle.std.proofs.lemmas.List.{set-get_or, get_or-replicate}
use Rattle.sheet.specs.Core.{Shape}
use Rattle.sheet.specs.Filled.{filled}
use Rattle.sheet.specs.Laws.Filled.{length_filled, filled_at}
use Rattle.paths.specs.Lists.{held, list_shape, Wires, Delays}
use Rattle.tables.specs.Row.{base_of, base_w, base_d, offer_w, offer_d, Row, RowRight}
use Rattle.tables.specs.Keys.{key_w, key_d, decoded, row_w, row_d, Whole, cost_at, Costs, Tried, KeysRight}
use Rattle.tables.specs.Order.{Ahead, fewer, level}
use Rattle.tables.specs.Laws.Rows.{base_start, base_other, base_few, base_small}

-- ---- the decoded list
module _ (f : ℕ → ℕ) where
  pub length_decoded : (n : ℕ) (l : List ℕ) → n ≤ length l → length (decoded f n l) ≡ n
  unfolding decoded
  length_decoded zero l h = refl
  length_decoded (suc n) [] h = absurd (omega arith)
  length_decoded (suc n) (x ∷ l) h = ap suc (length_decoded n l (omega arith))

  pub get_d_decoded : (n : ℕ) (l : List ℕ) (v : ℕ) → v < n → n ≤ length l → get_or (decoded f n l) v 0 ≡ f (get_or l v 0)
  unfolding decoded
  get_d_decoded zero l v k h = absurd (omega arith)
  get_d_decoded (suc n) [] v k h = absurd (omega arith)
  get_d_decoded (suc n) (x ∷ l) zero k h = refl
  get_d_decoded (suc n) (x ∷ l) (suc v) k h = get_d_decoded n l v (omega arith) (omega arith)

  pub decoded_set : (n : ℕ) (l : List ℕ) (t x : ℕ) → decoded f n (set l t x) ≡ set (decoded f n l) t (f x)
  unfolding decoded
  decoded_set zero l t x = refl
  decoded_set (suc n) [] t x = refl
  decoded_set (suc n) (y ∷ l) zero x = refl
  decoded_set (suc n) (y ∷ l) (suc t) x = ap (λ (r : List ℕ). f y ∷ r) (decoded_set n l t x)

  pub decoded_filled : (x : ℕ) (n i : ℕ) (l : List ℕ) → decoded f n (filled (λ _. x) i l) ≡ filled (λ _. f x) i (decoded f n l)
  unfolding filled
  decoded_filled x n zero l = refl
  decoded_filled x n (suc i) l = decoded_set n (filled (λ _. x) i l) i x ∙ ap (λ (r : List ℕ). set r i (f x)) (decoded_filled x n i l)

-- ---- one key stored
whole_by : (keys : List ℕ) (t x v : ℕ) → t < length keys → x % 4294967296 ≤ 2147483648 → get_or keys v 0 % 4294967296 ≤ 2147483648
    → Dec (v ≡ t) → get_or (set keys t x) v 0 % 4294967296 ≤ 2147483648
whole_by keys t x v l h k (yes e) = rw (e, get_or-set_same keys t x 0 l) h
whole_by keys t x v l h k (no e) = rw (get_or-set_other keys t v x 0 e) k

pub whole_set : (n : ℕ) (keys : List ℕ) (t x : ℕ) → n ≤ 64 → t < n → x % 4294967296 ≤ 2147483648 → Whole n keys → Whole n (set keys t x)
whole_set n keys t x few l h k = record {
  long = length-set keys t x ∙ k.long;
  half = λ v b. whole_by keys t x v (omega (arith, k.long)) h (k.half v b) (ℕ_discrete v t);
}

-- ---- the lower key is the pair ahead
pub lower_ahead : (x y : ℕ) → x % 4294967296 ≤ 2147483648 → y % 4294967296 ≤ 2147483648 → x < y → Ahead (key_w x) (key_d x) (key_w y) (key_d y)
lower_ahead x y h k l = go (dec_lt (key_w x) (key_w y))
  where
    go : Dec (key_w x < key_w y) → Ahead (key_w x) (key_d x) (key_w y) (key_d y)
    go (yes e) = fewer e
    go (no e) = level (omega arith) (omega arith)

pub upper_behind : (x y : ℕ) → x % 4294967296 ≤ 2147483648 → y % 4294967296 ≤ 2147483648 → y ≤ x → Ahead (key_w y) (key_d y) (key_w x) (key_d x)
upper_behind x y h k l = go (dec_lt (key_w y) (key_w x))
  where
    go : Dec (key_w y < key_w x) → Ahead (key_w y) (key_d y) (key_w x) (key_d x)
    go (yes e) = fewer e
    go (no e) = level (omega arith) (omega arith)

-- ---- what each wire costs
pub costs_of : (n m : ℕ) (delays from to registers costs₀ costs : List ℕ) → Wires n m from to registers → Delays n delays → length costs₀ ≡ 256
    → costs ≡ filled (cost_at delays to registers) m costs₀ → Costs (list_shape n m delays from to) (held registers) costs
costs_of n m delays from to registers costs₀ costs a b l e = record {
  long = ap length e ∙ length_filled (cost_at delays to registers) m costs₀ ∙ l;
  cost = λ j h.
      omega (
        arith,
        ap (λ (r : List ℕ). get_or r j 0) e ∙ filled_at (cost_at delays to registers) m costs₀ j 0 h (omega (arith, a.few_wires)),
        b.small (get_or to j 0) (a.to_block j h),
      );
}

-- a list that is blank throughout is blank in its first n entries
pub filled_blank : (x n room : ℕ) → n ≤ room → filled (λ _. x) n (replicate room x) ≡ replicate room x
unfolding filled
filled_blank x zero room h = refl
filled_blank x (suc n) room h =
    rw (filled_blank x n room (omega arith)) (
    let e : get_or {A = ℕ} (replicate room x) n 0 ≡ x = get_or-replicate {A = ℕ} room n x 0 (omega arith) in
    rw e at (set-get_or (replicate room x) n 0)
    )

pub cost_few : (s : Shape) (w : ℕ → ℕ) (costs : List ℕ) (j c : ℕ) → Costs s w costs → j < s.m → w j ≤ 2000 → c ≡ get_or costs j 0 → c ≤ 8589934602000
cost_few s w costs j c k l h e = omega (arith, k.cost j l)

pub offer_is : (s : Shape) (w : ℕ → ℕ) (costs : List ℕ) (j t c x b : ℕ) → Costs s w costs → j < s.m → t ≡ s.to j → c ≡ get_or costs j 0 → x + 10000 ≡ b + c
    → x + s.delay t ≡ b + w j * 4294967296
offer_is s w costs j t c x b k l t_is e h = omega (arith, k.cost j l, ap s.delay t_is)

-- ---- where a wire starts
module _ {s : Shape} {w : ℕ → ℕ} {u : ℕ} (few_blocks : s.n ≤ 64) (u_lt : u < s.n) (small : s.delay u ≤ 10000) (keys : List ℕ) (whole : Whole s.n keys)
    (row : Row s w u 16384 (row_w s.n keys) (row_d s.n keys)) (start f b : ℕ) (f_lt : f < s.n) (start_is : start + s.delay u ≡ 2147483648)
    (b_is : b ≡ base_of start u (held keys) f) where
  room : s.n ≤ length keys
  room = omega (arith, whole.long)

  base_w_lem : Dec (f ≡ u) → key_w b ≡ base_w u (held (row_w s.n keys)) f
  base_w_lem (yes e) = rw (base_start u f 0 (held (row_w s.n keys) f) e) (omega (arith, b_is ∙ base_start u f start (held keys f) e))
  base_w_lem (no e) = rw (base_other u f 0 (held (row_w s.n keys) f) e) (ap key_w (b_is ∙ base_other u f start (held keys f) e) ∙ sym (get_d_decoded key_w s.n keys f f_lt room))

  base_d_lem : Dec (f ≡ u) → key_d b ≡ base_d s u (held (row_d s.n keys)) f
  base_d_lem (yes e) = rw (base_start u f (s.delay u) (held (row_d s.n keys) f) e) (omega (arith, b_is ∙ base_start u f start (held keys f) e))
  base_d_lem (no e) = rw (base_other u f (s.delay u) (held (row_d s.n keys) f) e) (ap key_d (b_is ∙ base_other u f start (held keys f) e) ∙ sym (get_d_decoded key_d s.n keys f f_lt room))

  base_half : Dec (f ≡ u) → b % 4294967296 ≤ 2147483648
  base_half (yes e) = omega (arith, b_is ∙ base_start u f start (held keys f) e)
  base_half (no e) = rw (b_is ∙ base_other u f start (held keys f) e) (whole.half f f_lt)

  key_near : (get_or (row_w s.n keys) f 0 < 4294967295) ⊎ ((get_or (row_w s.n keys) f 0 ≡ 4294967295) × (get_or (row_d s.n keys) f 0 ≡ 0))
      → (b ≡ 18446744071562067968 → ⊥) → b ≡ get_or keys f 0 → key_w b < 4294967295
  key_near (inl h) n e = omega (arith, get_d_decoded key_w s.n keys f f_lt room)
  key_near (inr h) n e = absurd (n (omega (arith, h.0, h.1, whole.half f f_lt, get_d_decoded key_w s.n keys f f_lt room, get_d_decoded key_d s.n keys f f_lt room)))

  near_by : (b ≡ 18446744071562067968 → ⊥) → Dec (f ≡ u) → key_w b < 4294967295
  near_by n (yes e) = omega (arith, b_is ∙ base_start u f start (held keys f) e)
  near_by n (no e) = key_near (row.blank f f_lt) n (b_is ∙ base_other u f start (held keys f) e)

  -- a start with a path leaves room for the wire's registers and the block's delay
  pub record Near : Type 0 where
    pub near : key_w b < 4294967295
    pub few : key_w b ≤ 32768000
    pub short : key_d b ≤ 163850000
    pub half : b % 4294967296 ≤ 2147483648
    pub low : b < 144115188075855872
    pub high : 10000 ≤ b

  pub near_of : (b ≡ 18446744071562067968 → ⊥) → Near
  near_of n =
      let p = near_by n (ℕ_discrete f u) in
      let q = base_w_lem (ℕ_discrete f u) in
      let h = base_half (ℕ_discrete f u) in
      let i = base_few s w u 16384 (row_w s.n keys) (row_d s.n keys) row u_lt f f_lt (omega arith) (ℕ_discrete f u) in
      let r = base_d_lem (ℕ_discrete f u) in
      let k = base_small s w u 16384 (row_w s.n keys) (row_d s.n keys) row u_lt f f_lt small (ℕ_discrete f u) in
      record { near = p; few = omega (arith, q, i); short = omega (arith, r, k); half = h; low = omega (arith, q, i); high = omega (arith, r, k, h) }

  module _ (j : ℕ) (f_is : f ≡ s.from j) where
    W_is : key_w b ≡ base_w u (held (row_w s.n keys)) (s.from j)
    W_is = base_w_lem (ℕ_discrete f u) ∙ ap (base_w u (held (row_w s.n keys))) f_is

    D_is : key_d b ≡ base_d s u (held (row_d s.n keys)) (s.from j)
    D_is = base_d_lem (ℕ_discrete f u) ∙ ap (base_d s u (held (row_d s.n keys))) f_is

    pub tried_far : b ≡ 18446744071562067968 → Tried s w u j keys keys false
    tried_far e = record { whole = whole; relaxed = (λ h. absurd (omega (arith, W_is)), refl, refl) }

    module _ (t r d x old : ℕ) (near : b ≡ 18446744071562067968 → ⊥) (t_lt : t < s.n) (t_is : t ≡ s.to j) (r_is : r ≡ w j) (r_few : r ≤ 2000) (d_is : d ≡ s.delay t) (d_small : d ≤ 10000)
        (x_is : x + d ≡ b + r * 4294967296) (old_is : old ≡ get_or keys t 0) where
      x_w : key_w x ≡ offer_w s w u (held (row_w s.n keys)) j
      x_w = let n = near_of near in omega (arith, W_is, n.few, n.short, n.half)

      x_d : key_d x ≡ offer_d s w u (held (row_d s.n keys)) j
      x_d = let n = near_of near in omega (arith, D_is, d_is ∙ ap s.delay t_is, n.few, n.short, n.half)

      x_half : x % 4294967296 ≤ 2147483648
      x_half = let n = near_of near in omega (arith, n.few, n.short, n.half)

      old_half : old % 4294967296 ≤ 2147483648
      old_half = rw old_is (whole.half t t_lt)

      old_w : key_w old ≡ get_or (row_w s.n keys) (s.to j) 0
      old_w = ap key_w old_is ∙ sym (get_d_decoded key_w s.n keys t t_lt room) ∙ ap (held (row_w s.n keys)) t_is

      old_d : key_d old ≡ get_or (row_d s.n keys) (s.to j) 0
      old_d = ap key_d old_is ∙ sym (get_d_decoded key_d s.n keys t t_lt room) ∙ ap (held (row_d s.n keys)) t_is

      module _ (keys' : List ℕ) (kept : keys' ≡ set keys t (min x old)) where
        lower : x < old → Tried s w u j keys keys' true
        lower l =
            let m : min x old ≡ x = omega arith in
            let e : keys' ≡ set keys t x = kept ∙ rw m in
            record {
              whole = rw e (whole_set s.n keys t x few_blocks t_lt x_half whole);
              relaxed = (
                omega (arith, W_is, (near_of near).near),
                rw (x_w, x_d, old_w, old_d) at (lower_ahead x old x_half old_half l),
                rw (e, decoded_set key_w s.n keys t x, x_w, t_is),
                rw (e, decoded_set key_d s.n keys t x, x_d, t_is),
              );
            }

        upper : old ≤ x → Tried s w u j keys keys' false
        upper l =
            let m : min x old ≡ old = omega arith in
            let e : keys' ≡ keys = kept ∙ rw (m, old_is) (set-get_or keys t 0) in
            record {
              whole = rw e whole;
              relaxed = (λ _. rw (x_w, x_d, old_w, old_d) at (upper_behind x old x_half old_half l), ap (row_w s.n) e, ap (row_d s.n) e);
            }

        by : Dec (x < old) → Tried s w u j keys keys' (ltb x old)
        by (yes l) = rw (lt-ltb x old l) (lower l)
        by (no l) = rw (le-ltb x old (omega arith)) (upper (omega arith))

        pub tried : Tried s w u j keys keys' (ltb x old)
        tried = by (dec_lt x old)

-- ---- the cleared keys: the start block alone
module _ (n u start d : ℕ) (keys₀ keys : List ℕ) (few : n ≤ 64) (long : length keys₀ ≡ 64) (u_lt : u < n) (small : d ≤ 10000) (start_is : start + d ≡ 2147483648)
    (keys_is : keys ≡ set (filled (λ _. 18446744071562067968) n keys₀) u start) where
  blanked : Whole n (filled (λ _. 18446744071562067968) n keys₀)
  blanked = record {
    long = length_filled (λ _. 18446744071562067968) n keys₀ ∙ long;
    half = λ v l. rw (filled_at (λ _. 18446744071562067968) n keys₀ v 0 l (omega arith)) (omega arith);
  }

  pub cleared_whole : Whole n keys
  cleared_whole = rw keys_is (whole_set n (filled (λ _. 18446744071562067968) n keys₀) u start few u_lt (omega arith) blanked)

  pub cleared_w : row_w n keys ≡ set (filled (λ _. 4294967295) n (row_w n keys₀)) u 0
  cleared_w =
      let e : key_w start ≡ 0 = omega arith in
      ap (row_w n) keys_is
      ∙ decoded_set key_w n (filled (λ _. 18446744071562067968) n keys₀) u start
      ∙ rw (decoded_filled key_w 18446744071562067968 n n keys₀, e)

  pub cleared_d : row_d n keys ≡ set (filled (λ _. 0) n (row_d n keys₀)) u d
  cleared_d =
      let e : key_d start ≡ d = omega arith in
      ap (row_d n) keys_is
      ∙ decoded_set key_d n (filled (λ _. 18446744071562067968) n keys₀) u start
      ∙ rw (decoded_filled key_d 18446744071562067968 n n keys₀, e)

-- ---- the finished keys, decoded
pub right_decoded : (s : Shape) (w : ℕ → ℕ) (u : ℕ) (keys ws₀ ds₀ ws ds : List ℕ) → s.n ≤ 64 → length ws₀ ≡ s.n → length ds₀ ≡ s.n → KeysRight s w u keys
    → ws ≡ filled (λ v. key_w (get_or keys v 0)) s.n ws₀ → ds ≡ filled (λ v. key_d (get_or keys v 0)) s.n ds₀ → RowRight s w u ws ds
right_decoded s w u keys ws₀ ds₀ ws ds few p q k e d = record {
  ws_long = ap length e ∙ length_filled (λ v. key_w (get_or keys v 0)) s.n ws₀ ∙ p;
  ds_long = ap length d ∙ length_filled (λ v. key_d (get_or keys v 0)) s.n ds₀ ∙ q;
  entry = λ v l.
      let W : get_or ws v 0 ≡ get_or (row_w s.n keys) v 0 = ap (λ (r : List ℕ). get_or r v 0) e ∙ filled_at (λ v. key_w (get_or keys v 0)) s.n ws₀ v 0 l (omega arith) ∙ sym (get_d_decoded key_w s.n keys v l (omega (arith, k.whole.long))) in
      let D : get_or ds v 0 ≡ get_or (row_d s.n keys) v 0 = ap (λ (r : List ℕ). get_or r v 0) d ∙ filled_at (λ v. key_d (get_or keys v 0)) s.n ds₀ v 0 l (omega arith) ∙ sym (get_d_decoded key_d s.n keys v l (omega (arith, k.whole.long))) in
      rw (W, D) (k.right.entry v l);
}
