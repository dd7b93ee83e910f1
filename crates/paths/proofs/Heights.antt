-- Heights: what trying a wire and a sweep over all wires come to; settled heights forbid register-free loops; the highest is the period.
-- Assumes nothing.
use Rattle.std.specs.Prelude.{◌≡◌, refl, Bool, true, false, ◌||◌, ◌⊎◌, List, [], ◌∷◌, ℕ, ◌+◌, ◌*◌, ◌-◌, ◌≤◌, ◌<◌, max, ltb, length, get_or, set, replicate}
use Rattle.std.proofs.Common.{sym, ap, ◌∙◌, subst, true≢false, inl, inr, arith, below_more, lt-ltb, le-ltb, length-set, length-append, get_or-set_same, get_or-set_other}
use Rattle.std.specs.Coded.{le_prop}
use Rattle.std.proofs.Math.Logic.{∥∥₁_elim}
use Rattle.std.proofs.Math.Nat.{ℕ_set}
use Rattle.std.proofs.Math.Decide.{ℕ_discrete, dec_lt}
use Rattle.std.proofs.lemmas.List.{length-replicate, get_or-replicate, set-get_or}
use Rattle.sheet.specs.Core.{Shape, registers_in, shape_of}
use Rattle.sheet.specs.Rules.{None}
use Rattle.paths.specs.Path.{Joins, registers_on, delay_on}
use Rattle.paths.specs.Lists.{held, list_shape, Wires, Delays}
use Rattle.paths.specs.Table.{LoopAt, Way, Period}
use Rattle.paths.specs.Questions.{loop_rules}
use Rattle.paths.specs.Rise.{Stands, Listed, Lifted, Highest, Ending, Heights, offered, Trying, Swept, Covered, Settled, Risen}
use Rattle.paths.specs.Laws.Path.{joins_start_lt, joins_end_lt, joins_ends, registers_snoc, Last, nil, snoc, last}
use Rattle.paths.proofs.Delays.{delay_snoc}
use Rattle.paths.specs.Laws.Simple.{Loop, passed, simple_or_loop, simple_short, cut_registers, loop_at}
use Rattle.paths.specs.Distinct.{NoDup}
use Rattle.paths.specs.Laws.Same.{SameWires, same_sym, loop_same}
use Rattle.paths.proofs.Way.{Limits}
use Rattle.paths.proofs.Way.{way_start, way_more}

-- ---- the listed wires
pub listed_none : (w : ℕ → ℕ) (list : List ℕ) → length list ≡ 256 → Listed w 0 0 list
listed_none w list l = record {
  long = l;
  few = omega arith;
  wire = λ i h. absurd (omega arith);
  free = λ i h. absurd (omega arith);
  all = λ x h. absurd (omega arith);
}

module _ (w : ℕ → ℕ) (j k : ℕ) (list : List ℕ) (p : Listed w j k list) (j_lt : j < 256) where
  abbrev next : List ℕ
  next = set list k j

  next_before : (i : ℕ) → i < k → get_or next i 0 ≡ get_or list i 0
  next_before i h = get_or-set_other list k i j 0 (λ e. omega arith)

  next_here : get_or next k 0 ≡ j
  next_here = get_or-set_same list k j 0 (omega (arith, p.few, p.long))

  stood : (x : ℕ) → Stands list k x → (k' : ℕ) → k ≤ k' → Stands next k' x
  stood x q k' l = record { place = q.place; before = omega (arith, q.before); here = next_before q.place q.before ∙ q.here }

  pub listed_free : w j ≡ 0 → Listed w (j + 1) (k + 1) next
  listed_free z = record {
    long = length-set list k j ∙ p.long;
    few = omega (arith, p.few);
    wire = below_more (λ (i : ℕ). get_or next i 0 < j + 1) k (λ i h. omega (arith, next_before i h, p.wire i h)) (omega (arith, next_here));
    free = below_more (λ (i : ℕ). w (get_or next i 0) ≡ 0) k (λ i h. ap w (next_before i h) ∙ p.free i h) (ap w next_here ∙ z);
    all = below_more (λ (x : ℕ). w x ≡ 0 → Stands next (k + 1) x) j (λ x h e. stood x (p.all x h e) (k + 1) (omega arith))
        (λ _. record { place = k; before = omega arith; here = next_here });
  }

  pub listed_held : (w j ≡ 0 → ⊥) → Listed w (j + 1) k next
  listed_held z = record {
    long = length-set list k j ∙ p.long;
    few = omega (arith, p.few);
    wire = λ i h. omega (arith, next_before i h, p.wire i h);
    free = λ i h. ap w (next_before i h) ∙ p.free i h;
    all = below_more (λ (x : ℕ). w x ≡ 0 → Stands next k x) j (λ x h e. stood x (p.all x h e) k (omega arith)) (λ e. absurd (z e));
  }

-- the list turned round: entry i is the list's entry k - 1 - i
pub listed_turned : (w : ℕ → ℕ) (j k : ℕ) (list back : List ℕ) → Listed w j k list → length back ≡ 256
    → ((i : ℕ) → i < k → get_or back i 0 ≡ get_or list (k - 1 - i) 0) → Listed w j k back
listed_turned w j k list back p l e = record {
  long = l;
  few = p.few;
  wire = λ i h. omega (arith, e i h, p.wire (k - 1 - i) (omega arith));
  free = λ i h. ap w (e i h) ∙ p.free (k - 1 - i) (omega arith);
  all = λ x h z. let q = p.all x h z in record {
    place = k - 1 - q.place;
    before = omega (arith, q.before);
    here = e (k - 1 - q.place) (omega (arith, q.before)) ∙ ap (λ (i : ℕ). get_or list i 0) (omega (arith, q.before)) ∙ q.here;
  };
}

-- what the truth that some such list is there gives
pub listed_wire : {w : ℕ → ℕ} {j k : ℕ} {list : List ℕ} → ∥ Listed w j k list ∥₁ → (i : ℕ) → i < k → get_or list i 0 < j
listed_wire T i h = ∥∥₁_elim T le_prop (λ t. t.wire i h)

pub listed_register : {w : ℕ → ℕ} {j k : ℕ} {list : List ℕ} → ∥ Listed w j k list ∥₁ → (i : ℕ) → i < k → w (get_or list i 0) ≡ 0
listed_register T i h = ∥∥₁_elim T (ℕ_set _ _) (λ t. t.free i h)

pub listed_few : {w : ℕ → ℕ} {j k : ℕ} {list : List ℕ} → ∥ Listed w j k list ∥₁ → k ≤ j
listed_few T = ∥∥₁_elim T le_prop (λ t. t.few)

pub turned_next : (k i : ℕ) (list back : List ℕ) → i < length back → ((x : ℕ) → x < i → get_or back x 0 ≡ get_or list (k - 1 - x) 0)
    → (x : ℕ) → x < i + 1 → get_or (set back i (get_or list (k - 1 - i) 0)) x 0 ≡ get_or list (k - 1 - x) 0
turned_next k i list back h e =
    below_more (λ (x : ℕ). get_or (set back i (get_or list (k - 1 - i) 0)) x 0 ≡ get_or list (k - 1 - x) 0) i
    (λ x l. get_or-set_other back i x _ 0 (λ q. omega arith) ∙ e x l) (get_or-set_same back i _ 0 h)

-- ---- one wire
pub lifted : (f t d x : ℕ) (old new : List ℕ) → x ≡ get_or old f 0 + d → new ≡ set old t (max x (get_or old t 0)) → Lifted f t d old new (ltb (get_or old t 0) x)
lifted f t d x old new e p = go (dec_lt (get_or old t 0) x)
  where
    go : Dec (get_or old t 0 < x) → Lifted f t d old new (ltb (get_or old t 0) x)
    go (yes l) =
        let q : max x (get_or old t 0) ≡ get_or old f 0 + d = omega arith in
        rw (lt-ltb (get_or old t 0) x l) (omega arith, p ∙ ap (set old t) q)
    go (no l) =
        let q : max x (get_or old t 0) ≡ get_or old t 0 = omega arith in
        rw (le-ltb (get_or old t 0) x (omega arith)) (omega arith, p ∙ ap (set old t) q ∙ set-get_or old t 0)

module _ (s : Shape) (w : ℕ → ℕ) where
  -- a fact on each height after a store at t: on what was stored, and on each other height as it was
  stored : (P : ℕ → ℕ → Type 0) (l : List ℕ) (t x : ℕ) → t < length l → P t x → ((v : ℕ) → P v (get_or l v 0)) → (v : ℕ) → P v (get_or (set l t x) v 0)
  stored P l t x h here old v = go (ℕ_discrete v t)
    where
      go : Dec (v ≡ t) → P v (get_or (set l t x) v 0)
      go (yes e) = rw (e, get_or-set_same l t x 0 h) here
      go (no e) = rw (get_or-set_other l t v x 0 e) (old v)

  pub heights_more : (k k' : ℕ) (l : List ℕ) → k ≤ k' → Heights s w k l → Heights s w k' l
  heights_more k k' l h p = record { long = p.long; real = p.real; small = λ v g. omega (arith, p.small v g) }

  -- ---- the start: each block alone
  pub heights_start : (l : List ℕ) → length l ≡ 64 → ((v : ℕ) → v < s.n → get_or l v 0 ≡ s.delay v) → ((v : ℕ) → v < s.n → s.delay v ≤ 10000) → Heights s w 0 l
  heights_start l long e small = record {
    long = long;
    real = λ v h. record { start = v; way = rw (e v h) (way_start s w v h) };
    small = λ v h. omega (arith, e v h, small v h);
  }

  pub covered_start : (l : List ℕ) → ((v : ℕ) → v < s.n → s.delay v ≤ get_or l v 0) → Covered s w 0 l
  covered_start l e = record { most = go }
    where
      go : (u v : ℕ) (ws : List ℕ) → Joins s u ws v → registers_on w ws ≡ 0 → length ws ≤ 0 → delay_on s u ws ≤ get_or l v 0
      go u v [] h z q = rw (← h.1) (e u h.0)
      go u v (j ∷ ws) h z q = absurd (omega arith)

  -- ---- a sweep: its start, a turn and its end
  module _ (g : Limits s w) (narrow : s.n ≤ 64) where
    pub trying_start : (k : ℕ) (list old : List ℕ) → Heights s w k old → Trying s w k 0 list old old false
    trying_start k list old p = record {
      heights = heights_more k (k + 0) old (omega arith) p;
      few = λ e. absurd (true≢false (sym e));
      keeps = λ v. omega arith;
      tried = λ x h. absurd (omega arith);
      still = λ _. refl;
    }

    module _ (k i j : ℕ) (list old now new : List ℕ) (rose : Bool) (p : Trying s w k i list old now rose) (wire : j < s.m) (free : w j ≡ 0) (here : get_or list i 0 ≡ j) where
      t_lt : s.to j < s.n
      t_lt = g.to_block j wire

      f_lt : s.from j < s.n
      f_lt = g.from_block j wire

      room : s.to j < length now
      room = omega (arith, t_lt, p.heights.long)

      risen : Heights s w (k + i + 1) (set now (s.to j) (offered s w now j))
      risen = record {
        long = length-set now (s.to j) (offered s w now j) ∙ p.heights.long;
        real = stored (λ (v x : ℕ). v < s.n → Ending s w v x) now (s.to j) (offered s w now j) room
            (λ _. let e = p.heights.real (s.from j) f_lt in
            record { start = e.start; way = subst (λ (r : ℕ). Way s w e.start (s.to j) r (offered s w now j)) (omega (arith, free)) (way_more s w e.start (s.from j) 0 _ j e.way wire refl t_lt) })
            p.heights.real;
        small = stored (λ (v x : ℕ). v < s.n → x ≤ 10000 * (k + i + 1 + 1)) now (s.to j) (offered s w now j) room
            (λ _. omega (arith, p.heights.small (s.from j) f_lt, g.small (s.to j) t_lt))
            (λ v h. omega (arith, p.heights.small v h));
      }

      trying_rose : get_or now (s.to j) 0 < offered s w now j → new ≡ set now (s.to j) (offered s w now j) → Trying s w k (i + 1) list old new true
      trying_rose l e = rw e (record {
        heights = heights_more (k + i + 1) (k + (i + 1)) _ (omega arith) risen;
        few = λ _. omega arith;
        keeps = up;
        tried = below_more (λ (x : ℕ). offered s w old (get_or list x 0) ≤ get_or (set now (s.to j) (offered s w now j)) (s.to (get_or list x 0)) 0) i
            (λ x h. omega (arith, p.tried x h, up' (s.to (get_or list x 0))))
            (rw here (omega (arith, get_or-set_same now (s.to j) (offered s w now j) 0 room, p.keeps (s.from j))));
        still = λ q. absurd (true≢false q);
      })
        where
          up' : (v : ℕ) → get_or now v 0 ≤ get_or (set now (s.to j) (offered s w now j)) v 0
          up' = stored (λ (v x : ℕ). get_or now v 0 ≤ x) now (s.to j) (offered s w now j) room (omega arith) (λ v. omega arith)

          up : (v : ℕ) → get_or old v 0 ≤ get_or (set now (s.to j) (offered s w now j)) v 0
          up v = omega (arith, p.keeps v, up' v)

      trying_stayed : offered s w now j ≤ get_or now (s.to j) 0 → new ≡ now → Trying s w k (i + 1) list old new rose
      trying_stayed l e = rw e (record {
        heights = heights_more (k + i) (k + (i + 1)) now (omega arith) p.heights;
        few = λ e. omega (arith, p.few e);
        keeps = p.keeps;
        tried = below_more (λ (x : ℕ). offered s w old (get_or list x 0) ≤ get_or now (s.to (get_or list x 0)) 0) i p.tried
            (rw here (omega (arith, p.keeps (s.from j))));
        still = p.still;
      })

    pub trying_next : (k i j : ℕ) (list old now new : List ℕ) (rose : Bool) → Trying s w k i list old now rose → j < s.m → w j ≡ 0 → get_or list i 0 ≡ j
        → (b : Bool) → Lifted (s.from j) (s.to j) (s.delay (s.to j)) now new b → Trying s w k (i + 1) list old new (rose || b)
    trying_next k i j list old now new true p l z e true h = trying_rose k i j list old now new true p l z e h.0 h.1
    trying_next k i j list old now new false p l z e true h = trying_rose k i j list old now new false p l z e h.0 h.1
    trying_next k i j list old now new true p l z e false h = trying_stayed k i j list old now new true p l z e h.0 h.1
    trying_next k i j list old now new false p l z e false h = trying_stayed k i j list old now new false p l z e h.0 h.1

    pub swept : (k i k' : ℕ) (list old new : List ℕ) (rose : Bool) → ∥ Listed w s.m i list ∥₁ → k + i ≤ k' → Trying s w k i list old new rose → Swept s w k' old new rose
    swept k i k' list old new rose q l p = record {
      heights = heights_more (k + i) k' new l p.heights;
      keeps = p.keeps;
      tried = λ j h z. ∥∥₁_elim q le_prop (λ t. let e = t.all j h z in
          subst (λ (x : ℕ). offered s w old x ≤ get_or new (s.to x) 0) e.here (p.tried e.place e.before));
      still = p.still;
    }

  -- ---- after one sweep more, paths of one wire more are covered
  module _ (k k' : ℕ) (old new : List ℕ) (rose : Bool) (c : Covered s w k old) (p : Swept s w k' old new rose) where
    more : (u v : ℕ) (ws : List ℕ) → Joins s u ws v → registers_on w ws ≡ 0 → length ws ≤ k + 1 → Last ws → delay_on s u ws ≤ get_or new v 0
    more u v ws h z l nil = omega (arith, c.most u v [] h refl (omega arith), p.keeps v)
    more u v ws h z l (snoc xs j) =
        let q = joins_ends s u xs j v h in
        let r = registers_snoc w xs j in
        let a = c.most u (s.from j) xs q.rest (omega arith) (omega (arith, length-append xs (j ∷ []))) in
        let b = p.tried j q.wire (omega arith) in
        rw (← q.end) (omega (arith, delay_snoc s u xs j, a, b))

    pub covered_more : Covered s w (k + 1) new
    covered_more = record { most = λ u v ws h z l. more u v ws h z l (last ws) }

    pub swept_settled : rose ≡ false → Settled s w new
    swept_settled e j h z = let q = p.still e in omega (arith, rw (← q) at (p.tried j h z))

  pub covered_less : (k k' : ℕ) (l : List ℕ) → k' ≤ k → Covered s w k l → Covered s w k' l
  covered_less k k' l h c = record { most = λ u v ws g z q. c.most u v ws g z (omega arith) }

  -- ---- settled heights rise along each register-free path by its delay past its first block
  module _ (l : List ℕ) (p : Settled s w l) where
    climb : (u v : ℕ) (ws : List ℕ) → Joins s u ws v → registers_on w ws ≡ 0 → get_or l u 0 + delay_on s u ws ≤ get_or l v 0 + s.delay u
    climb u v [] h z = omega (arith, ap (λ (x : ℕ). get_or l x 0) h.1)
    climb u v (j ∷ ws) h z =
        omega (
          arith,
          climb (s.to j) v ws h.4 (omega arith),
          p j h.1 (omega arith),
          ap (λ (x : ℕ). get_or l x 0) h.2,
        )

    pub settled_covered : ((v : ℕ) → v < s.n → s.delay v ≤ get_or l v 0) → (k : ℕ) → Covered s w k l
    settled_covered e k = record { most = λ u v ws h z q. omega (arith, climb u v ws h z, e u (joins_start_lt s u ws v h)) }

    delay_first : (u : ℕ) (ws : List ℕ) → s.delay u ≤ delay_on s u ws
    delay_first u [] = omega arith
    delay_first u (j ∷ ws) = omega arith

    pub settled_free : ((v : ℕ) → v < s.n → 1 ≤ s.delay v) → (b : ℕ) → LoopAt s w b → ⊥
    settled_free e b q =
        let h = q.joins in
        omega (
          arith,
          climb b b (q.wire ∷ q.wires) h q.free,
          delay_first (s.to q.wire) q.wires,
          e (s.to q.wire) (joins_start_lt s (s.to q.wire) q.wires b h.4),
        )

  -- ---- the end: a sweep that changes nothing, as many sweeps as there are blocks, or a height above the limit
  module _ (limit : ℕ) where
    pub risen_still : (k k' : ℕ) (old new : List ℕ) (rose : Bool) → Covered s w k old → k' ≤ 16640 → Swept s w k' old new rose → rose ≡ false → Risen s w limit new true
    risen_still k k' old new rose c l p e =
        let q = swept_settled k k' old new rose c p e in
        record {
          long = p.heights.long;
          real = p.heights.real;
          small = λ v h. omega (arith, p.heights.small v h);
          covered = λ _. settled_covered new q (λ v h. omega (arith, c.most v v [] (h, refl) refl (omega arith), p.keeps v)) s.n;
          settled = λ _. q;
        }

    unsettled : (k : ℕ) (l : List ℕ) → k ≤ 16640 → Heights s w k l → (((v : ℕ) → v < s.n → get_or l v 0 ≤ limit) → Covered s w s.n l) → Risen s w limit l false
    unsettled k l h p c = record {
      long = p.long;
      real = p.real;
      small = λ v g. omega (arith, p.small v g);
      covered = c;
      settled = λ e. absurd (true≢false (sym e));
    }

    pub risen_end : (k k' : ℕ) (l : List ℕ) → s.n ≤ k → k' ≤ 16640 → Covered s w k l → Heights s w k' l → Risen s w limit l false
    risen_end k k' l h g c p = unsettled k' l g p (λ _. covered_less k s.n l h c)

    pub risen_above : (k r : ℕ) (l : List ℕ) → k ≤ 16640 → Heights s w k l → Highest l s.n r → limit < r → Risen s w limit l false
    risen_above k r l h p q g = unsettled k l h p (λ f. absurd (omega (arith, f q.block q.before, q.here)))

  -- ---- the highest of covered heights is the period, where no loop is register-free
  module _ (free : (b : ℕ) → LoopAt s w b → ⊥) where
    all_short : (u v : ℕ) (ws : List ℕ) → Joins s u ws v → registers_on w ws ≡ 0 → NoDup (passed s ws) ⊎ Loop s ws → length ws ≤ s.n
    all_short u v ws h z (inl d) = simple_short s u ws v h d
    all_short u v ws h z (inr l) = absurd (free _ (loop_at s w u v ws h l (omega (arith, cut_registers s w u v ws h l))))

    pub highest_period : (l : List ℕ) (r : Bool) (p : ℕ) → Risen s w 4294967295 l r → Highest l s.n p → Period s w p
    highest_period l r p a b =
        let e = a.real b.block b.before in
        let c = a.covered (λ v h. omega (arith, a.small v h)) in
        record {
          start = e.start;
          end = b.block;
          way = subst (Way s w e.start b.block 0) b.here e.way;
          largest = λ u v ws h z.
              omega (arith, c.most u v ws h z (all_short u v ws h z (simple_or_loop s ws)), b.most v (joins_end_lt s u ws v h));
        }

-- ---- the highest of a list
pub highest_first : (l : List ℕ) → Highest l 1 (get_or l 0 0)
highest_first l = record { block = 0; before = omega arith; here = refl; most = λ v h. let e : v ≡ 0 = omega arith in rw e (omega arith) }

pub highest_next : (l : List ℕ) (k r r' : ℕ) → Highest l k r → r' ≡ max r (get_or l k 0) → Highest l (k + 1) r'
highest_next l k r r' p e = go (dec_lt r (get_or l k 0))
  where
    most : (v : ℕ) → v < k + 1 → get_or l v 0 ≤ r'
    most = below_more (λ (v : ℕ). get_or l v 0 ≤ r') k (λ v h. omega (arith, p.most v h)) (omega arith)

    go : Dec (r < get_or l k 0) → Highest l (k + 1) r'
    go (yes h) = record { block = k; before = omega arith; here = omega arith; most = most }
    go (no h) = record { block = p.block; before = omega (arith, p.before); here = omega (arith, p.here); most = most }

-- ---- a sheet's wires, each block with a delay of 1: where the heights settle, refusal 7 does not apply
pub ones_held : (n : ℕ) → n ≤ 64 → Delays n (replicate 64 1)
ones_held n h = record { long = length-replicate {A = ℕ} 64 1; small = λ b l. omega (arith, get_or-replicate {A = ℕ} 64 b 1 0 (omega arith)) }

pub settled_none : (s : List ℕ) (n m limit : ℕ) (from to registers heights : List ℕ) (r : Bool) → Wires n m from to registers → SameWires (list_shape n m (replicate 64 1) from to) (shape_of s) (held registers) (registers_in s)
    → Risen (list_shape n m (replicate 64 1) from to) (held registers) limit heights r → r ≡ true → None (loop_rules s)
settled_none s n m limit from to registers heights r h e p q = (
  λ k. settled_free (list_shape n m (replicate 64 1) from to) (held registers) heights (p.settled q)
      (λ v l. omega (arith, get_or-replicate {A = ℕ} 64 v 1 0 (omega (arith, h.few_blocks)))) k.0 (loop_same (same_sym e) k.0 k.2),
  tt,
)
