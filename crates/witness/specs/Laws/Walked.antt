-- From where the solver is stuck, the walk of links closes a loop.
-- Assumes nothing.
use Rattle.std.specs.Prelude.{◌≡◌, refl, ◌⊎◌, ℕ, zero, suc, ◌+◌, ◌*◌, ◌≤◌, ◌<◌, ℤ, neg_ℤ, length, get_or, take}
use Rattle.std.proofs.Common.{sym, ap, ◌∙◌, subst, inl, inr, arith, mul-le-mul}
use mathlib.Core.List.{List, [], ◌∷◌, ◌++◌, map}
use Rattle.std.proofs.Math.Decide.{ℕ_discrete, dec_lt}
use Rattle.std.proofs.lemmas.List.Edits.{sets}
use Rattle.sheet.specs.Core.{Core, core_of, blocks_in, delay_in, lower_in, upper_in}
use Rattle.sheet.specs.Sheet.{Formed}
use Rattle.sheet.specs.Laws.Formed.{formed_core}
use Rattle.sheet.specs.Laws.Integer.{negated}
use Rattle.sheet.specs.Laws.Sheet.{lower_parts}
use Rattle.paths.specs.Distinct.{NotIn}
use Rattle.loops.specs.Link.{Link, lower, all_words, link_a, sum_k, ValidLoop}
use Rattle.loops.specs.Laws.Chain.{parts_negative}
use Rattle.solver.specs.declared.Given.{Given}
use Rattle.solver.specs.declared.Standing.{Standing}
use Rattle.solver.specs.declared.Broken.{Broken}
use Rattle.solver.specs.declared.Rule.{Rule}
use Rattle.solver.specs.declared.Rule.TheVariants as R
use Rattle.solver.specs.System as S
use Rattle.solver.specs.Walk.{Depth, Rooted, iter, Hit}
use Rattle.solver.specs.Laws.Walk.{iter_in, short, distinct}
use Rattle.witness.specs.Stands.{Slow}
use Rattle.witness.specs.Trace.{Tabled, Known}
use Rattle.witness.specs.Written.{Asked, for_upper, for_path, for_wire, for_ceiling, LinkWritten, LoopWritten}
use Rattle.witness.specs.Walked.{Halted, Ends, far, NoneSlow, Linked, Walked, Begun}
use Rattle.witness.specs.Laws.Sets.{sets_front, sets_kept}
use Rattle.witness.specs.Laws.Link.{asked_a, asked_b}
use Rattle.witness.specs.Laws.Asked.{Bound, link_slow, rule_asked, link_asked}
use Rattle.witness.specs.Laws.Linked.{not_in_snoc, linked_none, linked_next, linked_room, linked_few}

-- ---- how far the host is
far_depth : (par : List ℕ) (most d v : ℕ) → Depth par d v → d ≤ most → far most par v ≡ d
far_depth par zero zero v p h = refl
far_depth par (suc most) zero v p h = rw p refl
far_depth par zero (suc d) v p h = absurd (omega arith)
far_depth par (suc most) (suc d) zero p h = absurd (p.0 refl)
far_depth par (suc most) (suc d) (suc v) p h = ap suc (far_depth par most d (get_or par (suc v) 0) p.1 (omega arith))

pub far_less : (n most : ℕ) (par : List ℕ) → Rooted n par → n ≤ most → (v : ℕ) → v < n → (v ≡ 0 → ⊥) → far most par (get_or par v 0) < far most par v
far_less n most par R m v h nz = let q = R.ends v h in go q.0 q.1
  where
    go : (d : ℕ) → Depth par d v → far most par (get_or par v 0) < far most par v
    go zero p = absurd (nz p)
    go (suc d) p =
        let l = short n par R (suc d) v h p in
        omega (arith, far_depth par most (suc d) v p (omega arith), far_depth par most d (get_or par v 0) p.1 (omega arith))

-- ---- a link that is asked for is of kind 2 only where a path is too slow
asked_slow : (c : Core) (p : ℕ) (r : Rule) (a b : ℕ) (z : ℤ) → Asked c p r a b z → NoneSlow c p → r ≡ R.Path → ⊥
asked_slow c p r a b z (for_upper e l x q) none h = cc
asked_slow c p r a b z (for_path e W D x l q) none h = none a b W D x l
asked_slow c p r a b z (for_wire j l e x y q) none h = cc
asked_slow c p r a b z (for_ceiling j l e x y q) none h = cc

module _ {s : List ℕ} {g : Given} {t : Standing} {x : Broken} (h : Halted s g t x) where
  pub blocks : g.n ≡ blocks_in s
  blocks = h.stands.n_is

  pub few_blocks : g.n ≤ 64
  few_blocks = h.state.fit.few_blocks

  halted_table : Slow g → Tabled s g
  halted_table slow = record {
    sound = h.stands.sound;
    n_is = blocks;
    m_is = h.stands.m_is;
    registers_long = h.state.fit.registers_long;
    delays_long = h.state.fit.delays_long;
    table = h.stands.table slow;
  }

  pub halted_knows : (r : Rule) (a b k : ℕ) → S.Link g r a b k → Known s g r
  halted_knows r a b k l = record { sound = h.stands.sound; tabled = λ q. halted_table (link_slow g r a b k l q) }

  formed : Formed (core_of s)
  formed = formed_core s h.stands.sound.formed

  pub rule_bound : Bound s g x.rule x.a x.b h.stuck.k
  rule_bound = rule_asked s g h.stands x.rule x.a x.b h.stuck.k h.stuck.says

  pub a_in : x.a < g.n
  a_in = omega (arith, blocks, asked_a (core_of s) formed g.period x.rule x.a x.b rule_bound.z rule_bound.asked)

  pub b_in : x.b < g.n
  b_in = omega (arith, blocks, asked_b (core_of s) formed g.period x.rule x.a x.b rule_bound.z rule_bound.asked)

  pub rooted : Rooted g.n t.next
  rooted = h.state.rooted

  pub held_bound : (v : ℕ) → (l : v < g.n) → Bound s g (get_or t.rules v R.Limit) v (get_or t.next v 0) (h.state.held v l).0
  held_bound v l = link_asked s g h.stands _ _ _ _ l (h.state.held v l).1

  host_lag : get_or t.lags 0 0 ≡ 32768
  host_lag =
      let l : 0 < g.n = h.state.fit.some_block in
      omega (arith, h.state.low 0 l, h.state.high 0 l, h.state.fit.host_lower, h.state.fit.host_upper)

  module _ (start : ℕ) (ends : Ends t.next x.a x.b start) where
    -- ---- the loop before its first rule
    pub record Begins (w w' : List ℕ) (at : ℕ) : Type 0 where
      pub links : List Link
      pub top : ℕ
      pub linked : Linked (core_of s) g.period start x.a top (get_or t.lags start 0) links w w' at
      pub asks : get_or t.lags x.b 0 + h.stuck.k < top + 32768
      pub fresh : NotIn x.a (map (link_a (core_of s)) links)
      pub others : (y : ℕ) → (y ≡ start → ⊥) → NotIn y (map (link_a (core_of s)) links)

    -- the broken rule asks for less than the lower limit of its a
    abbrev Under : Type 0
    Under = get_or t.lags x.b 0 + h.stuck.k < get_or g.lower x.a 0 + 32768

    -- a walk that ends at the host before it meets a is none that meets a
    falls_short : (start ≡ x.a → ⊥) → Hit t.next x.a x.b ⊎ Under → Under
    falls_short f (inr l) = l
    falls_short f (inl m) = go (dec_lt ends.steps m.steps) (dec_lt m.steps ends.steps)
      where
        go : Dec (ends.steps < m.steps) → Dec (m.steps < ends.steps) → Under
        go (yes l) d = absurd ((m.past ends.steps l).1 (ends.there ∙ ends.host f))
        go (no l) (yes k) = absurd ((ends.past m.steps k).0 m.there)
        go (no l) (no k) =
            let q : m.steps ≡ ends.steps = omega arith in
            absurd (f (sym ends.there ∙ ap (λ (y : ℕ). iter t.next y x.b) (sym q) ∙ m.there))

    -- the lower limit of a, as a link from the host
    lower_written : (w w' : List ℕ) → w' ≡ sets w 0 (4 ∷ x.a ∷ []) → LinkWritten (core_of s) g.period R.Limit 0 x.a (neg_ℤ (lower_in s x.a)) w w' 0 2
    lower_written w w' q = record {
      link = lower x.a;
      good = omega (arith, blocks, a_in);
      a_is = refl;
      b_is = refl;
      k_is = refl;
      words_are = q;
      next_is = refl;
      few = omega arith;
      plain = λ _. tt;
    }

    lower_linked : (w w' : List ℕ) → w' ≡ sets w 0 (4 ∷ x.a ∷ []) → Linked (core_of s) g.period 0 x.a (get_or g.lower x.a 0) (get_or t.lags 0 0) (lower x.a ∷ []) w w' 2
    unfolding lower_written
    lower_linked w w' q =
        let a = x.a in
        let l : a < blocks_in s = omega (arith, blocks, a_in) in
        linked_next (core_of s) g.period 0 0 (get_or t.lags 0 0) (get_or t.lags 0 0) [] w w 0 (linked_none (core_of s) g.period 0 (get_or t.lags 0 0) w) R.Limit a (neg_ℤ (lower_in s a)) w' 2
        (get_or g.lower a 0)
        (lower_written w w' q)
        (omega (arith, host_lag, h.stands.lower_is a l, negated (lower_in s a), lower_parts a (delay_in s a) (lower_in s a) (upper_in s a) (h.stands.sound.formed.block a l)))
        tt
        (λ none z. cc)

    pub begins : (w w' : List ℕ) (at : ℕ) → Begun start x.a w w' at → Begins w w' at
    begins w w' at o = go (ℕ_discrete start x.a)
      where
        go : Dec (start ≡ x.a) → Begins w w' at
        go (yes q) = record {
          links = [];
          top = get_or t.lags start 0;
          linked = rw ((o.0 q).0, (o.0 q).1, ← q) (linked_none (core_of s) g.period start (get_or t.lags start 0) w);
          asks = omega (arith, h.stuck.broken, ap (λ (y : ℕ). get_or t.lags y 0) q);
          fresh = tt;
          others = λ y f. tt;
        }
        go (no f) = record {
          links = lower x.a ∷ [];
          top = get_or g.lower x.a 0;
          linked = rw (ends.host f, (o.1 f).1) (lower_linked w w' (o.1 f).0);
          asks = falls_short f h.stuck.why;
          fresh = (λ q. f (ends.host f ∙ sym q), tt);
          others = λ y k. (λ q. k (q ∙ sym (ends.host f)), tt);
        }

    module _ (w w' : List ℕ) (at : ℕ) (B : Begins w w' at) where
      pub begins_room : at + (g.n + 2) ≤ g.n * (g.n + 2)
      begins_room =
          rw blocks (linked_room (core_of s) g.period start x.a B.top (get_or t.lags start 0) B.links w w' at B.linked formed (omega (arith, blocks, a_in)) B.fresh)

      pub walked_start : (w'' : List ℕ) (next : ℕ) → LinkWritten (core_of s) g.period x.rule x.a x.b rule_bound.z w' w'' at next → Walked s g t x start ends w w'' next x.b
      walked_start w'' next l = record {
        k = 0;
        soon = omega arith;
        here = refl;
        links = B.links ++ (l.link ∷ []);
        linked =
            linked_next (core_of s) g.period start x.a B.top (get_or t.lags start 0) B.links w w' at B.linked x.rule x.b rule_bound.z w'' next (get_or t.lags x.b 0 + 1) l
            (omega (arith, B.asks, rule_bound.z_is))
            B.fresh
            (asked_slow (core_of s) g.period x.rule x.a x.b rule_bound.z rule_bound.asked);
        apart = λ y f k j. not_in_snoc (core_of s) y B.links l.link (B.others y f) (λ q. k (q ∙ l.a_is));
      }

    module _ (w w' : List ℕ) (at v : ℕ) (W : Walked s g t x start ends w w' at v) where
      pub walked_in : v < g.n
      walked_in = subst (λ (y : ℕ). y < g.n) W.here (iter_in g.n t.next rooted x.b b_in W.k)

      module _ (f : v ≡ start → ⊥) where
        on : W.k < ends.steps
        on =
            elim (ℕ_discrete W.k ends.steps) [
              | yes q ↦ absurd (f (sym W.here ∙ ap (λ (y : ℕ). iter t.next y x.b) q ∙ ends.there))
              | no q ↦ omega (arith, W.soon)
            ]

        fresh_here : NotIn v (map (link_a (core_of s)) W.links)
        fresh_here =
            let d = rooted.ends x.b b_in in
            W.apart v f (λ q. (ends.past W.k on).0 (W.here ∙ q))
            (λ j l q. distinct t.next x.b d.0 j W.k d.1 (λ m y. (ends.past m (omega (arith, on))).1) l (sym q ∙ sym W.here))

        pub walked_room : at + (g.n + 2) ≤ g.n * (g.n + 2)
        walked_room =
            rw blocks (linked_room (core_of s) g.period start v _ _ W.links w w' at W.linked formed (omega (arith, blocks, walked_in)) fresh_here)

        pub walked_less : far 64 t.next (get_or t.next v 0) < far 64 t.next v
        walked_less = far_less g.n 64 t.next rooted few_blocks v walked_in (λ z. (ends.past W.k on).1 (W.here ∙ z))

        pub walked_next : (w'' : List ℕ) (next v' : ℕ) → LinkWritten (core_of s) g.period (get_or t.rules v R.Limit) v (get_or t.next v 0) (held_bound v walked_in).z w' w'' at next
            → v' ≡ get_or t.next v 0 → Walked s g t x start ends w w'' next v'
        walked_next w'' next v' l q =
            let B = held_bound v walked_in in
            rw q
            (record {
              k = suc W.k;
              soon = on;
              here = ap (λ (y : ℕ). get_or t.next y 0) W.here;
              links = W.links ++ (l.link ∷ []);
              linked =
                  linked_next (core_of s) g.period start v _ _ W.links w w' at W.linked (get_or t.rules v R.Limit) (get_or t.next v 0) B.z w'' next (get_or t.lags (get_or t.next v 0) 0 + 1) l
                  (omega (arith, B.z_is, (h.state.held v walked_in).2))
                  fresh_here
                  (asked_slow (core_of s) g.period _ _ _ B.z B.asked);
              apart = λ y o m j. not_in_snoc (core_of s) y W.links l.link (W.apart y o m (λ k i. j k (omega arith))) (λ z. j W.k (omega arith) (z ∙ l.a_is ∙ sym W.here));
            })

      -- ---- back at the start: the links are a valid loop
      module _ (q : v ≡ start) (room : g.n * (g.n + 2) ≤ length w) where
        fits : at ≤ g.n * (g.n + 2)
        fits = rw blocks (linked_few (core_of s) g.period start v _ _ W.links w w' at W.linked formed)

        small : g.n * (g.n + 2) ≤ 4224
        small =
            let m : g.n + 2 ≤ 66 = omega (arith, few_blocks) in
            mul-le-mul few_blocks m

        closes : (ls : List Link) → Linked (core_of s) g.period start v (get_or t.lags v 0 + 1) (get_or t.lags start 0) ls w w' at → LoopWritten (core_of s) g.period w w' at
        closes [] L = absurd (omega (arith, L.sum, ap (λ (y : ℕ). get_or t.lags y 0) q))
        closes (l ∷ ls) L =
            let words : take at w' ≡ all_words (l ∷ ls)
            = ap (λ (y : ℕ). take y w') L.at_is ∙ ap (take (length (all_words (l ∷ ls)))) L.words_are ∙ sets_front (all_words (l ∷ ls)) w (omega (arith, L.at_is, fits)) in
            let z : v ≡ link_a (core_of s) l = q ∙ sym L.chain.0 in
            let valid : ValidLoop (core_of s) g.period (take at w') = record {
              first = l;
              others = ls;
              words_are = words;
              short = omega (arith, ap length words, L.at_is, fits, small);
              closed = (refl, L.chain.1, rw (← z) L.chain.2);
              negative = parts_negative (sum_k (core_of s) (l ∷ ls)) (omega (arith, L.sum, ap (λ (y : ℕ). get_or t.lags y 0) q));
            } in
            record {
              valid = valid;
              once = L.once;
              plain = L.plain;
              few = omega (arith, fits, ap (λ (y : ℕ). y * (y + 2)) blocks);
              kept = rw (L.words_are, L.at_is) (sets_kept (all_words (l ∷ ls)) w);
            }

        pub walked_ends : LoopWritten (core_of s) g.period w w' at
        walked_ends = closes W.links W.linked
