-- A loop read link by link: what the words so far say, and why a refused list of words is no valid loop.
-- Assumes nothing.
use Rattle.std.specs.Prelude.{◌≡◌, refl, List, [], ◌∷◌, ◌++◌, ℕ, ◌+◌, ◌*◌, ◌<◌, ◌≤◌, length, drop, ℤ, pos, negsuc, ◌<ℤ◌}
use Rattle.std.proofs.Math.Decide.{dec_lt}
use Rattle.sheet.specs.Rules.{Told}
use Rattle.std.proofs.Common.{lt-ltb, le-ltb, ltb, sym, ap, ◌∙◌, subst, append_assoc, append-nil, arith, ltb→lt, length-drop, drop_of_length-le}
use Rattle.sheet.specs.Core.{Core, core_of}
use Rattle.sheet.specs.Integer.{up, down}
use Rattle.sheet.specs.Laws.Integer.{plus}
use Rattle.loops.specs.Link.{Link, words_of, all_words, link_a, link_b, link_k, Chain, sum_k, ValidLoop}
use Rattle.loops.specs.Reads.{LinkIs, LinkGiven, Chained}
use Rattle.loops.specs.Laws.Words.{same_link, spelt_long, split_words, words_append}
use Rattle.loops.specs.declared.link.Read.{Read}
use Rattle.std.specs.Prelude.{None}

-- ---- a test that compares two numbers
pub told_lower : (P : Type 0) (a b : ℕ) → (a < b → P) → (b ≤ a → P → ⊥) → Told P (ltb a b)
told_lower P a b y n = elim (dec_lt a b) [ yes h ↦ rw (lt-ltb a b h) (y h) | no h ↦ rw (le-ltb a b (omega arith)) (n (omega arith)) ]

-- ---- below 0
pub negative_parts : (z : ℤ) → z <ℤ pos 0 → up z < down z
negative_parts (pos k) h = absurd (omega (arith, ltb→lt k 0 h.lt))
negative_parts (negsuc k) h = omega arith

pub parts_negative : (z : ℤ) → up z < down z → z <ℤ pos 0
parts_negative (pos k) h = absurd (omega arith)
parts_negative (negsuc k) h = record { lt = tt }

-- ---- chains, one after another
module _ (c : Core) (p : ℕ) where
  pub chain_append : (a : ℕ) (ls : List Link) (e : ℕ) (ns : List Link) (z : ℕ) → Chain c p a ls e → Chain c p e ns z → Chain c p a (ls ++ ns) z
  chain_append a [] e ns z h k = rw h k
  chain_append a (l ∷ ls) e ns z h k = (h.0, h.1, chain_append (link_b c l) ls e ns z h.2 k)

  pub chain_rest : (a : ℕ) (ls : List Link) (e : ℕ) (ns : List Link) (z : ℕ) → Chain c p a ls e → Chain c p a (ls ++ ns) z → Chain c p e ns z
  chain_rest a [] e ns z h k = rw h at k
  chain_rest a (l ∷ ls) e ns z h k = chain_rest (link_b c l) ls e ns z h.2 k.2

  pub sum_snoc : (ls : List Link) (l : Link) → up (sum_k c (ls ++ (l ∷ []))) + down (sum_k c ls) + down (link_k c l) ≡ up (sum_k c ls) + up (link_k c l) + down (sum_k c (ls ++ (l ∷ [])))
  sum_snoc [] l = omega (arith, plus (link_k c l) (pos 0))
  sum_snoc (x ∷ ls) l = omega (arith, sum_snoc ls l, plus (link_k c x) (sum_k c ls), plus (link_k c x) (sum_k c (ls ++ (l ∷ []))))

module _ (s : List ℕ) (p : ℕ) (words : List ℕ) where
  -- ---- the first link, and one link more
  pub chained_first : (r : Read) → LinkIs s p words 0 r → Chained s p words r.a r.b r.k 1 r.next
  chained_first r i =
      let l = i.link in
      record {
        head = l;
        tail = [];
        words_are = i.spelt.words_are ∙ ap (λ (xs : List ℕ). xs ++ drop r.next words) (sym (append-nil (words_of l)));
        chain = (sym i.a_is, i.good, sym i.b_is);
        sum_is = omega (arith, i.k_is, plus (link_k (core_of s) l) (pos 0));
        few = omega (arith, i.spelt.long);
        small = omega (arith, i.small);
        within = i.spelt.within;
      }

  module _ (first last sum links at : ℕ) (h : Chained s p words first last sum links at) where
    pub chained_next : (r : Read) → LinkIs s p words at r → r.a ≡ last → Chained s p words first r.b (sum + r.k) (links + 1) r.next
    chained_next r i e =
        let l = i.link in
        let ls = h.head ∷ h.tail in
        let w : words ≡ all_words ls ++ (words_of l ++ drop r.next words) = h.words_are ∙ ap (λ (xs : List ℕ). all_words ls ++ xs) i.spelt.words_are in
        let x : all_words (ls ++ (l ∷ [])) ≡ all_words ls ++ words_of l = words_append ls (l ∷ []) ∙ ap (λ (xs : List ℕ). all_words ls ++ xs) (append-nil (words_of l)) in
        record {
          head = h.head;
          tail = h.tail ++ (l ∷ []);
          words_are = w ∙ sym (append_assoc (all_words ls) (words_of l) (drop r.next words)) ∙ ap (λ (xs : List ℕ). xs ++ drop r.next words) (sym x);
          chain = chain_append (core_of s) p first ls last (l ∷ []) r.b h.chain (sym i.a_is ∙ e, i.good, sym i.b_is);
          sum_is = omega (arith, h.sum_is, i.k_is, sum_snoc (core_of s) p ls l);
          few = omega (arith, h.few, i.spelt.long);
          small = omega (arith, h.small, i.small);
          within = i.spelt.within;
        }

    -- ---- every valid loop of these words goes on from the links read
    pub record Onwards (v : ValidLoop (core_of s) p words) : Type 0 where
      pub more : List Link
      pub links_are : v.first ∷ v.others ≡ (h.head ∷ h.tail) ++ more
      pub rest_is : drop at words ≡ all_words more
      pub chain : Chain (core_of s) p last more first

    onwards : (v : ValidLoop (core_of s) p words) → Onwards v
    onwards v =
        let ls = h.head ∷ h.tail in
        let g = split_words ls (v.first ∷ v.others) (drop at words) (sym v.words_are ∙ h.words_are) in
        let a : link_a (core_of s) v.first ≡ first = same_start v.first v.others h.head h.tail g.0 g.1 ∙ h.chain.0 in
        let k : Chain (core_of s) p first (v.first ∷ v.others) first = subst (λ (x : ℕ). Chain (core_of s) p x (v.first ∷ v.others) x) a v.closed in
        record {
          more = g.0;
          links_are = g.1;
          rest_is = g.2;
          chain = chain_rest (core_of s) p first ls last g.0 first h.chain (subst (λ (xs : List Link). Chain (core_of s) p first xs first) g.1 k);
        }
      where
        same_start : (l : Link) (ls : List Link) (m : Link) (ms ns : List Link) → l ∷ ls ≡ (m ∷ ms) ++ ns → link_a (core_of s) l ≡ link_a (core_of s) m
        same_start l ls m ms ns e = let q : l ≡ m = cc in ap (link_a (core_of s)) q

    -- no good link begins here
    stuck : (more : List Link) → at < length words → drop at words ≡ all_words more → Chain (core_of s) p last more first → LinkGiven s p words at None → ⊥
    stuck [] k e g bad = omega (arith, ap length e, length-drop at words)
    stuck (l ∷ ls) k e g bad = bad l (all_words ls) e g.1

    pub chained_stuck : at < length words → LinkGiven s p words at None → ValidLoop (core_of s) p words → ⊥
    chained_stuck k bad v = let o = onwards v in stuck o.more k o.rest_is o.chain bad

    -- the link that begins here does not begin where the last ended
    broken : (more : List Link) (r : Read) → at < length words → drop at words ≡ all_words more → Chain (core_of s) p last more first → LinkIs s p words at r → (r.a ≡ last → ⊥) → ⊥
    broken [] r k e g i bad = omega (arith, ap length e, length-drop at words)
    broken (l ∷ ls) r k e g i bad =
        let q = same_link i.link l (drop r.next words) (all_words ls) (sym i.spelt.words_are ∙ e) in
        bad (i.a_is ∙ ap (link_a (core_of s)) q ∙ g.0)

    pub chained_broken : (r : Read) → at < length words → LinkIs s p words at r → (r.a ≡ last → ⊥) → ValidLoop (core_of s) p words → ⊥
    chained_broken r k i bad v = let o = onwards v in broken o.more r k o.rest_is o.chain i bad

    -- ---- at the end of the words
    module _ (end : length words ≤ at) where
      none_left : drop at words ≡ []
      none_left = drop_of_length-le words end

      all_read : words ≡ all_words (h.head ∷ h.tail)
      all_read = h.words_are ∙ ap (λ (xs : List ℕ). all_words (h.head ∷ h.tail) ++ xs) none_left ∙ append-nil (all_words (h.head ∷ h.tail))

      no_more : (more : List Link) → drop at words ≡ all_words more → more ≡ []
      no_more [] e = refl
      no_more (l ∷ ls) e = absurd (omega (arith, ap length (sym none_left ∙ e), spelt_long l (all_words ls)))

      pub chained_open : (last ≡ first → ⊥) → ValidLoop (core_of s) p words → ⊥
      chained_open bad v =
          let o = onwards v in
          bad (subst (λ (xs : List Link). Chain (core_of s) p last xs first) (no_more o.more o.rest_is) o.chain)

      pub chained_heavy : 32768 * links ≤ sum → ValidLoop (core_of s) p words → ⊥
      chained_heavy k v =
          let o = onwards v in
          let ls = h.head ∷ h.tail in
          let q : v.first ∷ v.others ≡ ls = o.links_are ∙ ap (λ (xs : List Link). ls ++ xs) (no_more o.more o.rest_is) ∙ append-nil ls in
          let n : sum_k (core_of s) ls <ℤ pos 0 = subst (λ (xs : List Link). sum_k (core_of s) xs <ℤ pos 0) q v.negative in
          omega (arith, h.sum_is, negative_parts (sum_k (core_of s) ls) n)

      pub chained_valid : length words ≤ 4224 → last ≡ first → sum < 32768 * links → ValidLoop (core_of s) p words
      chained_valid short e k =
          let ls = h.head ∷ h.tail in
          let a : first ≡ link_a (core_of s) h.head = sym h.chain.0 in
          record {
            first = h.head;
            others = h.tail;
            words_are = all_read;
            short = short;
            closed = subst (λ (x : ℕ). Chain (core_of s) p x ls x) a (subst (λ (x : ℕ). Chain (core_of s) p first ls x) e h.chain);
            negative = parts_negative (sum_k (core_of s) ls) (omega (arith, h.sum_is));
          }

  -- ---- before the first link
  pub too_long : 4224 < length words → ValidLoop (core_of s) p words → ⊥
  too_long h v = omega (arith, v.short)

  pub none_first : LinkGiven s p words 0 None → ValidLoop (core_of s) p words → ⊥
  none_first bad v = bad v.first (all_words v.others) v.words_are v.closed.1
