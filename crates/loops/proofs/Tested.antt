-- The computed test for valid loops holds exactly of the valid loops.
-- Assumes nothing.
use Rattle.std.specs.Prelude.{◌≡◌, refl, Bool, true, false, ◌&&◌, cond, List, [], ◌∷◌, ◌++◌, ℕ, ◌≤◌, ◌<◌, T, ltb, leb, eqb, ℤ, pos, neg_ℤ, ◌<ℤ◌, length, take, drop}
use Rattle.std.proofs.Common.{sym, ap, ◌∙◌, subst, true≢false, arith, ltb-true, leb-true, eqb-true, lt-ltb, le-leb, eq-eqb, length-append, take-append-drop, length-take-le}
use Rattle.std.specs.Int.Signed.{lt_z}
use Rattle.std.proofs.Math.Seq.{take-append_seam, drop-append_seam}
use Rattle.sheet.specs.Core.{Core, Shape}
use Rattle.paths.specs.Path.{Passes, Onward, Joins, delay_on, end_of}
use Rattle.paths.specs.Laws.Path.{passes_all}
use Rattle.loops.specs.Link.{Link, wire, path, upper, lower, ceiling, words_of, all_words, link_a, link_b, Good, Chain, sum_k, ValidLoop}
use Rattle.loops.specs.Test.{Lead, lead, none, path_lead, path_at, kind_at, link_at, Parsed, links, unreadable, before, links_from, links_of, passes_test, onward_test, joins_test, good_test, chain_test, loop_test, valid_test}
use Rattle.loops.specs.Laws.Words.{spelt_long}

-- ---- tests
both_left : (a b : Bool) → (a && b) ≡ true → a ≡ true
both_left true b h = refl
both_left false b h = h

both_right : (a b : Bool) → (a && b) ≡ true → b ≡ true
both_right true b h = h
both_right false b h = absurd (true≢false (sym h))

both_true : (a b : Bool) → a ≡ true → b ≡ true → (a && b) ≡ true
both_true a b p q = rw (p, q) refl

-- what both outcomes have, the choice by a test has
choice : {A : Type 0} (P : A → Type 0) (b : Bool) (x y : A) → (b ≡ true → P x) → P y → P (cond b x y)
choice P true x y h k = h refl
choice P false x y h k = k

below_true : (z : ℤ) → lt_z z (pos 0) ≡ true → z <ℤ pos 0
below_true z e = record { lt = subst T (sym e) tt }

true_of : (b : Bool) → T b → b ≡ true
true_of true h = refl
true_of false h = absurd h

-- ---- reading
shorter : (l : Link) (r : List ℕ) → length r < length (words_of l ++ r)
shorter l r = omega (arith, length-append (words_of l) r, length-append (words_of l) [], spelt_long l [])

-- what is read are the words
abbrev LeadSays : List ℕ → Lead → Type 0
LeadSays words (lead l r) = words ≡ words_of l ++ r
LeadSays words none = Unit {0}

path_lead_says : (u count : ℕ) (r : List ℕ) (b : Bool) → leb count (length r) ≡ b → LeadSays (2 ∷ u ∷ count ∷ r) (path_lead b u count r)
path_lead_says u count r true e =
    let n : length (take count r) ≡ count = length-take-le count r (leb-true count (length r) e) in
    let q : take count r ++ drop count r ≡ r = take-append-drop count r in
    rw (n, q) refl
path_lead_says u count r false e = tt

path_says : (u : ℕ) (r : List ℕ) → LeadSays (2 ∷ u ∷ r) (path_at u r)
path_says u [] = tt
path_says u (count ∷ r) = path_lead_says u count r (leb count (length r)) refl

kind_says : (k x : ℕ) (r : List ℕ) → LeadSays (k ∷ x ∷ r) (kind_at k x r)
kind_says k x r =
    let S : Lead → Type 0 = LeadSays (k ∷ x ∷ r) in
    choice S (eqb k 1) (lead (wire x) r) rest2 (λ e. rw (eqb-true k 1 e) refl)
    (choice S (eqb k 2) (path_at x r) rest3 (λ e. rw (eqb-true k 2 e) (path_says x r))
    (choice S (eqb k 3) (lead (upper x) r) rest4 (λ e. rw (eqb-true k 3 e) refl)
    (choice S (eqb k 4) (lead (lower x) r) rest5 (λ e. rw (eqb-true k 4 e) refl)
    (choice S (eqb k 5) (lead (ceiling x) r) none (λ e. rw (eqb-true k 5 e) refl) tt))))
  where
    rest5 : Lead
    rest5 = cond (eqb k 5) (lead (ceiling x) r) none

    rest4 : Lead
    rest4 = cond (eqb k 4) (lead (lower x) r) rest5

    rest3 : Lead
    rest3 = cond (eqb k 3) (lead (upper x) r) rest4

    rest2 : Lead
    rest2 = cond (eqb k 2) (path_at x r) rest3

lead_says : (words : List ℕ) → LeadSays words (link_at words)
lead_says [] = tt
lead_says (k ∷ []) = tt
lead_says (k ∷ x ∷ r) = kind_says k x r

abbrev LinksSay : List ℕ → Parsed → Type 0
LinksSay words (links l ls) = words ≡ all_words (l ∷ ls)
LinksSay words unreadable = Unit {0}

before_says : (words : List ℕ) (l : Link) (r : List ℕ) (x : Parsed) → words ≡ words_of l ++ r → LinksSay r x → LinksSay words (before l x)
before_says words l r (links m ls) e h = e ∙ ap (λ (xs : List ℕ). words_of l ++ xs) h
before_says words l r unreadable e h = tt

from_say : (fuel words : List ℕ) (x : Lead) → LeadSays words x → LinksSay words (links_from fuel x)
from_say [] words x h = tt
from_say (f ∷ fuel) words none h = tt
from_say (f ∷ fuel) words (lead l []) h = h
from_say (f ∷ fuel) words (lead l (x ∷ r)) h = before_says words l (x ∷ r) (links_from fuel (link_at (x ∷ r))) h (from_say fuel (x ∷ r) (link_at (x ∷ r)) (lead_says (x ∷ r)))

links_say : (words : List ℕ) → LinksSay words (links_of words)
links_say words = from_say words words (link_at words) (lead_says words)

-- the words of links are read as these links
lead_told : (l : Link) (r : List ℕ) → link_at (words_of l ++ r) ≡ lead l r
lead_told (wire j) r = refl
lead_told (path u ws) r =
    let h : length ws ≤ length (ws ++ r) = omega (arith, length-append ws r) in
    ap (λ (b : Bool). path_lead b u (length ws) (ws ++ r)) (le-leb (length ws) (length (ws ++ r)) h)
    ∙ ap (λ (xs : List ℕ). lead (path u xs) (drop (length ws) (ws ++ r))) (take-append_seam ws r)
    ∙ ap (lead (path u ws)) (drop-append_seam ws r)
lead_told (upper b) r = refl
lead_told (lower b) r = refl
lead_told (ceiling j) r = refl

from_more : (f : ℕ) (fuel : List ℕ) (l : Link) (r : List ℕ) → 1 ≤ length r → links_from (f ∷ fuel) (lead l r) ≡ before l (links_from fuel (link_at r))
from_more f fuel l [] h = absurd (omega arith)
from_more f fuel l (x ∷ r) h = refl

from_told : (fuel : List ℕ) (l : Link) (ls : List Link) → length (all_words ls) < length fuel → links_from fuel (lead l (all_words ls)) ≡ links l ls
from_told [] l ls h = absurd (omega arith)
from_told (f ∷ fuel) l [] h = refl
from_told (f ∷ fuel) l (m ∷ ls) h =
    from_more f fuel l (all_words (m ∷ ls)) (omega (arith, spelt_long m (all_words ls)))
    ∙ ap (λ (x : Lead). before l (links_from fuel x)) (lead_told m (all_words ls))
    ∙ ap (before l) (from_told fuel m ls (omega (arith, shorter m (all_words ls))))

pub links_told : (l : Link) (ls : List Link) → links_of (all_words (l ∷ ls)) ≡ links l ls
links_told l ls =
    ap (links_from (all_words (l ∷ ls))) (lead_told l (all_words ls))
    ∙ from_told (all_words (l ∷ ls)) l ls (shorter l (all_words ls))

-- ---- paths
-- the one place that ties the test to what a path may pass
passes_sound : (s : Shape) (b : ℕ) → passes_test s b ≡ true → Passes s b
passes_sound s b e = passes_all s b

passes_complete : (s : Shape) (b : ℕ) → Passes s b → passes_test s b ≡ true
passes_complete s b h = refl

onward_sound : (s : Shape) (b : ℕ) (ws : List ℕ) → onward_test s b ws ≡ true → Onward s b ws
onward_sound s b [] e = tt
onward_sound s b (j ∷ ws) e = passes_sound s b e

pub joins_sound : (s : Shape) (u : ℕ) (ws : List ℕ) → joins_test s u ws ≡ true → Joins s u ws (end_of s u ws)
joins_sound s u [] e = (ltb-true u s.n e, refl)
joins_sound s u (j ∷ ws) e =
    let a0 = ltb u s.n in
    let a1 = ltb j s.m in
    let a2 = eqb (s.from j) u in
    let a3 = onward_test s (s.to j) ws in
    let a4 = joins_test s (s.to j) ws in
    let e1 : (a1 && (a2 && (a3 && a4))) ≡ true = both_right a0 (a1 && (a2 && (a3 && a4))) e in
    let e2 : (a2 && (a3 && a4)) ≡ true = both_right a1 (a2 && (a3 && a4)) e1 in
    let e3 : (a3 && a4) ≡ true = both_right a2 (a3 && a4) e2 in (
      ltb-true u s.n (both_left a0 (a1 && (a2 && (a3 && a4))) e),
      ltb-true j s.m (both_left a1 (a2 && (a3 && a4)) e1),
      eqb-true (s.from j) u (both_left a2 (a3 && a4) e2),
      onward_sound s (s.to j) ws (both_left a3 a4 e3),
      joins_sound s (s.to j) ws (both_right a3 a4 e3),
    )

onward_complete : (s : Shape) (b : ℕ) (ws : List ℕ) → Onward s b ws → onward_test s b ws ≡ true
onward_complete s b [] h = refl
onward_complete s b (j ∷ ws) h = passes_complete s b h

joins_complete : (s : Shape) (u : ℕ) (ws : List ℕ) (v : ℕ) → Joins s u ws v → joins_test s u ws ≡ true
joins_complete s u [] v h = lt-ltb u s.n h.0
joins_complete s u (j ∷ ws) v h =
    let a0 = ltb u s.n in
    let a1 = ltb j s.m in
    let a2 = eqb (s.from j) u in
    let a3 = onward_test s (s.to j) ws in
    let a4 = joins_test s (s.to j) ws in
    let e3 : (a3 && a4) ≡ true = both_true a3 a4 (onward_complete s (s.to j) ws h.3) (joins_complete s (s.to j) ws v h.4) in
    let e2 : (a2 && (a3 && a4)) ≡ true = both_true a2 (a3 && a4) (eq-eqb (s.from j) u h.2) e3 in
    let e1 : (a1 && (a2 && (a3 && a4))) ≡ true = both_true a1 (a2 && (a3 && a4)) (lt-ltb j s.m h.1) e2 in
    both_true a0 (a1 && (a2 && (a3 && a4))) (lt-ltb u s.n h.0) e1

-- ---- links and chains
module _ (c : Core) (p : ℕ) where
  good_sound : (l : Link) → good_test c p l ≡ true → Good c p l
  good_sound (wire j) e = ltb-true j c.shape.m e
  good_sound (path u ws) e =
      let a = joins_test c.shape u ws in
      let b = ltb p (delay_on c.shape u ws) in
      (joins_sound c.shape u ws (both_left a b e), ltb-true p (delay_on c.shape u ws) (both_right a b e))
  good_sound (upper b) e = ltb-true b c.shape.n e
  good_sound (lower b) e = ltb-true b c.shape.n e
  good_sound (ceiling j) e = ltb-true j c.shape.m e

  pub chain_sound : (a : ℕ) (ls : List Link) (z : ℕ) → chain_test c p a ls z ≡ true → Chain c p a ls z
  chain_sound a [] z e = eqb-true a z e
  chain_sound a (l ∷ ls) z e =
      let a0 = eqb (link_a c l) a in
      let a1 = good_test c p l in
      let a2 = chain_test c p (link_b c l) ls z in
      let f : (a1 && a2) ≡ true = both_right a0 (a1 && a2) e in
      (eqb-true (link_a c l) a (both_left a0 (a1 && a2) e), good_sound l (both_left a1 a2 f), chain_sound (link_b c l) ls z (both_right a1 a2 f))

  good_complete : (l : Link) → Good c p l → good_test c p l ≡ true
  good_complete (wire j) h = lt-ltb j c.shape.m h
  good_complete (path u ws) h =
      both_true (joins_test c.shape u ws) (ltb p (delay_on c.shape u ws)) (joins_complete c.shape u ws (end_of c.shape u ws) h.0) (lt-ltb p (delay_on c.shape u ws) h.1)
  good_complete (upper b) h = lt-ltb b c.shape.n h
  good_complete (lower b) h = lt-ltb b c.shape.n h
  good_complete (ceiling j) h = lt-ltb j c.shape.m h

  chain_complete : (a : ℕ) (ls : List Link) (z : ℕ) → Chain c p a ls z → chain_test c p a ls z ≡ true
  chain_complete a [] z h = eq-eqb a z h
  chain_complete a (l ∷ ls) z h =
      let a0 = eqb (link_a c l) a in
      let a1 = good_test c p l in
      let a2 = chain_test c p (link_b c l) ls z in
      let f : (a1 && a2) ≡ true = both_true a1 a2 (good_complete l h.1) (chain_complete (link_b c l) ls z h.2) in
      both_true a0 (a1 && a2) (eq-eqb (link_a c l) a h.0) f

  loop_complete : (l : Link) (ls : List Link) → Chain c p (link_a c l) (l ∷ ls) (link_a c l) → sum_k c (l ∷ ls) <ℤ pos 0 → loop_test c p (links l ls) ≡ true
  loop_complete l ls h k =
      let b = lt_z (sum_k c (l ∷ ls)) (pos 0) in
      both_true (chain_test c p (link_a c l) (l ∷ ls) (link_a c l)) b (chain_complete (link_a c l) (l ∷ ls) (link_a c l) h) (true_of b k.lt)

  loop_sound : (words : List ℕ) (x : Parsed) → LinksSay words x → length words ≤ 4224 → loop_test c p x ≡ true → ValidLoop c p words
  loop_sound words (links l ls) h k e =
      let a = chain_test c p (link_a c l) (l ∷ ls) (link_a c l) in
      let b = lt_z (sum_k c (l ∷ ls)) (pos 0) in
      record {
        first = l;
        others = ls;
        words_are = h;
        short = k;
        closed = chain_sound (link_a c l) (l ∷ ls) (link_a c l) (both_left a b e);
        negative = below_true (sum_k c (l ∷ ls)) (both_right a b e);
      }
  loop_sound words unreadable h k e = absurd (true≢false (sym e))

pub test_sound : (c : Core) (p : ℕ) (words : List ℕ) → valid_test c p words ≡ true → ValidLoop c p words
test_sound c p words e =
    let a = leb (length words) 4224 in
    let b = loop_test c p (links_of words) in
    loop_sound c p words (links_of words) (links_say words) (leb-true (length words) 4224 (both_left a b e)) (both_right a b e)

pub test_complete : (c : Core) (p : ℕ) (words : List ℕ) → ValidLoop c p words → valid_test c p words ≡ true
test_complete c p words v =
    let q : links_of words ≡ links v.first v.others = ap links_of v.words_are ∙ links_told v.first v.others in
    let e : loop_test c p (links_of words) ≡ true = ap (loop_test c p) q ∙ loop_complete c p v.first v.others v.closed v.negative in
    both_true (leb (length words) 4224) (loop_test c p (links_of words)) (le-leb (length words) 4224 v.short) e

-- ---- the test computes: the ring of 01 has this loop at 6, and at 7 no longer
abbrev pick : ℕ → ℕ → ℕ → ℕ → ℕ → ℕ
pick a b c d i = cond (eqb i 0) a (cond (eqb i 1) b (cond (eqb i 2) c d))

abbrev ring : Core
ring = record {
  shape = record { n = 4; m = 4; delay = pick 0 3 4 5; from = pick 0 1 2 3; to = pick 1 2 3 0 };
  registers = pick 1 0 0 1;
  ceiling = λ (j : ℕ). 2000;
  lower = λ (b : ℕ). neg_ℤ (pos 1000);
  upper = λ (b : ℕ). pos 1000;
}

abbrev ring_words : List ℕ
ring_words = 2 ∷ 1 ∷ 1 ∷ 1 ∷ 2 ∷ 2 ∷ 1 ∷ 2 ∷ 2 ∷ 3 ∷ 2 ∷ 3 ∷ 0 ∷ []

ring_at_six : valid_test ring 6 ring_words ≡ true
ring_at_six = refl

ring_at_seven : valid_test ring 7 ring_words ≡ false
ring_at_seven = refl
