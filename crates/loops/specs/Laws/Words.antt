-- A list of words is the words of links in one way only; the words at a place, and what they rule out.
-- Assumes nothing.
use Rattle.std.specs.Prelude.{◌≡◌, refl, List, [], ◌∷◌, ◌++◌, ℕ, zero, suc, ◌+◌, ◌<◌, ◌≤◌, length, take, drop, get_or}
use Rattle.std.proofs.Common.{sym, ap, ◌∙◌, append_assoc, arith, length-append, length-drop, take-append-drop, drop-cons, get_or-drop, drop-drop, length-take-le}
use Rattle.std.proofs.Math.Seq.{take-append_seam, drop-append_seam}
use Rattle.loops.specs.Link.{Link, wire, path, upper, lower, ceiling, words_of, all_words}
use Rattle.loops.specs.Reads.{Spelt}

-- ---- a link is told by the words that begin with it
abbrev link_by : ℕ → ℕ → List ℕ → Link
link_by zero x r = wire x
link_by (suc zero) x r = wire x
link_by (suc (suc zero)) x [] = path x []
link_by (suc (suc zero)) x (count ∷ r) = path x (take count r)
link_by (suc (suc (suc zero))) x r = upper x
link_by (suc (suc (suc (suc zero)))) x r = lower x
link_by (suc (suc (suc (suc (suc k))))) x r = ceiling x

abbrev link_of : List ℕ → Link
link_of [] = wire 0
link_of (k ∷ []) = wire 0
link_of (k ∷ x ∷ r) = link_by k x r

link_told : (l : Link) (r : List ℕ) → link_of (words_of l ++ r) ≡ l
link_told (wire j) r = refl
link_told (path u ws) r = ap (path u) (take-append_seam ws r)
link_told (upper b) r = refl
link_told (lower b) r = refl
link_told (ceiling j) r = refl

module _ (l m : Link) (r q : List ℕ) (e : words_of l ++ r ≡ words_of m ++ q) where
  pub same_link : l ≡ m
  same_link = sym (link_told l r) ∙ ap link_of e ∙ link_told m q

  pub same_rest : r ≡ q
  same_rest =
      sym (drop-append_seam (words_of l) r)
      ∙ ap (drop (length (words_of l))) e
      ∙ ap (λ (x : Link). drop (length (words_of x)) (words_of m ++ q)) same_link
      ∙ drop-append_seam (words_of m) q

-- ---- how long a link's words are, and what they begin with
link_long : (l : Link) → 2 ≤ length (words_of l)
link_long (wire j) = omega arith
link_long (path u ws) = omega arith
link_long (upper b) = omega arith
link_long (lower b) = omega arith
link_long (ceiling j) = omega arith

pub spelt_long : (l : Link) (r : List ℕ) → 2 ≤ length (words_of l ++ r)
spelt_long l r = omega (arith, length-append (words_of l) r, link_long l)

kind_known : (l : Link) (r : List ℕ) → (1 ≤ get_or (words_of l ++ r) 0 0) × (get_or (words_of l ++ r) 0 0 ≤ 5)
kind_known (wire j) r = (omega arith, omega arith)
kind_known (path u ws) r = (omega arith, omega arith)
kind_known (upper b) r = (omega arith, omega arith)
kind_known (lower b) r = (omega arith, omega arith)
kind_known (ceiling j) r = (omega arith, omega arith)

path_long : (l : Link) (r : List ℕ) → get_or (words_of l ++ r) 0 0 ≡ 2 → 3 + get_or (words_of l ++ r) 2 0 ≤ length (words_of l ++ r)
path_long (wire j) r h = absurd (omega arith)
path_long (path u ws) r h = omega (arith, length-append ws r)
path_long (upper b) r h = absurd (omega arith)
path_long (lower b) r h = absurd (omega arith)
path_long (ceiling j) r h = absurd (omega arith)

-- ---- at a place
module _ (words : List ℕ) (at : ℕ) where
  here : (i j : ℕ) → j ≡ at + i → get_or (drop at words) i 0 ≡ get_or words j 0
  here i j e = rw e (get_or-drop at words i 0)

  drop_next : (i j : ℕ) → i < length words → j ≡ suc i → drop i words ≡ get_or words i 0 ∷ drop j words
  drop_next i j h e = rw e (drop-cons words i 0 h)

  module _ (l : Link) (r : List ℕ) (e : drop at words ≡ words_of l ++ r) where
    pub two_words : at + 2 ≤ length words
    two_words = omega (arith, ap length e, length-drop at words, spelt_long l r)

    pub known_kind : (1 ≤ get_or words at 0) × (get_or words at 0 ≤ 5)
    known_kind =
        let q : get_or (drop at words) 0 0 ≡ get_or words at 0 = here 0 at (omega arith) in
        let f = ap (λ (xs : List ℕ). get_or xs 0 0) e in
        (omega (arith, kind_known l r), omega (arith, kind_known l r))

    pub path_words : get_or words at 0 ≡ 2 → at + 3 + get_or words (at + 2) 0 ≤ length words
    path_words h =
        let q : get_or (drop at words) 0 0 ≡ get_or words at 0 = here 0 at (omega arith) in
        let f = ap (λ (xs : List ℕ). get_or xs 0 0) e in
        let g = ap (λ (xs : List ℕ). get_or xs 2 0) e in
        omega (arith, here 2 (at + 2) refl, ap length e, length-drop at words, path_long l r (omega arith))

  drop_two : at + 2 ≤ length words → drop at words ≡ get_or words at 0 ∷ get_or words (at + 1) 0 ∷ drop (at + 2) words
  drop_two h =
      drop_next at (at + 1) (omega arith) (omega arith)
      ∙ ap (λ (xs : List ℕ). get_or words at 0 ∷ xs) (drop_next (at + 1) (at + 2) (omega arith) (omega arith))

  -- two words spell a link of kind 1, 3, 4 or 5
  pub two_spell : (kind x : ℕ) (l : Link) → at + 2 ≤ length words → get_or words at 0 ≡ kind → get_or words (at + 1) 0 ≡ x → words_of l ≡ kind ∷ x ∷ [] → Spelt words at (at + 2) l
  two_spell kind x l h p q e = record {
    words_are = drop_two h ∙ rw (p, q) refl ∙ ap (λ (xs : List ℕ). xs ++ drop (at + 2) words) (sym e);
    long = omega arith;
    within = h;
  }

  -- and three words with as many as the third says a path
  pub path_spells : (u count : ℕ) → at + 3 + count ≤ length words → get_or words at 0 ≡ 2 → get_or words (at + 1) 0 ≡ u → get_or words (at + 2) 0 ≡ count → Spelt words at (at + 3 + count) (path u (take count (drop (at + 3) words)))
  path_spells u count h p q e =
      let ws = take count (drop (at + 3) words) in
      let n : length ws ≡ count = length-take-le count (drop (at + 3) words) (omega (arith, length-drop (at + 3) words)) in
      let third : drop (at + 2) words ≡ get_or words (at + 2) 0 ∷ drop (at + 3) words = drop_next (at + 2) (at + 3) (omega arith) (omega arith) in
      let rest : ws ++ drop (at + 3 + count) words ≡ drop (at + 3) words = ap (λ (xs : List ℕ). ws ++ xs) (sym (drop-drop count (at + 3) words)) ∙ take-append-drop count (drop (at + 3) words) in
      record {
        words_are = drop_two (omega arith) ∙ rw (p, q, third, e, n, rest) refl;
        long = omega arith;
        within = h;
      }

-- ---- all the words
pub split_words : (ls ms : List Link) (r : List ℕ) → all_words ms ≡ all_words ls ++ r → (ns : List Link) × (ms ≡ ls ++ ns) × (r ≡ all_words ns)
split_words [] ms r e = (ms, refl, sym e)
split_words (l ∷ ls) [] r e = absurd (omega (arith, ap length (e ∙ append_assoc (words_of l) (all_words ls) r), spelt_long l (all_words ls ++ r)))
split_words (l ∷ ls) (m ∷ ms) r e =
    let f : words_of m ++ all_words ms ≡ words_of l ++ (all_words ls ++ r) = e ∙ append_assoc (words_of l) (all_words ls) r in
    let g = split_words ls ms r (same_rest m l (all_words ms) (all_words ls ++ r) f) in
    let q = same_link m l (all_words ms) (all_words ls ++ r) f in
    (g.0, ap (λ (x : Link). x ∷ ms) q ∙ ap (λ (xs : List Link). l ∷ xs) g.1, g.2)

pub words_append : (ls ns : List Link) → all_words (ls ++ ns) ≡ all_words ls ++ all_words ns
words_append [] ns = refl
words_append (l ∷ ls) ns = ap (λ (xs : List ℕ). words_of l ++ xs) (words_append ls ns) ∙ sym (append_assoc (words_of l) (all_words ls) (all_words ns))
