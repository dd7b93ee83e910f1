-- Loops that prove a refusal: links of five kinds, their rules, and valid loops.
use Rattle.std.specs.Prelude.{◌≡◌, List, [], ◌∷◌, ◌++◌, ℕ, ◌≤◌, ◌<◌, ℤ, pos, neg_ℤ, ◌+ℤ◌, ◌-ℤ◌, ◌<ℤ◌, length}
use Rattle.sheet.specs.Core.{Core}
use Rattle.paths.specs.Path.{Joins, registers_on, delay_on, end_of}

-- 01: "A loop is a non-empty chain of links of five kinds."
pub data Link : Type 0 where
  wire : ℕ → Link
  path : ℕ → List ℕ → Link
  upper : ℕ → Link
  lower : ℕ → Link
  ceiling : ℕ → Link

-- 01's column "words": "1, wire"; "2, start block, number of wires, those wires in path order"; "3, block"; "4, block"; "5, wire"
abbrev pub words_of : Link → List ℕ
words_of (wire j) = 1 ∷ j ∷ []
words_of (path u ws) = 2 ∷ u ∷ length ws ∷ ws
words_of (upper b) = 3 ∷ b ∷ []
words_of (lower b) = 4 ∷ b ∷ []
words_of (ceiling j) = 5 ∷ j ∷ []

abbrev pub all_words : List Link → List ℕ
all_words [] = []
all_words (l ∷ ls) = words_of l ++ all_words ls

module _ (c : Core) where
  -- 01's columns "a, b" and "k": each link stands for a rule lag(a) - lag(b) <= k
  abbrev pub link_a : Link → ℕ
  link_a (wire j) = c.shape.from j
  link_a (path u ws) = u
  link_a (upper b) = b
  link_a (lower b) = 0
  link_a (ceiling j) = c.shape.to j

  abbrev pub link_b : Link → ℕ
  link_b (wire j) = c.shape.to j
  link_b (path u ws) = end_of c.shape u ws
  link_b (upper b) = 0
  link_b (lower b) = b
  link_b (ceiling j) = c.shape.from j

  abbrev pub link_k : Link → ℤ
  link_k (wire j) = pos (c.registers j)
  link_k (path u ws) = pos (registers_on c.registers ws) -ℤ pos 1
  link_k (upper b) = c.upper b
  link_k (lower b) = neg_ℤ (c.lower b)
  link_k (ceiling j) = pos (c.ceiling j) -ℤ pos (c.registers j)

  -- blocks and wires are in range, a path's wires join and its delay exceeds the period p
  abbrev pub Good : ℕ → Link → Type 0
  Good p (wire j) = j < c.shape.m
  Good p (path u ws) = Joins c.shape u ws (end_of c.shape u ws) × (p < delay_on c.shape u ws)
  Good p (upper b) = b < c.shape.n
  Good p (lower b) = b < c.shape.n
  Good p (ceiling j) = j < c.shape.m

  -- 01: "The b of a link is the a of the next": good links that lead from block a to block e
  abbrev pub Chain : ℕ → ℕ → List Link → ℕ → Type 0
  Chain p a [] e = a ≡ e
  Chain p a (l ∷ ls) e = (link_a l ≡ a) × Good p l × Chain p (link_b l) ls e

  abbrev pub sum_k : List Link → ℤ
  sum_k [] = pos 0
  sum_k (l ∷ ls) = link_k l +ℤ sum_k ls

  -- 01: "the last b is the first a, and the k's add up to less than 0"; at most 4,224 words, and all of them
  pub record ValidLoop (p : ℕ) (words : List ℕ) : Type 0 where
    pub first : Link
    pub others : List Link
    pub words_are : words ≡ all_words (first ∷ others)
    pub short : length words ≤ 4224
    pub closed : Chain p (link_a first) (first ∷ others) (link_a first)
    pub negative : sum_k (first ∷ others) <ℤ pos 0

  -- without kind 2
  abbrev pub NoPath : List Link → Type 0
  NoPath [] = Unit {0}
  NoPath (wire j ∷ ls) = NoPath ls
  NoPath (path u ws ∷ ls) = ⊥
  NoPath (upper b ∷ ls) = NoPath ls
  NoPath (lower b ∷ ls) = NoPath ls
  NoPath (ceiling j ∷ ls) = NoPath ls
