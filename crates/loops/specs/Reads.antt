-- What each reader of a loop's words gives, case by case.
use Rattle.std.specs.Prelude.{◌≡◌, List, ◌∷◌, ◌++◌, ℕ, ◌+◌, ◌*◌, ◌<◌, ◌≤◌, length, take, drop, Option, Some, None}
use Rattle.sheet.specs.Core.{core_of, shape_of, blocks_in, wires_in, delay_in, from_in, to_in, registers_in}
use Rattle.sheet.specs.Integer.{up, down}
use Rattle.paths.specs.Path.{Joins, registers_on, delay_on, end_of}
use Rattle.loops.specs.Link.{Link, wire, path, upper, lower, ceiling, words_of, all_words, link_a, link_b, link_k, Good, Chain, sum_k}
use Rattle.sheet.specs.declared.block.Limit.{Limit}
use Rattle.sheet.specs.declared.block.Limit.TheVariants.{Lower, Upper}
use Rattle.loops.specs.declared.link.Bound.{Bound}
use Rattle.loops.specs.declared.link.Bound.TheVariants.{Floor, Ceiling}
use Rattle.loops.specs.declared.link.Link as D
use Rattle.loops.specs.declared.link.Link.TheVariants as L
use Rattle.loops.specs.declared.link.Read.{Read}
use Rattle.loops.specs.declared.path.Leg.{Leg}

-- ---- words
-- the words from `at` up to `next` are those of the link l
pub record Spelt (words : List ℕ) (at next : ℕ) (l : Link) : Type 0 where
  pub words_are : drop at words ≡ words_of l ++ drop next words
  pub long : at + 2 ≤ next
  pub within : next ≤ length words

-- a link as code holds it, in the words that spell it
abbrev pub HeadIs : List ℕ → ℕ → D.Link → Type 0
HeadIs words at (L.Wire Floor j) = Spelt words at (at + 2) (wire j)
HeadIs words at (L.Wire Ceiling j) = Spelt words at (at + 2) (ceiling j)
HeadIs words at (L.Path u count) = Spelt words at (at + 3 + count) (path u (take count (drop (at + 3) words)))
HeadIs words at (L.Block Upper b) = Spelt words at (at + 2) (upper b)
HeadIs words at (L.Block Lower b) = Spelt words at (at + 2) (lower b)

abbrev pub PathHead : List ℕ → ℕ → ℕ → ℕ → Type 0
PathHead words at u count = HeadIs words at (L.Path u count)

abbrev pub HeadGiven : List ℕ → ℕ → Option D.Link → Type 0
HeadGiven words at (Some l) = HeadIs words at l
HeadGiven words at None = (l : Link) (rest : List ℕ) → drop at words ≡ words_of l ++ rest → ⊥

-- ---- links
-- a good link of the sheet s at the period p, with its ends, k + 32,768 and where the next link begins
pub record LinkIs (s : List ℕ) (p : ℕ) (words : List ℕ) (at : ℕ) (r : Read) : Type 0 where
  pub head : HeadIs words at r.link
  pub link : Link
  pub spelt : Spelt words at r.next link
  pub good : Good (core_of s) p link
  pub a_is : r.a ≡ link_a (core_of s) link
  pub b_is : r.b ≡ link_b (core_of s) link
  pub k_is : r.k + down (link_k (core_of s) link) ≡ up (link_k (core_of s) link) + 32768
  pub small : r.k + 18384 * at ≤ 18384 * r.next

abbrev pub LinkGiven : List ℕ → ℕ → List ℕ → ℕ → Option Read → Type 0
LinkGiven s p words at (Some r) = LinkIs s p words at r
LinkGiven s p words at None = (l : Link) (rest : List ℕ) → drop at words ≡ words_of l ++ rest → Good (core_of s) p l → ⊥

-- what a head comes to, whatever the words that spell it
abbrev pub Settled : List ℕ → ℕ → D.Link → Option Read → Type 0
Settled s at l r = (p : ℕ) (words : List ℕ) → HeadIs words at l → LinkGiven s p words at r

abbrev pub WireSettled : List ℕ → ℕ → Bound → ℕ → Option Read → Type 0
WireSettled s at bound j r = Settled s at (L.Wire bound j) r

abbrev pub BlockSettled : List ℕ → ℕ → Limit → ℕ → Option Read → Type 0
BlockSettled s at which b r = Settled s at (L.Block which b) r

-- ---- the wires of a path
-- wire j leads on from block `here` to block t, with its registers and that block's delay
pub record StepIs (s : List ℕ) (here j t w d : ℕ) : Type 0 where
  pub wire : j < wires_in s
  pub joins : from_in s j ≡ here
  pub to_is : t ≡ to_in s j
  pub registers_is : w ≡ registers_in s j
  pub delay_is : d ≡ delay_in s t
  pub block : t < blocks_in s
  pub few : w ≤ 2000
  pub short : d ≤ 10000

abbrev pub StepGiven : List ℕ → ℕ → ℕ → Option Leg → Type 0
StepGiven s here j (Some leg) = StepIs s here j leg.to leg.registers leg.delay
StepGiven s here j None = j < wires_in s → from_in s j ≡ here → ⊥

-- the first i of the wires ws lead from block u to block `here`
pub record Followed (s ws : List ℕ) (u i here registers delay : ℕ) : Type 0 where
  pub joins : Joins (shape_of s) u (take i ws) here
  pub registers_is : registers ≡ registers_on (registers_in s) (take i ws)
  pub delay_is : delay ≡ delay_on (shape_of s) u (take i ws)
  pub few : registers ≤ 2000 * i
  pub short : delay ≤ 10000 * i + 10000

-- all of the first `count` wires do, or they do not join
abbrev pub FollowGiven : List ℕ → List ℕ → ℕ → ℕ → Option Leg → Type 0
FollowGiven s ws u count (Some leg) = Followed s ws u count leg.to leg.registers leg.delay
FollowGiven s ws u count None = Joins (shape_of s) u (take count ws) (end_of (shape_of s) u (take count ws)) → ⊥

-- ---- the chain
-- the words before `at` are those of links that lead from block `first` to block `last`; their sum is held as sum + 32,768 for each
pub record Chained (s : List ℕ) (p : ℕ) (words : List ℕ) (first last sum links at : ℕ) : Type 0 where
  pub head : Link
  pub tail : List Link
  pub words_are : words ≡ all_words (head ∷ tail) ++ drop at words
  pub chain : Chain (core_of s) p first (head ∷ tail) last
  pub sum_is : sum + down (sum_k (core_of s) (head ∷ tail)) ≡ up (sum_k (core_of s) (head ∷ tail)) + 32768 * links
  pub few : 2 * links ≤ at
  pub small : sum ≤ 18384 * at
  pub within : at ≤ length words
