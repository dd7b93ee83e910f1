-- A path link's wires, found backward along a row of the path table.
use Rattle.std.specs.Prelude.{◌≡◌, List, ℕ, ◌+◌, ◌*◌, ◌≤◌, ◌<◌, length, get_or, drop}
use Rattle.sheet.specs.Core.{Shape, blocks_in, wires_in, registers_in, shape_of}
use Rattle.paths.specs.Path.{Joins, registers_on, delay_on}
use Rattle.paths.specs.Table.{Best, Table}
use Rattle.paths.specs.Questions.{SoundSheet}
use Rattle.tables.specs.Back.{Completed}
use Rattle.solver.specs.declared.Given.{Given}
use Rattle.solver.specs.declared.Rule.{Rule}
use Rattle.solver.specs.declared.Rule.TheVariants as R

-- the entry of the pair u, v in the path table
abbrev pub registers_at : Given → ℕ → ℕ → ℕ
registers_at g u v = get_or g.registers (u * g.n + v) 0

abbrev pub delay_at : Given → ℕ → ℕ → ℕ
delay_at g u v = get_or g.delays (u * g.n + v) 0

-- a sound sheet with its path table
pub record Tabled (s : List ℕ) (g : Given) : Type 0 where
  pub sound : SoundSheet s
  pub n_is : g.n ≡ blocks_in s
  pub m_is : g.m ≡ wires_in s
  pub registers_long : length g.registers ≡ 4096
  pub delays_long : length g.delays ≡ 4096
  pub table : Table (shape_of s) (registers_in s) g.registers g.delays

-- a sound sheet, with its path table where the rule is a path's
pub record Known (s : List ℕ) (g : Given) (r : Rule) : Type 0 where
  pub sound : SoundSheet s
  pub tabled : r ≡ R.Path → Tabled s g

-- where a wire out of block f starts in row u: from the bare start block, or from the row's entry
abbrev pub Based : ℕ → ℕ → ℕ → ℕ → ℕ → Type 0
Based start u f entry r = (f ≡ u → r ≡ start) × ((f ≡ u → ⊥) → r ≡ entry)

module _ (s : Shape) (w : ℕ → ℕ) (u v W D : ℕ) where
  -- no wire before j completes it
  abbrev pub NoneBefore : ℕ → Type 0
  NoneBefore j = (i : ℕ) → Completed s w u v W D i → j ≤ i

  -- the pair's best path is the bare start block, or is not
  abbrev pub Bare : Type 0
  Bare = (v ≡ u) × (W ≡ 0) × (D ≡ s.delay u)

  abbrev pub Apart : Type 0
  Apart = Bare → ⊥

  -- the wires ws are a path from u to v with these numbers, of fewer than n wires
  pub record Traced (ws : List ℕ) : Type 0 where
    pub joins : Joins s u ws v
    pub registers_is : registers_on w ws ≡ W
    pub delay_is : delay_on s u ws ≡ D
    pub short : length ws < s.n

  -- the wires ws lead from b to v and complete the best paths from u to b, with these numbers, to best paths
  pub record Suffix (b Wb Db : ℕ) (ws : List ℕ) : Type 0 where
    pub whole : Best s w u v W D
    pub front : Best s w u b Wb Db
    pub joins : Joins s b ws v
    pub registers_is : Wb + registers_on w ws ≡ W
    pub delay_is : Db + delay_on s b ws ≡ D + s.delay b

-- the wires from place `at` on are found, and the search goes on at block b
pub record Tracing (s : List ℕ) (g : Given) (u v b at : ℕ) (wires : List ℕ) : Type 0 where
  pub inside : b < g.n
  pub place : at ≤ 64
  pub long : length wires ≡ 64
  pub apart : Apart (shape_of s) (registers_in s) u b (registers_at g u b) (delay_at g u b)
  pub suffix : Suffix (shape_of s) (registers_in s) u v (registers_at g u v) (delay_at g u v) b (registers_at g u b) (delay_at g u b) (drop at wires)
