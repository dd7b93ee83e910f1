-- A test of a line that computes. Nobody has to believe it: specs/Laws/Line.antt proves that a line that passes is right.
use Rattle.std.specs.Prelude.{Bool, true, false, ◌&&◌, not, cond, List, [], ◌∷◌, ◌++◌, map, ℕ, zero, suc, ◌+◌, ◌*◌, ltb, leb, eqb, ℤ, pos, negsuc, ◌-ℤ◌, length, get_or, set, replicate}
use Rattle.std.specs.Int.Signed.{le_z, lt_z}
use Rattle.sheet.specs.Bytes.{u32_at}
use Rattle.sheet.specs.Core.{Core, core_of, blocks_in, wires_in, block_at, wire_at, delay_in, lower_in, upper_in, from_in, to_in, registers_in, spare_in}
use Rattle.paths.specs.Path.{registers_on, delay_on, end_of}
use Rattle.moves.specs.Lags.{lags_in, moved_by}
use Rattle.loops.specs.Link.{Link, wire, path, upper, lower, ceiling, link_a, sum_k}
use Rattle.loops.specs.Test.{Parsed, links, unreadable, links_of, joins_test, chain_test, valid_test}
use Rattle.promises.specs.Questions.{words_needed}
use Rattle.sums.specs.Lines.{Chains, Line, sound, period, entry, best, lags_at, meet, slow, stuck, loop_yes, loop_no, moves, leaves}

-- ---- tests put together
abbrev pub every : List Bool → Bool
every [] = true
every (b ∷ bs) = b && every bs

abbrev pub implies : Bool → Bool → Bool
implies true x = x
implies false x = true

-- at every number below n, and at some
abbrev pub all_below : ℕ → (ℕ → Bool) → Bool
all_below zero f = true
all_below (suc n) f = f n && all_below n f

abbrev pub some_below : ℕ → (ℕ → Bool) → Bool
some_below zero f = false
some_below (suc n) f = cond (f n) true (some_below n f)

abbrev pub same_z : ℤ → ℤ → Bool
same_z x y = le_z x y && le_z y x

-- the same thing done k times, with the numbers 0 to k - 1
abbrev pub times : {A : Type 0} → ℕ → (ℕ → A → A) → A → A
times zero f x = x
times (suc k) f x = f k (times k f x)

-- ---- a sound sheet
abbrev pub host_tests : ℕ → ℤ → ℤ → List Bool
host_tests d l u = eqb d 0 ∷ same_z l (pos 0) ∷ same_z u (pos 0) ∷ []

abbrev pub block_tests : ℕ → ℕ → ℤ → ℤ → List Bool
block_tests b d l u =
    leb d 10000
    ∷ le_z (negsuc 999) l
    ∷ le_z l (pos 1000)
    ∷ le_z (negsuc 999) u
    ∷ le_z u (pos 1000)
    ∷ le_z l u
    ∷ le_z (u -ℤ l) (pos 1000)
    ∷ implies (eqb b 0) (every (host_tests d l u))
    ∷ []

abbrev pub wire_tests : ℕ → ℕ → ℕ → ℕ → ℕ → List Bool
wire_tests n f t w z = ltb f n ∷ ltb t n ∷ leb w 2000 ∷ eqb z 0 ∷ []

module _ (s : List ℕ) where
  abbrev pub frame_tests : List Bool
  frame_tests =
      leb 1 (blocks_in s)
      ∷ leb (blocks_in s) 64
      ∷ leb (wires_in s) 256
      ∷ eqb (u32_at s 4) 16
      ∷ eqb (u32_at s 8) (16 + 8 * blocks_in s)
      ∷ eqb (u32_at s 12) (16 + 8 * blocks_in s + 8 * wires_in s)
      ∷ eqb (length s) (16 + 8 * blocks_in s + 8 * wires_in s)
      ∷ []

  -- ranks: each wire without a register leads to a block of higher rank, so there is no register-free loop
  abbrev raise : ℕ → List ℕ → List ℕ
  raise j ranks = cond (eqb (registers_in s j) 0 && leb (get_or ranks (to_in s j) 0) (get_or ranks (from_in s j) 0)) (set ranks (to_in s j) (get_or ranks (from_in s j) 0 + 1)) ranks

  abbrev pub ranks : List ℕ
  ranks = times (blocks_in s) (λ k. times (wires_in s) raise) (replicate (blocks_in s) 0)

  abbrev pub rank_test : List ℕ → ℕ → Bool
  rank_test ranks j = implies (eqb (registers_in s j) 0) (ltb (get_or ranks (from_in s j) 0) (get_or ranks (to_in s j) 0))

  abbrev pub sound_tests : List ℕ → List Bool
  sound_tests ranks =
      every frame_tests
      ∷ all_below (blocks_in s) (λ b. every (block_tests b (delay_in s b) (lower_in s b) (upper_in s b)))
      ∷ all_below (wires_in s) (λ j. every (wire_tests (blocks_in s) (from_in s j) (to_in s j) (registers_in s j) (spare_in s j)))
      ∷ all_below (wires_in s) (rank_test ranks)
      ∷ []

  abbrev pub sound_test : Bool
  sound_test = every (sound_tests ranks)

-- ---- permitted lags
module _ (c : Core) (r : ℕ → ℤ) where
  abbrev pub range_tests : ℕ → List Bool
  range_tests b = le_z (c.lower b) (r b) ∷ le_z (r b) (c.upper b) ∷ []

  abbrev pub fit_tests : ℕ → List Bool
  fit_tests j = le_z (pos 0) (moved_by c r j) ∷ le_z (moved_by c r j) (pos (c.ceiling j)) ∷ []

  abbrev pub permitted_tests : List Bool
  permitted_tests = all_below c.shape.n (λ b. every (range_tests b)) ∷ all_below c.shape.m (λ j. every (fit_tests j)) ∷ []

-- ---- the path table: a path for each pair, found by rounds over all wires; however they were found, `table_test` judges them
pub data Found : Type 0 where
  far : Found
  by : List ℕ → Found

abbrev pub wires_of : Found → List ℕ
wires_of far = []
wires_of (by ws) = ws

-- fewer registers, or as many and at least the delay
abbrev pub ahead_test : ℕ → ℕ → ℕ → ℕ → Bool
ahead_test W D W' D' = cond (ltb W W') true (eqb W W' && leb D' D)

module _ (c : Core) where
  module _ (u : ℕ) where
    abbrev prefer : Found → Found → Found
    prefer far y = y
    prefer (by ws) far = by ws
    prefer (by ws) (by xs) =
        cond (ahead_test (registers_on c.registers xs) (delay_on c.shape u xs) (registers_on c.registers ws) (delay_on c.shape u ws)) (by xs) (by ws)

    abbrev extend : Found → ℕ → Found
    extend far j = far
    extend (by ws) j = by (ws ++ (j ∷ []))

    abbrev relax : ℕ → List Found → List Found
    relax j row = set row (c.shape.to j) (prefer (extend (get_or row (c.shape.from j) far) j) (get_or row (c.shape.to j) far))

    abbrev row : List (List ℕ)
    row = map wires_of (times c.shape.n (λ k. times c.shape.m relax) (set (replicate c.shape.n far) u (by [])))

  abbrev pub rows : List (List (List ℕ))
  rows = times c.shape.n (λ u found. found ++ (row u ∷ [])) []

  -- the paths P of a table: each leads where it should, and no wire improves an entry
  module _ (P : ℕ → ℕ → List ℕ) where
    abbrev pub registers_to : ℕ → ℕ → ℕ
    registers_to u v = registers_on c.registers (P u v)

    abbrev pub delay_to : ℕ → ℕ → ℕ
    delay_to u v = delay_on c.shape u (P u v)

    abbrev pub path_tests : ℕ → ℕ → List Bool
    path_tests u v = joins_test c.shape u (P u v) ∷ eqb (end_of c.shape u (P u v)) v ∷ ltb (registers_to u v) 4294967295 ∷ []

    abbrev pub still_test : ℕ → ℕ → Bool
    still_test u j =
        let f = c.shape.from j in
        let t = c.shape.to j in
        ahead_test (registers_to u t) (delay_to u t) (registers_to u f + c.registers j) (delay_to u f + c.shape.delay t)

    abbrev pub row_tests : ℕ → List Bool
    row_tests u =
        eqb (registers_to u u) 0
        ∷ eqb (delay_to u u) (c.shape.delay u)
        ∷ all_below c.shape.n (λ v. every (path_tests u v))
        ∷ all_below c.shape.m (still_test u)
        ∷ []

    abbrev pub table_test : Bool
    table_test = all_below c.shape.n (λ u. every (row_tests u))

    -- the largest delay of a register-free path is p
    abbrev pub long_test : ℕ → ℕ → ℕ → Bool
    long_test p u v = eqb (registers_to u v) 0 && eqb (delay_to u v) p

    abbrev pub short_test : ℕ → ℕ → ℕ → Bool
    short_test p u v = implies (eqb (registers_to u v) 0) (leb (delay_to u v) p)

    abbrev pub period_tests : ℕ → List Bool
    period_tests p =
        table_test
        ∷ some_below c.shape.n (λ u. some_below c.shape.n (long_test p u))
        ∷ all_below c.shape.n (λ u. all_below c.shape.n (short_test p u))
        ∷ []

    abbrev pub entry_tests : ℕ → ℕ → ℕ → ℕ → List Bool
    entry_tests u v W D =
        table_test ∷ ltb u c.shape.n ∷ ltb v c.shape.n ∷ eqb (registers_to u v) W ∷ eqb (delay_to u v) D ∷ []

    -- ---- lags: they are permitted, keep a register on each slow path, and are held by chains of links to the host
    module _ (r : ℕ → ℤ) where
      abbrev pub slow_test : ℕ → ℕ → ℕ → Bool
      slow_test p u v = implies (ltb p (delay_to u v)) (le_z (r u -ℤ r v) (pos (registers_to u v) -ℤ pos 1))

      abbrev pub meet_tests : ℕ → List Bool
      meet_tests p = table_test ∷ every (permitted_tests c r) ∷ all_below c.shape.n (λ u. all_below c.shape.n (slow_test p u)) ∷ []

      abbrev pub held_tests : ℕ → Chains → ℕ → List Bool
      held_tests p why b = chain_test c p b (get_or why b []) 0 ∷ same_z (sum_k c (get_or why b [])) (r b) ∷ []

      abbrev pub largest_tests : ℕ → Chains → List Bool
      largest_tests p why = every (meet_tests p) ∷ all_below c.shape.n (λ b. every (held_tests p why b)) ∷ []

-- ---- loops
abbrev pub not_in_test : ℕ → List ℕ → Bool
not_in_test x [] = true
not_in_test x (y ∷ ys) = not (eqb x y) && not_in_test x ys

abbrev pub no_dup_test : List ℕ → Bool
no_dup_test [] = true
no_dup_test (x ∷ xs) = not_in_test x xs && no_dup_test xs

abbrev pub no_path_test : List Link → Bool
no_path_test [] = true
no_path_test (wire j ∷ ls) = no_path_test ls
no_path_test (path u ws ∷ ls) = false
no_path_test (upper b ∷ ls) = no_path_test ls
no_path_test (lower b ∷ ls) = no_path_test ls
no_path_test (ceiling j ∷ ls) = no_path_test ls

module _ (c : Core) where
  -- no block twice as an a; no link of kind 2; the sum of the k's
  abbrev pub once_test : Parsed → Bool
  once_test (links l ls) = no_dup_test (map (link_a c) (l ∷ ls))
  once_test unreadable = false

  abbrev pub plain_test : Parsed → Bool
  plain_test (links l ls) = no_path_test (l ∷ ls)
  plain_test unreadable = false

  abbrev pub sum_test : ℤ → Parsed → Bool
  sum_test sum (links l ls) = same_z (sum_k c (l ∷ ls)) sum
  sum_test sum unreadable = false

  abbrev pub given_tests : ℕ → List ℕ → List Bool
  given_tests p words = valid_test c p words ∷ once_test (links_of words) ∷ leb (length words) (words_needed c.shape.n) ∷ []

-- ---- the moved sheet
module _ (s t : List ℕ) where
  abbrev pub copied_test : ℕ → ℕ → Bool
  copied_test at k = all_below k (λ i. eqb (get_or t (at + i) 0) (get_or s (at + i) 0))

  abbrev pub moved_tests : (ℕ → ℤ) → List Bool
  moved_tests r =
      all_below (length t) (λ i. ltb (get_or t i 0) 256)
      ∷ eqb (length t) (length s)
      ∷ copied_test 0 16
      ∷ all_below (blocks_in s) (λ b. copied_test (block_at b) 4)
      ∷ all_below (blocks_in s) (λ b. same_z (lower_in t b) (lower_in s b -ℤ r b))
      ∷ all_below (blocks_in s) (λ b. same_z (upper_in t b) (upper_in s b -ℤ r b))
      ∷ all_below (wires_in s) (λ j. copied_test (wire_at (blocks_in s) j) 4)
      ∷ all_below (wires_in s) (λ j. same_z (pos (registers_in t j)) (moved_by (core_of s) r j))
      ∷ all_below (wires_in s) (λ j. copied_test (wire_at (blocks_in s) j + 6) 2)
      ∷ []

-- refusal 9 at this wire
abbrev pub leaves_tests : Core → (ℕ → ℤ) → ℕ → List Bool
leaves_tests c r k =
    all_below c.shape.n (λ b. every (range_tests c r b))
    ∷ ltb k c.shape.m
    ∷ all_below k (λ j. every (fit_tests c r j))
    ∷ not (every (fit_tests c r k))
    ∷ []

-- ---- a line
-- the paths that the test found
abbrev pub paths_of : List ℕ → ℕ → ℕ → List ℕ
paths_of s u v = get_or (get_or (rows (core_of s)) u []) v []

-- nowhere above, and somewhere below
abbrev pub less_tests : ℕ → (ℕ → ℤ) → (ℕ → ℤ) → List Bool
less_tests n r q = all_below n (λ b. le_z (r b) (q b)) ∷ some_below n (λ b. lt_z (r b) (q b)) ∷ []

-- the period before p is ruled out
abbrev pub before_test : Core → ℕ → List ℕ → Bool
before_test c zero words = true
before_test c (suc p) words = valid_test c p words

abbrev pub tests : Line → List Bool
tests (sound s) = sound_test s ∷ []
tests (period s p) = sound_test s ∷ every (period_tests (core_of s) (paths_of s) p) ∷ []
tests (entry s u v W D) = sound_test s ∷ every (entry_tests (core_of s) (paths_of s) u v W D) ∷ []
tests (best s p lags why before) =
    sound_test s ∷ every (largest_tests (core_of s) (paths_of s) (lags_in lags) p why) ∷ eqb (length lags) (blocks_in s) ∷ before_test (core_of s) p before ∷ []
tests (lags_at s c lags why) = sound_test s ∷ every (largest_tests (core_of s) (paths_of s) (lags_in lags) c why) ∷ eqb (length lags) (blocks_in s) ∷ []
tests (meet s c lags larger) =
    sound_test s ∷ every (meet_tests (core_of s) (paths_of s) (lags_in lags) c) ∷ every (less_tests (blocks_in s) (lags_in lags) (lags_in larger)) ∷ []
tests (slow s c words permitted) = sound_test s ∷ every (given_tests (core_of s) c words) ∷ every (permitted_tests (core_of s) (lags_in permitted)) ∷ []
tests (stuck s words) = sound_test s ∷ every (given_tests (core_of s) 0 words) ∷ plain_test (core_of s) (links_of words) ∷ []
tests (loop_yes s c words sum) = sound_test s ∷ valid_test (core_of s) c words ∷ sum_test (core_of s) sum (links_of words) ∷ []
tests (loop_no s c words) = sound_test s ∷ not (valid_test (core_of s) c words) ∷ []
tests (moves s lags moved) =
    sound_test s ∷ leb (blocks_in s) (length lags) ∷ every (permitted_tests (core_of s) (lags_in lags)) ∷ every (moved_tests s moved (lags_in lags)) ∷ []
tests (leaves s lags place) = sound_test s ∷ leb (blocks_in s) (length lags) ∷ every (leaves_tests (core_of s) (lags_in lags) place) ∷ []

abbrev pub test : Line → Bool
test x = every (tests x)

abbrev pub test_all : List Line → Bool
test_all [] = true
test_all (x ∷ xs) = test x && test_all xs
