-- The table, one row after the other.
-- Assumes nothing.
use Rattle.std.specs.Prelude.{◌≡◌, refl, List, ℕ, ◌+◌, ◌*◌, ◌≤◌, ◌<◌, length, get_or}
use Rattle.std.proofs.Common.{◌∙◌, subst, arith}
use borrow.Author.Count.{below_more}
use Rattle.sheet.specs.Core.{Shape}
use Rattle.paths.specs.Table.{Entry, Table}
use Rattle.paths.specs.Questions.{KeptFrom}
use Rattle.tables.specs.Row.{RowRight, Rows}
use Rattle.paths.specs.Laws.Same.{SameWires, SameDelays}
use Rattle.paths.proofs.Delays.{entry_same}
use Rattle.paths.specs.Laws.Parts.{row_before, back, length_back, before_part, within_part, after_part}

pub kept_all : (k : ℕ) (l : List ℕ) → KeptFrom k l l
kept_all k l = record { long = refl; past = λ i h. refl }

module _ (s : Shape) (w : ℕ → ℕ) where
  pub rows_none : (ws ds : List ℕ) → Rows s w 0 ws ds ws ds
  rows_none ws ds = record { entry = λ x v h. absurd (omega arith); ws_kept = kept_all (s.n * s.n) ws; ds_kept = kept_all (s.n * s.n) ds }

  pub rows_end : (ws₀ ds₀ ws ds : List ℕ) (u : ℕ) → s.n ≤ u → Rows s w u ws₀ ds₀ ws ds → Rows s w s.n ws₀ ds₀ ws ds
  rows_end ws₀ ds₀ ws ds u l r = record { entry = λ x v h. r.entry x v (omega arith); ws_kept = r.ws_kept; ds_kept = r.ds_kept }

  pub rows_all : (ws₀ ds₀ ws ds : List ℕ) (u : ℕ) → s.n ≤ u → Rows s w u ws₀ ds₀ ws ds → Table s w ws ds
  rows_all ws₀ ds₀ ws ds u l r x v h k = r.entry x v (omega arith) k

  -- row u is lent as a part of each table, k entries from entry u times n, and comes back right
  module _ (u k : ℕ) (u_lt : u < s.n) (k_is : k ≡ s.n) where
    module _ (xs ys : List ℕ) (long : s.n * s.n ≤ length xs) (y : length ys ≡ s.n) where
      room : u * s.n + k ≤ length xs
      room = omega (arith, row_before s.n u s.n u_lt)

      full : length ys ≡ k
      full = omega arith

      earlier : (x v : ℕ) → x < u → v < s.n → get_or (back xs ys (u * s.n) k) (x * s.n + v) 0 ≡ get_or xs (x * s.n + v) 0
      earlier x v l h = before_part xs ys (u * s.n) k room full (x * s.n + v) (omega (arith, row_before s.n x u l))

      own : (v : ℕ) → v < s.n → get_or (back xs ys (u * s.n) k) (u * s.n + v) 0 ≡ get_or ys v 0
      own v h = within_part xs ys (u * s.n) k room full v (omega arith)

      kept_back : (xs₀ : List ℕ) → KeptFrom (s.n * s.n) xs₀ xs → KeptFrom (s.n * s.n) xs₀ (back xs ys (u * s.n) k)
      kept_back xs₀ r = record {
        long = length_back xs ys (u * s.n) k room full ∙ r.long;
        past = λ i h. after_part xs ys (u * s.n) k room full i (omega (arith, row_before s.n u s.n u_lt)) ∙ r.past i h;
      }

    module _ (ws₀ ds₀ ws ds ys zs : List ℕ) (ws_long : s.n * s.n ≤ length ws) (ds_long : s.n * s.n ≤ length ds)
        (r : Rows s w u ws₀ ds₀ ws ds) (y : RowRight s w u ys zs) where
      EntryNow : ℕ → Type 0
      EntryNow x = (v : ℕ) → v < s.n → Entry s w x v (get_or (back ws ys (u * s.n) k) (x * s.n + v) 0) (get_or (back ds zs (u * s.n) k) (x * s.n + v) 0)

      old : (x : ℕ) → x < u → EntryNow x
      unfolding EntryNow
      old x l v h = rw (earlier ws ys ws_long y.ws_long x v l h, earlier ds zs ds_long y.ds_long x v l h) (r.entry x v l h)

      new : EntryNow u
      unfolding EntryNow
      new v h = rw (own ws ys ws_long y.ws_long v h, own ds zs ds_long y.ds_long v h) (y.entry v h)

      pub rows_more : Rows s w (u + 1) ws₀ ds₀ (back ws ys (u * s.n) k) (back ds zs (u * s.n) k)
      unfolding EntryNow
      rows_more = record {
        entry = λ x v h. below_more EntryNow u old new x h v;
        ws_kept = kept_back ws ys ws_long y.ws_long ws₀ r.ws_kept;
        ds_kept = kept_back ds zs ds_long y.ds_long ds₀ r.ds_kept;
      }

-- ---- the same table of another shape that agrees
pub rows_same : {s t : Shape} {w x : ℕ → ℕ} {ws₀ ds₀ ws ds : List ℕ} (u : ℕ) → SameWires s t w x → SameDelays s t → Rows s w u ws₀ ds₀ ws ds → Rows t x u ws₀ ds₀ ws ds
rows_same {s} {t} {w} {x} {ws₀} {ds₀} {ws} {ds} u e d r = record {
  entry = λ a v h k. subst (λ (n : ℕ). Entry t x a v (get_or ws (a * n + v) 0) (get_or ds (a * n + v) 0)) e.n_is (entry_same e d a v _ _ (r.entry a v h (omega (arith, e.n_is))));
  ws_kept = subst (λ (n : ℕ). KeptFrom (n * n) ws₀ ws) e.n_is r.ws_kept;
  ds_kept = subst (λ (n : ℕ). KeptFrom (n * n) ds₀ ds) e.n_is r.ds_kept;
}
