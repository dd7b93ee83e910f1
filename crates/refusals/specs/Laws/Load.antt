-- Lists that were loaded from a sound sheet are what the solver is given.
-- Assumes nothing.
use Rattle.std.specs.Prelude.{◌≡◌, refl, List, ℕ, ◌+◌, ◌*◌, ◌≤◌, ◌<◌, length, get_or, replicate}
use Rattle.std.proofs.Common.{ap, ◌∙◌, sym, subst, arith}
use Rattle.std.proofs.lemmas.List.{length-replicate}
use Rattle.sheet.specs.Lag.{excess}
use Rattle.sheet.specs.Core.{blocks_in, wires_in, lower_in, upper_in, from_in, to_in, registers_in, ceiling_of, shape_of, core_of}
use Rattle.sheet.specs.Filled.{filled}
use Rattle.sheet.specs.Laws.Filled.{length_filled, filled_at}
use Rattle.sheet.specs.Laws.Formed.{formed_core, formed_numbers}
use Rattle.paths.specs.Table.{Entry, best, none}
use Rattle.paths.specs.Questions.{SoundSheet}
use Rattle.paths.specs.Laws.Questions.{sound_core}
use Rattle.solver.specs.declared.Given.{Given}
use Rattle.solver.specs.System.{Fit, tabled}
use Rattle.solver.specs.Laws.Begun.{blank, blank_quick}
use Rattle.witness.specs.Stands.{Stands}
use Rattle.refusals.specs.Load.{wire_bound, ceiling_bound, Unused, Held, Loaded}
use Rattle.tables.specs.Laws.Small.{best_few}
use Rattle.refusals.specs.Laws.Solved.{entry_slow}

-- the lists that are given have their lengths
pub record Long (g : Given) : Type 0 where
  pub lower_long : length g.lower ≡ 64
  pub upper_long : length g.upper ≡ 64
  pub from_long : length g.from ≡ 256
  pub to_long : length g.to ≡ 256
  pub wires_long : length g.wires ≡ 256
  pub ceilings_long : length g.ceilings ≡ 256
  pub registers_long : length g.registers ≡ 4096
  pub delays_long : length g.delays ≡ 4096

-- and those of the wires, before they are loaded
pub record Wires (g : Given) : Type 0 where
  pub from_long : length g.from ≡ 256
  pub to_long : length g.to ≡ 256
  pub wires_long : length g.wires ≡ 256
  pub ceilings_long : length g.ceilings ≡ 256

-- ---- lists that stand for a sheet are small enough for code
module _ {s : List ℕ} {g : Given} (S : Stands s g) where
  few_registers : (a b W D : ℕ) → Entry (shape_of s) (registers_in s) a b W D → 0 < D → W ≤ 150000
  few_registers a b W D (best e) h = best_few (core_of s) (sound_core s S.sound) a b W D e
  few_registers a b W D (none f x y) h = absurd (omega arith)

  pub stands_fits : Long g → Fit g
  stands_fits R =
      let f = formed_core s S.sound.formed in
      let numbers = formed_numbers (core_of s) f in
      let host = (numbers 0 f.some_block).host refl in
      record {
        some_block = omega (arith, S.n_is, f.some_block);
        few_blocks = omega (arith, S.n_is, f.few_blocks);
        few_wires = omega (arith, S.m_is, f.few_wires);
        lower_long = R.lower_long;
        upper_long = R.upper_long;
        from_long = R.from_long;
        to_long = R.to_long;
        wires_long = R.wires_long;
        ceilings_long = R.ceilings_long;
        registers_long = R.registers_long;
        delays_long = R.delays_long;
        from_block = λ j h. let k : j < wires_in s = omega (arith, S.m_is) in omega (arith, S.n_is, S.from_is j k, f.from_block j k);
        to_block = λ j h. let k : j < wires_in s = omega (arith, S.m_is) in omega (arith, S.n_is, S.to_is j k, f.to_block j k);
        wires_small = λ j h. let k : j < wires_in s = omega (arith, S.m_is) in omega (arith, S.wires_is j k, f.few j k);
        ceilings_small = λ j h. let k : j < wires_in s = omega (arith, S.m_is) in omega (arith, S.ceilings_is j k);
        paths_small = λ a b ha hb l. few_registers a b _ _ (entry_slow S a b ha hb l) (omega arith);
        host_lower = S.lower_is 0 f.some_block ∙ host.1;
        host_upper = S.upper_is 0 f.some_block ∙ host.2;
        ordered = λ b h.
            let k : b < blocks_in s = omega (arith, S.n_is) in
            omega (arith, S.lower_is b k, S.upper_is b k, (numbers b k).ordered);
        upper_small = λ b h. let k : b < blocks_in s = omega (arith, S.n_is) in omega (arith, S.upper_is b k, (numbers b k).highest);
      }

-- ---- an entry of a list that was filled
entry_is : (f : ℕ → ℕ) (n : ℕ) (l₀ l : List ℕ) → l ≡ filled f n l₀ → n ≤ length l₀ → (i : ℕ) → i < n → get_or l i 0 ≡ f i
entry_is f n l₀ l e h i k = ap (λ (x : List ℕ). get_or x i 0) e ∙ filled_at f n l₀ i 0 k h

pub long_is : (f : ℕ → ℕ) (n k : ℕ) (l₀ l : List ℕ) → l ≡ filled f n l₀ → length l₀ ≡ k → length l ≡ k
long_is f n k l₀ l e h = ap length e ∙ length_filled f n l₀ ∙ h

-- ---- the lists, before (g) and after they are loaded
pub still : length {A = ℕ} (replicate 64 32768) ≡ 64
still = length-replicate {A = ℕ} 64 32768

module _ (s : List ℕ) (S : SoundSheet s) (g : Given) (n_is : g.n ≡ blocks_in s) (m_is : g.m ≡ wires_in s) (L : Wires g) where
  pub few_blocks : g.n ≤ 64
  few_blocks = omega (arith, S.formed.framed.few_blocks)

  pub few_wires : g.m ≤ 256
  few_wires = omega (arith, S.formed.framed.few_wires)

  few : (j : ℕ) → j < wires_in s → registers_in s j ≤ 2000
  few j h = (S.formed.wire j h).few

  module _ (lower₀ upper₀ : List ℕ) {lower upper from to wires ceilings : List ℕ} (lower_long : length lower₀ ≡ 64) (upper_long : length upper₀ ≡ 64)
      (lower_is : lower ≡ filled (λ b. excess (lower_in s b)) g.n lower₀)
      (upper_is : upper ≡ filled (λ b. excess (upper_in s b)) g.n upper₀)
      (from_is : from ≡ filled (from_in s) g.m g.from)
      (to_is : to ≡ filled (to_in s) g.m g.to)
      (wires_are : wires ≡ filled (λ j. wire_bound (registers_in s j)) g.m g.wires)
      (ceilings_are : ceilings ≡ filled (λ j. ceiling_bound (ceiling_of 0) (registers_in s j)) g.m g.ceilings) where
    -- whatever period and table stand there, without path rules
    abbrev held : Given
    held = record g { lower = lower; upper = upper; from = from; to = to; wires = wires; ceilings = ceilings }

    abbrev bare : Given
    bare = tabled held 4294967295 blank blank

    bare_stands : Stands s bare
    bare_stands = record {
      sound = S;
      n_is = n_is;
      m_is = m_is;
      lower_is = λ b h. entry_is _ g.n _ lower lower_is (omega (arith, few_blocks, lower_long)) b (omega arith);
      upper_is = λ b h. entry_is _ g.n _ upper upper_is (omega (arith, few_blocks, upper_long)) b (omega arith);
      from_is = λ j h. entry_is _ g.m _ from from_is (omega (arith, few_wires, L.from_long)) j (omega arith);
      to_is = λ j h. entry_is _ g.m _ to to_is (omega (arith, few_wires, L.to_long)) j (omega arith);
      wires_is = λ j h. entry_is _ g.m _ wires wires_are (omega (arith, few_wires, L.wires_long)) j (omega arith);
      ceilings_is = λ j h. omega (arith, entry_is _ g.m _ ceilings ceilings_are (omega (arith, few_wires, L.ceilings_long)) j (omega arith), few j h);
      table = λ x. absurd (omega (arith, x.slow, (blank_quick 4294967295).all (x.a * g.n + x.b)));
    }

    bare_long : Long bare
    bare_long = record {
      lower_long = long_is _ g.n 64 _ lower lower_is lower_long;
      upper_long = long_is _ g.n 64 _ upper upper_is upper_long;
      from_long = long_is _ g.m 256 _ from from_is L.from_long;
      to_long = long_is _ g.m 256 _ to to_is L.to_long;
      wires_long = long_is _ g.m 256 _ wires wires_are L.wires_long;
      ceilings_long = long_is _ g.m 256 _ ceilings ceilings_are L.ceilings_long;
      registers_long = length-replicate {A = ℕ} 4096 0;
      delays_long = length-replicate {A = ℕ} 4096 0;
    }

    pub loaded_held : Held s bare
    loaded_held = record { stands = bare_stands; fit = stands_fits bare_stands bare_long }

    -- and as they stand, where there were none before
    pub loaded : Unused g → Loaded s held
    loaded R = record {
      held =
          subst (λ p. Held s (tabled held p g.registers g.delays)) (sym R.period_is)
          (subst (λ r. Held s (tabled held 4294967295 r g.delays)) (sym R.registers_are)
          (subst (λ d. Held s (tabled held 4294967295 blank d)) (sym R.delays_are) loaded_held));
      unused = record { period_is = R.period_is; registers_are = R.registers_are; delays_are = R.delays_are };
    }
