-- T10 and T13: what a move changes in the answers to the two lag questions, and the sheet that the best lags deliver (demand 3), on bytes.
-- Assumes nothing.
use Rattle.std.specs.Prelude.{◌≡◌, List, [], ◌∷◌, ◌++◌, ℕ, ◌<◌, ℤ, pos, ◌+ℤ◌, ◌-ℤ◌}
use Rattle.std.proofs.Common.{sym, ap, ◌∙◌, subst, inl, inr, arith}
use Rattle.sheet.specs.Core.{blocks_in, core_of, shape_of, registers_in}
use Rattle.sheet.specs.Rules.{Rule, First, answer}
use Rattle.sheet.specs.Sheet.{Formed, frame_rules}
use Rattle.sheet.specs.Laws.Integer.{plus, minus, parts_eq}
use Rattle.sheet.specs.Laws.Rules.{skip}
use Rattle.sheet.specs.Laws.Sheet.{framed_none}
use Rattle.sheet.specs.Laws.Formed.{formed_core}
use Rattle.sheet.specs.declared.answer.Answer.{Answer}
use Rattle.paths.specs.Table.{Period}
use Rattle.paths.specs.Questions.{SoundSheet, sound_rules, CheckRight}
use Rattle.paths.specs.Laws.Questions.{sheet_sound, check_agrees, sound_checks}
use Rattle.moves.specs.Lags.{lags_in, Permitted, Moved}
use Rattle.moves.specs.Move.{MovedSheet}
use Rattle.moves.specs.Laws.Sheets.{same_blocks, moved_core, moved_unique, moves_compose}
use Rattle.moves.specs.Laws.Theorems.{moved_alike, moved_sound}
use Rattle.promises.specs.Lags.{Largest, Least}
use Rattle.promises.specs.Questions.{PeriodDone, PeriodRight, LagsOutcome, LagsDone, LagsRight, BestDone, BestRight}
use Rattle.promises.specs.Laws.Lags.{largest_unique, least_unique, permitted_less, meets_less, none_permitted_moved, none_meets_moved, largest_moved, least_moved, moved_period}
use Rattle.promises.specs.Laws.Asked.{LongLists}
use Rattle.theorems.specs.Laws.Theorems.{LagsEnd, forbidden, slow, found, BestEnd, lags_mean_done, lags_mean_none, lags_mean_slow, best_means_done, best_means_none, lags_end, lags_ten, lags_eleven, lags_zero, best_end, best_ten, best_zero}

-- ---- how an outcome on the moved sheet s' follows from the one on s
pub record Follows (s : List ℕ) (r : ℕ → ℤ) (s' : List ℕ) (o o' : LagsOutcome) : Type 0 where
  pub number_same : o'.says.number ≡ o.says.number
  pub place_same : o'.says.place ≡ o.says.place
  -- with 0 the value too; a refusal's value counts the words of whichever loop was written
  pub value_same : o.says.number ≡ 0 → o'.says.value ≡ o.says.value
  -- "lags on s' are those on s less r"
  pub lags_less : o.says.number ≡ 0 → (b : ℕ) → b < blocks_in s → lags_in o'.lags b ≡ lags_in o.lags b -ℤ r b
  -- the delivered sheets are one, byte for byte
  pub delivered_same : o.says.number ≡ 0 → (t t' : List ℕ) → MovedSheet s (lags_in o.lags) t → MovedSheet s' (lags_in o'.lags) t' → t ≡ t'

module _ (s : List ℕ) (r : ℕ → ℤ) (s' : List ℕ) (h : SoundSheet s) (p : Permitted (core_of s) r) (mv : MovedSheet s r s') where
  mc : Moved (core_of s) r (core_of s')
  mc = moved_core s r s' mv

  f : Formed (core_of s)
  f = formed_core s h.formed

  sound' : SoundSheet s'
  sound' = moved_sound s r s' h p mv

  -- largest lags at one period
  less : (c : ℕ) (q q' : ℕ → ℤ) → Largest (core_of s) c q → Largest (core_of s') c q' → (b : ℕ) → b < blocks_in s → q' b ≡ q b -ℤ r b
  less c q q' a a' b k =
      largest_unique (core_of s') c q' (λ i. q i -ℤ r i) a' (largest_moved (core_of s) (core_of s') r mc f c q a) b (omega (arith, same_blocks s r s' mv))

  -- both routes deliver one sheet
  one : (q q' : ℕ → ℤ) → ((b : ℕ) → b < blocks_in s → q' b ≡ q b -ℤ r b) → (t t' : List ℕ) → MovedSheet s q t → MovedSheet s' q' t' → t ≡ t'
  one q q' e t t' m m' =
      let y = moves_compose s h.formed r q' s' t' mv m' in
      let back : (b : ℕ) → b < blocks_in s → r b +ℤ q' b ≡ q b =
      λ b k. ap (λ (x : ℤ). r b +ℤ x) (e b k) ∙ parts_eq (r b +ℤ (q b -ℤ r b)) (q b) (omega (arith, plus (r b) (q b -ℤ r b), minus (q b) (r b))) in
      moved_unique s h.formed q t t' m (moved_alike s h.formed (λ b. r b +ℤ q' b) q t' back y)

  module _ (o o' : LagsOutcome) where
    -- both refused alike
    refused_follow : (k v v' : ℕ) → 0 < k → o.says ≡ answer k 0 v → o'.says ≡ answer k 0 v' → Follows s r s' o o'
    refused_follow k v v' g e e' =
        let n = ap (λ (x : Answer). x.number) e in
        record {
          number_same = ap (λ (x : Answer). x.number) e' ∙ sym n;
          place_same = ap (λ (x : Answer). x.place) e' ∙ sym (ap (λ (x : Answer). x.place) e);
          value_same = λ z. absurd (omega arith);
          lags_less = λ z. absurd (omega arith);
          delivered_same = λ z. absurd (omega arith);
        }

    -- both done, at one period
    done_follow : (c v : ℕ) (l l' : List ℤ) (w w' : List ℕ) → LagsDone s c v l w o → LagsDone s' c v l' w' o' → Follows s r s' o o'
    done_follow c v l l' w w' d d' =
        let e : o'.says ≡ o.says = d'.says_done ∙ sym d.says_done in
        let k = less c (lags_in o.lags) (lags_in o'.lags) d.largest d'.largest in
        record {
          number_same = ap (λ (x : Answer). x.number) e;
          place_same = ap (λ (x : Answer). x.place) e;
          value_same = λ z. ap (λ (x : Answer). x.value) e;
          lags_less = λ z. k;
          delivered_same = λ z. one (lags_in o.lags) (lags_in o'.lags) k;
        }

  -- ---- T10, lags at every period, refusals included
  module _ (l l' : List ℤ) (w w' : List ℕ) (long : LongLists s l w) (long' : LongLists s' l' w') (o o' : LagsOutcome) where
    module _ (c : ℕ) (a : LagsRight s c l w o) (a' : LagsRight s' c l' w' o') where
      -- by the way in which it ended on s
      lags_by : LagsEnd s c l w o → Follows s r s' o o'
      lags_by (forbidden x y) =
          let z = (lags_ten s' l' w' sound' long' o' c a').1 (none_permitted_moved (core_of s) (core_of s') r mc f x) in
          let y' = (lags_mean_none s' c l' w' o' a' z).2 in
          refused_follow o o' 10 y.count y'.count (omega arith) y.says_refused y'.says_refused
      lags_by (slow x y) =
          let z = (lags_eleven s' l' w' sound' long' o' c a').1 (none_meets_moved (core_of s) (core_of s') r mc f c x) in
          let y' = (lags_mean_slow s' c l' w' o' a' z).2 in
          refused_follow o o' 11 y.count y'.count (omega arith) y.says_refused y'.says_refused
      lags_by (found d) =
          let q = lags_in o.lags in
          let z = (lags_zero s' l' w' sound' long' o' c a').1 (λ b. q b -ℤ r b, meets_less (core_of s) (core_of s') r mc f c q d.largest.meets) in
          done_follow o o' c 0 l l' w w' d (lags_mean_done s' c l' w' o' a' z).1

      pub lags_follow : Follows s r s' o o'
      lags_follow = lags_by (lags_end s l w h long o c a)

    -- ---- T10, best period
    module _ (a : BestRight s l w o) (a' : BestRight s' l' w' o') where
      -- by the way in which it ended on s
      best_by : BestEnd s l w o → Follows s r s' o o'
      best_by (forbidden x y) =
          let z = (best_ten s' l' w' sound' long' o' a').1 (none_permitted_moved (core_of s) (core_of s') r mc f x) in
          let y' = (best_means_none s' l' w' o' a' z).2 in
          refused_follow o o' 10 y.count y'.count (omega arith) y.says_refused y'.says_refused
      best_by (found d) =
          let q = d.least.lags in
          let z = (best_zero s' l' w' sound' long' o' a').1 (λ b. q b -ℤ r b, permitted_less (core_of s) (core_of s') r mc f q d.least.met.permitted) in
          let d' = (best_means_done s' l' w' o' a' z).1 in
          let e : d'.period ≡ d.period = least_unique (core_of s') d'.period d.period d'.least (least_moved (core_of s) (core_of s') r mc f d.period d.least) in
          let g : LagsDone s' d.period d.period l' w' o' = rw e at d'.done in
          done_follow o o' d.period d.period l l' w w' d.done g

      pub best_follow : Follows s r s' o o'
      best_follow = best_by (best_end s l w h long o a)

-- ---- T13: the sheet t that the best lags of s deliver
less_itself : (x : ℤ) → x -ℤ x ≡ pos 0
less_itself x = parts_eq (x -ℤ x) (pos 0) (omega (arith, minus x x))

module _ (s : List ℕ) (l : List ℤ) (w : List ℕ) (o : LagsOutcome) (a : BestRight s l w o) (p : ℕ) (e : o.says ≡ answer 0 0 p) (t : List ℕ) (m : MovedSheet s (lags_in o.lags) t) where
  means : SoundSheet s × BestDone s l w o
  means = best_means_done s l w o a (ap (λ (x : Answer). x.number) e)

  period_is : means.1.period ≡ p
  period_is = sym (ap (λ (x : Answer). x.value) means.1.done.says_done) ∙ ap (λ (x : Answer). x.value) e

  best_least : Least (core_of s) p
  best_least = subst (Least (core_of s)) period_is means.1.least

  best_largest : Largest (core_of s) p (lags_in o.lags)
  best_largest = subst (λ (k : ℕ). Largest (core_of s) k (lags_in o.lags)) period_is means.1.done.largest

  allowed : Permitted (core_of s) (lags_in o.lags)
  allowed = best_largest.meets.permitted

  moved : Moved (core_of s) (lags_in o.lags) (core_of t)
  moved = moved_core s (lags_in o.lags) t m

  formed : Formed (core_of s)
  formed = formed_core s means.0.formed

  -- it is sound
  pub delivered_sound : SoundSheet t
  delivered_sound = moved_sound s (lags_in o.lags) t means.0 allowed m

  -- check answers 0
  pub delivered_checks : (b : Answer) → CheckRight t b → b ≡ answer 0 0 0
  delivered_checks b k = check_agrees t b (answer 0 0 0) k (sound_checks t delivered_sound)

  -- its period as it stands is the best period
  period_same : (q : ℕ) → Period (shape_of t) (registers_in t) q → q ≡ p
  period_same q d =
      let k = moved_period (core_of s) (core_of t) (lags_in o.lags) moved formed allowed q d in
      omega (arith, (k p).0 best_largest.meets, best_least.least q (lags_in o.lags) ((k q).1 (omega arith)))

  period_last : (b : Answer) → First (record { when = Unit {0}; gives = PeriodDone t } ∷ []) b → b ≡ answer 0 0 p
  period_last b (inl g) = g.1.2 ∙ ap (answer 0 0) (period_same g.1.0 g.1.1)
  period_last b (inr g) = absurd g.1

  pub delivered_period : (b : Answer) → PeriodRight t b → b ≡ answer 0 0 p
  delivered_period b k =
      let last : List (Rule Answer) = record { when = Unit {0}; gives = PeriodDone t } ∷ [] in
      period_last b (skip (sound_rules t) last b (sheet_sound t delivered_sound) (skip (frame_rules t) (sound_rules t ++ last) b (framed_none t delivered_sound.formed.framed) k))

  -- its own largest lags there are all 0
  zeros : (q : ℕ → ℤ) → Largest (core_of t) p q → (b : ℕ) → b < blocks_in t → q b ≡ pos 0
  zeros q d b k =
      less s (lags_in o.lags) t means.0 allowed m p (lags_in o.lags) q best_largest d b (omega (arith, same_blocks s (lags_in o.lags) t m))
      ∙ less_itself (lags_in o.lags b)

  module _ (l' : List ℤ) (w' : List ℕ) (o' : LagsOutcome) (long : LongLists t l' w') where
    -- asked for lags at that period, or for the best, it answers 0 and zeros
    pub delivered_lags : LagsRight t p l' w' o' → (o'.says ≡ answer 0 0 0) × ((b : ℕ) → b < blocks_in t → lags_in o'.lags b ≡ pos 0)
    delivered_lags k =
        let r = lags_in o.lags in
        let z = (lags_zero t l' w' delivered_sound long o' p k).1 (λ b. r b -ℤ r b, meets_less (core_of s) (core_of t) r moved formed p r best_largest.meets) in
        let d = (lags_mean_done t p l' w' o' k z).1 in
        (d.says_done, zeros (lags_in o'.lags) d.largest)

    pub delivered_best : BestRight t l' w' o' → (o'.says ≡ answer 0 0 p) × ((b : ℕ) → b < blocks_in t → lags_in o'.lags b ≡ pos 0)
    delivered_best k =
        let r = lags_in o.lags in
        let z = (best_zero t l' w' delivered_sound long o' k).1 (λ b. r b -ℤ r b, permitted_less (core_of s) (core_of t) r moved formed r allowed) in
        let d = (best_means_done t l' w' o' k z).1 in
        let q : d.period ≡ p = least_unique (core_of t) d.period p d.least (least_moved (core_of s) (core_of t) r moved formed p best_least) in
        let g : LagsDone t p p l' w' o' = rw q at d.done in
        (g.says_done, zeros (lags_in o'.lags) g.largest)
