-- Words that pass the tests are a loop as 10 and 11 give it.
-- Assumes nothing.
use Rattle.std.specs.Prelude.{◌≡◌, not, List, [], ◌∷◌, map, ℕ, T, eqb, ℤ}
use Rattle.std.proofs.Common.{ap, ◌∙◌, subst, T_not}
use Rattle.std.proofs.Math.Dec.{eqb_refl}
use Rattle.std.specs.Float.Ieee.Fits.{and_l, and_r}
use Rattle.std.specs.Float.Ieee.Bits.{is_true}
use Rattle.sheet.specs.Core.{Core}
use Rattle.paths.specs.Distinct.{NotIn, NoDup}
use Rattle.loops.specs.Link.{Link, wire, path, upper, lower, ceiling, link_a, sum_k, ValidLoop, NoPath}
use Rattle.loops.specs.Test.{Parsed, links, links_of, valid_test}
use Rattle.loops.proofs.Tested.{links_told, test_sound}
use Rattle.witness.specs.Laws.Plain.{valid_plain}
use Rattle.promises.specs.Lags.{LoopGiven, PlainLoop}
use Rattle.sums.specs.Test.{every, not_in_test, no_dup_test, no_path_test, once_test, plain_test, sum_test, given_tests}
use Rattle.sums.specs.Laws.Finite.{each, same_told}

not_in_told : (x : ℕ) (ys : List ℕ) → T (not_in_test x ys) → NotIn x ys
not_in_told x [] t = tt
not_in_told x (y ∷ ys) t =
    let a = not (eqb x y) in
    let b = not_in_test x ys in
    (λ e. T_not (eqb x y) (and_l a b t) (subst (λ (k : ℕ). T (eqb x k)) e (eqb_refl x)), not_in_told x ys (and_r a b t))

no_dup_told : (xs : List ℕ) → T (no_dup_test xs) → NoDup xs
no_dup_told [] t = tt
no_dup_told (x ∷ xs) t =
    let a = not_in_test x xs in
    let b = no_dup_test xs in
    (not_in_told x xs (and_l a b t), no_dup_told xs (and_r a b t))

module _ (c : Core) where
  no_path_told : (ls : List Link) → T (no_path_test ls) → NoPath c ls
  no_path_told [] t = tt
  no_path_told (wire j ∷ ls) t = no_path_told ls t
  no_path_told (path u ws ∷ ls) t = t
  no_path_told (upper b ∷ ls) t = no_path_told ls t
  no_path_told (lower b ∷ ls) t = no_path_told ls t
  no_path_told (ceiling j ∷ ls) t = no_path_told ls t

  module _ (words : List ℕ) where
    -- the links of a valid loop are those that its words are read as
    module _ (p : ℕ) (v : ValidLoop c p words) where
      read : links_of words ≡ links v.first v.others
      read = ap links_of v.words_are ∙ links_told v.first v.others

      once_told : T (once_test c (links_of words)) → NoDup (map (link_a c) (v.first ∷ v.others))
      once_told t = no_dup_told (map (link_a c) (v.first ∷ v.others)) (subst (λ (x : Parsed). T (once_test c x)) read t)

      plain_told : T (plain_test c (links_of words)) → NoPath c (v.first ∷ v.others)
      plain_told t = no_path_told (v.first ∷ v.others) (subst (λ (x : Parsed). T (plain_test c x)) read t)

      pub sum_told : (sum : ℤ) → T (sum_test c sum (links_of words)) → sum_k c (v.first ∷ v.others) ≡ sum
      sum_told sum t = same_told (sum_k c (v.first ∷ v.others)) sum (subst (λ (x : Parsed). T (sum_test c sum x)) read t)

    valid_told : (p : ℕ) → T (every (given_tests c p words)) → ValidLoop c p words
    valid_told p t = test_sound c p words (is_true (valid_test c p words) (each (given_tests c p words) t).0)

    pub given_told : (p : ℕ) → T (every (given_tests c p words)) → LoopGiven c p words
    given_told p t = let v = valid_told p t in record { valid = v; once = once_told p v (each (given_tests c p words) t).1.0 }

    pub plain_given : T (every (given_tests c 0 words)) → T (plain_test c (links_of words)) → PlainLoop c words
    plain_given t s =
        let v = valid_told 0 t in
        let n = plain_told 0 v s in
        record {
          given = λ p. record { valid = valid_plain c 0 p words v n; once = once_told 0 v (each (given_tests c 0 words) t).1.0 };
          plain = λ p. n;
        }
