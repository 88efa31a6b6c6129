-- Words that are stored one after the other, eight bytes each: what stands where. Assumes nothing.
use Prim.Native.Nat.{ℕ, zero, suc, ◌+◌, ◌*◌, ◌%◌, ◌^◌, ◌≤◌, ◌<◌}
use mathlib.Core.List.{List}
use mathlib.Core.Logic.{◌⊎◌, inl, inr}
use mathlib.Core.Path.{◌≡◌, refl, ap₂, ◌∙◌}
use native.Mathlib.Decide.{ℕ_discrete}
use native.Mathlib.Omega.{arith}
use lib.Ieee.{Float, nan, binary64, to_bits}
use lib.ListN.{length, get_or}
use Rattle.hosted.specs.Hosted.{stored_to, words_to, zeroed_to, padded}
use Rattle.promises.specs.Leaves.{Beyond}
use Rattle.votes.specs.Entry.{votes_laid}
use Rattle.wire.specs.Wire.{digits, with_digits}
use Rattle.wire.proofs.Back.{length_with_digits, with_digits_other, digits_back}

-- the same bytes hold the same number
digits_same : (b c : List ℕ) (at k : ℕ) → ((j : ℕ) → j < k → get_or b (at + j) 0 ≡ get_or c (at + j) 0) → digits b at k ≡ digits c at k
unfolding digits
digits_same b c at zero h = refl
digits_same b c at (suc k) h = ap₂ (λ (x y : ℕ). x + y * 256 ^ k) (digits_same b c at k (λ j l. h j (omega arith))) (h k (omega arith))

-- to k is the list after the first k words from byte `from` on: each step writes word k, at p k, with v k
module _ (to : ℕ → List ℕ) (from : ℕ) (p : ℕ → ℕ) (place : (k : ℕ) → p k ≡ from + 8 * k) (v : ℕ → ℕ) (step : (k : ℕ) → to (suc k) ≡ with_digits (to k) (p k) (v k) 8) where
  words_length : (k : ℕ) → length (to k) ≡ length (to 0)
  words_length zero = refl
  words_length (suc k) = rw (step k) (length_with_digits (to k) (p k) (v k) 8 ∙ words_length k)

  words_other : (k j : ℕ) → (j < from) ⊎ (from + 8 * k ≤ j) → get_or (to k) j 0 ≡ get_or (to 0) j 0
  words_other zero j h = refl
  words_other (suc k) j h = rw (step k) (with_digits_other (to k) (p k) (v k) 8 j (λ i l e. apart h i l e) ∙ words_other k j (nearer h))
    where
      apart : (j < from) ⊎ (from + 8 * suc k ≤ j) → (i : ℕ) → i < 8 → j ≡ p k + i → ⊥
      apart (inl x) i l e = omega (arith, place k)
      apart (inr x) i l e = omega (arith, place k)

      nearer : (j < from) ⊎ (from + 8 * suc k ≤ j) → (j < from) ⊎ (from + 8 * k ≤ j)
      nearer (inl x) = inl x
      nearer (inr x) = inr (omega arith)

  words_at : (k s : ℕ) → from + 8 * k ≤ length (to 0) → s < k → digits (to k) (p s) 8 ≡ v s % 256 ^ 8
  words_at zero s l h = absurd (omega arith)
  words_at (suc k) s l h = rw (step k) (go (words_at k s (omega arith)) (ℕ_discrete s k))
    where
      go : (s < k → digits (to k) (p s) 8 ≡ v s % 256 ^ 8) → Dec (s ≡ k) → digits (with_digits (to k) (p k) (v k) 8) (p s) 8 ≡ v s % 256 ^ 8
      go before (yes e) = rw e (digits_back (to k) (p k) (v k) 8 (rw (words_length k) (omega (arith, place k))))
      go before (no e) =
          digits_same (with_digits (to k) (p k) (v k) 8) (to k) (p s) 8 (λ j g. with_digits_other (to k) (p k) (v k) 8 (p s + j) (λ i f q. e (omega (arith, place k, place s))))
          ∙ before (omega arith)

eights : (k : ℕ) → 8 * k ≡ 0 + 8 * k
eights k = omega arith

module _ (d : List Float) (b : List ℕ) where
  pub stored_at : (k s : ℕ) → 8 * k ≤ length b → s < k → digits (stored_to d b k) (8 * s) 8 ≡ to_bits binary64 (get_or d s nan) % 256 ^ 8
  unfolding stored_to
  stored_at k s l h = words_at (stored_to d b) 0 (λ k. 8 * k) eights (λ k. to_bits binary64 (get_or d k nan)) (λ k. refl) k s (omega arith) h

  pub stored_beyond : (k : ℕ) → Beyond 0 (8 * k) b (stored_to d b k)
  unfolding stored_to
  stored_beyond k =
      let v : ℕ → ℕ = λ i. to_bits binary64 (get_or d i nan) in
      record { long = words_length (stored_to d b) 0 (λ i. 8 * i) eights v (λ i. refl) k; at = λ j h. words_other (stored_to d b) 0 (λ i. 8 * i) eights v (λ i. refl) k j (inr (omega arith)) }

module _ (w b : List ℕ) where
  pub word_at : (k s : ℕ) → 8 * k ≤ length b → s < k → digits (words_to w b k) (8 * s) 8 ≡ get_or w s 0 % 256 ^ 8
  unfolding words_to
  word_at k s l h = words_at (words_to w b) 0 (λ k. 8 * k) eights (λ k. get_or w k 0) (λ k. refl) k s (omega arith) h

  pub words_beyond : (k : ℕ) → Beyond 0 (8 * k) b (words_to w b k)
  unfolding words_to
  words_beyond k =
      let v : ℕ → ℕ = λ i. get_or w i 0 in
      record { long = words_length (words_to w b) 0 (λ i. 8 * i) eights v (λ i. refl) k; at = λ j h. words_other (words_to w b) 0 (λ i. 8 * i) eights v (λ i. refl) k j (inr (omega arith)) }

module _ (v : ℕ → ℕ) (b : List ℕ) where
  pub vote_at : (k s : ℕ) → 8 * k ≤ length b → s < k → digits (votes_laid v b k) (8 * s) 8 ≡ v s % 256 ^ 8
  unfolding votes_laid
  vote_at k s l h = words_at (votes_laid v b) 0 (λ k. 8 * k) eights v (λ k. refl) k s (omega arith) h

  pub votes_long : (k : ℕ) → length (votes_laid v b k) ≡ length b
  unfolding votes_laid
  votes_long k = words_length (votes_laid v b) 0 (λ k. 8 * k) eights v (λ k. refl) k

-- ---- the seven words behind an answer of nine

module _ (b : List ℕ) where
  abbrev behind : ℕ → ℕ
  behind k = 72 + 8 * k

  pub padded_word : (s : ℕ) → 128 ≤ length b → s < 7 → digits (padded b) (72 + 8 * s) 8 ≡ 0
  unfolding zeroed_to
  padded_word s l h = words_at (zeroed_to b) 72 behind (λ k. refl) (λ k. 0) (λ k. refl) 7 s l h

  pub padded_first : (at k : ℕ) → at + k ≤ 72 → digits (padded b) at k ≡ digits b at k
  unfolding zeroed_to
  padded_first at k l = digits_same (padded b) b at k (λ j h. words_other (zeroed_to b) 72 behind (λ k. refl) (λ k. 0) (λ k. refl) 7 (at + j) (inl (omega arith)))

  pub padded_beyond : Beyond 0 128 b (padded b)
  unfolding zeroed_to
  padded_beyond = record {
    long = words_length (zeroed_to b) 72 behind (λ k. refl) (λ k. 0) (λ k. refl) 7;
    at = λ j h. words_other (zeroed_to b) 72 behind (λ k. refl) (λ k. 0) (λ k. refl) 7 j (inr h);
  }
