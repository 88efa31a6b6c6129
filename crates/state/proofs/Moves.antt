-- Laws of moving: where each place's content comes from. Assumes nothing.
use Prim.Native.Nat.{ℕ, zero, suc, ◌+◌, ◌*◌, ◌≤◌, ◌<◌}
use mathlib.Core.Bool.{cond}
use mathlib.Core.List.{List}
use mathlib.Core.Path.{◌≡◌, refl, sym, ap, ◌∙◌}
use native.Mathlib.Decide.{ℕ_discrete}
use native.Mathlib.Nat.{suc-mul, eq-or-lt_of_le, le_of_suc-le-suc, mul-le-mul_right}
use mathlib.Core.Logic.{inl, inr}
use native.Mathlib.Omega.{arith}
use borrow.Author.Tests.{eq-eqb, ne_eqb}
use lib.Dec.{eqb}
use lib.ListN.{length, get_or, set, length-set}
use lib.Seq.{get_or-set_same, get_or-set_other}
use Rattle.state.specs.Moving.{swapped, swapped_fields}

-- the place that place k's content comes from, where i and j are exchanged
unfoldable pub source : ℕ → ℕ → ℕ → ℕ
source i j k = cond (eqb k j) i (cond (eqb k i) j k)

-- ---- the three cases of a place
data Place (i j k : ℕ) : Type 0 where
  at_j : k ≡ j → source i j k ≡ i → Place i j k
  at_i : (k ≡ j → ⊥) → k ≡ i → source i j k ≡ j → Place i j k
  else_where : (k ≡ j → ⊥) → (k ≡ i → ⊥) → source i j k ≡ k → Place i j k

module _ (i j k : ℕ) where
  source_j : k ≡ j → source i j k ≡ i
  unfolding source
  source_j e = rw (eq-eqb k j e)

  source_i : (k ≡ j → ⊥) → k ≡ i → source i j k ≡ j
  unfolding source
  source_i e p = rw (ne_eqb k j e, eq-eqb k i p)

  source_else : (k ≡ j → ⊥) → (k ≡ i → ⊥) → source i j k ≡ k
  unfolding source
  source_else e p = rw (ne_eqb k j e, ne_eqb k i p)

  place : Place i j k
  place = go (ℕ_discrete k j) (ℕ_discrete k i)
    where
      go : Dec (k ≡ j) → Dec (k ≡ i) → Place i j k
      go (yes e) q = at_j e (source_j e)
      go (no e) (yes p) = at_i e p (source_i e p)
      go (no e) (no p) = else_where e p (source_else e p)

pub source_below : (n i j k : ℕ) → i < n → j < n → k < n → source i j k < n
source_below n i j k a b c = elim (place i j k) [ at_j e q ↦ rw q a | at_i e p q ↦ rw q b | else_where e p q ↦ rw q c ]

pub source_twice : (i j k : ℕ) → source i j (source i j k) ≡ k
source_twice i j k = elim (place i j k) [
  | at_j e q ↦ rw q (back_to_j e (place i j i))
  | at_i e p q ↦ rw q (back_to_i p (place i j j))
  | else_where e p q ↦ rw (q, q)
]
  where
    back_to_j : k ≡ j → Place i j i → source i j i ≡ k
    back_to_j e (at_j p q) = q ∙ p ∙ sym e
    back_to_j e (at_i p r q) = q ∙ sym e
    back_to_j e (else_where p r q) = absurd (r refl)

    back_to_i : k ≡ i → Place i j j → source i j j ≡ k
    back_to_i e (at_j p q) = q ∙ sym e
    back_to_i e (at_i p r q) = absurd (p refl)
    back_to_i e (else_where p r q) = absurd (p refl)

module _ {A : Type 0} (d : A) where
  pub length_swapped : (xs : List A) (i j : ℕ) → length (swapped d xs i j) ≡ length xs
  unfolding swapped
  length_swapped xs i j = simp length-set

  pub swapped_at : (xs : List A) (i j k : ℕ) → i < length xs → j < length xs → get_or (swapped d xs i j) k d ≡ get_or xs (source i j k) d
  unfolding swapped
  swapped_at xs i j k a b = elim (place i j k) [
    | at_j e q ↦ rw (q, e) (get_or-set_same (set xs i (get_or xs j d)) j (get_or xs i d) d (rw (length-set xs i (get_or xs j d)) b))
    | at_i e p q ↦ get_or-set_other (set xs i (get_or xs j d)) j k (get_or xs i d) d e ∙ rw (q, p) (get_or-set_same xs i (get_or xs j d) d a)
    | else_where e p q ↦ get_or-set_other (set xs i (get_or xs j d)) j k (get_or xs i d) d e ∙ get_or-set_other xs i k (get_or xs j d) d p ∙ rw q
  ]

  module _ (n : ℕ) (xs : List A) (i j : ℕ) where
    pub length_fields : (count : ℕ) → length (swapped_fields d n xs i j count) ≡ length xs
    unfolding swapped_fields
    length_fields zero = refl
    length_fields (suc f) = length_swapped (swapped_fields d n xs i j f) (f * n + i) (f * n + j) ∙ length_fields f

    module _ (a : i < n) (b : j < n) where
      -- behind the fields that are exchanged nothing changes
      pub fields_behind : (count k : ℕ) → count * n ≤ length xs → count * n ≤ k → get_or (swapped_fields d n xs i j count) k d ≡ get_or xs k d
      unfolding swapped_fields
      fields_behind zero k l h = refl
      fields_behind (suc f) k l h =
          let s = suc-mul f n in
          let e = length_fields f in
          swapped_at (swapped_fields d n xs i j f) (f * n + i) (f * n + j) k (omega arith) (omega arith)
          ∙ rw (far f k (omega arith)) (fields_behind f k (omega arith) (omega arith))
        where
          far : (f k : ℕ) → f * n + n ≤ k → source (f * n + i) (f * n + j) k ≡ k
          far f k g = elim (place (f * n + i) (f * n + j) k) [ at_j e q ↦ absurd (let z : ⊥ = omega arith in z) | at_i e p q ↦ absurd (let z : ⊥ = omega arith in z) | else_where e p q ↦ q ]

      -- in each of them position k has what position source k had
      pub fields_at : (count f k : ℕ) → count * n ≤ length xs → f < count → k < n → get_or (swapped_fields d n xs i j count) (f * n + k) d ≡ get_or xs (f * n + source i j k) d
      unfolding swapped_fields
      fields_at zero f k l h c = let z : ⊥ = omega arith in absurd z
      fields_at (suc g) f k l h c =
          let s = suc-mul g n in
          let e = length_fields g in
          swapped_at (swapped_fields d n xs i j g) (g * n + i) (g * n + j) (f * n + k) (omega arith) (omega arith)
          ∙ elim (eq-or-lt_of_le (le_of_suc-le-suc h)) [
            | inl q ↦ rw (q, here g k) (fields_behind g (g * n + source i j k) (omega arith) (omega arith))
            | inr q ↦ rw (before g f k q c) (fields_at g f k (omega arith) q c)
          ]
        where
          here : (g k : ℕ) → source (g * n + i) (g * n + j) (g * n + k) ≡ g * n + source i j k
          here g k = elim (place (g * n + i) (g * n + j) (g * n + k)) [
            | at_j e q ↦ q ∙ ap (λ (z : ℕ). g * n + z) (sym (source_j i j k (omega arith)))
            | at_i e p q ↦ q ∙ ap (λ (z : ℕ). g * n + z) (sym (source_i i j k (λ z. e (omega arith)) (omega arith)))
            | else_where e p q ↦ q ∙ ap (λ (z : ℕ). g * n + z) (sym (source_else i j k (λ z. e (omega arith)) (λ z. p (omega arith))))
          ]

          before : (g f k : ℕ) → f < g → k < n → source (g * n + i) (g * n + j) (f * n + k) ≡ f * n + k
          before g f k q c =
              let s = suc-mul f n in
              let m = mul-le-mul_right n q in
              source_else (g * n + i) (g * n + j) (f * n + k) (λ z. let y : ⊥ = omega arith in y) (λ z. let y : ⊥ = omega arith in y)
