-- What `first` and `and_then` say, and what a loop over `first` leans on. Assumes nothing.
use Prim.Native.Nat.{ℕ, zero, suc, ◌+◌, ◌-◌, ◌≤◌, ◌<◌}
use mathlib.Core.Bool.{Bool, true, false, cond}
use mathlib.Core.Logic.{◌⊎◌, inl, inr}
use mathlib.Core.Path.{◌≡◌, refl}
use native.Mathlib.Nat.{eq-or-lt_of_le}
use native.Mathlib.Numerals.{add-one}
use native.Mathlib.Omega.{arith}
use Rattle.std.specs.Prelude.{⊤, Result, Ok, Err}
use Rattle.judge.specs.Judge.{first, need, and_then}

module _ {E : Type 0} where
  -- ---- one test

  passed : (b : Bool) (x : Result ⊤ E) (r : E) → cond b x (Err r) ≡ Ok tt → (b ≡ true) × (x ≡ Ok tt)
  passed true x r h = (refl, h)
  passed false x r h = let z : ⊥ = cc in absurd z

  pub need_fine : (r : E) (b : Bool) → need r b ≡ Ok tt → b ≡ true
  need_fine r b h = (passed b (Ok tt) r h).0

  stopped : (b : Bool) (x : Result ⊤ E) (r q : E) → cond b x (Err r) ≡ Err q → ((b ≡ true) × (x ≡ Err q)) ⊎ ((b ≡ false) × (q ≡ r))
  stopped true x r q h = inl (refl, h)
  stopped false x r q h = inr (refl, cc)

  -- ---- the first that isn't good

  pub first_fine : (k : ℕ → E) (good : ℕ → Bool) (m i : ℕ) → first k good m i ≡ Ok tt → (j : ℕ) → i ≤ j → j < i + m → good j ≡ true
  unfolding first
  first_fine k good zero i h j a b = let z : ⊥ = omega arith in absurd z
  first_fine k good (suc m) i h j a b =
      let p = passed (good i) (first k good m (suc i)) (k i) h in
      elim (eq-or-lt_of_le a) [
        | inl e ↦ rw (← e) p.0
        | inr g ↦ first_fine k good m (suc i) p.1 j g (omega arith)
      ]

  pub fine_first : (k : ℕ → E) (good : ℕ → Bool) (m i : ℕ) → ((j : ℕ) → i ≤ j → j < i + m → good j ≡ true) → first k good m i ≡ Ok tt
  unfolding first
  fine_first k good zero i h = refl
  fine_first k good (suc m) i h = rw (h i (omega arith) (omega arith)) (fine_first k good m (suc i) (λ j a b. h j (omega arith) (omega arith)))

  pub record Offends (k : ℕ → E) (good : ℕ → Bool) (m i : ℕ) (q : E) : Type 0 where
    pub at : ℕ
    pub refusal : q ≡ k at
    pub from : i ≤ at
    pub below : at < i + m
    pub bad : good at ≡ false
    pub before : (h : ℕ) → i ≤ h → h < at → good h ≡ true

  pub first_bad : (k : ℕ → E) (good : ℕ → Bool) (m i : ℕ) (q : E) → first k good m i ≡ Err q → Offends k good m i q
  unfolding first
  first_bad k good zero i q h = let z : ⊥ = cc in absurd z
  first_bad k good (suc m) i q h = elim (stopped (good i) (first k good m (suc i)) (k i) q h) [
    | inl p ↦
        let r = first_bad k good m (suc i) q p.1 in
        let f = r.from in
        let u = r.below in
        record {
          at = r.at;
          refusal = r.refusal;
          from = omega arith;
          below = omega arith;
          bad = r.bad;
          before = λ g a b. elim (eq-or-lt_of_le a) [ inl e ↦ rw (← e) p.0 | inr l ↦ r.before g l b ];
        }
    | inr p ↦
        record { at = i; refusal = p.1; from = omega arith; below = omega arith; bad = p.0; before = λ g a b. let z : ⊥ = omega arith in absurd z }
  ]

  -- ---- one after the other

  pub and_then_fine : (a b : Result ⊤ E) → and_then a b ≡ Ok tt → (a ≡ Ok tt) × (b ≡ Ok tt)
  unfolding and_then
  and_then_fine (Ok x) b h = (refl, h)
  and_then_fine (Err r) b h = let z : ⊥ = cc in absurd z

  pub fine_after : (a b : Result ⊤ E) → a ≡ Ok tt → b ≡ Ok tt → and_then a b ≡ Ok tt
  unfolding and_then
  fine_after a b h g = rw (h, g)

  -- a refusal is that of the earlier, or the earlier is fine
  pub after_bad : (a b : Result ⊤ E) (q : E) → and_then a b ≡ Err q → (a ≡ Err q) ⊎ ((a ≡ Ok tt) × (b ≡ Err q))
  unfolding and_then
  after_bad (Ok x) b q h = inr (refl, h)
  after_bad (Err r) b q h = inl h

  -- ---- for the code

  pub on : (k : ℕ → E) (good : ℕ → Bool) (n i : ℕ) → i < n → good i ≡ true → first k good (n - i) i ≡ first k good (n - (i + 1)) (i + 1)
  unfolding first
  on k good n i h g = let e : n - i ≡ suc (n - suc i) = omega arith in rw (e, add-one, g)

  pub stop : (k : ℕ → E) (good : ℕ → Bool) (n i : ℕ) → i < n → good i ≡ false → first k good (n - i) i ≡ Err (k i)
  unfolding first
  stop k good n i h g = let e : n - i ≡ suc (n - suc i) = omega arith in rw (e, g)

  pub done : (k : ℕ → E) (good : ℕ → Bool) (n i : ℕ) → n ≤ i → first k good (n - i) i ≡ Ok tt
  unfolding first
  done k good n i h = let e : n - i ≡ 0 = omega arith in rw e
