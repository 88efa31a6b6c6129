-- A small upper half shows a good entry, and how the places of such a look add up. Assumes nothing.
use Prim.Native.Nat.{ℕ, ◌+◌, ◌*◌, ◌%◌, ◌≤◌, ◌<◌}
use mathlib.Core.Bool.{Bool, true, ◌&&◌}
use mathlib.Core.List.{List}
use mathlib.Core.Logic.{inl, inr}
use mathlib.Core.Path.{◌≡◌, ap}
use native.Mathlib.Nat.{eq-or-lt_of_le}
use native.Mathlib.Omega.{arith}
use lib.ListN.{get_or}
use Rattle.rounding.proofs.Order.{both}
use Rattle.wire.specs.Wire.{digits}
use Rattle.judge.specs.Judge.{entry_good}
use Rattle.judge.proofs.Bits.{small_pattern}

low : (b : List ℕ) → ((i : ℕ) → get_or b i 0 < 256) → (at : ℕ) → digits b (at + 4) 4 % 0x8000_0000 < 0x7dff_ffff → digits b at 8 % 0x8000_0000_0000_0000 < 126 * 0x100_0000_0000_0000
unfolding digits
low b s at h =
    let byte : (i j : ℕ) → i ≡ j → get_or b i 0 ≡ get_or b j 0 = λ i j e. ap (λ (k : ℕ). get_or b k 0) e in
    omega (
      arith,
      h,
      byte (at + 4 + 0) (at + 4) (omega arith),
      byte (at + 4 + 1) (at + 5) (omega arith),
      byte (at + 4 + 2) (at + 6) (omega arith),
      byte (at + 4 + 3) (at + 7) (omega arith),
      s (at + 0),
      s (at + 1),
      s (at + 2),
      s (at + 3),
      s (at + 4),
      s (at + 5),
      s (at + 6),
      s (at + 7),
    )

pub small_good : (b : List ℕ) → ((i : ℕ) → get_or b i 0 < 256) → (k : ℕ) → digits b (8 * k + 4) 4 % 0x8000_0000 < 0x7dff_ffff → entry_good b k ≡ true
unfolding entry_good
small_good b s k h = let p = small_pattern (digits b (8 * k) 8) (low b s (8 * k) h) in rw (p.0, p.1)

-- ---- places

-- each place below b
abbrev pub Each : (ℕ → Bool) → ℕ → Type 0
Each good b = (j : ℕ) → j < b → good j ≡ true

pub none : (good : ℕ → Bool) → Each good 0
none good j u = let z : ⊥ = omega arith in absurd z

-- s and t are looks at the places below k and at k
pub one_more : (good : ℕ → Bool) (k : ℕ) (s t : Bool) → (s ≡ true → Each good k) → (t ≡ true → good k ≡ true) → (s && t) ≡ true → Each good (k + 1)
one_more good k s t f g h j u =
    let p = both s t h in
    let l : j ≤ k = omega arith in
    elim (eq-or-lt_of_le l) [ inl e ↦ rw e (g p.1) | inr i ↦ f p.0 j i ]
