-- Small things of the leaves. Assumes nothing.
use Prim.Native.Nat.{ℕ, ◌*◌, ◌≤◌}
use mathlib.Core.Bool.{Bool, true, false, not, ◌&&◌, ◌||◌, beq, true≢false}
use mathlib.Core.Path.{◌≡◌, refl, sym}
use native.Mathlib.Omega.{arith}
use Rattle.orderless.specs.Sheet.{up_field, sought}

pub sought_is : (nu t pos x y : Bool) → x ≡ y → ((not nu || beq t pos) && x) ≡ (sought nu t pos && y)
sought_is true true true x y h = h
sought_is true true false x y h = refl
sought_is true false true x y h = refl
sought_is true false false x y h = h
sought_is false true pos x y h = h
sought_is false false pos x y h = h

pub behind_four : (nu : Bool) (n : ℕ) (t : Bool) → (nu && not t) ≡ true → (4 * n ≡ up_field nu n t) × (4 * n ≤ 4 * n)
behind_four true n true h = absurd (true≢false (sym h))
behind_four true n false h = (refl, omega arith)
behind_four false n t h = absurd (true≢false (sym h))

pub at_zero : (nu : Bool) (n : ℕ) (t : Bool) → (nu && not t) ≡ false → (0 ≡ up_field nu n t) × (0 ≤ 4 * n)
at_zero true n true h = (refl, omega arith)
at_zero true n false h = absurd (true≢false h)
at_zero false n t h = (refl, omega arith)
