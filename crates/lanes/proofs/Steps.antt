-- The loops' turns are the definitions'. Assumes nothing.
use Prim.Native.Nat.{ℕ, suc, ◌+◌, ◌-◌, ◌*◌, ◌/◌, ◌≤◌, ◌<◌}
use mathlib.Core.Bool.{Bool, true, false, cond}
use mathlib.Core.List.{List}
use mathlib.Core.Path.{◌≡◌, refl, sym, ap}
use native.Mathlib.Omega.{arith}
use borrow.Author.Count.{below_more}
use borrow.Author.Tests.{le-leb, lt-leb}
use lib.Ieee.{Float, nan, inf, binary64, div, of_bits, eq}
use lib.ListN.{length, get_or, set}
use lib.Seq.{get_or-set_same, get_or-set_other}
use Rattle.extreme.specs.Best.{at_most, held, best}
use Rattle.extreme.specs.Racing.{racing, below}
use Rattle.extreme.specs.declared.Race.{Race}
use Rattle.lanes.specs.Lanes.{least_of, least_from, least_to, least_in, least_by, begins, last_in, first_in}

pub infinity_is : div binary64 (of_bits binary64 0x3ff0_0000_0000_0000) (of_bits binary64 0) ≡ inf false
unfolding div of_bits
infinity_is = refl

-- one lane more is laid
pub laid_more : (z : List Float) (lane : ℕ → Float) (k : ℕ) → k < length z → ((j : ℕ) → j < k → get_or z j nan ≡ lane j)
    → (j : ℕ) → j < k + 1 → get_or (set z k (lane k)) j nan ≡ lane j
laid_more z lane k l all =
    below_more (λ j. get_or (set z k (lane k)) j nan ≡ lane j) k
    (λ j h. rw (get_or-set_other z k j (lane k) nan (omega arith)) (all j h))
    (get_or-set_same z k (lane k) nan l)

-- eight lanes have one least
pub least_same : (a b : ℕ → Float) → ((k : ℕ) → k < 8 → a k ≡ b k) → least_of a ≡ least_of b
least_same a b h =
    rw (h 0 (omega arith), h 1 (omega arith), h 2 (omega arith), h 3 (omega arith), h 4 (omega arith), h 5 (omega arith), h 6 (omega arith), h 7 (omega arith))

module _ (f : List Float) (t k : ℕ) (l : t ≤ k) where
  far : t + (k - t) ≡ k
  far = omega arith

  next : k + 1 - t ≡ suc (k - t)
  next = omega arith

  pub last_more : (v : Float) → last_in f v t (k + 1 - t) ≡ cond (eq (get_or f k nan) v) k (last_in f v t (k - t))
  unfolding last_in
  last_more v = rw (next, far)

pub first_more : (f : List Float) (v : Float) (d k e : ℕ) → 1 ≤ k → k ≤ e → first_in f v d (k - 1) (e - (k - 1)) ≡ cond (eq (get_or f (k - 1) nan) v) (k - 1) (first_in f v d k (e - k))
unfolding first_in
first_more f v d k e a b =
    let p : e - (k - 1) ≡ suc (e - k) = omega arith in
    let q : suc (k - 1) ≡ k = omega arith in
    rw (p, q)

-- ---- the sixteens raced

module _ (f : List Float) (o n : ℕ) where
  -- a whole one
  pub whole_is : (j : ℕ) → 16 * j + 16 ≤ n → least_in f o n j ≡ least_from f (o + 16 * j)
  whole_is j h = rw (le-leb (16 * j + 16) n h)

  -- one that isn't whole: what is left over of it
  pub rest_is : (j : ℕ) → n < 16 * j + 16 → least_in f o n j ≡ least_to f (o + 16 * j) (o + n - (o + 16 * j))
  rest_is j h =
      let e : o + n - (o + 16 * j) ≡ n - 16 * j = omega arith in
      rw (lt-leb (16 * j + 16) n h, e)

  module _ (j : ℕ) (nu : Bool) (v w : Float) (h : ℕ) (e : racing v h ≡ begins (least_by nu f o n j)) (q : least_in f o n j ≡ w) where
    weighed_is : least_by nu f o n (suc j) ≡ cond (cond nu below at_most v w) (held w j) (least_by nu f o n j)
    unfolding best
    weighed_is =
        rw q (ap (λ (x : Float). cond (cond nu below at_most x w) (held w j) (least_by nu f o n j)) (sym (ap (λ (r : Race). r.value) e)))

    pub turn_taken : cond nu below at_most v w ≡ true → racing w (16 * j) ≡ begins (least_by nu f o n (suc j))
    turn_taken y = rw (weighed_is, y)

    pub turn_kept : cond nu below at_most v w ≡ false → racing v h ≡ begins (least_by nu f o n (suc j))
    turn_kept y = rw (weighed_is, y) e
