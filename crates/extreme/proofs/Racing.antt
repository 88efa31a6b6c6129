-- A race ends where the best does: its value is the best's but for the sign of a zero, its place is the holder. Assumes nothing.
use Prim.Native.Nat.{ℕ, ◌<◌}
use mathlib.Core.Bool.{Bool, true, false, not, ◌&&◌, cond}
use mathlib.Core.Path.{◌≡◌, refl, sym}
use native.Mathlib.Omega.{arith}
use borrow.Author.Tests.{lt-ltb, le-ltb}
use lib.Dec.{T, T_not, ltb, ltb→lt}
use lib.Ieee.{Float, inf, is_nan}
use Rattle.std.specs.Prelude.{Option, Some, None}
use Rattle.rounding.specs.Units.{NotNan}
use Rattle.rounding.proofs.Order.{holds, fails, le_real, lt→le, le_refl, le_trans, not_lt}
use Rattle.extreme.specs.Best.{nobody, held, at_most, weighed, Below}
use Rattle.extreme.specs.Racing.{racing, below, raced, found_in, place_in, race_of}
use Rattle.extreme.specs.declared.Extreme.{Extreme}
use Rattle.extreme.specs.declared.Race.{Race}

-- a test, its strict half, and where it starts
pub record Halves (strict takes : Float → Float → Bool) (start : Float) : Type 0 where
  pub through : (x y z : Float) → T (takes x y) → T (takes y z) → T (takes x z)
  pub itself : (x : Float) → NotNan x → T (takes x x)
  pub reals : (x y : Float) → T (takes x y) → NotNan x × NotNan y
  pub weak : (x y : Float) → T (strict x y) → T (takes x y)
  pub turn : (x y : Float) → T (takes x y) → T (not (strict x y)) → T (takes y x)
  pub real : NotNan start

pub least_halves : Halves below at_most (inf false)
unfolding is_nan
least_halves =
    record {
      through = λ x y z a b. le_trans z y x b a;
      itself = le_refl;
      reals = λ x y a. ((le_real y x a).1, (le_real y x a).0);
      weak = λ x y a. lt→le y x a;
      turn = λ x y a b. (not_lt y x (le_real y x a).0 (le_real y x a).1).0 b;
      real = tt;
    }

module _ {strict takes : Float → Float → Bool} {start : Float} (h : Halves strict takes start) where
  -- each takes the place of the other
  abbrev Near : Float → Float → Type 0
  Near x y = T (takes x y) × T (takes y x)

  same_test : (x y v : Float) → Near x y → takes x v ≡ takes y v
  same_test x y v n = go (takes x v) (takes y v) refl refl
    where
      go : (a b : Bool) → takes x v ≡ a → takes y v ≡ b → a ≡ b
      go true true p q = refl
      go false false p q = refl
      go true false p q = absurd (T_not (takes y v) ((fails (takes y v)).1 q) (h.through y x v n.1 ((holds (takes x v)).1 p)))
      go false true p q = absurd (T_not (takes x v) ((fails (takes x v)).1 p) (h.through x y v n.0 ((holds (takes y v)).1 q)))

  -- what took the place is near the value that is kept
  near_taken : (x v : Float) → T (takes x v) → (b : Bool) → strict x v ≡ b → Near (cond b v x) v
  near_taken x v t true p = let r = (h.reals x v t).1 in (h.itself v r, h.itself v r)
  near_taken x v t false p = (t, h.turn x v t ((fails (strict x v)).1 p))

  kept : (x v : Float) → takes x v ≡ false → (b : Bool) → strict x v ≡ b → cond b v x ≡ x
  kept x v f true p = absurd (T_not (takes x v) ((fails (takes x v)).1 f) (h.weak x v ((holds (strict x v)).1 p)))
  kept x v f false p = refl

  -- ---- a place of a or above stands for nobody

  pub record Tracks (a : ℕ) (r : Race) (e : Extreme) : Type 0 where
    pub value : Near r.value e.value
    pub holder : e.holder ≡ found_in a r.at

  pub tracks_start : (a : ℕ) → Tracks a (racing start a) (nobody start)
  tracks_start a = record { value = (h.itself start h.real, h.itself start h.real); holder = go (ltb a a) refl }
    where
      go : (b : Bool) → ltb a a ≡ b → None ≡ cond b (Some a) None
      go true p = let z : a < a = ltb→lt a a ((holds (ltb a a)).1 p) in absurd (omega arith)
      go false p = refl

  tracks_raced : (a k : ℕ) (v : Float) (r : Race) (e : Extreme) → k < a → Tracks a r e → (t : Bool) → takes r.value v ≡ t
      → Tracks a (racing (cond (strict r.value v) v r.value) (cond t k r.at)) (cond t (held v k) e)
  tracks_raced a k v r e l w true p =
      record { value = near_taken r.value v ((holds (takes r.value v)).1 p) (strict r.value v) refl; holder = rw (lt-ltb k a l) }
  tracks_raced a k v r e l w false p = rw (kept r.value v p (strict r.value v) refl) (record { value = w.value; holder = w.holder })

  pub tracks_weighed : (a k : ℕ) (v : Float) (r : Race) (e : Extreme) → k < a → Tracks a r e → (may : Bool)
      → Tracks a (cond may (raced strict takes k v r) r) (weighed takes may k v e)
  unfolding raced
  tracks_weighed a k v r e l w true = rw (sym (same_test r.value e.value v w.value)) (tracks_raced a k v r e l w (takes r.value v) refl)
  tracks_weighed a k v r e l w false = w

-- ---- an extreme as a race: one candidate more, and back

pub race_weighed : (takes : Float → Float → Bool) (a k : ℕ) (v : Float) (may : Bool) (e : Extreme)
    → racing (cond (may && takes e.value v) v e.value) (cond (may && takes e.value v) k (place_in a e.holder)) ≡ race_of a (weighed takes may k v e)
race_weighed takes a k v may e = go (may && takes e.value v)
  where
    go : (b : Bool) → racing (cond b v e.value) (cond b k (place_in a e.holder)) ≡ race_of a (cond b (held v k) e)
    go true = refl
    go false = refl

pub race_found : (a : ℕ) (h : Option ℕ) → Below a h → h ≡ found_in a (place_in a h)
race_found a (Some i) b = rw (lt-ltb i a (b i refl))
race_found a None b = rw (le-ltb a a (omega arith))
