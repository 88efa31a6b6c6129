-- Every copy is a value of the format, from the start on and after each step. Assumes nothing.
use Prim.Native.Nat.{ℕ, zero, suc, ◌+◌, ◌*◌, ◌≤◌, ◌<◌}
use mathlib.Core.Bool.{Bool, true, false, ◌&&◌, cond}
use mathlib.Core.List.{List}
use mathlib.Core.Path.{sym, subst}
use native.Mathlib.Omega.{arith}
use lib.Dec.{T}
use lib.Ieee.{Float, nan, inf, binary64, fits, mul, eq}
use lib.Ieee.Fits.{inf-fits, add-fits}
use lib.ListN.{length, get_or}
use Rattle.alpha.specs.Weight as Weight
use Rattle.kernel.specs.Row.{signed_of}
use Rattle.partner.specs.Sides.{rises_of, falls_of}
use Rattle.rho.specs.Rho.{positive_in}
use Rattle.solver.specs.declared.Given.{Given}
use Rattle.orderless.specs.Run.{raised_to, brought_to, opened}
use Rattle.orderless.specs.Sheet.{up_field, sized, entry, sought}
use Rattle.orderless.specs.Step.{put_in, weight_to, steps_by, steps}
use Rattle.orderless.proofs.Laid.{length_put, shift_down, shift_up}
use Rattle.orderless.proofs.Starts.{spread_at, raised_to_at, length_brought, opened_down, opened_up, signed_fits, one_field}

abbrev Held : Float → Type 0
Held x = T (fits binary64 x)

-- open or closed
copy_fits : (c s : Bool) (v : Float) → Held v → Held (cond c v (inf s))
copy_fits true s v h = h
copy_fits false s v h = inf-fits binary64 s

-- ---- a step leaves sums

module _ (g : Given) (m y : List ℕ) (top : Bool → Float) (l : List Float) (long : sized g.nu g.n ≤ length l) (i j : ℕ) (I : i < g.n) (J : j < g.n) where
  room : (f : List Float) (k : ℕ) (K : k < g.n) (x : Float) (v : Float) → sized g.nu g.n ≤ length f
      → sized g.nu g.n ≤ length (put_in g.nu g.n f k (positive_in y k) (weight_to g m y top k x) v)
  room f k K x v h = rw (length_put g.n f k K (positive_in y k) (weight_to g m y top k x) v g.nu) h

  pub steps_up : (t : Bool) (k : ℕ) → k < g.n → Held (get_or (steps g m y top l i j) (up_field g.nu g.n t + k) nan)
  unfolding steps_by
  steps_up t k K = subst Held (sym (shift_up g.nu g.n _ _ (room _ j J _ _ (room l i I _ _ long)) t k K)) (add-fits binary64 _ _)

  pub steps_down : (k : ℕ) → k < g.n → Held (get_or (steps g m y top l i j) (3 * g.n + k) nan)
  unfolding steps_by
  steps_down k K = subst Held (sym (shift_down g.nu g.n _ _ (room _ j J _ _ (room l i I _ _ long)) k K)) (add-fits binary64 _ _)

-- ---- and the start, where every linear term is a value of the format

module _ (g : Given) (m y : List ℕ) (top : Bool → Float) (term : ℕ → Float) (l : List Float) (long : sized g.nu g.n ≤ length l) (held : (k : ℕ) → k < g.n → Held (term k)) where
  brought_fits : (i k : ℕ) → k < g.n → Held (get_or (brought_to g m y top term l i) k nan)
  unfolding brought_to
  brought_fits zero k K = subst Held (sym (spread_at (λ k. signed_of (positive_in y k) (term k)) l g.n k K (one_field g.nu g.n (length l) long))) (signed_fits (positive_in y k) (term k) (held k K))
  brought_fits (suc i) k K = go (eq (get_or f (g.n + i) nan) Weight.zero) (brought_fits i k K)
    where
      f : List Float
      f = brought_to g m y top term l i

      share : ℕ → Float
      share k = mul binary64 (signed_of (positive_in y i) (get_or f (g.n + i) nan)) (entry g m i k)

      go : (x : Bool) → Held (get_or f k nan) → Held (get_or (cond x f (raised_to share f g.n)) k nan)
      go true h = h
      go false h = subst Held (sym (raised_to_at share f g.n k K (rw (length_brought g m y top term l i) (one_field g.nu g.n (length l) long)))) (add-fits binary64 (get_or f k nan) (share k))

  abbrev F : List Float
  F = brought_to g m y top term l g.n

  F-long : sized g.nu g.n ≤ length F
  F-long = rw (length_brought g m y top term l g.n) long

  pub start_up : (t : Bool) (k : ℕ) → k < g.n → Held (get_or (opened g m y top term l) (up_field g.nu g.n t + k) nan)
  start_up t k K = subst Held (sym (opened_up g m y top F F-long t g.n (omega arith) k K)) (copy_fits (sought g.nu t (positive_in y k) && rises_of (positive_in y k) (weight_to g m y top k (get_or F (g.n + k) nan))) false (get_or F k nan) (brought_fits g.n k K))

  pub start_down : (k : ℕ) → k < g.n → Held (get_or (opened g m y top term l) (3 * g.n + k) nan)
  start_down k K = subst Held (sym (opened_down g m y top F F-long g.n (omega arith) k K)) (copy_fits (falls_of (positive_in y k) (weight_to g m y top k (get_or F (g.n + k) nan))) true (get_or F k nan) (brought_fits g.n k K))
