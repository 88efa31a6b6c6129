-- The rule's training and the training without an order table, held side by side. Assumes nothing.
use Prim.Native.Nat.{ℕ, ◌+◌, ◌*◌, ◌≤◌, ◌<◌}
use mathlib.Core.Bool.{Bool, true, false, ◌&&◌, beq}
use mathlib.Core.List.{List}
use mathlib.Core.Path.{◌≡◌}
use lib.Dec.{eqb}
use lib.Ieee.{Float, nan, inf, lt}
use lib.ListN.{length, get_or}
use Rattle.alpha.specs.Weight as Weight
use Rattle.kernel.specs.Row.{kernel_index, row_at, signed_of}
use Rattle.partner.specs.Sides.{may_rise, may_fall, fall}
use Rattle.rho.specs.Rho.{positive_in}
use Rattle.solver.specs.Run.{problem_of}
use Rattle.solver.specs.declared.Given.{Given}
use Rattle.state.specs.Fields.{gradient, alpha, bound}
use Rattle.state.specs.Lists.{state}
use Rattle.orderless.specs.Sheet.{Sheet, entry, sought}
use Rattle.orderless.proofs.Copies.{Copied}
use Rattle.orderless.proofs.Plain.{Steady}

module _ (g : Given) (m u y : List ℕ) (top : Bool → Float) where
  -- what no pass changes: every position holds its own sample, and an entry keeps its sign exactly where the labels agree
  pub record Lent (b : List Float) : Type 0 where
    pub index : (k : ℕ) → k < g.n → kernel_index g.n u k ≡ k
    pub rows : (i k : ℕ) → i < g.n → k < g.n → row_at g.kind g.side m g.n u y i k ≡ signed_of (beq (positive_in y i) (positive_in y k)) (entry g m i k)
    pub labels : (i k : ℕ) → i < g.n → k < g.n → eqb (get_or y i 0) (get_or y k 0) ≡ beq (positive_in y i) (positive_in y k)
    pub bounds : (k : ℕ) → k < g.n → bound b k ≡ top (positive_in y k)
    pub above : (t : Bool) → lt Weight.zero (top t) ≡ true

  -- term are the linear terms, f the floats of the rule's run, o the sheet
  pub record Mirrors (term : ℕ → Float) (f : List Float) (o : Sheet) : Type 0 where
    pub ups : (t : Bool) (k : ℕ) → k < g.n
        → Copied (sought g.nu t (positive_in y k) && may_rise (problem_of g m) (state f u y) k) (inf false) (fall (problem_of g m) (state f u y) k) (o.up t k)
    pub downs : (k : ℕ) → k < g.n → Copied (may_fall (problem_of g m) (state f u y) k) (inf true) (fall (problem_of g m) (state f u y) k) (o.down k)
    pub weights : (k : ℕ) → k < g.n → (alpha (problem_of g m) (state f u y) k).value ≡ o.weights k
    pub uppers : (k : ℕ) → k < g.n → (alpha (problem_of g m) (state f u y) k).upper ≡ top (positive_in y k)
    pub steady : (k : ℕ) → k < g.n → Steady (gradient (problem_of g m) (state f u y) k)
    pub diagonals : (k : ℕ) → k < g.n → get_or f (5 * g.n + k) nan ≡ entry g m k k
    pub terms : (k : ℕ) → k < g.n → get_or f (4 * g.n + k) nan ≡ term k
    pub long : 7 * g.n ≤ length f
