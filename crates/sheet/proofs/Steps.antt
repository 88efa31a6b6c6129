-- One step by its parts: the pair, two changes, two puts and a shift. Assumes nothing.
use Prim.Native.Nat.{ℕ, ◌+◌}
use mathlib.Core.Bool.{Bool}
use mathlib.Core.List.{List}
use mathlib.Core.Path.{◌≡◌, refl}
use lib.Ieee.{Float, nan, binary64, add, sub, mul}
use lib.ListN.{get_or}
use Rattle.alpha.specs.Weight.{weight}
use Rattle.kernel.specs.Matrix.{entry_at}
use Rattle.kernel.specs.Row.{signed_of}
use Rattle.orderless.specs.Sheet.{read_in, own}
use Rattle.orderless.specs.Step.{put_in, shift_in, pair_for, change, steps_by, steps}
use Rattle.orderless.proofs.Labels.{shift_alike}
use Rattle.rho.specs.Rho.{positive_in}
use Rattle.solver.specs.declared.Given.{Given}
use Rattle.update.specs.declared.Pair.{Pair}

pub step_is : (g : Given) (m y : List ℕ) (top : Bool → Float) (f : List Float) (i j : ℕ) (q : Pair) (x z vi vj : Float) (f1 f2 f3 : List Float)
    → q ≡ pair_for g m y top (read_in g.nu g.n f) i j
    → x ≡ signed_of (positive_in y i) (sub binary64 q.i.value (get_or f (g.n + i) nan)) → z ≡ signed_of (positive_in y j) (sub binary64 q.j.value (get_or f (g.n + j) nan))
    → vi ≡ own y top (read_in g.nu g.n f) i → vj ≡ own y top (read_in g.nu g.n f) j
    → f1 ≡ put_in g.nu g.n f i (positive_in y i) (weight q.i.value (top (positive_in y i))) vi
    → f2 ≡ put_in g.nu g.n f1 j (positive_in y j) (weight q.j.value (top (positive_in y j))) vj
    → f3 ≡ shift_in g.nu g.n (λ k. add binary64 (mul binary64 (entry_at g.side m i k) x) (mul binary64 (entry_at g.side m j k) z)) f2 g.n
    → f3 ≡ steps g m y top f i j
unfolding steps_by change
step_is g m y top f i j q x z vi vj f1 f2 f3 hq hx hz hi hj h1 h2 h3 = rw (h3, h2, h1, hi, hj, hx, hz, hq) (shift_alike g.nu g.n _ _ _ (λ k. refl) g.n)
