-- One step (the rule, section 'Without an order table'): the pair's new weights, its copies put anew, and all copies shifted.
use Rattle.std.specs.Prelude.{ℕ, zero, suc, ◌+◌, ◌*◌, Bool, true, false, ◌&&◌, cond, List, Float, get_or, set}
use Rattle.std.specs.Bool.{beq}
use Rattle.std.specs.Float.{nan, inf, binary64}
use Rattle.std.specs.Float.Ieee.{add, sub, mul}
use Rattle.alpha.specs.Weight.{weight}
use Rattle.alpha.specs.declared.Alpha.{Alpha}
use Rattle.kernel.specs.Row.{signed_of}
use Rattle.partner.specs.Sides.{rises_of, falls_of}
use Rattle.rho.specs.Rho.{positive_in}
use Rattle.solver.specs.declared.Given.{Given}
use Rattle.update.specs.Pair.{pair_of}
use Rattle.update.specs.declared.Pair.{Pair}
use Rattle.orderless.specs.Plain.{plain}
use Rattle.orderless.specs.Sheet.{Sheet, read_in, entry, sought, alpha_of, own}

-- ---- what the copies of a sample of label pos with the weight w hold, where F is f

abbrev pub up_put : Bool → Bool → Bool → Alpha → Float → Float
up_put nu t pos w f = cond (sought nu t pos && rises_of pos w) f (inf false)

abbrev pub down_put : Bool → Alpha → Float → Float
down_put pos w f = cond (falls_of pos w) f (inf true)

-- ---- in the lent floats

-- sample k, of label pos, takes the weight w; its F is v
unfoldable pub put_in : Bool → ℕ → List Float → ℕ → Bool → Alpha → Float → List Float
put_in nu n f k pos w v =
    let h = set (set (set f (n + k) w.value) (3 * n + k) (down_put pos w v)) k (up_put nu true pos w v) in
    cond nu (set h (4 * n + k) (up_put nu false pos w v)) h

-- x is added at one place
abbrev pub raised : List Float → ℕ → Float → List Float
raised f k x = set f k (add binary64 (get_or f k nan) x)

-- .. in each copy of sample k
unfoldable pub raised_in : Bool → ℕ → List Float → ℕ → Float → List Float
raised_in nu n f k x = let h = raised (raised f k x) (3 * n + k) x in cond nu (raised h (4 * n + k) x) h

-- .. and of each of the first samples, as d says
unfoldable pub shift_in : Bool → ℕ → (ℕ → Float) → List Float → ℕ → List Float
shift_in nu n d f zero = f
shift_in nu n d f (suc k) = raised_in nu n (shift_in nu n d f k) k (d k)

module _ (g : Given) (m y : List ℕ) (top : Bool → Float) where
  module _ (o : Sheet) where
    -- the gradient of sample k, of which a zero has no sign
    abbrev pub slope : ℕ → Float
    slope k = plain (signed_of (positive_in y k) (own y top o k))

    -- the two weights
    unfoldable pub pair_for : ℕ → ℕ → Pair
    pair_for i j =
        let agree = beq (positive_in y i) (positive_in y j) in
        pair_of (alpha_of y top o i) (alpha_of y top o j) (slope i) (slope j) (entry g m i i) (entry g m j j) (signed_of agree (entry g m i j)) agree g.floor

    -- what is added to F of sample k
    unfoldable pub change : ℕ → ℕ → Pair → ℕ → Float
    change i j q k =
        let x = signed_of (positive_in y i) (sub binary64 q.i.value (o.weights i)) in
        let z = signed_of (positive_in y j) (sub binary64 q.j.value (o.weights j)) in
        add binary64 (mul binary64 (entry g m i k) x) (mul binary64 (entry g m j k) z)

  -- sample k takes the value x
  abbrev pub weight_to : ℕ → Float → Alpha
  weight_to k x = weight x (top (positive_in y k))

  unfoldable pub steps_by : List Float → ℕ → ℕ → Pair → List Float
  steps_by f i j q =
      let o = read_in g.nu g.n f in
      let h = put_in g.nu g.n f i (positive_in y i) (weight_to i q.i.value) (own y top o i) in
      shift_in g.nu g.n (change o i j q) (put_in g.nu g.n h j (positive_in y j) (weight_to j q.j.value) (own y top o j)) g.n

  abbrev pub steps : List Float → ℕ → ℕ → List Float
  steps f i j = steps_by f i j (pair_for (read_in g.nu g.n f) i j)
