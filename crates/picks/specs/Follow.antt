-- What the loop over the second asks of a first, read once; one turn of that loop; and who needs no turn. Only faster than the sheet's `partner`, and
-- proved to be it (proofs/Steps.antt, proofs/Bar.antt).
use Rattle.std.specs.Prelude.{ℕ, zero, suc, ◌+◌, ◌*◌, Bool, true, false, not, ◌&&◌, ◌||◌, cond, List, Float, get_or}
use Rattle.std.specs.Float.{nan, inf, binary64}
use Rattle.std.specs.Float.Ieee.{of_bits, neg, sub, mul, lt}
use Rattle.alpha.specs.Weight as Weight
use Rattle.extreme.specs.Best.{at_least, above, at_most, best}
use Rattle.extreme.specs.Racing.{racing}
use Rattle.extreme.specs.declared.Extreme.{Extreme}
use Rattle.extreme.specs.declared.Race.{Race}
use Rattle.kernel.specs.Curvature.{curved}
use Rattle.orderless.specs.Sheet.{entry, sought}
use Rattle.partner.specs.Curvature.{curvature, gain}
use Rattle.partner.specs.Second.{place_of}
use Rattle.rho.specs.Rho.{positive_in}
use Rattle.solver.specs.declared.Given.{Given}
use Rattle.picks.specs.declared.First.{First}

-- the greatest F that may fall, of what is sought for label t
abbrev pub deepest : Bool → ℕ → List ℕ → List Float → Bool → Float
deepest nu n y f t = (best (cond nu above at_least) (inf true) (λ k. sought nu t (positive_in y k)) (λ k. get_or f (3 * n + k) nan) n).value

module _ (g : Given) (m : List ℕ) where
  -- of an extreme; sample 0 stands for nobody, whom nobody follows
  abbrev pub first_of : Extreme → First
  first_of e = let i = place_of e.holder in record { value = e.value; at = i; diagonal = entry g m i i }

  -- what the pair of the first l and sample j would gain, which lies d above it
  abbrev pub gain_from : First → Float → ℕ → Float
  gain_from l d j = gain d (curvature g.floor l.diagonal (entry g m j j) (entry g m l.at j) true)

  -- sample j, whose copy is x, raced after the first l
  unfoldable pub raced_by : First → Float → ℕ → Race → Race
  raced_by l x j r =
      let d = sub binary64 x l.value in
      let v = gain_from l d j in
      cond (lt Weight.zero d && at_most r.value v) (racing v j) r

  -- the k samples from t on, whose copies stand in f, each after the first that lead says
  unfoldable pub raced_from : List Float → (ℕ → First) → Race → ℕ → ℕ → Race
  raced_from f lead r t zero = r
  raced_from f lead r t (suc k) = raced_by (lead (t + k)) (get_or f (3 * g.n + (t + k)) nan) (t + k) (raced_from f lead r t k)

-- the first of each sample's label
abbrev pub by_label : List ℕ → First → First → ℕ → First
by_label y p q j = cond (positive_in y j) p q

-- ---- who need not be raced

-- -0.999999999
abbrev pub nearly : Float
nearly = neg (of_bits binary64 0x3fefffffff768fa1)

-- some float above 0 and below the gain's magnitude, else 0
unfoldable pub bar_of : Float → Float
bar_of v = let x = mul binary64 v nearly in cond (lt Weight.zero x && lt x (neg v)) x Weight.zero

-- whether a sample may gain as much as the bar: its copy is x, its diagonal b, and e its entry with the first, of value v and diagonal a
unfoldable pub reaches_of : Float → Float → Float → Float → Float → Float → Bool
reaches_of x v a b e bar =
    let d = sub binary64 x v in
    lt Weight.zero d && not (lt (mul binary64 d d) (mul binary64 (curved true a b e) bar))

module _ (g : Given) (m : List ℕ) (f : List Float) (lead : ℕ → First) (bar : Float) where
  abbrev pub reaches_at : ℕ → Bool
  reaches_at j = reaches_of (get_or f (3 * g.n + j) nan) (lead j).value (lead j).diagonal (get_or f (2 * g.n + j) nan) (entry g m (lead j).at j) bar

  -- one of the k from t on
  unfoldable pub stirred_to : ℕ → ℕ → Bool
  stirred_to t zero = false
  stirred_to t (suc k) = stirred_to t k || reaches_at (t + k)
