-- Which positions the loop over the extremes may pass over: a quick question, proved to be enough (proofs/Calm.antt).
use Rattle.std.specs.Prelude.{ℕ, suc, Bool, false, cond, not, ◌&&◌, ◌||◌, ◌≡◌, Float}
use Rattle.std.specs.Float.Ieee.{neg, le}
use Rattle.alpha.specs.Weight.{at_upper, at_lower}
use Rattle.alpha.specs.declared.Alpha.{Alpha}
use Rattle.state.specs.Lists.{Problem, State}
use Rattle.state.specs.Fields.{gradient, alpha, positive}

-- a weight that may grow brings neg g to up, one that may shrink brings g to low
unfoldable pub stirred : Float → Alpha → Float → Float → Bool
stirred g w up low = cond (at_lower w) (le up (neg g)) (le low g || (le up (neg g) && not (at_upper w)))

-- a rule's extremes are those that weighing the positions in order gives, and who doesn't stir changes none of them
pub record ExtremesLaws {E : Type 0} (among : Problem → State → ℕ → E) (weigh : E → ℕ → Bool → Float → Alpha → E)
    (stirs : E → Bool → Float → Alpha → Bool) : Type 0 where
  pub more : (p : Problem) (s : State) (k : ℕ) → weigh (among p s k) k (positive s k) (gradient p s k) (alpha p s k) ≡ among p s (suc k)
  pub calm : (e : E) (k : ℕ) (pos : Bool) (g : Float) (w : Alpha) → stirs e pos g w ≡ false → weigh e k pos g w ≡ e
