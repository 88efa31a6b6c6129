-- The pair and the stop of a run by the written rule alone (the rule, sections 'Pair choice' and 'Run'): over the first a positions of a state, of those that stand.
use Rattle.std.specs.Prelude.{ℕ, ◌<◌, Bool, true, false, List, ◌⊎◌, ◌≡◌, Float}
use Rattle.std.specs.Float.Ieee.{lt}
use Rattle.choose_c.specs.Rule.{RisesC, FallsC}
use Rattle.choose_nu.specs.Rule.{RisesNu, FallsNu}
use Rattle.extreme.specs.Rule.{everybody}
use Rattle.floats.specs.Helpers.{max_of}
use Rattle.partner.specs.Rule.{Pairs, NoSecond, Sum}
use Rattle.solver.specs.Pass.{refreshed, counted_down, passed, runs}
use Rattle.solver.specs.Run.{problem_of, Full, goes}
use Rattle.solver.specs.declared.Given.{Given}
use Rattle.state.specs.Lists.{State}

module _ (stands : ℕ → Bool) (g : Given) (m : List ℕ) (s : State) (a : ℕ) where
  -- who holds the greatest rise, and fall, of the label t; by the C rule both labels have one. The first flag says whether the nu rule holds
  abbrev pub Rises : Bool → Bool → ℕ → Type 0
  Rises true t = RisesNu stands (problem_of g m) s a t
  Rises false t = RisesC stands (problem_of g m) s a

  abbrev pub Falls : Bool → Bool → ℕ → Type 0
  Falls true t = FallsNu stands (problem_of g m) s a t
  Falls false t = FallsC stands (problem_of g m) s a

  -- of each label's extremes, added: whether they are below eps
  abbrev pub is_below : Bool → (Bool → Float) → Bool
  is_below true sum = lt (max_of (sum true) (sum false)) g.eps
  is_below false sum = lt (sum true) g.eps

  -- the sums of the extremes, and that they are below eps, or aren't
  pub record Level (nu below : Bool) : Type 0 where
    pub sums : Bool → Float
    pub each : (t : Bool) → Sum (problem_of g m) s (Rises nu t) (Falls nu t) (sums t)
    pub tells : is_below nu sums ≡ below

  -- i and j are the pair of the rule that holds
  pub record ByRule (i j : ℕ) : Type 0 where
    pub level : Level g.nu false
    pub pair : Pairs stands (problem_of g m) s g.floor a (Rises g.nu) i j

  -- the rule that holds stops: the extremes are below eps, or there is no second
  abbrev pub NoPair : Type 0
  NoPair = Level g.nu true ⊎ NoSecond stands (problem_of g m) s g.floor a (Rises g.nu)

module _ (g : Given) (m : List ℕ) where
  -- w over its active positions, with everybody standing
  abbrev pub PairIn : Full → ℕ → ℕ → Type 0
  PairIn w i j = ByRule everybody g m w.state w.run.active i j

  abbrev pub NoPairIn : Full → Type 0
  NoPairIn w = NoPair everybody g m w.state w.run.active

  -- v is counted down: there is no pair at either look
  pub record Stops (v : Full) : Type 0 where
    pub first : NoPairIn v
    pub second : NoPairIn (refreshed g m v)

  -- the run from w ended by itself: with a pass before the t-th that goes on after its walk, and stops
  pub record Ended (b : List Float) (w : Full) (t : ℕ) : Type 0 where
    pub pass : ℕ
    pub before : pass < t
    pub going : goes (runs g m b w pass).run.status ≡ true
    pub on : goes (counted_down g m (runs g m b w pass)).run.status ≡ true
    pub last : runs g m b w t ≡ passed g m b (runs g m b w pass)
    pub stops : Stops (counted_down g m (runs g m b w pass))
