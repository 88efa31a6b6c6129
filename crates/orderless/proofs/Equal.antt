-- With shrinking off the training without an order table takes the same steps as the rule's, ends for the same reason, and leaves the same weights, gradients, rho, companion and objective. Assumes nothing.
use Prim.Native.Nat.{ℕ, ◌<◌}
use mathlib.Core.Bool.{Bool, false, cond}
use mathlib.Core.List.{List}
use mathlib.Core.Path.{◌≡◌}
use lib.Ieee.{Float}
use Rattle.modes.specs.Modes.{repaired}
use Rattle.rho.specs.Rho.{level_by}
use Rattle.solver.specs.End.{trained, objective_of}
use Rattle.solver.specs.Run.{problem_of, Full}
use Rattle.solver.specs.declared.Given.{Given}
use Rattle.solver.specs.declared.Status.TheVariants.{Going, Done}
use Rattle.state.specs.Fields.{gradient, alpha}
use Rattle.state.specs.Lists.{state}
use Rattle.orderless.specs.End.{level_in, objective_in}
use Rattle.orderless.specs.Run.{Course, orderless, opened}
use Rattle.orderless.specs.Sheet.{Sheet, read_in}
use Rattle.orderless.specs.Step.{slope}
use Rattle.orderless.proofs.Ends.{level_is, objective_is}
use Rattle.orderless.proofs.Relation.{Lent}
use Rattle.orderless.proofs.Runs.{Beside, trained_beside}
use Rattle.orderless.proofs.Starts.{Both, start_mirrors, start_long}
use Rattle.orderless.proofs.Stepped.{slope_is}

module _ (g : Given) (m u y : List ℕ) (top : Bool → Float) (b : List Float) (C : Lent g m u y top b) (term : ℕ → Float) (f l : List Float) (L : Both g m u y top b C term f l)
    (off : g.shrinking ≡ false) (budget : ℕ) where
  abbrev w : Full
  w = trained g m b budget (state f u y)

  abbrev v : Course
  v = orderless g m y top term l budget

  abbrev o : Sheet
  o = read_in g.nu g.n v.floats

  pub beside : Beside g m u y top b C term w v
  unfolding orderless
  beside = trained_beside g m u y top b C term off f (opened g m y top term l) (start_mirrors g m u y top b C term f l L) (start_long g m u y top b C term f l L) budget

  pub record Equal : Type 0 where
    pub iterations : w.run.iterations ≡ v.steps
    pub status : w.run.status ≡ cond v.going Going Done
    pub active : w.run.active ≡ g.n
    pub numbers : w.state.numbers ≡ u
    pub labels : w.state.labels ≡ y
    pub weights : (k : ℕ) → k < g.n → (alpha (problem_of g m) w.state k).value ≡ o.weights k
    pub gradients : (k : ℕ) → k < g.n → gradient (problem_of g m) w.state k ≡ slope g m y top o k
    pub level : level_by g.nu (repaired g.mode) g.n w.state.floats w.state.labels g.n ≡ level_in g m y top o
    pub objective : objective_of g.n w.state.floats ≡ objective_in g m y top o term

  pub equal : Equal
  equal =
      let B = beside in
      let M = B.mirrors in
      record {
        iterations = B.steps;
        status = B.status;
        active = B.active;
        numbers = rw B.state;
        labels = rw B.state;
        weights = λ k K. rw B.state (M.weights k K);
        gradients = λ k K. rw B.state (slope_is g m u y top b C term B.floats o M k K);
        level = rw B.state (level_is g m u y top b C term B.floats o M);
        objective = rw B.state (objective_is g m u y top b C term B.floats o M);
      }
