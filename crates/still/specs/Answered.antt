-- What a training without an order table answers (the rule, section 'Without an order table'). It has one reading: nothing moves, so the two are the same.
use Rattle.std.specs.Prelude.{ℕ, zero, suc, ◌+◌, Bool, List, ◌≡◌, Float, get_or, set, Result, Ok}
use Rattle.std.specs.Float.{nan}
use Rattle.answer.specs.Answer.{finished_to, support_of, rho_of, obj_of, ratio_of, reason_of}
use Rattle.answer.specs.Lent.{Lent, Whole}
use Rattle.answer.specs.declared.Answer.{Answer}
use Rattle.answer.specs.declared.Finish.{Finish}
use Rattle.orderless.specs.End.{level_in, objective_in}
use Rattle.orderless.specs.Run.{spread, Course, orderless}
use Rattle.orderless.specs.Sheet.{Sheet, read_in}
use Rattle.rho.specs.declared.Level.{Level}
use Rattle.solver.specs.declared.Given.{Given}
use Rattle.judge.specs.declared.Refusal.{Refusal}

-- an outcome, with what the result list holds then
pub record Reply : Type 0 where
  pub out : Result Answer Refusal
  pub result : List Float

-- w is a fit of the rule over the lists d, and t says what the other replies with a result list
pub record Answers (w : Whole) (t : List Float → Reply) (d : Lent) : Type 0 where
  pub out : w.out ≡ (t d.home).out
  pub home : w.left.home ≡ (t d.home).result
  pub crate : w.left.crate ≡ (t d.crate).result

-- the start weights a into their field
unfoldable pub weights_to : ℕ → List Float → List Float → ℕ → List Float
weights_to n a f zero = f
weights_to n a f (suc k) = set (weights_to n a f k) (n + k) (get_or a k nan)

-- l are the labels, top the ceiling of each label, term the linear terms
module _ (g : Given) (how : Finish) (m l : List ℕ) (top : Bool → Float) (term : ℕ → Float) where
  -- the coefficients, in the first places of h
  unfoldable pub result_of : Sheet → Level → List Float → List Float
  result_of o v h = finished_to how l v.r (spread o.weights h g.n) g.n

  abbrev pub answer_in : ℕ → ℕ → Sheet → Level → List Float → Answer
  answer_in budget steps o v result = record {
    rho = rho_of how v;
    r = ratio_of g.nu v;
    obj = obj_of how v (objective_in g m l top o term);
    iterations = steps;
    exit_reason = reason_of steps budget;
    support = support_of result g.n;
  }

  -- of the run c, in the result list h
  unfoldable pub reply_of : ℕ → Course → List Float → Reply
  reply_of budget c h =
      let o = read_in g.nu g.n c.floats in
      let v = level_in g m l top o in
      let result = result_of o v h in
      record { out = Ok (answer_in budget c.steps o v result); result = result }

  -- start weights a, scratch f, result list h
  unfoldable pub fitted_still : List Float → ℕ → List Float → List Float → Reply
  fitted_still a budget f h = reply_of budget (orderless g m l top term (weights_to g.n a f g.n) budget) h
