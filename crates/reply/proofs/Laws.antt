-- The reply by the calls of the code, and that it is the rule's answer. Assumes nothing.
--
-- Main theorems:
--   fit_answers: what the code replies is what the rule's fit answers, with both its readings
--   fit_still: what it replies is what the definition replies, from any scratch
use Prim.Native.Nat.{ℕ, ◌+◌, ◌*◌, ◌-◌, ◌≤◌}
use mathlib.Core.Bool.{Bool, true, false}
use mathlib.Core.List.{List, ◌++◌}
use mathlib.Core.Path.{◌≡◌, refl, sym, ap, ◌∙◌}
use native.Mathlib.Nat.{le_of_eq}
use native.Mathlib.Omega.{arith}
use borrow.Author.Tests.{leb-true, leb-false}
use lib.Dec.{leb}
use lib.Ieee.{Float, nan}
use lib.ListN.{length, get_or, take, drop}
use lib.Seq.{get_or-append-add, get_or-drop, length-take-le, length_front, ext_get_or}
use Rattle.alpha.specs.Weight as Weight
use Rattle.answer.specs.Answer.{finished_to, support_of, rho_of, obj_of, ratio_of, reason_of}
use Rattle.answer.specs.Lent.{Lent}
use Rattle.answer.specs.declared.Answer.{Answer}
use Rattle.answer.specs.declared.Finish.{Finish}
use Rattle.classification.specs.Entries.{fitted}
use Rattle.course.specs.Filled.{diagonal_in}
use Rattle.course.proofs.Laws.{length_diagonal, diagonal_other}
use Rattle.lists.specs.Filled.{filled_to}
use Rattle.lists.proofs.Later.{length_filled, filled_later}
use Rattle.lists.proofs.Prefix.{filled_at}
use Rattle.orderless.specs.End.{level_in, objective_in}
use Rattle.orderless.specs.Run.{spread, course, orderless}
use Rattle.orderless.specs.Sheet.{sized, read_in}
use Rattle.rho.specs.declared.Level.{Level}
use Rattle.sheet.specs.Ready.{SheetReady}
use Rattle.solver.specs.declared.Given.{Given}
use Rattle.still.specs.Answered.{Reply, Answers, weights_to, result_of, reply_of, fitted_still}
use Rattle.still.specs.Entries.{still_lent, StillWhole, still_whole, still_left}
use Rattle.still.proofs.Fitted.{ByLabel, length_weights, weights_at, two_fields, fitted_from, from_any}
use Rattle.still.proofs.Same.{room_nu}
use Rattle.std.specs.Prelude.{Result, Ok}
use Rattle.judge.specs.declared.Refusal.{Refusal}

module _ (g : Given) (how : Finish) (m l : List ℕ) (top : Bool → Float) (term : ℕ → Float) (budget : ℕ) where
  pub reply_by : (f h : List Float) (steps : ℕ) (going : Bool) (v : Level) (obj : Float) (h1 h2 : List Float) (a : Answer)
      → v ≡ level_in g m l top (read_in g.nu g.n f) → obj ≡ objective_in g m l top (read_in g.nu g.n f) term
      → h1 ≡ spread (λ k. get_or f (g.n + k) nan) h g.n → h2 ≡ finished_to how l v.r h1 g.n
      → a ≡ record { rho = rho_of how v; r = ratio_of g.nu v; obj = obj_of how v obj; iterations = steps; exit_reason = reason_of steps budget; support = support_of h2 g.n }
      → ◌≡◌ {A = Reply} (record { out = Ok a; result = h2 }) (reply_of g how m l top term budget (course f steps going) h)
  unfolding reply_of result_of
  reply_by f h steps going v obj h1 h2 a ev eo e1 e2 ea = rw (ea, e2, e1, eo, ev)

  -- labels l, ceilings c, start weights a, linear terms p, and f the lent scratch
  pub fit_answers : (c a p : List Float) (d : Lent) (f : List Float) → g.shrinking ≡ false → g.side ≡ g.n → ByLabel g l c p top term
      → 7 * g.n ≤ length d.floats → 2 * g.n ≤ length d.numbers → g.n ≤ length d.bytes → sized g.nu g.n ≤ length f
      → Answers (fitted g how m l c a p budget d)
      (reply_of g how m l top term budget (orderless g m l top term (diagonal_in g m (weights_to g.n a f g.n) g.n) budget)) d
  fit_answers c a p d f off square B lf lu ly room =
      let w = weights_to g.n a f g.n in
      fitted_from g how m l c a p top term budget d off square B lf lu ly (diagonal_in g m w g.n)
      (rw (length_diagonal g m w g.n, length_weights g.n a f g.n) room)
      (λ k K. diagonal_other g m w g.n (g.n + k) (omega arith) ∙ weights_at g.n a f k K (two_fields g.nu g.n (length f) room))

  pub fit_still : (c a p : List Float) (f f' h : List Float) → g.shrinking ≡ false → g.side ≡ g.n → ByLabel g l c p top term → sized g.nu g.n ≤ length f → sized g.nu g.n ≤ length f'
      → reply_of g how m l top term budget (orderless g m l top term (diagonal_in g m (weights_to g.n a f g.n) g.n) budget) h ≡ fitted_still g how m l top term a budget f' h
  fit_still c a p f f' h off square B room room' =
      let w = weights_to g.n a f g.n in
      from_any g how m l c a p top term budget (diagonal_in g m w g.n) f' h off square B
      (rw (length_diagonal g m w g.n, length_weights g.n a f g.n) room)
      (λ k K. diagonal_other g m w g.n (g.n + k) (omega arith) ∙ weights_at g.n a f k K (two_fields g.nu g.n (length f) room))
      room'

-- ---- the used scratch cleared

-- what stood in the first k places is gone, and what lies behind stays
filled_over : (z : Float) (k : ℕ) (x t : List Float) → length x ≡ k → k ≤ length t → filled_to z (x ++ drop k t) k ≡ filled_to z t k
filled_over z k x t e long =
    ext_get_or nan (filled_to z (x ++ drop k t) k) (filled_to z t k) (length_filled nan z (x ++ drop k t) k ∙ over ∙ sym (length_filled nan z t k)) (λ i b. go i (leb k i) refl)
  where
    over : length (x ++ drop k t) ≡ length t
    over = length_front t x k (e ∙ sym (length-take-le k t long))

    behind : (i j : ℕ) → i ≡ length x + j → get_or (x ++ drop k t) i nan ≡ get_or t i nan
    behind i j h =
        let q : k + j ≡ i = omega arith in
        ap (λ (a : ℕ). get_or (x ++ drop k t) a nan) h ∙ get_or-append-add x (drop k t) j nan ∙ get_or-drop k t j nan ∙ ap (λ (a : ℕ). get_or t a nan) q

    go : (i : ℕ) (b : Bool) → leb k i ≡ b → get_or (filled_to z (x ++ drop k t) k) i nan ≡ get_or (filled_to z t k) i nan
    go i true h =
        let K = leb-true k i h in
        filled_later nan z (x ++ drop k t) k i K ∙ behind i (i - k) (omega arith) ∙ sym (filled_later nan z t k i K)
    go i false h =
        let K = leb-false k i h in
        filled_at nan z (x ++ drop k t) k i (rw over long) (omega arith) ∙ sym (filled_at nan z t k i long (omega arith))

pub ready_taken : {g : Given} {m l : List ℕ} {f : List Float} → SheetReady g m l f → SheetReady g m l (take (5 * g.n) f)
ready_taken {g} {m} {l} {f} R = record { matrix = R.matrix; square = R.square; labels = R.labels; floats = le_of_eq (sym (length-take-le (5 * g.n) f R.floats)) }

pub cleared_by : (n : ℕ) (o : Result Answer Refusal) (h h0 f0 f1 f2 x : List Float) (y0 y2 : List ℕ) (r : Reply) → ◌≡◌ {A = Reply} (record { out = o; result = h }) r → f1 ≡ x ++ drop (5 * n) f0 → length x ≡ 5 * n → 5 * n ≤ length f0
    → f2 ≡ filled_to Weight.zero f1 (5 * n) → y2 ≡ filled_to 0 y0 n → ◌≡◌ {A = StillWhole} (still_whole o h f2 y2) (still_left n r (still_lent h0 f0 y0))
cleared_by n o h h0 f0 f1 f2 x y0 y2 r er e1 ex long e2 ey = rw (ey, e2, e1, filled_over Weight.zero (5 * n) x f0 ex long, ← er)

-- what the code answers and leaves is what an entry's definition answers and leaves, from the lent scratch
pub whole_still : (g : Given) (how : Finish) (m l : List ℕ) (c a p : List Float) (top : Bool → Float) (term : ℕ → Float) (budget : ℕ) (h f : List Float) (y : List ℕ) (w : StillWhole)
    → g.shrinking ≡ false → g.side ≡ g.n → ByLabel g l c p top term → 5 * g.n ≤ length f
    → w ≡ still_left g.n (reply_of g how m l top term budget (orderless g m l top term (diagonal_in g m (weights_to g.n a (take (5 * g.n) f) g.n) g.n) budget) h) (still_lent h f y)
    → w ≡ still_left g.n (fitted_still g how m l top term a budget f h) (still_lent h f y)
whole_still g how m l c a p top term budget h f y w off square B long x =
    x
    ∙ ap (λ (r : Reply). still_left g.n r (still_lent h f y))
    (fit_still g how m l top term budget c a p (take (5 * g.n) f) f h off square B (room_nu g.nu g.n _ (le_of_eq (sym (length-take-le (5 * g.n) f long)))) (room_nu g.nu g.n _ long))
