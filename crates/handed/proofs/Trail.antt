-- Where a C function answers 0 with shrinking off: its bytes are the weights after as many passes as its budget has, and each of its iterations is a
-- step of the pair finder. Assumes nothing.
use Prim.Native.Nat.{ℕ}
use mathlib.Core.Bool.{false}
use mathlib.Core.List.{List}
use mathlib.Core.Path.{◌≡◌, refl, sym, ap, ◌∙◌}
use lib.Ieee.{binary64, to_bits}
use Rattle.alpha.specs.Weight.{floor}
use Rattle.altuliscia.specs.Functions.{general_host, c_host, nu_host, one_class_host}
use Rattle.answer.specs.Lent.{Whole}
use Rattle.hosted.specs.Hosted.{is_on, room, Handed}
use Rattle.promises.specs.Fit.{Fit}
use Rattle.promises.proofs.Home.{served_home}
use Rattle.promises.proofs.Trail.{run_begins, steps_begin, served_begins, served_weights, served_shown}
use Rattle.tuning.specs.Tuning.{plain_tuning}
use Rattle.handed.specs.Gives.{Gives}
use Rattle.handed.specs.Trail.{TrailedBytes}
use Rattle.handed.specs.Trains.{general_trains, c_trains, nu_trains, one_class_trains}
use Rattle.handed.proofs.Handed.{Ran, general_ran, general_gives, c_ran, c_gives, nu_ran, nu_gives, one_class_ran, one_class_gives}
use Rattle.handed.proofs.Threshold.{ran_iterations}

trailed : {k : Fit} {m cr h an : List ℕ} {budget : ℕ} {w : Whole} {o : Handed} → Ran k m cr h an budget w o → Gives k m budget o
    → k.given.shrinking ≡ false → k.given.floor ≡ floor → TrailedBytes k m budget o
trailed {k = k} {m = m} {budget = budget} r v off plain = record {
  begins = served_begins r.served off;
  weights = λ s h.
      v.home s h
      ∙ ap (to_bits binary64) (sym (served_home r.served r.out.answer r.out.accepted s h) ∙ served_weights r.served off r.out.answer r.out.accepted s h);
  steps = λ q h. served_shown r.served off plain q (rw (ran_iterations r).0 at h);
  runs_on = run_begins k m room budget;
  steps_on = steps_begin k m room budget;
}

pub general_called_trail : (n : ℕ) (m l c a p : List ℕ) (nurule eps shrinking budget : ℕ) (cr h an : List ℕ) → (general_host n m l c a p nurule eps shrinking budget cr h an).code ≡ 0
    → is_on shrinking ≡ false → TrailedBytes (general_trains plain_tuning n l c a p nurule eps shrinking) m budget (general_host n m l c a p nurule eps shrinking budget cr h an)
general_called_trail n m l c a p nurule eps shrinking budget cr h an z off =
    trailed (general_ran plain_tuning n m l c a p nurule eps shrinking budget cr h an z).2 (general_gives plain_tuning n m l c a p nurule eps shrinking budget cr h an z) off refl

pub c_called_trail : (n : ℕ) (m l : List ℕ) (cpos cneg eps shrinking budget : ℕ) (cr h an : List ℕ) → (c_host n m l cpos cneg eps shrinking budget cr h an).code ≡ 0
    → is_on shrinking ≡ false → TrailedBytes (c_trains plain_tuning n l cpos cneg eps shrinking) m budget (c_host n m l cpos cneg eps shrinking budget cr h an)
c_called_trail n m l cpos cneg eps shrinking budget cr h an z off =
    trailed (c_ran plain_tuning n m l cpos cneg eps shrinking budget cr h an z).2 (c_gives plain_tuning n m l cpos cneg eps shrinking budget cr h an z) off refl

pub nu_called_trail : (n : ℕ) (m l : List ℕ) (nu eps shrinking budget : ℕ) (cr h an : List ℕ) → (nu_host n m l nu eps shrinking budget cr h an).code ≡ 0
    → is_on shrinking ≡ false → TrailedBytes (nu_trains plain_tuning n l nu eps shrinking) m budget (nu_host n m l nu eps shrinking budget cr h an)
nu_called_trail n m l nu eps shrinking budget cr h an z off =
    trailed (nu_ran plain_tuning n m l nu eps shrinking budget cr h an z).2 (nu_gives plain_tuning n m l nu eps shrinking budget cr h an z) off refl

pub one_class_called_trail : (n : ℕ) (m : List ℕ) (nu eps shrinking budget : ℕ) (cr h an : List ℕ) → (one_class_host n m nu eps shrinking budget cr h an).code ≡ 0
    → is_on shrinking ≡ false → TrailedBytes (one_class_trains plain_tuning n nu eps shrinking) m budget (one_class_host n m nu eps shrinking budget cr h an)
one_class_called_trail n m nu eps shrinking budget cr h an z off =
    trailed (one_class_ran plain_tuning n m nu eps shrinking budget cr h an z).2 (one_class_gives plain_tuning n m nu eps shrinking budget cr h an z) off refl
