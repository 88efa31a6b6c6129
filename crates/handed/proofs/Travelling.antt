-- Where a C function answers 0 in the travelling mode, by the usual floor: each of its iterations clips by the ceilings that were lent for its two samples. Assumes nothing.
use Prim.Native.Nat.{ℕ, ◌<◌}
use mathlib.Core.List.{List}
use mathlib.Core.Path.{◌≡◌}
use Rattle.alpha.specs.Weight.{floor}
use Rattle.altuliscia.specs.Functions.{general_host_by, c_host_by}
use Rattle.hosted.specs.Hosted.{room}
use Rattle.modes.specs.declared.Mode.TheVariants.{Travelling}
use Rattle.promises.specs.Travelling.{OwnStep}
use Rattle.promises.proofs.Travelling.{served_own}
use Rattle.tuning.specs.declared.Tuning.{Tuning}
use Rattle.wire.specs.Wire.{digits}
use Rattle.handed.specs.Trains.{general_trains, c_trains}
use Rattle.handed.proofs.Handed.{general_ran, c_ran}
use Rattle.handed.proofs.Threshold.{ran_iterations}

module _ (tune : Tuning) (mode : tune.mode ≡ Travelling) (plain : tune.floor ≡ floor) where
  pub general_called_own : (n : ℕ) (m l c a p : List ℕ) (nurule eps shrinking budget : ℕ) (cr h an : List ℕ) → (general_host_by tune n m l c a p nurule eps shrinking budget cr h an).code ≡ 0
      → (q : ℕ) → q < digits (general_host_by tune n m l c a p nurule eps shrinking budget cr h an).answer 48 8 → OwnStep (general_trains tune n l c a p nurule eps shrinking) m room budget q
  general_called_own n m l c a p nurule eps shrinking budget cr h an z q less =
      let r = (general_ran tune n m l c a p nurule eps shrinking budget cr h an z).2 in served_own r.served mode q (rw (ran_iterations r).0 at less) plain

  pub c_called_own : (n : ℕ) (m l : List ℕ) (cpos cneg eps shrinking budget : ℕ) (cr h an : List ℕ) → (c_host_by tune n m l cpos cneg eps shrinking budget cr h an).code ≡ 0
      → (q : ℕ) → q < digits (c_host_by tune n m l cpos cneg eps shrinking budget cr h an).answer 48 8 → OwnStep (c_trains tune n l cpos cneg eps shrinking) m room budget q
  c_called_own n m l cpos cneg eps shrinking budget cr h an z q less =
      let r = (c_ran tune n m l cpos cneg eps shrinking budget cr h an z).2 in served_own r.served mode q (rw (ran_iterations r).0 at less) plain
