-- Where `altuliscia_c`, `altuliscia_nu` or `altuliscia_one_class` answers 0: what stays with a sample, and the box. Assumes nothing.
use Prim.Native.Nat.{ℕ, ◌<◌}
use mathlib.Core.List.{List}
use mathlib.Core.Path.{◌≡◌}
use lib.Ieee.{nan, binary64}
use lib.Ieee.Bits.{of_bits-fits}
use lib.ListN.{get_or}
use Rattle.std.specs.Prelude.{Some}
use Rattle.alpha.specs.Weight.{one, minus_one}
use Rattle.altuliscia.specs.Functions.{c_host_by, nu_host_by, one_class_host_by}
use Rattle.boxed.specs.Range.{In}
use Rattle.fits.specs.Starts.{nothing, evenly, all_positive, half, shared_to, one_class_to, cost_of}
use Rattle.hosted.specs.Hosted.{is_on, as_float, room}
use Rattle.promises.specs.Fit.{Fit, after, weight_after, pair_after, delta_after, steps_taken}
use Rattle.promises.proofs.Boxes.{c_box, c_no_nan, c_home_box, nu_box, nu_no_nan, nu_home_box, one_class_box, one_class_no_nan, one_class_home_box}
use Rattle.promises.proofs.Entries.{c_travels, nu_travels, one_class_travels, c_ceilings}
use Rattle.rounding.specs.Units.{NotNan}
use Rattle.travel.specs.Home.{last_left}
use Rattle.modes.specs.declared.Mode.TheVariants.{Travelling}
use Rattle.travel.specs.Travel.{Travelled, OwnCeilings}
use Rattle.tuning.specs.declared.Tuning.{Tuning}
use Rattle.handed.specs.Trains.{c_trains, nu_trains, one_class_trains}
use Rattle.handed.proofs.Handed.{c_called, nu_called, one_class_called}

-- ---- C

module _ (tune : Tuning) (n : ℕ) (m l : List ℕ) (cpos cneg eps shrinking budget : ℕ) (cr h an : List ℕ) (z : (c_host_by tune n m l cpos cneg eps shrinking budget cr h an).code ≡ 0) where
  pub c_called_travels : (t : ℕ) → Travelled n (λ s. get_or l s 0) (λ s. get_or (evenly minus_one n) s nan) (after (c_trains tune n l cpos cneg eps shrinking) m room t).state
  c_called_travels =
      let x = c_called tune n m l cpos cneg eps shrinking budget cr h an z in
      c_travels tune n m l (as_float cpos) (as_float cneg) (as_float eps) (is_on shrinking) budget room x.0 x.1

  -- where ceilings travel
  pub c_called_ceilings : tune.mode ≡ Travelling → (t : ℕ) → OwnCeilings n (λ s. cost_of (as_float cpos) (as_float cneg) (get_or l s 0)) (after (c_trains tune n l cpos cneg eps shrinking) m room t).state
  c_called_ceilings =
      let x = c_called tune n m l cpos cneg eps shrinking budget cr h an z in
      c_ceilings tune n m l (as_float cpos) (as_float cneg) (as_float eps) (is_on shrinking) budget room x.0 x.1

-- the box, where both costs are the same
module _ (tune : Tuning) (n : ℕ) (m l : List ℕ) (cost eps shrinking budget : ℕ) (cr h an : List ℕ) (z : (c_host_by tune n m l cost cost eps shrinking budget cr h an).code ≡ 0) where
  abbrev c_k : Fit
  c_k = c_trains tune n l cost cost eps shrinking

  pub c_called_box : (t i : ℕ) → i < n → In (as_float cost) (weight_after (c_trains tune n l cost cost eps shrinking) m room t i)
  c_called_box =
      let x = c_called tune n m l cost cost eps shrinking budget cr h an z in
      c_box tune n m l (as_float cost) (as_float eps) (is_on shrinking) budget room x.0 x.1 (of_bits-fits binary64 cost)

  pub c_called_no_nan : (t i j : ℕ) → pair_after (c_trains tune n l cost cost eps shrinking) m room t ≡ Some (i, j) → NotNan (delta_after (c_trains tune n l cost cost eps shrinking) m room t i j)
  c_called_no_nan =
      let x = c_called tune n m l cost cost eps shrinking budget cr h an z in
      c_no_nan tune n m l (as_float cost) (as_float eps) (is_on shrinking) budget room x.0 x.1 (of_bits-fits binary64 cost)

  pub c_called_home_box : (s : ℕ) → s < n → In (as_float cost) (last_left (steps_taken (c_trains tune n l cost cost eps shrinking) m room budget) s (get_or nothing s nan))
  c_called_home_box =
      let x = c_called tune n m l cost cost eps shrinking budget cr h an z in
      c_home_box tune n m l (as_float cost) (as_float eps) (is_on shrinking) budget room x.0 x.1 (of_bits-fits binary64 cost)

-- ---- nu

module _ (tune : Tuning) (n : ℕ) (m l : List ℕ) (nu eps shrinking budget : ℕ) (cr h an : List ℕ) (z : (nu_host_by tune n m l nu eps shrinking budget cr h an).code ≡ 0) where
  abbrev nu_k : Fit
  nu_k = nu_trains tune n l nu eps shrinking

  pub nu_called_travels : (t : ℕ) → Travelled n (λ s. get_or l s 0) (λ s. get_or nothing s nan) (after (nu_trains tune n l nu eps shrinking) m room t).state
  nu_called_travels =
      let x = nu_called tune n m l nu eps shrinking budget cr h an z in
      nu_travels tune n m l (as_float nu) (as_float eps) (is_on shrinking) budget room x.0 x.1

  pub nu_called_box : (t i : ℕ) → i < n → In one (weight_after (nu_trains tune n l nu eps shrinking) m room t i)
  nu_called_box =
      let x = nu_called tune n m l nu eps shrinking budget cr h an z in
      nu_box tune n m l (as_float nu) (as_float eps) (is_on shrinking) budget room x.0 x.1 (of_bits-fits binary64 nu)

  pub nu_called_no_nan : (t i j : ℕ) → pair_after (nu_trains tune n l nu eps shrinking) m room t ≡ Some (i, j) → NotNan (delta_after (nu_trains tune n l nu eps shrinking) m room t i j)
  nu_called_no_nan =
      let x = nu_called tune n m l nu eps shrinking budget cr h an z in
      nu_no_nan tune n m l (as_float nu) (as_float eps) (is_on shrinking) budget room x.0 x.1 (of_bits-fits binary64 nu)

  pub nu_called_home_box : (s : ℕ) → s < n → In one (last_left (steps_taken (nu_trains tune n l nu eps shrinking) m room budget) s (get_or (shared_to (half (as_float nu) n) l nothing n) s nan))
  nu_called_home_box =
      let x = nu_called tune n m l nu eps shrinking budget cr h an z in
      nu_home_box tune n m l (as_float nu) (as_float eps) (is_on shrinking) budget room x.0 x.1 (of_bits-fits binary64 nu)

-- ---- one-class

module _ (tune : Tuning) (n : ℕ) (m : List ℕ) (nu eps shrinking budget : ℕ) (cr h an : List ℕ) (z : (one_class_host_by tune n m nu eps shrinking budget cr h an).code ≡ 0) where
  abbrev one_class_k : Fit
  one_class_k = one_class_trains tune n nu eps shrinking

  pub one_class_called_travels : (t : ℕ) → Travelled n (λ s. get_or (all_positive n) s 0) (λ s. get_or nothing s nan) (after (one_class_trains tune n nu eps shrinking) m room t).state
  one_class_called_travels =
      let x = one_class_called tune n m nu eps shrinking budget cr h an z in
      one_class_travels tune n m (as_float nu) (as_float eps) (is_on shrinking) budget room x.0 x.1

  pub one_class_called_box : (t i : ℕ) → i < n → In one (weight_after (one_class_trains tune n nu eps shrinking) m room t i)
  one_class_called_box =
      let x = one_class_called tune n m nu eps shrinking budget cr h an z in
      one_class_box tune n m (as_float nu) (as_float eps) (is_on shrinking) budget room x.0 x.1 (of_bits-fits binary64 nu)

  pub one_class_called_no_nan : (t i j : ℕ) → pair_after (one_class_trains tune n nu eps shrinking) m room t ≡ Some (i, j) → NotNan (delta_after (one_class_trains tune n nu eps shrinking) m room t i j)
  one_class_called_no_nan =
      let x = one_class_called tune n m nu eps shrinking budget cr h an z in
      one_class_no_nan tune n m (as_float nu) (as_float eps) (is_on shrinking) budget room x.0 x.1 (of_bits-fits binary64 nu)

  pub one_class_called_home_box : (s : ℕ) → s < n → In one (last_left (steps_taken (one_class_trains tune n nu eps shrinking) m room budget) s (get_or (one_class_to (as_float nu) n nothing n) s nan))
  one_class_called_home_box =
      let x = one_class_called tune n m nu eps shrinking budget cr h an z in
      one_class_home_box tune n m (as_float nu) (as_float eps) (is_on shrinking) budget room x.0 x.1 (of_bits-fits binary64 nu)
