-- Where ceilings travel, a C function hands back what it does where they don't, every byte: with one common ceiling, and with shrinking off. `.._tuned_is`
-- carries it over to the tuned functions. Assumes nothing.
use Prim.Native.Nat.{ℕ, ◌*◌, ◌≤◌, ◌<◌}
use mathlib.Core.Bool.{Bool, true, false}
use mathlib.Core.List.{List}
use mathlib.Core.Logic.{◌⊎◌}
use mathlib.Core.Path.{◌≡◌, ap}
use lib.Dec.{eqb}
use lib.Ieee.{Float, nan}
use lib.ListN.{length, get_or}
use Rattle.altuliscia.specs.Functions.{general_host_by, c_host_by, nu_host_by, one_class_host_by}
use Rattle.answer.specs.Lent.{Whole}
use Rattle.hosted.specs.Hosted.{is_on, as_float, floats_of, byte_sizes, general_inputs, room, delivered}
use Rattle.hosted.proofs.Serves.{serves}
use Rattle.modes.specs.declared.Mode.TheVariants.{Crate, Travelling}
use Rattle.promises.proofs.Modes.{general_sized_modes, c_sized_modes, nu_sized_modes, one_class_sized_modes}
use Rattle.tuning.specs.Tuning.{tuned}
use Rattle.handed.proofs.Handed.{room_fits}
use Rattle.handed.proofs.Retired.{hosted_same}
use Rattle.std.specs.Prelude.{Ok}

-- the room that a call brings suffices
room_for : (n : ℕ) (inputs : Bool) (m cr h an : List ℕ) → byte_sizes n inputs m cr h an ≡ Ok tt → (7 * n ≤ length room.floats) × (n ≤ 512)
room_for n inputs m cr h an z =
    let r = room_fits n (length m) (serves n inputs (length m) (length cr) (length h) (length an) z).room in
    (r.floats, r.most)

module _ (x : Float) (n : ℕ) (m l : List ℕ) (eps shrinking budget : ℕ) (cr h an : List ℕ) where
  -- c are the ceilings' bytes
  pub general_called_modes : (c a p : List ℕ) (nurule : ℕ) (b : Float) → ((i : ℕ) → i < n → get_or (floats_of c n) i nan ≡ b) ⊎ (is_on shrinking ≡ false)
      → general_host_by (tuned x Travelling) n m l c a p nurule eps shrinking budget cr h an ≡ general_host_by (tuned x Crate) n m l c a p nurule eps shrinking budget cr h an
  unfolding general_host_by
  general_called_modes c a p nurule b e =
      hosted_same (byte_sizes n (general_inputs n l c a p) m cr h an) _ _ cr h an
      (λ z. let r = room_for n (general_inputs n l c a p) m cr h an z in ap (λ (w : Whole). delivered n w cr h an)
      (general_sized_modes x n m l (as_float eps) (is_on shrinking) budget room r.0 r.1 (floats_of c n) (floats_of a n) (floats_of p n) (is_on nurule) b e))

  pub c_called_modes : (cpos cneg : ℕ) → (as_float cpos ≡ as_float cneg) ⊎ (is_on shrinking ≡ false)
      → c_host_by (tuned x Travelling) n m l cpos cneg eps shrinking budget cr h an ≡ c_host_by (tuned x Crate) n m l cpos cneg eps shrinking budget cr h an
  unfolding c_host_by
  c_called_modes cpos cneg e =
      hosted_same (byte_sizes n (eqb (length l) n) m cr h an) _ _ cr h an
      (λ z. let r = room_for n (eqb (length l) n) m cr h an z in ap (λ (w : Whole). delivered n w cr h an)
      (c_sized_modes x n m l (as_float eps) (is_on shrinking) budget room r.0 r.1 (as_float cpos) (as_float cneg) e))

  pub nu_called_modes : (nu : ℕ) → nu_host_by (tuned x Travelling) n m l nu eps shrinking budget cr h an ≡ nu_host_by (tuned x Crate) n m l nu eps shrinking budget cr h an
  unfolding nu_host_by
  nu_called_modes nu =
      hosted_same (byte_sizes n (eqb (length l) n) m cr h an) _ _ cr h an
      (λ z. let r = room_for n (eqb (length l) n) m cr h an z in ap (λ (w : Whole). delivered n w cr h an)
      (nu_sized_modes x n m l (as_float eps) (is_on shrinking) budget room r.0 r.1 (as_float nu)))

  pub one_class_called_modes : (nu : ℕ) → one_class_host_by (tuned x Travelling) n m nu eps shrinking budget cr h an ≡ one_class_host_by (tuned x Crate) n m nu eps shrinking budget cr h an
  unfolding one_class_host_by
  one_class_called_modes nu =
      hosted_same (byte_sizes n true m cr h an) _ _ cr h an
      (λ z. let r = room_for n true m cr h an z in ap (λ (w : Whole). delivered n w cr h an)
      (one_class_sized_modes x n m l (as_float eps) (is_on shrinking) budget room r.0 r.1 (as_float nu)))
