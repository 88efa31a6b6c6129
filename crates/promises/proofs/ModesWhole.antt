-- The same with the sizes that are judged first: so whatever is lent, what is refused is refused alike. Of each entry. Assumes nothing.
use Prim.Native.Nat.{ℕ, ◌<◌}
use mathlib.Core.Bool.{Bool, true, false, ◌&&◌}
use mathlib.Core.List.{List}
use mathlib.Core.Logic.{◌⊎◌}
use mathlib.Core.Path.{◌≡◌, refl}
use lib.Dec.{eqb}
use lib.Ieee.{Float, nan}
use lib.ListN.{length, get_or}
use Rattle.answer.specs.Lent.{Lent, Whole}
use Rattle.classification.specs.Entries.{sizes_of, decided, general_tuned, fit_c_tuned, fit_nu_tuned, fit_one_class_tuned}
use Rattle.judge.specs.Sizes.{Room}
use Rattle.judge.proofs.Lengths.{room_of}
use Rattle.modes.specs.declared.Mode.TheVariants.{Crate, Travelling}
use Rattle.tuning.specs.Tuning.{tuned}
use Rattle.promises.proofs.Modes.{general_sized_modes, c_sized_modes, nu_sized_modes, one_class_sized_modes}
use Rattle.std.specs.Prelude.{⊤, Result, Ok, Err}
use Rattle.judge.specs.declared.Refusal.{Refusal}

decided_by : (j : Result ⊤ Refusal) (w v : Whole) (d : Lent) → (j ≡ Ok tt → w ≡ v) → decided j w d ≡ decided j v d
unfolding decided
decided_by (Ok x) w v d h = h refl
decided_by (Err refusal) w v d h = refl

room_in : (n : ℕ) (inputs : Bool) (m : List ℕ) (d : Lent) → sizes_of n inputs m d ≡ Ok tt
    → Room n (length m) (length d.crate) (length d.home) (length d.floats) (length d.numbers) (length d.bytes)
room_in n inputs m d h = room_of n inputs (length m) (length d.crate) (length d.home) (length d.floats) (length d.numbers) (length d.bytes) h

-- ---- the entries, under a floor x

module _ (x : Float) (n : ℕ) (m l : List ℕ) (eps : Float) (shrinking : Bool) (budget : ℕ) (d : Lent) where
  -- whatever is lent: what is refused is refused alike
  pub general_modes : (c a p : List Float) (nurule : Bool) (b : Float) → ((i : ℕ) → i < n → get_or c i nan ≡ b) ⊎ (shrinking ≡ false)
      → general_tuned (tuned x Travelling) n m l c a p nurule eps shrinking budget d ≡ general_tuned (tuned x Crate) n m l c a p nurule eps shrinking budget d
  unfolding general_tuned
  general_modes c a p nurule b h =
      decided_by (sizes_of n (eqb (length l) n && eqb (length c) n && eqb (length a) n && eqb (length p) n) m d) _ _ d
      (λ z. let r = room_in n _ m d z in general_sized_modes x n m l eps shrinking budget d r.floats r.most c a p nurule b h)

  pub c_modes : (cpos cneg : Float) → (cpos ≡ cneg) ⊎ (shrinking ≡ false)
      → fit_c_tuned (tuned x Travelling) n m l cpos cneg eps shrinking budget d ≡ fit_c_tuned (tuned x Crate) n m l cpos cneg eps shrinking budget d
  unfolding fit_c_tuned
  c_modes cpos cneg h = decided_by (sizes_of n (eqb (length l) n) m d) _ _ d (λ z. let r = room_in n _ m d z in c_sized_modes x n m l eps shrinking budget d r.floats r.most cpos cneg h)

  pub nu_modes : (nu : Float) → fit_nu_tuned (tuned x Travelling) n m l nu eps shrinking budget d ≡ fit_nu_tuned (tuned x Crate) n m l nu eps shrinking budget d
  unfolding fit_nu_tuned
  nu_modes nu = decided_by (sizes_of n (eqb (length l) n) m d) _ _ d (λ z. let r = room_in n _ m d z in nu_sized_modes x n m l eps shrinking budget d r.floats r.most nu)

  pub one_class_modes : (nu : Float) → fit_one_class_tuned (tuned x Travelling) n m nu eps shrinking budget d ≡ fit_one_class_tuned (tuned x Crate) n m nu eps shrinking budget d
  unfolding fit_one_class_tuned
  one_class_modes nu = decided_by (sizes_of n true m d) _ _ d (λ z. let r = room_in n _ m d z in one_class_sized_modes x n m l eps shrinking budget d r.floats r.most nu)
