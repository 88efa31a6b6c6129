-- Two bests that weigh alike are one, and who holds one was eligible. Assumes nothing.
use Prim.Native.Nat.{ℕ, zero, suc, ◌<◌}
use mathlib.Core.Bool.{Bool, true, false, ◌&&◌, cond}
use mathlib.Core.Path.{◌≡◌, refl, sym, ap, ◌∙◌}
use native.Mathlib.Omega.{arith}
use lib.Ieee.{Float}
use Rattle.std.proofs.lemmas.Option.{none-some, same_Some}
use Rattle.std.specs.Prelude.{Option, Some}
use Rattle.extreme.specs.Best.{held, weighed, best}
use Rattle.extreme.specs.declared.Extreme.{Extreme}

module _ (takes : Float → Float → Bool) (start : Float) where
  -- each candidate weighs the same, whatever the best before it
  pub best_alike : (may may' : ℕ → Bool) (value value' : ℕ → Float) (a : ℕ)
      → ((k : ℕ) → k < a → (e : Extreme) → weighed takes (may k) k (value k) e ≡ weighed takes (may' k) k (value' k) e)
      → best takes start may value a ≡ best takes start may' value' a
  unfolding best
  best_alike may may' value value' zero h = refl
  best_alike may may' value value' (suc a) h =
      ap (weighed takes (may a) a (value a)) (best_alike may may' value value' a (λ k l. h k (omega arith)))
      ∙ h a (omega arith) (best takes start may' value' a)

  abbrev Eligible : (ℕ → Bool) → ℕ → Option ℕ → Type 0
  Eligible may a h = (i : ℕ) → h ≡ Some i → (i < a) × (may i ≡ true)

  -- the holder was eligible
  pub best_eligible : (may : ℕ → Bool) (value : ℕ → Float) (a i : ℕ) → (best takes start may value a).holder ≡ Some i → (i < a) × (may i ≡ true)
  unfolding best
  best_eligible may value zero i e = absurd (none-some i e)
  best_eligible may value (suc a) i e = go (may a) refl (takes b.value (value a)) (best_eligible may value a i) e
    where
      b : Extreme
      b = best takes start may value a

      go : (x : Bool) → may a ≡ x → (y : Bool) → (b.holder ≡ Some i → (i < a) × (may i ≡ true)) → (cond (x && y) (held (value a) a) b).holder ≡ Some i
          → (i < suc a) × (may i ≡ true)
      go true q true r z = let w = same_Some a i z in (omega arith, rw (sym w) q)
      go true q false r z = let t = r z in (omega (arith, t.0), t.1)
      go false q y r z = let t = r z in (omega (arith, t.0), t.1)

  -- over what stands: the same test there, and where it comes out true the same value
  pub over_alike : (stands may may' : ℕ → Bool) (value value' : ℕ → Float) (a : ℕ)
      → ((k : ℕ) → k < a → stands k ≡ true → (may k ≡ may' k) × (may k ≡ true → value k ≡ value' k))
      → best takes start (λ k. stands k && may k) value a ≡ best takes start (λ k. stands k && may' k) value' a
  over_alike stands may may' value value' a h =
      best_alike (λ k. stands k && may k) (λ k. stands k && may' k) value value' a (λ k l e. go k e (stands k) (may k) refl (h k l))
    where
      go : (k : ℕ) (e : Extreme) (x y : Bool) → may k ≡ y → (x ≡ true → (may k ≡ may' k) × (may k ≡ true → value k ≡ value' k))
          → weighed takes (x && may k) k (value k) e ≡ weighed takes (x && may' k) k (value' k) e
      go k e false y q z = refl
      go k e true true q z = rw ((z refl).1 q, (z refl).0)
      go k e true false q z = rw (sym (z refl).0, q)
