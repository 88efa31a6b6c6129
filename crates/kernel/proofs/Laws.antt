-- Laws of a row, for callers. Assumes nothing.
use Prim.Native.Nat.{ℕ}
use mathlib.Core.Bool.{Bool, true, false, cond, beq}
use mathlib.Core.List.{List}
use mathlib.Core.Path.{◌≡◌, refl, ap, sym, ◌∙◌}
use borrow.Author.Tests.{eq-eqb}
use lib.Ieee.{Float, binary64, neg, add, sub, mul}
use lib.ListN.{get_or}
use Rattle.alpha.specs.Weight.{two}
use Rattle.rounding.proofs.Order.{neg_neg}
use Rattle.rounding.proofs.Products.{mul_neg, mul_neg_right}
use Rattle.kernel.specs.Curvature.{curved}
use Rattle.kernel.specs.Matrix.{entry_at}
use Rattle.kernel.specs.Row.{kernel_index, alike_of, signed_of, row_at}
use Rattle.kernel.specs.declared.Kind.{Kind}
use Rattle.kernel.specs.declared.Kind.TheVariants.{TwoClass, OneClass}

alike_itself : (kind : Kind) (a : ℕ) → alike_of kind a a ≡ true
alike_itself TwoClass a = eq-eqb a a refl
alike_itself OneClass a = refl

module _ (kind : Kind) (side : ℕ) (m : List ℕ) (n : ℕ) (u y : List ℕ) (i : ℕ) where
  -- the diagonal is never negated
  pub row_diagonal : row_at kind side m n u y i i ≡ entry_at side m (kernel_index n u i) (kernel_index n u i)
  unfolding row_at
  row_diagonal = rw (alike_itself kind (get_or y i 0))

-- ---- the sign of an entry goes through its product, and through its curvature

-- to what it is multiplied by, bit for bit
pub sign_moves : (alike : Bool) (x t : Float) → mul binary64 x (signed_of alike t) ≡ mul binary64 (signed_of alike x) t
sign_moves true x t = refl
sign_moves false x t = mul_neg_right binary64 x t ∙ sym (mul_neg binary64 x t)

-- twice the entry taken away is its product with -2 added, bit for bit
pub curved_once : (agree : Bool) (di dj x : Float) → add binary64 (add binary64 di dj) (mul binary64 (cond agree (neg two) two) x) ≡ curved agree di dj x
unfolding curved sub
curved_once true di dj x = ap (add binary64 (add binary64 di dj)) (mul_neg binary64 two x)
curved_once false di dj x = refl

-- a negated entry is taken away where it would be added, and added where it would be taken away, bit for bit
pub curved_signed : (agree alike : Bool) (di dj x : Float) → curved agree di dj (signed_of alike x) ≡ curved (beq agree alike) di dj x
unfolding curved sub
curved_signed true true di dj x = refl
curved_signed false true di dj x = refl
curved_signed true false di dj x =
    let t = mul binary64 two x in
    ap (add binary64 (add binary64 di dj)) (ap neg (mul_neg_right binary64 two x) ∙ neg_neg t)
curved_signed false false di dj x = ap (add binary64 (add binary64 di dj)) (mul_neg_right binary64 two x)
