-- `same_below` says true exactly where the two are the same at every place. Assumes nothing.
use Prim.Native.Nat.{ℕ, zero, suc, ◌<◌, ◌+◌}
use mathlib.Core.Bool.{Bool, true, false, ◌&&◌}
use mathlib.Core.Path.{◌≡◌, refl, ◌∙◌}
use native.Mathlib.Omega.{arith}
use borrow.Author.Tests.{eqb-true, eqb-false, eq-eqb}
use lib.Dec.{eqb}
use Rattle.rounding.proofs.Order.{both}
use denote.Param.Members.{Mut}
use Rattle.std.specs.declared.ops.Range.{Range}
use Rattle.std.specs.declared.option.Option.{Option}
use mathlib.Core.List.{List}
use Rattle.std.proofs.Common.{add-one}
use Rattle.std.proofs.iter.Yields.{nat_range_steps}
use Rattle.std.proofs.lemmas.Iterator.{YieldsList-from_range}
use Rattle.std.proofs.lemmas.Iterator.Search.{all_from_yields_List}
use Rattle.std.specs.Fn.{Called}
use Rattle.std.specs.Iterator.{YieldsThen}
use Rattle.std.specs.List.{list_all, range_with_len, FoldsTo}
use Rattle.std.specs.Option.{MatchOption}
use Rattle.recorded.specs.Agree.{same_below}

pub everywhere : (x y : ℕ → ℕ) (m : ℕ) → same_below x y m ≡ true → (k : ℕ) → k < m → x k ≡ y k
unfolding same_below
everywhere x y zero h k l = let z : ⊥ = omega arith in absurd z
everywhere x y (suc m) h k l = go (eqb k m) refl (everywhere x y m (both (same_below x y m) (eqb (x m) (y m)) h).0 k)
  where
    go : (t : Bool) → eqb k m ≡ t → (k < m → x k ≡ y k) → x k ≡ y k
    go true e f = let q : k ≡ m = eqb-true k m e in rw q (eqb-true (x m) (y m) (both (same_below x y m) (eqb (x m) (y m)) h).1)
    go false e f = let q : (k ≡ m → ⊥) = eqb-false k m e in f (omega (arith, q))

pub throughout : (x y : ℕ → ℕ) (m : ℕ) → ((k : ℕ) → k < m → x k ≡ y k) → same_below x y m ≡ true
unfolding same_below
throughout x y zero f = refl
throughout x y (suc m) f = rw (throughout x y m (λ k l. f k (omega arith)), eq-eqb (x m) (y m) (f m (omega arith)))

assoc : (a b c : Bool) → (a && b && c) ≡ (a && (b && c))
assoc true b c = refl
assoc false b c = refl

neutral : (a : Bool) → (a && true) ≡ a
neutral true = refl
neutral false = refl

-- the same places by a list, from place a on
above : (x y : ℕ → ℕ) (a n m : ℕ) → a + n ≡ m → (same_below x y a && list_all (λ k. eqb (x k) (y k)) (range_with_len a n)) ≡ same_below x y m
unfolding same_below
above x y a zero m e = let q : a ≡ m = omega arith in rw (neutral, q)
above x y a (suc n) m e = rw (← assoc (same_below x y a) (eqb (x a) (y a)) (list_all (λ k. eqb (x k) (y k)) (range_with_len (a + 1) n)), add-one) (above x y (suc a) n m (omega arith))

pub listed : (x y : ℕ → ℕ) (n : ℕ) → list_all (λ k. eqb (x k) (y k)) (range_with_len 0 n) ≡ same_below x y n
unfolding same_below
listed x y n = above x y 0 n n (omega arith)

-- what `all` answers over the places below n, where its closure compares x and y at one place
pub all_same : {F : Type 0} {g : Mut F (ℕ × Unit {0}) Bool} {s : Range ℕ} (x y : ℕ → ℕ) (n : ℕ) (u : Range ℕ) (f : F) (r : Bool) → (xs : List ℕ) × (o : Option ℕ) × (j : F) × YieldsThen nat_range_steps s xs o u × FoldsTo (λ p k q. Called g p (k, tt) true q) f xs j × MatchOption o (r ≡ true) (λ k. (r ≡ false) × ((h : F) × Called g j (k, tt) false h)) → s ≡ record { start = 0; end = n } → ((k : ℕ) (b : Bool) (q : F) → Called g f (k, tt) b q → (q ≡ f) × (b ≡ eqb (x k) (y k))) → r ≡ same_below x y n
all_same x y n u f r ran e same = all_from_yields_List (λ k. eqb (x k) (y k)) u f r ran (YieldsList-from_range 0 n n e (omega arith)) same ∙ listed x y n
