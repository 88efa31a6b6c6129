-- Two trainings that are lent alike over what stands start alike. Assumes nothing.
use Prim.Native.Nat.{ℕ, zero, suc, ◌+◌, ◌*◌, ◌<◌, ◌≤◌}
use mathlib.Core.Bool.{Bool, true, false, cond}
use mathlib.Core.List.{List}
use mathlib.Core.Path.{◌≡◌, refl, sym, ap, ◌∙◌}
use native.Mathlib.Omega.{arith}
use lib.Ieee.{Float, nan, binary64, add, mul, eq}
use lib.ListN.{length, get_or}
use Rattle.alpha.specs.Weight as Weight
use Rattle.alpha.specs.Weight.{at_lower}
use Rattle.kernel.specs.Row.{kernel_index}
use Rattle.kernel.specs.declared.Kind.{Kind}
use Rattle.rounding.proofs.Nan.{nan_add}
use Rattle.start.specs.Start.{laid_to, diagonal_to, gathered_to, started}
use Rattle.state.specs.Fields.{alpha, linear, diagonal, row}
use Rattle.state.specs.Lists.{Problem, problem, State, Ready, over}
use Rattle.trace.proofs.Rests.{same_laid, same_diagonal, same_gathered, same_started}
use Rattle.trace.proofs.Started.{laid_at, diagonal_other, diagonal_own, taken, joined_gradient}
use Rattle.standing.proofs.Alike.{Alike, LentAlike}
use Rattle.standing.proofs.Silent.{Silent}

-- ---- a NaN for its linear term keeps a gradient silent

module _ (stands : ℕ → Bool) (p : Problem) (b : List Float) (s : State) (long : 7 * p.n ≤ length s.floats)
    (terms : (k : ℕ) → k < p.n → stands k ≡ false → linear p s k ≡ nan) (gone : (k : ℕ) → k < p.n → stands k ≡ false → at_lower (alpha p s k) ≡ true) where
  abbrev z0 : State
  z0 = over s (diagonal_to p.n p.side p.matrix (laid_to p.n s.floats p.n) p.side)

  long_z : 7 * p.n ≤ length z0.floats
  long_z = rw ((same_diagonal p (laid_to p.n s.floats p.n) p.side).long, (same_laid p (5 * p.n) s.floats p.n (omega arith)).long) long

  gathered_nan : (i k : ℕ) → k < p.n → stands k ≡ false → get_or (gathered_to p b z0 i) k nan ≡ nan
  unfolding gathered_to
  gathered_nan zero k l h =
      diagonal_other p (laid_to p.n s.floats p.n) p.side k (omega arith) ∙ laid_at p s.floats p.n k l (omega arith) long ∙ terms k l h
  gathered_nan (suc i) k l h =
      let f = gathered_to p b z0 i in
      joined_gradient p b (over z0 f) i (alpha p (over z0 f) i) k l (rw (same_gathered p (5 * p.n) b z0 i).long long_z)
      ∙ ap (taken p (get_or f (2 * p.n + i) nan) (row p s i k)) (gathered_nan i k l h)
      ∙ go (eq (get_or f (2 * p.n + i) nan) Weight.zero) (mul binary64 (get_or f (2 * p.n + i) nan) (row p s i k))
    where
      go : (x : Bool) (v : Float) → cond x nan (add binary64 nan v) ≡ nan
      go true v = refl
      go false v = nan_add v

  pub silent_started : Silent stands p (over s (started p b s))
  unfolding started
  silent_started = record {
    gradients = λ k l h. gathered_nan p.n k l h;
    weights = λ k l h. ap (λ (v : Float). eq v Weight.zero) ((same_started p b s).at (2 * p.n + k) (omega arith) (omega arith)) ∙ gone k l h;
  }

-- ---- two trainings

module _ (stands : ℕ → Bool) (n side : ℕ) (kind : Kind) (m m' : List ℕ) (b c : List Float) where
  abbrev p : Problem
  p = problem n side kind m

  abbrev q : Problem
  q = problem n side kind m'

  module _ (s t : State) (R : Ready p s) (R' : Ready q t) (A : LentAlike stands p q s t) where
    -- laid out, with the diagonal
    abbrev s0 : State
    s0 = over s (diagonal_to n side m (laid_to n s.floats n) side)

    abbrev t0 : State
    t0 = over t (diagonal_to n side m' (laid_to n t.floats n) side)

    long0 : 7 * n ≤ length s0.floats
    long0 = rw ((same_diagonal p (laid_to n s.floats n) side).long, (same_laid p (5 * n) s.floats n (omega arith)).long) R.floats

    long0' : 7 * n ≤ length t0.floats
    long0' = rw ((same_diagonal q (laid_to n t.floats n) side).long, (same_laid q (5 * n) t.floats n (omega arith)).long) R'.floats

    value0 : (k : ℕ) → k < n → (i : ℕ) → get_or (gathered_to p b s0 i) (2 * n + k) nan ≡ get_or s.floats (2 * n + k) nan
    value0 k l i =
        (same_gathered p (5 * n) b s0 i).at (2 * n + k) (omega arith) (omega arith)
        ∙ (same_diagonal p (laid_to n s.floats n) side).at (2 * n + k) (omega arith) (omega arith)
        ∙ (same_laid p (5 * n) s.floats n (omega arith)).at (2 * n + k) (omega arith) (omega arith)

    value0' : (k : ℕ) → k < n → (i : ℕ) → get_or (gathered_to q c t0 i) (2 * n + k) nan ≡ get_or t.floats (2 * n + k) nan
    value0' k l i =
        (same_gathered q (5 * n) c t0 i).at (2 * n + k) (omega arith) (omega arith)
        ∙ (same_diagonal q (laid_to n t.floats n) side).at (2 * n + k) (omega arith) (omega arith)
        ∙ (same_laid q (5 * n) t.floats n (omega arith)).at (2 * n + k) (omega arith) (omega arith)

    gathered_same : (i : ℕ) → i ≤ n → (k : ℕ) → k < n → stands k ≡ true → get_or (gathered_to p b s0 i) k nan ≡ get_or (gathered_to q c t0 i) k nan
    unfolding gathered_to
    gathered_same zero l k K h =
        diagonal_other p (laid_to n s.floats n) side k (omega arith) ∙ laid_at p s.floats n k K (omega arith) R.floats ∙ A.terms k K h
        ∙ sym (diagonal_other q (laid_to n t.floats n) side k (omega arith) ∙ laid_at q t.floats n k K (omega arith) R'.floats)
    gathered_same (suc i) l k K h =
        let f = gathered_to p b s0 i in
        let g = gathered_to q c t0 i in
        joined_gradient p b (over s0 f) i (alpha p (over s0 f) i) k K (rw (same_gathered p (5 * n) b s0 i).long long0)
        ∙ one (stands i) refl (gathered_same i (omega arith) k K h)
        ∙ sym (joined_gradient q c (over t0 g) i (alpha q (over t0 g) i) k K (rw (same_gathered q (5 * n) c t0 i).long long0'))
      where
        v : Float
        v = get_or s.floats (2 * n + i) nan

        v_is : get_or (gathered_to p b s0 i) (2 * n + i) nan ≡ v
        v_is = value0 i (omega arith) i

        v_is' : get_or (gathered_to q c t0 i) (2 * n + i) nan ≡ v
        v_is' = value0' i (omega arith) i ∙ sym (A.weights i (omega arith))

        one : (x : Bool) → stands i ≡ x → get_or (gathered_to p b s0 i) k nan ≡ get_or (gathered_to q c t0 i) k nan
            → taken p (get_or (gathered_to p b s0 i) (2 * n + i) nan) (row p s i k) (get_or (gathered_to p b s0 i) k nan)
            ≡ taken q (get_or (gathered_to q c t0 i) (2 * n + i) nan) (row q t i k) (get_or (gathered_to q c t0 i) k nan)
        one true e z = rw (v_is, v_is', A.rows i k (omega arith) K e h, z)
        one false e z = rw (v_is, v_is', A.gone i (omega arith) e) z

    diagonal_same : (k : ℕ) → k < n → stands k ≡ true → diagonal p (over s (started p b s)) k ≡ diagonal q (over t (started q c t)) k
    unfolding started
    diagonal_same k K h =
        let x = kernel_index n s.numbers k in
        let y = kernel_index n t.numbers k in
        let X = R.indexed.below k K in
        let Y = R'.indexed.below k K in
        let Z = R.square in
        let L = (same_laid p (5 * n) s.floats n (omega arith)).long in
        let L' = (same_laid q (5 * n) t.floats n (omega arith)).long in
        (same_gathered p (7 * n) b s0 n).at (5 * n + x) (omega arith) (omega arith)
        ∙ diagonal_own p (laid_to n s.floats n) side x X (rw L (omega (arith, R.floats)))
        ∙ A.own k K h
        ∙ sym ((same_gathered q (7 * n) c t0 n).at (5 * n + y) (omega arith) (omega arith) ∙ diagonal_own q (laid_to n t.floats n) side y Y (rw L' (omega (arith, R'.floats))))

    pub started_alike : Alike stands p q (over s (started p b s)) (over t (started q c t))
    unfolding started
    started_alike =
        let e = same_started p b s in
        let e' = same_started q c t in
        record {
          gradients = λ k K h. gathered_same n (omega arith) k K h;
          weights = λ k K. e.at (2 * n + k) (omega arith) (omega arith) ∙ A.weights k K ∙ sym (e'.at (2 * n + k) (omega arith) (omega arith));
          uppers = λ k K h. e.at (3 * n + k) (omega arith) (omega arith) ∙ A.uppers k K h ∙ sym (e'.at (3 * n + k) (omega arith) (omega arith));
          terms = λ k K h. e.at (4 * n + k) (omega arith) (omega arith) ∙ A.terms k K h ∙ sym (e'.at (4 * n + k) (omega arith) (omega arith));
          labels = A.labels;
          diagonals = diagonal_same;
          rows = A.rows;
        }
