-- What a step leaves in the lent floats. Assumes nothing.
use Prim.Native.Nat.{ℕ, zero, suc, ◌+◌, ◌*◌, ◌≤◌, ◌<◌}
use mathlib.Core.Bool.{Bool, true, false}
use mathlib.Core.List.{List}
use mathlib.Core.Path.{◌≡◌, refl, ap, ◌∙◌}
use native.Mathlib.Decide.{ℕ_discrete}
use native.Mathlib.Nat.{zero-add}
use native.Mathlib.Omega.{arith}
use lib.Ieee.{Float, nan, binary64, add}
use lib.ListN.{length, get_or, set, length-set}
use lib.Seq.{get_or-set_same, get_or-set_other}
use Rattle.alpha.specs.declared.Alpha.{Alpha}
use Rattle.rho.specs.Rho.{positive_in}
use Rattle.solver.specs.declared.Given.{Given}
use Rattle.update.specs.declared.Pair.{Pair}
use Rattle.orderless.specs.Sheet.{Sheet, up_field, sized, read_in, own}
use Rattle.orderless.specs.Step.{up_put, down_put, put_in, raised, raised_in, shift_in, pair_for, change, weight_to, steps_by, steps}
use Rattle.orderless.proofs.Stepped.{last, Moved, step_mirrors}
use Rattle.orderless.proofs.Relation.{Lent, Mirrors}
use Rattle.solver.specs.Run.{problem_of}
use Rattle.state.specs.Lists.{state}
use Rattle.update.specs.Update.{updated}

-- v where the place is the one that is written
abbrev one : {A : Type 0} {P : Type 0} → Dec P → A → A → A
one (yes e) v w = v
one (no e) v w = w

past : (f : List Float) (a q : ℕ) (v : Float) → (q ≡ a → ⊥) → get_or (set f a v) q nan ≡ get_or f q nan
past f a q v h = get_or-set_other f a q v nan h

-- ---- one sample put

module _ (n : ℕ) (f : List Float) (k : ℕ) (K : k < n) (a d u : Float) (long : 4 * n ≤ length f) where
  abbrev h1 : List Float
  h1 = set f (n + k) a

  abbrev h2 : List Float
  h2 = set h1 (3 * n + k) d

  abbrev three : List Float
  three = set h2 k u

  three_weight : (q : ℕ) → q < n → (z : Dec (q ≡ k)) → get_or three (n + q) nan ≡ one z a (get_or f (n + q) nan)
  three_weight q Q (yes z) = rw z (past h2 k (n + k) u (λ e. omega arith) ∙ past h1 (3 * n + k) (n + k) d (λ e. omega arith) ∙ get_or-set_same f (n + k) a nan (omega arith))
  three_weight q Q (no z) = past h2 k (n + q) u (λ e. omega arith) ∙ past h1 (3 * n + k) (n + q) d (λ e. omega arith) ∙ past f (n + k) (n + q) a (λ e. z (omega arith))

  three_down : (q : ℕ) → q < n → (z : Dec (q ≡ k)) → get_or three (3 * n + q) nan ≡ one z d (get_or f (3 * n + q) nan)
  three_down q Q (yes z) = rw z (past h2 k (3 * n + k) u (λ e. omega arith) ∙ get_or-set_same (set f (n + k) a) (3 * n + k) d nan (simp length-set (omega arith)))
  three_down q Q (no z) = past h2 k (3 * n + q) u (λ e. omega arith) ∙ past h1 (3 * n + k) (3 * n + q) d (λ e. z (omega arith)) ∙ past f (n + k) (3 * n + q) a (λ e. omega arith)

  three_up : (q : ℕ) → q < n → (z : Dec (q ≡ k)) → get_or three q nan ≡ one z u (get_or f q nan)
  three_up q Q (yes z) = rw z (get_or-set_same (set (set f (n + k) a) (3 * n + k) d) k u nan (simp length-set (omega arith)))
  three_up q Q (no z) = past h2 k q u z ∙ past h1 (3 * n + k) q d (λ e. omega arith) ∙ past f (n + k) q a (λ e. omega arith)

  three_diagonal : (q : ℕ) → q < n → get_or three (2 * n + q) nan ≡ get_or f (2 * n + q) nan
  three_diagonal q Q = past h2 k (2 * n + q) u (λ e. omega arith) ∙ past h1 (3 * n + k) (2 * n + q) d (λ e. omega arith) ∙ past f (n + k) (2 * n + q) a (λ e. omega arith)

  three_behind : (q : ℕ) → 4 * n ≤ q → get_or three q nan ≡ get_or f q nan
  three_behind q Q = past h2 k q u (λ e. omega arith) ∙ past h1 (3 * n + k) q d (λ e. omega arith) ∙ past f (n + k) q a (λ e. omega arith)

  three_long : length three ≡ length f
  three_long = simp length-set

module _ (n : ℕ) (f : List Float) (k : ℕ) (K : k < n) (pos : Bool) (w : Alpha) (v : Float) where
  -- the first three writes
  abbrev laid : Bool → List Float
  laid nu = set (set (set f (n + k) w.value) (3 * n + k) (down_put pos w v)) k (up_put nu true pos w v)

  pub length_put : (nu : Bool) → length (put_in nu n f k pos w v) ≡ length f
  unfolding put_in
  length_put true = simp length-set
  length_put false = simp length-set

  pub put_weight : (nu : Bool) → sized nu n ≤ length f → (q : ℕ) → q < n → (z : Dec (q ≡ k)) → get_or (put_in nu n f k pos w v) (n + q) nan ≡ one z w.value (get_or f (n + q) nan)
  unfolding put_in
  put_weight true long q Q z = past (laid true) (4 * n + k) (n + q) _ (λ e. omega arith) ∙ three_weight n f k K _ _ _ (omega arith) q Q z
  put_weight false long q Q z = three_weight n f k K _ _ _ (omega arith) q Q z

  pub put_down : (nu : Bool) → sized nu n ≤ length f → (q : ℕ) → q < n → (z : Dec (q ≡ k)) → get_or (put_in nu n f k pos w v) (3 * n + q) nan ≡ one z (down_put pos w v) (get_or f (3 * n + q) nan)
  unfolding put_in
  put_down true long q Q z = past (laid true) (4 * n + k) (3 * n + q) _ (λ e. omega arith) ∙ three_down n f k K _ _ _ (omega arith) q Q z
  put_down false long q Q z = three_down n f k K _ _ _ (omega arith) q Q z

  -- the diagonal's field
  pub put_diagonal : (nu : Bool) → sized nu n ≤ length f → (q : ℕ) → q < n → get_or (put_in nu n f k pos w v) (2 * n + q) nan ≡ get_or f (2 * n + q) nan
  unfolding put_in
  put_diagonal true long q Q = past (laid true) (4 * n + k) (2 * n + q) _ (λ e. omega arith) ∙ three_diagonal n f k K _ _ _ (omega arith) q Q
  put_diagonal false long q Q = three_diagonal n f k K _ _ _ (omega arith) q Q

  pub put_up : (nu : Bool) → sized nu n ≤ length f → (t : Bool) (q : ℕ) → q < n → (z : Dec (q ≡ k))
      → get_or (put_in nu n f k pos w v) (up_field nu n t + q) nan ≡ one z (up_put nu t pos w v) (get_or f (up_field nu n t + q) nan)
  unfolding put_in
  put_up true long true q Q z = simp zero-add (past (laid true) (4 * n + k) q _ (λ e. omega arith) ∙ three_up n f k K w.value (down_put pos w v) (up_put true true pos w v) (omega arith) q Q z)
  put_up true long false q Q (yes z) = rw z (get_or-set_same (laid true) (4 * n + k) _ nan (simp length-set (omega arith)))
  put_up true long false q Q (no z) = past (laid true) (4 * n + k) (4 * n + q) _ (λ e. z (omega arith)) ∙ three_behind n f k K _ _ _ (omega arith) (4 * n + q) (omega arith)
  put_up false long t q Q z = simp zero-add (three_up n f k K w.value (down_put pos w v) (up_put false true pos w v) (omega arith) q Q z)

-- ---- all samples shifted

module _ (n : ℕ) (f : List Float) (k : ℕ) (K : k < n) (x : Float) where
  abbrev r1 : List Float
  r1 = raised f k x

  abbrev r2 : List Float
  r2 = raised r1 (3 * n + k) x

  length_raised : (nu : Bool) → length (raised_in nu n f k x) ≡ length f
  unfolding raised_in
  length_raised true = simp length-set
  length_raised false = simp length-set

  raised_weight : (nu : Bool) (q : ℕ) → q < n → get_or (raised_in nu n f k x) (n + q) nan ≡ get_or f (n + q) nan
  unfolding raised_in
  raised_weight true q Q = past r2 (4 * n + k) (n + q) _ (λ e. omega arith) ∙ past r1 (3 * n + k) (n + q) _ (λ e. omega arith) ∙ past f k (n + q) _ (λ e. omega arith)
  raised_weight false q Q = past r1 (3 * n + k) (n + q) _ (λ e. omega arith) ∙ past f k (n + q) _ (λ e. omega arith)

  raised_diagonal : (nu : Bool) (q : ℕ) → q < n → get_or (raised_in nu n f k x) (2 * n + q) nan ≡ get_or f (2 * n + q) nan
  unfolding raised_in
  raised_diagonal true q Q = past r2 (4 * n + k) (2 * n + q) _ (λ e. omega arith) ∙ past r1 (3 * n + k) (2 * n + q) _ (λ e. omega arith) ∙ past f k (2 * n + q) _ (λ e. omega arith)
  raised_diagonal false q Q = past r1 (3 * n + k) (2 * n + q) _ (λ e. omega arith) ∙ past f k (2 * n + q) _ (λ e. omega arith)

  -- a field that begins at c: its place k is raised, its others stay
  pub record Lifted (nu : Bool) (c : ℕ) : Type 0 where
    pub here : get_or (raised_in nu n f k x) (c + k) nan ≡ add binary64 (get_or f (c + k) nan) x
    pub there : (q : ℕ) → q < n → (q ≡ k → ⊥) → get_or (raised_in nu n f k x) (c + q) nan ≡ get_or f (c + q) nan

  lifted_down : (nu : Bool) → sized nu n ≤ length f → Lifted nu (3 * n)
  unfolding raised_in
  lifted_down true long = record {
    here = past r2 (4 * n + k) (3 * n + k) _ (λ e. omega arith) ∙ get_or-set_same r1 (3 * n + k) _ nan (simp length-set (omega arith)) ∙ ap (λ (z : Float). add binary64 z x) (past f k (3 * n + k) _ (λ e. omega arith));
    there = λ q Q z. past r2 (4 * n + k) (3 * n + q) _ (λ e. omega arith) ∙ past r1 (3 * n + k) (3 * n + q) _ (λ e. z (omega arith)) ∙ past f k (3 * n + q) _ (λ e. omega arith);
  }
  lifted_down false long = record {
    here = get_or-set_same r1 (3 * n + k) _ nan (simp length-set (omega arith)) ∙ ap (λ (z : Float). add binary64 z x) (past f k (3 * n + k) _ (λ e. omega arith));
    there = λ q Q z. past r1 (3 * n + k) (3 * n + q) _ (λ e. z (omega arith)) ∙ past f k (3 * n + q) _ (λ e. omega arith);
  }

  lifted_up : (nu t : Bool) → sized nu n ≤ length f → Lifted nu (up_field nu n t)
  unfolding raised_in
  lifted_up true false long = record {
    here = get_or-set_same r2 (4 * n + k) _ nan (simp length-set (omega arith))
        ∙ ap (λ (z : Float). add binary64 z x) (past r1 (3 * n + k) (4 * n + k) _ (λ e. omega arith) ∙ past f k (4 * n + k) _ (λ e. omega arith));
    there = λ q Q z. past r2 (4 * n + k) (4 * n + q) _ (λ e. z (omega arith)) ∙ past r1 (3 * n + k) (4 * n + q) _ (λ e. omega arith) ∙ past f k (4 * n + q) _ (λ e. omega arith);
  }
  lifted_up true true long = record {
    here = simp zero-add (past r2 (4 * n + k) k _ (λ e. omega arith) ∙ past r1 (3 * n + k) k _ (λ e. omega arith) ∙ get_or-set_same f k _ nan (omega arith));
    there = λ q Q z. simp zero-add (past r2 (4 * n + k) q _ (λ e. omega arith) ∙ past r1 (3 * n + k) q _ (λ e. omega arith) ∙ past f k q _ z);
  }
  lifted_up false t long = record {
    here = simp zero-add (past r1 (3 * n + k) k _ (λ e. omega arith) ∙ get_or-set_same f k _ nan (omega arith));
    there = λ q Q z. simp zero-add (past r1 (3 * n + k) q _ (λ e. omega arith) ∙ past f k q _ z);
  }

module _ (nu : Bool) (n : ℕ) (d : ℕ → Float) (f : List Float) (long : sized nu n ≤ length f) where
  pub length_shift : (c : ℕ) → c ≤ n → length (shift_in nu n d f c) ≡ length f
  unfolding shift_in
  length_shift zero h = refl
  length_shift (suc c) h = length_raised n (shift_in nu n d f c) c (omega arith) (d c) nu ∙ length_shift c (omega arith)

  pub shift_weight : (c : ℕ) → c ≤ n → (q : ℕ) → q < n → get_or (shift_in nu n d f c) (n + q) nan ≡ get_or f (n + q) nan
  unfolding shift_in
  shift_weight zero h q Q = refl
  shift_weight (suc c) h q Q = raised_weight n (shift_in nu n d f c) c (omega arith) (d c) nu q Q ∙ shift_weight c (omega arith) q Q

  pub shift_diagonal : (c : ℕ) → c ≤ n → (q : ℕ) → q < n → get_or (shift_in nu n d f c) (2 * n + q) nan ≡ get_or f (2 * n + q) nan
  unfolding shift_in
  shift_diagonal zero h q Q = refl
  shift_diagonal (suc c) h q Q = raised_diagonal n (shift_in nu n d f c) c (omega arith) (d c) nu q Q ∙ shift_diagonal c (omega arith) q Q

  module _ (at : ℕ) (lifts : (h : List Float) (k : ℕ) (K : k < n) → sized nu n ≤ length h → Lifted n h k K (d k) nu at) where
    held_back : (c : ℕ) → c ≤ n → (q : ℕ) → q < n → c ≤ q → get_or (shift_in nu n d f c) (at + q) nan ≡ get_or f (at + q) nan
    unfolding shift_in
    held_back zero h q Q l = refl
    held_back (suc c) h q Q l =
        (lifts (shift_in nu n d f c) c (omega arith) (rw (length_shift c (omega arith)) long)).there q Q (λ e. omega arith) ∙ held_back c (omega arith) q Q (omega arith)

    pub lifted_all : (c : ℕ) → c ≤ n → (q : ℕ) → q < c → get_or (shift_in nu n d f c) (at + q) nan ≡ add binary64 (get_or f (at + q) nan) (d q)
    unfolding shift_in
    lifted_all zero h q l = let z : ⊥ = omega arith in absurd z
    lifted_all (suc c) h q l = go (ℕ_discrete q c) (lifted_all c (omega arith) q)
      where
        C : c < n
        C = omega arith

        w : Lifted n (shift_in nu n d f c) c C (d c) nu at
        w = lifts (shift_in nu n d f c) c C (rw (length_shift c (omega arith)) long)

        go : Dec (q ≡ c) → (q < c → get_or (shift_in nu n d f c) (at + q) nan ≡ add binary64 (get_or f (at + q) nan) (d q))
            → get_or (raised_in nu n (shift_in nu n d f c) c (d c)) (at + q) nan ≡ add binary64 (get_or f (at + q) nan) (d q)
        go (yes e) r = rw e (w.here ∙ ap (λ (z : Float). add binary64 z (d c)) (held_back c (omega arith) c C (omega arith)))
        go (no e) r = w.there q (omega arith) e ∙ r (omega arith)

  pub shift_down : (q : ℕ) → q < n → get_or (shift_in nu n d f n) (3 * n + q) nan ≡ add binary64 (get_or f (3 * n + q) nan) (d q)
  shift_down q Q = lifted_all (3 * n) (λ h k K l. lifted_down n h k K (d k) nu l) n (omega arith) q Q

  pub shift_up : (t : Bool) (q : ℕ) → q < n → get_or (shift_in nu n d f n) (up_field nu n t + q) nan ≡ add binary64 (get_or f (up_field nu n t + q) nan) (d q)
  shift_up t q Q = lifted_all (up_field nu n t) (λ h k K l. lifted_up n h k K (d k) nu t l) n (omega arith) q Q

-- ---- one step

one_last : {A : Type 0} {i j k : ℕ} (z : Dec (k ≡ j)) (x : Dec (k ≡ i)) (a b c e : A) → e ≡ one x b c → one z a e ≡ last z x a b c
one_last (yes z) x a b c e h = refl
one_last (no z) (yes x) a b c e h = h
one_last (no z) (no x) a b c e h = h

module _ (g : Given) (m y : List ℕ) (top : Bool → Float) (l : List Float) (long : sized g.nu g.n ≤ length l) (i j : ℕ) (I : i < g.n) (J : j < g.n) where
  abbrev nu : Bool
  nu = g.nu

  abbrev n : ℕ
  n = g.n

  abbrev o : Sheet
  o = read_in nu n l

  abbrev q : Pair
  q = pair_for g m y top o i j

  abbrev wi : Alpha
  wi = weight_to g m y top i q.i.value

  abbrev wj : Alpha
  wj = weight_to g m y top j q.j.value

  -- after i, and after j
  abbrev l1 : List Float
  l1 = put_in nu n l i (positive_in y i) wi (own y top o i)

  abbrev l2 : List Float
  l2 = put_in nu n l1 j (positive_in y j) wj (own y top o j)

  long1 : sized nu n ≤ length l1
  long1 = rw (length_put n l i I (positive_in y i) wi (own y top o i) nu) long

  long2 : sized nu n ≤ length l2
  long2 = rw (length_put n l1 j J (positive_in y j) wj (own y top o j) nu) long1

  abbrev d : ℕ → Float
  d = change g m y top o i j q

  pub length_steps : length (steps g m y top l i j) ≡ length l
  unfolding steps_by
  length_steps =
      length_shift nu n d l2 long2 n (omega arith) ∙ length_put n l1 j J (positive_in y j) wj (own y top o j) nu ∙ length_put n l i I (positive_in y i) wi (own y top o i) nu

  pub steps_diagonal : (k : ℕ) → k < n → get_or (steps g m y top l i j) (2 * n + k) nan ≡ get_or l (2 * n + k) nan
  unfolding steps_by
  steps_diagonal k K =
      shift_diagonal nu n d l2 long2 n (omega arith) k K ∙ put_diagonal n l1 j J (positive_in y j) wj (own y top o j) nu long1 k K
      ∙ put_diagonal n l i I (positive_in y i) wi (own y top o i) nu long k K

  module _ (u : List ℕ) (b : List Float) (C : Lent g m u y top b) (term : ℕ → Float) (f : List Float) (M : Mirrors g m u y top term f o) where
    steps_moved : Moved g m u y top b C term f o M i j I J (read_in nu n (steps g m y top l i j))
    unfolding steps_by
    steps_moved = record {
      ups = λ t k K z x. shift_up nu n d l2 long2 t k K ∙ ap (λ (v : Float). add binary64 v (d k))
          (put_up n l1 j J (positive_in y j) wj (own y top o j) nu long1 t k K z
          ∙ one_last z x _ _ _ _ (put_up n l i I (positive_in y i) wi (own y top o i) nu long t k K x));
      downs = λ k K z x. shift_down nu n d l2 long2 k K ∙ ap (λ (v : Float). add binary64 v (d k))
          (put_down n l1 j J (positive_in y j) wj (own y top o j) nu long1 k K z
          ∙ one_last z x _ _ _ _ (put_down n l i I (positive_in y i) wi (own y top o i) nu long k K x));
      weights = λ k K z x. shift_weight nu n d l2 long2 n (omega arith) k K
          ∙ put_weight n l1 j J (positive_in y j) wj (own y top o j) nu long1 k K z
          ∙ one_last z x _ _ _ _ (put_weight n l i I (positive_in y i) wi (own y top o i) nu long k K x);
    }

    pub steps_mirror : Mirrors g m u y top term (updated (problem_of g m) b g.mode g.floor (state f u y) i j n) (read_in nu n (steps g m y top l i j))
    steps_mirror = step_mirrors g m u y top b C term f o M i j I J (read_in nu n (steps g m y top l i j)) steps_moved
