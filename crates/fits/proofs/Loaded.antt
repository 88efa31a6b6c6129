-- What stands where once the lists are loaded. Assumes nothing.
use Prim.Native.Nat.{ℕ, zero, suc, ◌+◌, ◌*◌, ◌≤◌, ◌<◌}
use mathlib.Core.List.{List}
use mathlib.Core.Path.{◌≡◌, refl, sym, ◌∙◌}
use native.Mathlib.Decide.{ℕ_discrete}
use native.Mathlib.Omega.{arith}
use lib.Ieee.{Float, nan}
use lib.ListN.{length, get_or, set, length-set}
use lib.Seq.{get_or-set_same, get_or-set_other}
use Rattle.kernel.specs.Matrix.{Matrix}
use Rattle.kernel.specs.Row.{kernel_index}
use Rattle.kernel.specs.declared.Kind.{Kind}
use Rattle.state.specs.Lists.{problem, State, Ready}
use Rattle.travel.specs.Travel.{Paired}
use Rattle.fits.specs.Load.{loaded_floats, loaded_numbers, loaded_labels, loaded}

-- place j after a store at place i
stored : {A : Type 0} (d : A) (t : List A) (i j : ℕ) (x y : A) → i < length t → (j ≡ i → x ≡ y) → ((j ≡ i → ⊥) → get_or t j d ≡ y) → get_or (set t i x) j d ≡ y
stored d t i j x y l same other = go (ℕ_discrete j i)
  where
    go : Dec (j ≡ i) → get_or (set t i x) j d ≡ y
    go (yes e) = rw e (get_or-set_same t i x d l) ∙ same e
    go (no e) = get_or-set_other t i j x d e ∙ other e

-- three stores at place k of the third, fourth and fifth field, read at place j of one of them
module _ (n k j : ℕ) (t : List Float) (x y z w : Float) (small : k < n) (less : j < n) (long : 7 * n ≤ length t) where
  abbrev t2 : List Float
  t2 = set t (2 * n + k) x

  abbrev t3 : List Float
  t3 = set t2 (3 * n + k) y

  long2 : 7 * n ≤ length t2
  long2 = simp length-set long

  long3 : 7 * n ≤ length t3
  long3 = simp length-set long

  third : (j ≡ k → x ≡ w) → ((j ≡ k → ⊥) → get_or t (2 * n + j) nan ≡ w) → get_or (set t3 (4 * n + k) z) (2 * n + j) nan ≡ w
  third same other =
      stored nan t3 (4 * n + k) (2 * n + j) z w (omega (arith, long3)) (λ (q : 2 * n + j ≡ 4 * n + k). absurd (omega arith)) (λ r.
      stored nan t2 (3 * n + k) (2 * n + j) y w (omega (arith, long2)) (λ (q : 2 * n + j ≡ 3 * n + k). absurd (omega arith)) (λ r.
      stored nan t (2 * n + k) (2 * n + j) x w (omega arith) (λ (q : 2 * n + j ≡ 2 * n + k). same (omega arith)) (λ v. other (λ e. v (rw e)))))

  fourth : (j ≡ k → y ≡ w) → ((j ≡ k → ⊥) → get_or t (3 * n + j) nan ≡ w) → get_or (set t3 (4 * n + k) z) (3 * n + j) nan ≡ w
  fourth same other =
      stored nan t3 (4 * n + k) (3 * n + j) z w (omega (arith, long3)) (λ (q : 3 * n + j ≡ 4 * n + k). absurd (omega arith)) (λ r.
      stored nan t2 (3 * n + k) (3 * n + j) y w (omega (arith, long2)) (λ (q : 3 * n + j ≡ 3 * n + k). same (omega arith)) (λ v.
      stored nan t (2 * n + k) (3 * n + j) x w (omega arith) (λ (q : 3 * n + j ≡ 2 * n + k). absurd (omega arith)) (λ r. other (λ e. v (rw e)))))

  fifth : (j ≡ k → z ≡ w) → ((j ≡ k → ⊥) → get_or t (4 * n + j) nan ≡ w) → get_or (set t3 (4 * n + k) z) (4 * n + j) nan ≡ w
  fifth same other =
      stored nan t3 (4 * n + k) (4 * n + j) z w (omega (arith, long3)) (λ (q : 4 * n + j ≡ 4 * n + k). same (omega arith)) (λ v.
      stored nan t2 (3 * n + k) (4 * n + j) y w (omega (arith, long2)) (λ (q : 4 * n + j ≡ 3 * n + k). absurd (omega arith)) (λ r.
      stored nan t (2 * n + k) (4 * n + j) x w (omega arith) (λ (q : 4 * n + j ≡ 2 * n + k). absurd (omega arith)) (λ r. other (λ e. v (rw e)))))

earlier : {j k : ℕ} → j < suc k → (j ≡ k → ⊥) → j < k
earlier h v = omega arith

module _ (n : ℕ) (c a p f : List Float) where
  pub length_floats : (k : ℕ) → length (loaded_floats n c a p f k) ≡ length f
  unfolding loaded_floats
  length_floats zero = refl
  length_floats (suc k) = simp length-set (length_floats k)

  module _ (long : 7 * n ≤ length f) where
    pub weight_loaded : (k j : ℕ) → k ≤ n → j < k → get_or (loaded_floats n c a p f k) (2 * n + j) nan ≡ get_or a j nan
    unfolding loaded_floats
    weight_loaded zero j b h = absurd (omega arith)
    weight_loaded (suc k) j b h =
        third n k j (loaded_floats n c a p f k) (get_or a k nan) (get_or c k nan) (get_or p k nan) (get_or a j nan) b (omega arith) (rw (length_floats k) long) (λ e. rw e) (λ v.
        weight_loaded k j (omega arith) (earlier h v))

    pub ceiling_loaded : (k j : ℕ) → k ≤ n → j < k → get_or (loaded_floats n c a p f k) (3 * n + j) nan ≡ get_or c j nan
    unfolding loaded_floats
    ceiling_loaded zero j b h = absurd (omega arith)
    ceiling_loaded (suc k) j b h =
        fourth n k j (loaded_floats n c a p f k) (get_or a k nan) (get_or c k nan) (get_or p k nan) (get_or c j nan) b (omega arith) (rw (length_floats k) long) (λ e. rw e) (λ v.
        ceiling_loaded k j (omega arith) (earlier h v))

    pub linear_loaded : (k j : ℕ) → k ≤ n → j < k → get_or (loaded_floats n c a p f k) (4 * n + j) nan ≡ get_or p j nan
    unfolding loaded_floats
    linear_loaded zero j b h = absurd (omega arith)
    linear_loaded (suc k) j b h =
        fifth n k j (loaded_floats n c a p f k) (get_or a k nan) (get_or c k nan) (get_or p k nan) (get_or p j nan) b (omega arith) (rw (length_floats k) long) (λ e. rw e) (λ v.
        linear_loaded k j (omega arith) (earlier h v))

-- the two stores of one sample
module _ (n k j : ℕ) (t : List ℕ) (small : k < n) (less : j < n) (long : 2 * n ≤ length t) where
  long1 : 2 * n ≤ length (set t k k)
  long1 = simp length-set long

  first : ((j ≡ k → ⊥) → get_or t j 0 ≡ j) → get_or (set (set t k k) (n + k) k) j 0 ≡ j
  first other =
      stored 0 (set t k k) (n + k) j k j (omega (arith, long1)) (λ (q : j ≡ n + k). absurd (omega arith)) (λ r.
      stored 0 t k j k j (omega arith) (λ q. sym q) other)

  second : ((j ≡ k → ⊥) → get_or t (n + j) 0 ≡ j) → get_or (set (set t k k) (n + k) k) (n + j) 0 ≡ j
  second other =
      stored 0 (set t k k) (n + k) (n + j) k j (omega (arith, long1)) (λ (q : n + j ≡ n + k). omega arith) (λ v.
      stored 0 t k (n + j) k j (omega arith) (λ (q : n + j ≡ k). absurd (omega arith)) (λ r. other (λ e. v (rw e))))

module _ (n : ℕ) (u : List ℕ) where
  pub length_numbers : (k : ℕ) → length (loaded_numbers n u k) ≡ length u
  unfolding loaded_numbers
  length_numbers zero = refl
  length_numbers (suc k) = simp length-set (length_numbers k)

  module _ (long : 2 * n ≤ length u) where
    pub sample_loaded : (k j : ℕ) → k ≤ n → j < k → get_or (loaded_numbers n u k) j 0 ≡ j
    unfolding loaded_numbers
    sample_loaded zero j b h = absurd (omega arith)
    sample_loaded (suc k) j b h = first n k j (loaded_numbers n u k) b (omega arith) (rw (length_numbers k) long) (λ v. sample_loaded k j (omega arith) (earlier h v))

    pub index_loaded : (k j : ℕ) → k ≤ n → j < k → kernel_index n (loaded_numbers n u k) j ≡ j
    unfolding loaded_numbers
    index_loaded zero j b h = absurd (omega arith)
    index_loaded (suc k) j b h = second n k j (loaded_numbers n u k) b (omega arith) (rw (length_numbers k) long) (λ v. index_loaded k j (omega arith) (earlier h v))

    pub paired_loaded : Paired n (loaded_numbers n u n)
    paired_loaded = record { same = λ k h. sample_loaded n k (omega arith) h ∙ sym (index_loaded n k (omega arith) h) }

module _ (l y : List ℕ) where
  pub length_labels : (k : ℕ) → length (loaded_labels l y k) ≡ length y
  unfolding loaded_labels
  length_labels zero = refl
  length_labels (suc k) = simp length-set (length_labels k)

  pub label_loaded : (k j : ℕ) → k ≤ length y → j < k → get_or (loaded_labels l y k) j 0 ≡ get_or l j 0
  unfolding loaded_labels
  label_loaded zero j b h = absurd (omega arith)
  label_loaded (suc k) j b h =
      stored 0 (loaded_labels l y k) k j (get_or l k 0) (get_or l j 0) (rw (length_labels k) b) (λ e. rw e) (λ v. label_loaded k j (omega arith) (earlier h v))

pub ready_loaded : (n : ℕ) (kind : Kind) (m l : List ℕ) (c a p : List Float) (s : State) → Matrix n m → 7 * n ≤ length s.floats → 2 * n ≤ length s.numbers
    → n ≤ length s.labels → Ready (problem n n kind m) (loaded n l c a p s)
ready_loaded n kind m l c a p s x f u y = record {
  matrix = x;
  indexed = record {
    small = x.small;
    long = rw (length_numbers n s.numbers n) u;
    below = λ k h. rw (index_loaded n s.numbers u n k (omega arith) h) h;
  };
  square = omega arith;
  floats = rw (length_floats n c a p s.floats n) f;
  labels = rw (length_labels l s.labels n) y;
}
