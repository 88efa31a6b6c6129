-- The tuned C functions: each entry under a tuning t of eight-byte words, over the host's bytes, with its own working room and an answer of 128 bytes.
use Rattle.std.specs.Prelude.{ℕ, Bool, true, ◌&&◌, List, eqb, leb, length, ⊤, Result}
use Rattle.classification.specs.Entries.{general_tuned_sized, fit_c_tuned_sized, fit_nu_tuned_sized, fit_one_class_tuned_sized}
use Rattle.hosted.specs.Hosted.{is_on, as_float, tuning_known, tuning_of, floats_of, byte_sizes, general_inputs, room, Handed, delivered, hosted_wide}
use Rattle.judge.specs.declared.Refusal.{Refusal}

-- refusals 1 and 2: `inputs` says whether every other input list is right
abbrev pub wide_sizes : ℕ → Bool → List ℕ → List ℕ → List ℕ → List ℕ → List ℕ → Result ⊤ Refusal
wide_sizes n inputs m t cr h an = byte_sizes n (inputs && tuning_known t && leb 128 (length an)) m cr h an

unfoldable pub general_tuned_host : ℕ → List ℕ → List ℕ → List ℕ → List ℕ → List ℕ → ℕ → ℕ → ℕ → ℕ → List ℕ → List ℕ → List ℕ → List ℕ → Handed
general_tuned_host n m l c a p nurule eps shrinking budget t cr h an =
    hosted_wide
    (wide_sizes n (general_inputs n l c a p) m t cr h an)
    (delivered n (general_tuned_sized (tuning_of t) n m l (floats_of c n) (floats_of a n) (floats_of p n) (is_on nurule) (as_float eps) (is_on shrinking) budget room) cr h an)
    cr
    h
    an

unfoldable pub c_tuned_host : ℕ → List ℕ → List ℕ → ℕ → ℕ → ℕ → ℕ → ℕ → List ℕ → List ℕ → List ℕ → List ℕ → Handed
c_tuned_host n m l cpos cneg eps shrinking budget t cr h an =
    hosted_wide
    (wide_sizes n (eqb (length l) n) m t cr h an)
    (delivered n (fit_c_tuned_sized (tuning_of t) n m l (as_float cpos) (as_float cneg) (as_float eps) (is_on shrinking) budget room) cr h an)
    cr
    h
    an

unfoldable pub nu_tuned_host : ℕ → List ℕ → List ℕ → ℕ → ℕ → ℕ → ℕ → List ℕ → List ℕ → List ℕ → List ℕ → Handed
nu_tuned_host n m l nu eps shrinking budget t cr h an =
    hosted_wide
    (wide_sizes n (eqb (length l) n) m t cr h an)
    (delivered n (fit_nu_tuned_sized (tuning_of t) n m l (as_float nu) (as_float eps) (is_on shrinking) budget room) cr h an)
    cr
    h
    an

unfoldable pub one_class_tuned_host : ℕ → List ℕ → ℕ → ℕ → ℕ → ℕ → List ℕ → List ℕ → List ℕ → List ℕ → Handed
one_class_tuned_host n m nu eps shrinking budget t cr h an =
    hosted_wide
    (wide_sizes n true m t cr h an)
    (delivered n (fit_one_class_tuned_sized (tuning_of t) n m (as_float nu) (as_float eps) (is_on shrinking) budget room) cr h an)
    cr
    h
    an
