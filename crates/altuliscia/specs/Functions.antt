-- The C functions: each entry over the host's bytes, with its own working room; by a tuning t, and by the plain one.
use Rattle.std.specs.Prelude.{ℕ, true, ◌&&◌, cond, List, eqb, ltb, length}
use Rattle.alpha.specs.Weight.{weight}
use Rattle.classification.specs.Entries.{general_tuned_sized, fit_c_tuned_sized, fit_nu_tuned_sized, fit_one_class_tuned_sized}
use Rattle.finder.specs.Found.{found_pair, with_pair}
use Rattle.retired.specs.Entry.{retired_tuned_sized}
use Rattle.hosted.specs.Hosted.{is_on, as_float, floor_known, tuning_of, floats_of, byte_sizes, general_inputs, room, Handed, delivered, hosted_by}
use Rattle.votes.specs.Votes.{Panel}
use Rattle.votes.specs.Entry.{languages_good, Voted, voted_on, election_number, election_told}
use Rattle.tuning.specs.Tuning.{plain_tuning}
use Rattle.tuning.specs.declared.Tuning.{Tuning}

-- n, matrix, labels, ceilings, alphas, linear, nu rule, eps, shrinking, budget; crate's reading, home, answer
unfoldable pub general_host_by : Tuning → ℕ → List ℕ → List ℕ → List ℕ → List ℕ → List ℕ → ℕ → ℕ → ℕ → ℕ → List ℕ → List ℕ → List ℕ → Handed
general_host_by t n m l c a p nurule eps shrinking budget cr h an =
    hosted_by
    (byte_sizes n (general_inputs n l c a p) m cr h an)
    (delivered n (general_tuned_sized t n m l (floats_of c n) (floats_of a n) (floats_of p n) (is_on nurule) (as_float eps) (is_on shrinking) budget room) cr h an)
    cr
    h
    an

abbrev pub general_host : ℕ → List ℕ → List ℕ → List ℕ → List ℕ → List ℕ → ℕ → ℕ → ℕ → ℕ → List ℕ → List ℕ → List ℕ → Handed
general_host = general_host_by plain_tuning

-- .. linear, retired bytes, .. budget, tuning; ..
unfoldable pub retired_host : ℕ → List ℕ → List ℕ → List ℕ → List ℕ → List ℕ → List ℕ → ℕ → ℕ → ℕ → ℕ → List ℕ → List ℕ → List ℕ → List ℕ → Handed
retired_host n m l c a p r nurule eps shrinking budget t cr h an =
    hosted_by
    (byte_sizes n (general_inputs n l c a p && eqb (length r) n && floor_known t) m cr h an)
    (delivered n (retired_tuned_sized (tuning_of t) n m l (floats_of c n) (floats_of a n) (floats_of p n) r (is_on nurule) (as_float eps) (is_on shrinking) budget room) cr h an)
    cr
    h
    an

unfoldable pub c_host_by : Tuning → ℕ → List ℕ → List ℕ → ℕ → ℕ → ℕ → ℕ → ℕ → List ℕ → List ℕ → List ℕ → Handed
c_host_by t n m l cpos cneg eps shrinking budget cr h an =
    hosted_by
    (byte_sizes n (eqb (length l) n) m cr h an)
    (delivered n (fit_c_tuned_sized t n m l (as_float cpos) (as_float cneg) (as_float eps) (is_on shrinking) budget room) cr h an)
    cr
    h
    an

abbrev pub c_host : ℕ → List ℕ → List ℕ → ℕ → ℕ → ℕ → ℕ → ℕ → List ℕ → List ℕ → List ℕ → Handed
c_host = c_host_by plain_tuning

unfoldable pub nu_host_by : Tuning → ℕ → List ℕ → List ℕ → ℕ → ℕ → ℕ → ℕ → List ℕ → List ℕ → List ℕ → Handed
nu_host_by t n m l nu eps shrinking budget cr h an =
    hosted_by
    (byte_sizes n (eqb (length l) n) m cr h an)
    (delivered n (fit_nu_tuned_sized t n m l (as_float nu) (as_float eps) (is_on shrinking) budget room) cr h an)
    cr
    h
    an

abbrev pub nu_host : ℕ → List ℕ → List ℕ → ℕ → ℕ → ℕ → ℕ → List ℕ → List ℕ → List ℕ → Handed
nu_host = nu_host_by plain_tuning

unfoldable pub one_class_host_by : Tuning → ℕ → List ℕ → ℕ → ℕ → ℕ → ℕ → List ℕ → List ℕ → List ℕ → Handed
one_class_host_by t n m nu eps shrinking budget cr h an =
    hosted_by
    (byte_sizes n true m cr h an)
    (delivered n (fit_one_class_tuned_sized t n m (as_float nu) (as_float eps) (is_on shrinking) budget room) cr h an)
    cr
    h
    an

abbrev pub one_class_host : ℕ → List ℕ → ℕ → ℕ → ℕ → ℕ → List ℕ → List ℕ → List ℕ → Handed
one_class_host = one_class_host_by plain_tuning

-- what the host of the pair finder gets back: the result, and its list of bytes
pub record PairHanded : Type 0 where
  pub code : ℕ
  pub pair : List ℕ

abbrev pub pair_handed : ℕ → List ℕ → PairHanded
pair_handed k out = record { code = k; pair = out }

-- weight and ceiling of i and of j, gradients, diagonals, the entry of row i at j, whether the labels agree; the sixteen bytes
unfoldable pub pair_host : ℕ → ℕ → ℕ → ℕ → ℕ → ℕ → ℕ → ℕ → ℕ → ℕ → List ℕ → PairHanded
pair_host ai bi aj bj gi gj di dj r agree out =
    cond (ltb (length out) 16)
    (pair_handed 2 out)
    (pair_handed 0 (with_pair out (found_pair (weight (as_float ai) (as_float bi)) (weight (as_float aj) (as_float bj)) (as_float gi) (as_float gj) (as_float di) (as_float dj) (as_float r) (is_on agree))))

-- what the host of the votes gets back: the result, the votes and the answer
pub record VotesHanded : Type 0 where
  pub code : ℕ
  pub votes : List ℕ
  pub answer : List ℕ

abbrev pub votes_handed : ℕ → List ℕ → List ℕ → VotesHanded
votes_handed q v an = record { code = q; votes = v; answer = an }

abbrev pub votes_told : Voted → List ℕ → VotesHanded
votes_told w an = votes_handed (election_number w.out) w.votes (election_told w.out an)

-- k languages, what is lent for their pairs; votes, answer. An answer that is too short is 2, behind 1
unfoldable pub votes_host : ℕ → Panel → List ℕ → List ℕ → VotesHanded
votes_host k l v an = cond (ltb (length an) 24) (votes_handed (cond (languages_good k) 2 1) v an) (votes_told (voted_on k l v) an)

-- 10000·major + 100·minor + patch: 1.6.0
abbrev pub version : ℕ
version = 10600
