-- The entry with retired samples and the published Rust's floor is what it was before the floor could be told. Assumes nothing.
use Prim.Native.Nat.{ℕ}
use mathlib.Core.Bool.{Bool, false, not, ◌&&◌}
use mathlib.Core.List.{List}
use mathlib.Core.Path.{◌≡◌}
use lib.Dec.{eqb}
use lib.Ieee.{Float}
use lib.ListN.{length}
use Rattle.alpha.specs.Weight as Weight
use Rattle.answer.specs.Lent.{Lent}
use Rattle.classification.specs.Entries.{sizes_of, decided}
use Rattle.classification.proofs.Plain.{plain_good, given_then}
use Rattle.judge.specs.Judge.{need, and_then, bytes_good, general_judged, retired_judged}
use Rattle.judge.proofs.Accepted.{floor_passed}
use Rattle.kernel.specs.declared.Kind.TheVariants.{TwoClass}
use Rattle.retired.specs.Entry.{stands_in, kept, fitted_over, retired_tuned_sized, retired_tuned, retired_of}
use Rattle.judge.specs.declared.Refusal.TheVariants.{Retired, RetiredShrinking}

pub retired_plain : (n : ℕ) (m l : List ℕ) (c a p : List Float) (r : List ℕ) (nurule : Bool) (eps : Float) (shrinking : Bool) (budget : ℕ) (d : Lent)
    → retired_of n m l c a p r nurule eps shrinking budget d
    ≡ decided (sizes_of n (eqb (length l) n && eqb (length c) n && eqb (length a) n && eqb (length p) n && eqb (length r) n) m d)
    (decided (and_then (and_then (general_judged n m l c a p eps budget) (need Retired (bytes_good r n))) (need RetiredShrinking (not shrinking)))
    (fitted_over (stands_in r) (given_then n TwoClass eps false nurule) m l c (kept r a n) (kept r p n) budget d) d) d
unfolding retired_tuned retired_tuned_sized retired_judged
retired_plain n m l c a p r nurule eps shrinking budget d = rw (floor_passed Weight.floor (general_judged n m l c a p eps budget) plain_good)
