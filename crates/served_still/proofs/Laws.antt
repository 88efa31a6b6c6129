-- The working room, and one result list handed out as both readings. Assumes nothing.
use Prim.Native.Nat.{ℕ}
use mathlib.Core.List.{List}
use mathlib.Core.Path.{◌≡◌}
use native.Mathlib.Omega.{arith}
use lib.Ieee.{Float}
use Rattle.answer.specs.Lent.{Lent, Whole}
use Rattle.hosted.specs.Hosted.{delivered_by, delivered}
use Rattle.judge.specs.Sizes.{Room}
use Rattle.still.specs.Entries.{StillLent, StillWhole, still_whole, StillRoom}
use Rattle.still.specs.Same.{Same}
use Rattle.std.specs.Prelude.{Result}
use Rattle.answer.specs.declared.Answer.{Answer}
use Rattle.judge.specs.declared.Refusal.{Refusal}

pub room_enough : (n m h f y : ℕ) → Room n m 512 512 3584 1024 512 → 512 ≡ h → 2560 ≡ f → 512 ≡ y → StillRoom n m h f y
room_enough n m h f y R eh ef ey =
    let o = R.most in
    record { some = R.some; most = R.most; matrix = R.matrix; result = omega (arith, o); floats = omega (arith, o); bytes = omega (arith, o) }

-- where an entry without an order table answers as the rule's beside it, from the same result lists
pub delivered_same : (n : ℕ) (d : Lent) (e : StillLent) (w : Whole) (v : StillWhole) → Same n d e w v → d.crate ≡ e.result → d.home ≡ e.result
    → (o : Result Answer Refusal) (r f : List Float) (y : List ℕ) → still_whole o r f y ≡ v
    → (cr h an : List ℕ) → delivered_by n o r r cr h an ≡ delivered n w cr h an
unfolding delivered
delivered_same n d e w v s ec eh o r f y q cr h an = rw (s.out, s.crates ec, s.lists eh, ← q)
