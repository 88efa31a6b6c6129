use Prim.Native.Nat.{◌≤◌}
use mathlib.Core.Path.{◌≡◌}
use lib.ListN.{length}
use Rattle.hosted.specs.Hosted.{words_to}
use Rattle.hosted.proofs.put_words.Given as goal

abbrev pub invariant-loop-k : goal.invariant-loop-k
invariant-loop-k l = (l.k ≤ 9) × (length l.out ≡ length l.initial.out) × (l.out ≡ words_to l.w l.initial.out l.k)
