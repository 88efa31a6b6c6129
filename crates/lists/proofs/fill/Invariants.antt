use Rattle.std.proofs.Common.{◌≡◌, ◌++◌, drop}
use Rattle.lists.specs.Filled.{filled_to}
use Rattle.lists.proofs.fill.Given as goal

abbrev pub invariant-loop-place : goal.invariant-loop-place
invariant-loop-place g l = l.place-items ++ drop l.n l.fn.d ≡ filled_to l.x l.fn.d l.place-index
