use Prim.Native.Nat.{◌≤◌}
use mathlib.Core.Bool.{true}
use mathlib.Core.Path.{◌≡◌}
use Rattle.orderless.specs.Run.{Course, course, goes_on}
use Rattle.orderless.specs.Sheet.{ceilings_of}
use Rattle.sheet.specs.Ready.{SheetReady, Diagonal, Fitting}
use Rattle.course.proofs.go_on.Given as goal

abbrev pub invariant-loop : goal.invariant-loop
invariant-loop l = (l.w.steps ≤ l.counter) × (◌≡◌ {A = Course} (course l.f l.w.steps l.w.going) (goes_on l.g l.m l.y (ceilings_of l.costs.pos l.costs.neg) (course l.initial.f 0 true) l.counter))
    × (SheetReady l.g l.m l.y l.f) × (Diagonal l.g l.m l.f) × (Fitting l.g l.f)
