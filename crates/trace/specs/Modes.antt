-- The same training in another mode (the rule, section 'Modes').
use Rattle.modes.specs.declared.Mode.{Mode}
use Rattle.solver.specs.declared.Given.{Given}

abbrev pub in_mode : Mode → Given → Given
in_mode mode g =
    record { n = g.n; side = g.side; kind = g.kind; mode = mode; floor = g.floor; eps = g.eps; shrinking = g.shrinking; nu = g.nu }
