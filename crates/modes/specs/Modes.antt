-- What the modes differ in (the rule, section 'Modes').
use Rattle.std.specs.Prelude.{Bool, true, false}
use Rattle.modes.specs.declared.Mode.{Mode}
use Rattle.modes.specs.declared.Mode.TheVariants.{Crate, Travelling}

-- whether a sample keeps its ceiling
unfoldable pub travels : Mode → Bool
travels Crate = false
travels Travelling = true

-- whether shrinking is the LIBSVM paper's: in neither
unfoldable pub repaired : Mode → Bool
repaired Crate = false
repaired Travelling = false
