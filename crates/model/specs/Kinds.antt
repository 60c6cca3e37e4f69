-- The numbers of a row's kinds and of the modes.
use Rattle.std.specs.Prelude.{ℕ}
use Rattle.model.specs.declared.Kind.{Kind}
use Rattle.model.specs.declared.Kind.TheVariants.{Data, Marker}
use Rattle.model.specs.declared.Mode.{Mode}
use Rattle.model.specs.declared.Mode.TheVariants.{Governance, Compliance}
use Rattle.model.specs.Rows.{governance, compliance}

-- the number of a kind in a row
abbrev pub kind_number : Kind → ℕ
kind_number Data = 1
kind_number Marker = 2

-- the number of a mode in a row and in the settings
abbrev pub mode_number : Mode → ℕ
mode_number Governance = governance
mode_number Compliance = compliance
