-- `desk::versions::version` meets its contract. Assumes nothing.
use mathlib.Core.Path.{refl}
use Rattle.desk.specs.Version.{major, minor, patch, version_number}
use Rattle.desk.proofs.versions.version.Goals as goal

pub returns : goal.returns
unfolding major minor patch version_number
returns c = refl
