-- The version of the library, as the file VERSION has it: its three parts, and the one number that tells them.
use Rattle.std.specs.Prelude.{ℕ, ◌+◌, ◌*◌}

unfoldable pub major : ℕ
major = 0

unfoldable pub minor : ℕ
minor = 3

unfoldable pub patch : ℕ
patch = 2

-- ten thousand times the first part, a hundred times the second, and the third
unfoldable pub version_number : ℕ
version_number = major * 10000 + minor * 100 + patch
