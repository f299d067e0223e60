-- The number of the archive's structs and calls, one more with every change of them: a header that says another is not this archive's.
use Rattle.std.specs.Prelude.{ℕ}

abbrev pub version : ℕ
version = 8
